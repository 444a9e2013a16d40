use Rattle.std.proofs.Common.{◌≡◌, ◌-◌, ◌*◌, length, Ok, Err, arith, length-take, sym, ◌∙◌}
use Rattle.g_base.specs.declared.fault.WriteFailed.{WriteFailed}
use Rattle.g_files.proofs.DurabilityLemmas.{flush_fails, flushed, gate_stays}
use Rattle.g_files.proofs.FaultLemmas.{fails_so}
use Rattle.g_files.proofs.ImageLemmas.{seen_over, still_bytes}
use Rattle.g_files.proofs.image.Image.flush.Goals as goal

pub invariant_of-self-then-is_err-clause-gate : goal.invariant_of-self-then-is_err-clause-gate
invariant_of-self-then-is_err-clause-gate g c =
    let i = c.args.self.now in
    λ is. gate_stays i.buffered.at i.buffered.bytes (g.F.RawFile.content i.file) (g.F.RawFile.durability i.file)
    (g.F.RawFile.durability c.write_whole.new.file) c.write_whole.result i.apart
    (rw (c.bytes.ensures.value, c.at.ensures.value) at c.write_whole.ensures.durability) (i.gate is)

pub returns-then-is_err-clause-same : goal.returns-then-is_err-clause-same
returns-then-is_err-clause-same g c =
    let i = c.args.self.now in
    let told = rw (c.bytes.ensures.value, c.at.ensures.value) at c.write_whole.ensures.written in
    seen_over i.buffered.at (512 * i.size) i.buffered.bytes c.write_whole.result (g.F.RawFile.content i.file)
    (g.F.RawFile.content c.write_whole.new.file) i.sized i.within told

pub returns-then-is_err-clause-durability : goal.returns-then-is_err-clause-durability
returns-then-is_err-clause-durability g c =
    let i = c.args.self.now in
    let e : WriteFailed = record {} in
    flush_fails i.buffered.at i.buffered.bytes (g.F.RawFile.content i.file) (g.F.RawFile.durability i.file)
    (g.F.RawFile.durability c.write_whole.new.file) c.write_whole.result e
    (rw (c.bytes.ensures.value, c.at.ensures.value) at c.write_whole.ensures.durability)

pub invariant_of-self-2-clause-gate : goal.invariant_of-self-2-clause-gate
invariant_of-self-2-clause-gate g c =
    let i = c.args.self.now in
    λ is. gate_stays i.buffered.at i.buffered.bytes (g.F.RawFile.content i.file) (g.F.RawFile.durability i.file)
    (g.F.RawFile.durability c.write_whole.new.file) c.write_whole.result i.apart
    (rw (c.bytes.ensures.value, c.at.ensures.value) at c.write_whole.ensures.durability) (i.gate is)

pub returns-clause-durability : goal.returns-clause-durability
returns-clause-durability g c =
    let i = c.args.self.now in
    let w = c.truncate-2.new.self in
    let none : length w.bytes ≡ 0 = rw c.truncate-2.ensures (omega (arith, length-take (512 * 0 - i.buffered.at) i.buffered.bytes)) in
    flushed i.buffered.at w.at (length w.bytes) i.buffered.bytes (g.F.RawFile.content i.file) (g.F.RawFile.durability i.file)
    (g.F.RawFile.durability c.write_whole.new.file) c.write_whole.result (sym c.is_err.ensures.value ∙ c.if-is_err.false) none
    (rw (c.bytes.ensures.value, c.at.ensures.value) at c.write_whole.ensures.durability)
    (rw (c.bytes.ensures.value, c.at.ensures.value) at c.write_whole.ensures.syncable)

pub invariant_of-self-then-is_err-clause-bytes : goal.invariant_of-self-then-is_err-clause-bytes
invariant_of-self-then-is_err-clause-bytes g c =
    let i = c.args.self.now in
    still_bytes i.buffered.at (512 * i.size) i.buffered.bytes c.write_whole.result (g.F.RawFile.content i.file)
    (g.F.RawFile.content c.write_whole.new.file) i.sized i.bytes i.within i.buffered_bytes
    (rw (c.bytes.ensures.value, c.at.ensures.value) at c.write_whole.ensures.written)

pub invariant_of-self-2-clause-bytes : goal.invariant_of-self-2-clause-bytes
invariant_of-self-2-clause-bytes g c =
    let i = c.args.self.now in
    still_bytes i.buffered.at (512 * i.size) i.buffered.bytes c.write_whole.result (g.F.RawFile.content i.file)
    (g.F.RawFile.content c.write_whole.new.file) i.sized i.bytes i.within i.buffered_bytes
    (rw (c.bytes.ensures.value, c.at.ensures.value) at c.write_whole.ensures.written)

pub returns-then-is_err-clause-cause : goal.returns-then-is_err-clause-cause
returns-then-is_err-clause-cause g c =
    fails_so c.write_whole.result (Err _) _ _ (sym c.is_err.ensures.value ∙ c.if-is_err.true) c.write_whole.ensures.cause

pub returns-clause-cause : goal.returns-clause-cause
returns-clause-cause g c = fails_so c.write_whole.result (Ok tt) _ _ (sym c.is_err.ensures.value ∙ c.if-is_err.false) c.write_whole.ensures.cause
