use Rattle.std.proofs.Common.{◌*◌, arith, inl, inr, sym, ◌∙◌}
use Rattle.std.proofs.lemmas.Bool.{cases_eq}
use Rattle.g_base.specs.declared.fault.WriteFailed.{WriteFailed}
use Rattle.g_files.proofs.CallLemmas.{changes_before, changes_behind, fails_mixed}
use Rattle.g_files.proofs.DurabilityLemmas.{gate_beside}
use Rattle.g_files.proofs.WholeLemmas.{writes_err, writes_ok}
use Rattle.g_files.proofs.ImageLemmas.{seen_none, still_bytes, still_sized, still_fresh}
use Rattle.g_files.proofs.image.Image.write_at.Goals as goal

pub invariant_of-self-clause-sized : goal.invariant_of-self-clause-sized
invariant_of-self-clause-sized g c =
    let i = c.args.self.now in
    still_sized (512 * c.args.k) (512 * i.size) c.args.bytes.now c.write_whole.result (g.F.RawFile.content i.file)
    (g.F.RawFile.content c.write_whole.new.file) i.sized (omega arith) (rw c.from.ensures at c.write_whole.ensures.written)

pub invariant_of-self-clause-bytes : goal.invariant_of-self-clause-bytes
invariant_of-self-clause-bytes g c =
    let i = c.args.self.now in
    still_bytes (512 * c.args.k) (512 * i.size) c.args.bytes.now c.write_whole.result (g.F.RawFile.content i.file)
    (g.F.RawFile.content c.write_whole.new.file) i.sized i.bytes (omega arith) c.requires.bytes
    (rw c.from.ensures at c.write_whole.ensures.written)

pub invariant_of-self-clause-fresh : goal.invariant_of-self-clause-fresh
invariant_of-self-clause-fresh g c =
    let i = c.args.self.now in
    rw c.truncate.ensures (still_fresh (512 * c.args.k) (512 * i.size) i.ahead.at c.args.bytes.now i.ahead.bytes c.write_whole.result
    (g.F.RawFile.content i.file) (g.F.RawFile.content c.write_whole.new.file) i.sized (omega arith) i.fresh
    (rw c.from.ensures at c.write_whole.ensures.written))

pub returns-then-is_err-clause-written : goal.returns-then-is_err-clause-written
returns-then-is_err-clause-written g c =
    let i = c.args.self.now in
    let e : WriteFailed = record {} in
    changes_before (seen_none i.buffered.at i.buffered.bytes (g.F.RawFile.content c.write_whole.new.file) c.requires.empty)
    (changes_behind (sym (seen_none i.buffered.at i.buffered.bytes (g.F.RawFile.content i.file) c.requires.empty))
    (fails_mixed (512 * c.args.k) c.args.bytes.now c.write_whole.result e (g.F.RawFile.content i.file) (g.F.RawFile.content c.write_whole.new.file)
    (rw c.from.ensures at c.write_whole.ensures.written)))

pub invariant_of-self-clause-gate : goal.invariant_of-self-clause-gate
invariant_of-self-clause-gate g c =
    let i = c.args.self.now in
    λ is. elim (cases_eq c.args.k 0) [
      | inl zero ↦ absurd (let no = c.requires.unsettled zero in cc)
      | inr other ↦ gate_beside c.args.k c.args.bytes.now (g.F.RawFile.content i.file) (g.F.RawFile.durability i.file)
          (g.F.RawFile.durability c.write_whole.new.file) c.write_whole.result (omega (arith, other)) c.requires.few
          (rw c.from.ensures at c.write_whole.ensures.durability) (i.gate is)
    ]

pub returns-then-is_err-clause-durability : goal.returns-then-is_err-clause-durability
returns-then-is_err-clause-durability g c =
    let e : WriteFailed = record {} in writes_err c.write_whole.result e (rw c.from.ensures at c.write_whole.ensures.durability)

pub returns-clause-durability : goal.returns-clause-durability
returns-clause-durability g c =
    writes_ok c.write_whole.result (sym c.is_err.ensures.value ∙ c.if-is_err.false) (rw c.from.ensures at c.write_whole.ensures.durability)
