use Rattle.std.proofs.Common.{ℕ, ◌*◌, List, length, ap, sym, ◌∙◌, arith}
use Rattle.g_files.specs.Image.{durability_of, file_of, seen}
use Rattle.g_base.specs.declared.fault.WriteFailed.{WriteFailed}
use Rattle.g_files.proofs.CallLemmas.{fails_same, on_ok_at}
use Rattle.g_files.proofs.DurabilityLemmas.{after_keeps, failed_keeps, keeps_then, written_block}
use Rattle.g_files.proofs.image.Image.write.Goals as goal

pub returns-then-is_err-clause-written : goal.returns-then-is_err-clause-written
returns-then-is_err-clause-written g c = let e : WriteFailed = record {} in fails_same (512 * c.args.k) c.args.block.now e (seen c.args.self.now)
    (seen c.secure.new.self) c.secure.ensures.same

pub returns-then-is_err-2-clause-written : goal.returns-then-is_err-2-clause-written
returns-then-is_err-2-clause-written g c = let e : WriteFailed = record {} in fails_same (512 * c.args.k) c.args.block.now e (seen c.args.self.now)
    (seen c.restart.new.self) (c.restart.ensures.same ∙ c.secure.ensures.same)

pub returns-then-is_err-clause-durability : goal.returns-then-is_err-clause-durability
returns-then-is_err-clause-durability g c =
    let e : WriteFailed = record {} in
    failed_keeps c.args.k c.args.block.now (seen c.args.self.now) (seen c.secure.new.self) e c.secure.ensures.same c.secure.ensures.durability

pub returns-then-is_next-clause-durability : goal.returns-then-is_next-clause-durability
returns-then-is_next-clause-durability g c =
    after_keeps c.secure.result c.buffer.result c.args.k c.args.block.now (seen c.args.self.now) (seen c.secure.new.self) (seen c.buffer.new.self)
    (sym c.is_err.ensures.value ∙ c.if-is_err.false) c.secure.ensures.durability c.secure.ensures.same c.buffer.ensures.durability

pub returns-then-is_err-2-clause-durability : goal.returns-then-is_err-2-clause-durability
returns-then-is_err-2-clause-durability g c =
    let e : WriteFailed = record {} in
    failed_keeps c.args.k c.args.block.now (seen c.args.self.now) (seen c.restart.new.self) e (c.restart.ensures.same ∙ c.secure.ensures.same)
    (keeps_then c.secure.result c.restart.result (sym c.is_err.ensures.value ∙ c.if-is_err.false) c.secure.ensures.durability c.restart.ensures.durability)

pub returns-clause-durability : goal.returns-clause-durability
returns-clause-durability g c =
    let mid = c.restart.new.self in
    let new = c.write_at.new.self in
    let ok = sym c.is_err-2.ensures.value ∙ c.if-is_err-2.false in
    let none = ap (λ (xs : List ℕ). length xs) (on_ok_at c.restart.result ok c.restart.ensures.empty) in
    let none' = ap (λ (xs : List ℕ). length xs) c.write_at.ensures.empty in
    after_keeps c.secure.result c.write_at.result c.args.k c.args.block.now (seen c.args.self.now) (seen c.secure.new.self) (seen new)
    (sym c.is_err.ensures.value ∙ c.if-is_err.false) c.secure.ensures.durability c.secure.ensures.same
    (after_keeps c.restart.result c.write_at.result c.args.k c.args.block.now (seen c.secure.new.self) (seen mid) (seen new) ok c.restart.ensures.durability
    c.restart.ensures.same (written_block mid.buffered.at (length mid.buffered.bytes) new.buffered.at (length new.buffered.bytes) c.args.k c.args.block.now
    (file_of mid) (seen mid) (seen new) (durability_of mid) (durability_of new) c.write_at.result none none' (omega (arith, c.told-block)) (omega arith)
    c.write_at.ensures.durability c.write_at.ensures.syncable))
