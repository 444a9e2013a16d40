use Rattle.std.proofs.Common.{ℕ, ◌*◌, ◌≤◌, List, length}
use Rattle.g_files.proofs.FrontLemmas.{changes_to, once_keeps}
use Rattle.g_files.proofs.GrowthLemmas.{appends_not, appends_once, false_true}
use Rattle.g_files.proofs.block_calls.put_once.Goals as goal

pub returns-in-Ok-clause-front : goal.returns-in-Ok-clause-front
returns-in-Ok-clause-front g c =
    let content = g.F.RawFile.content in
    let n = 512 * c.args.k in
    changes_to (λ (b : List ℕ). n ≤ length b) (content c.args.file.now) (content c.write_at.new.self) c.requires.long
    (λ b a long is. once_keeps n c.args.block.now c.write_at.result b a long is) (rw c.start_of.ensures at c.write_at.ensures.written)

pub returns-in-Err-clause-front : goal.returns-in-Err-clause-front
returns-in-Err-clause-front g c =
    let content = g.F.RawFile.content in
    let n = 512 * c.args.k in
    changes_to (λ (b : List ℕ). n ≤ length b) (content c.args.file.now) (content c.write_at.new.self) c.requires.long
    (λ b a long is. once_keeps n c.args.block.now c.write_at.result b a long is) (rw c.start_of.ensures at c.write_at.ensures.written)

pub returns-in-Ok-clause-durability : goal.returns-in-Ok-clause-durability
returns-in-Ok-clause-durability g c =
    let durability = g.F.RawFile.durability in
    appends_once c.args.k c.in-Ok.count c.args.block.now (g.F.RawFile.content c.args.file.now) (durability c.args.file.now) (durability c.write_at.new.self)
    c.told-block (rw c.start_of.ensures at c.in-Ok.ensures.durability) (rw c.start_of.ensures at c.in-Ok.ensures.syncable)

pub returns-in-Err-clause-durability : goal.returns-in-Err-clause-durability
returns-in-Err-clause-durability g c =
    let durability = g.F.RawFile.durability in
    appends_not c.args.k c.args.block.now (g.F.RawFile.content c.args.file.now) (durability c.args.file.now) (durability c.write_at.new.self) c.write_at.result _
    false_true c.told-block (rw c.start_of.ensures at c.write_at.ensures.durability)
