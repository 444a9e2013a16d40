use Rattle.std.proofs.Common.{◌*◌}
use Rattle.std.proofs.lemmas.Result.{on_ok_weaker}
use Rattle.g_files.proofs.FrontLemmas.{fill_long}
use Rattle.g_files.proofs.GrowthLemmas.{appends_whole}
use Rattle.g_files.proofs.block_calls.fill.Goals as goal

pub returns-clause-last : goal.returns-clause-last
returns-clause-last g c =
    let content = g.F.RawFile.content in
    on_ok_weaker c.write_whole.result (λ both b is. (both b is).1)
    (fill_long (512 * c.args.k) c.args.block.now c.write_whole.result (content c.args.file.now) (content c.write_whole.new.file) c.told-block
    c.requires.whole (rw c.start_of.ensures at c.write_whole.ensures.written))

pub returns-clause-durability : goal.returns-clause-durability
returns-clause-durability g c =
    let durability = g.F.RawFile.durability in
    appends_whole c.args.k c.args.block.now (g.F.RawFile.content c.args.file.now) (durability c.args.file.now) (durability c.write_whole.new.file)
    c.write_whole.result c.told-block (rw c.start_of.ensures at c.write_whole.ensures.durability) (rw c.start_of.ensures at c.write_whole.ensures.syncable)
