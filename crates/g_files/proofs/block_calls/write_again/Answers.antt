use Rattle.std.proofs.Common.{◌*◌}
use Rattle.g_files.proofs.FrontLemmas.{same_rewritten}
use Rattle.g_files.proofs.GrowthLemmas.{rewrites_again}
use Rattle.g_files.proofs.block_calls.write_again.Goals as goal

pub returns : goal.returns
returns g c =
    let content = g.F.RawFile.content in
    let durability = g.F.RawFile.durability in record {
      same = same_rewritten (512 * c.args.k) c.args.block.now c.write_whole.result (content c.args.file.now) (content c.write_whole.new.file) c.requires.long
          c.requires.block (rw c.start_of.ensures at c.write_whole.ensures.written);
      durability = rewrites_again c.args.k c.args.block.now (content c.args.file.now) (durability c.args.file.now) (durability c.write_whole.new.file)
          c.write_whole.result c.told-block c.requires.block (rw c.start_of.ensures at c.write_whole.ensures.durability)
          (rw c.start_of.ensures at c.write_whole.ensures.syncable);
    }
