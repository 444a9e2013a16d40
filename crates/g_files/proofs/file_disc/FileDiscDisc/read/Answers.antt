use Rattle.std.proofs.Common.{sym, refl, ◌∙◌}
use Rattle.g_files.specs.Image.{durability_seen, seen}
use Rattle.g_files.proofs.CallLemmas.{on_ok_at}
use Rattle.g_files.proofs.DiscLemmas.{block_read, same_blocks}
use Rattle.g_files.proofs.DurableBlocksLemmas.{same_dropped, same_volatile}
use Rattle.g_files.proofs.file_disc.FileDiscDisc.read.Goals as goal

pub returns : goal.returns
returns g c =
    let i = c.args.self.now.image in
    let new = c.read.new.self in record {
      held = same_blocks new.size i.size (seen new) (seen i) c.read.ensures.size c.read.ensures.same;
      size = c.read.ensures.size;
      write_faults = refl;
      writes = refl;
      fuse = refl;
      arms = refl;
      volatile = same_volatile new.size i.size (durability_seen new) (durability_seen i) c.read.ensures.size c.read.ensures.as_durable;
      dropped = same_dropped new.size i.size (durability_seen new) (durability_seen i) c.read.ensures.size c.read.ensures.as_durable;
      block = block_read i.size c.args.k c.read.new.into (seen i) c.requires
          (on_ok_at c.read.result (sym c.is_err.ensures.value ∙ c.if-is_err.false) c.read.ensures.block);
      kept = refl;
      rose = tt;
    }
