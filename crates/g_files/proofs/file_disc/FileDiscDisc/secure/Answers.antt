use Rattle.std.proofs.Common.{refl, sym, ◌∙◌, arith}
use Rattle.g_files.specs.Image.{durability_seen, seen}
use Rattle.g_files.proofs.CallLemmas.{on_ok_at}
use Rattle.g_files.proofs.DiscLemmas.{same_blocks}
use Rattle.g_files.proofs.DurableBlocksLemmas.{gate_durable, keeps_durable, keeps_syncable}
use Rattle.g_files.proofs.file_disc.FileDiscDisc.secure.Goals as goal

pub returns-then-is_err : goal.returns-then-is_err
returns-then-is_err g c =
    let i = c.args.self.now.image in
    let new = c.secure.new.self in
    let e = c.secure.ensures in record {
      held = same_blocks new.size i.size (seen new) (seen i) e.size e.same;
      size = e.size;
      write_faults = refl;
      writes = refl;
      fuse = refl;
      arms = refl;
      durable = keeps_durable i.size new.size (durability_seen i) (durability_seen new) c.secure.result e.size e.durability;
      syncable = tt;
      gate = tt;
      kept = tt;
      rose = record { more = rw c.raised-self.ensures (omega arith) };
    }

pub returns : goal.returns
returns g c =
    let i = c.args.self.now.image in
    let new = c.secure.new.self in
    let e = c.secure.ensures in
    let ok = sym c.is_err.ensures.value ∙ c.if-is_err.false in record {
      held = same_blocks new.size i.size (seen new) (seen i) e.size e.same;
      size = e.size;
      write_faults = refl;
      writes = refl;
      fuse = refl;
      arms = refl;
      durable = keeps_durable i.size new.size (durability_seen i) (durability_seen new) c.secure.result e.size e.durability;
      syncable = on_ok_at c.secure.result ok (keeps_syncable i.size new.size (durability_seen i) (durability_seen new) c.secure.result e.size
          e.durability.kept);
      gate = on_ok_at c.secure.result ok (gate_durable new.size (durability_seen new) c.secure.result e.gate);
      kept = refl;
      rose = tt;
    }
