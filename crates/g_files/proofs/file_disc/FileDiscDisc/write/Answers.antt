use Rattle.std.proofs.Common.{refl, sym, ◌∙◌, arith}
use Rattle.g_files.specs.Image.{durability_seen, seen}
use Rattle.g_files.proofs.CallLemmas.{on_err_at, on_ok_at}
use Rattle.g_files.proofs.DurableBlocksLemmas.{keeps_syncable, write_durable, write_gate, write_gate_failed, write_here}
use Rattle.g_files.proofs.file_disc.FileDiscDisc.write.Goals as goal

pub returns-then-is_err : goal.returns-then-is_err
returns-then-is_err g c =
    let i = c.args.self.now.image in
    let new = c.write_block.new.image in
    let e = c.write_block.ensures in
    let err = sym c.is_err.ensures.value ∙ c.if-is_err.true in record {
      size = e.size;
      read_faults = refl;
      writes = c.raised-self.ensures;
      fuse = c.burn-fires.ensures.left;
      arms = refl;
      fired = λ is. tt;
      block = tt;
      kept = tt;
      torn = on_err_at c.write_block.result err e.torn;
      rose = record { more = rw c.raised-self-then-is_err.ensures (omega arith) };
      durable = write_durable i.size new.size c.args.k c.args.from.now (seen i) (seen new) (durability_seen i) (durability_seen new) c.write_block.result e.size
          e.durability;
      syncable = tt;
      here = tt;
      gate = λ is. tt;
      gate_failed = λ is. on_err_at c.write_block.result err (write_gate_failed i.size new.size c.args.k c.args.from.now (seen i) (seen new)
          (durability_seen i) (durability_seen new) c.write_block.result (omega arith) e.size e.durability is);
    }

pub returns : goal.returns
returns g c =
    let i = c.args.self.now.image in
    let new = c.write_block.new.image in
    let e = c.write_block.ensures in
    let ok = sym c.is_err.ensures.value ∙ c.if-is_err.false in record {
      size = e.size;
      read_faults = refl;
      writes = c.raised-self.ensures;
      fuse = c.burn-fires.ensures.left;
      arms = refl;
      fired = λ is. on_ok_at c.write_block.result ok (e.fired (c.burn-fires.ensures.fires.1 is));
      block = on_ok_at c.write_block.result ok e.block;
      kept = refl;
      torn = tt;
      rose = tt;
      durable = write_durable i.size new.size c.args.k c.args.from.now (seen i) (seen new) (durability_seen i) (durability_seen new) c.write_block.result e.size
          e.durability;
      syncable = on_ok_at c.write_block.result ok (keeps_syncable i.size new.size (durability_seen i) (durability_seen new) c.write_block.result e.size
          e.durability.kept);
      here = on_ok_at c.write_block.result ok (write_here new.size c.args.k c.args.from.now (seen i) (seen new) (durability_seen i) (durability_seen new)
          c.write_block.result c.told-from e.durability);
      gate = λ is. on_ok_at c.write_block.result ok (write_gate i.size new.size c.args.k c.args.from.now (seen i) (seen new) (durability_seen i)
          (durability_seen new) c.write_block.result e.size e.durability is);
      gate_failed = λ is. tt;
    }
