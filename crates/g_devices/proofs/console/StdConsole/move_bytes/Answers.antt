use Rattle.std.proofs.Common.{rules, ◌≡◌, ◌<◌, false, eqb, length, slice_index_or}
use Rattle.g_devices.proofs.ConsoleLemmas.{one_more}
use Rattle.g_devices.proofs.console.StdConsole.move_bytes.Goals as goal

pub bytes-preserved-then-moved-into : goal.bytes-preserved-then-moved-into
bytes-preserved-then-moved-into g c =
    let room : c.bytes.moved.count < length c.bytes.into = search rules in
    let other : eqb (slice_index_or c.bytes.self.piece c.bytes.self.from 0) 10 ≡ false = search rules in
    let more = one_more c.bytes.into c.bytes.moved.count (slice_index_or c.bytes.self.piece c.bytes.self.from 0) room other c.bytes.invariant.one_line in record {
      within = more.0;
      one_line = more.1;
      faults = c.bytes.invariant.faults;
    }
