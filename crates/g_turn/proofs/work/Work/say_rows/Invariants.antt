-- The rest of the files returns what all of them return.
use Rattle.std.proofs.Common.{◌≡◌, drop}
use Rattle.std.specs.Prelude.{map}
use Rattle.g_turn.specs.Outcomes.{say_all}
use Rattle.g_monitor.specs.Listing.{row_line}
use Rattle.g_turn.proofs.work.Work.say_rows.Given as goal

abbrev pub invariant-loop-row : goal.invariant-loop-row
invariant-loop-row l = record {
  rest : say_all l.room (map row_line (drop l.row-index l.rows)) l.self ≡ say_all l.room (map row_line l.rows) l.fn.self;
  blocks : l.self.blocks ≡ l.fn.self.blocks;
}
