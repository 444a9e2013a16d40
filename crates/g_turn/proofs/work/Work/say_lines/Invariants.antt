-- The rest of the lines returns what all of them return.
use Rattle.std.proofs.Common.{◌≡◌, length}
use Rattle.std.specs.Prelude.{map}
use Rattle.g_turn.specs.Outcomes.{say_all}
use Rattle.g_monitor.specs.Listing.{listed_lines, shown_line}
use Rattle.g_turn.proofs.work.Work.say_lines.Given as goal

abbrev pub invariant-loop-line : goal.invariant-loop-line
invariant-loop-line l = record {
  rest : say_all l.room (map shown_line l.lines) l.self ≡ say_all l.room (listed_lines l.bytes) l.fn.self;
  blocks : l.self.blocks ≡ l.fn.self.blocks;
}

abbrev pub decreases-loop-line : goal.decreases-loop-line
decreases-loop-line l = length l.lines
