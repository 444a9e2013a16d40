-- The rest of the orders returns what all of them return, and no blocks were transferred.
use Rattle.std.proofs.Common.{◌≡◌, ◌-◌}
use Rattle.g_turn.specs.Runs.{goes_on}
use Rattle.g_turn.proofs.work.Work.go_on.Given as goal

abbrev pub invariant-loop-self : goal.invariant-loop-self
invariant-loop-self l = record {
  same : goes_on l.room l.self ≡ goes_on l.room l.fn.self;
  blocks : l.self.blocks ≡ l.fn.self.blocks;
}

abbrev pub decreases-loop-self : goal.decreases-loop-self
decreases-loop-self l = 64 - l.self.orders
