use Rattle.std.proofs.Common.{◌≡◌, ◌≤◌, length, reverse, take}
use Rattle.g_macro.specs.Levels.{fired}
use Rattle.g_macro.proofs.levels.firing.Given as goal

abbrev pub invariant-loop-depth : goal.invariant-loop-depth
invariant-loop-depth l = record {
  within : l.depth ≤ length l.all;
  same : fired l.outcome (reverse l.all) ≡ fired l.outcome (reverse (take l.depth l.all));
}

abbrev pub decreases-loop-depth : goal.decreases-loop-depth
decreases-loop-depth l = l.depth
