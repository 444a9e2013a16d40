use Rattle.std.proofs.Common.{◌≡◌, ◌≤◌, length, reverse, take}
use Rattle.g_macro.specs.Levels.{live}
use Rattle.g_macro.proofs.levels.live_levels.Given as goal

abbrev pub invariant-loop-live : goal.invariant-loop-live
invariant-loop-live l = record {
  within : l.live ≤ length l.all;
  same : live l.held (reverse l.all) ≡ live l.held (reverse (take l.live l.all));
}

abbrev pub decreases-loop-live : goal.decreases-loop-live
decreases-loop-live l = l.live
