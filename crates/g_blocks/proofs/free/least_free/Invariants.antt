use Rattle.std.proofs.Common.{◌+◌, ◌≤◌, length}
use Rattle.g_blocks.proofs.Least.{AreFound}
use Rattle.g_blocks.proofs.free.least_free.Given as goal

abbrev pub invariant-loop-place : goal.invariant-loop-place
invariant-loop-place l = record {
  found : AreFound l.taken (l.low + l.place) l.blocks.items;
  short : length l.blocks.items ≤ l.n;
}
