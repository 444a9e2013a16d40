use Rattle.std.proofs.Common.{◌+◌, ◌≤◌, length}
use Rattle.g_blocks.proofs.Least.{AreFound}
use Rattle.g_blocks.proofs.free.put_least_free.Given as goal

abbrev pub invariant-loop-place : goal.invariant-loop-place
invariant-loop-place l = record {
  found : AreFound l.taken (l.low + l.place) l.blocks;
  short : length l.blocks ≤ l.n;
}
