use Rattle.std.proofs.Common.{◌≡◌}
use Rattle.g_files.specs.Growth.{Rewrites}
use Rattle.g_files.proofs.block_calls.rewrite.Given as goal

abbrev pub invariant-loop-k : goal.invariant-loop-k
invariant-loop-k g l = record {
  same : g.F.RawFile.content l.file ≡ g.F.RawFile.content l.fn.file;
  durability : Rewrites l.from l.k (g.F.RawFile.durability l.fn.file) (g.F.RawFile.durability l.file) (Unit {0});
}
