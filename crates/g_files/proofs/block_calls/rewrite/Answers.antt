use Rattle.std.proofs.Common.{sym, ◌∙◌, arith}
use Rattle.g_files.proofs.block_calls.rewrite.Goals as goal

pub rewrite_block-requires : goal.rewrite_block-requires
rewrite_block-requires g c = record {
  long = λ b is. let long = c.requires.long b (sym c.loop-k.invariant.same ∙ is) in omega (arith, long, c.loop-k-test.true);
}
