use Rattle.std.proofs.Common.{arith}
use Rattle.g_files.proofs.BlockRiskLemmas.{synced}
use Rattle.g_files.proofs.block_file.is_synced.Goals as goal

pub returns : goal.returns
returns c = synced c.args.k c.args.block.now c.is_bracket.result (λ first. let other = c.if-k-eq0.false in omega (arith, first, other)) c.is_bracket.ensures
