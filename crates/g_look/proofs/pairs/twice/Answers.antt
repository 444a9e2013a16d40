use Rattle.std.proofs.Common.{arith}
use Rattle.g_look.proofs.PairLemmas.{all_apart}
use Rattle.g_look.proofs.pairs.twice.Goals as goal

pub returns-clause-none : goal.returns-clause-none
returns-clause-none c = all_apart _ c.requires _ (omega arith) c.loop-i.invariant
