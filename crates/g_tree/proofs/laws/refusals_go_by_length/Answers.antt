-- No fault reads a byte.
use Rattle.g_tree.proofs.FaultLemmas.{fault_same}
use Rattle.g_tree.proofs.laws.refusals_go_by_length.Goals as goal

pub returns : goal.returns
returns c = λ users files bytes other next who call is lengths others. fault_same users files bytes other next is lengths others who call
