use Rattle.g_cache.proofs.AbsentLemmas.{none_noted}
use Rattle.g_cache.proofs.absent.AbsentBlocks.new.Goals as goal

pub returns : goal.returns
returns c = λ k. none_noted 67 k
