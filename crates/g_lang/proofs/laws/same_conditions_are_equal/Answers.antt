use Rattle.g_lang.proofs.SameLemmas.{cond-same}
use Rattle.g_lang.proofs.laws.same_conditions_are_equal.Goals as goal

pub returns : goal.returns
returns c = cond-same
