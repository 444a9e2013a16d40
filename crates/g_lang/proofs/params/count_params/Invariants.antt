use Rattle.g_lang.proofs.ParamLemmas.{Counted}
use Rattle.g_lang.proofs.params.count_params.Given as goal

abbrev pub invariant-loop-count : goal.invariant-loop-count
invariant-loop-count l = Counted l.text l.count l.left
