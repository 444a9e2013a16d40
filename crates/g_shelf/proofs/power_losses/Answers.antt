use Rattle.g_shelf.proofs.SurvivingLemmas.{all_but_the_mark, begun_completes_nothing}
use Rattle.g_shelf.proofs.power_losses.Goals as goal

pub returns-clause-begun : goal.returns-clause-begun
returns-clause-begun c = begun_completes_nothing

pub returns-clause-mark : goal.returns-clause-mark
returns-clause-mark c = all_but_the_mark
