use Rattle.g_laws_store.proofs.OwnLemmas.{opening_is_step}
use Rattle.g_laws_store.proofs.opening_goes_by_step.Goals as goal

pub returns : goal.returns
returns c = opening_is_step
