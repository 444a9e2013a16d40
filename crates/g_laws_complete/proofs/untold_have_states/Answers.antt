use Rattle.g_laws_complete.proofs.UntoldLemmas.{real_have, untold_have}
use Rattle.g_laws_complete.proofs.untold_have_states.Goals as goal

pub returns-clause-some : goal.returns-clause-some
returns-clause-some c = untold_have

pub returns-clause-real : goal.returns-clause-real
returns-clause-real c = real_have
