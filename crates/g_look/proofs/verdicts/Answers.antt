use Rattle.g_look.proofs.VerdictLemmas.{rack_has_none}
use Rattle.g_look.proofs.verdicts.Goals as goal

pub returns-clause-rack : goal.returns-clause-rack
returns-clause-rack c = rack_has_none
