use Rattle.g_laws_store.proofs.UnjamLemmas as lemmas
use Rattle.g_laws_store.proofs.unjamming_goes_by_plan.Goals as goal

pub returns : goal.returns
returns c = lemmas.unjam_is
