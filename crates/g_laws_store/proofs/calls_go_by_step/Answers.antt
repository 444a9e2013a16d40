use Rattle.g_laws_store.proofs.CallLemmas as lemmas
use Rattle.g_laws_store.proofs.calls_go_by_step.Goals as goal

pub returns : goal.returns
returns c = lemmas.calls_go_by_step
