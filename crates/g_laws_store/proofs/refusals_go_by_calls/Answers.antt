use Rattle.g_laws_store.proofs.RefusalLemmas.{refusals_of_calls}
use Rattle.g_laws_store.proofs.refusals_go_by_calls.Goals as goal

pub returns : goal.returns
returns c = refusals_of_calls
