use Rattle.g_laws_store.proofs.ReleaseLemmas.{one_block_is_none}
use Rattle.g_laws_store.proofs.releases_stay_up.Goals as goal

pub returns-clause-none : goal.returns-clause-none
returns-clause-none c = one_block_is_none
