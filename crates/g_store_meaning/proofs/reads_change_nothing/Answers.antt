use Rattle.g_store_meaning.proofs.ViewLemmas.{reads_belong, reads_keep_state}
use Rattle.g_store_meaning.proofs.reads_change_nothing.Goals as goal

pub returns-clause-belong : goal.returns-clause-belong
returns-clause-belong c = reads_belong

pub returns-clause-state : goal.returns-clause-state
returns-clause-state c = reads_keep_state
