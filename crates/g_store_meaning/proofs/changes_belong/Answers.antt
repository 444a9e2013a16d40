use Rattle.g_store_meaning.proofs.BelongLemmas.{new_version_belongs}
use Rattle.g_store_meaning.proofs.ChangeLemmas.{closing_belongs, restore_belongs}
use Rattle.g_store_meaning.proofs.changes_belong.Goals as goal

pub returns-clause-version : goal.returns-clause-version
returns-clause-version c = new_version_belongs

pub returns-clause-closing : goal.returns-clause-closing
returns-clause-closing c = closing_belongs

pub returns-clause-restore : goal.returns-clause-restore
returns-clause-restore c = restore_belongs
