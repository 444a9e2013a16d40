use Rattle.g_disc_contents.proofs.CommitLemmas.{commit_holds}
use Rattle.g_disc_contents.proofs.writes_hold.Goals as goal

pub returns-clause-commit : goal.returns-clause-commit
returns-clause-commit c = commit_holds
