use Rattle.g_disc_contents.proofs.SurvivalLemmas as survival
use Rattle.g_disc_contents.proofs.contents_survive.Goals as goal

pub returns-clause-contents : goal.returns-clause-contents
returns-clause-contents c = survival.contents_survive

pub returns-clause-commit : goal.returns-clause-commit
returns-clause-commit c = survival.commit_survives
