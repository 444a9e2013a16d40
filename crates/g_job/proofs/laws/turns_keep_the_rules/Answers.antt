use Rattle.g_job.proofs.KeepLemmas.{rules_kept}
use Rattle.g_job.proofs.laws.turns_keep_the_rules.Goals as goal

pub returns : goal.returns
returns c = rules_kept
