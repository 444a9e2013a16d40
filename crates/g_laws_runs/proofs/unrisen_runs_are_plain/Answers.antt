use Rattle.g_laws_runs.proofs.UnrisenLemmas.{unrisen_is_plain}
use Rattle.g_laws_runs.proofs.unrisen_runs_are_plain.Goals as goal

pub returns : goal.returns
returns c = unrisen_is_plain
