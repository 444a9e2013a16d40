use Rattle.g_job.proofs.TurnBounds.{turn_within}
use Rattle.g_job.proofs.laws.turns_keep_their_limits.Goals as goal

pub returns : goal.returns
returns c = turn_within
