use Rattle.g_job.proofs.CauseLemmas.{turn_cause, turn_one}
use Rattle.g_job.proofs.TurnBounds.{turn_honest}
use Rattle.g_job.proofs.laws.turns_say_why_they_are_over.Goals as goal

pub returns : goal.returns
returns g c = record { once = turn_honest; cause = turn_cause g.S.Filestore.answers; one = turn_one g.S.Filestore.answers }
