use Rattle.g_job.proofs.EndLemmas.{end_charged, end_comes, end_free, end_spends}
use Rattle.g_job.proofs.laws.turns_come_to_one_end.Goals as goal

pub returns : goal.returns
returns c = record { free = end_free; charged = end_charged; comes = end_comes; spends = end_spends }
