use Rattle.g_duplex.proofs.LossLemmas as lemmas
use Rattle.g_duplex.proofs.laws.a_lost_twin_is_not_seen.Goals as goal

pub returns-clause-one : goal.returns-clause-one
returns-clause-one c = lemmas.loss_is_not_seen

pub returns-clause-all : goal.returns-clause-all
returns-clause-all c = lemmas.losses_are_not_seen
