use Rattle.g_laws_losses.proofs.DownLemmas.{down_answers_nothing}
use Rattle.g_laws_losses.proofs.down_answers_nothing.Goals as goal

pub returns : goal.returns
returns g c = λ tariff rule. down_answers_nothing g.F.Fn tariff g.U.Fn rule c.process_keeps_all.ensures
