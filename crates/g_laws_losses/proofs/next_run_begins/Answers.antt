use Rattle.g_laws_losses.proofs.NextLemmas.{next_run_begins}
use Rattle.g_laws_losses.proofs.next_run_begins.Goals as goal

pub returns : goal.returns
returns g c = λ tariff rule. next_run_begins g.F.Fn tariff g.U.Fn rule
