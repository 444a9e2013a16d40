use Rattle.g_laws_days.proofs.InvocationLemmas.{invocations_lead}
use Rattle.g_laws_days.proofs.invocations_lead.Goals as goal

pub returns : goal.returns
returns g c tariff rule = invocations_lead g.F.Fn tariff g.U.Fn rule c.devices_have_one_state.ensures.new
