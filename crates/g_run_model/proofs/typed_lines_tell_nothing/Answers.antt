use Rattle.g_run_model.proofs.TypeLemmas.{types_tell_nothing}
use Rattle.g_run_model.proofs.typed_lines_tell_nothing.Goals as goal

pub returns : goal.returns
returns g c tariff rule = types_tell_nothing g.F.Fn tariff g.U.Fn rule
