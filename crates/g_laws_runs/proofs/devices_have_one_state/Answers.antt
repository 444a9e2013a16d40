use Rattle.g_laws_runs.proofs.FreshLemmas.{emptied_stand, new_devices_stand, not_stateless}
use Rattle.g_laws_runs.proofs.LaterLemmas.{states_are_one}
use Rattle.g_run_model.proofs.StandLemmas.{read_as, stands_as}
use Rattle.g_laws_runs.proofs.devices_have_one_state.Goals as goal

pub returns-clause-some : goal.returns-clause-some
returns-clause-some c = not_stateless c.some_state.ensures

pub returns-clause-one : goal.returns-clause-one
returns-clause-one c = states_are_one c.one_state.ensures.devices

pub returns-clause-reading : goal.returns-clause-reading
returns-clause-reading c = λ d s. (read_as d s, stands_as d s)

pub returns-clause-new : goal.returns-clause-new
returns-clause-new c = new_devices_stand c.some_state.ensures

pub returns-clause-emptied : goal.returns-clause-emptied
returns-clause-emptied c = emptied_stand c.some_state.ensures
