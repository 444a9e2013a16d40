use Rattle.g_incr.proofs.ListLemmas.{at_none, at_some}
use Rattle.g_seal.proofs.RottenLemmas.{state_gone, state_there}
use Rattle.g_seal.proofs.reel_state.reel_state.Goals as goal

pub returns-in-Ok-Some-clause-state : goal.returns-in-Ok-Some-clause-state
returns-in-Ok-Some-clause-state g c = λ told. state_there _ c.args.copy.now c.args.len c.args.due.now _ _ (at_some _ _ _ c.in-Ok-Some.field-0-is c.in-Ok-Some.ensures.there) (at_some _ _ _ c.in-Ok-Some.field-0-is c.in-Ok-Some.ensures.sum told) c.sum_state.ensures

pub returns-in-Ok-None-clause-state : goal.returns-in-Ok-None-clause-state
returns-in-Ok-None-clause-state g c = λ told. state_gone _ c.args.copy.now c.args.len c.args.due.now (at_none _ _ c.in-Ok-None.field-0-is c.in-Ok-None.ensures.none)
