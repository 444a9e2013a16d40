use Rattle.g_look.proofs.OutlookLemmas.{last_one, last_two, no_head}
use Rattle.g_look.proofs.outlook.last_in.Goals as goal

pub returns-in-Some-clause-head : goal.returns-in-Some-clause-head
returns-in-Some-clause-head c = last_two _ _ c.in-Some.ensures.found.0 c.in-Some.ensures.found.1

pub returns-in-Some-decode_head_in-clause-head : goal.returns-in-Some-decode_head_in-clause-head
returns-in-Some-decode_head_in-clause-head c = last_one _ _ c.in-Some-decode_head_in.ensures.found.0 c.in-Some-decode_head_in.ensures.found.1

pub returns-in-None-decode_head_in-clause-head : goal.returns-in-None-decode_head_in-clause-head
returns-in-None-decode_head_in-clause-head c = no_head _ c.in-None.ensures.none c.in-None-decode_head_in.ensures.none
