use Rattle.g_look.proofs.DiscLemmas.{format_one, format_two}
use Rattle.g_look.proofs.disc.see_format.Goals as goal

pub returns-in-Some-clause-format : goal.returns-in-Some-clause-format
returns-in-Some-clause-format g c = format_two _ _ _ c.requires.gate c.in-Ok.ensures.ok _ c.in-Some.ensures.found.0 c.in-Some.ensures.found.1

pub returns-in-None-clause-format : goal.returns-in-None-clause-format
returns-in-None-clause-format g c = format_one _ _ _ c.requires.gate c.in-Ok.ensures.ok c.in-None.ensures.none
