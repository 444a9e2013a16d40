use Rattle.g_outlook.proofs.TellingLemmas.{warns_by}
use Rattle.g_outlook.proofs.outlook.tell_outlook.Goals as goal

pub returns-in-Ok-clause-told : goal.returns-in-Ok-clause-told
returns-in-Ok-clause-told g c = λ blocks told reels shelf shelved. warns_by _ _ _ _ _ _ (c.in-Ok.ensures.foreseen blocks told reels shelf shelved) c.print.ensures.prints
