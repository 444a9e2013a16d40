use Rattle.g_look.proofs.outlook.refusal_of.Goals as goal

pub returns-in-Ok-clause-ends : goal.returns-in-Ok-clause-ends
returns-in-Ok-clause-ends c = λ dumps are. let made = c.in-Ok.ensures.ok dumps are in (made.directory, made.places)
