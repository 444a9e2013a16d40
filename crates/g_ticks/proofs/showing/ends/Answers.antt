use Rattle.g_ticks.proofs.showing.ends.Goals as goal

pub goes_on-requires-clause-accounts : goal.goes_on-requires-clause-accounts
goes_on-requires-clause-accounts g c = λ quiet user some. c.in-Some.ensures.kept user (c.requires.accounts quiet user some)
