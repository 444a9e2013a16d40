use Rattle.g_ticks.proofs.ending.ends.Goals as goal

pub put_file-requires-clause-accounts : goal.put_file-requires-clause-accounts
put_file-requires-clause-accounts g c = λ quiet user some. c.in-Some.ensures.kept user (c.requires.accounts quiet user some)
