-- The reel's line.
use Rattle.g_answers.proofs.state.push_waiting.Goals as goal

pub returns-in-Some : goal.returns-in-Some
returns-in-Some c = rw (c.in-Some.is, ← c.from.ensures) c.push_number.ensures
