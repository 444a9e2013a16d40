use Rattle.std.proofs.Common.{inr}
use Rattle.g_run.specs.declared.status.Status.TheVariants.{NoMemory}
use Rattle.g_program.proofs.answer.exit_without.Goals as goal

-- exhausted memory is a status of a run and of a session
pub returns-then-memory_ran_out-clause-run : goal.returns-then-memory_ran_out-clause-run
returns-then-memory_ran_out-clause-run c = inr (NoMemory, tt, c.code.ensures)

pub returns-then-memory_ran_out-clause-session : goal.returns-then-memory_ran_out-clause-session
returns-then-memory_ran_out-clause-session c = inr (NoMemory, tt, c.code.ensures)
