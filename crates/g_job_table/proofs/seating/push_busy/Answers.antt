-- The decimal number of the terminal.
use Rattle.g_job_table.proofs.seating.push_busy.Goals as goal

pub returns : goal.returns
returns c = rw (← c.from.ensures) c.push_number.ensures
