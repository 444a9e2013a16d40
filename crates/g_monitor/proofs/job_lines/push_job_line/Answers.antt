use Rattle.std.proofs.Common.{sym}
use Rattle.g_monitor.proofs.job_lines.push_job_line.Goals as goal

pub returns-in-WaitingTape : goal.returns-in-WaitingTape
returns-in-WaitingTape c = rw (c.in-WaitingTape.is, sym c.from-in-WaitingTape.ensures) c.push_number.ensures
