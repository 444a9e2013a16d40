use Rattle.g_devices.proofs.ConsoleLemmas.{moved_line}
use Rattle.g_devices.proofs.console.StdConsoleConsole.take_line.Goals as goal

pub returns-in-Ok-clause-taken : goal.returns-in-Ok-clause-taken
returns-in-Ok-clause-taken g c = moved_line c.in-Ok.line c.next_line.new.into c.in-Ok.ensures.line
