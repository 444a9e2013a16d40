use Rattle.std.proofs.Common.{◌++◌}
use Rattle.std.specs.Prelude.{codes}
use Rattle.g_monitor.specs.Refusals.{fault_line}
use Rattle.g_day.proofs.puts.refuse.Goals as goal

pub returns : goal.returns
returns g c = c.say_made.ensures (codes "REFUSED " ++ fault_line c.args.fault.now) c.refusal-made.ensures
