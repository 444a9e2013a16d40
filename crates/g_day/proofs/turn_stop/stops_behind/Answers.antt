use Rattle.std.proofs.Common.{◌++◌}
use Rattle.std.specs.Prelude.{codes}
use Rattle.g_day.specs.Telling.{down_text}
use Rattle.g_day.proofs.turn_stop.stops_behind.Goals as goal

pub returns-clause-put : goal.returns-clause-put
returns-clause-put g c = λ text is. c.put_made.ensures (text ++ down_text c.args.count (codes "SYSTEM STOPPED") c.args.crew.now) (c.down_behind-made.ensures text is)
