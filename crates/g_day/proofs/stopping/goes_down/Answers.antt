use Rattle.g_day.specs.Telling.{down_text}
use Rattle.g_day.proofs.stopping.goes_down.Goals as goal

pub returns-clause-put : goal.returns-clause-put
returns-clause-put g c = c.put_made.ensures (down_text c.args.count c.args.what.now c.args.crew.now) c.down-made.ensures

pub returns-clause-gone : goal.returns-clause-gone
returns-clause-gone g c = c.go_down.ensures
