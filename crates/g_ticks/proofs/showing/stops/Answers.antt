use Rattle.g_ticks.proofs.LeftLemmas.{left_down}
use Rattle.g_ticks.proofs.showing.stops.Goals as goal

pub returns-clause-ends : goal.returns-clause-ends
returns-clause-ends g c = λ text is. record { down = left_down c.args.up.now.store.running c.requires.stopped; crew = c.stops_behind.ensures.gone; put = c.stops_behind.ensures.put text is }
