use Rattle.g_ticks.proofs.LeftLemmas.{left_down}
use Rattle.g_ticks.proofs.ending.stops.Goals as goal

pub returns-clause-ends : goal.returns-clause-ends
returns-clause-ends g c = record { down = left_down c.args.up.now.store.running c.requires.stopped; crew = c.tell_fault.ensures.0; put = c.tell_fault.ensures.1 }
