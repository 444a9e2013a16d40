-- The seat is the terminal's.
use Rattle.g_mop.proofs.SeatLemmas.{place_found}
use Rattle.g_mop.proofs.terminals.place_of.Goals as goal

pub returns-then-seat-terminal : goal.returns-then-seat-terminal
returns-then-seat-terminal c = place_found c.loop-place.place c.args.terminal c.args.all.now _ c.loop-place-test.true c.loop-place.invariant c.if-seat-terminal.true
