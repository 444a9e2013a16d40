use Rattle.std.proofs.Common.{◌≡◌, drop}
use Rattle.g_mop.specs.Seats.{seat_at}
use Rattle.g_mop.proofs.terminals.place_of.Given as goal

abbrev pub invariant-loop-place : goal.invariant-loop-place
invariant-loop-place l = seat_at l.terminal (drop l.place l.all) ≡ seat_at l.terminal l.all
