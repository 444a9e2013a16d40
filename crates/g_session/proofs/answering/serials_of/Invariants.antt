-- The serials so far.
use Rattle.std.proofs.Common.{◌≡◌, take}
use Rattle.g_session.specs.Standing.{rack_serials}
use Rattle.g_session.proofs.answering.serials_of.Given as goal

abbrev pub invariant-loop-i : goal.invariant-loop-i
invariant-loop-i g l = l.serials.items ≡ take l.i (rack_serials (g.T.Tapes.rack l.tapes))
