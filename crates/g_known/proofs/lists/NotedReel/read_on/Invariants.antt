use Rattle.std.proofs.Common.{◌≡◌, ◌-◌}
use Rattle.g_known.proofs.KnownLemmas.{ReadOn}
use Rattle.g_known.proofs.lists.NotedReel.read_on.Given as goal

abbrev pub invariant-loop-dir : goal.invariant-loop-dir
invariant-loop-dir g l = (l.self.serial ≡ l.serial) × ReadOn l.serial l.at l.least l.initial.self.notes.items l.self.notes.items (g.T.Tapes.rack l.initial.tapes) (g.T.Tapes.rack l.tapes)

abbrev pub decreases-loop-dir : goal.decreases-loop-dir
decreases-loop-dir g l = 65536 - l.at
