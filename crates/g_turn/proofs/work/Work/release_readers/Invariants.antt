-- The first readers are empty, and the others are unchanged.
use Rattle.std.proofs.Common.{◌≡◌, ◌<◌, length}
use Rattle.g_turn.proofs.UnitsLemmas.{emptied}
use Rattle.g_turn.proofs.work.Work.release_readers.Given as goal

abbrev pub invariant-loop-number : goal.invariant-loop-number
invariant-loop-number l = record {
  is : l.self ≡ emptied l.number l.fn.self;
  places : 0 < l.number → (length l.fn.self.desk.units.readers ≡ 8) × (length l.fn.self.desk.units.writers ≡ 16);
}
