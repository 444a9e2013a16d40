-- The remaining places return what all of them return.
use Rattle.std.proofs.Common.{◌≡◌, ℕ, ◌+◌, ◌*◌, ◌≤◌, false, drop, length}
use Rattle.g_turn.specs.Releases.{release_all, release_each}
use Rattle.g_turn.specs.Outcomes.{is_over}
use Rattle.g_turn.specs.State.{Work}
use Rattle.g_turn.specs.Steps.{RanWell}
use Rattle.g_plain.specs.Programs.{RanInPart}
use Rattle.g_turn.proofs.work.Work.release_all.Given as goal

abbrev pub invariant-loop-place : goal.invariant-loop-place
invariant-loop-place g l = record {
  goes : is_over l.self ≡ false;
  running : g.S.Filestore.is_spent l.store ≡ false;
  places : length l.self.desk.units.writers ≡ 16;
  blocks : l.self.blocks ≤ l.fn.self.blocks + 128 * l.place;
  waits : (s : ℕ) → g.S.Filestore.can_wait l.store s ≡ g.S.Filestore.can_wait l.fn.store s;
  rest : (given : Work) (new : g.row.S.Denot)
      → RanWell g.S.Filestore.answers g.S.Filestore.is_spent g.S.Filestore.can_wait l.asker.who.now l.store (release_each l.asker.room l.place (drop l.place l.self.desk.units.writers) l.self) given new
      → RanWell g.S.Filestore.answers g.S.Filestore.is_spent g.S.Filestore.can_wait l.asker.who.now l.fn.store (release_all l.asker.room l.fn.self) given new;
  part : (new : g.row.S.Denot)
      → RanInPart g.S.Filestore.answers l.asker.who.now l.store (release_each l.asker.room l.place (drop l.place l.self.desk.units.writers) l.self) new
      → RanInPart g.S.Filestore.answers l.asker.who.now l.fn.store (release_all l.asker.room l.fn.self) new;
}
