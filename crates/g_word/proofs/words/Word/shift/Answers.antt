use Rattle.std.proofs.Common.{◌≡◌, ℕ, ◌^◌, ◌<◌, ◌≤◌, Bool, true, false, sym, refl}
use Rattle.std.specs.Prelude.{if◌then◌else◌}
use Rattle.g_word.specs.Word.{shifted_left, shifted_right}
use Rattle.g_word.proofs.Shifts.{all_moved_up, all_moved_down}
use Rattle.g_word.proofs.words.Word.shift.Goals as goal
use Rattle.g_word.proofs.words.Word.shift.Goals.{then-places-ge-WIDTH, else-places-ge-WIDTH+then-left, else-places-ge-WIDTH+else-left}

-- a shift by 24 places or more leaves zeros
moved_out : (left : Bool) (w n : ℕ) → w < 2 ^ 24 → 24 ≤ n → 0 ≡ (if left then shifted_left w n else shifted_right w n)
moved_out true w n _ h = sym (all_moved_up w n 24 h)
moved_out false w n s h = sym (all_moved_down w n 24 h s)

pub returns : goal.returns
returns c =
    elim c.if-places-ge-WIDTH.branch [
      | then-places-ge-WIDTH w ↦ rw (w.bits-is, ← c.self.view_is) (moved_out c.args.left c.self.inside.bits c.args.places c.self.invariant w.if-places-ge-WIDTH.true)
      | else-places-ge-WIDTH+then-left w ↦ rw (w.bits-is, w.if-left.true, ← c.self.view_is) w.moved_up.ensures
      | else-places-ge-WIDTH+else-left w ↦ rw (w.bits-is, w.if-left.false, ← c.self.view_is) refl
    ]
