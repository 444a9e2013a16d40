use Rattle.std.proofs.Common.{◌+◌, ◌-◌, ◌*◌, ◌/◌, ◌%◌, ◌^◌, ◌≤◌, arith, ap}
use Rattle.g_word.proofs.Shifts.{right_by_left, rotation_fits_at}
use Rattle.g_word.proofs.words.Word.rotate.Goals as goal
use Rattle.g_word.proofs.words.Word.rotate.Goals.{then-left, else-left}

pub invariant_of-result : goal.invariant_of-result
invariant_of-result c =
    let up_fits : c.if-left.up ≤ 24 = elim c.if-left.branch [ then-left w ↦ omega arith | else-left w ↦ omega arith ] in
    rw c.moved_up-high.ensures (rotation_fits_at c.self.inside.bits c.if-left.up c.self.invariant up_fits)

pub returns : goal.returns
returns c =
    elim c.if-left.branch [
      | then-left w ↦ rw (c.moved_up-high.ensures, w.up-is, w.if-left.true) (ap (λ n. (n * 2 ^ (c.args.places % 24)) % 2 ^ 24 + n / 2 ^ (24 - c.args.places % 24)) c.self.view_is)
      | else-left w ↦ rw (c.moved_up-high.ensures, w.if-left.false, ← c.self.view_is) (right_by_left c.self.inside.bits (c.args.places % 24) c.if-left.up (omega arith))
    ]
