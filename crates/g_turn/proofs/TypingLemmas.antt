-- A turn that can't continue waits for the lines of its document.
-- serves: ready_with
use Rattle.std.proofs.Common.{◌≡◌, ◌∙◌, Bool, true, false, List, ap, is_some, refl, sym, ℕ, ◌||◌}
use Rattle.std.proofs.lemmas.Bool.{false≢true}
use Rattle.g_turn.specs.State.{Work}
use Rattle.g_turn.specs.Typing.{can_go_on, with_stack}
use Rattle.g_macro.specs.Holding.{are_ready, with_typed}

neither_of : (a b : Bool) → (a || b) ≡ false → (a ≡ false) × (b ≡ false)
neither_of true b is = absurd (false≢true (sym is))
neither_of false b is = (refl, is)

pub waits_for_lines : (w now : Work) → w ≡ now → can_go_on now.desk ≡ false → are_ready w.desk.levels ≡ false
waits_for_lines w now is waits = (neither_of (is_some w.desk.running) (are_ready w.desk.levels) (ap (λ (x : Work). can_go_on x.desk) is ∙ waits)).1

pub goes_on_typed : (w now : Work) (line : List ℕ) → w ≡ now → can_go_on now.desk ≡ false → are_ready (with_typed line w.desk.levels) ≡ can_go_on (with_stack (with_typed line) now).desk
goes_on_typed w now line is waits =
    ap (λ (b : Bool). b || are_ready (with_typed line w.desk.levels)) (sym (neither_of (is_some w.desk.running) (are_ready w.desk.levels) (ap (λ (x : Work). can_go_on x.desk) is ∙ waits)).0)
    ∙ ap (λ (x : Work). can_go_on (with_stack (with_typed line) x).desk) is
