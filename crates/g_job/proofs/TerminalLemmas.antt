-- A job at a terminal: when it is ready, and the effect of a turn on its document.
-- serves: add_line, ready_with, turn (seat), turns_keep_the_document
use Rattle.std.proofs.Common.{◌≡◌, ◌∙◌, ◌<◌, Bool, true, false, IfSome, List, [], ◌∷◌, Option, Some, None, ap, arith, inr, is_some, length, refl, subst, ℕ, ◌||◌}
use Rattle.std.specs.Fn.{Shared}
use denote.Ref.{Bor}
use Rattle.g_turn.proofs.DocumentLemmas.{begins_leaves}
use Rattle.g_turn.proofs.WellThen.{well_gives}
use Rattle.g_turn.specs.Bounds.{AlwaysGives}
use Rattle.g_turn.specs.State.{Broken, Done, Full, Stop, Waits, Work}
use Rattle.g_turn.specs.Steps.{RanWell}
use Rattle.g_rules.specs.declared.tariff.Charge.{Charge}
use Rattle.g_rules.specs.declared.tariff.Usage.{Usage}
use Rattle.g_job.specs.Beginning.{begin, room_of}
use Rattle.g_job.specs.TurnEnd.{IsTurn, behind_turn, charged, end_by, last_line}
use Rattle.g_job.specs.Rules.{IsJob}
use Rattle.g_job.specs.Spending.{KeepsSeat}
use Rattle.g_job.specs.State.{JobState}
use Rattle.g_job.specs.Terminal.{LeavesDocument, is_ready, typed_lines, typed_to, with_stack}
use Rattle.g_job.specs.Turns.{turn_work}
use Rattle.g_rules.specs.declared.turn.Turn.{Turn}
use Rattle.g_macro.proofs.HoldingLemmas.{are_ready_stays}
use Rattle.g_macro.specs.Holding.{are_ready, line_added, with_document, with_typed}
use Rattle.g_macro.specs.Levels.{Level, Stack}
use Rattle.g_job.proofs.RulesLemmas.{rules_of_rest}
use Rattle.g_plain.specs.Programs.{Answer}
use Rattle.g_plain.specs.declared.calls.StoreCall.{StoreCall}

-- a ready job is still ready after one more line
pub typed_stays : (j : JobState) (line : List ℕ) → is_ready j ≡ true → is_ready (typed_to line j) ≡ true
typed_stays j line ready = by (is_some j.desk.running) (is_some j.pending) ready
  where
    by : (runs waits : Bool) → (runs || (waits || are_ready j.desk.levels)) ≡ true → (runs || (waits || are_ready (with_typed line j.desk.levels))) ≡ true
    by true waits is = refl
    by false true is = refl
    by false false is = are_ready_stays line j.desk.levels is

-- THE RULES of a job hold after its levels change, if none is dropped
pub rules_with : (change : Stack → Stack) (j : JobState) → (0 < length j.desk.levels.levels → 0 < length (change j.desk.levels).levels) → IsJob j → IsJob (with_stack change j)
rules_with change j some rules =
    rules_of_rest j rules (record j.desk { levels = change j.desk.levels }) j.pending j.wants j.terminal rules.waits rules.goes_on (λ there. some (rules.level there))

document_there : (change : Level → Level) (levels : List Level) → 0 < length levels → 0 < length (with_document change levels)
document_there change [] some = some
document_there change (level ∷ []) some = omega arith
document_there change (level ∷ other ∷ below) some = omega arith

pub typed_rules : (line : List ℕ) (j : JobState) → IsJob j → IsJob (typed_to line j)
typed_rules line j rules = rules_with (with_typed line) j (document_there (line_added line) j.desk.levels.levels) rules

-- THE PROGRAM OF A TURN leaves the document unchanged, or drops it
pub leaves_document : (j : JobState) → IsJob j → AlwaysGives (LeavesDocument j) (turn_work j)
leaves_document j rules = begins_leaves j.desk.levels.held (typed_lines j) (room_of j) j.user j.pending (begin j) refl rules.level (refl, inr refl)

module _ {S : Type 0} (answers : S → List ℕ → StoreCall → Answer → S → Type 0) (is_spent : S → Bool) (can_wait : S → ℕ → Bool) where
  pub turn_leaves : (j : JobState) (old : S) (w : Work) (new : S) → IsJob j → RanWell answers is_spent can_wait j.user old (turn_work j) w new → LeavesDocument j w
  turn_leaves j old w new rules r = well_gives answers is_spent can_wait j.user (LeavesDocument j) (turn_work j) old w new (leaves_document j rules) r

-- the end of a turn leaves the terminal and the desk of its work unchanged
abbrev pub HasSeat : JobState → Work → JobState → Type 0
HasSeat j w new = (new.terminal ≡ j.terminal) × (new.desk ≡ w.desk)

last_seat : (j : JobState) (w : Work) (charge : Charge) (last : Option (List ℕ)) → HasSeat j w (behind_turn (charged j w charge) last)
last_seat j w charge None = (refl, refl)
last_seat j w charge (Some text) = (refl, refl)

end_seat : (j : JobState) (w : Work) (stop : Option Stop) (charge : Option Charge) → IfSome (end_by stop j w charge) (λ end. HasSeat j w end.1)
end_seat j w (Some (Waits serial)) None = (refl, refl)
end_seat j w (Some (Waits serial)) (Some charge) = tt
end_seat j w (Some Broken) None = (refl, refl)
end_seat j w (Some Broken) (Some charge) = tt
end_seat j w (Some Full) None = tt
end_seat j w (Some Full) (Some charge) = last_seat j w charge (last_line (Some Full) j charge (charged j w charge))
end_seat j w (Some Done) None = tt
end_seat j w (Some Done) (Some charge) = last_seat j w charge (last_line (Some Done) j charge (charged j w charge))
end_seat j w None None = tt
end_seat j w None (Some charge) = last_seat j w charge (last_line None j charge (charged j w charge))

module _ {F : Type 0} (calls : Shared F (Bor Usage × Unit {0}) Charge) (rule : F) where
  pub keeps_seat : (j : JobState) (w : Work) (t : Turn) (new : JobState) → LeavesDocument j w → IsTurn calls rule j w t new → KeepsSeat j new
  keeps_seat j w t new leaves (charge, priced, end) =
      let seat : HasSeat j w new = subst (λ (e : Option (Turn × JobState)). IfSome e (λ x. HasSeat j w x.1)) end (end_seat j w w.stop charge) in
      (seat.0, ap (λ d. d.levels.held) seat.1 ∙ leaves.0.0)
