-- A TYPE line prints nothing if and only if it isn't refused.
-- serves: typed_lines_tell_nothing
use Rattle.std.proofs.Common.{◌≡◌, ◌≤◌, ◌+◌, ◌↔◌, ◌&&◌, ℕ, Bool, true, false, List, [], ◌∷◌, ◌++◌, length, length-append, Option, Some, None, is_some, refl, sym, ◌∙◌, ap, subst, if◌then◌else◌, codes, arith}
use Rattle.std.proofs.lemmas.Bool.{false≢true}
use Rattle.std.specs.Fmt.{decimal}
use Rattle.std.specs.Fn.{Shared}
use denote.Ref.{Bor}
use Rattle.g_rules.specs.declared.tariff.Charge.{Charge}
use Rattle.g_rules.specs.declared.tariff.Usage.{Usage}
use Rattle.g_rules.specs.declared.rule.Standing.{Standing}
use Rattle.g_job.specs.State.{JobState}
use Rattle.g_job.specs.Terminal.{typed_to}
use Rattle.g_monitor.specs.Refusals.{fault_line}
use Rattle.g_mop.specs.Seats.{none_text}
use Rattle.g_plain.specs.declared.faults.StoreFault.TheVariants.{NotStarted}
use Rattle.g_script.specs.declared.operator.Operator.{Operator}
use Rattle.g_script.specs.declared.operator.Operator.TheVariants as line
use Rattle.g_script.specs.declared.operator.Timed.{Timed}
use Rattle.g_run_model.specs.Lines.{LineGives, changed_at, line_refused, open_at}
use Rattle.g_run_model.specs.Terminals.{TypesTellNothing}
use Rattle.g_run_model.specs.Texts.{operator_line}
use Rattle.g_run_model.specs.World.{World}

line_some : (count : ℕ) (what : List ℕ) → 1 ≤ length (operator_line count what)
line_some count what =
    let long : length (operator_line count what) ≡ length ((decimal count ++ codes " ") ++ what) + 1 = length-append ((decimal count ++ codes " ") ++ what) (10 ∷ []) in
    omega (arith, long)

no_more : (xs : List ℕ) (count : ℕ) (what : List ℕ) → xs ++ operator_line count what ≡ xs → ⊥
no_more xs count what same =
    let some : 1 ≤ length (operator_line count what) = line_some count what in
    let long : length (xs ++ operator_line count what) ≡ length xs + length (operator_line count what) = length-append xs (operator_line count what) in
    let is : length (xs ++ operator_line count what) ≡ length xs = ap length same in
    omega (arith, some, long, is)

first_line : (a b : Timed) (xs ys : List Timed) → a ∷ xs ≡ b ∷ ys → a ≡ b
first_line a b xs ys is = cc

module _ (t : ℕ) (change : JobState → JobState) (w : World) where
  told : (b : Bool) (o : Option JobState) → ((if b then changed_at t change o w else line_refused NotStarted w).text ≡ w.text) ↔ ((b && is_some o) ≡ true)
  told true (Some j) = ((λ same. refl), (λ yes. refl))
  told true None = ((λ same. absurd (no_more w.text w.count (codes "REFUSED " ++ none_text t) same)), (λ no. absurd (false≢true no)))
  told false o = ((λ same. absurd (no_more w.text w.count (codes "REFUSED " ++ fault_line NotStarted) same)), (λ no. absurd (false≢true no)))

module _ {F U : Type 0} (tariffs : Shared F (Bor Usage × Unit {0}) Charge) (tariff : F) (rules : Shared U (Bor Standing × Unit {0}) ℕ) (rule : U) where
  pub types_tell_nothing : TypesTellNothing tariffs tariff rules rule
  types_tell_nothing w new tape o next rest t text lines what (other, left, lines2, between, idle, due, is_tape, gives) =
      let same : other ≡ next = first_line other next left rest (sym lines2 ∙ lines) in
      let given : LineGives o (line.Typed t text) (record w { lines = left }) new = subst (λ (x : Operator). LineGives o x (record w { lines = left }) new) (ap (λ (x : Timed). x.what) same ∙ what) gives in
      let r = told t (typed_to text) (record w { lines = left }) w.store.up (open_at t w.jobs) in
      ((λ e. r.0 (sym (ap (λ (x : World). x.text) given.1) ∙ e)), (λ yes. ap (λ (x : World). x.text) given.1 ∙ r.1 yes))
