-- What a line that is refused while the system is down leaves.
-- serves: refused_lines_leave_the_tree, start_still_has_the_tree, CompleteLemmas, LaterLemmas
use Rattle.std.proofs.Common.{◌≡◌, ℕ, List, [], ◌∷◌, Option, Some, None, refl, sym, ◌∙◌, ap, inl, inr}
use Rattle.std.specs.Prelude.{not, ◌≢◌, ◌⊎◌, Bool, true, false, Result, Err, MatchBool, MatchOption, if◌then◌else◌, codes, ◌++◌}
use Rattle.std.specs.Fmt.{decimal}
use Rattle.std.specs.Fn.{Shared}
use denote.Ref.{Bor}
use Rattle.g_rules.specs.declared.tariff.Charge.{Charge}
use Rattle.g_rules.specs.declared.tariff.Usage.{Usage}
use Rattle.g_rules.specs.declared.rule.Standing.{Standing}
use Rattle.g_plain.specs.declared.faults.StoreFault.{StoreFault}
use Rattle.g_plain.specs.declared.faults.StoreFault.TheVariants.{Running, Stopped}
use Rattle.g_script.specs.declared.operator.Operator.{Operator}
use Rattle.g_script.specs.declared.operator.Operator.TheVariants as line
use Rattle.g_script.specs.declared.operator.Timed.{Timed}
use Rattle.g_store_model.specs.CallStep.{Cut, Outcome, Plain}
use Rattle.g_store_model.specs.DumpSteps.{Event}
use Rattle.g_store_model.specs.Laws.{tree_in}
use Rattle.g_store_model.specs.Rising.{FormatStep, RestoreStep, Restores, restore_early}
use Rattle.g_store_model.specs.State.{Dumped as DumpedTree, State}
use Rattle.g_run_model.specs.Events.{IsTold}
use Rattle.g_run_model.specs.Laws.{AllOrNothing, tree_behind, tree_by_line, tree_by_lines}
use Rattle.g_run_model.specs.Lines.{LineGives, line_refused, tells, up_with}
use Rattle.g_run_model.specs.Moves.{Answered, Begin, Dumped, Move, Over, Step, TakeLine, Ticked, TurnOver}
use Rattle.g_run_model.specs.World.{World}
use Rattle.g_run_model.proofs.EventToldLemmas.{ToldBy, format_told, restore_told}
use Rattle.g_run_model.proofs.TreeLemmas.{either_first, either_still, told_up}
use Rattle.g_laws_runs.specs.RefusedLines.{KeepsTree, RefusedLinesLeave, RunKeeping, StartStillHasTheTree}

-- an answer with its outcome isn't a stop if no write failed
pub unstopped : {A : Type 0} (By : Outcome → Result A StoreFault → State → Type 0) (o : Outcome) (r : Result A StoreFault) (new : State) → ToldBy By o r new → o ≢ Cut → r ≢ Err Stopped
unstopped By o r new (told, step, tells_so, inl same) whole stop = whole (sym same ∙ tells_so.cut stop)
unstopped By o r new (told, step, tells_so, inr plain) whole stop = let is_cut = tells_so.cut stop in let no : ⊥ = cc in no

down_up : {P : Type 0} (s : State) → s.up ≡ true → s.up ≡ false → P
down_up s up low = let both : true ≡ false = sym up ∙ low in absurd (let no : ⊥ = cc in no)

-- an event that brings the system up, and leaves it down without a stop, is refused
event_low : {A : Type 0} (f : Option StoreFault) (reply : A) (s after : State) (r : Result A StoreFault) (new : State) → after.up ≡ true → new.up ≡ false → r ≢ Err Stopped
    → Event f reply s after r new → tree_in new ≡ tree_in s
event_low None reply s after r new up low whole (ok, is) = down_up after up (sym (ap (λ (x : State). x.up) is) ∙ low)
event_low (Some Stopped) reply s after r new up low whole (err, is) = absurd (whole err)
event_low (Some fault) reply s after r new up low whole (err, is) = ap tree_in is

restores_low : (s : State) (d : Option DumpedTree) (o : Outcome) (r : Result ℕ StoreFault) (new : State) → new.up ≡ false → r ≢ Err Stopped → Restores s d o r new → tree_in new ≡ tree_in s
restores_low s None o r new low whole (lost, is) = ap tree_in is
restores_low s (Some d) o r new low whole event = event_low _ _ s _ r new refl low whole event

restore_low : (s : State) (f : Option StoreFault) (o : Outcome) (r : Result ℕ StoreFault) (new : State) → new.up ≡ false → r ≢ Err Stopped
    → MatchOption f (Restores s s.dumped o r new) (λ fault. (r ≡ Err fault) × (new ≡ s)) → tree_in new ≡ tree_in s
restore_low s None o r new low whole step = restores_low s s.dumped o r new low whole step
restore_low s (Some fault) o r new low whole (err, is) = ap tree_in is

-- the same of a line that may bring it up
rises_low : {R : Type 0} (Does : State → Outcome → Result R StoreFault → State → Type 0) (said : R → List ℕ) (o : Outcome) (w new : World) → new.store.up ≡ false
    → ((r : Result R StoreFault) (s : State) → s.up ≡ false → Does w.store o r s → tree_in s ≡ tree_in w.store)
    → (b : Bool) → b ≡ false
    → MatchBool (not b) ((r : Result R StoreFault) × (s : State) × (Does w.store o r s × IsTold o r) × (new ≡ tells (λ x t v. up_with (said x) t v) r s w)) ((o ≡ Plain) × (new ≡ line_refused Running w))
    → tree_in new.store ≡ tree_in w.store
rises_low Does said o w new low leaves true e gives = absurd (let no : ⊥ = cc in no)
rises_low Does said o w new low leaves false e (r, s, (does, says_so), is) =
    let at_s : new.store ≡ s = ap (λ (x : World). x.store) is ∙ told_up said r s w in
    ap tree_in at_s ∙ leaves r s (sym (ap (λ (x : State). x.up) at_s) ∙ low) does

-- a line that leaves the tree, or installs its own, and isn't one of the two that may install another
line_low : (o : Outcome) (what : Operator) (w new : World) → w.store.up ≡ false → new.store.up ≡ false → o ≢ Cut → LineGives o what w new
    → (tree_in new.store ≡ tree_in w.store) ⊎ (tree_in new.store ≡ tree_by_line what w.store) → tree_in new.store ≡ tree_in w.store
line_low o line.Format w new was low whole gives both =
    rises_low FormatStep (λ r. codes "FORMATTED") o w new low (λ r s s_low does. event_low _ _ w.store _ r s refl s_low (unstopped (FormatStep w.store) o r s (format_told w.store o r s does) whole) does) w.store.up was gives
line_low o line.Restore w new was low whole gives both =
    rises_low RestoreStep (λ n. codes "RESTORED FROM DUMP " ++ decimal n) o w new low
    (λ r s s_low does. restore_low w.store (restore_early w.store o) o r s s_low (unstopped (RestoreStep w.store) o r s (restore_told w.store o r s does) whole) does) w.store.up was gives
line_low o what w new was low whole gives (inl e) = e
line_low o what w new was low whole gives (inr e) = e

module _ {F U : Type 0} (tariffs : Shared F (Bor Usage × Unit {0}) Charge) (tariff : F) (rules : Shared U (Bor Standing × Unit {0}) ℕ) (rule : U) (all : AllOrNothing tariffs tariff rules rule) where
  pub refused_leave : RefusedLinesLeave tariffs tariff rules rule
  refused_leave w new tape o (next, rest, lines, between, idle, due, is_tape, gives) refused =
      line_low o next.what (record w { lines = rest }) new refused.was refused.is refused.whole gives (by (all w new (TakeLine tape o) (next, rest, lines, between, idle, due, is_tape, gives)))
    where
      behind : tree_behind w (TakeLine tape o) ≡ tree_by_line next.what w.store
      behind = ap (λ (ls : List Timed). tree_by_lines ls w.store) lines ∙ ap (λ (b : Bool). if b then tree_in w.store else tree_by_line next.what w.store) refused.was

      by : (tree_in new.store ≡ tree_in w.store) ⊎ (tree_in new.store ≡ tree_behind w (TakeLine tape o)) → (tree_in new.store ≡ tree_in w.store) ⊎ (tree_in new.store ≡ tree_by_line next.what w.store)
      by (inl e) = inl e
      by (inr e) = inr (e ∙ behind)

  one_keeps : (w : World) (move : Move) (mid : World) → KeepsTree w move mid → Step tariffs tariff rules rule w move mid → tree_in mid.store ≡ tree_in w.store
  one_keeps w (TakeLine tape o) mid (inl quiet) step = either_first (tree_in w.store) (tree_in mid.store) (tree_behind w (TakeLine tape o)) (all w mid (TakeLine tape o) step) quiet
  one_keeps w (TakeLine tape o) mid (inr refused) step = refused_leave w mid tape o step refused
  one_keeps w (Dumped o) mid quiet step = either_first (tree_in w.store) (tree_in mid.store) (tree_behind w (Dumped o)) (all w mid (Dumped o) step) quiet
  one_keeps w (Begin number) mid quiet step = either_first (tree_in w.store) (tree_in mid.store) (tree_behind w (Begin number)) (all w mid (Begin number) step) quiet
  one_keeps w (Answered o) mid quiet step = either_first (tree_in w.store) (tree_in mid.store) (tree_behind w (Answered o)) (all w mid (Answered o) step) quiet
  one_keeps w (TurnOver number charge) mid quiet step = either_first (tree_in w.store) (tree_in mid.store) (tree_behind w (TurnOver number charge)) (all w mid (TurnOver number charge) step) quiet
  one_keeps w Ticked mid quiet step = either_first (tree_in w.store) (tree_in mid.store) (tree_behind w Ticked) (all w mid Ticked step) quiet
  one_keeps w Over mid quiet step = either_first (tree_in w.store) (tree_in mid.store) (tree_behind w Over) (all w mid Over step) quiet

  pub keeping : (w : World) (moves : List Move) (new : World) → RunKeeping tariffs tariff rules rule w moves new → tree_in new.store ≡ tree_in w.store
  keeping w [] new run = ap (λ (x : World). tree_in x.store) run
  keeping w (move ∷ moves) new (mid, quiet, step, run) = keeping mid moves new run ∙ one_keeps w move mid quiet step

  pub still_has_the_tree : StartStillHasTheTree tariffs tariff rules rule
  still_has_the_tree before cut up move moves was_up step is_down run =
      either_still (tree_in before.store) (tree_in cut.store) (tree_behind before move) (tree_in up.store) (keeping cut moves up run) (all before cut move step)
