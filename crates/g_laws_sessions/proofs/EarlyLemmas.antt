-- A part of a run that takes no line, with other lines after it.
-- serves: AfterLemmas, LossLemmas, ScriptLemmas, SessionLemmas
use Rattle.std.proofs.Common.{◌≡◌, ◌⊎◌, ◌+◌, ◌<◌, ◌≤◌, ℕ, Bool, true, false, List, [], ◌∷◌, Option, Some, None, Result, Ok, Err, refl, sym, ◌∙◌, ap, subst, inl, inr, nat_le, arith}
use Rattle.std.proofs.lemmas.Bool.{leb-true}
use Rattle.std.specs.Fn.{Shared}
use denote.Ref.{Bor}
use Rattle.g_rules.specs.declared.tariff.Charge.{Charge}
use Rattle.g_rules.specs.declared.tariff.Usage.{Usage}
use Rattle.g_job.specs.State.{JobState}
use Rattle.g_rules.specs.declared.turn.Turn.{Turn}
use Rattle.g_rules.specs.declared.turn.Turn.TheVariants as turns
use Rattle.g_plain.specs.declared.faults.StoreFault.{StoreFault}
use Rattle.g_plain.specs.declared.faults.StoreFault.TheVariants.{Stopped}
use Rattle.g_rules.specs.declared.rule.Standing.{Standing}
use Rattle.g_script.specs.declared.operator.Timed.{Timed}
use Rattle.g_store_model.specs.DumpSteps.{Completed, Going, Stepped as DumpStepped}
use Rattle.g_store_model.specs.State.{State}
use Rattle.g_run_model.specs.Moves.{Move, TakeLine, Dumped, Begin, Answered, TurnOver, Ticked, Over, Step, Run, dump_told, turn_told}
use Rattle.g_run_model.specs.World.{World, Between, Phase, Stepped, Turned, closed, is_due, shows}
use Rattle.g_laws_sessions.specs.Early.{NotBefore, with_lines}

pub false_true : false ≡ true → ⊥
false_true e = cc

pub nil_cons : (next : Timed) (rest : List Timed) → (let none : List Timed = [] in none ≡ next ∷ rest) → ⊥
nil_cons next rest e = cc

-- lines that aren't due before a later count aren't due now
pub not_due : (w : World) (lines : List Timed) (later : ℕ) → w.count + 1 ≤ later → NotBefore later lines → (let v : World = with_lines lines w in is_due v ≡ false)
not_due w [] later before early = refl
not_due w (next ∷ rest) later before early = by (nat_le next.turn w.count) refl
  where
    by : (b : Bool) → nat_le next.turn w.count ≡ b → nat_le next.turn w.count ≡ false
    by true is = let past = leb-true next.turn w.count is in absurd (let no : ⊥ = omega (arith, before, early, past) in no)
    by false is = is

-- ticks that are still to be counted
abbrev pub owed : Phase → ℕ
owed Between = 0
owed Stepped = 1
owed Turned = 1

pub owed_most : (p : Phase) → owed p ≤ 1
owed_most Between = omega arith
owed_most Stepped = omega arith
owed_most Turned = omega arith

-- a step of the dump, and the end of a turn, whatever lines are left
pub dump_lines : (n : ℕ) (r : Result DumpStepped StoreFault) (s : State) (w : World) (lines : List Timed) → with_lines lines (dump_told n r s w) ≡ dump_told n r s (with_lines lines w)
dump_lines n (Ok Going) s w lines = refl
dump_lines n (Ok (Completed m)) s w lines = refl
dump_lines n (Err Stopped) s w lines = refl
dump_lines n (Err fault) s w lines = refl

pub turn_lines : (j after : JobState) (t : Turn) (w : World) (lines : List Timed)
    → (let new : World = record (turn_told after t (shows j after w)) { turn = None; phase = Turned } in
    let old : World = with_lines lines w in
    let other : World = record (turn_told after t (shows j after old)) { turn = None; phase = Turned } in with_lines lines new ≡ other)
turn_lines j after turns.Broken w lines = refl
turn_lines j after (turns.Wants serial) w lines = refl
turn_lines j after (turns.Ran units money) w lines = refl
turn_lines j after (turns.Ended units money) w lines = refl

-- what a step that takes no line leaves
pub record Leaves (w new : World) : Type 0 where
  pub lines : new.lines ≡ w.lines
  pub over : new.over ≡ w.over
  pub count : new.count ≡ w.count

pub leaves_as : (w new v : World) → new ≡ v → Leaves w v → Leaves w new
leaves_as w new v is l = subst (λ (x : World). Leaves w x) (sym is) l

pub dump_leaves : (n : ℕ) (r : Result DumpStepped StoreFault) (s : State) (w : World) → Leaves w (dump_told n r s w)
dump_leaves n (Ok Going) s w = record { lines = refl; over = refl; count = refl }
dump_leaves n (Ok (Completed m)) s w = record { lines = refl; over = refl; count = refl }
dump_leaves n (Err Stopped) s w = record { lines = refl; over = refl; count = refl }
dump_leaves n (Err fault) s w = record { lines = refl; over = refl; count = refl }

pub dump_owes : (n : ℕ) (r : Result DumpStepped StoreFault) (s : State) (w : World) → owed (dump_told n r s w).phase ≡ 1
dump_owes n (Ok Going) s w = refl
dump_owes n (Ok (Completed m)) s w = refl
dump_owes n (Err Stopped) s w = refl
dump_owes n (Err fault) s w = refl

pub turn_leaves : (j after : JobState) (t : Turn) (w : World) → (let new : World = record (turn_told after t (shows j after w)) { turn = None; phase = Turned } in Leaves w new)
turn_leaves j after turns.Broken w = record { lines = refl; over = refl; count = refl }
turn_leaves j after (turns.Wants serial) w = record { lines = refl; over = refl; count = refl }
turn_leaves j after (turns.Ran units money) w = record { lines = refl; over = refl; count = refl }
turn_leaves j after (turns.Ended units money) w = record { lines = refl; over = refl; count = refl }

module _ {F U : Type 0} (tariffs : Shared F (Bor Usage × Unit {0}) Charge) (tariff : F) (rules : Shared U (Bor Standing × Unit {0}) ℕ) (rule : U) where
  -- A STEP where no line is left: it is the run's end, or none is left behind it, and the count comes nearer
  pub record Goes (w : World) (move : Move) (new : World) : Type 0 where
    pub none : new.lines ≡ []
    pub over : new.over ≡ w.over
    pub counts : w.count + owed w.phase ≤ new.count + owed new.phase
    -- with other lines it is the same step, unless a line is due by then
    pub lifts : (lines : List Timed) (later : ℕ) → new.count + owed new.phase ≤ later → NotBefore later lines
        → Step tariffs tariff rules rule (with_lines lines w) move (with_lines lines new)

  -- it is the run's end
  pub record Ends (w new : World) : Type 0 where
    pub none : new.lines ≡ []
    pub over : new.over ≡ true
    pub going : w.over ≡ false

  to_lines : (lines : List Timed) (new v : World) → new ≡ v → with_lines lines new ≡ with_lines lines v
  to_lines lines new v is = ap (λ (x : World). with_lines lines x) is

  pub step_goes : (w : World) (move : Move) (new : World) → w.lines ≡ [] → Step tariffs tariff rules rule w move new → Ends w new ⊎ Goes w move new
  step_goes w (TakeLine tape o) new none (next, rest, lines, between, idle, due, is_tape, gives) = absurd (nil_cons next rest (sym none ∙ lines))
  step_goes w (Dumped o) new none (between, idle, undue, dumping, (r, s, step, is)) =
      let l = leaves_as w new _ is (dump_leaves _ r s w) in
      let owes : owed new.phase ≡ 1 = ap (λ (x : World). owed x.phase) is ∙ dump_owes _ r s w in
      let free : owed w.phase ≡ 0 = ap owed between in
      inr (record {
        none = l.lines ∙ none;
        over = l.over;
        counts = omega (arith, l.count, owes, free);
        lifts = λ lines later soon early. (
          between,
          idle,
          not_due w lines later (omega (arith, l.count, owes, soon)) early,
          dumping,
          (r, s, step, to_lines lines new _ is ∙ dump_lines _ r s w lines),
        );
      })
  step_goes w (Begin number) new none (idle, undue, ready, (place, job, chosen, there, named, is)) =
      let l : Leaves w new = leaves_as w new _ is (record { lines = refl; over = refl; count = refl }) in
      let owes : owed new.phase ≡ 1 = ap (λ (x : World). owed x.phase) is in
      let most = owed_most w.phase in
      inr (record {
        none = l.lines ∙ none;
        over = l.over;
        counts = omega (arith, l.count, owes, most);
        lifts = λ lines later soon early. (
          idle,
          not_due w lines later (omega (arith, l.count, owes, soon)) early,
          ready,
          (place, job, chosen, there, named, to_lines lines new _ is),
        );
      })
  step_goes w (Answered o) new none (number, call, more, job, answer, s, asks, here, step, real, is) =
      let l : Leaves w new = leaves_as w new _ is (record { lines = refl; over = refl; count = refl }) in
      let same : new.phase ≡ w.phase = ap (λ (x : World). x.phase) is in
      let owes : owed new.phase ≡ owed w.phase = ap owed same in
      inr (record {
        none = l.lines ∙ none;
        over = l.over;
        counts = omega (arith, l.count, owes);
        lifts = λ lines later soon early. (number, call, more, job, answer, s, asks, here, step, real, to_lines lines new _ is);
      })
  step_goes w (TurnOver number charge) new none (work, job, turn, after, gives, here, priced, ends, is) =
      let l = leaves_as w new _ is (turn_leaves job after turn w) in
      let owes : owed new.phase ≡ 1 = ap (λ (x : World). owed x.phase) is in
      let most = owed_most w.phase in
      inr (record {
        none = l.lines ∙ none;
        over = l.over;
        counts = omega (arith, l.count, owes, most);
        lifts = λ lines later soon early. (work, job, turn, after, gives, here, priced, ends, to_lines lines new _ is ∙ turn_lines job after turn w lines);
      })
  step_goes w Ticked new none (idle, through, is) =
      let counts : new.count ≡ w.count + 1 = ap (λ (x : World). x.count) is in
      let most = owed_most w.phase in
      inr (record {
        none = ap (λ (x : World). x.lines) is ∙ none;
        over = ap (λ (x : World). x.over) is;
        counts = omega (arith, counts, most);
        lifts = λ lines later soon early. (idle, through, to_lines lines new _ is);
      })
  step_goes w Over new none (between, idle, lines, nothing, going, is) = inl (record { none = ap (λ (x : World). x.lines) is ∙ none; over = ap (λ (x : World). x.over) is; going = going })

  -- a run that is over stays so
  pub stays : (w : World) (moves : List Move) (last : World) → w.lines ≡ [] → w.over ≡ true → Run tariffs tariff rules rule w moves last → last.over ≡ true
  stays w [] last none over is = ap (λ (x : World). x.over) is ∙ over
  stays w (move ∷ moves) last none over (mid, step, rest) = by (λ gone so. stays mid moves last gone so rest) (step_goes w move mid none step)
    where
      by : (mid.lines ≡ [] → mid.over ≡ true → last.over ≡ true) → Ends w mid ⊎ Goes w move mid → last.over ≡ true
      by more (inl ends) = absurd (false_true (sym ends.going ∙ over))
      by more (inr g) = more g.none (g.over ∙ over)
