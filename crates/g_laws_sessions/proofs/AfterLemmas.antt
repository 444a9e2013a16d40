-- A part of a run that takes its own lines, with other lines after them.
-- serves: LossLemmas, SessionLemmas
use Rattle.std.proofs.Common.{◌≡◌, ◌⊎◌, ◌+◌, ◌≤◌, ◌++◌, ℕ, true, false, List, [], ◌∷◌, None, refl, sym, ◌∙◌, ap, subst, inl, inr, arith}
use Rattle.std.specs.Fn.{Shared}
use denote.Ref.{Bor}
use Rattle.g_rules.specs.declared.tariff.Charge.{Charge}
use Rattle.g_rules.specs.declared.tariff.Usage.{Usage}
use Rattle.g_rules.specs.declared.rule.Standing.{Standing}
use Rattle.g_script.specs.declared.operator.Timed.{Timed}
use Rattle.g_run_model.specs.Lines.{LineGives}
use Rattle.g_run_model.specs.Moves.{Move, TakeLine, Dumped, Begin, Answered, TurnOver, Ticked, Over, Step, Run}
use Rattle.g_run_model.specs.World.{World, is_due, nothing_steps}
use Rattle.g_laws_sessions.specs.Early.{NotBefore, with_lines}
use Rattle.g_laws_sessions.proofs.EarlyLemmas.{Leaves, dump_leaves, dump_lines, dump_owes, false_true, leaves_as, not_due, owed, owed_most, stays, turn_leaves, turn_lines}
use Rattle.g_laws_sessions.proofs.LineLemmas.{line_lined}

-- lines behind others leave what is due, unless all others are gone
due_behind : (own lines : List Timed) (w : World) (later : ℕ) → w.count + 1 ≤ later → NotBefore later lines
    → (let v : World = with_lines own w in is_due v ≡ false) → (let v : World = with_lines (own ++ lines) w in is_due v ≡ false)
due_behind [] lines w later before early undue = not_due w lines later before early
due_behind (next ∷ own) lines w later before early undue = undue

due_more : (own lines : List Timed) (w : World) → (let v : World = with_lines own w in is_due v ≡ true) → (let v : World = with_lines (own ++ lines) w in is_due v ≡ true)
due_more [] lines w due = absurd (false_true due)
due_more (next ∷ own) lines w due = due

-- the ticks counted after a step, with one that is still to be counted
abbrev reach : World → Move → ℕ
reach w (TakeLine tape o) = w.count + owed w.phase
reach w (Dumped o) = w.count + 1
reach w (Begin number) = w.count + 1
reach w (Answered o) = w.count + owed w.phase
reach w (TurnOver number charge) = w.count + 1
reach w Ticked = w.count + 1
reach w Over = w.count

behind_by : (lines : List Timed) (w new v : World) → new ≡ v → v.lines ≡ w.lines → with_lines (new.lines ++ lines) new ≡ with_lines (w.lines ++ lines) v
behind_by lines w new v is same = ap (λ (x : World). with_lines (x.lines ++ lines) x) is ∙ ap (λ (own : List Timed). with_lines (own ++ lines) v) same

module _ {F U : Type 0} (tariffs : Shared F (Bor Usage × Unit {0}) Charge) (tariff : F) (rules : Shared U (Bor Standing × Unit {0}) ℕ) (rule : U) where
  -- A STEP: it is the run's end, or it is the same step with other lines behind, unless one of them is due by then
  pub record Ends (w : World) (move : Move) (new : World) : Type 0 where
    pub is : move ≡ Over
    pub none : new.lines ≡ []
    pub over : new.over ≡ true
    pub going : w.over ≡ false

  pub record Goes (w : World) (move : Move) (new : World) : Type 0 where
    pub over : new.over ≡ w.over
    pub counts : w.count + owed w.phase ≤ new.count + owed new.phase
    pub exact : new.count + owed new.phase ≡ reach w move
    pub lifts : (lines : List Timed) (later : ℕ) → new.count + owed new.phase ≤ later → NotBefore later lines
        → Step tariffs tariff rules rule (with_lines (w.lines ++ lines) w) move (with_lines (new.lines ++ lines) new)

  pub step_goes : (w : World) (move : Move) (new : World) → Step tariffs tariff rules rule w move new → Ends w move new ⊎ Goes w move new
  step_goes w (TakeLine tape o) new (next, rest, own, between, idle, due, is_tape, gives) =
      let l = line_lined o next.what (record w { lines = rest }) new gives in
      let same_count = l.kept.count in
      let same_phase : owed new.phase ≡ owed w.phase = ap owed l.kept.phase in
      inr (record {
        over = l.kept.over;
        counts = omega (arith, same_count, same_phase);
        exact = omega (arith, same_count, same_phase);
        lifts = λ lines later soon early. (
          next,
          rest ++ lines,
          ap (λ (ls : List Timed). ls ++ lines) own,
          between,
          idle,
          still_due lines due,
          is_tape,
          subst (λ (ls : List Timed). LineGives o next.what (with_lines (rest ++ lines) w) (with_lines ls new)) (sym (ap (λ (ls : List Timed). ls ++ lines) l.kept.lines)) (l.gives (rest ++ lines)),
        );
      })
    where
      still_due : (lines : List Timed) → (is_due w ≡ true) ⊎ (nothing_steps w ≡ true)
          → (let v : World = with_lines (w.lines ++ lines) w in (is_due v ≡ true) ⊎ (nothing_steps v ≡ true))
      still_due lines (inl due) = inl (due_more w.lines lines w due)
      still_due lines (inr still) = inr still
  step_goes w (Dumped o) new (between, idle, undue, dumping, (r, s, step, is)) =
      let l = leaves_as w new _ is (dump_leaves _ r s w) in
      let owes : owed new.phase ≡ 1 = ap (λ (x : World). owed x.phase) is ∙ dump_owes _ r s w in
      let same = l.count in
      let free : owed w.phase ≡ 0 = ap owed between in
      inr (record {
        over = l.over;
        counts = omega (arith, same, owes, free);
        exact = omega (arith, same, owes);
        lifts = λ lines later soon early. (
          between,
          idle,
          due_behind w.lines lines w later (omega (arith, same, owes, soon)) early undue,
          dumping,
          (r, s, step, behind_by lines w new _ is (dump_leaves _ r s w).lines ∙ dump_lines _ r s w (w.lines ++ lines)),
        );
      })
  step_goes w (Begin number) new (idle, undue, ready, (place, job, chosen, there, named, is)) =
      let same : new.count ≡ w.count = ap (λ (x : World). x.count) is in
      let owes : owed new.phase ≡ 1 = ap (λ (x : World). owed x.phase) is in
      let most = owed_most w.phase in
      inr (record {
        over = ap (λ (x : World). x.over) is;
        counts = omega (arith, same, owes, most);
        exact = omega (arith, same, owes);
        lifts = λ lines later soon early. (
          idle,
          due_behind w.lines lines w later (omega (arith, same, owes, soon)) early undue,
          ready,
          (place, job, chosen, there, named, behind_by lines w new _ is refl),
        );
      })
  step_goes w (Answered o) new (number, call, more, job, answer, s, asks, here, step, real, is) =
      let same : new.count ≡ w.count = ap (λ (x : World). x.count) is in
      let owes : owed new.phase ≡ owed w.phase = ap (λ (x : World). owed x.phase) is in
      inr (record {
        over = ap (λ (x : World). x.over) is;
        counts = omega (arith, same, owes);
        exact = omega (arith, same, owes);
        lifts = λ lines later soon early. (number, call, more, job, answer, s, asks, here, step, real, behind_by lines w new _ is refl);
      })
  step_goes w (TurnOver number charge) new (work, job, turn, after, gives, here, priced, ends, is) =
      let l = leaves_as w new _ is (turn_leaves job after turn w) in
      let same = l.count in
      let owes : owed new.phase ≡ 1 = ap (λ (x : World). owed x.phase) is in
      let most = owed_most w.phase in
      inr (record {
        over = l.over;
        counts = omega (arith, same, owes, most);
        exact = omega (arith, same, owes);
        lifts = λ lines later soon early.
            (work, job, turn, after, gives, here, priced, ends, behind_by lines w new _ is (turn_leaves job after turn w).lines ∙ turn_lines job after turn w (w.lines ++ lines));
      })
  step_goes w Ticked new (idle, through, is) =
      let counts : new.count ≡ w.count + 1 = ap (λ (x : World). x.count) is in
      let free : owed new.phase ≡ 0 = ap (λ (x : World). owed x.phase) is in
      let most = owed_most w.phase in
      inr (record {
        over = ap (λ (x : World). x.over) is;
        counts = omega (arith, counts, most);
        exact = omega (arith, counts, free);
        lifts = λ lines later soon early. (idle, through, behind_by lines w new _ is refl);
      })
  step_goes w Over new (between, idle, own, nothing, going, is) =
      inl (record { is = refl; none = ap (λ (x : World). x.lines) is ∙ own; over = ap (λ (x : World). x.over) is; going = going })

  -- A RUN that isn't over behind them, and the count that it comes to
  pub record Comes (w : World) (moves : List Move) (last : World) : Type 0 where
    pub counts : w.count + owed w.phase ≤ last.count + owed last.phase
    pub lifts : (lines : List Timed) (later : ℕ) → last.count + owed last.phase ≤ later → NotBefore later lines
        → Run tariffs tariff rules rule (with_lines (w.lines ++ lines) w) moves (with_lines (last.lines ++ lines) last)

  pub run_comes : (w : World) (moves : List Move) (last : World) → last.over ≡ w.over → Run tariffs tariff rules rule w moves last → Comes w moves last
  run_comes w [] last over is = record {
    counts = let c : last.count + owed last.phase ≡ w.count + owed w.phase = ap (λ (x : World). x.count + owed x.phase) is in omega (arith, c);
    lifts = λ lines later soon early. ap (λ (x : World). with_lines (x.lines ++ lines) x) is;
  }
  run_comes w (move ∷ moves) last over (mid, step, rest) = by (λ so. run_comes mid moves last so rest) (step_goes w move mid step)
    where
      by : (last.over ≡ mid.over → Comes mid moves last) → Ends w move mid ⊎ Goes w move mid → Comes w (move ∷ moves) last
      by more (inl ends) = absurd (false_true (sym ends.going ∙ sym over ∙ stays tariffs tariff rules rule mid moves last ends.none ends.over rest))
      by more (inr g) =
          let c = more (over ∙ sym g.over) in
          let later = c.counts in
          let first = g.counts in
          record {
            counts = omega (arith, later, first);
            lifts = λ lines until soon early. (with_lines (mid.lines ++ lines) mid, g.lifts lines until (omega (arith, later, soon)) early, c.lifts lines until soon early);
          }
