-- The two parts of a tick, one after the other.
-- serves: tick (did), PartLemmas, crates above
use Rattle.std.proofs.Common.{◌≡◌, ◌+◌, ◌≤◌, ◌++◌, ℕ, Bool, true, false, List, [], ◌∷◌, Option, Some, None, Result, Ok, Err, append_assoc, append-nil, is_some, length, take, refl, sym, ◌∙◌, ap, subst, inl, inr, arith, if◌then◌else◌}
use Rattle.std.specs.Prelude.{◌||◌}
use Rattle.std.proofs.lemmas.List.{length-append}
use Rattle.std.proofs.Math.Seq.{take-append-add}
use Rattle.std.specs.Fn.{Shared}
use denote.Ref.{Bor}
use Rattle.g_rules.specs.declared.tariff.Charge.{Charge}
use Rattle.g_rules.specs.declared.tariff.Usage.{Usage}
use Rattle.g_rules.specs.declared.rule.Standing.{Standing}
use Rattle.g_io.specs.Streams.{HasPutPart, with_more}
use Rattle.g_plain.specs.declared.faults.StoreFault.{StoreFault}
use Rattle.g_plain.specs.declared.faults.StoreFault.TheVariants.{Stopped}
use Rattle.g_store_meaning.specs.StoreInvariant.{StoreFacts}
use Rattle.g_store_model.specs.CallStep.{down}
use Rattle.g_store_model.specs.DumpSteps.{Completed, Going, Stepped as DumpStepped}
use Rattle.g_store_model.specs.State.{OpenDump, State}
use Rattle.g_run_model.specs.Devices.{Devices}
use Rattle.g_run_model.specs.Events.{IsDumpStep}
use Rattle.g_run_model.specs.Losses.{AsRead, DownSince, MayBeLeft, OtherEnd}
use Rattle.g_run_model.specs.Moves.{Dumped, Move, MovesCounted, Step, dump_told}
use Rattle.g_run_model.specs.World.{KeepsLines, World, is_due}
use Rattle.g_run_model.proofs.CountLemmas.{event_none, move_counted, moves_then}
use Rattle.g_run_model.proofs.CountedTurnLemmas.{keeps_itself}
use Rattle.g_run_model.proofs.TickLemmas.{dump_keeps_lines}
use Rattle.g_run_model.proofs.TurnLemmas.{run_append}
use Rattle.g_job_table.specs.Crew.{CrewState}
use Rattle.g_day.specs.declared.progress.Failure.{Failure}
use Rattle.g_day.specs.Losses.{LeftAfter, SystemLeaves}
use Rattle.g_day.specs.Parts.{Seen, seen}
use Rattle.g_day.specs.Puts.{FaultCause}
use Rattle.g_day.specs.System.{Down, IsRunning, StandsAs, SystemFacts, SystemSafe, Up, devices_in}
use Rattle.g_ticks.proofs.DumpLemmas.{one_if, told_store}
use Rattle.g_ticks.proofs.SurvivingLemmas.{left_itself, left_then}
use Rattle.g_ticks.specs.Tick.{Comes, DumpGoes, DidDump, DidTick, DidTurn, DumpComes, Falls, GoesBy, IsThrough, KeepsRun, MayTick, MayTurn, StepMayLeave, StepsNothing, StepsTo, has_dump, left, some_job_steps}
use Rattle.g_ticks.specs.Tick as tick
use Rattle.g_day.proofs.GrowLemmas.{grow_then}
use Rattle.g_day.proofs.LabelLemmas.{same_then}
use Rattle.g_day.proofs.PutLemmas.{grown_then, with_more-append}

-- texts, one after another
pub put_on : (before middle after : Option (List ℕ)) (a b : List ℕ) → middle ≡ with_more before a → HasPutPart middle b after → HasPutPart before (a ++ b) after
put_on before middle after a b whole part = (
  length a + part.0,
  simp length-append (omega (arith, part.1)),
  part.2 ∙ ap (λ m. with_more m (take part.0 b)) whole ∙ with_more-append before a (take part.0 b) ∙ ap (λ t. with_more before t) (sym (take-append-add a b part.0)),
)

keeps_then : (w mid new : World) → KeepsLines w mid → KeepsLines mid new → KeepsLines w new
keeps_then w mid new first later = record {
  lines = later.lines ∙ first.lines;
  bad = later.bad ∙ first.bad;
  over = later.over ∙ first.over;
  count = later.count ∙ first.count;
  disc_stops = later.disc_stops ∙ first.disc_stops;
  tape_stops = later.tape_stops ∙ first.tape_stops;
}

told_turn : (n : ℕ) (r : Result DumpStepped StoreFault) (s : State) (w : World) → (dump_told n r s w).turn ≡ w.turn
told_turn n (Ok Going) s w = refl
told_turn n (Ok (Completed m)) s w = refl
told_turn n (Err Stopped) s w = refl
told_turn n (Err fault) s w = refl

told_due : (n : ℕ) (r : Result DumpStepped StoreFault) (s : State) (w : World) → is_due (dump_told n r s w) ≡ is_due w
told_due n (Ok Going) s w = refl
told_due n (Ok (Completed m)) s w = refl
told_due n (Err Stopped) s w = refl
told_due n (Err fault) s w = refl

abbrev number_by : Option OpenDump → ℕ
number_by d = elim d [ None ↦ 0 | Some x ↦ x.number ]

module _ {F U : Type 0} (tariffs : Shared F (Bor Usage × Unit {0}) Charge) (tariff : F) (rules : Shared U (Bor Standing × Unit {0}) ℕ) (rule : U) where
  -- TWO PARTS
  comes_then : (w mid new : World) (old now last : SystemFacts) (ms ns : List Move) (a b : List ℕ) → IsRunning now → Comes tariffs tariff rules rule w old now ms mid a → Comes tariffs tariff rules rule mid now last ns new b
      → Comes tariffs tariff rules rule w old last (ms ++ ns) new (a ++ b)
  comes_then w mid new old now last ms ns a b running first later = record {
    run = run_append tariffs tariff rules rule w ms ns mid new first.run later.run;
    counted = moves_then ms ns [] [] [] [] (devices_in old) (devices_in now) (devices_in last) first.counted later.counted;
    stands = later.stands;
    safe = λ safe. later.safe (first.safe safe);
    left = λ safe. left_then tariffs tariff rules rule w mid new ms ns old now last first.run running first.stands later.stands (first.left safe) (later.left (first.safe safe));
    keeps = keeps_then w mid new first.keeps later.keeps;
    text = later.text ∙ ap (λ (t : List ℕ). t ++ b) first.text ∙ append_assoc w.text a b;
  }

  -- THE DUMP'S STEP, as moves
  module _ (w : World) (old new : SystemFacts) (next : World) (added : List ℕ) (keeps : SystemSafe old → SystemSafe new) where
    module _ (may : MayTick w) (s : StepsTo w old new next added) where
      dumped_by : (answer : Result DumpStepped StoreFault) (state : State) (end : World) → IsDumpStep w.store s.outcome answer state → end ≡ dump_told (number_by w.store.open_dump) answer state w
          → Step tariffs tariff rules rule w (Dumped s.outcome) end
      dumped_by answer state end event told = (may.0.phase, may.0.turn, may.1, ap (λ (x : Option OpenDump). is_some x) s.opened, (answer, state, event, told))

      step_is : Step tariffs tariff rules rule w (Dumped s.outcome) next
      step_is = dumped_by s.answer s.state next s.event (s.next_is ∙ ap (λ (x : Option OpenDump). dump_told (number_by x) s.answer s.state w) (sym s.opened))

      -- a state that the step may leave is one that the move may leave
      last_up : DownSince tariffs tariff rules rule w (Dumped s.outcome ∷ []) next (Dumped s.outcome ∷ []) [] next
      last_up = record { split = refl; led = (next, step_is, refl); rest = refl }

      move_leaves : (u : State) → StepMayLeave w.store s.outcome s.state u → MayBeLeft tariffs tariff rules rule w (Dumped s.outcome ∷ []) next u
      move_leaves u (tick.AsRead same) =
          let store : next.store ≡ s.state = ap (λ (v : World). v.store) s.next_is ∙ told_store s.dump.number s.answer s.state w in
          AsRead (Dumped s.outcome ∷ []) [] next last_up (same ∙ sym (ap down store))
      move_leaves u (tick.OtherEnd cut other event same) =
          let end : World = dump_told (number_by w.store.open_dump) (Err Stopped) other w in
          OtherEnd [] [] (Dumped s.outcome) w next end refl last_up cut step_is (dumped_by (Err Stopped) other end event refl) same

      step_left : (f : SystemFacts) → SystemLeaves (λ u. StepMayLeave w.store s.outcome s.state u) ⊥ old f → LeftAfter tariffs tariff rules rule w (Dumped s.outcome ∷ []) next old f
      step_left (Up t) leaves = tt
      step_left (Down d) leaves = λ blocks rack left. elim (leaves blocks rack left) [
        | inl here ↦ inl (here.0, move_leaves here.0 here.1, here.2)
        | inr never ↦ absurd never.0
      ]

      step_comes : (moves : List Move) × Comes tariffs tariff rules rule w old new moves next added
      step_comes = (
        Dumped s.outcome ∷ [],
        record {
          run = (next, step_is, refl);
          counted = move_counted (Dumped s.outcome) [] [] (devices_in old) (devices_in new) s.counted;
          stands = s.stands;
          safe = keeps;
          left = λ safe. step_left new (s.left safe);
          keeps = subst (λ (v : World). KeepsLines w v) (sym s.next_is) (dump_keeps_lines s.dump.number s.answer s.state w);
          text = s.text;
        },
      )

    nothing_comes : StandsAs old w.store → StepsNothing w old new next added → (moves : List Move) × Comes tariffs tariff rules rule w old new moves next added
    nothing_comes stands n = (
      [],
      record {
        run = n.next_is;
        counted = subst (λ (f : SystemFacts). MovesCounted [] [] [] (devices_in old) (devices_in f)) (sym n.same) (event_none (devices_in old));
        stands = subst (λ (f : SystemFacts). StandsAs f next.store) (sym n.same) (subst (λ (v : World). StandsAs old v.store) (sym n.next_is) stands);
        safe = keeps;
        left = λ safe. subst (λ (f : SystemFacts). LeftAfter tariffs tariff rules rule w [] next old f) (sym n.same)
            (subst (λ (v : World). LeftAfter tariffs tariff rules rule w [] v old old) (sym n.next_is) (left_itself tariffs tariff rules rule w old));
        keeps = subst (λ (v : World). KeepsLines w v) (sym n.next_is) (keeps_itself w);
        text = ap (λ (v : World). v.text) n.next_is ∙ sym (append-nil w.text) ∙ ap (λ (t : List ℕ). w.text ++ t) (sym n.text);
      },
    )

    dump_comes : MayTick w → StandsAs old w.store → DumpComes w old new next added → (moves : List Move) × Comes tariffs tariff rules rule w old new moves next added
    dump_comes may stands (inl n) = nothing_comes stands n
    dump_comes may stands (inr s) = step_comes may s

  -- afterwards a turn may begin, or the tick is done
  may_turn : (w : World) (old : SystemFacts) (mid : StoreFacts) (next : World) (added : List ℕ) → MayTick w → DumpComes w old (Up mid) next added → MayTurn next
  may_turn w old mid next added may (inl n) =
      subst (λ (v : World). MayTurn v) (sym n.next_is)
      (may.0.turn, may.1, inl (may.0.phase, ap (λ (x : Option OpenDump). is_some x) n.none, may.2))
  may_turn w old mid next added may (inr s) = (
    ap (λ (v : World). v.turn) s.next_is ∙ told_turn s.dump.number s.answer s.state w ∙ may.0.turn,
    ap (λ (v : World). is_due v) s.next_is ∙ told_due s.dump.number s.answer s.state w ∙ may.1,
    inr s.phase,
  )

  is_through : (w : World) (old : StoreFacts) (d : Devices) (next : World) (added : List ℕ) → MayTick w → DumpComes w (Up old) (Down d) next added → IsThrough next
  is_through w old d next added may (inl n) = absurd (let is = n.same in let no : ⊥ = cc in no)
  is_through w old d next added may (inr s) = (ap (λ (v : World). v.turn) s.next_is ∙ told_turn s.dump.number s.answer s.state w ∙ may.0.turn, inl s.phase)

  -- A TICK: both parts
  module _ (old : StoreFacts) (c : CrewState) (count : ℕ) (mid : StoreFacts) (c1 : CrewState) (before middle : Option (List ℕ)) (faults faults1 : ℕ)
      (dumped : DidDump (seen (Up old) c count) None (seen (Up mid) c1 count) before middle faults faults1)
      (new : SystemFacts) (c2 : CrewState) (after : Option (List ℕ)) (faults2 : ℕ) where
    both_go : (failure : Option Failure) → GoesBy tariffs tariff rules rule MayTurn IsThrough (seen (Up mid) c1 count) failure (seen new c2 count) middle after
        → GoesBy tariffs tariff rules rule MayTick IsThrough (seen (Up old) c count) failure (seen new c2 count) before after
    both_go None turned = λ w m may.
        let (next, a, comes, matches, put) = dumped.goes w m in
        let (ms, first) = dump_comes w (Up old) (Up mid) next a dumped.keeps.safe may m.stands comes in
        let (ns, last, b, later, fits, through, put2) = turned next matches (may_turn w (Up old) mid next a may comes) in
        (ms ++ ns, last, a ++ b, comes_then w next last (Up old) (Up mid) new ms ns a b (dumped.keeps.ready refl).0.0 first later, fits, through, put2 ∙ ap (λ (t : Option (List ℕ)). with_more t b) put ∙ with_more-append before a b)
    both_go (Some failure) turned = λ w m may.
        let (next, a, comes, matches, put) = dumped.goes w m in
        let (ms, first) = dump_comes w (Up old) (Up mid) next a dumped.keeps.safe may m.stands comes in
        let (ns, last, b, later, part) = turned next matches (may_turn w (Up old) mid next a may comes) in
        (ms ++ ns, last, a ++ b, comes_then w next last (Up old) (Up mid) new ms ns a b (dumped.keeps.ready refl).0.0 first later, put_on before middle after a b put part)

    both_keep : (failure : Option Failure) → KeepsRun (seen (Up mid) c1 count) failure (seen new c2 count) faults1 faults2 → KeepsRun (seen (Up old) c count) failure (seen new c2 count) faults faults2
    both_keep failure turned = record {
      ready = turned.ready;
      disc_arms = turned.disc_arms ∙ dumped.keeps.disc_arms;
      tape_arms = turned.tape_arms ∙ dumped.keeps.tape_arms;
      same = same_then (devices_in (Up old)) (devices_in (Up mid)) (devices_in new) dumped.keeps.same turned.same;
      belongs = λ was. turned.belongs (dumped.keeps.belongs was);
      safe = λ was. turned.safe (dumped.keeps.safe was);
      dumps = λ was. grow_then old.rack mid.rack (devices_in new).rack (dumped.keeps.dumps was) (turned.dumps (dumped.keeps.belongs was));
      cause = subst (λ (n : ℕ). FaultCause failure n faults2) dumped.keeps.cause turned.cause;
      numbers = λ e. turned.numbers e ∙ dumped.keeps.numbers refl;
    }

    -- without a dump the turn has as much to do as before
    both_fall : (failure : Option Failure) → Falls (some_job_steps (seen (Up mid) c1 count)) (seen (Up mid) c1 count) failure (seen new c2 count)
        → Falls (has_dump (Up old) || some_job_steps (seen (Up old) c count)) (seen (Up old) c count) failure (seen new c2 count)
    both_fall failure turned = λ e. by (has_dump (Up old)) refl e
      where
        by : (b : Bool) → has_dump (Up old) ≡ b → failure ≡ None → left (seen new c2 count) + (if b || some_job_steps (seen (Up old) c count) then 1 else 0) ≤ left (seen (Up old) c count)
        by true is e =
            let first : left (seen (Up mid) c1 count) + (if has_dump (Up old) then 1 else 0) ≤ left (seen (Up old) c count) = dumped.falls refl in
            let one : one_if (has_dump (Up old)) ≡ one_if true = ap one_if is in
            let later : left (seen new c2 count) + (if some_job_steps (seen (Up mid) c1 count) then 1 else 0) ≤ left (seen (Up mid) c1 count) = turned e in
            omega (arith, first, one, later)
        by false is e =
            let later : left (seen new c2 count) + (if some_job_steps (seen (Up mid) c1 count) then 1 else 0) ≤ left (seen (Up mid) c1 count) = turned e in
            subst (λ (x : Seen). left (seen new c2 count) + (if some_job_steps x then 1 else 0) ≤ left x) (dumped.idle is) later

  pub both_did : (old : StoreFacts) (c : CrewState) (count : ℕ) (mid : StoreFacts) (c1 : CrewState) (before middle : Option (List ℕ)) (faults faults1 : ℕ)
      → DidDump (seen (Up old) c count) None (seen (Up mid) c1 count) before middle faults faults1
      → (new : SystemFacts) (c2 : CrewState) (failure : Option Failure) (after : Option (List ℕ)) (faults2 : ℕ)
      → DidTurn tariffs tariff rules rule (seen (Up mid) c1 count) failure (seen new c2 count) middle after faults1 faults2
      → DidTick tariffs tariff rules rule (seen (Up old) c count) failure (seen new c2 count) before after faults faults2
  both_did old c count mid c1 before middle faults faults1 dumped new c2 failure after faults2 turned = record {
    goes = both_go old c count mid c1 before middle faults faults1 dumped new c2 after faults2 failure turned.goes;
    keeps = both_keep old c count mid c1 before middle faults faults1 dumped new c2 after faults2 failure turned.keeps;
    falls = both_fall old c count mid c1 before middle faults faults1 dumped new c2 after faults2 failure turned.falls;
    grows = grown_then before middle after dumped.grows turned.grows;
  }

  -- if the dump's step ends it: by a failure, or by a stop
  pub dump_did : (old : StoreFacts) (c : CrewState) (count : ℕ) (new : SystemFacts) (c2 : CrewState) (failure : Option Failure) (before after : Option (List ℕ)) (faults faults2 : ℕ)
      → (failure ≡ None → (d : Devices) × (new ≡ Down d)) → DidDump (seen (Up old) c count) failure (seen new c2 count) before after faults faults2
      → DidTick tariffs tariff rules rule (seen (Up old) c count) failure (seen new c2 count) before after faults faults2
  dump_did old c count new c2 failure before after faults faults2 down dumped = record { goes = go failure dumped.goes down; keeps = dumped.keeps; falls = fall; grows = dumped.grows }
    where
      go : (f : Option Failure) → DumpGoes (seen (Up old) c count) f (seen new c2 count) before after → (f ≡ None → (d : Devices) × (new ≡ Down d))
          → GoesBy tariffs tariff rules rule MayTick IsThrough (seen (Up old) c count) f (seen new c2 count) before after
      go None goes is = λ w m may.
          let (next, a, comes, matches, put) = goes w m in
          let (ms, first) = dump_comes w (Up old) new next a dumped.keeps.safe may m.stands comes in
          let (d, at) = is refl in
          (ms, next, a, first, matches, is_through w old d next a may (subst (λ (f : SystemFacts). DumpComes w (Up old) f next a) at comes), put)
      go (Some f) goes is = λ w m may.
          let (next, a, comes, part) = goes w m in
          let (ms, first) = dump_comes w (Up old) new next a dumped.keeps.safe may m.stands comes in (ms, next, a, first, part)

      fall_by : (b : Bool) → has_dump (Up old) ≡ b → failure ≡ None → left (seen new c2 count) + (if b || some_job_steps (seen (Up old) c count) then 1 else 0) ≤ left (seen (Up old) c count)
      fall_by true is e = subst (λ (b : Bool). left (seen new c2 count) + (if b then 1 else 0) ≤ left (seen (Up old) c count)) is (dumped.falls e)
      fall_by false is e =
          let (d, at) = down e in
          let same : new ≡ Up old = ap (λ (x : Seen). x.system) (dumped.idle is) in
          let no : ⊥ = cc in absurd no

      fall : Falls (has_dump (Up old) || some_job_steps (seen (Up old) c count)) (seen (Up old) c count) failure (seen new c2 count)
      fall = λ e. fall_by (has_dump (Up old)) refl e
