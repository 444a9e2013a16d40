-- One tick, and the count after it.
-- serves: tick_on
use Rattle.std.proofs.Common.{◌≡◌, ◌+◌, ◌≤◌, ◌++◌, ℕ, Bool, true, false, not, List, [], ◌∷◌, Option, Some, None, append-nil, refl, sym, ◌∙◌, ap, subst, inl, arith, if◌then◌else◌}
use Rattle.std.specs.Prelude.{◌||◌}
use Rattle.std.specs.Fn.{Shared}
use Rattle.std.proofs.lemmas.Bool.{leb-false}
use denote.Ref.{Bor}
use Rattle.g_rules.specs.declared.tariff.Charge.{Charge}
use Rattle.g_rules.specs.declared.tariff.Usage.{Usage}
use Rattle.g_rules.specs.declared.rule.Standing.{Standing}
use Rattle.g_script.specs.declared.operator.Timed.{Timed}
use Rattle.g_store_meaning.specs.StoreInvariant.{StoreFacts}
use Rattle.g_run_model.specs.Moves.{Move, MovesCounted, Run, Ticked}
use Rattle.g_run_model.specs.World.{Between, Phase, World}
use Rattle.g_run_model.proofs.CountLemmas.{event_none, move_counted, moves_then}
use Rattle.g_run_model.proofs.TickLemmas.{tick_move}
use Rattle.g_run_model.proofs.TurnLemmas.{run_append}
use Rattle.g_job_table.specs.Crew.{CrewState}
use Rattle.g_day.specs.declared.progress.Failure.{Failure}
use Rattle.g_day.specs.Losses.{LeftAfter}
use Rattle.g_day.specs.Parts.{IsReady, Matches, Seen, seen}
use Rattle.g_day.specs.System.{SystemFacts, SystemSafe, Up, devices_in}
use Rattle.g_ticks.specs.Tick as ticks
use Rattle.g_ticks.specs.Tick.{Comes, DidTick, IsBetween, IsThrough, KeepsRun, MayTick, has_dump, left, some_job_steps}
use Rattle.g_ticks.specs.Parts.{Anything, Keeps, Leads, PartGoes, is_past, steps_in, turn_of}
use Rattle.g_ticks.specs.Turning.{left_of}
use Rattle.g_ticks.proofs.KeepLemmas.{kept_grown}
use Rattle.g_ticks.proofs.LeftLemmas.{left_up, seen_up}
use Rattle.g_ticks.proofs.PartLemmas.{none_arm}
use Rattle.g_ticks.proofs.RestLemmas.{due_is, nothing_is}
use Rattle.g_ticks.proofs.SameLemmas.{DidOne}
use Rattle.g_ticks.proofs.SurvivingLemmas.{left_same}

keeps_of : (old new : Seen) (failure : Option Failure) (faults faults' : ℕ) → KeepsRun old failure new faults faults' → Keeps [] old failure new faults faults'
keeps_of old new failure faults faults' keeps = record {
  ready = keeps.ready;
  numbers = λ none. let same : new.crew.next_job ≡ old.crew.next_job = keeps.numbers none in omega (arith, same);
  arms = none_arm (failure ≡ None) (devices_in old.system) (devices_in new.system) keeps.disc_arms keeps.tape_arms;
  same = keeps.same;
  belongs = keeps.belongs;
  safe = keeps.safe;
  dumps = λ was. kept_grown [] (devices_in old.system).rack (devices_in new.system).rack (keeps.dumps was);
  cause = keeps.cause;
}

module _ {F U : Type 0} (tariffs : Shared F (Bor Usage × Unit {0}) Charge) (tariff : F) (rules : Shared U (Bor Standing × Unit {0}) ℕ) (rule : U) where
  -- some more moves, which arm nothing and change only the count and the phase
  leads_at : (w : World) (old new : SystemFacts) (moves more : List Move) (next : World) (added : List ℕ) (n : ℕ) (p : Phase) → Comes tariffs tariff rules rule w old new moves next added
      → (let after : World = record next { count = n; phase = p } in Run tariffs tariff rules rule w more after) → MovesCounted more [] [] (devices_in old) (devices_in new)
      → (let after : World = record next { count = n; phase = p } in SystemSafe old → LeftAfter tariffs tariff rules rule w more after old new)
      → (let after : World = record next { count = n; phase = p } in Leads tariffs tariff rules rule w old new more after added)
  leads_at w old new moves more next added n p comes run counted left = record {
    disc_arms = [];
    tape_arms = [];
    run = run;
    counted = counted;
    stands = comes.stands;
    safe = comes.safe;
    left = left;
    bad = comes.keeps.bad;
    over = comes.keeps.over;
    disc_stops = comes.keeps.disc_stops ∙ sym (append-nil w.disc_stops);
    tape_stops = comes.keeps.tape_stops ∙ sym (append-nil w.tape_stops);
    text = comes.text;
  }

  leads_of : (w : World) (old new : SystemFacts) (moves : List Move) (next : World) (added : List ℕ) → Comes tariffs tariff rules rule w old new moves next added → Leads tariffs tariff rules rule w old new moves next added
  leads_of w old new moves next added comes = leads_at w old new moves moves next added next.count next.phase comes comes.run comes.counted comes.left

  -- the count rises
  abbrev raised : World → World
  raised w = record w { count = w.count + 1; phase = Between }

  leads_raised : (w : World) (old new : SystemFacts) (moves : List Move) (next : World) (added : List ℕ) → Comes tariffs tariff rules rule w old new moves next added → IsThrough next
      → Leads tariffs tariff rules rule w old new (moves ++ Ticked ∷ []) (raised next) added
  leads_raised w old new moves next added comes through =
      leads_at w old new moves (moves ++ Ticked ∷ []) next added (next.count + 1) Between comes
      (run_append tariffs tariff rules rule w moves (Ticked ∷ []) next (raised next) comes.run (tick_move tariffs tariff rules rule next through.0 through.1))
      (moves_then moves (Ticked ∷ []) [] [] [] [] (devices_in old) (devices_in new) (devices_in new) comes.counted
      (move_counted Ticked [] [] (devices_in new) (devices_in new) (event_none (devices_in new))))
      (λ was. left_same tariffs tariff rules rule w next (raised next) moves (Ticked ∷ []) old new comes.run comes.stands
      (λ down. (raised next, (through.0, through.1, refl), down, down, refl)) (comes.left was))

  module _ (limit : Option ℕ) (old : StoreFacts) (c : CrewState) (count : ℕ) (ready : IsReady (Up old) c) (undue : is_past limit count ≡ false) (steps : steps_in (seen (Up old) c count) ≡ true)
      (new : SystemFacts) (c' : CrewState) (before after : Option (List ℕ)) (faults faults' : ℕ) where
    may_tick : (w : World) → Matches w (seen (Up old) c count) → IsBetween w → turn_of w.lines ≡ limit → MayTick w
    may_tick w m between at = (
      between,
      due_is w ∙ ap (λ (l : Option ℕ). is_past l w.count) at ∙ ap (λ (n : ℕ). is_past limit n) m.count ∙ undue,
      nothing_is w (Up old) c count m ready ∙ ap (λ (b : Bool). not b) steps,
    )

    fall : (failure : Option Failure) → ticks.Falls (has_dump (Up old) || some_job_steps (seen (Up old) c count)) (seen (Up old) c count) failure (seen new c' count)
        → failure ≡ None → left (seen new c' count) + 1 ≤ left (seen (Up old) c count)
    fall failure falls none = subst (λ (b : Bool). left (seen new c' count) + (if b then 1 else 0) ≤ left (seen (Up old) c count)) steps (falls none)

    -- the turn of the next line isn't reached
    early : (turn : ℕ) → limit ≡ Some turn → count + 1 ≤ turn
    early turn is =
        let before : is_past (Some turn) count ≡ false = subst (λ (l : Option ℕ). is_past l count ≡ false) is undue in
        let below = leb-false turn count before in
        omega (arith, below)

    -- the tick is over
    pub ticked : DidTick tariffs tariff rules rule (seen (Up old) c count) None (seen new c' count) before after faults faults'
        → DidOne tariffs tariff rules rule limit (seen (Up old) c count) None (seen new c' (count + 1)) before after faults faults'
    ticked did = record {
      did = record { goes = goes; keeps = keeps; late = λ none turn is. inl (early turn is); grows = did.grows; aside = λ blank. absurd blank };
      counts = λ none. refl;
      falls = fall None did.falls;
    }
      where
        goes : (lines : List Timed) → turn_of lines ≡ limit → PartGoes tariffs tariff rules rule Anything lines lines (seen (Up old) c count) None (seen new c' (count + 1)) before after
        goes lines at w m between is =
            let (moves, next, added, comes, matches, through, put) = did.goes w m (may_tick w m between (ap turn_of is ∙ at)) in record {
              moves = moves ++ Ticked ∷ [];
              next = raised next;
              added = added;
              leads = leads_raised w (Up old) new moves next added comes through;
              matches = record {
                stands = matches.stands;
                crew = record { jobs = matches.crew.jobs; accounts = matches.crew.accounts; next_job = matches.crew.next_job };
                count = ap (λ (n : ℕ). n + 1) matches.count;
              };
              between = record { phase = refl; turn = through.0 };
              lines = comes.keeps.lines ∙ is;
              rests = tt;
              put = put;
            }

        keeps : Keeps [] (seen (Up old) c count) None (seen new c' (count + 1)) faults faults'
        keeps =
            let k = keeps_of (seen (Up old) c count) (seen new c' count) None faults faults' did.keeps in
            record { ready = k.ready; numbers = k.numbers; arms = k.arms; same = k.same; belongs = k.belongs; safe = k.safe; dumps = k.dumps; cause = k.cause }

    -- the tick isn't over, and the count doesn't change
    module _ (count' : ℕ) where
      short_keeps : (failure : Failure) → KeepsRun (seen (Up old) c count) (Some failure) (seen new c' count) faults faults' → Keeps [] (seen (Up old) c count) (Some failure) (seen new c' count') faults faults'
      short_keeps failure keeps =
          let k = keeps_of (seen (Up old) c count) (seen new c' count) (Some failure) faults faults' keeps in
          record { ready = k.ready; numbers = k.numbers; arms = k.arms; same = k.same; belongs = k.belongs; safe = k.safe; dumps = k.dumps; cause = k.cause }

      pub failed : (failure : Failure) → DidTick tariffs tariff rules rule (seen (Up old) c count) (Some failure) (seen new c' count) before after faults faults'
          → DidOne tariffs tariff rules rule limit (seen (Up old) c count) (Some failure) (seen new c' count') before after faults faults'
      failed failure did = record {
        did = record { goes = goes; keeps = short_keeps failure did.keeps; late = λ none turn is. absurd (let no : ⊥ = cc in no); grows = did.grows; aside = λ blank. absurd blank };
        counts = λ none. absurd (let no : ⊥ = cc in no);
        falls = fall (Some failure) did.falls;
      }
        where
          goes : (lines : List Timed) → turn_of lines ≡ limit → PartGoes tariffs tariff rules rule Anything lines lines (seen (Up old) c count) (Some failure) (seen new c' count') before after
          goes lines at w m between is =
              let (moves, next, added, comes, part) = did.goes w m (may_tick w m between (ap turn_of is ∙ at)) in
              record { moves = moves; next = next; added = added; leads = leads_of w (Up old) new moves next added comes; put = part }

    -- BY ITS OUTCOME
    pub one_did : (failure : Option Failure) → DidTick tariffs tariff rules rule (seen (Up old) c count) failure (seen new c' count) before after faults faults' → (came : Option Failure) (n : ℕ)
        → came ≡ failure → (failure ≡ None → n ≡ count + 1) → DidOne tariffs tariff rules rule limit (seen (Up old) c count) came (seen new c' n) before after faults faults'
    one_did failure did came n is counts =
        subst (λ (f : Option Failure). DidOne tariffs tariff rules rule limit (seen (Up old) c count) f (seen new c' n) before after faults faults') (sym is) (by failure did counts)
      where
        by : (f : Option Failure) → DidTick tariffs tariff rules rule (seen (Up old) c count) f (seen new c' count) before after faults faults' → (f ≡ None → n ≡ count + 1)
            → DidOne tariffs tariff rules rule limit (seen (Up old) c count) f (seen new c' n) before after faults faults'
        by None tick more =
            subst (λ (m : ℕ). DidOne tariffs tariff rules rule limit (seen (Up old) c count) None (seen new c' m) before after faults faults') (sym (more refl)) (ticked tick)
        by (Some fault) tick more = failed n fault tick

  -- the same if the system was seen by the store that it has left
  pub one_here : (limit : Option ℕ) (old : StoreFacts) (c : CrewState) (count : ℕ) → old.spent ≡ false → IsReady (left_of old) c → is_past limit count ≡ false → steps_in (seen (Up old) c count) ≡ true
      → (new : SystemFacts) (c' : CrewState) (before after : Option (List ℕ)) (faults faults' : ℕ) (failure : Option Failure)
      → DidTick tariffs tariff rules rule (seen (Up old) c count) failure (seen new c' count) before after faults faults' → (n : ℕ) → (failure ≡ None → n ≡ count + 1)
      → DidOne tariffs tariff rules rule limit (seen (left_of old) c count) failure (seen new c' n) before after faults faults'
  one_here limit old c count running ready undue steps new c' before after faults faults' failure did n counts =
      subst (λ (s : Seen). DidOne tariffs tariff rules rule limit s failure (seen new c' n) before after faults faults') (sym (seen_up old c count running))
      (one_did limit old c count (subst (λ (f : SystemFacts). IsReady f c) (left_up old running) ready) undue steps new c' before after faults faults' failure did failure n refl counts)
