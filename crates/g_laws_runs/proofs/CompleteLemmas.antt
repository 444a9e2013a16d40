-- An open dump during which no device fails, move by move.
-- serves: undisturbed_dumps_complete (going, needs), crates above
use Rattle.std.proofs.Common.{◌≡◌, ℕ, ◌+◌, ◌<◌, List, [], ◌∷◌, Option, Some, None, refl, sym, ◌∙◌, ap, subst, inl, inr, arith}
use Rattle.std.specs.Prelude.{◌≢◌, ◌⊎◌, ◌||◌, Bool, true, false, Result, Ok, Err, MatchOption, option_map, sum_by, if◌then◌else◌}
use Rattle.std.specs.FinMap.{FinMap}
use Rattle.std.specs.List.{AllByRecursion}
use Rattle.std.specs.Ordering.{nat_cmp}
use Rattle.std.proofs.lemmas.List.Elements.{recursion_from_All}
use Rattle.std.proofs.lemmas.List.Sums.{sum_by-cons}
use Rattle.std.specs.Fn.{Shared}
use denote.Ref.{Bor}
use Rattle.g_rules.specs.declared.tariff.Charge.{Charge}
use Rattle.g_rules.specs.declared.tariff.Usage.{Usage}
use Rattle.g_rules.specs.declared.rule.Standing.{Standing}
use Rattle.g_plain.specs.PlainStep.{first_fault, reply_to}
use Rattle.g_plain.specs.declared.calls.StoreCall.{StoreCall}
use Rattle.g_plain.specs.declared.calls.StoreReply.{StoreReply}
use Rattle.g_plain.specs.declared.faults.StoreFault.{StoreFault}
use Rattle.g_plain.specs.declared.faults.StoreFault.TheVariants.{DiscReadFault, NoTape, NotMounted, Stopped, TapeBusy, TapeReadFault}
use Rattle.g_store_model.specs.CallStep.{CallStep, Cut, LeftByRefusal, Outcome, Plain, Planned, TapeRead, after_call, brings_now, commits, down, early, held_after, late, touched_by, writes, after_unjam}
use Rattle.g_store_model.specs.DumpSteps.{Completed, DumpStep, Event, Going, MigrateStep, OpenStep, Stepped, completed, is_busy, open_refuses, opening, uses}
use Rattle.g_store_model.specs.Process.{ProcessStep, Processes, moved, process_refuses, process_refuses_late, with_cut}
use Rattle.g_store_model.specs.Rising.{RestoreStep, StartStep}
use Rattle.g_store_model.specs.State.{Holding, OpenDump, Place, State, lacks, Dumped as DumpedTree}
use Rattle.g_run_model.specs.Laws.{IsPlain}
use Rattle.g_run_model.specs.Moves.{Answered, Begin, Dumped, Move, Over, Run, Step, TakeLine, Ticked, TurnOver, outcome_of}
use Rattle.g_run_model.specs.World.{World, start}
use Rattle.g_run_model.proofs.EventToldLemmas.{call_told, migrate_told, open_told}
use Rattle.g_run_model.proofs.ProcessedLemmas.{marked_only, noted, of_each}
use Rattle.g_run_model.proofs.TreeLemmas.{dump_store}
use Rattle.g_laws_runs.specs.Completion.{Completes, DumpsComplete, DumpsGoOn, IsOpenAt}
use Rattle.g_laws_runs.specs.Dumps.{IsSameDump, dump_steps}
use Rattle.g_laws_runs.proofs.DumpLemmas.{one_dump, open_refused}
use Rattle.g_laws_runs.proofs.RefusedLemmas.{unstopped}
use Rattle.g_laws_runs.proofs.WalkLemmas.{AreKept, IsQuiet, move_kept, quiet_kept}
use Rattle.g_run_model.proofs.StepLemmas.{call_kept, restore_kept, start_kept}

-- A DUMP IS OPEN only of a system that is up, and has a step left
abbrev pub IsSound : State → Type 0
IsSound s = (d : OpenDump) → s.open_dump ≡ Some d → (s.up ≡ true) × (d.done < d.needs)

abbrev pub KeepsSound : Outcome → State → State → Type 0
KeepsSound o s new = IsSound s → IsSound new

none_open : {P : Type 0} (d : OpenDump) (x : Option OpenDump) → x ≡ None → x ≡ Some d → P
none_open d x none is = let both : None ≡ Some d = sym none ∙ is in absurd (let no : ⊥ = cc in no)

no_dump : {P : Type 0} (d : OpenDump) → (let none : Option OpenDump = None in none ≡ Some d) → P
no_dump d e = absurd (let no : ⊥ = cc in no)

pub sound_none : (s : State) → s.open_dump ≡ None → IsSound s
sound_none s none = λ d is. none_open d s.open_dump none is

sound_at : (s new : State) → new ≡ s → IsSound s → IsSound new
sound_at s new is it = subst (λ (x : State). IsSound x) (sym is) it

event_sound : {A : Type 0} (f : Option StoreFault) (reply : A) (s after : State) (r : Result A StoreFault) (new : State) → IsSound s → IsSound after → Event f reply s after r new → IsSound new
event_sound None reply s after r new old done (ok, is) = sound_at after new is done
event_sound (Some Stopped) reply s after r new old done (err, inl is) = sound_none new (ap (λ (x : State). x.open_dump) is)
event_sound (Some Stopped) reply s after r new old done (err, inr is) = sound_none new (ap (λ (x : State). x.open_dump) is)
event_sound (Some fault) reply s after r new old done (err, is) = sound_at s new is old

start_sound : (s : State) (o : Outcome) (r : Result (Option ℕ) StoreFault) (new : State) → IsSound s → StartStep s o r new → IsSound new
start_sound s o r new old step = start_kept (λ (x : State). IsSound x) s old (sound_none (down s) refl) (λ k e d is. no_dump d is) (λ k e d is. no_dump d is) o r new step

restore_sound : (s : State) (o : Outcome) (r : Result ℕ StoreFault) (new : State) → IsSound s → RestoreStep s o r new → IsSound new
restore_sound s o r new old step = restore_kept (λ (x : State). IsSound x) s old (sound_none (down s) refl) (λ t e d is. no_dump d is) (λ t e d is. no_dump d is) o r new step

two_more : (a b c : ℕ) → 0 < 2 + a + b + c
two_more a b c = omega arith

opened_sound : (s : State) (d : OpenDump) → s.up ≡ true → s.open_dump ≡ Some d → d.done < d.needs → IsSound s
opened_sound s d up is less = λ e there.
    let same : d ≡ e = one_dump d e (sym is ∙ there) in
    (up, subst (λ (x : OpenDump). x.done < x.needs) same less)

-- a call notes whose directory it changes, and nothing else of the dump
touched_sound : (s t : State) (k : Holding) (who : List ℕ) (call : StoreCall) (x : Option OpenDump) → s.open_dump ≡ x → t.up ≡ s.up → t.open_dump ≡ option_map (touched_by s k who call) x → IsSound s → IsSound t
touched_sound s t k who call None is up there old = sound_none t there
touched_sound s t k who call (Some d) is up there old =
    let at_s = old d is in
    opened_sound t (touched_by s k who call d) (up ∙ at_s.0) there at_s.1

either_sound : (b : Bool) (t s : State) → IsSound t → IsSound s → IsSound (if b then t else s)
either_sound true t s one other = one
either_sound false t s one other = other

after_sound : (s : State) (k : Holding) (who : List ℕ) (call : StoreCall) (until : ℕ) → IsSound s → IsSound (after_call s k who call until)
after_sound s k who call until old =
    let then_held : State = record (commits s (held_after s k who call until)) { open_dump = option_map (touched_by s k who call) s.open_dump } in
    either_sound (writes call || brings_now s k who call) then_held s (touched_sound s then_held k who call s.open_dump refl refl refl old) old

call_sound : (s : State) (k : Holding) (who : List ℕ) (call : StoreCall) (o : Outcome) (answer : Result StoreReply StoreFault) (new : State) → IsSound s → CallStep s k who call o answer new → IsSound new
call_sound s k who call o answer new old step =
    call_kept (λ (x : State). IsSound x) s k who call old (sound_none (down s) refl) (λ until. sound_none (down (after_unjam s k who call until)) refl) (λ until. after_sound s k who call until old)
    (λ until. sound_none (down (after_call s k who call until)) refl) o answer new step

-- PROCESS leaves an open dump unchanged, or, if it stops, none
process_sound : (s : State) (k : Holding) (serial : ℕ) (o : Outcome) (r : Result ℕ StoreFault) (new : State) → IsSound s → ProcessStep s k serial o r new → IsSound new
process_sound s k serial o r new old step =
    of_each IsSound s k serial
    (record {
      same = old;
      gone = sound_none (down s) refl;
      noted_up = λ used. old;
      noted_down = λ used. sound_none (down (noted s k serial used)) refl;
      marked_down = λ d is. sound_none (down (marked_only s k serial d)) refl;
      moved_up = λ places d until is. old;
      moved_down = λ places d until cut is. sound_none (down (with_cut cut (moved s k serial places d until))) refl;
    }) o r new step

sound_kept : AreKept KeepsSound
sound_kept = record {
  itself = λ s old. old;
  format = λ s o r new low step so old. event_sound _ _ s _ r new old (λ d is. no_dump d is) step;
  start = λ s o r new low step so old. start_sound s o r new old step;
  restore = λ s o r new low step so old. restore_sound s o r new old step;
  shut = λ s none old. sound_none (down s) refl;
  mount = λ s serial r new step old. event_sound _ _ s _ r new old old step;
  unmount = λ s serial r new step old. event_sound _ _ s _ r new old old step;
  opening = λ s k serial o r new up holds (places, noted, event) so old. event_sound _ _ s _ r new old (opened_sound (opening s k serial places) _ up refl (two_more _ _ _)) event;
  process = λ s k serial o r new up holds step so old. process_sound s k serial o r new old step;
  migrate = λ s k user full o r new holds event so old. event_sound _ _ s _ r new old old event;
  call = λ s k who call o answer new holds step so old. call_sound s k who call o answer new old step;
}

dump_sound : (s : State) (k : Holding) (d : OpenDump) (o : Outcome) (r : Result Stepped StoreFault) (new : State) → s.up ≡ true → DumpStep s k d o r new → IsSound new
dump_sound s k d o (Ok Going) new up (more, whole, read, is) =
    opened_sound new (record d { done = d.done + 1 }) (ap (λ (x : State). x.up) is ∙ up) (ap (λ (x : State). x.open_dump) is) more
dump_sound s k d o (Ok (Completed n)) new up (last, whole, number, is) = sound_none new (ap (λ (x : State). x.open_dump) is)
dump_sound s k d o (Err DiscReadFault) new up (read, content, is) = sound_none new (ap (λ (x : State). x.open_dump) is)
dump_sound s k d o (Err Stopped) new up (cut, inl (inl is)) = sound_none new (ap (λ (x : State). x.open_dump) is)
dump_sound s k d o (Err Stopped) new up (cut, inl (inr (first, inl is))) = sound_none new (ap (λ (x : State). x.open_dump) is)
dump_sound s k d o (Err Stopped) new up (cut, inl (inr (first, inr is))) = sound_none new (ap (λ (x : State). x.open_dump) is)
dump_sound s k d o (Err Stopped) new up (cut, inr (last, inl is)) = sound_none new (ap (λ (x : State). x.open_dump) is)
dump_sound s k d o (Err Stopped) new up (cut, inr (last, inr is)) = sound_none new (ap (λ (x : State). x.open_dump) is)
dump_sound s k d o (Err fault) new up step = absurd step

-- in an event in which no device failed an open dump is unchanged
pub record GoesOn (d : OpenDump) (s : State) : Type 0 where
  pub up : s.up ≡ true
  pub open_dump : OpenDump
  pub is : s.open_dump ≡ Some open_dump
  pub same : IsSameDump d open_dump

abbrev pub KeepsOpen : Outcome → State → State → Type 0
KeepsOpen o s new = (d : OpenDump) → s.up ≡ true → s.open_dump ≡ Some d → o ≡ Plain → GoesOn d new

goes_itself : (d : OpenDump) (s : State) → s.up ≡ true → s.open_dump ≡ Some d → GoesOn d s
goes_itself d s up is = record { up = up; open_dump = d; is = is; same = record { number = refl; needs = refl; done = refl; tree = refl } }

goes_at : (d : OpenDump) (s new : State) → new ≡ s → GoesOn d s → GoesOn d new
goes_at d s new is it = subst (λ (x : State). GoesOn d x) (sym is) it

up_down : {P : Type 0} (s : State) → s.up ≡ false → s.up ≡ true → P
up_down s low up = let both : true ≡ false = sym up ∙ low in absurd (let no : ⊥ = cc in no)

whole : (o : Outcome) → o ≡ Plain → o ≢ Cut
whole o plain cut = let both : Plain ≡ Cut = sym plain ∙ cut in let no : ⊥ = cc in no

event_goes : {A : Type 0} (d : OpenDump) (f : Option StoreFault) (reply : A) (s after : State) (r : Result A StoreFault) (new : State) → r ≢ Err Stopped → GoesOn d s → (f ≡ None → GoesOn d after)
    → Event f reply s after r new → GoesOn d new
event_goes d None reply s after r new unstopped old done (ok, is) = goes_at d after new is (done refl)
event_goes d (Some Stopped) reply s after r new unstopped old done (err, is) = absurd (unstopped err)
event_goes d (Some fault) reply s after r new unstopped old done (err, is) = goes_at d s new is old

mount_goes : (d : OpenDump) (b : Bool) (s after : State) (r : Result (Unit {0}) StoreFault) (new : State) → GoesOn d s → GoesOn d after → Event (first_fault ((b, NoTape) ∷ [])) tt s after r new → GoesOn d new
mount_goes d true s after r new old done (err, is) = goes_at d s new is old
mount_goes d false s after r new old done (ok, is) = goes_at d after new is done

unmount_goes : (d : OpenDump) (a b c : Bool) (s after : State) (r : Result (Unit {0}) StoreFault) (new : State) → GoesOn d s → GoesOn d after
    → Event (first_fault ((a, NoTape) ∷ (b, NotMounted) ∷ (c, TapeBusy) ∷ [])) tt s after r new → GoesOn d new
unmount_goes d true b c s after r new old done (err, is) = goes_at d s new is old
unmount_goes d false true c s after r new old done (err, is) = goes_at d s new is old
unmount_goes d false false true s after r new old done (err, is) = goes_at d s new is old
unmount_goes d false false false s after r new old done (ok, is) = goes_at d after new is done

either_goes : (d : OpenDump) (b : Bool) (t s : State) → GoesOn d t → GoesOn d s → GoesOn d (if b then t else s)
either_goes d true t s one other = one
either_goes d false t s one other = other

after_goes : (d : OpenDump) (s : State) (k : Holding) (who : List ℕ) (call : StoreCall) (until : ℕ) → s.up ≡ true → s.open_dump ≡ Some d → GoesOn d (after_call s k who call until)
after_goes d s k who call until up is =
    either_goes d (writes call || brings_now s k who call) (record (commits s (held_after s k who call until)) { open_dump = option_map (touched_by s k who call) s.open_dump }) s
    (record { up = up; open_dump = touched_by s k who call d; is = ap (option_map (touched_by s k who call)) is; same = record { number = refl; needs = refl; done = refl; tree = refl } })
    (goes_itself d s up is)

left_goes : (d : OpenDump) (s : State) (k : Holding) (who : List ℕ) (call : StoreCall) (o : Outcome) (until : ℕ) (fault : StoreFault) (answer : Result StoreReply StoreFault) (new : State)
    → answer ≢ Err Stopped → GoesOn d s → answer ≡ Err fault → LeftByRefusal s k who call o until fault new → GoesOn d new
left_goes d s k who call o until Stopped answer new unstopped old err left = absurd (unstopped err)
left_goes d s k who call o until fault answer new unstopped old err is = goes_at d s new is old

late_goes : (d : OpenDump) (s : State) (k : Holding) (who : List ℕ) (call : StoreCall) (o : Outcome) (until : ℕ) (f : Option StoreFault) (answer : Result StoreReply StoreFault) (new : State)
    → answer ≢ Err Stopped → s.up ≡ true → s.open_dump ≡ Some d
    → MatchOption f ((answer ≡ Ok (reply_to k.tree who call)) × (new ≡ after_call s k who call until)) (λ fault. (answer ≡ Err fault) × LeftByRefusal s k who call o until fault new) → GoesOn d new
late_goes d s k who call o until None answer new unstopped up there (ok, is) = goes_at d (after_call s k who call until) new is (after_goes d s k who call until up there)
late_goes d s k who call o until (Some fault) answer new unstopped up there (err, left) = left_goes d s k who call o until fault answer new unstopped (goes_itself d s up there) err left

call_goes : (d : OpenDump) (s : State) (k : Holding) (who : List ℕ) (call : StoreCall) (o : Outcome) (f : Option StoreFault) (answer : Result StoreReply StoreFault) (new : State)
    → answer ≢ Err Stopped → s.up ≡ true → s.open_dump ≡ Some d
    → MatchOption f (Planned s k who call o answer new) (λ fault. (answer ≡ Err fault) × (new ≡ s)) → GoesOn d new
call_goes d s k who call o None answer new unstopped up there planned = late_goes d s k who call o planned.until (late s k who call o planned.until) answer new unstopped up there planned.step
call_goes d s k who call o (Some fault) answer new unstopped up there (err, is) = goes_at d s new is (goes_itself d s up there)

process_goes : (d : OpenDump) (s : State) (k : Holding) (serial : ℕ) (f g : Option StoreFault) (r : Result ℕ StoreFault) (new : State) → GoesOn d s
    → ((places : FinMap nat_cmp Place) (x : DumpedTree) (until : ℕ) → GoesOn d (moved s k serial places x until))
    → MatchOption f (MatchOption g (Processes s k serial Plain r new) (λ fault. ((r ≡ Err fault) ⊎ ((Plain ≡ TapeRead) × (r ≡ Err TapeReadFault))) × (new ≡ s))) (λ fault. (r ≡ Err fault) × (new ≡ s)) → GoesOn d new
process_goes d s k serial None None r new old done (ok, does) = goes_at d (moved s k serial does.places does.dumped does.until) new does.is (done does.places does.dumped does.until)
process_goes d s k serial None (Some fault) r new old done (err, is) = goes_at d s new is old
process_goes d s k serial (Some fault) g r new old done (err, is) = goes_at d s new is old

open_kept : AreKept KeepsOpen
open_kept = record {
  itself = λ s d up there plain. goes_itself d s up there;
  format = λ s o r new low step so d up there plain. up_down s low up;
  start = λ s o r new low step so d up there plain. up_down s low up;
  restore = λ s o r new low step so d up there plain. up_down s low up;
  shut = λ s none d up there plain. none_open d s.open_dump none there;
  mount = λ s serial r new step d up there plain. mount_goes d (lacks s serial) s _ r new (goes_itself d s up there) (goes_itself d _ up there) step;
  unmount = λ s serial r new step d up there plain. unmount_goes d (lacks s serial) _ (is_busy serial s.open_dump) s _ r new (goes_itself d s up there) (goes_itself d _ up there) step;
  opening = λ s k serial o r new high holds step so d up there plain.
      event_goes d (open_refuses s k serial o) (k.last + 1) s (opening s k serial step.0) r new (unstopped (OpenStep s k serial) o r new (open_told s k serial o r new step) (whole o plain))
      (goes_itself d s up there) (λ none. open_refused d s k serial o there none) step.2;
  process = λ s k serial o r new high holds step so d up there plain.
      process_goes d s k serial (process_refuses s k serial) (process_refuses_late s k serial) r new (goes_itself d s up there) (λ places x until. goes_itself d _ up there)
      (subst (λ (x : Outcome). ProcessStep s k serial x r new) plain step);
  migrate = λ s k user full o r new holds step so d up there plain.
      event_goes d _ _ s _ r new (unstopped (MigrateStep s k user full) o r new (migrate_told s k user full o r new step) (whole o plain)) (goes_itself d s up there) (λ none. goes_itself d _ up there) step;
  call = λ s k who call o answer new holds step so d up there plain.
      call_goes d s k who call o (early s k who call o) answer new (unstopped (CallStep s k who call) o answer new (call_told s k who call o answer new step) (whole o plain)) up there step;
}

-- a step of it, in which no device failed
plain_step : (s : State) (k : Holding) (d : OpenDump) (r : Result Stepped StoreFault) (new : State) → DumpStep s k d Plain r new
    → ((d.done + 1 < d.needs) × (new ≡ uses true d (record s { open_dump = Some (record d { done = d.done + 1 }) }))) ⊎ ((d.done + 1 ≡ d.needs) × (new ≡ uses true d (completed d k s)))
plain_step s k d (Ok Going) new (more, cut, read, is) = inl (more, is)
plain_step s k d (Ok (Completed n)) new (last, cut, number, is) = inr (last, is)
plain_step s k d (Err DiscReadFault) new (read, content, is) = absurd (let no : ⊥ = cc in no)
plain_step s k d (Err Stopped) new (cut, left) = absurd (let no : ⊥ = cc in no)
plain_step s k d (Err fault) new step = absurd step

quiet_none : (move : Move) → IsQuiet move → dump_steps move ≡ 0
quiet_none (TakeLine tape o) quiet = refl
quiet_none (Dumped o) quiet = absurd quiet
quiet_none (Begin number) quiet = refl
quiet_none (Answered o) quiet = refl
quiet_none (TurnOver number charge) quiet = refl
quiet_none Ticked quiet = refl
quiet_none Over quiet = refl

pub kind : (move : Move) → ((o : Outcome) × (move ≡ Dumped o)) ⊎ IsQuiet move
kind (TakeLine tape o) = inr tt
kind (Dumped o) = inl (o, refl)
kind (Begin number) = inr tt
kind (Answered o) = inr tt
kind (TurnOver number charge) = inr tt
kind Ticked = inr tt
kind Over = inr tt

module _ {F U : Type 0} (tariffs : Shared F (Bor Usage × Unit {0}) Charge) (tariff : F) (rules : Shared U (Bor Standing × Unit {0}) ℕ) (rule : U) where
  -- a dump is open only while the system is up, throughout a run
  pub sound_move : (w new : World) (move : Move) → IsSound w.store → Step tariffs tariff rules rule w move new → IsSound new.store
  sound_move w new move sound step =
      move_kept KeepsSound sound_kept tariffs tariff rules rule (λ s k d o r after holds there stepped old. dump_sound s k d o r after (old d there).0 stepped) w new move step sound

  pub sound_run : (w last : World) (moves : List Move) → IsSound w.store → Run tariffs tariff rules rule w moves last → IsSound last.store
  sound_run w last [] old run = sound_at w.store last.store (ap (λ (x : World). x.store) run) old
  sound_run w last (move ∷ moves) old (mid, step, run) = sound_run mid last moves (sound_move w mid move old step) run

  abbrev Ends : World → OpenDump → List Move → World → Type 0
  Ends w d moves last = IsOpenAt d (sum_by dump_steps moves + d.done) last.store ⊎ Completes tariffs tariff rules rule w d moves last

  -- for the rest of the moves, from a dump that is the same or has advanced by a step
  abbrev Rest : World → List Move → World → Type 0
  Rest mid moves last = (e : OpenDump) → mid.store.up ≡ true → mid.store.open_dump ≡ Some e → e.done < e.needs → Ends mid e moves last

  further : (w mid last : World) (move : Move) (moves : List Move) (d e : OpenDump) → Step tariffs tariff rules rule w move mid → e.number ≡ d.number → e.needs ≡ d.needs → e.tree ≡ d.tree
      → dump_steps move + d.done ≡ e.done → Ends mid e moves last → Ends w d (move ∷ moves) last
  further w mid last move moves d e step number needs tree done (inl still) =
      let sum : sum_by dump_steps (move ∷ moves) ≡ dump_steps move + sum_by dump_steps moves = sum_by-cons dump_steps move moves in
      let at : sum_by dump_steps moves + e.done ≡ sum_by dump_steps (move ∷ moves) + d.done = omega (arith, sum, done) in
      inl (record {
        up = still.up;
        open_dump = still.open_dump;
        is = still.is;
        number = still.number ∙ number;
        needs = still.needs ∙ needs;
        done_is = still.done_is ∙ at;
        tree = still.tree ∙ tree;
        left = (let left = still.left in omega (arith, left, at, needs));
      })
  further w mid last move moves d e step number needs tree done (inr ends) =
      let sum : sum_by dump_steps (move ∷ ends.front) ≡ dump_steps move + sum_by dump_steps ends.front = sum_by-cons dump_steps move ends.front in
      let steps = ends.steps in
      inr (record {
        front = move ∷ ends.front;
        back = ends.back;
        before = ends.before;
        behind = ends.behind;
        are = ap (λ (ms : List Move). move ∷ ms) ends.are;
        run = (mid, step, ends.run);
        step = ends.step;
        rest = ends.rest;
        steps = omega (arith, sum, steps, done, needs);
        completed = record {
          closed = ends.completed.closed;
          dumped = ends.completed.dumped;
          is = ends.completed.is;
          number = ends.completed.number ∙ number;
          tree = ends.completed.tree ∙ tree;
        };
      })

  by_step : (w mid last : World) (moves : List Move) (d : OpenDump) (k : Holding) (s : State) → w.store.up ≡ true → Step tariffs tariff rules rule w (Dumped Plain) mid → mid.store ≡ s → Run tariffs tariff rules rule mid moves last
      → Rest mid moves last
      → ((d.done + 1 < d.needs) × (s ≡ uses true d (record w.store { open_dump = Some (record d { done = d.done + 1 }) }))) ⊎ ((d.done + 1 ≡ d.needs) × (s ≡ uses true d (completed d k w.store)))
      → Ends w d (Dumped Plain ∷ moves) last
  by_step w mid last moves d k s up step at run rest (inl (more, is)) =
      further w mid last (Dumped Plain) moves d (record d { done = d.done + 1 }) step refl refl refl (omega arith)
      (rest (record d { done = d.done + 1 }) (ap (λ (x : State). x.up) (at ∙ is) ∙ up) (ap (λ (x : State). x.open_dump) (at ∙ is)) more)
  by_step w mid last moves d k s up step at run rest (inr (whole, is)) =
      inr (record {
        front = [];
        back = moves;
        before = w;
        behind = mid;
        are = refl;
        run = refl;
        step = step;
        rest = run;
        steps = (let none : sum_by dump_steps [] ≡ 0 = refl in omega (arith, none, whole));
        completed = record {
          closed = ap (λ (x : State). x.open_dump) (at ∙ is);
          dumped = record { number = d.number; tree = d.tree; places = d.places; own = d.own };
          is = ap (λ (x : State). x.dumped) (at ∙ is);
          number = refl;
          tree = refl;
        };
      })

  by_dump : (w mid last : World) (moves : List Move) (d : OpenDump) → w.store.up ≡ true → w.store.open_dump ≡ Some d → Step tariffs tariff rules rule w (Dumped Plain) mid → Run tariffs tariff rules rule mid moves last
      → Rest mid moves last → Ends w d (Dumped Plain ∷ moves) last
  by_dump w mid last moves d up there (between, idle, undue, dumping, (r, s, (k, e, holds, opened, step, so), is)) run rest =
      let same : e ≡ d = one_dump e d (sym opened ∙ there) in
      by_step w mid last moves d k s up (between, idle, undue, dumping, (r, s, (k, e, holds, opened, step, so), is)) (ap (λ (x : World). x.store) is ∙ dump_store _ r s w) run rest
      (plain_step w.store k d r s (subst (λ (x : OpenDump). DumpStep w.store k x Plain r s) same step))

  by_quiet : (w mid last : World) (move : Move) (moves : List Move) (d : OpenDump) → IsQuiet move → Step tariffs tariff rules rule w move mid → GoesOn d mid.store → d.done < d.needs → Rest mid moves last
      → Ends w d (move ∷ moves) last
  by_quiet w mid last move moves d quiet step goes less rest =
      let none = quiet_none move quiet in
      let done = goes.same.done in
      let needs = goes.same.needs in
      let e = goes.open_dump in
      further w mid last move moves d goes.open_dump step goes.same.number goes.same.needs goes.same.tree (omega (arith, none, done))
      (rest goes.open_dump goes.up goes.is (let short : goes.open_dump.done < goes.open_dump.needs = omega (arith, less, done, needs) in short))

  by_kind : (w mid last : World) (move : Move) (moves : List Move) (d : OpenDump) → w.store.up ≡ true → w.store.open_dump ≡ Some d → d.done < d.needs → IsPlain move → Step tariffs tariff rules rule w move mid
      → Run tariffs tariff rules rule mid moves last → Rest mid moves last → ((o : Outcome) × (move ≡ Dumped o)) ⊎ IsQuiet move → Ends w d (move ∷ moves) last
  by_kind w mid last move moves d up there less plain step run rest (inl (o, is)) =
      let at : move ≡ Dumped Plain = is ∙ ap Dumped (sym (ap outcome_of is) ∙ plain) in
      subst (λ (m : Move). Ends w d (m ∷ moves) last) (sym at) (by_dump w mid last moves d up there (subst (λ (m : Move). Step tariffs tariff rules rule w m mid) at step) run rest)
  by_kind w mid last move moves d up there less plain step run rest (inr quiet) =
      by_quiet w mid last move moves d quiet step (quiet_kept KeepsOpen open_kept tariffs tariff rules rule w mid move quiet step d up there plain) less rest

  goes : (w last : World) (moves : List Move) (d : OpenDump) → w.store.up ≡ true → w.store.open_dump ≡ Some d → d.done < d.needs → Run tariffs tariff rules rule w moves last → AllByRecursion IsPlain moves → Ends w d moves last
  goes w last [] d up there less run plain =
      let none : sum_by dump_steps [] ≡ 0 = refl in
      inl (record {
        up = ap (λ (x : World). x.store.up) run ∙ up;
        open_dump = d;
        is = ap (λ (x : World). x.store.open_dump) run ∙ there;
        number = refl;
        needs = refl;
        done_is = omega (arith, none);
        tree = refl;
        left = omega (arith, none, less);
      })
  goes w last (move ∷ moves) d up there less (mid, step, run) plain =
      by_kind w mid last move moves d up there less plain.0 step run (λ e high is short. goes mid last moves e high is short run plain.1) (kind move)

  pub dumps_go_on : DumpsGoOn tariffs tariff rules rule
  dumps_go_on lines bad s front moves w last d none first there run plain =
      let sound = sound_run (start lines bad s) w front (sound_none s none) first d there in
      goes w last moves d sound.0 there sound.1 run (recursion_from_All IsPlain moves plain)

  pub dumps_complete : DumpsComplete tariffs tariff rules rule
  dumps_complete lines bad s front moves w last d none first there run plain enough = by (dumps_go_on lines bad s front moves w last d none first there run plain)
    where
      by : Ends w d moves last → Completes tariffs tariff rules rule w d moves last
      by (inl still) = let left = still.left in absurd (let no : ⊥ = omega (arith, left, enough) in no)
      by (inr ends) = ends
