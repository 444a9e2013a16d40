-- What holds of every world of a run, so that there is a next one.
-- serves: GoesLemmas
use Rattle.std.proofs.Common.{◌≡◌, ℕ, ◌==◌, List, [], ◌∷◌, Option, Some, None, refl, sym, ◌∙◌, ap, subst, inl, inr, find}
use Rattle.std.specs.Prelude.{◌⊎◌, Bool, true, false, Result, Ok, Err, is_some}
use Rattle.std.proofs.lemmas.Bool.{false≢true}
use Rattle.std.proofs.lemmas.Option.{some_pair_parts}
use Rattle.std.specs.Fn.{Shared}
use denote.Ref.{Bor}
use Rattle.g_turn.specs.State.{Work}
use Rattle.g_rules.specs.declared.tariff.Charge.{Charge}
use Rattle.g_rules.specs.declared.tariff.Usage.{Usage}
use Rattle.g_job.specs.State.{JobState}
use Rattle.g_job.specs.Turns.{turn_work}
use Rattle.g_plain.specs.Programs.{Asks}
use Rattle.g_plain.specs.declared.faults.StoreFault.{StoreFault}
use Rattle.g_plain.specs.declared.faults.StoreFault.TheVariants.{Stopped}
use Rattle.g_rules.specs.declared.rule.Standing.{Standing}
use Rattle.g_script.specs.declared.operator.Timed.{Timed}
use Rattle.g_store_model.specs.CallStep.{Outcome, down}
use Rattle.g_store_model.specs.DumpSteps.{Completed, Event, Going, Stepped as DumpStepped}
use Rattle.g_store_model.specs.Rising.{RestoreStep, StartStep}
use Rattle.g_store_model.specs.State.{State}
use Rattle.g_run_model.specs.Moves.{Answered, Begin, Dumped, Move, Over, Run, Step, TakeLine, Ticked, TurnOver, dump_told}
use Rattle.g_run_model.specs.World.{Between, Phase, Stepped, Turned, World, can_step, is_due, job_of, start}
use Rattle.g_run_model.proofs.OverLemmas.{dump_due, dump_turn}
use Rattle.g_laws_runs.specs.Filestores.{HoldsOne}
use Rattle.g_laws_runs.proofs.CompleteLemmas.{IsSound, sound_move, sound_none}
use Rattle.g_laws_runs.proofs.FilestoreLemmas.{dump_one, one_kept, one_move}
use Rattle.g_laws_runs.proofs.WalkLemmas.{AreKept, move_kept}
use Rattle.g_laws_progress.proofs.ChoiceLemmas.{no_job, number_there}
use Rattle.g_laws_progress.proofs.LineLemmas.{line_leaves}
use Rattle.g_run_model.proofs.StepLemmas.{restore_kept, start_kept}

-- a system that is up holds a filestore
abbrev pub IsHeld : State → Type 0
IsHeld s = s.up ≡ true → HoldsOne s

abbrev pub KeepsHeld : Outcome → State → State → Type 0
KeepsHeld o s new = IsHeld s → IsHeld new

held_at : (s new : State) → new ≡ s → IsHeld s → IsHeld new
held_at s new is it = subst (λ (x : State). IsHeld x) (sym is) it

event_held : {A : Type 0} (f : Option StoreFault) (reply : A) (s after : State) (r : Result A StoreFault) (new : State) → IsHeld s → IsHeld after → Event f reply s after r new → IsHeld new
event_held None reply s after r new old done (ok, is) = held_at after new is done
event_held (Some Stopped) reply s after r new old done (err, inl is) = held_at (down s) new is (λ up. absurd (false≢true up))
event_held (Some Stopped) reply s after r new old done (err, inr is) = held_at (down after) new is (λ up. absurd (false≢true up))
event_held (Some fault) reply s after r new old done (err, is) = held_at s new is old

start_held : (s : State) (o : Outcome) (r : Result (Option ℕ) StoreFault) (new : State) → IsHeld s → StartStep s o r new → IsHeld new
start_held s o r new old step = start_kept (λ (x : State). IsHeld x) s old (λ up. absurd (false≢true up)) (λ k e up. refl) (λ k e up. absurd (false≢true up)) o r new step

restore_held : (s : State) (o : Outcome) (r : Result ℕ StoreFault) (new : State) → IsHeld s → RestoreStep s o r new → IsHeld new
restore_held s o r new old step = restore_kept (λ (x : State). IsHeld x) s old (λ up. absurd (false≢true up)) (λ d e up. refl) (λ d e up. absurd (false≢true up)) o r new step

held_kept : AreKept KeepsHeld
held_kept = record {
  itself = λ s old. old;
  format = λ s o r new low step so old. event_held _ _ s _ r new old (λ up. refl) step;
  start = λ s o r new low step so old. start_held s o r new old step;
  restore = λ s o r new low step so old. restore_held s o r new old step;
  shut = λ s none old up. absurd (false≢true up);
  mount = λ s serial r new step old. event_held _ _ s _ r new old old step;
  unmount = λ s serial r new step old. event_held _ _ s _ r new old old step;
  opening = λ s k serial o r new high holds step so old up. one_kept.opening s k serial o r new high holds step so (ap is_some holds);
  process = λ s k serial o r new high holds step so old up. one_kept.process s k serial o r new high holds step so (ap is_some holds);
  migrate = λ s k user full o r new holds step so old up. one_kept.migrate s k user full o r new holds step so (ap is_some holds);
  call = λ s k who call o answer new holds step so old up. one_kept.call s k who call o answer new holds step so (ap is_some holds);
}

-- what a step of a dump leaves
dump_jobs : (n : ℕ) (r : Result DumpStepped StoreFault) (s : State) (w : World) → ((dump_told n r s w).jobs ≡ w.jobs) ⊎ ((dump_told n r s w).jobs ≡ [])
dump_jobs n (Ok Going) s w = inl refl
dump_jobs n (Ok (Completed m)) s w = inl refl
dump_jobs n (Err Stopped) s w = inr refl
dump_jobs n (Err fault) s w = inl refl

-- A WORLD from which there is a next one, unless the run is over
pub record IsReadyWorld (w : World) : Type 0 where
  pub sound : IsSound w.store
  pub held : IsHeld w.store
  pub jobs : HoldsOne w.store ⊎ (w.jobs ≡ [])
  pub turn : (n : ℕ) (p : Asks Work) → w.turn ≡ Some (n, p) → (job : JobState) × (job_of w n ≡ Some job)
  pub undue : w.phase ≡ Stepped → is_due w ≡ false

no_turn : {P : Type 0} (t : Option (ℕ × Asks Work)) (x : ℕ × Asks Work) → t ≡ None → t ≡ Some x → P
no_turn t x none some = let both : None ≡ Some x = sym none ∙ some in absurd (let no : ⊥ = cc in no)

not_stepped : {P : Type 0} (p : Phase) → p ≡ Between → p ≡ Stepped → P
not_stepped p between stepped = let both : Between ≡ Stepped = sym between ∙ stepped in absurd (let no : ⊥ = cc in no)

not_turned : {P : Type 0} → Turned ≡ Stepped → P
not_turned e = absurd (let no : ⊥ = cc in no)

-- no job is found in an empty list
pub nobody : {P : Type 0} (n : ℕ) (jobs : List JobState) (job : JobState) → jobs ≡ [] → find (λ j. j.number == n) jobs ≡ Some job → P
nobody n jobs job none found = no_job job (sym (ap (λ (js : List JobState). find (λ j. j.number == n) js) none) ∙ found)

pub ready_start : (lines : List Timed) (bad : Option ℕ) (s : State) → s.up ≡ false → s.open_dump ≡ None → IsReadyWorld (start lines bad s)
ready_start lines bad s low none = record {
  sound = sound_none s none;
  held = λ up. absurd (false≢true (sym low ∙ up));
  jobs = inr refl;
  turn = λ n p is. absurd (let no : ⊥ = cc in no);
  undue = λ is. absurd (let no : ⊥ = cc in no);
}

module _ {F U : Type 0} (tariffs : Shared F (Bor Usage × Unit {0}) Charge) (tariff : F) (rules : Shared U (Bor Standing × Unit {0}) ℕ) (rule : U) where
  held_move : (w new : World) (move : Move) → IsHeld w.store → Step tariffs tariff rules rule w move new → IsHeld new.store
  held_move w new move has step = move_kept KeepsHeld held_kept tariffs tariff rules rule (λ s k d o r after holds there stepped old up. dump_one s k d o r after (ap is_some holds) stepped) w new move step has

  -- a system that holds no filestore accepts no jobs
  line_jobs : (w new : World) (tape : Bool) (o : Outcome) → IsReadyWorld w → w.jobs ≡ [] → Step tariffs tariff rules rule w (TakeLine tape o) new → (new.jobs ≡ w.jobs) ⊎ ((new.jobs ≡ []) ⊎ (w.store.up ≡ true))
      → HoldsOne new.store ⊎ (new.jobs ≡ [])
  line_jobs w new tape o ready none step (inl same) = inr (same ∙ none)
  line_jobs w new tape o ready none step (inr (inl gone)) = inr gone
  line_jobs w new tape o ready none step (inr (inr up)) = inl (one_move tariffs tariff rules rule w new (TakeLine tape o) (ready.held up) step)

  dumped_jobs : (w new v : World) → w.jobs ≡ [] → new ≡ v → (v.jobs ≡ w.jobs) ⊎ (v.jobs ≡ []) → new.jobs ≡ []
  dumped_jobs w new v none is (inl same) = ap (λ (x : World). x.jobs) is ∙ same ∙ none
  dumped_jobs w new v none is (inr gone) = ap (λ (x : World). x.jobs) is ∙ gone

  jobs_none : (w new : World) (move : Move) → IsReadyWorld w → w.jobs ≡ [] → Step tariffs tariff rules rule w move new → HoldsOne new.store ⊎ (new.jobs ≡ [])
  jobs_none w new (TakeLine tape o) ready none (next, rest, lines, between, idle, due, is_tape, gives) =
      line_jobs w new tape o ready none (next, rest, lines, between, idle, due, is_tape, gives) (line_leaves o next.what (record w { lines = rest }) new gives).jobs
  jobs_none w new (Dumped o) ready none (between, idle, undue, dumping, (r, s, step, is)) = inr (dumped_jobs w new _ none is (dump_jobs _ r s w))
  jobs_none w new (Begin number) ready none (idle, undue, before, (place, job, chosen, there, number_is, is)) = inr (ap (λ (x : World). x.jobs) is ∙ none)
  jobs_none w new (Answered o) ready none (number, call, more, job, answer, s, asks, here, step, real, is) = inr (ap (λ (x : World). x.jobs) is ∙ none)
  jobs_none w new (TurnOver number charge) ready none (work, job, turn, after, asks, here, priced, ends, is) = nobody number w.jobs job none here
  jobs_none w new Ticked ready none (idle, phase, is) = inr (ap (λ (x : World). x.jobs) is ∙ none)
  jobs_none w new Over ready none (between, idle, lines, nothing, over, is) = inr (ap (λ (x : World). x.jobs) is)

  jobs_by : (w new : World) (move : Move) → IsReadyWorld w → Step tariffs tariff rules rule w move new → HoldsOne w.store ⊎ (w.jobs ≡ []) → HoldsOne new.store ⊎ (new.jobs ≡ [])
  jobs_by w new move ready step (inl one) = inl (one_move tariffs tariff rules rule w new move one step)
  jobs_by w new move ready step (inr none) = jobs_none w new move ready none step

  abbrev HasTurn : World → Type 0
  HasTurn w = (n : ℕ) (p : Asks Work) → w.turn ≡ Some (n, p) → (job : JobState) × (job_of w n ≡ Some job)

  -- of a world in whose turn this number is, for which there is a job
  turn_at : (new : World) (number : ℕ) (asks : Asks Work) (job : JobState) → new.turn ≡ Some (number, asks) → job_of new number ≡ Some job → HasTurn new
  turn_at new number asks job is found n p there =
      let parts = some_pair_parts number n asks p (sym is ∙ there) in
      (job, ap (λ (m : ℕ). job_of new m) (sym parts.0) ∙ found)

  turn_goes : (w new : World) (move : Move) → IsReadyWorld w → Step tariffs tariff rules rule w move new → HasTurn new
  turn_goes w new (TakeLine tape o) ready (next, rest, lines, between, idle, due, is_tape, gives) n p there =
      no_turn new.turn (n, p) ((line_leaves o next.what (record w { lines = rest }) new gives).turn ∙ idle) there
  turn_goes w new (Dumped o) ready (between, idle, undue, dumping, (r, s, step, is)) n p there = no_turn new.turn (n, p) (ap (λ (x : World). x.turn) is ∙ dump_turn _ r s w ∙ idle) there
  turn_goes w new (Begin number) ready (idle, undue, before, (place, job, chosen, at, number_is, is)) n p there =
      let found = number_there (can_step w.store) w.jobs place job at in
      turn_at new job.number (turn_work job) found.0 (ap (λ (x : World). x.turn) is) (ap (λ (x : World). job_of x job.number) is ∙ found.1) n p there
  turn_goes w new (Answered o) ready (number, call, more, job, answer, s, asks, here, step, real, is) n p there =
      turn_at new number (more answer) job (ap (λ (x : World). x.turn) is) (ap (λ (x : World). job_of x number) is ∙ here) n p there
  turn_goes w new (TurnOver number charge) ready (work, job, turn, after, asks, here, priced, ends, is) n p there = no_turn new.turn (n, p) (ap (λ (x : World). x.turn) is) there
  turn_goes w new Ticked ready (idle, phase, is) n p there = no_turn new.turn (n, p) (ap (λ (x : World). x.turn) is ∙ idle) there
  turn_goes w new Over ready (between, idle, lines, nothing, over, is) n p there = no_turn new.turn (n, p) (ap (λ (x : World). x.turn) is ∙ idle) there

  undue_goes : (w new : World) (move : Move) → IsReadyWorld w → Step tariffs tariff rules rule w move new → new.phase ≡ Stepped → is_due new ≡ false
  undue_goes w new (TakeLine tape o) ready (next, rest, lines, between, idle, due, is_tape, gives) stepped =
      not_stepped new.phase ((line_leaves o next.what (record w { lines = rest }) new gives).phase ∙ between) stepped
  undue_goes w new (Dumped o) ready (between, idle, undue, dumping, (r, s, step, is)) stepped = ap (λ (x : World). is_due x) is ∙ dump_due _ r s w ∙ undue
  undue_goes w new (Begin number) ready (idle, undue, before, (place, job, chosen, there, number_is, is)) stepped = ap (λ (x : World). is_due x) is ∙ undue
  undue_goes w new (Answered o) ready (number, call, more, job, answer, s, asks, here, step, real, is) stepped =
      ap (λ (x : World). is_due x) is ∙ ready.undue (sym (ap (λ (x : World). x.phase) is) ∙ stepped)
  undue_goes w new (TurnOver number charge) ready (work, job, turn, after, asks, here, priced, ends, is) stepped = not_turned (sym (ap (λ (x : World). x.phase) is) ∙ stepped)
  undue_goes w new Ticked ready (idle, phase, is) stepped = not_stepped new.phase (ap (λ (x : World). x.phase) is) stepped
  undue_goes w new Over ready (between, idle, lines, nothing, over, is) stepped = not_stepped new.phase (ap (λ (x : World). x.phase) is ∙ between) stepped

  ready_step : (w new : World) (move : Move) → IsReadyWorld w → Step tariffs tariff rules rule w move new → IsReadyWorld new
  ready_step w new move ready step = record {
    sound = sound_move tariffs tariff rules rule w new move ready.sound step;
    held = held_move w new move ready.held step;
    jobs = jobs_by w new move ready step ready.jobs;
    turn = turn_goes w new move ready step;
    undue = undue_goes w new move ready step;
  }

  pub ready_run : (w last : World) (moves : List Move) → IsReadyWorld w → Run tariffs tariff rules rule w moves last → IsReadyWorld last
  ready_run w last [] ready run = subst (λ (x : World). IsReadyWorld x) (sym run) ready
  ready_run w last (move ∷ moves) ready (mid, step, run) = ready_run mid last moves (ready_step w mid move ready step) run
