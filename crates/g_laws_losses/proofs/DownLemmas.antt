-- A system that is down answers no call: its jobs are gone, and the turn that was stopped makes no further call.
-- serves: down_answers_nothing
use Rattle.std.proofs.Common.{◌≡◌, ◌⊎◌, ◌++◌, ℕ, Bool, true, false, not, List, [], ◌∷◌, Option, Some, None, Result, Ok, Err, MatchBool, MatchOption, All, codes, refl, sym, ◌∙◌, ap, subst, inl, inr, if◌then◌else◌}
use Rattle.std.proofs.lemmas.Bool.{false≢true}
use Rattle.std.proofs.lemmas.List.Elements.{All-cons, All-nil}
use Rattle.std.proofs.lemmas.Option.{some_pair_parts}
use Rattle.std.specs.Fmt.{decimal}
use Rattle.std.specs.Fn.{Shared}
use denote.Ref.{Bor}
use Rattle.g_rules.specs.declared.tariff.Usage.{Usage}
use Rattle.g_rules.specs.declared.tariff.Charge.{Charge}
use Rattle.g_rules.specs.declared.rule.Standing.{Standing}
use Rattle.g_turn.specs.Causes.{IsHonest, StopsAt}
use Rattle.g_turn.specs.State.{Broken, Stop, Waits, Work}
use Rattle.g_job.specs.State.{JobState}
use Rattle.g_job.specs.Terminal.{logged_out, typed_to}
use Rattle.g_job.specs.TurnEnd.{end_by}
use Rattle.g_job.specs.Turns.{turn_work}
use Rattle.g_rules.specs.declared.turn.Turn.{Turn}
use Rattle.g_rules.specs.declared.turn.Turn.TheVariants as turns
use Rattle.g_job.proofs.TurnBounds.{turn_honest}
use Rattle.g_monitor.specs.Parts.{full_text}
use Rattle.g_plain.specs.Programs.{Answer, Asks, Call, Gives}
use Rattle.g_plain.specs.PlainStep.{reply_to}
use Rattle.g_plain.specs.declared.calls.StoreCall.{StoreCall}
use Rattle.g_plain.specs.declared.calls.StoreReply.{StoreReply}
use Rattle.g_plain.specs.declared.faults.StoreFault.{StoreFault}
use Rattle.g_plain.specs.declared.faults.StoreFault.TheVariants.{DiscReadFault, NotStarted, Running, Stopped, WaitTape}
use Rattle.g_script.specs.declared.operator.Operator.{Operator}
use Rattle.g_script.specs.declared.operator.Operator.TheVariants as line
use Rattle.g_script.specs.declared.operator.Timed.{Timed}
use Rattle.g_store_model.specs.CallStep.{CallStep, LeftByRefusal, Outcome, Plain, Planned, after_call, down, late as refuses_late}
use Rattle.g_store_model.specs.DumpSteps.{Completed, DumpStep, Event, Going, Stepped as DumpStepped}
use Rattle.g_store_model.specs.Process.{ProcessStep}
use Rattle.g_store_model.specs.ProcessLaws.{ProcessKeeps}
use Rattle.g_store_model.specs.State.{Holding, OpenDump, State}
use Rattle.g_run_model.specs.Events.{IsFormat, IsMigration, IsOpening, IsProcessing, IsRestore, IsStart}
use Rattle.g_run_model.specs.Lines.{LineGives, at_terminal, job_line, job_refusal, line_refused, logged_in, login_refusal, now_stands, shut_with, taken_in, tells, up_with}
use Rattle.g_run_model.specs.Losses.{StaysDown}
use Rattle.g_run_model.specs.Moves.{Answered, Begin, Dumped, Move, Over, Run, Step, TakeLine, Ticked, TurnOver, dump_told, turn_told}
use Rattle.g_run_model.specs.Texts.{dump_text, processed_text, started_text, tape_text}
use Rattle.g_run_model.specs.World.{World, can_step, shows, start}
use Rattle.g_run_model.proofs.OverLemmas.{dump_turn}
use Rattle.g_run_model.proofs.TreeLemmas.{job_by, login_by, turn_store, typed_by}
use Rattle.g_laws_progress.proofs.ChoiceLemmas.{number_there}
use Rattle.g_laws_progress.proofs.LineLemmas.{line_leaves}
use Rattle.g_laws_progress.proofs.ReadyLemmas.{nobody}
use Rattle.g_laws_losses.specs.Answered.{DownAnswersNothing, IsNoAnswer}

-- an event stopped, or the system is up afterwards if it was before
abbrev StopsOrStays : {A : Type 0} → Result A StoreFault → State → State → Type 0
StopsOrStays r s new = (r ≡ Err Stopped) ⊎ (new.up ≡ s.up)

event_stays : {A : Type 0} (f : Option StoreFault) (reply : A) (s after : State) (r : Result A StoreFault) (new : State) → after.up ≡ s.up → Event f reply s after r new → StopsOrStays r s new
event_stays None reply s after r new same (ok, is) = inr (ap (λ (x : State). x.up) is ∙ same)
event_stays (Some Stopped) reply s after r new same (err, is) = inl err
event_stays (Some fault) reply s after r new same (err, is) = inr (ap (λ (x : State). x.up) is)

process_stays : ProcessKeeps → (s : State) (k : Holding) (serial : ℕ) (o : Outcome) (r : Result ℕ StoreFault) (new : State) → ProcessStep s k serial o r new → StopsOrStays r s new
process_stays keeps s k serial o (Err Stopped) new step = inl refl
process_stays keeps s k serial o (Err fault) new step = inr (keeps.up s k serial o (Err fault) new (λ e. let no : ⊥ = cc in no) step).0
process_stays keeps s k serial o (Ok number) new step = inr (keeps.up s k serial o (Ok number) new (λ e. let no : ⊥ = cc in no) step).0

dump_stays : (s : State) (k : Holding) (d : OpenDump) (o : Outcome) (r : Result DumpStepped StoreFault) (new : State) → DumpStep s k d o r new → StopsOrStays r s new
dump_stays s k d o (Ok Going) new (more, uncut, read, is) = inr (ap (λ (x : State). x.up) is)
dump_stays s k d o (Ok (Completed n)) new (last, uncut, number, is) = inr (ap (λ (x : State). x.up) is)
dump_stays s k d o (Err DiscReadFault) new (read, content, is) = inr (ap (λ (x : State). x.up) is)
dump_stays s k d o (Err Stopped) new step = inl refl
dump_stays s k d o (Err fault) new step = absurd step

-- the state after a call that was granted
after_stays : (b : Bool) (s t : State) → t.up ≡ s.up → (if b then t else s).up ≡ s.up
after_stays true s t same = same
after_stays false s t same = refl

call_stays : (s : State) (k : Holding) (who : List ℕ) (call : StoreCall) (o : Outcome) (r : Result StoreReply StoreFault) (new : State) → CallStep s k who call o r new → StopsOrStays r s new
call_stays s k who call o r new step = early _ step
  where
    refused : (until : ℕ) (fault : StoreFault) → r ≡ Err fault → LeftByRefusal s k who call o until fault new → StopsOrStays r s new
    refused until Stopped err left = inl err
    refused until fault err left = inr (ap (λ (x : State). x.up) left)

    late : (until : ℕ) (f : Option StoreFault)
        → MatchOption f ((r ≡ Ok (reply_to k.tree who call)) × (new ≡ after_call s k who call until)) (λ fault. (r ≡ Err fault) × LeftByRefusal s k who call o until fault new) → StopsOrStays r s new
    late until None (ok, is) = inr (ap (λ (x : State). x.up) is ∙ after_stays _ s _ refl)
    late until (Some fault) (err, left) = refused until fault err left

    early : (f : Option StoreFault) → MatchOption f (Planned s k who call o r new) (λ fault. (r ≡ Err fault) × (new ≡ s)) → StopsOrStays r s new
    early None p = late p.until (refuses_late s k who call o p.until) p.step
    early (Some fault) (err, is) = inr (ap (λ (x : State). x.up) is)

-- A WORLD AFTER A LINE OR A STEP that is down has no jobs, or was down before, with the same jobs
abbrev GoesDown : World → World → Type 0
GoesDown w new = (new.jobs ≡ []) ⊎ ((w.store.up ≡ false) × (new.jobs ≡ w.jobs))

up_down : {P : Type 0} (b : Bool) → b ≡ true → b ≡ false → P
up_down b up low = absurd (false≢true (sym low ∙ up))

-- nothing happened to store and jobs
same_down : (w new : World) → new.store.up ≡ w.store.up → new.jobs ≡ w.jobs → new.store.up ≡ false → GoesDown w new
same_down w new store jobs low = inr (sym store ∙ low, jobs)

as_down : (w new v : World) → new ≡ v → (v.store.up ≡ false → GoesDown w v) → new.store.up ≡ false → GoesDown w new
as_down w new v is goes low = subst (λ (x : World). GoesDown w x) (sym is) (goes (sym (ap (λ (x : World). x.store.up) is) ∙ low))

told_down : {R : Type 0} (said : R → List ℕ) (r : Result R StoreFault) (s : State) (w : World) → StopsOrStays r w.store s
    → (let v : World = tells (λ x t u. now_stands (said x) t u) r s w in v.store.up ≡ false → GoesDown w v)
told_down said (Ok x) s w (inl stop) low = absurd (let no : ⊥ = cc in no)
told_down said (Ok x) s w (inr same) low = inr (sym same ∙ low, refl)
told_down said (Err Stopped) s w stays low = inl refl
told_down said (Err fault) s w (inl stop) low = absurd (let no : ⊥ = cc in no)
told_down said (Err fault) s w (inr same) low = inr (sym same ∙ low, refl)

rose_jobs : {R : Type 0} (said : R → List ℕ) (r : Result R StoreFault) (s : State) (w : World)
    → (let v : World = tells (λ x t u. up_with (said x) t u) r s w in (v.jobs ≡ []) ⊎ (v.jobs ≡ w.jobs))
rose_jobs said (Ok x) s w = inr refl
rose_jobs said (Err Stopped) s w = inl refl
rose_jobs said (Err fault) s w = inr refl

-- a line that brings the system up
rises_down : {R : Type 0} (Does : Result R StoreFault → State → Type 0) (said : R → List ℕ) (o : Outcome) (w new : World) (b : Bool) → w.store.up ≡ b
    → MatchBool (not b) ((r : Result R StoreFault) × (s : State) × Does r s × (new ≡ tells (λ x t v. up_with (said x) t v) r s w)) ((o ≡ Plain) × (new ≡ line_refused Running w))
    → new.store.up ≡ false → GoesDown w new
rises_down Does said o w new true up (plain, is) low = up_down new.store.up (ap (λ (x : World). x.store.up) is ∙ up) low
rises_down Does said o w new false down (r, s, does, is) low = by (rose_jobs said r s w)
  where
    by : (let v : World = tells (λ x t u. up_with (said x) t u) r s w in (v.jobs ≡ []) ⊎ (v.jobs ≡ w.jobs)) → GoesDown w new
    by (inl none) = inl (ap (λ (x : World). x.jobs) is ∙ none)
    by (inr same) = inr (down, ap (λ (x : World). x.jobs) is ∙ same)

-- a line that needs a system that is up
needs_down : {R : Type 0} (Does : Result R StoreFault → State → Type 0) (said : R → List ℕ) (o : Outcome) (w new : World) (b : Bool)
    → ((r : Result R StoreFault) (s : State) → Does r s → StopsOrStays r w.store s)
    → MatchBool b ((r : Result R StoreFault) × (s : State) × Does r s × (new ≡ tells (λ x t v. now_stands (said x) t v) r s w)) ((o ≡ Plain) × (new ≡ line_refused NotStarted w))
    → new.store.up ≡ false → GoesDown w new
needs_down Does said o w new true stays (r, s, does, is) low = as_down w new _ is (told_down said r s w (stays r s does)) low
needs_down Does said o w new false stays (plain, is) low = same_down w new (ap (λ (x : World). x.store.up) is) (ap (λ (x : World). x.jobs) is) low

-- a line of jobs
jobs_down : (w new done : World) (b : Bool) → w.store.up ≡ b → done.store ≡ w.store → new ≡ (if b then done else line_refused NotStarted w) → new.store.up ≡ false → GoesDown w new
jobs_down w new done true up same is low = up_down new.store.up (ap (λ (x : World). x.store.up) is ∙ ap (λ (x : State). x.up) same ∙ up) low
jobs_down w new done false down same is low = same_down w new (ap (λ (x : World). x.store.up) is) (ap (λ (x : World). x.jobs) is) low

shut_at : (w new : World) (d : Option OpenDump) → new ≡ shut_with d w → new.store.up ≡ false → GoesDown w new
shut_at w new (Some dump) is low = same_down w new (ap (λ (x : World). x.store.up) is) (ap (λ (x : World). x.jobs) is) low
shut_at w new None is low = inl (ap (λ (x : World). x.jobs) is)

shut_down : (w new : World) (b : Bool) → new ≡ (if b then shut_with w.store.open_dump w else line_refused NotStarted w) → new.store.up ≡ false → GoesDown w new
shut_down w new true is low = shut_at w new w.store.open_dump is low
shut_down w new false is low = same_down w new (ap (λ (x : World). x.store.up) is) (ap (λ (x : World). x.jobs) is) low

line_down : ProcessKeeps → (o : Outcome) (what : Operator) (w new : World) → LineGives o what w new → new.store.up ≡ false → GoesDown w new
line_down keeps o line.Format w new gives low = rises_down (λ r s. IsFormat w.store o r s) (λ r. codes "FORMATTED") o w new w.store.up refl gives low
line_down keeps o line.Start w new gives low = rises_down (λ r s. IsStart w.store o r s) started_text o w new w.store.up refl gives low
line_down keeps o line.Restore w new gives low = rises_down (λ r s. IsRestore w.store o r s) (λ n. codes "RESTORED FROM DUMP " ++ decimal n) o w new w.store.up refl gives low
line_down keeps o line.Shut w new (plain, is) low = shut_down w new w.store.up is low
line_down keeps o (line.Job name user time money lines) w new (plain, is) low =
    jobs_down w new (job_line (job_refusal w user time money) (taken_in name user time money lines w) w) w.store.up refl (job_by o name user time money lines w true) is low
line_down keeps o (line.Mount serial) w new (r, s, (plain, does), is) low =
    as_down w new _ is (told_down (λ _. tape_text serial (codes "MOUNTED")) r s w (event_stays _ _ w.store _ r s refl does)) low
line_down keeps o (line.Unmount serial) w new (r, s, (plain, does), is) low =
    as_down w new _ is (told_down (λ _. tape_text serial (codes "UNMOUNTED")) r s w (event_stays _ _ w.store _ r s refl does)) low
line_down keeps o (line.Dump serial) w new gives low =
    needs_down (λ r s. IsOpening w.store serial o r s) (λ n. dump_text n (codes "OPENED")) o w new w.store.up
    (λ r s (k, holds, (places, noted, event), says_so). event_stays _ _ w.store _ r s refl event) gives low
line_down keeps o (line.Process serial) w new gives low =
    needs_down (λ r s. IsProcessing w.store serial o r s) (processed_text serial) o w new w.store.up (λ r s (k, holds, step, says_so). process_stays keeps w.store k serial o r s step) gives low
line_down keeps o (line.Migrate path) w new gives low =
    needs_down (λ r s. IsMigration w.store path o r s) (λ full. codes "MIGRATED " ++ full_text full) o w new w.store.up
    (λ r s (k, holds, event, says_so). event_stays _ _ w.store _ r s refl event) gives low
line_down keeps o (line.StopDisc k) w new (plain, is) low = same_down w new (ap (λ (x : World). x.store.up) is) (ap (λ (x : World). x.jobs) is) low
line_down keeps o (line.StopTape k) w new (plain, is) low = same_down w new (ap (λ (x : World). x.store.up) is) (ap (λ (x : World). x.jobs) is) low
line_down keeps o (line.Login t user time) w new (plain, is) low =
    jobs_down w new (job_line (login_refusal w t user time) (logged_in t user time w) w) w.store.up refl (login_by o t user time w true) is low
line_down keeps o (line.Typed t text) w new (plain, is) low = jobs_down w new (at_terminal t (typed_to text) w) w.store.up refl (typed_by t (typed_to text) w true) is low
line_down keeps o (line.Logout t) w new (plain, is) low = jobs_down w new (at_terminal t logged_out w) w.store.up refl (typed_by t logged_out w true) is low

dump_down : (n : ℕ) (r : Result DumpStepped StoreFault) (s : State) (w : World) → StopsOrStays r w.store s → (let v : World = dump_told n r s w in v.store.up ≡ false → GoesDown w v)
dump_down n (Ok Going) s w (inl stop) low = absurd (let no : ⊥ = cc in no)
dump_down n (Ok Going) s w (inr same) low = inr (sym same ∙ low, refl)
dump_down n (Ok (Completed m)) s w (inl stop) low = absurd (let no : ⊥ = cc in no)
dump_down n (Ok (Completed m)) s w (inr same) low = inr (sym same ∙ low, refl)
dump_down n (Err Stopped) s w stays low = inl refl
dump_down n (Err fault) s w (inl stop) low = absurd (let no : ⊥ = cc in no)
dump_down n (Err fault) s w (inr same) low = inr (sym same ∙ low, refl)

-- THE JOBS AND THE TURN of a world: the turn's program is honest or over, and while the system is down there are no jobs, but for a turn that was stopped
abbrev IsFair : Asks Work → Type 0
IsFair p = IsHonest p ⊎ ((stop : Stop) × StopsAt stop p)

record IsIdle (w : World) : Type 0 where
  turn : (n : ℕ) (p : Asks Work) → w.turn ≡ Some (n, p) → IsFair p × (w.store.up ≡ false → StopsAt Broken p)
  jobs : w.store.up ≡ false → w.turn ≡ None → w.jobs ≡ []

no_turn : {P : Type 0} (t : Option (ℕ × Asks Work)) (n : ℕ) (p : Asks Work) → t ≡ None → t ≡ Some (n, p) → P
no_turn t n p none some = let both : None ≡ Some (n, p) = sym none ∙ some in absurd (let no : ⊥ = cc in no)

-- the program after an answer
still_fair : (call : StoreCall) (more : Answer → Asks Work) → IsHonest (Call call more) → (a : Answer) → IsFair (more a)
still_fair call more h (Err (WaitTape serial)) = inr (Waits serial, h.0 serial)
still_fair call more h (Err Stopped) = inr (Broken, h.1)
still_fair call more h a = inl (h.2 a tt)

honest_call : {P : Type 0} (call : StoreCall) (more : Answer → Asks Work) → IsFair (Call call more) → (IsHonest (Call call more) → P) → P
honest_call call more (inl h) goes = goes h
honest_call call more (inr (stop, at)) goes = absurd at

-- a turn whose work was stopped is broken off
is_broken : (stop : Option Stop) (job : JobState) (work : Work) (charge : Option Charge) (turn : Turn) (after : JobState) → stop ≡ Some Broken → end_by stop job work charge ≡ Some (turn, after) → turn ≡ turns.Broken
is_broken (Some Broken) job work None turn after is ends = sym (some_pair_parts turns.Broken turn _ after ends).0
is_broken (Some Broken) job work (Some charge) turn after is ends = absurd (let no : ⊥ = cc in no)
is_broken stop job work charge turn after is ends = absurd (let no : ⊥ = cc in no)

idle_start : (lines : List Timed) (bad : Option ℕ) (s : State) → IsIdle (start lines bad s)
idle_start lines bad s = record { turn = λ n p some. no_turn None n p refl some; jobs = λ low none. refl }

module _ {F U : Type 0} (tariffs : Shared F (Bor Usage × Unit {0}) Charge) (tariff : F) (rules : Shared U (Bor Standing × Unit {0}) ℕ) (rule : U) (keeps : ProcessKeeps) where
  gone : (w new : World) → IsIdle w → w.turn ≡ None → GoesDown w new → new.jobs ≡ []
  gone w new i idle (inl none) = none
  gone w new i idle (inr (was, same)) = same ∙ i.jobs was idle

  idle_step : (w new : World) (move : Move) → IsIdle w → Step tariffs tariff rules rule w move new → IsIdle new
  idle_step w new (TakeLine tape o) i (next, rest, lines, between, idle, due, is_tape, gives) =
      let v : World = record w { lines = rest } in record {
        turn = λ n p some. no_turn new.turn n p ((line_leaves o next.what v new gives).turn ∙ idle) some;
        jobs = λ low none. by (line_down keeps o next.what v new gives low);
      }
    where
      by : (let v : World = record w { lines = rest } in GoesDown v new) → new.jobs ≡ []
      by (inl none) = none
      by (inr (was, same)) = same ∙ i.jobs was idle
  idle_step w new (Dumped o) i (between, idle, undue, dumping, (r, s, (k, d, holds, opened, step, says_so), is)) = record {
    turn = λ n p some. no_turn new.turn n p (ap (λ (x : World). x.turn) is ∙ dump_turn _ r s w ∙ idle) some;
    jobs = λ low none. gone w new i idle (as_down w new _ is (dump_down _ r s w (dump_stays w.store k d o r s step)) low);
  }
  idle_step w new (Begin number) i (idle, undue, before, (place, job, chosen, there, number_is, is)) = record {
    turn = λ n p some.
        let parts = some_pair_parts job.number n (turn_work job) p (sym (ap (λ (x : World). x.turn) is) ∙ some) in (
          subst (λ (x : Asks Work). IsFair x) parts.1 (inl (turn_honest job)),
          λ low. let found = number_there (can_step w.store) w.jobs place job there in
              nobody job.number w.jobs found.0 (i.jobs (sym (ap (λ (x : World). x.store.up) is) ∙ low) idle) found.1,
        );
    jobs = λ low none. no_turn new.turn job.number (turn_work job) none (ap (λ (x : World). x.turn) is);
  }
  idle_step w new (Answered o) i (number, call, more, job, answer, s, asks, here, (k, holds, step, says_so), real, is) =
      let before = i.turn number (Call call more) asks in record {
        turn = λ n p some.
            let parts = some_pair_parts number n (more answer) p (sym (ap (λ (x : World). x.turn) is) ∙ some) in
            subst (λ (x : Asks Work). IsFair x × (new.store.up ≡ false → StopsAt Broken x)) parts.1
            (honest_call call more before.0 (λ h. (still_fair call more h answer, λ low. stopped h before.1 low (call_stays w.store k job.user call o answer s step))));
        jobs = λ low none. no_turn new.turn number (more answer) none (ap (λ (x : World). x.turn) is);
      }
    where
      stopped : IsHonest (Call call more) → (w.store.up ≡ false → ⊥) → new.store.up ≡ false → StopsOrStays answer w.store s → StopsAt Broken (more answer)
      stopped h was low (inl stop) = subst (λ (a : Answer). StopsAt Broken (more a)) (sym stop) h.1
      stopped h was low (inr same) = absurd (was (sym same ∙ sym (ap (λ (x : World). x.store.up) is) ∙ low))
  idle_step w new (TurnOver number charge) i (work, job, turn, after, asks, here, priced, ends, is) = record {
    turn = λ n p some. no_turn new.turn n p (ap (λ (x : World). x.turn) is) some;
    jobs = λ low none.
        let store : new.store ≡ w.store = ap (λ (x : World). x.store) is ∙ turn_store after turn (shows job after w) in
        let stop = (i.turn number (Gives work) asks).1 (sym (ap (λ (x : State). x.up) store) ∙ low) in
        ap (λ (x : World). x.jobs) is ∙ ap (λ (t : Turn). let v : World = turn_told after t (shows job after w) in v.jobs) (is_broken work.stop job work charge turn after stop ends);
  }
  idle_step w new Ticked i (idle, through, is) = record {
    turn = λ n p some. no_turn new.turn n p (ap (λ (x : World). x.turn) is ∙ idle) some;
    jobs = λ low none. ap (λ (x : World). x.jobs) is ∙ i.jobs (sym (ap (λ (x : World). x.store.up) is) ∙ low) idle;
  }
  idle_step w new Over i (between, idle, none_left, nothing, going, is) = record {
    turn = λ n p some. no_turn new.turn n p (ap (λ (x : World). x.turn) is ∙ idle) some;
    jobs = λ low none. ap (λ (x : World). x.jobs) is;
  }

  idle_run : (w last : World) (moves : List Move) → IsIdle w → Run tariffs tariff rules rule w moves last → IsIdle last
  idle_run w last [] i run = subst (λ (x : World). IsIdle x) (sym run) i
  idle_run w last (move ∷ moves) i (mid, step, run) = idle_run mid last moves (idle_step w mid move i step) run

  no_answer : (w new : World) (move : Move) → IsIdle w → w.store.up ≡ false → Step tariffs tariff rules rule w move new → IsNoAnswer move
  no_answer w new (TakeLine tape o) i low step = tt
  no_answer w new (Dumped o) i low step = tt
  no_answer w new (Begin number) i low step = tt
  no_answer w new (Answered o) i low (number, call, more, job, answer, s, asks, here, step, real, is) = (i.turn number (Call call more) asks).1 low
  no_answer w new (TurnOver number charge) i low step = tt
  no_answer w new Ticked i low step = tt
  no_answer w new Over i low step = tt

  stays_quiet : (w last : World) (moves : List Move) → IsIdle w → StaysDown tariffs tariff rules rule w moves last → All IsNoAnswer moves
  stays_quiet w last [] i down = All-nil IsNoAnswer
  stays_quiet w last (move ∷ moves) i (mid, step, was, is, rest) = All-cons IsNoAnswer move moves (no_answer w mid move i was step) (stays_quiet mid last moves (idle_step w mid move i step) rest)

  -- A SYSTEM THAT IS DOWN ANSWERS NO CALL
  pub down_answers_nothing : DownAnswersNothing tariffs tariff rules rule
  down_answers_nothing lines bad s before after mid last run down = stays_quiet mid last after (idle_run (start lines bad s) mid before (idle_start lines bad s) run) down
