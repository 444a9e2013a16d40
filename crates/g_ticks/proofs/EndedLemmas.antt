-- What a turn's end requires and leaves: the job is still there, its reel isn't mounted.
-- serves: end_shown (ends), end_turn, end_untold (ends), open_each (opens), turn_of (turn)
use Rattle.std.proofs.Common.{◌≡◌, ℕ, Bool, true, false, not, List, [], Option, None, Some, drop, length, refl, sym, ◌∙◌, ap, subst, inl, inr}
use Rattle.std.specs.Prelude.{◌↔◌, Err, IfOk, Ok, Result}
use Rattle.g_base.specs.declared.memory.NoMemory.{NoMemory}
use Rattle.g_base.proofs.KeyLemmas.{find-put}
use Rattle.std.specs.Fn.{Shared}
use Rattle.std.specs.Option.{option_map}
use denote.Ref.{Bor}
use Rattle.g_job.specs.State.{JobState}
use Rattle.g_job.specs.Turns.{turn_work}
use Rattle.g_rules.specs.declared.turn.Turn.{Turn}
use Rattle.g_rules.specs.declared.turn.Turn.TheVariants as turns
use Rattle.g_plain.specs.Programs.{RanInPart}
use Rattle.g_store_meaning.specs.Answers.{Answers}
use Rattle.g_store_meaning.specs.StoreInvariant.{StoreFacts}
use Rattle.g_store_model.specs.State.{State}
use Rattle.g_entry.specs.declared.user_rec.UserRec.{UserRec}
use Rattle.g_tape.specs.Rack.{is_mounted, reel}
use Rattle.g_rules.specs.declared.tariff.Usage.{Usage}
use Rattle.g_rules.specs.declared.tariff.Charge.{Charge}
use Rattle.g_day.specs.declared.progress.Failure.{Failure}
use Rattle.g_day.specs.declared.progress.Failure.TheVariants.{Memory}
use Rattle.g_day.specs.Opening.{Opens}
use Rattle.g_day.specs.System.{SystemFacts}
use Rattle.g_job_table.specs.Accounts.{AreKept, HaveRows}
use Rattle.g_job_table.specs.Crew.{CrewState}
use Rattle.g_job_table.specs.Numbers.{job_in}
use Rattle.g_job_table.specs.Seating.{pushed_of}
use Rattle.g_job_table.specs.Turn.{TakesTurn, shown_from}
use Rattle.g_run_model.specs.Accounts.{Opened, rows_of, with_new}
use Rattle.g_run_model.specs.Texts.{ended_file, put_as, shown}
use Rattle.g_run_model.specs.World.{with_job}
use Rattle.g_run_model.proofs.CrewLemmas.{one_job}
use Rattle.g_ticks.specs.Turning.{EndsTurn, LeftBy, ShowsAs, TakenOut, Takes, added_of}
use Rattle.g_ticks.proofs.NumberedLemmas.{numbered_is}

-- the job that replaces another is found under its number
found_with : (j old : JobState) (jobs : List JobState) → job_in j.number jobs ≡ Some old → job_in j.number (with_job j jobs) ≡ Some j
found_with j old jobs found = find-put (λ (k : JobState). k.number) j jobs ∙ ap (option_map (λ (k : JobState). j)) found

pub there_behind : (number : ℕ) (jobs : List JobState) (job behind : JobState) → job_in number jobs ≡ Some job → behind.number ≡ job.number → (now : List JobState) → now ≡ with_job behind jobs → job_in number now ≡ Some behind
there_behind number jobs job behind there numbers now is =
    let same : behind.number ≡ number = numbers ∙ numbered_is number jobs job there in
    ap (λ (js : List JobState). job_in number js) is
    ∙ subst (λ (n : ℕ). job_in n (with_job behind jobs) ≡ Some behind) same
    (found_with behind job jobs (subst (λ (n : ℕ). job_in n jobs ≡ Some job) (sym same) there))

pub unmounted : (b : Bool) → not b ≡ true → b ≡ false
unmounted false is = refl
unmounted true is = sym is

-- a turn's end, by what the turn is
pub ends_by : (count number : ℕ) (s : StoreFacts) (c : CrewState) (shown : List ℕ) (t turn : Turn) (failure : Option Failure) (system : SystemFacts) (c' : CrewState) (before after : Option (List ℕ)) (faults faults' : ℕ) → turn ≡ t
    → EndsTurn count number s c shown t failure system c' before after faults faults' → EndsTurn count number s c shown turn failure system c' before after faults faults'
ends_by count number s c shown t turn failure system c' before after faults faults' is ends = subst (λ (x : Turn). EndsTurn count number s c shown x failure system c' before after faults faults') (sym is) ends

-- WHAT A TURN SHOWS at a terminal, by the number of bytes that the job's file had before
module _ (job behind : JobState) (seat : behind.terminal ≡ job.terminal) where
  pub added_is : added_of (shown_from job) behind ≡ shown job behind
  added_is = by job.terminal seat
    where
      by : (o : Option ℕ) → behind.terminal ≡ o → (let k : JobState = record job { terminal = o } in added_of (shown_from k) behind ≡ shown job behind)
      by None at = sym (ap (λ (p : Option ℕ). put_as p [] (drop (length job.monitor) behind.monitor)) at)
      by (Some t) at = refl

  pub shows_as : ShowsAs (shown_from job) behind.terminal
  shows_as = by job.terminal seat
    where
      by : (o : Option ℕ) → behind.terminal ≡ o → (let k : JobState = record job { terminal = o } in ShowsAs (shown_from k) behind.terminal)
      by None at = subst (λ (p : Option ℕ). ShowsAs None p) (sym at) tt
      by (Some t) at = subst (λ (p : Option ℕ). ShowsAs (Some (length job.monitor)) p) (sym at) tt

-- by which it is at a terminal or at none
pub shows_none : (terminal : Option ℕ) → ShowsAs None terminal → terminal ≡ None
shows_none None is = refl
shows_none (Some t) is = absurd is

pub shows_some : (before : ℕ) (terminal : Option ℕ) → ShowsAs (Some before) terminal → (t : ℕ) × (terminal ≡ Some t)
shows_some before None is = absurd is
shows_some before (Some t) is = (t, refl)

-- the whole file of a job at no terminal
pub whole_file : (number : ℕ) (c mid : CrewState) (job one : JobState) → TakenOut job number c mid → job_in number c.jobs ≡ Some one → one.terminal ≡ None → ended_file job ≡ job.monitor
whole_file number c mid job one out there none =
    let same : job ≡ one = one_job job one (sym out.there ∙ there) in
    ap (λ (p : Option ℕ). put_as p job.monitor []) (ap (λ (j : JobState). j.terminal) same ∙ none)

-- and nothing more for one that is at a terminal
pub no_file : (number t : ℕ) (c mid : CrewState) (job one : JobState) → TakenOut job number c mid → job_in number c.jobs ≡ Some one → one.terminal ≡ Some t → ended_file job ≡ []
no_file number t c mid job one out there some =
    let same : job ≡ one = one_job job one (sym out.there ∙ there) in
    ap (λ (p : Option ℕ). put_as p job.monitor []) (ap (λ (j : JobState). j.terminal) same ∙ some)

-- what was made of a file to be shown
pub shown_is : (made : Result (List ℕ) NoMemory) (number before : ℕ) (jobs : List JobState) (job : JobState) → IfOk made (λ text. (j : JobState) → job_in number jobs ≡ Some j → text ≡ pushed_of j before)
    → job_in number jobs ≡ Some job → IfOk made (λ t. t ≡ pushed_of job before)
shown_is (Ok text) number before jobs job told found = told job found
shown_is (Err e) number before jobs job told found = tt

module _ {F : Type 0} (tariffs : Shared F (Bor Usage × Unit {0}) Charge) (tariff : F) where
  -- HOW A TURN WAS TAKEN, from what the crew says of it and how it ended
  pub took_whole : (old new : StoreFacts) (c mid : CrewState) (count number : ℕ) (turn : Turn) (failure : Option Failure) (system : SystemFacts) (c' : CrewState) (before after : Option (List ℕ)) (faults faults' : ℕ)
      → (job : JobState) (behind : JobState) → job_in number c.jobs ≡ Some job → TakesTurn Answers tariffs tariff job old turn behind new → mid ≡ record c { jobs = with_job behind c.jobs }
      → (new.spent ≡ true) ↔ (turn ≡ turns.Broken) → ((serial : ℕ) → turn ≡ turns.Wants serial → not (is_mounted (reel serial new.rack.reels)) ≡ true)
      → EndsTurn count number new mid (shown job behind) turn failure system c' before after faults faults' → Takes tariffs tariff old c count number failure system c' before after faults faults'
  took_whole old new c mid count number turn failure system c' before after faults faults' job behind there takes crew stopped waits ends = inl (record {
    job = job;
    behind = behind;
    turn = turn;
    new = new;
    there = there;
    takes = takes;
    stopped = stopped;
    waits = λ serial is. unmounted (is_mounted (reel serial new.rack.reels)) (waits serial is);
    ends = subst (λ (k : CrewState). EndsTurn count number new k (shown job behind) turn failure system c' before after faults faults') crew ends;
  })

  pub took_part : (old new : StoreFacts) (c : CrewState) (count number : ℕ) (system : SystemFacts) (c' : CrewState) (before : Option (List ℕ)) (faults : ℕ) (job : JobState) → job_in number c.jobs ≡ Some job
      → RanInPart Answers job.user old (turn_work job) new → LeftBy new system → Takes tariffs tariff old c count number (Some Memory) system c' before before faults faults
  took_part old new c count number system c' before faults job there ran left = inr (record { job = job; new = new; there = there; ran = ran; left = left; failed = refl; put = refl; cause = refl })

-- accounts open for the users of a store, whose records were read
pub opens_read : (users read : List UserRec) (old new : CrewState) → read ≡ users
    → ((s : State) (accounts : List Opened) → HaveRows read (rows_of s) → AreKept accounts old.accounts → AreKept (with_new s accounts) new.accounts) → new ≡ record old { accounts = new.accounts } → Opens users old new
opens_read users read old new is opened others = record { accounts = λ s accounts rows kept. opened s accounts (subst (λ (us : List UserRec). HaveRows us (rows_of s)) (sym is) rows) kept; others = others }
