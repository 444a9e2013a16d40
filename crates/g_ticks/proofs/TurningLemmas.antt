-- A TURN, as moves of a run, from every world that matches what is at hand; and what holds of every device.
-- serves: end_shown, end_untold, KeptLemmas, TakenLemmas
use Rattle.std.proofs.Common.{◌≡◌, ◌⊎◌, ◌<◌, ◌≤◌, ℕ, Bool, true, false, List, [], ◌++◌, map, Option, Some, None, slice_get, refl, sym, ◌∙◌, ap, subst, inl, inr, append-nil, arith}
use Rattle.std.specs.Prelude.{◌↔◌, ◌&&◌, codes, not}
use Rattle.std.specs.Fmt.{decimal}
use Rattle.std.specs.Fn.{Shared}
use denote.Ref.{Bor}
use Rattle.std.proofs.lemmas.Bool.{false≢true}
use Rattle.std.proofs.lemmas.List.Elements.{All-nil}
use Rattle.g_turn.specs.State.{Work}
use Rattle.g_rules.specs.declared.tariff.Charge.{Charge}
use Rattle.g_rules.specs.declared.tariff.Usage.{Usage}
use Rattle.g_rules.specs.declared.rule.Standing.{Standing}
use Rattle.g_rules.specs.Choice.{IsChosen}
use Rattle.g_io.specs.Streams.{with_more}
use Rattle.g_plain.specs.Programs.{Gives, RanInPart}
use Rattle.g_job.specs.Beginning.{standing_of}
use Rattle.g_job.specs.Spending.{SpendsBy}
use Rattle.g_job.specs.State.{JobState}
use Rattle.g_job.specs.Turns.{turn_work}
use Rattle.g_job.proofs.TurnBounds.{turn_honest}
use Rattle.g_rules.specs.declared.turn.Turn.{Turn}
use Rattle.g_rules.specs.declared.turn.Turn.TheVariants as turns
use Rattle.g_store_meaning.specs.Answers.{Answers}
use Rattle.g_store_meaning.specs.Reading.{DevicesStandFor, StandsForState}
use Rattle.g_store_meaning.specs.Meaning.{told_reels}
use Rattle.g_store_meaning.specs.StoreInvariant.{StoreFacts}
use Rattle.g_store_meaning.specs.Safety.{AreSafe, IsSafe}
use Rattle.g_store_model.specs.State.{State}
use Rattle.g_store.proofs.ArmLemmas.{spent_stands}
use Rattle.g_run_model.specs.Accounts.{settled}
use Rattle.g_run_model.specs.Devices.{Devices}
use Rattle.g_run_model.specs.Moves.{Move, MovesCounted}
use Rattle.g_run_model.specs.Texts.{job_text, operator_line, shown, ended_file}
use Rattle.g_run_model.specs.World.{Between, Stepped, World, able, has_none, is_dumping, job_of, nothing_steps, with_job, without_job, shows}
use Rattle.g_run_model.proofs.CountLemmas.{event_none}
use Rattle.g_run_model.proofs.CountedTurnLemmas.{keeps_itself, turned_world}
use Rattle.g_run_model.proofs.CrewLemmas.{found_same, one_job}
use Rattle.g_run_model.proofs.StoreTurnLemmas.{CausesCount, StoreIsNow, devices_of}
use Rattle.g_run_model.proofs.TickLemmas.{turn_added, turn_adds}
use Rattle.g_run_model.proofs.TurnLemmas.{MayBegin, in_turn, with_turn}
use Rattle.g_job_table.specs.Accounts.{AreKept}
use Rattle.g_job_table.specs.Choice.{Chooses, able_in}
use Rattle.g_job_table.specs.Crew.{CrewState, IsCrewOf}
use Rattle.g_job_table.specs.Numbers.{AreOpen, job_in}
use Rattle.g_job_table.specs.Turn.{TakesTurn}
use Rattle.std.proofs.lemmas.List.{append_assoc}
use Rattle.g_day.specs.declared.progress.Failure.{Failure}
use Rattle.g_day.specs.declared.progress.Failure.TheVariants.{Memory}
use Rattle.g_day.specs.Losses.{LeftAfter}
use Rattle.g_day.specs.Parts.{IsReady, Matches, Seen, seen}
use Rattle.g_day.specs.Puts.{Puts, PutsBy}
use Rattle.g_day.specs.System.{Down, StandsAs, SystemFacts, SystemSafe, Up, devices_in}
use Rattle.g_day.proofs.CauseLemmas.{counted_by}
use Rattle.g_day.proofs.UpLemmas.{of_cause}
use Rattle.g_day.proofs.UserLemmas.{have_rows}
use Rattle.g_ticks.specs.Tick.{Comes, GoesBy, IsThrough, MayTurn}
use Rattle.g_ticks.specs.Turning.{EndsTurn, LeftBy, TookTurn}
use Rattle.g_ticks.proofs.NumberedLemmas.{numbered_is, open_with, open_without, without_with}
use Rattle.g_ticks.proofs.RanLemmas.{StaysSafe, part_safe, ran_safe}
use Rattle.g_ticks.proofs.StoppedCallLemmas.{Leaves, part_moved, turn_moved}

-- what a call's devices count
counts : CausesCount
counts old new answer o cause told = counted_by answer (devices_in (Up old)) (devices_in (Up new)) (of_cause old new answer cause) o told

more_none : (before : Option (List ℕ)) → with_more before [] ≡ before
more_none None = refl
more_none (Some bytes) = ap (λ (l : List ℕ). let o : Option (List ℕ) = Some l in o) (append-nil bytes)

-- the system after a turn
abbrev pub down_of : StoreFacts → SystemFacts
down_of s = Down (record { disc = s.online.disc; rack = s.rack })

abbrev pub turned_system : Turn → StoreFacts → SystemFacts
turned_system turns.Broken s = down_of s
turned_system turn s = Up s

pub same_devices : (turn : Turn) (s : StoreFacts) → devices_in (turned_system turn s) ≡ devices_of s
same_devices turns.Broken s = refl
same_devices (turns.Wants serial) s = refl
same_devices (turns.Ran units money) s = refl
same_devices (turns.Ended units money) s = refl

down_stands : (s : StoreFacts) (t : State) → s.spent ≡ true → StoreIsNow s t → StandsAs (down_of s) t
down_stands s t spent now =
    let reads : DevicesStandFor s.online.disc.size s.online.disc.held (told_reels s.rack) t = spent_stands s spent t now.stands in
    (ap (λ (u : State). u.up) reads.state_is, record { told = now.told; belong = now.belongs.devices; reads = reads })

up_stands : (s : StoreFacts) (t : State) → StoreIsNow s t → StandsAs (Up s) t
up_stands s t now = record { told = now.told; belongs = now.belongs; stands = now.stands }

pub unbroken : (turn : Turn) (s : StoreFacts) → (s.spent ≡ true) ↔ (turn ≡ turns.Broken) → (turn ≡ turns.Broken → ⊥) → s.spent ≡ false
unbroken turn s is isnt = by s.spent is
  where
    by : (b : Bool) → (b ≡ true) ↔ (turn ≡ turns.Broken) → b ≡ false
    by false is = refl
    by true is = absurd (isnt (is.0 refl))

-- by the turn, and if memory ran out
turned_stands : (turn : Turn) (s : StoreFacts) (t : State) (job : JobState) (work : Work) (behind : JobState) (w : World) → (s.spent ≡ true) ↔ (turn ≡ turns.Broken) → StoreIsNow s t
    → StandsAs (turned_system turn s) (turned_world w job t work turn behind).store
turned_stands turns.Broken s t job work behind w stopped now = down_stands s t (stopped.1 refl) now
turned_stands (turns.Wants serial) s t job work behind w stopped now = up_stands s t now
turned_stands (turns.Ran units money) s t job work behind w stopped now = up_stands s t now
turned_stands (turns.Ended units money) s t job work behind w stopped now = up_stands s t now

pub left_devices : (s : StoreFacts) (system : SystemFacts) → LeftBy s system → devices_in system ≡ devices_of s
left_devices s system (inl (unspent, is)) = ap devices_in is
left_devices s system (inr (spent, is)) = ap devices_in is

left_stands : (s : StoreFacts) (system : SystemFacts) (t : State) → LeftBy s system → StoreIsNow s t → StandsAs system t
left_stands s system t (inl (unspent, is)) now = subst (λ (x : SystemFacts). StandsAs x t) (sym is) (up_stands s t now)
left_stands s system t (inr (spent, is)) now = subst (λ (x : SystemFacts). StandsAs x t) (sym is) (down_stands s t spent now)

-- a safe store leaves a safe system
pub safe_turned : (turn : Turn) (s : StoreFacts) → (s.spent ≡ true) ↔ (turn ≡ turns.Broken) → (s.spent ≡ false → IsSafe s) → (s.spent ≡ true → AreSafe s.online.disc s.rack) → SystemSafe (turned_system turn s)
safe_turned turns.Broken s stopped up down = down (stopped.1 refl)
safe_turned (turns.Wants serial) s stopped up down = up (unbroken (turns.Wants serial) s stopped (λ e. let no : ⊥ = cc in no))
safe_turned (turns.Ran units money) s stopped up down = up (unbroken (turns.Ran units money) s stopped (λ e. let no : ⊥ = cc in no))
safe_turned (turns.Ended units money) s stopped up down = up (unbroken (turns.Ended units money) s stopped (λ e. let no : ⊥ = cc in no))

pub safe_left : (s : StoreFacts) (system : SystemFacts) → LeftBy s system → (s.spent ≡ false → IsSafe s) → (s.spent ≡ true → AreSafe s.online.disc s.rack) → SystemSafe system
safe_left s system (inl (unspent, at)) up down = subst (λ (x : SystemFacts). SystemSafe x) (sym at) (up unspent)
safe_left s system (inr (spent, at)) up down =
    subst (λ (x : SystemFacts). SystemSafe x) (sym at) (let d : SystemFacts = Down (record { disc = s.online.disc; rack = s.rack }) in let b : SystemSafe d = down spent in b)

-- if no job can step, a dump has taken its step
stepped_by : (w : World) → ((w.phase ≡ Between) × (is_dumping w ≡ false) × (nothing_steps w ≡ false)) ⊎ (w.phase ≡ Stepped) → has_none (able w) ≡ true → w.phase ≡ Stepped
stepped_by w (inr stepped) nobody = stepped
stepped_by w (inl (between, closed, some)) nobody =
    let is : nothing_steps w ≡ true = ap (λ (b : Bool). not b && has_none (able w)) closed ∙ nobody in
    absurd (false≢true (sym some ∙ is))

module _ (number count : ℕ) (old new : StoreFacts) (c : CrewState) (job behind : JobState) (there : job_in number c.jobs ≡ Some job) (numbers : behind.number ≡ job.number) where
  abbrev pub crew_behind : CrewState
  crew_behind = record c { jobs = with_job behind c.jobs }

  number_behind : behind.number ≡ number
  number_behind = numbers ∙ numbered_is number c.jobs job there

  -- the removed job is the job after the turn
  taken_is : (gone : JobState) → job_in number (with_job behind c.jobs) ≡ Some gone → gone ≡ behind
  taken_is gone found = found_same behind c.jobs gone (subst (λ (n : ℕ). job_in n (with_job behind c.jobs) ≡ Some gone) (sym number_behind) found)

  left_is : without_job number (with_job behind c.jobs) ≡ without_job behind.number c.jobs
  left_is = subst (λ (n : ℕ). without_job n (with_job behind c.jobs) ≡ without_job behind.number c.jobs) number_behind (without_with behind c.jobs)

  module _ (failure : Option Failure) (system : SystemFacts) (c' : CrewState) (before after : Option (List ℕ)) (faults faults' : ℕ) where
    pub system_is : (turn : Turn) → EndsTurn count number new crew_behind (shown job behind) turn failure system c' before after faults faults' → system ≡ turned_system turn new
    system_is turns.Broken ends = ends.down
    system_is (turns.Wants serial) ends = ends.up
    system_is (turns.Ran units money) ends = ends.up
    system_is (turns.Ended units money) (gone, mid, out, on) = on.up

    pub text_is : (turn : Turn) → EndsTurn count number new crew_behind (shown job behind) turn failure system c' before after faults faults' → Puts failure (shown job behind ++ turn_added count behind turn c.jobs) before after faults faults'
    text_is turns.Broken ends = ends.put
    text_is (turns.Wants serial) ends = subst (λ (n : ℕ). Puts failure (shown job behind ++ operator_line count (job_text n (codes "WANTS TAPE " ++ decimal serial))) before after faults faults') (sym number_behind) ends.put
    text_is (turns.Ran units money) ends = subst (λ (l : List ℕ). Puts failure l before after faults faults') (sym (append-nil (shown job behind))) ends.put
    text_is (turns.Ended units money) (gone, mid, out, on) = subst (λ (j : JobState). Puts failure (shown job behind ++ ended_file j) before after faults faults') (taken_is gone out.there) on.put

    -- the remaining crew is that of the world afterwards
    crew_is : (turn : Turn) → EndsTurn count number new crew_behind (shown job behind) turn failure system c' before after faults faults' → failure ≡ None → (new.spent ≡ true) ↔ (turn ≡ turns.Broken)
        → (w : World) (t : State) (work : Work) → StandsForState new t → IsCrewOf w c → IsCrewOf (turned_world w job t work turn behind) c'
    crew_is turns.Broken ends none stopped w t work stands m = record {
      jobs = sym (ap (λ (k : CrewState). k.jobs) ends.crew);
      accounts = λ user. subst (λ (k : CrewState). AreKept [] k.accounts) (sym ends.crew) (λ u. refl) user;
      next_job = m.next_job ∙ sym (ap (λ (k : CrewState). k.next_job) ends.crew);
    }
    crew_is (turns.Wants serial) ends none stopped w t work stands m =
        let opens = ends.opens none in
        let unspent = unbroken (turns.Wants serial) new stopped (λ e. let no : ⊥ = cc in no) in record {
          jobs = ap (λ (js : List JobState). with_job behind js) m.jobs ∙ sym (ap (λ (k : CrewState). k.jobs) opens.others);
          accounts = opens.accounts t w.accounts (have_rows new unspent t stands) m.accounts;
          next_job = m.next_job ∙ sym (ap (λ (k : CrewState). k.next_job) opens.others);
        }
    crew_is (turns.Ran units money) ends none stopped w t work stands m =
        let opens = ends.opens none in
        let unspent = unbroken (turns.Ran units money) new stopped (λ e. let no : ⊥ = cc in no) in record {
          jobs = ap (λ (js : List JobState). with_job behind js) m.jobs ∙ sym (ap (λ (k : CrewState). k.jobs) opens.others);
          accounts = opens.accounts t w.accounts (have_rows new unspent t stands) m.accounts;
          next_job = m.next_job ∙ sym (ap (λ (k : CrewState). k.next_job) opens.others);
        }
    crew_is (turns.Ended units money) (gone, mid, out, on) none stopped w t work stands m =
        let opens = on.opens none in
        let unspent = unbroken (turns.Ended units money) new stopped (λ e. let no : ⊥ = cc in no) in record {
          jobs = ap (λ (js : List JobState). without_job behind.number js) m.jobs ∙ sym left_is ∙ sym out.jobs ∙ sym (ap (λ (k : CrewState). k.jobs) opens.others);
          accounts = opens.accounts t (settled behind w.accounts) (have_rows new unspent t stands)
              (subst (λ (j : JobState). AreKept (settled j w.accounts) mid.accounts) (taken_is gone out.there) (out.accounts w.accounts m.accounts));
          next_job = m.next_job ∙ sym out.next_job ∙ sym (ap (λ (k : CrewState). k.next_job) opens.others);
        }

    -- and it is ready for the next part
    pub ready_is : (turn : Turn) → EndsTurn count number new crew_behind (shown job behind) turn failure system c' before after faults faults' → (new.spent ≡ true) ↔ (turn ≡ turns.Broken) → new.online.disc.size ≡ old.online.disc.size
        → IsReady (Up old) c → IsReady (turned_system turn new) c'
    ready_is turns.Broken ends stopped size (unspent, low, high) = (
      subst (λ (n : ℕ). 2177 < n) (sym size) low,
      subst (λ (n : ℕ). n ≤ 1048576) (sym size) high,
      ap (λ (k : CrewState). k.jobs) ends.crew,
      ap (λ (k : CrewState). k.accounts) ends.crew,
    )
    ready_is (turns.Wants serial) ends stopped size (unspent, low, high) =
        (unbroken (turns.Wants serial) new stopped (λ e. let no : ⊥ = cc in no), subst (λ (n : ℕ). 2177 < n) (sym size) low, subst (λ (n : ℕ). n ≤ 1048576) (sym size) high)
    ready_is (turns.Ran units money) ends stopped size (unspent, low, high) =
        (unbroken (turns.Ran units money) new stopped (λ e. let no : ⊥ = cc in no), subst (λ (n : ℕ). 2177 < n) (sym size) low, subst (λ (n : ℕ). n ≤ 1048576) (sym size) high)
    ready_is (turns.Ended units money) ends stopped size (unspent, low, high) =
        (unbroken (turns.Ended units money) new stopped (λ e. let no : ⊥ = cc in no), subst (λ (n : ℕ). 2177 < n) (sym size) low, subst (λ (n : ℕ). n ≤ 1048576) (sym size) high)

    -- numbers continue
    pub numbers_are : (turn : Turn) → EndsTurn count number new crew_behind (shown job behind) turn failure system c' before after faults faults' → failure ≡ None → c'.next_job ≡ c.next_job
    numbers_are turns.Broken ends none = ap (λ (k : CrewState). k.next_job) ends.crew
    numbers_are (turns.Wants serial) ends none = ap (λ (k : CrewState). k.next_job) (ends.opens none).others
    numbers_are (turns.Ran units money) ends none = ap (λ (k : CrewState). k.next_job) (ends.opens none).others
    numbers_are (turns.Ended units money) (gone, mid, out, on) none = ap (λ (k : CrewState). k.next_job) (on.opens none).others ∙ out.next_job

    pub open_is : (turn : Turn) → EndsTurn count number new crew_behind (shown job behind) turn failure system c' before after faults faults' → failure ≡ None → SpendsBy job turn behind → AreOpen c.jobs → AreOpen c'.jobs
    open_is turns.Broken ends none spends still = subst (λ (k : CrewState). AreOpen k.jobs) (sym ends.crew) (All-nil (λ (j : JobState). j.over ≡ false))
    open_is (turns.Wants serial) ends none (used, wants, on) still =
        subst (λ (js : List JobState). AreOpen js) (sym (ap (λ (k : CrewState). k.jobs) (ends.opens none).others)) (open_with behind on c.jobs still)
    open_is (turns.Ran units money) ends none (some, used, less, wants, on) still =
        subst (λ (js : List JobState). AreOpen js) (sym (ap (λ (k : CrewState). k.jobs) (ends.opens none).others)) (open_with behind on c.jobs still)
    open_is (turns.Ended units money) (gone, mid, out, on) none over still =
        subst (λ (js : List JobState). AreOpen js) (sym (ap (λ (k : CrewState). k.jobs) (on.opens none).others ∙ out.jobs ∙ left_is)) (open_without behind.number c.jobs still)

module _ {F U : Type 0} (tariffs : Shared F (Bor Usage × Unit {0}) Charge) (tariff : F) (rules : Shared U (Bor Standing × Unit {0}) ℕ) (rule : U) where
  -- what is done from a world
  record Doing (w : World) (old : Seen) (failure : Option Failure) (new : Seen) (added : List ℕ) : Type 0 where
    moves : List Move
    next : World
    comes : Comes tariffs tariff rules rule w old.system new.system moves next added
    matches : failure ≡ None → Matches next new
    through : failure ≡ None → IsThrough next

  went : (failure : Option Failure) (old new : Seen) (added : List ℕ) (before after : Option (List ℕ)) → ((w : World) → Matches w old → MayTurn w → Doing w old failure new added)
      → PutsBy failure added before after → GoesBy tariffs tariff rules rule MayTurn IsThrough old failure new before after
  went None old new added before after does put = λ w m may. let d = does w m may in (d.moves, d.next, added, d.comes, d.matches refl, d.through refl, put)
  went (Some failure) old new added before after does put = λ w m may. let d = does w m may in (d.moves, d.next, added, d.comes, put)

  -- what a power loss leaves of the system
  turned_left : (turn : Turn) (w : World) (moves : List Move) (next : World) (old new : StoreFacts) → (new.spent ≡ true) ↔ (turn ≡ turns.Broken)
      → Leaves counts tariffs tariff rules rule w moves next old new → IsSafe old → LeftAfter tariffs tariff rules rule w moves next (Up old) (turned_system turn new)
  turned_left turns.Broken w moves next old new stopped leaves safe = λ blocks rack left. inl (leaves safe (stopped.1 refl) blocks rack left)
  turned_left (turns.Wants serial) w moves next old new stopped leaves safe = tt
  turned_left (turns.Ran units money) w moves next old new stopped leaves safe = tt
  turned_left (turns.Ended units money) w moves next old new stopped leaves safe = tt

  part_left : (w : World) (moves : List Move) (next : World) (old new : StoreFacts) (system : SystemFacts) → LeftBy new system
      → Leaves counts tariffs tariff rules rule w moves next old new → IsSafe old → LeftAfter tariffs tariff rules rule w moves next (Up old) system
  part_left w moves next old new system (inl (unspent, is)) leaves safe = subst (λ (s : SystemFacts). LeftAfter tariffs tariff rules rule w moves next (Up old) s) (sym is) tt
  part_left w moves next old new system (inr (spent, is)) leaves safe =
      subst (λ (s : SystemFacts). LeftAfter tariffs tariff rules rule w moves next (Up old) s) (sym is) (λ blocks rack left. inl (leaves safe spent blocks rack left))

  -- if a turn may begin, one does
  may_begin : (w : World) → MayTurn w → MayBegin tariffs tariff rules rule w
  may_begin w (idle, undue, inl (between, closed, some)) = inl (between, closed)
  may_begin w (idle, undue, inr stepped) = inr stepped

  module _ (old : StoreFacts) (c : CrewState) (count number : ℕ) (ready : IsReady (Up old) c) where
    module _ (choice : (u : State) → StandsForState old u → Chooses rules rule c.jobs (able_in u c.jobs) (Some number)) (job : JobState) (there : job_in number c.jobs ≡ Some job) where
      -- the choice, in a world of this crew
      record IsNext (w : World) : Type 0 where
        place : ℕ
        chosen : IsChosen rules rule (map standing_of (able w)) place
        at : slice_get (able w) place ≡ Some job
        here : job_of w job.number ≡ Some job

      next_in : (w : World) → Matches w (seen (Up old) c count) → IsNext w
      next_in w m =
          let (place, one, chosen, at, is, found) = choice w.store m.stands.stands in
          let same : one ≡ job = one_job one job (sym found ∙ there) in record {
            place = place;
            chosen = subst (λ (js : List JobState). IsChosen rules rule (map standing_of (able_in w.store js)) place) (sym m.crew.jobs) chosen;
            at = subst (λ (js : List JobState). slice_get (able_in w.store js) place ≡ Some job) (sym m.crew.jobs) (at ∙ ap (λ (j : JobState). let o : Option JobState = Some j in o) same);
            here = subst (λ (js : List JobState). job_in job.number js ≡ Some job) (sym m.crew.jobs)
                (subst (λ (n : ℕ). job_in n c.jobs ≡ Some job) (sym (numbered_is number c.jobs job there)) there);
          }

      now_in : (w : World) → Matches w (seen (Up old) c count) → StoreIsNow old w.store
      now_in w m = record { told = m.stands.told; belongs = m.stands.belongs; stands = m.stands.stands }

      -- A WHOLE TURN
      whole_does : (behind : JobState) (turn : Turn) (new : StoreFacts) (failure : Option Failure) (system : SystemFacts) (c' : CrewState) (before after : Option (List ℕ)) (faults faults' : ℕ)
          → TakesTurn Answers tariffs tariff job old turn behind new → (new.spent ≡ true) ↔ (turn ≡ turns.Broken)
          → EndsTurn count number new (record c { jobs = with_job behind c.jobs }) (shown job behind) turn failure system c' before after faults faults'
          → (w : World) → Matches w (seen (Up old) c count) → MayTurn w → Doing w (seen (Up old) c count) failure (seen (turned_system turn new) c' count) (shown job behind ++ turn_added count behind turn c.jobs)
      whole_does behind turn new failure system c' before after faults faults' takes stopped ends w m may =
          let next = next_in w m in
          let (moves, t, now, run, counted, keeps, leaves) = turn_moved counts tariffs tariff rules rule w job next.place may.0 may.1 (may_begin w may) next.chosen next.at next.here old new (now_in w m) takes.told takes.work turn behind takes.ran takes.ends in
          let world : World = turned_world w job t takes.work turn behind in
          let kept : StaysSafe old new = ran_safe job.user (turn_work job) (turn_honest job) takes.told old takes.work new takes.ran in
          let stands : StandsAs (turned_system turn new) world.store = turned_stands turn new t job takes.work behind w stopped now in record {
            moves = moves;
            next = world;
            comes = record {
              run = run;
              counted = subst (λ (d : Devices). MovesCounted moves [] [] (devices_of old) d) (sym (same_devices turn new)) counted;
              stands = stands;
              safe = λ safe. safe_turned turn new stopped (kept.up safe) (kept.down safe);
              left = λ safe. turned_left turn w moves world old new stopped leaves safe;
              keeps = keeps;
              text = turn_adds behind turn (shows job behind (with_turn (record w { phase = Stepped }) t job.number (Gives takes.work)))
                  ∙ append_assoc w.text (shown job behind) (turn_added w.count behind turn w.jobs)
                  ∙ ap (λ (n : ℕ). w.text ++ (shown job behind ++ turn_added n behind turn w.jobs)) m.count
                  ∙ ap (λ (js : List JobState). w.text ++ (shown job behind ++ turn_added count behind turn js)) m.crew.jobs;
            };
            matches = λ none. record {
              stands = stands;
              crew = crew_is number count old new c job behind there takes.spends.0 failure system c' before after faults faults' turn ends none stopped w t takes.work now.stands m.crew;
              count = keeps.count ∙ m.count;
            };
            through = λ none. (refl, inl refl);
          }

      -- A PREFIX OF ONE
      part_does : (new : StoreFacts) (system : SystemFacts) (c' : CrewState) → RanInPart Answers job.user old (turn_work job) new → LeftBy new system
          → (w : World) → Matches w (seen (Up old) c count) → MayTurn w → Doing w (seen (Up old) c count) (Some Memory) (seen system c' count) []
      part_does new system c' ran left w m may =
          let next = next_in w m in
          let (moves, t, rest, now, run, counted, keeps, leaves) = part_moved counts tariffs tariff rules rule w job next.place may.0 may.1 (may_begin w may) next.chosen next.at next.here old new (now_in w m) ran in
          let kept : StaysSafe old new = part_safe job.user (turn_work job) (turn_honest job) old new ran in record {
            moves = moves;
            next = with_turn (in_turn tariffs tariff rules rule w) t job.number rest;
            comes = record {
              run = run;
              counted = subst (λ (d : Devices). MovesCounted moves [] [] (devices_of old) d) (sym (left_devices new system left)) counted;
              stands = left_stands new system t left now;
              safe = λ safe. safe_left new system left (kept.up safe) (kept.down safe);
              left = λ safe. part_left w moves (with_turn (in_turn tariffs tariff rules rule w) t job.number rest) old new system left leaves safe;
              keeps = keeps;
              text = sym (append-nil w.text);
            };
            matches = λ none. absurd (let no : ⊥ = cc in no);
            through = λ none. absurd (let no : ⊥ = cc in no);
          }

      pub turn_goes : (failure : Option Failure) (system : SystemFacts) (c' : CrewState) (before after : Option (List ℕ)) (faults faults' : ℕ) (took : TookTurn tariffs tariff old c count number failure system c' before after faults faults') → took.job ≡ job
          → GoesBy tariffs tariff rules rule MayTurn IsThrough (seen (Up old) c count) failure (seen system c' count) before after
      turn_goes failure system c' before after faults faults' took is =
          let takes = subst (λ (j : JobState). TakesTurn Answers tariffs tariff j old took.turn took.behind took.new) is took.takes in
          let ends = subst (λ (j : JobState). EndsTurn count number took.new (record c { jobs = with_job took.behind c.jobs }) (shown j took.behind) took.turn failure system c' before after faults faults') is took.ends in
          subst (λ (s : SystemFacts). GoesBy tariffs tariff rules rule MayTurn IsThrough (seen (Up old) c count) failure (seen s c' count) before after)
          (sym (system_is number count old took.new c job took.behind there takes.spends.0 failure system c' before after faults faults' took.turn ends))
          (went failure (seen (Up old) c count) (seen (turned_system took.turn took.new) c' count) (shown job took.behind ++ turn_added count took.behind took.turn c.jobs) before after
          (whole_does took.behind took.turn took.new failure system c' before after faults faults' takes took.stopped ends)
          (text_is number count old took.new c job took.behind there takes.spends.0 failure system c' before after faults faults' took.turn ends).put)

      pub part_goes : (system : SystemFacts) (c' : CrewState) (before : Option (List ℕ)) (new : StoreFacts) → RanInPart Answers job.user old (turn_work job) new → LeftBy new system
          → GoesBy tariffs tariff rules rule MayTurn IsThrough (seen (Up old) c count) (Some Memory) (seen system c' count) before before
      part_goes system c' before new ran left =
          went (Some Memory) (seen (Up old) c count) (seen system c' count) [] before before (part_does new system c' ran left) (0, omega arith, sym (more_none before))

    -- no job can step
    pub none_goes : ((u : State) → StandsForState old u → has_none (able_in u c.jobs) ≡ true) → (before : Option (List ℕ))
        → GoesBy tariffs tariff rules rule MayTurn IsThrough (seen (Up old) c count) None (seen (Up old) c count) before before
    none_goes none before =
        went None (seen (Up old) c count) (seen (Up old) c count) [] before before
        (λ w m may.
        let nobody : has_none (able w) ≡ true = subst (λ (js : List JobState). has_none (able_in w.store js) ≡ true) (sym m.crew.jobs) (none w.store m.stands.stands) in record {
          moves = [];
          next = w;
          comes = record { run = refl; counted = event_none (devices_of old); stands = m.stands; safe = λ safe. safe; left = λ safe. tt; keeps = keeps_itself w; text = sym (append-nil w.text) };
          matches = λ is. m;
          through = λ is. (may.0, inr (stepped_by w may.2 nobody, nobody));
        })
        (sym (more_none before))
