-- A turn leaves less to do, whether or not the devices expose their contents.
-- serves: job_steps, RestLemmas, TakenLemmas
use Rattle.std.proofs.Common.{◌&&◌, ◌≡◌, ◌≤◌, ◌+◌, ◌-◌, ℕ, Bool, true, false, cond, not, List, [], ◌∷◌, filter, sum_by, Option, Some, None, refl, sym, ◌∙◌, ap, subst, if◌then◌else◌, arith}
use Rattle.std.proofs.lemmas.List.Sums.{sum_by-cons}
use Rattle.std.specs.Fn.{Shared}
use denote.Ref.{Bor}
use Rattle.g_rules.specs.declared.rule.Standing.{Standing}
use Rattle.g_job.specs.Spending.{SpendsBy}
use Rattle.g_job.specs.State.{JobState}
use Rattle.g_rules.specs.declared.turn.Turn.{Turn}
use Rattle.g_rules.specs.declared.turn.Turn.TheVariants as turns
use Rattle.g_store_meaning.specs.StoreInvariant.{DumpFacts, StoreFacts}
use Rattle.g_store_model.specs.State as state
use Rattle.g_store_model.specs.State.{State}
use Rattle.g_tape.specs.Rack.{Rack, is_mounted, reel}
use Rattle.g_run_model.specs.World.{can_step, has_none, with_job, without_job}
use Rattle.g_run_model.proofs.CrewLemmas.{AreRising, listed, one_job}
use Rattle.g_run_model.proofs.ShareLemmas.{share-charged, share-steps, share-waits, sum_by-with, sum_by-without}
use Rattle.g_job_table.specs.Choice.{Chooses, able_in}
use Rattle.g_job_table.specs.Crew.{CrewState}
use Rattle.g_job_table.specs.Numbers.{Rise, job_in}
use Rattle.g_run_model.specs.Texts.{shown}
use Rattle.g_job.specs.Terminal.{is_ready}
use Rattle.g_day.specs.declared.progress.Failure.{Failure}
use Rattle.g_day.specs.Parts.{Seen, seen}
use Rattle.g_day.specs.System.{Down, SystemFacts, Up}
use Rattle.g_ticks.specs.Tick.{Falls, dump_left, left, may_step, reel_there, share_in, some_job_steps}
use Rattle.g_ticks.specs.Turning.{EndsTurn}
use Rattle.g_ticks.proofs.NumberedLemmas.{numbered_is, without_with}
use Rattle.g_ticks.proofs.RanLemmas.{StaysOver, mounted_some, some_state}

pub rising_of : (low : ℕ) (jobs : List JobState) (next : ℕ) → Rise low jobs next → AreRising low jobs next
rising_of low [] next r = r
rising_of low (j ∷ jobs) next r = (r.0, rising_of (j.number + 1) jobs next r.1)

-- the same jobs can step, by a state and by a rack with the same reels mounted
pub step_same : (u : State) (rack : Rack) → ((serial : ℕ) → state.is_mounted u serial ≡ is_mounted (reel serial rack.reels)) → (j : JobState) → can_step u j ≡ may_step rack j
step_same u rack same j = by j.wants
  where
    by : (o : Option ℕ) → (let k : JobState = record j { wants = o } in can_step u k ≡ may_step rack k)
    by None = refl
    by (Some serial) = ap (λ (b : Bool). b && is_ready j) (same serial)

rack_same : (old new : Rack) → ((serial : ℕ) → is_mounted (reel serial new.reels) ≡ is_mounted (reel serial old.reels)) → (j : JobState) → may_step new j ≡ may_step old j
rack_same old new same j = ap (λ (b : Bool). b && is_ready j) (by j.wants)
  where
    by : (o : Option ℕ) → reel_there new o ≡ reel_there old o
    by None = refl
    by (Some serial) = same serial

share_same : (old new : Rack) → ((serial : ℕ) → is_mounted (reel serial new.reels) ≡ is_mounted (reel serial old.reels)) → (j : JobState) → share_in new j ≡ share_in old j
share_same old new same j = ap (λ (b : Bool). (j.allowance - j.used) + (if b then 1 else 0)) (rack_same old new same j)

sum_same : (old new : Rack) → ((serial : ℕ) → is_mounted (reel serial new.reels) ≡ is_mounted (reel serial old.reels)) → (jobs : List JobState) → sum_by (share_in new) jobs ≡ sum_by (share_in old) jobs
sum_same old new same [] = refl
sum_same old new same (j ∷ jobs) =
    let one : share_in new j ≡ share_in old j = share_same old new same j in
    let rest : sum_by (share_in new) jobs ≡ sum_by (share_in old) jobs = sum_same old new same jobs in
    let a : sum_by (share_in new) (j ∷ jobs) ≡ share_in new j + sum_by (share_in new) jobs = sum_by-cons (share_in new) j jobs in
    let b : sum_by (share_in old) (j ∷ jobs) ≡ share_in old j + sum_by (share_in old) jobs = sum_by-cons (share_in old) j jobs in
    omega (arith, one, rest, a, b)

pub able_same : (u : State) (rack : Rack) → ((serial : ℕ) → state.is_mounted u serial ≡ is_mounted (reel serial rack.reels)) → (jobs : List JobState) → filter (can_step u) jobs ≡ filter (may_step rack) jobs
able_same u rack same [] = refl
able_same u rack same (j ∷ jobs) =
    ap (λ (b : Bool). cond b (j ∷ filter (can_step u) jobs) (filter (can_step u) jobs)) (step_same u rack same j)
    ∙ ap (λ (js : List JobState). cond (may_step rack j) (j ∷ js) js) (able_same u rack same jobs)

-- one less is enough
falls_by : (less : Bool) (n m : ℕ) → n + 1 ≤ m → n + (if less then 1 else 0) ≤ m
falls_by true n m is = is
falls_by false n m is = omega (arith, is)

-- a turn of a job that can step leaves less of the jobs
module _ (old new : StoreFacts) (count number : ℕ) (c : CrewState) (rise : Rise 1 c.jobs c.next_job) (job behind : JobState) (there : job_in number c.jobs ≡ Some job) (could : may_step old.rack job ≡ true)
    (numbers : behind.number ≡ job.number) (allowed : behind.allowance ≡ job.allowance) (stays : StaysOver old new) where
  here : job_in job.number c.jobs ≡ Some job
  here = subst (λ (n : ℕ). job_in n c.jobs ≡ Some job) (sym (numbered_is number c.jobs job there)) there

  here_behind : job_in behind.number c.jobs ≡ Some job
  here_behind = subst (λ (n : ℕ). job_in n c.jobs ≡ Some job) (sym numbers) here

  one : 1 ≤ share_in old.rack job
  one = share-steps (may_step old.rack) job could

  gone_less : sum_by (share_in old.rack) (without_job behind.number c.jobs) + 1 ≤ sum_by (share_in old.rack) c.jobs
  gone_less =
      let sum : sum_by (share_in old.rack) (without_job behind.number c.jobs) + share_in old.rack job ≡ sum_by (share_in old.rack) c.jobs = sum_by-without (share_in old.rack) behind.number job 1 c.jobs c.next_job (rising_of 1 c.jobs c.next_job rise) here_behind in
      let some : 1 ≤ share_in old.rack job = one in
      omega (arith, sum, some)

  none_less : 1 ≤ sum_by (share_in old.rack) c.jobs
  none_less = let is = gone_less in omega (arith, is)

  with_less : share_in old.rack behind + 1 ≤ share_in old.rack job → sum_by (share_in old.rack) (with_job behind c.jobs) + 1 ≤ sum_by (share_in old.rack) c.jobs
  with_less less =
      let sum : sum_by (share_in old.rack) (with_job behind c.jobs) + share_in old.rack job ≡ sum_by (share_in old.rack) c.jobs + share_in old.rack behind =
      sum_by-with (share_in old.rack) behind job 1 c.jobs c.next_job (rising_of 1 c.jobs c.next_job rise) here_behind in
      omega (arith, sum, less)

  -- the jobs that are left, by the turn
  abbrev jobs_left : Turn → List JobState
  jobs_left turns.Broken = []
  jobs_left (turns.Ended units money) = without_job behind.number c.jobs
  jobs_left turn = with_job behind c.jobs

  jobs_less : (turn : Turn) → SpendsBy job turn behind → ((serial : ℕ) → turn ≡ turns.Wants serial → is_mounted (reel serial new.rack.reels) ≡ false)
      → sum_by (share_in old.rack) (jobs_left turn) + 1 ≤ sum_by (share_in old.rack) c.jobs
  jobs_less turns.Broken spends waits = none_less
  jobs_less (turns.Ended units money) spends waits = gone_less
  jobs_less (turns.Ran units money) (some, used, less, wants, on) waits =
      with_less (share-charged (may_step old.rack) job behind could allowed (omega (arith, some, used)) (omega (arith, less)))
  jobs_less (turns.Wants serial) (used, wants, on) waits =
      let off : may_step old.rack behind ≡ false = ap (λ (b : Bool). b && is_ready behind) (ap (λ (o : Option ℕ). reel_there old.rack o) wants ∙ sym (stays.mounted serial) ∙ waits serial refl) in
      with_less (share-waits (may_step old.rack) job behind could off allowed used)

  number_is : behind.number ≡ number
  number_is = numbers ∙ numbered_is number c.jobs job there

  left_jobs : (turn : Turn) (failure : Option Failure) (system : SystemFacts) (c' : CrewState) (before after : Option (List ℕ)) (faults faults' : ℕ)
      → EndsTurn count number new (record c { jobs = with_job behind c.jobs }) (shown job behind) turn failure system c' before after faults faults' → failure ≡ None → c'.jobs ≡ jobs_left turn
  left_jobs turns.Broken failure system c' before after faults faults' ends none = ap (λ (k : CrewState). k.jobs) ends.crew
  left_jobs (turns.Wants serial) failure system c' before after faults faults' ends none = ap (λ (k : CrewState). k.jobs) (ends.opens none).others
  left_jobs (turns.Ran units money) failure system c' before after faults faults' ends none = ap (λ (k : CrewState). k.jobs) (ends.opens none).others
  left_jobs (turns.Ended units money) failure system c' before after faults faults' (gone, mid, out, on) none =
      ap (λ (k : CrewState). k.jobs) (on.opens none).others ∙ out.jobs ∙ subst (λ (n : ℕ). without_job n (with_job behind c.jobs) ≡ without_job behind.number c.jobs) number_is (without_with behind c.jobs)

  up_falls : (less : Bool) (c' : CrewState) (rest : List JobState) → c'.jobs ≡ rest → sum_by (share_in old.rack) rest + 1 ≤ sum_by (share_in old.rack) c.jobs → new.dump ≡ old.dump
      → left (seen (Up new) c' count) + (if less then 1 else 0) ≤ left (seen (Up old) c count)
  up_falls less c' rest is fewer dump =
      let same : sum_by (share_in new.rack) c'.jobs ≡ sum_by (share_in old.rack) rest = sum_same old.rack new.rack stays.mounted c'.jobs ∙ ap (λ (js : List JobState). sum_by (share_in old.rack) js) is in
      let dumps : dump_left (Up new) ≡ dump_left (Up old) = ap (λ (d : Option DumpFacts). let s : StoreFacts = record old { dump = d } in dump_left (Up s)) dump in
      let all : (sum_by (share_in new.rack) c'.jobs + dump_left (Up new)) + 1 ≤ sum_by (share_in old.rack) c.jobs + dump_left (Up old) = omega (arith, same, dumps, fewer) in
      falls_by less (left (seen (Up new) c' count)) (left (seen (Up old) c count)) all

  down_falls : (less : Bool) (c' : CrewState) → c'.jobs ≡ [] → (let d : SystemFacts = Down (record { disc = new.online.disc; rack = new.rack }) in left (seen d c' count) + (if less then 1 else 0) ≤ left (seen (Up old) c count))
  down_falls less c' is =
      let d : SystemFacts = Down (record { disc = new.online.disc; rack = new.rack }) in
      let nothing : sum_by (share_in new.rack) c'.jobs ≡ 0 = ap (λ (js : List JobState). sum_by (share_in new.rack) js) is in
      let some : 1 ≤ sum_by (share_in old.rack) c.jobs = none_less in
      let all : (sum_by (share_in new.rack) c'.jobs + 0) + 1 ≤ sum_by (share_in old.rack) c.jobs + dump_left (Up old) = omega (arith, nothing, some) in
      falls_by less (left (seen d c' count)) (left (seen (Up old) c count)) all

  -- A TURN LEAVES LESS
  pub turn_falls : (less : Bool) (turn : Turn) (failure : Option Failure) (system : SystemFacts) (c' : CrewState) (before after : Option (List ℕ)) (faults faults' : ℕ)
      → EndsTurn count number new (record c { jobs = with_job behind c.jobs }) (shown job behind) turn failure system c' before after faults faults' → SpendsBy job turn behind
      → ((serial : ℕ) → turn ≡ turns.Wants serial → is_mounted (reel serial new.rack.reels) ≡ false) → ((turn ≡ turns.Broken → ⊥) → new.dump ≡ old.dump)
      → Falls less (seen (Up old) c count) failure (seen system c' count)
  turn_falls less turns.Broken failure system c' before after faults faults' ends spends waits dump none =
      subst (λ (s : SystemFacts). left (seen s c' count) + (if less then 1 else 0) ≤ left (seen (Up old) c count)) (sym ends.down) (down_falls less c' (ap (λ (k : CrewState). k.jobs) ends.crew))
  turn_falls less (turns.Wants serial) failure system c' before after faults faults' ends spends waits dump none =
      subst (λ (s : SystemFacts). left (seen s c' count) + (if less then 1 else 0) ≤ left (seen (Up old) c count)) (sym ends.up)
      (up_falls less c' (jobs_left (turns.Wants serial)) (left_jobs (turns.Wants serial) failure system c' before after faults faults' ends none) (jobs_less (turns.Wants serial) spends waits) (dump (λ e. let no : ⊥ = cc in no)))
  turn_falls less (turns.Ran units money) failure system c' before after faults faults' ends spends waits dump none =
      subst (λ (s : SystemFacts). left (seen s c' count) + (if less then 1 else 0) ≤ left (seen (Up old) c count)) (sym ends.up)
      (up_falls less c' (jobs_left (turns.Ran units money)) (left_jobs (turns.Ran units money) failure system c' before after faults faults' ends none) (jobs_less (turns.Ran units money) spends waits) (dump (λ e. let no : ⊥ = cc in no)))
  turn_falls less (turns.Ended units money) failure system c' before after faults faults' ends spends waits dump none =
      subst (λ (s : SystemFacts). left (seen s c' count) + (if less then 1 else 0) ≤ left (seen (Up old) c count)) (sym ends.3.up)
      (up_falls less c' (jobs_left (turns.Ended units money)) (left_jobs (turns.Ended units money) failure system c' before after faults faults' ends none) (jobs_less (turns.Ended units money) spends waits) (dump (λ e. let no : ⊥ = cc in no)))

-- the choice, whether or not the devices expose their contents: the chosen job can step
module _ {U : Type 0} (rules : Shared U (Bor Standing × Unit {0}) ℕ) (rule : U) (old : StoreFacts) (c : CrewState) (rise : Rise 1 c.jobs c.next_job) where
  pub chosen_steps : (number : ℕ) (job : JobState) → Chooses rules rule c.jobs (able_in (some_state old) c.jobs) (Some number) → job_in number c.jobs ≡ Some job → may_step old.rack job ≡ true
  chosen_steps number job (place, other, chosen, at, is, found) there =
      let here = listed (can_step (some_state old)) 1 c.jobs c.next_job place other (rising_of 1 c.jobs c.next_job rise) at in
      let same : other ≡ job = one_job other job (sym found ∙ there) in
      sym (step_same (some_state old) old.rack (mounted_some old) job) ∙ subst (λ (j : JobState). can_step (some_state old) j ≡ true) same here.2

  pub none_steps : (count : ℕ) → Chooses rules rule c.jobs (able_in (some_state old) c.jobs) None → some_job_steps (seen (Up old) c count) ≡ false
  none_steps count none = ap (λ (b : Bool). not b) (sym (ap has_none (able_same (some_state old) old.rack (mounted_some old) c.jobs)) ∙ none)

-- if no job can step, everything is unchanged
pub none_falls : (less : Bool) (s : Seen) → less ≡ false → Falls less s None s
none_falls true s is = absurd (let no : ⊥ = cc in no)
none_falls false s is = λ none. omega arith
