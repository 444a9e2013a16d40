-- The step of the open dump, from each world that matches what is at hand, and what holds of all devices after it.
-- serves: dump_step (did), step (did), TickLemmas
use Rattle.std.proofs.Common.{◌≡◌, ◌+◌, ◌-◌, ◌≤◌, ◌++◌, codes, is_some, ℕ, Bool, true, false, List, [], Option, Some, None, Result, Ok, Err, sum_by, refl, sym, ◌∙◌, ap, subst, inl, inr, arith, if◌then◌else◌}
use Rattle.std.proofs.lemmas.Bool.{false≢true}
use Rattle.std.specs.Option.{option_map}
use Rattle.g_disc_contents.specs.Facts.{OnlineFacts}
use Rattle.g_dumper.specs.Steps.{Stepping, WroteBlock}
use Rattle.g_incr.specs.Plan.{needs}
use Rattle.g_job.specs.State.{JobState}
use Rattle.g_monitor.specs.Refusals.{fault_line}
use Rattle.g_plain.specs.declared.faults.StoreFault.{StoreFault}
use Rattle.g_plain.specs.declared.faults.StoreFault.TheVariants.{DiscReadFault, NoMemory, Stopped}
use Rattle.g_store_meaning.specs.Reading.{StandsForState, open_of}
use Rattle.g_store_meaning.specs.Safety.{IsSafe}
use Rattle.g_store_meaning.specs.StoreInvariant.{DumpFacts, StoreFacts}
use Rattle.g_store_model.specs.CallStep.{Cut, Outcome}
use Rattle.g_dumper.specs.declared.dump.DumpStep.{DumpStep as Step}
use Rattle.g_dumper.specs.Steps.{stepped}
use Rattle.g_store_model.specs.DumpSteps.{Completed, DumpStep, Going, Stepped}
use Rattle.g_store_model.specs.State.{Holding, OpenDump, State}
use Rattle.g_store.specs.Dumping.{KeepsDumps, KeepsDumpsSafe, LeavesOpen, StepsAs}
use Rattle.g_store.specs.Events.{IsStepOfDump, LeadsBy, StepsBy, StepsDump}
use Rattle.g_store.proofs.ArmLemmas.{spent_stands}
use Rattle.g_store_calls.proofs.SeenLemmas.{seen as seen_of}
use Rattle.g_laws_power.specs.Events.{StopsLikeBy}
use Rattle.g_laws_power.proofs.DownLemmas.{like_down}
use Rattle.g_laws_power.proofs.StepLemmas.{steps_keep_safe}
use Rattle.g_laws_power.proofs.StepStateLemmas.{stopped_steps_survive}
use Rattle.g_tape.specs.Rack.{Rack, is_mounted, reel}
use Rattle.g_tape.specs.Reel.{Reel, Remains, Shortened, Torn, Unchanged, ending, left_by}
use Rattle.g_run_model.specs.Devices.{Devices}
use Rattle.g_run_model.specs.Events.{IsDumpStep}
use Rattle.g_run_model.specs.Moves.{DumpCounted, dump_told}
use Rattle.g_run_model.specs.Texts.{dump_text, operator_line}
use Rattle.g_run_model.specs.World.{Stepped as HasStepped, World}
use Rattle.g_run_model.proofs.EventToldLemmas.{dump_told as step_told}
use Rattle.g_run_model.proofs.TickLemmas.{dump_added, dump_adds}
use Rattle.g_job_table.specs.Crew.{CrewState, IsCrewOf}
use Rattle.g_job_table.specs.Numbers.{AreOpen}
use Rattle.g_day.specs.declared.progress.Failure.{Failure}
use Rattle.g_day.specs.Losses.{SystemLeaves}
use Rattle.g_day.specs.Parts.{IsReady, Matches, seen}
use Rattle.g_day.specs.Puts.{Puts, PutsBy}
use Rattle.g_day.specs.System.{Down, IsNow, SameDevices, StandsAs, SystemFacts, SystemSafe, Up, devices_in, labels}
use Rattle.g_day.specs.Telling.{TellsFault, system_after, without_jobs}
use Rattle.g_day.proofs.UpLemmas.{not_spent}
use Rattle.g_ticks.specs.Tick.{DidDump, DumpGoes, Falls, KeepsRun, OtherEnd, StepMayLeave, StepsTo, has_dump, phase_behind, share_in}
use Rattle.g_ticks.proofs.KeptLemmas.{none_keeps_run}
use Rattle.g_ticks.proofs.RackLemmas.{SameMounted, ending_mounts, failing_mounts, left_named, shares_still}
use Rattle.g_ticks.proofs.SteppingLemmas.{stepping_counted}
use Rattle.g_day.proofs.GrowLemmas.{grow_stepped}
use Rattle.g_base.proofs.CountLemmas.{Rose-later}
use Rattle.g_day.proofs.LabelLemmas.{labels_with, same_counts, same_still, stands_still}
use Rattle.g_day.proofs.PutLemmas.{puts_grown, same_grown, with_more-nil}

-- a step never runs out of memory
steps_lead : (answer : Result Stepped StoreFault) (s : State) (old new : StoreFacts) (dump after : DumpFacts) → Stepping dump old.online old.rack answer after new.online new.rack
    → StepsBy IsStepOfDump s old answer new → LeadsBy IsStepOfDump s old new answer
steps_lead (Err NoMemory) s old new dump after stepping steps = absurd stepping
steps_lead answer s old new dump after stepping steps = steps

one_dump : (a b : OpenDump) → (let x : Option OpenDump = Some a in x ≡ Some b) → a ≡ b
one_dump a b e = cc

-- a stop takes the state down
stop_is : (s : State) (k : Holding) (d : OpenDump) (o : Outcome) (u : State) → DumpStep s k d o (Err Stopped) u → u.up ≡ false
stop_is s k d o u (cut, inl (inl is)) = ap (λ (t : State). t.up) is
stop_is s k d o u (cut, inl (inr (at, inl is))) = ap (λ (t : State). t.up) is
stop_is s k d o u (cut, inl (inr (at, inr is))) = ap (λ (t : State). t.up) is
stop_is s k d o u (cut, inr (last, inl is)) = ap (λ (t : State). t.up) is
stop_is s k d o u (cut, inr (last, inr is)) = ap (λ (t : State). t.up) is

-- what a step does to completed dumps, which a power loss leaves too
abbrev pub KeepsReels : StoreFacts → Result Stepped StoreFault → StoreFacts → Type 0
KeepsReels old answer new = KeepsDumps old answer new × KeepsDumpsSafe old answer new

-- what is known of the step of a dump, by its outcome
pub as_stepped : (old new : StoreFacts) (x y : Step) → x ≡ y → StepsDump old (Ok (stepped x)) new → StepsAs old (Ok (stepped x)) new → KeepsReels old (Ok (stepped x)) new
    → StepsDump old (Ok (stepped y)) new × StepsAs old (Ok (stepped y)) new × KeepsReels old (Ok (stepped y)) new
as_stepped old new x y is event steps stay =
    subst (λ (z : Step). StepsDump old (Ok (stepped z)) new × StepsAs old (Ok (stepped z)) new × KeepsReels old (Ok (stepped z)) new) is (event, steps, stay)

-- what is printed for a step
pub told_store : (n : ℕ) (r : Result Stepped StoreFault) (s : State) (w : World) → (dump_told n r s w).store ≡ s
told_store n (Ok Going) s w = refl
told_store n (Ok (Completed m)) s w = refl
told_store n (Err Stopped) s w = refl
told_store n (Err fault) s w = refl

told_count : (n : ℕ) (r : Result Stepped StoreFault) (s : State) (w : World) → (dump_told n r s w).count ≡ w.count
told_count n (Ok Going) s w = refl
told_count n (Ok (Completed m)) s w = refl
told_count n (Err Stopped) s w = refl
told_count n (Err fault) s w = refl

told_phase : (n : ℕ) (r : Result Stepped StoreFault) (s : State) (w : World) → (r ≡ Err Stopped → ⊥) → (dump_told n r s w).phase ≡ HasStepped
told_phase n (Ok Going) s w isnt = refl
told_phase n (Ok (Completed m)) s w isnt = refl
told_phase n (Err Stopped) s w isnt = absurd (isnt refl)
told_phase n (Err fault) s w isnt = refl

told_crew : (n : ℕ) (r : Result Stepped StoreFault) (s : State) (w : World) (c : CrewState) → (r ≡ Err Stopped → ⊥) → IsCrewOf w c → IsCrewOf (dump_told n r s w) c
told_crew n (Ok Going) s w c isnt is = record { jobs = is.jobs; accounts = is.accounts; next_job = is.next_job }
told_crew n (Ok (Completed m)) s w c isnt is = record { jobs = is.jobs; accounts = is.accounts; next_job = is.next_job }
told_crew n (Err Stopped) s w c isnt is = absurd (isnt refl)
told_crew n (Err fault) s w c isnt is = record { jobs = is.jobs; accounts = is.accounts; next_job = is.next_job }

-- WHAT A STEP DOES TO THE RACK
module _ (d e : DumpFacts) (o p : OnlineFacts) (r t : Rack) where
  step_arms : (answer : Result Stepped StoreFault) → Stepping d o r answer e p t → (p.disc.arms ≡ o.disc.arms) × (t.arms ≡ r.arms)
  step_arms (Ok Going) (more, dump, is, wrote) = (ap (λ (x : OnlineFacts). x.disc.arms) is, ap (λ (x : Rack). x.arms) wrote.rack)
  step_arms (Ok (Completed n)) (last, number, plan, wrote, closing) = (closing.causes.arms, ap (λ (x : Rack). x.arms) wrote.rack)
  step_arms (Err DiscReadFault) (dump, is, gone) = (ap (λ (x : OnlineFacts). x.disc.arms) gone.facts, ap (λ (x : Rack). x.arms) is)
  step_arms (Err Stopped) (plan, inl (failed, is)) = (ap (λ (x : OnlineFacts). x.disc.arms) is, ap (λ (x : Rack). x.arms) failed.rack)
  step_arms (Err Stopped) (plan, inr (last, wrote, closing)) = (closing.causes.arms, ap (λ (x : Rack). x.arms) wrote.rack)
  step_arms (Err fault) step = absurd step

  step_mounts : (answer : Result Stepped StoreFault) → Stepping d o r answer e p t → SameMounted r t
  step_mounts (Ok Going) (more, dump, is, wrote) = ending_mounts d.plan.serial (d.plan.place + d.done) wrote.block r t (ap (λ (x : Rack). x.reels) wrote.rack)
  step_mounts (Ok (Completed n)) (last, number, plan, wrote, closing) = ending_mounts d.plan.serial (d.plan.place + d.done) wrote.block r t (ap (λ (x : Rack). x.reels) wrote.rack)
  step_mounts (Err DiscReadFault) (dump, is, gone) = λ s. ap (λ (x : Rack). is_mounted (reel s x.reels)) is
  step_mounts (Err Stopped) (plan, inl (failed, is)) = failing_mounts d.plan.serial (d.plan.place + d.done) failed.how r t (ap (λ (x : Rack). x.reels) failed.rack)
  step_mounts (Err Stopped) (plan, inr (last, wrote, closing)) = ending_mounts d.plan.serial (d.plan.place + d.done) wrote.block r t (ap (λ (x : Rack). x.reels) wrote.rack)
  step_mounts (Err fault) step = absurd step

left_holds : (how : Remains) (k : ℕ) (r : Reel) → (left_by how k r).capacity ≡ r.capacity
left_holds Unchanged k r = refl
left_holds Shortened k r = refl
left_holds (Torn block) k r = refl

module _ (d e : DumpFacts) (o p : OnlineFacts) (r t : Rack) where
  wrote_same : WroteBlock d o.pins r t → labels t.reels ≡ labels r.reels
  wrote_same wrote = ap (λ (x : Rack). labels x.reels) wrote.rack ∙ labels_with d.plan.serial (ending (d.plan.place + d.done) wrote.block) (λ q. refl) (λ q. refl) r.reels

  abbrev was : Devices
  was = record { disc = o.disc; rack = r }

  abbrev now : Devices
  now = record { disc = p.disc; rack = t }

  step_same : (answer : Result Stepped StoreFault) → Stepping d o r answer e p t → SameDevices was now
  step_same (Ok Going) (more, dump, is, wrote) =
      same_counts was now (ap (λ (x : OnlineFacts). x.disc.size) is) (ap (λ (x : OnlineFacts). x.disc.read_faults) is) (ap (λ (x : OnlineFacts). x.disc.write_faults) is)
      (ap (λ (x : OnlineFacts). x.disc.writes) is) (ap (λ (x : Rack). x.read_faults) wrote.rack) (ap (λ (x : Rack). x.write_faults) wrote.rack) (wrote_same wrote)
  step_same (Ok (Completed n)) (last, number, plan, wrote, closing) =
      same_still was now closing.causes.size (closing.causes.reads_kept (λ x. x)) (closing.causes.writes_kept (λ x. let no : ⊥ = cc in no)) closing.causes.later
      (stands_still r.read_faults t.read_faults (ap (λ (x : Rack). x.read_faults) wrote.rack)) (stands_still r.write_faults t.write_faults (ap (λ (x : Rack). x.write_faults) wrote.rack)) (wrote_same wrote)
  step_same (Err DiscReadFault) (dump, is, gone) = record {
    size = ap (λ (x : OnlineFacts). x.disc.size) gone.facts;
    read_faults = Rose-later gone.rose;
    write_faults = stands_still o.disc.write_faults p.disc.write_faults (ap (λ (x : OnlineFacts). x.disc.write_faults) gone.facts);
    writes = stands_still o.disc.writes p.disc.writes (ap (λ (x : OnlineFacts). x.disc.writes) gone.facts);
    tape_read_faults = stands_still r.read_faults t.read_faults (ap (λ (x : Rack). x.read_faults) is);
    tape_write_faults = stands_still r.write_faults t.write_faults (ap (λ (x : Rack). x.write_faults) is);
    reels = ap (λ (x : Rack). labels x.reels) is;
  }
  step_same (Err Stopped) (plan, inl (failed, is)) =
      same_still was now (ap (λ (x : OnlineFacts). x.disc.size) is) (ap (λ (x : OnlineFacts). x.disc.read_faults) is) (ap (λ (x : OnlineFacts). x.disc.write_faults) is)
      (stands_still o.disc.writes p.disc.writes (ap (λ (x : OnlineFacts). x.disc.writes) is)) (stands_still r.read_faults t.read_faults (ap (λ (x : Rack). x.read_faults) failed.rack)) (Rose-later failed.rose) (
      ap (λ (x : Rack). labels x.reels) failed.rack
      ∙ labels_with d.plan.serial (left_by failed.how (d.plan.place + d.done)) (left_named failed.how (d.plan.place + d.done)) (left_holds failed.how (d.plan.place + d.done)) r.reels
      )
  step_same (Err Stopped) (plan, inr (last, wrote, closing)) = record {
    size = closing.causes.size;
    read_faults = stands_still o.disc.read_faults p.disc.read_faults (closing.causes.reads_kept (λ x. x));
    write_faults = Rose-later (closing.causes.writes_rose refl);
    writes = closing.causes.later;
    tape_read_faults = stands_still r.read_faults t.read_faults (ap (λ (x : Rack). x.read_faults) wrote.rack);
    tape_write_faults = stands_still r.write_faults t.write_faults (ap (λ (x : Rack). x.write_faults) wrote.rack);
    reels = wrote_same wrote;
  }
  step_same (Err fault) step = absurd step

-- WHAT THE DUMP HAS LEFT TO DO
abbrev by_dump : Option DumpFacts → ℕ
by_dump d = elim d [ None ↦ 0 | Some x ↦ needs x.plan - x.done + 1 ]

none_left : (d : DumpFacts) (dump : Option DumpFacts) → dump ≡ None → by_dump dump + 1 ≤ by_dump (Some d)
none_left d dump is = let zero : by_dump dump ≡ 0 = ap by_dump is in omega (arith, zero)

step_drops : (d e : DumpFacts) (o p : OnlineFacts) (r t : Rack) (answer : Result Stepped StoreFault) (dump : Option DumpFacts) → Stepping d o r answer e p t → LeavesOpen answer e dump → by_dump dump + 1 ≤ by_dump (Some d)
step_drops d e o p r t (Ok Going) dump (more, after, is, wrote) left =
    let now : by_dump dump ≡ needs d.plan - (d.done + 1) + 1 = ap by_dump left ∙ ap (λ (x : DumpFacts). needs x.plan - x.done + 1) after in omega (arith, now, more)
step_drops d e o p r t (Ok (Completed n)) dump step left = none_left d dump left
step_drops d e o p r t (Err fault) dump step left = none_left d dump left

abbrev is_there : Option DumpFacts → Bool
is_there d = elim d [ None ↦ false | Some x ↦ true ]

nobody : AreOpen []
nobody = λ k d less. let no : ⊥ = omega (arith, less) in absurd no

abbrev pub one_if : Bool → ℕ
one_if b = if b then 1 else 0

most_one : (b : Bool) → (if b then 1 else 0) ≤ 1
most_one true = omega arith
most_one false = omega arith

module _ (old new : StoreFacts) (unspent : old.spent ≡ false) (c : CrewState) (count : ℕ) (answer : Result Stepped StoreFault) (event : StepsDump old answer new) (is : StepsAs old answer new) where
  -- the step, from a world
  record Came (w : World) : Type 0 where
    outcome : Outcome
    state : State
    dump : OpenDump
    opened : w.store.open_dump ≡ Some dump
    step : IsDumpStep w.store outcome answer state
    counted : DumpCounted outcome (devices_in (Up old)) (devices_in (Up new))
    stands : StandsForState new state
    number : dump.number ≡ is.dump.plan.number
    down : answer ≡ Err Stopped → state.up ≡ false

  came : (w : World) → IsNow old w.store → Came w
  came w now =
      let lead = steps_lead answer w.store old new is.dump is.after is.stepping (event.step now.told now.belongs w.store now.stands) in
      let d = lead.step.0 in
      let by = step_told w.store lead.held d lead.outcome answer lead.after lead.step.2 in
      let sn = seen_of old w.store unspent now.stands in
      let open_is : w.store.open_dump ≡ Some (open_of sn.view old.online is.dump) =
      ap (λ (t : State). t.open_dump) sn.state_is ∙ ap (λ (x : Option DumpFacts). option_map (open_of sn.view old.online) x) is.dump_is in record {
        outcome = by.0;
        state = lead.after;
        dump = d;
        opened = lead.step.1;
        step = (lead.held, d, lead.holds, lead.step.1, by.1, by.2.told);
        counted = stepping_counted is.dump is.after old.online new.online old.rack new.rack answer by.0 is.stepping by.2;
        stands = lead.left;
        number = ap (λ (x : OpenDump). x.number) (one_dump d (open_of sn.view old.online is.dump) (sym lead.step.1 ∙ open_is));
        down = λ e. stop_is w.store lead.held d lead.outcome lead.after (subst (λ (a : Result Stepped StoreFault). DumpStep w.store lead.held d lead.outcome a lead.after) e lead.step.2);
      }

  abbrev pub added : List ℕ
  added = dump_added count is.dump.plan.number answer c.jobs

  next_of : (w : World) → Came w → World
  next_of w k = dump_told k.dump.number answer k.state w

  -- what a power loss leaves of the system
  abbrev StepLeaves : (w : World) → Came w → SystemFacts → Type 0
  StepLeaves w k system = SystemLeaves (λ u. StepMayLeave w.store k.outcome k.state u) ⊥ (Up old) system

  steps_to : (system : SystemFacts) → devices_in system ≡ devices_in (Up new) → (w : World) → Matches w (seen (Up old) c count) → (k : Came w) → StandsAs system k.state → (next_of w k).phase ≡ phase_behind system
      → (SystemSafe (Up old) → StepLeaves w k system) → StepsTo w (Up old) system (next_of w k) added
  unfolding next_of
  steps_to system same w m k stands phase left = record {
    outcome = k.outcome;
    answer = answer;
    state = k.state;
    dump = k.dump;
    opened = k.opened;
    event = k.step;
    next_is = refl;
    counted = subst (λ (d : Devices). DumpCounted k.outcome (devices_in (Up old)) d) (sym same) k.counted;
    stands = subst (λ (u : State). StandsAs system u) (sym (told_store k.dump.number answer k.state w)) stands;
    left = left;
    text = dump_adds k.dump.number answer k.state w
        ∙ ap (λ (n : ℕ). w.text ++ dump_added n k.dump.number answer w.jobs) m.count
        ∙ ap (λ (n : ℕ). w.text ++ dump_added count n answer w.jobs) k.number
        ∙ ap (λ jobs. w.text ++ dump_added count is.dump.plan.number answer jobs) m.crew.jobs;
    phase = phase;
  }

  -- THE SYSTEM STAYS UP
  now_up : (w : World) → Matches w (seen (Up old) c count) → (k : Came w) → IsNow new k.state
  now_up w m k = record { told = event.told m.stands.told; belongs = event.belongs m.stands.told m.stands.belongs; stands = k.stands }

  matches_up : (answer ≡ Err Stopped → ⊥) → (w : World) (m : Matches w (seen (Up old) c count)) (k : Came w) → Matches (next_of w k) (seen (Up new) c count)
  unfolding next_of
  matches_up isnt w m k = record {
    stands = subst (λ (u : State). IsNow new u) (sym (told_store k.dump.number answer k.state w)) (now_up w m k);
    crew = told_crew k.dump.number answer k.state w c isnt m.crew;
    count = told_count k.dump.number answer k.state w ∙ m.count;
  }

  stepped_on : (answer ≡ Err Stopped → ⊥) → (w : World) (k : Came w) → (next_of w k).phase ≡ HasStepped
  unfolding next_of
  stepped_on isnt w k = told_phase k.dump.number answer k.state w isnt

  pub goes_up : (answer ≡ Err Stopped → ⊥) → (failure : Option Failure) (before after : Option (List ℕ)) → PutsBy failure added before after
      → DumpGoes (seen (Up old) c count) failure (seen (Up new) c count) before after
  goes_up isnt None before after put =
      λ w m. let k = came w m.stands in (next_of w k, added, inr (steps_to (Up new) refl w m k (now_up w m k) (stepped_on isnt w k) (λ safe. tt)), matches_up isnt w m k, put)
  goes_up isnt (Some failure) before after put =
      λ w m. let k = came w m.stands in (next_of w k, added, inr (steps_to (Up new) refl w m k (now_up w m k) (stepped_on isnt w k) (λ safe. tt)), put)

  abbrev still_mounted : SameMounted old.rack new.rack
  still_mounted = step_mounts is.dump is.after old.online new.online old.rack new.rack answer is.stepping

  pub keeps_up : (answer ≡ Err Stopped → ⊥) → KeepsReels old answer new → AreOpen c.jobs → (failure : Option Failure) (text : List ℕ) (before after : Option (List ℕ)) (faults faults' : ℕ) → Puts failure text before after faults faults'
      → KeepsRun (seen (Up old) c count) failure (seen (Up new) c count) faults faults'
  keeps_up isnt stay taking failure text before after faults faults' puts = record {
    ready = λ e. ((not_spent new.spent answer event.spent isnt, event.keeps.tied.size, event.keeps.tied.most), taking);
    disc_arms = (step_arms is.dump is.after old.online new.online old.rack new.rack answer is.stepping).0;
    tape_arms = (step_arms is.dump is.after old.online new.online old.rack new.rack answer is.stepping).1;
    same = step_same is.dump is.after old.online new.online old.rack new.rack answer is.stepping;
    belongs = λ was. (event.told was.0, event.belongs was.0 was.1);
    safe = λ was. steps_keep_safe.safe old new answer was event stay.1 isnt;
    dumps = λ was. grow_stepped old answer new stay.0 was.0 was.1;
    cause = puts.cause;
    numbers = λ e. refl;
  }

  pub falls_up : (failure : Option Failure) → Falls (has_dump (Up old)) (seen (Up old) c count) failure (seen (Up new) c count)
  falls_up failure = λ e.
      let shares : sum_by (share_in new.rack) c.jobs ≡ sum_by (share_in old.rack) c.jobs = shares_still old.rack new.rack still_mounted c.jobs in
      let less : by_dump new.dump + 1 ≤ by_dump (Some is.dump) = step_drops is.dump is.after old.online new.online old.rack new.rack answer new.dump is.stepping is.left in
      let was : by_dump old.dump ≡ by_dump (Some is.dump) = ap by_dump is.dump_is in
      let one : (if has_dump (Up old) then 1 else 0) ≤ 1 = most_one (has_dump (Up old)) in
      omega (arith, shares, less, was, one)

  pub has : has_dump (Up old) ≡ true
  has = ap (λ (d : Option DumpFacts). is_there d) is.dump_is

  pub did_up : (answer ≡ Err Stopped → ⊥) → KeepsReels old answer new → AreOpen c.jobs → (failure : Option Failure) (before after : Option (List ℕ)) (faults faults' : ℕ) → Puts failure added before after faults faults'
      → DidDump (seen (Up old) c count) failure (seen (Up new) c count) before after faults faults'
  did_up isnt stay taking failure before after faults faults' puts = record {
    goes = goes_up isnt failure before after puts.put;
    keeps = keeps_up isnt stay taking failure added before after faults faults' puts;
    falls = falls_up failure;
    grows = puts_grown puts;
    idle = λ e. absurd (false≢true (sym e ∙ has));
  }

  pub falls_down : (failure : Option Failure) (d : Devices) → Falls (has_dump (Up old)) (seen (Up old) c count) failure (seen (Down d) (without_jobs c) count)
  falls_down failure d = λ e.
      let less : by_dump new.dump + 1 ≤ by_dump (Some is.dump) = step_drops is.dump is.after old.online new.online old.rack new.rack answer new.dump is.stepping is.left in
      let was : by_dump old.dump ≡ by_dump (Some is.dump) = ap by_dump is.dump_is in
      let one : (if has_dump (Up old) then 1 else 0) ≤ 1 = most_one (has_dump (Up old)) in
      omega (arith, less, was, one)

-- A STOP takes the system down
module _ (old new : StoreFacts) (unspent : old.spent ≡ false) (c : CrewState) (count : ℕ) (event : StepsDump old (Err Stopped) new) (is : StepsAs old (Err Stopped) new) where
  abbrev devices : Devices
  devices = record { disc = new.online.disc; rack = new.rack }

  stands_down : (w : World) → Matches w (seen (Up old) c count) → (k : Came old new unspent c count (Err Stopped) event is w) → StandsAs (Down devices) k.state
  stands_down w m k = (
    k.down refl,
    record {
      told = event.told m.stands.told;
      belong = (event.belongs m.stands.told m.stands.belongs).devices;
      reads = spent_stands new (event.spent.1 refl) k.state k.stands;
    },
  )

  matches_down : (w : World) (m : Matches w (seen (Up old) c count)) (k : Came old new unspent c count (Err Stopped) event is w) → Matches (dump_told k.dump.number (Err Stopped) k.state w) (seen (Down devices) (without_jobs c) count)
  matches_down w m k = record {
    stands = stands_down w m k;
    crew = record { jobs = refl; accounts = λ user. refl; next_job = m.crew.next_job };
    count = m.count;
  }

  -- a power loss leaves a state to which the stopped step may lead
  step_left : KeepsDumpsSafe old (Err Stopped) new → (w : World) → IsNow old w.store → (k : Came old new unspent c count (Err Stopped) event is w) → IsSafe old
      → StepLeaves old new unspent c count (Err Stopped) event is w k (Down devices)
  step_left durable w now k safe = λ blocks rack left.
      let stops : StopsLikeBy IsStepOfDump w.store new.online.disc.size blocks rack = (stopped_steps_survive old new blocks rack safe event durable left).1 w.store now.stands in
      let step : DumpStep w.store stops.held stops.step.0 Cut (Err Stopped) stops.after =
      subst (λ (o : Outcome). DumpStep w.store stops.held stops.step.0 o (Err Stopped) stops.after) stops.step.2.0 stops.step.2 in
      let other : IsDumpStep w.store Cut (Err Stopped) stops.after = (stops.held, stops.step.0, stops.holds, stops.step.1, step, refl) in
      let cut : k.outcome ≡ Cut = k.step.4.0 in
      inl (
        stops.after,
        OtherEnd cut stops.after (subst (λ (o : Outcome). IsDumpStep w.store o (Err Stopped) stops.after) (sym cut) other) (like_down stops.after stops.stand),
        stops.stand,
      )

  steps_down : KeepsDumpsSafe old (Err Stopped) new → (w : World) (m : Matches w (seen (Up old) c count)) (k : Came old new unspent c count (Err Stopped) event is w)
      → StepsTo w (Up old) (Down devices) (dump_told k.dump.number (Err Stopped) k.state w) (added old new unspent c count (Err Stopped) event is)
  unfolding next_of
  steps_down durable w m k = steps_to old new unspent c count (Err Stopped) event is (Down devices) refl w m k (stands_down w m k) refl (step_left durable w m.stands k)

  goes_down : KeepsDumpsSafe old (Err Stopped) new → (failure : Option Failure) (before after : Option (List ℕ)) → PutsBy failure (added old new unspent c count (Err Stopped) event is) before after
      → DumpGoes (seen (Up old) c count) failure (seen (Down devices) (without_jobs c) count) before after
  goes_down durable None before after put =
      λ w m. let k = came old new unspent c count (Err Stopped) event is w m.stands in
      (dump_told k.dump.number (Err Stopped) k.state w, added old new unspent c count (Err Stopped) event is, inr (steps_down durable w m k), matches_down w m k, put)
  goes_down durable (Some failure) before after put =
      λ w m. let k = came old new unspent c count (Err Stopped) event is w m.stands in
      (dump_told k.dump.number (Err Stopped) k.state w, added old new unspent c count (Err Stopped) event is, inr (steps_down durable w m k), put)

  module _ (stay : KeepsReels old (Err Stopped) new) (failure : Option Failure) (c' : CrewState) (before after : Option (List ℕ)) (faults faults' : ℕ) (tells : TellsFault Stopped count c failure c' before after faults faults') where
    pub stop_goes : DumpGoes (seen (Up old) c count) failure (seen (system_after Stopped new) c' count) before after
    stop_goes = subst (λ (x : CrewState). DumpGoes (seen (Up old) c count) failure (seen (Down devices) x count) before after) (sym tells.0) (goes_down stay.1 failure before after tells.1.put)

    pub stop_keeps : KeepsRun (seen (Up old) c count) failure (seen (system_after Stopped new) c' count) faults faults'
    stop_keeps = subst (λ (x : CrewState). KeepsRun (seen (Up old) c count) failure (seen (Down devices) x count) faults faults') (sym tells.0) (record {
      ready = λ e. ((event.keeps.tied.size, event.keeps.tied.most, refl, refl), nobody);
      disc_arms = (step_arms is.dump is.after old.online new.online old.rack new.rack (Err Stopped) is.stepping).0;
      tape_arms = (step_arms is.dump is.after old.online new.online old.rack new.rack (Err Stopped) is.stepping).1;
      same = step_same is.dump is.after old.online new.online old.rack new.rack (Err Stopped) is.stepping;
      belongs = λ was. record { told = event.told was.0; belong = (event.belongs was.0 was.1).devices };
      safe = λ was. steps_keep_safe.stopped old new was event stay.1;
      dumps = λ was. grow_stepped old (Err Stopped) new stay.0 was.0 was.1;
      cause = tells.1.cause;
      numbers = λ e. refl;
    })

    pub stop_falls : Falls (has_dump (Up old)) (seen (Up old) c count) failure (seen (system_after Stopped new) c' count)
    stop_falls = subst (λ (x : CrewState). Falls (has_dump (Up old)) (seen (Up old) c count) failure (seen (Down devices) x count)) (sym tells.0)
        (falls_down old new unspent c count (Err Stopped) event is failure devices)

    pub did_stop : DidDump (seen (Up old) c count) failure (seen (system_after Stopped new) c' count) before after faults faults'
    did_stop = record {
      goes = stop_goes;
      keeps = stop_keeps;
      falls = stop_falls;
      grows = puts_grown tells.1;
      idle = λ e. absurd (false≢true (sym e ∙ has old new unspent c count (Err Stopped) event is));
    }

-- NO DUMP is open
pub did_nothing : (old : StoreFacts) (c : CrewState) (count : ℕ) → IsReady (Up old) c → AreOpen c.jobs → old.dump ≡ None → (before : Option (List ℕ)) (faults : ℕ)
    → DidDump (seen (Up old) c count) None (seen (Up old) c count) before before faults faults
did_nothing old c count ready taking none before faults = record {
  goes = λ w m. (w, [], inl (record { none = none_open w m.stands; next_is = refl; same = refl; text = refl }), m, sym (with_more-nil before));
  keeps = none_keeps_run old c count ready taking faults;
  falls = λ e. let no : has_dump (Up old) ≡ false = ap (λ (d : Option DumpFacts). is_there d) none in
      let zero : one_if (has_dump (Up old)) ≡ one_if false = ap one_if no in omega (arith, zero);
  grows = same_grown before before refl;
  idle = λ e. refl;
}
  where
    none_open : (w : World) → IsNow old w.store → w.store.open_dump ≡ None
    none_open w now =
        let sn = seen_of old w.store ready.0 now.stands in
        ap (λ (t : State). t.open_dump) sn.state_is ∙ ap (λ (x : Option DumpFacts). option_map (open_of sn.view old.online) x) none

lost_added : (count n : ℕ) (fault : StoreFault) (jobs : List JobState) → (fault ≡ Stopped → ⊥) → dump_added count n (Err fault) jobs ≡ operator_line count (dump_text n (codes "LOST " ++ fault_line fault))
lost_added count n Stopped jobs isnt = absurd (isnt refl)
lost_added count n fault jobs isnt = refl

one_number : (a b : ℕ) → (let x : Option ℕ = Some a in x ≡ Some b) → b ≡ a
one_number a b e = cc

pub one_fault : (fault : StoreFault) → (let x : Result Stepped StoreFault = Err fault in x ≡ Err Stopped) → fault ≡ Stopped
one_fault fault e = cc

-- a dump that is given up is reported by its number
pub did_lost : (old new : StoreFacts) (unspent : old.spent ≡ false) (c : CrewState) (count number : ℕ) → option_map (λ d. d.plan.number) old.dump ≡ Some number → (fault : StoreFault) → (fault ≡ Stopped → ⊥)
    → StepsDump old (Err fault) new → StepsAs old (Err fault) new → KeepsReels old (Err fault) new → AreOpen c.jobs → (failure : Option Failure) (before after : Option (List ℕ)) (faults faults' : ℕ)
    → Puts failure (operator_line count (dump_text number (codes "LOST " ++ fault_line fault))) before after faults faults' → DidDump (seen (Up old) c count) failure (seen (Up new) c count) before after faults faults'
did_lost old new unspent c count number number_is fault isnt event is stay taking failure before after faults faults' puts =
    let same : number ≡ is.dump.plan.number =
    one_number is.dump.plan.number number (sym (ap (λ (x : Option DumpFacts). option_map (λ d. d.plan.number) x) is.dump_is) ∙ number_is) in
    did_up old new unspent c count (Err fault) event is (λ e. isnt (one_fault fault e)) stay taking failure before after faults faults'
    (subst (λ (t : List ℕ). Puts failure t before after faults faults')
    (ap (λ (n : ℕ). operator_line count (dump_text n (codes "LOST " ++ fault_line fault))) same ∙ sym (lost_added count is.dump.plan.number fault c.jobs isnt)) puts)

-- nothing is printed while it continues
pub did_going : (old new : StoreFacts) (unspent : old.spent ≡ false) (c : CrewState) (count : ℕ) → StepsDump old (Ok Going) new → StepsAs old (Ok Going) new → KeepsReels old (Ok Going) new → AreOpen c.jobs → (before : Option (List ℕ)) (faults : ℕ)
    → DidDump (seen (Up old) c count) None (seen (Up new) c count) before before faults faults
did_going old new unspent c count event is stay taking before faults =
    did_up old new unspent c count (Ok Going) event is (λ e. let no : ⊥ = cc in no) stay taking None before before faults faults (record { put = sym (with_more-nil before); cause = refl })

pub did_completed : (old new : StoreFacts) (unspent : old.spent ≡ false) (c : CrewState) (count n : ℕ) → StepsDump old (Ok (Completed n)) new → StepsAs old (Ok (Completed n)) new → KeepsReels old (Ok (Completed n)) new → AreOpen c.jobs
    → (failure : Option Failure) (before after : Option (List ℕ)) (faults faults' : ℕ) → Puts failure (operator_line count (dump_text n (codes "COMPLETED"))) before after faults faults'
    → DidDump (seen (Up old) c count) failure (seen (Up new) c count) before after faults faults'
did_completed old new unspent c count n event is stay taking failure before after faults faults' puts =
    did_up old new unspent c count (Ok (Completed n)) event is (λ e. let no : ⊥ = cc in no) stay taking failure before after faults faults' puts

pub some_there : (dump : Option DumpFacts) (n : ℕ) → option_map (λ d. d.plan.number) dump ≡ Some n → is_some dump ≡ true
some_there None n e = absurd (let no : ⊥ = cc in no)
some_there (Some d) n e = refl

-- a store that was stopped is taken down
pub did_fails : (old new : StoreFacts) (unspent : old.spent ≡ false) (c : CrewState) (count : ℕ) (fault : StoreFault) → fault ≡ Stopped → StepsDump old (Err fault) new → StepsAs old (Err fault) new → KeepsReels old (Err fault) new
    → (failure : Option Failure) (c' : CrewState) (before after : Option (List ℕ)) (faults faults' : ℕ) → TellsFault fault count c failure c' before after faults faults'
    → DidDump (seen (Up old) c count) failure (seen (system_after fault new) c' count) before after faults faults'
did_fails old new unspent c count fault stop event is stay failure c' before after faults faults' tells =
    subst (λ (f : StoreFault). DidDump (seen (Up old) c count) failure (seen (system_after f new) c' count) before after faults faults') (sym stop)
    (did_stop old new unspent c count (subst (λ (f : StoreFault). StepsDump old (Err f) new) stop event) (subst (λ (f : StoreFault). StepsAs old (Err f) new) stop is)
    (subst (λ (f : StoreFault). KeepsReels old (Err f) new) stop stay) failure c' before after faults faults' (subst (λ (f : StoreFault). TellsFault f count c failure c' before after faults faults') stop tells))
