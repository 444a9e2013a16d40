-- Parts of a tick: from each world that matches what is at hand there are moves to a world that matches what is at hand
-- then.
use Rattle.std.specs.Prelude.{◌≡◌, ◌⊎◌, ℕ, ◌+◌, ◌-◌, ◌≤◌, ◌&&◌, ◌||◌, Bool, true, false, not, List, [], ◌++◌, filter, sum_by, Option, Some, None, Result, Err, if◌then◌else◌}
use Rattle.std.specs.Fn.{Shared}
use denote.Ref.{Bor}
use Rattle.g_io.specs.Streams.{with_more, HasPutPart}
use Rattle.g_rules.specs.declared.tariff.Usage.{Usage}
use Rattle.g_rules.specs.declared.tariff.Charge.{Charge}
use Rattle.g_rules.specs.declared.rule.Standing.{Standing}
use Rattle.g_plain.specs.declared.faults.StoreFault.{StoreFault}
use Rattle.g_plain.specs.declared.faults.StoreFault.TheVariants.{Stopped}
use Rattle.g_store_model.specs.CallStep.{Cut, Outcome, down}
use Rattle.g_store_model.specs.DumpSteps.{Stepped as DumpStepped}
use Rattle.g_store_model.specs.State.{OpenDump, State}
use Rattle.g_job_table.specs.Numbers.{AreOpen}
use Rattle.g_day.specs.declared.progress.Failure.{Failure}
use Rattle.g_job.specs.State.{JobState}
use Rattle.g_job.specs.Terminal.{is_ready}
use Rattle.g_incr.specs.Plan.{needs}
use Rattle.g_tape.specs.Rack.{Rack, is_mounted, reel}
use Rattle.g_day.specs.Losses.{LeftAfter, SystemLeaves}
use Rattle.g_day.specs.Parts.{IsReady, Matches, Seen}
use Rattle.g_day.specs.Puts.{FaultCause, HasGrown}
use Rattle.g_day.specs.System.{Down, DumpsGrow, SameDevices, StandsAs, SystemBelongs, SystemFacts, SystemSafe, Up, devices_in}
use Rattle.g_run_model.specs.Events.{IsDumpStep}
use Rattle.g_run_model.specs.Moves.{DumpCounted, Move, MovesCounted, Run, dump_told}
use Rattle.g_run_model.specs.World.{Between, KeepsLines, Phase, Stepped, Turned, World, able, has_none, is_due, is_dumping, nothing_steps}

-- The world is between two ticks.
pub record IsBetween (w : World) : Type 0 where
  pub phase : w.phase ≡ Between
  pub turn : w.turn ≡ None

-- A tick may begin: no line is due, and something steps.
abbrev pub MayTick : World → Type 0
MayTick w = IsBetween w × (is_due w ≡ false) × (nothing_steps w ≡ false)

-- A turn may begin: the tick's dump step is done, or no dump is open and a job can step.
abbrev pub MayTurn : World → Type 0
MayTurn w = (w.turn ≡ None) × (is_due w ≡ false)
    × (((w.phase ≡ Between) × (is_dumping w ≡ false) × (nothing_steps w ≡ false)) ⊎ (w.phase ≡ Stepped))

-- The tick has done its step and its turn.
abbrev pub IsThrough : World → Type 0
IsThrough w = (w.turn ≡ None) × ((w.phase ≡ Turned) ⊎ ((w.phase ≡ Stepped) × (has_none (able w) ≡ true)))

-- What is left to do, whether or not the devices expose their contents: for each job the units of its allowance, plus one
-- if it can step; for an open dump its blocks, plus one.
abbrev pub reel_there : Rack → Option ℕ → Bool
reel_there rack None = true
reel_there rack (Some serial) = is_mounted (reel serial rack.reels)

-- Whether the job can step.
abbrev pub may_step : Rack → JobState → Bool
may_step rack j = reel_there rack j.wants && is_ready j

-- (`share` of g_run_model's ShareLemmas)
abbrev pub share_in : Rack → JobState → ℕ
share_in rack j = (j.allowance - j.used) + (if may_step rack j then 1 else 0)

-- The number of blocks that the open dump still needs, plus one, or 0.
abbrev pub dump_left : SystemFacts → ℕ
dump_left (Up s) = elim s.dump [ None ↦ 0 | Some d ↦ needs d.plan - d.done + 1 ]
dump_left (Down d) = 0

-- All that is left to do, by the jobs and the open dump.
abbrev pub left : Seen → ℕ
left seen = sum_by (share_in (devices_in seen.system).rack) seen.crew.jobs + dump_left seen.system

-- Whether a dump is open.
abbrev pub has_dump : SystemFacts → Bool
has_dump (Up s) = elim s.dump [ None ↦ false | Some d ↦ true ]
has_dump (Down d) = false

-- Whether some job can step.
abbrev pub some_job_steps : Seen → Bool
some_job_steps seen = not (has_none (filter (may_step (devices_in seen.system).rack) seen.crew.jobs))

-- Unless it fails, a part never leaves more to do, and leaves less if `less` is true.
abbrev pub Falls : Bool → Seen → Option Failure → Seen → Type 0
Falls less old failure new = failure ≡ None → left new + (if less then 1 else 0) ≤ left old

-- What holds of all devices after a part: none is armed; and, if nothing failed, everything is ready for the next part.
pub record KeepsRun (old : Seen) (failure : Option Failure) (new : Seen) (faults faults' : ℕ) : Type 0 where
  pub ready : failure ≡ None → IsReady new.system new.crew × AreOpen new.crew.jobs
  pub disc_arms : (devices_in new.system).disc.arms ≡ (devices_in old.system).disc.arms
  pub tape_arms : (devices_in new.system).rack.arms ≡ (devices_in old.system).rack.arms
  pub same : SameDevices (devices_in old.system) (devices_in new.system)
  pub belongs : SystemBelongs old.system → SystemBelongs new.system
  pub safe : SystemSafe old.system → SystemSafe new.system
  pub dumps : SystemBelongs old.system → DumpsGrow (devices_in old.system).rack (devices_in new.system).rack
  pub cause : FaultCause failure faults faults'
  pub numbers : failure ≡ None → new.crew.next_job ≡ old.crew.next_job

-- After a dump step a turn may begin, unless the step has stopped the system.
abbrev pub phase_behind : SystemFacts → Phase
phase_behind (Up s) = Stepped
phase_behind (Down d) = Turned

-- A state that a power loss may leave after a dump step from this state: the one that it led to; or, if a failed write stopped it, another one
-- that it may lead to then.
pub data StepMayLeave (s : State) (o : Outcome) (state u : State) : Type 0 where
  AsRead : u ≡ down state → StepMayLeave s o state u
  OtherEnd : o ≡ Cut → (other : State) → IsDumpStep s o (Err Stopped) other → u ≡ down other → StepMayLeave s o state u

-- A step of the open dump from a world: its answer, what is printed for it, what the devices counted, and what a power loss leaves.
pub record StepsTo (w : World) (old new : SystemFacts) (next : World) (added : List ℕ) : Type 0 where
  pub outcome : Outcome
  pub answer : Result DumpStepped StoreFault
  pub state : State
  pub dump : OpenDump
  pub opened : w.store.open_dump ≡ Some dump
  pub event : IsDumpStep w.store outcome answer state
  pub next_is : next ≡ dump_told dump.number answer state w
  pub counted : DumpCounted outcome (devices_in old) (devices_in new)
  pub stands : StandsAs new next.store
  pub left : SystemSafe old → SystemLeaves (λ u. StepMayLeave w.store outcome state u) ⊥ old new
  pub text : next.text ≡ w.text ++ added
  pub phase : next.phase ≡ phase_behind new

-- No dump is open.
pub record StepsNothing (w : World) (old new : SystemFacts) (next : World) (added : List ℕ) : Type 0 where
  pub none : w.store.open_dump ≡ None
  pub next_is : next ≡ w
  pub same : new ≡ old
  pub text : added ≡ []

-- The dump's part of a tick was done, or no dump is open.
abbrev pub DumpComes : World → SystemFacts → SystemFacts → World → List ℕ → Type 0
DumpComes w old new next added = StepsNothing w old new next added ⊎ StepsTo w old new next added

-- The dump's part of a tick, from each world that matches what is at hand: it was done, and its text was written completely
-- or, after a failure, a prefix of it.
abbrev pub DumpGoes : Seen → Option Failure → Seen → Option (List ℕ) → Option (List ℕ) → Type 0
DumpGoes old None new before after = (w : World) → Matches w old
    → (next : World) × (added : List ℕ) × DumpComes w old.system new.system next added × Matches next new × (after ≡ with_more before added)
DumpGoes old (Some failure) new before after = (w : World) → Matches w old
    → (next : World) × (added : List ℕ) × DumpComes w old.system new.system next added × HasPutPart before added after

module _ {F U : Type 0} (tariffs : Shared F (Bor Usage × Unit {0}) Charge) (tariff : F) (rules : Shared U (Bor Standing × Unit {0}) ℕ) (rule : U) where
  -- Moves from one world to the next, whose store the system represents, with what the devices counted; the text is longer. A safe system
  -- stays safe, and a power loss leaves a state that it may leave after these moves.
  pub record Comes (w : World) (old new : SystemFacts) (moves : List Move) (next : World) (added : List ℕ) : Type 0 where
    pub run : Run tariffs tariff rules rule w moves next
    pub counted : MovesCounted moves [] [] (devices_in old) (devices_in new)
    pub stands : StandsAs new next.store
    pub safe : SystemSafe old → SystemSafe new
    pub left : SystemSafe old → LeftAfter tariffs tariff rules rule w moves next old new
    pub keeps : KeepsLines w next
    pub text : next.text ≡ w.text ++ added

  -- All of a part was done and its text was written; or some of it was done and a prefix of its text was written. `Before`
  -- holds of the world before, `After` of the world afterwards.
  abbrev pub GoesBy : (World → Type 0) → (World → Type 0) → Seen → Option Failure → Seen → Option (List ℕ) → Option (List ℕ) → Type 0
  GoesBy Before After old None new before after = (w : World) → Matches w old → Before w
      → (moves : List Move) × (next : World) × (added : List ℕ) × Comes w old.system new.system moves next added × Matches next new × After next × (after ≡ with_more before added)
  GoesBy Before After old (Some failure) new before after = (w : World) → Matches w old → Before w
      → (moves : List Move) × (next : World) × (added : List ℕ) × Comes w old.system new.system moves next added × HasPutPart before added after

-- A part as a whole: what it does from each world, what holds of all devices, and what it leaves to do.
pub record DidPart (Goes : Type 0) (less : Bool) (old : Seen) (failure : Option Failure) (new : Seen) (before after : Option (List ℕ)) (faults faults' : ℕ) : Type 0 where
  pub goes : Goes
  pub keeps : KeepsRun old failure new faults faults'
  pub falls : Falls less old failure new
  pub grows : HasGrown before after

-- The step of the open dump; without one everything is unchanged.
pub record DidDump (old : Seen) (failure : Option Failure) (new : Seen) (before after : Option (List ℕ)) (faults faults' : ℕ) : Type 0 where
  pub goes : DumpGoes old failure new before after
  pub keeps : KeepsRun old failure new faults faults'
  pub falls : Falls (has_dump old.system) old failure new
  pub grows : HasGrown before after
  pub idle : has_dump old.system ≡ false → new ≡ old

module _ {F U : Type 0} (tariffs : Shared F (Bor Usage × Unit {0}) Charge) (tariff : F) (rules : Shared U (Bor Standing × Unit {0}) ℕ) (rule : U) where
  -- a turn, if a job can step
  abbrev pub DidTurn : Seen → Option Failure → Seen → Option (List ℕ) → Option (List ℕ) → ℕ → ℕ → Type 0
  DidTurn old failure new before after faults faults' =
      DidPart (GoesBy tariffs tariff rules rule MayTurn IsThrough old failure new before after) (some_job_steps old) old failure new before after faults faults'

  -- a tick
  abbrev pub DidTick : Seen → Option Failure → Seen → Option (List ℕ) → Option (List ℕ) → ℕ → ℕ → Type 0
  DidTick old failure new before after faults faults' =
      DidPart (GoesBy tariffs tariff rules rule MayTick IsThrough old failure new before after) (has_dump old.system || some_job_steps old) old failure new before after faults faults'
