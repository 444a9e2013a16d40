-- How a store answers the events of the operator.
use Rattle.std.specs.Prelude.{◌≡◌, ◌≢◌, ◌⊎◌, ℕ, ◌+◌, ◌<◌, ◌≤◌, ◌↔◌, true, false, [], ◌∷◌, List, Some, IfErr, IfOk, Result, Ok, Err}
use Rattle.g_name.specs.declared.full.Full.{Full}
use Rattle.g_name.specs.declared.path.Path.{Path}
use Rattle.g_tape.specs.Reel.{with_mounted}
use Rattle.g_tape.specs.Rack.{changed, reel}
use Rattle.g_plain.specs.declared.faults.StoreFault.{StoreFault}
use Rattle.g_plain.specs.declared.faults.StoreFault.TheVariants.{NoMemory, Stopped, TapeFull, TapeReadFault}
use Rattle.g_plain.specs.PlainTree.{input_name}
use Rattle.g_store_model.specs.State.{State, Holding, OpenDump}
use Rattle.g_store_model.specs.CallStep.{Outcome, Plain}
use Rattle.g_store_model.specs.DumpSteps.{OpenStep, DumpStep, Stepped, Going, Completed, MigrateStep, MountStep, UnmountStep, migrate_refuses}
use Rattle.g_store_meaning.specs.StoreInvariant.{StoreFacts}
use Rattle.g_store_meaning.specs.Reading.{StandsForState, holding_of}
use Rattle.g_store_meaning.specs.Answers.{Belongs, HasCause, IsStore, Raised, Told, WroteCommits}
use Rattle.g_store_meaning.specs.Surviving.{SurvivesOnDisc}
use Rattle.g_disc_contents.specs.Contents.{recs_in}
use Rattle.g_disc_contents.specs.Facts.{OnlineFacts}
use Rattle.g_online.specs.declared.change.Change.{Change}
use Rattle.g_online.specs.declared.change.Change.TheVariants.{Unload}
use Rattle.g_online.specs.Outcomes.{HasChanged, HasStopped}
use Rattle.g_store.specs.Naming.{IsNamedFile}
use Rattle.g_store.specs.Refusing.{DoneOr, IsExact, capacity_of, mount_refuses, needs_now, open_refuses, unmount_refuses}

-- The store represents a state after the event, which results from its step, with an outcome whose counter rose.
pub record LeadsBy {A : Type 0} (by : State → Holding → Outcome → Result A StoreFault → State → Type 0) (before : State) (old new : StoreFacts) (answer : Result A StoreFault) : Type 0 where
  pub after : State
  pub left : StandsForState new after
  pub held : Holding
  pub holds : before.holding ≡ Some held
  pub outcome : Outcome
  pub raised : Raised outcome old new
  pub step : by before held outcome answer after

-- Running out of memory changes nothing; every other answer is the step's.
abbrev pub StepsBy : {A : Type 0} → (State → Holding → Outcome → Result A StoreFault → State → Type 0) → State → StoreFacts → Result A StoreFault → StoreFacts → Type 0
StepsBy by before old (Err NoMemory) new = StandsForState new before
StepsBy by before old answer new = LeadsBy by before old new answer

-- Each reply made this many commits, a refusal none, and the disc was written in no other way. After a stop nothing is
-- specified.
abbrev pub WroteBy : {A : Type 0} → (A → ℕ) → StoreFacts → Result A StoreFault → StoreFacts → Type 0
WroteBy count old (Ok reply) new = WroteCommits (count reply) old new
WroteBy count old (Err Stopped) new = Unit {0}
WroteBy count old (Err fault) new = WroteCommits 0 old new

-- The event took its step to what the store represents now; and disc and rack, if they belonged together, still do. Both assume
-- that the devices expose their contents and belong together before the event.
pub record IsAnsweredBy {A : Type 0} (by : State → Holding → Outcome → Result A StoreFault → State → Type 0) (old : StoreFacts) (answer : Result A StoreFault) (new : StoreFacts) : Type 0 where
  pub step : Told old → Belongs old → (s : State) → StandsForState old s → StepsBy by s old answer new
  pub belongs : Told old → Belongs old → Belongs new

-- How an event is answered. The clauses on its step, on exposed contents and on belonging together assume that the devices
-- satisfy this before the event; the others always hold.
pub record AnswersEvent {A : Type 0} (by : State → Holding → Outcome → Result A StoreFault → State → Type 0) (count : A → ℕ) (old : StoreFacts) (answer : Result A StoreFault) (new : StoreFacts) : Type 0 where
  pub step : Told old → Belongs old → (s : State) → StandsForState old s → StepsBy by s old answer new
  pub wrote : WroteBy count old answer new
  pub keeps : IsStore new
  pub told : Told old → Told new
  pub belongs : Told old → Belongs old → Belongs new
  pub spent : (new.spent ≡ true) ↔ (answer ≡ Err Stopped)
  -- after a failed write, the event was answered as if that write had left what a power loss leaves on the disc
  pub survives : SurvivesOnDisc (IsAnsweredBy by old answer) old new

-- What an opening can answer if nothing refuses it before the reel is read.
abbrev pub IsOfOpening : StoreFault → Type 0
IsOfOpening fault = (fault ≡ TapeReadFault) ⊎ (((need room : ℕ) × (fault ≡ TapeFull need room)) ⊎ ((fault ≡ Stopped) ⊎ (fault ≡ NoMemory)))

-- A dump is opened, by one commit (and `Begins` of `g_dumper`). The answer is the number after that of the last dump. If it
-- is refused, the facts of the online filestore are unchanged, except that the list of touched users may differ.
pub record Opens (serial : ℕ) (old : StoreFacts) (answer : Result ℕ StoreFault) (new : StoreFacts) : Type 0 where
  pub event : AnswersEvent (λ s k o a n. OpenStep s k serial o a n) (λ number. 1) old answer new
  pub cause : HasCause old new answer
  pub dump : (fault : StoreFault) → answer ≡ Err fault → fault ≢ Stopped → new.dump ≡ old.dump
  pub same : IfErr answer (λ e. e ≢ Stopped → new.online ≡ record old.online { touched = new.online.touched })
  pub exact : IsExact (open_refuses serial old) IsOfOpening old answer new
  pub number : (n : ℕ) → answer ≡ Ok n → n ≡ old.online.contents.head.last_dump + 1
  pub full : (need room : ℕ) → answer ≡ Err (TapeFull need room)
      → (need ≡ needs_now old.online) × (room < need) × (room ≤ capacity_of (reel serial old.rack.reels))

-- A step of the open dump, with a commit if it is the last (and `Stepping` of `g_dumper`, which specifies what happens to
-- the tape).
abbrev pub IsStepOfDump : State → Holding → Outcome → Result Stepped StoreFault → State → Type 0
IsStepOfDump s k o answer new = (d : OpenDump) × (s.open_dump ≡ Some d) × DumpStep s k d o answer new

-- The number of commits of a dump step: one if it completes the dump.
abbrev pub commits_of_step : Stepped → ℕ
commits_of_step Going = 0
commits_of_step (Completed number) = 1

-- How a step of the open dump is answered.
abbrev pub StepsDump : StoreFacts → Result Stepped StoreFault → StoreFacts → Type 0
StepsDump old answer new = AnswersEvent IsStepOfDump commits_of_step old answer new

-- What a migration can answer if nothing refuses it.
abbrev pub IsOfMigration : StoreFault → Type 0
IsOfMigration fault = (fault ≡ Stopped) ⊎ (fault ≡ NoMemory)

-- The file that the path names, under its full name, is the one that was taken off the disc, or was to be.
pub record Unloads (path : Path) (Leaves : Change → Type 0) (old : OnlineFacts) (full : Full) : Type 0 where
  pub number : ℕ
  pub named : IsNamedFile old.contents.users (recs_in old.contents) path number full
  pub leaves : Leaves (Unload (number ∷ []))

-- A file is taken off the disc, by one commit, and an open dump is unchanged. A refusal depends on which users and files
-- exist and where their bytes are, but on no byte of a file, so the refusals are the same for every text. Exactly the file
-- of the path was taken off, whether or not the devices expose their contents.
pub record Migrates (path : Path) (old : StoreFacts) (answer : Result Full StoreFault) (new : StoreFacts) : Type 0 where
  pub event : AnswersEvent (λ s k o a n. MigrateStep s k path.user (input_name k.tree [] path) o a n) (λ full. 1) old answer new
  pub cause : HasCause old new answer
  pub dump : (answer ≡ Err Stopped → ⊥) → new.dump ≡ old.dump
  pub same : IfErr answer (λ e. e ≢ Stopped → new ≡ old)
  pub exact : (text : ℕ → List ℕ)
      → (let k = holding_of text [] old.online.contents in IsExact (migrate_refuses k path.user (input_name k.tree [] path) Plain) IsOfMigration old answer new)
  pub done : IfOk answer (Unloads path (λ change. HasChanged change old.online new.online) old.online)
  pub stopped : answer ≡ Err Stopped → (full : Full) × Unloads path (λ change. HasStopped change old.online new.online) old.online full

-- Mounting and unmounting change only that reel.
pub record Mounts (serial : ℕ) (old : StoreFacts) (answer : Result (Unit {0}) StoreFault) (new : StoreFacts) : Type 0 where
  pub event : AnswersEvent (λ s k o a n. MountStep s serial a n) (λ reply. 0) old answer new
  pub exact : DoneOr (mount_refuses serial old) (record old { rack = changed serial (with_mounted true) old.rack }) old answer new

-- Unmounting changes only that reel.
pub record Unmounts (serial : ℕ) (old : StoreFacts) (answer : Result (Unit {0}) StoreFault) (new : StoreFacts) : Type 0 where
  pub event : AnswersEvent (λ s k o a n. UnmountStep s serial a n) (λ reply. 0) old answer new
  pub exact : DoneOr (unmount_refuses serial old) (record old { rack = changed serial (with_mounted false) old.rack }) old answer new
