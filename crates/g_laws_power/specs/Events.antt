-- What a power loss leaves after the operator's events: an opening of a dump, a MIGRATE, a mount and an unmount. Of PROCESS, whether its store is
-- safe.
use Rattle.std.specs.Prelude.{◌≡◌, ℕ, List, [], Result, Some, Err}
use Rattle.g_name.specs.declared.full.Full.{Full}
use Rattle.g_name.specs.declared.path.Path.{Path}
use Rattle.g_tape.specs.Rack.{AreReels, Rack}
use Rattle.g_plain.specs.declared.faults.StoreFault.{StoreFault}
use Rattle.g_plain.specs.declared.faults.StoreFault.TheVariants.{Stopped}
use Rattle.g_plain.specs.PlainTree.{input_name}
use Rattle.g_store_model.specs.State.{Holding, State}
use Rattle.g_store_model.specs.CallStep.{Outcome}
use Rattle.g_store_model.specs.DumpSteps.{MigrateStep, OpenStep}
use Rattle.g_store_model.specs.Process.{ProcessStep}
use Rattle.g_store_meaning.specs.Belonging.{BelongWith}
use Rattle.g_store_meaning.specs.Meaning.{told_reels}
use Rattle.g_store_meaning.specs.Reading.{StandsForState}
use Rattle.g_store_meaning.specs.StoreInvariant.{StoreFacts}
use Rattle.g_store_meaning.specs.Surviving.{disc_left}
use Rattle.g_process.specs.Processing.{Processes}
use Rattle.g_store.specs.Dumping.{KeepsDumpsSafe, OpensDump}
use Rattle.g_store.specs.Events.{IsStepOfDump, Migrates, Mounts, Opens, StepsDump, Unmounts}
use Rattle.g_store_meaning.specs.Safety.{CanBeSafe, IsLeft, IsSafe, StandLike}

-- EACH OF THEM LEAVES A SAFE STORE, unless a write failed
pub record EventsKeepSafe : Type 0 where
  pub opening : (serial : ℕ) (old new : StoreFacts) (answer : Result ℕ StoreFault) → IsSafe old → Opens serial old answer new → OpensDump serial old answer new → (answer ≡ Err Stopped → ⊥) → IsSafe new
  pub migrating : (path : Path) (old new : StoreFacts) (answer : Result Full StoreFault) → IsSafe old → Migrates path old answer new → (answer ≡ Err Stopped → ⊥) → IsSafe new
  pub mounting : (serial : ℕ) (old new : StoreFacts) (answer : Result (Unit {0}) StoreFault) → IsSafe old → Mounts serial old answer new → IsSafe new
  pub unmounting : (serial : ℕ) (old new : StoreFacts) (answer : Result (Unit {0}) StoreFault) → IsSafe old → Unmounts serial old answer new → IsSafe new

-- The event was stopped, and the devices represent a state like one that it may leave: with or without its change.
pub record StopsLikeBy {A : Type 0} (by : State → Holding → Outcome → Result A StoreFault → State → Type 0) (s : State) (size : ℕ) (blocks : List (List ℕ)) (rack : Rack) : Type 0 where
  pub held : Holding
  pub holds : s.holding ≡ Some held
  pub outcome : Outcome
  pub after : State
  pub step : by s held outcome (Err Stopped) after
  pub stand : StandLike size blocks rack after

-- WHATEVER A POWER LOSS LEAVES after one that was stopped belongs together, and represents a state that the event may leave then.
pub record StoppedEventsSurvive : Type 0 where
  pub opening : (serial : ℕ) (old new : StoreFacts) (blocks : List (List ℕ)) (rack : Rack) → IsSafe old → Opens serial old (Err Stopped) new → IsLeft new.online.disc new.rack blocks rack
      → BelongWith (Some blocks) (told_reels rack) × ((s : State) → StandsForState old s → StopsLikeBy (λ s k o a n. OpenStep s k serial o a n) s new.online.disc.size blocks rack)
  pub migrating : (path : Path) (old new : StoreFacts) (blocks : List (List ℕ)) (rack : Rack) → IsSafe old → Migrates path old (Err Stopped) new → IsLeft new.online.disc new.rack blocks rack
      → BelongWith (Some blocks) (told_reels rack)
      × ((s : State) → StandsForState old s → StopsLikeBy (λ s k o a n. MigrateStep s k path.user (input_name k.tree [] path) o a n) s new.online.disc.size blocks rack)

-- THE SAME AFTER A STEP OF A DUMP that was stopped: without that dump, with it completed on its reel, or on the disc too.
abbrev pub StoppedStepsSurvive : Type 0
StoppedStepsSurvive = (old new : StoreFacts) (blocks : List (List ℕ)) (rack : Rack) → IsSafe old → StepsDump old (Err Stopped) new → KeepsDumpsSafe old (Err Stopped) new → IsLeft new.online.disc new.rack blocks rack
    → BelongWith (Some blocks) (told_reels rack) × ((s : State) → StandsForState old s → StopsLikeBy IsStepOfDump s new.online.disc.size blocks rack)

-- THE SAME AFTER A PROCESS that was stopped: before the intent or with it, with the new dump completed, or with the new copies on the disc and
-- some reels released.
abbrev pub StoppedProcessSurvives : Type 0
StoppedProcessSurvives = (serial : ℕ) (old new : StoreFacts) (blocks : List (List ℕ)) (rack : Rack) → AreReels old.rack.reels → IsSafe old → Processes serial old (Err Stopped) new → IsLeft new.online.disc new.rack blocks rack
    → BelongWith (Some blocks) (told_reels rack) × ((s : State) → StandsForState old s → StopsLikeBy (λ s k o a n. ProcessStep s k serial o a n) s new.online.disc.size blocks rack)

-- WHAT IS LEFT after one that was stopped can be safe again, with a power loss or without one.
pub record StoppedCanBeSafe : Type 0 where
  pub opening : (serial : ℕ) (old new : StoreFacts) (blocks : List (List ℕ)) (rack : Rack) → IsSafe old → Opens serial old (Err Stopped) new → IsLeft new.online.disc new.rack blocks rack → CanBeSafe (disc_left blocks new.online.disc) rack
  pub migrating : (path : Path) (old new : StoreFacts) (blocks : List (List ℕ)) (rack : Rack) → IsSafe old → Migrates path old (Err Stopped) new → IsLeft new.online.disc new.rack blocks rack
      → CanBeSafe (disc_left blocks new.online.disc) rack
  pub opening_alone : (serial : ℕ) (old new : StoreFacts) → IsSafe old → Opens serial old (Err Stopped) new → CanBeSafe new.online.disc new.rack
  pub migrating_alone : (path : Path) (old new : StoreFacts) → IsSafe old → Migrates path old (Err Stopped) new → CanBeSafe new.online.disc new.rack

-- PROCESS LEAVES A SAFE STORE, or, if a write failed, devices that can be safe again.
pub record ProcessKeepsSafe : Type 0 where
  pub safe : (serial : ℕ) (old new : StoreFacts) (answer : Result ℕ StoreFault) → IsSafe old → Processes serial old answer new → (answer ≡ Err Stopped → ⊥) → IsSafe new
  pub stop : (serial : ℕ) (old new : StoreFacts) → IsSafe old → Processes serial old (Err Stopped) new → CanBeSafe new.online.disc new.rack
