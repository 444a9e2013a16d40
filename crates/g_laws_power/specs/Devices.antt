-- Safe devices: what each event leaves of them when the system goes down or doesn't come up.
use Rattle.std.specs.Prelude.{◌≡◌, ℕ, List, [], Result, Err, length}
use Rattle.std.specs.Option.{ForSome}
use Rattle.g_disc.specs.Disc.{DiscState}
use Rattle.g_name.specs.declared.path.Path.{Path}
use Rattle.g_tape.specs.Durable.{IsDurable}
use Rattle.g_tape.specs.Rack.{Rack}
use Rattle.g_plain.specs.declared.calls.StoreCall.{StoreCall}
use Rattle.g_plain.specs.declared.faults.StoreFault.{StoreFault}
use Rattle.g_plain.specs.declared.faults.StoreFault.TheVariants.{Stopped}
use Rattle.g_store_model.specs.DumpSteps.{Stepped}
use Rattle.g_store_meaning.specs.Answers.{Answers}
use Rattle.g_store_meaning.specs.Belonging.{Belong}
use Rattle.g_store_meaning.specs.Meaning.{told_reels}
use Rattle.g_store_meaning.specs.Reading.{AllTold}
use Rattle.g_store_meaning.specs.Safety.{AreSafe, IsLeft, IsSafe}
use Rattle.g_store_meaning.specs.StoreInvariant.{StoreFacts}
use Rattle.g_store_meaning.specs.Surviving.{DumpsMadeSafe, disc_left}
use Rattle.g_process.specs.Processing.{Processes}
use Rattle.g_store.specs.Dumping.{KeepsDumpsSafe}
use Rattle.g_store.specs.Events.{Migrates, Opens, StepsDump}
use Rattle.g_store.specs.Making.{Formats, RefusesFormat, RefusesRestore, RefusesStart}

-- A STEP OF A DUMP leaves a safe store, or, if a write failed, safe devices.
pub record StepsKeepSafe : Type 0 where
  pub safe : (old new : StoreFacts) (answer : Result Stepped StoreFault) → IsSafe old → StepsDump old answer new → KeepsDumpsSafe old answer new → (answer ≡ Err Stopped → ⊥) → IsSafe new
  pub stopped : (old new : StoreFacts) → IsSafe old → StepsDump old (Err Stopped) new → KeepsDumpsSafe old (Err Stopped) new → AreSafe new.online.disc new.rack

-- THE DEVICES OF A SAFE STORE ARE SAFE when it goes down, and after any event that a failed write stopped.
pub record StopsLeaveSafe : Type 0 where
  pub down : (s : StoreFacts) → IsSafe s → AreSafe s.online.disc s.rack
  pub call : (old new : StoreFacts) (who : List ℕ) (call : StoreCall) → IsSafe old → Answers old who call (Err Stopped) new → AreSafe new.online.disc new.rack
  pub opening : (serial : ℕ) (old new : StoreFacts) → IsSafe old → Opens serial old (Err Stopped) new → AreSafe new.online.disc new.rack
  pub migrating : (path : Path) (old new : StoreFacts) → IsSafe old → Migrates path old (Err Stopped) new → AreSafe new.online.disc new.rack
  pub process : (serial : ℕ) (old new : StoreFacts) → IsSafe old → Processes serial old (Err Stopped) new → AreSafe new.online.disc new.rack

-- SAFE DEVICES STAY SAFE if a store isn't made of them, because a write failed or for any other reason.
pub record RefusalsKeepSafe : Type 0 where
  pub start : (disc disc' : DiscState) (rack rack' : Rack) (fault : StoreFault) → AreSafe disc rack → RefusesStart disc rack fault disc' rack' → (fault ≡ Stopped → DumpsMadeSafe rack rack') → AreSafe disc' rack'
  pub restore : (disc disc' : DiscState) (rack rack' : Rack) (fault : StoreFault) → AreSafe disc rack → RefusesRestore disc rack fault disc' rack' → (fault ≡ Stopped → DumpsMadeSafe rack rack') → AreSafe disc' rack'
  pub format : (disc disc' : DiscState) (rack rack' : Rack) (fault : StoreFault) → AreSafe disc rack → RefusesFormat disc rack fault disc' rack' → AreSafe disc' rack'

-- FORMAT MAKES A SAFE STORE of safe devices; `MakingIsSafe` says so of START and RESTORE.
abbrev pub FormatIsSafe : Type 0
FormatIsSafe = (disc : DiscState) (rack : Rack) (new : StoreFacts) → AreSafe disc rack → Formats disc rack new → IsSafe new

-- WHAT A POWER LOSS LEAVES OF SAFE DEVICES IS SAFE
abbrev pub LeftIsSafe : Type 0
LeftIsSafe = (disc : DiscState) (rack : Rack) (blocks : List (List ℕ)) (after : Rack) → AreSafe disc rack → IsLeft disc rack blocks after → AreSafe (disc_left blocks disc) after

-- DEVICES THAT BELONG TOGETHER ARE SAFE IF ALL OF THEM IS DURABLE: a power loss leaves them unchanged.
abbrev pub DurableAreSafe : Type 0
DurableAreSafe = (disc : DiscState) (rack : Rack) → AllTold disc.held (told_reels rack) → Belong disc.held rack → ForSome disc.held (λ blocks. length blocks ≡ disc.size) → disc.volatile ≡ []
    → ((serial : ℕ) → IsDurable serial rack) → AreSafe disc rack
