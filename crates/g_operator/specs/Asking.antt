-- An event of the store is requested from the system. A system that is down refuses it, and is unchanged.
use Rattle.std.specs.Prelude.{◌≡◌, ℕ, Result, Err}
use Rattle.g_plain.specs.declared.faults.StoreFault.{StoreFault}
use Rattle.g_plain.specs.declared.faults.StoreFault.TheVariants.{NotStarted}
use Rattle.g_tape.specs.Rack.{AreReels}
use Rattle.g_process.specs.Processing.{Processes}
use Rattle.g_store_meaning.specs.StoreInvariant.{StoreFacts}
use Rattle.g_store.specs.Dumping.{OpensDump}
use Rattle.g_store.specs.Events.{Opens}
use Rattle.g_store.specs.Processing.{MovesDumps, StepsProcess}
use Rattle.g_day.specs.System.{Down, SystemFacts, Up}

-- The store of a system that is up has answered; a system that is down has refused, unchanged.
abbrev pub AsksOf : {A : Type 0} → (StoreFacts → Result A StoreFault → StoreFacts → Type 0) → SystemFacts → Result A StoreFault → SystemFacts → Type 0
AsksOf by (Up s) answer (Up t) = by s answer t
AsksOf by (Down d) answer (Down e) = (answer ≡ Err NotStarted) × (e ≡ d)
AsksOf by old answer new = ⊥

-- How a store answers DUMP, by its step, and how a dump begins that is opened.
pub record Opened (serial : ℕ) (old : StoreFacts) (answer : Result ℕ StoreFault) (new : StoreFacts) : Type 0 where
  pub opens : Opens serial old answer new
  pub begins : OpensDump serial old answer new

-- How a store with a rack of reels answers PROCESS, by its step, and what happens to completed dumps.
pub record Processed (serial : ℕ) (old : StoreFacts) (answer : Result ℕ StoreFault) (new : StoreFacts) : Type 0 where
  pub answers : Processes serial old answer new
  pub step : StepsProcess serial old answer new
  pub dumps : MovesDumps old new
  pub reels : AreReels old.rack.reels
