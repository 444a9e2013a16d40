-- How a store answers PROCESS in terms of states, and what happens to completed dumps. What holds for all devices is
-- `Processes` of `g_process`.
use Rattle.std.specs.Prelude.{ℕ, Result}
use Rattle.g_plain.specs.declared.faults.StoreFault.{StoreFault}
use Rattle.g_store_model.specs.State.{State}
use Rattle.g_store_model.specs.Process.{ProcessStep}
use Rattle.g_store_meaning.specs.Answers.{Belongs, Told}
use Rattle.g_store_meaning.specs.Reading.{StandsForState}
use Rattle.g_store_meaning.specs.StoreInvariant.{StoreFacts}
use Rattle.g_laws_store.specs.Moving.{DumpsMove}
use Rattle.g_store.specs.Events.{StepsBy}

-- PROCESS takes the step of a process from the state that the store represents, if its devices expose their contents and
-- belong together.
abbrev pub StepsProcess : ℕ → StoreFacts → Result ℕ StoreFault → StoreFacts → Type 0
StepsProcess serial old answer new = Told old → Belongs old → (s : State) → StandsForState old s → StepsBy (λ s k o a n. ProcessStep s k serial o a n) s old answer new

-- Each reel keeps its completed dumps, possibly followed by the new one; or they are gone, and the new dump exists and
-- holds everything that each of them did.
abbrev pub MovesDumps : StoreFacts → StoreFacts → Type 0
MovesDumps old new = Told old → Belongs old → DumpsMove old.rack new.rack
