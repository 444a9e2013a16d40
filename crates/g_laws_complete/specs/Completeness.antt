-- Completeness: if no device fails, only the plain step, the room and memory decide how a call is answered.
use Rattle.std.specs.Prelude.{◌≡◌, ◌⊎◌, ℕ, ◌≤◌, true, List, Some, None, Result, Err}
use Rattle.g_base.specs.Counts.{Rose}
use Rattle.g_plain.specs.declared.calls.StoreCall.{StoreCall}
use Rattle.g_plain.specs.declared.calls.StoreReply.{StoreReply}
use Rattle.g_plain.specs.declared.faults.StoreFault.{StoreFault}
use Rattle.g_plain.specs.declared.faults.StoreFault.TheVariants.{NoCopy, NoMemory}
use Rattle.g_plain.specs.PlainStep.{fault_of, plain_answer}
use Rattle.g_plain.specs.PlainTree.{Tree}
use Rattle.g_store_model.specs.State.{Holding, State, is_mounted}
use Rattle.g_store_model.specs.CallStep.{is_offline, need, reel_of, room_until}
use Rattle.g_store_meaning.specs.Answers.{Answers, Belongs, Told}
use Rattle.g_store_meaning.specs.Reading.{StandsForState}
use Rattle.g_store_meaning.specs.StoreInvariant.{StoreFacts}
use Rattle.g_laws_store.specs.Refusals.{MetIn}

-- No fault counter rose.
pub record NothingFailed (old new : StoreFacts) : Type 0 where
  pub disc_reads : Rose old.online.disc.read_faults new.online.disc.read_faults → ⊥
  pub disc_writes : Rose old.online.disc.write_faults new.online.disc.write_faults → ⊥
  pub tape_reads : Rose old.rack.read_faults new.rack.read_faults → ⊥
  pub tape_writes : Rose old.rack.write_faults new.rack.write_faults → ⊥

-- The call can be done: the plain step grants it, its file is on the disc or its reel is mounted, and its need is at most
-- the room that would result from taking files off the disc, up to some stamp.
pub record MayBeDone (s : State) (k : Holding) (who : List ℕ) (call : StoreCall) : Type 0 where
  pub granted : fault_of k.tree who call ≡ None
  pub mounted : is_offline s k who call ≡ true → is_mounted s (reel_of s k who call) ≡ true
  pub until : ℕ
  pub room : need s k who call ≤ room_until s k who call until

-- The answer is the plain one, unless memory ran out or the copy is lost.
abbrev pub IsAnswered : Tree → List ℕ → StoreCall → Result StoreReply StoreFault → Type 0
IsAnswered tree who call (Err NoMemory) = Unit {0}
IsAnswered tree who call (Err (NoCopy full serial)) = Unit {0}
IsAnswered tree who call answer = answer ≡ plain_answer tree who call

-- If nothing failed and the call can be done, its answer is the plain one, unless memory ran out or a copy is lost.
pub record CallsAreComplete : Type 0 where
  -- for devices that expose their contents and belong together
  pub told : (old new : StoreFacts) (who : List ℕ) (call : StoreCall) (answer : Result StoreReply StoreFault) (s : State) (k : Holding) → Told old → Belongs old → StandsForState old s
      → s.holding ≡ Some k → Answers old who call answer new → NothingFailed old new → MayBeDone s k who call
      → (answer ≡ plain_answer k.tree who call) ⊎ (answer ≡ Err NoMemory)
  -- for any devices, about the state that the call met
  pub met : (old new : StoreFacts) (who : List ℕ) (call : StoreCall) (answer : Result StoreReply StoreFault) (s : State) → (Told old → Belongs old) → StandsForState old s
      → Answers old who call answer new → NothingFailed old new
      → (before : State) × MetIn old s before × ((k : Holding) → before.holding ≡ Some k → MayBeDone before k who call → IsAnswered k.tree who call answer)
