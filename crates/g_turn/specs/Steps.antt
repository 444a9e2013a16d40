-- What every store guarantees for a call, and programs that were run on a store.
use Rattle.std.specs.Prelude.{Bool, Err, List, OnErr, OnOk, Result, false, true, ℕ, ◌+◌, ◌↔◌, ◌≡◌, ◌≤◌}
use Rattle.g_base.specs.declared.memory.NoMemory.{NoMemory}
use Rattle.g_turn.specs.Bounds.{MayAnswer}
use Rattle.g_turn.specs.Outcomes.{is_over}
use Rattle.g_turn.specs.State.{Work}
use Rattle.g_plain.specs.Programs.{Answer, Asks, Call, Gives, RanInPart}
use Rattle.g_plain.specs.declared.calls.StoreCall.{StoreCall}
use Rattle.g_plain.specs.declared.faults.StoreFault.TheVariants as fault

module _ {S : Type 0} (answers : S → List ℕ → StoreCall → Answer → S → Type 0) (is_spent : S → Bool) (can_wait : S → ℕ → Bool) (who : List ℕ) where
  -- An answer that any store may give: it satisfies the store's relation; a wait is for a reel that isn't mounted, and no call mounts one; a stop,
  -- and nothing else, spends the store.
  pub record IsStep (old : S) (asked : StoreCall) (answer : Answer) (new : S) : Type 0 where
    pub is : answers old who asked answer new
    pub may : MayAnswer asked answer
    pub waits : (serial : ℕ) → answer ≡ Err (fault.WaitTape serial) → can_wait new serial ≡ true
    pub same : (serial : ℕ) → can_wait new serial ≡ can_wait old serial
    pub spent : (is_spent new ≡ true) ↔ (answer ≡ Err fault.Stopped)

  -- Exactly the program's calls were made, in order, each with such an answer, and the program returned this work.
  abbrev pub RanWell : S → Asks Work → Work → S → Type 0
  RanWell old (Gives w) given new = (given ≡ w) × (new ≡ old)
  RanWell old (Call asked more) given new = (answer : Answer) × (mid : S) × IsStep old asked answer mid × RanWell mid (more answer) given new

  -- THE OUTCOME OF A PART OF A TURN that makes these calls and transfers at most this many blocks. On success all its calls were made, and the store
  -- isn't spent unless the work is over. Out of memory: a prefix of the calls was made, and the work is unspecified. In either case a call may wait
  -- for the same reels as before.
  pub record HasRun (asked : Asks Work) (most : ℕ) (old : S) (w : Work) (result : Result (Unit {0}) NoMemory) (given : Work) (new : S) : Type 0 where
    pub ok : OnOk result (RanWell old asked given new)
    pub err : OnErr result (RanInPart answers who old asked new)
    pub live : OnOk result (is_over given ≡ false → is_spent new ≡ false)
    pub same_waits : (serial : ℕ) → can_wait new serial ≡ can_wait old serial
    pub blocks : OnOk result (given.blocks ≤ w.blocks + most)
