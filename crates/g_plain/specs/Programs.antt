-- Programs that call a store: each call depends on the answers to the earlier ones.
use Rattle.std.specs.Prelude.{◌≡◌, ℕ, Bool, true, false, List, Result, Ok, Err, if◌then◌else◌, ◌⊎◌}
use Rattle.g_plain.specs.declared.calls.StoreCall.{StoreCall}
use Rattle.g_plain.specs.declared.calls.StoreReply.{StoreReply}
use Rattle.g_plain.specs.declared.faults.StoreFault.{StoreFault}
use Rattle.g_plain.specs.declared.faults.StoreFault.TheVariants.{NoMemory}

-- The answer of a store to a call.
abbrev pub Answer : Type 0
Answer = Result StoreReply StoreFault

-- The fault is that memory ran out.
abbrev pub is_memory : StoreFault → Bool
is_memory NoMemory = true
is_memory fault = false

-- A program continues after this answer: any but out of memory.
abbrev pub IsAnswer : Answer → Type 0
IsAnswer (Ok reply) = Unit {0}
IsAnswer (Err fault) = is_memory fault ≡ false

-- A program is done and returns a value, or it makes a call and continues depending on the answer.
pub data Asks (A : Type 0) : Type 0 where
  Gives : A → Asks A
  Call : StoreCall → (Answer → Asks A) → Asks A

module _ {S A : Type 0} (answers : S → List ℕ → StoreCall → Answer → S → Type 0) (who : List ℕ) where
  -- Exactly the program's calls were made in their order, each answered by the relation, and the program returned this
  -- value.
  abbrev pub Ran : S → Asks A → A → S → Type 0
  Ran old (Gives x) given new = (given ≡ x) × (new ≡ old)
  Ran old (Call call more) given new =
      (answer : Answer) × (mid : S) × answers old who call answer mid × IsAnswer answer × Ran mid (more answer) given new

  -- The same for a prefix of the program's calls. In the last of them memory may have run out.
  abbrev pub RanInPart : S → Asks A → S → Type 0
  RanInPart old (Gives x) new = new ≡ old
  RanInPart old (Call call more) new =
      (new ≡ old)
      ⊎ (answers old who call (Err NoMemory) new
      ⊎ ((answer : Answer) × (mid : S) × answers old who call answer mid × IsAnswer answer × RanInPart mid (more answer) new))

-- A program followed by another, unless the value of the first says that it is over.
abbrev pub and_then : {W : Type 0} → (W → Bool) → Asks W → (W → Asks W) → Asks W
and_then is_over (Gives w) next = if is_over w then Gives w else next w
and_then is_over (Call call more) next = Call call (λ answer. and_then is_over (more answer) next)
