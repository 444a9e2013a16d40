-- What a power loss may leave of a disc, and which blocks survive it.
use Rattle.std.specs.Prelude.{◌≡◌, ℕ, [], true, List, All, Some, Result, OnOk, length, slice_get}
use Rattle.std.specs.Option.{ForSome}
use Rattle.g_base.specs.Block.{IsBlock}
use Rattle.g_disc.specs.Disc.{DiscState, StaySyncable, is_durable, is_syncable}

-- WHAT A POWER LOSS MAY LEAVE at this moment: the durable blocks as reads see them, and any bytes in every other block
pub record MayLeave (d : DiscState) (left : List (List ℕ)) : Type 0 where
  pub size : length left ≡ d.size
  pub whole : All IsBlock left
  pub durable : (k : ℕ) → is_durable d k ≡ true → ForSome d.held (λ blocks. slice_get left k ≡ slice_get blocks k)

-- a disc whose blocks are all durable is left unchanged
abbrev pub AllDurableIsUnchanged : Type 0
AllDurableIsUnchanged = (d : DiscState) (blocks left : List (List ℕ)) → length blocks ≡ d.size → d.held ≡ Some blocks → d.volatile ≡ [] → MayLeave d left → left ≡ blocks

-- if the blocks are observable: every content that a power loss after a call may leave is in relation R to the content before the call
abbrev pub PowerLossLeaves : (List (List ℕ) → List (List ℕ) → Type 0) → DiscState → DiscState → Type 0
PowerLossLeaves R before after = ForSome before.held (λ blocks. (left : List (List ℕ)) → MayLeave after left → R blocks left)

-- all blocks of a set are durable
abbrev pub AreDurable : (ℕ → Type 0) → DiscState → Type 0
AreDurable blocks d = (k : ℕ) → blocks k → is_durable d k ≡ true

-- all blocks of a set are syncable
abbrev pub AreSyncable : (ℕ → Type 0) → DiscState → Type 0
AreSyncable blocks d = (k : ℕ) → blocks k → is_syncable d k ≡ true

-- A call that writes only blocks of a set, and not the gate. All other blocks stay durable, even if it fails. If it is Ok, every block
-- of the set is syncable, and so is every block that was.
pub record DirtiesOnly {T E : Type 0} (blocks : ℕ → Type 0) (before after : DiscState) (result : Result T E) : Type 0 where
  pub durable : (k : ℕ) → (blocks k → ⊥) → is_durable before k ≡ true → is_durable after k ≡ true
  pub syncable : OnOk result (StaySyncable before after)
  pub here : OnOk result (AreSyncable blocks after)
