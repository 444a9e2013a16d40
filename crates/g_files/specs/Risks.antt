-- What a power loss may leave of a file of blocks, and what calls do to that.
use Rattle.std.specs.Prelude.{◌≡◌, ◌⊎◌, ℕ, ◌+◌, ◌*◌, ◌≤◌, List, length, min, take, OnErr, OnOk, Result}
use Rattle.std.specs.Option.{ForSome}
use Rattle.g_files.specs.Bytes.{blocks_of}
use Rattle.g_files.specs.BlockFile.{content_of, len_of}
use Rattle.g_files.specs.Durability.{Durability}
use Rattle.g_files.specs.Growth.{IsOrderly}
use Rattle.g_files.specs.Sectors.{LeavesResized, LeavesSectors}
use Rattle.g_files.specs.declared.block_file.BlockFile.{BlockFile}
use Rattle.g_files.specs.declared.raw.RawFile.{Ghosts}
use Rattle.g_files.specs.declared.reach.Reach.{Reach}

-- what survives of its file
abbrev pub durability_of : {F : Type 0} {g : Ghosts F} → BlockFile F g → Durability
durability_of {g = g} f = g.durability f.file

-- how many blocks, from block 0 on, `secure` needn't rewrite
abbrev pub durable_of : {F : Type 0} {g : Ghosts F} → BlockFile F g → ℕ
durable_of f = f.durable

-- how far its blocks are known to have come
abbrev pub reach_of : {F : Type 0} {g : Ghosts F} → BlockFile F g → Reach
reach_of f = f.reach

-- A power loss may leave these sectors of it, or these cut where its last block ends, since the next call may cut the file there.
abbrev pub MayLeaveBlocks : {F : Type 0} {g : Ghosts F} → BlockFile F g → List (List ℕ) → Type 0
MayLeaveBlocks f left = LeavesSectors (durability_of f).remnants left ⊎ LeavesResized (512 * len_of f) (durability_of f).remnants left

-- a power loss may leave nothing that it couldn't leave before
abbrev pub LeavesNoMoreBlocks : {F : Type 0} {g : Ghosts F} → BlockFile F g → BlockFile F g → Type 0
LeavesNoMoreBlocks old new = (left : List (List ℕ)) → MayLeaveBlocks new left → MayLeaveBlocks old left

-- its first n blocks survive a power loss, if they are observable
abbrev pub Keeps : {F : Type 0} {g : Ghosts F} → ℕ → BlockFile F g → Type 0
Keeps n f = ForSome (content_of f) (λ bytes. (left : List (List ℕ)) → LeavesSectors (durability_of f).remnants left
    → take n left ≡ take n (blocks_of (len_of f) bytes))

-- all of its blocks survive, and nothing follows them
abbrev pub IsStored : {F : Type 0} {g : Ghosts F} → BlockFile F g → Type 0
IsStored f = ForSome (content_of f) (λ bytes. (left : List (List ℕ)) → LeavesSectors (durability_of f).remnants left → left ≡ blocks_of (len_of f) bytes)

-- A call made the file durable, if the blocks were durable that it needn't rewrite; or the call failed. In either case a power loss may leave
-- nothing that it couldn't leave before.
pub record Secures {F : Type 0} {g : Ghosts F} {T E : Type 0} (old new : BlockFile F g) (result : Result T E) : Type 0 where
  pub no_more : LeavesNoMoreBlocks old new
  pub stored : Keeps (durable_of old) old → OnOk result (IsStored new)
  pub all : OnOk result (durable_of new ≡ len_of new)
  pub same : OnErr result (durable_of new ≡ durable_of old)
  pub orderly : OnOk result (IsOrderly (reach_of new))
  pub disorderly : OnErr result (IsOrderly (reach_of new) → ⊥)

-- What a power loss may leave after a write of block k was begun: nothing after that block, and these blocks before it, if they were
-- made durable (`able`).
pub record IsBegun (k : ℕ) (able : Type 0) (blocks left : List (List ℕ)) : Type 0 where
  pub short : length left ≤ k + 1
  pub front : able → take k left ≡ take k blocks

-- a power loss may leave what it could leave before, or what was begun
abbrev pub LeavesBegun : {F : Type 0} {g : Ghosts F} → ℕ → Type 0 → BlockFile F g → BlockFile F g → Type 0
LeavesBegun k able old new = ForSome (content_of old) (λ bytes. (left : List (List ℕ)) → MayLeaveBlocks new left
    → MayLeaveBlocks old left ⊎ IsBegun k able (blocks_of (len_of old) bytes) left)

-- of the blocks before block k, those are durable that `secure` needn't rewrite
abbrev pub KeepsTo : {F : Type 0} {g : Ghosts F} → ℕ → BlockFile F g → Type 0
KeepsTo k f = Keeps (min (durable_of f) k) f

-- durable blocks before block k stay durable
abbrev pub StayKept : {F : Type 0} {g : Ghosts F} → ℕ → BlockFile F g → BlockFile F g → Type 0
StayKept k old new = (n : ℕ) → n ≤ k → Keeps n old → Keeps n new
