-- Which blocks of a disc a directory needs, and what a power loss leaves of it.
use Rattle.std.specs.Prelude.{◌≡◌, ◌⊎◌, ℕ, ◌+◌, ◌<◌, true, List, Contains, OnErr, OnOk, Result, Some, length, slice_get, slice_set}
use Rattle.std.specs.Option.{ForSome}
use Rattle.g_disc.specs.Disc.{DiscState, StayDurable, Writes, is_durable, is_syncable}
use Rattle.g_disc.specs.Durable.{AreDurable, MayLeave, PowerLossLeaves}
use Rattle.g_slots.specs.declared.side.Side.{Side}
use Rattle.g_slots.specs.Layout.{IsInSlot, current, gate_block, gate_side, start_of}
use Rattle.g_dirs.specs.Directory.{Directory, all_places}
use Rattle.g_dirs.specs.Image.{StandsFor}
use Rattle.g_dirs.specs.Pages.{Remembered, pages_of}

-- each remembered block is syncable
abbrev pub AreRememberedSyncable : Remembered → DiscState → Type 0
AreRememberedSyncable pages d = (side : Side) (k : ℕ) (page : List ℕ) → slice_get (pages_of side pages) k ≡ Some (Some page) → is_syncable d (start_of side + k) ≡ true

-- block k is one of a file's
abbrev pub IsOfFile : Directory → ℕ → Type 0
IsOfFile d k = Contains (all_places d.files) k

-- block k is live: the gate, a block of the current slot, or one of a file's
abbrev pub IsLive : Side → Directory → ℕ → Type 0
IsLive side d k = (k ≡ 0) ⊎ (IsInSlot side k ⊎ IsOfFile d k)

-- a slot is durable, and so are the blocks of the files of the directory in it, if it holds one
pub record IsSlotSafe (side : Side) (blocks : List (List ℕ)) (d : DiscState) : Type 0 where
  pub slot : AreDurable (IsInSlot side) d
  pub files : (e : Directory) → StandsFor (slice_set blocks 0 (gate_block side)) e → AreDurable (IsOfFile e) d

-- THE DISC IS SAFE, if its blocks are observable: so is each slot that the gate may name after a power loss
abbrev pub IsDiscSafe : DiscState → Type 0
IsDiscSafe d = ForSome d.held (λ blocks. (side : Side) → (is_durable d 0 ≡ true → gate_side blocks ≡ side) → IsSlotSafe side blocks d)

-- the blocks of a directory's files are unchanged
abbrev pub KeepsFiles : Directory → List (List ℕ) → List (List ℕ) → Type 0
KeepsFiles d before left = (k : ℕ) → IsOfFile d k → slice_get left k ≡ slice_get before k

-- The current slot is unchanged, with the files of the directory in it, if it holds one; or the disc holds the new directory with its files.
pub record LeavesOldOrNew (d : Directory) (before left : List (List ℕ)) : Type 0 where
  pub size : length left ≡ length before
  pub whole : ((current left ≡ current before) × ((e : Directory) → StandsFor before e → KeepsFiles e before left)) ⊎ (StandsFor left d × KeepsFiles d before left)

-- A COMMIT of directory d, whose files were syncable before it. If it is Ok, d is durable with its files, in the slot that is current then. If
-- it failed, and the disc was safe before it, the disc is safe, and a power loss leaves the old directory or the new one.
pub record CommitsDurably {T E : Type 0} (d : Directory) (side : Side) (before after : DiscState) (result : Result T E) : Type 0 where
  pub durable : OnOk result (AreDurable (IsLive side d) after)
  pub safe : is_durable before 0 ≡ true → IsDiscSafe before → OnErr result (IsDiscSafe after)
  pub survives : is_durable before 0 ≡ true → IsDiscSafe before → OnErr result (PowerLossLeaves (LeavesOldOrNew d) before after)

-- A DIRECTORY WHOSE BLOCKS ARE DURABLE SURVIVES a power loss, with its files
abbrev pub DirectorySurvives : Type 0
DirectorySurvives = (side : Side) (d : Directory) (x : DiscState) (blocks left : List (List ℕ)) → length blocks ≡ x.size → x.held ≡ Some blocks → gate_side blocks ≡ side
    → AreDurable (IsLive side d) x → StandsFor blocks d → MayLeave x left → StandsFor left d × KeepsFiles d blocks left

-- a write of a block that isn't live leaves the live blocks durable, even if it fails
abbrev pub QuietWritesStayDurable : Type 0
QuietWritesStayDurable = (side : Side) (d : Directory) (k : ℕ) (from : List ℕ) (x y : DiscState) (result : Result (Unit {0}) (Unit {0})) → (IsLive side d k → ⊥)
    → AreDurable (IsLive side d) x → Writes k from x y result → AreDurable (IsLive side d) y

-- a disc whose live blocks are durable is safe, and the live blocks of a safe disc whose gate is durable are durable
abbrev pub LiveIsSafe : Type 0
LiveIsSafe = (side : Side) (d : Directory) (x : DiscState) (blocks : List (List ℕ)) → x.held ≡ Some blocks → length blocks ≡ x.size → 2177 < x.size → gate_side blocks ≡ side → StandsFor blocks d
    → (AreDurable (IsLive side d) x → IsDiscSafe x) × (IsDiscSafe x → is_durable x 0 ≡ true → AreDurable (IsLive side d) x)

-- a safe disc stays safe while its blocks don't change and durable ones stay durable
abbrev pub SafeStays : Type 0
SafeStays = (x y : DiscState) → y.held ≡ x.held → StayDurable x y → IsDiscSafe x → IsDiscSafe y
