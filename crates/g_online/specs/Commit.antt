-- One commit of a directory.
use Rattle.std.specs.Prelude.{◌≡◌, ◌⊎◌, ℕ, ◌+◌, ◌<◌, true}
use Rattle.std.specs.Option.{ForSome}
use Rattle.g_base.specs.ToldContent.{Changes}
use Rattle.g_disc.specs.Disc.{DiscState, is_durable, is_syncable}
use Rattle.g_disc.specs.Durable.{AreDurable, PowerLossLeaves}
use Rattle.g_entry.specs.declared.format.Format.TheVariants.{Two}
use Rattle.g_slots.specs.declared.side.Side.{Side}
use Rattle.g_slots.specs.Layout.{GateNames, other}
use Rattle.g_dirs.specs.Commit.{NewDirectory, OldOrNew}
use Rattle.g_dirs.specs.Directory.{AreRecords, Directory, IsDirectory}
use Rattle.g_dirs.specs.Durable.{AreRememberedSyncable, IsDiscSafe, IsLive, IsOfFile, LeavesOldOrNew}
use Rattle.g_dirs.specs.Pages.{Covers, Remembered, RemembersAll, Remembers, pages_of, unwritten}
use Rattle.g_online.specs.Invariant.{IsStored}

-- The directory may be committed: it satisfies its rules, remembered blocks are right, and each block that may differ is
-- marked.
pub record IsMarked (disc : DiscState) (side : Side) (pages : Remembered) (d : Directory) : Type 0 where
  pub size : 2177 < disc.size
  pub gate : GateNames side disc.held
  pub remembers : ForSome disc.held (Remembers pages)
  pub covers : (s : Side) → Covers d s pages
  pub records : AreRecords Two d
  pub rules : IsDirectory disc.size d

-- The number of blocks that a commit writes, the gate included.
abbrev pub commit_blocks : Directory → Side → Remembered → ℕ
commit_blocks d side pages = unwritten d (pages_of (other side) pages) 1088 + 1

-- each block of the directory's files is durable or syncable
abbrev pub AreSaved : Directory → DiscState → Type 0
AreSaved d disc = (k : ℕ) → IsOfFile d k → (is_durable disc k ≡ true) ⊎ (is_syncable disc k ≡ true)

-- The directory was committed: the disc represents it, the other slot is now current, and that slot is remembered
-- completely, and it is durable if its files were saved.
pub record HasCommitted (d : Directory) (before after : DiscState) (side next : Side) (old new : Remembered) : Type 0 where
  pub content : Changes (NewDirectory d) before.held after.held
  pub stored : IsStored after next new d
  pub turned : next ≡ other side
  pub here : RemembersAll d (pages_of next new)
  pub there : pages_of side new ≡ pages_of side old
  pub remembered : AreRememberedSyncable old before → AreRememberedSyncable new after
  pub durable : AreRememberedSyncable old before → AreSaved d before → AreDurable (IsLive next d) after

-- A write of it failed. If its files were saved and the disc was safe, the disc is safe, and a power loss leaves the old directory or the new one.
pub record CommitStopped (d : Directory) (before after : DiscState) (old : Remembered) : Type 0 where
  pub content : Changes (OldOrNew d) before.held after.held
  pub safe : AreRememberedSyncable old before → AreSaved d before → is_durable before 0 ≡ true → IsDiscSafe before
      → IsDiscSafe after × PowerLossLeaves (LeavesOldOrNew d) before after
