-- New bytes: where they find room, and what is done before they are written.
use Rattle.std.specs.Prelude.{◌≡◌, ℕ, ◌+◌, Bool, false, true, List, Contains, Option, Some, None, Result, Ok, Err, OnOk, OnErr, if◌then◌else◌}
use Rattle.std.specs.Option.{ForSome}
use Rattle.g_base.specs.Block.{blocks_for}
use Rattle.g_base.specs.ToldContent.{Changes}
use Rattle.g_blocks.specs.Pool.{AreLeastFree, HasGiven, HasTaken}
use Rattle.g_copy.specs.declared.copy.DiscCopy.{DiscCopy}
use Rattle.g_copy.specs.Copy.{Holds as Copied, OnlyAt}
use Rattle.g_disc.specs.Disc.{DiscState, WritesOnly, is_durable}
use Rattle.g_disc.specs.Durable.{DirtiesOnly}
use Rattle.g_entry.specs.declared.file_rec.FileRec.{FileRec}
use Rattle.g_entry.specs.declared.head.Head.{Head}
use Rattle.g_entry.specs.declared.user_rec.UserRec.{UserRec}
use Rattle.g_slots.specs.declared.side.Side.{Side}
use Rattle.g_dirs.specs.Directory.{Directory, directory_of}
use Rattle.g_dirs.specs.Pages.{KeepsPages, Remembered}
use Rattle.g_tree.specs.State.{with_file}
use Rattle.g_disc_contents.specs.Contents.{with_number}
use Rattle.g_online.specs.declared.change.Change.{Change}
use Rattle.g_online.specs.declared.change.Change.TheVariants.{Bring, PutFile}
use Rattle.g_online.specs.declared.fault.OnlineFault.{OnlineFault}
use Rattle.g_online.specs.declared.fault.OnlineFault.TheVariants.{Stopped}
use Rattle.g_online.specs.declared.pinned.Pinned.{Pinned}
use Rattle.g_online.specs.Commit.{CommitStopped, HasCommitted, IsMarked, commit_blocks}
use Rattle.g_online.specs.Copies.{without_copies}
use Rattle.g_online.specs.Invariant.{AreWhole, head_after, is_pinned}

-- A change with new bytes: those of a new version, or those of the file of this number, whose bytes are only on tape.
abbrev pub with_bytes : Option FileRec → ℕ → List ℕ → List ℕ → Change
with_bytes (Some rec) number bytes unjam = PutFile rec bytes unjam
with_bytes None number bytes unjam = Bring number bytes unjam

-- What the record of a new version, if there is one, changes: the head, the records, and the users who are changed or
-- touched.
abbrev pub stamped : Option FileRec → Head → Head
stamped (Some rec) head = record head { next_stamp = head.next_stamp + 1 }
stamped None head = head

-- The records with that of the new version, if there is one.
abbrev pub recs_with : Option FileRec → List FileRec → List FileRec
recs_with (Some rec) files = with_file rec files
recs_with None files = files

-- The user numbers with the owner of the new version, if there is one.
abbrev pub users_with : Option FileRec → List ℕ → List ℕ
users_with (Some rec) numbers = with_number rec.owner numbers
users_with None numbers = numbers

-- The user numbers with the owner of the new version, if there is one and versions are pinned.
abbrev pub noted_for : Bool → Option FileRec → List ℕ → List ℕ
noted_for pinned (Some rec) numbers = if pinned then with_number rec.owner numbers else numbers
noted_for pinned None numbers = numbers

-- Whether the file exists and its version is pinned.
abbrev pub is_pinned_at : Option (List Pinned) → Option FileRec → Bool
is_pinned_at pins None = false
is_pinned_at pins (Some r) = is_pinned pins r.stamp

-- The given blocks were returned to the pool, and then the lowest-numbered free blocks were taken for this many bytes.
pub record TakesBeside (given : List ℕ) (bytes : ℕ) (old new : List Bool) (copy : DiscCopy) : Type 0 where
  pub between : List Bool
  pub gives : HasGiven given old between
  pub least : AreLeastFree between (blocks_for bytes) copy.blocks
  pub takes : HasTaken copy.blocks between new
  pub len : copy.len ≡ bytes

-- What a commit that takes files off the disc works on.
pub record Parts : Type 0 where
  pub side : Side
  pub pages : Remembered
  pub head : Head
  pub online : List (ℕ × DiscCopy)
  pub live : Bool

-- The directory of these users and files with the head and the copies of the parts.
abbrev pub directory_with : List UserRec → List FileRec → Parts → Directory
directory_with users files p = directory_of p.head users files p.online

-- Nothing was done.
pub record IsUntouched (before after : DiscState) (old new : Parts) (result : Result (Unit {0}) OnlineFault) : Type 0 where
  pub done : result ≡ Ok tt
  pub disc : after ≡ before
  pub parts : new ≡ old

-- These files were taken off the disc by one commit, or the commit was stopped at one of its writes.
pub record TakesFilesOff (numbers : List ℕ) (pinned : Bool) (users : List UserRec) (files : List FileRec) (before after : DiscState) (old new : Parts) (result : Result (Unit {0}) OnlineFault) : Type 0 where
  pub head : new.head ≡ head_after pinned old.head
  pub online : new.online ≡ without_copies numbers old.online
  -- what is remembered once the changes are marked
  pub mid : Remembered
  pub pages : KeepsPages old.pages mid
  pub marked : IsMarked before old.side mid (directory_with users files new)
  pub ok : OnOk result (HasCommitted (directory_with users files new) before after old.side new.side mid new.pages)
  pub stopped : OnErr result (CommitStopped (directory_with users files new) before after mid)
  pub counts : WritesOnly (commit_blocks (directory_with users files new) old.side mid) before after result
  pub whole : ForSome after.held (AreWhole after.size)
  pub lives : OnOk result (new.live ≡ old.live)
  pub dies : OnErr result (new.live ≡ false)
  pub only : OnErr result (result ≡ Err Stopped)

-- the bytes were written into the blocks of their copy
pub record WroteBytes (places bytes : List ℕ) (before after : DiscState) : Type 0 where
  pub content : Changes (Copied places bytes) before.held after.held
  pub dirties : DirtiesOnly {T = Unit {0}} {E = OnlineFault} (Contains places) before after (Ok tt)

-- a write of them failed
pub record WritingStopped (places : List ℕ) (before after : DiscState) : Type 0 where
  pub content : Changes (OnlyAt places) before.held after.held
  pub durable : (k : ℕ) → (Contains places k → ⊥) → is_durable before k ≡ true → is_durable after k ≡ true
