-- The steps of a commit through the blocks of a slot.
use Rattle.std.specs.Prelude.{◌≡◌, true, ℕ, ◌<◌, ◌≤◌, List, All, OnOk, Result, Some, slice_get}
use Rattle.g_base.specs.Counts.{RoseBy}
use Rattle.g_base.specs.ToldContent.{Changes}
use Rattle.g_copy.specs.declared.copy.DiscCopy.{DiscCopy}
use Rattle.g_disc.specs.Disc.{DiscState, StaySyncable, is_durable}
use Rattle.g_entry.specs.declared.file_rec.FileRec.{FileRec}
use Rattle.g_entry.specs.declared.format.Format.TheVariants.{Two}
use Rattle.g_entry.specs.FileFields.{IsFile}
use Rattle.g_entry.specs.Formats.{is_place}
use Rattle.g_entry.specs.Rules.{AreNumbered}
use Rattle.g_slots.specs.declared.side.Side.{Side}
use Rattle.g_slots.specs.Commit.{KeepsCurrent}
use Rattle.g_slots.specs.Layout.{IsInSlot, other, slot}
use Rattle.g_dirs.specs.Directory.{AreRecords, Directory, LiesSomewhere, all_places, entries_of, recs}
use Rattle.g_dirs.specs.Durable.{AreRememberedSyncable}
use Rattle.g_dirs.specs.Image.{block_of}
use Rattle.g_dirs.specs.Pages.{Remembered, pages_of, unwritten}

-- the first n blocks of the slot opposite `side` are the directory's, and nothing else has changed
pub record HoldsFirst (side : Side) (d : Directory) (n : ℕ) (before after : List (List ℕ)) : Type 0 where
  pub kept : KeepsCurrent side before after
  pub here : (k : ℕ) → k < n → slice_get (slot (other side) after) k ≡ Some (block_of Two d k)
  pub rest : (k : ℕ) → n ≤ k → slice_get (slot (other side) after) k ≡ slice_get (slot (other side) before) k

-- the first n blocks are remembered as the directory's, and the others are unchanged
pub record RemembersFirst (side : Side) (d : Directory) (n : ℕ) (old new : Remembered) : Type 0 where
  pub here : (k : ℕ) → k < n → slice_get (pages_of (other side) new) k ≡ Some (Some (block_of Two d k))
  pub rest : (k : ℕ) → n ≤ k → slice_get (pages_of (other side) new) k ≡ slice_get (pages_of (other side) old) k
  pub kept : pages_of side new ≡ pages_of side old

-- those of the first n blocks that weren't remembered as the directory's were written
pub record WroteFirst (side : Side) (d : Directory) (n : ℕ) (before after : DiscState) (old new : Remembered) : Type 0 where
  pub content : Changes (HoldsFirst side d n) before.held after.held
  pub pages : RemembersFirst side d n old new
  pub writes : RoseBy (unwritten d (pages_of (other side) old) n) before.writes after.writes
  pub later : before.writes ≤ after.writes
  pub size : after.size ≡ before.size
  pub read_faults : after.read_faults ≡ before.read_faults
  pub write_faults : after.write_faults ≡ before.write_faults
  pub arms : after.arms ≡ before.arms

-- Blocks of the slot opposite `side` were written and remembered. All others stay durable, even if a write failed; if none did, the blocks that
-- were syncable still are, and so is each remembered block.
pub record DirtiesSlot {T E : Type 0} (side : Side) (before after : DiscState) (old new : Remembered) (result : Result T E) : Type 0 where
  pub durable : (j : ℕ) → (IsInSlot (other side) j → ⊥) → is_durable before j ≡ true → is_durable after j ≡ true
  pub syncable : OnOk result (StaySyncable before after)
  pub remembered : AreRememberedSyncable old before → OnOk result (AreRememberedSyncable new after)

-- the records of files can be encoded in the second format
pub record AreEncodable (files : List FileRec) (online : List (ℕ × DiscCopy)) : Type 0 where
  pub limits : All IsFile files
  pub numbered : AreNumbered files
  pub lies : All LiesSomewhere (entries_of files online)
  pub places : All (λ place. is_place Two place ≡ true) (all_places (entries_of files online))

-- a directory whose records can be encoded in the second format
pub record IsEncodable (d : Directory) : Type 0 where
  pub records : AreRecords Two d
  pub numbered : AreNumbered (recs d.files)
  pub lies : All LiesSomewhere d.files

abbrev pub number_of_file : FileRec → ℕ
number_of_file r = r.number
