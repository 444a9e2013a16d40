-- How a slot encodes a directory, and which directory a disc holds.
use Rattle.std.specs.Prelude.{◌≡◌, ℕ, ◌-◌, ◌<◌, ◌==◌, List, find, length, replicate, Option, Some, None, slice_get, nat_lt, option_map, if◌then◌else◌}
use Rattle.g_entry.specs.declared.format.Format.{Format}
use Rattle.g_entry.specs.declared.user_rec.UserRec.{UserRec}
use Rattle.g_entry.specs.FileFields.{file_block}
use Rattle.g_entry.specs.HeadFields.{head_block}
use Rattle.g_entry.specs.UserFields.{user_block}
use Rattle.g_slots.specs.Layout.{current}
use Rattle.g_dirs.specs.Directory.{AreRecords, Directory, FileEntry, IsDirectory}

-- the file of a number
abbrev pub entry_at : List FileEntry → ℕ → Option FileEntry
entry_at files number = find (λ f. f.0.number == number) files

-- the block of a user number; zeros if the number is unused
unfoldable pub user_or_empty : Format → Option UserRec → List ℕ
user_or_empty format None = replicate 512 0
user_or_empty format (Some user) = user_block format 0 user

-- the block of a file number; zeros if the number is unused
unfoldable pub file_or_empty : Format → Option FileEntry → List ℕ
file_or_empty format None = replicate 512 0
file_or_empty format (Some (rec, copy)) = file_block format rec (option_map (λ c. c.blocks) copy)

-- block k of the slot: the head, then users 0 to 62, then files 0 to 1,023
unfoldable pub block_of : Format → Directory → ℕ → List ℕ
block_of format d k =
    if k == 0 then head_block format d.head
    else (if nat_lt k 64 then user_or_empty format (slice_get d.users (k - 1)) else file_or_empty format (entry_at d.files (k - 64)))

-- a slot's blocks are those of the directory
pub record IsImage (format : Format) (d : Directory) (blocks : List (List ℕ)) : Type 0 where
  pub block : (k : ℕ) → k < 1088 → slice_get blocks k ≡ Some (block_of format d k)

-- THE DISC HOLDS DIRECTORY d: the slot that the gate names is, block by block, that of d, and d satisfies the rules
pub record StandsFor (blocks : List (List ℕ)) (d : Directory) : Type 0 where
  pub format : Format
  pub image : IsImage format d (current blocks)
  pub records : AreRecords format d
  pub rules : IsDirectory (length blocks) d
