-- What memory has of the versions of a dump.
use Rattle.std.specs.Prelude.{◌≡◌, ℕ, zero, suc, ◌+◌, ◌==◌, ◌&&◌, nat_lt, Bool, false, List, [], ◌∷◌, ◌++◌, map, filter, All, Option, Some, None, is_none, slice_get, if◌then◌else◌}
use Rattle.std.specs.List.{flat_map, list_any}
use Rattle.g_base.specs.Block.{blocks_for}
use Rattle.g_copy.specs.declared.copy.DiscCopy.{DiscCopy}
use Rattle.g_entry.specs.declared.file_rec.FileRec.{FileRec}
use Rattle.g_entry.specs.declared.file_rec.TapeCopy.{TapeCopy}
use Rattle.g_slots.specs.declared.side.Side.{Side}
use Rattle.g_dirs.specs.Directory.{copy_at}
use Rattle.g_dirs.specs.Pages.{KeepsPages, Remembered, marks_of}
use Rattle.g_disc_contents.specs.Contents.{copy_of}
use Rattle.g_online.specs.declared.pinned.Pinned.{Pinned}
use Rattle.g_online.specs.Invariant.{copy_places}

-- The pinned versions, or none.
abbrev pub pinned_in : Option (List Pinned) → List Pinned
pinned_in None = []
pinned_in (Some pins) = pins

-- The block number of block `part` of a version.
abbrev pub place_in : Option Pinned → ℕ → Option ℕ
place_in None part = None
place_in (Some p) part = slice_get p.blocks part

-- The blocks that become free when pins are removed: those of pinned versions that no file has any more.
abbrev pub is_stamp_current : List FileRec → ℕ → Bool
is_stamp_current files stamp = list_any (λ r. r.stamp == stamp) files

-- The blocks of a pinned version, or none if some file has that version.
abbrev pub lost_of : List FileRec → Pinned → List ℕ
lost_of files p = if is_stamp_current files p.stamp then [] else p.blocks

-- The blocks of all pinned versions that no file has any more.
abbrev pub lost_places : List FileRec → List Pinned → List ℕ
lost_places files pins = flat_map (lost_of files) pins

-- A record with the stamp of the version has its number.
abbrev pub HasItsNumber : Pinned → FileRec → Type 0
HasItsNumber p r = r.stamp ≡ p.stamp → r.number ≡ p.number

-- The places on tape that are noted for pinned versions, by stamp.
abbrev pub noted_in : List Pinned → List (ℕ × TapeCopy)
noted_in pins = map (λ p. (p.stamp, p.copy)) pins

-- The record, with the copy noted for its version if it has this number.
abbrev pub noted_at : List (ℕ × TapeCopy) → ℕ → FileRec → FileRec
noted_at copies number r = record r { tape = if r.number == number then copy_of copies r.stamp r.tape else r.tape }

-- What is remembered is unchanged. A block that has no mark now had none before, and it isn't that of a record changed by
-- `made`. Therefore the changed records are marked in both slots.
pub record MarksMade (made : FileRec → FileRec) (files : List FileRec) (old new : Remembered) : Type 0 where
  pub pages : KeepsPages old new
  pub free : (side : Side) (k : ℕ) → slice_get (marks_of side new) k ≡ Some false → (slice_get (marks_of side old) k ≡ Some false) × All (λ r. k ≡ 64 + r.number → made r ≡ r) files

-- The versions that wait to be dumped, by owner and then by number.
abbrev pub is_waiting : FileRec → Bool
is_waiting r = nat_lt 0 r.len && is_none r.tape

-- The files of this owner whose versions wait.
abbrev pub waiting_of : ℕ → List FileRec → List FileRec
waiting_of owner files = filter (λ r. (r.owner == owner) && is_waiting r) files

-- The files of all owners below this number whose versions wait, by owner.
abbrev pub waiting_below : ℕ → List FileRec → List FileRec
waiting_below zero files = []
waiting_below (suc owner) files = waiting_below owner files ++ waiting_of owner files

-- The number of blocks of all these files together.
abbrev pub blocks_of : List FileRec → ℕ
blocks_of [] = 0
blocks_of (r ∷ rs) = blocks_for r.len + blocks_of rs

-- What is noted for each version that waits.
abbrev pub pinned_of : ℕ → ℕ → List (ℕ × DiscCopy) → FileRec → Pinned
pinned_of serial at online r = record { stamp = r.stamp; number = r.number; len = r.len; copy = record { serial = serial; first = at }; blocks = copy_places (copy_at online r.number) }

-- The files as pinned versions, with their places on tape end to end.
abbrev pub pins_from : ℕ → ℕ → List (ℕ × DiscCopy) → List FileRec → List Pinned
pins_from serial at online [] = []
pins_from serial at online (r ∷ rs) = pinned_of serial at online r ∷ pins_from serial (at + blocks_for r.len) online rs

-- These versions were pinned after the earlier ones, with their places on tape end to end.
pub record HasPut (serial : ℕ) (online : List (ℕ × DiscCopy)) (files : List FileRec) (before : List Pinned) (from : ℕ) (after : List Pinned) (to : ℕ) : Type 0 where
  pub pins : after ≡ before ++ pins_from serial from online files
  pub at : to ≡ from + blocks_of files
