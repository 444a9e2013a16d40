-- The places that are held, according to the notes of the dumps in memory.
use Rattle.std.specs.Prelude.{◌≡◌, ℕ, ◌<◌, List, length, take, get_or, All, Contains, Some, IfSome}
use Rattle.g_base.specs.Block.{blocks_for}
use Rattle.g_entry.specs.declared.file_rec.FileRec.{FileRec}
use Rattle.g_entry.specs.declared.file_rec.TapeCopy.{TapeCopy}
use Rattle.g_shelf.specs.ReaderSteps.{Holds}
use Rattle.g_restore.specs.declared.dumps.Found.{Found}

-- All blocks of the copy, where it has that many, are content of the dump.
pub record HasBlocks (copy : TapeCopy) (blocks : ℕ) (f : Found) : Type 0 where
  pub on : f.serial ≡ copy.serial
  pub content : Holds f.dir.note copy.first blocks

-- They are content of one of the dumps.
pub record AnyHas (found : List Found) (copy : TapeCopy) (blocks : ℕ) : Type 0 where
  pub one : Found
  pub there : Contains found one
  pub has : HasBlocks copy blocks one

-- The file has no copy on tape, or the blocks of its copy are content of a dump.
abbrev pub IsHeld : List Found → FileRec → Type 0
IsHeld found r = IfSome r.tape (λ c. AnyHas found c (blocks_for r.len))

-- The first of the files whose copy isn't held.
pub record IsFirstNotHeld (found : List Found) (files : List FileRec) (at : ℕ) (copy : TapeCopy) : Type 0 where
  pub within : at < length files
  pub before : All (IsHeld found) (take at files)
  pub copy_is : (d : FileRec) → (get_or files at d).tape ≡ Some copy
  pub lost : (d : FileRec) → AnyHas found copy (blocks_for (get_or files at d).len) → ⊥
