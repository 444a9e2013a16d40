-- THE RULES BETWEEN THE RECORDS of a disc and the dumps.
use Rattle.std.specs.Prelude.{◌≡◌, ◌≢◌, ℕ, List, Contains, Some}
use Rattle.g_base.specs.Block.{blocks_for}
use Rattle.g_entry.specs.declared.file_rec.FileRec.{FileRec}
use Rattle.g_entry.specs.declared.user_rec.UserRec.{UserRec}
use Rattle.g_tree.specs.Records.{full_of}
use Rattle.g_restore.specs.declared.dumps.Found.{Found}
use Rattle.g_restore.specs.Places.{AnyHas}
use Rattle.g_look.specs.declared.broken.Broken.{Broken}
use Rattle.g_look.specs.declared.broken.Broken.TheVariants.{Lengths, NoCopy}

-- The copy of one of the files isn't content of dumps.
abbrev pub IsCopyGone : List Found → List UserRec → List FileRec → Broken → Type 0
IsCopyGone found users files (NoCopy full copy) =
    (r : FileRec) × Contains files r × (full_of users r ≡ full) × (r.tape ≡ Some copy) × (AnyHas found copy (blocks_for r.len) → ⊥)
IsCopyGone found users files broken = ⊥

-- A dumped record of the same stamp has another length.
pub record HasOtherLength (dumped : List FileRec) (r : FileRec) (len : ℕ) : Type 0 where
  pub of : FileRec
  pub there : Contains dumped of
  pub stamp : of.stamp ≡ r.stamp
  pub len_is : of.len ≡ len
  pub other : r.len ≢ len

-- Rule 11 is broken by this file.
abbrev pub IsLengthOther : List UserRec → List FileRec → List FileRec → Broken → Type 0
IsLengthOther users files dumped (Lengths full stamp len dumped_len) =
    (r : FileRec) × Contains files r × (full_of users r ≡ full) × (r.stamp ≡ stamp) × (r.len ≡ len) × HasOtherLength dumped r dumped_len
IsLengthOther users files dumped broken = ⊥

-- All dumped records of the file's stamp have its length.
abbrev pub HasSameLengths : List FileRec → FileRec → Type 0
HasSameLengths dumped r = (of : FileRec) → Contains dumped of → of.stamp ≡ r.stamp → of.len ≡ r.len
