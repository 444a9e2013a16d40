-- What a restore names if the completed dumps give no tree: the first user whose directory is lost, or the first file whose bytes are.
use Rattle.std.specs.Prelude.{◌≡◌, ℕ, ◌+◌, ◌<◌, List, ◌∷◌, ◌++◌, length, take, slice_get, All, Contains, Some, IfSome, Result, Ok, Err}
use Rattle.g_name.specs.declared.full.Full.{Full}
use Rattle.g_entry.specs.declared.file_rec.FileRec.{FileRec}
use Rattle.g_entry.specs.declared.file_rec.TapeCopy.{TapeCopy}
use Rattle.g_entry.specs.declared.user_rec.UserRec.{UserRec}
use Rattle.g_entry.specs.Rules.{AreFiles, StampsBelow}
use Rattle.g_tape.specs.Reel.{Reel}
use Rattle.g_tree.specs.Records.{full_of}
use Rattle.g_plain.specs.declared.faults.StoreFault.{StoreFault}
use Rattle.g_plain.specs.declared.faults.StoreFault.TheVariants.{LostDirectory, LostCopy}
use Rattle.g_incr.specs.Layout.{Dump}
use Rattle.g_incr.specs.Plan.{numbered_from}
use Rattle.g_shelf.specs.CompletedDumps.{AreShelved, all_dumps}
use Rattle.g_store_meaning.specs.Meaning.{DumpedDirectory, Gathers, IsContent, IsGreatest, files_in}
use Rattle.g_store_meaning.specs.Reading.{ReelsTold}

-- The directories of these users of a dump are all held by dumps, and together satisfy the rules of files.
pub record GoTogether (dumps : List Dump) (last : Dump) (users : List UserRec) : Type 0 where
  pub files : List FileRec
  pub gathers : Gathers dumps users files
  pub rules : AreFiles (length last.users) (numbered_from 0 files)
  pub dated : StampsBelow last.next (numbered_from 0 files)

-- User u is bad if the directories of users 0 to u don't.
abbrev pub IsBad : List Dump → Dump → ℕ → Type 0
IsBad dumps last u = GoTogether dumps last (take (u + 1) last.users) → ⊥

-- The lost directory is that of the first bad user of the dump of greatest number.
pub record IsLostDirectory (dumps : List Dump) (name : List ℕ) : Type 0 where
  pub last : Dump
  pub greatest : IsGreatest dumps last
  pub number : ℕ
  pub user : UserRec
  pub there : slice_get last.users number ≡ Some user
  pub bad : IsBad dumps last number
  pub least : (lower : ℕ) → lower < number → IsBad dumps last lower → ⊥
  pub name_is : user.user ≡ name

-- The place of the file's bytes is held: it is content of completed dumps, as long as the file. An empty file has no
-- place.
abbrev pub HasPlace : List Dump → FileRec → Type 0
HasPlace dumps r = IfSome r.tape (λ c. (text : List ℕ) × (length text ≡ r.len) × IsContent dumps c text)

-- If no user is bad, the lost copy is that of the first file, by owner and then in the order of its dump, whose place isn't
-- held.
pub record IsFirstLost (dumps : List Dump) (full : Full) (serial : ℕ) : Type 0 where
  pub last : Dump
  pub greatest : IsGreatest dumps last
  pub all : GoTogether dumps last last.users
  pub before : List FileRec
  pub file : FileRec
  pub behind : List FileRec
  pub there : all.files ≡ before ++ file ∷ behind
  pub held : All (HasPlace dumps) before
  pub lost : HasPlace dumps file → ⊥
  pub full_is : full_of last.users file ≡ full
  pub copy : TapeCopy
  pub copy_is : file.tape ≡ Some copy
  pub serial_is : copy.serial ≡ serial

-- If the answer is Ok, the directories of all users satisfy the rules together, and every place is held. A lost
-- directory or copy is named correctly.
abbrev pub NamesLost : {A : Type 0} → List Dump → Result A StoreFault → Type 0
NamesLost dumps (Ok reply) = (t : DumpedDirectory dumps) × All (HasPlace dumps) (files_in t)
NamesLost dumps (Err (LostDirectory user)) = IsLostDirectory dumps user
NamesLost dumps (Err (LostCopy full serial)) = IsFirstLost dumps full serial
NamesLost dumps (Err fault) = Unit {0}

-- No two completed dumps have the same number.
abbrev pub AreApart : List Dump → Type 0
AreApart dumps = (d e : Dump) → Contains dumps d → Contains dumps e → d.number ≡ e.number → d ≡ e

-- What a restore must establish of its answer, if the reels expose their blocks.
abbrev pub LostIsNamed : {A : Type 0} → List Reel → Result A StoreFault → Type 0
LostIsNamed reels answer = ReelsTold reels → (shelf : ℕ → List Dump) → AreShelved shelf reels → AreApart (all_dumps shelf reels)
    → NamesLost (all_dumps shelf reels) answer
