-- THE DUMPS READ FROM A RACK: its completed dumps, with their records and without their content.
use Rattle.std.specs.Prelude.{◌≡◌, ◌≢◌, ℕ, ◌<◌, ◌≤◌, List, length, All, AllPairs, Contains}
use Rattle.std.specs.Option.{ForSome}
use Rattle.g_entry.specs.declared.file_rec.FileRec.{FileRec}
use Rattle.g_tape.specs.Reel.{Reel}
use Rattle.g_incr.specs.Layout.{Dump}
use Rattle.g_shelf.specs.CompletedDumps.{AreShelved, all_dumps}
use Rattle.g_store_meaning.specs.Meaning.{DumpedDirectory, files_in}
use Rattle.g_store_meaning.specs.Reading.{ReelsTold}
use Rattle.g_restore.specs.declared.dumps.Found.{Found}
use Rattle.g_restore.specs.KnownDumps.{AreKnown}
use Rattle.g_look.specs.declared.broken.Broken.{Broken}
use Rattle.g_look.specs.declared.broken.Broken.TheVariants.{Twice, Falls}
use Rattle.g_look.specs.declared.broken.DumpAt.{DumpAt}
use Rattle.g_look.specs.declared.rack.Judged.{Judged}
use Rattle.g_look.specs.declared.rack.Judged.TheVariants.{Fits, Breaks}
use Rattle.g_look.specs.Rules.{BreaksRack, RackFits, rule_of}

-- The two reels have different serials.
abbrev pub OtherSerial : Reel → Reel → Type 0
OtherSerial a b = a.serial ≢ b.serial

-- The reel has no more blocks than a reel may have: 65,536.
abbrev pub IsShort : Reel → Type 0
IsShort r = ForSome r.blocks (λ blocks. length blocks ≤ 65536)

-- These are the completed dumps of reels that expose their blocks, each reel's by its serial.
pub record IsSeen (reels : List Reel) (shelf : ℕ → List Dump) (found : List Found) : Type 0 where
  pub told : ReelsTold reels
  pub apart : AllPairs OtherSerial reels
  pub short : All IsShort reels
  pub shelved : AreShelved shelf reels
  pub known : AreKnown found (all_dumps shelf reels)

-- The property holds for any reels with this shelf, if these are their dumps.
abbrev pub WhereSeen : List Found → (List Reel → (ℕ → List Dump) → Type 0) → Type 0
WhereSeen found P = (reels : List Reel) (shelf : ℕ → List Dump) → IsSeen reels shelf found → P reels shelf

-- If the reels expose their blocks, they have a shelf, and these are the dumps of each shelf of theirs.
pub record AreSeen (reels : List Reel) (found : List Found) : Type 0 where
  pub shelf : ReelsTold reels → (shelf : ℕ → List Dump) × AreShelved shelf reels
  pub seen : ReelsTold reels → (shelf : ℕ → List Dump) → AreShelved shelf reels → IsSeen reels shelf found

-- The numbers by which a dump is printed.
abbrev pub at_found : Found → DumpAt
at_found f = record { number = f.dir.note.number; serial = f.serial; place = f.dir.note.place; next_stamp = f.dir.note.next_stamp }

-- The two dumps are at the same block of the same reel.
pub record SamePlace (a b : DumpAt) : Type 0 where
  pub serial : b.serial ≡ a.serial
  pub place : b.place ≡ a.place

-- Two dumps have the same number, at two places.
abbrev pub IsTwin : DumpAt → DumpAt → Type 0
IsTwin a b = (b.number ≡ a.number) × (SamePlace a b → ⊥)

-- No two dumps have the same number at two places.
abbrev pub HaveNoTwins : List DumpAt → Type 0
HaveNoTwins dumps = (a b : DumpAt) → Contains dumps a → Contains dumps b → b.number ≡ a.number → SamePlace a b

-- Rule 1 is broken by these two dumps.
abbrev pub IsTwice : List DumpAt → Broken → Type 0
IsTwice dumps (Twice a b) = Contains dumps a × Contains dumps b × IsTwin a b
IsTwice dumps broken = ⊥

-- The later dump has the lower next stamp, and no dump has a number between theirs.
pub record IsLower (dumps : List DumpAt) (a b : DumpAt) : Type 0 where
  pub number : a.number ≤ b.number
  pub next : b.next_stamp < a.next_stamp
  pub neighbours : (c : DumpAt) → Contains dumps c → a.number < c.number → c.number < b.number → ⊥

-- Rule 2 is broken by these two dumps.
abbrev pub IsFalling : List DumpAt → Broken → Type 0
IsFalling dumps (Falls a b) = Contains dumps a × Contains dumps b × IsLower dumps a b
IsFalling dumps broken = ⊥

-- No dump has a lower next stamp than one with a lower number.
abbrev pub NoneFalls : List DumpAt → Type 0
NoneFalls dumps = (a b : DumpAt) → Contains dumps a → Contains dumps b → a.number < b.number → a.next_stamp ≤ b.next_stamp

-- THE FIRST RULE of the rack that is broken.
pub record IsFirstOfRack (dumps : List Dump) (b : Broken) : Type 0 where
  pub breaks : BreaksRack dumps b
  pub first : (e : Broken) → BreaksRack dumps e → rule_of b ≤ rule_of e

-- None is broken, and these are the files of the dumped directory, if there is a dump.
pub record IsRackPassed (dumps : List Dump) (files : List FileRec) : Type 0 where
  pub fits : RackFits dumps
  pub files_are : (t : DumpedDirectory dumps) → files_in t ≡ files
  pub given : (r : FileRec) → Contains files r → DumpedDirectory dumps

-- The verdict on a rack is right: it breaks no rule, and these are the files of its dumped directory; or this is the first rule that it breaks.
abbrev pub IsJudged : List Dump → Judged → Type 0
IsJudged dumps (Fits files) = IsRackPassed dumps files.items
IsJudged dumps (Breaks broken) = IsFirstOfRack dumps broken
