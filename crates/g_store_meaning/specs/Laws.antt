-- The laws of belonging: the changes that preserve it.
use Rattle.std.specs.Prelude.{◌≡◌, ◌⊎◌, ℕ, ◌+◌, ◌<◌, ◌≤◌, ◌==◌, List, [], map, length, All, Contains, Some, None, if◌then◌else◌, Option}
use Rattle.std.specs.Option.{ForSome, option_map}
use Rattle.g_entry.specs.declared.file_rec.FileRec.{FileRec}
use Rattle.g_entry.specs.declared.file_rec.TapeCopy.{TapeCopy}
use Rattle.g_entry.specs.declared.head.Intent.{Intent}
use Rattle.g_entry.specs.declared.user_rec.UserRec.{UserRec}
use Rattle.g_tape.specs.Reel.{Reel}
use Rattle.g_disc_contents.specs.Contents.{Contents, File, brought, set_rec, taken_off, with_copies, with_file, with_intent, without_file}
use Rattle.g_incr.specs.Layout.{Dump}
use Rattle.g_shelf.specs.CompletedDumps.{all_dumps}
use Rattle.g_tape.specs.Rack.{Rack}
use Rattle.g_tape.specs.Reads.{OnlyReads}
use Rattle.g_store_model.specs.State.{State}
use Rattle.g_store_meaning.specs.StoreInvariant.{StoreFacts}
use Rattle.g_store_meaning.specs.Reading.{StandsForState}
use Rattle.g_store_meaning.specs.Belonging.{Belong, DiscBelongs, IsPlaced, RackBelongs}
use Rattle.g_store_meaning.specs.Meaning.{DumpedDirectory, IsContent, files_in}

-- The texts, with these bytes for one stamp.
abbrev pub with_text : ℕ → List ℕ → (ℕ → List ℕ) → ℕ → List ℕ
with_text stamp bytes text n = if n == stamp then bytes else text n

-- The contents with a new version, and with these files taken off the disc for it.
abbrev pub with_version : File → List ℕ → Contents → Contents
with_version f numbers c = record c { head = record c.head { next_stamp = c.head.next_stamp + 1 }; files = with_file f (taken_off numbers c.files) }

-- The file is a new version with these bytes: it has the next stamp and no copy on tape.
pub record IsNewVersion (c : Contents) (f : File) (bytes : List ℕ) : Type 0 where
  pub stamp : f.rec.stamp ≡ c.head.next_stamp
  pub tape : f.rec.tape ≡ None
  pub len : length bytes ≡ f.rec.len
  pub told : (f.bytes ≡ Some bytes) ⊎ (f.bytes ≡ None)

-- A new version of a file preserves belonging.
abbrev pub NewVersionBelongs : Type 0
NewVersionBelongs = (text : ℕ → List ℕ) (shelf : ℕ → List Dump) (reels : List Reel) (c : Contents) (f : File) (bytes numbers : List ℕ)
    → RackBelongs text (all_dumps shelf reels) → DiscBelongs text shelf reels c → All (λ g. g.rec.stamp < c.head.next_stamp) c.files → IsNewVersion c f bytes
    → RackBelongs (with_text c.head.next_stamp bytes text) (all_dumps shelf reels) × DiscBelongs (with_text c.head.next_stamp bytes text) shelf reels (with_version f numbers c)

-- The two records are of the same version.
pub record IsSameVersion (r old : FileRec) : Type 0 where
  pub stamp : r.stamp ≡ old.stamp
  pub len : r.len ≡ old.len
  pub tape : r.tape ≡ old.tape

-- If the record is for this file, it is of the same version.
abbrev pub RecordsAnew : FileRec → File → Type 0
RecordsAnew r f = f.rec.number ≡ r.number → IsSameVersion r f.rec

-- The bytes that are brought back are those of the version.
abbrev pub BringsText : (ℕ → List ℕ) → ℕ → Option (List ℕ) → File → Type 0
BringsText text number bytes f = f.rec.number ≡ number → ForSome bytes (λ b. b ≡ text f.rec.stamp)

-- These changes preserve belonging: a file is erased, gets another record of the same version, is taken off the disc or
-- brought back; and the users change.
pub record FilesBelong : Type 0 where
  pub erased : (text : ℕ → List ℕ) (shelf : ℕ → List Dump) (reels : List Reel) (c : Contents) (number : ℕ)
      → DiscBelongs text shelf reels c → DiscBelongs text shelf reels (record c { files = without_file number c.files })
  pub recorded : (text : ℕ → List ℕ) (shelf : ℕ → List Dump) (reels : List Reel) (c : Contents) (r : FileRec)
      → All (RecordsAnew r) c.files → DiscBelongs text shelf reels c → DiscBelongs text shelf reels (record c { files = set_rec r c.files })
  pub offline : (text : ℕ → List ℕ) (shelf : ℕ → List Dump) (reels : List Reel) (c : Contents) (numbers : List ℕ)
      → DiscBelongs text shelf reels c → DiscBelongs text shelf reels (record c { files = taken_off numbers c.files })
  pub back : (text : ℕ → List ℕ) (shelf : ℕ → List Dump) (reels : List Reel) (c : Contents) (number : ℕ) (bytes : Option (List ℕ))
      → All (BringsText text number bytes) c.files → DiscBelongs text shelf reels c
      → DiscBelongs text shelf reels (record c { files = brought number bytes c.files })
  pub users : (text : ℕ → List ℕ) (shelf : ℕ → List Dump) (reels : List Reel) (c : Contents) (users : List UserRec)
      → DiscBelongs text shelf reels c → DiscBelongs text shelf reels (record c { users = users })

-- No completed dump is newer than the last one that the disc knows.
abbrev pub IsQuiet : (ℕ → List Dump) → List Reel → Contents → Type 0
IsQuiet shelf reels c = (d : Dump) → Contains (all_dumps shelf reels) d → d.number ≤ c.head.last_dump

-- These changes preserve belonging: setting an intent whose place is after the dumps of its reel, and removing the
-- intent.
pub record IntentsBelong : Type 0 where
  pub intended : (text : ℕ → List ℕ) (shelf : ℕ → List Dump) (reels : List Reel) (c : Contents) (i : Intent)
      → IsQuiet shelf reels c → IsPlaced shelf reels c.head.last_dump i → DiscBelongs text shelf reels c
      → DiscBelongs text shelf reels (with_intent (Some i) c)
  pub dropped : (text : ℕ → List ℕ) (shelf : ℕ → List Dump) (reels : List Reel) (c : Contents)
      → IsQuiet shelf reels c → DiscBelongs text shelf reels c → DiscBelongs text shelf reels (with_intent None c)

-- The contents after a dump was closed: its number is the last, the intent is removed, and files have these copies.
abbrev pub closed : ℕ → List (ℕ × TapeCopy) → Contents → Contents
closed last copies c = record c {
  head = record c.head { last_dump = last; intent = None };
  files = with_copies copies c.files;
}

-- The copy is content of the dumps, and has the text of its stamp.
abbrev pub HasContent : (ℕ → List ℕ) → List Dump → ℕ × TapeCopy → Type 0
HasContent text dumps c = IsContent dumps c.1 (text c.0)

-- The closing commit of a dump, and its adoption by START, preserve belonging if their copies are content of the dumps.
abbrev pub ClosingBelongs : Type 0
ClosingBelongs = (text : ℕ → List ℕ) (shelf : ℕ → List Dump) (reels : List Reel) (c : Contents) (d : Dump) (copies : List (ℕ × TapeCopy))
    → DiscBelongs text shelf reels c → Contains (all_dumps shelf reels) d → d.number ≡ c.head.last_dump + 1
    → All (HasContent text (all_dumps shelf reels)) copies → DiscBelongs text shelf reels (closed d.number copies c)

-- A file after a restore: it is only on tape; an empty file is on the disc, without bytes.
abbrev pub restored_file : Option (List (List ℕ)) → FileRec → File
restored_file held r = record { rec = r; online = r.len == 0; bytes = if r.len == 0 then option_map (λ blocks. []) held else None }

-- The contents of a disc after a restore of this dumped directory.
abbrev pub restored : {dumps : List Dump} → Option (List (List ℕ)) → DumpedDirectory dumps → Contents
restored held t = record {
  head = record { next_stamp = t.last.next; last_dump = t.last.number; intent = None };
  users = t.last.users;
  files = map (restored_file held) (files_in t);
}

-- What a general restore writes to the disc belongs to the rack.
abbrev pub RestoreBelongs : Type 0
RestoreBelongs = (text : ℕ → List ℕ) (shelf : ℕ → List Dump) (reels : List Reel) (held : Option (List (List ℕ))) (t : DumpedDirectory (all_dumps shelf reels))
    → RackBelongs text (all_dumps shelf reels) → DiscBelongs text shelf reels (restored held t)

-- The first directory belongs to a rack without dumps.
abbrev pub FormatBelongs : Type 0
FormatBelongs = (text : ℕ → List ℕ) (shelf : ℕ → List Dump) (reels : List Reel) (users : List UserRec) (next : ℕ)
    → all_dumps shelf reels ≡ []
    → RackBelongs text (all_dumps shelf reels)
    × DiscBelongs text shelf reels (record { head = record { next_stamp = next; last_dump = 0; intent = None }; users = users; files = [] })

-- Reads preserve belonging.
abbrev pub ReadsBelong : Type 0
ReadsBelong = (held : Option (List (List ℕ))) (old new : Rack) → OnlyReads old new → Belong held old → Belong held new

-- Reads preserve the state that a store represents, whether the store is up or spent.
abbrev pub ReadsKeepState : Type 0
ReadsKeepState = (s : StoreFacts) (new : Rack) (u : State) → OnlyReads s.rack new → StandsForState s u → StandsForState (record s { rack = new }) u
