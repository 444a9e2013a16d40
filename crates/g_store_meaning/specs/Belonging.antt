-- The condition that a disc and a rack belong together. It mentions no block number of the disc and no format.
use Rattle.std.specs.Prelude.{◌≡◌, ◌⊎◌, ℕ, ◌+◌, ◌<◌, ◌≤◌, List, map, filter, length, All, Contains, Option, Some, IfSome, nat_le}
use Rattle.std.specs.Option.{ForSome}
use Rattle.g_entry.specs.declared.file_rec.FileRec.{FileRec}
use Rattle.g_entry.specs.declared.head.Intent.{Intent}
use Rattle.g_tape.specs.Reel.{Reel}
use Rattle.g_tape.specs.Rack.{Rack}
use Rattle.g_disc_contents.specs.Contents.{Contents, File, Holds}
use Rattle.g_incr.specs.Layout.{Dump}
use Rattle.g_shelf.specs.CompletedDumps.{AreShelved, all_dumps, end_of}
use Rattle.g_store_meaning.specs.Meaning.{IsContent, DumpedDirectory, files_in, told_reels}

-- A stamp has one text: the record has its length, and the record's copy on tape, if it has one, is the text.
pub record KeepsRecord (text : List ℕ) (dumps : List Dump) (r : FileRec) : Type 0 where
  pub len : length text ≡ r.len
  pub copy : IfSome r.tape (λ c. IsContent dumps c text)

-- The same for a file on disc, whose exposed bytes are the text.
pub record KeepsFile (text : List ℕ) (dumps : List Dump) (f : File) : Type 0 where
  pub rec : KeepsRecord text dumps f.rec
  pub bytes : ForSome f.bytes (λ bytes. bytes ≡ text)

-- The dump is the one that the intent names, and the last one on its reel.
pub record IsIntended (last : ℕ) (intent : Option Intent) (dumps : List Dump) (d : Dump) : Type 0 where
  pub number : d.number ≡ last + 1
  pub named : intent ≡ Some (record { serial = d.serial; place = d.place; number = d.number })
  pub latest : (e : Dump) → Contains dumps e → e.serial ≡ d.serial → e.number ≤ d.number

-- The intent's place is after those dumps of its reel that the disc knows.
pub record IsPlaced (shelf : ℕ → List Dump) (reels : List Reel) (last : ℕ) (i : Intent) : Type 0 where
  pub reel : Contains (map (λ r. r.serial) reels) i.serial
  pub number : i.number ≡ last + 1
  pub place : i.place ≡ end_of (filter (λ d. nat_le d.number last) (shelf i.serial))

-- Completed dumps agree with each other: their numbers are distinct, and stamps don't fall from one dump to a newer one. If there are any,
-- together they give a tree, and every copy that its records name is in a completed dump. `text` is the content of each version, by its stamp.
pub record RackBelongs (text : ℕ → List ℕ) (dumps : List Dump) : Type 0 where
  pub apart : (d e : Dump) → Contains dumps d → Contains dumps e → d.number ≡ e.number → d ≡ e
  pub rising : (d e : Dump) → Contains dumps d → Contains dumps e → d.number ≤ e.number → d.next ≤ e.next
  -- if there is a completed dump, then all of them together give a tree
  pub tree : (d : Dump) → Contains dumps d → DumpedDirectory dumps
  pub records : (t : DumpedDirectory dumps) → All (λ r. KeepsRecord (text r.stamp) dumps r) (files_in t)

-- A disc agrees with the completed dumps: each file's bytes on disc and its copy on tape are the content of its stamp. No dump has a number
-- above the disc's last one, except the one that its intent names; that last dump exists; no stamp on tape is above the disc's next one.
-- `shelf` is the list of completed dumps of each reel, by serial.
pub record DiscBelongs (text : ℕ → List ℕ) (shelf : ℕ → List Dump) (reels : List Reel) (c : Contents) : Type 0 where
  pub files : All (λ f. KeepsFile (text f.rec.stamp) (all_dumps shelf reels) f) c.files
  pub numbers : (d : Dump) → Contains (all_dumps shelf reels) d
      → (d.number ≤ c.head.last_dump) ⊎ IsIntended c.head.last_dump c.head.intent (all_dumps shelf reels) d
  pub has_last : 0 < c.head.last_dump → (d : Dump) × Contains (all_dumps shelf reels) d × (d.number ≡ c.head.last_dump)
  pub stamps : (d : Dump) → Contains (all_dumps shelf reels) d → d.next ≤ c.head.next_stamp
  pub intent : IfSome c.head.intent (IsPlaced shelf reels c.head.last_dump)

-- A DISC AND REELS BELONG TOGETHER: they agree about the content of every version, the completed dumps agree with each other, and, if the disc
-- holds a filestore, it agrees with them about files, dump numbers, stamps and the intent.
pub record BelongWith (held : Option (List (List ℕ))) (reels : List Reel) : Type 0 where
  -- the content of every version on disc or tape, by stamp
  pub text : ℕ → List ℕ
  -- the completed dumps of each reel, by serial
  pub shelf : ℕ → List Dump
  pub shelved : AreShelved shelf reels
  pub rack : RackBelongs text (all_dumps shelf reels)
  pub disc : (blocks : List (List ℕ)) (c : Contents) → held ≡ Some blocks → Holds blocks c → DiscBelongs text shelf reels c

-- The same of what a disc holds and a rack, if their blocks are exposed.
abbrev pub Belong : Option (List (List ℕ)) → Rack → Type 0
Belong held rack = BelongWith held (told_reels rack)
