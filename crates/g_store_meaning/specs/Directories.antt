-- The directories of unchanged users remain those of the completed dumps, whatever happens to the others.
use Rattle.std.specs.Prelude.{◌≡◌, ℕ, ◌<◌, ◌≤◌, true, false, List, Contains, All, Option}
use Rattle.g_entry.specs.declared.file_rec.FileRec.{FileRec}
use Rattle.g_entry.specs.declared.head.Intent.{Intent}
use Rattle.g_entry.specs.declared.user_rec.UserRec.{UserRec}
use Rattle.g_entry.specs.Rules.{AreNumbered}
use Rattle.g_disc_contents.specs.Contents.{Contents, File, brought, recs_in, set_rec, taken_off, with_intent, without_file}
use Rattle.g_disc_contents.specs.Facts.{OnlineFacts, noted}
use Rattle.g_incr.specs.Layout.{Dump, holds}
use Rattle.g_store_meaning.specs.Laws.{closed, with_version}
use Rattle.g_store_meaning.specs.Meaning.{files_of}
use Rattle.g_store_meaning.specs.StoreInvariant.{KeepsDirectories, KeepsOpening}

-- The second list has all numbers of the first.
abbrev pub Grows : List ℕ → List ℕ → Type 0
Grows old new = (n : ℕ) → holds old n ≡ true → holds new n ≡ true

-- Every user outside these numbers existed before and has the same directory.
pub record KeepsOthers (changed : List ℕ) (c e : Contents) : Type 0 where
  pub last : e.head.last_dump ≡ c.head.last_dump
  pub users : (u : UserRec) → Contains e.users u → holds changed u.number ≡ false → (v : UserRec) × Contains c.users v × (v.number ≡ u.number)
  pub files : (n : ℕ) → holds changed n ≡ false → files_of n (recs_in e) ≡ files_of n (recs_in c)

-- If a change of contents leaves the other users' directories unchanged, these remain those of the dumps.
pub record OthersStay : Type 0 where
  pub directories : (old new : List ℕ) (c e : Contents) (dumps : List Dump) → Grows old new → KeepsOthers new c e → KeepsDirectories old c dumps → KeepsDirectories new e dumps
  pub opening : (o : OnlineFacts) (e : Contents) (touched : List ℕ) (dumps : List Dump) → Grows o.touched touched → KeepsOthers touched o.contents e
      → KeepsOpening o dumps → KeepsOpening (record o { contents = e; touched = touched }) dumps

-- The file of this number belongs to this user.
abbrev pub IsOwnedBy : ℕ → ℕ → File → Type 0
IsOwnedBy number owner g = g.rec.number ≡ number → g.rec.owner ≡ owner

-- The file of this number belongs to one of these users.
abbrev pub IsOwnedIn : ℕ → List ℕ → File → Type 0
IsOwnedIn number changed g = g.rec.number ≡ number → holds changed g.rec.owner ≡ true

-- The change of a file preserves the directories of all users but its owner. Taking files off the disc, bringing one
-- back, or setting the intent preserves all directories.
pub record ChangesKeepOthers : Type 0 where
  pub version : (changed : List ℕ) (c : Contents) (f : File) (numbers : List ℕ) → AreNumbered (recs_in c) → holds changed f.rec.owner ≡ true
      → All (IsOwnedBy f.rec.number f.rec.owner) c.files → KeepsOthers changed c (with_version f numbers c)
  pub erased : (changed : List ℕ) (c : Contents) (number : ℕ) → All (IsOwnedIn number changed) c.files → KeepsOthers changed c (record c { files = without_file number c.files })
  pub recorded : (changed : List ℕ) (c : Contents) (r : FileRec) → holds changed r.owner ≡ true → All (IsOwnedBy r.number r.owner) c.files
      → KeepsOthers changed c (record c { files = set_rec r c.files })
  pub offline : (changed : List ℕ) (c : Contents) (numbers : List ℕ) → KeepsOthers changed c (record c { files = taken_off numbers c.files })
  pub back : (changed : List ℕ) (c : Contents) (number : ℕ) (bytes : Option (List ℕ)) → KeepsOthers changed c (record c { files = brought number bytes c.files })
  pub intent : (changed : List ℕ) (c : Contents) (i : Option Intent) → KeepsOthers changed c (with_intent i c)
  pub users : (changed : List ℕ) (c : Contents) (users : List UserRec)
      → ((u : UserRec) → Contains users u → holds changed u.number ≡ false → (v : UserRec) × Contains c.users v × (v.number ≡ u.number))
      → KeepsOthers changed c (record c { users = users })

-- After a dump is closed, every user who wasn't touched since its opening counts as unchanged.
abbrev pub ClosingKeepsDirectories : Type 0
ClosingKeepsDirectories = (o : OnlineFacts) (number : ℕ) (dumps : List Dump) → 0 < number → ((d : Dump) → Contains dumps d → d.number ≤ number)
    → KeepsOpening o dumps → KeepsDirectories o.touched (closed number (noted o.pins) o.contents) dumps
