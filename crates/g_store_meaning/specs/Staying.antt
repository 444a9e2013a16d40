-- The invariant of a store that is up is preserved by each change of a file, whether or not a dump is open.
use Rattle.std.specs.Prelude.{◌≡◌, ℕ, ◌<◌, true, List, All, IfSome, Option}
use Rattle.g_entry.specs.declared.file_rec.FileRec.{FileRec}
use Rattle.g_entry.specs.Rules.{AreNumbered}
use Rattle.g_disc_contents.specs.Contents.{Contents, File, brought, recs_in, set_rec, taken_off, without_file}
use Rattle.g_incr.specs.Layout.{Dump, holds}
use Rattle.g_store_meaning.specs.Directories.{Grows, IsOwnedBy, IsOwnedIn}
use Rattle.g_store_meaning.specs.Laws.{BringsText, IsNewVersion, RecordsAnew, with_text, with_version}
use Rattle.g_store_meaning.specs.StoreInvariant.{IsUp, StoreFacts}

-- The store with these contents, and with these changed and touched users.
abbrev pub behind : StoreFacts → Contents → List ℕ → List ℕ → StoreFacts
behind s e changed touched = record s { online = record s.online { contents = e; changed = changed; touched = touched } }

-- No user is removed from the changed users, nor from the touched users while a dump is open.
pub record OnlyGrow (s : StoreFacts) (changed touched : List ℕ) : Type 0 where
  pub grows : Grows s.online.changed changed
  pub grows_open : IfSome s.dump (λ d. Grows s.online.touched touched)

-- The same, and this user is among them.
pub record AreMarked (s : StoreFacts) (owner : ℕ) (changed touched : List ℕ) : Type 0 where
  pub grow : OnlyGrow s changed touched
  pub has : holds changed owner ≡ true
  pub has_open : IfSome s.dump (λ d. holds touched owner ≡ true)

-- The changes that preserve the invariant: a new version, an erasure, another record, files taken off the disc, and a file brought back.
pub record StaysUp : Type 0 where
  pub version : (text : ℕ → List ℕ) (shelf : ℕ → List Dump) (s : StoreFacts) (f : File) (bytes numbers changed touched : List ℕ) → (let c = s.online.contents in
      AreNumbered (recs_in c) → All (λ g. g.rec.stamp < c.head.next_stamp) c.files → IsNewVersion c f bytes → All (IsOwnedBy f.rec.number f.rec.owner) c.files
      → AreMarked s f.rec.owner changed touched → IsUp text shelf s
      → IsUp (with_text c.head.next_stamp bytes text) shelf (behind s (with_version f numbers c) changed touched))
  pub erased : (text : ℕ → List ℕ) (shelf : ℕ → List Dump) (s : StoreFacts) (number : ℕ) (changed touched : List ℕ) → (let c = s.online.contents in
      OnlyGrow s changed touched → All (IsOwnedIn number changed) c.files → IfSome s.dump (λ d. All (IsOwnedIn number touched) c.files) → IsUp text shelf s
      → IsUp text shelf (behind s (record c { files = without_file number c.files }) changed touched))
  pub recorded : (text : ℕ → List ℕ) (shelf : ℕ → List Dump) (s : StoreFacts) (r : FileRec) (changed touched : List ℕ) → (let c = s.online.contents in
      All (RecordsAnew r) c.files → All (IsOwnedBy r.number r.owner) c.files → AreMarked s r.owner changed touched → IsUp text shelf s
      → IsUp text shelf (behind s (record c { files = set_rec r c.files }) changed touched))
  pub offline : (text : ℕ → List ℕ) (shelf : ℕ → List Dump) (s : StoreFacts) (numbers changed touched : List ℕ) → (let c = s.online.contents in
      OnlyGrow s changed touched → IsUp text shelf s → IsUp text shelf (behind s (record c { files = taken_off numbers c.files }) changed touched))
  pub back : (text : ℕ → List ℕ) (shelf : ℕ → List Dump) (s : StoreFacts) (number : ℕ) (bytes : Option (List ℕ)) (changed touched : List ℕ) → (let c = s.online.contents in
      All (BringsText text number bytes) c.files → OnlyGrow s changed touched → IsUp text shelf s
      → IsUp text shelf (behind s (record c { files = brought number bytes c.files }) changed touched))
