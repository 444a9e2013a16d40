-- What a change of the contents makes of where the bytes lie is what the step makes of the places.
use Rattle.std.specs.Prelude.{◌≡◌, ◌≢◌, ℕ, ◌&&◌, true, false, is_some, nat_lt, List, All, AllPairs, Contains, Option, Some}
use Rattle.std.specs.FinMap.{insert, remove}
use Rattle.g_entry.specs.declared.file_rec.FileRec.{FileRec}
use Rattle.g_disc_contents.specs.Contents.{File, brought, has, set_rec, taken_off, with_copies, with_file, without_file}
use Rattle.g_disc_contents.specs.Facts.{Pin, noted}
use Rattle.g_store_model.specs.State.{Holding, OpenDump, is_candidate, place_at, taken_offline, with_online}
use Rattle.g_store_model.specs.DumpSteps.{with_noted}
use Rattle.g_store_meaning.specs.Laws.{RecordsAnew}
use Rattle.g_store_meaning.specs.Reading.{place_of, places_of, waiting_of}

-- No two files have the same stamp.
abbrev pub AreDistinct : List File → Type 0
AreDistinct files = AllPairs (λ f g. f.rec.stamp ≢ g.rec.stamp) files

-- The file of this number, if there is one, has this stamp, and no other file has it.
abbrev pub IsOfStamp : ℕ → ℕ → File → Type 0
IsOfStamp number stamp f = (f.rec.number ≡ number → f.rec.stamp ≡ stamp) × (f.rec.stamp ≡ stamp → f.rec.number ≡ number)

-- The copies that an open dump has noted are those of its pins.
pub record AreNotedIn (d : OpenDump) (pins : List Pin) : Type 0 where
  pub waiting : d.waiting ≡ waiting_of (Some pins)
  pub copies : All (λ p. (place_at d.places p.stamp).copy ≡ Some p.copy) pins
  pub apart : AllPairs (λ p q. p.stamp ≢ q.stamp) pins

-- For each change of files, the places by stamp are those that the step makes.
pub record PlacesGoByChange : Type 0 where
  pub version : (files : List File) (f : File) (old : ℕ) → AreDistinct files → AreDistinct (with_file f files) → All (IsOfStamp f.rec.number old) files
      → places_of (with_file f files) ≡ insert (remove (places_of files) old) f.rec.stamp (place_of f)
  pub erased : (files : List File) (number old : ℕ) → AreDistinct files → AreDistinct (without_file number files) → All (IsOfStamp number old) files
      → places_of (without_file number files) ≡ remove (places_of files) old
  pub recorded : (files : List File) (r : FileRec) → All (RecordsAnew r) files → places_of (set_rec r files) ≡ places_of files
  pub back : (files : List File) (f : File) (bytes : Option (List ℕ)) → AreDistinct files → Contains files f → All (IsOfStamp f.rec.number f.rec.stamp) files
      → places_of (brought f.rec.number bytes files) ≡ with_online true f.rec.stamp (places_of files)
  -- the versions that are taken off the disc are the candidates below a stamp
  pub taken : (k : Holding) (files : List File) (numbers : List ℕ) (until : ℕ) → k.places ≡ places_of files → AreDistinct files
      → All (λ f. has numbers f.rec.number ≡ (nat_lt f.rec.stamp until && is_candidate (place_of f))) files
      → places_of (taken_off numbers files) ≡ (taken_offline until k).places
  pub noted : (d : OpenDump) (files : List File) (pins : List Pin) → AreDistinct files → AreNotedIn d pins
      → places_of (with_copies (noted (Some pins)) files) ≡ with_noted d (places_of files)

-- A version that is taken off the disc has a copy on tape.
abbrev pub TakenHaveCopies : Type 0
TakenHaveCopies = (k : Holding) (until stamp : ℕ) → (place_at k.places stamp).online ≡ true → (place_at (taken_offline until k).places stamp).online ≡ false
    → is_some (place_at k.places stamp).copy ≡ true
