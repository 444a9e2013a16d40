-- THE RULES BETWEEN THE HEAD of a directory and the dumps.
use Rattle.std.specs.Prelude.{◌≡◌, ◌⊎◌, ℕ, ◌+◌, ◌^◌, ◌<◌, ◌≤◌, ◌==◌, ◌&&◌, nat_le, List, [], ◌∷◌, Contains, Option, Some, None, IfSome, if◌then◌else◌}
use Rattle.g_entry.specs.declared.head.Head.{Head}
use Rattle.g_entry.specs.declared.head.Intent.{Intent}
use Rattle.g_tape.specs.Reel.{Reel}
use Rattle.g_disc_contents.specs.Contents.{Contents}
use Rattle.g_incr.specs.Layout.{Dump}
use Rattle.g_shelf.specs.CompletedDumps.{all_dumps}
use Rattle.g_store_meaning.specs.Belonging.{IsIntended, IsPlaced}
use Rattle.g_restore.specs.declared.dumps.Found.{Found}
use Rattle.g_look.specs.declared.broken.Broken.{Broken}
use Rattle.g_look.specs.declared.broken.Broken.TheVariants.{TooNew, TooFar, NoReel, Misplaced}
use Rattle.g_look.specs.Judging.{IsFirstOfDisc}
use Rattle.g_look.specs.SeenDumps.{at_found}

-- The intent names this dump.
abbrev pub IsNamed : Option Intent → Found → Type 0
IsNamed None f = ⊥
IsNamed (Some i) f = (i.serial ≡ f.serial) × (i.place ≡ f.dir.note.place) × (i.number ≡ f.dir.note.number)

-- The dump is newer than the last one, and isn't the one that the intent names.
pub record IsNew (head : Head) (f : Found) : Type 0 where
  pub newer : head.last_dump < f.dir.note.number
  pub other : IsNamed head.intent f → ⊥

-- The dump isn't newer than the last one, or the intent names it.
abbrev pub IsKnown : Head → Found → Type 0
IsKnown head f = (f.dir.note.number ≤ head.last_dump) ⊎ IsNamed head.intent f

-- Rule 5 is broken by this dump.
abbrev pub IsTooNew : List Found → Head → Broken → Type 0
IsTooNew found head (TooNew a last) = (f : Found) × Contains found f × (at_found f ≡ a) × (last ≡ head.last_dump) × IsNew head f
IsTooNew found head broken = ⊥

-- One of the dumps has this number.
pub record HasNumber (found : List Found) (number : ℕ) : Type 0 where
  pub one : Found
  pub there : Contains found one
  pub number_is : one.dir.note.number ≡ number

-- Rule 7 is broken by this dump.
abbrev pub IsTooFar : List Found → ℕ → Broken → Type 0
IsTooFar found next (TooFar a n) = (f : Found) × Contains found f × (at_found f ≡ a) × (n ≡ next) × (next < f.dir.note.next_stamp)
IsTooFar found next broken = ⊥

-- The block after a dump in memory.
abbrev pub found_ends : Found → ℕ
found_ends f = f.dir.note.place + f.dir.note.count + 2

-- The block after the dump is a 32-bit number.
abbrev pub EndsLow : Found → Type 0
EndsLow f = found_ends f < 2 ^ 32

-- The block after this dump, if it is on the reel and its number is at most `last`; otherwise `end`.
abbrev pub end_with : ℕ → ℕ → ℕ → Found → ℕ
end_with serial last end f = if (f.serial == serial) && nat_le f.dir.note.number last then found_ends f else end

-- The block after the reel's dumps up to that number, or `end` if there are none.
abbrev pub end_upto : ℕ → ℕ → ℕ → List Found → ℕ
end_upto serial last end [] = end
end_upto serial last end (f ∷ fs) = end_upto serial last (end_with serial last end f) fs

-- Rule 8 or 9 is broken by this intent.
abbrev pub IsIntentBroken : List Found → List Reel → Intent → ℕ → Broken → Type 0
IsIntentBroken found reels i last (NoReel serial) = (serial ≡ i.serial) × ((r : Reel) → Contains reels r → r.serial ≡ i.serial → ⊥)
IsIntentBroken found reels i last (Misplaced serial place end) =
    (serial ≡ i.serial) × (place ≡ i.place) × ((r : Reel) × Contains reels r × (r.serial ≡ i.serial)) × (end ≡ end_upto i.serial last 0 found) × (i.place ≡ end → ⊥)
IsIntentBroken found reels i last broken = ⊥

-- The intent's place isn't this end.
abbrev pub IsOff : Intent → ℕ → Broken → Type 0
IsOff i at (Misplaced serial place end) = (serial ≡ i.serial) × (place ≡ i.place) × (end ≡ at) × (i.place ≡ at → ⊥)
IsOff i at broken = ⊥

-- The reel of the intent is in the rack, and its place is the end of the reel's dumps.
pub record IsIntentPlaced (found : List Found) (reels : List Reel) (i : Intent) (last : ℕ) : Type 0 where
  pub reel : (r : Reel) × Contains reels r × (r.serial ≡ i.serial)
  pub place : i.place ≡ end_upto i.serial last 0 found

-- NONE OF THE RULES 5 TO 9 is broken.
pub record HeadFits (shelf : ℕ → List Dump) (reels : List Reel) (head : Head) : Type 0 where
  pub numbers : (d : Dump) → Contains (all_dumps shelf reels) d
      → (d.number ≤ head.last_dump) ⊎ IsIntended head.last_dump head.intent (all_dumps shelf reels) d
  pub has_last : 0 < head.last_dump → (d : Dump) × Contains (all_dumps shelf reels) d × (d.number ≡ head.last_dump)
  pub stamps : (d : Dump) → Contains (all_dumps shelf reels) d → d.next ≤ head.next_stamp
  pub intent : IfSome head.intent (IsPlaced shelf reels head.last_dump)

-- THE FIRST RULE of the disc that is broken, for any contents with this head.
abbrev pub IsFirstOfHead : (ℕ → List Dump) → List Reel → Head → Broken → Type 0
IsFirstOfHead shelf reels head b = (c : Contents) → c.head ≡ head → IsFirstOfDisc shelf reels c b
