-- Starting over: FORMAT on emptied reels, for any contents of the disc. The disc may name copies that no reel has, so disc
-- and rack needn't belong together. But a new disc and the same rack do, and the run is one from the state that these
-- represent.
use Rattle.std.specs.FinMap.{empty}
use Rattle.std.specs.Prelude.{◌≡◌, ℕ, ◌<◌, ◌++◌, ◌∷◌, true, false, Bool, List, [], All, None, Ok, Some, nat_lt, replicate}
use Rattle.g_base.specs.Counts.{Rose}
use Rattle.g_disc_contents.specs.Contents.{has}
use Rattle.g_plain.specs.PlainTree.{formatted}
use Rattle.g_script.specs.declared.operator.Operator.{Operator}
use Rattle.g_script.specs.declared.operator.Operator.TheVariants as line
use Rattle.g_script.specs.declared.operator.Timed.{Timed}
use Rattle.g_store_meaning.specs.Meaning.{told_reels}
use Rattle.g_store_meaning.specs.Reading.{AllTold, StandsForState, holding_of}
use Rattle.g_store_meaning.specs.StoreInvariant.{StoreFacts}
use Rattle.g_store_model.specs.CallStep.{Plain}
use Rattle.g_store_model.specs.Rising.{FormatStep}
use Rattle.g_store_model.specs.State.{Holding, State}
use Rattle.g_run_model.specs.Devices.{AreReadAs, Devices}
use Rattle.g_laws_runs.specs.NewDevices.{NewState}

-- Every reel that exposes its contents is empty.
pub record AreEmptied (d : Devices) : Type 0 where
  pub reels : All (λ r. r.blocks ≡ Some []) (told_reels d.rack)

-- Devices for starting over: they expose their contents, the disc holds anything, and no reel holds anything.
pub record AreBlank (d : Devices) : Type 0 where
  pub told : AllTold d.disc.held (told_reels d.rack)
  pub emptied : AreEmptied d
  pub unused : All (λ r. r.len ≡ 0) (told_reels d.rack)

-- The disc counted no failed read and no failed write.
pub record NoDiscFault (old new : Devices) : Type 0 where
  pub no_read : Rose old.disc.read_faults new.disc.read_faults → ⊥
  pub no_write : Rose old.disc.write_faults new.disc.write_faults → ⊥

-- The same devices, but with a disc of zeros.
abbrev pub with_new_disc : Devices → Devices
with_new_disc d = record d { disc = record d.disc { held = Some (replicate d.disc.size (replicate 512 0)) } }

-- The lines that don't use the filestore.
abbrev pub is_aside : Operator → Bool
is_aside (line.Mount serial) = true
is_aside (line.Unmount serial) = true
is_aside (line.StopDisc k) = true
is_aside (line.StopTape k) = true
is_aside what = false

-- The lines that may come before the system comes up: those, and FORMAT.
abbrev pub is_first : Operator → Bool
is_first line.Format = true
is_first what = is_aside what

-- The first line that isn't one of those is a FORMAT.
pub record BeginAnew (lines : List Timed) : Type 0 where
  pub front : List Timed
  pub format : Timed
  pub rest : List Timed
  pub are : lines ≡ front ++ (format ∷ rest)
  pub aside : All (λ next. is_aside next.what ≡ true) front
  pub formats : format.what ≡ line.Format

-- Emptied reels together with a new disc represent a state, one without a filestore.
abbrev pub EmptiedStand : Type 0
EmptiedStand = (d : Devices) → 2177 < d.disc.size → AreEmptied d → NewState (with_new_disc d)

-- What a new filestore holds: two users and no file, no dump and no intent.
abbrev pub first_holding : Holding
first_holding = record { tree = formatted; places = empty; last = 0; intent = None; kept = empty }

-- A store that FORMAT created on reels without blocks, for any contents of the disc: only the size of the disc matters to
-- it.
pub record IsFormatted (d : Devices) (new : StoreFacts) : Type 0 where
  pub running : new.spent ≡ false
  pub no_dump : new.dump ≡ None
  pub unkept : All (λ u. has new.online.changed u.number ≡ true) new.online.contents.users
  pub holds : (text : ℕ → List ℕ) → holding_of text [] new.online.contents ≡ first_holding
  pub size : new.online.disc.size ≡ d.disc.size
  pub reels : told_reels new.rack ≡ told_reels d.rack
  pub unused : All (λ r. nat_lt 0 r.len ≡ false) (told_reels d.rack)

-- Such a store represents the state that FORMAT makes of that of a new disc and the same reels.
abbrev pub FormatsAnew : Type 0
FormatsAnew = (d : Devices) (s t : State) (new : StoreFacts) → AreEmptied d → IsFormatted d new → AreReadAs (with_new_disc d) s → StandsForState new t → FormatStep s Plain (Ok tt) t
