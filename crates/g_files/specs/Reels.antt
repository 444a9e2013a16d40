-- Several reels in files.
use Rattle.std.specs.Prelude.{◌≡◌, ℕ, ◌<◌, List, All, length, map, slice_index_or, sum_by}
use Rattle.std.specs.List.{AllZip}
use Rattle.std.specs.Option.{ForSome}
use Rattle.g_tape.specs.Reel.{Reel}
use Rattle.g_files.specs.Ahead.{IsFresh, owner_of}
use Rattle.g_files.specs.FileReel.{IsSaved, reel_faults, reel_file, reel_of}
use Rattle.g_files.specs.ReelRisk.{ReelLeavesNoMore, risk_of}
use Rattle.g_files.specs.declared.ahead.ReadAhead.{ReadAhead}
use Rattle.g_files.specs.declared.file_reel.FileReel.{FileReel}
use Rattle.g_files.specs.declared.raw.RawFile.{Ghosts}

-- the reels in their files
abbrev pub reels_of : {F : Type 0} {g : Ghosts F} → List (FileReel F g) → List Reel
reels_of reels = map reel_of reels

-- how many calls on their files failed
abbrev pub faults_of : {F : Type 0} {g : Ghosts F} → List (FileReel F g) → ℕ
faults_of reels = sum_by reel_faults reels

-- what was read ahead is what the file of its reel has there
abbrev pub AreFresh : {F : Type 0} {g : Ghosts F} → ReadAhead → List (FileReel F g) → Type 0
AreFresh {F = F} {g = g} ahead reels = (d : FileReel F g) → owner_of ahead < length reels → ForSome (reel_file (slice_index_or reels (owner_of ahead) d)) (IsFresh ahead)

-- each file has exactly the blocks of its reel
abbrev pub AreSaved : {F : Type 0} {g : Ghosts F} → List (FileReel F g) → Type 0
AreSaved reels = All (λ r. IsSaved (reel_of r) (reel_file r)) reels

-- the same reel, of which a power loss may leave nothing that it couldn't have left before
abbrev pub IsLeftAlike : {F : Type 0} {g : Ghosts F} → FileReel F g → FileReel F g → Type 0
IsLeftAlike old new = (reel_of new ≡ reel_of old) × ((risk_of new).serial ≡ (risk_of old).serial) × ReelLeavesNoMore (reel_of old) (reel_of new) (risk_of old) (risk_of new)

-- the same of each reel
abbrev pub LeaveNoMore : {F : Type 0} {g : Ghosts F} → List (FileReel F g) → List (FileReel F g) → Type 0
LeaveNoMore old new = AllZip IsLeftAlike old new
