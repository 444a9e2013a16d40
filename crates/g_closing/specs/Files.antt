-- The files of a disc and a rack, and when they hold what these are.
use Rattle.std.specs.Prelude.{◌≡◌, ℕ, ◌+◌, ◌*◌, ◌≤◌, Bool, true, false, List, Option, Some, length, map}
use Rattle.std.specs.List.{AllZip}
use Rattle.std.specs.Option.{ForSome}
use Rattle.g_base.specs.Counts.{Rose}
use Rattle.g_disc.specs.Disc.{DiscState, StayDurable}
use Rattle.g_tape.specs.Rack.{Rack}
use Rattle.g_tape.specs.Reads.{LeavesNoMore}
use Rattle.g_files.specs.Bytes.{blocks_of}
use Rattle.g_files.specs.FileDisc.{disc_faults, disc_file, disc_state}
use Rattle.g_files.specs.FileReel.{IsSaved, reel_file}
use Rattle.g_files.specs.FileTapes.{rack_faults, rack_of, rack_reels}
use Rattle.g_files.specs.declared.file_disc.FileDisc.{FileDisc}
use Rattle.g_files.specs.declared.file_tapes.FileTapes.{FileTapes}
use Rattle.g_files.specs.declared.raw.RawFile.{Ghosts}

-- The bytes of an image, and those of each reel's file in rising serial, if they are observable.
pub record Files : Type 0 where
  pub image : Option (List ℕ)
  pub reels : List (Option (List ℕ))

-- the files of a disc and a rack
abbrev pub files_of : {F L : Type 0} {g : Ghosts F} → FileDisc F g → FileTapes F L g → Files
files_of disc tapes = record { image = disc_file disc; reels = map reel_file (rack_reels tapes) }

-- THE IMAGE HOLDS THE DISC: it has the bytes of the disc's blocks, one block after the other, and no others.
pub record HoldsDisc (disc : DiscState) (bytes : List ℕ) : Type 0 where
  pub size : length bytes ≡ 512 * disc.size
  pub blocks : disc.held ≡ Some (blocks_of disc.size bytes)

-- THE FILES HOLD DISC AND RACK, if their bytes are observable: the image holds the disc; and each reel's file has exactly the reel's blocks, and
-- possibly a piece of a block after them.
pub record HoldDevices (disc : DiscState) (rack : Rack) (files : Files) : Type 0 where
  pub image : ForSome files.image (HoldsDisc disc)
  pub reels : AllZip IsSaved rack.reels files.reels

-- CLOSING changes nothing that a read or a count of a disc exposes, and durable blocks stay durable.
pub record ClosesDisc (old new : DiscState) : Type 0 where
  pub same : new ≡ record old { volatile = new.volatile; dropped = new.dropped }
  pub durable : StayDurable old new

-- The same of a rack: a power loss leaves nothing of its reels that it couldn't have left before.
pub record ClosesRack (old new : Rack) : Type 0 where
  pub same : new ≡ record old { risks = new.risks }
  pub no_more : LeavesNoMore old new

-- THE FILES WERE CLOSED: what disc and rack were before and are afterwards. If `closed`, the files hold them. If not, a call on one of the files
-- failed meanwhile.
pub record Closes {F L : Type 0} {g : Ghosts F} (closed : Bool) (old_disc new_disc : FileDisc F g) (old_rack new_rack : FileTapes F L g) : Type 0 where
  pub holds : closed ≡ true → HoldDevices (disc_state old_disc) (rack_of old_rack) (files_of new_disc new_rack)
  pub failed : closed ≡ false → Rose (disc_faults old_disc + rack_faults old_rack) (disc_faults new_disc + rack_faults new_rack)
  pub later : disc_faults old_disc + rack_faults old_rack ≤ disc_faults new_disc + rack_faults new_rack
  pub disc : ClosesDisc (disc_state old_disc) (disc_state new_disc)
  pub rack : ClosesRack (rack_of old_rack) (rack_of new_rack)

-- The same for a disc and two racks.
pub record ClosesPair {F L : Type 0} {g : Ghosts F} (closed : Bool) (old_disc new_disc : FileDisc F g) (old_first new_first : FileTapes F L g)
    (old_second new_second : FileTapes F L g) : Type 0 where
  pub holds : closed ≡ true → HoldDevices (disc_state old_disc) (rack_of old_first) (files_of new_disc new_first)
  pub holds_too : closed ≡ true → HoldDevices (disc_state old_disc) (rack_of old_second) (files_of new_disc new_second)
  pub failed : closed ≡ false → Rose (disc_faults old_disc + rack_faults old_first + rack_faults old_second)
      (disc_faults new_disc + rack_faults new_first + rack_faults new_second)
  pub disc : ClosesDisc (disc_state old_disc) (disc_state new_disc)
  pub first : ClosesRack (rack_of old_first) (rack_of new_first)
  pub second : ClosesRack (rack_of old_second) (rack_of new_second)
