-- A reel in a file.
use Rattle.std.specs.Prelude.{◌≡◌, ℕ, ◌+◌, ◌*◌, ◌<◌, ◌≤◌, List, None, length, Option, option_map}
use Rattle.std.specs.Option.{ForSome}
use Rattle.g_tape.specs.Reel.{Reel}
use Rattle.g_files.specs.Bytes.{blocks_of}
use Rattle.g_files.specs.BlockFile.{blocks_seen, content_of, faults_of}
use Rattle.g_files.specs.declared.file_reel.FileReel.{FileReel}
use Rattle.g_files.specs.declared.raw.RawFile.{Ghosts}

-- the bytes of its file
abbrev pub reel_file : {F : Type 0} {g : Ghosts F} → FileReel F g → Option (List ℕ)
reel_file r = content_of r.blocks

-- how many calls on its file failed
abbrev pub reel_faults : {F : Type 0} {g : Ghosts F} → FileReel F g → ℕ
reel_faults r = faults_of r.blocks

-- the reel: its blocks are the first ones of the file, observable if the file's bytes are; nobody counts how often they are read
abbrev pub reel_of : {F : Type 0} {g : Ghosts F} → FileReel F g → Reel
reel_of r = record {
  serial = r.state.serial;
  capacity = r.state.capacity;
  len = (blocks_seen r.blocks).len;
  mounted = r.state.mounted;
  blocks = (blocks_seen r.blocks).held;
  times_read = None;
}

-- The file has exactly the reel's blocks, and possibly a piece of a block after them.
abbrev pub IsSaved : Reel → Option (List ℕ) → Type 0
IsSaved reel content = ForSome content (λ bytes. (512 * reel.len ≤ length bytes) × (length bytes < 512 * reel.len + 512))
    × (reel.blocks ≡ option_map (blocks_of reel.len) content)
