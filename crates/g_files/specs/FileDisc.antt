-- A disc on an image.
use Rattle.std.specs.Prelude.{◌≡◌, ◌↔◌, ◌<◌, ℕ, zero, suc, ◌+◌, ◌*◌, Bool, true, ◌&&◌, List, [], ◌∷◌, None, Option, option_map, if◌then◌else◌}
use Rattle.g_base.specs.Fuse.{never}
use Rattle.g_disc.specs.Disc.{DiscState, is_durable, is_syncable}
use Rattle.g_files.specs.Bytes.{blocks_of}
use Rattle.g_files.specs.Durability.{Durability, HasDurable, HasSyncable}
use Rattle.g_files.specs.Image.{blocks_seen, durability_seen, faults_of, file_of}
use Rattle.g_files.specs.declared.file_disc.FileDisc.{FileDisc}
use Rattle.g_files.specs.declared.raw.RawFile.{Ghosts}

-- whether the n positions from `at` on all pass the test
unfoldable pub all_from : (ℕ → Bool) → ℕ → ℕ → Bool
all_from test at zero = true
all_from test at (suc n) = test (at + n) && all_from test at n

-- the numbers below n that don't pass the test
unfoldable pub failing : (ℕ → Bool) → ℕ → List ℕ
failing test zero = []
failing test (suc n) = if test n then failing test n else (n ∷ failing test n)

-- of n blocks, those that have a byte that isn't durable
abbrev pub volatile_of : ℕ → Durability → List ℕ
volatile_of n d = failing (λ k. all_from d.durable (512 * k) 512) n

-- of n blocks, those that have a byte that no sync makes durable
abbrev pub dropped_of : ℕ → Durability → List ℕ
dropped_of n d = failing (λ k. all_from d.syncable (512 * k) 512) n

-- a block of a disc is durable exactly if all its bytes are, and syncable exactly if all its bytes are
abbrev pub BlocksAreTheirBytes : Type 0
BlocksAreTheirBytes = (s : DiscState) (d : Durability) → s.volatile ≡ volatile_of s.size d → s.dropped ≡ dropped_of s.size d → (k : ℕ) → k < s.size
    → ((is_durable s k ≡ true) ↔ HasDurable (512 * k) 512 d) × ((is_syncable s k ≡ true) ↔ HasSyncable (512 * k) 512 d)

abbrev pub disc_size : {F : Type 0} {g : Ghosts F} → FileDisc F g → ℕ
disc_size d = d.image.size

-- the bytes of its file
abbrev pub disc_file : {F : Type 0} {g : Ghosts F} → FileDisc F g → Option (List ℕ)
disc_file d = file_of d.image

-- how many calls on its file failed
abbrev pub disc_faults : {F : Type 0} {g : Ghosts F} → FileDisc F g → ℕ
disc_faults d = faults_of d.image

-- Whether the disc was secured: `secure` or a write has succeeded, or its file was new, and no write of the gate has failed since.
abbrev pub is_secured : {F : Type 0} {g : Ghosts F} → FileDisc F g → Bool
is_secured d = d.image.settled

-- its state, in which the blocks are observable if the file's bytes are
abbrev pub disc_state : {F : Type 0} {g : Ghosts F} → FileDisc F g → DiscState
disc_state d = record {
  held = blocks_seen d.image;
  size = d.image.size;
  read_faults = d.read_faults;
  write_faults = d.write_faults;
  writes = d.writes;
  fuse = d.fuse;
  arms = d.arms;
  volatile = volatile_of d.image.size (durability_seen d.image);
  dropped = dropped_of d.image.size (durability_seen d.image);
}

-- the state of a disc of n blocks that was just opened on a file
abbrev pub opened : ℕ → Option (List ℕ) → Durability → DiscState
opened n content durability = record {
  held = option_map (blocks_of n) content;
  size = n;
  read_faults = 0;
  write_faults = 0;
  writes = 0;
  fuse = None;
  arms = never;
  volatile = volatile_of n durability;
  dropped = dropped_of n durability;
}
