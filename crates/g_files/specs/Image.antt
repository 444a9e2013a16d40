-- An image: a file, with the blocks that aren't written to it yet.
use Rattle.std.specs.Prelude.{ℕ, Bool, List, Option, length, option_map}
use Rattle.g_files.specs.Bytes.{blocks_of, put}
use Rattle.g_files.specs.Durability.{Durability, overlaid}
use Rattle.g_files.specs.declared.image.Image.{Image}
use Rattle.g_files.specs.declared.raw.RawFile.{Ghosts}

-- the bytes of the file itself
abbrev pub file_of : {F : Type 0} {g : Ghosts F} → Image F g → Option (List ℕ)
file_of {g = g} i = g.content i.file

-- the bytes that reads see: the file's, with the buffered ones written over them
abbrev pub seen : {F : Type 0} {g : Ghosts F} → Image F g → Option (List ℕ)
seen {g = g} i = option_map (put i.buffered.at i.buffered.bytes) (g.content i.file)

abbrev pub size_of : {F : Type 0} {g : Ghosts F} → Image F g → ℕ
size_of i = i.size

-- the same bytes as blocks
abbrev pub blocks_seen : {F : Type 0} {g : Ghosts F} → Image F g → Option (List (List ℕ))
blocks_seen i = option_map (blocks_of i.size) (seen i)

-- where the buffered bytes belong, and what they are
abbrev pub buffered_at : {F : Type 0} {g : Ghosts F} → Image F g → ℕ
buffered_at i = i.buffered.at

abbrev pub buffered_of : {F : Type 0} {g : Ghosts F} → Image F g → List ℕ
buffered_of i = i.buffered.bytes

-- which bytes of the file itself survive a power loss
abbrev pub durability_of : {F : Type 0} {g : Ghosts F} → Image F g → Durability
durability_of {g = g} i = g.durability i.file

-- the same for the bytes that reads see
abbrev pub durability_seen : {F : Type 0} {g : Ghosts F} → Image F g → Durability
durability_seen {g = g} i = overlaid i.buffered.at (length i.buffered.bytes) (g.durability i.file)

-- whether the gate is known to be durable
abbrev pub settled_of : {F : Type 0} {g : Ghosts F} → Image F g → Bool
settled_of i = i.settled

-- how many calls on its file failed
abbrev pub faults_of : {F : Type 0} {g : Ghosts F} → Image F g → ℕ
faults_of {g = g} i = g.faults i.file
