-- A file of whole blocks, of which the first ones count.
use Rattle.std.specs.Prelude.{ℕ, ◌+◌, ◌*◌, ◌<◌, List, [], ◌∷◌, ◌++◌, length, take, Option, option_map}
use Rattle.std.specs.Option.{ForSome}
use Rattle.g_tape.specs.Reel.{Remains, Shortened, Torn, Unchanged}
use Rattle.g_files.specs.Bytes.{blocks_of}
use Rattle.g_files.specs.declared.block_file.BlockFile.{BlockFile}
use Rattle.g_files.specs.declared.raw.RawFile.{Ghosts}

-- how many blocks there are, and the blocks if they are observable
pub record Blocks : Type 0 where
  pub len : ℕ
  pub held : Option (List (List ℕ))

-- the bytes of the file itself
abbrev pub content_of : {F : Type 0} {g : Ghosts F} → BlockFile F g → Option (List ℕ)
content_of {g = g} f = g.content f.file

abbrev pub len_of : {F : Type 0} {g : Ghosts F} → BlockFile F g → ℕ
len_of f = f.len

-- the blocks that count: the first ones of the file
abbrev pub blocks_seen : {F : Type 0} {g : Ghosts F} → BlockFile F g → Blocks
blocks_seen {g = g} f = record { len = f.len; held = option_map (blocks_of f.len) (g.content f.file) }

-- the file has no whole block after those that count
abbrev pub EndsThere : {F : Type 0} {g : Ghosts F} → BlockFile F g → Type 0
EndsThere {g = g} f = ForSome (g.content f.file) (λ bytes. length bytes < 512 * f.len + 512)

-- the blocks below block k
abbrev pub cut_blocks : ℕ → Blocks → Blocks
cut_blocks k b = record { len = k; held = option_map (take k) b.held }

-- these, and one more
abbrev pub ended : ℕ → List ℕ → Blocks → Blocks
ended k block b = record { len = k + 1; held = option_map (λ bs. take k bs ++ block ∷ []) b.held }

-- what a failed write of block k may leave: all blocks, those below it, or these and a block of any bytes
abbrev pub left_of : Remains → ℕ → Blocks → Blocks
left_of Unchanged k b = b
left_of Shortened k b = cut_blocks k b
left_of (Torn block) k b = ended k block b

-- how many calls on its file failed
abbrev pub faults_of : {F : Type 0} {g : Ghosts F} → BlockFile F g → ℕ
faults_of {g = g} f = g.faults f.file
