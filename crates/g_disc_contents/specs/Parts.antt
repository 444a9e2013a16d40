-- The blocks of a text.
use Rattle.std.specs.Prelude.{◌≡◌, ℕ, ◌*◌, List, length, drop, take, All, Some, [], slice_get, slice_index_or}
use Rattle.std.specs.List.{flat_map}
use Rattle.g_base.specs.Block.{IsBlock, blocks_for}
use Rattle.g_copy.specs.Copy.{bytes_at}

-- The block is part `part` of the text. Its bytes after the end of the text are unspecified.
pub record IsPart (text : List ℕ) (part : ℕ) (block : List ℕ) : Type 0 where
  pub front : take (length (drop (512 * part) text)) block ≡ take 512 (drop (512 * part) text)

-- A block of a copy is the corresponding part of its text.
abbrev pub BlocksAreParts : Type 0
BlocksAreParts = (blocks : List (List ℕ)) (places : List ℕ) (len part place : ℕ) (block : List ℕ) → All (λ k. IsBlock (slice_index_or blocks k [])) places
    → slice_get places part ≡ Some place → slice_get blocks place ≡ Some block → IsPart (bytes_at places len blocks) part block

-- Blocks hold a text if each of them is the corresponding part of it.
abbrev pub PartsJoin : Type 0
PartsJoin = (text : List ℕ) (blocks : List (List ℕ)) → All IsBlock blocks → length blocks ≡ blocks_for (length text)
    → ((part : ℕ) (block : List ℕ) → slice_get blocks part ≡ Some block → IsPart text part block) → take (length text) (flat_map (λ b. b) blocks) ≡ text

-- If blocks hold a text, each of them is the corresponding part of it.
abbrev pub JoinedAreParts : Type 0
JoinedAreParts = (text : List ℕ) (blocks : List (List ℕ)) (part : ℕ) (block : List ℕ) → All IsBlock blocks → take (length text) (flat_map (λ b. b) blocks) ≡ text
    → slice_get blocks part ≡ Some block → IsPart text part block
