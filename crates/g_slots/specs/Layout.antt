-- The parts of a disc: block 0 is the gate, slot A is blocks 1 to 1,088, slot B is 1,089 to 2,176, and
-- the copy area follows.
use Rattle.std.specs.Prelude.{◌≡◌, ℕ, ◌+◌, ◌%◌, ◌<◌, ◌≤◌, ◌==◌, List, [], ◌∷◌, take, drop, replicate, Option, Some, slice_get, slice_index, slice_index_or, if◌then◌else◌}
use Rattle.std.specs.Option.{ForSome}
use Rattle.g_slots.specs.declared.side.Side.{Side}
use Rattle.g_slots.specs.declared.side.Side.TheVariants.{A, B}

abbrev pub other : Side → Side
other A = B
other B = A

-- the number of a slot's first block
abbrev pub start_of : Side → ℕ
start_of A = 1
start_of B = 1089

-- block j of the disc is in this slot
abbrev pub IsInSlot : Side → ℕ → Type 0
IsInSlot side j = (start_of side ≤ j) × (j < start_of side + 1088)

unfoldable pub slot : Side → List (List ℕ) → List (List ℕ)
slot side blocks = take 1088 (drop (start_of side) blocks)

unfoldable pub copy_area : List (List ℕ) → List (List ℕ)
copy_area blocks = drop 2177 blocks

-- the slot that the gate names: A if its first byte is even
unfoldable pub gate_side : List (List ℕ) → Side
gate_side blocks = if slice_index (slice_index_or blocks 0 []) 0 % 2 == 0 then A else B

-- the slot that a reader uses
abbrev pub current : List (List ℕ) → List (List ℕ)
current blocks = slot (gate_side blocks) blocks

-- the gate as a commit writes it: one byte, followed by zeros
abbrev pub byte_of : Side → ℕ
byte_of A = 0
byte_of B = 1

unfoldable pub gate_block : Side → List ℕ
gate_block side = byte_of side ∷ replicate 511 0

-- if the blocks are observable: the gate names this slot; and the gate is as a commit writes it
abbrev pub GateNames : Side → Option (List (List ℕ)) → Type 0
GateNames side held = ForSome held (λ blocks. gate_side blocks ≡ side)

abbrev pub GateWritten : Side → Option (List (List ℕ)) → Type 0
GateWritten side held = ForSome held (λ blocks. slice_get blocks 0 ≡ Some (gate_block side))
