-- What a power loss may leave of a file whose length changes: its whole sectors, of 512 bytes each. A piece of a sector may follow them.
use Rattle.std.specs.Prelude.{◌≡◌, ℕ, ◌+◌, ◌*◌, ◌<◌, ◌≤◌, List, All, Contains, length, slice_get, Option}
use Rattle.std.specs.Option.{ForSome}
use Rattle.g_base.specs.Block.{IsBlock}
use Rattle.g_tape.specs.Risk.{IsRemnant, Remnant}
use Rattle.g_files.specs.Bytes.{sectors_of}

-- The front of the remnant is whole sectors and fits, so the front by itself may be left.
pub record IsWhole (m : Remnant) : Type 0 where
  pub each : All IsBlock m.front
  pub fits : length m.front ≤ m.longest

-- a power loss leaves one of the remnants: these may be the sectors
abbrev pub LeavesSectors : List Remnant → List (List ℕ) → Type 0
LeavesSectors remnants left = (m : Remnant) × Contains remnants m × IsRemnant m left

-- a power loss may leave nothing that it couldn't leave before
abbrev pub LeavesNoOther : List Remnant → List Remnant → Type 0
LeavesNoOther old new = (left : List (List ℕ)) → LeavesSectors new left → LeavesSectors old left

-- a power loss may leave what reads see, if that is observable
abbrev pub LeavesRead : Option (List ℕ) → List Remnant → Type 0
LeavesRead content remnants = ForSome content (λ bytes. LeavesSectors remnants (sectors_of bytes))

-- The device had the sectors x. After a write of n bytes at position `at` it may have these: each sector of x before the range is unchanged,
-- and so is everything after the range.
pub record AreWritten (at n : ℕ) (x left : List (List ℕ)) : Type 0 where
  pub below : (i : ℕ) → 512 * i + 512 ≤ at → i < length x → slice_get left i ≡ slice_get x i
  pub above : (i : ℕ) → at + n ≤ 512 * i → slice_get left i ≡ slice_get x i

-- The device had the sectors x. After the length was set to n bytes it may have these: at most n bytes, and each sector of x that lies
-- within them is unchanged.
pub record AreResized (n : ℕ) (x left : List (List ℕ)) : Type 0 where
  pub most : 512 * length left ≤ n
  pub front : (i : ℕ) → 512 * i + 512 ≤ n → i < length x → slice_get left i ≡ slice_get x i
  pub whole : All IsBlock left

-- these may be the sectors after a write
abbrev pub LeavesWritten : ℕ → ℕ → List Remnant → List (List ℕ) → Type 0
LeavesWritten at n old left = (x : List (List ℕ)) × LeavesSectors old x × AreWritten at n x left

-- these may be the sectors after the length was set to n bytes
abbrev pub LeavesResized : ℕ → List Remnant → List (List ℕ) → Type 0
LeavesResized n old left = (x : List (List ℕ)) × LeavesSectors old x × AreResized n x left

-- the bytes have n whole sectors, and possibly a piece of one more
pub record HasSectors (n : ℕ) (bytes : List ℕ) : Type 0 where
  pub least : 512 * n ≤ length bytes
  pub most : length bytes < 512 * n + 512
