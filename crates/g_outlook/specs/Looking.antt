-- THE EFFECT ON A RACK: each reel was mounted, read and unmounted.
use Rattle.std.specs.Prelude.{◌≡◌, ℕ, List, map, false}
use Rattle.g_base.specs.Counts.{Rose}
use Rattle.g_tape.specs.Rack.{Rack, is_mounted, reel}
use Rattle.g_tape.specs.Reads.{OnlyReads}
use Rattle.g_tape.specs.Reel.{with_mounted}

-- No reel of the rack is mounted.
abbrev pub IsUnmounted : Rack → Type 0
IsUnmounted rack = (s : ℕ) → is_mounted (reel s rack.reels) ≡ false

-- The rack with all reels unmounted.
abbrev pub unmounted : Rack → Rack
unmounted rack = record rack { reels = map (with_mounted false) rack.reels }

-- The call only reads the rack, and leaves no reel mounted. Its read faults rise if it returns a read fault, and are unchanged otherwise.
pub record LooksByCause (read_fault : Type 0) (before after : Rack) : Type 0 where
  pub only : OnlyReads (unmounted before) (unmounted after)
  pub down : IsUnmounted after
  pub kept : (read_fault → ⊥) → after.read_faults ≡ before.read_faults
  pub rose : read_fault → Rose before.read_faults after.read_faults
