-- WHICH REEL OF TWO IS REBUILT.
use Rattle.std.specs.Prelude.{◌==◌, ◌&&◌, ℕ, Bool, true, false, Option, Some, None, nat_lt, if◌then◌else◌}
use Rattle.g_duplex.specs.declared.twin.Twin.{Twin}
use Rattle.g_duplex.specs.declared.twin.Twin.TheVariants.{First, Second}

-- Of two reels with these numbers of blocks the one that has to be rebuilt from the other: none if they hold the same, the first if only that has no
-- block, and otherwise the second.
abbrev pub lost_of : ℕ → ℕ → Bool → Option Twin
lost_of first second true = None
lost_of first second false = Some (if (first == 0) && nat_lt 0 second then First else Second)
