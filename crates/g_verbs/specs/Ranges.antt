-- Paths and units with their ranges enforced: a number out of range becomes the nearest one in range.
use Rattle.std.proofs.Common.{None, Option, Some, [], lit<, lit≤, max, min, ℕ, ◌<◌, ◌≤◌}
use Rattle.std.proofs.Math.Nat.{le-max_left, lt_of_le_of_lt, max-le, min-le_right}
use Rattle.std.specs.Prelude.{IfSome}
use Rattle.std.specs.Option.{option_map}
use Rattle.g_name.specs.Names.{Name}
use Rattle.g_name.specs.declared.path.Path.{Path}
use Rattle.g_peri.specs.declared.unit.Kind.{Kind}
use Rattle.g_peri.specs.declared.unit.Kind.TheVariants.{Cr}
use Rattle.g_peri.specs.declared.unit.Unit as unit

-- A generation, if there is one, is from 1 to 4,095.
abbrev pub IsGeneration : Option ℕ → Type 0
IsGeneration generation = IfSome generation (λ g. (1 ≤ g) × (g ≤ 4095))

-- The generation in range that is nearest to this number.
abbrev pub clamped : ℕ → ℕ
clamped g = max 1 (min g 4095)

-- A clamped generation is in range.
pub clamped_range : (generation : Option ℕ) → IsGeneration (option_map clamped generation)
clamped_range None = tt
clamped_range (Some g) = (le-max_left 1 (min g 4095), max-le (lit≤ tt) (min-le_right g 4095))

-- The path of a name, with its generation clamped.
abbrev pub path_with : Name → Path
path_with n = record {
  user = n.user;
  local = n.local;
  generation = option_map clamped n.generation;
  lang = n.lang;
  in_range = clamped_range n.generation;
}

-- The path with an empty name, used for a text that isn't a path.
abbrev pub no_path : Path
no_path = record { user = None; local = []; generation = None; lang = None; in_range = tt }

-- The lesser of a number and 7 is below 8.
pub below_eight : (number : ℕ) → min number 7 < 8
below_eight number = lt_of_le_of_lt (min-le_right number 7) (lit< tt)

-- The unit of a kind whose number is the nearest one in range.
abbrev pub unit_with : Kind → ℕ → unit.Unit
unit_with kind number = record { kind = kind; number = min number 7; in_range = below_eight number }

-- The unit used for a text that isn't a unit.
abbrev pub no_unit : unit.Unit
no_unit = unit_with Cr 0
