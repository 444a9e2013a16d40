-- A part of a run that takes all its lines, and other lines after them.
use Rattle.std.specs.Prelude.{◌≡◌, ◌≤◌, ◌++◌, ℕ, List, [], ◌∷◌}
use Rattle.g_script.specs.declared.operator.Timed.{Timed}
use Rattle.g_run_model.specs.World.{World}

-- the first of some lines isn't due before this count
abbrev pub NotBefore : ℕ → List Timed → Type 0
NotBefore count [] = Unit {0}
NotBefore count (next ∷ lines) = count ≤ next.turn

abbrev pub with_lines : List Timed → World → World
with_lines lines w = record w { lines = lines }
