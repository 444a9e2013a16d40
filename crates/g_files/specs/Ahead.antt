-- Blocks that were read ahead.
use Rattle.std.specs.Prelude.{◌≡◌, ℕ, List, length}
use Rattle.g_files.specs.Bytes.{part}
use Rattle.g_files.specs.Window.{Window}
use Rattle.g_files.specs.declared.ahead.ReadAhead.{ReadAhead}

abbrev pub window_of : ReadAhead → Window
window_of a = a.blocks

-- the place in the rack of the file that they are of
abbrev pub owner_of : ReadAhead → ℕ
owner_of a = a.owner

-- these bytes of a file are what it has there
abbrev pub IsPartOf : Window → List ℕ → Type 0
IsPartOf w bytes = w.bytes ≡ part w.at (length w.bytes) bytes

-- what was read ahead is what the file has there
abbrev pub IsFresh : ReadAhead → List ℕ → Type 0
IsFresh a bytes = IsPartOf a.blocks bytes
