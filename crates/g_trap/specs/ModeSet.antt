-- A set of modes, as the sum of its modes' bits.
use Rattle.std.specs.Prelude.{ℕ, Bool, not, ◌==◌, bit_and}
use Rattle.g_trap.specs.declared.mode_set.Mode.{Mode}
use Rattle.g_trap.specs.declared.mode_set.Mode.TheVariants.{Read, Write, Append, Execute, Erase}

-- The bit of a mode.
abbrev pub mode_bit : Mode → ℕ
mode_bit Read = 16
mode_bit Write = 8
mode_bit Append = 4
mode_bit Execute = 2
mode_bit Erase = 1

-- The mode is in the set.
abbrev pub allows : ℕ → Mode → Bool
allows modes mode = not (bit_and modes (mode_bit mode) == 0)
