-- The script of a demonstration is valid.
use Rattle.std.specs.Prelude.{List, None, ℕ, ◌≤◌}
use Rattle.g_lines.specs.Lines.{lines_of}
use Rattle.g_script.specs.Script.{IsParsed}
use Rattle.g_script.specs.declared.operator.Timed.{Timed}
use Rattle.g_demo.specs.Script.{script_text}

-- THE SCRIPT IS GOOD for up to 1,000 rounds: its lines are those of items, and none of them is bad.
abbrev pub IsGood : Type 0
IsGood = (number rounds : ℕ) → rounds ≤ 1000 → (said : List Timed) × IsParsed (lines_of (script_text number rounds)) said None
