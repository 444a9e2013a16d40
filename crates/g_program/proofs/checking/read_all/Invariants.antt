-- The text is a prefix of what the source had left.
use Rattle.std.proofs.Common.{◌≡◌, ◌-◌, ◌≤◌, ℕ, List, Some, vec_len}
use Rattle.g_run.specs.Input.{HasRead}
use Rattle.g_program.proofs.checking.read_all.Given as goal

abbrev pub invariant-pieces : goal.invariant-pieces
invariant-pieces g l = record {
  within : vec_len l.text ≤ 16781312;
  faults : g.S.Source.faults l.script ≡ g.S.Source.faults l.fn.script;
  told : (left : List ℕ) → g.S.Source.left l.fn.script ≡ Some left → HasRead left l.text.items (g.S.Source.left l.script);
}

abbrev pub decreases-pieces : goal.decreases-pieces
decreases-pieces g l = 16781312 - vec_len l.text
