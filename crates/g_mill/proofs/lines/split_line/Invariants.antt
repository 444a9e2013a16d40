use Rattle.g_mill.proofs.LineLaws.{NoneBefore}
use Rattle.g_mill.proofs.lines.split_line.Given as goal

abbrev pub invariant-loop-i : goal.invariant-loop-i
invariant-loop-i l = NoneBefore l.text l.i
