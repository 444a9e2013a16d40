use Rattle.g_lang.proofs.PieceLemmas.{UpTo}
use Rattle.g_lang.proofs.pieces.split_at_comma.Given as goal

abbrev pub invariant-loop-i : goal.invariant-loop-i
invariant-loop-i l = UpTo l.text l.i l.depth
