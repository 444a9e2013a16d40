use Rattle.std.proofs.Common.{length}
use Rattle.g_mill.specs.Lines.{lines}
use Rattle.g_mill.proofs.LoadingLaws.{ReadSoFar}
use Rattle.g_mill.proofs.loading.read_words.Given as goal

abbrev pub invariant-loop-line : goal.invariant-loop-line
invariant-loop-line l = ReadSoFar l.size (lines l.text) l.words.items (lines l.rest)

abbrev pub decreases-loop-line : goal.decreases-loop-line
decreases-loop-line l = length l.rest
