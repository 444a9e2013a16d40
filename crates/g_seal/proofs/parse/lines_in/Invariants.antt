use Rattle.std.proofs.Common.{length}
use Rattle.g_lines.specs.Lines.{lines_of}
use Rattle.g_seal.proofs.EntryLemmas.{HasParsed}
use Rattle.g_seal.proofs.parse.lines_in.Given as goal

abbrev pub invariant-loop-line : goal.invariant-loop-line
invariant-loop-line l = HasParsed (lines_of l.front) l.lines l.seal.dumps.items l.seal.files.items l.count

abbrev pub decreases-loop-line : goal.decreases-loop-line
decreases-loop-line l = length l.lines
