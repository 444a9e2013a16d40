use Rattle.std.proofs.Common.{◌≡◌, ◌+◌, ◌-◌, ◌*◌, length, map}
use Rattle.std.specs.List.{range_with_len}
use Rattle.g_mill.specs.Machine.{words_for}
use Rattle.g_peri.specs.Layout.{packed, with_words, line_words}
use Rattle.g_peri.proofs.layout.put_line.Given as goal

abbrev pub invariant-loop-j : goal.invariant-loop-j
invariant-loop-j l = (length l.program.words ≡ length l.initial.program.words) × (l.program ≡ record l.initial.program { words = l.program.words }) × (with_words l.program.words (l.from + l.j) (map (λ j. packed l.line l.count (4 * j)) (range_with_len l.j (words_for l.count - l.j))) ≡ with_words l.initial.program.words l.from (line_words l.line l.count))
