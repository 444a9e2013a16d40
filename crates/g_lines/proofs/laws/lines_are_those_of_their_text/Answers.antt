use Rattle.g_lines.proofs.LineLemmas.{text-lines, lines-text, lines-last}
use Rattle.g_lines.proofs.laws.lines_are_those_of_their_text.Goals as goal

pub returns : goal.returns
returns c = record { lines = text-lines; text = lines-text; last = lines-last }
