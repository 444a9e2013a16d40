use Rattle.g_lang.proofs.ReadingLemmas.{reading-grammar, reading-one, reading-written, reading-command, reading-keeps}
use Rattle.g_lang.proofs.ReadLemmas.{label-line}
use Rattle.g_lang.proofs.laws.lines_are_read_by_the_grammar.Goals as goal

pub returns : goal.returns
returns c = record { reads = reading-grammar; one = reading-one; written = reading-written; command = reading-command; label = label-line; waiting = reading-keeps }
