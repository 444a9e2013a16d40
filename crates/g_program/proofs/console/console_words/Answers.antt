use Rattle.g_program.proofs.WordLemmas.{is_one, is_two}
use Rattle.g_program.proofs.console.console_words.Goals as goal

pub returns-then-eq : goal.returns-then-eq
returns-then-eq c = is_one c.eq.result c.args.words.now _ c.in-len1.len_at_least c.in-len1.len_below c.eq.ensures c.if-eq.true

pub returns-then-eq-2 : goal.returns-then-eq-2
returns-then-eq-2 c = is_two c.eq-in-len2.result c.args.words.now _ c.in-len2.len_at_least c.in-len2.len_below c.eq-in-len2.ensures c.if-eq-2.true
