use Rattle.g_program.proofs.WordLemmas.{is_check}
use Rattle.g_program.proofs.checking.check_words.Goals as goal

pub returns-then-eq : goal.returns-then-eq
returns-then-eq c = is_check c.eq.result c.args.words.now _ c.in-len1.len_at_least c.in-len1.len_below c.eq.ensures c.if-eq.true
