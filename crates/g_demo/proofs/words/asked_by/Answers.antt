use Rattle.g_demo.proofs.WordLemmas.{run_word}
use Rattle.g_demo.proofs.words.asked_by.Goals as goal

pub returns-then-eq : goal.returns-then-eq
returns-then-eq c = (tt, run_word c.eq.result c.args.words.now _ c.in-len1.len_at_least c.in-len1.len_below c.eq.ensures c.if-eq.true)
