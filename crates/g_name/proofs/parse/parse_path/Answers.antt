use Rattle.std.proofs.Common.{refl}
use Rattle.g_name.proofs.PathLemmas.{word_is_name, one_word_name}
use Rattle.g_name.proofs.parse.parse_path.Goals as goal

pub returns-in-Some-clause-ok : goal.returns-in-Some-clause-ok
returns-in-Some-clause-ok c = rw c.in-Some.ensures.value (word_is_name c.args.text.now (c.in-Some.ensures.word.0 refl))

pub returns-in-Some-clause-read : goal.returns-in-Some-clause-read
returns-in-Some-clause-read c = λ n is same. rw c.in-Some.ensures.value (one_word_name c.args.text.now n (c.in-Some.ensures.word.0 refl) is same)
