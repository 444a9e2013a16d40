use Rattle.g_demo.proofs.WordLemmas.{one_reading}
use Rattle.g_demo.proofs.law.words_have_one_reading.Goals as goal

pub returns : goal.returns
returns c = one_reading
