use Rattle.g_duplex.proofs.AlikeLemmas as lemmas
use Rattle.g_duplex.proofs.laws.racks_answer_alike.Goals as goal

pub returns : goal.returns
returns c = lemmas.racks_answer_alike
