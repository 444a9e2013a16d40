use Rattle.g_tape.proofs.ReadLemmas as lemmas
use Rattle.g_tape.proofs.tapes.reads_only_read.Goals as goal

pub returns : goal.returns
returns c = lemmas.reads_only_read
