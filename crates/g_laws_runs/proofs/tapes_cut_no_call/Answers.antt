use Rattle.g_laws_runs.proofs.ClauseLemmas.{tapes_cut_no_call}
use Rattle.g_laws_runs.proofs.tapes_cut_no_call.Goals as goal

pub returns : goal.returns
returns c = tapes_cut_no_call
