use Rattle.g_job.proofs.TerminalLemmas.{leaves_document}
use Rattle.g_job.proofs.laws.turns_keep_the_document.Goals as goal

pub returns : goal.returns
returns c = leaves_document
