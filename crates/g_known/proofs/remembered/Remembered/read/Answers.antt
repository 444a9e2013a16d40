use Rattle.g_tape.proofs.ReadLemmas.{reading_only}
use Rattle.g_known.proofs.KnownLemmas.{all_after_reads}
use Rattle.g_known.proofs.remembered.Remembered.read.Goals as goal

pub returns-clause-known : goal.returns-clause-known
returns-clause-known g c = all_after_reads _ _ _ (reading_only _ _ _ _ _ _ c.read.ensures) c.requires.known
