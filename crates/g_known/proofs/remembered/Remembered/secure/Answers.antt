use Rattle.g_tape.proofs.ReadLemmas.{securing_only}
use Rattle.g_known.proofs.KnownLemmas.{all_after_reads}
use Rattle.g_known.proofs.remembered.Remembered.secure.Goals as goal

pub returns-clause-known : goal.returns-clause-known
returns-clause-known g c = all_after_reads _ _ _ (securing_only _ _ _ _ c.secure.ensures.secured c.secure.ensures.durable.no_more) c.requires.known
