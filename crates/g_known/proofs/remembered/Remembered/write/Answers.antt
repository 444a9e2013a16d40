use Rattle.g_known.proofs.KnownLemmas.{known_written}
use Rattle.g_known.proofs.remembered.Remembered.write.Goals as goal

pub returns-clause-known : goal.returns-clause-known
returns-clause-known g c = known_written c.args.serial c.args.k _ _ _ _ _ _ (g.met.T.Tapes.well_formed _) c.write.ensures.written c.forget_from.ensures c.requires.known
