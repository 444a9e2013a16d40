use Rattle.g_known.proofs.KnownLemmas.{known_mounted}
use Rattle.g_known.proofs.remembered.Remembered.mount.Goals as goal

pub returns-clause-known : goal.returns-clause-known
returns-clause-known g c = known_mounted c.args.serial _ _ _ _ (g.met.T.Tapes.well_formed _) c.mount.ensures c.requires.known
