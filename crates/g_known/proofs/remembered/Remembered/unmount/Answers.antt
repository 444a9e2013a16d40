use Rattle.g_known.proofs.KnownLemmas.{known_unmounted}
use Rattle.g_known.proofs.remembered.Remembered.unmount.Goals as goal

pub returns-clause-known : goal.returns-clause-known
returns-clause-known g c = known_unmounted c.args.serial _ _ _ _ _ (g.met.T.Tapes.well_formed _) c.unmount.ensures c.forget.ensures c.requires.known
