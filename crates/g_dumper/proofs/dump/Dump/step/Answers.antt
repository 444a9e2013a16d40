use Rattle.g_dumper.proofs.KeepLemmas.{completes_step, keeps_step, leaves_step}
use Rattle.g_dumper.proofs.dump.Dump.step.Goals as goal

pub returns-clause-keeps : goal.returns-clause-keeps
returns-clause-keeps g c =
    keeps_step c.args.self.now _ c.args.online.now _ _ _ _ (g.met.T.Tapes.well_formed _) c.requires.live c.requires.tied c.requires.open c.write_next.ensures.step c.write_next.ensures.open c.write_next.ensures.tied

pub returns-clause-dumped : goal.returns-clause-dumped
returns-clause-dumped g c = λ number is.
    completes_step c.args.self.now _ c.args.online.now _ _ _ _ number (g.met.T.Tapes.well_formed _) c.requires.live c.requires.tied c.requires.open c.write_next.ensures.step is

pub returns-clause-left : goal.returns-clause-left
returns-clause-left g c =
    leaves_step c.args.self.now _ c.args.online.now _ _ _ _ (g.met.T.Tapes.well_formed _) c.requires.live c.requires.tied c.requires.open c.write_next.ensures.step
