use Rattle.std.proofs.Common.{sym, subst}
use Rattle.g_operator.specs.Rising.{RefusesRise}
use Rattle.g_operator.specs.declared.rising.Rise.{Rise}
use Rattle.g_operator.proofs.rising.made_by.Goals as goal

pub returns-in-Err-restore-clause-refused : goal.returns-in-Err-restore-clause-refused
returns-in-Err-restore-clause-refused g c =
    subst (λ (how : Rise). RefusesRise how (g.D.Disc.state c.args.disc.disc) (g.T.Tapes.rack c.args.tapes) c.in-Err-restore.refused.fault (g.D.Disc.state c.in-Err-restore.refused.disc.disc)
    (g.T.Tapes.rack c.in-Err-restore.refused.tapes)) (sym c.in-Restore.is) (c.in-Err-restore.ensures.refused, c.in-Err-restore.ensures.durable_stopped)
