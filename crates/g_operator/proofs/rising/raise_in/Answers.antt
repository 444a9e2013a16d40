use Rattle.std.proofs.Common.{sym, ap, subst, inr}
use Rattle.g_disc.specs.Disc.{DiscState}
use Rattle.g_store_meaning.specs.StoreInvariant.{StoreFacts}
use Rattle.g_operator.specs.Rising.{Raises, RefusesRise}
use Rattle.g_operator.proofs.rising.raise_in.Goals as goal

pub returns-in-Ok-clause-ok : goal.returns-in-Ok-clause-ok
returns-in-Ok-clause-ok g c =
    subst (λ (s : StoreFacts). Raises c.args.rise (g.D.Disc.state c.args.disc.disc) (g.T.Tapes.rack c.args.tapes) s c.in-Ok.made) (sym c.filled.ensures) c.in-Ok.ensures.ok

pub returns-in-Err-clause-refused : goal.returns-in-Err-clause-refused
returns-in-Err-clause-refused g c =
    inr (subst (λ (d : DiscState). RefusesRise c.args.rise (g.D.Disc.state c.args.disc.disc) (g.T.Tapes.rack c.args.tapes) c.in-Err.refused.fault d (g.T.Tapes.rack c.in-Err.refused.tapes))
    (sym (ap g.D.Disc.state c.into_disc.ensures)) c.in-Err.ensures.refused)
