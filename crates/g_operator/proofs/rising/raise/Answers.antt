use Rattle.std.proofs.Common.{◌<◌, ◌≤◌, refl, sym, ap, subst, inl}
use Rattle.std.specs.Prelude.{IfErr, IfOk}
use Rattle.g_disc.specs.Disc.{DiscState}
use Rattle.g_operator.specs.Rising.{MakesNone, Raises}
use Rattle.g_operator.proofs.rising.raise.Goals as goal

pub raise_in-requires : goal.raise_in-requires
raise_in-requires g c = record { size = subst (λ (d : DiscState). (2177 < d.size) × (d.size ≤ 1048576)) (sym (ap (λ k. g.D.Disc.state k.disc) c.in-Ok.ensures.empty)) c.requires.size }

pub returns-in-Ok-clause-ok : goal.returns-in-Ok-clause-ok
returns-in-Ok-clause-ok g c =
    subst (λ (d : DiscState). IfOk c.raise_in.result (λ r. Raises c.args.rise d (g.T.Tapes.rack c.args.tapes) r.store r.made)) (ap (λ k. g.D.Disc.state k.disc) c.in-Ok.ensures.empty) c.raise_in.ensures.ok

pub returns-in-Ok-clause-refused : goal.returns-in-Ok-clause-refused
returns-in-Ok-clause-refused g c =
    subst (λ (d : DiscState). IfErr c.raise_in.result (λ e. MakesNone c.args.rise d (g.T.Tapes.rack c.args.tapes) e.fault (g.D.Disc.state e.disc) (g.T.Tapes.rack e.tapes)))
    (ap (λ k. g.D.Disc.state k.disc) c.in-Ok.ensures.empty) c.raise_in.ensures.refused

pub returns-in-Err-clause-refused : goal.returns-in-Err-clause-refused
returns-in-Err-clause-refused g c = inl (refl, ap g.D.Disc.state c.in-Err.ensures.unchanged, refl)
