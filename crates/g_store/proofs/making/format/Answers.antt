use Rattle.std.proofs.Common.{sym, subst}
use Rattle.g_store.specs.Making.{RefusesFormat}
use Rattle.g_store.proofs.FormatLemmas.{format_refused, formatted_is, not_empty}
use Rattle.g_store.proofs.making.format.Goals as goal

pub returns-in-Some-clause-refused : goal.returns-in-Some-clause-refused
returns-in-Some-clause-refused g c = not_empty (g.D.Disc.state c.args.disc) (g.T.Tapes.rack c.args.tapes) c.in-Some.serial c.in-Some.ensures

pub returns-in-Ok-fresh-clause-ok : goal.returns-in-Ok-fresh-clause-ok
returns-in-Ok-fresh-clause-ok g c =
    formatted_is (g.D.Disc.state c.args.disc) c.in-Ok.tree.users c.in-Ok.tree.files c.in-Ok.ensures.files c.in-Ok.ensures.tree (g.T.Tapes.rack c.args.tapes) (g.met.T.Tapes.well_formed c.args.tapes)
    (sym c.in-None.ensures) c.in-Ok-fresh.online c.in-Ok-fresh.ensures.ok c.in-Ok-fresh.ensures.tied

pub returns-in-Err-fresh-clause-refused : goal.returns-in-Err-fresh-clause-refused
returns-in-Err-fresh-clause-refused g c =
    subst (λ f. RefusesFormat (g.D.Disc.state c.args.disc) (g.T.Tapes.rack c.args.tapes) f (g.D.Disc.state c.in-Err-fresh.disc) (g.T.Tapes.rack c.args.tapes)) (sym c.into.ensures)
    (format_refused (g.D.Disc.state c.args.disc) c.in-Ok.tree.users c.in-Ok.tree.files c.in-Ok.ensures.files c.in-Ok.ensures.tree (g.T.Tapes.rack c.args.tapes) (g.met.T.Tapes.well_formed c.args.tapes)
    c.in-None.ensures (g.D.Disc.state c.in-Err-fresh.disc) c.in-Err-fresh.fault
    (record { stopped = c.in-Err-fresh.ensures.stopped; same = c.in-Err-fresh.ensures.same; causes = c.in-Err-fresh.ensures.causes; durable = c.in-Err-fresh.ensures.durable; safe = c.in-Err-fresh.ensures.safe; survives = c.in-Err-fresh.ensures.survives; only = c.in-Err-fresh.ensures.only }))
