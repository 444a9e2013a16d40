use Rattle.std.proofs.Common.{ℕ, Option, subst, sym, ◌∙◌}
use Rattle.g_store.specs.Making.{RefusesStart}
use Rattle.g_store.proofs.SafeLemmas.{load_is_not_stopped, made_at_stop}
use Rattle.g_store.proofs.StartedLemmas.{begun_is, load_refused, start_refused}
use Rattle.g_store.proofs.starting.start.Goals as goal

pub returns-in-Err-clause-refused : goal.returns-in-Err-clause-refused
returns-in-Err-clause-refused g c =
    subst (λ f. RefusesStart (g.D.Disc.state c.args.disc) (g.T.Tapes.rack c.args.tapes) f (g.D.Disc.state c.in-Err.disc) (g.T.Tapes.rack c.args.tapes)) (sym c.into.ensures)
    (load_refused (g.D.Disc.state c.args.disc) (g.T.Tapes.rack c.args.tapes) (g.D.Disc.state c.in-Err.disc) c.in-Err.fault c.in-Err.ensures.only c.in-Err.ensures.refused c.in-Err.ensures.none)

pub returns-in-Ok-take_over-clause-ok : goal.returns-in-Ok-take_over-clause-ok
returns-in-Ok-take_over-clause-ok g c =
    begun_is (g.D.Disc.state c.args.disc) (g.T.Tapes.rack c.args.tapes) c.in-Ok.online c.in-Ok.ensures.ok c.take_over.new.online (g.T.Tapes.rack c.take_over.new.tapes) c.in-Ok-take_over.number
    c.in-Ok-take_over.ensures.takes

pub returns-in-Err-take_over-clause-refused : goal.returns-in-Err-take_over-clause-refused
returns-in-Err-take_over-clause-refused g c =
    subst (λ d. RefusesStart (g.D.Disc.state c.args.disc) (g.T.Tapes.rack c.args.tapes) c.in-Err-take_over.fault d (g.T.Tapes.rack c.take_over.new.tapes)) (sym c.into_disc.ensures)
    (start_refused (g.D.Disc.state c.args.disc) (g.T.Tapes.rack c.args.tapes) c.in-Ok.online c.in-Ok.ensures.ok c.take_over.new.online (g.T.Tapes.rack c.take_over.new.tapes) c.in-Err-take_over.fault
    c.in-Err-take_over.ensures.takes)

pub returns-in-Err-clause-durable_stopped : goal.returns-in-Err-clause-durable_stopped
returns-in-Err-clause-durable_stopped g c = λ is. absurd (load_is_not_stopped c.in-Err.fault c.in-Err.ensures.only (sym c.into.ensures ∙ is))

pub returns-in-Ok-take_over-clause-durable : goal.returns-in-Ok-take_over-clause-durable
returns-in-Ok-take_over-clause-durable g c = c.in-Ok-take_over.ensures.durable

pub returns-in-Err-take_over-clause-durable_stopped : goal.returns-in-Err-take_over-clause-durable_stopped
returns-in-Err-take_over-clause-durable_stopped g c = λ is.
    made_at_stop (Option ℕ) c.in-Err-take_over.fault (g.T.Tapes.rack c.args.tapes) (g.T.Tapes.rack c.take_over.new.tapes) c.in-Err-take_over.ensures.durable is
