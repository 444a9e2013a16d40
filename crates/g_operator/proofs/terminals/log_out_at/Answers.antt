use Rattle.std.proofs.Common.{None, refl, subst, ◌≡◌, ◌++◌}
use Rattle.std.specs.Prelude.{codes}
use Rattle.g_job.specs.Terminal.{logged_out}
use Rattle.g_mop.specs.Seats.{none_text}
use Rattle.g_day.specs.Parts.{Seen, seen}
use Rattle.g_day.specs.System.{facts_of}
use Rattle.g_day.specs.Terminals.{ChangesAt}
use Rattle.g_operator.proofs.TerminalLemmas.{left_is, unleft_is}
use Rattle.g_operator.proofs.terminals.log_out_at.Goals as goal
use Rattle.g_run_model.specs.Lines.{open_at}

pub returns-in-Ok-clause-same : goal.returns-in-Ok-clause-same
returns-in-Ok-clause-same g c =
    subst (λ (s : Seen). seen (facts_of g.D.Disc.state g.T.Tapes.rack c.day.inside.system) c.logout.new.self c.day.inside.count ≡ record s { crew = c.logout.new.self }) c.day.view_is refl

pub returns-in-Ok-clause-left : goal.returns-in-Ok-clause-left
returns-in-Ok-clause-left g c =
    subst (λ (s : Seen). ChangesAt c.args.terminal logged_out s.count s.crew None c.logout.new.self (g.K.Sink.written c.args.out.now) (g.K.Sink.written c.args.out.now) (g.K.Sink.faults c.args.out.now) (g.K.Sink.faults c.args.out.now)) c.day.view_is
    (left_is c.args.terminal c.day.inside.count c.day.inside.crew c.logout.new.self _ _ (open_at c.args.terminal c.day.inside.crew.jobs) refl c.in-Ok.ensures)

pub returns-in-Err-clause-same : goal.returns-in-Err-clause-same
returns-in-Err-clause-same g c =
    subst (λ (s : Seen). seen (facts_of g.D.Disc.state g.T.Tapes.rack c.day.inside.system) c.logout.new.self c.day.inside.count ≡ record s { crew = c.logout.new.self }) c.day.view_is refl

pub returns-in-Err-clause-left : goal.returns-in-Err-clause-left
returns-in-Err-clause-left g c =
    subst (λ (s : Seen). ChangesAt c.args.terminal logged_out s.count s.crew c.say_made-failure.result c.logout.new.self
    (g.K.Sink.written c.args.out.now) (g.K.Sink.written c.say_made-failure.new.out) (g.K.Sink.faults c.args.out.now) (g.K.Sink.faults c.say_made-failure.new.out)) c.day.view_is
    (unleft_is c.args.terminal c.day.inside.count c.day.inside.crew c.logout.new.self c.say_made-failure.result _ _ _ _ c.in-Err.field-0 (open_at c.args.terminal c.day.inside.crew.jobs) refl c.in-Err.ensures
    (c.say_made-failure.ensures (codes "REFUSED " ++ none_text c.args.terminal) c.no_terminal-made.ensures))
