use Rattle.std.proofs.Common.{None, Some, refl, subst, ◌≡◌, ◌++◌}
use Rattle.std.specs.Prelude.{Result, codes}
use Rattle.g_job_table.specs.Seating.{TypesAt}
use Rattle.g_job_table.specs.declared.seating.NotTyped.{NotTyped}
use Rattle.g_job.specs.Terminal.{typed_to}
use Rattle.g_mop.specs.Seats.{none_text}
use Rattle.g_day.specs.declared.progress.Failure.TheVariants.{Memory}
use Rattle.g_day.specs.Parts.{Seen, seen}
use Rattle.g_day.specs.System.{facts_of}
use Rattle.g_day.specs.Terminals.{ChangesAt}
use Rattle.g_operator.proofs.TerminalLemmas.{nowhere_is, typed_is, untyped_is}
use Rattle.g_operator.proofs.terminals.type_at.Goals as goal
use Rattle.g_run_model.specs.Lines.{open_at}

pub returns-in-Ok-clause-same : goal.returns-in-Ok-clause-same
returns-in-Ok-clause-same g c =
    subst (λ (s : Seen). seen (facts_of g.D.Disc.state g.T.Tapes.rack c.day.inside.system) c.type_line.new.self c.day.inside.count ≡ record s { crew = c.type_line.new.self }) c.day.view_is refl

pub returns-in-Ok-clause-typed : goal.returns-in-Ok-clause-typed
returns-in-Ok-clause-typed g c =
    subst (λ (s : Seen). ChangesAt c.args.terminal (typed_to c.args.text) s.count s.crew None c.type_line.new.self (g.K.Sink.written c.args.out.now) (g.K.Sink.written c.args.out.now) (g.K.Sink.faults c.args.out.now) (g.K.Sink.faults c.args.out.now)) c.day.view_is
    (typed_is c.args.terminal c.day.inside.count c.args.text c.day.inside.crew c.type_line.new.self _ _ (open_at c.args.terminal c.day.inside.crew.jobs) refl c.in-Ok.ensures)

pub returns-in-Err-NoTerminal-clause-same : goal.returns-in-Err-NoTerminal-clause-same
returns-in-Err-NoTerminal-clause-same g c =
    subst (λ (s : Seen). seen (facts_of g.D.Disc.state g.T.Tapes.rack c.day.inside.system) c.type_line.new.self c.day.inside.count ≡ record s { crew = c.type_line.new.self }) c.day.view_is refl

pub returns-in-Err-NoTerminal-clause-typed : goal.returns-in-Err-NoTerminal-clause-typed
returns-in-Err-NoTerminal-clause-typed g c =
    let is = rw c.in-Err-NoTerminal.field-0-is at c.in-Err-NoTerminal.is in
    subst (λ (s : Seen). ChangesAt c.args.terminal (typed_to c.args.text) s.count s.crew c.say_made-failure.result c.type_line.new.self
    (g.K.Sink.written c.args.out.now) (g.K.Sink.written c.say_made-failure.new.out) (g.K.Sink.faults c.args.out.now) (g.K.Sink.faults c.say_made-failure.new.out)) c.day.view_is
    (nowhere_is c.args.terminal c.day.inside.count c.args.text c.day.inside.crew c.type_line.new.self c.say_made-failure.result _ _ _ _ (open_at c.args.terminal c.day.inside.crew.jobs) refl
    (subst (λ (r : Result (Unit {0}) NotTyped). TypesAt (open_at c.args.terminal c.day.inside.crew.jobs) c.args.text c.day.inside.crew c.type_line.new.self r) is c.type_line.ensures)
    (c.say_made-failure.ensures (codes "REFUSED " ++ none_text c.args.terminal) c.no_terminal-made.ensures))

pub returns-in-Err-NoMemory-clause-same : goal.returns-in-Err-NoMemory-clause-same
returns-in-Err-NoMemory-clause-same g c =
    subst (λ (s : Seen). seen (facts_of g.D.Disc.state g.T.Tapes.rack c.day.inside.system) c.type_line.new.self c.day.inside.count ≡ record s { crew = c.type_line.new.self }) c.day.view_is refl

pub returns-in-Err-NoMemory-clause-typed : goal.returns-in-Err-NoMemory-clause-typed
returns-in-Err-NoMemory-clause-typed g c =
    let is = rw c.in-Err-NoMemory.field-0-is at c.in-Err-NoMemory.is in
    subst (λ (s : Seen). ChangesAt c.args.terminal (typed_to c.args.text) s.count s.crew (Some Memory) c.type_line.new.self (g.K.Sink.written c.args.out.now) (g.K.Sink.written c.args.out.now) (g.K.Sink.faults c.args.out.now) (g.K.Sink.faults c.args.out.now)) c.day.view_is
    (untyped_is c.args.terminal c.day.inside.count c.args.text c.day.inside.crew c.type_line.new.self _ _ (open_at c.args.terminal c.day.inside.crew.jobs)
    (subst (λ (r : Result (Unit {0}) NotTyped). TypesAt (open_at c.args.terminal c.day.inside.crew.jobs) c.args.text c.day.inside.crew c.type_line.new.self r) is c.type_line.ensures))
