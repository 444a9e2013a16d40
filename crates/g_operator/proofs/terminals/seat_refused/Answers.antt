use Rattle.std.proofs.Common.{subst, sym, ◌++◌}
use Rattle.std.specs.Prelude.{codes}
use Rattle.g_job_table.specs.declared.seating.NotSeated.{NotSeated}
use Rattle.g_mop.specs.Seats.{busy_text}
use Rattle.g_day.specs.Terminals.{TellsSeat}
use Rattle.g_operator.proofs.terminals.seat_refused.Goals as goal

pub returns-in-TerminalBusy : goal.returns-in-TerminalBusy
returns-in-TerminalBusy g c =
    subst (λ (w : NotSeated). TellsSeat w c.args.count c.say_made.result (g.K.Sink.written c.args.out.now) (g.K.Sink.written c.say_made.new.out) (g.K.Sink.faults c.args.out.now) (g.K.Sink.faults c.say_made.new.out)) (sym c.in-TerminalBusy.is)
    (c.say_made.ensures (codes "REFUSED " ++ busy_text c.in-TerminalBusy.terminal) c.busy-made.ensures)
