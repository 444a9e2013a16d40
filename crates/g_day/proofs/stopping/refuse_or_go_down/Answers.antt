use Rattle.std.proofs.Common.{◌≡◌, ap, subst}
use Rattle.g_day.specs.Parts.{Seen, seen}
use Rattle.g_day.specs.System.{SystemFacts, facts_of}
use Rattle.g_day.specs.Telling.{TellsFault, system_behind}
use Rattle.g_day.proofs.stopping.refuse_or_go_down.Goals as goal

pub returns-clause-day : goal.returns-clause-day
returns-clause-day g c =
    subst (λ (s : Seen). seen (facts_of g.D.Disc.state g.T.Tapes.rack c.system_after_fault.result) c.tell_fault-failure.new.crew c.day.inside.count ≡ seen (system_behind c.args.fault s.system) c.tell_fault-failure.new.crew s.count) c.day.view_is
    (ap (λ (f : SystemFacts). seen f c.tell_fault-failure.new.crew c.day.inside.count) c.system_after_fault.ensures)

pub returns-clause-told : goal.returns-clause-told
returns-clause-told g c =
    subst (λ (s : Seen). TellsFault c.args.fault s.count s.crew c.tell_fault-failure.result c.tell_fault-failure.new.crew (g.K.Sink.written c.args.out.now) (g.K.Sink.written c.tell_fault-failure.new.out) (g.K.Sink.faults c.args.out.now) (g.K.Sink.faults c.tell_fault-failure.new.out))
    c.day.view_is c.tell_fault-failure.ensures
