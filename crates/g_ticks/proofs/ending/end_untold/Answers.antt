use Rattle.std.proofs.Common.{List, [], subst, sym, ℕ}
use Rattle.g_rules.specs.declared.turn.Turn.TheVariants as turns
use Rattle.g_ticks.specs.Turning.{GoesOn, left_of}
use Rattle.g_ticks.proofs.EndedLemmas.{ends_by, whole_file}
use Rattle.g_ticks.proofs.TurningLemmas.{unbroken}
use Rattle.g_ticks.proofs.ending.end_untold.Goals as goal

pub stops-requires : goal.stops-requires
stops-requires g c = record { stopped = c.requires.stopped.1 c.in-Broken.is }

pub waits-requires-clause-running : goal.waits-requires-clause-running
waits-requires-clause-running g c = unbroken c.args.turn c.args.up.now.store.running c.requires.stopped (λ e. let is = c.in-Wants.is in let no : ⊥ = cc in no)

pub goes_on-requires-clause-running : goal.goes_on-requires-clause-running
goes_on-requires-clause-running g c = unbroken c.args.turn c.args.up.now.store.running c.requires.stopped (λ e. let is = c.in-Ran.is in let no : ⊥ = cc in no)

pub ends-requires-clause-running : goal.ends-requires-clause-running
ends-requires-clause-running g c = unbroken c.args.turn c.args.up.now.store.running c.requires.stopped (λ e. let is = c.in-Ended.is in let no : ⊥ = cc in no)

pub returns-in-Broken-clause-ends : goal.returns-in-Broken-clause-ends
returns-in-Broken-clause-ends g c =
    ends_by c.args.up.now.count c.args.number c.args.up.now.store.running c.args.up.now.crew [] turns.Broken c.args.turn c.stops.result (left_of c.stops.new.up.store.running) c.stops.new.up.crew
    (g.K.Sink.written c.args.out.now) (g.K.Sink.written c.stops.new.out) (g.K.Sink.faults c.args.out.now) (g.K.Sink.faults c.stops.new.out)
    c.in-Broken.is c.stops.ensures.ends

pub returns-in-Wants-clause-ends : goal.returns-in-Wants-clause-ends
returns-in-Wants-clause-ends g c =
    ends_by c.args.up.now.count c.args.number c.args.up.now.store.running c.args.up.now.crew [] (turns.Wants c.in-Wants.serial) c.args.turn c.waits.result (left_of c.waits.new.up.store.running) c.waits.new.up.crew
    (g.K.Sink.written c.args.out.now) (g.K.Sink.written c.waits.new.out) (g.K.Sink.faults c.args.out.now) (g.K.Sink.faults c.waits.new.out)
    c.in-Wants.is c.waits.ensures.goes

pub returns-in-Ran-clause-ends : goal.returns-in-Ran-clause-ends
returns-in-Ran-clause-ends g c =
    ends_by c.args.up.now.count c.args.number c.args.up.now.store.running c.args.up.now.crew [] _ c.args.turn c.goes_on.result (left_of c.goes_on.new.up.store.running) c.goes_on.new.up.crew _ _ _ _
    c.in-Ran.is (c.goes_on.ensures.goes _ _)

pub returns-in-Ended-clause-ends : goal.returns-in-Ended-clause-ends
returns-in-Ended-clause-ends g c =
    let (one, there, none) = c.requires.there in
    let (job, mid, out, on) = c.ends.ensures.ends in
    ends_by c.args.up.now.count c.args.number c.args.up.now.store.running c.args.up.now.crew [] _ c.args.turn c.ends.result (left_of c.ends.new.up.store.running) c.ends.new.up.crew
    (g.K.Sink.written c.args.out.now) (g.K.Sink.written c.ends.new.out) (g.K.Sink.faults c.args.out.now) (g.K.Sink.faults c.ends.new.out)
    c.in-Ended.is (
      job,
      mid,
      out,
      subst (λ (l : List ℕ). GoesOn c.args.up.now.store.running l mid c.ends.result (left_of c.ends.new.up.store.running) c.ends.new.up.crew
          (g.K.Sink.written c.args.out.now) (g.K.Sink.written c.ends.new.out) (g.K.Sink.faults c.args.out.now) (g.K.Sink.faults c.ends.new.out))
          (sym (whole_file c.args.number c.args.up.now.crew mid job one out there none)) on,
    )

pub ends-requires-clause-there : goal.ends-requires-clause-there
ends-requires-clause-there g c = let (one, there, none) = c.requires.there in (one, there)
