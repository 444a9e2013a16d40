use Rattle.std.proofs.Common.{◌++◌, Err, Result, sym, ◌∙◌, ap}
use Rattle.std.specs.Prelude.{codes}
use Rattle.std.proofs.lemmas.Bool.{false≢true}
use Rattle.g_monitor.specs.Refusals.{fault_line}
use Rattle.g_plain.specs.declared.faults.StoreFault.{StoreFault}
use Rattle.g_store_model.specs.DumpSteps.{Stepped}
use Rattle.g_run_model.specs.Texts.{dump_text}
use Rattle.g_day.specs.Parts.{seen}
use Rattle.g_day.specs.System.{SystemFacts}
use Rattle.g_ticks.proofs.DumpLemmas.{as_stepped, did_completed, did_fails, did_going, did_lost, one_fault, some_there}
use Rattle.g_ticks.proofs.LeftLemmas.{left_fault, seen_up, unstopped}
use Rattle.g_ticks.proofs.SameLemmas.{same_dump}
use Rattle.g_ticks.proofs.dumping.step.Goals as goal

pub dump_step-requires-clause-open : goal.dump_step-requires-clause-open
dump_step-requires-clause-open g c = some_there c.args.up.now.store.running.dump c.args.number c.requires.number

pub returns-in-Ok-Going-clause-did : goal.returns-in-Ok-Going-clause-did
returns-in-Ok-Going-clause-did g c =
    let (event, steps, stay) = as_stepped c.args.up.now.store.running c.dump_step.new.self.running _ _ c.in-Ok-Going.field-0-is c.in-Ok-Going.ensures.event c.in-Ok-Going.ensures.steps (c.in-Ok-Going.ensures.dumps, c.in-Ok-Going.ensures.safe) in
    same_dump (seen_up c.dump_step.new.self.running c.args.up.now.crew c.args.up.now.count (unstopped c.dump_step.new.self.running.spent _ event.spent (λ e. let no : ⊥ = cc in no)))
    (did_going c.args.up.now.store.running c.dump_step.new.self.running c.requires.ready.0 c.args.up.now.crew c.args.up.now.count event steps stay c.requires.open (g.K.Sink.written c.args.out.now) (g.K.Sink.faults c.args.out.now))

pub returns-in-Ok-Completed-clause-did : goal.returns-in-Ok-Completed-clause-did
returns-in-Ok-Completed-clause-did g c =
    let (event, steps, stay) = as_stepped c.args.up.now.store.running c.dump_step.new.self.running _ _ c.in-Ok-Completed.field-0-is c.in-Ok-Completed.ensures.event c.in-Ok-Completed.ensures.steps (c.in-Ok-Completed.ensures.dumps, c.in-Ok-Completed.ensures.safe) in
    same_dump (seen_up c.dump_step.new.self.running c.args.up.now.crew c.args.up.now.count (unstopped c.dump_step.new.self.running.spent _ event.spent (λ e. let no : ⊥ = cc in no)))
    (did_completed c.args.up.now.store.running c.dump_step.new.self.running c.requires.ready.0 c.args.up.now.crew c.args.up.now.count c.in-Ok-Completed.done event steps stay c.requires.open c.say_made.result (g.K.Sink.written c.args.out.now) (g.K.Sink.written c.say_made.new.out) (g.K.Sink.faults c.args.out.now) (g.K.Sink.faults c.say_made.new.out)
    (c.say_made.ensures (dump_text c.in-Ok-Completed.done (codes "COMPLETED")) c.dump_text-made.ensures))

pub returns-then-spent-clause-did : goal.returns-then-spent-clause-did
returns-then-spent-clause-did g c =
    let stopped = sym c.spent.ensures ∙ c.if-spent.true in
    let fault = one_fault c.in-Err.fault (c.in-Err.ensures.event.spent.0 stopped) in
    same_dump (ap (λ (f : SystemFacts). seen f c.tell_fault.new.crew c.args.up.now.count) (left_fault c.dump_step.new.self.running c.in-Err.fault fault stopped))
    (did_fails c.args.up.now.store.running c.dump_step.new.self.running c.requires.ready.0 c.args.up.now.crew c.args.up.now.count c.in-Err.fault
    fault
    c.in-Err.ensures.event c.in-Err.ensures.steps (c.in-Err.ensures.dumps, c.in-Err.ensures.safe) c.tell_fault.result c.tell_fault.new.crew (g.K.Sink.written c.args.out.now) (g.K.Sink.written c.tell_fault.new.out) (g.K.Sink.faults c.args.out.now) (g.K.Sink.faults c.tell_fault.new.out) c.tell_fault.ensures)

pub returns-else-spent-clause-did : goal.returns-else-spent-clause-did
returns-else-spent-clause-did g c =
    let running = sym c.spent.ensures ∙ c.if-spent.false in
    same_dump (seen_up c.dump_step.new.self.running c.args.up.now.crew c.args.up.now.count running)
    (did_lost c.args.up.now.store.running c.dump_step.new.self.running c.requires.ready.0 c.args.up.now.crew c.args.up.now.count c.args.number c.requires.number c.in-Err.fault
    (λ stop. false≢true (sym running ∙ c.in-Err.ensures.event.spent.1 (ap (λ (f : StoreFault). let x : Result Stepped StoreFault = Err f in x) stop)))
    c.in-Err.ensures.event c.in-Err.ensures.steps (c.in-Err.ensures.dumps, c.in-Err.ensures.safe) c.requires.open c.say_made-else-spent.result (g.K.Sink.written c.args.out.now) (g.K.Sink.written c.say_made-else-spent.new.out) (g.K.Sink.faults c.args.out.now) (g.K.Sink.faults c.say_made-else-spent.new.out)
    (c.say_made-else-spent.ensures (dump_text c.args.number (codes "LOST " ++ fault_line c.in-Err.fault)) c.lost-made.ensures))
