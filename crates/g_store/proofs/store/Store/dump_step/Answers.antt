use Rattle.std.proofs.Common.{Err, None, Ok, Some, ap, ◌∙◌, refl, subst}
use Rattle.g_store_model.specs.DumpSteps.{Completed, Going}
use Rattle.g_store_meaning.specs.StoreInvariant.{StoreFacts}
use Rattle.g_dumper.specs.declared.dump.DumpStep.{DumpStep}
use Rattle.g_dumper.specs.Invariant.{KeepsStore, LeavesDumps, behind_step, up_with}
use Rattle.g_dumper.specs.Steps.{Stepping, stepped}
use Rattle.g_store.proofs.StepLemmas.{event_by, safe_by, shelves_by}
use Rattle.g_store.proofs.store.Store.dump_step.Goals as goal

pub returns-in-Ok-Going-clause-event : goal.returns-in-Ok-Going-clause-event
returns-in-Ok-Going-clause-event g c =
    let step =
    subst
    (λ (x : DumpStep). Stepping c.in-Some.dump c.self.inside.online (g.T.Tapes.rack c.self.inside.tapes) (Ok (stepped x)) c.step.new.self c.step.new.online (g.T.Tapes.rack c.step.new.tapes))
    c.in-Ok-Going.field-0-is c.in-Ok-Going.ensures.step in
    let kept =
    subst
    (λ (x : DumpStep).
    KeepsStore (up_with c.self.inside.online (g.T.Tapes.rack c.self.inside.tapes) (Some c.in-Some.dump))
    (behind_step (Ok (stepped x)) c.step.new.self c.step.new.online (g.T.Tapes.rack c.step.new.tapes)))
    c.in-Ok-Going.field-0-is c.in-Ok-Going.ensures.keeps in
    event_by c.args.self.now _ c.self.view_is c.requires.running c.in-Some.dump c.in-Some.is c.step.new.self c.step.new.online (g.T.Tapes.rack c.step.new.tapes) (Ok Going) step (Some c.step.new.self)
    c.self.inside.spent refl c.self.invariant (g.met.T.Tapes.well_formed _) kept (ap (λ (s : StoreFacts). s.spent) c.self.view_is ∙ c.requires.running)

pub returns-in-Ok-Completed-clause-event : goal.returns-in-Ok-Completed-clause-event
returns-in-Ok-Completed-clause-event g c =
    let step =
    subst
    (λ (x : DumpStep). Stepping c.in-Some.dump c.self.inside.online (g.T.Tapes.rack c.self.inside.tapes) (Ok (stepped x)) c.step.new.self c.step.new.online (g.T.Tapes.rack c.step.new.tapes))
    c.in-Ok-Completed.field-0-is c.in-Ok-Completed.ensures.step in
    let kept =
    subst
    (λ (x : DumpStep).
    KeepsStore (up_with c.self.inside.online (g.T.Tapes.rack c.self.inside.tapes) (Some c.in-Some.dump))
    (behind_step (Ok (stepped x)) c.step.new.self c.step.new.online (g.T.Tapes.rack c.step.new.tapes)))
    c.in-Ok-Completed.field-0-is c.in-Ok-Completed.ensures.keeps in
    event_by c.args.self.now _ c.self.view_is c.requires.running c.in-Some.dump c.in-Some.is c.step.new.self c.step.new.online (g.T.Tapes.rack c.step.new.tapes)
    (Ok (Completed c.in-Ok-Completed.number)) step None c.self.inside.spent refl c.self.invariant (g.met.T.Tapes.well_formed _) kept
    (ap (λ (s : StoreFacts). s.spent) c.self.view_is ∙ c.requires.running)

pub returns-in-Err-clause-event : goal.returns-in-Err-clause-event
returns-in-Err-clause-event g c =
    event_by c.args.self.now _ c.self.view_is c.requires.running c.in-Some.dump c.in-Some.is c.step.new.self c.step.new.online (g.T.Tapes.rack c.step.new.tapes) (Err c.in-Err.fault) c.in-Err.ensures.step
    None c.is_stop-self-inside.result refl c.self.invariant (g.met.T.Tapes.well_formed _) c.in-Err.ensures.keeps c.is_stop-self-inside.ensures

pub returns-in-Ok-Going-clause-dumps : goal.returns-in-Ok-Going-clause-dumps
returns-in-Ok-Going-clause-dumps g c =
    let step =
    subst
    (λ (x : DumpStep). Stepping c.in-Some.dump c.self.inside.online (g.T.Tapes.rack c.self.inside.tapes) (Ok (stepped x)) c.step.new.self c.step.new.online (g.T.Tapes.rack c.step.new.tapes))
    c.in-Ok-Going.field-0-is c.in-Ok-Going.ensures.step in
    shelves_by c.args.self.now _ c.self.view_is c.requires.running c.in-Some.dump c.in-Some.is c.step.new.self c.step.new.online (g.T.Tapes.rack c.step.new.tapes) (Ok Going) step (Some c.step.new.self)
    c.self.inside.spent refl c.self.invariant (g.met.T.Tapes.well_formed _)

pub returns-in-Ok-Completed-clause-dumps : goal.returns-in-Ok-Completed-clause-dumps
returns-in-Ok-Completed-clause-dumps g c =
    let step =
    subst
    (λ (x : DumpStep). Stepping c.in-Some.dump c.self.inside.online (g.T.Tapes.rack c.self.inside.tapes) (Ok (stepped x)) c.step.new.self c.step.new.online (g.T.Tapes.rack c.step.new.tapes))
    c.in-Ok-Completed.field-0-is c.in-Ok-Completed.ensures.step in
    shelves_by c.args.self.now _ c.self.view_is c.requires.running c.in-Some.dump c.in-Some.is c.step.new.self c.step.new.online (g.T.Tapes.rack c.step.new.tapes)
    (Ok (Completed c.in-Ok-Completed.number)) step None c.self.inside.spent refl c.self.invariant (g.met.T.Tapes.well_formed _)

pub returns-in-Err-clause-dumps : goal.returns-in-Err-clause-dumps
returns-in-Err-clause-dumps g c =
    shelves_by c.args.self.now _ c.self.view_is c.requires.running c.in-Some.dump c.in-Some.is c.step.new.self c.step.new.online (g.T.Tapes.rack c.step.new.tapes) (Err c.in-Err.fault) c.in-Err.ensures.step
    None c.is_stop-self-inside.result refl c.self.invariant (g.met.T.Tapes.well_formed _)

pub returns-in-Ok-Going-clause-safe : goal.returns-in-Ok-Going-clause-safe
returns-in-Ok-Going-clause-safe g c =
    let step =
    subst
    (λ (x : DumpStep). Stepping c.in-Some.dump c.self.inside.online (g.T.Tapes.rack c.self.inside.tapes) (Ok (stepped x)) c.step.new.self c.step.new.online (g.T.Tapes.rack c.step.new.tapes))
    c.in-Ok-Going.field-0-is c.in-Ok-Going.ensures.step in
    let kept =
    subst
    (λ (x : DumpStep).
    KeepsStore (up_with c.self.inside.online (g.T.Tapes.rack c.self.inside.tapes) (Some c.in-Some.dump))
    (behind_step (Ok (stepped x)) c.step.new.self c.step.new.online (g.T.Tapes.rack c.step.new.tapes)))
    c.in-Ok-Going.field-0-is c.in-Ok-Going.ensures.keeps in
    let leaves =
    subst
    (λ (x : DumpStep).
    LeavesDumps c.in-Some.dump (up_with c.self.inside.online (g.T.Tapes.rack c.self.inside.tapes) (Some c.in-Some.dump)) (Ok (stepped x))
    (behind_step (Ok (stepped x)) c.step.new.self c.step.new.online (g.T.Tapes.rack c.step.new.tapes)))
    c.in-Ok-Going.field-0-is c.in-Ok-Going.ensures.left in
    safe_by c.args.self.now _ c.self.view_is c.requires.running c.in-Some.dump c.in-Some.is c.step.new.self c.step.new.online (g.T.Tapes.rack c.step.new.tapes)
    (Ok Going) step (Some c.step.new.self) c.self.inside.spent refl c.self.invariant kept leaves (g.met.T.Tapes.well_formed _)
    (ap (λ (s : StoreFacts). s.spent) c.self.view_is ∙ c.requires.running)

pub returns-in-Ok-Completed-clause-safe : goal.returns-in-Ok-Completed-clause-safe
returns-in-Ok-Completed-clause-safe g c =
    let step =
    subst
    (λ (x : DumpStep). Stepping c.in-Some.dump c.self.inside.online (g.T.Tapes.rack c.self.inside.tapes) (Ok (stepped x)) c.step.new.self c.step.new.online (g.T.Tapes.rack c.step.new.tapes))
    c.in-Ok-Completed.field-0-is c.in-Ok-Completed.ensures.step in
    let kept =
    subst
    (λ (x : DumpStep).
    KeepsStore (up_with c.self.inside.online (g.T.Tapes.rack c.self.inside.tapes) (Some c.in-Some.dump))
    (behind_step (Ok (stepped x)) c.step.new.self c.step.new.online (g.T.Tapes.rack c.step.new.tapes)))
    c.in-Ok-Completed.field-0-is c.in-Ok-Completed.ensures.keeps in
    let leaves =
    subst
    (λ (x : DumpStep).
    LeavesDumps c.in-Some.dump (up_with c.self.inside.online (g.T.Tapes.rack c.self.inside.tapes) (Some c.in-Some.dump)) (Ok (stepped x))
    (behind_step (Ok (stepped x)) c.step.new.self c.step.new.online (g.T.Tapes.rack c.step.new.tapes)))
    c.in-Ok-Completed.field-0-is c.in-Ok-Completed.ensures.left in
    safe_by c.args.self.now _ c.self.view_is c.requires.running c.in-Some.dump c.in-Some.is c.step.new.self c.step.new.online (g.T.Tapes.rack c.step.new.tapes)
    (Ok (Completed c.in-Ok-Completed.number)) step None c.self.inside.spent refl c.self.invariant kept leaves (g.met.T.Tapes.well_formed _)
    (ap (λ (s : StoreFacts). s.spent) c.self.view_is ∙ c.requires.running)

pub returns-in-Err-clause-safe : goal.returns-in-Err-clause-safe
returns-in-Err-clause-safe g c =
    safe_by c.args.self.now _ c.self.view_is c.requires.running c.in-Some.dump c.in-Some.is c.step.new.self c.step.new.online (g.T.Tapes.rack c.step.new.tapes) (Err c.in-Err.fault) c.in-Err.ensures.step
    None c.is_stop-self-inside.result refl c.self.invariant c.in-Err.ensures.keeps c.in-Err.ensures.left (g.met.T.Tapes.well_formed _) c.is_stop-self-inside.ensures
