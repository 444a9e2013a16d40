use Rattle.std.proofs.Common.{ℕ, Bool, Err, Ok, Some, subst, sym}
use Rattle.g_store_meaning.specs.Answers.{IsStore}
use Rattle.g_store_meaning.specs.StoreInvariant.{StoreFacts}
use Rattle.g_store.specs.Events.{Opens}
use Rattle.g_store.proofs.FullLemmas.{opened_so, refused_by, refused_early}
use Rattle.g_store.proofs.OpenedLemmas.{opens_by, opens_refused}
use Rattle.g_store.proofs.store.Store.open_dump.Goals as goal

pub returns-in-Some-clause-event : goal.returns-in-Some-clause-event
returns-in-Some-clause-event g c = opens_refused c.args.serial c.args.self.now c.requires.running (subst IsStore c.self.view_is c.self.invariant) c.in-Some.fault c.in-Some.ensures

pub returns-in-Ok-clause-event : goal.returns-in-Ok-clause-event
returns-in-Ok-clause-event g c =
    subst
    (λ (n : ℕ).
    let s : StoreFacts = record { online = c.begin.new.online; rack = g.T.Tapes.rack c.begin.new.tapes; dump = Some c.in-Ok.dump; spent = c.self.inside.spent } in
    Opens c.args.serial c.args.self.now (Ok n) s) (sym c.number-number.ensures)
    (opens_by c.args.serial c.args.self.now _ c.self.view_is c.requires.running c.self.invariant (g.met.T.Tapes.well_formed _) (sym c.in-None.ensures) c.begin.new.online (g.T.Tapes.rack c.begin.new.tapes) (Ok c.in-Ok.dump)
    (record {
      ok = c.in-Ok.ensures.ok;
      refused = c.in-Ok.ensures.refused;
      left = c.in-Ok.ensures.left;
      stopped = c.in-Ok.ensures.stopped;
      reads = c.in-Ok.ensures.reads;
      causes = c.in-Ok.ensures.causes;
      tied = c.in-Ok.ensures.tied;
      keeps = c.in-Ok.ensures.keeps;
    }))

pub returns-in-Err-clause-event : goal.returns-in-Err-clause-event
returns-in-Err-clause-event g c =
    subst
    (λ (b : Bool).
    let s : StoreFacts = record { online = c.begin.new.online; rack = g.T.Tapes.rack c.begin.new.tapes; dump = c.self.inside.dump; spent = b } in
    Opens c.args.serial c.args.self.now (Err c.in-Err.fault) s) (sym c.is_stop-self-inside.ensures)
    (opens_by c.args.serial c.args.self.now _ c.self.view_is c.requires.running c.self.invariant (g.met.T.Tapes.well_formed _) (sym c.in-None.ensures) c.begin.new.online (g.T.Tapes.rack c.begin.new.tapes) (Err c.in-Err.fault)
    (record {
      ok = c.in-Err.ensures.ok;
      refused = c.in-Err.ensures.refused;
      left = c.in-Err.ensures.left;
      stopped = c.in-Err.ensures.stopped;
      reads = c.in-Err.ensures.reads;
      causes = c.in-Err.ensures.causes;
      tied = c.in-Err.ensures.tied;
      keeps = c.in-Err.ensures.keeps;
    }))

pub returns-in-Some-clause-refuses : goal.returns-in-Some-clause-refuses
returns-in-Some-clause-refuses g c = refused_early c.args.serial c.args.self.now c.in-Some.fault _ c.in-Some.ensures

pub returns-in-Ok-clause-refuses : goal.returns-in-Ok-clause-refuses
returns-in-Ok-clause-refuses g c = opened_so c.args.serial c.args.self.now c.number-number.result _

pub returns-in-Err-clause-refuses : goal.returns-in-Err-clause-refuses
returns-in-Err-clause-refuses g c = refused_by c.args.serial c.args.self.now _ c.self.view_is c.in-Err.fault (g.T.Tapes.rack c.begin.new.tapes) _ c.in-Err.ensures.refused c.in-Err.ensures.stopped
