use Rattle.std.proofs.Common.{Err, Ok, Result, ℕ, ◌∙◌, ap, subst, sym}
use Rattle.g_tape.specs.Rack.{AreReels}
use Rattle.g_plain.specs.declared.faults.StoreFault.{StoreFault}
use Rattle.g_store_meaning.specs.Answers.{IsStore}
use Rattle.g_store_meaning.specs.StoreInvariant.{StoreFacts}
use Rattle.g_store.proofs.ProcessedLemmas.{err_store, not_open, ok_store, process_early, process_err, process_ok}
use Rattle.g_store.proofs.ProcessingLemmas.{moves_of, refused_moves, refused_steps, steps_of}
use Rattle.g_store.proofs.store.Store.process.Goals as goal

pub process-requires-clause-pins : goal.process-requires-clause-pins
process-requires-clause-pins g c =
    c.self.invariant.pins (ap (λ (x : StoreFacts). x.spent) c.self.view_is ∙ c.requires.running)
    (ap (λ (x : StoreFacts). x.dump) c.self.view_is ∙ not_open c.args.serial c.args.self.now (sym c.in-None.ensures))

pub returns-in-Some-clause-processes : goal.returns-in-Some-clause-processes
returns-in-Some-clause-processes g c =
    process_early c.args.serial c.args.self.now c.in-Some.fault (subst IsStore c.self.view_is c.self.invariant) c.requires.running (sym c.in-Some.ensures)

pub returns-in-Some-clause-step : goal.returns-in-Some-clause-step
returns-in-Some-clause-step g c = refused_steps c.args.serial c.args.self.now c.in-Some.fault c.requires.running (sym c.in-Some.ensures)

pub returns-in-Some-clause-dumps : goal.returns-in-Some-clause-dumps
returns-in-Some-clause-dumps g c = refused_moves c.args.self.now

pub returns-in-Ok-clause-processes : goal.returns-in-Ok-clause-processes
returns-in-Ok-clause-processes g c =
    process_ok c.args.serial c.args.self.now _ _ _ _ c.self.view_is c.requires.running (sym c.in-None.ensures) c.process.new.online (g.T.Tapes.rack c.process.new.tapes) c.in-Ok.number c.in-Ok.ensures

pub returns-in-Ok-clause-step : goal.returns-in-Ok-clause-step
returns-in-Ok-clause-step g c =
    steps_of c.args.serial c.args.self.now _ _ _ _ c.self.view_is c.requires.running (sym c.in-None.ensures) (subst IsStore c.self.view_is c.self.invariant) (g.met.T.Tapes.well_formed _)
    (let r : Result ℕ StoreFault = Ok c.in-Ok.number in r) c.process.new.online (g.T.Tapes.rack c.process.new.tapes) _
    (ok_store c.args.serial c.args.self.now _ _ _ _ c.self.view_is c.requires.running (sym c.in-None.ensures) c.process.new.online (g.T.Tapes.rack c.process.new.tapes)) c.in-Ok.ensures

pub returns-in-Ok-clause-dumps : goal.returns-in-Ok-clause-dumps
returns-in-Ok-clause-dumps g c =
    moves_of c.args.serial c.args.self.now _ _ _ _ c.self.view_is c.requires.running (sym c.in-None.ensures) (subst IsStore c.self.view_is c.self.invariant) (g.met.T.Tapes.well_formed _)
    (let r : Result ℕ StoreFault = Ok c.in-Ok.number in r) c.process.new.online (g.T.Tapes.rack c.process.new.tapes) _
    (ok_store c.args.serial c.args.self.now _ _ _ _ c.self.view_is c.requires.running (sym c.in-None.ensures) c.process.new.online (g.T.Tapes.rack c.process.new.tapes)) c.in-Ok.ensures

pub invariant_of-self-in-Err : goal.invariant_of-self-in-Err
invariant_of-self-in-Err g c =
    (process_err c.args.serial c.args.self.now _ _ _ _ c.self.view_is c.requires.running (sym c.in-None.ensures) c.process.new.online (g.T.Tapes.rack c.process.new.tapes) c.in-Err.fault
    c.is_stop-self-inside.result c.is_stop-self-inside.ensures c.in-Err.ensures).keeps

pub returns-in-Err-clause-processes : goal.returns-in-Err-clause-processes
returns-in-Err-clause-processes g c =
    process_err c.args.serial c.args.self.now _ _ _ _ c.self.view_is c.requires.running (sym c.in-None.ensures) c.process.new.online (g.T.Tapes.rack c.process.new.tapes) c.in-Err.fault
    c.is_stop-self-inside.result c.is_stop-self-inside.ensures c.in-Err.ensures

pub returns-in-Err-clause-step : goal.returns-in-Err-clause-step
returns-in-Err-clause-step g c =
    steps_of c.args.serial c.args.self.now _ _ _ _ c.self.view_is c.requires.running (sym c.in-None.ensures) (subst IsStore c.self.view_is c.self.invariant) (g.met.T.Tapes.well_formed _)
    (let r : Result ℕ StoreFault = Err c.in-Err.fault in r) c.process.new.online (g.T.Tapes.rack c.process.new.tapes) _
    (err_store c.args.serial c.args.self.now _ _ _ _ c.self.view_is c.requires.running (sym c.in-None.ensures) c.process.new.online (g.T.Tapes.rack c.process.new.tapes) c.in-Err.fault
    c.is_stop-self-inside.result c.is_stop-self-inside.ensures) c.in-Err.ensures

pub returns-in-Err-clause-dumps : goal.returns-in-Err-clause-dumps
returns-in-Err-clause-dumps g c =
    moves_of c.args.serial c.args.self.now _ _ _ _ c.self.view_is c.requires.running (sym c.in-None.ensures) (subst IsStore c.self.view_is c.self.invariant) (g.met.T.Tapes.well_formed _)
    (let r : Result ℕ StoreFault = Err c.in-Err.fault in r) c.process.new.online (g.T.Tapes.rack c.process.new.tapes) _
    (err_store c.args.serial c.args.self.now _ _ _ _ c.self.view_is c.requires.running (sym c.in-None.ensures) c.process.new.online (g.T.Tapes.rack c.process.new.tapes) c.in-Err.fault
    c.is_stop-self-inside.result c.is_stop-self-inside.ensures) c.in-Err.ensures

pub returns-in-Some-clause-reels : goal.returns-in-Some-clause-reels
returns-in-Some-clause-reels g c = subst (λ (x : StoreFacts). AreReels x.rack.reels) c.self.view_is (g.met.T.Tapes.well_formed _)

pub returns-in-Ok-clause-reels : goal.returns-in-Ok-clause-reels
returns-in-Ok-clause-reels g c = subst (λ (x : StoreFacts). AreReels x.rack.reels) c.self.view_is (g.met.T.Tapes.well_formed _)

pub returns-in-Err-clause-reels : goal.returns-in-Err-clause-reels
returns-in-Err-clause-reels g c = subst (λ (x : StoreFacts). AreReels x.rack.reels) c.self.view_is (g.met.T.Tapes.well_formed _)
