use Rattle.std.proofs.Common.{ℕ, None, Option, Some, sym, ◌∙◌, ap, subst}
use Rattle.std.proofs.lemmas.Bool.{false≢true}
use Rattle.g_job_table.specs.Crew.{CrewState}
use Rattle.g_job_table.specs.Weights.{AreWeights}
use Rattle.g_day.specs.declared.progress.Failure.{Failure}
use Rattle.g_day.specs.Parts.{IsReady, seen}
use Rattle.g_day.specs.System.{SystemFacts, Up}
use Rattle.g_ticks.specs.Tick.{DidDump, DidTurn}
use Rattle.g_ticks.specs.Turning.{left_of}
use Rattle.g_ticks.proofs.LeftLemmas.{left_down, left_up, seen_up}
use Rattle.g_ticks.proofs.SameLemmas.{same_dump}
use Rattle.g_ticks.proofs.TickLemmas.{both_did, dump_did}
use Rattle.g_ticks.proofs.ticking.tick.Goals as goal

pub take_turn-requires-clause-ready : goal.take_turn-requires-clause-ready
take_turn-requires-clause-ready g c =
    let mid = c.dump_step.new.up in
    subst (λ (f : SystemFacts). IsReady f mid.crew) (left_up mid.store.running (sym c.spent.ensures ∙ c.if-spent.false)) (c.dump_step.ensures.did.keeps.ready c.in-None.is).0

pub take_turn-requires-clause-open : goal.take_turn-requires-clause-open
take_turn-requires-clause-open g c = (c.dump_step.ensures.did.keeps.ready c.in-None.is).1

pub take_turn-requires-clause-weighed : goal.take_turn-requires-clause-weighed
take_turn-requires-clause-weighed g c =
    subst (λ (k : CrewState). AreWeights g.U.Fn c.args.rules.now.weigh.now k.jobs c.args.weights.now) (sym (c.dump_step.ensures.crew (sym c.spent.ensures ∙ c.if-spent.false))) c.requires.weighed

pub returns-then-spent-clause-did : goal.returns-then-spent-clause-did
returns-then-spent-clause-did g c =
    let up = c.args.up.now in
    let mid = c.dump_step.new.up in
    let dumped : DidDump (seen (Up up.store.running) up.crew up.count) None (seen (left_of mid.store.running) mid.crew up.count) (g.K.Sink.written c.args.out.now) (g.K.Sink.written c.dump_step.new.out) (g.K.Sink.faults c.args.out.now) (g.K.Sink.faults c.dump_step.new.out) =
    subst (λ (x : Option Failure). DidDump (seen (Up up.store.running) up.crew up.count) x (seen (left_of mid.store.running) mid.crew up.count)
    (g.K.Sink.written c.args.out.now) (g.K.Sink.written c.dump_step.new.out) (g.K.Sink.faults c.args.out.now) (g.K.Sink.faults c.dump_step.new.out)) c.in-None.is c.dump_step.ensures.did in
    dump_did g.F.Fn c.args.rules.now.tariff.now g.U.Fn c.args.rules.now.weigh.now up.store.running up.crew up.count (left_of mid.store.running) mid.crew None (g.K.Sink.written c.args.out.now) (g.K.Sink.written c.dump_step.new.out) (g.K.Sink.faults c.args.out.now) (g.K.Sink.faults c.dump_step.new.out)
    (λ e. (record { disc = mid.store.running.online.disc; rack = mid.store.running.rack }, left_down mid.store.running (sym c.spent.ensures ∙ c.if-spent.true))) dumped

pub returns-else-spent-clause-did : goal.returns-else-spent-clause-did
returns-else-spent-clause-did g c =
    let up = c.args.up.now in
    let mid = c.dump_step.new.up in
    let new = c.take_turn.new.up in
    let dumped : DidDump (seen (Up up.store.running) up.crew up.count) None (seen (Up mid.store.running) mid.crew up.count) (g.K.Sink.written c.args.out.now) (g.K.Sink.written c.dump_step.new.out) (g.K.Sink.faults c.args.out.now) (g.K.Sink.faults c.dump_step.new.out) =
    same_dump (sym (seen_up mid.store.running mid.crew up.count (sym c.spent.ensures ∙ c.if-spent.false))) (subst (λ (x : Option Failure). DidDump (seen (Up up.store.running) up.crew up.count) x (seen (left_of mid.store.running) mid.crew up.count)
    (g.K.Sink.written c.args.out.now) (g.K.Sink.written c.dump_step.new.out) (g.K.Sink.faults c.args.out.now) (g.K.Sink.faults c.dump_step.new.out)) c.in-None.is c.dump_step.ensures.did) in
    let turned : DidTurn g.F.Fn c.args.rules.now.tariff.now g.U.Fn c.args.rules.now.weigh.now (seen (Up mid.store.running) mid.crew up.count) c.take_turn.result (seen (left_of new.store.running) new.crew up.count)
    (g.K.Sink.written c.dump_step.new.out) (g.K.Sink.written c.take_turn.new.out) (g.K.Sink.faults c.dump_step.new.out) (g.K.Sink.faults c.take_turn.new.out) =
    subst (λ (n : ℕ). DidTurn g.F.Fn c.args.rules.now.tariff.now g.U.Fn c.args.rules.now.weigh.now (seen (Up mid.store.running) mid.crew n) c.take_turn.result (seen (left_of new.store.running) new.crew n)
    (g.K.Sink.written c.dump_step.new.out) (g.K.Sink.written c.take_turn.new.out) (g.K.Sink.faults c.dump_step.new.out) (g.K.Sink.faults c.take_turn.new.out)) c.dump_step.ensures.count c.take_turn.ensures.did in
    both_did g.F.Fn c.args.rules.now.tariff.now g.U.Fn c.args.rules.now.weigh.now up.store.running up.crew up.count mid.store.running mid.crew (g.K.Sink.written c.args.out.now) (g.K.Sink.written c.dump_step.new.out) (g.K.Sink.faults c.args.out.now) (g.K.Sink.faults c.dump_step.new.out) dumped
    (left_of new.store.running) new.crew c.take_turn.result (g.K.Sink.written c.take_turn.new.out) (g.K.Sink.faults c.take_turn.new.out) turned

pub returns-in-Some-clause-did : goal.returns-in-Some-clause-did
returns-in-Some-clause-did g c =
    let up = c.args.up.now in
    let mid = c.dump_step.new.up in
    let dumped : DidDump (seen (Up up.store.running) up.crew up.count) (Some c.in-Some.failure) (seen (left_of mid.store.running) mid.crew up.count) (g.K.Sink.written c.args.out.now) (g.K.Sink.written c.dump_step.new.out) (g.K.Sink.faults c.args.out.now) (g.K.Sink.faults c.dump_step.new.out) =
    subst (λ (x : Option Failure). DidDump (seen (Up up.store.running) up.crew up.count) x (seen (left_of mid.store.running) mid.crew up.count)
    (g.K.Sink.written c.args.out.now) (g.K.Sink.written c.dump_step.new.out) (g.K.Sink.faults c.args.out.now) (g.K.Sink.faults c.dump_step.new.out)) c.in-Some.is c.dump_step.ensures.did in
    dump_did g.F.Fn c.args.rules.now.tariff.now g.U.Fn c.args.rules.now.weigh.now up.store.running up.crew up.count (left_of mid.store.running) mid.crew (Some c.in-Some.failure) (g.K.Sink.written c.args.out.now) (g.K.Sink.written c.dump_step.new.out) (g.K.Sink.faults c.args.out.now) (g.K.Sink.faults c.dump_step.new.out)
    (λ e. absurd (let no : ⊥ = cc in no)) dumped

pub returns-else-spent-clause-count : goal.returns-else-spent-clause-count
returns-else-spent-clause-count g c = c.take_turn.ensures.count ∙ c.dump_step.ensures.count

pub returns-then-spent-clause-weighed : goal.returns-then-spent-clause-weighed
returns-then-spent-clause-weighed g c = λ none running. absurd (false≢true (sym running ∙ sym c.spent.ensures ∙ c.if-spent.true))

pub returns-else-spent-clause-weighed : goal.returns-else-spent-clause-weighed
returns-else-spent-clause-weighed g c = λ none running. c.take_turn.ensures.weighed none

pub take_turn-requires-clause-accounts : goal.take_turn-requires-clause-accounts
take_turn-requires-clause-accounts g c = c.dump_step.ensures.accounts c.requires.accounts

pub returns-then-spent-clause-accounts : goal.returns-then-spent-clause-accounts
returns-then-spent-clause-accounts g c = λ none running. absurd (false≢true (sym running ∙ sym c.spent.ensures ∙ c.if-spent.true))

pub returns-else-spent-clause-accounts : goal.returns-else-spent-clause-accounts
returns-else-spent-clause-accounts g c = c.take_turn.ensures.accounts
