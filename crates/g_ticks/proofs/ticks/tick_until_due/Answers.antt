use Rattle.std.proofs.Common.{None, sym, ap, subst, ◌∙◌, inr}
use Rattle.g_run_model.specs.Devices.{Devices}
use Rattle.g_job_table.specs.Numbers.{AreOpen}
use Rattle.g_day.specs.Parts.{IsReady, Seen, seen}
use Rattle.g_day.specs.System.{Down, SystemFacts, facts_of}
use Rattle.g_ticks.specs.Parts.{DidTicks, HasRoom, IsAtRest}
use Rattle.g_ticks.proofs.RestLemmas.{down_rests}
use Rattle.g_ticks.proofs.UntilLemmas.{ticks_end, ticks_start}
use Rattle.g_ticks.proofs.ticks.tick_until_due.Goals as goal

pub until_up-requires-clause-ready : goal.until_up-requires-clause-ready
until_up-requires-clause-ready g c =
    let at = ap (λ (f : SystemFacts). seen f c.day.inside.crew c.day.inside.count) (sym (ap (facts_of g.D.Disc.state g.T.Tapes.rack) c.in-Up.is)) ∙ c.day.view_is in
    subst (λ (s : Seen). IsReady s.system s.crew) (sym at) c.requires.ready

pub until_up-requires-clause-open : goal.until_up-requires-clause-open
until_up-requires-clause-open g c = subst (λ (s : Seen). AreOpen s.crew.jobs) (sym c.day.view_is) c.requires.open

pub until_up-requires-clause-room : goal.until_up-requires-clause-room
until_up-requires-clause-room g c =
    let at = ap (λ (f : SystemFacts). seen f c.day.inside.crew c.day.inside.count) (sym (ap (facts_of g.D.Disc.state g.T.Tapes.rack) c.in-Up.is)) ∙ c.day.view_is in
    subst (λ (s : Seen). HasRoom c.args.limit s) (sym at) c.requires.room

pub returns-in-Up : goal.returns-in-Up
returns-in-Up g c =
    let at = ap (λ (f : SystemFacts). seen f c.day.inside.crew c.day.inside.count) (sym (ap (facts_of g.D.Disc.state g.T.Tapes.rack) c.in-Up.is)) ∙ c.day.view_is in
    subst (λ (s : Seen). DidTicks g.F.Fn c.args.rules.now.tariff.now g.U.Fn c.args.rules.now.weigh.now IsAtRest c.args.limit s c.until_up.result.failure c.until_up.result.day
    (g.K.Sink.written c.args.out.now) (g.K.Sink.written c.until_up.new.out) (g.K.Sink.faults c.args.out.now) (g.K.Sink.faults c.until_up.new.out)) at c.until_up.ensures

pub returns-in-Down : goal.returns-in-Down
returns-in-Down g c =
    let d : Devices = record { disc = g.D.Disc.state c.in-Down.disc; rack = g.T.Tapes.rack c.in-Down.tapes } in
    let at = ap (λ (f : SystemFacts). seen f c.day.inside.crew c.day.inside.count) (sym (ap (facts_of g.D.Disc.state g.T.Tapes.rack) c.in-Down.is)) ∙ c.day.view_is in
    let ready = subst (λ (s : Seen). IsReady s.system s.crew) (sym at) c.requires.ready in
    let still = subst (λ (s : Seen). AreOpen s.crew.jobs) (sym at) c.requires.open in
    subst (λ (s : Seen). DidTicks g.F.Fn c.args.rules.now.tariff.now g.U.Fn c.args.rules.now.weigh.now IsAtRest c.args.limit s None (seen (Down d) c.day.inside.crew c.day.inside.count)
    (g.K.Sink.written c.args.out.now) (g.K.Sink.written c.args.out.now) (g.K.Sink.faults c.args.out.now) (g.K.Sink.faults c.args.out.now)) at
    (ticks_end g.F.Fn c.args.rules.now.tariff.now g.U.Fn c.args.rules.now.weigh.now c.args.limit _ None (Down d) c.day.inside.crew c.day.inside.count _ _ _ _
    (ticks_start g.F.Fn c.args.rules.now.tariff.now g.U.Fn c.args.rules.now.weigh.now c.args.limit (seen (Down d) c.day.inside.crew c.day.inside.count) _ _ ready still) (λ none. inr (down_rests d c.day.inside.crew c.day.inside.count ready)))
