use Rattle.std.proofs.Common.{refl, sym, ◌∙◌, ap, subst}
use Rattle.g_disc.specs.Disc.{DiscState}
use Rattle.g_tape.specs.Rack.{Rack}
use Rattle.g_script.specs.declared.operator.Operator.TheVariants as line
use Rattle.g_run_model.specs.Devices.{Devices}
use Rattle.g_job_table.specs.Crew.{CrewState}
use Rattle.g_day.specs.Parts.{DidLine, IsReady, Seen, seen}
use Rattle.g_day.specs.System.{Down, SystemFacts, Up, facts_of}
use Rattle.g_operator.proofs.DayLemmas.{same_line}
use Rattle.g_day.proofs.JobLemmas.{down_shuts_not, none_dump, open_shuts_not, shut_down, some_dump}
use Rattle.g_operator.proofs.jobs.shut_line.Goals as goal

pub returns-in-Some : goal.returns-in-Some
returns-in-Some g c =
    let at = ap (λ (f : SystemFacts). seen f c.day.inside.crew c.day.inside.count) (sym (ap (facts_of g.D.Disc.state g.T.Tapes.rack) c.in-Up.is)) ∙ c.day.view_is in
    let (d, there, number) = some_dump c.in-Up.store.dump c.in-Some.number (sym c.dump_number.ensures ∙ c.in-Some.is) in
    let (crew, puts) = c.refuse_or_go_down.ensures.told in
    same_line at (c.refuse_or_go_down.ensures.day ∙ ap (λ (k : CrewState). seen (Up c.in-Up.store) k c.day.inside.count) crew)
    (open_shuts_not c.in-Up.store c.day.inside.crew (subst (λ (s : Seen). IsReady s.system s.crew) (sym at) c.requires.ready) c.day.inside.count c.in-Some.number d there number c.refuse_or_go_down.result.failure _ _ _ _ puts)

pub returns-in-None : goal.returns-in-None
returns-in-None g c =
    let at = ap (λ (f : SystemFacts). seen f c.day.inside.crew c.day.inside.count) (sym (ap (facts_of g.D.Disc.state g.T.Tapes.rack) c.in-Up.is)) ∙ c.day.view_is in
    let ready = subst (λ (s : Seen). IsReady s.system s.crew) (sym at) c.requires.ready in
    let none = none_dump c.in-Up.store.dump (sym c.dump_number.ensures ∙ c.in-None.is) in
    same_line at refl
    (subst (λ (d : DiscState). let e : Devices = record { disc = d; rack = g.T.Tapes.rack c.take_down-disc.result.1 } in
    DidLine line.Shut (seen (Up c.in-Up.store) c.day.inside.crew c.day.inside.count) c.goes_down-failure.result (seen (Down e) c.goes_down-failure.new.crew c.day.inside.count)
    (g.K.Sink.written c.args.out.now) (g.K.Sink.written c.goes_down-failure.new.out) (g.K.Sink.faults c.args.out.now) (g.K.Sink.faults c.goes_down-failure.new.out)) (sym c.take_down-disc.ensures.disc)
    (subst (λ (r : Rack). let e : Devices = record { disc = c.in-Up.store.online.disc; rack = r } in
    DidLine line.Shut (seen (Up c.in-Up.store) c.day.inside.crew c.day.inside.count) c.goes_down-failure.result (seen (Down e) c.goes_down-failure.new.crew c.day.inside.count)
    (g.K.Sink.written c.args.out.now) (g.K.Sink.written c.goes_down-failure.new.out) (g.K.Sink.faults c.args.out.now) (g.K.Sink.faults c.goes_down-failure.new.out)) (sym c.take_down-disc.ensures.tapes)
    (subst (λ (k : CrewState). let e : Devices = record { disc = c.in-Up.store.online.disc; rack = c.in-Up.store.rack } in
    DidLine line.Shut (seen (Up c.in-Up.store) c.day.inside.crew c.day.inside.count) c.goes_down-failure.result (seen (Down e) k c.day.inside.count)
    (g.K.Sink.written c.args.out.now) (g.K.Sink.written c.goes_down-failure.new.out) (g.K.Sink.faults c.args.out.now) (g.K.Sink.faults c.goes_down-failure.new.out)) (sym c.goes_down-failure.ensures.gone)
    (shut_down c.in-Up.store c.day.inside.crew ready c.day.inside.count (λ told u stands. c.take_down-disc.ensures.down told ready.0 u stands) none
    c.goes_down-failure.result _ _ _ _ c.goes_down-failure.ensures.put))))

pub returns-in-Down : goal.returns-in-Down
returns-in-Down g c =
    let d : Devices = record { disc = g.D.Disc.state c.in-Down.disc; rack = g.T.Tapes.rack c.in-Down.tapes } in
    let at = ap (λ (f : SystemFacts). seen f c.day.inside.crew c.day.inside.count) (sym (ap (facts_of g.D.Disc.state g.T.Tapes.rack) c.in-Down.is)) ∙ c.day.view_is in
    let (crew, puts) = c.refuse_or_go_down-in-Down.ensures.told in
    same_line at (c.refuse_or_go_down-in-Down.ensures.day ∙ ap (λ (k : CrewState). seen (Down d) k c.day.inside.count) crew)
    (down_shuts_not d c.day.inside.crew c.day.inside.count c.refuse_or_go_down-in-Down.result.failure _ _ _ _ (subst (λ (s : Seen). IsReady s.system s.crew) (sym at) c.requires.ready) puts)
