use Rattle.std.proofs.Common.{sym, ◌∙◌, ap, subst}
use Rattle.g_day.specs.Parts.{IsReady, Seen, seen}
use Rattle.g_operator.specs.Rising.{line_of}
use Rattle.g_day.specs.System.{SystemFacts, facts_of}
use Rattle.g_operator.proofs.AnewLemmas.{anew_risen, anew_unrisen, anew_up, same_anew}
use Rattle.g_operator.proofs.DayLemmas.{same_line}
use Rattle.g_operator.proofs.WayLemmas.{raised_runs, risen_line, running_rise, unrisen_line}
use Rattle.g_operator.proofs.rising.rise_line.Goals as goal

pub raise-requires : goal.raise-requires
raise-requires g c =
    let at = ap (λ (f : SystemFacts). seen f c.day.inside.crew c.day.inside.count) (sym (ap (facts_of g.D.Disc.state g.T.Tapes.rack) c.in-Down.is)) ∙ c.day.view_is in
    let ready = subst (λ (s : Seen). IsReady s.system s.crew) (sym at) c.requires.ready in
    record { size = (ready.0, ready.1) }

pub comes_up-requires : goal.comes_up-requires
comes_up-requires g c =
    record { running = raised_runs c.args.rise (g.D.Disc.state c.in-Down.disc) (g.T.Tapes.rack c.in-Down.tapes) c.in-Ok.raised.store c.in-Ok.raised.made c.in-Ok.ensures.ok }

pub returns-in-Up-clause-line : goal.returns-in-Up-clause-line
returns-in-Up-clause-line g c =
    let at = ap (λ (f : SystemFacts). seen f c.day.inside.crew c.day.inside.count) (sym (ap (facts_of g.D.Disc.state g.T.Tapes.rack) c.in-Up.is)) ∙ c.day.view_is in
    same_line at c.refuse_or_go_down.ensures.day
    (running_rise c.args.rise c.in-Up.store c.day.inside.crew c.refuse_or_go_down.result.day.crew (subst (λ (s : Seen). IsReady s.system s.crew) (sym at) c.requires.ready) c.day.inside.count c.refuse_or_go_down.result.failure _ _ _ _ c.refuse_or_go_down.ensures.told)

pub returns-in-Ok-clause-line : goal.returns-in-Ok-clause-line
returns-in-Ok-clause-line g c =
    let at = ap (λ (f : SystemFacts). seen f c.day.inside.crew c.day.inside.count) (sym (ap (facts_of g.D.Disc.state g.T.Tapes.rack) c.in-Down.is)) ∙ c.day.view_is in
    same_line at c.comes_up.ensures.day
    (risen_line (g.D.Disc.state c.in-Down.disc) (g.T.Tapes.rack c.in-Down.tapes) c.day.inside.crew c.day.inside.count (subst (λ (s : Seen). IsReady s.system s.crew) (sym at) c.requires.ready)
    c.comes_up.result.failure c.comes_up.result.day.crew _ _ _ _ c.args.rise c.in-Ok.raised.store c.in-Ok.raised.made c.in-Ok.ensures.ok c.comes_up.ensures.opened c.comes_up.ensures.put)

pub returns-in-Err-clause-line : goal.returns-in-Err-clause-line
returns-in-Err-clause-line g c =
    let at = ap (λ (f : SystemFacts). seen f c.day.inside.crew c.day.inside.count) (sym (ap (facts_of g.D.Disc.state g.T.Tapes.rack) c.in-Down.is)) ∙ c.day.view_is in
    same_line at c.refuse_or_go_down-in-Err.ensures.day
    (unrisen_line (g.D.Disc.state c.in-Down.disc) (g.T.Tapes.rack c.in-Down.tapes) c.day.inside.crew c.day.inside.count (subst (λ (s : Seen). IsReady s.system s.crew) (sym at) c.requires.ready)
    c.refuse_or_go_down-in-Err.result.failure c.refuse_or_go_down-in-Err.result.day.crew _ _ _ _ c.args.rise c.in-Err.refused.fault (g.D.Disc.state c.in-Err.refused.disc) (g.T.Tapes.rack c.in-Err.refused.tapes) c.in-Err.ensures.refused c.refuse_or_go_down-in-Err.ensures.told)

pub returns-in-Up-clause-anew : goal.returns-in-Up-clause-anew
returns-in-Up-clause-anew g c =
    let at = ap (λ (f : SystemFacts). seen f c.day.inside.crew c.day.inside.count) (sym (ap (facts_of g.D.Disc.state g.T.Tapes.rack) c.in-Up.is)) ∙ c.day.view_is in
    same_anew (line_of c.args.rise) c.refuse_or_go_down.result.failure _ _ _ _ (g.K.Sink.written c.args.out.now) (g.K.Sink.written c.refuse_or_go_down.new.out) (g.K.Sink.faults c.args.out.now) (g.K.Sink.faults c.refuse_or_go_down.new.out) at c.refuse_or_go_down.ensures.day (anew_up c.args.rise c.in-Up.store c.day.inside.crew c.day.inside.count c.refuse_or_go_down.result.failure _ _ _ _ _)

pub returns-in-Ok-clause-anew : goal.returns-in-Ok-clause-anew
returns-in-Ok-clause-anew g c =
    let at = ap (λ (f : SystemFacts). seen f c.day.inside.crew c.day.inside.count) (sym (ap (facts_of g.D.Disc.state g.T.Tapes.rack) c.in-Down.is)) ∙ c.day.view_is in
    same_anew (line_of c.args.rise) c.comes_up.result.failure _ _ _ _ (g.K.Sink.written c.args.out.now) (g.K.Sink.written c.comes_up.new.out) (g.K.Sink.faults c.args.out.now) (g.K.Sink.faults c.comes_up.new.out) at c.comes_up.ensures.day
    (anew_risen (g.D.Disc.state c.in-Down.disc) (g.T.Tapes.rack c.in-Down.tapes) c.day.inside.crew c.day.inside.count (subst (λ (s : Seen). IsReady s.system s.crew) (sym at) c.requires.ready)
    c.comes_up.result.failure c.comes_up.result.day.crew _ _ _ _ c.args.rise c.in-Ok.raised.store c.in-Ok.raised.made c.in-Ok.ensures.ok c.comes_up.ensures.opened c.comes_up.ensures.put)

pub returns-in-Err-clause-anew : goal.returns-in-Err-clause-anew
returns-in-Err-clause-anew g c =
    let at = ap (λ (f : SystemFacts). seen f c.day.inside.crew c.day.inside.count) (sym (ap (facts_of g.D.Disc.state g.T.Tapes.rack) c.in-Down.is)) ∙ c.day.view_is in
    same_anew (line_of c.args.rise) c.refuse_or_go_down-in-Err.result.failure _ _ _ _ (g.K.Sink.written c.args.out.now) (g.K.Sink.written c.refuse_or_go_down-in-Err.new.out) (g.K.Sink.faults c.args.out.now) (g.K.Sink.faults c.refuse_or_go_down-in-Err.new.out) at c.refuse_or_go_down-in-Err.ensures.day
    (anew_unrisen (g.D.Disc.state c.in-Down.disc) (g.T.Tapes.rack c.in-Down.tapes) c.day.inside.crew c.day.inside.count (subst (λ (s : Seen). IsReady s.system s.crew) (sym at) c.requires.ready)
    c.refuse_or_go_down-in-Err.result.failure c.refuse_or_go_down-in-Err.result.day.crew _ _ _ _ c.args.rise c.in-Err.refused.fault (g.D.Disc.state c.in-Err.refused.disc) (g.T.Tapes.rack c.in-Err.refused.tapes) c.in-Err.ensures.refused c.refuse_or_go_down-in-Err.ensures.told)
