use Rattle.std.proofs.Common.{◌∙◌, sym, ap, subst}
use Rattle.g_tape.specs.Rack.{Rack}
use Rattle.g_day.specs.Parts.{Seen}
use Rattle.g_day.specs.System.{Down, SystemFacts, facts_of}
use Rattle.g_run.specs.ScriptEnd.{TakenDown, both}
use Rattle.g_run.proofs.OverLemmas.{down_taken_down, up_taken_down}
use Rattle.g_run.proofs.over.taken_down.Goals as goal

pub returns-in-Up : goal.returns-in-Up
returns-in-Up g c =
    subst (λ (s : Seen). TakenDown s.system (both (g.D.Disc.state c.take_down-disc.result.0) (g.T.Tapes.rack c.into_tapes.result))) c.day.view_is
    (subst (λ (f : SystemFacts). TakenDown f (both (g.D.Disc.state c.take_down-disc.result.0) (g.T.Tapes.rack c.into_tapes.result))) (sym (ap (facts_of g.D.Disc.state g.T.Tapes.rack) c.in-Up.is))
    (up_taken_down c.in-Up.store c.take_down-disc.ensures.down _ _ c.take_down-disc.ensures.disc (ap g.T.Tapes.rack c.into_tapes.ensures ∙ c.take_down-disc.ensures.tapes)))

pub returns : goal.returns
returns g c =
    subst (λ (s : Seen). TakenDown s.system (both (g.D.Disc.state c.in-Down.disc) (g.T.Tapes.rack c.into_tapes-in-Down.result))) c.day.view_is
    (subst (λ (f : SystemFacts). TakenDown f (both (g.D.Disc.state c.in-Down.disc) (g.T.Tapes.rack c.into_tapes-in-Down.result))) (sym (ap (facts_of g.D.Disc.state g.T.Tapes.rack) c.in-Down.is))
    (subst (λ (r : Rack). TakenDown (Down (both (g.D.Disc.state c.in-Down.disc) (g.T.Tapes.rack c.in-Down.tapes))) (both (g.D.Disc.state c.in-Down.disc) r)) (sym (ap g.T.Tapes.rack c.into_tapes-in-Down.ensures))
    (down_taken_down (both (g.D.Disc.state c.in-Down.disc) (g.T.Tapes.rack c.in-Down.tapes)))))
