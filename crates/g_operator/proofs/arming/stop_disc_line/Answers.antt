use Rattle.std.proofs.Common.{◌≡◌, refl, subst}
use Rattle.g_day.specs.BeginningAnew.{beside_new}
use Rattle.g_operator.specs.Arming.{disc_armed}
use Rattle.g_day.specs.Parts.{Seen}
use Rattle.g_day.specs.System.{devices_in, facts_of}
use Rattle.g_day.proofs.BesideLemmas.{ready_beside}
use Rattle.g_operator.proofs.AnewLemmas.{same_aside}
use Rattle.g_operator.proofs.DayLemmas.{ready_inside, same_line}
use Rattle.g_operator.proofs.StopLemmas.{disc_stop}
use Rattle.g_operator.proofs.arming.stop_disc_line.Goals as goal

pub returns-clause-armed : goal.returns-clause-armed
returns-clause-armed g c =
    subst (λ (s : Seen). devices_in (facts_of g.D.Disc.state g.T.Tapes.rack c.arm_disc.new.system) ≡ disc_armed c.args.k (devices_in s.system)) c.day.view_is c.arm_disc.ensures.armed.devices

pub returns-clause-line : goal.returns-clause-line
returns-clause-line g c =
    same_line c.day.view_is refl
    (disc_stop c.args.k (facts_of g.D.Disc.state g.T.Tapes.rack c.day.inside.system) (facts_of g.D.Disc.state g.T.Tapes.rack c.arm_disc.new.system) c.day.inside.crew c.day.inside.count c.arm_disc.ensures.armed
    (ready_inside c.day.view_is c.requires.ready) c.say-failure.result _ _ _ _ c.say-failure.ensures)

pub returns-clause-anew : goal.returns-clause-anew
returns-clause-anew g c = same_aside c.day.view_is (record {
  line = disc_stop c.args.k (beside_new (facts_of g.D.Disc.state g.T.Tapes.rack c.day.inside.system)) (beside_new (facts_of g.D.Disc.state g.T.Tapes.rack c.arm_disc.new.system)) c.day.inside.crew c.day.inside.count c.arm_disc.ensures.aside
      (ready_beside (facts_of g.D.Disc.state g.T.Tapes.rack c.day.inside.system) c.day.inside.crew (ready_inside c.day.view_is c.requires.ready)) c.say-failure.result _ _ _ _ c.say-failure.ensures;
  blank = c.arm_disc.ensures.blank;
})
