use Rattle.std.proofs.Common.{sym, ap, subst}
use Rattle.g_disc.specs.Disc.{DiscState}
use Rattle.g_run_model.specs.Devices.{Devices}
use Rattle.g_laws_runs.specs.BeginningAnew.{AreBlank, with_new_disc}
use Rattle.g_day.specs.BeginningAnew.{IsBlank, beside_new}
use Rattle.g_operator.specs.Arming.{HasArmed, disc_armed}
use Rattle.g_day.specs.System.{Down, SystemFacts, Up, facts_of}
use Rattle.g_operator.proofs.AnewLemmas.{blank_disc_armed}
use Rattle.g_operator.proofs.StopLemmas.{disc_down, disc_up}
use Rattle.g_operator.proofs.arming.arm_disc.Goals as goal

pub returns-in-Up-clause-armed : goal.returns-in-Up-clause-armed
returns-in-Up-clause-armed g c =
    subst (λ (f : SystemFacts). HasArmed (disc_armed c.args.k) f (Up c.arm_disc.new.self)) (sym (ap (facts_of g.D.Disc.state g.T.Tapes.rack) c.in-Up.is))
    (disc_up c.args.k c.in-Up.store c.arm_disc.new.self c.arm_disc.ensures.same c.arm_disc.ensures.armed)

pub returns-in-Up-clause-aside : goal.returns-in-Up-clause-aside
returns-in-Up-clause-aside g c =
    subst (λ (f : SystemFacts). HasArmed (disc_armed c.args.k) (beside_new f) (Up c.arm_disc.new.self)) (sym (ap (facts_of g.D.Disc.state g.T.Tapes.rack) c.in-Up.is))
    (disc_up c.args.k c.in-Up.store c.arm_disc.new.self c.arm_disc.ensures.same c.arm_disc.ensures.armed)

pub returns-in-Up-clause-blank : goal.returns-in-Up-clause-blank
returns-in-Up-clause-blank g c = subst (λ (f : SystemFacts). IsBlank f → IsBlank (Up c.arm_disc.new.self)) (sym (ap (facts_of g.D.Disc.state g.T.Tapes.rack) c.in-Up.is)) (λ b. b)

pub returns-in-Down-clause-armed : goal.returns-in-Down-clause-armed
returns-in-Down-clause-armed g c =
    let d : Devices = record { disc = g.D.Disc.state c.in-Down.disc; rack = g.T.Tapes.rack c.in-Down.field-1 } in
    subst (λ (x : DiscState). let e : Devices = record { disc = x; rack = g.T.Tapes.rack c.in-Down.field-1 } in HasArmed (disc_armed c.args.k) (facts_of g.D.Disc.state g.T.Tapes.rack c.args.system.now) (Down e)) (sym c.arm.ensures)
    (subst (λ (f : SystemFacts). HasArmed (disc_armed c.args.k) f (Down (disc_armed c.args.k d))) (sym (ap (facts_of g.D.Disc.state g.T.Tapes.rack) c.in-Down.is)) (disc_down c.args.k d))

pub returns-in-Down-clause-aside : goal.returns-in-Down-clause-aside
returns-in-Down-clause-aside g c =
    let d : Devices = record { disc = g.D.Disc.state c.in-Down.disc; rack = g.T.Tapes.rack c.in-Down.field-1 } in
    subst (λ (x : DiscState). let e : Devices = record { disc = x; rack = g.T.Tapes.rack c.in-Down.field-1 } in HasArmed (disc_armed c.args.k) (beside_new (facts_of g.D.Disc.state g.T.Tapes.rack c.args.system.now)) (Down (with_new_disc e))) (sym c.arm.ensures)
    (subst (λ (f : SystemFacts). HasArmed (disc_armed c.args.k) (beside_new f) (Down (disc_armed c.args.k (with_new_disc d)))) (sym (ap (facts_of g.D.Disc.state g.T.Tapes.rack) c.in-Down.is)) (disc_down c.args.k (with_new_disc d)))

pub returns-in-Down-clause-blank : goal.returns-in-Down-clause-blank
returns-in-Down-clause-blank g c =
    let d : Devices = record { disc = g.D.Disc.state c.in-Down.disc; rack = g.T.Tapes.rack c.in-Down.field-1 } in
    subst (λ (x : DiscState). let e : Devices = record { disc = x; rack = g.T.Tapes.rack c.in-Down.field-1 } in IsBlank (facts_of g.D.Disc.state g.T.Tapes.rack c.args.system.now) → AreBlank e) (sym c.arm.ensures)
    (subst (λ (f : SystemFacts). IsBlank f → AreBlank (disc_armed c.args.k d)) (sym (ap (facts_of g.D.Disc.state g.T.Tapes.rack) c.in-Down.is)) (blank_disc_armed c.args.k d))
