use Rattle.std.proofs.Common.{sym, ap, subst}
use Rattle.g_tape.specs.Rack.{Rack}
use Rattle.g_run_model.specs.Devices.{Devices}
use Rattle.g_laws_runs.specs.BeginningAnew.{AreBlank, with_new_disc}
use Rattle.g_day.specs.BeginningAnew.{IsBlank, beside_new}
use Rattle.g_operator.specs.Arming.{HasArmed, tape_armed}
use Rattle.g_day.specs.System.{Down, SystemFacts, Up, facts_of}
use Rattle.g_operator.proofs.AnewLemmas.{blank_tape_armed}
use Rattle.g_operator.proofs.StopLemmas.{tape_down, tape_up}
use Rattle.g_operator.proofs.arming.arm_tape.Goals as goal

pub returns-in-Up-clause-armed : goal.returns-in-Up-clause-armed
returns-in-Up-clause-armed g c =
    subst (λ (f : SystemFacts). HasArmed (tape_armed c.args.k) f (Up c.arm_tape.new.self)) (sym (ap (facts_of g.D.Disc.state g.T.Tapes.rack) c.in-Up.is))
    (tape_up c.args.k c.in-Up.store c.arm_tape.new.self c.arm_tape.ensures.same c.arm_tape.ensures.armed)

pub returns-in-Up-clause-aside : goal.returns-in-Up-clause-aside
returns-in-Up-clause-aside g c =
    subst (λ (f : SystemFacts). HasArmed (tape_armed c.args.k) (beside_new f) (Up c.arm_tape.new.self)) (sym (ap (facts_of g.D.Disc.state g.T.Tapes.rack) c.in-Up.is))
    (tape_up c.args.k c.in-Up.store c.arm_tape.new.self c.arm_tape.ensures.same c.arm_tape.ensures.armed)

pub returns-in-Up-clause-blank : goal.returns-in-Up-clause-blank
returns-in-Up-clause-blank g c = subst (λ (f : SystemFacts). IsBlank f → IsBlank (Up c.arm_tape.new.self)) (sym (ap (facts_of g.D.Disc.state g.T.Tapes.rack) c.in-Up.is)) (λ b. b)

pub returns-in-Down-clause-armed : goal.returns-in-Down-clause-armed
returns-in-Down-clause-armed g c =
    let d : Devices = record { disc = g.D.Disc.state c.in-Down.field-0; rack = g.T.Tapes.rack c.in-Down.tapes } in
    subst (λ (x : Rack). let e : Devices = record { disc = g.D.Disc.state c.in-Down.field-0; rack = x } in HasArmed (tape_armed c.args.k) (facts_of g.D.Disc.state g.T.Tapes.rack c.args.system.now) (Down e)) (sym c.arm.ensures)
    (subst (λ (f : SystemFacts). HasArmed (tape_armed c.args.k) f (Down (tape_armed c.args.k d))) (sym (ap (facts_of g.D.Disc.state g.T.Tapes.rack) c.in-Down.is)) (tape_down c.args.k d))

pub returns-in-Down-clause-aside : goal.returns-in-Down-clause-aside
returns-in-Down-clause-aside g c =
    let d : Devices = record { disc = g.D.Disc.state c.in-Down.field-0; rack = g.T.Tapes.rack c.in-Down.tapes } in
    subst (λ (x : Rack). let e : Devices = record { disc = g.D.Disc.state c.in-Down.field-0; rack = x } in HasArmed (tape_armed c.args.k) (beside_new (facts_of g.D.Disc.state g.T.Tapes.rack c.args.system.now)) (Down (with_new_disc e))) (sym c.arm.ensures)
    (subst (λ (f : SystemFacts). HasArmed (tape_armed c.args.k) (beside_new f) (Down (tape_armed c.args.k (with_new_disc d)))) (sym (ap (facts_of g.D.Disc.state g.T.Tapes.rack) c.in-Down.is)) (tape_down c.args.k (with_new_disc d)))

pub returns-in-Down-clause-blank : goal.returns-in-Down-clause-blank
returns-in-Down-clause-blank g c =
    let d : Devices = record { disc = g.D.Disc.state c.in-Down.field-0; rack = g.T.Tapes.rack c.in-Down.tapes } in
    subst (λ (x : Rack). let e : Devices = record { disc = g.D.Disc.state c.in-Down.field-0; rack = x } in IsBlank (facts_of g.D.Disc.state g.T.Tapes.rack c.args.system.now) → AreBlank e) (sym c.arm.ensures)
    (subst (λ (f : SystemFacts). IsBlank f → AreBlank (tape_armed c.args.k d)) (sym (ap (facts_of g.D.Disc.state g.T.Tapes.rack) c.in-Down.is)) (blank_tape_armed c.args.k d))
