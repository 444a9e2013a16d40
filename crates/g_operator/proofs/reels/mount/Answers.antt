use Rattle.std.proofs.Common.{true, sym, ap, refl, subst}
use Rattle.g_tape.specs.Rack.{refuses_mount}
use Rattle.g_run_model.specs.Devices.{Devices}
use Rattle.g_day.specs.BeginningAnew.{IsBlank, beside_new}
use Rattle.g_operator.specs.Reels.{MountsOn}
use Rattle.g_day.specs.System.{Down, IsRunning, SystemFacts, Up, facts_of}
use Rattle.g_operator.proofs.AnewLemmas.{blank_mounting}
use Rattle.g_operator.proofs.ReelLemmas.{as_known, mounts_down, mounts_up}
use Rattle.g_operator.proofs.reels.mount.Goals as goal

pub returns-in-Up-clause-steps : goal.returns-in-Up-clause-steps
returns-in-Up-clause-steps g c =
    as_known (λ f a u. MountsOn c.args.serial f a u) _ _ _ _ _ (ap (facts_of g.D.Disc.state g.T.Tapes.rack) c.in-Up.is) refl
    (mounts_up c.args.serial c.in-Up.store c.mount.new.self (subst IsRunning (ap (facts_of g.D.Disc.state g.T.Tapes.rack) c.in-Up.is) c.requires.running) c.mount.result c.mount.ensures)

pub returns-in-Up-clause-aside : goal.returns-in-Up-clause-aside
returns-in-Up-clause-aside g c =
    as_known (λ f a u. MountsOn c.args.serial (beside_new f) a u) _ _ _ _ _ (ap (facts_of g.D.Disc.state g.T.Tapes.rack) c.in-Up.is) refl
    (mounts_up c.args.serial c.in-Up.store c.mount.new.self (subst IsRunning (ap (facts_of g.D.Disc.state g.T.Tapes.rack) c.in-Up.is) c.requires.running) c.mount.result c.mount.ensures)

pub returns-in-Up-clause-blank : goal.returns-in-Up-clause-blank
returns-in-Up-clause-blank g c = subst (λ (f : SystemFacts). IsBlank f → IsBlank (Up c.mount.new.self)) (sym (ap (facts_of g.D.Disc.state g.T.Tapes.rack) c.in-Up.is)) (λ b. b)

pub returns-in-Down-clause-steps : goal.returns-in-Down-clause-steps
returns-in-Down-clause-steps g c =
    as_known (λ f a u. MountsOn c.args.serial f a u) _ _ _ _ _ (ap (facts_of g.D.Disc.state g.T.Tapes.rack) c.in-Down.is) c.rack_answer.ensures
    (mounts_down c.args.serial _ c.mount-in-Down.result (g.T.Tapes.rack c.mount-in-Down.new.self) c.mount-in-Down.ensures)

pub returns-in-Down-clause-aside : goal.returns-in-Down-clause-aside
returns-in-Down-clause-aside g c =
    as_known (λ f a u. MountsOn c.args.serial (beside_new f) a u) _ _ _ _ _ (ap (facts_of g.D.Disc.state g.T.Tapes.rack) c.in-Down.is) c.rack_answer.ensures
    (mounts_down c.args.serial _ c.mount-in-Down.result (g.T.Tapes.rack c.mount-in-Down.new.self) c.mount-in-Down.ensures)

pub returns-in-Down-clause-blank : goal.returns-in-Down-clause-blank
returns-in-Down-clause-blank g c =
    let d : Devices = record { disc = g.D.Disc.state c.in-Down.field-0; rack = g.T.Tapes.rack c.in-Down.tapes } in
    let e : Devices = record { disc = g.D.Disc.state c.in-Down.field-0; rack = g.T.Tapes.rack c.mount-in-Down.new.self } in
    subst (λ (f : SystemFacts). IsBlank f → IsBlank (Down e)) (sym (ap (facts_of g.D.Disc.state g.T.Tapes.rack) c.in-Down.is))
    (blank_mounting refuses_mount true c.args.serial d c.mount-in-Down.result (g.T.Tapes.rack c.mount-in-Down.new.self) c.mount-in-Down.ensures)
