use Rattle.std.proofs.Common.{◌≡◌, sym, ◌∙◌, ap}
use Rattle.g_disc.specs.Disc.{DiscState}
use Rattle.g_tape.specs.Rack.{Rack}
use Rattle.g_plain.specs.declared.faults.StoreFault.TheVariants.{Stopped}
use Rattle.g_run_model.specs.Devices.{Devices}
use Rattle.g_day.specs.System.{Down, SystemFacts, facts_of}
use Rattle.g_day.specs.Telling.{system_behind}
use Rattle.g_day.proofs.stopping.stopped.Goals as goal

pub returns-in-Up : goal.returns-in-Up
returns-in-Up g c =
    ap (λ (d : DiscState). let e : Devices = record { disc = d; rack = g.T.Tapes.rack c.take_down-disc.result.1 } in Down e) c.take_down-disc.ensures.disc
    ∙ ap (λ (r : Rack). let e : Devices = record { disc = c.in-Up.store.online.disc; rack = r } in Down e) c.take_down-disc.ensures.tapes
    ∙ ap (λ (f : SystemFacts). system_behind Stopped f) (sym (ap (facts_of g.D.Disc.state g.T.Tapes.rack) c.in-Up.is))

pub returns-in-Down : goal.returns-in-Down
returns-in-Down g c =
    ap (λ (f : SystemFacts). system_behind Stopped f) (sym (ap (facts_of g.D.Disc.state g.T.Tapes.rack) c.in-Down.is))
