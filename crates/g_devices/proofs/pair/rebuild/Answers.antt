use Rattle.std.proofs.Common.{◌≡◌, ◌∙◌, Some, sym}
use Rattle.g_duplex.specs.declared.twin.Standing.TheVariants.{Lost}
use Rattle.g_devices.proofs.pair.rebuild.Goals as goal

pub rebuild_twin-requires : goal.rebuild_twin-requires
rebuild_twin-requires c = λ lost e.
    let seen : Some (Lost lost) ≡ c.standing.result = sym e ∙ sym c.standing.ensures in
    let is = c.in-Some-Lost.is in
    let field = c.in-Some-Lost.field-0-is in
    cc
