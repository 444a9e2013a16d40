use Rattle.std.proofs.Common.{◌≡◌, ◌∙◌, Option, Some, ap, sym}
use Rattle.g_duplex.specs.declared.twin.Standing.{Standing}
use Rattle.g_duplex.specs.declared.twin.Standing.TheVariants.{Lost}
use Rattle.g_duplex_tests.proofs.racks.rebuild.Goals as goal

pub rebuild_twin-requires : goal.rebuild_twin-requires
rebuild_twin-requires c = λ lost e.
    let all : Some (Lost lost) ≡ Some (Lost c.in-Lost.twin) = sym e ∙ sym c.standing.ensures ∙ c.in-Some.is ∙ ap (λ (t : Standing). let o : Option Standing = Some t in o) c.in-Lost.is in
    cc
