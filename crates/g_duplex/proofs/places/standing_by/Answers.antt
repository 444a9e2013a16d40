use Rattle.std.proofs.Common.{◌∙◌, ℕ, List, ap, sym}
use Rattle.std.proofs.lemmas.List.{take_all}
use Rattle.std.specs.Prelude.{find, ◌==◌}
use Rattle.g_duplex.specs.declared.twin.Twin.{Twin}
use Rattle.g_duplex.specs.declared.twin.Twin.TheVariants.{First}
use Rattle.g_duplex.specs.Places.{standing_of_found}
use Rattle.g_duplex.proofs.PlaceLemmas.{found_there, not_found_more}
use Rattle.g_duplex.proofs.places.standing_by.Goals as goal

pub loop-entry-preserved : goal.loop-entry-preserved
loop-entry-preserved c = not_found_more c.args.serial c.args.lost.now c.loop-entry.entry-index (0, First) c.loop-entry-test.true c.loop-entry.invariant c.if-entry-serial.false

pub returns-then-entry-serial : goal.returns-then-entry-serial
returns-then-entry-serial c =
    sym (ap standing_of_found (found_there c.args.serial c.args.lost.now c.loop-entry.entry-index (0, First) c.loop-entry-test.true c.loop-entry.invariant c.if-entry-serial.true))

pub returns : goal.returns
returns c =
    sym (ap (λ (es : List (ℕ × Twin)). standing_of_found (find (λ (entry : ℕ × Twin). entry.0 == c.args.serial) es)) (sym (take_all c.loop-entry.entry-index c.args.lost.now c.loop-entry-test.false))
    ∙ ap standing_of_found c.loop-entry.invariant)
