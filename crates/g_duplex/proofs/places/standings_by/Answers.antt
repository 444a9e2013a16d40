use Rattle.std.proofs.Common.{◌∙◌, ◌<◌, ap, arith, length, sym, take, List, [], ◌∷◌, ◌++◌}
use Rattle.g_duplex.specs.declared.twin.Standing.{Standing}
use Rattle.g_duplex.specs.Places.{standings_by}
use Rattle.g_duplex.proofs.PlaceLemmas.{standings_next}
use Rattle.g_duplex.proofs.places.standings_by.Goals as goal

pub loop-i-preserved : goal.loop-i-preserved
loop-i-preserved g c =
    let within : c.loop-i.i < length (g.T.Tapes.rack c.args.rack.now).reels = omega (arith, c.reels-i-end.ensures, c.loop-i-test.true) in
    c.push.ensures
    ∙ ap (λ (us : List Standing). us ++ c.standing_by.result ∷ []) c.loop-i.invariant
    ∙ ap (λ (u : Standing). standings_by c.args.lost.now (take c.loop-i.i (g.T.Tapes.rack c.args.rack.now).reels) ++ u ∷ []) c.standing_by.ensures
    ∙ sym (standings_next c.args.lost.now (g.T.Tapes.rack c.args.rack.now).reels c.loop-i.i c.serial.result within c.serial.ensures)
