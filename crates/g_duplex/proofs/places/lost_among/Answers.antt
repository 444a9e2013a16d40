use Rattle.std.proofs.Common.{◌∙◌, ◌<◌, ap, arith, length, sym, List, ℕ, ◌++◌}
use Rattle.g_duplex.specs.declared.twin.Twin.{Twin}
use Rattle.g_duplex.specs.Places.{lost_one}
use Rattle.g_duplex.proofs.PlaceLemmas.{lost_next, lost_within}
use Rattle.g_duplex.proofs.places.lost_among.Goals as goal

pub put-requires : goal.put-requires
put-requires g c =
    let few = (g.met.T.Tapes.well_formed c.args.rack.now).few in
    let within : c.loop-i.i < length (g.T.Tapes.rack c.args.rack.now).reels = omega (arith, c.reels-i-end.ensures, c.loop-i-test.true) in
    let many = lost_within (g.T.Tapes.rack c.args.rack.now).reels c.args.standings.now c.loop-i.i (omega (arith, within)) in
    omega (arith, few, within, many, ap (λ (ls : List (ℕ × Twin)). length ls) c.loop-i.invariant)

pub loop-i-preserved : goal.loop-i-preserved
loop-i-preserved g c =
    let within : c.loop-i.i < length (g.T.Tapes.rack c.args.rack.now).reels = omega (arith, c.reels-i-end.ensures, c.loop-i-test.true) in
    c.put.ensures ∙ ap (λ (ls : List (ℕ × Twin)). ls ++ lost_one c.serial.result c.get.result) c.loop-i.invariant
    ∙ sym (lost_next (g.T.Tapes.rack c.args.rack.now).reels c.args.standings.now c.loop-i.i c.serial.result c.get.result within c.requires c.serial.ensures c.get.ensures)
