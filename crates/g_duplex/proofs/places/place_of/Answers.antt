use Rattle.std.proofs.Common.{◌<◌, arith, length}
use Rattle.g_tape.proofs.PlaceLemmas.{reel-none}
use Rattle.g_duplex.proofs.PlaceLemmas.{before_more}
use Rattle.g_duplex.proofs.places.place_of.Goals as goal

pub loop-i-preserved : goal.loop-i-preserved
loop-i-preserved g c =
    let within : c.loop-i.i < length (g.T.Tapes.rack c.args.rack.now).reels = omega (arith, c.reels-i-end.ensures, c.loop-i-test.true) in
    before_more c.args.serial c.serial.result c.loop-i.i (g.T.Tapes.rack c.args.rack.now).reels within c.serial.ensures c.if-serial.false c.loop-i.invariant

pub returns : goal.returns
returns g c =
    reel-none c.args.serial (g.T.Tapes.rack c.args.rack.now).reels (λ k d h. c.loop-i.invariant k d (omega (arith, h, c.reels-i-end.ensures, c.loop-i-test.false)))
