use Rattle.std.proofs.Common.{◌<◌, length, ap, arith}
use Rattle.g_seal.proofs.DiscLemmas.{none_yet, one_more}
use Rattle.g_seal.proofs.disc_sum.disc_sum.Goals as goal

pub loop-place-init : goal.loop-place-init
loop-place-init g c = none_yet c.args.copy.now.blocks c.args.copy.now.len (g.D.Disc.state c.args.disc.now) c.new-sum.result c.new-sum.ensures

pub loop-place-preserved : goal.loop-place-preserved
loop-place-preserved g c =
    let is = c.as_slice-place-items.ensures.value in
    let long = ap length is in
    let within : c.loop-place.place-index < length c.args.copy.now.blocks = omega arith in
    one_more c.loop-place.place-index c.args.copy.now.blocks c.args.copy.now.len c.loop-place.left c.add_block-left.result c.read.new.into (g.D.Disc.state c.args.disc.now) (g.D.Disc.state c.loop-place.disc)
    (g.D.Disc.state c.read.new.self) _ c.loop-place.sum c.add_block-left.new.sum within c.read.array_long c.loop-place.invariant (rw is at c.in-Ok.ensures) c.add_block-left.ensures.adds c.add_block-left.ensures.left
