use Rattle.std.proofs.Common.{◌≡◌, ◌<◌, ◌+◌, arith, ◌∙◌, ap}
use Rattle.sha2.specs.Sha256.{sha256}
use Rattle.g_base.specs.Block.{blocks_for}
use Rattle.g_tape.specs.Rack.{reel}
use Rattle.g_incr.proofs.ListLemmas.{at_none, at_some}
use Rattle.g_incr.proofs.TapeLemmas.{from_err, from_ok, reads_then, to_err}
use Rattle.g_retrieve.proofs.TextLemmas.{mounted_there, not_past}
use Rattle.g_seal.proofs.ReelLemmas.{all_summed, none_yet, one_more}
use Rattle.g_seal.proofs.reel_sum.sum_from.Goals as goal

pub loop-k-init : goal.loop-k-init
loop-k-init g c = none_yet c.args.serial c.args.first c.args.len (g.T.Tapes.rack c.args.tapes.now) c.new-sum.result c.requires.mounted c.new-sum.ensures

pub unreachable-requires : goal.unreachable-requires
unreachable-requires g c =
    let (r, there) = mounted_there (reel c.args.serial (g.T.Tapes.rack c.args.tapes.now).reels) c.requires.mounted in
    let below : c.loop-k.k < c.args.first + blocks_for c.args.len = omega (arith, c.loop-k-test.true, c.blocks_for.ensures) in
    not_past c.args.serial c.args.first c.loop-k.k c.args.len c.loop-k.invariant.bytes _ _ c.loop-k.invariant.text below (λ j least under q at. (let fits = c.requires.fits q at in omega (arith, under, fits))) r there
    (at_none _ _ c.in-Ok-None.field-0-is c.in-Ok-None.ensures.past)

pub returns-in-Err-clause-reads : goal.returns-in-Err-clause-reads
returns-in-Err-clause-reads g c =
    to_err c.args.serial _ _ _ (reads_then c.args.serial _ _ _ _ c.loop-k.invariant.text.reads (from_err c.args.serial _ _ _ c.in-Err.ensures.reads))

pub loop-k-preserved : goal.loop-k-preserved
loop-k-preserved g c =
    let mid = g.T.Tapes.rack c.loop-k.tapes in
    one_more c.args.serial c.args.first c.loop-k.k c.args.len c.loop-k.left c.add_block-left.result c.in-Ok-Some.block (g.T.Tapes.rack c.args.tapes.now) mid _ c.loop-k.sum _ c.loop-k.invariant c.add_block-left.ensures.whole
    (from_ok c.args.serial mid _ _ c.in-Ok-Some.ensures.reads) (λ bs told. c.in-Ok-Some.ensures.found bs told ∙ c.in-Ok-Some.field-0-is) (at_some _ _ _ c.in-Ok-Some.field-0-is c.in-Ok-Some.ensures.read) c.add_block-left.ensures.adds c.add_block-left.ensures.left

pub returns-clause-sum : goal.returns-clause-sum
returns-clause-sum g c =
    let auto = c.loop-k.auto in
    let end : c.loop-k.k ≡ c.args.first + blocks_for c.args.len = omega (arith, c.loop-k-test.false, c.blocks_for.ensures, auto.k-end (omega arith)) in
    λ bs told. c.finalize.ensures c.loop-k.invariant.bytes c.loop-k.invariant.holds ∙ ap sha256 (all_summed c.args.serial c.args.first c.loop-k.k c.args.len c.loop-k.left c.loop-k.sum _ _ c.loop-k.invariant end bs told)
