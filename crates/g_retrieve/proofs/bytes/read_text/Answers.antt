use Rattle.std.proofs.Common.{◌≡◌, ◌<◌, ◌+◌, length, arith, ◌∙◌}
use Rattle.g_base.specs.Block.{blocks_for}
use Rattle.g_tape.specs.Rack.{reel}
use Rattle.g_incr.proofs.ListLemmas.{at_none, at_some}
use Rattle.g_incr.proofs.TapeLemmas.{from_err, from_ok, reads_then, starved, to_err}
use Rattle.g_retrieve.proofs.TextLemmas.{all_read, mounted_there, not_past, one_more_block}
use Rattle.g_retrieve.proofs.bytes.read_text.Goals as goal

pub unreachable-requires : goal.unreachable-requires
unreachable-requires g c =
    let (r, there) = mounted_there (reel c.args.serial (g.T.Tapes.rack c.args.tapes.now).reels) c.requires.mounted in
    let below : c.loop-k.k < c.args.first + blocks_for c.args.len = omega (arith, c.loop-k-test.true, c.blocks_for.ensures) in
    not_past c.args.serial c.args.first c.loop-k.k c.args.len c.loop-k.bytes.items _ _ c.loop-k.invariant below c.requires.fits r there (at_none _ _ c.in-Ok-None.field-0-is c.in-Ok-None.ensures.past)

pub returns-in-Err-read_block-clause-reads : goal.returns-in-Err-read_block-clause-reads
returns-in-Err-read_block-clause-reads g c =
    to_err c.args.serial _ _ _ (reads_then c.args.serial _ _ _ _ c.loop-k.invariant.reads (from_err c.args.serial _ _ _ c.in-Err-read_block.ensures.reads))

pub returns-in-Err-extend_from_slice-clause-reads : goal.returns-in-Err-extend_from_slice-clause-reads
returns-in-Err-extend_from_slice-clause-reads g c = starved c.args.serial _ _ _ c.loop-k.invariant.reads (from_ok c.args.serial _ _ _ c.in-Ok-Some.ensures.reads)

pub loop-k-preserved : goal.loop-k-preserved
loop-k-preserved g c =
    let old = g.T.Tapes.rack c.args.tapes.now in
    let mid = g.T.Tapes.rack c.loop-k.tapes in
    let new = g.T.Tapes.rack c.read_block.new.tapes in
    let counted : c.len.result ≡ length c.loop-k.bytes.items = omega (arith, c.len.ensures, c.loop-k.bytes.ok.0) in
    rw (c.in-Ok-extend_from_slice.ensures.items, c.front.ensures.value, c.min-count.ensures, counted)
    (one_more_block c.args.serial c.args.first c.loop-k.k c.args.len c.loop-k.bytes.items old mid c.loop-k.invariant new c.in-Ok-Some.block c.front.ensures.whole (from_ok c.args.serial mid new _ c.in-Ok-Some.ensures.reads)
    (λ bs told. c.in-Ok-Some.ensures.found bs told ∙ c.in-Ok-Some.field-0-is) (at_some _ _ _ c.in-Ok-Some.field-0-is c.in-Ok-Some.ensures.read))

pub returns-clause-read : goal.returns-clause-read
returns-clause-read g c =
    let auto = c.loop-k.auto in
    let end : c.loop-k.k ≡ c.args.first + blocks_for c.args.len = omega (arith, c.loop-k-test.false, c.blocks_for.ensures, auto.k-end (omega arith)) in
    all_read c.args.serial c.args.first c.loop-k.k c.args.len c.loop-k.bytes.items _ _ c.loop-k.invariant end
