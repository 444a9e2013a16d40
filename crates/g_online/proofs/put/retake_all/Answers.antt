use Rattle.g_blocks.specs.Pool.{HasTaken, IsFree}
use Rattle.g_online.proofs.PoolLemmas.{file_apart, file_may, one_more_file, still_free, taken_none, taken_then}
use Rattle.g_online.proofs.put.retake_all.Goals as goal

pub loop-number-init : goal.loop-number-init
loop-number-init c = taken_none c.args.pool.now

pub retake_one-requires-clause-apart : goal.retake_one-requires-clause-apart
retake_one-requires-clause-apart c = file_apart c.args.online.now c.args.numbers.now c.loop-number.number-index c.loop-number-test.true c.requires.apart

pub retake_one-requires-clause-free : goal.retake_one-requires-clause-free
retake_one-requires-clause-free c =
    file_may c.args.online.now c.args.numbers.now c.loop-number.number-index c.loop-number-test.true HasTaken IsFree still_free _ _
    c.requires.apart c.loop-number.invariant c.requires.free

pub loop-number-preserved : goal.loop-number-preserved
loop-number-preserved c =
    one_more_file c.args.online.now c.args.numbers.now c.loop-number.number-index c.loop-number-test.true HasTaken taken_then _ _ _
    c.requires.apart c.loop-number.invariant c.retake_one.ensures
