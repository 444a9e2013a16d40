use Rattle.g_blocks.specs.Pool.{HasGiven, IsTaken}
use Rattle.g_online.proofs.PoolLemmas.{file_apart, file_may, given_none, given_then, one_more_file, still_taken}
use Rattle.g_online.proofs.put.give_all.Goals as goal

pub loop-number-init : goal.loop-number-init
loop-number-init c = given_none c.args.pool.now

pub give_one-requires-clause-apart : goal.give_one-requires-clause-apart
give_one-requires-clause-apart c = file_apart c.args.online.now c.args.numbers.now c.loop-number.number-index c.loop-number-test.true c.requires.apart

pub give_one-requires-clause-taken : goal.give_one-requires-clause-taken
give_one-requires-clause-taken c =
    file_may c.args.online.now c.args.numbers.now c.loop-number.number-index c.loop-number-test.true HasGiven IsTaken still_taken _ _
    c.requires.apart c.loop-number.invariant c.requires.taken

pub loop-number-preserved : goal.loop-number-preserved
loop-number-preserved c =
    one_more_file c.args.online.now c.args.numbers.now c.loop-number.number-index c.loop-number-test.true HasGiven given_then _ _ _
    c.requires.apart c.loop-number.invariant c.give_one.ensures
