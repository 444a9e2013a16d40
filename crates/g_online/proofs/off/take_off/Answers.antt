use Rattle.std.proofs.Common.{List, ℕ, get_or, subst, sym}
use Rattle.g_online.proofs.OffLemmas.{IsOff, front_apart, front_away, front_taken, off_more, off_next, off_none, one_further}
use Rattle.g_online.proofs.off.take_off.Goals as goal

pub loop-number-init : goal.loop-number-init
loop-number-init c = off_none c.args.online.now c.args.pool.now c.args.pages.now

pub take_one_off-requires-clause-apart : goal.take_one_off-requires-clause-apart
take_one_off-requires-clause-apart c =
    (off_next _ (get_or c.args.numbers.now c.loop-number.number-index 0) _ _ _ _ _ _ c.loop-number.invariant (front_away c.args.numbers.now c.loop-number.number-index c.loop-number-test.true c.requires.once)
    (front_apart c.args.numbers.now c.loop-number.number-index c.loop-number-test.true c.args.online.now c.requires.apart)
    (front_taken c.args.numbers.now c.loop-number.number-index c.loop-number-test.true c.args.online.now c.args.pool.now c.requires.taken)).0

pub take_one_off-requires-clause-taken : goal.take_one_off-requires-clause-taken
take_one_off-requires-clause-taken c =
    (off_next _ (get_or c.args.numbers.now c.loop-number.number-index 0) _ _ _ _ _ _ c.loop-number.invariant (front_away c.args.numbers.now c.loop-number.number-index c.loop-number-test.true c.requires.once)
    (front_apart c.args.numbers.now c.loop-number.number-index c.loop-number-test.true c.args.online.now c.requires.apart)
    (front_taken c.args.numbers.now c.loop-number.number-index c.loop-number-test.true c.args.online.now c.args.pool.now c.requires.taken)).1

pub loop-number-preserved : goal.loop-number-preserved
loop-number-preserved c =
    subst (λ (ns : List ℕ). IsOff ns c.args.online.now c.take_one_off.new.online c.args.pool.now c.take_one_off.new.pool c.args.pages.now c.take_one_off.new.pages)
    (sym (one_further c.args.numbers.now c.loop-number.number-index c.loop-number-test.true))
    (off_more _ _ _ _ _ _ _ _ _ _ _ c.loop-number.invariant (front_away c.args.numbers.now c.loop-number.number-index c.loop-number-test.true c.requires.once)
    (front_apart c.args.numbers.now c.loop-number.number-index c.loop-number-test.true c.args.online.now c.requires.apart) c.take_one_off.ensures.copies c.take_one_off.ensures.blocks c.take_one_off.ensures.marks)
