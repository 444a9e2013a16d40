use Rattle.std.proofs.Common.{ℕ, List, get_or, subst, sym}
use Rattle.g_online.proofs.OffLemmas.{one_further}
use Rattle.g_online.proofs.UnjamLemmas.{IsForgotten, forgotten_more, forgotten_none}
use Rattle.g_online.proofs.put.forget_all.Goals as goal

pub loop-number-init : goal.loop-number-init
loop-number-init c = forgotten_none c.args.online.now c.args.pages.now

pub loop-number-preserved : goal.loop-number-preserved
loop-number-preserved c =
    subst (λ (ns : List ℕ). IsForgotten ns c.args.online.now c.forget_one.new.online c.args.pages.now c.forget_one.new.pages)
    (sym (one_further c.args.numbers.now c.loop-number.number-index c.loop-number-test.true))
    (forgotten_more _ (get_or c.args.numbers.now c.loop-number.number-index 0) _ _ _ _ _ _ c.loop-number.invariant c.forget_one.ensures.copies
    c.forget_one.ensures.marks)
