use Rattle.g_plan.proofs.WordLemmas.{back-done, back-more}
use Rattle.g_plan.proofs.words.without_back.Goals as goal

pub returns-then-last-ne32 : goal.returns-then-last-ne32
returns-then-last-ne32 c =
    back-done c.in-Some.front.now c.loop-last.rest.now c.args.text.now c.in-Some.last.now c.in-Some.ensures.cases.0 c.if-last-ne32.true c.loop-last.invariant

pub loop-last-preserved : goal.loop-last-preserved
loop-last-preserved c =
    back-more c.in-Some.front.now c.loop-last.rest.now c.args.text.now c.in-Some.last.now c.in-Some.ensures.cases.0 c.if-last-ne32.false c.loop-last.invariant
