use Rattle.g_lang.proofs.ParamLemmas.{counted_more}
use Rattle.g_lang.proofs.params.count_params.Goals as goal

pub loop-count-preserved : goal.loop-count-preserved
loop-count-preserved c =
    counted_more c.args.text.now c.loop-count.count c.loop-count.left c.behind_param-left.result c.in-Some.rest c.loop-count.invariant c.in-Some.is
    c.behind_param-left.ensures.params c.behind_param-left.ensures.shorter
