use Rattle.std.proofs.Common.{arith, ◌≡◌}
use Rattle.g_lang.proofs.ParamLemmas.{left_more, left_some}
use Rattle.g_lang.specs.LineReader.{params_read}
use Rattle.g_lang.proofs.params.param_at.Goals as goal

pub loop-step-preserved : goal.loop-step-preserved
loop-step-preserved c =
    left_more (params_read c.args.text.now) c.loop-step._step c.loop-step.left c.behind_param-left.result c.in-Some.rest c.loop-step.invariant c.in-Some.is
    c.behind_param-left.ensures.params

pub returns-in-Some-left : goal.returns-in-Some-left
returns-in-Some-left c =
    let end : c.loop-step._step ≡ c.args.place = omega (arith, c.loop-step.auto._step-end, c.loop-step-test.false) in
    left_some (params_read c.args.text.now) c.loop-step._step c.args.place c.loop-step.left c.in-Some-left.rest c.first_param.result.now c.loop-step.invariant c.in-Some-left.is end
    c.first_param.ensures
