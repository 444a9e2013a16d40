use Rattle.g_reasons.proofs.ReasonLemmas.{begins_test}
use Rattle.g_reasons.proofs.choice.begins.Goals as goal

pub returns : goal.returns
returns c = begins_test c.args.word c.args.text.now c.text.result.now c.starts_with.result c.text.ensures c.starts_with.ensures.value
