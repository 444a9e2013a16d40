use Rattle.g_verbs.proofs.ParamLemmas.{digit_file}
use Rattle.g_verbs.proofs.parameter.short_file.Goals as goal

pub returns-in-Some : goal.returns-in-Some
returns-in-Some c = digit_file c.args.text.now c.in-Some.local.now c.in-Some.generation c.named_file.result c.in-Some.ensures c.named_file.ensures
