use Rattle.std.proofs.Common.{sym}
use Rattle.g_reasons.proofs.ReasonLemmas.{asked_none, asked_split}
use Rattle.g_reasons.proofs.choice.asked_in.Goals as goal

pub returns-in-Some : goal.returns-in-Some
returns-in-Some c = sym (asked_split c.args.line.now _ _ c.in-Some.ensures.split.0 c.in-Some.ensures.split.1)

pub returns-in-None : goal.returns-in-None
returns-in-None c = sym (asked_none c.args.line.now c.in-None.ensures.split)
