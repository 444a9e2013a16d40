use Rattle.std.proofs.Common.{sym, ◌∙◌}
use Rattle.g_typing.proofs.QueryLemmas.{no_help, no_refusal}
use Rattle.g_typing.proofs.query.refusal_in.Goals as goal

pub returns-in-None-number : goal.returns-in-None-number
returns-in-None-number c = no_refusal c.args.line.now c.in-Some.digits.now c.in-Some.ensures (sym c.number.ensures ∙ c.in-None-number.is)

pub returns-in-None : goal.returns-in-None
returns-in-None c = no_help c.args.line.now c.in-None.ensures
