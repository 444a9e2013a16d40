use Rattle.std.proofs.Common.{sym, ◌∙◌}
use Rattle.g_typing.proofs.HeadLemmas.{no_number, no_space}
use Rattle.g_typing.proofs.item.time_of.Goals as goal

pub returns-in-None-number : goal.returns-in-None-number
returns-in-None-number c =
    no_number c.args.line.now c.in-Some.digits.now c.in-Some.asked.now c.in-Some.ensures.split.0 c.in-Some.ensures.split.1 (sym c.number.ensures ∙ c.in-None-number.is)

pub returns-in-None : goal.returns-in-None
returns-in-None c = no_space c.args.line.now c.in-None.ensures.split
