use Rattle.std.proofs.Common.{◌∙◌, ap, sym}
use Rattle.g_demo.proofs.WordLemmas.{no_number, number_found}
use Rattle.g_lines.specs.Numbers.{number_read}
use Rattle.g_demo.proofs.words.number_in.Goals as goal

pub returns-in-Some : goal.returns-in-Some
returns-in-Some c = number_found c.args.digits.now c.in-Some.number (ap (number_read 4294967295) (sym c.as_bytes.ensures.value) ∙ sym c.number.ensures ∙ c.in-Some.is)

pub returns-in-None : goal.returns-in-None
returns-in-None c = no_number c.args.digits.now (ap (number_read 4294967295) (sym c.as_bytes.ensures.value) ∙ sym c.number.ensures ∙ c.in-None.is)
