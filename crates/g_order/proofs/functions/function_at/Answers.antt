use Rattle.std.proofs.Common.{◌∙◌, sym}
use Rattle.g_order.proofs.TableLaws.{number_of_function}
use Rattle.g_order.proofs.functions.function_at.Goals as goal

pub returns-in-Some : goal.returns-in-Some
returns-in-Some c = sym (number_of_function c.args.number c.args.x c.in-Some.function (sym c.function_of.ensures ∙ c.in-Some.is))
