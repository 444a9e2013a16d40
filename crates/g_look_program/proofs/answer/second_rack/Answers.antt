use Rattle.std.proofs.Common.{inr}
use Rattle.g_look_program.specs.declared.status.Status.TheVariants.{NoMemory}
use Rattle.g_look_program.proofs.answer.second_rack.Goals as goal

pub returns-in-Err-look_at : goal.returns-in-Err-look_at
returns-in-Err-look_at c = inr (record { status = NoMemory; so = tt; code_is = c.code.ensures })
