use Rattle.std.proofs.Common.{inr}
use Rattle.g_look_program.specs.declared.status.Status.TheVariants.{NoMemory}
use Rattle.g_look_program.proofs.against.against_files.Goals as goal

pub returns-in-Err : goal.returns-in-Err
returns-in-Err c d = inr (record { status = NoMemory; so = tt; code_is = d.code.ensures })
