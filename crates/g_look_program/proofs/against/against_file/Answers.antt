use Rattle.std.proofs.Common.{inr}
use Rattle.g_look_program.specs.declared.status.Status.TheVariants.{NoMemory}
use Rattle.g_look_program.proofs.against.against_file.Goals as goal

pub returns-then-eq : goal.returns-then-eq
returns-then-eq g c = inr (record { status = NoMemory; so = tt; code_is = c.code-then-eq.ensures })
