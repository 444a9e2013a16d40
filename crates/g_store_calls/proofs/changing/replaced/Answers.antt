use Rattle.std.proofs.Common.{Err, Ok, refl}
use Rattle.g_store_calls.proofs.changing.replaced.Goals as goal

pub returns-in-Ok : goal.returns-in-Ok
returns-in-Ok g c = record { made = Ok c.in-Ok.field-0; applied = c.in-Ok.ensures; is = refl }

pub returns-in-Err : goal.returns-in-Err
returns-in-Err g c = record { made = Err c.in-Err.fault; applied = c.in-Err.ensures; is = refl }
