-- The user's pair is at the place, or there is none.
use Rattle.std.proofs.Common.{◌∙◌, sym, ap, unwrap_or}
use Rattle.g_trap.proofs.Places.{found, absent}
use Rattle.g_trap.proofs.trap_list.other_modes.Goals as goal

pub returns-in-Ok : goal.returns-in-Ok
returns-in-Ok c = sym (ap (λ o. unwrap_or o 0) (found c.args.others.now c.args.user c.in-Ok.place _ c.requires c.in-Ok.ensures.found))

pub returns-in-Err : goal.returns-in-Err
returns-in-Err c = c.none.ensures ∙ sym (ap (λ o. unwrap_or o 0) (absent c.args.others.now c.args.user c.in-Err.field-0 c.in-Err.ensures.absent))
