-- One reel after the other is made durable.
use Rattle.std.proofs.Common.{◌≡◌, ◌<◌, ◌∙◌, List, Some, Result, Err, arith, length, map, slice_get, subst, sym}
use Rattle.std.proofs.lemmas.Result.{err_from_is_err_and}
use Rattle.g_tape.specs.Rack.{Rack, Securing, SecuringAll}
use Rattle.g_tape.proofs.SecureLemmas.{all_durable, insecure_so_far, no_more_so_far, one_more_durable, serial_within}
use Rattle.g_tape.proofs.securing.secure_all.Goals as goal

pub serial-serial-requires : goal.serial-serial-requires
serial-serial-requires g c = serial_within _ _ _ c.loop-i.invariant (omega arith)

pub returns-in_err-secure-clause-secured : goal.returns-in_err-secure-clause-secured
returns-in_err-secure-clause-secured g c =
    let (fault, is, same) = err_from_is_err_and c.from_residual.result c.from_residual.ensures.1 in
    rw is (insecure_so_far _ _ _ _ _ fault _ c.loop-i.invariant same c.serial-serial.ensures c.in_err-secure.ensures.secured)

pub returns-in_err-secure-clause-durable : goal.returns-in_err-secure-clause-durable
returns-in_err-secure-clause-durable g c =
    let (fault, is, same) = err_from_is_err_and c.from_residual.result c.from_residual.ensures.1 in
    rw is (no_more_so_far _ _ _ _ _ fault _ c.loop-i.invariant c.in_err-secure.ensures.durable)

pub loop-i-preserved : goal.loop-i-preserved
loop-i-preserved g c = one_more_durable _ _ _ _ _ c.loop-i.invariant c.serial-serial.ensures c.in_ok-secure.ensures.secured c.in_ok-secure.ensures.durable

pub returns-clause-durable : goal.returns-clause-durable
returns-clause-durable g c = all_durable c.loop-i.i _ _ (omega arith) c.loop-i.invariant
