use Rattle.std.proofs.Common.{arith}
use Rattle.g_incr.specs.Layout.{holds}
use Rattle.g_incr.proofs.RecordsLemmas.{user_there, users_next}
use Rattle.g_incr.proofs.records.users_in.Goals as goal

pub returns-in-None-clause-none : goal.returns-in-None-clause-none
returns-in-None-clause-none c = λ users held are.
    let (u, at, is, here) = user_there c.args.format users held c.args.blocks.now c.loop-number.number are (omega arith) in
    c.in-None.ensures.none u (holds held u.number) at is (here _)

pub loop-number-preserved : goal.loop-number-preserved
loop-number-preserved c =
    let found = c.in-Some.ensures.found in
    rw (c.in-Ok.ensures.users, c.in-Ok.ensures.held)
    (users_next c.args.format c.loop-number.users.items c.loop-number.held.items c.args.blocks.now c.loop-number.number _ c.in-Some.user c.in-Some.is_held (omega arith) c.loop-number.invariant found.0 found.1 found.2)
