use Rattle.std.proofs.Common.{◌≡◌}
use Rattle.g_disc.proofs.CallLemmas.{ReadsByCause-for}
use Rattle.g_dirs.proofs.ReadLemmas.{users_more, users_stopped}
use Rattle.g_dirs.specs.declared.fault.DirsFault.TheVariants.{NoFilestore}
use Rattle.g_dirs.proofs.read.read_users.Goals as goal

pub loop-number-preserved : goal.loop-number-preserved
loop-number-preserved g c =
    let read = rw c.from.ensures at c.in-Ok.ensures.ok in
    users_more c.args.format c.loop-number.number c.loop-number.users.items _ _ c.in-Ok.block _ _ c.loop-number.invariant
    (ReadsByCause-for (λ no_fault. cc) (λ never. absurd never) c.in-Ok.ensures.counts) read c.in-Ok-take_user.ensures.ok

pub returns-in-Err-take_user-clause-none : goal.returns-in-Err-take_user-clause-none
returns-in-Err-take_user-clause-none g c = λ stopped.
    let why : c.in-Err-take_user.fault ≡ NoFilestore = cc in
    let read = rw c.from.ensures at c.in-Ok.ensures.ok in
    users_stopped c.args.format c.loop-number.number c.loop-number.users.items _ _ c.in-Ok.block c.loop-number-test.true c.loop-number.invariant read
    (c.in-Err-take_user.ensures.none (cc))
