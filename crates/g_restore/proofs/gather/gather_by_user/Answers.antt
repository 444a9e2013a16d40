use Rattle.std.proofs.Common.{◌≡◌, ◌∙◌, sym, subst, arith}
use Rattle.g_restore.specs.Gathering.{IsFirstBad}
use Rattle.g_restore.proofs.GatherLemmas.{all_gathered, nothing_gathered, one_bad, one_taken}
use Rattle.g_restore.proofs.gather.gather_by_user.Goals as goal

pub loop-user-init : goal.loop-user-init
loop-user-init c = rw c.new-files.ensures.items (nothing_gathered _ _ _)

pub loop-user-preserved : goal.loop-user-preserved
loop-user-preserved c = one_taken _ _ _ _ _ _ _ (omega arith) c.user-item.is c.loop-user.invariant (c.in-Ok-true.ensures.taken c.in-Ok-true.field-0-test)

pub returns-in-Ok-false-clause-bad : goal.returns-in-Ok-false-clause-bad
returns-in-Ok-false-clause-bad c = λ name is dumps are apart.
    let same : c.copy.result ≡ name = cc in
    subst (IsFirstBad dumps c.args.users.now c.args.next) (sym c.copy.ensures ∙ same)
    (one_bad _ _ _ _ _ _ (omega arith) c.user-item.is c.loop-user.invariant (c.in-Ok-false.ensures.bad c.in-Ok-false.field-0-test) dumps are apart)

pub returns-clause-ok : goal.returns-clause-ok
returns-clause-ok c = λ dumps are. all_gathered _ _ _ _ _ (omega arith) c.loop-user.invariant dumps are
