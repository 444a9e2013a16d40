use Rattle.std.proofs.Common.{◌+◌, ◌∙◌, ap, map, subst, sym}
use Rattle.g_entry.specs.declared.head.Head.{Head}
use Rattle.g_entry.specs.declared.user_rec.UserRec.{UserRec}
use Rattle.g_incr.specs.Plan.{IsPlan}
use Rattle.g_process.proofs.PlanLemmas.{if_ok_is, plan_made}
use Rattle.g_process.proofs.job.writer_of.Goals as goal

pub new-requires : goal.new-requires
new-requires g c =
    subst IsPlan (sym (plan_made c.args.serial _ _ c.args.online.now _ _ _ c.args.files.now (ap (λ (h : Head). h.last_dump + 1) c.head-head.ensures) (ap (λ (h : Head). h.next_stamp) c.head-head.ensures)
    (c.users-users.ensures.value ∙ c.tree.ensures.users) (c.as_slice.ensures.value ∙ c.in-Ok.ensures ∙ ap (map (λ (u : UserRec). u.number)) (c.users-users.ensures.value ∙ c.tree.ensures.users)) c.in-Ok-bare.ensures c.requires.files)) c.requires.rules

pub returns : goal.returns
returns g c =
    if_ok_is _ _ _ (plan_made c.args.serial _ _ c.args.online.now _ _ _ c.args.files.now (ap (λ (h : Head). h.last_dump + 1) c.head-head.ensures) (ap (λ (h : Head). h.next_stamp) c.head-head.ensures)
    (c.users-users.ensures.value ∙ c.tree.ensures.users) (c.as_slice.ensures.value ∙ c.in-Ok.ensures ∙ ap (map (λ (u : UserRec). u.number)) (c.users-users.ensures.value ∙ c.tree.ensures.users)) c.in-Ok-bare.ensures c.requires.files) c.new.ensures
