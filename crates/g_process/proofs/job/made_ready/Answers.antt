use Rattle.std.proofs.Common.{ℕ, ◌+◌, ◌∙◌, List, ap, arith, length, map, refl, subst, sym}
use Rattle.std.specs.Prelude.{filter}
use Rattle.g_disc_contents.specs.Contents.{copied_rec, recs_in}
use Rattle.g_entry.specs.declared.file_rec.FileRec.{FileRec}
use Rattle.g_entry.specs.declared.head.Head.{Head}
use Rattle.g_entry.specs.declared.user_rec.UserRec.{UserRec}
use Rattle.g_incr.specs.Plan.{blocks_of}
use Rattle.g_tree.specs.Records.{IsRecords}
use Rattle.g_online.specs.ReadyCopies.{IsReadyFor, ready_with}
use Rattle.g_process.specs.ProcessPlan.{copies_from, is_filled, versions}
use Rattle.g_process.proofs.PlanLemmas.{few_blocks, first_is, made_ready, ready_rules}
use Rattle.g_process.proofs.job.made_ready.Goals as goal

pub overflow_cast-first-2 : goal.overflow_cast-first-2
overflow_cast-first-2 g c =
    let few = few_blocks c.args.serial c.args.online.now c.requires.rules in
    let long = ap (λ (rs : List FileRec). length rs) c.requires.files in
    let low = few.1 in
    omega (arith, low, long)

pub overflow_add-first-2 : goal.overflow_add-first-2
overflow_add-first-2 g c =
    let few = few_blocks c.args.serial c.args.online.now c.requires.rules in
    let long = ap (λ (rs : List FileRec). length rs) c.requires.files in
    let users = ap (λ (us : List UserRec). length us) (c.users-users.ensures.value ∙ c.tree.ensures.users) in
    let low = few.1 in
    let low_users = few.0 in
    omega (arith, low, long, users, low_users)

pub copies_from-requires : goal.copies_from-requires
copies_from-requires g c =
    let few = few_blocks c.args.serial c.args.online.now c.requires.rules in
    let long = ap (λ (rs : List FileRec). length rs) c.requires.files in
    let users = ap (λ (us : List UserRec). length us) (c.users-users.ensures.value ∙ c.tree.ensures.users) in
    let low = few.1 in
    let low_users = few.0 in
    let low_blocks = few.2 in
    let blocks = ap blocks_of (c.as_slice.ensures.value ∙ c.in-Ok.ensures ∙ ap (filter is_filled) c.requires.files) in
    omega (arith, low, long, users, low_users, low_blocks, blocks)

pub ready_adopt-requires-clause-rules : goal.ready_adopt-requires-clause-rules
ready_adopt-requires-clause-rules g c =
    let few = few_blocks c.args.serial c.args.online.now c.requires.rules in
    let long = ap (λ (rs : List FileRec). length rs) c.requires.files in
    let users = ap (λ (us : List UserRec). length us) (c.users-users.ensures.value ∙ c.tree.ensures.users) in
    let low = few.1 in
    let low_users = few.0 in
    let low_blocks = few.2 in
    let are = c.as_slice-2.ensures.value ∙ c.in-Ok-copies_from.ensures ∙ ap (copies_from c.args.serial _) (c.as_slice.ensures.value ∙ c.in-Ok.ensures ∙ ap (filter is_filled) c.requires.files) in
    subst (λ cs. IsRecords c.args.online.now.contents.users (map (copied_rec cs) (recs_in c.args.online.now.contents))) (sym are)
    (ready_rules c.args.serial _ c.args.online.now c.requires.live c.requires.tied c.requires.rules.serial (omega (arith, low, long, users, low_users, low_blocks)))

pub returns : goal.returns
returns g c =
    let few = few_blocks c.args.serial c.args.online.now c.requires.rules in
    let long = ap (λ (rs : List FileRec). length rs) c.requires.files in
    let users = ap (λ (us : List UserRec). length us) (c.users-users.ensures.value ∙ c.tree.ensures.users) in
    let low = few.1 in
    let low_users = few.0 in
    let low_blocks = few.2 in
    let number = ap (λ (h : Head). h.last_dump + 1) c.head-number.ensures in
    let last = c.requires.rules.number in
    let versions_are = c.in-Ok.ensures ∙ ap (filter is_filled) c.requires.files in
    let are = c.as_slice-2.ensures.value ∙ c.in-Ok-copies_from.ensures ∙ ap (copies_from c.args.serial _) (c.as_slice.ensures.value ∙ versions_are) in
    let at = first_is c.args.serial c.args.online.now (length c.users-users.result.now) (length c.args.files.now) users long in
    record {
      serial_is = refl;
      number_is = number;
      writer_is = refl;
      versions_are = versions_are;
      lists_are = refl;
      ready = subst (λ (n : ℕ). IsReadyFor (c.head-number.result.last_dump + 1) (copies_from c.args.serial n (versions c.args.online.now.contents)) c.in-Ok-ready_adopt.ready c.args.online.now) at
          (made_ready c.args.serial ((1 + length c.users-users.result.now) + length c.args.files.now) (c.head-number.result.last_dump + 1) c.args.online.now c.in-Ok-ready_adopt.ready c.requires.live c.requires.tied
          c.requires.rules.serial (omega (arith, number, last)) (omega (arith, low, long, users, low_users, low_blocks))
          (c.in-Ok-ready_adopt.ensures ∙ ap (λ cs. ready_with cs c.args.online.now.contents) are));
    }
