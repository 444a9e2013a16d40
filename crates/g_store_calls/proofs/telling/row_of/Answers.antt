-- The file of the number exists, and so does its owner.
use Rattle.std.proofs.Common.{◌<◌, length, sym, ap, subst, ◌∙◌}
use Rattle.g_tree.specs.Records.{full_of}
use Rattle.g_tree.proofs.RightLemmas.{numbered_there, owner_used}
use Rattle.g_store_calls.specs.Replies.{row_by}
use Rattle.g_store_calls.proofs.telling.row_of.Goals as goal

pub full_of-requires : goal.full_of-requires
full_of-requires c =
    let users = c.args.tree.now.users in
    let files = c.args.tree.now.files in
    let is = c.in-Some.ensures.records in
    subst (λ us. c.in-Some.file.now.owner < length us) (sym c.users.ensures.value)
    (owner_used users files is c.in-Some.file.now (numbered_there users files is c.args.number c.in-Some.file.now (sym c.in-Some.ensures.value)).0)

pub returns : goal.returns
returns c =
    let full = c.full_of.ensures ∙ ap (λ us. full_of us c.in-Some.file.now) c.users.ensures.value in
    (λ i. (full i, c.in-Some.file.now.len)) ∙ ap (row_by c.args.tree.now.users) c.in-Some.ensures.value
