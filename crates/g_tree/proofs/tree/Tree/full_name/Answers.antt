-- The file of the number has a full name, by which it is found.
use Rattle.std.proofs.Common.{sym, ap, ◌∙◌}
use Rattle.g_plain.specs.PlainTree.{has_file}
use Rattle.g_tree.specs.Records.{full_of, tree_of, number_of}
use Rattle.g_tree.proofs.RightLemmas.{number_found, numbered_file, owner_within}
use Rattle.g_tree.proofs.tree.Tree.full_name.Goals as goal

pub full_of-requires : goal.full_of-requires
full_of-requires c = owner_within c.args.self.now.users c.args.self.now.files c.in-Some.ensures.records _ c.args.number c.in-Some.file.now c.users.ensures.value (sym c.in-Some.ensures.value)

pub returns-in-Some-clause-number : goal.returns-in-Some-clause-number
returns-in-Some-clause-number c =
    let users = c.args.self.now.users in
    let files = c.args.self.now.files in
    ap (number_of users files) (c.full_of.ensures ∙ ap (λ us. full_of us c.in-Some.file.now) c.users.ensures.value)
    ∙ number_found users files c.in-Some.ensures.records c.args.number c.in-Some.file.now (sym c.in-Some.ensures.value)

pub returns-in-Some-clause-there : goal.returns-in-Some-clause-there
returns-in-Some-clause-there c = λ bytes next.
    let users = c.args.self.now.users in
    let files = c.args.self.now.files in
    ap (has_file (tree_of users files bytes next)) (c.full_of.ensures ∙ ap (λ us. full_of us c.in-Some.file.now) c.users.ensures.value)
    ∙ numbered_file users files c.in-Some.ensures.records bytes next c.args.number c.in-Some.file.now (sym c.in-Some.ensures.value)
