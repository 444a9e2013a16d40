-- The file and the user exist, and their numbers give their names.
use Rattle.std.proofs.Common.{◌≡◌, IfSome, sym, ap, subst, ◌∙◌, true≢false}
use Rattle.g_plain.specs.PlainTree.{file_row, modes_of}
use Rattle.g_tree.specs.Records.{name_of, tree_of}
use Rattle.g_tree.specs.AskedRecords.{zeros}
use Rattle.g_tree.proofs.NamedLemmas.{number_there}
use Rattle.g_tree.proofs.asked.RecordsQuestions.modes_of.Goals as goal

pub unreachable-requires : goal.unreachable-requires
unreachable-requires c = true≢false (sym c.requires.user ∙ sym (c.in_default.ensures.there zeros c.args.self.now.next))

pub modes_of-requires : goal.modes_of-requires
modes_of-requires c = let s = c.args.self.now in number_there s.tree.now.users s.tree.now.files c.args.file.now.full c.number.result c.number.ensures

pub returns : goal.returns
returns c =
    let s = c.args.self.now in
    let users = s.tree.now.users in
    let t = tree_of users s.tree.now.files zeros s.next in
    subst (λ o. IfSome o (λ full. c.modes_of.result ≡ modes_of (file_row t full) full (name_of users c.in-Some.user))) c.number.ensures
    (c.modes_of.ensures zeros s.next)
    ∙ ap (modes_of (file_row t c.args.file.now.full) c.args.file.now.full) c.in-Some.ensures.named.1
