-- The file and the user exist, and their numbers give their names.
use Rattle.std.proofs.Common.{◌≡◌, ℕ, ◌==◌, Bool, ◌&&◌, List, not, nat_le, is_none, IfSome, sym, ap, subst, ◌∙◌, true≢false}
use Rattle.std.specs.FinMap.{FinMap, get, len}
use Rattle.g_name.specs.Order.{text_cmp}
use Rattle.g_plain.specs.PlainTree.{file_row}
use Rattle.g_tree.specs.Records.{name_of, tree_of}
use Rattle.g_tree.specs.AskedRecords.{zeros}
use Rattle.g_tree.proofs.NamedLemmas.{number_there}
use Rattle.g_tree.proofs.asked.RecordsQuestions.is_ninth.Goals as goal

pub unreachable-requires : goal.unreachable-requires
unreachable-requires c = true≢false (sym c.requires.user ∙ sym (c.in_default.ensures.there zeros c.args.self.now.next))

pub is_ninth-requires : goal.is_ninth-requires
is_ninth-requires c = let s = c.args.self.now in number_there s.tree.now.users s.tree.now.files c.args.file.now.full c.number.result c.number.ensures

pub returns : goal.returns
returns c =
    let s = c.args.self.now in
    let users = s.tree.now.users in
    let t = tree_of users s.tree.now.files zeros s.next in
    let ninth : FinMap text_cmp ℕ → List ℕ → Bool = λ rows name. not (c.args.modes == 0) && is_none (get rows name) && nat_le 9 (len rows) in
    subst (λ o. IfSome o (λ full. c.is_ninth.result ≡ ninth (file_row t full).traps (name_of users c.in-Some.user))) c.number.ensures
    (c.is_ninth.ensures zeros s.next)
    ∙ ap (ninth (file_row t c.args.file.now.full).traps) c.in-Some.ensures.named.1
