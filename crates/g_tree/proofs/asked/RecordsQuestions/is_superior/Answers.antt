-- Both users exist, and their numbers give their names.
use Rattle.std.proofs.Common.{sym, ◌∙◌, true≢false}
use Rattle.g_name.specs.Order.{same_text}
use Rattle.g_plain.specs.PlainTree.{user_row}
use Rattle.g_tree.specs.Records.{tree_of}
use Rattle.g_tree.specs.AskedRecords.{zeros}
use Rattle.g_tree.proofs.asked.RecordsQuestions.is_superior.Goals as goal

pub unreachable-requires : goal.unreachable-requires
unreachable-requires c = true≢false (sym c.requires.caller ∙ sym (c.in_default.ensures.there zeros c.args.self.now.next))

pub unreachable-requires-in_default-user_number : goal.unreachable-requires-in_default-user_number
unreachable-requires-in_default-user_number c = true≢false (sym c.requires.there ∙ sym (c.in_default-user_number.ensures.there zeros c.args.self.now.next))

pub returns : goal.returns
returns c =
    let s = c.args.self.now in
    let t = tree_of s.tree.now.users s.tree.now.files zeros s.next in
    c.is_superior.ensures zeros s.next
    ∙ (λ i. same_text (user_row t (c.in-Some-user_number.ensures.named.1 i)).superior (c.in-Some.ensures.named.1 i))
