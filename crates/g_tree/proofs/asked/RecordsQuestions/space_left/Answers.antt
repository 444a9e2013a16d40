-- The owner's SPACE without the blocks of the owner's other files.
use Rattle.std.proofs.Common.{◌≡◌, ◌-◌, Some, sym, ap, ◌∙◌, true≢false}
use Rattle.g_base.specs.Block.{blocks_for}
use Rattle.g_plain.specs.PlainTree.{user_row, used_blocks}
use Rattle.g_tree.specs.Records.{tree_of}
use Rattle.g_tree.specs.AskedRecords.{zeros}
use Rattle.g_tree.proofs.LawLemmas.{named_by_number}
use Rattle.g_tree.proofs.NamedLemmas.{user_row_named, zeros_fit}
use Rattle.g_tree.proofs.asked.RecordsQuestions.space_left.Goals as goal

pub unreachable-requires : goal.unreachable-requires
unreachable-requires c = true≢false (sym c.requires.owner ∙ sym (c.in_default.ensures.there zeros c.args.self.now.next))

pub returns : goal.returns
returns c =
    let s = c.args.self.now in
    let users = s.tree.now.users in
    let files = s.tree.now.files in
    let t = tree_of users files zeros s.next in
    let owner = c.in-Some.owner.now in
    let found = sym c.in-Some.ensures.value in
    let name = (named_by_number users files c.in-Some.ensures.records c.args.file.now.full.user owner found).1 in
    let space : owner.space ≡ (user_row t c.args.file.now.full.user).space = sym (ap (λ r. r.space) (user_row_named users files zeros s.next c.args.file.now.full.user (Some owner) found)) in
    let used : c.used-used.result ≡ used_blocks t c.args.file.now.full.user = c.used-used.ensures.used zeros s.next (zeros_fit files) ∙ ap (used_blocks t) name in
    let others = c.saturating_sub-others.ensures ∙ (λ i. used i - (c.blocks_for.ensures ∙ ap blocks_for c.len.ensures.len) i) in
    c.saturating_sub.ensures ∙ (λ i. space i - others i)
