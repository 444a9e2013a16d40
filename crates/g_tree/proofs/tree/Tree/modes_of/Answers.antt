-- The modes are those of the traps, and EXECUTE besides in MACROS.
use Rattle.std.proofs.Common.{◌==◌, cond, bit_or, sym, ap, ◌∙◌}
use Rattle.g_trap.specs.TrapList.{modes_of as numbered_modes}
use Rattle.g_tree.proofs.AnswerLemmas.{not_same}
use Rattle.g_tree.proofs.RightLemmas.{modes_answered}
use Rattle.g_tree.proofs.tree.Tree.modes_of.Goals as goal

pub returns-then-file-eq1 : goal.returns-then-file-eq1
returns-then-file-eq1 c = λ bytes next.
    let r = c.in-Some.file.now in
    let given = numbered_modes r.traps r.owner c.args.user in
    modes_answered c.args.self.now.users c.args.self.now.files c.in-Some.ensures.records bytes next c.args.file r c.args.user c.union.result (sym c.in-Some.ensures.value)
    (c.union.ensures ∙ (λ i. bit_or (c.modes_of-given.ensures i) (c.only.ensures i)) ∙ sym (ap (λ n. cond (n == 1) (bit_or given 2) given) c.if-file-eq1.true))

pub returns-else-file-eq1 : goal.returns-else-file-eq1
returns-else-file-eq1 c = λ bytes next.
    let r = c.in-Some.file.now in
    let given = numbered_modes r.traps r.owner c.args.user in
    modes_answered c.args.self.now.users c.args.self.now.files c.in-Some.ensures.records bytes next c.args.file r c.args.user c.modes_of-given.result (sym c.in-Some.ensures.value)
    (c.modes_of-given.ensures ∙ sym (ap (λ b. cond b (bit_or given 2) given) (not_same r.owner 1 c.if-file-eq1.false)))
