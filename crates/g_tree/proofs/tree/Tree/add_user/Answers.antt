-- The numbers of users represent the same names, and there is one more row.
use Rattle.std.proofs.Common.{◌≡◌, [], ◌∷◌, ◌++◌, cond, not, sym, ap, subst, ◌∙◌}
use Rattle.g_tree.specs.Records.{IsRecords, tree_of}
use Rattle.g_tree.specs.State.{IsKept}
use Rattle.g_tree.proofs.UserLemmas.{kept_more, tree_more}
use Rattle.g_tree.proofs.tree.Tree.add_user.Goals as goal

pub invariant_of-self : goal.invariant_of-self
invariant_of-self c =
    let users = c.self.inside.users.items in
    let files = c.self.inside.files in
    let items : c.push.new.self.items ≡ users ++ c.args.user ∷ [] = c.push.ensures.items ∙ ap (λ b. cond b (users ++ c.args.user ∷ []) users) (c.is_err.ensures.negation ∙ ap not c.if-is_err.false) in
    subst (λ us. IsKept us files c.self.inside.counts.names.entries c.self.inside.counts.blocks.items) (sym items)
    (kept_more users files c.args.user c.self.invariant.records c.self.inside.counts.names.entries c.self.inside.counts.blocks.items c.self.invariant (subst (λ s. IsRecords (s.users ++ c.args.user ∷ []) s.files) (sym c.self.view_is) c.requires.rules))

pub returns-clause-tree : goal.returns-clause-tree
returns-clause-tree c = λ bytes next.
    let users = c.self.inside.users.items in
    let items : c.push.new.self.items ≡ c.args.self.now.users ++ c.args.user ∷ [] =
    c.push.ensures.items ∙ ap (λ b. cond b (users ++ c.args.user ∷ []) users) (c.is_err.ensures.negation ∙ ap not c.if-is_err.false) ∙ ap (λ s. s.users ++ c.args.user ∷ []) c.self.view_is in
    (λ i. tree_of (items i) ((c.self.view_is i).files) bytes next)
    ∙ tree_more c.args.self.now.users c.args.self.now.files c.args.user (subst (λ s. IsRecords s.users s.files) c.self.view_is c.self.invariant.records) bytes next c.requires.rules
