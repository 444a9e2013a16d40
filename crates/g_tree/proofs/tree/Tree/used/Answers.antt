-- The stored count is the sum over the records, and so that over the tree's entries.
use Rattle.std.proofs.Common.{◌≤◌, sym, ap, subst, ◌∙◌}
use Rattle.g_tree.specs.Records.{IsRecords}
use Rattle.g_tree.specs.State.{used_of}
use Rattle.g_tree.proofs.CountLemmas.{used_few}
use Rattle.g_tree.proofs.RecordLemmas.{used_is}
use Rattle.g_tree.proofs.tree.Tree.used.Goals as goal

pub returns-clause-used : goal.returns-clause-used
returns-clause-used c = λ bytes next lengths.
    c.used.ensures ∙ c.self.invariant.used.each c.args.owner ∙ ap (λ s. used_of s.files c.args.owner) c.self.view_is
    ∙ used_is c.args.self.now.users c.args.self.now.files bytes next c.args.owner (subst (λ s. IsRecords s.users s.files) c.self.view_is c.self.invariant.records) lengths

pub returns-clause-few : goal.returns-clause-few
returns-clause-few c = subst (λ n. n ≤ 131072) (sym c.used.ensures) (used_few c.self.inside.users.items c.self.inside.files c.self.invariant.records c.self.inside.counts.blocks.items c.args.owner c.self.invariant.used)
