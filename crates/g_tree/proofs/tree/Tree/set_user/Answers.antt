-- The names of users stay, and with them all but the one row.
use Rattle.std.proofs.Common.{sym, ap, subst, ◌∙◌}
use Rattle.std.proofs.Math.ListN.{set}
use Rattle.g_tree.specs.Records.{IsRecords, name_of, tree_of}
use Rattle.g_tree.proofs.UserLemmas.{kept_set, tree_set}
use Rattle.g_tree.proofs.tree.Tree.set_user.Goals as goal

pub invariant_of-self : goal.invariant_of-self
invariant_of-self c =
    kept_set c.self.inside.users.items c.self.inside.files c.args.user.number c.args.user (ap (λ s. name_of s.users c.args.user.number) c.self.view_is ∙ c.requires.name) c.self.inside.counts.names.entries c.self.inside.counts.blocks.items c.self.invariant
    (subst (λ s. IsRecords (set s.users c.args.user.number c.args.user) s.files) (sym c.self.view_is) c.requires.rules)

pub returns-clause-tree : goal.returns-clause-tree
returns-clause-tree c = λ bytes next.
    ap (λ s. tree_of (set s.users c.args.user.number c.args.user) s.files bytes next) c.self.view_is
    ∙ tree_set c.args.self.now.users c.args.self.now.files c.args.user.number c.args.user c.requires.name bytes next c.requires.there c.requires.rules
