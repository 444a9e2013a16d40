-- The first two users represent the tree of a new filestore, in either order.
use Rattle.std.proofs.Common.{◌≡◌, rules, []}
use Rattle.g_tree.specs.State.{first_users}
use Rattle.g_tree.proofs.FirstLemmas.{first_made}
use Rattle.g_tree.proofs.tree.Tree.new.Goals as goal

pub returns-clause-tree : goal.returns-clause-tree
returns-clause-tree c =
    let users : c.push-2.new.self.items ≡ first_users = search rules in
    let files : c.new.result.items ≡ [] = c.new.ensures.items in
    first_made c.from_records.result c.push-2.new.self.items c.new.result.items c.from_records.ensures.users c.from_records.ensures.files users files
