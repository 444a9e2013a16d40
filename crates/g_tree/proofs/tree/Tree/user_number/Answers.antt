-- A user's number is the place among users.
use Rattle.std.proofs.Common.{sym}
use Rattle.g_tree.proofs.LawLemmas.{named_by_number}
use Rattle.g_tree.proofs.tree.Tree.user_number.Goals as goal

pub returns-in-Some-clause-named : goal.returns-in-Some-clause-named
returns-in-Some-clause-named c =
    named_by_number c.args.self.now.users c.args.self.now.files c.in-Some.ensures.records c.args.name.now c.in-Some.user.now (sym c.in-Some.ensures.value)
