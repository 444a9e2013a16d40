-- It is found by the name of the first.
use Rattle.std.proofs.Common.{ap, ◌∙◌}
use Rattle.g_tree.specs.Answers.{newest_of}
use Rattle.g_tree.proofs.tree.Tree.newest.Goals as goal

pub newest_by-requires : goal.newest_by-requires
newest_by-requires c = ap (λ f. f.generation) c.versions_of.ensures

pub returns-clause-newest : goal.returns-clause-newest
returns-clause-newest c = c.newest_by.ensures.newest ∙ ap (λ f. newest_of c.args.self.now.users f c.args.self.now.files) c.versions_of.ensures
