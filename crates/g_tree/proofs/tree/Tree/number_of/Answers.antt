-- The index has the numbers of the records.
use Rattle.std.proofs.Common.{is_some, ap, subst, ◌∙◌}
use Rattle.g_tree.specs.Records.{IsRecords, number_of}
use Rattle.g_tree.proofs.RecordLemmas.{get_file, file_there}
use Rattle.g_tree.proofs.NamedLemmas.{name_if_found}
use Rattle.g_tree.proofs.tree.Tree.number_of.Goals as goal

pub returns-clause-number : goal.returns-clause-number
returns-clause-number c =
    c.find.ensures ∙ c.self.invariant.index c.args.full.now
    ∙ get_file c.self.inside.users.items c.self.inside.files (λ r. r.number) c.args.full.now
    ∙ ap (λ s. number_of s.users s.files c.args.full.now) c.self.view_is

pub returns-clause-named : goal.returns-clause-named
returns-clause-named c =
    name_if_found c.args.self.now.users c.args.self.now.files c.args.full.now c.find.result (subst (λ s. IsRecords s.users s.files) c.self.view_is c.self.invariant.records) (returns-clause-number c)

pub returns-clause-there : goal.returns-clause-there
returns-clause-there c = λ bytes next. ap is_some (returns-clause-number c) ∙ file_there c.args.self.now.users c.args.self.now.files bytes next c.args.full.now
