use Rattle.std.proofs.Common.{ap, subst, sym, ◌∙◌}
use Rattle.g_table.specs.Files.{HaveNumbers, rec_at, without_rec}
use Rattle.g_table.proofs.FileLemmas.{rec_is, recs, without_is, without_numbers}
use Rattle.g_table.proofs.file_table.FileTable.take.Goals as goal

pub invariant_of-self : goal.invariant_of-self
invariant_of-self c = subst HaveNumbers (sym c.take.ensures.items) (without_numbers c.self.inside.records c.args.number c.self.invariant)

pub returns-clause-files : goal.returns-clause-files
returns-clause-files c = ap recs c.take.ensures.items ∙ without_is c.self.inside.records c.args.number c.self.invariant ∙ ap (without_rec c.args.number) c.self.view_is

pub returns-clause-was : goal.returns-clause-was
returns-clause-was c =
    c.take.ensures.was ∙ rec_is c.self.inside.records c.args.number c.self.invariant ∙ ap (λ files. rec_at files c.args.number) c.self.view_is
