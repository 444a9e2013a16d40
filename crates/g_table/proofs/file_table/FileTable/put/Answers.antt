use Rattle.std.proofs.Common.{ℕ, ap, subst, sym, ◌∙◌}
use Rattle.g_table.specs.Files.{HaveNumbers, rec_at, with_rec}
use Rattle.g_table.proofs.FileLemmas.{rec_is, recs, with_is, with_numbers}
use Rattle.g_table.proofs.file_table.FileTable.put.Goals as goal

pub invariant_of-self : goal.invariant_of-self
invariant_of-self c =
    subst HaveNumbers (sym c.put.ensures.items) (with_numbers c.self.inside.records c.get.result.now.number c.args.rec (ap (λ r. r.number) c.get.ensures) c.self.invariant)

pub returns-clause-files : goal.returns-clause-files
returns-clause-files c =
    ap recs c.put.ensures.items ∙ with_is c.self.inside.records c.get.result.now.number c.args.rec (ap (λ r. r.number) c.get.ensures) c.self.invariant ∙ ap (with_rec c.args.rec) c.self.view_is

pub returns-clause-was : goal.returns-clause-was
returns-clause-was c =
    c.put.ensures.was ∙ rec_is c.self.inside.records c.get.result.now.number c.self.invariant ∙ ap (λ files. rec_at files c.get.result.now.number) c.self.view_is
    ∙ ap (λ r. rec_at c.args.self.now r.number) c.get.ensures
