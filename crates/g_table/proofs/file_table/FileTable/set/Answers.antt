use Rattle.std.proofs.Common.{ap, refl, subst, sym, ◌∙◌}
use Rattle.std.specs.Prelude.{is_some}
use Rattle.g_table.specs.Files.{HaveNumbers, rec_at, with_rec}
use Rattle.g_table.proofs.FileLemmas.{rec_is, recs, with_is, with_numbers}
use Rattle.g_table.proofs.file_table.FileTable.set.Goals as goal

pub set_rec-requires : goal.set_rec-requires
set_rec-requires c =
    ap is_some (rec_is c.self.inside.records c.args.rec.number c.self.invariant) ∙ ap (λ files. is_some (rec_at files c.args.rec.number)) c.self.view_is ∙ c.requires

pub invariant_of-self : goal.invariant_of-self
invariant_of-self c = subst HaveNumbers (sym c.set_rec.ensures) (with_numbers c.self.inside.records c.args.rec.number c.args.rec refl c.self.invariant)

pub returns : goal.returns
returns c = ap recs c.set_rec.ensures ∙ with_is c.self.inside.records c.args.rec.number c.args.rec refl c.self.invariant ∙ ap (with_rec c.args.rec) c.self.view_is
