use Rattle.std.proofs.Common.{List, sym, subst}
use Rattle.std.specs.Prelude.{Contains}
use Rattle.g_entry.specs.declared.file_rec.FileRec.{FileRec}
use Rattle.g_migrate.proofs.MigrationLemmas.{no_refusal, off_refusal, rec_there, yes_refusal}
use Rattle.g_migrate.proofs.migration.refusal.Goals as goal

pub returns-then-not-is_online : goal.returns-then-not-is_online
returns-then-not-is_online g c = λ f there at. off_refusal f c.is_online.result (c.is_online.ensures f there at) c.if-not-is_online.true

pub returns-then-has_copy : goal.returns-then-has_copy
returns-then-has_copy g c = λ f there at.
    yes_refusal f c.is_online.result c.has_copy.result (c.is_online.ensures f there at) c.if-not-is_online.false
    (c.has_copy.ensures f.rec (subst (λ (l : List FileRec). Contains l f.rec) (sym c.tree.ensures.files) (rec_there c.args.online.now.contents.files f there)) at) c.if-has_copy.true

pub returns-else-has_copy : goal.returns-else-has_copy
returns-else-has_copy g c = λ f there at.
    no_refusal f c.is_online.result c.has_copy.result (c.is_online.ensures f there at) c.if-not-is_online.false
    (c.has_copy.ensures f.rec (subst (λ (l : List FileRec). Contains l f.rec) (sym c.tree.ensures.files) (rec_there c.args.online.now.contents.files f there)) at) c.if-has_copy.false
