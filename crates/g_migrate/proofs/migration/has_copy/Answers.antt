use Rattle.std.proofs.Common.{◌∙◌}
use Rattle.g_migrate.proofs.MigrationLemmas.{copy_absent, copy_there}
use Rattle.g_migrate.proofs.migration.has_copy.Goals as goal

pub returns-in-Some : goal.returns-in-Some
returns-in-Some c = λ r there at.
    c.is_some.ensures ∙ copy_there c.args.tree.now.users c.args.tree.now.files c.args.number c.in-Some.file.now c.file_at.ensures.records c.in-Some.ensures.value r there at

pub returns-in-None : goal.returns-in-None
returns-in-None c = λ r there at. absurd (copy_absent c.args.tree.now.users c.args.tree.now.files c.args.number c.file_at.ensures.records c.in-None.ensures.value r there at)
