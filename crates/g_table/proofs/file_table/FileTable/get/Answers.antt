use Rattle.std.proofs.Common.{Some, ap, ◌∙◌}
use Rattle.g_table.specs.Files.{rec_at}
use Rattle.g_table.proofs.FileLemmas.{rec_is}
use Rattle.g_table.proofs.file_table.FileTable.get.Goals as goal

pub returns-in-Some : goal.returns-in-Some
returns-in-Some c =
    ap Some c.get-in-Some.ensures ∙ c.in-Some.ensures ∙ rec_is c.self.inside.records c.args.number c.self.invariant ∙ ap (λ files. rec_at files c.args.number) c.self.view_is

pub returns-in-None : goal.returns-in-None
returns-in-None c = c.in-None.ensures ∙ rec_is c.self.inside.records c.args.number c.self.invariant ∙ ap (λ files. rec_at files c.args.number) c.self.view_is
