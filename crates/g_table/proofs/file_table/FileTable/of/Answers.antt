use Rattle.std.proofs.Common.{ap, ◌∙◌}
use Rattle.g_table.specs.Files.{with_rec}
use Rattle.g_table.proofs.FileLemmas.{put_last}
use Rattle.g_table.proofs.file_table.FileTable.of.Goals as goal

pub loop-file-preserved : goal.loop-file-preserved
loop-file-preserved c =
    c.put.ensures.files ∙ ap (λ r. with_rec r c.loop-file.table) (c.in_ok-new.ensures ∙ c.copy.ensures) ∙ ap (with_rec c.file-item.result) c.loop-file.invariant
    ∙ put_last c.args.files.now c.loop-file.file-index c.file-item.result c.requires c.loop-file-test.true c.file-item.is
