-- As many files as records.
use Rattle.std.proofs.Common.{length, sym, ap, ◌∙◌}
use Rattle.g_tree.specs.AskedRecords.{zeros}
use Rattle.g_tree.proofs.RuleLemmas.{count_files}
use Rattle.g_tree.proofs.asked.RecordsQuestions.files.Goals as goal

pub returns : goal.returns
returns c =
    let s = c.args.self.now in
    c.len.ensures ∙ ap length c.files.ensures.value ∙ sym (count_files s.tree.now.users s.tree.now.files zeros s.next c.files.ensures.records)
