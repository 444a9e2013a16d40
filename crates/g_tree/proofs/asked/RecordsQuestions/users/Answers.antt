-- As many users as records.
use Rattle.std.proofs.Common.{length, sym, ap, ◌∙◌}
use Rattle.g_tree.specs.AskedRecords.{zeros}
use Rattle.g_tree.proofs.RuleLemmas.{count_users}
use Rattle.g_tree.proofs.asked.RecordsQuestions.users.Goals as goal

pub returns : goal.returns
returns c =
    let s = c.args.self.now in
    ap length c.users.ensures.value ∙ sym (count_users s.tree.now.users s.tree.now.files zeros s.next c.users.ensures.records)
