-- The users are those of the records.
use Rattle.g_tree.specs.AskedRecords.{zeros}
use Rattle.g_tree.proofs.asked.RecordsQuestions.has_user.Goals as goal

pub returns : goal.returns
returns c = c.has_user.ensures zeros c.args.self.now.next
