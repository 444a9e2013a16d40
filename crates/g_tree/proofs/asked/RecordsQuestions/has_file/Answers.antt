-- A file exists if it has a number.
use Rattle.std.proofs.Common.{◌∙◌}
use Rattle.g_tree.specs.AskedRecords.{zeros}
use Rattle.g_tree.proofs.asked.RecordsQuestions.has_file.Goals as goal

pub returns : goal.returns
returns c = c.is_some.ensures ∙ c.number_of.ensures.there zeros c.args.self.now.next
