-- A file exists if its name has a number.
use Rattle.g_tree.specs.AskedRecords.{zeros}
use Rattle.g_tree.proofs.asked.Records.find.Goals as goal

pub returns-clause-there : goal.returns-clause-there
returns-clause-there c = c.number_of-number.ensures.there zeros c.args.self.now.next
