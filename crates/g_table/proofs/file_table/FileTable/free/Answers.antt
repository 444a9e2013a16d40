use Rattle.g_table.proofs.FileLemmas.{free_least, free_unused}
use Rattle.g_table.proofs.file_table.FileTable.free.Goals as goal

pub returns-clause-unused : goal.returns-clause-unused
returns-clause-unused c = free_unused c.self.inside.records c.args.self.now c.free.result c.self.invariant c.self.view_is c.free.ensures.unused

pub returns-clause-least : goal.returns-clause-least
returns-clause-least c = free_least c.self.inside.records c.args.self.now c.free.result c.self.invariant c.self.view_is c.free.ensures.least
