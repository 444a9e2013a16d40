use Rattle.std.proofs.Common.{append_assoc, rules}
use Rattle.g_operator.proofs.jobs.came_in.Goals as goal

pub returns : goal.returns
returns c = search (rules, append_assoc)
