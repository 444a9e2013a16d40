use Rattle.std.proofs.Common.{[]}
use Rattle.g_demo.proofs.summary.Summary.of_text.Goals as goal

pub returns : goal.returns
returns c = c.add.ensures [] c.new-summary.ensures
