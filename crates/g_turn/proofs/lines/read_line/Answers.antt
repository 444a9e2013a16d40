use Rattle.g_turn.proofs.SpokenLemmas.{read_said, read_well}
use Rattle.g_turn.proofs.lines.read_line.Goals as goal

pub returns-clause-reading : goal.returns-clause-reading
returns-clause-reading c = read_said c.args.text.now c.parse_line.result c.parse_line.ensures.one

pub returns-clause-well : goal.returns-clause-well
returns-clause-well c = read_well c.args.text.now c.parse_line.result c.parse_line.ensures.grammar
