use Rattle.g_script.proofs.PieceLemmas.{split-from}
use Rattle.g_script.proofs.number.parts_at.Goals as goal

pub returns : goal.returns
returns c = split-from c.args.byte c.args.text.now c.split_at_byte.result c.split_at_byte.ensures.split
