use Rattle.std.proofs.Common.{◌∙◌}
use Rattle.g_copy.proofs.Blocks.{block-clipped}
use Rattle.g_copy.proofs.write.put_part.Goals as goal

pub returns : goal.returns
returns c = (rw c.restart.ensures at c.put_bytes.ensures) ∙ rw (c.min-end.ensures, c.min-start.ensures) (block-clipped c.args.bytes.now c.args.i)
