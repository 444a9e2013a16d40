use Rattle.std.proofs.Common.{arith}
use Rattle.g_look.proofs.CompareLemmas.{text_next}
use Rattle.g_look.proofs.tape.text_in.Goals as goal

pub loop-block-preserved : goal.loop-block-preserved
loop-block-preserved c = text_next c.args.len c.loop-block.block-index c.args.blocks.now _ c.loop-block.bytes.items _ (omega arith) c.loop-block.invariant c.in_ok-add_block.ensures
