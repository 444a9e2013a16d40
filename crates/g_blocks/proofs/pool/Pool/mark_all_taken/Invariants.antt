use Rattle.std.proofs.Common.{take}
use Rattle.g_blocks.specs.Pool.{HasTaken}
use Rattle.g_blocks.proofs.pool.Pool.mark_all_taken.Given as goal

abbrev pub invariant-loop-block : goal.invariant-loop-block
invariant-loop-block l = HasTaken (take l.block-index l.blocks) l.initial.self l.self
