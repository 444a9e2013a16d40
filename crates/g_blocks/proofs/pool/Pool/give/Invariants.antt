use Rattle.std.proofs.Common.{take}
use Rattle.g_blocks.specs.Pool.{HasGiven}
use Rattle.g_blocks.proofs.pool.Pool.give.Given as goal

abbrev pub invariant-loop-block : goal.invariant-loop-block
invariant-loop-block l = HasGiven (take l.block-index l.blocks) l.initial.self l.self
