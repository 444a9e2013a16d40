use Rattle.std.proofs.Common.{take}
use Rattle.g_blocks.specs.Pool.{HasTaken}
use Rattle.g_online.specs.Unloading.{places_off}
use Rattle.g_online.proofs.put.retake_all.Given as goal

abbrev pub invariant-loop-number : goal.invariant-loop-number
invariant-loop-number l = HasTaken (places_off (take l.number-index l.numbers) l.online) l.fn.pool l.pool
