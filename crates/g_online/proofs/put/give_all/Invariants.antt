use Rattle.std.proofs.Common.{take}
use Rattle.g_blocks.specs.Pool.{HasGiven}
use Rattle.g_online.specs.Unloading.{places_off}
use Rattle.g_online.proofs.put.give_all.Given as goal

abbrev pub invariant-loop-number : goal.invariant-loop-number
invariant-loop-number l = HasGiven (places_off (take l.number-index l.numbers) l.online) l.fn.pool l.pool
