use Rattle.std.proofs.Common.{take}
use Rattle.g_online.proofs.OffLemmas.{IsOff}
use Rattle.g_online.proofs.off.take_off.Given as goal

abbrev pub invariant-loop-number : goal.invariant-loop-number
invariant-loop-number l = IsOff (take l.number-index l.numbers) l.fn.online l.online l.fn.pool l.pool l.fn.pages l.pages
