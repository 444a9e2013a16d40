use Rattle.std.proofs.Common.{take}
use Rattle.g_online.proofs.UnjamLemmas.{IsForgotten}
use Rattle.g_online.proofs.put.forget_all.Given as goal

abbrev pub invariant-loop-number : goal.invariant-loop-number
invariant-loop-number l = IsForgotten (take l.number-index l.numbers) l.fn.online l.online l.fn.pages l.pages
