use Rattle.std.proofs.Common.{arith, sym}
use Rattle.g_known.proofs.KnownLemmas.{number_last}
use Rattle.g_known.proofs.reading.least_behind.Goals as goal

pub overflow_add-result : goal.overflow_add-result
overflow_add-result c = let is = number_last 0 c.args.notes.now _ c.in-Some.ensures.value in let low = c.requires in omega arith

pub returns-in-Some : goal.returns-in-Some
returns-in-Some c = sym (number_last 0 c.args.notes.now _ c.in-Some.ensures.value)
