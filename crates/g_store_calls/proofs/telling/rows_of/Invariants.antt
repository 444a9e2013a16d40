use Rattle.std.proofs.Common.{◌≡◌, map, take}
use Rattle.g_store_calls.specs.Replies.{row_of}
use Rattle.g_store_calls.proofs.telling.rows_of.Given as goal

abbrev pub invariant-loop-number : goal.invariant-loop-number
invariant-loop-number l = l.listing ≡ map (row_of l.tree.users l.tree.files) (take l.number-index l.numbers)
