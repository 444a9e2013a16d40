-- The files so far, followed by the remaining ones.
use Rattle.std.proofs.Common.{◌≡◌, ◌++◌}
use Rattle.g_plain.specs.PlainTree.{lengths}
use Rattle.g_plain_store.proofs.file_map.listing_of.Given as goal

abbrev pub invariant-loop-full : goal.invariant-loop-full
invariant-loop-full l = l.listing ++ lengths l.user l.full-iterator ≡ lengths l.user l.rows.entries
