-- The greatest generation so far, combined with those of the remaining files.
use Rattle.std.proofs.Common.{◌≡◌, fold, max}
use Rattle.g_plain.specs.PlainTree.{generations}
use Rattle.g_plain_store.proofs.file_map.newest_in.Given as goal

abbrev pub invariant-loop-full : goal.invariant-loop-full
invariant-loop-full l = fold max l.newest (generations l.name l.full-iterator) ≡ fold max 0 (generations l.name l.rows.entries)
