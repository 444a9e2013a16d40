-- The blocks so far and those of the files that are left are those of all files, and there is room for them.
use Rattle.std.proofs.Common.{◌≡◌, ◌+◌, ◌*◌, ◌≤◌, length, sum_by}
use Rattle.g_plain.specs.PlainTree.{blocks_of}
use Rattle.g_plain_store.proofs.file_map.used_in.Given as goal

abbrev pub invariant-loop-full : goal.invariant-loop-full
invariant-loop-full l =
    (l.used + sum_by (blocks_of l.user) l.full-iterator ≡ sum_by (blocks_of l.user) l.rows.entries)
    × (l.used + 128 * length l.full-iterator ≤ 131072)
