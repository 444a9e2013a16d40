-- What is remembered of the files so far, and room for the names of the others.
use Rattle.std.proofs.Common.{◌+◌, ◌*◌, ◌≤◌, take, length}
use Rattle.g_tree.specs.State.{AreIndexed, AreNewest, AreUsed, IsTopped}
use Rattle.g_tree.proofs.tree.changes.counts_of.Given as goal

abbrev pub invariant-loop-file : goal.invariant-loop-file
invariant-loop-file l =
    (AreIndexed l.users (take l.file-index l.files) l.counts.names.entries)
    × (AreNewest l.users (take l.file-index l.files) l.counts.names.entries)
    × (IsTopped l.counts.names.entries)
    × (AreUsed (take l.file-index l.files) l.counts.blocks.items) × (2 * length l.files ≤ l.counts.names.spare + 2 * l.file-index)
