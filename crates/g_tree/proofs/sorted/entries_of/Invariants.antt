-- The entries so far, followed by those of the remaining files.
use Rattle.std.proofs.Common.{◌≡◌, ◌==◌, ◌++◌, filter, map}
use Rattle.g_tree.specs.Names.{name_in}
use Rattle.g_tree.proofs.sorted.entries_of.Given as goal

abbrev pub invariant-loop-file : goal.invariant-loop-file
invariant-loop-file l =
    l.entries.items ++ map (λ r. (name_in r, r.number)) (filter (λ r. r.owner == l.owner) l.file-iterator) ≡ map (λ r. (name_in r, r.number)) (filter (λ r. r.owner == l.owner) l.files)
