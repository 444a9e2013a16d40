-- The greatest generation so far, combined with those of the remaining files, whose owners exist.
use Rattle.std.proofs.Common.{◌≡◌, ◌<◌, length, fold, max, map, filter}
use Rattle.std.specs.List.{All}
use Rattle.g_plain.specs.PlainTree.{is_version_of}
use Rattle.g_tree.specs.Records.{full_of}
use Rattle.g_tree.specs.Answers.{newest_of}
use Rattle.g_tree.specs.State.{without_file}
use Rattle.g_tree.proofs.scan.newest_besides.Given as goal

abbrev pub invariant-loop-file : goal.invariant-loop-file
invariant-loop-file l =
    (fold max l.newest (map (λ r. r.generation) (filter (λ r. is_version_of l.name (full_of l.users r)) (without_file l.number l.file-iterator))) ≡ newest_of l.users l.name (without_file l.number l.files))
    × (All (λ r. r.owner < length l.users) l.file-iterator)
