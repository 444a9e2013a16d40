-- The candidates among the files so far, followed by the remaining records.
use Rattle.g_migrate.proofs.CandidateLemmas.{IsListed}
use Rattle.g_migrate.proofs.candidates.candidates.Given as goal

abbrev pub invariant-loop-file : goal.invariant-loop-file
invariant-loop-file g l = IsListed l.online.contents.files l.file-iterator l.candidates.items
