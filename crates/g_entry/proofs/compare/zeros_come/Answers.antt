use Rattle.std.proofs.Common.{ℕ, take}
use Rattle.std.specs.Prelude.{replicate}
use Rattle.std.proofs.lemmas.List.{take-replicate}
use Rattle.g_entry.proofs.ComingLemmas.{comes_as}
use Rattle.g_entry.proofs.compare.zeros_come.Goals as goal

pub returns : goal.returns
returns c = comes_as (take c.args.count (replicate {A = ℕ} 512 0)) (replicate {A = ℕ} c.args.count 0) c.args.reader.now c.next_bytes_equal.new.reader c.next_bytes_equal.result (take-replicate {X = ℕ} c.args.count 512 0 c.requires.few) c.next_bytes_equal.ensures
