-- The job continues, and the store accepts calls.
use Rattle.std.proofs.Common.{◌≡◌, false}
use Rattle.store_rows.proofs.jobs.finish.Given as goal

abbrev pub invariant-loop : goal.invariant-loop
invariant-loop g l = record {
  goes : l.job.over ≡ false;
  running : g.S.Filestore.is_spent l.store ≡ false;
}
