-- None of the jobs so far has the number.
use Rattle.std.proofs.Common.{◌≡◌, None, take}
use Rattle.g_job_table.specs.Numbers.{job_in}
use Rattle.g_job_table.proofs.place.searched.Given as goal

abbrev pub invariant-loop-place : goal.invariant-loop-place
invariant-loop-place l = job_in l.number (take l.place l.jobs) ≡ None
