-- The files so far follow the text.
use Rattle.std.proofs.Common.{◌≡◌, ◌++◌, take}
use Rattle.g_run_model.specs.Texts.{broken_files}
use Rattle.g_job_table.proofs.files.push_each_broken.Given as goal

abbrev pub invariant-loop-job : goal.invariant-loop-job
invariant-loop-job l = l.text ≡ l.fn.text ++ broken_files (take l.job-index l.jobs)
