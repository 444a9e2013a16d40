-- The lines so far follow the text.
use Rattle.std.proofs.Common.{◌≡◌, ◌++◌, take}
use Rattle.g_session.specs.Standing.{jobs_text}
use Rattle.g_session.proofs.answering.push_running_jobs.Given as goal

abbrev pub invariant-loop-job : goal.invariant-loop-job
invariant-loop-job g l = l.text ≡ l.fn.text ++ jobs_text l.store.rack (take l.job-index l.jobs)
