-- What a line leaves of the crew, whether or not the devices expose their contents.
-- serves: JobLemmas, LineLemmas, UpLemmas, crates above
use Rattle.std.proofs.Common.{◌≡◌, ℕ, false, List, Option, sym, subst, refl, arith}
use Rattle.std.proofs.lemmas.List.Elements.{All-nil, All-push}
use Rattle.g_entry.specs.declared.user_rec.UserRec.{UserRec}
use Rattle.g_job.specs.Beginning.{job_begun}
use Rattle.g_job.specs.State.{JobState}
use Rattle.g_plain.specs.declared.faults.StoreFault.{StoreFault}
use Rattle.g_plain.specs.declared.faults.StoreFault.TheVariants.{NoMemory, Stopped}
use Rattle.g_job_table.specs.Crew.{CrewState}
use Rattle.g_job.specs.declared.new_job.NewJob.{NewJob}
use Rattle.g_day.specs.declared.progress.Failure.{Failure}
use Rattle.g_day.specs.Jobs.{joined}
use Rattle.g_day.specs.Opening.{Opens}
use Rattle.g_day.specs.Parts.{LeavesCrew}
use Rattle.g_day.specs.Telling.{TellsFault, without_jobs}

pub leaves_same : (c : CrewState) → LeavesCrew c c
leaves_same c = record { jobs = λ was. was; numbers = omega arith }

pub leaves_is : (c c' : CrewState) → c' ≡ c → LeavesCrew c c'
leaves_is c c' is = subst (λ (k : CrewState). LeavesCrew c k) (sym is) (leaves_same c)

pub leaves_none : (c : CrewState) → LeavesCrew c (without_jobs c)
leaves_none c = record { jobs = λ was. All-nil (λ (j : JobState). j.over ≡ false); numbers = omega arith }

pub leaves_opened : (users : List UserRec) (c c' : CrewState) → Opens users c c' → LeavesCrew c c'
leaves_opened users c c' opens = subst (λ (k : CrewState). LeavesCrew c k) (sym opens.others) (record { jobs = λ was. was; numbers = omega arith })

pub leaves_joined : (job : NewJob) (c : CrewState) → LeavesCrew c (joined job c)
leaves_joined job c = record {
  jobs = λ was. All-push (λ (j : JobState). j.over ≡ false) c.jobs (job_begun c.next_job job.name job.user job.time job.money job.lines) was refl;
  numbers = omega arith;
}

-- a fault that is reported leaves the jobs unchanged, or, if it is a stop, none
pub leaves_told : (fault : StoreFault) (count : ℕ) (c : CrewState) (failure : Option Failure) (c' : CrewState) (before after : Option (List ℕ)) (faults faults' : ℕ)
    → TellsFault fault count c failure c' before after faults faults' → LeavesCrew c c'
leaves_told NoMemory count c failure c' before after faults faults' tells = leaves_is c c' tells.1
leaves_told Stopped count c failure c' before after faults faults' tells = subst (λ (k : CrewState). LeavesCrew c k) (sym tells.0) (leaves_none c)
leaves_told fault count c failure c' before after faults faults' tells = leaves_is c c' tells.0
