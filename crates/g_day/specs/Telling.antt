-- What is printed for an event that was refused or stopped, and what is at hand then.
use Rattle.std.specs.Prelude.{◌≡◌, ℕ, List, [], ◌++◌, Option, Some, codes}
use Rattle.g_plain.specs.declared.faults.StoreFault.{StoreFault}
use Rattle.g_plain.specs.declared.faults.StoreFault.TheVariants.{NoMemory, Stopped}
use Rattle.g_monitor.specs.Refusals.{fault_line}
use Rattle.g_store_meaning.specs.StoreInvariant.{StoreFacts}
use Rattle.g_run_model.specs.Texts.{broken_files, operator_line}
use Rattle.g_job_table.specs.Crew.{CrewState}
use Rattle.g_day.specs.declared.progress.Failure.{Failure}
use Rattle.g_day.specs.declared.progress.Failure.TheVariants.{Memory}
use Rattle.g_day.specs.Puts.{Puts}
use Rattle.g_day.specs.System.{Down, SystemFacts, Up}

-- The crew without jobs and accounts; the job numbers continue.
abbrev pub without_jobs : CrewState → CrewState
without_jobs c = record c { jobs = []; accounts = [] }

-- The line that reports a refusal.
abbrev pub refusal_text : ℕ → StoreFault → List ℕ
refusal_text count fault = operator_line count (codes "REFUSED " ++ fault_line fault)

-- The system is down: the line that reports it, and the files of the jobs.
abbrev pub down_text : ℕ → List ℕ → CrewState → List ℕ
down_text count what c = operator_line count what ++ broken_files c.jobs

-- If memory ran out nothing is printed; a stop ends all jobs; any other fault is printed as a refusal.
abbrev pub TellsFault : StoreFault → ℕ → CrewState → Option Failure → CrewState → Option (List ℕ) → Option (List ℕ) → ℕ → ℕ → Type 0
TellsFault NoMemory count c failure c' before after old new = (failure ≡ Some Memory) × (c' ≡ c) × (after ≡ before) × (new ≡ old)
TellsFault Stopped count c failure c' before after old new = (c' ≡ without_jobs c) × Puts failure (down_text count (codes "SYSTEM STOPPED") c) before after old new
TellsFault fault count c failure c' before after old new = (c' ≡ c) × Puts failure (refusal_text count fault) before after old new

-- A store that was stopped is taken down.
abbrev pub system_after : StoreFault → StoreFacts → SystemFacts
system_after Stopped s = Down (record { disc = s.online.disc; rack = s.rack })
system_after fault s = Up s

-- A system that was down stays down.
abbrev pub system_behind : StoreFault → SystemFacts → SystemFacts
system_behind fault (Up s) = system_after fault s
system_behind fault (Down d) = Down d
