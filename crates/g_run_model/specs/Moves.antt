-- The moves of a run: the definitions of g_any_run for the program's jobs.
use Rattle.std.specs.Prelude.{ℕ, List, Result}
use Rattle.std.specs.Fn.{Shared}
use denote.Ref.{Bor}
use Rattle.g_rules.specs.declared.tariff.Usage.{Usage}
use Rattle.g_rules.specs.declared.tariff.Charge.{Charge}
use Rattle.g_rules.specs.declared.rule.Standing.{Standing}
use Rattle.g_plain.specs.declared.faults.StoreFault.{StoreFault}
use Rattle.g_rules.specs.declared.turn.Turn.{Turn}
use Rattle.g_job.specs.State.{JobState}
use Rattle.g_store_model.specs.State.{State}
use Rattle.g_store_model.specs.DumpSteps.{Stepped as DumpStepped}
use Rattle.g_run_model.specs.Devices.{Devices}
use Rattle.g_run_model.specs.World.{World}
use Rattle.g_run_model.specs.TheJobs.{the_jobs}
use Rattle.g_any_run.specs.Moves as any
pub use Rattle.g_any_run.specs.Moves.{Move, TakeLine, Dumped, Begin, Answered, TurnOver, Ticked, Over, Failures, WritesFailed, Happened, outcome_of, disc_reads_in, tape_reads_in, cuts_in, counted, is_dump, not_dump, cuts_of_calls, cuts_of_dumps, EventCounted, DumpCounted, LineCounted, MovesCounted}

abbrev pub dump_told : ℕ → Result DumpStepped StoreFault → State → World → World
dump_told a b c d = any.dump_told the_jobs a b c d

abbrev pub turn_told : JobState → Turn → World → World
turn_told a b c = any.turn_told the_jobs a b c

module _ {F U : Type 0} (tariffs : Shared F (Bor Usage × Unit {0}) Charge) (tariff : F) (rules : Shared U (Bor Standing × Unit {0}) ℕ) (rule : U) where
  abbrev pub Step : World → Move → World → Type 0
  Step w move new = any.Step the_jobs tariffs tariff rules rule w move new

  abbrev pub Run : World → List Move → World → Type 0
  Run w moves new = any.Run the_jobs tariffs tariff rules rule w moves new

abbrev pub Counted : List Move → World → Devices → Devices → Type 0
Counted moves last old new = any.Counted moves last old new
