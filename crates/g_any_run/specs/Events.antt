-- The events of a run, as steps of the store's state.
use Rattle.std.specs.Prelude.{◌≡◌, ℕ, List, [], Option, Some, Result, Err}
use Rattle.g_name.specs.declared.full.Full.{Full}
use Rattle.g_name.specs.declared.path.Path.{Path}
use Rattle.g_plain.specs.declared.calls.StoreCall.{StoreCall}
use Rattle.g_plain.specs.declared.faults.StoreFault.{StoreFault}
use Rattle.g_plain.specs.declared.faults.StoreFault.TheVariants as fault
use Rattle.g_plain.specs.Programs.{Answer}
use Rattle.g_plain.specs.PlainTree.{input_name}
use Rattle.g_store_model.specs.State.{State, Holding, OpenDump}
use Rattle.g_store_model.specs.CallStep.{Outcome, Plain, DiscRead, TapeRead, Cut}
use Rattle.g_store_model.specs.DumpSteps.{Stepped}
use Rattle.g_store_model.specs.DumpSteps.{MountStep, UnmountStep, OpenStep, DumpStep, MigrateStep}
use Rattle.g_store_model.specs.CallStep.{CallStep}
use Rattle.g_store_model.specs.Process.{ProcessStep}
use Rattle.g_store_model.specs.Rising.{FormatStep, StartStep, RestoreStep}

-- The answer shows the outcome: a failed read by its refusal, a failed write by `Stopped`. Therefore no event has an
-- outcome that its answer doesn't show.
abbrev pub IsTold : {A : Type 0} → Outcome → Result A StoreFault → Type 0
IsTold Plain answer = Unit {0}
IsTold DiscRead answer = answer ≡ Err fault.DiscReadFault
IsTold TapeRead answer = answer ≡ Err fault.TapeReadFault
IsTold Cut answer = answer ≡ Err fault.Stopped

-- A call of a job.
abbrev pub IsCall : State → List ℕ → StoreCall → Outcome → Answer → State → Type 0
IsCall s who call o answer new = (k : Holding) × (s.holding ≡ Some k) × CallStep s k who call o answer new × IsTold o answer

-- A step of the open dump.
abbrev pub IsDumpStep : State → Outcome → Result Stepped StoreFault → State → Type 0
IsDumpStep s o r new = (k : Holding) × (d : OpenDump) × (s.holding ≡ Some k) × (s.open_dump ≡ Some d) × DumpStep s k d o r new × IsTold o r

-- The opening of a dump.
abbrev pub IsOpening : State → ℕ → Outcome → Result ℕ StoreFault → State → Type 0
IsOpening s serial o r new = (k : Holding) × (s.holding ≡ Some k) × OpenStep s k serial o r new × IsTold o r

-- A PROCESS.
abbrev pub IsProcessing : State → ℕ → Outcome → Result ℕ StoreFault → State → Type 0
IsProcessing s serial o r new = (k : Holding) × (s.holding ≡ Some k) × ProcessStep s k serial o r new × IsTold o r

-- No user is the caller of MIGRATE, so the path must name one.
abbrev pub IsMigration : State → Path → Outcome → Result Full StoreFault → State → Type 0
IsMigration s path o r new = (k : Holding) × (s.holding ≡ Some k) × MigrateStep s k path.user (input_name k.tree [] path) o r new × IsTold o r

-- The three lines that bring up a system that is down.
abbrev pub IsFormat : State → Outcome → Result (Unit {0}) StoreFault → State → Type 0
IsFormat s o r new = FormatStep s o r new × IsTold o r

-- START of a system that is down.
abbrev pub IsStart : State → Outcome → Result (Option ℕ) StoreFault → State → Type 0
IsStart s o r new = StartStep s o r new × IsTold o r

-- RESTORE of a system that is down.
abbrev pub IsRestore : State → Outcome → Result ℕ StoreFault → State → Type 0
IsRestore s o r new = RestoreStep s o r new × IsTold o r

-- Reels are mounted and unmounted without a read or a write.
abbrev pub IsMounting : State → ℕ → Outcome → Result (Unit {0}) StoreFault → State → Type 0
IsMounting s serial o r new = (o ≡ Plain) × MountStep s serial r new

-- An unmount, without a read or a write.
abbrev pub IsUnmounting : State → ℕ → Outcome → Result (Unit {0}) StoreFault → State → Type 0
IsUnmounting s serial o r new = (o ≡ Plain) × UnmountStep s serial r new
