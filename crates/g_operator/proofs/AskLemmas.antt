-- A LINE THAT CALLS THE STORE, on a system that is up or down.
-- serves: dump_line, migrate_line, process_line
use Rattle.std.proofs.Common.{◌≡◌, ℕ, ◌++◌, List, [], Option, Some, refl, sym, subst}
use Rattle.std.specs.Prelude.{Result, Ok, Err, codes}
use Rattle.g_name.specs.declared.path.Path.{Path}
use Rattle.g_plain.specs.declared.faults.StoreFault.{StoreFault}
use Rattle.g_plain.specs.declared.faults.StoreFault.TheVariants.{NotStarted}
use Rattle.g_plain.specs.PlainTree.{input_name}
use Rattle.g_monitor.specs.Parts.{full_text}
use Rattle.g_store_model.specs.State.{Holding, State}
use Rattle.g_store_model.specs.CallStep.{Outcome}
use Rattle.g_store_model.specs.DumpSteps.{MigrateStep, OpenStep}
use Rattle.g_store_model.specs.Process.{ProcessStep}
use Rattle.g_store.specs.Events.{Migrates}
use Rattle.g_script.specs.declared.operator.Operator.{Operator}
use Rattle.g_script.specs.declared.operator.Operator.TheVariants as line
use Rattle.g_run_model.specs.Devices.{Devices}
use Rattle.g_run_model.specs.Events.{IsTold}
use Rattle.g_run_model.specs.Lines.{now_stands, LineGives, Asks}
use Rattle.g_run_model.specs.Texts.{dump_text, operator_line, processed_text}
use Rattle.g_run_model.specs.World.{World}
use Rattle.g_job_table.specs.Crew.{CrewState}
use Rattle.g_day.specs.declared.progress.Failure.{Failure}
use Rattle.g_operator.specs.Asking.{AsksOf, Opened, Processed}
use Rattle.g_day.specs.Parts.{DidLine, IsReady, disc_arms, seen, tape_arms}
use Rattle.g_day.specs.Puts.{Puts}
use Rattle.g_store_meaning.specs.StoreInvariant.{StoreFacts}
use Rattle.g_day.specs.System.{Down, SystemFacts, Up}
use Rattle.g_day.specs.Telling.{TellsFault, system_after, system_behind}
use Rattle.g_operator.proofs.ProcessLemmas.{processed_line, unprocessed_line}
use Rattle.g_day.proofs.UpLemmas.{down_line, migrated_line, opened_line, unmigrated_line, unopened_line}

-- a system that is down refuses it
down_asked : {A : Type 0} (what : Operator) (by : State → Holding → Outcome → Result A StoreFault → State → Type 0) (said : A → List ℕ)
    → ((o : Outcome) (w next : World) → Asks o w.store.up NotStarted (λ r s. (k : Holding) × (w.store.holding ≡ Some k) × by w.store k o r s × IsTold o r) (λ x. now_stands (said x)) w next → LineGives o what w next)
    → disc_arms what ≡ [] → tape_arms what ≡ [] → (d e : Devices) (c c' : CrewState) (count : ℕ) → IsReady (Down d) c → (fault : StoreFault) → (let answer : Result A StoreFault = Err fault in answer ≡ Err NotStarted) → e ≡ d
    → (failure : Option Failure) (before after : Option (List ℕ)) (faults faults' : ℕ) → TellsFault fault count c failure c' before after faults faults'
    → DidLine what (seen (Down d) c count) failure (seen (Down e) c' count) before after faults faults'
down_asked what by said lifts no_disc no_tape d e c c' count ready NotStarted is same failure before after faults faults' tells =
    let (crew, puts) = tells in
    subst (λ (x : Devices). DidLine what (seen (Down d) c count) failure (seen (Down x) c' count) before after faults faults') (sym same)
    (subst (λ (k : CrewState). DidLine what (seen (Down d) c count) failure (seen (Down d) k count) before after faults faults') (sym crew)
    (down_line what by said lifts no_disc no_tape d c count ready failure before after faults faults' puts))
down_asked what by said lifts no_disc no_tape d e c c' count ready fault is same failure before after faults faults' tells = let never : ⊥ = cc in absurd never

-- a line that calls the store, by what the store grants and refuses, and what is printed for what is granted: its effect
-- with a store, and without one
pub record AsksBy {A : Type 0} (what : Operator) (asks : StoreFacts → Result A StoreFault → StoreFacts → Type 0) (said : A → List ℕ) : Type 0 where
  pub granted : (s t : StoreFacts) (c : CrewState) → IsReady (Up s) c → (count : ℕ) (reply : A) → asks s (Ok reply) t → (failure : Option Failure) (before after : Option (List ℕ)) (faults faults' : ℕ)
      → Puts failure (operator_line count (said reply)) before after faults faults' → DidLine what (seen (Up s) c count) failure (seen (Up t) c count) before after faults faults'
  pub refused : (s t : StoreFacts) (c : CrewState) → IsReady (Up s) c → (count : ℕ) (fault : StoreFault) → asks s (Err fault) t → (failure : Option Failure) (c' : CrewState) (before after : Option (List ℕ)) (faults faults' : ℕ)
      → TellsFault fault count c failure c' before after faults faults' → DidLine what (seen (Up s) c count) failure (seen (system_after fault t) c' count) before after faults faults'
  pub down : (d e : Devices) (c c' : CrewState) (count : ℕ) → IsReady (Down d) c → (fault : StoreFault) → (let answer : Result A StoreFault = Err fault in answer ≡ Err NotStarted) → e ≡ d
      → (failure : Option Failure) (before after : Option (List ℕ)) (faults faults' : ℕ) → TellsFault fault count c failure c' before after faults faults'
      → DidLine what (seen (Down d) c count) failure (seen (Down e) c' count) before after faults faults'

-- on a system that is up or down: one that is down grants nothing
pub granted_by : {A : Type 0} {what : Operator} {asks : StoreFacts → Result A StoreFault → StoreFacts → Type 0} {said : A → List ℕ} → AsksBy what asks said → (old new : SystemFacts) (c : CrewState) (count : ℕ) → IsReady old c → (reply : A)
    → AsksOf asks old (Ok reply) new → (failure : Option Failure) (before after : Option (List ℕ)) (faults faults' : ℕ) → Puts failure (operator_line count (said reply)) before after faults faults'
    → DidLine what (seen old c count) failure (seen new c count) before after faults faults'
granted_by asked (Up s) (Up t) c count ready reply is failure before after faults faults' puts = asked.granted s t c ready count reply is failure before after faults faults' puts
granted_by asked (Up s) (Down d) c count ready reply is failure before after faults faults' puts = absurd is
granted_by asked (Down d) (Up t) c count ready reply is failure before after faults faults' puts = absurd is
granted_by asked (Down d) (Down e) c count ready reply is failure before after faults faults' puts = let (err, same) = is in let never : ⊥ = cc in absurd never

pub refused_by : {A : Type 0} {what : Operator} {asks : StoreFacts → Result A StoreFault → StoreFacts → Type 0} {said : A → List ℕ} → AsksBy what asks said → (old new : SystemFacts) (c : CrewState) (count : ℕ) → IsReady old c → (fault : StoreFault)
    → AsksOf asks old (Err fault) new → (failure : Option Failure) (c' : CrewState) (before after : Option (List ℕ)) (faults faults' : ℕ) → TellsFault fault count c failure c' before after faults faults'
    → DidLine what (seen old c count) failure (seen (system_behind fault new) c' count) before after faults faults'
refused_by asked (Up s) (Up t) c count ready fault is failure c' before after faults faults' tells = asked.refused s t c ready count fault is failure c' before after faults faults' tells
refused_by asked (Up s) (Down d) c count ready fault is failure c' before after faults faults' tells = absurd is
refused_by asked (Down d) (Up t) c count ready fault is failure c' before after faults faults' tells = absurd is
refused_by asked (Down d) (Down e) c count ready fault is failure c' before after faults faults' tells =
    let (err, same) = is in asked.down d e c c' count ready fault err same failure before after faults faults' tells

-- DUMP, PROCESS and MIGRATE
pub opens_line : (serial : ℕ) → AsksBy (line.Dump serial) (λ s answer t. Opened serial s answer t) (λ n. dump_text n (codes "OPENED"))
opens_line serial = record {
  granted = λ s t c ready count number is. opened_line serial s t c ready count number is.opens is.begins;
  refused = λ s t c ready count fault is. unopened_line serial s t c ready count fault is.opens;
  down = down_asked (line.Dump serial) (λ s k o a n. OpenStep s k serial o a n) (λ n. dump_text n (codes "OPENED")) (λ o w next it. it) refl refl;
}

pub processes_line : (serial : ℕ) → AsksBy (line.Process serial) (λ s answer t. Processed serial s answer t) (processed_text serial)
processes_line serial = record {
  granted = λ s t c ready count. processed_line serial s t c ready count;
  refused = λ s t c ready count. unprocessed_line serial s t c ready count;
  down = down_asked (line.Process serial) (λ s k o a n. ProcessStep s k serial o a n) (processed_text serial) (λ o w next it. it) refl refl;
}

pub migrates_line : (path : Path) → AsksBy (line.Migrate path) (λ s answer t. Migrates path s answer t) (λ full. codes "MIGRATED " ++ full_text full)
migrates_line path = record {
  granted = λ s t c ready count. migrated_line path s t c ready count;
  refused = λ s t c ready count. unmigrated_line path s t c ready count;
  down = down_asked (line.Migrate path) (λ s k o a n. MigrateStep s k path.user (input_name k.tree [] path) o a n) (λ f. codes "MIGRATED " ++ full_text f) (λ o w next it. it) refl refl;
}
