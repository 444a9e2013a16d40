-- A run is a list of moves of the world, one for each event.
use Rattle.std.specs.Prelude.{◌≡◌, ◌⊎◌, ℕ, ◌+◌, Bool, true, false, not, List, [], ◌∷◌, ◌++◌, map, filter, slice_get, Option, Some, None, Result, Ok, Err, codes}
use Rattle.std.specs.Fmt.{decimal}
use Rattle.std.specs.Fn.{FnReturnsAt, Shared}
use denote.Ref.{Bor}
use Rattle.g_base.specs.Counts.{HasRisenBy}
use Rattle.g_base.specs.Fuse.{IsArmedBy}
use Rattle.g_rules.specs.declared.tariff.Usage.{Usage}
use Rattle.g_rules.specs.declared.tariff.Charge.{Charge}
use Rattle.g_rules.specs.declared.rule.Standing.{Standing}
use Rattle.g_rules.specs.Choice.{IsChosen}
use Rattle.g_plain.specs.declared.calls.StoreCall.{StoreCall}
use Rattle.g_plain.specs.declared.faults.StoreFault.{StoreFault}
use Rattle.g_plain.specs.declared.faults.StoreFault.TheVariants.{Stopped}
use Rattle.g_plain.specs.Programs.{Answer, Asks, Gives, Call, IsAnswer}
use Rattle.g_rules.specs.declared.turn.Turn.{Turn}
use Rattle.g_rules.specs.declared.turn.Turn.TheVariants as turns
use Rattle.g_any_run.specs.Jobs.{Jobs}
use Rattle.g_monitor.specs.Refusals.{fault_line}
use Rattle.g_store_model.specs.State.{State}
use Rattle.g_store_model.specs.CallStep.{Outcome, Plain, DiscRead, TapeRead, Cut}
use Rattle.g_store_model.specs.DumpSteps.{Stepped as DumpStepped, Going, Completed}
use Rattle.g_any_run.specs.Devices.{Devices}
use Rattle.g_any_run.specs.Events.{IsDumpStep, IsCall}
use Rattle.g_script.specs.declared.operator.Timed.{Timed}
use Rattle.g_any_run.specs.Accounts.{with_new, settled}
use Rattle.g_any_run.specs.Lines.{LineGives, is_process}
use Rattle.g_any_run.specs.Texts.{dump_text, ended_file, job_text}
use Rattle.g_any_run.specs.World.{World, Between, Stepped, Turned, able, is_dumping, nothing_steps, has_none, is_due, job_of, with_job, without_job, says, shows, system_stopped, closed}

-- The operator's next line, with whether it is a PROCESS, the only line that writes reels; a step of the open dump; a turn
-- begins; one of its calls is answered; it is over, with its charge, if there is one; the tick is over; the run is over.
pub data Move : Type 0 where
  TakeLine : Bool → Outcome → Move
  Dumped : Outcome → Move
  Begin : ℕ → Move
  Answered : Outcome → Move
  TurnOver : ℕ → Option Charge → Move
  Ticked : Move
  Over : Move

module _ {J W : Type 0} (jobs : Jobs J W) where
  -- What is printed for a step of the dump.
  abbrev pub dump_told : ℕ → Result DumpStepped StoreFault → State → World J W → World J W
  dump_told number (Ok Going) s w = record w { store = s; phase = Stepped }
  dump_told number (Ok (Completed n)) s w = record (says (dump_text n (codes "COMPLETED")) w) { store = s; phase = Stepped }
  dump_told number (Err Stopped) s w = record (system_stopped jobs s w) { phase = Turned }
  dump_told number (Err fault) s w = record (says (dump_text number (codes "LOST " ++ fault_line fault)) w) { store = s; phase = Stepped }

  -- What the end of a turn makes of a world in which the text added to a terminal's file has been printed. The accounts of
  -- new users open, unless the turn was stopped.
  abbrev pub turn_told : J → Turn → World J W → World J W
  turn_told j turns.Broken w = system_stopped jobs w.store (record w { jobs = with_job jobs j w.jobs })
  turn_told j (turns.Wants serial) w =
      record (says (job_text (jobs.number j) (codes "WANTS TAPE " ++ decimal serial)) w) { jobs = with_job jobs j w.jobs; accounts = with_new w.store w.accounts }
  turn_told j (turns.Ran units money) w = record w { jobs = with_job jobs j w.jobs; accounts = with_new w.store w.accounts }
  turn_told j (turns.Ended units money) w =
      record w { jobs = without_job jobs (jobs.number j) w.jobs; accounts = with_new w.store (settled jobs j w.accounts); text = w.text ++ ended_file jobs j }

module _ {J W : Type 0} (jobs : Jobs J W) {F : Type 0} (tariffs : Shared F (Bor Usage × Unit {0}) Charge) (tariff : F) where
  -- The charge, if there is one, is an answer of the tariff for what the turn used.
  abbrev pub IsPriced : W → Option Charge → Type 0
  IsPriced w None = Unit {0}
  IsPriced w (Some charge) = FnReturnsAt tariffs tariff (jobs.usage w) charge

module _ {J W : Type 0} (jobs : Jobs J W) {F U : Type 0} (tariffs : Shared F (Bor Usage × Unit {0}) Charge) (tariff : F) (rules : Shared U (Bor Standing × Unit {0}) ℕ) (rule : U) where
  -- What each move requires of the world, and the world after it.
  abbrev pub Step : World J W → Move → World J W → Type 0
  Step w (TakeLine tape outcome) new = (line : Timed) × (rest : List Timed) × (w.lines ≡ line ∷ rest) × (w.phase ≡ Between) × (w.turn ≡ None)
      × ((is_due w ≡ true) ⊎ (nothing_steps jobs w ≡ true)) × (tape ≡ is_process line.what) × LineGives jobs outcome line.what (record w { lines = rest }) new
  Step w (Dumped outcome) new = (w.phase ≡ Between) × (w.turn ≡ None) × (is_due w ≡ false) × (is_dumping w ≡ true)
      × ((r : Result DumpStepped StoreFault) × (s : State) × IsDumpStep w.store outcome r s × (new ≡ dump_told jobs (number_of w.store) r s w))
    where
      number_of : State → ℕ
      number_of s = elim s.open_dump [ None ↦ 0 | Some d ↦ d.number ]
  Step w (Begin number) new = (w.turn ≡ None) × (is_due w ≡ false) × (((w.phase ≡ Between) × (is_dumping w ≡ false)) ⊎ (w.phase ≡ Stepped))
      × ((place : ℕ) × (job : J) × IsChosen rules rule (map jobs.standing (able jobs w)) place × (slice_get (able jobs w) place ≡ Some job) × (jobs.number job ≡ number)
      × (new ≡ record w { turn = Some (jobs.number job, jobs.work job); phase = Stepped }))
  Step w (Answered outcome) new = (number : ℕ) × (call : StoreCall) × (more : Answer → Asks W) × (job : J) × (answer : Answer) × (s : State)
      × (w.turn ≡ Some (number, Call call more)) × (job_of jobs w number ≡ Some job) × IsCall w.store (jobs.user job) call outcome answer s × IsAnswer answer
      × (new ≡ record w { store = s; turn = Some (number, more answer) })
  Step w (TurnOver number charge) new = (work : W) × (job : J) × (turn : Turn) × (after : J)
      × (w.turn ≡ Some (number, Gives work)) × (job_of jobs w number ≡ Some job) × IsPriced jobs tariffs tariff work charge
      × (jobs.ends job work charge ≡ Some (turn, after)) × (new ≡ record (turn_told jobs after turn (shows jobs job after w)) { turn = None; phase = Turned })
  Step w Ticked new = (w.turn ≡ None) × ((w.phase ≡ Turned) ⊎ ((w.phase ≡ Stepped) × (has_none (able jobs w) ≡ true)))
      × (new ≡ record w { count = w.count + 1; phase = Between })
  Step w Over new = (w.phase ≡ Between) × (w.turn ≡ None) × (w.lines ≡ []) × (nothing_steps jobs w ≡ true) × (w.over ≡ false) × (new ≡ closed jobs w)

  -- The moves lead from the first world to the last one.
  abbrev pub Run : World J W → List Move → World J W → Type 0
  Run w [] new = new ≡ w
  Run w (move ∷ moves) new = (mid : World J W) × Step w move mid × Run mid moves new

-- The outcome of a move that is an event of the store or a line.
abbrev pub outcome_of : Move → Outcome
outcome_of (TakeLine tape outcome) = outcome
outcome_of (Dumped outcome) = outcome
outcome_of (Answered outcome) = outcome
outcome_of move = Plain

-- The number of failed reads of the disc with this outcome.
abbrev pub disc_reads_in : Outcome → ℕ
disc_reads_in Plain = 0
disc_reads_in DiscRead = 1
disc_reads_in TapeRead = 0
disc_reads_in Cut = 0

-- The number of failed reads of tape with this outcome.
abbrev pub tape_reads_in : Outcome → ℕ
tape_reads_in Plain = 0
tape_reads_in DiscRead = 0
tape_reads_in TapeRead = 1
tape_reads_in Cut = 0

-- The number of failed writes with this outcome.
abbrev pub cuts_in : Outcome → ℕ
cuts_in Plain = 0
cuts_in DiscRead = 0
cuts_in TapeRead = 0
cuts_in Cut = 1

-- How often the moves of a run have an outcome.
abbrev pub counted : (Outcome → ℕ) → List Move → ℕ
counted f [] = 0
counted f (move ∷ moves) = f (outcome_of move) + counted f moves

-- Whether the move is a step of the open dump or a PROCESS, the events that write reels; and whether it is any other move.
abbrev pub is_dump : Move → Bool
is_dump (TakeLine tape outcome) = tape
is_dump (Dumped outcome) = true
is_dump move = false

-- Whether the move is neither a dump step nor a PROCESS.
abbrev pub not_dump : Move → Bool
not_dump (TakeLine tape outcome) = not tape
not_dump (Dumped outcome) = false
not_dump move = true

-- The interruptions of calls and lines, and those of dump steps and of PROCESS.
abbrev pub cuts_of_calls : List Move → ℕ
cuts_of_calls moves = counted cuts_in (filter not_dump moves)

-- The number of failed writes in dump steps and in PROCESS.
abbrev pub cuts_of_dumps : List Move → ℕ
cuts_of_dumps moves = counted cuts_in (filter is_dump moves)

-- A fault counter after n failures: it rose by at least n, unless it is saturated, and is unchanged if n is 0.
pub record Failures (n before now : ℕ) : Type 0 where
  pub rose : HasRisenBy n before now
  pub none : n ≡ 0 → now ≡ before

-- This many writes failed. Those of calls and lines were the disc's. Those of dump steps and of PROCESS were each one
-- device's, either the disc's or the rack's.
pub record WritesFailed (calls dumps : ℕ) (old new : Devices) : Type 0 where
  pub of_disc : ℕ
  pub of_rack : ℕ
  pub together : of_disc + of_rack ≡ dumps
  pub disc : Failures (calls + of_disc) old.disc.write_faults new.disc.write_faults
  pub rack : Failures of_rack old.rack.write_faults new.rack.write_faults

-- What the devices counted: this many failed reads of each, and this many failed writes of calls and lines, and of dumps;
-- and the numbers with which each was armed.
pub record Happened (disc_reads tape_reads calls dumps : ℕ) (disc_arms tape_arms : List ℕ) (old new : Devices) : Type 0 where
  pub disc_read : Failures disc_reads old.disc.read_faults new.disc.read_faults
  pub tape_read : Failures tape_reads old.rack.read_faults new.rack.read_faults
  pub cuts : WritesFailed calls dumps old new
  pub disc_armed : IsArmedBy disc_arms old.disc.arms new.disc.arms
  pub tape_armed : IsArmedBy tape_arms old.rack.arms new.rack.arms

-- The counts of one call with this outcome, or of a line that writes no reel; of a dump step; of any line; and of a part of
-- a run.
abbrev pub EventCounted : Outcome → List ℕ → List ℕ → Devices → Devices → Type 0
EventCounted o disc_arms tape_arms old new = Happened (disc_reads_in o) (tape_reads_in o) (cuts_in o) 0 disc_arms tape_arms old new

-- The counts of a dump step with this outcome.
abbrev pub DumpCounted : Outcome → Devices → Devices → Type 0
DumpCounted o old new = Happened (disc_reads_in o) (tape_reads_in o) 0 (cuts_in o) [] [] old new

-- The counts of a line with this outcome; the flag says whether it is a PROCESS.
abbrev pub LineCounted : Bool → Outcome → List ℕ → List ℕ → Devices → Devices → Type 0
LineCounted true o disc_arms tape_arms old new = Happened (disc_reads_in o) (tape_reads_in o) 0 (cuts_in o) disc_arms tape_arms old new
LineCounted false o disc_arms tape_arms old new = EventCounted o disc_arms tape_arms old new

-- The counts of these moves, in which the devices were armed with these numbers.
abbrev pub MovesCounted : List Move → List ℕ → List ℕ → Devices → Devices → Type 0
MovesCounted moves disc_arms tape_arms old new =
    Happened (counted disc_reads_in moves) (counted tape_reads_in moves) (cuts_of_calls moves) (cuts_of_dumps moves) disc_arms tape_arms old new

-- The fault counters rose by at least the number of failed reads of each device and of failed writes, and a counter that
-- moved had a failure. A failed write of a call, or of a line that is no PROCESS, is the disc's. Each STOP line that was
-- done armed its device with its number, and nothing else did.
abbrev pub Counted : {J W : Type 0} → List Move → World J W → Devices → Devices → Type 0
Counted moves last old new = MovesCounted moves last.disc_stops last.tape_stops old new
