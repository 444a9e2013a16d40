-- THE JOBS AT TERMINALS, the refusals of a login, and typed lines.
use Rattle.std.specs.Prelude.{◌≡◌, ℕ, Bool, not, List, [], ◌∷◌, Option, Some, None, Result, Ok, Err, drop}
use Rattle.g_job.specs.State.{JobState}
use Rattle.g_job.specs.Terminal.{logged_out, typed_to}
use Rattle.g_mop.specs.Seats.{busy_text}
use Rattle.g_mop.specs.declared.seat.Seat.{Seat}
use Rattle.g_run_model.specs.Accounts.{knows_user}
use Rattle.g_run_model.specs.Lines.{login_refusal}
use Rattle.g_run_model.specs.Texts.{put_as}
use Rattle.g_run_model.specs.World.{World, with_job}
use Rattle.g_job_table.specs.Crew.{CrewState, IsCrewOf}
use Rattle.g_job_table.specs.Taking.{said}
use Rattle.g_job_table.specs.declared.seating.NoTerminal.{NoTerminal}
use Rattle.g_job_table.specs.declared.seating.NotSeated.{NotSeated}
use Rattle.g_job_table.specs.declared.seating.NotSeated.TheVariants.{TerminalBusy, NotTaken}
use Rattle.g_job_table.specs.declared.seating.NotTyped.{NotTyped}
use Rattle.g_job_table.specs.declared.seating.NotTyped.TheVariants as fault

-- The stored seats; before the first LOGIN there are none.
abbrev pub seats_of : Option (List Seat) → List Seat
seats_of None = []
seats_of (Some seats) = seats

-- The seat of a job, before those of others.
abbrev pub seated_before : Option ℕ → ℕ → Bool → List Seat → List Seat
seated_before None number held seats = seats
seated_before (Some t) number held seats = record { terminal = t; job = number; out = not held } ∷ seats

-- THE SEATS OF THE JOBS: each job at a terminal has one, which is logged out if the job's document isn't held open.
abbrev pub seats_in : List JobState → List Seat
seats_in [] = []
seats_in (j ∷ jobs) = seated_before j.terminal j.number j.desk.levels.held (seats_in jobs)

-- The text of a refusal, if it is printed.
abbrev pub said_seat : NotSeated → Option (List ℕ)
said_seat (TerminalBusy t) = Some (busy_text t)
said_seat (NotTaken why) = said why

-- The text of a LOGIN's result, if it is refused.
abbrev pub printed_login : {A : Type 0} → Result A NotSeated → Option (List ℕ)
printed_login (Ok number) = None
printed_login (Err reason) = said_seat reason

-- IN EVERY WORLD OF THIS CREW the login is refused with this text, or granted if there is none, given whether the store knows the user.
abbrev pub RefusesLoginAsIn : CrewState → Bool → ℕ → List ℕ → ℕ → Option (List ℕ) → Type 0
RefusesLoginAsIn c known t user time text = (w : World) → IsCrewOf w c → knows_user w.store user ≡ known → login_refusal w t user time ≡ text

-- A LINE IS TYPED to the job at the terminal with its document held open; if there is none, the line is refused.
abbrev pub TypesAt : Option JobState → List ℕ → CrewState → CrewState → Result (Unit {0}) NotTyped → Type 0
TypesAt None line old new (Ok done) = ⊥
TypesAt None line old new (Err fault.NoMemory) = ⊥
TypesAt None line old new (Err fault.NoTerminal) = new ≡ old
TypesAt (Some j) line old new (Ok done) = new ≡ record old { jobs = with_job (typed_to line j) old.jobs }
TypesAt (Some j) line old new (Err fault.NoMemory) = new ≡ old
TypesAt (Some j) line old new (Err fault.NoTerminal) = ⊥

-- The terminal's job is logged out; without such a job the request is refused.
abbrev pub LogsOutAt : Option JobState → CrewState → CrewState → Result (Unit {0}) NoTerminal → Type 0
LogsOutAt None old new (Ok done) = ⊥
LogsOutAt None old new (Err none) = new ≡ old
LogsOutAt (Some j) old new (Ok done) = new ≡ record old { jobs = with_job (logged_out j) old.jobs }
LogsOutAt (Some j) old new (Err none) = ⊥

-- The part of a job's file after its first bytes, as it is printed at the job's terminal; nothing if the job has none.
abbrev pub pushed_of : JobState → ℕ → List ℕ
pushed_of job before = put_as job.terminal [] (drop before job.monitor)
