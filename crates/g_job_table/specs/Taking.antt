-- Why a job isn't taken in.
use Rattle.std.specs.Prelude.{◌≡◌, ℕ, Bool, List, [], Option, Some, None, Result, Ok, Err, codes, unwrap_or}
use Rattle.g_monitor.specs.Parts.{with_numbers}
use Rattle.g_monitor.specs.Refusals.{fault_line}
use Rattle.g_plain.specs.declared.faults.StoreFault.TheVariants.{NoUser as StoreNoUser}
use Rattle.g_run_model.specs.Accounts.{account_of, knows_user}
use Rattle.g_run_model.specs.Lines.{first_text, job_refusal, no_account, room_checks}
use Rattle.g_run_model.specs.World.{World}
use Rattle.g_job_table.specs.Crew.{CrewState, IsCrewOf}
use Rattle.g_job_table.specs.declared.taking.NotTaken.{NotTaken}
use Rattle.g_job_table.specs.declared.taking.NotTaken.TheVariants as why

-- Number and text of a refusal; out of memory has none.
abbrev pub refusal_line : NotTaken → List ℕ
refusal_line why.NoUser = fault_line StoreNoUser
refusal_line why.JobsFull = codes "41 JOBS FULL"
refusal_line (why.NoTime ask left) = with_numbers (codes "40 NO TIME ") ask left
refusal_line (why.NoMoney ask left) = with_numbers (codes "42 NO MONEY ") ask left
refusal_line why.NoMemory = []

-- The refusal is printed; out of memory isn't.
abbrev pub IsPrinted : NotTaken → Type 0
IsPrinted why.NoMemory = ⊥
IsPrinted other = Unit {0}

-- The text of a refusal, if it is printed.
abbrev pub said : NotTaken → Option (List ℕ)
said why.NoMemory = None
said other = Some (refusal_line other)

-- The text of a JOB's result, if it is refused.
abbrev pub printed : {A : Type 0} → Result A NotTaken → Option (List ℕ)
printed (Ok number) = None
printed (Err reason) = said reason

-- IN EVERY WORLD OF THIS CREW the job is refused with this text, or taken in if there is none, given whether the store knows the user.
abbrev pub RefusesAsIn : CrewState → Bool → List ℕ → ℕ → ℕ → Option (List ℕ) → Type 0
RefusesAsIn c known user time money text = (w : World) → IsCrewOf w c → knows_user w.store user ≡ known → job_refusal w user time money ≡ text

-- There is room for a job of this user; if there is none, this is the text of the reason.
abbrev pub RoomAsIn : CrewState → List ℕ → ℕ → ℕ → Option (List ℕ) → Type 0
RoomAsIn c user time money text = (w : World) → IsCrewOf w c → first_text (room_checks w time money (unwrap_or (account_of w.accounts user) (no_account user))) ≡ text
