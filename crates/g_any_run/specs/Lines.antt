-- What the operator's lines do.
use Rattle.std.specs.Prelude.{◌≡◌, ◌==◌, ◌&&◌, ℕ, ◌+◌, Bool, true, false, is_some, find, not, nat_le, nat_lt, List, [], ◌∷◌, ◌++◌, length, Option, Some, None, Result, Ok, Err, MatchBool, unwrap_or, codes, if◌then◌else◌}
use Rattle.std.specs.Fmt.{decimal}
use Rattle.g_plain.specs.declared.faults.StoreFault.{StoreFault}
use Rattle.g_plain.specs.declared.faults.StoreFault.TheVariants.{NotStarted, NoUser, Running, DumpOpen, Stopped}
use Rattle.g_monitor.specs.Refusals.{fault_line}
use Rattle.g_monitor.specs.Parts.{full_text, with_numbers}
use Rattle.g_any_run.specs.Jobs.{Jobs}
use Rattle.g_mop.specs.Seats.{busy_text, none_text}
use Rattle.g_mop.specs.TerminalLines.{shown_at, terminal_name}
use Rattle.g_store_model.specs.State.{State, OpenDump}
use Rattle.g_store_model.specs.CallStep.{Outcome, Plain, down}
use Rattle.g_any_run.specs.Events.{IsFormat, IsStart, IsRestore, IsMounting, IsUnmounting, IsOpening, IsProcessing, IsMigration}
use Rattle.g_script.specs.declared.operator.Operator.{Operator}
use Rattle.g_script.specs.declared.operator.Operator.TheVariants as line
use Rattle.g_any_run.specs.Accounts.{Opened, with_new, knows_user, account_of, time_left, money_left}
use Rattle.g_any_run.specs.Texts.{tape_text, dump_text, job_text, started_text, processed_text}
use Rattle.g_any_run.specs.World.{World, says, goes_down, system_stopped, with_job}

-- The only line that writes reels.
abbrev pub is_process : Operator → Bool
is_process (line.Process serial) = true
is_process what = false

-- The numbers with which a line arms the disc and the tapes: that of a STOP line.
abbrev pub disc_arms : Operator → List ℕ
disc_arms (line.StopDisc k) = k ∷ []
disc_arms what = []

-- The number with which a line arms the tapes.
abbrev pub tape_arms : Operator → List ℕ
tape_arms (line.StopTape k) = k ∷ []
tape_arms what = []

-- The refusals of JOB in their order: the text of the first that applies.
abbrev pub first_text : List (Bool × List ℕ) → Option (List ℕ)
first_text [] = None
first_text (check ∷ checks) = if check.0 then Some check.1 else first_text checks

-- The account of a user without accounts.
abbrev pub no_account : List ℕ → Opened
no_account user = record { user = user; time = 0; money = 0; ended = [] }

-- The unfinished job of a terminal, and that of one that wasn't logged out.
abbrev pub is_terminal : ℕ → Option ℕ → Bool
is_terminal t None = false
is_terminal t (Some x) = x == t

module _ {J W : Type 0} where
  -- Whether the system is up.
  abbrev pub is_up : World J W → Bool
  is_up w = w.store.up

  -- A refusal with this text is printed.
  abbrev pub refusal : List ℕ → World J W → World J W
  refusal text w = says (codes "REFUSED " ++ text) w

  -- The refusal of a line for this fault is printed.
  abbrev pub line_refused : StoreFault → World J W → World J W
  line_refused fault w = refusal (fault_line fault) w

  -- The system comes up, and each user's accounts open.
  abbrev pub up_with : List ℕ → State → World J W → World J W
  up_with text s w = record (says text w) { store = s; accounts = with_new s [] }

  -- The text is printed, and the store has this state.
  abbrev pub now_stands : List ℕ → State → World J W → World J W
  now_stands text s w = says text (record w { store = s })

  -- The job is accepted, or its refusal is printed.
  abbrev pub job_line : Option (List ℕ) → World J W → World J W → World J W
  job_line None taken w = taken
  job_line (Some text) taken w = refusal text w

module _ {J W : Type 0} (jobs : Jobs J W) where
  -- What is printed for an event of the store: if it is granted, what it did; after a stop, the line of the stop; if it is
  -- refused, its refusal.
  abbrev pub tells : {R : Type 0} → (R → State → World J W → World J W) → Result R StoreFault → State → World J W → World J W
  tells done (Ok r) s w = done r s w
  tells done (Err Stopped) s w = system_stopped jobs s w
  tells done (Err fault) s w = line_refused fault (record w { store = s })

  -- 64 jobs are unfinished, or the user's accounts have too little left.
  abbrev pub room_checks : World J W → ℕ → ℕ → Opened → List (Bool × List ℕ)
  room_checks w time money a =
      (nat_le 64 (length w.jobs), codes "41 JOBS FULL")
      ∷ (nat_lt (time_left jobs a w.jobs) time, with_numbers (codes "40 NO TIME ") time (time_left jobs a w.jobs))
      ∷ (nat_lt (money_left jobs a w.jobs) money, with_numbers (codes "42 NO MONEY ") money (money_left jobs a w.jobs))
      ∷ []

  -- The refusals of JOB in their order, with their texts.
  abbrev pub job_checks : World J W → List ℕ → ℕ → ℕ → Opened → List (Bool × List ℕ)
  job_checks w user time money a = (not (knows_user w.store user), fault_line NoUser) ∷ room_checks w time money a

  -- The text of the first refusal of a JOB that applies, if any.
  abbrev pub job_refusal : World J W → List ℕ → ℕ → ℕ → Option (List ℕ)
  job_refusal w user time money = first_text (job_checks w user time money (unwrap_or (account_of w.accounts user) (no_account user)))

  -- The job is accepted: it gets the next number, and the acceptance is printed.
  abbrev pub taken_in : List ℕ → List ℕ → ℕ → ℕ → List (List ℕ) → World J W → World J W
  taken_in name user time money lines w =
      record (says (job_text w.next_job (name ++ codes " IN")) w) { jobs = w.jobs ++ jobs.begun w.next_job name user time money lines ∷ []; next_job = w.next_job + 1 }

  -- Whether the job is at this terminal.
  abbrev pub sits_at : ℕ → J → Bool
  sits_at t j = is_terminal t (jobs.terminal j)

  -- The unfinished job of a terminal.
  abbrev pub job_at : ℕ → List J → Option J
  job_at t crew = find (sits_at t) crew

  -- The unfinished job of a terminal, if its document is held open.
  abbrev pub open_at : ℕ → List J → Option J
  open_at t crew = find (λ j. sits_at t j && jobs.is_open j) crew

  -- The refusals of LOGIN: those of a job with MONEY 1,000, and after the first of them that the terminal has an unfinished
  -- job.
  abbrev pub login_checks : World J W → ℕ → List ℕ → ℕ → Opened → List (Bool × List ℕ)
  login_checks w t user time a =
      (not (knows_user w.store user), fault_line NoUser)
      ∷ (is_some (job_at t w.jobs), busy_text t)
      ∷ room_checks w time 1000 a

  -- The text of the first refusal of a LOGIN that applies, if any.
  abbrev pub login_refusal : World J W → ℕ → List ℕ → ℕ → Option (List ℕ)
  login_refusal w t user time = first_text (login_checks w t user time (unwrap_or (account_of w.accounts user) (no_account user)))

  -- The job is accepted, and the first line of its file is printed.
  abbrev pub logged_in : ℕ → List ℕ → ℕ → World J W → World J W
  logged_in t user time w = record (says (job_text w.next_job (terminal_name t ++ codes " IN")) w) {
    jobs = w.jobs ++ jobs.begun_at w.next_job t user time ∷ [];
    next_job = w.next_job + 1;
    text = (says (job_text w.next_job (terminal_name t ++ codes " IN")) w).text ++ shown_at t (jobs.monitor (jobs.begun_at w.next_job t user time));
  }

  -- TYPE and LOGOUT change that job and print nothing. If there is none they are refused.
  abbrev pub changed_at : ℕ → (J → J) → Option J → World J W → World J W
  changed_at t change None w = refusal (none_text t) w
  changed_at t change (Some j) w = record w { jobs = with_job jobs (change j) w.jobs }

  -- The job of the terminal that wasn't logged out is changed, or the line is refused.
  abbrev pub at_terminal : ℕ → (J → J) → World J W → World J W
  at_terminal t change w = changed_at t change (open_at t w.jobs) w

  -- SHUT is refused while a dump is open.
  abbrev pub shut_with : Option OpenDump → World J W → World J W
  shut_with (Some dump) w = line_refused (DumpOpen dump.number) w
  shut_with None w = goes_down jobs (codes "SHUT") (down w.store) w

module _ {J W : Type 0} (jobs : Jobs J W) (outcome : Outcome) where
  -- A line that calls the store for an event. If the line is permitted the event is done, and its answer is printed;
  -- otherwise the line is refused.
  abbrev pub Asks : {R : Type 0} → Bool → StoreFault → (Result R StoreFault → State → Type 0) → (R → State → World J W → World J W) → World J W → World J W → Type 0
  Asks {R = R} may fault Does told w new =
      MatchBool may
      ((r : Result R StoreFault) × (s : State) × Does r s × (new ≡ tells jobs told r s w))
      ((outcome ≡ Plain) × (new ≡ line_refused fault w))

  -- A line that doesn't call the store, and has the outcome Plain. If it is permitted it has this effect; otherwise it is
  -- refused.
  abbrev pub Gives : Bool → StoreFault → World J W → World J W → World J W → Type 0
  Gives may fault done w new = (outcome ≡ Plain) × (new ≡ (if may then done else line_refused fault w))

  -- The effect of each line: when it is permitted, and its refusal otherwise; the event of the store; and what is printed.
  abbrev pub LineGives : Operator → World J W → World J W → Type 0
  LineGives line.Format w new = Asks (not (is_up w)) Running (IsFormat w.store outcome) (λ r. up_with (codes "FORMATTED")) w new
  LineGives line.Start w new = Asks (not (is_up w)) Running (IsStart w.store outcome) (λ n. up_with (started_text n)) w new
  LineGives line.Restore w new = Asks (not (is_up w)) Running (IsRestore w.store outcome) (λ n. up_with (codes "RESTORED FROM DUMP " ++ decimal n)) w new
  LineGives line.Shut w new = Gives (is_up w) NotStarted (shut_with jobs w.store.open_dump w) w new
  LineGives (line.Job name user time money lines) w new = Gives (is_up w) NotStarted (job_line (job_refusal jobs w user time money) (taken_in jobs name user time money lines w) w) w new
  LineGives (line.Mount serial) w new = Asks true NotStarted (IsMounting w.store serial outcome) (λ r. now_stands (tape_text serial (codes "MOUNTED"))) w new
  LineGives (line.Unmount serial) w new = Asks true NotStarted (IsUnmounting w.store serial outcome) (λ r. now_stands (tape_text serial (codes "UNMOUNTED"))) w new
  LineGives (line.Dump serial) w new = Asks (is_up w) NotStarted (IsOpening w.store serial outcome) (λ n. now_stands (dump_text n (codes "OPENED"))) w new
  LineGives (line.Process serial) w new = Asks (is_up w) NotStarted (IsProcessing w.store serial outcome) (λ n. now_stands (processed_text serial n)) w new
  LineGives (line.Migrate path) w new = Asks (is_up w) NotStarted (IsMigration w.store path outcome) (λ full. now_stands (codes "MIGRATED " ++ full_text full)) w new
  LineGives (line.StopDisc k) w new = Gives true NotStarted (says (codes "STOP SET") (record w { disc_stops = w.disc_stops ++ k ∷ [] })) w new
  LineGives (line.StopTape k) w new = Gives true NotStarted (says (codes "STOP SET") (record w { tape_stops = w.tape_stops ++ k ∷ [] })) w new
  LineGives (line.Login t user time) w new = Gives (is_up w) NotStarted (job_line (login_refusal jobs w t user time) (logged_in jobs t user time w) w) w new
  LineGives (line.Typed t text) w new = Gives (is_up w) NotStarted (at_terminal jobs t (jobs.typed text) w) w new
  LineGives (line.Logout t) w new = Gives (is_up w) NotStarted (at_terminal jobs t jobs.logged_out w) w new
