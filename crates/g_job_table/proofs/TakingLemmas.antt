-- The order of the reasons for which a job is refused.
-- serves: login_refusal (refusal), logout, refusal (refusal), room_refusal (refusal), take_in (refusal), turn (gone, ok), type_line
use Rattle.std.proofs.Common.{◌≡◌, ◌<◌, ◌≤◌, ◌∙◌, Bool, None, Option, Some, List, ap, arith, cond, false, length, nat_lt, not, subst, sym, true, unwrap_or, codes, ℕ}
use Rattle.std.proofs.lemmas.Bool.{le-ltb, lt-leb, lt-ltb}
use Rattle.std.specs.Prelude.{is_some}
use Rattle.g_mop.specs.Seats.{busy_text}
use Rattle.g_monitor.specs.Parts.{with_numbers}
use Rattle.g_monitor.specs.Refusals.{fault_line}
use Rattle.g_plain.specs.declared.faults.StoreFault.TheVariants.{NoUser as StoreNoUser}
use Rattle.g_job.specs.State.{JobState}
use Rattle.g_job_table.specs.Crew.{CrewState, IsCrewOf}
use Rattle.g_job_table.specs.Keeping.{IsLeft}
use Rattle.g_job_table.specs.declared.account.Account.{Account}
use Rattle.g_job_table.proofs.AccountLemmas.{left-world}
use Rattle.g_run_model.specs.Accounts.{Opened, account_of, knows_user, money_left, time_left}
use Rattle.g_run_model.specs.Lines.{first_text, job_at, job_refusal, login_refusal, no_account, room_checks}
use Rattle.g_run_model.specs.World.{World}

-- a crew by its parts
pub crew_is : (c : CrewState) (jobs : List JobState) (accounts : List Account) (next : ℕ) → jobs ≡ c.jobs → accounts ≡ c.accounts → next ≡ c.next_job
    → let new : CrewState = record { jobs = jobs; accounts = accounts; next_job = next } in new ≡ c
crew_is c jobs accounts next same_jobs same_accounts same_next = λ i. record { jobs = same_jobs i; accounts = same_accounts i; next_job = same_next i }

-- the first of the reasons that applies
abbrev first_of : Bool → Bool → Bool → List ℕ → List ℕ → List ℕ → Option (List ℕ)
first_of full short poor a b c = cond full (Some a) (cond short (Some b) (cond poor (Some c) None))

-- THERE IS ROOM for a job, or not
module _ (w : World) (c : CrewState) (user : List ℕ) (time money : ℕ) (crew : IsCrewOf w c) where
  abbrev account : Opened
  account = unwrap_or (account_of w.accounts user) (no_account user)

  abbrev room : Option (List ℕ)
  room = first_text (room_checks w time money account)

  abbrev refused : Bool → Bool → Bool → Option (List ℕ)
  refused f s p =
      first_of f s p (codes "41 JOBS FULL") (with_numbers (codes "40 NO TIME ") time (time_left account w.jobs)) (with_numbers (codes "42 NO MONEY ") money (money_left account w.jobs))

  abbrev asked_short : Bool
  asked_short = nat_lt (time_left account w.jobs) time

  abbrev asked_poor : Bool
  asked_poor = nat_lt (money_left account w.jobs) money

  module _ (left : Account) (few : length c.jobs < 64) (is_left : IsLeft c.accounts c.jobs user left) where
    left_in : (left.time ≡ time_left account w.jobs) × (left.money ≡ money_left account w.jobs)
    left_in = subst (λ js. (left.time ≡ time_left account js) × (left.money ≡ money_left account js)) (sym crew.jobs) (left-world w.accounts c.accounts c.jobs user left crew.accounts is_left)

    passed : room ≡ refused false asked_short asked_poor
    passed = ap (λ (f : Bool). refused f asked_short asked_poor) (lt-leb 64 (length w.jobs) (omega (arith, few, ap length crew.jobs)))

    pub room-short : left.time < time → room ≡ Some (with_numbers (codes "40 NO TIME ") time left.time)
    room-short short =
        passed ∙ ap (λ (s : Bool). refused false s asked_poor) (lt-ltb (time_left account w.jobs) time (omega (arith, short, left_in.0)))
        ∙ ap (λ (n : ℕ). Some (with_numbers (codes "40 NO TIME ") time n)) (sym left_in.0)

    pub room-poor : time ≤ left.time → left.money < money → room ≡ Some (with_numbers (codes "42 NO MONEY ") money left.money)
    room-poor enough poor =
        passed ∙ ap (λ (s : Bool). refused false s asked_poor) (le-ltb (time_left account w.jobs) time (omega (arith, enough, left_in.0)))
        ∙ ap (λ (p : Bool). refused false false p) (lt-ltb (money_left account w.jobs) money (omega (arith, poor, left_in.1)))
        ∙ ap (λ (n : ℕ). Some (with_numbers (codes "42 NO MONEY ") money n)) (sym left_in.1)

    pub room-not : time ≤ left.time → money ≤ left.money → room ≡ None
    room-not enough rich =
        passed ∙ ap (λ (s : Bool). refused false s asked_poor) (le-ltb (time_left account w.jobs) time (omega (arith, enough, left_in.0)))
        ∙ ap (λ (p : Bool). refused false false p) (le-ltb (money_left account w.jobs) money (omega (arith, rich, left_in.1)))

-- A JOB: its user is known, or not
module _ (w : World) (c : CrewState) (known : Bool) (user : List ℕ) (time money : ℕ) (crew : IsCrewOf w c) (knows : knows_user w.store user ≡ known) where
  abbrev room_for : Option (List ℕ)
  room_for = first_text (room_checks w time money (unwrap_or (account_of w.accounts user) (no_account user)))

  pub refused-unknown : known ≡ false → job_refusal w user time money ≡ Some (fault_line StoreNoUser)
  refused-unknown is = ap (λ (u : Bool). cond (not u) (Some (fault_line StoreNoUser)) room_for) (knows ∙ is)

  pub refused-known : known ≡ true → job_refusal w user time money ≡ room_for
  refused-known is = ap (λ (u : Bool). cond (not u) (Some (fault_line StoreNoUser)) room_for) (knows ∙ is)

-- A TERMINAL'S JOB: the terminal is busy, or not
module _ (w : World) (c : CrewState) (known : Bool) (t : ℕ) (user : List ℕ) (time : ℕ) (crew : IsCrewOf w c) (knows : knows_user w.store user ≡ known) where
  abbrev room_there : Option (List ℕ)
  room_there = first_text (room_checks w time 1000 (unwrap_or (account_of w.accounts user) (no_account user)))

  abbrev asked_there : Bool → Bool → Option (List ℕ)
  asked_there u b = cond (not u) (Some (fault_line StoreNoUser)) (cond b (Some (busy_text t)) room_there)

  pub login-busy : known ≡ true → is_some (job_at t c.jobs) ≡ true → login_refusal w t user time ≡ Some (busy_text t)
  login-busy is busy =
      ap (λ (u : Bool). asked_there u (is_some (job_at t w.jobs))) (knows ∙ is)
      ∙ ap (λ (jobs : List JobState). asked_there true (is_some (job_at t jobs))) crew.jobs ∙ ap (λ (b : Bool). asked_there true b) busy

  pub login-free : known ≡ true → is_some (job_at t c.jobs) ≡ false → login_refusal w t user time ≡ room_there
  login-free is free =
      ap (λ (u : Bool). asked_there u (is_some (job_at t w.jobs))) (knows ∙ is)
      ∙ ap (λ (jobs : List JobState). asked_there true (is_some (job_at t jobs))) crew.jobs ∙ ap (λ (b : Bool). asked_there true b) free
