-- The seats of the jobs: how each change of the jobs changes them, and which job is at a terminal.
-- serves: end, login_refusal (refusal), logout, push, push_at, push_shown, turn, type_line
use Rattle.std.proofs.Common.{◌≡◌, ◌∙◌, ◌==◌, ◌++◌, ◌∷◌, ◌&&◌, [], Bool, List, None, Option, Some, ap, append-nil, cond, eq-eqb, eqb-true, false, filter, map, not, refl, set, slice_get, subst, suc, sym, true, zero, ℕ}
use Rattle.std.specs.Prelude.{Err, Ok, OnOk, Result, find, is_some, if◌then◌else◌}
use Rattle.std.proofs.lemmas.Option.{none-some, same_Some}
use Rattle.g_job.specs.State.{JobState}
use Rattle.g_job.specs.Terminal.{logged_out, typed_to}
use Rattle.g_mop.specs.Seats.{AreSeats, job_in_seat, left_at, seat_at, seat_taken, without_seat}
use Rattle.g_mop.specs.declared.seat.Seat.{Seat}
use Rattle.g_run_model.specs.Lines.{is_terminal, job_at, open_at, sits_at}
use Rattle.g_run_model.specs.World.{without_job}
use Rattle.g_job_table.specs.Numbers.{AreJobs, job_in}
use Rattle.g_job_table.specs.Seating.{seated_before, seats_in}
use Rattle.g_job_table.proofs.NumberLemmas.{AreJobs-set, IsOnly-at}

-- A JOB APPENDED has the last seat, if it has one
before_append : (o : Option ℕ) (number : ℕ) (held : Bool) (xs ys : List Seat) → seated_before o number held (xs ++ ys) ≡ seated_before o number held xs ++ ys
before_append None number held xs ys = refl
before_append (Some t) number held xs ys = refl

pub seats-append : (jobs more : List JobState) → seats_in (jobs ++ more) ≡ seats_in jobs ++ seats_in more
seats-append [] more = refl
seats-append (j ∷ jobs) more =
    ap (seated_before j.terminal j.number j.desk.levels.held) (seats-append jobs more) ∙ before_append j.terminal j.number j.desk.levels.held (seats_in jobs) (seats_in more)

pub seats-more : (jobs : List JobState) (j : JobState) → j.terminal ≡ None → seats_in (jobs ++ j ∷ []) ≡ seats_in jobs
seats-more jobs j none =
    seats-append jobs (j ∷ []) ∙ ap (λ (o : Option ℕ). seats_in jobs ++ seated_before o j.number j.desk.levels.held []) none ∙ append-nil (seats_in jobs)

pub seats-seated : (jobs : List JobState) (j : JobState) (t : ℕ) → j.terminal ≡ Some t → j.desk.levels.held ≡ true → seats_in (jobs ++ j ∷ []) ≡ seats_in jobs ++ seat_taken t j.number ∷ []
seats-seated jobs j t some held =
    seats-append jobs (j ∷ []) ∙ ap (λ (o : Option ℕ). seats_in jobs ++ seated_before o j.number j.desk.levels.held []) some
    ∙ ap (λ (b : Bool). seats_in jobs ++ seated_before (Some t) j.number b []) held

-- A JOB IS REMOVED, and its seat is free
same_both : (b : Bool) (seats : List Seat) → seats ≡ cond b seats seats
same_both true seats = refl
same_both false seats = refl

without_before : (o : Option ℕ) (number n : ℕ) (held : Bool) (seats : List Seat)
    → without_seat n (seated_before o number held seats) ≡ cond (not (number == n)) (seated_before o number held (without_seat n seats)) (without_seat n seats)
without_before None number n held seats = same_both (not (number == n)) (without_seat n seats)
without_before (Some t) number n held seats = refl

seats_of_both : (b : Bool) (j : JobState) (jobs : List JobState)
    → seats_in (cond b (j ∷ jobs) jobs) ≡ cond b (seated_before j.terminal j.number j.desk.levels.held (seats_in jobs)) (seats_in jobs)
seats_of_both true j jobs = refl
seats_of_both false j jobs = refl

pub seats-without : (n : ℕ) (jobs : List JobState) → seats_in (without_job n jobs) ≡ without_seat n (seats_in jobs)
seats-without n [] = refl
seats-without n (j ∷ jobs) =
    seats_of_both (not (j.number == n)) j (without_job n jobs)
    ∙ ap (λ (seats : List Seat). cond (not (j.number == n)) (seated_before j.terminal j.number j.desk.levels.held seats) seats) (seats-without n jobs)
    ∙ sym (without_before j.terminal j.number n j.desk.levels.held (seats_in jobs))

-- A JOB REPLACED by another that has the same seat
pub seats-set : (jobs : List JobState) (place : ℕ) (j k : JobState) → slice_get jobs place ≡ Some j → k.terminal ≡ j.terminal → k.number ≡ j.number → k.desk.levels.held ≡ j.desk.levels.held
    → seats_in (set jobs place k) ≡ seats_in jobs
seats-set [] place j k there terminal number held = absurd (none-some j there)
seats-set (m ∷ jobs) zero j k there terminal number held =
    let same : m ≡ j = same_Some m j there in
    (λ i. seated_before (terminal i) (number i) (held i) (seats_in jobs)) ∙ ap (λ (x : JobState). seated_before x.terminal x.number x.desk.levels.held (seats_in jobs)) (sym same)
seats-set (m ∷ jobs) (suc place) j k there terminal number held =
    ap (seated_before m.terminal m.number m.desk.levels.held) (seats-set jobs place j k there terminal number held)

-- THE JOB AT A TERMINAL: the stored seat is that of the first job there
seat_by : (b : Bool) (s : Seat) (rest : Option Seat) → cond b (Some s) rest ≡ cond b (cond b (Some s) None) rest
seat_by true s rest = refl
seat_by false s rest = refl

seat_before : (t : ℕ) (o : Option ℕ) (number : ℕ) (held : Bool) (seats : List Seat)
    → seat_at t (seated_before o number held seats) ≡ cond (is_terminal t o) (seat_at t (seated_before o number held [])) (seat_at t seats)
seat_before t None number held seats = refl
seat_before t (Some x) number held seats = seat_by (x == t) (record { terminal = x; job = number; out = not held }) (seat_at t seats)

some_both : (b : Bool) (x y : Option Seat) (j : JobState) (z : Option JobState) → (b ≡ true → is_some x ≡ true) → is_some y ≡ is_some z → is_some (cond b x y) ≡ is_some (cond b (Some j) z)
some_both true x y j z here there = here refl
some_both false x y j z here there = there

seated_here : (t : ℕ) (o : Option ℕ) (number : ℕ) (held : Bool) → is_terminal t o ≡ true → is_some (seat_at t (seated_before o number held [])) ≡ true
seated_here t None number held is = is
seated_here t (Some x) number held is = ap (λ (b : Bool). is_some (cond b (let s : Seat = record { terminal = x; job = number; out = not held } in Some s) None)) is

pub busy-is : (t : ℕ) (jobs : List JobState) → is_some (seat_at t (seats_in jobs)) ≡ is_some (job_at t jobs)
busy-is t [] = refl
busy-is t (j ∷ jobs) =
    ap (λ (o : Option Seat). is_some o) (seat_before t j.terminal j.number j.desk.levels.held (seats_in jobs))
    ∙ some_both (is_terminal t j.terminal) (seat_at t (seated_before j.terminal j.number j.desk.levels.held [])) (seat_at t (seats_in jobs)) j (job_at t jobs)
    (seated_here t j.terminal j.number j.desk.levels.held) (busy-is t jobs)

-- a job at a terminal with its document held open, and its place
pub record SitsOpen (t number : ℕ) (jobs : List JobState) : Type 0 where
  pub job : JobState
  pub place : ℕ
  pub found : open_at t jobs ≡ Some job
  pub there : slice_get jobs place ≡ Some job
  pub named : job.number ≡ number
  pub seat : job.terminal ≡ Some t

no_number : {A : Type 0} (n : ℕ) → (let o : Option ℕ = None in o ≡ Some n) → A
no_number n e = absurd (none-some n e)

module _ (t number : ℕ) (j : JobState) (jobs : List JobState) where
  open_later : SitsOpen t number jobs → (sits_at t j && j.desk.levels.held) ≡ false → SitsOpen t number (j ∷ jobs)
  open_later sits off = record {
    job = sits.job;
    place = suc sits.place;
    found = ap (λ (b : Bool). cond b (Some j) (open_at t jobs)) off ∙ sits.found;
    there = sits.there;
    named = sits.named;
    seat = sits.seat;
  }

  -- by whether it is at this terminal, and whether its document is held open
  open_here : (x : ℕ) (held : Bool) → j.terminal ≡ Some x → j.desk.levels.held ≡ held → (b : Bool) → (x == t) ≡ b
      → job_in_seat (cond b (let s : Seat = record { terminal = x; job = j.number; out = not held } in Some s) (seat_at t (seats_in jobs))) ≡ Some number
      → (job_in_seat (seat_at t (seats_in jobs)) ≡ Some number → SitsOpen t number jobs) → SitsOpen t number (j ∷ jobs)
  open_here x held o h false e is rest = open_later (rest is) (ap (λ (p : Option ℕ). is_terminal t p && j.desk.levels.held) o ∙ ap (λ (b : Bool). b && j.desk.levels.held) e)
  open_here x false o h true e is rest = no_number number is
  open_here x true o h true e is rest = record {
    job = j;
    place = 0;
    found = ap (λ (b : Bool). cond b (Some j) (open_at t jobs)) (ap (λ (p : Option ℕ). is_terminal t p && j.desk.levels.held) o ∙ ap (λ (b : Bool). b && j.desk.levels.held) e ∙ h);
    there = refl;
    named = same_Some j.number number is;
    seat = o ∙ ap (λ (n : ℕ). let p : Option ℕ = Some n in p) (eqb-true x t e);
  }

  open_by : (o : Option ℕ) (held : Bool) → j.terminal ≡ o → j.desk.levels.held ≡ held → job_in_seat (seat_at t (seated_before o j.number held (seats_in jobs))) ≡ Some number
      → (job_in_seat (seat_at t (seats_in jobs)) ≡ Some number → SitsOpen t number jobs) → SitsOpen t number (j ∷ jobs)
  open_by None held o h is rest = open_later (rest is) (ap (λ (p : Option ℕ). is_terminal t p && j.desk.levels.held) o)
  open_by (Some x) held o h is rest = open_here x held o h (x == t) refl is rest

-- the stored number is that of the job at the terminal
pub open-some : (t number : ℕ) (jobs : List JobState) → job_in_seat (seat_at t (seats_in jobs)) ≡ Some number → SitsOpen t number jobs
open-some t number [] is = no_number number is
open-some t number (j ∷ jobs) is = open_by t number j jobs j.terminal j.desk.levels.held refl refl is (open-some t number jobs)

some_number : {A : Type 0} (n : ℕ) → (let o : Option ℕ = Some n in o ≡ None) → A
some_number n e = absurd (none-some n (sym e))

module _ (t : ℕ) (j : JobState) (jobs : List JobState) where
  nobody_here : (x : ℕ) (held : Bool) → j.terminal ≡ Some x → j.desk.levels.held ≡ held → (b : Bool) → (x == t) ≡ b → seat_at x (seats_in jobs) ≡ None
      → job_in_seat (cond b (let s : Seat = record { terminal = x; job = j.number; out = not held } in Some s) (seat_at t (seats_in jobs))) ≡ None
      → (job_in_seat (seat_at t (seats_in jobs)) ≡ None → open_at t jobs ≡ None) → open_at t (j ∷ jobs) ≡ None
  nobody_here x held o h false e alone is rest =
      ap (λ (b : Bool). cond b (Some j) (open_at t jobs)) (ap (λ (p : Option ℕ). is_terminal t p && j.desk.levels.held) o ∙ ap (λ (b : Bool). b && j.desk.levels.held) e) ∙ rest is
  nobody_here x true o h true e alone is rest = some_number j.number is
  nobody_here x false o h true e alone is rest =
      let free : seat_at t (seats_in jobs) ≡ None = subst (λ (n : ℕ). seat_at n (seats_in jobs) ≡ None) (eqb-true x t e) alone in
      ap (λ (b : Bool). cond b (Some j) (open_at t jobs)) (ap (λ (p : Option ℕ). is_terminal t p && j.desk.levels.held) o ∙ ap (λ (b : Bool). b && j.desk.levels.held) e ∙ h)
      ∙ rest (ap job_in_seat free)

  nobody_by : (o : Option ℕ) (held : Bool) → j.terminal ≡ o → j.desk.levels.held ≡ held → AreSeats (seated_before o j.number held (seats_in jobs))
      → job_in_seat (seat_at t (seated_before o j.number held (seats_in jobs))) ≡ None
      → (AreSeats (seats_in jobs) → job_in_seat (seat_at t (seats_in jobs)) ≡ None → open_at t jobs ≡ None) → open_at t (j ∷ jobs) ≡ None
  nobody_by None held o h are is rest = ap (λ (b : Bool). cond b (Some j) (open_at t jobs)) (ap (λ (p : Option ℕ). is_terminal t p && j.desk.levels.held) o) ∙ rest are is
  nobody_by (Some x) held o h are is rest = nobody_here x held o h (x == t) refl are.2 is (rest are.3)

-- if no number is stored, no job is at the terminal
pub open-none : (t : ℕ) (jobs : List JobState) → AreSeats (seats_in jobs) → job_in_seat (seat_at t (seats_in jobs)) ≡ None → open_at t jobs ≡ None
open-none t [] are is = refl
open-none t (j ∷ jobs) are is = nobody_by t j jobs j.terminal j.desk.levels.held refl refl are is (open-none t jobs)

-- A TERMINAL IS LOGGED OUT
seated-there : (t : ℕ) (jobs : List JobState) (place : ℕ) (j : JobState) → slice_get jobs place ≡ Some j → j.terminal ≡ Some t → is_some (job_at t jobs) ≡ true
seated-there t [] place j there seat = absurd (none-some j there)
seated-there t (m ∷ jobs) zero j there seat =
    let here : sits_at t m ≡ true = ap (λ (x : JobState). sits_at t x) (same_Some m j there) ∙ ap (is_terminal t) seat ∙ eq-eqb t t refl in
    ap (λ (b : Bool). is_some (cond b (Some m) (job_at t jobs))) here
seated-there t (m ∷ jobs) (suc place) j there seat = by (sits_at t m) (seated-there t jobs place j there seat)
  where
    by : (b : Bool) → is_some (job_at t jobs) ≡ true → is_some (cond b (Some m) (job_at t jobs)) ≡ true
    by true is = refl
    by false is = is

left_none : (t : ℕ) (seats : List Seat) → seat_at t seats ≡ None → map (left_at t) seats ≡ seats
left_none t [] none = refl
left_none t (s ∷ seats) none = by (s.terminal == t) none (left_none t seats)
  where
    by : (b : Bool) → cond b (Some s) (seat_at t seats) ≡ None → (seat_at t seats ≡ None → map (left_at t) seats ≡ seats) → (if b then record s { out = true } else s) ∷ map (left_at t) seats ≡ s ∷ seats
    by true none rest = absurd (none-some s (sym none))
    by false none rest = ap (λ (more : List Seat). s ∷ more) (rest none)

some_none : {A : Type 0} (o : Option Seat) → is_some o ≡ true → o ≡ None → A
some_none (Some s) is none = absurd (none-some s (sym none))
some_none None is none = absurd (let no : ⊥ = cc in no)

module _ (t : ℕ) (seats : List Seat) where
  left_here : (o : Option ℕ) (number : ℕ) (held : Bool) → o ≡ Some t → AreSeats (seated_before o number held seats) → seated_before o number false seats ≡ map (left_at t) (seated_before o number held seats)
  left_here None number held is are = no_number t is
  left_here (Some x) number held is are =
      let here : x ≡ t = same_Some x t is in
      let free : seat_at t seats ≡ None = subst (λ (n : ℕ). seat_at n seats ≡ None) here are.2 in
      let s : Seat = record { terminal = x; job = number; out = not held } in
      ap (λ (more : List Seat). record s { out = true } ∷ more) (sym (left_none t seats free))
      ∙ ap (λ (b : Bool). (if b then record s { out = true } else s) ∷ map (left_at t) seats) (sym (eq-eqb x t here))

  left_other : (o : Option ℕ) (number : ℕ) (held : Bool) → is_some (seat_at t seats) ≡ true → AreSeats (seated_before o number held seats)
      → seated_before o number held (map (left_at t) seats) ≡ map (left_at t) (seated_before o number held seats)
  left_other None number held there are = refl
  left_other (Some x) number held there are = by (x == t) refl (record { terminal = x; job = number; out = not held })
    where
      by : (b : Bool) → (x == t) ≡ b → (s : Seat) → s ∷ map (left_at t) seats ≡ (if b then record s { out = true } else s) ∷ map (left_at t) seats
      by true e s = some_none (seat_at t seats) there (subst (λ (n : ℕ). seat_at n seats ≡ None) (eqb-true x t e) are.2)
      by false e s = refl

  tail_are : (o : Option ℕ) (number : ℕ) (held : Bool) → AreSeats (seated_before o number held seats) → AreSeats seats
  tail_are None number held are = are
  tail_are (Some x) number held are = are.3

pub seats-left : (t : ℕ) (jobs : List JobState) (place : ℕ) (j : JobState) → AreSeats (seats_in jobs) → slice_get jobs place ≡ Some j → j.terminal ≡ Some t
    → seats_in (set jobs place (logged_out j)) ≡ map (left_at t) (seats_in jobs)
seats-left t [] place j are there seat = absurd (none-some j there)
seats-left t (m ∷ jobs) zero j are there seat =
    let same : m ≡ j = same_Some m j there in
    let at : m.terminal ≡ Some t = ap (λ (x : JobState). x.terminal) same ∙ seat in
    ap (λ (x : JobState). seated_before x.terminal x.number false (seats_in jobs)) (sym same) ∙ left_here t (seats_in jobs) m.terminal m.number m.desk.levels.held at are
seats-left t (m ∷ jobs) (suc place) j are there seat =
    let some : is_some (seat_at t (seats_in jobs)) ≡ true = busy-is t jobs ∙ seated-there t jobs place j there seat in
    ap (seated_before m.terminal m.number m.desk.levels.held) (seats-left t jobs place j (tail_are t (seats_in jobs) m.terminal m.number m.desk.levels.held are) there seat)
    ∙ left_other t (seats_in jobs) m.terminal m.number m.desk.levels.held some are

-- THE STORED SEATS are those of the jobs
pub busy-told : (t : ℕ) (jobs : List JobState) (seats : List Seat) (b : Bool) → seats ≡ seats_in jobs → b ≡ is_some (seat_at t seats) → is_some (job_at t jobs) ≡ b
busy-told t jobs seats b same is = sym (busy-is t jobs) ∙ ap (λ (s : List Seat). is_some (seat_at t s)) (sym same) ∙ sym is

-- the job of the stored number is the one at the terminal with its document held open
pub open-at : (t number : ℕ) (jobs : List JobState) (next place : ℕ) (j : JobState) → AreJobs jobs next → job_in_seat (seat_at t (seats_in jobs)) ≡ Some number → slice_get jobs place ≡ Some j → j.number ≡ number
    → (open_at t jobs ≡ Some j) × (j.terminal ≡ Some t)
open-at t number jobs next place j are is there named =
    let sits = open-some t number jobs is in
    let here = IsOnly-at 1 jobs next place j are.rise there in
    let there' = IsOnly-at 1 jobs next sits.place sits.job are.rise sits.there in
    let same : sits.job ≡ j = same_Some sits.job j (sym there'.found ∙ ap (λ (n : ℕ). job_in n jobs) (sits.named ∙ sym named) ∙ here.found) in
    (sits.found ∙ ap (λ (x : JobState). let o : Option JobState = Some x in o) same, ap (λ (x : JobState). x.terminal) (sym same) ∙ sits.seat)

module _ (t : ℕ) (jobs : List JobState) (seats : List Seat) (same : seats ≡ seats_in jobs) where
  abbrev kept_there : Option ℕ
  kept_there = job_in_seat (seat_at t (seats_in jobs))

  pub kept-is : (o : Option ℕ) → o ≡ job_in_seat (seat_at t seats) → kept_there ≡ o
  kept-is o is = ap (λ (s : List Seat). job_in_seat (seat_at t s)) (sym same) ∙ sym is

  pub nobody-there : AreSeats seats → (o : Option ℕ) → o ≡ None → o ≡ job_in_seat (seat_at t seats) → open_at t jobs ≡ None
  nobody-there are o none is = open-none t jobs (subst AreSeats same are) (kept-is o is ∙ none)

  pub somebody-there : (number next : ℕ) → AreJobs jobs next → (let o : Option ℕ = Some number in o ≡ job_in_seat (seat_at t seats)) → job_in number jobs ≡ None → ⊥
  somebody-there number next are is none =
      let sits = open-some t number jobs (kept-is (Some number) is) in
      let only = IsOnly-at 1 jobs next sits.place sits.job are.rise sits.there in
      none-some sits.job (sym none ∙ ap (λ (n : ℕ). job_in n jobs) (sym sits.named) ∙ only.found)

-- A JOB REPLACED by one that is like it, as far as the crew's rules go
pub record IsLike (j k : JobState) : Type 0 where
  pub number : k.number ≡ j.number
  pub allowance : k.allowance ≡ j.allowance
  pub terminal : k.terminal ≡ j.terminal
  pub held : k.desk.levels.held ≡ j.desk.levels.held

pub like-itself : (j k : JobState) → k ≡ j → IsLike j k
like-itself j k is = subst (λ (x : JobState). IsLike j x) (sym is) (record { number = refl; allowance = refl; terminal = refl; held = refl })

pub like-typed : (line : List ℕ) (j k : JobState) → k ≡ typed_to line j → IsLike j k
like-typed line j k is = subst (λ (x : JobState). IsLike j x) (sym is) (record { number = refl; allowance = refl; terminal = refl; held = refl })

pub kept-set : (jobs : List JobState) (next place : ℕ) (j k : JobState) (seats : List Seat) → AreJobs jobs next × (seats ≡ seats_in jobs) → slice_get jobs place ≡ Some j → IsLike j k
    → AreJobs (set jobs place k) next × (seats ≡ seats_in (set jobs place k))
kept-set jobs next place j k seats (are, same) there like =
    (AreJobs-set jobs next place j k are there like.number like.allowance, same ∙ sym (seats-set jobs place j k there like.terminal like.number like.held))

-- one that is logged out
pub left-set : (t : ℕ) (jobs : List JobState) (next place : ℕ) (j k : JobState) (seats new : List Seat) → AreJobs jobs next × (seats ≡ seats_in jobs) → AreSeats seats → new ≡ map (left_at t) seats → slice_get jobs place ≡ Some j
    → j.terminal ≡ Some t → k ≡ logged_out j → AreJobs (set jobs place k) next × (new ≡ seats_in (set jobs place k))
left-set t jobs next place j k seats new (are, same) apart left there seat is = (
  AreJobs-set jobs next place j k are there (ap (λ (x : JobState). x.number) is) (ap (λ (x : JobState). x.allowance) is),
  left ∙ ap (map (left_at t)) same ∙ sym (seats-left t jobs place j (subst AreSeats same apart) there seat) ∙ ap (λ (x : JobState). seats_in (set jobs place x)) (sym is),
)

pub set-itself : (jobs : List JobState) (place : ℕ) (j : JobState) → slice_get jobs place ≡ Some j → set jobs place j ≡ jobs
set-itself [] place j there = absurd (none-some j there)
set-itself (m ∷ jobs) zero j there = ap (λ (x : JobState). x ∷ jobs) (sym (same_Some m j there))
set-itself (m ∷ jobs) (suc place) j there = ap (λ (more : List JobState). m ∷ more) (set-itself jobs place j there)

-- a consequence for results that are Ok
pub ok-then : {A E : Type 0} (r : Result A E) {X Y : Type 0} → (X → Y) → OnOk r X → OnOk r Y
ok-then (Ok a) f x = f x
ok-then (Err e) f x = x
