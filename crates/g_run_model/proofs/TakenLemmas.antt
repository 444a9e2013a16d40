-- What is known of one number's job in a run: how many free turns it may have had by the lines that were done, and that
-- what was charged is within its allowance.
-- serves: EndsLemmas, OneTextLemmas, PricedLemmas, ReadLemmas
use Rattle.std.proofs.Common.{◌≡◌, ◌<◌, ◌≤◌, ◌+◌, ◌-◌, ◌==◌, ◌⊎◌, ◌&&◌, ℕ, Bool, true, false, not, List, [], ◌∷◌, ◌++◌, filter, Option, Some, None, IfSome, slice_get, refl, sym, ◌∙◌, ap, subst, inl, inr, if◌then◌else◌, eqb-true, arith}
use Rattle.std.proofs.lemmas.Bool.{false≢true, leb-false}
use Rattle.std.proofs.lemmas.Option.{some_pair_parts}
use Rattle.std.proofs.Math.Nat.{le-min}
use Rattle.g_turn.specs.Causes.{GoesOn, IsHonest, StopsAt}
use Rattle.g_turn.specs.State.{Broken, Desk, Done, Full, Stop, Waits, Work}
use Rattle.g_rules.specs.declared.tariff.Charge.{Charge}
use Rattle.g_job.proofs.TurnBounds.{turn_honest}
use Rattle.g_job.specs.TurnEnd.{behind_turn, broken, charged, end_by, is_money_up, is_time_up, money_of, turn_end, turn_of, units_left, units_of, up_line, waited}
use Rattle.g_job.specs.State.{JobState}
use Rattle.g_job.specs.Turns.{turn_work}
use Rattle.g_rules.specs.declared.turn.Turn.{Turn}
use Rattle.g_rules.specs.declared.turn.Turn.TheVariants as turns
use Rattle.g_plain.specs.Programs.{Asks, Gives}
use Rattle.g_store_model.specs.State.{State, is_mounted}
use Rattle.g_run_model.specs.Moves.{Move, TurnOver}
use Rattle.g_job.specs.Terminal.{is_ready}
use Rattle.g_run_model.specs.World.{World, can_step, has_reel, with_job, without_job}
use Rattle.g_run_model.proofs.CrewLemmas.{AreRising, found_other, found_push, found_same, left_none, left_other, listed, no_job, number_of, numbered, rising_filter, rising_push, rising_with}
use Rattle.g_run_model.proofs.MountLemmas.{NoMount}

-- what is left of a turn's program waits at once, for a reel that isn't mounted, or was stopped; or it says so when it does
abbrev pub IsCandid : State → Asks Work → Type 0
IsCandid s p = IsHonest p ⊎ (((serial : ℕ) × StopsAt (Waits serial) p × (is_mounted s serial ≡ false)) ⊎ StopsAt Broken p)

-- the charge of a turn, if there is one, takes a unit at least
abbrev pub TakesUnit : Move → Type 0
TakesUnit (TurnOver number (Some charge)) = 1 ≤ charge.units
TakesUnit move = Unit {0}

abbrev pub one_if : Bool → ℕ
one_if b = if b then 1 else 0

-- the jobs after a turn
abbrev pub crew_after : Turn → JobState → List JobState → List JobState
crew_after turns.Broken j jobs = []
crew_after (turns.Wants serial) j jobs = with_job j jobs
crew_after (turns.Ran units money) j jobs = with_job j jobs
crew_after (turns.Ended units money) j jobs = without_job j.number jobs

-- how a turn ends that isn't charged
abbrev pub IsFreeEnd : JobState → Work → Option Stop → Turn → JobState → Type 0
IsFreeEnd j w stop t after = ((serial : ℕ) × (stop ≡ Some (Waits serial)) × (t ≡ turns.Wants serial) × (after ≡ waited j w serial)) ⊎ (t ≡ turns.Broken)

free_end : (j : JobState) (w : Work) (stop : Option Stop) → IfSome (end_by stop j w None) (λ x. IsFreeEnd j w stop x.0 x.1)
free_end j w (Some (Waits serial)) = inl (serial, refl, refl, refl)
free_end j w (Some Broken) = inr refl
free_end j w (Some Full) = tt
free_end j w (Some Done) = tt
free_end j w None = tt

-- a job that continues after a charged turn
pub record GoesOnWith (j : JobState) (charge : Charge) (after : JobState) : Type 0 where
  pub number : after.number ≡ j.number
  pub allowance : after.allowance ≡ j.allowance
  pub more : j.used < j.allowance → 1 ≤ charge.units → j.used + 1 ≤ after.used
  pub fair : j.used < j.allowance → after.used < after.allowance

-- how a turn ends that is charged
abbrev pub IsChargedEnd : JobState → Charge → Turn → JobState → Type 0
IsChargedEnd j charge t after =
    ((units : ℕ) × (money : ℕ) × (t ≡ turns.Ran units money) × GoesOnWith j charge after) ⊎ ((units : ℕ) × (money : ℕ) × (t ≡ turns.Ended units money) × (after.number ≡ j.number))

goes_on : (j : JobState) (w : Work) (charge : Charge) → is_time_up j charge ≡ false → GoesOnWith j charge (charged j w charge)
goes_on j w charge time = record { number = refl; allowance = refl; more = more; fair = fair }
  where
    more : j.used < j.allowance → 1 ≤ charge.units → j.used + 1 ≤ j.used + units_of j charge
    more left unit =
        let room : 1 ≤ units_left j = omega (arith, left) in
        let least : 1 ≤ units_of j charge = le-min unit room in
        omega (arith, least)

    fair : j.used < j.allowance → j.used + units_of j charge < j.allowance
    fair before = let left : charge.units < j.allowance - j.used = leb-false (units_left j) charge.units time in omega (arith, left)

charged_ends : (j : JobState) (w : Work) (charge : Charge) (stop : Option Stop) → IfSome (end_by stop j w (Some charge)) (λ x. IsChargedEnd j charge x.0 x.1)
charged_ends j w charge (Some (Waits serial)) = tt
charged_ends j w charge (Some Broken) = tt
charged_ends j w charge (Some Full) = inr (_, _, refl, refl)
charged_ends j w charge (Some Done) = inr (_, _, refl, refl)
charged_ends j w charge None = by (is_time_up j charge) (is_money_up j charge) refl
  where
    by : (time money : Bool) → is_time_up j charge ≡ time
        → IsChargedEnd j charge (turn_of (units_of j charge) (money_of j charge) (up_line time money (charged j w charge))) (behind_turn (charged j w charge) (up_line time money (charged j w charge)))
    by true money e = inr (_, _, refl, refl)
    by false true e = inr (_, _, refl, refl)
    by false false e = inl (_, _, refl, goes_on j w charge e)

-- a job that waits by its work, waits for a reel that isn't mounted
abbrev serial_in : Option Stop → ℕ
serial_in (Some (Waits serial)) = serial
serial_in stop = 0

abbrev IsWaiting : Option Stop → Type 0
IsWaiting (Some (Waits serial)) = Unit {0}
IsWaiting stop = ⊥

unmounted : (s : State) (w : Work) (serial : ℕ) → w.stop ≡ Some (Waits serial) → IsCandid s (Gives w) → is_mounted s serial ≡ false
unmounted s w serial stop (inl goes) = absurd (subst (λ (x : Option Stop). GoesOn x) stop goes)
unmounted s w serial stop (inr (inl (other, is, low))) = ap (is_mounted s) (ap serial_in (sym stop ∙ is)) ∙ low
unmounted s w serial stop (inr (inr broken)) = absurd (subst (λ (x : Option Stop). IsWaiting x) (sym stop ∙ broken) tt)

both_first : (a b : Bool) → (a && b) ≡ true → a ≡ true
both_first true b e = refl
both_first false b e = absurd (false≢true e)

-- THE JOB OF A NUMBER, where f of its turns were free, m lines of MOUNT were done and c of its turns were charged. What is
-- said of charges holds where u, and where q, which is from when the job came in on, its allowance is a.
module _ (n : ℕ) (u q : Bool) (a : ℕ) where
  pub record IsTaken (f m c : ℕ) (jobs : List JobState) (next : ℕ) (s : State) (turn : Option (ℕ × Asks Work)) : Type 0 where
    pub rising : AreRising 0 jobs next
    pub free : f ≤ 1 + m
    pub able : (job : JobState) → numbered n jobs ≡ Some job → has_reel s job ≡ true → f ≤ m
    pub within : (job : JobState) → numbered n jobs ≡ Some job → (job.used < job.allowance) × (job.allowance ≤ 1000000)
    pub spent : u ≡ true → (job : JobState) → numbered n jobs ≡ Some job → c ≤ job.used
    pub unborn : next ≤ n → (f ≡ 0) × (c ≡ 0)
    pub born : q ≡ true → (u ≡ true) × (n < next) × (c ≤ a) × ((job : JobState) → numbered n jobs ≡ Some job → job.allowance ≡ a)
    pub taking : (p : Asks Work) → turn ≡ Some (n, p) → (f ≤ m) × IsCandid s p

  -- what holds of the number's job still holds if that is the same one, for any other jobs, any store and any turn
  same_job : {f m c next : ℕ} {jobs : List JobState} {s : State} {t : Option (ℕ × Asks Work)} (m2 : ℕ) (new : State) (others : List JobState) (left : Option (ℕ × Asks Work)) → IsTaken f m c jobs next s t
      → AreRising 0 others next → numbered n others ≡ numbered n jobs → f ≤ 1 + m2
      → ((job : JobState) → numbered n jobs ≡ Some job → has_reel new job ≡ true → f ≤ m2) → ((p : Asks Work) → left ≡ Some (n, p) → (f ≤ m2) × IsCandid new p)
      → IsTaken f m2 c others next new left
  same_job m2 new others left h rising same free able taking = record {
    rising = rising;
    free = free;
    able = λ x e can. able x (sym same ∙ e) can;
    within = λ x e. h.within x (sym same ∙ e);
    spent = λ on x e. h.spent on x (sym same ∙ e);
    unborn = h.unborn;
    born = λ on. let b = h.born on in (b.0, b.1, b.2, λ x e. b.3 x (sym same ∙ e));
    taking = taking;
  }

  -- if all jobs are the same
  same_jobs : {f m c next : ℕ} {jobs : List JobState} {s : State} {t : Option (ℕ × Asks Work)} (m2 : ℕ) (new : State) (left : Option (ℕ × Asks Work)) → IsTaken f m c jobs next s t → f ≤ 1 + m2
      → ((job : JobState) → numbered n jobs ≡ Some job → has_reel new job ≡ true → f ≤ m2) → ((p : Asks Work) → left ≡ Some (n, p) → (f ≤ m2) × IsCandid new p)
      → IsTaken f m2 c jobs next new left
  same_jobs {f} {m} {c} {next} {jobs} m2 new left h free able taking = same_job m2 new jobs left h h.rising refl free able taking

  abbrev pub IsTakenIn : ℕ → ℕ → ℕ → World → Type 0
  IsTakenIn f m c w = IsTaken f m c w.jobs w.next_job w.store w.turn

  no_turn : {P : Type 0} (t : Option (ℕ × Asks Work)) (p : ℕ × Asks Work) → t ≡ None → t ≡ Some p → P
  no_turn t p idle is = absurd (let no : ⊥ = cc in no)

  can_lower : (s new : State) → NoMount s new → (job : JobState) (wants : Option ℕ) → has_reel new (record job { wants = wants }) ≡ true → has_reel s (record job { wants = wants }) ≡ true
  can_lower s new fewer job None can = refl
  can_lower s new fewer job (Some serial) can = fewer serial can

  -- the store changes, and mounts nothing
  pub taken_on : (f m c : ℕ) (jobs : List JobState) (next : ℕ) (s new : State) (t : Option (ℕ × Asks Work)) → t ≡ None → NoMount s new → IsTaken f m c jobs next s t → IsTaken f m c jobs next new t
  taken_on f m c jobs next s new t idle fewer h =
      same_jobs m new t h h.free (λ job found can. h.able job found (can_lower s new fewer job job.wants can)) (λ p is. no_turn t (n, p) idle is)

  -- a MOUNT was done
  pub taken_mount : (f m c : ℕ) (jobs : List JobState) (next : ℕ) (s new : State) (t : Option (ℕ × Asks Work)) → t ≡ None → IsTaken f m c jobs next s t → IsTaken f (m + 1) c jobs next new t
  taken_mount f m c jobs next s new t idle h =
      let free : f ≤ 1 + m = h.free in
      same_jobs (m + 1) new t h (omega (arith, free)) (λ job found can. omega (arith, free)) (λ p is. no_turn t (n, p) idle is)

  -- the jobs are gone
  pub taken_gone : (f m c : ℕ) (jobs : List JobState) (next : ℕ) (s new : State) (t : Option (ℕ × Asks Work)) (left : Option (ℕ × Asks Work)) → left ≡ None
      → IsTaken f m c jobs next s t → IsTaken f m c [] next new left
  taken_gone f m c jobs next s new t left idle h = record {
    rising = (let low : 0 ≤ next = omega arith in low);
    free = h.free;
    able = λ job found can. no_job job found;
    within = λ job found. no_job job found;
    spent = λ on job found. no_job job found;
    unborn = h.unborn;
    born = λ on. let b = h.born on in (b.0, b.1, b.2, λ job found. no_job job found);
    taking = λ p is. no_turn left (n, p) idle is;
  }

  -- a job is added
  pub taken_push : (f m c : ℕ) (jobs : List JobState) (next : ℕ) (s : State) (t : Option (ℕ × Asks Work)) (job : JobState) → t ≡ None → job.number ≡ next
      → (job.used < job.allowance) × (job.allowance ≤ 1000000) → IsTaken f m c jobs next s t → IsTaken f m c (jobs ++ job ∷ []) (next + 1) s t
  taken_push f m c jobs next s t job idle is fair h = record {
    rising = rising_push 0 jobs next job is h.rising;
    free = h.free;
    able = λ x found can. able x can (found_push n jobs job x found);
    within = λ x found. within x (found_push n jobs job x found);
    spent = λ on x found. spent on x (found_push n jobs job x found);
    unborn = λ (above : next + 1 ≤ n). h.unborn (omega (arith, above));
    born = born;
    taking = λ p e. no_turn t (n, p) idle e;
  }
    where
      new_one : job.number ≡ n → (f ≡ 0) × (c ≡ 0)
      new_one same = h.unborn (omega (arith, same, is))

      able : (x : JobState) → has_reel s x ≡ true → (numbered n jobs ≡ Some x) ⊎ ((job.number ≡ n) × (x ≡ job)) → f ≤ m
      able x can (inl old) = h.able x old can
      able x can (inr new) = let none : f ≡ 0 = (new_one new.0).0 in omega (arith, none)

      within : (x : JobState) → (numbered n jobs ≡ Some x) ⊎ ((job.number ≡ n) × (x ≡ job)) → (x.used < x.allowance) × (x.allowance ≤ 1000000)
      within x (inl old) = h.within x old
      within x (inr new) = subst (λ (y : JobState). (y.used < y.allowance) × (y.allowance ≤ 1000000)) (sym new.1) fair

      spent : u ≡ true → (x : JobState) → (numbered n jobs ≡ Some x) ⊎ ((job.number ≡ n) × (x ≡ job)) → c ≤ x.used
      spent on x (inl old) = h.spent on x old
      spent on x (inr new) = let none : c ≡ 0 = (new_one new.0).1 in omega (arith, none)

      allowed : n < next → ((y : JobState) → numbered n jobs ≡ Some y → y.allowance ≡ a) → (x : JobState) → (numbered n jobs ≡ Some x) ⊎ ((job.number ≡ n) × (x ≡ job)) → x.allowance ≡ a
      allowed below all x (inl old) = all x old
      allowed below all x (inr new) = absurd (let same : job.number ≡ n = new.0 in let no : ⊥ = omega (arith, same, is, below) in no)

      born : q ≡ true → (u ≡ true) × (n < next + 1) × (c ≤ a) × ((x : JobState) → numbered n (jobs ++ job ∷ []) ≡ Some x → x.allowance ≡ a)
      born on =
          let b = h.born on in
          let below : n < next = b.1 in
          (b.0, omega (arith, below), b.2, λ x found. allowed below b.3 x (found_push n jobs job x found))

  -- a job in its place with another desk, in the same situation
  pub taken_edit : (f m c : ℕ) (jobs : List JobState) (next : ℕ) (s : State) (t : Option (ℕ × Asks Work)) (job : JobState) (d : Desk) → t ≡ None → numbered job.number jobs ≡ Some job
      → IsTaken f m c jobs next s t → IsTaken f m c (with_job (record job { desk = d }) jobs) next s t
  taken_edit f m c jobs next s t job d idle here h = by (job.number == n) refl
    where
      after : JobState
      after = record job { desk = d }

      of : (b : Bool) → (job.number == n) ≡ b → (x : JobState) → numbered n (with_job after jobs) ≡ Some x → (y : JobState) × (numbered n jobs ≡ Some y) × ((x ≡ y) ⊎ ((x ≡ record y { desk = d })))
      of true e x found =
          let same : job.number ≡ n = eqb-true job.number n e in
          let it : x ≡ after = found_same after jobs x (subst (λ (k : ℕ). numbered k (with_job after jobs) ≡ Some x) (sym same) found) in
          (job, subst (λ (k : ℕ). numbered k jobs ≡ Some job) same here, inr it)
      of false e x found = (x, sym (found_other after n e jobs) ∙ found, inl refl)

      by : (b : Bool) → (job.number == n) ≡ b → IsTaken f m c (with_job after jobs) next s t
      by b e = record {
        rising = rising_with after 0 jobs next h.rising;
        free = h.free;
        able = λ x found can. able x can (of b e x found);
        within = λ x found. within x (of b e x found);
        spent = λ on x found. spent on x (of b e x found);
        unborn = h.unborn;
        born = λ on. let r = h.born on in (r.0, r.1, r.2, λ x found. allowed r.3 x (of b e x found));
        taking = λ p is. no_turn t (n, p) idle is;
      }
        where
          Old : JobState → Type 0
          Old x = (y : JobState) × (numbered n jobs ≡ Some y) × ((x ≡ y) ⊎ ((x ≡ record y { desk = d })))

          able : (x : JobState) → has_reel s x ≡ true → Old x → f ≤ m
          able x can (y, found, inl same) = h.able y found (subst (λ (z : JobState). has_reel s z ≡ true) same can)
          able x can (y, found, inr same) = h.able y found (subst (λ (z : JobState). has_reel s z ≡ true) same can)

          within : (x : JobState) → Old x → (x.used < x.allowance) × (x.allowance ≤ 1000000)
          within x (y, found, inl same) = subst (λ (z : JobState). (z.used < z.allowance) × (z.allowance ≤ 1000000)) (sym same) (h.within y found)
          within x (y, found, inr same) = subst (λ (z : JobState). (z.used < z.allowance) × (z.allowance ≤ 1000000)) (sym same) (h.within y found)

          spent : u ≡ true → (x : JobState) → Old x → c ≤ x.used
          spent on x (y, found, inl same) = subst (λ (z : JobState). c ≤ z.used) (sym same) (h.spent on y found)
          spent on x (y, found, inr same) = subst (λ (z : JobState). c ≤ z.used) (sym same) (h.spent on y found)

          allowed : ((z : JobState) → numbered n jobs ≡ Some z → z.allowance ≡ a) → (x : JobState) → Old x → x.allowance ≡ a
          allowed all x (y, found, inl same) = ap (λ (z : JobState). z.allowance) same ∙ all y found
          allowed all x (y, found, inr same) = ap (λ (z : JobState). z.allowance) same ∙ all y found

  -- a turn begins
  pub taken_begin : (f m c : ℕ) (jobs : List JobState) (next : ℕ) (s : State) (t : Option (ℕ × Asks Work)) (place : ℕ) (job : JobState) → slice_get (filter (can_step s) jobs) place ≡ Some job
      → IsTaken f m c jobs next s t → IsTaken f m c jobs next s (Some (job.number, turn_work job))
  taken_begin f m c jobs next s t place job there h = same_jobs m s (Some (job.number, turn_work job)) h h.free h.able (λ p is.
      let parts = some_pair_parts job.number n (turn_work job) p is in
      let found = listed (can_step s) 0 jobs next place job h.rising there in (
        h.able job (subst (λ (x : ℕ). numbered x jobs ≡ Some job) parts.0 found.1) (both_first (has_reel s job) (is_ready job) found.2),
        subst (λ (x : Asks Work). IsCandid s x) parts.1 (inl (turn_honest job)),
      ))

  -- a call of it is answered
  pub taken_answer : (f m c : ℕ) (jobs : List JobState) (next : ℕ) (s new : State) (number : ℕ) (p more : Asks Work) → NoMount s new → (IsCandid s p → IsCandid new more)
      → IsTaken f m c jobs next s (Some (number, p)) → IsTaken f m c jobs next new (Some (number, more))
  taken_answer f m c jobs next s new number p more fewer on h =
      same_jobs m new (Some (number, more)) h h.free (λ job found can. h.able job found (can_lower s new fewer job job.wants can)) (λ x is.
      let parts = some_pair_parts number n more x is in
      let old = h.taking p (ap (λ (y : ℕ). let t : Option (ℕ × Asks Work) = Some (y, p) in t) parts.0) in
      (old.0, subst (λ (y : Asks Work). IsCandid new y) parts.1 (on old.1)))

  -- this many more free and charged turns, after a turn
  abbrev pub Turned : ℕ → ℕ → ℕ → List JobState → ℕ → State → ℕ → ℕ → Type 0
  Turned f m c jobs next s free charges = (f2 : ℕ) × (c2 : ℕ) × (f2 ≡ f + free) × (c2 ≡ c + charges) × IsTaken f2 m c2 jobs next s None

  -- a turn is over
  module _ (f m c : ℕ) (jobs : List JobState) (next : ℕ) (s : State) (number : ℕ) (p : Asks Work) (job : JobState) (found : numbered number jobs ≡ Some job)
      (h : IsTaken f m c jobs next s (Some (number, p))) where
    of_number : job.number ≡ number
    of_number = (number_of number 0 jobs next job h.rising found).0

    here : number ≡ n → numbered n jobs ≡ Some job
    here same = subst (λ (x : ℕ). numbered x jobs ≡ Some job) same found

    asked : number ≡ n → (f ≤ m) × IsCandid s p
    asked same = h.taking p (ap (λ (y : ℕ). let t : Option (ℕ × Asks Work) = Some (y, p) in t) same)

    asked_below : n < next → (next ≤ n → ⊥)
    asked_below below above = let no : ⊥ = omega (arith, below, above) in no

    below : number ≡ n → n < next
    below same = (number_of n 0 jobs next job h.rising (here same)).1

    others_stay : (left : List JobState) → AreRising 0 left next → numbered n left ≡ numbered n jobs → IsTaken f m c left next s None
    others_stay left rising same = same_job m s left None h rising same h.free h.able (λ x e. no_turn None (n, x) refl e)

    -- another number's job continues, or is gone
    other_on : (after : JobState) → after.number ≡ number → (number == n) ≡ false → IsTaken f m c (with_job after jobs) next s None
    other_on after is apart = others_stay (with_job after jobs) (rising_with after 0 jobs next h.rising) (found_other after n (ap (λ (x : ℕ). x == n) is ∙ apart) jobs)

    other_gone : (gone : ℕ) → gone ≡ number → (number == n) ≡ false → IsTaken f m c (without_job gone jobs) next s None
    other_gone gone is apart =
        others_stay (without_job gone jobs) (rising_filter (λ (j : JobState). not (j.number == gone)) 0 jobs next h.rising) (left_other gone n (ap (λ (x : ℕ). x == n) is ∙ apart) jobs)

    -- the number's own job continues
    same_on : (free_turns charges : ℕ) (after : JobState) → after.number ≡ number → number ≡ n → free_turns ≤ 1 + m → (has_reel s after ≡ true → free_turns ≤ m)
        → after.used < after.allowance → after.allowance ≡ job.allowance → (u ≡ true → charges ≤ after.used) → IsTaken free_turns m charges (with_job after jobs) next s None
    same_on free_turns charges after is same few can fair allowed spent = record {
      rising = rising_with after 0 jobs next h.rising;
      free = few;
      able = λ x e steps. can (subst (λ (y : JobState). has_reel s y ≡ true) (it x e) steps);
      within = λ x e. subst (λ (y : JobState). (y.used < y.allowance) × (y.allowance ≤ 1000000)) (sym (it x e)) (fair, subst (λ (y : ℕ). y ≤ 1000000) (sym allowed) (h.within job (here same)).1);
      spent = λ on x e. subst (λ (y : JobState). charges ≤ y.used) (sym (it x e)) (spent on);
      unborn = λ above. absurd (asked_below (below same) above);
      born = λ on.
          let b = h.born on in
          let le : charges ≤ after.used = spent b.0 in
          let its : job.allowance ≡ a = b.3 job (here same) in
          (b.0, b.1, omega (arith, le, fair, allowed, its), λ x e. subst (λ (y : JobState). y.allowance ≡ a) (sym (it x e)) (allowed ∙ its));
      taking = λ x e. no_turn None (n, x) refl e;
    }
      where
        it : (x : JobState) → numbered n (with_job after jobs) ≡ Some x → x ≡ after
        it x e = found_same after jobs x (subst (λ (y : ℕ). numbered y (with_job after jobs) ≡ Some x) (sym (is ∙ same)) e)

    -- or is gone
    same_gone : (charges : ℕ) (gone : ℕ) → gone ≡ number → number ≡ n → (q ≡ true → charges ≤ a) → IsTaken f m charges (without_job gone jobs) next s None
    same_gone charges gone is same most = record {
      rising = rising_filter (λ (j : JobState). not (j.number == gone)) 0 jobs next h.rising;
      free = h.free;
      able = λ x e can. nobody x e;
      within = λ x e. nobody x e;
      spent = λ on x e. nobody x e;
      unborn = λ above. absurd (asked_below (below same) above);
      born = λ on. let b = h.born on in (b.0, b.1, most on, λ x e. nobody x e);
      taking = λ x e. no_turn None (n, x) refl e;
    }
      where
        nobody : {P : Type 0} (x : JobState) → numbered n (without_job gone jobs) ≡ Some x → P
        nobody x e = no_job x (sym (left_none gone jobs) ∙ subst (λ (y : ℕ). numbered y (without_job gone jobs) ≡ Some x) (sym (is ∙ same)) e)

    -- and all others with it
    same_broken : (free_turns : ℕ) → number ≡ n → free_turns ≤ 1 + m → IsTaken free_turns m c [] next s None
    same_broken free_turns same few = record {
      rising = (let low : 0 ≤ next = omega arith in low);
      free = few;
      able = λ x e can. no_job x e;
      within = λ x e. no_job x e;
      spent = λ on x e. no_job x e;
      unborn = λ above. absurd (asked_below (below same) above);
      born = λ on. let b = h.born on in (b.0, b.1, b.2, λ x e. no_job x e);
      taking = λ x e. no_turn None (n, x) refl e;
    }

    -- A TURN WITHOUT A CHARGE
    pub free_over : (work : Work) (t : Turn) (after : JobState) → p ≡ Gives work → (let end : Option (Turn × JobState) = Some (t, after) in turn_end job work None ≡ end)
        → Turned f m c (crew_after t after jobs) next s (one_if (number == n)) 0
    free_over work t after gives ends = by (number == n) refl (subst (λ (e : Option (Turn × JobState)). IfSome e (λ x. IsFreeEnd job work work.stop x.0 x.1)) ends (free_end job work work.stop))
      where
        candid : number ≡ n → IsCandid s (Gives work)
        candid same = subst (λ (y : Asks Work). IsCandid s y) gives (asked same).1

        by : (b : Bool) → (number == n) ≡ b → IsFreeEnd job work work.stop t after → Turned f m c (crew_after t after jobs) next s (one_if b) 0
        by true e (inl (serial, stop, is, it)) =
            let same : number ≡ n = eqb-true number n e in
            let few : f ≤ m = (asked same).0 in
            let fair = h.within job (here same) in
            let can : has_reel s after ≡ true → f + 1 ≤ m = λ steps. absurd (false≢true (sym (unmounted s work serial stop (candid same)) ∙ subst (λ (y : JobState). has_reel s y ≡ true) it steps)) in (
              f + 1,
              c,
              refl,
              omega arith,
              subst (λ (x : Turn). IsTaken (f + 1) m c (crew_after x after jobs) next s None) (sym is)
                  (same_on (f + 1) c after (ap (λ (y : JobState). y.number) it ∙ of_number) same (omega (arith, few)) can
                  (subst (λ (y : JobState). y.used < y.allowance) (sym it) fair.0) (ap (λ (y : JobState). y.allowance) it)
                  (λ on. subst (λ (y : JobState). c ≤ y.used) (sym it) (h.spent on job (here same)))),
            )
        by true e (inr is) =
            let same : number ≡ n = eqb-true number n e in
            let few : f ≤ m = (asked same).0 in
            (f + 1, c, refl, omega arith, subst (λ (x : Turn). IsTaken (f + 1) m c (crew_after x after jobs) next s None) (sym is) (same_broken (f + 1) same (omega (arith, few))))
        by false e (inl (serial, stop, is, it)) = (
          f,
          c,
          omega arith,
          omega arith,
          subst (λ (x : Turn). IsTaken f m c (crew_after x after jobs) next s None) (sym is) (other_on after (ap (λ (y : JobState). y.number) it ∙ of_number) e),
        )
        by false e (inr is) =
            (f, c, omega arith, omega arith, subst (λ (x : Turn). IsTaken f m c (crew_after x after jobs) next s None) (sym is) (taken_gone f m c jobs next s s (Some (number, p)) None refl h))

    -- A TURN WITH ONE
    pub charged_over : (work : Work) (charge : Charge) (t : Turn) (after : JobState) → (u ≡ true → 1 ≤ charge.units) → p ≡ Gives work
        → (let end : Option (Turn × JobState) = Some (t, after) in turn_end job work (Some charge) ≡ end) → Turned f m c (crew_after t after jobs) next s 0 (one_if (number == n))
    charged_over work charge t after unit gives ends = by (number == n) refl (subst (λ (e : Option (Turn × JobState)). IfSome e (λ x. IsChargedEnd job charge x.0 x.1)) ends (charged_ends job work charge work.stop))
      where
        by : (b : Bool) → (number == n) ≡ b → IsChargedEnd job charge t after → Turned f m c (crew_after t after jobs) next s 0 (one_if b)
        by true e (inl (units, money, is, goes)) =
            let same : number ≡ n = eqb-true number n e in
            let few : f ≤ m = (asked same).0 in
            let free : f ≤ 1 + m = h.free in
            let fair = h.within job (here same) in (
              f,
              c + 1,
              omega arith,
              refl,
              subst (λ (x : Turn). IsTaken f m (c + 1) (crew_after x after jobs) next s None) (sym is)
                  (same_on f (c + 1) after (goes.number ∙ of_number) same free (λ steps. few) (goes.fair fair.0) goes.allowance
                  (λ on. let old : c ≤ job.used = h.spent on job (here same) in let more : job.used + 1 ≤ after.used = goes.more fair.0 (unit on) in omega (arith, old, more))),
            )
        by true e (inr (units, money, is, its)) =
            let same : number ≡ n = eqb-true number n e in
            let fair = h.within job (here same) in (
              f,
              c + 1,
              omega arith,
              refl,
              subst (λ (x : Turn). IsTaken f m (c + 1) (crew_after x after jobs) next s None) (sym is)
                  (same_gone (c + 1) after.number (its ∙ of_number) same
                  (λ on.
                  let b = h.born on in
                  let old : c ≤ job.used = h.spent b.0 job (here same) in
                  let left : job.used < job.allowance = fair.0 in
                  let allowed : job.allowance ≡ a = b.3 job (here same) in
                  omega (arith, old, left, allowed))),
            )
        by false e (inl (units, money, is, goes)) =
            (f, c, omega arith, omega arith, subst (λ (x : Turn). IsTaken f m c (crew_after x after jobs) next s None) (sym is) (other_on after (goes.number ∙ of_number) e))
        by false e (inr (units, money, is, its)) =
            (f, c, omega arith, omega arith, subst (λ (x : Turn). IsTaken f m c (crew_after x after jobs) next s None) (sym is) (other_gone after.number (its ∙ of_number) e))
