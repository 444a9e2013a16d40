-- Worlds that differ only in first blocks of copies: a line, a step of the dump and the end of a turn leave two such
-- worlds.
-- serves: OneTextLemmas
use Rattle.std.proofs.Common.{◌≡◌, ◌+◌, ◌++◌, ℕ, Bool, true, false, not, List, [], ◌∷◌, length, map, filter, Option, Some, None, option_map, is_some, unwrap_or, Result, Ok, Err, MatchBool, nat_le, nat_lt, if◌then◌else◌, codes, refl, sym, ◌∙◌, ap}
use Rattle.std.specs.FinMap.{entries}
use Rattle.std.specs.Fmt.{decimal}
use Rattle.std.specs.List.{list_any}
use Rattle.g_name.specs.Order.{same_text}
use Rattle.g_job.specs.State.{JobState}
use Rattle.g_rules.specs.declared.turn.Turn.{Turn}
use Rattle.g_rules.specs.declared.turn.Turn.TheVariants as turns
use Rattle.g_monitor.specs.Parts.{full_text, with_numbers}
use Rattle.g_monitor.specs.Refusals.{fault_line}
use Rattle.g_plain.specs.PlainTree.{Tree, UserRow}
use Rattle.g_plain.specs.declared.faults.StoreFault.{StoreFault}
use Rattle.g_plain.specs.declared.faults.StoreFault.TheVariants.{DumpOpen, NoUser, NotStarted, Running, Stopped}
use Rattle.g_script.specs.declared.operator.Operator.{Operator}
use Rattle.g_script.specs.declared.operator.Operator.TheVariants as line
use Rattle.g_store_model.specs.CallStep.{Outcome, Plain, down}
use Rattle.g_store_model.specs.DumpSteps.{Completed, Going, Stepped as DumpStepped}
use Rattle.g_store_model.specs.Rising.{FormatStep, RestoreStep, StartStep}
use Rattle.g_store_model.specs.State.{Holding, OpenDump, State}
use Rattle.g_run_model.specs.Accounts.{Opened, account_of, has_account, knows_user, money_left, opened_of, rows_of, settled, time_left, with_new}
use Rattle.g_run_model.specs.Events.{IsMigration, IsOpening, IsTold, IsProcessing}
use Rattle.g_run_model.specs.Laws.{HasDumped}
use Rattle.g_run_model.specs.Lines.{LineGives, shut_with, at_terminal, changed_at, first_text, job_at, job_line, job_refusal, line_refused, logged_in, login_refusal, no_account, now_stands, open_at, taken_in, tells, up_with}
use Rattle.g_job.specs.Terminal.{logged_out, typed_to}
use Rattle.g_mop.specs.Seats.{busy_text}
use Rattle.g_run_model.specs.Moves.{dump_told, turn_told}
use Rattle.g_run_model.specs.Texts.{dump_text, started_text, tape_text, processed_text}
use Rattle.g_run_model.specs.World.{World, able, can_step, goes_down, says}
use Rattle.g_run_model.proofs.AlikeLemmas.{AreSame, formats_alike, migratings_alike, mountings_alike, restorings_alike, startings_alike, unmountings_alike}
use Rattle.g_run_model.proofs.BareLemmas.{bare_holding, bare_open, bare_state, down_bare, funext, some_bare}
use Rattle.g_run_model.proofs.OpenAlikeLemmas.{openings_alike}
use Rattle.g_run_model.proofs.ProcessAlikeLemmas.{processings_alike}

-- A WORLD without the first blocks of copies
abbrev pub bare_world : World → World
bare_world w = record w { store = bare_state w.store }

abbrev pub AreAlike : World → World → Type 0
AreAlike w v = bare_world w ≡ bare_world v

-- what is read of the tree
held_tree : (h : Option Holding) → option_map (λ (k : Holding). k.tree) (option_map bare_holding h) ≡ option_map (λ (k : Holding). k.tree) h
held_tree None = refl
held_tree (Some k) = refl

rows_bare : (s : State) → rows_of (bare_state s) ≡ rows_of s
rows_bare s = ap (λ (t : Option Tree). unwrap_or (option_map (λ (x : Tree). entries x.users) t) []) (held_tree s.holding)

new_bare : (s : State) (accounts : List Opened) → with_new (bare_state s) accounts ≡ with_new s accounts
new_bare s accounts = ap (λ (rows : List (List ℕ × UserRow)). accounts ++ map opened_of (filter (λ e. not (has_account accounts e.0)) rows)) (rows_bare s)

knows_bare : (s : State) (user : List ℕ) → knows_user (bare_state s) user ≡ knows_user s user
knows_bare s user = ap (λ (rows : List (List ℕ × UserRow)). list_any (λ e. same_text e.0 user) rows) (rows_bare s)

-- how an event is printed
up_bare : {R : Type 0} (said : R → List ℕ) (r : Result R StoreFault) (s : State) (w : World)
    → bare_world (tells (λ x t v. up_with (said x) t v) r s w) ≡ tells (λ x t v. up_with (said x) t v) r (bare_state s) (bare_world w)
up_bare said (Ok x) s w = ap (λ (a : List Opened). let v : World = record (bare_world (tells (λ x t v. up_with (said x) t v) (Ok x) s w)) { accounts = a } in v) (sym (new_bare s []))
up_bare said (Err Stopped) s w = refl
up_bare said (Err fault) s w = refl

stands_bare : {R : Type 0} (said : R → List ℕ) (r : Result R StoreFault) (s : State) (w : World)
    → bare_world (tells (λ x t v. now_stands (said x) t v) r s w) ≡ tells (λ x t v. now_stands (said x) t v) r (bare_state s) (bare_world w)
stands_bare said (Ok x) s w = refl
stands_bare said (Err Stopped) s w = refl
stands_bare said (Err fault) s w = refl

-- events that are printed alike, by words that depend only on the bare world
told_alike : {R : Type 0} (told : R → State → World → World) → ((r : Result R StoreFault) (x : State) (y : World) → bare_world (tells told r x y) ≡ tells told r (bare_state x) (bare_world y))
    → (w v new other : World) → AreAlike w v → (a b : Result R StoreFault) (s t : State) → AreSame a b s t → new ≡ tells told a s w → other ≡ tells told b t v → AreAlike new other
told_alike {R} told bare w v new other alike a b s t same is is2 =
    ap bare_world is ∙ bare a s w
    ∙ ap (λ (r : Result R StoreFault). tells told r (bare_state s) (bare_world w)) same.0
    ∙ ap (λ (x : State). tells told b x (bare_world w)) same.1
    ∙ ap (λ (x : World). tells told b (bare_state t) x) alike
    ∙ sym (bare b t v) ∙ sym (ap bare_world is2)

refused_alike : (fault : StoreFault) (w v new other : World) → AreAlike w v → new ≡ line_refused fault w → other ≡ line_refused fault v → AreAlike new other
refused_alike fault w v new other alike is is2 = ap bare_world is ∙ ap (λ (x : World). line_refused fault x) alike ∙ sym (ap bare_world is2)

true_false : {P : Type 0} → true ≡ false → P
true_false e = absurd (let no : ⊥ = cc in no)

false_true : {P : Type 0} → false ≡ true → P
false_true e = absurd (let no : ⊥ = cc in no)

rises_alike : {R : Type 0} (Does : State → Outcome → Result R StoreFault → State → Type 0) (said : R → List ℕ) (w v new other : World) → AreAlike w v
    → ((a b : Result R StoreFault) (s t : State) → Does w.store Plain a s → Does v.store Plain b t → AreSame a b s t) → (up upper : Bool) → up ≡ upper
    → MatchBool (not up) ((r : Result R StoreFault) × (s : State) × (Does w.store Plain r s × IsTold Plain r) × (new ≡ tells (λ x t y. up_with (said x) t y) r s w)) ((Plain ≡ Plain) × (new ≡ line_refused Running w))
    → MatchBool (not upper) ((r : Result R StoreFault) × (s : State) × (Does v.store Plain r s × IsTold Plain r) × (other ≡ tells (λ x t y. up_with (said x) t y) r s v)) ((Plain ≡ Plain) × (other ≡ line_refused Running v))
    → AreAlike new other
rises_alike Does said w v new other alike does true true e (plain, is) (plain2, is2) = refused_alike Running w v new other alike is is2
rises_alike Does said w v new other alike does false false e (a, s, (one, so), is) (b, t, (two, so2), is2) = told_alike (λ x u y. up_with (said x) u y) (up_bare said) w v new other alike a b s t (does a b s t one two) is is2
rises_alike Does said w v new other alike does true false e one two = true_false e
rises_alike Does said w v new other alike does false true e one two = false_true e

needs_alike : {R : Type 0} (Does Also : Result R StoreFault → State → Type 0) (said : R → List ℕ) (w v new other : World) → AreAlike w v
    → ((a b : Result R StoreFault) (s t : State) → Does a s → Also b t → AreSame a b s t) → (up upper : Bool) → up ≡ upper
    → MatchBool up ((r : Result R StoreFault) × (s : State) × Does r s × (new ≡ tells (λ x t y. now_stands (said x) t y) r s w)) ((Plain ≡ Plain) × (new ≡ line_refused NotStarted w))
    → MatchBool upper ((r : Result R StoreFault) × (s : State) × Also r s × (other ≡ tells (λ x t y. now_stands (said x) t y) r s v)) ((Plain ≡ Plain) × (other ≡ line_refused NotStarted v))
    → AreAlike new other
needs_alike Does Also said w v new other alike does true true e (a, s, one, is) (b, t, two, is2) = told_alike (λ x u y. now_stands (said x) u y) (stands_bare said) w v new other alike a b s t (does a b s t one two) is is2
needs_alike Does Also said w v new other alike does false false e (plain, is) (plain2, is2) = refused_alike NotStarted w v new other alike is is2
needs_alike Does Also said w v new other alike does true false e one two = true_false e
needs_alike Does Also said w v new other alike does false true e one two = false_true e

-- SHUT
down_alike : (w v : World) → AreAlike w v → bare_world (goes_down (codes "SHUT") (down w.store) w) ≡ bare_world (goes_down (codes "SHUT") (down v.store) v)
down_alike w v alike =
    ap (λ (x : State). goes_down (codes "SHUT") x (bare_world w)) (down_bare w.store)
    ∙ ap (λ (x : World). goes_down (codes "SHUT") (down x.store) x) alike
    ∙ sym (ap (λ (x : State). goes_down (codes "SHUT") x (bare_world v)) (down_bare v.store))

one_open : (d e : OpenDump) → (let one : Option OpenDump = Some d in one ≡ Some e) → d ≡ e
one_open d e is = cc

shuts_alike : (d e : Option OpenDump) (w v new other : World) → AreAlike w v → option_map bare_open d ≡ option_map bare_open e → new ≡ shut_with d w → other ≡ shut_with e v → AreAlike new other
shuts_alike (Some d) (Some e) w v new other alike same is is2 =
    ap bare_world is ∙ ap (λ (n : ℕ). line_refused (DumpOpen n) (bare_world w)) (ap (λ (x : OpenDump). x.number) (one_open (bare_open d) (bare_open e) same))
    ∙ ap (λ (x : World). line_refused (DumpOpen e.number) x) alike ∙ sym (ap bare_world is2)
shuts_alike None None w v new other alike same is is2 = ap bare_world is ∙ down_alike w v alike ∙ sym (ap bare_world is2)
shuts_alike (Some d) None w v new other alike same is is2 = absurd (let no : ⊥ = cc in no)
shuts_alike None (Some e) w v new other alike same is is2 = absurd (let no : ⊥ = cc in no)

shut_alike : (w v new other : World) → AreAlike w v → (up upper : Bool) → up ≡ upper → new ≡ (if up then shut_with w.store.open_dump w else line_refused NotStarted w)
    → other ≡ (if upper then shut_with v.store.open_dump v else line_refused NotStarted v) → AreAlike new other
shut_alike w v new other alike true true e one two = shuts_alike w.store.open_dump v.store.open_dump w v new other alike (ap (λ (x : World). x.store.open_dump) alike) one two
shut_alike w v new other alike false false e is is2 = refused_alike NotStarted w v new other alike is is2
shut_alike w v new other alike true false e one two = true_false e
shut_alike w v new other alike false true e one two = false_true e

-- a line that requires that the system is up, if it commutes with making a world bare
module _ (makes : World → World) (bare : (w : World) → bare_world (makes w) ≡ makes (bare_world w)) where
  wanting_up : World → World
  wanting_up w = if w.store.up then makes w else line_refused NotStarted w

  wanting_bare : (w : World) → bare_world (wanting_up w) ≡ wanting_up (bare_world w)
  unfolding wanting_up
  wanting_bare w = by w.store.up
    where
      by : (b : Bool) → bare_world (if b then makes w else line_refused NotStarted w) ≡ (if b then makes (bare_world w) else line_refused NotStarted (bare_world w))
      by true = bare w
      by false = refl

  made_alike : (w v new other : World) → AreAlike w v → new ≡ wanting_up w → other ≡ wanting_up v → AreAlike new other
  made_alike w v new other alike is is2 = ap bare_world is ∙ wanting_bare w ∙ ap wanting_up alike ∙ sym (wanting_bare v) ∙ sym (ap bare_world is2)

-- a job that is accepted, or refused
line_bare : (taken : World → World) → ((w : World) → bare_world (taken w) ≡ taken (bare_world w)) → (refusal refused : Option (List ℕ)) (w : World) → refused ≡ refusal
    → bare_world (job_line refusal (taken w) w) ≡ job_line refused (taken (bare_world w)) (bare_world w)
line_bare taken bare refusal refused w same = by refusal ∙ ap (λ (r : Option (List ℕ)). job_line r (taken (bare_world w)) (bare_world w)) (sym same)
  where
    by : (r : Option (List ℕ)) → bare_world (job_line r (taken w) w) ≡ job_line r (taken (bare_world w)) (bare_world w)
    by None = bare w
    by (Some text) = refl

-- JOB
module _ (name user : List ℕ) (time money : ℕ) (lines : List (List ℕ)) where
  abbrev job_made : World → World
  job_made w = job_line (job_refusal w user time money) (taken_in name user time money lines w) w

  refusal_by : World → Bool → Option (List ℕ)
  refusal_by w known =
      let a : Opened = unwrap_or (account_of w.accounts user) (no_account user) in
      first_text (
      (not known, fault_line NoUser)
      ∷ (nat_le 64 (length w.jobs), codes "41 JOBS FULL")
      ∷ (nat_lt (time_left a w.jobs) time, with_numbers (codes "40 NO TIME ") time (time_left a w.jobs))
      ∷ (nat_lt (money_left a w.jobs) money, with_numbers (codes "42 NO MONEY ") money (money_left a w.jobs))
      ∷ [])

  job_bare : (w : World) → bare_world (job_made w) ≡ job_made (bare_world w)
  unfolding refusal_by
  job_bare w =
      line_bare (taken_in name user time money lines) (λ v. refl) (job_refusal w user time money) (job_refusal (bare_world w) user time money) w (ap (refusal_by w) (knows_bare w.store user))

-- LOGIN
module _ (t : ℕ) (user : List ℕ) (time : ℕ) where
  abbrev login_made : World → World
  login_made w = job_line (login_refusal w t user time) (logged_in t user time w) w

  login_refusal_by : World → Bool → Option (List ℕ)
  login_refusal_by w known =
      let a : Opened = unwrap_or (account_of w.accounts user) (no_account user) in
      first_text (
      (not known, fault_line NoUser)
      ∷ (is_some (job_at t w.jobs), busy_text t)
      ∷ (nat_le 64 (length w.jobs), codes "41 JOBS FULL")
      ∷ (nat_lt (time_left a w.jobs) time, with_numbers (codes "40 NO TIME ") time (time_left a w.jobs))
      ∷ (nat_lt (money_left a w.jobs) 1000, with_numbers (codes "42 NO MONEY ") 1000 (money_left a w.jobs))
      ∷ [])

  login_bare : (w : World) → bare_world (login_made w) ≡ login_made (bare_world w)
  unfolding login_refusal_by
  login_bare w =
      line_bare (logged_in t user time) (λ v. refl) (login_refusal w t user time) (login_refusal (bare_world w) t user time) w (ap (login_refusal_by w) (knows_bare w.store user))

-- TYPE and LOGOUT
module _ (t : ℕ) (change : JobState → JobState) where
  changed_bare : (j : Option JobState) (w : World) → bare_world (changed_at t change j w) ≡ changed_at t change j (bare_world w)
  changed_bare None w = refl
  changed_bare (Some j) w = refl

  typed_bare : (w : World) → bare_world (at_terminal t change w) ≡ at_terminal t change (bare_world w)
  typed_bare w = changed_bare (open_at t w.jobs) w

-- A LINE
pub lines_alike : (what : Operator) (w v new other : World) → AreAlike w v → HasDumped w.store → LineGives Plain what w new → LineGives Plain what v other → AreAlike new other
unfolding wanting_up
lines_alike line.Format w v new other alike has one two =
    rises_alike FormatStep (λ r. codes "FORMATTED") w v new other alike (λ a b s t x y. formats_alike w.store v.store a b s t (ap (λ (x : World). x.store) alike) x y) w.store.up v.store.up (ap (λ (x : World). x.store.up) alike) one two
lines_alike line.Start w v new other alike has one two =
    rises_alike StartStep started_text w v new other alike (λ a b s t x y. startings_alike w.store v.store a b s t (ap (λ (x : World). x.store) alike) x y) w.store.up v.store.up (ap (λ (x : World). x.store.up) alike) one two
lines_alike line.Restore w v new other alike has one two =
    rises_alike RestoreStep (λ n. codes "RESTORED FROM DUMP " ++ decimal n) w v new other alike (λ a b s t x y. restorings_alike w.store v.store a b s t (ap (λ (x : World). x.store) alike) has x y)
    w.store.up v.store.up (ap (λ (x : World). x.store.up) alike) one two
lines_alike line.Shut w v new other alike has (plain, one) (plain2, two) = shut_alike w v new other alike w.store.up v.store.up (ap (λ (x : World). x.store.up) alike) one two
lines_alike (line.Job name user time money lines) w v new other alike has (plain, is) (plain2, is2) = made_alike (job_made name user time money lines) (job_bare name user time money lines) w v new other alike is is2
lines_alike (line.Mount serial) w v new other alike has (a, s, (plain, one), is) (b, t, (plain2, two), is2) =
    told_alike (λ _ u y. now_stands (tape_text serial (codes "MOUNTED")) u y) (stands_bare (λ _. tape_text serial (codes "MOUNTED"))) w v new other alike a b s t (mountings_alike w.store v.store serial a b s t (ap (λ (x : World). x.store) alike) one two) is is2
lines_alike (line.Unmount serial) w v new other alike has (a, s, (plain, one), is) (b, t, (plain2, two), is2) =
    told_alike (λ _ u y. now_stands (tape_text serial (codes "UNMOUNTED")) u y) (stands_bare (λ _. tape_text serial (codes "UNMOUNTED"))) w v new other alike a b s t (unmountings_alike w.store v.store serial a b s t (ap (λ (x : World). x.store) alike) one two) is is2
lines_alike (line.Dump serial) w v new other alike has one two =
    needs_alike (λ r s. IsOpening w.store serial Plain r s) (λ r s. IsOpening v.store serial Plain r s) (λ n. dump_text n (codes "OPENED")) w v new other alike
    (λ a b s t x y. openings_alike w.store v.store serial a b s t (ap (λ (x : World). x.store) alike) x y) w.store.up v.store.up (ap (λ (x : World). x.store.up) alike) one two
lines_alike (line.Process serial) w v new other alike has one two =
    needs_alike (λ r s. IsProcessing w.store serial Plain r s) (λ r s. IsProcessing v.store serial Plain r s) (processed_text serial) w v new other alike
    (λ a b s t x y. processings_alike w.store v.store serial a b s t (ap (λ (x : World). x.store) alike) x y) w.store.up v.store.up (ap (λ (x : World). x.store.up) alike) one two
lines_alike (line.Migrate path) w v new other alike has one two =
    needs_alike (λ r s. IsMigration w.store path Plain r s) (λ r s. IsMigration v.store path Plain r s) (λ full. codes "MIGRATED " ++ full_text full) w v new other alike
    (λ a b s t x y. migratings_alike w.store v.store path a b s t (ap (λ (x : World). x.store) alike) x y) w.store.up v.store.up (ap (λ (x : World). x.store.up) alike) one two
lines_alike (line.StopDisc k) w v new other alike has (plain, is) (plain2, is2) =
    ap bare_world is ∙ ap (λ (x : World). says (codes "STOP SET") (record x { disc_stops = x.disc_stops ++ k ∷ [] })) alike ∙ sym (ap bare_world is2)
lines_alike (line.StopTape k) w v new other alike has (plain, is) (plain2, is2) =
    ap bare_world is ∙ ap (λ (x : World). says (codes "STOP SET") (record x { tape_stops = x.tape_stops ++ k ∷ [] })) alike ∙ sym (ap bare_world is2)
lines_alike (line.Login t user time) w v new other alike has (plain, is) (plain2, is2) = made_alike (login_made t user time) (login_bare t user time) w v new other alike is is2
lines_alike (line.Typed t text) w v new other alike has (plain, is) (plain2, is2) = made_alike (at_terminal t (typed_to text)) (typed_bare t (typed_to text)) w v new other alike is is2
lines_alike (line.Logout t) w v new other alike has (plain, is) (plain2, is2) = made_alike (at_terminal t logged_out) (typed_bare t logged_out) w v new other alike is is2

-- a step of the dump
told_bare : (n : ℕ) (r : Result DumpStepped StoreFault) (s : State) (w : World) → bare_world (dump_told n r s w) ≡ dump_told n r (bare_state s) (bare_world w)
told_bare n (Ok Going) s w = refl
told_bare n (Ok (Completed m)) s w = refl
told_bare n (Err Stopped) s w = refl
told_bare n (Err fault) s w = refl

pub steps_alike : (n m : ℕ) → n ≡ m → (w v new other : World) → AreAlike w v → (a b : Result DumpStepped StoreFault) (s t : State) → AreSame a b s t → new ≡ dump_told n a s w → other ≡ dump_told m b t v → AreAlike new other
steps_alike n m number w v new other alike a b s t same is is2 =
    ap bare_world is ∙ told_bare n a s w
    ∙ ap (λ (x : ℕ). dump_told x a (bare_state s) (bare_world w)) number
    ∙ ap (λ (r : Result DumpStepped StoreFault). dump_told m r (bare_state s) (bare_world w)) same.0
    ∙ ap (λ (x : State). dump_told m b x (bare_world w)) same.1
    ∙ ap (λ (x : World). dump_told m b (bare_state t) x) alike
    ∙ sym (told_bare m b t v) ∙ sym (ap bare_world is2)

-- the end of a turn
pub turn_bare : (j : JobState) (t : Turn) (w : World) → bare_world (turn_told j t w) ≡ turn_told j t (bare_world w)
turn_bare j turns.Broken w = refl
turn_bare j (turns.Wants serial) w = ap (λ (a : List Opened). let v : World = record (bare_world (turn_told j (turns.Wants serial) w)) { accounts = a } in v) (sym (new_bare w.store w.accounts))
turn_bare j (turns.Ran units money) w = ap (λ (a : List Opened). let v : World = record (bare_world (turn_told j (turns.Ran units money) w)) { accounts = a } in v) (sym (new_bare w.store w.accounts))
turn_bare j (turns.Ended units money) w =
    ap (λ (a : List Opened). let v : World = record (bare_world (turn_told j (turns.Ended units money) w)) { accounts = a } in v) (sym (new_bare w.store (settled j w.accounts)))

-- which jobs can step
can_bare : (s : State) (j : JobState) (wants : Option ℕ) → can_step (bare_state s) (record j { wants = wants }) ≡ can_step s (record j { wants = wants })
can_bare s j None = refl
can_bare s j (Some serial) = refl

pub able_bare : (w : World) → able (bare_world w) ≡ able w
able_bare w = ap (λ (p : JobState → Bool). filter p w.jobs) (funext (can_step (bare_state w.store)) (can_step w.store) (λ j. can_bare w.store j j.wants))

pub able_alike : (w v : World) → AreAlike w v → able w ≡ able v
able_alike w v alike = sym (able_bare w) ∙ ap able alike ∙ able_bare v

pub dumping_alike : (w v : World) → AreAlike w v → is_some w.store.open_dump ≡ is_some v.store.open_dump
dumping_alike w v alike = sym (some_bare bare_open w.store.open_dump) ∙ ap (λ (x : World). is_some x.store.open_dump) alike ∙ some_bare bare_open v.store.open_dump
