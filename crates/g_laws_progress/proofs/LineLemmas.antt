-- Each line has an effect, and leaves everything else unchanged.
-- serves: GoesLemmas, ReadyLemmas
use Rattle.std.proofs.Common.{◌≡◌, ℕ, ◌+◌, ◌-◌, ◌^◌, ◌==◌, List, [], ◌∷◌, ◌++◌, Option, Some, None, refl, sym, ◌∙◌, subst, inl, inr}
use Rattle.std.specs.Prelude.{◌⊎◌, Bool, true, false, not, nat_lt, Result, Ok, Err, MatchBool, MatchOption, is_some, codes, if◌then◌else◌}
use Rattle.std.specs.Fmt.{decimal}
use Rattle.std.specs.FinMap.{empty}
use Rattle.g_job.specs.State.{JobState}
use Rattle.g_job.specs.Terminal.{logged_out, typed_to}
use Rattle.g_monitor.specs.Parts.{full_text}
use Rattle.g_name.specs.declared.full.Full.{Full}
use Rattle.g_plain.specs.PlainStep.{first_fault}
use Rattle.g_plain.specs.PlainTree.{input_name}
use Rattle.g_plain.specs.declared.faults.StoreFault.{StoreFault}
use Rattle.g_plain.specs.declared.faults.StoreFault.TheVariants.{CountersSpent, DumpOpen, LostDirectory, NoFilestore, NoTape, NotMounted, NotStarted, Running, Stopped, TapeFull, TapeReadFault}
use Rattle.g_script.specs.declared.operator.Operator.{Operator}
use Rattle.g_script.specs.declared.operator.Operator.TheVariants as line
use Rattle.g_store_model.specs.CallStep.{Cut, Outcome, Plain, TapeRead, down}
use Rattle.g_store_model.specs.DumpSteps.{Event, MigrateStep, MountStep, OpenStep, UnmountStep, dump_needs, open_number, open_refuses, opening, tape_room}
use Rattle.g_store_model.specs.Process.{NotYet, ProcessStep, Processes, process_refuses, process_refuses_late}
use Rattle.g_store_model.specs.Rising.{FormatStep, RestoreStep, Restores, StartStep, Starts, coming_up, restore_early, restored}
use Rattle.g_store_model.specs.State.{Dumped as DumpedTree, Holding, OpenDump, State, is_mounted, lacks}
use Rattle.g_run_model.specs.Events.{IsMigration, IsOpening, IsProcessing, IsTold}
use Rattle.g_run_model.specs.Lines.{LineGives, shut_with, at_terminal, changed_at, job_line, job_refusal, line_refused, logged_in, login_refusal, now_stands, open_at, taken_in, tells, up_with}
use Rattle.g_run_model.specs.Texts.{dump_text, processed_text, started_text, tape_text}
use Rattle.g_run_model.specs.World.{World}

-- AN EVENT has an answer
event_some : {A : Type 0} (f : Option StoreFault) (reply : A) (s after : State) → (r : Result A StoreFault) × (new : State) × Event f reply s after r new
event_some None reply s after = (Ok reply, after, (refl, refl))
event_some (Some Stopped) reply s after = (Err Stopped, down s, (refl, inl refl))
event_some (Some fault) reply s after = (Err fault, s, (refl, refl))

start_some : (s : State) (h : Option Holding) → (r : Result (Option ℕ) StoreFault) × (new : State) × Starts s h Plain r new
start_some s None = (Err NoFilestore, s, (refl, refl))
start_some s (Some k) = event_some _ _ s _

restores_some : (s : State) (t : Option DumpedTree) → (r : Result ℕ StoreFault) × (new : State) × Restores s t Plain r new
restores_some s None = (Err (LostDirectory []), s, (tt, refl))
restores_some s (Some t) = (Ok t.number, coming_up s (restored t), (refl, refl))

restore_some : (s : State) (f : Option StoreFault) → (r : Result ℕ StoreFault) × (new : State) × MatchOption f (Restores s s.dumped Plain r new) (λ fault. (r ≡ Err fault) × (new ≡ s))
restore_some s None = restores_some s s.dumped
restore_some s (Some fault) = (Err fault, s, (refl, refl))

format_some : (s : State) → (r : Result (Unit {0}) StoreFault) × (new : State) × FormatStep s Plain r new
format_some s = event_some _ _ s _

mount_some : (s : State) (serial : ℕ) → (r : Result (Unit {0}) StoreFault) × (new : State) × MountStep s serial r new
mount_some s serial = event_some _ _ s _

unmount_some : (s : State) (serial : ℕ) → (r : Result (Unit {0}) StoreFault) × (new : State) × UnmountStep s serial r new
unmount_some s serial = event_some _ _ s _

migrate_some : (s : State) (k : Holding) (user : Option (List ℕ)) (full : Full) → (r : Result Full StoreFault) × (new : State) × MigrateStep s k user full Plain r new
migrate_some s k user full = event_some _ _ s _

-- An opening that nothing refuses may be cut; so what it notes, were it granted, needn't be named.
cut_by : (a b c d e : Bool) (n m r : ℕ)
    → first_fault ((a, NoTape) ∷ (b, NotMounted) ∷ (c, DumpOpen n) ∷ (d, CountersSpent) ∷ (false, TapeReadFault) ∷ (e, TapeFull m r) ∷ (false, Stopped) ∷ []) ≡ None
    → first_fault ((a, NoTape) ∷ (b, NotMounted) ∷ (c, DumpOpen n) ∷ (d, CountersSpent) ∷ (false, TapeReadFault) ∷ (e, TapeFull m r) ∷ (true, Stopped) ∷ []) ≡ Some Stopped
cut_by true b c d e n m r none = absurd (let no : ⊥ = cc in no)
cut_by false true c d e n m r none = absurd (let no : ⊥ = cc in no)
cut_by false false true d e n m r none = absurd (let no : ⊥ = cc in no)
cut_by false false false true e n m r none = absurd (let no : ⊥ = cc in no)
cut_by false false false false true n m r none = absurd (let no : ⊥ = cc in no)
cut_by false false false false false n m r none = refl

not_none : {P : Type 0} (x : Option StoreFault) (f : StoreFault) → x ≡ Some f → x ≡ None → P
not_none x f some none = let both : None ≡ Some f = sym none ∙ some in absurd (let no : ⊥ = cc in no)

abbrev OpensSome : State → Holding → ℕ → Type 0
OpensSome s k serial = (o : Outcome) × (r : Result ℕ StoreFault) × (new : State) × OpenStep s k serial o r new × IsTold o r

open_some : (s : State) (k : Holding) (serial : ℕ) → OpensSome s k serial
open_some s k serial = by (open_refuses s k serial Plain) refl
  where
    by : (f : Option StoreFault) → open_refuses s k serial Plain ≡ f → OpensSome s k serial
    by (Some fault) is =
        let event = event_some (open_refuses s k serial Plain) (k.last + 1) s (opening s k serial empty) in
        (Plain, event.0, event.1, (empty, (λ none. not_none (open_refuses s k serial Plain) fault is none), event.2), tt)
    by None is =
        let cut : open_refuses s k serial Cut ≡ Some Stopped = cut_by (lacks s serial) (not (is_mounted s serial)) (is_some s.open_dump) (k.last == 2 ^ 62 - 1) (nat_lt (tape_room s serial) (dump_needs k)) (open_number s.open_dump) (dump_needs k) (tape_room s serial) is in (
          Cut,
          Err Stopped,
          down s,
          (empty, (λ none. not_none (open_refuses s k serial Cut) Stopped cut none), subst (λ (f : Option StoreFault). Event f (k.last + 1) s (opening s k serial empty) (Err Stopped) (down s)) (sym cut) (refl, inl refl)),
          refl,
        )

process_by : (s : State) (k : Holding) (serial : ℕ) (f g : Option StoreFault)
    → (o : Outcome) × (r : Result ℕ StoreFault) × (new : State)
    × MatchOption f (MatchOption g (Processes s k serial o r new) (λ fault. ((r ≡ Err fault) ⊎ ((o ≡ TapeRead) × (r ≡ Err TapeReadFault))) × (new ≡ s))) (λ fault. (r ≡ Err fault) × (new ≡ s)) × IsTold o r
process_by s k serial (Some fault) g = (Plain, Err fault, s, (refl, refl), tt)
process_by s k serial None (Some fault) = (Plain, Err fault, s, (inl refl, refl), tt)
process_by s k serial None None = (Cut, Err Stopped, down s, (refl, NotYet false (inl refl)), refl)

process_some : (s : State) (k : Holding) (serial : ℕ) → (o : Outcome) × (r : Result ℕ StoreFault) × (new : State) × ProcessStep s k serial o r new × IsTold o r
process_some s k serial = process_by s k serial (process_refuses s k serial) (process_refuses_late s k serial)

-- A LINE gives something, if a system that is up holds a filestore
abbrev pub GivesSome : Operator → World → Type 0
GivesSome what w = (o : Outcome) × (new : World) × LineGives o what w new

rises_some : {R : Type 0} (Does : State → Outcome → Result R StoreFault → State → Type 0) (said : R → List ℕ) (w : World) → ((r : Result R StoreFault) × (s : State) × Does w.store Plain r s) → (b : Bool)
    → (new : World) × MatchBool (not b) ((r : Result R StoreFault) × (s : State) × (Does w.store Plain r s × IsTold Plain r) × (new ≡ tells (λ x t v. up_with (said x) t v) r s w)) ((Plain ≡ Plain) × (new ≡ line_refused Running w))
rises_some Does said w does true = (line_refused Running w, (refl, refl))
rises_some Does said w (r, s, does) false = (tells (λ x t v. up_with (said x) t v) r s w, (r, s, (does, tt), refl))

-- of a line that needs a system that is up
needs_some : {R : Type 0} (Does : Outcome → Result R StoreFault → State → Type 0) (said : R → List ℕ) (w : World) → (b : Bool) → (b ≡ true → (o : Outcome) × (r : Result R StoreFault) × (s : State) × Does o r s)
    → (o : Outcome) × (new : World) × MatchBool b ((r : Result R StoreFault) × (s : State) × Does o r s × (new ≡ tells (λ x t v. now_stands (said x) t v) r s w)) ((o ≡ Plain) × (new ≡ line_refused NotStarted w))
needs_some Does said w true does = let (o, r, s, done) = does refl in (o, tells (λ x t v. now_stands (said x) t v) r s w, (r, s, done, refl))
needs_some Does said w false does = (Plain, line_refused NotStarted w, (refl, refl))

shut_some : (d : Option OpenDump) (w : World) → (new : World) × (new ≡ shut_with d w)
shut_some None w = (_, refl)
shut_some (Some dump) w = (_, refl)

shut_by : (w : World) (b : Bool) → (new : World) × (new ≡ (if b then shut_with w.store.open_dump w else line_refused NotStarted w))
shut_by w true = shut_some w.store.open_dump w
shut_by w false = (line_refused NotStarted w, refl)

pub line_some : (what : Operator) (w : World) → (w.store.up ≡ true → (k : Holding) × (w.store.holding ≡ Some k)) → GivesSome what w
line_some line.Format w held = let (new, gives) = rises_some FormatStep (λ r. codes "FORMATTED") w (format_some w.store) w.store.up in (Plain, new, gives)
line_some line.Start w held = let (new, gives) = rises_some StartStep started_text w (start_some w.store w.store.holding) w.store.up in (Plain, new, gives)
line_some line.Restore w held =
    let (new, gives) = rises_some RestoreStep (λ n. codes "RESTORED FROM DUMP " ++ decimal n) w (restore_some w.store (restore_early w.store Plain)) w.store.up in
    (Plain, new, gives)
line_some line.Shut w held = let (new, gives) = shut_by w w.store.up in (Plain, new, (refl, gives))
line_some (line.Job name user time money lines) w held = (Plain, _, (refl, refl))
line_some (line.Mount serial) w held =
    let (r, s, does) = mount_some w.store serial in
    (Plain, tells (λ x t v. now_stands (tape_text serial (codes "MOUNTED")) t v) r s w, (r, s, (refl, does), refl))
line_some (line.Unmount serial) w held =
    let (r, s, does) = unmount_some w.store serial in
    (Plain, tells (λ x t v. now_stands (tape_text serial (codes "UNMOUNTED")) t v) r s w, (r, s, (refl, does), refl))
line_some (line.Dump serial) w held =
    needs_some (λ o r s. IsOpening w.store serial o r s) (λ n. dump_text n (codes "OPENED")) w w.store.up
    (λ up. let (k, holds) = held up in let (o, r, s, step, so) = open_some w.store k serial in (o, r, s, (k, holds, step, so)))
line_some (line.Process serial) w held =
    needs_some (λ o r s. IsProcessing w.store serial o r s) (processed_text serial) w w.store.up
    (λ up. let (k, holds) = held up in let (o, r, s, step, so) = process_some w.store k serial in (o, r, s, (k, holds, step, so)))
line_some (line.Migrate path) w held =
    needs_some (λ o r s. IsMigration w.store path o r s) (λ full. codes "MIGRATED " ++ full_text full) w w.store.up
    (λ up. let (k, holds) = held up in let (r, s, step) = migrate_some w.store k path.user (input_name k.tree [] path) in (Plain, r, s, (k, holds, step, tt)))
line_some (line.StopDisc k) w held = (Plain, _, (refl, refl))
line_some (line.StopTape k) w held = (Plain, _, (refl, refl))
line_some (line.Login t user time) w held = (Plain, _, (refl, refl))
line_some (line.Typed t text) w held = (Plain, _, (refl, refl))
line_some (line.Logout t) w held = (Plain, _, (refl, refl))

-- WHAT A LINE LEAVES of a turn, of the tick and of the jobs: there are no new ones while the system is down
pub record LineLeaves (w new : World) : Type 0 where
  pub turn : new.turn ≡ w.turn
  pub phase : new.phase ≡ w.phase
  pub jobs : (new.jobs ≡ w.jobs) ⊎ ((new.jobs ≡ []) ⊎ (w.store.up ≡ true))

leaves_is : (w new v : World) → new ≡ v → LineLeaves w v → LineLeaves w new
leaves_is w new v is it = subst (λ (x : World). LineLeaves w x) (sym is) it

told_up : {R : Type 0} (said : R → List ℕ) (r : Result R StoreFault) (s : State) (w : World) → LineLeaves w (tells (λ x t v. up_with (said x) t v) r s w)
told_up said (Ok x) s w = record { turn = refl; phase = refl; jobs = inl refl }
told_up said (Err Stopped) s w = record { turn = refl; phase = refl; jobs = inr (inl refl) }
told_up said (Err fault) s w = record { turn = refl; phase = refl; jobs = inl refl }

told_stands : {R : Type 0} (said : R → List ℕ) (r : Result R StoreFault) (s : State) (w : World) → LineLeaves w (tells (λ x t v. now_stands (said x) t v) r s w)
told_stands said (Ok x) s w = record { turn = refl; phase = refl; jobs = inl refl }
told_stands said (Err Stopped) s w = record { turn = refl; phase = refl; jobs = inr (inl refl) }
told_stands said (Err fault) s w = record { turn = refl; phase = refl; jobs = inl refl }

rises_leaves : {R : Type 0} (Does : State → Outcome → Result R StoreFault → State → Type 0) (said : R → List ℕ) (o : Outcome) (w new : World) (b : Bool)
    → MatchBool (not b) ((r : Result R StoreFault) × (s : State) × (Does w.store o r s × IsTold o r) × (new ≡ tells (λ x t v. up_with (said x) t v) r s w)) ((o ≡ Plain) × (new ≡ line_refused Running w))
    → LineLeaves w new
rises_leaves Does said o w new true (plain, is) = leaves_is w new (line_refused Running w) is (record { turn = refl; phase = refl; jobs = inl refl })
rises_leaves Does said o w new false (r, s, (does, so), is) = leaves_is w new (tells (λ x t v. up_with (said x) t v) r s w) is (told_up said r s w)

needs_leaves : {R : Type 0} (Does : Result R StoreFault → State → Type 0) (said : R → List ℕ) (o : Outcome) (w new : World) (b : Bool)
    → MatchBool b ((r : Result R StoreFault) × (s : State) × Does r s × (new ≡ tells (λ x t v. now_stands (said x) t v) r s w)) ((o ≡ Plain) × (new ≡ line_refused NotStarted w))
    → LineLeaves w new
needs_leaves Does said o w new true (r, s, does, is) = leaves_is w new (tells (λ x t v. now_stands (said x) t v) r s w) is (told_stands said r s w)
needs_leaves Does said o w new false (plain, is) = leaves_is w new (line_refused NotStarted w) is (record { turn = refl; phase = refl; jobs = inl refl })

shuts_leaves : (d : Option OpenDump) (w new : World) → new ≡ shut_with d w → LineLeaves w new
shuts_leaves (Some dump) w new is = leaves_is w new _ is (record { turn = refl; phase = refl; jobs = inl refl })
shuts_leaves None w new is = leaves_is w new _ is (record { turn = refl; phase = refl; jobs = inr (inl refl) })

shut_leaves : (w new : World) (b : Bool) → new ≡ (if b then shut_with w.store.open_dump w else line_refused NotStarted w) → LineLeaves w new
shut_leaves w new true shuts = shuts_leaves w.store.open_dump w new shuts
shut_leaves w new false is = leaves_is w new (line_refused NotStarted w) is (record { turn = refl; phase = refl; jobs = inl refl })

taken_leaves : (refusal : Option (List ℕ)) (name user : List ℕ) (time money : ℕ) (lines : List (List ℕ)) (w : World) → w.store.up ≡ true → LineLeaves w (job_line refusal (taken_in name user time money lines w) w)
taken_leaves None name user time money lines w up = record { turn = refl; phase = refl; jobs = inr (inr up) }
taken_leaves (Some text) name user time money lines w up = record { turn = refl; phase = refl; jobs = inl refl }

job_leaves : (name user : List ℕ) (time money : ℕ) (lines : List (List ℕ)) (w : World) (b : Bool) → w.store.up ≡ b
    → LineLeaves w (if b then job_line (job_refusal w user time money) (taken_in name user time money lines w) w else line_refused NotStarted w)
job_leaves name user time money lines w true up = taken_leaves (job_refusal w user time money) name user time money lines w up
job_leaves name user time money lines w false up = record { turn = refl; phase = refl; jobs = inl refl }

login_leaves : (refusal : Option (List ℕ)) (t : ℕ) (user : List ℕ) (time : ℕ) (w : World) → w.store.up ≡ true → LineLeaves w (job_line refusal (logged_in t user time w) w)
login_leaves None t user time w up = record { turn = refl; phase = refl; jobs = inr (inr up) }
login_leaves (Some text) t user time w up = record { turn = refl; phase = refl; jobs = inl refl }

login_by_leaves : (t : ℕ) (user : List ℕ) (time : ℕ) (w : World) (b : Bool) → w.store.up ≡ b
    → LineLeaves w (if b then job_line (login_refusal w t user time) (logged_in t user time w) w else line_refused NotStarted w)
login_by_leaves t user time w true up = login_leaves (login_refusal w t user time) t user time w up
login_by_leaves t user time w false up = record { turn = refl; phase = refl; jobs = inl refl }

changed_leaves : (t : ℕ) (change : JobState → JobState) (j : Option JobState) (w : World) → w.store.up ≡ true → LineLeaves w (changed_at t change j w)
changed_leaves t change None w up = record { turn = refl; phase = refl; jobs = inl refl }
changed_leaves t change (Some j) w up = record { turn = refl; phase = refl; jobs = inr (inr up) }

typed_leaves : (t : ℕ) (change : JobState → JobState) (w : World) (b : Bool) → w.store.up ≡ b → LineLeaves w (if b then at_terminal t change w else line_refused NotStarted w)
typed_leaves t change w true up = changed_leaves t change (open_at t w.jobs) w up
typed_leaves t change w false up = record { turn = refl; phase = refl; jobs = inl refl }

pub line_leaves : (o : Outcome) (what : Operator) (w new : World) → LineGives o what w new → LineLeaves w new
line_leaves o line.Format w new gives = rises_leaves FormatStep (λ r. codes "FORMATTED") o w new w.store.up gives
line_leaves o line.Start w new gives = rises_leaves StartStep started_text o w new w.store.up gives
line_leaves o line.Restore w new gives = rises_leaves RestoreStep (λ n. codes "RESTORED FROM DUMP " ++ decimal n) o w new w.store.up gives
line_leaves o line.Shut w new (plain, gives) = shut_leaves w new w.store.up gives
line_leaves o (line.Job name user time money lines) w new (plain, is) = leaves_is w new _ is (job_leaves name user time money lines w w.store.up refl)
line_leaves o (line.Mount serial) w new (r, s, does, is) = leaves_is w new _ is (told_stands (λ _. tape_text serial (codes "MOUNTED")) r s w)
line_leaves o (line.Unmount serial) w new (r, s, does, is) = leaves_is w new _ is (told_stands (λ _. tape_text serial (codes "UNMOUNTED")) r s w)
line_leaves o (line.Dump serial) w new gives = needs_leaves (λ r s. IsOpening w.store serial o r s) (λ n. dump_text n (codes "OPENED")) o w new w.store.up gives
line_leaves o (line.Process serial) w new gives = needs_leaves (λ r s. IsProcessing w.store serial o r s) (processed_text serial) o w new w.store.up gives
line_leaves o (line.Migrate path) w new gives = needs_leaves (λ r s. IsMigration w.store path o r s) (λ full. codes "MIGRATED " ++ full_text full) o w new w.store.up gives
line_leaves o (line.StopDisc k) w new (plain, is) = leaves_is w new _ is (record { turn = refl; phase = refl; jobs = inl refl })
line_leaves o (line.StopTape k) w new (plain, is) = leaves_is w new _ is (record { turn = refl; phase = refl; jobs = inl refl })
line_leaves o (line.Login t user time) w new (plain, is) = leaves_is w new _ is (login_by_leaves t user time w w.store.up refl)
line_leaves o (line.Typed t text) w new (plain, is) = leaves_is w new _ is (typed_leaves t (typed_to text) w w.store.up refl)
line_leaves o (line.Logout t) w new (plain, is) = leaves_is w new _ is (typed_leaves t logged_out w w.store.up refl)
