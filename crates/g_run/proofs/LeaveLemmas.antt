-- What a line leaves of the world but for what it does: it is taken between two ticks, and stays there.
-- serves: LineLemmas, NextLemmas
use Rattle.std.proofs.Common.{◌≡◌, ◌+◌, ◌++◌, ℕ, Bool, true, false, List, [], Option, Some, None, append-nil, refl, sym, ◌∙◌, ap, subst, arith}
use Rattle.std.specs.Prelude.{not, MatchBool, Result, Ok, Err, codes, if◌then◌else◌}
use Rattle.std.specs.Fmt.{decimal}
use Rattle.g_monitor.specs.Parts.{full_text}
use Rattle.g_job.specs.State.{JobState}
use Rattle.g_job.specs.Terminal.{logged_out, typed_to}
use Rattle.g_plain.specs.declared.faults.StoreFault.{StoreFault}
use Rattle.g_plain.specs.declared.faults.StoreFault.TheVariants.{NotStarted, Running, Stopped}
use Rattle.g_script.specs.declared.operator.Operator.{Operator}
use Rattle.g_script.specs.declared.operator.Operator.TheVariants as line
use Rattle.g_store_model.specs.CallStep.{Outcome, Plain}
use Rattle.g_store_model.specs.Rising.{FormatStep, RestoreStep, StartStep}
use Rattle.g_store_model.specs.State.{OpenDump, State}
use Rattle.g_run_model.specs.Events.{IsMigration, IsOpening, IsProcessing, IsTold}
use Rattle.g_run_model.specs.Lines.{LineGives, shut_with, at_terminal, changed_at, job_line, job_refusal, line_refused, logged_in, login_refusal, now_stands, open_at, taken_in, tells, up_with}
use Rattle.g_run_model.specs.Texts.{dump_text, processed_text, started_text, tape_text}
use Rattle.g_run_model.specs.World.{World}
use Rattle.g_day.specs.Parts.{disc_arms, tape_arms}

pub record Leaves (what : Operator) (w new : World) : Type 0 where
  pub lines : new.lines ≡ w.lines
  pub bad : new.bad ≡ w.bad
  pub over : new.over ≡ w.over
  pub phase : new.phase ≡ w.phase
  pub turn : new.turn ≡ w.turn
  pub disc_stops : new.disc_stops ≡ w.disc_stops ++ disc_arms what
  pub tape_stops : new.tape_stops ≡ w.tape_stops ++ tape_arms what

-- a line that arms nothing
record Same (w new : World) : Type 0 where
  lines : new.lines ≡ w.lines
  bad : new.bad ≡ w.bad
  over : new.over ≡ w.over
  phase : new.phase ≡ w.phase
  turn : new.turn ≡ w.turn
  disc_stops : new.disc_stops ≡ w.disc_stops
  tape_stops : new.tape_stops ≡ w.tape_stops

leaves : (what : Operator) → disc_arms what ≡ [] → tape_arms what ≡ [] → (w new : World) → Same w new → Leaves what w new
leaves what no_disc no_tape w new same = record {
  lines = same.lines;
  bad = same.bad;
  over = same.over;
  phase = same.phase;
  turn = same.turn;
  disc_stops = same.disc_stops ∙ sym (append-nil w.disc_stops) ∙ ap (λ (ks : List ℕ). w.disc_stops ++ ks) (sym no_disc);
  tape_stops = same.tape_stops ∙ sym (append-nil w.tape_stops) ∙ ap (λ (ks : List ℕ). w.tape_stops ++ ks) (sym no_tape);
}

is_same : (w new v : World) → new ≡ v → Same w v → Same w new
is_same w new v is same = subst (λ (x : World). Same w x) (sym is) same

told_up : {R : Type 0} (said : R → List ℕ) (r : Result R StoreFault) (s : State) (w : World) → Same w (tells (λ x t v. up_with (said x) t v) r s w)
told_up said (Ok x) s w = record { lines = refl; bad = refl; over = refl; phase = refl; turn = refl; disc_stops = refl; tape_stops = refl }
told_up said (Err Stopped) s w = record { lines = refl; bad = refl; over = refl; phase = refl; turn = refl; disc_stops = refl; tape_stops = refl }
told_up said (Err fault) s w = record { lines = refl; bad = refl; over = refl; phase = refl; turn = refl; disc_stops = refl; tape_stops = refl }

told_stands : {R : Type 0} (said : R → List ℕ) (r : Result R StoreFault) (s : State) (w : World) → Same w (tells (λ x t v. now_stands (said x) t v) r s w)
told_stands said (Ok x) s w = record { lines = refl; bad = refl; over = refl; phase = refl; turn = refl; disc_stops = refl; tape_stops = refl }
told_stands said (Err Stopped) s w = record { lines = refl; bad = refl; over = refl; phase = refl; turn = refl; disc_stops = refl; tape_stops = refl }
told_stands said (Err fault) s w = record { lines = refl; bad = refl; over = refl; phase = refl; turn = refl; disc_stops = refl; tape_stops = refl }

refused_same : (fault : StoreFault) (w : World) → Same w (line_refused fault w)
refused_same fault w = record { lines = refl; bad = refl; over = refl; phase = refl; turn = refl; disc_stops = refl; tape_stops = refl }

rises_same : {R : Type 0} (Does : State → Outcome → Result R StoreFault → State → Type 0) (said : R → List ℕ) (o : Outcome) (w new : World) (b : Bool)
    → MatchBool (not b) ((r : Result R StoreFault) × (s : State) × (Does w.store o r s × IsTold o r) × (new ≡ tells (λ x t v. up_with (said x) t v) r s w)) ((o ≡ Plain) × (new ≡ line_refused Running w))
    → Same w new
rises_same Does said o w new true (plain, is) = is_same w new (line_refused Running w) is (refused_same Running w)
rises_same Does said o w new false (r, s, (does, so), is) = is_same w new (tells (λ x t v. up_with (said x) t v) r s w) is (told_up said r s w)

needs_same : {R : Type 0} (Does : Result R StoreFault → State → Type 0) (said : R → List ℕ) (o : Outcome) (w new : World) (b : Bool)
    → MatchBool b ((r : Result R StoreFault) × (s : State) × Does r s × (new ≡ tells (λ x t v. now_stands (said x) t v) r s w)) ((o ≡ Plain) × (new ≡ line_refused NotStarted w))
    → Same w new
needs_same Does said o w new true (r, s, does, is) = is_same w new (tells (λ x t v. now_stands (said x) t v) r s w) is (told_stands said r s w)
needs_same Does said o w new false (plain, is) = is_same w new (line_refused NotStarted w) is (refused_same NotStarted w)

shut_at : (d : Option OpenDump) (w new : World) → new ≡ shut_with d w → Same w new
shut_at (Some dump) w new is = is_same w new _ is (record { lines = refl; bad = refl; over = refl; phase = refl; turn = refl; disc_stops = refl; tape_stops = refl })
shut_at None w new is = is_same w new _ is (record { lines = refl; bad = refl; over = refl; phase = refl; turn = refl; disc_stops = refl; tape_stops = refl })

shut_same : (w new : World) (b : Bool) → new ≡ (if b then shut_with w.store.open_dump w else line_refused NotStarted w) → Same w new
shut_same w new true shuts = shut_at w.store.open_dump w new shuts
shut_same w new false is = is_same w new (line_refused NotStarted w) is (refused_same NotStarted w)

job_at : (refusal : Option (List ℕ)) (taken w : World) → Same w taken → Same w (job_line refusal taken w)
job_at None taken w same = same
job_at (Some text) taken w same = record { lines = refl; bad = refl; over = refl; phase = refl; turn = refl; disc_stops = refl; tape_stops = refl }

job_same : (name user : List ℕ) (time money : ℕ) (lines : List (List ℕ)) (w : World) (b : Bool)
    → Same w (if b then job_line (job_refusal w user time money) (taken_in name user time money lines w) w else line_refused NotStarted w)
job_same name user time money lines w true =
    job_at (job_refusal w user time money) (taken_in name user time money lines w) w
    (record { lines = refl; bad = refl; over = refl; phase = refl; turn = refl; disc_stops = refl; tape_stops = refl })
job_same name user time money lines w false = refused_same NotStarted w

login_same : (t : ℕ) (user : List ℕ) (time : ℕ) (w : World) (b : Bool) → Same w (if b then job_line (login_refusal w t user time) (logged_in t user time w) w else line_refused NotStarted w)
login_same t user time w true =
    job_at (login_refusal w t user time) (logged_in t user time w) w
    (record { lines = refl; bad = refl; over = refl; phase = refl; turn = refl; disc_stops = refl; tape_stops = refl })
login_same t user time w false = refused_same NotStarted w

seat_at : (t : ℕ) (change : JobState → JobState) (seat : Option JobState) (w : World) → Same w (changed_at t change seat w)
seat_at t change None w = record { lines = refl; bad = refl; over = refl; phase = refl; turn = refl; disc_stops = refl; tape_stops = refl }
seat_at t change (Some j) w = record { lines = refl; bad = refl; over = refl; phase = refl; turn = refl; disc_stops = refl; tape_stops = refl }

seat_same : (t : ℕ) (change : JobState → JobState) (w : World) (b : Bool) → Same w (if b then at_terminal t change w else line_refused NotStarted w)
seat_same t change w true = seat_at t change (open_at t w.jobs) w
seat_same t change w false = refused_same NotStarted w

pub line_leaves : (o : Outcome) (what : Operator) (w new : World) → LineGives o what w new → Leaves what w new
line_leaves o line.Format w new gives = leaves line.Format refl refl w new (rises_same FormatStep (λ r. codes "FORMATTED") o w new w.store.up gives)
line_leaves o line.Start w new gives = leaves line.Start refl refl w new (rises_same StartStep started_text o w new w.store.up gives)
line_leaves o line.Restore w new gives = leaves line.Restore refl refl w new (rises_same RestoreStep (λ n. codes "RESTORED FROM DUMP " ++ decimal n) o w new w.store.up gives)
line_leaves o line.Shut w new (plain, gives) = leaves line.Shut refl refl w new (shut_same w new w.store.up gives)
line_leaves o (line.Job name user time money lines) w new (plain, is) = leaves (line.Job name user time money lines) refl refl w new (is_same w new _ is (job_same name user time money lines w w.store.up))
line_leaves o (line.Mount serial) w new (r, s, does, is) = leaves (line.Mount serial) refl refl w new (is_same w new _ is (told_stands (λ _. tape_text serial (codes "MOUNTED")) r s w))
line_leaves o (line.Unmount serial) w new (r, s, does, is) = leaves (line.Unmount serial) refl refl w new (is_same w new _ is (told_stands (λ _. tape_text serial (codes "UNMOUNTED")) r s w))
line_leaves o (line.Dump serial) w new gives =
    leaves (line.Dump serial) refl refl w new (needs_same (λ r s. IsOpening w.store serial o r s) (λ n. dump_text n (codes "OPENED")) o w new w.store.up gives)
line_leaves o (line.Process serial) w new gives =
    leaves (line.Process serial) refl refl w new (needs_same (λ r s. IsProcessing w.store serial o r s) (processed_text serial) o w new w.store.up gives)
line_leaves o (line.Login t user time) w new (plain, is) = leaves (line.Login t user time) refl refl w new (is_same w new _ is (login_same t user time w w.store.up))
line_leaves o (line.Typed t text) w new (plain, is) = leaves (line.Typed t text) refl refl w new (is_same w new _ is (seat_same t (typed_to text) w w.store.up))
line_leaves o (line.Logout t) w new (plain, is) = leaves (line.Logout t) refl refl w new (is_same w new _ is (seat_same t logged_out w w.store.up))
line_leaves o (line.Migrate path) w new gives =
    leaves (line.Migrate path) refl refl w new (needs_same (λ r s. IsMigration w.store path o r s) (λ full. codes "MIGRATED " ++ full_text full) o w new w.store.up gives)
line_leaves o (line.StopDisc k) w new (plain, is) =
    subst (λ (v : World). Leaves (line.StopDisc k) w v) (sym is) (record { lines = refl; bad = refl; over = refl; phase = refl; turn = refl; disc_stops = refl; tape_stops = sym (append-nil w.tape_stops) })
line_leaves o (line.StopTape k) w new (plain, is) =
    subst (λ (v : World). Leaves (line.StopTape k) w v) (sym is) (record { lines = refl; bad = refl; over = refl; phase = refl; turn = refl; disc_stops = sym (append-nil w.disc_stops); tape_stops = refl })
