-- Which reels are mounted after each event: no more than before, except after MOUNT. And a call that waits, waits for a
-- reel that isn't mounted.
-- serves: EndsLemmas, ProcessedLemmas, ShortLemmas, TakenLemmas
use Rattle.std.proofs.Common.{◌≡◌, ◌==◌, ◌⊎◌, ◌&&◌, ℕ, Bool, true, false, not, List, [], ◌∷◌, Option, Some, None, Result, Ok, Err, option_map, is_some, unwrap_or, refl, sym, ◌∙◌, ap, subst, inl, inr, if◌then◌else◌, ◌||◌}
use Rattle.std.proofs.lemmas.Bool.{false≢true}
use Rattle.g_plain.proofs.StepAnswers.{own_fault}
use Rattle.g_plain.specs.declared.calls.StoreCall.{StoreCall}
use Rattle.g_plain.specs.declared.calls.StoreReply.{StoreReply}
use Rattle.g_plain.specs.declared.faults.StoreFault.{StoreFault}
use Rattle.g_plain.specs.declared.faults.StoreFault.TheVariants.{DiscFull, DiscReadFault, Stopped, TapeReadFault, WaitTape}
use Rattle.g_plain.specs.PlainStep.{fault_of, first_fault, reply_to}
use Rattle.g_store_model.specs.CallStep.{CallStep, LeftByRefusal, Outcome, Planned, after_call, brings_now, commits, down, early, held_after, is_offline, is_tape_read, late, reel_of, touched_by, writes}
use Rattle.g_store_model.specs.DumpSteps.{Completed, DumpStep, Event, Going, MigrateStep, OpenStep, Stepped as DumpStepped, UnmountStep, UsedByCut, shelved, with_mounted, with_shelved, with_used}
use Rattle.g_store_model.specs.Rising.{FormatStep, RestoreStep, StartStep}
use Rattle.g_store_model.specs.State.{Holding, OpenDump, ReelRow, State, is_mounted, mounted_in, reel_at, with_reel}
use Rattle.g_name.specs.declared.full.Full.{Full}
use Rattle.g_run_model.proofs.StepLemmas.{call_kept, refused, restore_kept, start_kept}

-- every reel that is mounted was mounted
abbrev pub NoMount : State → State → Type 0
NoMount s new = (serial : ℕ) → is_mounted new serial ≡ true → is_mounted s serial ≡ true

pub same_reels : (s new : State) → new.reels ≡ s.reels → NoMount s new
same_reels s new same serial mounted = sym (ap (λ (rs : List ReelRow). mounted_in (reel_at serial rs)) same) ∙ mounted

pub no_mount_of : (s mid new : State) → new ≡ mid → NoMount s mid → NoMount s new
no_mount_of s mid new is fewer = subst (λ (x : State). NoMount s x) (sym is) fewer

-- an event of one commit
event_mounts : {A : Type 0} (f : Option StoreFault) (reply : A) (s after : State) (r : Result A StoreFault) (new : State) → NoMount s after → Event f reply s after r new → NoMount s new
event_mounts None reply s after r new fewer (ok, is) = no_mount_of s after new is fewer
event_mounts (Some Stopped) reply s after r new fewer (err, inl is) = no_mount_of s (down s) new is (λ serial mounted. mounted)
event_mounts (Some Stopped) reply s after r new fewer (err, inr is) = no_mount_of s (down after) new is fewer
event_mounts (Some fault) reply s after r new fewer (err, is) = no_mount_of s s new is (λ serial mounted. mounted)

-- lines that bring the system up
pub format_mounts : (s : State) (o : Outcome) (r : Result (Unit {0}) StoreFault) (new : State) → FormatStep s o r new → NoMount s new
format_mounts s o r new event = event_mounts _ _ s _ r new (λ serial mounted. mounted) event

pub start_mounts : (s : State) (o : Outcome) (r : Result (Option ℕ) StoreFault) (new : State) → StartStep s o r new → NoMount s new
start_mounts s = start_kept (λ (x : State). NoMount s x) s (λ serial mounted. mounted) (λ serial mounted. mounted) (λ k e serial mounted. mounted) (λ k e serial mounted. mounted)

pub restore_mounts : (s : State) (o : Outcome) (r : Result ℕ StoreFault) (new : State) → RestoreStep s o r new → NoMount s new
restore_mounts s = restore_kept (λ (x : State). NoMount s x) s (λ serial mounted. mounted) (λ serial mounted. mounted) (λ d e serial mounted. mounted) (λ d e serial mounted. mounted)

-- lines of a system that is up
pub open_mounts : (s : State) (k : Holding) (serial : ℕ) (o : Outcome) (r : Result ℕ StoreFault) (new : State) → OpenStep s k serial o r new → NoMount s new
open_mounts s k serial o r new (places, noted, event) = event_mounts _ _ s _ r new (λ serial mounted. mounted) event

pub migrate_mounts : (s : State) (k : Holding) (user : Option (List ℕ)) (full : Full) (o : Outcome) (r : Result Full StoreFault) (new : State) → MigrateStep s k user full o r new → NoMount s new
migrate_mounts s k user full o r new event = event_mounts _ _ s _ r new (λ serial mounted. mounted) event

-- a reel that is changed
module _ (f : ReelRow → ReelRow) (same_serial : (r : ReelRow) → (f r).serial ≡ r.serial) (lowers : (r : ReelRow) → (f r).mounted ≡ true → r.mounted ≡ true) where
  pub changed_mounts : (at x : ℕ) (rs : List ReelRow) → mounted_in (reel_at x (with_reel at f rs)) ≡ true → mounted_in (reel_at x rs) ≡ true
  changed_mounts at x [] mounted = mounted
  changed_mounts at x (r ∷ rs) mounted = by (at == r.serial) mounted (λ e. changed_mounts at x rs e)
    where
      here : (b : Bool) → mounted_in (if b then Some (f r) else reel_at x rs) ≡ true → mounted_in (if b then Some r else reel_at x rs) ≡ true
      here true mounted = lowers r mounted
      here false mounted = mounted

      there : (b : Bool) → mounted_in (if b then Some r else reel_at x (with_reel at f rs)) ≡ true → (mounted_in (reel_at x (with_reel at f rs)) ≡ true → mounted_in (reel_at x rs) ≡ true)
          → mounted_in (if b then Some r else reel_at x rs) ≡ true
      there true mounted again = mounted
      there false mounted again = again mounted

      by : (b : Bool) → mounted_in (reel_at x (if b then f r ∷ rs else r ∷ with_reel at f rs)) ≡ true → (mounted_in (reel_at x (with_reel at f rs)) ≡ true → mounted_in (reel_at x rs) ≡ true)
          → mounted_in (reel_at x (r ∷ rs)) ≡ true
      by true mounted again =
          here (x == r.serial) (sym (ap (λ (n : ℕ). mounted_in (if x == n then Some (f r) else reel_at x rs)) (same_serial r)) ∙ mounted)
      by false mounted again = there (x == r.serial) mounted again

pub unmount_mounts : (s : State) (serial : ℕ) (r : Result (Unit {0}) StoreFault) (new : State) → UnmountStep s serial r new → NoMount s new
unmount_mounts s serial r new event =
    event_mounts _ _ s _ r new (λ x mounted. changed_mounts (with_mounted false) (λ row. refl) (λ row is. absurd (false≢true is)) serial x s.reels mounted) event

-- the steps of a dump
used_mounts : (is : Bool) (serial x : ℕ) (rs : List ReelRow) → mounted_in (reel_at x (with_reel serial (with_used is) rs)) ≡ true → mounted_in (reel_at x rs) ≡ true
used_mounts is serial x rs mounted = changed_mounts (with_used is) (λ row. refl) (λ row same. same) serial x rs mounted

marked_mounts : (d : OpenDump) (x : ℕ) (rs : List ReelRow) → mounted_in (reel_at x (with_reel d.serial (with_used true) (with_reel d.serial (with_shelved (shelved d)) rs))) ≡ true
    → mounted_in (reel_at x rs) ≡ true
marked_mounts d x rs mounted =
    changed_mounts (with_shelved (shelved d)) (λ row. refl) (λ row same. same) d.serial x rs (used_mounts true d.serial x (with_reel d.serial (with_shelved (shelved d)) rs) mounted)

cut_mounts : (s new : State) (d : OpenDump) → UsedByCut d (down s) new → NoMount s new
cut_mounts s new d (inl is) = no_mount_of s _ new is (λ serial mounted. mounted)
cut_mounts s new d (inr (z, inl is)) = no_mount_of s _ new is (λ x mounted. used_mounts true d.serial x s.reels mounted)
cut_mounts s new d (inr (z, inr is)) = no_mount_of s _ new is (λ x mounted. used_mounts false d.serial x s.reels mounted)

pub dump_mounts : (s : State) (k : Holding) (d : OpenDump) (o : Outcome) (r : Result DumpStepped StoreFault) (new : State) → DumpStep s k d o r new → NoMount s new
dump_mounts s k d o (Ok Going) new (more, cut, read, is) = no_mount_of s _ new is (λ x mounted. used_mounts true d.serial x s.reels mounted)
dump_mounts s k d o (Ok (Completed n)) new (last, cut, number, is) = no_mount_of s _ new is (λ x mounted. marked_mounts d x s.reels mounted)
dump_mounts s k d o (Err DiscReadFault) new (read, content, is) = no_mount_of s _ new is (λ x mounted. mounted)
dump_mounts s k d o (Err Stopped) new (cut, inl used) = cut_mounts s new d used
dump_mounts s k d o (Err Stopped) new (cut, inr (last, inl is)) = no_mount_of s _ new is (λ x mounted. marked_mounts d x s.reels mounted)
dump_mounts s k d o (Err Stopped) new (cut, inr (last, inr is)) = no_mount_of s _ new is (λ x mounted. marked_mounts d x s.reels mounted)
dump_mounts s k d o (Err fault) new step = absurd step

-- a job's call
module _ (s : State) (k : Holding) (who : List ℕ) (call : StoreCall) where
  after_reels : (until : ℕ) → (after_call s k who call until).reels ≡ s.reels
  after_reels until = by (writes call || brings_now s k who call)
    where
      by : (b : Bool) → (if b then record (commits s (held_after s k who call until)) { open_dump = option_map (touched_by s k who call) s.open_dump } else s).reels ≡ s.reels
      by true = refl
      by false = refl

  pub call_mounts : (o : Outcome) (answer : Result StoreReply StoreFault) (new : State) → CallStep s k who call o answer new → NoMount s new
  call_mounts = call_kept (λ (x : State). NoMount s x) s k who call (λ serial mounted. mounted) (λ serial mounted. mounted) (λ until serial mounted. mounted)
      (λ until. same_reels s (after_call s k who call until) (after_reels until)) (λ until. same_reels s (down (after_call s k who call until)) (after_reels until))

-- a wait is for the version's reel, if that isn't mounted
wait_early : (f : Option StoreFault) (a b : Bool) (reel serial : ℕ) → first_fault ((is_some f, unwrap_or f Stopped) ∷ (a, WaitTape reel) ∷ (b, TapeReadFault) ∷ []) ≡ Some (WaitTape serial)
    → (f ≡ Some (WaitTape serial)) ⊎ ((a ≡ true) × (reel ≡ serial))
wait_early (Some g) a b reel serial e = inl e
wait_early None true b reel serial e = inr (refl, cc)
wait_early None false true reel serial e = absurd (let no : ⊥ = cc in no)
wait_early None false false reel serial e = absurd (let no : ⊥ = cc in no)

late_waits : {P : Type 0} (a b c : Bool) (n r serial : ℕ) → first_fault ((a, DiscFull n r) ∷ (b, DiscReadFault) ∷ (c, Stopped) ∷ []) ≡ Some (WaitTape serial) → P
late_waits true b c n r serial e = absurd (let no : ⊥ = cc in no)
late_waits false true c n r serial e = absurd (let no : ⊥ = cc in no)
late_waits false false true n r serial e = absurd (let no : ⊥ = cc in no)
late_waits false false false n r serial e = absurd (let no : ⊥ = cc in no)

offline_unmounted : (off mounted : Bool) → (off && not mounted) ≡ true → mounted ≡ false
offline_unmounted true true e = absurd (false≢true e)
offline_unmounted true false e = refl
offline_unmounted false mounted e = absurd (false≢true e)

is_left : (a b : Bool) → (a && b) ≡ true → a ≡ true
is_left true b e = refl
is_left false b e = absurd (false≢true e)

not_ok : {P : Type 0} (fault : StoreFault) (reply : StoreReply) → (let one : Result StoreReply StoreFault = Err fault in one ≡ Ok reply) → P
not_ok fault reply e = absurd (let no : ⊥ = cc in no)

-- a call that waits is of a version that isn't on the disc
pub wait_offline : (s : State) (k : Holding) (who : List ℕ) (call : StoreCall) (o : Outcome) (serial : ℕ) (new : State) → CallStep s k who call o (Err (WaitTape serial)) new → is_offline s k who call ≡ true
wait_offline s k who call o serial new step = by_early (refused (λ g. new ≡ s) (early s k who call o) (WaitTape serial) step)
  where
    by_late : (plan : Planned s k who call o (Err (WaitTape serial)) new) → is_offline s k who call ≡ true
    by_late plan = elim (refused (λ g. LeftByRefusal s k who call o plan.until g new) (late s k who call o plan.until) (WaitTape serial) plan.step) [
      | inl none ↦ not_ok (WaitTape serial) (reply_to k.tree who call) none.1.0
      | inr some ↦ late_waits _ _ _ _ _ serial some.0
    ]

    offline : ((fault_of k.tree who call ≡ Some (WaitTape serial)) ⊎ (((is_offline s k who call && not (is_mounted s (reel_of s k who call))) ≡ true) × (reel_of s k who call ≡ serial))) → is_offline s k who call ≡ true
    offline (inl plain) = absurd (false≢true (own_fault k.tree who call (WaitTape serial) (WaitTape serial) (sym plain) refl))
    offline (inr (off, reel)) = is_left (is_offline s k who call) (not (is_mounted s (reel_of s k who call))) off

    by_early : ((early s k who call o ≡ None) × Planned s k who call o (Err (WaitTape serial)) new) ⊎ ((early s k who call o ≡ Some (WaitTape serial)) × (new ≡ s)) → is_offline s k who call ≡ true
    by_early (inl (none, plan)) = by_late plan
    by_early (inr (some, is)) = offline (wait_early (fault_of k.tree who call) (is_offline s k who call && not (is_mounted s (reel_of s k who call))) (is_tape_read o && is_offline s k who call) (reel_of s k who call) serial some)

pub wait_unmounted : (s : State) (k : Holding) (who : List ℕ) (call : StoreCall) (o : Outcome) (serial : ℕ) (new : State) → CallStep s k who call o (Err (WaitTape serial)) new → is_mounted new serial ≡ false
wait_unmounted s k who call o serial new step = by_early (refused (λ g. new ≡ s) (early s k who call o) (WaitTape serial) step)
  where
    by_late : (plan : Planned s k who call o (Err (WaitTape serial)) new) → is_mounted new serial ≡ false
    by_late plan = elim (refused (λ g. LeftByRefusal s k who call o plan.until g new) (late s k who call o plan.until) (WaitTape serial) plan.step) [
      | inl none ↦ not_ok (WaitTape serial) (reply_to k.tree who call) none.1.0
      | inr some ↦ late_waits _ _ _ _ _ serial some.0
    ]

    unmounted : new ≡ s → ((fault_of k.tree who call ≡ Some (WaitTape serial)) ⊎ (((is_offline s k who call && not (is_mounted s (reel_of s k who call))) ≡ true) × (reel_of s k who call ≡ serial))) → is_mounted new serial ≡ false
    unmounted is (inl plain) = absurd (false≢true (own_fault k.tree who call (WaitTape serial) (WaitTape serial) (sym plain) refl))
    unmounted is (inr (off, reel)) =
        ap (λ (x : State). is_mounted x serial) is ∙ ap (is_mounted s) (sym reel) ∙ offline_unmounted (is_offline s k who call) (is_mounted s (reel_of s k who call)) off

    by_early : ((early s k who call o ≡ None) × Planned s k who call o (Err (WaitTape serial)) new) ⊎ ((early s k who call o ≡ Some (WaitTape serial)) × (new ≡ s)) → is_mounted new serial ≡ false
    by_early (inl (none, plan)) = by_late plan
    by_early (inr (some, is)) = unmounted is (wait_early (fault_of k.tree who call) (is_offline s k who call && not (is_mounted s (reel_of s k who call))) (is_tape_read o && is_offline s k who call) (reel_of s k who call) serial some)
