-- The operator's events, with refusals as options.
-- serves: lib
use Rattle.std.proofs.Common.{◌≡◌, ℕ, ◌+◌, ◌-◌, ◌^◌, ◌==◌, Bool, true, false, List, [], ◌∷◌, ◌++◌, map, Option, Some, None, refl, sym, ap, subst, inl, inr}
use Rattle.std.specs.Prelude.{◌⊎◌, ◌↔◌, ◌||◌, nat_lt, not, is_none, Result, Err, MatchOption, option_map, is_some, if◌then◌else◌}
use Rattle.std.specs.List.{AllByRecursion, list_all}
use Rattle.g_plain.specs.declared.faults.StoreFault.{StoreFault}
use Rattle.g_plain.specs.declared.faults.StoreFault.TheVariants.{CountersSpent, DiscReadFault, DumpOpen, MountFirst, NoDump, NoFile, NoTape, NoUser, NotDumped, NotMounted, Offline, RackNotEmpty, RackNotMounted, Stopped, TapeBusy, TapeFull, TapeReadFault}
use Rattle.std.specs.FinMap.{empty}
use Rattle.g_plain.specs.PlainTree.{formatted, has_file, has_user}
use Rattle.g_plain.specs.PlainStep.{Checks, first_fault}
use Rattle.g_store_model.specs.State.{Dumped, Holding, State, first_reel, is_mounted, lacks, place_at, with_online, with_reel}
use Rattle.g_store_model.specs.CallStep.{Cut, DiscRead, Outcome, Plain, TapeRead, commits, down, is_cut, is_disc_read, is_tape_read, stamp_of}
use Rattle.g_store_model.specs.DumpSteps.{Event, OpenStep, dump_needs, is_busy, open_number, opening, tape_room, with_mounted}
use Rattle.g_store_model.specs.Rising.{RestoreStep, Restores, Starts, adopted, coming_up, dump_adopted, fault_from, has_none, is_completed, restore_early, restored, unmounted_reel}
use Rattle.g_laws_model.specs.Events.{DoesOpening, DoesRestore, DoesStart, EventsAreSimple}
use Rattle.g_laws_model.specs.Refusals.{Goes, first_of, or_else, when}

-- no check but that of a cut answers Stopped
abbrev is_stopped : StoreFault → Bool
is_stopped Stopped = true
is_stopped fault = false

abbrev AreOther : Checks → Type 0
AreOther checks = AllByRecursion (λ c. is_stopped c.1 ≡ false) checks

abbrev options : Checks → List (Option StoreFault)
options checks = map (λ c. when c.0 c.1) checks

module _ {A : Type 0} (reply : A) (s after : State) (answer : Result A StoreFault) (new : State) where
  refused : (cut : Bool) (f : StoreFault) → is_stopped f ≡ false → Event (Some f) reply s after answer new ↔ Goes (Some f) cut reply s [] after answer new
  refused cut Stopped other = absurd (let no : ⊥ = cc in no)
  refused cut f other = ((λ x. x), (λ x. x))

  left_to : ((new ≡ down s) ⊎ (new ≡ down after)) → (new ≡ down s) ⊎ ((new ≡ down after) ⊎ ⊥)
  left_to (inl e) = inl e
  left_to (inr e) = inr (inl e)

  left_from : ((new ≡ down s) ⊎ ((new ≡ down after) ⊎ ⊥)) → (new ≡ down s) ⊎ (new ≡ down after)
  left_from (inl e) = inl e
  left_from (inr (inl e)) = inr e
  left_from (inr (inr none)) = absurd none

  cut_only : (cut : Bool) → Event (first_fault ((cut, Stopped) ∷ [])) reply s after answer new ↔ Goes None cut reply s [] after answer new
  cut_only true = ((λ x. (x.0, left_to x.1)), (λ x. (x.0, left_from x.1)))
  cut_only false = ((λ x. x), (λ x. x))

  with_cut : (cut : Bool) (checks : Checks) → AreOther checks → Event (first_fault (checks ++ (cut, Stopped) ∷ [])) reply s after answer new ↔ Goes (first_of (options checks)) cut reply s [] after answer new
  with_cut cut [] other = cut_only cut
  with_cut cut (c ∷ checks) other =
      elim c.0 as (λ b. Event (if b then Some c.1 else first_fault (checks ++ (cut, Stopped) ∷ [])) reply s after answer new ↔ Goes (or_else (when b c.1) (first_of (options checks))) cut reply s [] after answer new)
      [ true ↦ refused cut c.1 other.0 | false ↦ with_cut cut checks other.1 ]

  uncut : (checks : Checks) → AreOther checks → Event (first_fault checks) reply s after answer new ↔ Goes (first_of (options checks)) false reply s [] after answer new
  uncut [] other = ((λ x. x), (λ x. x))
  uncut (c ∷ checks) other =
      elim c.0 as (λ b. Event (if b then Some c.1 else first_fault checks) reply s after answer new ↔ Goes (or_else (when b c.1) (first_of (options checks))) false reply s [] after answer new)
      [ true ↦ refused false c.1 other.0 | false ↦ uncut checks other.1 ]

  -- the first check names a reel
  of_reel : (cut : Bool) (fault : ℕ → StoreFault) → ((n : ℕ) → is_stopped (fault n) ≡ false) → (reel : Option ℕ) (checks : Checks) → AreOther checks
      → Event (first_fault (fault_from fault reel ∷ (checks ++ (cut, Stopped) ∷ []))) reply s after answer new ↔ Goes (first_of (option_map fault reel ∷ options checks)) cut reply s [] after answer new
  of_reel cut fault other None checks rest = with_cut cut checks rest
  of_reel cut fault other (Some n) checks rest = refused cut (fault n) (other n)

-- START
start_ways : (s : State) (holding : Option Holding) (o : Outcome) (answer : Result (Option ℕ) StoreFault) (new : State) → Starts s holding o answer new ↔ DoesStart s holding o answer new
start_ways s None Plain answer new = ((λ x. x), (λ x. x))
start_ways s None DiscRead answer new = ((λ x. x), (λ x. x))
start_ways s None TapeRead answer new = ((λ x. x), (λ x. x))
start_ways s None Cut answer new = ((λ x. x), (λ x. x))
start_ways s (Some k) DiscRead answer new = ((λ x. x), (λ x. x))
start_ways s (Some k) Plain answer new =
    of_reel (option_map (λ d. d.number) (dump_adopted s k)) s (coming_up s (adopted (dump_adopted s k) k)) answer new false MountFirst (λ n. refl) (unmounted_reel s k.intent)
    ((false, TapeReadFault) ∷ []) (refl, tt)
start_ways s (Some k) TapeRead answer new =
    of_reel (option_map (λ d. d.number) (dump_adopted s k)) s (coming_up s (adopted (dump_adopted s k) k)) answer new false MountFirst (λ n. refl) (unmounted_reel s k.intent)
    ((true, TapeReadFault) ∷ []) (refl, tt)
start_ways s (Some k) Cut answer new =
    of_reel (option_map (λ d. d.number) (dump_adopted s k)) s (coming_up s (adopted (dump_adopted s k) k)) answer new (is_completed s k.intent) MountFirst (λ n. refl) (unmounted_reel s k.intent)
    ((false, TapeReadFault) ∷ []) (refl, tt)

-- RESTORE
restore_ways : (s : State) (d : Dumped) (o : Outcome) (answer : Result ℕ StoreFault) (new : State) (reel : Option ℕ) (tape none : Bool)
    → MatchOption (first_fault (fault_from RackNotMounted reel ∷ (tape, TapeReadFault) ∷ (none, NoDump) ∷ [])) (Restores s (Some d) o answer new) (λ fault. (answer ≡ Err fault) × (new ≡ s))
    ↔ Goes (first_of (option_map RackNotMounted reel ∷ when tape TapeReadFault ∷ when none NoDump ∷ when (is_disc_read o) DiscReadFault ∷ [])) (is_cut o) d.number s [] (coming_up s (restored d)) answer new
restore_ways s d o answer new (Some n) tape none = ((λ x. x), (λ x. x))
restore_ways s d o answer new None true none = ((λ x. x), (λ x. x))
restore_ways s d o answer new None false true = ((λ x. x), (λ x. x))
restore_ways s d o answer new None false false = with_cut d.number s (coming_up s (restored d)) answer new (is_cut o) ((is_disc_read o, DiscReadFault) ∷ []) (refl, tt)

restores : (s : State) (d : Dumped) (o : Outcome) (answer : Result ℕ StoreFault) (new : State) → s.dumped ≡ Some d → RestoreStep s o answer new ↔ DoesRestore s d o answer new
restores s d o answer new is =
    subst (λ (x : Option Dumped). MatchOption (restore_early s o) (Restores s x o answer new) (λ fault. (answer ≡ Err fault) × (new ≡ s)) ↔ DoesRestore s d o answer new) (sym is)
    (restore_ways s d o answer new (first_reel (λ r. not r.mounted) s.reels) (is_tape_read o) (list_all has_none s.reels))

-- AN OPENING
none_to : (cut : Bool) (checks : Checks) → first_fault (checks ++ (cut, Stopped) ∷ []) ≡ None → (first_of (options checks) ≡ None) × (cut ≡ false)
none_to true [] e = absurd (let no : ⊥ = cc in no)
none_to false [] e = (refl, refl)
none_to cut (c ∷ checks) e = by c.0 e (λ is. none_to cut checks is)
  where
    by : (b : Bool) → (if b then Some c.1 else first_fault (checks ++ (cut, Stopped) ∷ [])) ≡ None
        → (first_fault (checks ++ (cut, Stopped) ∷ []) ≡ None → (first_of (options checks) ≡ None) × (cut ≡ false)) → (or_else (when b c.1) (first_of (options checks)) ≡ None) × (cut ≡ false)
    by true is more = absurd (let no : ⊥ = cc in no)
    by false is more = more is

none_from : (cut : Bool) (checks : Checks) → first_of (options checks) ≡ None → cut ≡ false → first_fault (checks ++ (cut, Stopped) ∷ []) ≡ None
none_from cut [] e no_cut = ap (λ (b : Bool). first_fault ((b, Stopped) ∷ [])) no_cut
none_from cut (c ∷ checks) e no_cut = by c.0 e (λ is. none_from cut checks is no_cut)
  where
    by : (b : Bool) → or_else (when b c.1) (first_of (options checks)) ≡ None → (first_of (options checks) ≡ None → first_fault (checks ++ (cut, Stopped) ∷ []) ≡ None)
        → (if b then Some c.1 else first_fault (checks ++ (cut, Stopped) ∷ [])) ≡ None
    by true is more = absurd (let no : ⊥ = cc in no)
    by false is more = more is

module _ (s : State) (k : Holding) (serial : ℕ) (o : Outcome) (answer : Result ℕ StoreFault) (new : State) where
  abbrev opening_checks : Checks
  opening_checks =
      (lacks s serial, NoTape)
      ∷ (not (is_mounted s serial), NotMounted)
      ∷ (is_some s.open_dump, DumpOpen (open_number s.open_dump))
      ∷ (k.last == 2 ^ 62 - 1, CountersSpent)
      ∷ (is_tape_read o, TapeReadFault)
      ∷ (nat_lt (tape_room s serial) (dump_needs k), TapeFull (dump_needs k) (tape_room s serial))
      ∷ []

  abbrev other_checks : AreOther opening_checks
  other_checks = (refl, (refl, (refl, (refl, (refl, (refl, tt))))))

  opening_ways : OpenStep s k serial o answer new ↔ DoesOpening s k serial o answer new
  opening_ways = (
    (λ step. (step.0, (λ none no_cut. step.1 (none_from (is_cut o) opening_checks none no_cut)), (with_cut (k.last + 1) s (opening s k serial step.0) answer new (is_cut o) opening_checks other_checks).0 step.2)),
    (λ does. (does.0, (λ none. let parts = none_to (is_cut o) opening_checks none in does.1 parts.0 parts.1), (with_cut (k.last + 1) s (opening s k serial does.0) answer new (is_cut o) opening_checks other_checks).1 does.2)),
  )

-- A MOUNT
mount_ways : (s : State) (serial : ℕ) (answer : Result (Unit {0}) StoreFault) (new : State) (lacking : Bool)
    → Event (first_fault ((lacking, NoTape) ∷ [])) tt s (record s { reels = with_reel serial (with_mounted true) s.reels }) answer new
    ↔ Goes (when lacking NoTape) false tt s [] (record s { reels = with_reel serial (with_mounted true) s.reels }) answer new
mount_ways s serial answer new true = ((λ x. x), (λ x. x))
mount_ways s serial answer new false = ((λ x. x), (λ x. x))

-- PROCESS
process_same : (lacking : Bool) (reel : Option ℕ) (is_open : Bool) (n : ℕ) (spent : Bool)
    → first_fault ((lacking, NoTape) ∷ fault_from RackNotMounted reel ∷ (is_open, DumpOpen n) ∷ (spent, CountersSpent) ∷ [])
    ≡ first_of (when lacking NoTape ∷ option_map RackNotMounted reel ∷ when is_open (DumpOpen n) ∷ when spent CountersSpent ∷ [])
process_same true reel is_open n spent = refl
process_same false (Some serial) is_open n spent = refl
process_same false None true n spent = refl
process_same false None false n true = refl
process_same false None false n false = refl

pub events_are_simple : EventsAreSimple
events_are_simple = record {
  format = λ s o answer new. of_reel tt s (coming_up s (record { tree = formatted; places = empty; last = 0; intent = None; kept = empty })) answer new (is_cut o) RackNotEmpty (λ n. refl) (first_reel (λ r. r.used) s.reels) ((is_disc_read o, DiscReadFault) ∷ []) (refl, tt);
  start = λ s o answer new. start_ways s s.holding o answer new;
  restore = restores;
  opening = opening_ways;
  migrate = λ s k user full o answer new.
      let place = place_at k.places (stamp_of k.tree full) in
      with_cut full s (commits s (record k { places = with_online false (stamp_of k.tree full) k.places })) answer new (is_cut o)
      ((is_none user || not (has_user k.tree full.user), NoUser) ∷ (not (has_file k.tree full), NoFile) ∷ (not place.online, Offline) ∷ (is_none place.copy, NotDumped) ∷ [])
      (refl, (refl, (refl, (refl, tt))));
  processing = λ s k serial. process_same (lacks s serial) (first_reel (λ r. not r.mounted) s.reels) (is_some s.open_dump) (open_number s.open_dump) (k.last == 2 ^ 62 - 1);
  mount = λ s serial answer new. mount_ways s serial answer new (lacks s serial);
  unmount = λ s serial answer new.
      uncut tt s (record s { reels = with_reel serial (with_mounted false) s.reels }) answer new
      ((lacks s serial, NoTape) ∷ (not (is_mounted s serial), NotMounted) ∷ (is_busy serial s.open_dump, TapeBusy) ∷ []) (refl, (refl, (refl, tt)));
}
