-- What the operator's events answer: no refusal names a file or a user, and what is named has no byte 10.
-- serves: WorldLemmas
use Rattle.std.proofs.Common.{◌≡◌, ◌⊎◌, ◌&&◌, ◌||◌, ◌==◌, ◌-◌, ◌^◌, ℕ, true, false, not, [], ◌∷◌, Option, Some, None, IfSome, is_none, is_some, nat_lt, Result, Ok, Err, MatchOption, refl, sym, ◌∙◌, subst, inl, inr}
use Rattle.std.specs.List.{list_all}
use Rattle.std.proofs.lemmas.Bool.{false≢true}
use Rattle.g_name.specs.declared.full.Full.{Full}
use Rattle.g_name.specs.declared.path.Path.{Path}
use Rattle.g_plain.proofs.StepKept.{all_passed}
use Rattle.g_plain.specs.PlainStep.{Checks}
use Rattle.g_plain.specs.PlainTree.{has_file, has_user, input_name}
use Rattle.g_plain.specs.declared.faults.StoreFault.{StoreFault}
use Rattle.g_plain.specs.declared.faults.StoreFault.TheVariants.{CountersSpent, DiscReadFault, DumpOpen, MountFirst, NoDump, NoFile, NoFilestore, NoTape, NoUser, NotDumped, NotMounted, Offline, RackNotEmpty, RackNotMounted, ReelNotFree, Stopped, TapeBusy, TapeFull, TapeReadFault}
use Rattle.g_store_model.specs.CallStep.{Cut, DiscRead, Outcome, Plain, TapeRead, is_cut, is_disc_read, is_tape_read, stamp_of}
use Rattle.g_store_model.specs.DumpSteps.{DumpStep, Event, MigrateStep, MountStep, OpenStep, Stepped as DumpStepped, UnmountStep, dump_needs, is_busy, migrate_refuses, open_number, open_refuses, tape_room}
use Rattle.g_store_model.specs.Process.{ProcessStep, Processes, process_needs, process_refuses, process_refuses_late}
use Rattle.g_store_model.specs.Rising.{FormatStep, RestoreStep, Restores, StartStep, Starts, fault_from, has_none, is_completed, restore_early, restore_late, start_refuses, unmounted_reel}
use Rattle.g_store_model.specs.State.{Dumped as DumpedTree, Holding, OpenDump, ReelRow, State, capacity_in, end_of, first_reel, is_mounted, lacks, place_at, reel_at}
use Rattle.g_run_model.specs.Laws.{HasDumped}
use Rattle.g_laws_lines.proofs.PrintLemmas.{IsFineFull, IsFinePath, IsNameless}
use Rattle.g_laws_lines.proofs.StateLemmas.{nameless_first, path_full}

-- what an event answers
abbrev pub IsToldAs : {R : Type 0} → (R → Type 0) → Result R StoreFault → Type 0
IsToldAs P (Ok x) = P x
IsToldAs P (Err fault) = IsNameless fault

told_as : {R : Type 0} (P : R → Type 0) (r given : Result R StoreFault) → r ≡ given → IsToldAs P given → IsToldAs P r
told_as P r given is told = subst (IsToldAs P) (sym is) told

event_told : {R : Type 0} (P : R → Type 0) (f : Option StoreFault) (reply : R) (s after : State) (r : Result R StoreFault) (new : State) → P reply → IfSome f IsNameless → Event f reply s after r new → IsToldAs P r
event_told P None reply s after r new told nameless (ok, is) = told_as P r (Ok reply) ok told
event_told P (Some Stopped) reply s after r new told nameless (err, left) = told_as P r (Err Stopped) err tt
event_told P (Some fault) reply s after r new told nameless (err, is) = told_as P r (Err fault) err nameless

from_nameless : (fault : ℕ → StoreFault) (serial : Option ℕ) → ((n : ℕ) → IsNameless (fault n)) → IsNameless (fault_from fault serial).1
from_nameless fault None each = tt
from_nameless fault (Some serial) each = each serial

-- any answer that names nothing
abbrev pub Any : {R : Type 0} → R → Type 0
Any x = Unit {0}

pub format_told : (s : State) (o : Outcome) (r : Result (Unit {0}) StoreFault) (new : State) → FormatStep s o r new → IsToldAs Any r
format_told s o r new event =
    event_told Any _ _ s _ r new tt
    (nameless_first (fault_from RackNotEmpty (first_reel (λ (x : ReelRow). x.used) s.reels) ∷ (is_disc_read o, DiscReadFault) ∷ (is_cut o, Stopped) ∷ [])
    (from_nameless RackNotEmpty (first_reel (λ (x : ReelRow). x.used) s.reels) (λ n. tt), (tt, (tt, tt)))) event

start_nameless : (s : State) (k : Holding) (o : Outcome) → IfSome (start_refuses s k o) IsNameless
start_nameless s k o =
    nameless_first (fault_from MountFirst (unmounted_reel s k.intent) ∷ (is_tape_read o, TapeReadFault) ∷ (is_cut o && is_completed s k.intent, Stopped) ∷ [])
    (from_nameless MountFirst (unmounted_reel s k.intent) (λ n. tt), (tt, (tt, tt)))

starts_told : (s : State) (k : Option Holding) (o : Outcome) (r : Result (Option ℕ) StoreFault) (new : State) → Starts s k o r new → IsToldAs Any r
starts_told s k DiscRead r new (err, is) = told_as Any r (Err DiscReadFault) err tt
starts_told s None Plain r new (err, is) = told_as Any r (Err NoFilestore) err tt
starts_told s None TapeRead r new (err, is) = told_as Any r (Err NoFilestore) err tt
starts_told s None Cut r new (err, is) = told_as Any r (Err NoFilestore) err tt
starts_told s (Some k) Plain r new event = event_told Any (start_refuses s k Plain) _ s _ r new tt (start_nameless s k Plain) event
starts_told s (Some k) TapeRead r new event = event_told Any (start_refuses s k TapeRead) _ s _ r new tt (start_nameless s k TapeRead) event
starts_told s (Some k) Cut r new event = event_told Any (start_refuses s k Cut) _ s _ r new tt (start_nameless s k Cut) event

pub start_told : (s : State) (o : Outcome) (r : Result (Option ℕ) StoreFault) (new : State) → StartStep s o r new → IsToldAs Any r
start_told s o r new step = starts_told s s.holding o r new step

-- RESTORE names nothing as lost, since a tree is dumped if there is a dump
restores_told : (s : State) (d : Option DumpedTree) (o : Outcome) (r : Result ℕ StoreFault) (new : State) → s.dumped ≡ d → list_all has_none s.reels ≡ false → HasDumped s → Restores s d o r new → IsToldAs Any r
restores_told s None o r new has some dumps lost = absurd (false≢true (sym some ∙ dumps has))
restores_told s (Some d) o r new has some dumps event =
    event_told Any (restore_late o) _ s _ r new tt (nameless_first ((is_disc_read o, DiscReadFault) ∷ (is_cut o, Stopped) ∷ []) (tt, (tt, tt))) event

pub restore_told : (s : State) (o : Outcome) (r : Result ℕ StoreFault) (new : State) → HasDumped s → RestoreStep s o r new → IsToldAs Any r
restore_told s o r new dumps step = by (restore_early s o) refl step
  where
    checked : Checks
    checked = fault_from RackNotMounted (first_reel (λ (x : ReelRow). not x.mounted) s.reels) ∷ (is_tape_read o, TapeReadFault) ∷ (list_all has_none s.reels, NoDump) ∷ []

    nameless : IfSome (restore_early s o) IsNameless
    nameless = nameless_first checked (from_nameless RackNotMounted (first_reel (λ (x : ReelRow). not x.mounted) s.reels) (λ n. tt), (tt, (tt, tt)))

    by : (f : Option StoreFault) → restore_early s o ≡ f → MatchOption f (Restores s s.dumped o r new) (λ fault. (r ≡ Err fault) × (new ≡ s)) → IsToldAs Any r
    by None e left = restores_told s s.dumped o r new refl (all_passed checked e).1.1.0 dumps left
    by (Some fault) e (err, is) = told_as Any r (Err fault) err (subst (λ (x : Option StoreFault). IfSome x IsNameless) e nameless)

pub open_told : (s : State) (k : Holding) (serial : ℕ) (o : Outcome) (r : Result ℕ StoreFault) (new : State) → OpenStep s k serial o r new → IsToldAs Any r
open_told s k serial o r new (places, noted, event) =
    event_told Any (open_refuses s k serial o) _ s _ r new tt
    (nameless_first (
    (lacks s serial, NoTape)
    ∷ (not (is_mounted s serial), NotMounted)
    ∷ (is_some s.open_dump, DumpOpen (open_number s.open_dump))
    ∷ (k.last == 2 ^ 62 - 1, CountersSpent)
    ∷ (is_tape_read o, TapeReadFault)
    ∷ (nat_lt (tape_room s serial) (dump_needs k), TapeFull (dump_needs k) (tape_room s serial))
    ∷ (is_cut o, Stopped)
    ∷ []) (tt, (tt, (tt, (tt, (tt, (tt, (tt, tt)))))))) event

pub migrate_told : (s : State) (k : Holding) (path : Path) (o : Outcome) (r : Result Full StoreFault) (new : State) → IsFinePath path → MigrateStep s k path.user (input_name k.tree [] path) o r new → IsToldAs IsFineFull r
migrate_told s k path o r new is event =
    let full = input_name k.tree [] path in
    let place = place_at k.places (stamp_of k.tree full) in
    event_told IsFineFull (migrate_refuses k path.user full o) full s _ r new (path_full [] path 0 refl is)
    (nameless_first (
    (is_none path.user || not (has_user k.tree full.user), NoUser)
    ∷ (not (has_file k.tree full), NoFile)
    ∷ (not place.online, Offline)
    ∷ (is_none place.copy, NotDumped)
    ∷ (is_cut o, Stopped)
    ∷ []) (tt, (tt, (tt, (tt, (tt, tt)))))) event

pub mount_told : (s : State) (serial : ℕ) (r : Result (Unit {0}) StoreFault) (new : State) → MountStep s serial r new → IsToldAs Any r
mount_told s serial r new event = event_told Any _ _ s _ r new tt (nameless_first ((lacks s serial, NoTape) ∷ []) (tt, tt)) event

pub unmount_told : (s : State) (serial : ℕ) (r : Result (Unit {0}) StoreFault) (new : State) → UnmountStep s serial r new → IsToldAs Any r
unmount_told s serial r new event =
    event_told Any _ _ s _ r new tt
    (nameless_first ((lacks s serial, NoTape) ∷ (not (is_mounted s serial), NotMounted) ∷ (is_busy serial s.open_dump, TapeBusy) ∷ []) (tt, (tt, (tt, tt)))) event

-- PROCESS
processes_told : (s : State) (k : Holding) (serial : ℕ) (o : Outcome) (r : Result ℕ StoreFault) (new : State) → Processes s k serial o r new → IsToldAs Any r
processes_told s k serial Plain r new (ok, left) = told_as Any r (Ok _) ok tt
processes_told s k serial DiscRead r new (err, left) = told_as Any r (Err DiscReadFault) err tt
processes_told s k serial TapeRead r new (err, left) = told_as Any r (Err TapeReadFault) err tt
processes_told s k serial Cut r new (err, left) = told_as Any r (Err Stopped) err tt

late_told : (s : State) (k : Holding) (serial : ℕ) (f : Option StoreFault) (o : Outcome) (r : Result ℕ StoreFault) (new : State) → IfSome f IsNameless
    → MatchOption f (Processes s k serial o r new) (λ fault. ((r ≡ Err fault) ⊎ ((o ≡ TapeRead) × (r ≡ Err TapeReadFault))) × (new ≡ s)) → IsToldAs Any r
late_told s k serial None o r new nameless step = processes_told s k serial o r new step
late_told s k serial (Some fault) o r new nameless (inl err, is) = told_as Any r (Err fault) err nameless
late_told s k serial (Some fault) o r new nameless (inr (read, err), is) = told_as Any r (Err TapeReadFault) err tt

pub process_told : (s : State) (k : Holding) (serial : ℕ) (o : Outcome) (r : Result ℕ StoreFault) (new : State) → ProcessStep s k serial o r new → IsToldAs Any r
process_told s k serial o r new step = by (process_refuses s k serial) early step
  where
    reel : Option ℕ
    reel = first_reel (λ (x : ReelRow). not x.mounted) s.reels

    early : IfSome (process_refuses s k serial) IsNameless
    early =
        nameless_first ((lacks s serial, NoTape) ∷ fault_from RackNotMounted reel ∷ (is_some s.open_dump, DumpOpen (open_number s.open_dump)) ∷ (k.last == 2 ^ 62 - 1, CountersSpent) ∷ [])
        (tt, (from_nameless RackNotMounted reel (λ n. tt), (tt, (tt, tt))))

    late : IfSome (process_refuses_late s k serial) IsNameless
    late =
        nameless_first (
        (nat_lt 0 (end_of s serial), ReelNotFree serial)
        ∷ (nat_lt (capacity_in (reel_at serial s.reels)) (process_needs k), TapeFull (process_needs k) (capacity_in (reel_at serial s.reels)))
        ∷ []) (tt, (tt, tt))

    by : (f : Option StoreFault) → IfSome f IsNameless
        → MatchOption f (MatchOption (process_refuses_late s k serial) (Processes s k serial o r new) (λ fault. ((r ≡ Err fault) ⊎ ((o ≡ TapeRead) × (r ≡ Err TapeReadFault))) × (new ≡ s)))
        (λ fault. (r ≡ Err fault) × (new ≡ s)) → IsToldAs Any r
    by None nameless left = late_told s k serial (process_refuses_late s k serial) o r new late left
    by (Some fault) nameless (err, is) = told_as Any r (Err fault) err nameless

-- A STEP of the dump
pub dump_told_as : (s : State) (k : Holding) (d : OpenDump) (o : Outcome) (r : Result DumpStepped StoreFault) (new : State) → DumpStep s k d o r new → IsToldAs Any r
dump_told_as s k d o (Ok stepped) new step = tt
dump_told_as s k d o (Err DiscReadFault) new step = tt
dump_told_as s k d o (Err Stopped) new step = tt
dump_told_as s k d o (Err fault) new step = absurd step
