-- The operator's events of one commit, defined in the same way: each refusal as an option, and a failed write
-- separately.
use Rattle.std.specs.Prelude.{◌≡◌, ℕ, ◌+◌, ◌-◌, ◌^◌, ◌==◌, ◌↔◌, true, false, not, ◌&&◌, ◌||◌, nat_lt, List, [], ◌∷◌, Option, Some, None, Result, option_map, is_none, is_some}
use Rattle.std.specs.List.{list_all}
use Rattle.std.specs.Ordering.{nat_cmp}
use Rattle.std.specs.FinMap.{FinMap, empty}
use Rattle.g_name.specs.declared.full.Full.{Full}
use Rattle.g_plain.specs.declared.faults.StoreFault.{StoreFault}
use Rattle.g_plain.specs.declared.faults.StoreFault.TheVariants.{CountersSpent, DiscReadFault, DumpOpen, MountFirst, NoDump, NoFile, NoFilestore, NoTape, NoUser, NotDumped, NotMounted, Offline, RackNotEmpty, RackNotMounted, TapeBusy, TapeFull, TapeReadFault}
use Rattle.g_plain.specs.PlainTree.{formatted, has_file, has_user}
use Rattle.g_store_model.specs.State.{Dumped, Holding, Place, State, end_of, first_reel, is_mounted, lacks, place_at, with_online, with_reel}
use Rattle.g_store_model.specs.CallStep.{Outcome, commits, is_cut, is_disc_read, is_tape_read, stamp_of}
use Rattle.g_store_model.specs.DumpSteps.{AreNoted, MigrateStep, MountStep, OpenStep, UnmountStep, dump_needs, is_busy, open_number, opening, tape_room, waiting, waiting_blocks, with_mounted}
use Rattle.g_store_model.specs.Process.{process_refuses}
use Rattle.g_store_model.specs.Rising.{FormatStep, RestoreStep, StartStep, adopted, coming_up, dump_adopted, has_none, is_completed, restored, unmounted_reel}
use Rattle.g_laws_model.specs.Refusals.{Goes, first_of, when}

-- The effect of FORMAT.
abbrev pub DoesFormat : State → Outcome → Result (Unit {0}) StoreFault → State → Type 0
DoesFormat s o answer new =
    Goes (first_of (option_map RackNotEmpty (first_reel (λ r. r.used) s.reels) ∷ when (is_disc_read o) DiscReadFault ∷ [])) (is_cut o) tt s []
    (coming_up s (record { tree = formatted; places = empty; last = 0; intent = None; kept = empty })) answer new

-- The effect of START, on what the disc holds.
abbrev pub DoesStart : State → Option Holding → Outcome → Result (Option ℕ) StoreFault → State → Type 0
DoesStart s None o answer new = Goes (first_of (when (is_disc_read o) DiscReadFault ∷ Some NoFilestore ∷ [])) (is_cut o) None s [] s answer new
DoesStart s (Some k) o answer new =
    Goes (first_of (when (is_disc_read o) DiscReadFault ∷ option_map MountFirst (unmounted_reel s k.intent) ∷ when (is_tape_read o) TapeReadFault ∷ []))
    (is_cut o && is_completed s k.intent) (option_map (λ d. d.number) (dump_adopted s k)) s [] (coming_up s (adopted (dump_adopted s k) k)) answer new

-- From the reels, if their last dump gives a tree.
abbrev pub DoesRestore : State → Dumped → Outcome → Result ℕ StoreFault → State → Type 0
DoesRestore s d o answer new =
    Goes (first_of (
    option_map RackNotMounted (first_reel (λ r. not r.mounted) s.reels)
    ∷ when (is_tape_read o) TapeReadFault
    ∷ when (list_all has_none s.reels) NoDump
    ∷ when (is_disc_read o) DiscReadFault
    ∷ []))
    (is_cut o) d.number s [] (coming_up s (restored d)) answer new

-- Why opening a dump is refused.
abbrev pub opening_refusal : State → Holding → ℕ → Outcome → Option StoreFault
opening_refusal s k serial o = first_of (
    when (lacks s serial) NoTape
    ∷ when (not (is_mounted s serial)) NotMounted
    ∷ when (is_some s.open_dump) (DumpOpen (open_number s.open_dump))
    ∷ when (k.last == 2 ^ 62 - 1) CountersSpent
    ∷ when (is_tape_read o) TapeReadFault
    ∷ when (nat_lt (tape_room s serial) (dump_needs k)) (TapeFull (dump_needs k) (tape_room s serial))
    ∷ [])

-- The effect of opening a dump.
abbrev pub DoesOpening : State → Holding → ℕ → Outcome → Result ℕ StoreFault → State → Type 0
DoesOpening s k serial o answer new =
    let ends = end_of s serial + dump_needs k - 1 in
    (places : FinMap nat_cmp Place)
    × (opening_refusal s k serial o ≡ None → is_cut o ≡ false → AreNoted serial (ends - waiting_blocks (waiting k)) ends k places)
    × Goes (opening_refusal s k serial o) (is_cut o) (k.last + 1) s [] (opening s k serial places) answer new

-- The effect of migrating a file.
abbrev pub DoesMigrate : State → Holding → Option (List ℕ) → Full → Outcome → Result Full StoreFault → State → Type 0
DoesMigrate s k user full o answer new =
    let place = place_at k.places (stamp_of k.tree full) in
    Goes (first_of (
    when (is_none user || not (has_user k.tree full.user)) NoUser
    ∷ when (not (has_file k.tree full)) NoFile
    ∷ when (not place.online) Offline
    ∷ when (is_none place.copy) NotDumped
    ∷ []))
    (is_cut o) full s [] (commits s (record k { places = with_online false (stamp_of k.tree full) k.places })) answer new

-- A mount and an unmount write nothing, so no write can fail.
abbrev pub DoesMount : State → ℕ → Result (Unit {0}) StoreFault → State → Type 0
DoesMount s serial answer new = Goes (when (lacks s serial) NoTape) false tt s [] (record s { reels = with_reel serial (with_mounted true) s.reels }) answer new

-- The effect of an unmount.
abbrev pub DoesUnmount : State → ℕ → Result (Unit {0}) StoreFault → State → Type 0
DoesUnmount s serial answer new =
    Goes (first_of (when (lacks s serial) NoTape ∷ when (not (is_mounted s serial)) NotMounted ∷ when (is_busy serial s.open_dump) TapeBusy ∷ []))
    false tt s [] (record s { reels = with_reel serial (with_mounted false) s.reels }) answer new

-- The refusals of PROCESS before the reels are read.
abbrev pub process_refusal : State → Holding → ℕ → Option StoreFault
process_refusal s k serial = first_of (
    when (lacks s serial) NoTape
    ∷ option_map RackNotMounted (first_reel (λ r. not r.mounted) s.reels)
    ∷ when (is_some s.open_dump) (DumpOpen (open_number s.open_dump))
    ∷ when (k.last == 2 ^ 62 - 1) CountersSpent
    ∷ [])

-- The steps of these events, and these definitions of them, are equivalent.
pub record EventsAreSimple : Type 0 where
  pub format : (s : State) (o : Outcome) (answer : Result (Unit {0}) StoreFault) (new : State) → FormatStep s o answer new ↔ DoesFormat s o answer new
  pub start : (s : State) (o : Outcome) (answer : Result (Option ℕ) StoreFault) (new : State) → StartStep s o answer new ↔ DoesStart s s.holding o answer new
  pub restore : (s : State) (d : Dumped) (o : Outcome) (answer : Result ℕ StoreFault) (new : State) → s.dumped ≡ Some d → RestoreStep s o answer new ↔ DoesRestore s d o answer new
  pub opening : (s : State) (k : Holding) (serial : ℕ) (o : Outcome) (answer : Result ℕ StoreFault) (new : State) → OpenStep s k serial o answer new ↔ DoesOpening s k serial o answer new
  pub migrate : (s : State) (k : Holding) (user : Option (List ℕ)) (full : Full) (o : Outcome) (answer : Result Full StoreFault) (new : State)
      → MigrateStep s k user full o answer new ↔ DoesMigrate s k user full o answer new
  pub processing : (s : State) (k : Holding) (serial : ℕ) → process_refuses s k serial ≡ process_refusal s k serial
  pub mount : (s : State) (serial : ℕ) (answer : Result (Unit {0}) StoreFault) (new : State) → MountStep s serial answer new ↔ DoesMount s serial answer new
  pub unmount : (s : State) (serial : ℕ) (answer : Result (Unit {0}) StoreFault) (new : State) → UnmountStep s serial answer new ↔ DoesUnmount s serial answer new
