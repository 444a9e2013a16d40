-- How a store comes up: the state is down, and the disc represents something or nothing.
use Rattle.std.specs.Prelude.{◌≡◌, ℕ, ◌==◌, Bool, true, false, not, ◌&&◌, List, [], ◌∷◌, map, Option, Some, None, MatchOption, Result, Err, option_map, find, is_some, if◌then◌else◌}
use Rattle.std.specs.List.{list_all}
use Rattle.std.specs.FinMap.{empty, get, entries, from_sorted}
use Rattle.g_entry.specs.declared.file_rec.TapeCopy.{TapeCopy}
use Rattle.g_entry.specs.declared.head.Intent.{Intent}
use Rattle.g_plain.specs.declared.faults.StoreFault.{StoreFault}
use Rattle.g_plain.specs.declared.faults.StoreFault.TheVariants.{RackNotEmpty, RackNotMounted, MountFirst, NoFilestore, NoDump, LostDirectory, LostCopy, TapeReadFault, DiscReadFault, Stopped}
use Rattle.g_plain.specs.PlainTree.{formatted}
use Rattle.g_plain.specs.PlainStep.{first_fault}
use Rattle.g_store_model.specs.State.{State, Holding, Dumped, Shelved, ReelRow, Place, reel_at, first_reel, is_mounted}
use Rattle.g_store_model.specs.CallStep.{Outcome, DiscRead, is_disc_read, is_tape_read, is_cut}
use Rattle.g_store_model.specs.DumpSteps.{Event}

-- A check with the fault for this serial, which holds if there is one.
abbrev pub fault_from : (ℕ → StoreFault) → Option ℕ → Bool × StoreFault
fault_from fault None = (false, Stopped)
fault_from fault (Some serial) = (true, fault serial)

-- The store is up, with only what the disc represents in memory.
abbrev pub coming_up : State → Holding → State
coming_up s k = record s { up = true; holding = Some (record k { kept = empty }); open_dump = None }

-- FORMAT creates a new filestore, whatever the disc held. Every reel must be empty.
abbrev pub FormatStep : State → Outcome → Result (Unit {0}) StoreFault → State → Type 0
FormatStep s o answer new = Event
    (first_fault (fault_from RackNotEmpty (first_reel (λ r. r.used) s.reels) ∷ (is_disc_read o, DiscReadFault) ∷ (is_cut o, Stopped) ∷ []))
    tt s (coming_up s (record { tree = formatted; places = empty; last = 0; intent = None; kept = empty })) answer new

-- The serial of the intent's reel, if that isn't mounted.
abbrev pub unmounted_reel : State → Option Intent → Option ℕ
unmounted_reel s None = None
unmounted_reel s (Some i) = if is_mounted s i.serial then None else Some i.serial

-- The dump is the one that the intent names.
abbrev pub is_intended : Intent → Shelved → Bool
is_intended i d = (d.place == i.place) && (d.number == i.number)

-- The reel has the dump that the intent names.
abbrev pub stands_on : Intent → Option ReelRow → Bool
stands_on i None = false
stands_on i (Some r) = is_some (find (is_intended i) r.dumps)

-- The dump that the disc's intent names is completed.
abbrev pub is_completed : State → Option Intent → Bool
is_completed s None = false
is_completed s (Some i) = stands_on i (reel_at i.serial s.reels)

-- The version gets the copy that the dump's own records name, if they name one.
abbrev pub other_copy : Option TapeCopy → Place → Place
other_copy None p = p
other_copy (Some copy) p = record p { copy = Some copy }

-- What the store holds after a dump was adopted: current versions get the copies that its own records name, it is the last dump,
-- and there is no intent. (If disc and rack belong together, the dump of greatest number is the one that the intent names.)
abbrev pub adopted : Option Dumped → Holding → Holding
adopted None k = k
adopted (Some d) k = record k {
  places = from_sorted (map (λ e. (e.0, other_copy (get d.own e.0) e.1)) (entries k.places));
  last = d.number;
  intent = None;
}

-- The dump that START adopts, if it adopts one.
abbrev pub dump_adopted : State → Holding → Option Dumped
dump_adopted s k = if is_completed s k.intent then s.dumped else None

-- Why START is refused, in the order of the checks.
abbrev pub start_refuses : State → Holding → Outcome → Option StoreFault
start_refuses s k o = first_fault (
    fault_from MountFirst (unmounted_reel s k.intent)
    ∷ (is_tape_read o, TapeReadFault)
    ∷ (is_cut o && is_completed s k.intent, Stopped)
    ∷ [])

-- START brings the store up with what the disc holds. If the intent's reel has the dump that the intent names, that dump is adopted,
-- and its number is the reply; otherwise the reply has no number, and the intent stays on the disc until the next commit.
abbrev pub Starts : State → Option Holding → Outcome → Result (Option ℕ) StoreFault → State → Type 0
Starts s k DiscRead answer new = (answer ≡ Err DiscReadFault) × (new ≡ s)
Starts s None o answer new = (answer ≡ Err NoFilestore) × (new ≡ s)
Starts s (Some k) o answer new =
    Event (start_refuses s k o) (option_map (λ d. d.number) (dump_adopted s k)) s (coming_up s (adopted (dump_adopted s k) k)) answer new

-- The step of START.
abbrev pub StartStep : State → Outcome → Result (Option ℕ) StoreFault → State → Type 0
StartStep s o answer new = Starts s s.holding o answer new

-- The reel has no completed dump.
abbrev pub has_none : ReelRow → Bool
has_none r = is_none_of r.dumps
  where
    is_none_of : List Shelved → Bool
    is_none_of [] = true
    is_none_of (d ∷ ds) = false

-- What the disc holds after the dump was restored.
abbrev pub restored : Dumped → Holding
restored d = record { tree = d.tree; places = d.places; last = d.number; intent = None; kept = empty }

-- The answer is the loss of a directory or of a copy. A state doesn't determine which one, since it has no dumps:
-- `NamesLost` of g_restore states it for the reels.
abbrev pub IsLost : Result ℕ StoreFault → Type 0
IsLost (Err (LostDirectory user)) = Unit {0}
IsLost (Err (LostCopy full serial)) = Unit {0}
IsLost answer = ⊥

-- The refusals of RESTORE before the dump of greatest number is read, in their order.
abbrev pub restore_early : State → Outcome → Option StoreFault
restore_early s o = first_fault (
    fault_from RackNotMounted (first_reel (λ r. not r.mounted) s.reels)
    ∷ (is_tape_read o, TapeReadFault)
    ∷ (list_all has_none s.reels, NoDump)
    ∷ [])

-- The refusals of RESTORE after that dump was read.
abbrev pub restore_late : Outcome → Option StoreFault
restore_late o = first_fault ((is_disc_read o, DiscReadFault) ∷ (is_cut o, Stopped) ∷ [])

-- If that dump gives no tree, the answer names what is lost. That never happens if disc and rack belong together.
abbrev pub Restores : State → Option Dumped → Outcome → Result ℕ StoreFault → State → Type 0
Restores s None o answer new = IsLost answer × (new ≡ s)
Restores s (Some d) o answer new = Event (restore_late o) d.number s (coming_up s (restored d)) answer new

-- General RESTORE brings the store up with the tree of the dump of greatest number, whatever the disc held.
abbrev pub RestoreStep : State → Outcome → Result ℕ StoreFault → State → Type 0
RestoreStep s o answer new = MatchOption (restore_early s o) (Restores s s.dumped o answer new) (λ fault. (answer ≡ Err fault) × (new ≡ s))
