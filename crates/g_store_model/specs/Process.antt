-- PROCESS writes all living versions to one empty reel, as one dump, and releases the other reels. The store is up and
-- holds k.
use Rattle.std.specs.Prelude.{◌≡◌, ◌≢◌, ◌⊎◌, ℕ, ◌+◌, ◌-◌, ◌^◌, ◌<◌, ◌≤◌, ◌==◌, Bool, true, not, ◌&&◌, nat_lt, nat_le, [], ◌∷◌, map, length, sum_by, Option, Some, None, MatchOption, Result, Ok, Err, is_some, if◌then◌else◌}
use Rattle.std.specs.Ordering.{nat_cmp}
use Rattle.std.specs.FinMap.{FinMap, get, entries, from_entries, len}
use Rattle.g_name.specs.declared.full.Full.{Full}
use Rattle.g_entry.specs.declared.file_rec.TapeCopy.{TapeCopy}
use Rattle.g_plain.specs.declared.faults.StoreFault.{StoreFault}
use Rattle.g_plain.specs.declared.faults.StoreFault.TheVariants.{NoTape, RackNotMounted, DumpOpen, CountersSpent, TapeReadFault, ReelNotFree, TapeFull, DiscReadFault, Stopped}
use Rattle.g_plain.specs.PlainTree.{FileRow}
use Rattle.g_plain.specs.PlainStep.{first_fault}
use Rattle.g_store_model.specs.State.{State, Holding, Dumped, Shelved, ReelRow, Place, place_at, lacks, end_of, capacity_in, reel_at, with_reel, first_reel, blocks_of, is_current}
use Rattle.g_store_model.specs.CallStep.{Outcome, Plain, DiscRead, TapeRead, Cut, down}
use Rattle.g_store_model.specs.DumpSteps.{open_number, with_used, with_shelved}
use Rattle.g_store_model.specs.Rising.{fault_from, has_none}

-- The number of blocks of the new dump: the header, all users, all files, all their blocks, and the mark.
abbrev pub process_needs : Holding → ℕ
process_needs k = 2 + len k.tree.users + len k.tree.files + sum_by (λ e. blocks_of e.1) (entries k.tree.files)

-- The first block of content of the new dump.
abbrev pub process_content : Holding → ℕ
process_content k = 1 + len k.tree.users + len k.tree.files

-- The refusals of PROCESS before the reels are read, in their order.
abbrev pub process_refuses : State → Holding → ℕ → Option StoreFault
process_refuses s k serial = first_fault (
    (lacks s serial, NoTape)
    ∷ fault_from RackNotMounted (first_reel (λ r. not r.mounted) s.reels)
    ∷ (is_some s.open_dump, DumpOpen (open_number s.open_dump))
    ∷ (k.last == 2 ^ 62 - 1, CountersSpent)
    ∷ [])

-- The refusals of PROCESS after the reels were read, in their order.
abbrev pub process_refuses_late : State → Holding → ℕ → Option StoreFault
process_refuses_late s k serial = first_fault (
    (nat_lt 0 (end_of s serial), ReelNotFree serial)
    ∷ (nat_lt (capacity_in (reel_at serial s.reels)) (process_needs k), TapeFull (process_needs k) (capacity_in (reel_at serial s.reels)))
    ∷ [])

-- The new dump on its reel.
abbrev pub process_dump : Holding → Shelved
process_dump k = record { place = 0; ends = process_needs k; number = k.last + 1 }

-- Every version that isn't empty has a copy on the reel, in the content of the new dump; an empty one has no copy.
pub record AreCopied (serial : ℕ) (k : Holding) (places : FinMap nat_cmp Place) : Type 0 where
  pub current : (stamp : ℕ) → is_some (get places stamp) ≡ is_current k.tree stamp
  pub empty : (full : Full) (row : FileRow) → get k.tree.files full ≡ Some row → length row.bytes ≡ 0 → (place_at places row.stamp).copy ≡ None
  pub copied : (full : Full) (row : FileRow) → get k.tree.files full ≡ Some row → 0 < length row.bytes
      → (copy : TapeCopy) × ((place_at places row.stamp).copy ≡ Some copy) × (copy.serial ≡ serial)
      × (process_content k ≤ copy.first) × (copy.first + blocks_of row ≤ process_needs k - 1)

-- The versions are copied, and those on the disc are still there.
pub record AreMoved (serial : ℕ) (k : Holding) (places : FinMap nat_cmp Place) : Type 0 where
  pub copied : AreCopied serial k places
  pub online : (stamp : ℕ) → (place_at places stamp).online ≡ (place_at k.places stamp).online

-- The new dump has the tree and its number, and its own records name every copy. By its records no version is online, except
-- the empty ones.
pub record IsProcessed (serial : ℕ) (k : Holding) (d : Dumped) : Type 0 where
  pub tree : d.tree ≡ k.tree
  pub number : d.number ≡ k.last + 1
  pub copied : AreCopied serial k d.places
  pub online : (full : Full) (row : FileRow) → get k.tree.files full ≡ Some row → (place_at d.places row.stamp).online ≡ (length row.bytes == 0)
  pub own : (stamp : ℕ) → get d.own stamp ≡ (place_at d.places stamp).copy

-- The disc has the copies of the dump.
pub record HasCopiesOf (d : Dumped) (places : FinMap nat_cmp Place) : Type 0 where
  pub same : (stamp : ℕ) → (place_at places stamp).copy ≡ (place_at d.places stamp).copy

-- The holding with the intent of the new dump.
abbrev pub with_intent : State → ℕ → Holding → Holding
with_intent s serial k = record k { intent = Some (record { serial = serial; place = 0; number = k.last + 1 }) }

-- The reels below serial `until`, other than this one, are released: a reel that had dumps has none any more.
abbrev pub released_before : ℕ → ℕ → ReelRow → ReelRow
released_before serial until r = if nat_lt r.serial until && not (r.serial == serial) && not (has_none r) then record r { dumps = [] } else r

-- The state after the new dump was completed on its reel.
abbrev pub marked_by : State → Holding → ℕ → Dumped → State
marked_by s k serial d = record s { reels = with_reel serial (λ r. with_used true (with_shelved (process_dump k) r)) s.reels; dumped = Some d }

-- The new copies are on the disc too, the reels below serial `until` are released, and all users are kept.
abbrev pub moved : State → Holding → ℕ → FinMap nat_cmp Place → Dumped → ℕ → State
moved s k serial places d until = record (marked_by s k serial d) {
  reels = map (released_before serial until) (marked_by s k serial d).reels;
  holding = Some (record k { places = places; last = k.last + 1; intent = None; kept = from_entries (map (λ e. (e.0, tt)) (entries k.tree.users)) });
}

-- A failed read leaves nothing changed; or the new intent is on the disc, and the reel may have blocks but no dump.
abbrev pub LeftByRead : State → Holding → ℕ → State → Type 0
LeftByRead s k serial new = (new ≡ s) ⊎ ((used : Bool) × (new ≡ record s { reels = with_reel serial (with_used used) s.reels; holding = Some (with_intent s serial k) }))

-- A reel whose release was interrupted has a block or not.
abbrev pub with_cut : Option (ℕ × Bool) → State → State
with_cut None s = s
with_cut (Some cut) s = record s { reels = with_reel cut.0 (with_used cut.1) s.reels }

-- The interrupted reel is the last of the released ones. It isn't the new dump's reel, and it had a completed dump.
abbrev pub is_released : State → ℕ → ℕ → Option (ℕ × Bool) → Type 0
is_released s serial until None = Unit {0}
is_released s serial until (Some cut) = (until ≡ cut.0 + 1) × (cut.0 ≢ serial) × (0 < end_of s cut.0)

-- A failed write leaves the dump without its mark; or with its mark; or also on the disc, with some reels released, of
-- which the last may have been interrupted.
pub data ProcessLeft (s : State) (k : Holding) (serial : ℕ) (new : State) : Type 0 where
  NotYet : (used : Bool) → (new ≡ down s) ⊎ (new ≡ down (record s { reels = with_reel serial (with_used used) s.reels; holding = Some (with_intent s serial k) })) → ProcessLeft s k serial new
  Marked : (d : Dumped) → IsProcessed serial k d → new ≡ down (record (marked_by s k serial d) { holding = Some (with_intent s serial k) }) → ProcessLeft s k serial new
  Moved : (places : FinMap nat_cmp Place) → (d : Dumped) → IsProcessed serial k d → AreMoved serial k places → HasCopiesOf d places
      → (until : ℕ) → (cut : Option (ℕ × Bool)) → is_released s serial until cut → new ≡ down (with_cut cut (moved s k serial places d until)) → ProcessLeft s k serial new

-- The state after PROCESS succeeded: the copies are on the disc, and every other reel that had dumps is released.
pub record ProcessDone (s : State) (k : Holding) (serial : ℕ) (new : State) : Type 0 where
  pub places : FinMap nat_cmp Place
  pub dumped : Dumped
  pub processed : IsProcessed serial k dumped
  pub are : AreMoved serial k places
  pub same : HasCopiesOf dumped places
  pub until : ℕ
  pub all : first_reel (λ r. nat_le until r.serial) s.reels ≡ None
  pub is : new ≡ moved s k serial places dumped until

-- The answer and the state for each outcome, if PROCESS isn't refused.
abbrev pub Processes : State → Holding → ℕ → Outcome → Result ℕ StoreFault → State → Type 0
Processes s k serial Plain answer new = (answer ≡ Ok (k.last + 1)) × ProcessDone s k serial new
Processes s k serial DiscRead answer new = (answer ≡ Err DiscReadFault) × LeftByRead s k serial new
Processes s k serial TapeRead answer new = (answer ≡ Err TapeReadFault) × LeftByRead s k serial new
Processes s k serial Cut answer new = (answer ≡ Err Stopped) × ProcessLeft s k serial new

-- The step of PROCESS. The reels' catalogues are read before the late refusals, so a failed read of tape may take precedence
-- over these.
abbrev pub ProcessStep : State → Holding → ℕ → Outcome → Result ℕ StoreFault → State → Type 0
ProcessStep s k serial o answer new =
    MatchOption (process_refuses s k serial)
    (MatchOption (process_refuses_late s k serial) (Processes s k serial o answer new)
    (λ fault. ((answer ≡ Err fault) ⊎ ((o ≡ TapeRead) × (answer ≡ Err TapeReadFault))) × (new ≡ s)))
    (λ fault. (answer ≡ Err fault) × (new ≡ s))
