-- The effects of the operator's events on a store that is up and holds k: opening a dump, its steps, and the others.
use Rattle.std.specs.Prelude.{◌≡◌, ◌≢◌, ◌⊎◌, ℕ, ◌+◌, ◌-◌, ◌^◌, ◌<◌, ◌≤◌, ◌==◌, Bool, true, false, not, ◌&&◌, ◌||◌, nat_lt, nat_le, List, [], ◌∷◌, ◌++◌, map, filter, sum_by, length, Option, Some, None, Result, Ok, Err, is_some, is_none, if◌then◌else◌}
use Rattle.std.specs.Ordering.{nat_cmp}
use Rattle.std.specs.List.{flat_map}
use Rattle.std.specs.FinMap.{FinMap, get, entries, from_entries, from_sorted, empty, len}
use Rattle.g_name.specs.declared.full.Full.{Full}
use Rattle.g_entry.specs.declared.file_rec.TapeCopy.{TapeCopy}
use Rattle.g_plain.specs.declared.faults.StoreFault.{StoreFault}
use Rattle.g_plain.specs.declared.faults.StoreFault.TheVariants.{NoTape, NotMounted, DumpOpen, CountersSpent, TapeReadFault, TapeFull, DiscReadFault, Stopped, NoUser, NoFile, Offline, NotDumped, TapeBusy}
use Rattle.g_plain.specs.PlainTree.{Tree, FileRow, has_user, has_file}
use Rattle.g_plain.specs.PlainStep.{first_fault}
use Rattle.g_store_model.specs.State.{State, Holding, OpenDump, Shelved, ReelRow, Place, Users, is_in, place_at, copy_entry, is_mounted, lacks, reel_at, with_reel, end_of, capacity_in, blocks_of, with_online, is_current}
use Rattle.g_store_model.specs.CallStep.{Outcome, DiscRead, Cut, is_tape_read, is_cut, commits, down, stamp_of}

-- An event of one commit is refused and changes nothing, or it is done. If a write fails, it is either undone or done,
-- and the store is down.
abbrev pub Event : {A : Type 0} → Option StoreFault → A → State → State → Result A StoreFault → State → Type 0
Event None reply s after answer new = (answer ≡ Ok reply) × (new ≡ after)
Event (Some Stopped) reply s after answer new = (answer ≡ Err Stopped) × ((new ≡ down s) ⊎ (new ≡ down after))
Event (Some fault) reply s after answer new = (answer ≡ Err fault) × (new ≡ s)

-- The version isn't empty and has no copy on tape.
abbrev pub waits : Holding → Full × FileRow → Bool
waits k e = nat_lt 0 (length e.1.bytes) && is_none (place_at k.places e.1.stamp).copy

-- The versions that wait, by stamp, with their numbers of blocks.
abbrev pub waiting : Holding → FinMap nat_cmp ℕ
waiting k = from_entries (map (λ e. (e.1.stamp, blocks_of e.1)) (filter (waits k) (entries k.tree.files)))

-- The number of blocks of these versions.
abbrev pub waiting_blocks : FinMap nat_cmp ℕ → ℕ
waiting_blocks waiting = sum_by (λ w. w.1) (entries waiting)

-- The number of blocks of the dump: the header, all users, the files of the users who aren't kept, the blocks of the
-- waiting versions, and the mark.
abbrev pub dump_needs : Holding → ℕ
dump_needs k =
    2 + len k.tree.users + length (filter (λ e. not (is_in k.kept e.0.user)) (entries k.tree.files)) + waiting_blocks (waiting k)

-- Where the bytes of the tree's versions are according to the dump: at the existing copies, and for each waiting
-- version at a copy on this reel, between these blocks.
pub record AreNoted (serial from to : ℕ) (k : Holding) (places : FinMap nat_cmp Place) : Type 0 where
  pub current : (stamp : ℕ) → is_some (get places stamp) ≡ is_current k.tree stamp
  pub empty : (full : Full) (row : FileRow) → get k.tree.files full ≡ Some row → length row.bytes ≡ 0 → place_at places row.stamp ≡ record { online = true; copy = None }
  pub old : (full : Full) (row : FileRow) (copy : TapeCopy) → get k.tree.files full ≡ Some row → 0 < length row.bytes
      → (place_at k.places row.stamp).copy ≡ Some copy → place_at places row.stamp ≡ record { online = false; copy = Some copy }
  pub new : (full : Full) (row : FileRow) → get k.tree.files full ≡ Some row → waits k (full, row) ≡ true
      → (copy : TapeCopy) × (place_at places row.stamp ≡ record { online = false; copy = Some copy }) × (copy.serial ≡ serial)
      × (from ≤ copy.first) × (copy.first + blocks_of row ≤ to)

-- The copies that the dump's own records name: those of the files of the users who aren't kept.
abbrev pub own_copy : Holding → FinMap nat_cmp Place → Full × FileRow → List (ℕ × TapeCopy)
own_copy k places e = if is_in k.kept e.0.user then [] else copy_entry e.1.stamp (place_at places e.1.stamp).copy

-- The copies that the dump's own records name, by stamp.
abbrev pub own_copies : Holding → FinMap nat_cmp Place → FinMap nat_cmp TapeCopy
own_copies k places = from_entries (flat_map (own_copy k places) (entries k.tree.files))

-- The dump that an opening begins.
abbrev pub dump_begun : State → Holding → ℕ → FinMap nat_cmp Place → OpenDump
dump_begun s k serial places = record {
  number = k.last + 1;
  serial = serial;
  place = end_of s serial;
  needs = dump_needs k;
  done = 0;
  tree = k.tree;
  places = places;
  waiting = waiting k;
  own = own_copies k places;
  touched = empty;
}

-- The state after a dump was opened: the intent is on the disc, and the dump is open.
abbrev pub opening : State → Holding → ℕ → FinMap nat_cmp Place → State
opening s k serial places = record s {
  holding = Some (record k { intent = Some (record { serial = serial; place = end_of s serial; number = k.last + 1 }) });
  open_dump = Some (dump_begun s k serial places);
}

-- The number of blocks on the reel after its completed dumps.
abbrev pub tape_room : State → ℕ → ℕ
tape_room s serial = capacity_in (reel_at serial s.reels) - end_of s serial

-- The number of the open dump; 0 if there is none.
abbrev pub open_number : Option OpenDump → ℕ
open_number None = 0
open_number (Some d) = d.number

-- Why opening a dump is refused, in the order of the checks.
abbrev pub open_refuses : State → Holding → ℕ → Outcome → Option StoreFault
open_refuses s k serial o = first_fault (
    (lacks s serial, NoTape)
    ∷ (not (is_mounted s serial), NotMounted)
    ∷ (is_some s.open_dump, DumpOpen (open_number s.open_dump))
    ∷ (k.last == 2 ^ 62 - 1, CountersSpent)
    ∷ (is_tape_read o, TapeReadFault)
    ∷ (nat_lt (tape_room s serial) (dump_needs k), TapeFull (dump_needs k) (tape_room s serial))
    ∷ (is_cut o, Stopped)
    ∷ [])

-- The step of opening a dump, whose reply is the dump's number. The places of the copies matter only if the dump is
-- opened.
abbrev pub OpenStep : State → Holding → ℕ → Outcome → Result ℕ StoreFault → State → Type 0
OpenStep s k serial o answer new =
    let ends = end_of s serial + dump_needs k - 1 in
    (places : FinMap nat_cmp Place)
    × (open_refuses s k serial o ≡ None → AreNoted serial (ends - waiting_blocks (waiting k)) ends k places)
    × Event (open_refuses s k serial o) (k.last + 1) s (opening s k serial places) answer new

-- A step of the open dump writes one block of tape.
pub data Stepped : Type 0 where
  Going : Stepped
  Completed : ℕ → Stepped

-- The open dump, once it is completed.
abbrev pub shelved : OpenDump → Shelved
shelved d = record { place = d.place; ends = d.place + d.needs; number = d.number }

-- The reel with one more completed dump.
abbrev pub with_shelved : Shelved → ReelRow → ReelRow
with_shelved d r = record r { dumps = r.dumps ++ d ∷ [] }

-- The reel, with or without a block.
abbrev pub with_used : Bool → ReelRow → ReelRow
with_used is r = record r { used = is }

-- The state in which the dump's reel has a block, or has none.
abbrev pub uses : Bool → OpenDump → State → State
uses is d s = record s { reels = with_reel d.serial (with_used is) s.reels }

-- The state after the dump was completed on its reel.
abbrev pub marked : OpenDump → State → State
marked d s = record s {
  reels = with_reel d.serial (with_shelved (shelved d)) s.reels;
  dumped = Some (record { number = d.number; tree = d.tree; places = d.places; own = d.own });
}

-- The current versions that waited get the copies that the dump has for them.
abbrev pub noted_copy : OpenDump → ℕ → Place → Place
noted_copy d stamp p = if is_some (get d.waiting stamp) then record p { copy = (place_at d.places stamp).copy } else p

-- The places of the current versions, with the copies that the dump has for them.
abbrev pub with_noted : OpenDump → FinMap nat_cmp Place → FinMap nat_cmp Place
with_noted d places = from_sorted (map (λ e. (e.0, noted_copy d e.0 e.1)) (entries places))

-- All users except those whose directory was changed or created since the opening.
abbrev pub kept_now : OpenDump → Tree → Users
kept_now d tree = from_entries (map (λ e. (e.0, tt)) (filter (λ e. not (is_in d.touched e.0)) (entries tree.users)))

-- The state after the dump was completed on its reel and on the disc, and is no longer open.
abbrev pub completed : OpenDump → Holding → State → State
completed d k s = record (marked d s) {
  holding = Some (record k { places = with_noted d k.places; last = d.number; intent = None; kept = kept_now d k.tree });
  open_dump = None;
}

-- The step writes a block of a waiting version.
abbrev pub writes_content : OpenDump → Bool
writes_content d = nat_lt (d.done + 1) d.needs && nat_le d.needs (d.done + 1 + waiting_blocks d.waiting)

-- After a failed write the reel is unchanged; if the write was to block 0 of the reel, the reel may also have a block
-- or none.
abbrev pub UsedByCut : OpenDump → State → State → Type 0
UsedByCut d s new = (new ≡ s) ⊎ ((d.place + d.done ≡ 0) × ((new ≡ uses true d s) ⊎ (new ≡ uses false d s)))

-- The step of the open dump: one more block, the last block, or a failed read or write.
abbrev pub DumpStep : State → Holding → OpenDump → Outcome → Result Stepped StoreFault → State → Type 0
DumpStep s k d o (Ok Going) new =
    (d.done + 1 < d.needs) × (o ≢ Cut) × ((o ≡ DiscRead) → writes_content d ≡ false)
    × (new ≡ uses true d (record s { open_dump = Some (record d { done = d.done + 1 }) }))
DumpStep s k d o (Ok (Completed n)) new =
    (d.done + 1 ≡ d.needs) × (o ≢ Cut) × (n ≡ d.number) × (new ≡ uses true d (completed d k s))
DumpStep s k d o (Err DiscReadFault) new = (o ≡ DiscRead) × (writes_content d ≡ true) × (new ≡ record s { open_dump = None })
-- a failed write leaves the dump without its mark; or completed only on the reel; or completed on the disc too
DumpStep s k d o (Err Stopped) new = (o ≡ Cut) × (
    UsedByCut d (down s) new
    ⊎ ((d.done + 1 ≡ d.needs) × ((new ≡ uses true d (down (marked d s))) ⊎ (new ≡ uses true d (down (completed d k s))))))
DumpStep s k d o (Err fault) new = ⊥

-- Migrating a file, which the operator's path names, takes it off the disc. There is no caller, so the path must name a
-- user.
abbrev pub migrate_refuses : Holding → Option (List ℕ) → Full → Outcome → Option StoreFault
migrate_refuses k user full o =
    let place = place_at k.places (stamp_of k.tree full) in
    first_fault (
    (is_none user || not (has_user k.tree full.user), NoUser)
    ∷ (not (has_file k.tree full), NoFile)
    ∷ (not place.online, Offline)
    ∷ (is_none place.copy, NotDumped)
    ∷ (is_cut o, Stopped)
    ∷ [])

-- The step of migrating a file.
abbrev pub MigrateStep : State → Holding → Option (List ℕ) → Full → Outcome → Result Full StoreFault → State → Type 0
MigrateStep s k user full o answer new = Event (migrate_refuses k user full o) full s
    (commits s (record k { places = with_online false (stamp_of k.tree full) k.places })) answer new

-- Mounting and unmounting change one reel.
abbrev pub with_mounted : Bool → ReelRow → ReelRow
with_mounted is r = record r { mounted = is }

-- The step of a mount.
abbrev pub MountStep : State → ℕ → Result (Unit {0}) StoreFault → State → Type 0
MountStep s serial answer new =
    Event (first_fault ((lacks s serial, NoTape) ∷ [])) tt s (record s { reels = with_reel serial (with_mounted true) s.reels }) answer new

-- The reel has the open dump.
abbrev pub is_busy : ℕ → Option OpenDump → Bool
is_busy serial None = false
is_busy serial (Some d) = d.serial == serial

-- The step of an unmount.
abbrev pub UnmountStep : State → ℕ → Result (Unit {0}) StoreFault → State → Type 0
UnmountStep s serial answer new = Event
    (first_fault ((lacks s serial, NoTape) ∷ (not (is_mounted s serial), NotMounted) ∷ (is_busy serial s.open_dump, TapeBusy) ∷ []))
    tt s (record s { reels = with_reel serial (with_mounted false) s.reels }) answer new
