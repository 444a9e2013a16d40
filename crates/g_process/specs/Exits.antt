-- Where PROCESS ended, on devices that expose their contents and belong together: which completed dumps exist then, what
-- the disc names, what happened to each reel, and what a power loss leaves after a stop. `text` and `shelf` are the bytes
-- of the versions and the completed dumps before it.
use Rattle.std.specs.Prelude.{◌≡◌, ◌≢◌, ◌⊎◌, ℕ, ◌+◌, ◌<◌, ◌≤◌, ◌==◌, true, not, ◌&&◌, nat_lt, List, [], All, Contains, IfSome, Option, Some, None, Result, Ok, Err, length, map, take, slice_get, if◌then◌else◌}
use Rattle.std.specs.List.{AllZip}
use Rattle.std.specs.List.Sorted.{IsStrictlyIncreasing}
use Rattle.g_base.specs.Block.{IsBlock, blocks_for}
use Rattle.g_entry.specs.declared.file_rec.FileRec.{FileRec}
use Rattle.g_tape.specs.Rack.{Rack, reel}
use Rattle.g_tape.specs.Reads.{unread}
use Rattle.g_tape.specs.Reel.{Reel}
use Rattle.g_plain.specs.declared.faults.StoreFault.{StoreFault}
use Rattle.g_plain.specs.declared.faults.StoreFault.TheVariants.{DiscReadFault, Stopped, TapeReadFault}
use Rattle.g_disc_contents.specs.Contents.{Holds}
use Rattle.g_disc_contents.specs.Facts.{OnlineFacts}
use Rattle.g_disc_contents.specs.Parts.{IsPart}
use Rattle.g_incr.specs.Layout.{Dump}
use Rattle.g_incr.specs.Plan.{IsPlan, blocks_of, content_blocks, dump_of, needs}
use Rattle.g_shelf.specs.CompletedDumps.{AreShelved}
use Rattle.g_store_meaning.specs.Meaning.{told_reels}
use Rattle.g_store_meaning.specs.StoreInvariant.{StoreFacts, with_dump}
use Rattle.g_process.specs.NamedCopies.{intended_by, moved_by}
use Rattle.g_process.specs.PowerLosses.{LeavesEitherShelf, LeavesOnDisc, LeavesShelf, StaysDurable}
use Rattle.g_process.specs.ProcessPlan.{IsFree, IsTaken, process_plan, versions}

-- The blocks of the content have the texts of the versions, one after another.
abbrev pub AreParts : (ℕ → List ℕ) → List FileRec → List (List ℕ) → Type 0
AreParts text rs content = (i part : ℕ) (r : FileRec) (b : List ℕ) → slice_get rs i ≡ Some r → part < blocks_for r.len → slice_get content (blocks_of (take i rs) + part) ≡ Some b → IsPart (text r.stamp) part b

-- The content has the right number of blocks, each of 512 bytes, and they contain the texts of the versions, which have the
-- right lengths.
pub record IsContentOf (text : ℕ → List ℕ) (serial : ℕ) (o : OnlineFacts) (content : List (List ℕ)) : Type 0 where
  pub long : length content ≡ content_blocks (process_plan serial o)
  pub blocks : All IsBlock content
  pub lens : All (λ r. length (text r.stamp) ≡ r.len) (versions o.contents)
  pub parts : AreParts text (versions o.contents) content

-- No refusal occurred before the first write: the reel exists, has no completed dump, and has room. No two reels have the
-- same serial.
pub record MayFill (serial : ℕ) (old : StoreFacts) : Type 0 where
  pub rising : IsStrictlyIncreasing (map (λ r. r.serial) old.rack.reels)
  pub on : Reel
  pub reel_is : reel serial old.rack.reels ≡ Some on
  pub mounted : on.mounted ≡ true
  pub room : needs (process_plan serial old.online) ≤ on.capacity
  pub free : IsFree serial old.rack
  pub rules : IsPlan (process_plan serial old.online)

-- The completed dumps without those of the reels with lower serials than `until`, except the reel of the new dump.
abbrev pub cleared : ℕ → ℕ → (ℕ → List Dump) → ℕ → List Dump
cleared serial until shelf n = if nat_lt n until && not (n == serial) then [] else shelf n

-- The reel is the one that is written, or nothing but its record of reads has changed.
abbrev pub IsReadBy : ℕ → Reel → Reel → Type 0
IsReadBy serial r q = (r.serial ≡ serial) ⊎ (unread q ≡ unread r)

-- The reel of the new dump isn't empty. Every other reel is unchanged except for its record of reads.
abbrev pub IsBesideDump : ℕ → Reel → Reel → Type 0
IsBesideDump serial r q = ((r.serial ≡ serial) × (0 < q.len)) ⊎ ((r.serial ≢ serial) × (unread q ≡ unread r))

-- The releases reached the serial `until`. The reel of the new dump isn't empty. Of the other reels below `until`, those
-- that had a completed dump now have a block, unless theirs is the interrupted release. All others are unchanged except for
-- their record of reads.
abbrev pub IsClearedBy : ℕ → ℕ → Option ℕ → Rack → Reel → Reel → Type 0
IsClearedBy serial until cut old r q =
    ((r.serial ≡ serial) × (0 < q.len))
    ⊎ ((r.serial ≢ serial)
    × (((until ≤ r.serial) × (unread q ≡ unread r))
    ⊎ ((r.serial < until) × ((IsFree r.serial old × (unread q ≡ unread r)) ⊎ (IsTaken r.serial old × ((0 < q.len) ⊎ (cut ≡ Some r.serial)))))))

-- The interrupted release, if there is one, is the last one.
abbrev pub IsLastCut : ℕ → ℕ → Rack → Option ℕ → Type 0
IsLastCut serial until old cut = IfSome cut (λ n. (until ≡ n + 1) × (n ≢ serial) × IsTaken n old × Contains (map (λ r. r.serial) old.reels) n)

-- The new dump.
abbrev pub new_dump : ℕ → OnlineFacts → List (List ℕ) → Dump
new_dump serial o content = dump_of (process_plan serial o) content

-- PROCESS ended before the dump was completed.
pub record LacksMark (shelf : ℕ → List Dump) (serial : ℕ) (old new : StoreFacts) : Type 0 where
  pub may : MayFill serial old
  pub live : new.online.live ≡ true
  pub contents : new.online.contents ≡ intended_by serial old.online
  pub changed : new.online.changed ≡ old.online.changed
  pub reels : AllZip (IsReadBy serial) old.rack.reels new.rack.reels
  pub shelved : AreShelved shelf (told_reels new.rack)

-- The dump is completed, and no reel was released.
pub record HasCompleted (text : ℕ → List ℕ) (shelf : ℕ → List Dump) (serial : ℕ) (old new : StoreFacts) : Type 0 where
  pub may : MayFill serial old
  pub content : List (List ℕ)
  pub has : IsContentOf text serial old.online content
  pub reels : AllZip (IsBesideDump serial) old.rack.reels new.rack.reels
  pub shelved : AreShelved (with_dump (new_dump serial old.online content) shelf) (told_reels new.rack)

-- The new copies are noted, and the reels below some serial are released.
pub record HasReleased (text : ℕ → List ℕ) (shelf : ℕ → List Dump) (serial : ℕ) (old new : StoreFacts) : Type 0 where
  pub may : MayFill serial old
  pub content : List (List ℕ)
  pub has : IsContentOf text serial old.online content
  pub live : new.online.live ≡ true
  pub contents : new.online.contents ≡ moved_by serial old.online
  pub changed : new.online.changed ≡ []
  pub until : ℕ
  pub cut : Option ℕ
  pub last : IsLastCut serial until old.rack cut
  pub reels : AllZip (IsClearedBy serial until cut old.rack) old.rack.reels new.rack.reels
  pub shelved : AreShelved (cleared serial until (with_dump (new_dump serial old.online content) shelf)) (told_reels new.rack)

-- PROCESS stopped, and what a power loss leaves then of the disc and of each reel.
pub data Stops (text : ℕ → List ℕ) (shelf : ℕ → List Dump) (serial : ℕ) (old new : StoreFacts) : Type 0 where
  -- at the intent
  StopsIntent : MayFill serial old → LeavesOnDisc (λ blocks. Holds blocks old.online.contents ⊎ Holds blocks (intended_by serial old.online)) old new
      → map unread new.rack.reels ≡ map unread old.rack.reels → LeavesShelf shelf old new → Stops text shelf serial old new
  -- before the mark was written
  StopsBefore : LacksMark shelf serial old new → StaysDurable old new → LeavesShelf shelf old new → Stops text shelf serial old new
  -- at the mark: the dump isn't completed, but a power loss may leave its mark
  StopsUnmarked : LacksMark shelf serial old new → AllZip (IsBesideDump serial) old.rack.reels new.rack.reels → StaysDurable old new → (content : List (List ℕ)) → IsContentOf text serial old.online content
      → LeavesEitherShelf shelf (with_dump (new_dump serial old.online content) shelf) old new → Stops text shelf serial old new
  -- at the mark: the dump is completed, but a power loss may leave it without its mark
  StopsMark : (is : HasCompleted text shelf serial old new) → new.online.live ≡ true → new.online.contents ≡ intended_by serial old.online → StaysDurable old new
      → LeavesEitherShelf shelf (with_dump (new_dump serial old.online is.content) shelf) old new → Stops text shelf serial old new
  -- at the commit of the new copies
  StopsCopies : (is : HasCompleted text shelf serial old new) → LeavesOnDisc (λ blocks. Holds blocks (intended_by serial old.online) ⊎ Holds blocks (moved_by serial old.online)) old new
      → LeavesShelf (with_dump (new_dump serial old.online is.content) shelf) old new → Stops text shelf serial old new
  -- at the release of reel `last`, which a power loss leaves with its dumps or without them
  StopsRelease : (is : HasReleased text shelf serial old new) → StaysDurable old new → (last : ℕ) → IsLastCut serial (last + 1) old.rack (Some last)
      → LeavesEitherShelf (cleared serial last (with_dump (new_dump serial old.online is.content) shelf)) (cleared serial (last + 1) (with_dump (new_dump serial old.online is.content) shelf)) old new
      → Stops text shelf serial old new

-- Nothing was written.
abbrev pub Untouched : StoreFacts → StoreFacts → Type 0
Untouched old new = (new.online ≡ old.online) × (map unread new.rack.reels ≡ map unread old.rack.reels)

-- Where PROCESS ended, by its answer. After any other refusal nothing was written.
abbrev pub Exits : (ℕ → List ℕ) → (ℕ → List Dump) → ℕ → StoreFacts → Result ℕ StoreFault → StoreFacts → Type 0
Exits text shelf serial old (Ok number) new = (number ≡ old.online.contents.head.last_dump + 1)
    × ((is : HasReleased text shelf serial old new) × (is.cut ≡ None) × All (λ r. r.serial < is.until) old.rack.reels)
Exits text shelf serial old (Err Stopped) new = Stops text shelf serial old new
Exits text shelf serial old (Err DiscReadFault) new = LacksMark shelf serial old new
Exits text shelf serial old (Err TapeReadFault) new = Untouched old new ⊎ LacksMark shelf serial old new
Exits text shelf serial old (Err fault) new = Untouched old new
