-- How PROCESS is answered, by `g_process` and by a store: its step, its refusals, its causes, and what happened to the
-- reels.
use Rattle.std.specs.List.{AllZip}
use Rattle.std.specs.Prelude.{◌≡◌, ◌≢◌, ◌⊎◌, ℕ, ◌+◌, ◌-◌, ◌^◌, ◌<◌, ◌≤◌, ◌↔◌, ◌==◌, true, false, List, [], ◌∷◌, All, Option, Some, None, IfErr, is_some, is_none, Result, Ok, Err, slice_get, take, map}
use Rattle.std.specs.Option.{ForSome}
use Rattle.g_base.specs.Block.{blocks_for}
use Rattle.g_base.specs.Counts.{Rose}
use Rattle.g_name.specs.declared.full.Full.{Full}
use Rattle.g_entry.specs.declared.file_rec.FileRec.{FileRec}
use Rattle.g_entry.specs.declared.file_rec.TapeCopy.{TapeCopy}
use Rattle.g_tape.specs.Reel.{Reel, Remains, left_by}
use Rattle.g_tape.specs.Rack.{Rack, reel}
use Rattle.g_tape.specs.Reads.{HasRead, OnlyReads, blocks_of as blocks_at, unread}
use Rattle.g_plain.specs.declared.faults.StoreFault.{StoreFault}
use Rattle.g_plain.specs.declared.faults.StoreFault.TheVariants.{CountersSpent, DiscReadFault, DumpOpen, NoCopy, NoMemory, NoTape, RackNotMounted, ReelNotFree, Stopped, TapeFull, TapeReadFault}
use Rattle.g_plain.specs.PlainStep.{first_fault}
use Rattle.g_tree.specs.Records.{full_of}
use Rattle.g_disc_contents.specs.Contents.{File, Holds}
use Rattle.g_disc_contents.specs.Durable.{IsDurable}
use Rattle.g_disc_contents.specs.Facts.{OnlineFacts}
use Rattle.g_incr.specs.Plan.{blocks_of, dump_of, needs}
use Rattle.g_shelf.specs.CompletedDumps.{AreCompleted, AreShelved}
use Rattle.g_shelf.specs.LastDump.{first_unmounted}
use Rattle.g_incr.specs.Layout.{Dump}
use Rattle.g_store_model.specs.Rising.{fault_from}
use Rattle.g_store_meaning.specs.Answers.{Belongs, IsStore, Told, WroteCommits}
use Rattle.g_store_meaning.specs.Meaning.{told_reels}
use Rattle.g_store_meaning.specs.StoreInvariant.{DumpFacts, IsUp, StoreFacts}
use Rattle.g_store_meaning.specs.Surviving.{AreDumpsSafe}
use Rattle.g_dumper.specs.Invariant.{spent_with, up_with}
use Rattle.g_process.specs.Exits.{Exits, IsReadBy}
use Rattle.g_process.specs.NamedCopies.{intended_by, moved_by}
use Rattle.g_process.specs.ProcessPlan.{IsFirstLost, IsFree, IsTaken, process_plan, versions}
use Rattle.g_process.specs.Releases.{zeros}
use Rattle.g_process.specs.Progress.{IsSource}

-- The number of the open dump, or 0.
abbrev pub open_number : Option DumpFacts → ℕ
open_number None = 0
open_number (Some d) = d.plan.number

-- The refusals before a reel is read. They depend on labels, on what is mounted and on memory, which are always known.
abbrev pub process_refuses : ℕ → StoreFacts → Option StoreFault
process_refuses serial s = first_fault (
    (is_none (reel serial s.rack.reels), NoTape)
    ∷ fault_from RackNotMounted (first_unmounted s.rack.reels)
    ∷ (is_some s.dump, DumpOpen (open_number s.dump))
    ∷ (s.online.contents.head.last_dump == 2 ^ 62 - 1, CountersSpent)
    ∷ [])

-- All other refusals that exist.
abbrev pub MayRefuse : StoreFault → Type 0
MayRefuse TapeReadFault = Unit {0}
MayRefuse (ReelNotFree serial) = Unit {0}
MayRefuse (NoCopy full serial) = Unit {0}
MayRefuse (TapeFull need room) = Unit {0}
MayRefuse DiscReadFault = Unit {0}
MayRefuse Stopped = Unit {0}
MayRefuse NoMemory = Unit {0}
MayRefuse fault = ⊥

-- After these something may have been written.
abbrev pub IsLate : StoreFault → Type 0
IsLate TapeReadFault = Unit {0}
IsLate DiscReadFault = Unit {0}
IsLate Stopped = Unit {0}
IsLate fault = ⊥

-- Each fault counter rises only with its own answer; a stop is one failed write, of the disc or of the tapes. The disc's
-- write counter never falls, no device is armed, and the reels are the same ones, mounted as before.
pub record ProcessCause (old new : StoreFacts) (answer : Result ℕ StoreFault) : Type 0 where
  pub size : new.online.disc.size ≡ old.online.disc.size
  pub later : old.online.disc.writes ≤ new.online.disc.writes
  pub reels : AllZip (λ (o : Reel) (n : Reel). (n.serial ≡ o.serial) × (n.capacity ≡ o.capacity) × (n.mounted ≡ o.mounted)) old.rack.reels new.rack.reels
  pub disc_arms : new.online.disc.arms ≡ old.online.disc.arms
  pub tape_arms : new.rack.arms ≡ old.rack.arms
  pub disc_read : answer ≡ Err DiscReadFault → Rose old.online.disc.read_faults new.online.disc.read_faults
  pub disc_read_only : (answer ≡ Err DiscReadFault → ⊥) → new.online.disc.read_faults ≡ old.online.disc.read_faults
  pub tape_read : answer ≡ Err TapeReadFault → Rose old.rack.read_faults new.rack.read_faults
  pub tape_read_only : (answer ≡ Err TapeReadFault → ⊥) → new.rack.read_faults ≡ old.rack.read_faults
  pub cut : answer ≡ Err Stopped
      → (Rose old.online.disc.write_faults new.online.disc.write_faults × (new.rack.write_faults ≡ old.rack.write_faults))
      ⊎ (Rose old.rack.write_faults new.rack.write_faults × (new.online.disc.write_faults ≡ old.online.disc.write_faults))
  pub uncut : (answer ≡ Err Stopped → ⊥) → (new.online.disc.write_faults ≡ old.online.disc.write_faults) × (new.rack.write_faults ≡ old.rack.write_faults)

-- The commits on the disc: two if PROCESS is done, one after a failed read of the disc, none or one after a failed read of
-- tape, none after any other refusal; and no other write of the disc. After a stop the number isn't specified.
abbrev pub Wrote : StoreFacts → Result ℕ StoreFault → StoreFacts → Type 0
Wrote old (Ok number) new = WroteCommits 2 old new
Wrote old (Err Stopped) new = Unit {0}
Wrote old (Err DiscReadFault) new = WroteCommits 1 old new
Wrote old (Err TapeReadFault) new = WroteCommits 0 old new ⊎ WroteCommits 1 old new
Wrote old (Err fault) new = WroteCommits 0 old new

-- A released reel has exactly one block, of zeros.
pub record IsReleased (r : Reel) : Type 0 where
  pub len : r.len ≡ 1
  pub block : ForSome r.blocks (λ blocks. blocks ≡ zeros ∷ [])

-- Another reel than the one that is written. It was free, and is unchanged except for its record of reads, or it had a
-- dump, and `Became` says what happened to it.
abbrev pub IsOther : ℕ → Rack → (Reel → Reel → Type 0) → Reel → Reel → Type 0
IsOther serial old Became r q = (r.serial ≢ serial) × ((IsFree r.serial old × (unread q ≡ unread r)) ⊎ (IsTaken r.serial old × Became r q))

-- The reel that was written has exactly the blocks of the dump. Each other reel is unchanged except for its record of reads
-- if it was free, and released otherwise.
abbrev pub IsLeftBy : ℕ → ℕ → Rack → Reel → Reel → Type 0
IsLeftBy serial need old r q = ((r.serial ≡ serial) × (q.len ≡ need)) ⊎ IsOther serial old (λ x y. IsReleased y) r q

-- After a stop each other reel that had a dump is unchanged, or released, or its release was interrupted.
abbrev pub IsCutBy : ℕ → Rack → Reel → Reel → Type 0
IsCutBy serial old r q = (r.serial ≡ serial) ⊎ IsOther serial old (λ x y. (unread y ≡ unread x) ⊎ (IsReleased y ⊎ ((how : Remains) × (unread y ≡ unread (left_by how 0 x))))) r q

-- The number of blocks of the versions before the i-th.
abbrev pub blocks_in_front : ℕ → List FileRec → ℕ
blocks_in_front i rs = blocks_of (take i rs)

-- Each block of the copy of an offline file was read in this call.
abbrev pub HasReadFile : StoreFacts → StoreFacts → File → Type 0
HasReadFile old new f = f.online ≡ false → (copy : TapeCopy) → f.rec.tape ≡ Some copy → (i : ℕ) → copy.first ≤ i → i < copy.first + blocks_for f.rec.len → HasRead copy.serial i old.rack new.rack

-- The dump is the only one on its reel. It is that of the plan, and each block of each version was read from the disc if
-- the file is there, otherwise from its copy.
pub record IsDumped (serial : ℕ) (old : StoreFacts) (new : Rack) (blocks : List (List ℕ)) : Type 0 where
  pub content : List (List ℕ)
  pub completed : AreCompleted serial blocks (dump_of (process_plan serial old.online) content ∷ [])
  pub sources : (i part : ℕ) (r : FileRec) → slice_get (versions old.online.contents) i ≡ Some r → part < blocks_for r.len
      → (block : List ℕ) × (slice_get content (blocks_in_front i (versions old.online.contents) + part) ≡ Some block) × IsSource old.online old.rack new r part block

-- PROCESS was done. The disc names the new copies, no user counts as changed, the dump is the only one on its reel, all
-- other reels have none, and every offline file was read.
pub record HasProcessed (serial number : ℕ) (old new : StoreFacts) : Type 0 where
  pub number_is : number ≡ old.online.contents.head.last_dump + 1
  pub contents : new.online.contents ≡ moved_by serial old.online
  pub changed : new.online.changed ≡ []
  pub free : IsFree serial old.rack
  pub fits : ForSome (reel serial old.rack.reels) (λ r. needs (process_plan serial old.online) ≤ r.capacity)
  pub dump : ForSome (blocks_at serial new.rack) (IsDumped serial old new.rack)
  pub others : All (λ r. r.serial ≢ serial → ForSome r.blocks (λ blocks. AreCompleted r.serial blocks [])) new.rack.reels
  pub reels : AllZip (IsLeftBy serial (needs (process_plan serial old.online)) old.rack) old.rack.reels new.rack.reels
  pub read : All (HasReadFile old new) old.online.contents.files

-- What a stop leaves: at a write of the intent's commit, at one of the dump, at one of the next commit, or at a release. A
-- reel is released only once the disc names the copies in the dump, which is complete by then.
pub data StopLeaves (serial : ℕ) (old new : StoreFacts) : Type 0 where
  CutIntent : ForSome new.online.disc.held (λ blocks. Holds blocks old.online.contents ⊎ Holds blocks (intended_by serial old.online))
      → map unread new.rack.reels ≡ map unread old.rack.reels → StopLeaves serial old new
  CutDump : new.online.live ≡ true → new.online.contents ≡ intended_by serial old.online → AllZip (IsReadBy serial) old.rack.reels new.rack.reels → StopLeaves serial old new
  CutCopies : ForSome new.online.disc.held (λ blocks. Holds blocks (intended_by serial old.online) ⊎ Holds blocks (moved_by serial old.online))
      → ForSome (blocks_at serial new.rack) (IsDumped serial old new.rack) → AllZip (IsReadBy serial) old.rack.reels new.rack.reels → StopLeaves serial old new
  CutRelease : new.online.live ≡ true → new.online.contents ≡ moved_by serial old.online
      → ForSome (blocks_at serial new.rack) (IsDumped serial old new.rack) → AllZip (IsCutBy serial old.rack) old.rack.reels new.rack.reels → StopLeaves serial old new

-- A failed read leaves the disc unchanged, or with the intent.
pub record ReadLeaves (serial : ℕ) (old new : StoreFacts) : Type 0 where
  pub contents : (new.online.contents ≡ old.online.contents) ⊎ (new.online.contents ≡ intended_by serial old.online)
  pub changed : new.online.changed ≡ old.online.changed
  pub reels : AllZip (IsReadBy serial) old.rack.reels new.rack.reels

-- What PROCESS did, by its answer. After any other refusal this specifies nothing.
abbrev pub Does : ℕ → StoreFacts → Result ℕ StoreFault → StoreFacts → Type 0
Does serial old (Ok number) new = HasProcessed serial number old new
Does serial old (Err Stopped) new = StopLeaves serial old new
Does serial old (Err DiscReadFault) new = ReadLeaves serial old new
Does serial old (Err TapeReadFault) new = ReadLeaves serial old new
Does serial old (Err fault) new = Unit {0}

-- The store afterwards.
abbrev pub behind_process : Result ℕ StoreFault → OnlineFacts → Rack → StoreFacts
behind_process (Ok number) o rack = up_with o rack None
behind_process (Err Stopped) o rack = spent_with o rack
behind_process (Err fault) o rack = up_with o rack None

-- How PROCESS is answered.
pub record Processes (serial : ℕ) (old : StoreFacts) (answer : Result ℕ StoreFault) (new : StoreFacts) : Type 0 where
  pub refused : (fault : StoreFault) → process_refuses serial old ≡ Some fault → (answer ≡ Err fault) × (new ≡ old)
  pub granted : process_refuses serial old ≡ None → IfErr answer MayRefuse
  -- a refusal that is due neither to a read nor to a write changes nothing except the rack's record of reads
  pub same : IfErr answer (λ fault. (IsLate fault → ⊥) → (new.online ≡ old.online) × OnlyReads old.rack new.rack)
  pub taken : (n : ℕ) → answer ≡ Err (ReelNotFree n) → (n ≡ serial) × IsTaken serial old.rack
  pub lost : (full : Full) (n : ℕ) → answer ≡ Err (NoCopy full n) → IsFree serial old.rack
      × ((f : File) × (copy : TapeCopy) × (full ≡ full_of old.online.contents.users f.rec) × (n ≡ copy.serial) × IsFirstLost old.online old.rack f copy)
  pub full : (need room : ℕ) → answer ≡ Err (TapeFull need room) → (need ≡ needs (process_plan serial old.online)) × (room < need)
      × ForSome (reel serial old.rack.reels) (λ r. room ≡ r.capacity) × IsFree serial old.rack
  pub done : Does serial old answer new
  pub cause : ProcessCause old new answer
  pub wrote : Wrote old answer new
  pub keeps : IsStore new
  pub told : Told old → Told new
  pub belongs : Told old → Belongs old → Belongs new
  pub dumps : Told old → Belongs old → AreDumpsSafe old → AreDumpsSafe new
  -- where it ended, in terms of the bytes and the dumps that the store had; and what a power loss leaves after a stop
  pub exit : Told old → (text : ℕ → List ℕ) (shelf : ℕ → List Dump) → AreShelved shelf (told_reels old.rack) → IsUp text shelf old → old.spent ≡ false → Exits text shelf serial old answer new
  -- a store that stays up keeps the live blocks of its disc durable
  pub durable : new.spent ≡ false → IsDurable old.online → IsDurable new.online
  pub spent : (new.spent ≡ true) ↔ (answer ≡ Err Stopped)
  pub dump : (answer ≡ Err Stopped → ⊥) → new.dump ≡ old.dump
