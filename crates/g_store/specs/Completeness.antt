-- Completeness of FORMAT, START, RESTORE and PROCESS: if no fault counter rose, they can only be refused for their own
-- reasons or run out of memory.
use Rattle.std.specs.Prelude.{◌≡◌, ℕ, ◌≤◌, true, false, List, Err, Contains, Some, None, IfSome}
use Rattle.std.specs.Option.{ForSome}
use Rattle.g_base.specs.Counts.{Rose}
use Rattle.g_disc.specs.Disc.{DiscState}
use Rattle.g_tape.specs.Rack.{AreReels, Rack, is_mounted, reel}
use Rattle.g_plain.specs.declared.faults.StoreFault.{StoreFault}
use Rattle.g_plain.specs.declared.faults.StoreFault.TheVariants.{NoMemory}
use Rattle.g_disc_contents.specs.Contents.{Contents, Holds}
use Rattle.g_incr.specs.Layout.{Dump}
use Rattle.g_incr.specs.Plan.{needs}
use Rattle.g_shelf.specs.CompletedDumps.{AreShelved, all_dumps}
use Rattle.g_shelf.specs.LastDump.{first_unmounted}
use Rattle.g_store_meaning.specs.Answers.{Belongs, Told}
use Rattle.g_store_meaning.specs.Belonging.{Belong}
use Rattle.g_store_meaning.specs.Meaning.{told_reels}
use Rattle.g_store_meaning.specs.Reading.{ReelsTold}
use Rattle.g_store_meaning.specs.StoreInvariant.{StoreFacts}
use Rattle.g_process.specs.ProcessPlan.{IsFree, process_plan}
use Rattle.g_process.specs.Processing.{Processes, process_refuses}
use Rattle.g_store.specs.Making.{RefusesFormat, RefusesRestore, RefusesStart}
use Rattle.g_store.specs.Refusing.{first_used}

-- No fault counter of these devices rose.
pub record NoDeviceFailed (disc : DiscState) (rack : Rack) (disc' : DiscState) (rack' : Rack) : Type 0 where
  pub disc_reads : Rose disc.read_faults disc'.read_faults → ⊥
  pub disc_writes : Rose disc.write_faults disc'.write_faults → ⊥
  pub tape_reads : Rose rack.read_faults rack'.read_faults → ⊥

-- FORMAT, START and RESTORE, if refused although no fault counter rose and their own premises hold, ran out of memory.
pub record MakingIsComplete : Type 0 where
  -- FORMAT on empty reels
  pub format : (disc : DiscState) (rack : Rack) (fault : StoreFault) (disc' : DiscState) (rack' : Rack) → first_used rack.reels ≡ None → NoDeviceFailed disc rack disc' rack'
      → RefusesFormat disc rack fault disc' rack' → fault ≡ NoMemory
  -- START from a disc that holds a filestore, without an intent or with its reel mounted
  pub start : (disc : DiscState) (rack : Rack) (fault : StoreFault) (disc' : DiscState) (rack' : Rack) (blocks : List (List ℕ)) (c : Contents) → disc.held ≡ Some blocks → Holds blocks c
      → IfSome c.head.intent (λ i. is_mounted (reel i.serial rack.reels) ≡ true) → NoDeviceFailed disc rack disc' rack' → RefusesStart disc rack fault disc' rack' → fault ≡ NoMemory
  -- RESTORE with all reels mounted and a completed dump, if disc and rack belong together
  pub restore : (disc : DiscState) (rack : Rack) (fault : StoreFault) (disc' : DiscState) (rack' : Rack) (shelf : ℕ → List Dump) (d : Dump) → ReelsTold (told_reels rack)
      → AreShelved shelf (told_reels rack) → Contains (all_dumps shelf (told_reels rack)) d → first_unmounted rack.reels ≡ None → Belong disc.held rack
      → NoDeviceFailed disc rack disc' rack' → RefusesRestore disc rack fault disc' rack' → fault ≡ NoMemory

-- PROCESS of a store that is up, on devices that expose their contents and belong together: no refusal that needs no read
-- applies, and the reel is free and has room.
pub record ProcessIsComplete : Type 0 where
  pub process : (serial : ℕ) (old new : StoreFacts) (fault : StoreFault) → old.spent ≡ false → AreReels old.rack.reels → Told old → Belongs old → process_refuses serial old ≡ None
      → IsFree serial old.rack → ForSome (reel serial old.rack.reels) (λ r. needs (process_plan serial old.online) ≤ r.capacity)
      → NoDeviceFailed old.online.disc old.rack new.online.disc new.rack → (Rose old.rack.write_faults new.rack.write_faults → ⊥)
      → Processes serial old (Err fault) new → fault ≡ NoMemory
