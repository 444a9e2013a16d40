-- What happens to filestore and tape when a dump is opened and when it takes a step: `Begins` and `Stepping` of `g_dumper`.
use Rattle.std.specs.List.{AllZip}
use Rattle.std.specs.Prelude.{◌≡◌, ◌⊎◌, ℕ, ◌+◌, ◌<◌, Bool, true, false, List, Option, Some, None, Result, Ok, Err, OnOk}
use Rattle.g_base.specs.Counts.{Rose}
use Rattle.g_tape.specs.Rack.{AreReels, Rack}
use Rattle.g_tape.specs.Reel.{Reel}
use Rattle.g_plain.specs.declared.faults.StoreFault.{StoreFault}
use Rattle.g_plain.specs.declared.faults.StoreFault.TheVariants.{Stopped, TapeFull}
use Rattle.g_store_model.specs.DumpSteps.{Completed, Going, Stepped}
use Rattle.g_disc_contents.specs.Facts.{Pin}
use Rattle.g_incr.specs.Layout.{Dump}
use Rattle.g_incr.specs.Plan.{dump_of, needs}
use Rattle.g_shelf.specs.CompletedDumps.{AreShelved}
use Rattle.g_store_meaning.specs.Answers.{Belongs, Told}
use Rattle.g_store_meaning.specs.Meaning.{told_reels}
use Rattle.g_store_meaning.specs.StoreInvariant.{DumpFacts, IsUp, StoreFacts, content_in, with_dump}
use Rattle.g_store_meaning.specs.Surviving.{AreDumpsSafe}
use Rattle.g_dumper.specs.Beginning.{Begins, IsTooLong, StoppedOpening}
use Rattle.g_dumper.specs.Invariant.{StepLeaves}
use Rattle.g_dumper.specs.Steps.{Stepping}

-- The new store has an open dump, which `Begins` describes.
pub record OpensAs (serial : ℕ) (old new : StoreFacts) : Type 0 where
  pub dump : DumpFacts
  pub dump_is : new.dump ≡ Some dump
  pub begins : Begins serial old.online old.rack dump new.online new.rack

-- If the opening is granted, the dump is opened so.
abbrev pub OpensDump : ℕ → StoreFacts → Result ℕ StoreFault → StoreFacts → Type 0
OpensDump serial old answer new = OnOk answer (OpensAs serial old new)

-- Why a dump wasn't opened after its reel was read, for every disc and rack: it would exceed the reel, after the completed
-- dumps there; or its commit was stopped, and it would have fitted.
pub record RefusesDump (serial : ℕ) (old : StoreFacts) (answer : Result ℕ StoreFault) (new : StoreFacts) : Type 0 where
  pub full : (need room : ℕ) → answer ≡ Err (TapeFull need room) → IsTooLong serial need room old.online old.rack
  pub stopped : answer ≡ Err Stopped → StoppedOpening serial old.online new.online old.rack

-- Whether a refusal is `Stopped`.
abbrev pub is_stop_at : StoreFault → Bool
is_stop_at Stopped = true
is_stop_at fault = false

-- A dump that continues stays open; one that is completed, given up or stopped doesn't.
abbrev pub LeavesOpen : Result Stepped StoreFault → DumpFacts → Option DumpFacts → Type 0
LeavesOpen (Ok Going) after dump = dump ≡ Some after
LeavesOpen answer after dump = dump ≡ None

-- The open dump takes a step.
pub record StepsAs (old : StoreFacts) (answer : Result Stepped StoreFault) (new : StoreFacts) : Type 0 where
  pub dump : DumpFacts
  pub dump_is : old.dump ≡ Some dump
  pub after : DumpFacts
  pub stepping : Stepping dump old.online old.rack answer after new.online new.rack
  pub left : LeavesOpen answer after new.dump

-- No fault counter that a step may raise rose.
pub record NoneRose (old new : StoreFacts) : Type 0 where
  pub disc_reads : Rose old.online.disc.read_faults new.online.disc.read_faults → ⊥
  pub disc_writes : Rose old.online.disc.write_faults new.online.disc.write_faults → ⊥
  pub tape_writes : Rose old.rack.write_faults new.rack.write_faults → ⊥

-- If none rose, a step continues, and the one that writes the last block completes the dump. Therefore a caller that takes
-- as many steps as the dump has blocks has completed it. No step runs out of memory.
pub record Progresses (old : StoreFacts) (answer : Result Stepped StoreFault) (new : StoreFacts) : Type 0 where
  pub going : (d : DumpFacts) → old.dump ≡ Some d → NoneRose old new → d.done + 1 < needs d.plan → answer ≡ Ok Going
  pub last : (d : DumpFacts) → old.dump ≡ Some d → NoneRose old new → d.done + 1 ≡ needs d.plan → answer ≡ Ok (Completed d.plan.number)

-- Which dumps are on the reels after a step: the same ones, or one more; after a stop either.
abbrev pub Adds : Result Stepped StoreFault → Type 0 → Type 0 → Type 0
Adds (Ok Going) same more = same
Adds (Ok (Completed number)) same more = more
Adds (Err Stopped) same more = same ⊎ more
Adds (Err fault) same more = same

-- Each reel has exactly the completed dumps that it had; or its own reel also has, after them, the open dump as it was
-- opened: that of its plan and of the versions pinned then.
pub record DumpsStay (shelf : ℕ → List Dump) (old : StoreFacts) (answer : Result Stepped StoreFault) (new : Rack) : Type 0 where
  pub dump : DumpFacts
  pub dump_is : old.dump ≡ Some dump
  pub pins : List Pin
  pub pinned : old.online.pins ≡ Some pins
  pub content : List (List ℕ)
  pub content_is : content_in pins ≡ Some content
  pub adds : Adds answer (AreShelved shelf (told_reels new)) (AreShelved (with_dump (dump_of dump.plan content) shelf) (told_reels new))

-- No completed dump is lost or changed, for any outcome of the step, and only the open dump is added, complete.
abbrev pub KeepsDumps : StoreFacts → Result Stepped StoreFault → StoreFacts → Type 0
KeepsDumps old answer new = Told old → Belongs old → (shelf : ℕ → List Dump) → AreShelved shelf (told_reels old.rack) → DumpsStay shelf old answer new.rack

-- What a power loss leaves after a step of the open dump (`StepLeaves` of `g_dumper`). `shelf` has the completed dumps before it; the open one
-- is as it was opened.
pub record LeavesAfterStep (shelf : ℕ → List Dump) (old : StoreFacts) (answer : Result Stepped StoreFault) (new : StoreFacts) : Type 0 where
  pub dump : DumpFacts
  pub dump_is : old.dump ≡ Some dump
  pub pins : List Pin
  pub pinned : old.online.pins ≡ Some pins
  pub content : List (List ℕ)
  pub content_is : content_in pins ≡ Some content
  pub leaves : StepLeaves answer dump shelf (with_dump (dump_of dump.plan content) shelf) old new

-- THE COMPLETED DUMPS STAY SAFE over a step (`dumps`), and `left` says which ones a power loss leaves after it, and what a stopped step did to
-- the disc. The reels are those of a rack, each with a serial of its own; they are the same ones after the step, mounted as before.
pub record KeepsDumpsSafe (old : StoreFacts) (answer : Result Stepped StoreFault) (new : StoreFacts) : Type 0 where
  pub dumps : Told old → Belongs old → AreDumpsSafe old → AreDumpsSafe new
  pub are : AreReels old.rack.reels
  pub reels : AllZip (λ (o n : Reel). (n.serial ≡ o.serial) × (n.capacity ≡ o.capacity) × (n.mounted ≡ o.mounted)) old.rack.reels new.rack.reels
  pub left : Told old → (text : ℕ → List ℕ) (shelf : ℕ → List Dump) → AreShelved shelf (told_reels old.rack) → IsUp text shelf old → AreDumpsSafe old → LeavesAfterStep shelf old answer new
