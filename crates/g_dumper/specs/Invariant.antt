-- What the opening of a dump and its steps preserve, for any store that the filestore and the rack belong to.
use Rattle.std.specs.Prelude.{◌≡◌, ℕ, ◌+◌, ◌<◌, true, false, List, Option, Some, None, Result, Ok, Err}
use Rattle.g_tape.specs.Rack.{Rack, reel}
use Rattle.g_tape.specs.Reel.{Reel}
use Rattle.g_plain.specs.declared.faults.StoreFault.{StoreFault}
use Rattle.g_plain.specs.declared.faults.StoreFault.TheVariants.{Stopped}
use Rattle.g_store_model.specs.DumpSteps.{Stepped, Going, Completed}
use Rattle.g_disc_contents.specs.Facts.{OnlineFacts}
use Rattle.g_incr.specs.Layout.{Dump}
use Rattle.g_incr.specs.Plan.{dump_of, needs}
use Rattle.g_online.specs.Outcomes.{StoppedClosing}
use Rattle.g_shelf.specs.CompletedDumps.{AreShelved}
use Rattle.g_shelf.specs.Surviving.{DumpsSurvive}
use Rattle.g_store_meaning.specs.Answers.{Belongs, IsStore, Told}
use Rattle.g_store_meaning.specs.Meaning.{told_reels}
use Rattle.g_store_meaning.specs.StoreInvariant.{DumpFacts, IsOpen, IsUp, StoreFacts, content_in, with_dump}
use Rattle.g_store_meaning.specs.Surviving.{AreDumpsSafe, PowerLossLeavesDumps, PowerLossLeavesEither}

-- A store that is up, and one that is spent.
abbrev pub up_with : OnlineFacts → Rack → Option DumpFacts → StoreFacts
up_with o rack dump = record { online = o; rack = rack; dump = dump; spent = false }

-- A spent store with these devices.
abbrev pub spent_with : OnlineFacts → Rack → StoreFacts
spent_with o rack = record { online = o; rack = rack; dump = None; spent = true }

-- The store after an opening.
abbrev pub behind_opening : Result DumpFacts StoreFault → OnlineFacts → Rack → StoreFacts
behind_opening (Ok d) o rack = up_with o rack (Some d)
behind_opening (Err Stopped) o rack = spent_with o rack
behind_opening (Err fault) o rack = up_with o rack None

-- The store after a step: the dump continues, or it is completed or given up.
abbrev pub behind_step : Result Stepped StoreFault → DumpFacts → OnlineFacts → Rack → StoreFacts
behind_step (Ok Going) d o rack = up_with o rack (Some d)
behind_step (Ok (Completed number)) d o rack = up_with o rack None
behind_step (Err Stopped) d o rack = spent_with o rack
behind_step (Err fault) d o rack = up_with o rack None

-- The store preserves its invariant. If all devices expose their contents they still do, disc and rack still belong
-- together, including the open dump, and the completed dumps are still safe.
pub record KeepsStore (old new : StoreFacts) : Type 0 where
  pub store : IsStore old → IsStore new
  pub told : Told old → Told new
  pub belongs : Told old → IsStore old → Belongs old → Belongs new
  pub dumps : Told old → IsStore old → Belongs old → AreDumpsSafe old → AreDumpsSafe new

-- A dump that completes lies on its reel after the others, and is the one that was opened: that of its plan and of the
-- versions pinned then, for all later changes of the files.
pub record CompletesOpening (d : DumpFacts) (old new : StoreFacts) : Type 0 where
  pub dumped : Told old → (is : IsOpen d old.online old.rack) (text : ℕ → List ℕ) (shelf : ℕ → List Dump) → AreShelved shelf (told_reels old.rack) → IsUp text shelf old
      → (content : List (List ℕ)) → content_in is.pins ≡ Some content
      → AreShelved (with_dump (dump_of d.plan content) shelf) (told_reels new.rack) × IsUp text (with_dump (dump_of d.plan content) shelf) new

-- Whatever a power loss leaves, each reel has exactly these completed dumps; and those that it has now survive.
pub record SurviveAs (shelf : ℕ → List Dump) (rack : Rack) : Type 0 where
  pub left : (serial : ℕ) → PowerLossLeavesDumps serial rack (shelf serial)
  pub survive : (serial : ℕ) → DumpsSurvive serial rack

-- The rack has the reel, with at least one block.
pub record HasBlock (serial : ℕ) (rack : Rack) : Type 0 where
  pub on : Reel
  pub is : reel serial rack.reels ≡ Some on
  pub len : 0 < on.len

-- WHAT A POWER LOSS LEAVES AFTER A STOPPED STEP of dump d, of disc and reels, by where it stopped. `shelf` has the completed dumps before the
-- step, and `more` has the open dump too.
pub data StoppedStepLeaves (d : DumpFacts) (shelf more : ℕ → List Dump) (old new : StoreFacts) : Type 0 where
  -- before the mark: the filestore is unchanged, and the reels have their dumps
  StopsBeforeMark : d.done + 1 < needs d.plan → new.online ≡ old.online → SurviveAs shelf new.rack → StoppedStepLeaves d shelf more old new
  -- at the mark: the filestore is unchanged, the reels have their dumps or also the open one, and the reel of the open one has a block
  StopsAtMark : d.done + 1 ≡ needs d.plan → new.online ≡ old.online → ((serial : ℕ) → PowerLossLeavesEither serial new.rack (shelf serial) (more serial))
      → HasBlock d.plan.serial new.rack → StoppedStepLeaves d shelf more old new
  -- at the commit after the mark: the reels have the open dump too, and the disc holds the old contents or those of the closed dump
  StopsAtClosing : d.done + 1 ≡ needs d.plan → StoppedClosing d.plan.number old.online new.online → SurviveAs more new.rack → StoppedStepLeaves d shelf more old new

-- The same after any step: if it wasn't stopped, the reels have the open dump too exactly if it is completed.
abbrev pub StepLeaves : Result Stepped StoreFault → DumpFacts → (ℕ → List Dump) → (ℕ → List Dump) → StoreFacts → StoreFacts → Type 0
StepLeaves (Ok Going) d shelf more old new = SurviveAs shelf new.rack
StepLeaves (Ok (Completed number)) d shelf more old new = SurviveAs more new.rack
StepLeaves (Err Stopped) d shelf more old new = StoppedStepLeaves d shelf more old new
StepLeaves (Err fault) d shelf more old new = SurviveAs shelf new.rack

-- After a step a power loss leaves each reel with the dumps that it had, or with the open dump completed after them, as `StepLeaves` says: with
-- the open dump if the disc may name its copies.
pub record LeavesDumps (d : DumpFacts) (old : StoreFacts) (answer : Result Stepped StoreFault) (new : StoreFacts) : Type 0 where
  pub left : Told old → (is : IsOpen d old.online old.rack) (text : ℕ → List ℕ) (shelf : ℕ → List Dump) → AreShelved shelf (told_reels old.rack) → IsUp text shelf old
      → (content : List (List ℕ)) → content_in is.pins ≡ Some content → AreDumpsSafe old → StepLeaves answer d shelf (with_dump (dump_of d.plan content) shelf) old new
