-- What of a store survives a power loss: the completed dumps of its reels, and what its disc holds.
use Rattle.std.specs.Prelude.{◌≡◌, ◌⊎◌, ℕ, ◌<◌, true, false, List, [], Some, IfSome, Result, Ok, Err}
use Rattle.std.specs.Option.{ForSome}
use Rattle.g_disc.specs.Disc.{DiscState}
use Rattle.g_disc.specs.Durable.{MayLeave}
use Rattle.g_dirs.specs.Durable.{IsDiscSafe}
use Rattle.g_tape.specs.Durable.{AfterPowerLoss}
use Rattle.g_tape.specs.Rack.{Rack}
use Rattle.g_plain.specs.declared.faults.StoreFault.{StoreFault}
use Rattle.g_plain.specs.declared.faults.StoreFault.TheVariants.{Stopped}
use Rattle.g_disc_contents.specs.Durable.{IsDurable}
use Rattle.g_incr.specs.Layout.{Dump}
use Rattle.g_shelf.specs.CompletedDumps.{AreCompleted}
use Rattle.g_shelf.specs.Surviving.{CanSurvive, DumpsSurvive, IsBegunDurably}
use Rattle.g_store_meaning.specs.StoreInvariant.{StoreFacts}

-- THE DUMPS OF A STORE ARE SAFE: between two events of a store that is up, the completed dumps of each reel survive a power loss, and an
-- open dump is begun durably. After a failed write they survive once the reels were secured.
pub record AreDumpsSafe (s : StoreFacts) : Type 0 where
  pub up : s.spent ≡ false → (serial : ℕ) → DumpsSurvive serial s.rack
  pub can : (serial : ℕ) → CanSurvive serial s.rack
  pub open_dump : s.spent ≡ false → IfSome s.dump (λ d. 0 < d.done → IsBegunDurably d.plan.serial d.plan.place d.done s.rack)

-- The rack was made durable: completed dumps that could survive a power loss now do.
abbrev pub DumpsMadeSafe : Rack → Rack → Type 0
DumpsMadeSafe old new = (serial : ℕ) → CanSurvive serial old → DumpsSurvive serial new

-- It was made durable before this answer was given. Only an answer that a store was made, or that a write failed, promises that.
abbrev pub DumpsMadeSafeBy : {A : Type 0} → Result A StoreFault → Rack → Rack → Type 0
DumpsMadeSafeBy (Ok reply) old new = DumpsMadeSafe old new
DumpsMadeSafeBy (Err Stopped) old new = DumpsMadeSafe old new
DumpsMadeSafeBy (Err fault) old new = Unit {0}

-- Whatever a power loss leaves of a reel, it has these completed dumps.
abbrev pub PowerLossLeavesDumps : ℕ → Rack → List Dump → Type 0
PowerLossLeavesDumps serial rack dumps = AfterPowerLoss serial rack (λ left. AreCompleted serial left dumps)

-- Whatever it leaves, the reel has these dumps or those.
abbrev pub PowerLossLeavesEither : ℕ → Rack → List Dump → List Dump → Type 0
PowerLossLeavesEither serial rack one other = AfterPowerLoss serial rack (λ left. AreCompleted serial left one ⊎ AreCompleted serial left other)

-- A disc after a power loss that left these blocks: all of them are durable.
abbrev pub disc_left : List (List ℕ) → DiscState → DiscState
disc_left left d = record d { held = Some left; volatile = []; dropped = [] }

-- A store after its disc lost power, which left these blocks.
abbrev pub with_disc_left : List (List ℕ) → StoreFacts → StoreFacts
with_disc_left left s = record s { online = record s.online { disc = disc_left left s.online.disc } }

-- WHAT SURVIVES ON THE DISC of a store whose live blocks were durable: after an answer of a store that is up, its live blocks are durable.
-- After a failed write the disc is safe, and P holds of the store with whatever a power loss leaves on its disc.
pub record SurvivesOnDisc (P : StoreFacts → Type 0) (old new : StoreFacts) : Type 0 where
  pub up : new.spent ≡ false → IsDurable old.online → IsDurable new.online
  pub safe : new.spent ≡ true → IsDurable old.online → IsDiscSafe new.online.disc
  pub left : new.spent ≡ true → IsDurable old.online
      → ForSome old.online.disc.held (λ _. (left : List (List ℕ)) → MayLeave new.online.disc left → P (with_disc_left left new))
