-- A safe store, devices on which one can be made, and what a power loss leaves of both. For the laws of g_laws_power and the clauses of a run.
use Rattle.std.specs.Prelude.{◌≡◌, ℕ, true, false, List, All, Some, is_some}
use Rattle.std.specs.List.{AllZip}
use Rattle.std.specs.Option.{ForSome}
use Rattle.g_dirs.specs.Durable.{IsDiscSafe}
use Rattle.g_disc.specs.Disc.{DiscState}
use Rattle.g_disc.specs.Durable.{MayLeave as MayLeaveDisc}
use Rattle.g_tape.specs.Durable.{IsDurable}
use Rattle.g_tape.specs.Rack.{Rack}
use Rattle.g_tape.specs.Reads.{MayLeave}
use Rattle.g_tape.specs.Reel.{Reel}
use Rattle.g_disc_contents.specs.Durable as contents
use Rattle.g_shelf.specs.Surviving.{CanSurvive, DumpsSurvive}
use Rattle.g_store_model.specs.State.{ReelRow, State}
use Rattle.g_store_meaning.specs.Answers.{Belongs, IsStore, Told}
use Rattle.g_store_meaning.specs.Belonging.{Belong}
use Rattle.g_store_meaning.specs.Meaning.{told_reels}
use Rattle.g_store_meaning.specs.Reading.{AllTold, DevicesStandFor}
use Rattle.g_store_meaning.specs.StoreInvariant.{StoreFacts}
use Rattle.g_store_meaning.specs.Surviving.{AreDumpsSafe, disc_left}

-- A reel after a power loss: it isn't mounted, and has blocks that the loss may leave.
pub record IsReelLeft (old : Rack) (was now : Reel) : Type 0 where
  pub serial : now.serial ≡ was.serial
  pub capacity : now.capacity ≡ was.capacity
  pub mounted : now.mounted ≡ false
  pub told : is_some now.blocks ≡ true
  pub blocks : ForSome now.blocks (MayLeave was.serial old)

-- A rack after a power loss: what is left of each reel, and all of it is durable.
pub record IsRackLeft (old new : Rack) : Type 0 where
  pub reels : AllZip (IsReelLeft old) old.reels new.reels
  pub durable : (serial : ℕ) → IsDurable serial new

-- These blocks and this rack are what a power loss may leave of a disc and a rack.
pub record IsLeft (disc : DiscState) (old : Rack) (blocks : List (List ℕ)) (rack : Rack) : Type 0 where
  pub on_disc : MayLeaveDisc disc blocks
  pub reels : IsRackLeft old rack

-- A SAFE STORE: it is up, its devices expose their contents and belong together, and what they hold survives a power loss.
pub record IsSafe (s : StoreFacts) : Type 0 where
  pub told : Told s
  pub store : IsStore s
  pub up : s.spent ≡ false
  pub belongs : Belongs s
  pub disc : contents.IsDurable s.online
  pub dumps : AreDumpsSafe s

-- Devices on which a store can be made that is safe: they expose their contents and belong together, the disc is safe, and the dumps survive a
-- power loss, or will once the rack was made durable. FORMAT, which needs a rack without blocks, doesn't make it durable: no dump can come back
-- on such a rack.
pub record CanBeSafe (disc : DiscState) (rack : Rack) : Type 0 where
  pub told : AllTold disc.held (told_reels rack)
  pub belong : Belong disc.held rack
  pub disc_safe : IsDiscSafe disc
  pub dumps : (serial : ℕ) → CanSurvive serial rack
  pub blank : All (λ r. r.len ≡ 0) rack.reels → (serial : ℕ) → DumpsSurvive serial rack

-- SAFE DEVICES of a system that is down: as they are and after any power loss, a safe store can be made on them.
pub record AreSafe (disc : DiscState) (rack : Rack) : Type 0 where
  pub now : CanBeSafe disc rack
  pub left : (blocks : List (List ℕ)) (after : Rack) → IsLeft disc rack blocks after → CanBeSafe (disc_left blocks disc) after

-- A row of the same reel, with the same dumps; but the reel isn't mounted, and may have blocks or none.
pub record IsRowLike (a b : ReelRow) : Type 0 where
  pub serial : b.serial ≡ a.serial
  pub capacity : b.capacity ≡ a.capacity
  pub mounted : b.mounted ≡ false
  pub dumps : b.dumps ≡ a.dumps

-- THE SAME STATE, apart from which reels are mounted, and which of them have a block.
pub record IsLike (u v : State) : Type 0 where
  pub same : v ≡ record u { reels = v.reels }
  pub reels : AllZip IsRowLike u.reels v.reels

-- The devices represent a state like this one.
pub record StandLike (size : ℕ) (blocks : List (List ℕ)) (rack : Rack) (u : State) : Type 0 where
  pub state : State
  pub stands : DevicesStandFor size (Some blocks) (told_reels rack) state
  pub like : IsLike u state
