-- What a power loss leaves of disc and reels after a stop of PROCESS. `old` is the store before it, `new` after it.
use Rattle.std.specs.Prelude.{ℕ, List}
use Rattle.std.specs.Option.{ForSome}
use Rattle.g_disc_contents.specs.Durable.{IsDurable, StopsSafely}
use Rattle.g_incr.specs.Layout.{Dump}
use Rattle.g_store_meaning.specs.StoreInvariant.{StoreFacts}
use Rattle.g_store_meaning.specs.Surviving.{AreDumpsSafe, PowerLossLeavesDumps, PowerLossLeavesEither}

-- What the disc holds after a stop; and what it holds after a power loss too, if its live blocks were durable before.
pub record LeavesOnDisc (P : List (List ℕ) → Type 0) (old new : StoreFacts) : Type 0 where
  pub now : ForSome new.online.disc.held P
  pub survives : StopsSafely P old.online new.online

-- If the live blocks of the disc were durable before, they are durable after it.
abbrev pub StaysDurable : StoreFacts → StoreFacts → Type 0
StaysDurable old new = IsDurable old.online → IsDurable new.online

-- If the completed dumps were safe before, each reel has the dumps of this shelf after a power loss.
abbrev pub LeavesShelf : (ℕ → List Dump) → StoreFacts → StoreFacts → Type 0
LeavesShelf shelf old new = AreDumpsSafe old → (n : ℕ) → PowerLossLeavesDumps n new.rack (shelf n)

-- If the completed dumps were safe before, each reel has the dumps of the one shelf or of the other after a power loss.
abbrev pub LeavesEitherShelf : (ℕ → List Dump) → (ℕ → List Dump) → StoreFacts → StoreFacts → Type 0
LeavesEitherShelf one other old new = AreDumpsSafe old → (n : ℕ) → PowerLossLeavesEither n new.rack (one n) (other n)
