-- The dumps of reels, as a restore reads them.
use Rattle.std.specs.Prelude.{◌≡◌, ℕ, List, [], ◌∷◌, ◌++◌}
use Rattle.std.specs.Option.{ForSome}
use Rattle.g_tape.specs.Reel.{Reel}
use Rattle.g_incr.specs.Layout.{Dump}
use Rattle.g_shelf.specs.CompletedDumps.{AreCompleted, AreShelved, all_dumps}
use Rattle.g_shelf.specs.FoundDumps.{AreInRow}
use Rattle.g_store_meaning.specs.Reading.{ReelsTold}

-- The dumps of a reel: they follow one another from its first block on, with increasing numbers, and satisfy the rules of
-- dumps. If the reel exposes its blocks, they are its completed dumps.
pub record AreOn (r : Reel) (dumps : List Dump) : Type 0 where
  pub row : AreInRow r.serial 0 0 dumps
  pub completed : ForSome r.blocks (λ blocks. AreCompleted r.serial blocks dumps)

-- The dumps of all reels, in the order of the reels.
abbrev pub AreOnReels : List Reel → List Dump → Type 0
AreOnReels [] dumps = dumps ≡ []
AreOnReels (r ∷ rs) dumps = (here : List Dump) × (rest : List Dump) × (dumps ≡ here ++ rest) × AreOn r here × AreOnReels rs rest

-- If the reels expose their blocks, these are all completed dumps.
abbrev pub AreAllDumps : Type 0
AreAllDumps = (reels : List Reel) (dumps : List Dump) (shelf : ℕ → List Dump) → ReelsTold reels → AreShelved shelf reels
    → AreOnReels reels dumps → dumps ≡ all_dumps shelf reels
