-- The state that devices represent is unique.
use Rattle.std.specs.Prelude.{◌≡◌, ℕ, List, Option}
use Rattle.g_tape.specs.Reel.{Reel}
use Rattle.g_store_model.specs.State.{State}
use Rattle.g_store_meaning.specs.Belonging.{BelongWith}
use Rattle.g_store_meaning.specs.Reading.{AllTold, DevicesStandFor}

-- If a disc and reels expose their contents and belong together, then any two states that they represent are equal.
abbrev pub DevicesAreOne : Type 0
DevicesAreOne = (size : ℕ) (held : Option (List (List ℕ))) (reels : List Reel) (s t : State)
    → AllTold held reels → BelongWith held reels → DevicesStandFor size held reels s → DevicesStandFor size held reels t → s ≡ t
