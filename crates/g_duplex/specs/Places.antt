-- The place of a reel in its rack, and standings that are derived from a list of lost twins.
use Rattle.std.specs.Prelude.{◌≡◌, ℕ, ◌<◌, List, [], ◌∷◌, Option, Some, None, length, map, slice_index_or, find, ◌==◌}
use Rattle.g_tape.specs.Reel.{Reel}
use Rattle.g_duplex.specs.declared.twin.Twin.{Twin}
use Rattle.g_duplex.specs.declared.twin.Standing.{Standing}
use Rattle.g_duplex.specs.declared.twin.Standing.TheVariants.{Level, Apart, Lost}

-- The reel at place i is the first one with this serial.
pub record IsFirst (s : ℕ) (reels : List Reel) (i : ℕ) : Type 0 where
  pub within : i < length reels
  pub here : (d : Reel) → (slice_index_or reels i d).serial ≡ s
  pub before : (k : ℕ) (d : Reel) → k < i → (slice_index_or reels k d).serial ≡ s → ⊥

-- The standing, given the lost twin, if there is one.
abbrev pub standing_of_found : Option (ℕ × Twin) → Standing
standing_of_found None = Level
standing_of_found (Some entry) = Lost entry.1

-- The standing of the twins of this serial, given the lost twins.
abbrev pub standing_by : ℕ → List (ℕ × Twin) → Standing
standing_by s lost = standing_of_found (find (λ (entry : ℕ × Twin). entry.0 == s) lost)

-- The standings of these reels, given the lost twins.
abbrev pub standings_by : List (ℕ × Twin) → List Reel → List Standing
standings_by lost reels = map (λ (r : Reel). standing_by r.serial lost) reels

-- The twin of this serial that is lost, if one is.
abbrev pub lost_one : ℕ → Standing → List (ℕ × Twin)
lost_one s Level = []
lost_one s (Apart k) = []
lost_one s (Lost twin) = (s, twin) ∷ []
