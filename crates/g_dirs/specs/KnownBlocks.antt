-- The known blocks of a slot. A known block after the last stored one is zeros.
use Rattle.std.specs.Prelude.{ℕ, Bool, List, [], ◌∷◌, Option, Some, None, replicate, if◌then◌else◌}

-- the content of each block, if it is known
abbrev pub seen : List Bool → List (List ℕ) → List (Option (List ℕ))
seen [] blocks = []
seen (is ∷ known) [] = (if is then Some (replicate 512 0) else None) ∷ seen known []
seen (is ∷ known) (block ∷ blocks) = (if is then Some block else None) ∷ seen known blocks
