-- The place of a user's pair among pairs sorted by user number.
use Rattle.std.specs.Prelude.{◌≡◌, ℕ, ◌<◌, ◌≤◌, List, length}
use Rattle.std.specs.List.{HoldsAt, AllWithin}

-- The pair at the place is the user's.
pub record StandsAt (user : ℕ) (others : List (ℕ × ℕ)) (place : ℕ) : Type 0 where
  pub within : place < length others
  pub has : HoldsAt (λ pair. pair.0 ≡ user) others place

-- The place is where the user's pair would fit: the users before it have lower numbers, and those from it on greater
-- ones.
pub record FitsAt (user : ℕ) (others : List (ℕ × ℕ)) (place : ℕ) : Type 0 where
  pub within : place ≤ length others
  pub below : AllWithin (λ pair. pair.0 < user) others 0 place
  pub above : AllWithin (λ pair. user < pair.0) others place (length others)
