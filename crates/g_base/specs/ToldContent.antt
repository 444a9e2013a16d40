-- Optional ghost content: a device in memory exposes what it holds, a real device doesn't.
use Rattle.std.specs.Prelude.{◌≡◌, Option, Some, None}

-- Between `before` and `now` exposed content changed as R states and is still exposed. Content that isn't exposed
-- remains so.
pub record Changes {X : Type 0} (R : X → X → Type 0) (before now : Option X) : Type 0 where
  pub told : (b : X) → before ≡ Some b → (a : X) × (now ≡ Some a) × R b a
  pub untold : before ≡ None → now ≡ None
