-- The chosen job: of least weight, and among those of least number.
use Rattle.std.specs.Prelude.{◌≡◌, ℕ, ◌<◌, ◌≤◌, ◌⊎◌, List, Some, slice_get}
use Rattle.std.specs.Fn.{Shared, FnReturnsAt}
use denote.Ref.{Bor}
use Rattle.g_rules.specs.declared.rule.Standing.{Standing}

-- A job may precede another, by weight and number: its weight is less, or the weights are equal and its number is no greater.
abbrev pub IsNoLater : ℕ → ℕ → ℕ → ℕ → Type 0
IsNoLater weight number weight' number' = (weight < weight') ⊎ ((weight ≡ weight') × (number ≤ number'))

-- The list has a standing at this place, and by the rule's weights no standing of the list precedes it.
pub record IsChosen {U : Type 0} (calls : Shared U (Bor Standing × Unit {0}) ℕ) (rule : U) (list : List Standing) (place : ℕ) : Type 0 where
  pub standing : Standing
  pub weight : ℕ
  pub there : slice_get list place ≡ Some standing
  pub weighed : FnReturnsAt calls rule standing weight
  pub least : (place' : ℕ) (standing' : Standing) → slice_get list place' ≡ Some standing' → (weight' : ℕ) × FnReturnsAt calls rule standing' weight' × IsNoLater weight standing.number weight' standing'.number
