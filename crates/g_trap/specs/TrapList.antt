-- The traps of a file, by user number.
use Rattle.std.specs.Prelude.{◌≡◌, ℕ, ◌≤◌, ◌==◌, Bool, true, not, ◌&&◌, nat_le, nat_lt, List, length, unwrap_or, is_none, filter, if◌then◌else◌}
use Rattle.std.specs.List.{list_all}
use Rattle.std.specs.Ordering.{nat_cmp}
use Rattle.std.specs.FinMap.{find, put, is_sorted}

-- The owner's modes, and the modes of each other user who has any, by user number.
pub record TrapList : Type 0 where
  pub owner : ℕ
  pub others : List (ℕ × ℕ)

-- There are at most 8 pairs, sorted by user number without duplicates. Each has a set of modes that isn't empty.
pub record IsOthers (others : List (ℕ × ℕ)) : Type 0 where
  pub rising : is_sorted nat_cmp others ≡ true
  pub used : list_all (λ pair. not (pair.1 == 0)) others ≡ true
  pub sets : list_all (λ pair. nat_lt pair.1 32) others ≡ true
  pub few : length others ≤ 8

-- The modes of a user other than the owner; no modes if the user has no pair.
abbrev pub other_modes : List (ℕ × ℕ) → ℕ → ℕ
other_modes others user = unwrap_or (find nat_cmp user others) 0

-- The pairs after a user other than the owner was given exactly these modes. A user without modes has no pair.
abbrev pub with_other : List (ℕ × ℕ) → ℕ → ℕ → List (ℕ × ℕ)
with_other others user modes =
    if modes == 0 then filter (λ pair. not (pair.0 == user)) others else put nat_cmp user modes others

-- The modes of a user for a file of this owner.
abbrev pub modes_of : TrapList → ℕ → ℕ → ℕ
modes_of traps owner user = if user == owner then traps.owner else other_modes traps.others user

-- The traps after a user was given exactly these modes.
abbrev pub with_modes : TrapList → ℕ → ℕ → ℕ → TrapList
with_modes traps owner user modes =
    if user == owner then record traps { owner = modes } else record traps { others = with_other traps.others user modes }

-- Giving a user these modes would trap a ninth user besides the owner.
abbrev pub is_ninth : List (ℕ × ℕ) → ℕ → ℕ → Bool
is_ninth others user modes = not (modes == 0) && is_none (find nat_cmp user others) && nat_le 8 (length others)
