-- Items by number: a place for each number below 1,024, and the list of items that the places hold.
use Rattle.std.specs.Prelude.{◌≡◌, ℕ, ◌+◌, ◌≤◌, ◌<◌, ◌==◌, nat_lt, not, List, [], ◌∷◌, ◌++◌, filter, find, take, drop, length, Option, Some, None, slice_get, is_some, true}
use Rattle.std.specs.Option.{option_map}

module _ {A : Type 0} where
  -- The items at these places, each with its number, where the first place has the given number.
  abbrev pub listed_from : ℕ → List (Option A) → List (ℕ × A)
  listed_from number [] = []
  listed_from number (None ∷ places) = listed_from (number + 1) places
  listed_from number (Some item ∷ places) = (number, item) ∷ listed_from (number + 1) places

  -- The items without their numbers, in order.
  abbrev pub present : List (Option A) → List A
  present [] = []
  present (None ∷ places) = present places
  present (Some item ∷ places) = item ∷ present places

  -- The item with this number, if there is one.
  abbrev pub item_at : List (ℕ × A) → ℕ → Option A
  item_at items number = option_map (λ c. c.1) (find (λ c. c.0 == number) items)

  -- The items with one added at its place in the order of numbers; it replaces the item with the same number.
  abbrev pub with_item : ℕ → A → List (ℕ × A) → List (ℕ × A)
  with_item number item items = filter (λ c. nat_lt c.0 number) items ++ (number, item) ∷ filter (λ c. nat_lt number c.0) items

  -- The items without the one with this number.
  abbrev pub without_item : ℕ → List (ℕ × A) → List (ℕ × A)
  without_item number items = filter (λ c. not (c.0 == number)) items

  -- The item at a place, if the place exists and has one.
  abbrev pub standing : Option (Option A) → Option A
  standing None = None
  standing (Some place) = place

  -- The item at the place of a number, if there is one.
  abbrev pub standing_at : List (Option A) → ℕ → Option A
  standing_at places number = standing (slice_get places number)

  -- The places from one number up to another, exclusive, all have an item.
  abbrev pub AreTaken : ℕ → ℕ → List (Option A) → Type 0
  AreTaken from end places = (k : ℕ) → from ≤ k → k < end → is_some (standing_at places k) ≡ true

  -- Each count is that of the items in one group of 32 places.
  abbrev pub AreCounts : List ℕ → List (Option A) → Type 0
  AreCounts [] places = places ≡ []
  AreCounts (count ∷ counts) places = (count ≡ length (present (take 32 places))) × AreCounts counts (drop 32 places)

  -- The invariant of a table: 1,024 places, none used from `end` on, with the number of items in each group of 32 and
  -- in all.
  pub record IsTable (places : List (Option A)) (end : ℕ) (used : List ℕ) (count : ℕ) : Type 0 where
    pub size : length places ≡ 1024
    pub groups : length used ≡ 32
    pub within : end ≤ 1024
    pub behind : present (drop end places) ≡ []
    pub counts : AreCounts used places
    pub all : count ≡ length (present places)
