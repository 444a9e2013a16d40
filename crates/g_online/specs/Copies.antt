-- The copies on disc by file number, in rising order, and how their list changes.
use Rattle.std.specs.Prelude.{ℕ, ◌==◌, nat_lt, not, List, ◌∷◌, ◌++◌, filter}
use Rattle.g_copy.specs.declared.copy.DiscCopy.{DiscCopy}
use Rattle.g_disc_contents.specs.Contents.{has}

-- The list with this copy at its place, replacing a copy of the same number.
abbrev pub with_copy_at : ℕ × DiscCopy → List (ℕ × DiscCopy) → List (ℕ × DiscCopy)
with_copy_at c online = filter (λ d. nat_lt d.0 c.0) online ++ c ∷ filter (λ d. nat_lt c.0 d.0) online

-- The list without the copy of this number.
abbrev pub without_copy : ℕ → List (ℕ × DiscCopy) → List (ℕ × DiscCopy)
without_copy number online = filter (λ c. not (c.0 == number)) online

-- The list without the copies of these numbers.
abbrev pub without_copies : List ℕ → List (ℕ × DiscCopy) → List (ℕ × DiscCopy)
without_copies numbers online = filter (λ c. not (has numbers c.0)) online
