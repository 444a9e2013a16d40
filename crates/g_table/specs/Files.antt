-- The records of files, in order of their numbers.
use Rattle.std.specs.Prelude.{◌≡◌, ℕ, ◌==◌, nat_lt, not, List, ◌∷◌, ◌++◌, filter, find, Option}
use Rattle.std.specs.List.{AllByRecursion}
use Rattle.g_entry.specs.declared.file_rec.FileRec.{FileRec}

-- Each record is paired with its own number.
abbrev pub HaveNumbers : List (ℕ × FileRec) → Type 0
HaveNumbers items = AllByRecursion (λ c. c.0 ≡ c.1.number) items

-- The record with this number, if there is one.
abbrev pub rec_at : List FileRec → ℕ → Option FileRec
rec_at files number = find (λ r. r.number == number) files

-- The records with r added at its place in the order; it replaces the record with the same number.
abbrev pub with_rec : FileRec → List FileRec → List FileRec
with_rec r files = filter (λ s. nat_lt s.number r.number) files ++ r ∷ filter (λ s. nat_lt r.number s.number) files

-- The records without the one with this number.
abbrev pub without_rec : ℕ → List FileRec → List FileRec
without_rec number files = filter (λ r. not (r.number == number)) files
