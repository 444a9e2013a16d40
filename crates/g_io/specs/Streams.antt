-- What a source has left and what a sink has received, if they expose it, and their fault counts.
use Rattle.std.specs.Prelude.{◌≡◌, ℕ, ◌≤◌, ◌<◌, List, ◌++◌, length, take, drop, Option, Some, None, Result, Ok, Err}
use Rattle.g_base.specs.Counts.{Rose}

-- A read of n bytes moved them from the front of `left` to the front of a buffer and left the rest of the buffer
-- unchanged. It returns no bytes if and only if none are left.
pub record IsTaken (left : List ℕ) (n : ℕ) (old new : List ℕ) (rest : Option (List ℕ)) : Type 0 where
  pub within : n ≤ length left
  pub rest_is : rest ≡ Some (drop n left)
  pub into : new ≡ take n left ++ drop n old
  -- n is 0 only at the end of the data
  pub some : 0 < length left → 0 < n

-- The same for a source that may not expose what it has left.
abbrev pub Takes : Option (List ℕ) → ℕ → List ℕ → List ℕ → Option (List ℕ) → Type 0
Takes (Some left) n old new rest = IsTaken left n old new rest
Takes None n old new rest = rest ≡ None

-- What was written, with more appended, if it is exposed.
abbrev pub with_more : Option (List ℕ) → List ℕ → Option (List ℕ)
with_more (Some bytes) more = Some (bytes ++ more)
with_more None more = None

-- A prefix of the text, possibly empty, was appended.
abbrev pub HasPutPart : Option (List ℕ) → List ℕ → Option (List ℕ) → Type 0
HasPutPart before text after = (n : ℕ) × (n ≤ length text) × (after ≡ with_more before (take n text))

-- A fault count rises if the call failed and is unchanged otherwise.
abbrev pub CountsFault : {T E : Type 0} → Result T E → ℕ → ℕ → Type 0
CountsFault (Ok value) before after = after ≡ before
CountsFault (Err error) before after = Rose before after
