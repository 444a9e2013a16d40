-- What single system calls do to a file whose bytes are observable.
use Rattle.std.specs.Prelude.{◌≡◌, ◌⊎◌, ℕ, ◌+◌, ◌<◌, ◌≤◌, List, length, take, slice_index, Result, Ok, Err}
use Rattle.g_files.specs.Bytes.{padded, part, put}

-- A read at position `at` returned the n bytes there. It returns none only at the end of the file.
pub record HasRead (at n room : ℕ) (into bytes : List ℕ) : Type 0 where
  pub given : take n into ≡ part at n bytes
  pub some : 0 < room → n ≡ 0 → length bytes ≤ at

-- WHAT A FAILED WRITE LEAVES: in a prefix of its range, `left`, each byte is the old one or the one to be written.
pub record Mixed (at : ℕ) (from left old : List ℕ) : Type 0 where
  pub few : length left ≤ length from
  pub each : (i : ℕ) → i < length left → at + i < length old → (slice_index left i ≡ slice_index old (at + i)) ⊎ (slice_index left i ≡ slice_index from i)

-- the file holds some such mixture, and is unchanged elsewhere
abbrev pub IsMixed : ℕ → List ℕ → List ℕ → List ℕ → Type 0
IsMixed at from old new = (left : List ℕ) × Mixed at from left old × (new ≡ put at left old)

-- These bytes were to be written at position `at`. On Ok n, the first n of them were; otherwise the file holds a mixture.
abbrev pub HasWritten : {E : Type 0} → ℕ → List ℕ → Result ℕ E → List ℕ → List ℕ → Type 0
HasWritten at from (Ok n) old new = new ≡ put at (take n from) old
HasWritten at from (Err e) old new = IsMixed at from old new

-- on Ok, all of them were; otherwise the file holds a mixture
abbrev pub HasWrittenAll : {E : Type 0} → ℕ → List ℕ → Result (Unit {0}) E → List ℕ → List ℕ → Type 0
HasWrittenAll at from (Ok done) old new = new ≡ put at from old
HasWrittenAll at from (Err e) old new = IsMixed at from old new

-- The length was to be set to n. On Ok it was; otherwise it was, or nothing changed: a length is changed at once.
abbrev pub HasCut : {E : Type 0} → ℕ → Result (Unit {0}) E → List ℕ → List ℕ → Type 0
HasCut n (Ok done) old new = new ≡ padded n old
HasCut n (Err e) old new = (new ≡ old) ⊎ (new ≡ padded n old)
