-- Short texts, stored in a field of fixed size and padded with zeros.
use Rattle.std.specs.Prelude.{◌≡◌, ℕ, ◌-◌, ◌≤◌, List, ◌++◌, length, take, drop, replicate}
use Rattle.std.proofs.Common.{sym, ap, ◌∙◌, arith, length-take-le, take-append-drop}
use Rattle.g_base.specs.Fields.{padded}

-- The `room` bytes hold a text in the first `len` and zeros in the others.
pub record IsShort (room len : ℕ) (bytes : List ℕ) : Type 0 where
  pub within : len ≤ room
  pub size : length bytes ≡ room
  pub zeros : drop len bytes ≡ replicate (room - len) 0

-- The bytes are the text padded with zeros.
pub short_bytes : (room len : ℕ) (bytes : List ℕ) → IsShort room len bytes → bytes ≡ padded room (take len bytes)
unfolding padded
short_bytes room len bytes is =
    let size = is.size in
    let within = is.within in
    let long : length (take len bytes) ≡ len = length-take-le len bytes (omega arith) in
    sym (take-append-drop len bytes) ∙ ap (λ (z : List ℕ). take len bytes ++ z) is.zeros
    ∙ ap (λ (n : ℕ). take len bytes ++ replicate {A = ℕ} (room - n) 0) (sym long)

-- The text has `len` bytes.
pub short_length : (room len : ℕ) (bytes : List ℕ) → IsShort room len bytes → length (take len bytes) ≡ len
short_length room len bytes is =
    let size = is.size in
    let within = is.within in length-take-le len bytes (omega arith)
