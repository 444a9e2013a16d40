-- Where the first line of a text ends.
-- serves: split_line (lines, suffix)
use Rattle.std.proofs.Common.{◌≡◌, ℕ, zero, suc, ◌+◌, ◌-◌, ◌<◌, ◌≤◌, false, List, [], ◌∷◌, length, get_or, take, drop, refl, ap, arith, length-drop}
use Rattle.std.specs.Prelude.{nat_eq}
use Rattle.std.proofs.lemmas.Bool.{eq-eqb, ne_eqb}
use Rattle.g_mill.specs.Lines.{lines, before_lines}

-- the bytes before n don't end a line
abbrev pub NoneBefore : List ℕ → ℕ → Type 0
NoneBefore text n = (k : ℕ) → k < n → get_or text k 0 ≡ 10 → ⊥

none_behind : (b : ℕ) (text : List ℕ) (n : ℕ) → NoneBefore (b ∷ text) (suc n) → NoneBefore text n
none_behind b text n h = λ k below. h (suc k) (omega arith)

pub first_line : (text : List ℕ) (n : ℕ) → n < length text → NoneBefore text n → get_or text n 0 ≡ 10 → lines text ≡ take n text ∷ lines (drop (n + 1) text)
first_line [] n below h e = absurd (omega arith)
first_line (b ∷ text) zero below h e = rw (eq-eqb b 10 e) refl
first_line (b ∷ text) (suc n) below h e =
    let apart : nat_eq b 10 ≡ false = ne_eqb b 10 (h 0 (omega arith)) in
    let rest = first_line text n (omega arith) (none_behind b text n h) e in
    let behind : drop (suc n + 1) (b ∷ text) ≡ drop (n + 1) text = (let next : suc n + 1 ≡ suc (n + 1) = omega arith in ap (λ k. drop k (b ∷ text)) next) in
    rw (apart, rest, behind) refl

pub only_line : (text : List ℕ) → 0 < length text → NoneBefore text (length text) → lines text ≡ text ∷ []
only_line [] below h = absurd (omega arith)
only_line (b ∷ []) below h = rw (ne_eqb b 10 (h 0 (omega arith))) refl
only_line (b ∷ c ∷ text) below h =
    let apart : nat_eq b 10 ≡ false = ne_eqb b 10 (h 0 (omega arith)) in
    let rest : lines (c ∷ text) ≡ (c ∷ text) ∷ [] = only_line (c ∷ text) (omega arith) (none_behind b (c ∷ text) (length (c ∷ text)) h) in
    rw apart (ap (before_lines b) rest)

-- the rest of a text after n bytes is determined by its length
pub suffix_of : (text : List ℕ) (n : ℕ) → n ≤ length text → drop n text ≡ drop (length text - length (drop n text)) text
suffix_of text n h =
    let is : n ≡ length text - length (drop n text) = omega (arith, length-drop n text) in
    ap (λ k. drop k text) is
