-- Invariants of the loops of the layout.
-- serves: put_line, trimmed_len (trimmed)
use Rattle.std.proofs.Common.{◌≡◌, ℕ, suc, ◌+◌, ◌-◌, ◌/◌, ◌%◌, ◌<◌, ◌≤◌, List, [], ◌∷◌, ◌++◌, length, map, take, get_or, refl, sym, ◌∙◌, ap, arith, false}
use Rattle.std.specs.Prelude.{slice_index, slice_set, nat_eq}
use Rattle.std.specs.List.{range_with_len}
use Rattle.std.proofs.lemmas.Bool.{ne_eqb}
use Rattle.std.proofs.lemmas.List.{take_more}
use Rattle.g_peri.specs.Layout.{before_rest, trimmed, with_words}

-- a space at the end is trimmed
trimmed-space : (bytes : List ℕ) → trimmed (bytes ++ 32 ∷ []) ≡ trimmed bytes
trimmed-space [] = refl
trimmed-space (b ∷ bytes) = ap (before_rest b) (trimmed-space bytes)

before_rest-some : (b c : ℕ) (bytes rest : List ℕ) → rest ≡ bytes ++ c ∷ [] → before_rest b rest ≡ b ∷ rest
before_rest-some b c [] rest e = rw e refl
before_rest-some b c (d ∷ bytes) rest e = rw e refl

-- another byte at the end stays, with all before it
trimmed-other : (bytes : List ℕ) (c : ℕ) → nat_eq c 32 ≡ false → trimmed (bytes ++ c ∷ []) ≡ bytes ++ c ∷ []
trimmed-other [] c e = rw e refl
trimmed-other (b ∷ bytes) c e = ap (before_rest b) (trimmed-other bytes c e) ∙ before_rest-some b c bytes _ refl

-- one space less
pub trimmed_less : (bytes : List ℕ) (end : ℕ) → 0 < end → end ≤ length bytes → get_or bytes (end - 1) 0 ≡ 32 → trimmed (take (end - 1) bytes) ≡ trimmed (take end bytes)
trimmed_less bytes end some within e =
    let more : take (end - 1 + 1) bytes ≡ take (end - 1) bytes ++ get_or bytes (end - 1) 0 ∷ [] = take_more bytes (end - 1) 0 (omega arith) in
    let whole : end - 1 + 1 ≡ end = omega arith in
    let split : take end bytes ≡ take (end - 1) bytes ++ 32 ∷ [] = ap (λ n. take n bytes) (sym whole) ∙ more ∙ ap (λ b. take (end - 1) bytes ++ b ∷ []) e in
    sym (ap trimmed split ∙ trimmed-space (take (end - 1) bytes))

-- after another byte nothing is trimmed
pub trimmed_whole : (bytes : List ℕ) (end : ℕ) → 0 < end → end ≤ length bytes → (get_or bytes (end - 1) 0 ≡ 32 → ⊥) → take end bytes ≡ trimmed (take end bytes)
trimmed_whole bytes end some within apart =
    let last = get_or bytes (end - 1) 0 in
    let more : take (end - 1 + 1) bytes ≡ take (end - 1) bytes ++ get_or bytes (end - 1) 0 ∷ [] = take_more bytes (end - 1) 0 (omega arith) in
    let whole : end - 1 + 1 ≡ end = omega arith in
    let split : take end bytes ≡ take (end - 1) bytes ++ last ∷ [] = ap (λ n. take n bytes) (sym whole) ∙ more in
    split ∙ sym (ap trimmed split ∙ trimmed-other (take (end - 1) bytes) last (ne_eqb last 32 apart))

-- words written over others, the first and the rest
pub with_words_next : (words : List ℕ) (from j n : ℕ) (f : ℕ → ℕ) → j < n → with_words words (from + j) (map f (range_with_len j (n - j))) ≡ with_words (slice_set words (from + j) (f j)) (from + (j + 1)) (map f (range_with_len (j + 1) (n - (j + 1))))
with_words_next words from j n f below =
    let left : n - j ≡ suc (n - (j + 1)) = omega arith in
    let next : from + j + 1 ≡ from + (j + 1) = omega arith in
    ap (λ k. with_words words (from + j) (map f (range_with_len j k))) left ∙ ap (λ a. with_words (slice_set words (from + j) (f j)) a (map f (range_with_len (j + 1) (n - (j + 1))))) next
