-- Spaces at the ends of texts, and the words before them.
-- serves: CutLemmas, PartLemmas, PieceLemmas, ReadLemmas, RestLemmas, TakeLemmas, ValueLemmas, VerbLemmas
use Rattle.std.proofs.Common.{Bool, List, [], ap, append-nil, arith, false, length, nat_le, ne_eqb, not, refl, suc, sym, true, zero, ℕ, ◌&&◌, ◌++◌, ◌+◌, ◌==◌, ◌∙◌, ◌∷◌, ◌≡◌}
use Rattle.std.proofs.lemmas.Bool.{and_from, and_parts, false≢true, not-true, not_from_false, or_left, or_right}
use Rattle.std.specs.List.{list_all}
use Rattle.g_lang.specs.LineReader.{behind_word}
use Rattle.g_lang.specs.Words.{ends_well, is_label, is_trimmed, spaces, trimmed, without_back, without_front, word_of}
use Rattle.g_name.specs.Grammar.{is_digit, is_letter, is_name_char, is_word}

-- a byte of a name is no space
pub name_char-no_space : (c : ℕ) → is_name_char c ≡ true → (c == 32) ≡ false
name_char-no_space c is = ne_eqb c 32 (λ e. false≢true (ap is_name_char (sym e) ∙ is))

pub letter-name_char : (c : ℕ) → is_letter c ≡ true → is_name_char c ≡ true
letter-name_char c is = or_left _ _ (or_left _ _ is)

pub digit-name_char : (c : ℕ) → is_digit c ≡ true → is_name_char c ≡ true
digit-name_char c is = or_left _ _ (or_right _ _ is)

-- the text has no space
abbrev pub no_space : List ℕ → Bool
no_space [] = true
no_space (c ∷ cs) = not (c == 32) && no_space cs

-- a text that is empty or begins with a space
abbrev pub at_space : List ℕ → Bool
at_space [] = true
at_space (c ∷ cs) = c == 32

pub names-no_space : (xs : List ℕ) → list_all is_name_char xs ≡ true → no_space xs ≡ true
names-no_space [] all = refl
names-no_space (c ∷ cs) all =
    let both = and_parts (is_name_char c) (list_all is_name_char cs) all in
    and_from _ _ (not_from_false _ (name_char-no_space c both.0)) (names-no_space cs both.1)

-- nor does a word that begins with a character of some kind
first-no_space : (is_first : ℕ → Bool) → ((c : ℕ) → is_first c ≡ true → is_name_char c ≡ true) → (c : ℕ) (cs : List ℕ) → (is_first c && nat_le (length cs) 11 && list_all is_name_char cs) ≡ true → no_space (c ∷ cs) ≡ true
first-no_space is_first named c cs is =
    let parts = and_parts (is_first c && nat_le (length cs) 11) (list_all is_name_char cs) is in
    let first = and_parts (is_first c) (nat_le (length cs) 11) parts.0 in
    names-no_space (c ∷ cs) (and_from _ _ (named c first.0) parts.1)

pub word-no_space : (xs : List ℕ) → is_word xs ≡ true → no_space xs ≡ true
word-no_space [] is = refl
word-no_space (c ∷ cs) is = first-no_space is_letter letter-name_char c cs is

pub label-no_space : (xs : List ℕ) → is_label xs ≡ true → no_space xs ≡ true
label-no_space [] is = refl
label-no_space (c ∷ cs) is = first-no_space is_digit digit-name_char c cs is

-- the word before an empty text or a space, and what follows it
front-parts : (xs rest : List ℕ) → no_space xs ≡ true → at_space rest ≡ true → (word_of (xs ++ rest) ≡ xs) × (behind_word (xs ++ rest) ≡ without_front rest)
front-parts [] [] none at = (refl, refl)
front-parts [] (c ∷ rest) none at = (rw at refl, rw at refl)
front-parts (c ∷ cs) rest none at =
    let both = and_parts (not (c == 32)) (no_space cs) none in
    let other : (c == 32) ≡ false = not-true _ both.0 in
    let (word, behind) = front-parts cs rest both.1 at in
    (rw (other, word) refl, rw (other, behind) refl)

pub word-front : (xs rest : List ℕ) → no_space xs ≡ true → at_space rest ≡ true → word_of (xs ++ rest) ≡ xs
word-front xs rest none at = (front-parts xs rest none at).0

pub behind-front : (xs rest : List ℕ) → no_space xs ≡ true → at_space rest ≡ true → behind_word (xs ++ rest) ≡ without_front rest
behind-front xs rest none at = (front-parts xs rest none at).1

-- leading spaces
pub front-spaces : (n : ℕ) (t : List ℕ) → without_front (spaces n ++ t) ≡ without_front t
front-spaces zero t = refl
front-spaces (suc n) t = front-spaces n t

-- a text that begins with another byte than a space
abbrev pub StartsWell : List ℕ → Type 0
StartsWell [] = ⊥
StartsWell (c ∷ cs) = (c == 32) ≡ false

-- a text whose last byte is no space
abbrev pub EndsWell : List ℕ → Type 0
EndsWell [] = ⊥
EndsWell (c ∷ cs) = ends_well c cs ≡ true

pub starts-append : (xs ys : List ℕ) → StartsWell xs → StartsWell (xs ++ ys)
starts-append [] ys starts = absurd starts
starts-append (x ∷ xs) ys starts = starts

pub front-same : (t : List ℕ) → StartsWell t → without_front t ≡ t
front-same [] starts = refl
front-same (c ∷ cs) starts = rw starts refl

pub ends-cons : (x : ℕ) (zs : List ℕ) → EndsWell zs → ends_well x zs ≡ true
ends-cons x [] ends = absurd ends
ends-cons x (z ∷ zs) ends = ends

pub ends-append : (xs ys : List ℕ) → EndsWell ys → EndsWell (xs ++ ys)
ends-append [] ys ends = ends
ends-append (x ∷ xs) ys ends = ends-cons x (xs ++ ys) (ends-append xs ys ends)

pub trimmed-starts : (t : List ℕ) → is_trimmed t ≡ true → StartsWell t
trimmed-starts [] is = absurd (false≢true is)
trimmed-starts (c ∷ cs) is = not-true _ (and_parts (not (c == 32)) (ends_well c cs) is).0

pub trimmed-ends : (t : List ℕ) → is_trimmed t ≡ true → EndsWell t
trimmed-ends [] is = absurd (false≢true is)
trimmed-ends (c ∷ cs) is = (and_parts (not (c == 32)) (ends_well c cs) is).1

pub no_space-ends : (c : ℕ) (cs : List ℕ) → no_space (c ∷ cs) ≡ true → ends_well c cs ≡ true
no_space-ends c [] none = (and_parts (not (c == 32)) true none).0
no_space-ends c (d ∷ ds) none = no_space-ends d ds (and_parts (not (c == 32)) (no_space (d ∷ ds)) none).1

-- trailing spaces
pub back-spaces : (n : ℕ) → without_back (spaces n) ≡ []
back-spaces zero = refl
back-spaces (suc n) = rw (back-spaces n) refl

pub back-same : (t : List ℕ) (n : ℕ) → EndsWell t → without_back (t ++ spaces n) ≡ t
back-same [] n ends = absurd ends
back-same (c ∷ []) n ends = let other : (c == 32) ≡ false = not-true _ ends in rw (back-spaces n, other) refl
back-same (c ∷ d ∷ ds) n ends = rw (back-same (d ∷ ds) n ends) refl

-- spaces at both ends
pub trim-text : (a b : ℕ) (t : List ℕ) → StartsWell t → EndsWell t → trimmed (spaces a ++ (t ++ spaces b)) ≡ t
trim-text a b t starts ends =
    ap without_back (front-spaces a (t ++ spaces b) ∙ front-same (t ++ spaces b) (starts-append t (spaces b) starts)) ∙ back-same t b ends

pub spaces-add : (a b : ℕ) (t : List ℕ) → spaces a ++ (spaces b ++ t) ≡ spaces (a + b) ++ t
spaces-add zero b t = let e : zero + b ≡ b = omega arith in rw e refl
spaces-add (suc a) b t = let e : suc a + b ≡ suc (a + b) = omega arith in rw e (ap (λ (ts : List ℕ). 32 ∷ ts) (spaces-add a b t))

pub front_of_spaces : (n : ℕ) → without_front (spaces n) ≡ []
front_of_spaces zero = refl
front_of_spaces (suc n) = front_of_spaces n

pub spaces-two : (a b : ℕ) → spaces a ++ spaces b ≡ spaces (a + b)
spaces-two a b =
    ap (λ (ts : List ℕ). spaces a ++ ts) (sym (append-nil (spaces b))) ∙ spaces-add a b [] ∙ append-nil (spaces (a + b))
