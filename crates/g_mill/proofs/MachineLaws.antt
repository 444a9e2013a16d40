-- Invariants of the loops of the mill.
-- serves: characters (length), copy_words
use Rattle.std.proofs.Common.{◌≡◌, ℕ, suc, ◌+◌, ◌-◌, ◌/◌, ◌%◌, ◌<◌, List, [], ◌∷◌, ◌++◌, length, get_or, refl, ◌∙◌, ap, arith}
use Rattle.std.specs.Prelude.{slice_index, slice_set}
use Rattle.std.proofs.lemmas.List.{get_or_read}
use Rattle.std.proofs.lemmas.List.FromFn.{length-map-range_with_len, map-range_with_len_more}
use Rattle.g_word.specs.Characters.{character, byte_of}
use Rattle.g_mill.specs.Machine.{copied, characters}

copied_next : (count from to from' to' x : ℕ) (words : List ℕ) → x ≡ slice_index words from → from' ≡ from + 1 → to' ≡ to + 1 → copied (suc count) words from to ≡ copied count (slice_set words to x) from' to'
copied_next count from to from' to' x words is next_from next_to = rw (is, next_from, next_to) refl

-- one more word copied
pub copied_more : (count i from to x : ℕ) (words : List ℕ) → i < count → from + i < length words → x ≡ get_or words (from + i) x → copied (count - i) words (from + i) (to + i) ≡ copied (count - (i + 1)) (slice_set words (to + i) x) (from + (i + 1)) (to + (i + 1))
copied_more count i from to x words below within is =
    let left : count - i ≡ suc (count - (i + 1)) = omega arith in
    let value : x ≡ slice_index words (from + i) = get_or_read words (from + i) x within is 0 in
    ap (λ n. copied n words (from + i) (to + i)) left ∙ copied_next (count - (i + 1)) (from + i) (to + i) (from + (i + 1)) (to + (i + 1)) x words value (omega arith) (omega arith)

-- as many bytes as characters
pub length-characters : (words : List ℕ) (from count : ℕ) → length (characters words from count) ≡ count
length-characters words from count = length-map-range_with_len _ 0 count

-- one more character
pub characters_more : (words : List ℕ) (from count : ℕ) → characters words from (count + 1) ≡ characters words from count ++ byte_of (character (slice_index words (from + count / 4)) (count % 4)) ∷ []
characters_more words from count = map-range_with_len_more _ 0 count count (omega arith)
