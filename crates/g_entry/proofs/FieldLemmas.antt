-- The lengths of the parts of a record, and what a reader finds in them.
-- serves: file_block, front_of, head_block, lang_comes (comes, left), pairs_of, put, put_traps (fields), take_lang (again), take_local (again), and 7 more
use Rattle.std.proofs.Common.{◌≡◌, ℕ, ◌+◌, ◌-◌, ◌*◌, ◌<◌, ◌≤◌, true, List, [], ◌∷◌, ◌++◌, length, take, drop, get_or, Bool, false, Option, zero, suc, min, ⊎_elim, Some, None, refl, ap, ◌∙◌, sym, arith, length-append, append_assoc}
use Rattle.std.specs.Prelude.{replicate, IsSome, IfSome, nat_le, nat_lt, ◌&&◌, ◌==◌, if◌then◌else◌}
use Rattle.std.specs.List.{flat_map, list_all}
use Rattle.std.proofs.lemmas.Bool.{and_parts, leb-true, ltb-true, ne_eqb, false≢true, cases_Bool}
use Rattle.std.proofs.lemmas.List.{length-replicate, take_all, take_more, drop_all, drop-replicate, take_at, append-nil}
use Rattle.std.proofs.lemmas.List.Folds.{list_all_at}
use Rattle.std.proofs.Math.Seq.{drop-cons}
use Rattle.g_base.specs.Block.{blocks_for}
use Rattle.g_base.specs.Fields.{number, padded}
use Rattle.g_base.proofs.FieldLemmas.{length-number, length-padded, same_byte, same_bytes}
use Rattle.g_name.specs.Grammar.{is_word, is_lang, is_letter, is_name_char}
use Rattle.g_entry.specs.FileFields.{ArePlaces, pair_fields, lang_field}
use Rattle.g_entry.specs.Formats.{place_width, is_place}
use Rattle.g_entry.specs.declared.format.Format.{Format}

pub ruleset field_lengths = (length-append, length-number, length-padded, length-replicate)

-- a word has up to 12 characters, a language up to 4
pub length-word : (w : List ℕ) → is_word w ≡ true → length w ≤ 12
length-word [] is = absurd (false≢true is)
length-word (first ∷ others) is =
    let front = and_parts (is_letter first && nat_le (length others) 11) (list_all is_name_char others) is in
    let short : length others ≤ 11 = leb-true (length others) 11 (and_parts (is_letter first) (nat_le (length others) 11) front.0).1 in omega arith

pub length-lang : (l : List ℕ) → is_lang l ≡ true → length l ≤ 4
length-lang l is = leb-true (length l) 4 (and_parts (nat_le (length l) 4) (list_all is_name_char l) is).0

pub ruleset name_lengths = (length-word, length-lang)

-- The rest of four spaces
pub spaces_behind : (n : ℕ) → n ≤ 4 → take (4 - n) (drop n (replicate {A = ℕ} 4 32)) ≡ replicate (4 - n) 32
spaces_behind n few =
    ap (take (4 - n)) (drop-replicate n 4 32) ∙ take_all (4 - n) (replicate {A = ℕ} (4 - n) 32) (omega (arith, length-replicate {A = ℕ} (4 - n) 32))

-- a user's number and modes
abbrev pub pair_bytes : ℕ × ℕ → List ℕ
pair_bytes pair = pair.0 ∷ pair.1 ∷ []

pub length-pairs : (pairs : List (ℕ × ℕ)) → length (flat_map pair_bytes pairs) ≡ 2 * length pairs
length-pairs [] = refl
length-pairs (pair ∷ pairs) = omega (arith, length-pairs pairs)

pub pairs_padded : (pairs : List (ℕ × ℕ)) → flat_map pair_bytes pairs ++ replicate (16 - 2 * length pairs) 0 ≡ pair_fields pairs
unfolding padded
pairs_padded pairs = ap (λ (n : ℕ). flat_map pair_bytes pairs ++ replicate {A = ℕ} (16 - n) 0) (sym (length-pairs pairs))

-- What a writer has written after the traps.
pub traps_put : (before middle after : List ℕ) (owner count i : ℕ) (others : List (ℕ × ℕ))
    → middle ≡ ((before ++ owner ∷ []) ++ count ∷ []) ++ flat_map pair_bytes (take i others) → length others ≤ i
    → after ≡ middle ++ replicate (16 - 2 * length others) 0 → after ≡ (before ++ (owner ∷ count ∷ [])) ++ pair_fields others
traps_put before middle after owner count i others written all zeros =
    zeros ∙ ap (λ (t : List ℕ). t ++ replicate {A = ℕ} (16 - 2 * length others) 0) written
    ∙ ap (λ (ps : List (ℕ × ℕ)). (((before ++ owner ∷ []) ++ count ∷ []) ++ flat_map pair_bytes ps) ++ replicate {A = ℕ} (16 - 2 * length others) 0) (take_all i others all)
    ∙ append_assoc ((before ++ owner ∷ []) ++ count ∷ []) (flat_map pair_bytes others) (replicate {A = ℕ} (16 - 2 * length others) 0)
    ∙ ap (λ (t : List ℕ). ((before ++ owner ∷ []) ++ count ∷ []) ++ t) (pairs_padded others)
    ∙ ap (λ (t : List ℕ). t ++ pair_fields others) (append_assoc before (owner ∷ []) (count ∷ []))

-- the front of a padded field
pub front_again : (bytes field : List ℕ) → field ≡ padded (length field) bytes → take (length bytes) field ≡ bytes
unfolding padded
front_again bytes field is = ap (take (length bytes)) is ∙ take_at bytes (replicate {A = ℕ} (length field - length bytes) 0) (length bytes) refl

-- a name that was made of bytes that pass its test
pub made_as : (test : List ℕ → Bool) (made : Option (List ℕ)) (front word : List ℕ) → (test front ≡ true → IsSome made) → IfSome made (λ n. n ≡ front) → front ≡ word → test word ≡ true → made ≡ Some word
made_as test None front word there same one is = absurd (false≢true (there (ap test one ∙ is)))
made_as test (Some n) front word there same one is = ap (λ (m : List ℕ). Some m) (same ∙ one)

-- A word, stored after its length.
pub word_taken : (old mid after field word rest : List ℕ) (len : ℕ) → old ≡ len ∷ mid → mid ≡ field ++ after → length field ≡ 12 → length word ≤ 12
    → old ≡ length word ∷ (padded 12 word ++ rest) → (len ≡ length word) × (field ≡ padded 12 word) × (after ≡ rest)
word_taken old mid after field word rest len first bytes long few is =
    let front = same_byte len (length word) mid (padded 12 word ++ rest) (sym first ∙ is) in
    let both = same_bytes 12 field (padded 12 word) after rest long (length-padded 12 word few) (sym bytes ∙ front.1) in (front.0, both.0, both.1)

-- and the name that is made of it
pub word_again : (old mid after field front : List ℕ) (len : ℕ) (made : Option (List ℕ)) → old ≡ len ∷ mid → mid ≡ field ++ after → length field ≡ 12
    → ((bytes : List ℕ) → length bytes ≤ length field → len ≡ length bytes → field ≡ padded (length field) bytes → front ≡ bytes)
    → (is_word front ≡ true → IsSome made) → IfSome made (λ n. n ≡ front)
    → (word rest : List ℕ) → is_word word ≡ true → old ≡ length word ∷ (padded 12 word ++ rest) → (made ≡ Some word) × (after ≡ rest)
word_again old mid after field front len made first all long cut some value word rest is was =
    let few = length-word word is in
    let got = word_taken old mid after field word rest len first all long few was in
    let within : length word ≤ length field = omega arith in
    let here = cut word within got.0 (got.1 ∙ ap (λ (n : ℕ). padded n word) (sym long)) in
    (made_as is_word made front word some value here is, got.2)

-- The bytes before the first space.
abbrev pub before_space : List ℕ → List ℕ
before_space [] = []
before_space (c ∷ cs) = if c == 32 then [] else c ∷ before_space cs

no_space : (c : ℕ) → is_name_char c ≡ true → (c == 32) ≡ false
no_space c is = ne_eqb c 32 (λ space. false≢true (sym (ap is_name_char space) ∙ is))

only_spaces : (n : ℕ) → before_space (replicate n 32) ≡ []
only_spaces zero = refl
only_spaces (suc n) = refl

before_spaces : (lang : List ℕ) (n : ℕ) → list_all is_name_char lang ≡ true → before_space (lang ++ replicate n 32) ≡ lang
before_spaces [] n is = only_spaces n
before_spaces (c ∷ cs) n is =
    let parts = and_parts (is_name_char c) (list_all is_name_char cs) is in
    ap (λ (b : Bool). if b then [] else c ∷ before_space (cs ++ replicate n 32)) (no_space c parts.0) ∙ ap (λ (l : List ℕ). c ∷ l) (before_spaces cs n parts.1)

pub lang_again : (lang field : List ℕ) → is_lang lang ≡ true → field ≡ lang_field lang → before_space field ≡ lang
lang_again lang field is here = ap before_space here ∙ before_spaces lang (4 - length lang) (and_parts (nat_le (length lang) 4) (list_all is_name_char lang) is).1

-- a space, another byte, and the end
pub space_at : (field : List ℕ) (at : ℕ) → at < length field → get_or field at 0 ≡ 32 → before_space field ≡ take at field ++ before_space (drop at field) → before_space field ≡ take at field
space_at field at inside space so =
    so ∙ ap (λ (l : List ℕ). take at field ++ before_space l) (drop-cons field at 0 inside)
    ∙ ap (λ (c : ℕ). take at field ++ before_space (c ∷ drop (suc at) field)) space ∙ append-nil (take at field)

pub no_space_at : (field : List ℕ) (at : ℕ) → at < length field → (get_or field at 0 ≡ 32 → ⊥) → before_space field ≡ take at field ++ before_space (drop at field) → before_space field ≡ take (at + 1) field ++ before_space (drop (at + 1) field)
no_space_at field at inside other so =
    let next : suc at ≡ at + 1 = omega arith in
    so ∙ ap (λ (l : List ℕ). take at field ++ before_space l) (drop-cons field at 0 inside)
    ∙ ap (λ (b : Bool). take at field ++ (if b then [] else get_or field at 0 ∷ before_space (drop (suc at) field))) (ne_eqb (get_or field at 0) 32 other)
    ∙ sym (append_assoc (take at field) (get_or field at 0 ∷ []) (before_space (drop (suc at) field)))
    ∙ ap (λ (l : List ℕ). l ++ before_space (drop (suc at) field)) (sym (take_more field at 0 inside))
    ∙ ap (λ (n : ℕ). take (at + 1) field ++ before_space (drop n field)) next

pub no_space_more : (field : List ℕ) (at : ℕ) → length field ≤ at → before_space field ≡ take at field ++ before_space (drop at field) → before_space field ≡ field
no_space_more field at all so =
    so ∙ ap (λ (l : List ℕ). take at field ++ before_space l) (drop_all at field all) ∙ append-nil (take at field) ∙ take_all at field all

pub length-lang_field : (lang : List ℕ) → length lang ≤ 4 → length (lang_field lang) ≡ 4
length-lang_field lang few = omega (arith, length-append lang (replicate (4 - length lang) 32), length-replicate {A = ℕ} (4 - length lang) 32)

pub length-pair_fields : (pairs : List (ℕ × ℕ)) → length pairs ≤ 8 → length (pair_fields pairs) ≡ 16
length-pair_fields pairs few = length-padded 16 (flat_map pair_bytes pairs) (omega (arith, length-pairs pairs))

-- The traps, stored after the owner's modes and the number of pairs.
pub traps_taken : (old middle after left field others_field rest : List ℕ) (owner count o n : ℕ) → old ≡ owner ∷ middle → middle ≡ count ∷ after → after ≡ field ++ left → length field ≡ 16
    → length others_field ≡ 16 → old ≡ o ∷ n ∷ (others_field ++ rest) → (owner ≡ o) × (count ≡ n) × (field ≡ others_field) × (left ≡ rest)
traps_taken old middle after left field others_field rest owner count o n first second bytes long long_others is =
    let one = same_byte owner o middle (n ∷ (others_field ++ rest)) (sym first ∙ is) in
    let two = same_byte count n after (others_field ++ rest) (sym second ∙ one.1) in
    let three = same_bytes 16 field others_field left rest long long_others (sym bytes ∙ two.1) in (one.0, two.0, three.0, three.1)

module _ (count : ℕ) (field : List ℕ) where
  -- the pairs in a field
  pub record IsPairField (pairs : List (ℕ × ℕ)) : Type 0 where
    pub few : length pairs ≤ 8
    pub sets : list_all (λ pair. nat_lt pair.1 32) pairs ≡ true
    pub count_is : count ≡ length pairs
    pub field_is : field ≡ pair_fields pairs

  -- the first pairs are taken
  pub record PairsSo (i : ℕ) (left : List ℕ) (taken : List (ℕ × ℕ)) : Type 0 where
    pub room : length left + 2 * i ≡ 16
    pub len : length taken ≡ i
    pub again : (pairs : List (ℕ × ℕ)) → IsPairField pairs → (taken ≡ take i pairs) × (left ≡ flat_map pair_bytes (drop i pairs) ++ replicate (16 - 2 * length pairs) 0)

  -- the next pair
  pub pair_there : (i : ℕ) (left middle rest : List ℕ) (taken : List (ℕ × ℕ)) (user bits : ℕ) → PairsSo i left taken → left ≡ user ∷ middle → middle ≡ bits ∷ rest
      → (pairs : List (ℕ × ℕ)) → IsPairField pairs → i < length pairs
      → ((user, bits) ≡ get_or pairs i (0, 0)) × (rest ≡ flat_map pair_bytes (drop (suc i) pairs) ++ replicate (16 - 2 * length pairs) 0)
  pair_there i left middle rest taken user bits so first second pairs is inside =
      let pair = get_or pairs i (0, 0) in
      let behind = flat_map pair_bytes (drop (suc i) pairs) ++ replicate (16 - 2 * length pairs) 0 in
      let here : user ∷ bits ∷ rest ≡ pair.0 ∷ pair.1 ∷ behind =
      ap (λ (l : List ℕ). user ∷ l) (sym second) ∙ sym first ∙ (so.again pairs is).1
      ∙ ap (λ (ps : List (ℕ × ℕ)). flat_map pair_bytes ps ++ replicate {A = ℕ} (16 - 2 * length pairs) 0) (drop-cons pairs i (0, 0) inside) in
      let one = same_byte user pair.0 (bits ∷ rest) (pair.1 ∷ behind) here in
      let two = same_byte bits pair.1 rest behind one.1 in
      (ap (λ (u : ℕ). (u, bits)) one.0 ∙ ap (λ (b : ℕ). (pair.0, b)) two.0, two.1)

  pub set_there : (i : ℕ) (left middle rest : List ℕ) (taken : List (ℕ × ℕ)) (user bits : ℕ) → PairsSo i left taken → left ≡ user ∷ middle → middle ≡ bits ∷ rest
      → (pairs : List (ℕ × ℕ)) → IsPairField pairs → i < length pairs → bits < 32
  set_there i left middle rest taken user bits so first second pairs is inside =
      let there = (pair_there i left middle rest taken user bits so first second pairs is inside).0 in
      ⊎_elim (λ below. ltb-true bits 32 below)
      (λ above. absurd (false≢true (sym (list_all_at (λ pair. nat_lt pair.1 32) pairs i (0, 0) inside (ap (λ (pair : ℕ × ℕ). nat_lt pair.1 32) (sym there) ∙ above)) ∙ is.sets)))
      (cases_Bool (nat_lt bits 32))

  pub pairs_more : (i : ℕ) (left middle rest : List ℕ) (taken : List (ℕ × ℕ)) (user bits modes : ℕ) → PairsSo i left taken → left ≡ user ∷ middle → middle ≡ bits ∷ rest
      → modes ≡ bits → i < min count 8 → PairsSo (i + 1) rest (taken ++ (user, modes) ∷ [])
  pairs_more i left middle rest taken user bits modes so first second same inside = record {
    room = let long = ap length first in let longer = ap length second in let was = so.room in omega arith;
    len = omega (arith, so.len, length-append {A = ℕ × ℕ} taken ((user, modes) ∷ []));
    again = λ pairs is.
        let among : i < length pairs = let is_count = is.count_is in omega arith in
        let there = pair_there i left middle rest taken user bits so first second pairs is among in
        let next : suc i ≡ i + 1 = omega arith in (
          ap (λ (ps : List (ℕ × ℕ)). ps ++ (user, modes) ∷ []) (so.again pairs is).0
              ∙ ap (λ (m : ℕ). take i pairs ++ (user, m) ∷ []) same
              ∙ ap (λ (p : ℕ × ℕ). take i pairs ++ p ∷ []) there.0
              ∙ sym (take_more pairs i (0, 0) among),
          there.1 ∙ ap (λ (n : ℕ). flat_map pair_bytes (drop n pairs) ++ replicate {A = ℕ} (16 - 2 * length pairs) 0) next,
        );
  }

  pub pairs_none : length field ≡ 16 → PairsSo 0 field []
  unfolding padded
  pairs_none long = record {
    room = omega arith;
    len = refl;
    again = λ pairs is. (refl, is.field_is ∙ sym (pairs_padded pairs));
  }

module _ (format : Format) (len : ℕ) (first : List ℕ) where
  abbrev Bytes : List ℕ → List ℕ
  Bytes places = flat_map (number (place_width format)) places

  -- the first block numbers are taken
  pub record PlacesSo (i : ℕ) (left taken : List ℕ) : Type 0 where
    pub room : 384 ≤ length left + 3 * i
    pub count : length taken ≡ i
    pub again : (places rest : List ℕ) → ArePlaces format len places → first ≡ Bytes places ++ rest → (taken ≡ take i places) × (left ≡ Bytes (drop i places) ++ rest)

  pub places_more : (i place : ℕ) (left after taken : List ℕ) → PlacesSo i left taken → i < blocks_for len → length left ≤ length after + 3
      → ((k : ℕ) (rest : List ℕ) → is_place format k ≡ true → left ≡ number (place_width format) k ++ rest → (place ≡ k) × (after ≡ rest))
      → PlacesSo (i + 1) after (taken ++ place ∷ [])
  places_more i place left after taken so inside shorter undone = record {
    room = let was = so.room in omega arith;
    count = omega (arith, so.count, length-append {A = ℕ} taken (place ∷ []));
    again = λ places rest are is.
        let among : i < length places = let count_is = are.count in omega arith in
        let k = get_or places i 0 in
        let fits : is_place format k ≡ true = ⊎_elim (λ holds. holds) (λ fails. absurd (false≢true (sym (list_all_at (is_place format) places i 0 among fails) ∙ are.each))) (cases_Bool (is_place format k)) in
        let here : left ≡ number (place_width format) k ++ (Bytes (drop (suc i) places) ++ rest) =
        (so.again places rest are is).1 ∙ ap (λ (ks : List ℕ). Bytes ks ++ rest) (drop-cons places i 0 among) ∙ append_assoc (number (place_width format) k) (Bytes (drop (suc i) places)) rest in
        let got = undone k (Bytes (drop (suc i) places) ++ rest) fits here in
        let next : suc i ≡ i + 1 = omega arith in (
          ap (λ (ks : List ℕ). ks ++ place ∷ []) (so.again places rest are is).0 ∙ ap (λ (p : ℕ). take i places ++ p ∷ []) got.0 ∙ sym (take_more places i 0 among),
          got.1 ∙ ap (λ (n : ℕ). Bytes (drop n places) ++ rest) next,
        );
  }
