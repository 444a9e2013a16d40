-- An image that is filled word by word represents its cells.
-- serves: put, put_chars, RoundLemmas
use Rattle.std.proofs.Common.{◌≡◌, ◌≢◌, ◌≤◌, ◌<◌, ◌+◌, ◌^◌, ◌∙◌, ◌⊎◌, inl, inr, ℕ, suc, zero, List, [], ◌∷◌, ◌++◌, Bool, true, false, not, Option, Some, None, ap, append_assoc, arith, drop, get_or, is_some, length, length-drop, max, min, refl, subst, sym}
use Rattle.std.specs.Prelude.{◌&&◌, ◌||◌, ◌==◌, if◌then◌else◌, nat_lt, set, unwrap_or}
use Rattle.std.specs.List.{AllByRecursion, enumerate_from, find, list_all, list_any}
use Rattle.std.specs.Option.{option_map, option_or}
use Rattle.std.proofs.lemmas.Bool.{and_from, and_left, and_right, cases_Bool, eqb-false, eq-eqb, eqb-true, false≢true, le-ltb, lt-ltb, ne_eqb, or_from}
use Rattle.std.proofs.lemmas.List.{append-nil, get_or-set_other, get_or-set_same, length-set}
use Rattle.std.proofs.lemmas.List.Folds.{find-append, list_all-append, list_any-append}
use Rattle.std.proofs.lemmas.List.Sums.{fold-append}
use Rattle.std.proofs.lemmas.Option.{get_or_from_slice_get, slice_get_read}
use Rattle.g_plan.specs.Assembly.{are_free, char_words, end_of, four, is_at, is_free}
use Rattle.g_plan.specs.SecondPass.{AreSmall, IsImageOf, IsPut}
use Rattle.g_plan.specs.declared.image.Image.{Image}

-- searching by a test
any_step : {X : Type 0} (p : X → Bool) (x : X) (xs : List X) (b : Bool) → p x ≡ b → list_any p xs ≡ is_some (find p xs) → list_any p (x ∷ xs) ≡ is_some (find p (x ∷ xs))
any_step p x xs true is same = rw is refl
any_step p x xs false is same = rw is same

pub any_found : {X : Type 0} (p : X → Bool) (xs : List X) → list_any p xs ≡ is_some (find p xs)
any_found p [] = refl
any_found p (x ∷ xs) = any_step p x xs (p x) refl (any_found p xs)

some_mapped : {A B : Type 0} (f : A → B) (o : Option A) → is_some (option_map f o) ≡ is_some o
some_mapped f None = refl
some_mapped f (Some x) = refl

pub is_none : {X : Type 0} (o : Option X) → is_some o ≡ false → o ≡ None
is_none None is = refl
is_none (Some x) is = absurd cc

pub small_both : (xs ys : List (ℕ × ℕ)) → AreSmall xs → AreSmall ys → AreSmall (xs ++ ys)
small_both [] ys first second = second
small_both (x ∷ xs) ys first second = (first.0, small_both xs ys first.1 second)

-- a place is taken where its word is filled
module _ (size : ℕ) (filled : List (ℕ × ℕ)) (image : Image) (is : IsImageOf size filled image) where
  taken_is : (place : ℕ) → place < size → is_some (get_or image.words.items place None) ≡ list_any (is_at place) filled
  taken_is place within =
      ap is_some (is.words_are place within) ∙ (some_mapped (λ (cell : ℕ × ℕ). cell.1) (find (is_at place) filled) ∙ sym (any_found (is_at place) filled))

  pub free-past : (place word : ℕ) → size ≤ place → is_free size filled (place, word) ≡ false
  free-past place word past = and_left (nat_lt place size) (not (list_any (is_at place) filled)) (le-ltb place size past)

  pub free-taken : (place word : ℕ) → place < size → is_some (get_or image.words.items place None) ≡ true → is_free size filled (place, word) ≡ false
  free-taken place word within there =
      and_right (nat_lt place size) (not (list_any (is_at place) filled)) (ap not (sym (taken_is place within) ∙ there))

  pub free-here : (place word : ℕ) → place < size → is_some (get_or image.words.items place None) ≡ false → is_free size filled (place, word) ≡ true
  free-here place word within there =
      and_from (nat_lt place size) (not (list_any (is_at place) filled)) (lt-ltb place size within) (ap not (sym (taken_is place within) ∙ there))

-- the search with one more cell
find_one : (k place word : ℕ) (b : Bool) → (place == k) ≡ b → find (is_at k) ((place, word) ∷ []) ≡ (if b then Some (place, word) else None)
find_one k place word true is = rw is refl
find_one k place word false is = rw is refl

or_none : {X : Type 0} (o : Option X) → option_or o None ≡ o
or_none None = refl
or_none (Some x) = refl

module _ (size : ℕ) (filled : List (ℕ × ℕ)) (old new : Image) (is : IsImageOf size filled old) (place word : ℕ) (within : place < size) (word_fits : word < 2 ^ 24)
    (empty : is_some (get_or old.words.items place None) ≡ false) (written : new.words.items ≡ set old.words.items place (Some word)) (ended : new.end ≡ max old.end (place + 1)) where
  no_cell : find (is_at place) filled ≡ None
  no_cell = is_none (find (is_at place) filled) (sym (any_found (is_at place) filled) ∙ (sym (taken_is size filled old is place within) ∙ empty))

  size_kept : length new.words.items ≡ size
  size_kept = ap length written ∙ (length-set old.words.items place (Some word) ∙ is.size_is)

  words_here : (k : ℕ) → k ≡ place → get_or new.words.items k None ≡ option_map (λ (cell : ℕ × ℕ). cell.1) (find (is_at k) (filled ++ (place, word) ∷ []))
  words_here k here =
      let inside : place < length old.words.items = omega (arith, within, is.size_is) in
      let read : get_or new.words.items place None ≡ Some word = ap (λ (ws : List (Option ℕ)). get_or ws place None) written ∙ get_or-set_same old.words.items place (Some word) None inside in
      let there : find (is_at place) (filled ++ (place, word) ∷ []) ≡ Some (place, word) =
      find-append (is_at place) filled ((place, word) ∷ []) ∙ (ap (λ (o : Option (ℕ × ℕ)). option_or o (find (is_at place) ((place, word) ∷ []))) no_cell ∙ find_one place place word true (eq-eqb place place refl)) in
      subst (λ (j : ℕ). get_or new.words.items j None ≡ option_map (λ (cell : ℕ × ℕ). cell.1) (find (is_at j) (filled ++ (place, word) ∷ []))) (sym here)
      (read ∙ ap (option_map (λ (cell : ℕ × ℕ). cell.1)) (sym there))

  words_else : (k : ℕ) → k < size → k ≢ place → get_or new.words.items k None ≡ option_map (λ (cell : ℕ × ℕ). cell.1) (find (is_at k) (filled ++ (place, word) ∷ []))
  words_else k inside other =
      let kept : get_or new.words.items k None ≡ get_or old.words.items k None = ap (λ (ws : List (Option ℕ)). get_or ws k None) written ∙ get_or-set_other old.words.items place k (Some word) None other in
      let same : find (is_at k) (filled ++ (place, word) ∷ []) ≡ find (is_at k) filled =
      find-append (is_at k) filled ((place, word) ∷ [])
      ∙ (ap (option_or (find (is_at k) filled)) (find_one k place word false (ne_eqb place k (λ e. other (sym e)))) ∙ or_none (find (is_at k) filled)) in
      kept ∙ (is.words_are k inside ∙ ap (option_map (λ (cell : ℕ × ℕ). cell.1)) (sym same))

  words_by : (k : ℕ) → k < size → ((k == place) ≡ true) ⊎ ((k == place) ≡ false)
      → get_or new.words.items k None ≡ option_map (λ (cell : ℕ × ℕ). cell.1) (find (is_at k) (filled ++ (place, word) ∷ []))
  words_by k inside (inl here) = words_here k (eqb-true k place here)
  words_by k inside (inr other) = words_else k inside (eqb-false k place other)

  words_now : (k : ℕ) → k < size → get_or new.words.items k None ≡ option_map (λ (cell : ℕ × ℕ). cell.1) (find (is_at k) (filled ++ (place, word) ∷ []))
  words_now k inside = words_by k inside (cases_Bool (k == place))

  end_now : end_of (filled ++ (place, word) ∷ []) ≡ max (end_of filled) (place + 1)
  end_now = fold-append (λ (last : ℕ) (cell : ℕ × ℕ). max last (cell.0 + 1)) 0 filled ((place, word) ∷ [])

  pub put_is : IsImageOf size (filled ++ (place, word) ∷ []) new
  put_is = record {
    size_is = size_kept;
    words_are = words_now;
    end_is = ended ∙ (ap (λ (e : ℕ). max e (place + 1)) is.end_is ∙ sym end_now);
    within = subst (λ (e : ℕ). e ≤ size) (sym end_now) (omega (arith, within, is.within));
    small = small_both filled ((place, word) ∷ []) is.small (word_fits, tt);
  }

-- THE RESULTS OF ONE WORD
true_and : (b : Bool) → (b && true) ≡ b
true_and true = refl
true_and false = refl

pub put-no : (image : Image) (place word : ℕ) (refused : (size : ℕ) (filled : List (ℕ × ℕ)) → IsImageOf size filled image → is_free size filled (place, word) ≡ false)
    → IsPut (Some ((place, word) ∷ [])) image image false
put-no image place word refused size filled is =
    (sym (ap (λ (b : Bool). b && true) (refused size filled is)), (λ yes_is. absurd (false≢true yes_is)))

pub put-past : (image : Image) (place word : ℕ) → length image.words.items ≤ place → IsPut (Some ((place, word) ∷ [])) image image false
put-past image place word past =
    put-no image place word (λ size filled is. free-past size filled image is place word (let same = is.size_is in omega (arith, past, same)))

pub put-taken : (image : Image) (place word : ℕ) → place < length image.words.items → is_some (get_or image.words.items place None) ≡ true
    → IsPut (Some ((place, word) ∷ [])) image image false
put-taken image place word within there =
    put-no image place word (λ size filled is. free-taken size filled image is place word (let same = is.size_is in omega (arith, within, same)) there)

pub put-yes : (old new : Image) (place word : ℕ) → word < 2 ^ 24 → place < length old.words.items → is_some (get_or old.words.items place None) ≡ false
    → new.words.items ≡ set old.words.items place (Some word) → new.end ≡ max old.end (place + 1) → IsPut (Some ((place, word) ∷ [])) old new true
put-yes old new place word fits within empty written ended size filled is =
    let inside : place < size = (let same = is.size_is in omega (arith, within, same)) in (
      sym (ap (λ (b : Bool). b && true) (free-here size filled old is place word inside empty)),
      (λ _. put_is size filled old new is place word inside fits empty written ended),
    )

-- CHARACTERS
pub char_step : (text : List ℕ) → (text ≡ [] → ⊥)
    → char_words text ≡ four (get_or text 0 32) (get_or text 1 32) (get_or text 2 32) (get_or text 3 32) ∷ char_words (drop (min (length text) 4) text)
char_step [] some = absurd (some refl)
char_step (a ∷ []) some = refl
char_step (a ∷ b ∷ []) some = refl
char_step (a ∷ b ∷ c ∷ []) some = refl
char_step (a ∷ b ∷ c ∷ d ∷ text) some =
    let least : min (length (a ∷ b ∷ c ∷ d ∷ text)) 4 ≡ 4 = omega arith in
    ap (λ (n : ℕ). four a b c d ∷ char_words (drop n (a ∷ b ∷ c ∷ d ∷ text))) (sym least)

-- of the cells from `start` on, some are written, and the others follow from `place` on
pub record ArePut (size start : ℕ) (text : List ℕ) (filled : List (ℕ × ℕ)) (image : Image) (place : ℕ) (rest : List ℕ) : Type 0 where
  pub done : List (ℕ × ℕ)
  pub split : enumerate_from start (char_words text) ≡ done ++ enumerate_from place (char_words rest)
  pub image_is : IsImageOf size (filled ++ done) image
  pub free : list_all (is_free size filled) done ≡ true
  pub before : (k : ℕ) → place ≤ k → list_any (is_at k) done ≡ false

pub record PutSoFar (start : ℕ) (text : List ℕ) (old now : Image) (place : ℕ) (rest : List ℕ) : Type 0 where
  pub put : (size : ℕ) (filled : List (ℕ × ℕ)) → IsImageOf size filled old → ArePut size start text filled now place rest
  pub bound : place + length rest ≤ start + length text

pub put_none : (start : ℕ) (text : List ℕ) (image : Image) → PutSoFar start text image image start text
put_none start text image = record {
  put = λ size filled is. record {
    done = [];
    split = refl;
    image_is = subst (λ (cells : List (ℕ × ℕ)). IsImageOf size cells image) (sym (append-nil filled)) is;
    free = refl;
    before = λ k past. refl;
  };
  bound = omega arith;
}

or_false : (b : Bool) → (b || false) ≡ b
or_false true = refl
or_false false = refl

-- a cell is free after cells of other places if and only if it is free without them
pub same_free : (size place word : ℕ) (filled done : List (ℕ × ℕ)) → list_any (is_at place) done ≡ false → is_free size (filled ++ done) (place, word) ≡ is_free size filled (place, word)
same_free size place word filled done none =
    ap (λ (b : Bool). nat_lt place size && not b)
    (list_any-append (is_at place) filled done ∙ (ap (λ (b : Bool). list_any (is_at place) filled || b) none ∙ or_false (list_any (is_at place) filled)))

some_length : (rest : List ℕ) → (rest ≡ [] → ⊥) → 1 ≤ length rest
some_length [] some = absurd (some refl)
some_length (c ∷ rest) some = omega arith

module _ (start : ℕ) (text : List ℕ) (old now : Image) (place : ℕ) (rest : List ℕ) (so_far : PutSoFar start text old now place rest) where
  pub chars-done : rest ≡ [] → IsPut (Some (enumerate_from start (char_words text))) old now true
  chars-done empty size filled is =
      let p = so_far.put size filled is in
      let all : enumerate_from start (char_words text) ≡ p.done =
      p.split ∙ (ap (λ (r : List ℕ). p.done ++ enumerate_from place (char_words r)) empty ∙ append-nil p.done) in
      (sym (ap (list_all (is_free size filled)) all ∙ p.free), (λ _. subst (λ (cells : List (ℕ × ℕ)). IsImageOf size (filled ++ cells) now) (sym all) p.image_is))

  next_cells : (rest ≡ [] → ⊥) → (word : ℕ) → word ≡ four (get_or rest 0 32) (get_or rest 1 32) (get_or rest 2 32) (get_or rest 3 32)
      → enumerate_from place (char_words rest) ≡ (place, word) ∷ enumerate_from (place + 1) (char_words (drop (min (length rest) 4) rest))
  next_cells some word is =
      ap (enumerate_from place) (char_step rest some) ∙ ap (λ (w : ℕ). (place, w) ∷ enumerate_from (place + 1) (char_words (drop (min (length rest) 4) rest))) (sym is)

  pub chars-refused : (new : Image) (word : ℕ) → (rest ≡ [] → ⊥) → word ≡ four (get_or rest 0 32) (get_or rest 1 32) (get_or rest 2 32) (get_or rest 3 32)
      → IsPut (Some ((place, word) ∷ [])) now new false → IsPut (Some (enumerate_from start (char_words text))) old new false
  chars-refused new word some is refused size filled there =
      let p = so_far.put size filled there in
      let others = enumerate_from (place + 1) (char_words (drop (min (length rest) 4) rest)) in
      let all : enumerate_from start (char_words text) ≡ p.done ++ (place, word) ∷ others = p.split ∙ ap (λ (cells : List (ℕ × ℕ)). p.done ++ cells) (next_cells some word is) in
      let taken : is_free size (filled ++ p.done) (place, word) ≡ false = sym (true_and (is_free size (filled ++ p.done) (place, word))) ∙ sym (refused size (filled ++ p.done) p.image_is).0 in
      let here : is_free size filled (place, word) ≡ false = sym (same_free size place word filled p.done (p.before place (omega arith))) ∙ taken in
      let none : list_all (is_free size filled) ((place, word) ∷ others) ≡ false = and_left (is_free size filled (place, word)) (list_all (is_free size filled) others) here in (
        sym (ap (list_all (is_free size filled)) all ∙ (list_all-append (is_free size filled) p.done ((place, word) ∷ others)
            ∙ and_right (list_all (is_free size filled) p.done) (list_all (is_free size filled) ((place, word) ∷ others)) none)),
        (λ yes_is. absurd (false≢true yes_is)),
      )

  chars_bound : (rest ≡ [] → ⊥) → (place + 1) + length (drop (min (length rest) 4) rest) ≤ start + length text
  chars_bound some =
      let behind = length-drop (min (length rest) 4) rest in
      let more : 1 ≤ length rest = some_length rest some in
      omega (arith, behind, more, so_far.bound)

  chars_put : (new : Image) (word : ℕ) → (rest ≡ [] → ⊥) → word ≡ four (get_or rest 0 32) (get_or rest 1 32) (get_or rest 2 32) (get_or rest 3 32)
      → IsPut (Some ((place, word) ∷ [])) now new true → (size : ℕ) (filled : List (ℕ × ℕ)) → IsImageOf size filled old
      → ArePut size start text filled new (place + 1) (drop (min (length rest) 4) rest)
  chars_put new word some is taken size filled there =
      let p = so_far.put size filled there in
      let others = enumerate_from (place + 1) (char_words (drop (min (length rest) 4) rest)) in
      let all : enumerate_from start (char_words text) ≡ p.done ++ (place, word) ∷ others = p.split ∙ ap (λ (cells : List (ℕ × ℕ)). p.done ++ cells) (next_cells some word is) in
      let answer = taken size (filled ++ p.done) p.image_is in
      let none = p.before place (omega arith) in
      let here : is_free size filled (place, word) ≡ true =
      sym (same_free size place word filled p.done none) ∙ (sym (true_and (is_free size (filled ++ p.done) (place, word))) ∙ sym answer.0) in
      record {
        done = p.done ++ (place, word) ∷ [];
        split = all ∙ sym (append_assoc p.done ((place, word) ∷ []) others);
        image_is = subst (λ (cells : List (ℕ × ℕ)). IsImageOf size cells new) (append_assoc filled p.done ((place, word) ∷ [])) (answer.1 refl);
        free =
            list_all-append (is_free size filled) p.done ((place, word) ∷ [])
            ∙ and_from (list_all (is_free size filled) p.done) (list_all (is_free size filled) ((place, word) ∷ [])) p.free (ap (λ (b : Bool). b && true) here);
        before = λ k past.
            list_any-append (is_at k) p.done ((place, word) ∷ [])
            ∙ or_from (list_any (is_at k) p.done) (list_any (is_at k) ((place, word) ∷ [])) (p.before k (omega (arith, past)))
            (ap (λ (b : Bool). b || false) (ne_eqb place k (λ e. omega (arith, past, e))));
      }

  pub chars-next : (new : Image) (word : ℕ) → (rest ≡ [] → ⊥) → word ≡ four (get_or rest 0 32) (get_or rest 1 32) (get_or rest 2 32) (get_or rest 3 32)
      → IsPut (Some ((place, word) ∷ [])) now new true → PutSoFar start text old new (place + 1) (drop (min (length rest) 4) rest)
  chars-next new word some is taken = record {
    put = λ size filled there. chars_put new word some is taken size filled there;
    bound = chars_bound some;
  }

-- an item of the image
pub item_there : (xs : List (Option ℕ)) (i : ℕ) (x : Option ℕ) (b : Bool) → i < length xs → x ≡ get_or xs i x → is_some x ≡ b → is_some (get_or xs i None) ≡ b
item_there xs i x b within is there = ap is_some (get_or_from_slice_get xs i x None (slice_get_read xs (length xs) i x refl within is)) ∙ there
