-- Words and languages, one character after another.
-- serves: parse (err), word_end, PathLemmas, crates above
use Rattle.std.proofs.Common.{◌≡◌, ℕ, ◌+◌, ◌<◌, ◌≤◌, ◌⊎◌, true, false, List, [], ◌∷◌, ◌++◌, length, take, get_or, refl, sym, ap, ◌∙◌, inl, inr, arith, length-append, append-nil, lit≤, ⊎_elim, subst, zero, suc}
use Rattle.std.specs.Prelude.{◌&&◌, ◌==◌, nat_le, nat_lt}
use Rattle.std.specs.List.{list_all}
use Rattle.std.proofs.lemmas.Bool.{and_parts, and_from, ltb-true, and_left, leb-true, lt-ltb, le-leb, ne_eqb, cases_Bool, false≢true}
use Rattle.std.proofs.lemmas.List.Folds.{list_all-append}
use Rattle.g_name.specs.BadPlace.{Begins, IsBadPlace}
use Rattle.g_name.specs.Grammar.{is_letter, is_word, is_name_char, is_lang, is_user_text}
use Rattle.g_name.specs.Names.{IsLocalText, IsUserText}
use Rattle.g_name.proofs.BadPlaceLemmas.{bad_place_at}
use Rattle.g_name.specs.Words.{is_empty, may_be_word, extends, extends_lang}

-- all characters of both parts
all_of_both : (xs ys : List ℕ) → list_all is_name_char xs ≡ true → list_all is_name_char ys ≡ true → list_all is_name_char (xs ++ ys) ≡ true
all_of_both xs ys first second = list_all-append is_name_char xs ys ∙ and_from _ _ first second

all_of_each : (xs ys : List ℕ) → list_all is_name_char (xs ++ ys) ≡ true → (list_all is_name_char xs ≡ true) × (list_all is_name_char ys ≡ true)
all_of_each xs ys both = and_parts _ _ (sym (list_all-append is_name_char xs ys) ∙ both)

pub may_be-from_word : (w : List ℕ) → is_word w ≡ true → may_be_word w ≡ true
may_be-from_word [] is = refl
may_be-from_word (c ∷ cs) is = is

pub word-from_may_be : (w : List ℕ) → may_be_word w ≡ true → is_empty w ≡ false → is_word w ≡ true
word-from_may_be [] may empty = absurd (false≢true (sym empty))
word-from_may_be (c ∷ cs) may empty = may

-- A prefix of a word, with a byte that may follow it, is a word.
pub word-push : (w : List ℕ) (c : ℕ) → may_be_word w ≡ true → extends w c ≡ true → is_word (w ++ c ∷ []) ≡ true
word-push [] c may next = and_from _ _ (and_from _ _ next refl) refl
word-push (first ∷ others) c may next =
    let was = and_parts (is_letter first && nat_le (length others) 11) (list_all is_name_char others) may in
    let front = and_parts (is_letter first) (nat_le (length others) 11) was.0 in
    let more = and_parts (is_name_char c) (nat_lt (length others) 11) next in
    let room : length (others ++ c ∷ []) ≤ 11 = omega (arith, ltb-true (length others) 11 more.1, length-append others (c ∷ [])) in
    and_from _ _ (and_from _ _ front.0 (le-leb _ _ room)) (all_of_both others (c ∷ []) was.1 (and_from _ _ more.0 refl))

-- Each byte of a word may follow those before it.
pub word-extends : (w : List ℕ) (c : ℕ) (more : List ℕ) → is_word (w ++ (c ∷ more)) ≡ true → extends w c ≡ true
word-extends [] c more is = (and_parts _ _ (and_parts _ _ is).0).0
word-extends (first ∷ others) c more is =
    let parts = and_parts (is_letter first && nat_le (length (others ++ (c ∷ more))) 11) (list_all is_name_char (others ++ (c ∷ more))) is in
    let short : length (others ++ (c ∷ more)) ≤ 11 = leb-true _ _ (and_parts (is_letter first) (nat_le (length (others ++ (c ∷ more))) 11) parts.0).1 in
    let room : length others < 11 = omega (arith, length-append others (c ∷ more)) in
    and_from _ _ (and_parts _ _ (all_of_each others (c ∷ more) parts.1).1).0 (lt-ltb _ _ room)

pub lang-push : (l : List ℕ) (c : ℕ) → is_lang l ≡ true → extends_lang l c ≡ true → is_lang (l ++ c ∷ []) ≡ true
lang-push l c is next =
    let more = and_parts (is_name_char c) (nat_lt (length l) 4) next in
    let room : length (l ++ c ∷ []) ≤ 4 = omega (arith, ltb-true (length l) 4 more.1, length-append l (c ∷ [])) in
    and_from _ _ (le-leb _ _ room) (all_of_both l (c ∷ []) (and_parts _ _ is).1 (and_from _ _ more.0 refl))

pub lang-extends : (l : List ℕ) (c : ℕ) (more : List ℕ) → is_lang (l ++ (c ∷ more)) ≡ true → extends_lang l c ≡ true
lang-extends l c more is =
    let parts = and_parts (nat_le (length (l ++ (c ∷ more))) 4) (list_all is_name_char (l ++ (c ∷ more))) is in
    let short : length (l ++ (c ∷ more)) ≤ 4 = leb-true _ _ parts.0 in
    let room : length l < 4 = omega (arith, length-append l (c ∷ more)) in
    and_from _ _ (and_parts _ _ (all_of_each l (c ∷ more) parts.1).1).0 (lt-ltb _ _ room)

-- what may be a word begins one
begins_word : (w : List ℕ) → may_be_word w ≡ true → Begins IsLocalText w
begins_word [] may = (65 ∷ [], refl)
begins_word (x ∷ xs) may = ([], ap is_word (append-nil (x ∷ xs)) ∙ may)

-- The place from which a text is no longer the prefix of a word.
pub word_wrong : (text : List ℕ) (place : ℕ) → place ≤ length text → may_be_word (take place text) ≡ true
    → (place ≡ length text) ⊎ (extends (take place text) (get_or text place 0) ≡ false) → IsBadPlace IsLocalText text place
word_wrong text place within may (inl ended) = bad_place_at IsLocalText text place within (begins_word (take place text) may) (inl ended)
word_wrong text place within may (inr stuck) =
    bad_place_at IsLocalText text place within (begins_word (take place text) may)
    (inr (λ more is. false≢true (sym stuck ∙ word-extends (take place text) (get_or text place 0) more is)))

-- without its colon no text is that of a user
pub no_colon : (text : List ℕ) → ((first : ℕ) (others : List ℕ) → text ≡ first ∷ others → (first == 58) ≡ false) → IsBadPlace IsUserText text 0
no_colon [] other = bad_place_at IsUserText [] 0 (lit≤ tt) (58 ∷ 65 ∷ [], refl) (inl refl)
no_colon (first ∷ others) other =
    bad_place_at IsUserText (first ∷ others) 0 (omega arith) (58 ∷ 65 ∷ [], refl)
    (inr (λ more is. let colon = (and_parts (first == 58) (is_word more) is).0 in false≢true (sym (other first others refl) ∙ colon)))

later_user : (word : List ℕ) (place : ℕ) → IsBadPlace IsLocalText word place → (k : ℕ) → suc place < k → k ≤ length (58 ∷ word) → Begins IsUserText (take k (58 ∷ word)) → ⊥
later_user word place bad zero past inside goes_on = absurd (omega arith)
later_user word place bad (suc k) past inside goes_on =
    let later : place < k = omega arith in
    let within : k ≤ length word = omega arith in
    bad.longest k later within goes_on

-- After the colon, the user's word has the bad place.
pub user_wrong : (word : List ℕ) (place : ℕ) → IsBadPlace IsLocalText word place → IsBadPlace IsUserText (58 ∷ word) (suc place)
user_wrong word place bad = record {
  within = omega (arith, bad.within);
  begins = (bad.begins.0, bad.begins.1);
  longest = later_user word place bad;
}

-- what is answered for a text that is no user's
abbrev NoUser : List ℕ → ℕ → Type 0
NoUser text place = (is_user_text text ≡ false) × IsBadPlace IsUserText text place

pub nothing_there : (text : List ℕ) → length text ≡ 0 → NoUser text 0
nothing_there [] none = (refl, no_colon [] (λ first others is. cc))
nothing_there (x ∷ xs) none = absurd (omega arith)

pub other_first : (text : List ℕ) (first : ℕ) (word : List ℕ) → text ≡ first ∷ word → (first ≡ 58 → ⊥) → NoUser text 0
other_first text first word is other =
    let P : List ℕ → Type 0 = λ t. NoUser t 0 in
    let test : (first == 58) ≡ false = ne_eqb first 58 other in
    subst P (sym is) (and_left (first == 58) (is_word word) test, no_colon (first ∷ word) (λ f others same. let one : f ≡ first = cc in ap (λ (b : ℕ). b == 58) one ∙ test))

pub other_word : (text : List ℕ) (first : ℕ) (word : List ℕ) (place : ℕ) → text ≡ first ∷ word → first ≡ 58 → (is_word word ≡ true → ⊥) → IsBadPlace IsLocalText word place → NoUser text (suc place)
other_word text first word place is colon no_word bad =
    let P : List ℕ → Type 0 = λ t. NoUser t (suc place) in
    subst P (sym (is ∙ ap (λ (b : ℕ). b ∷ word) colon)) (⊎_elim (λ good. absurd (no_word good)) (λ none. none) (cases_Bool (is_word word)), user_wrong word place bad)
