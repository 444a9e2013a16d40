-- A reader of paths has read its text, and reads the text of each name.
-- serves: parse_path (ok, read), read_path (err, ok, read), crates above
use Rattle.std.proofs.Common.{take, get_or, ◌≡◌, ℕ, ◌+◌, ◌*◌, ◌/◌, ◌%◌, ◌^◌, ◌<◌, ◌≤◌, ◌⊎◌, Bool, true, false, List, [], ◌∷◌, ◌++◌, length, Option, Some, None, refl, sym, ap, ◌∙◌, subst, inl, arith, append_assoc, append-nil, lit≤, ⊎_elim}
use Rattle.std.specs.Prelude.{◌&&◌, ◌==◌, not, if◌then◌else◌, IfSome, is_some, unwrap_or, IsSome, IfOk, IfErr, IsOkAnd}
use Rattle.std.specs.Fmt.{decimal}
use Rattle.std.proofs.lemmas.Bool.{and_parts, and_from, leb-true, le-leb, eqb-true, eqb-false, ne_eqb, not-true, false≢true, cases_eq}
use Rattle.std.proofs.lemmas.Fmt.{decimal_digit, decimal_step, decimal_by_steps}
use Rattle.std.specs.Option.{ok_or}
use Rattle.std.proofs.Math.Seq.{take-length}
use Rattle.g_name.specs.BadPlace.{Begins, IsBadPlace}
use Rattle.g_name.specs.declared.bad_name.BadName.{BadName}
use Rattle.g_name.specs.declared.path.Path.{Path}
use Rattle.g_name.specs.Grammar.{is_word, is_lang, is_digit}
use Rattle.g_name.specs.Machine.{run}
use Rattle.g_name.specs.Names.{Name, IsName, IsNameText, name_text, path_name, user_part, last_part}
use Rattle.g_name.specs.Reading.{with_digit, is_generation, step, start, is_whole, user_read, generation_read, lang_read, name_read}
use Rattle.g_name.specs.ReadingText.{IsReading}
use Rattle.g_name.specs.Words.{is_empty, may_be_word, extends, extends_lang}
use Rattle.g_name.specs.declared.path_reader.Part.{Part}
use Rattle.g_name.specs.declared.path_reader.Part.TheVariants.{User, Local, Generation, Lang, Closed, LangClosed}
use Rattle.g_name.specs.declared.path_reader.PathReader.{PathReader}
use Rattle.g_name.proofs.BadPlaceLemmas.{run-append, run-None, wrong_at}
use Rattle.g_name.proofs.WordLemmas.{may_be-from_word, word-from_may_be, word-push, word-extends, lang-push, lang-extends}

-- a reader of these parts
abbrev pub reader : Part → List ℕ → List ℕ → ℕ → List ℕ → PathReader
reader p u l g lang = record { part = p; user = u; local = l; generation = g; lang = lang }

-- the digits that were read
abbrev pub digits_read : ℕ → List ℕ
digits_read n = if n == 0 then [] else decimal n

-- up to the brackets
abbrev front : PathReader → List ℕ
front r = user_part (user_read r.user) ++ r.local

-- up to the slash or the closing bracket
abbrev opened : PathReader → List ℕ
opened r = front r ++ (40 ∷ digits_read r.generation)

-- all that was read
abbrev text_in : Part → PathReader → List ℕ
text_in User r = 58 ∷ r.user
text_in Local r = front r
text_in Generation r = opened r
text_in Lang r = opened r ++ (47 ∷ r.lang)
text_in Closed r = opened r ++ (41 ∷ [])
text_in LangClosed r = (opened r ++ (47 ∷ r.lang)) ++ (41 ∷ [])

abbrev pub text_read : PathReader → List ℕ
text_read r = text_in r.part r

-- the reader has read this text
pub record HasRead (bytes : List ℕ) (r : PathReader) : Type 0 where
  pub known : IsReading r
  pub text : text_read r ≡ bytes

-- either answer of a test
either : {X : Type 0} (P : X → Type 0) (b : Bool) (x y : X) → (b ≡ true → P x) → (b ≡ false → P y) → P (if b then x else y)
either P true x y holds fails = holds refl
either P false x y holds fails = fails refl

-- a generation that was read
generation_some : (n : ℕ) → 0 < n → (generation_read n ≡ Some n) × (digits_read n ≡ decimal n)
generation_some n positive =
    let test : (n == 0) ≡ false = ne_eqb n 0 (λ zero. absurd (omega arith)) in
    (ap (λ (b : Bool). let none : Option ℕ = None in if b then none else Some n) test, ap (λ (b : Bool). if b then [] else decimal n) test)

digits-none : (n : ℕ) → n ≡ 0 → digits_read n ≡ []
digits-none n none = ap digits_read none

first_digit : (n c : ℕ) → 48 ≤ c → c ≤ 57 → n ≡ 0 → decimal (with_digit n c) ≡ digits_read n ++ c ∷ []
first_digit n c low high none =
    let small : with_digit n c < 10 = omega arith in
    let same : 48 + with_digit n c ≡ c = omega arith in
    decimal_digit (with_digit n c) small ∙ ap (λ (b : ℕ). b ∷ []) same ∙ ap (λ (ds : List ℕ). ds ++ c ∷ []) (sym (digits-none n none))

later_digit : (n c : ℕ) → 48 ≤ c → c ≤ 57 → with_digit n c ≤ 4095 → (n ≡ 0 → ⊥) → decimal (with_digit n c) ≡ digits_read n ++ c ∷ []
later_digit n c low high most some =
    let positive : 0 < n = omega (arith, some) in
    let large : 10 ≤ with_digit n c = omega arith in
    let fits : with_digit n c < 2 ^ 64 = omega arith in
    let quotient : with_digit n c / 10 ≡ n = omega arith in
    let last : 48 + with_digit n c % 10 ≡ c = omega arith in
    decimal_step (with_digit n c) large fits ∙ ap (λ (m : ℕ). decimal m ++ ((48 + with_digit n c % 10) ∷ [])) quotient
    ∙ ap (λ (b : ℕ). decimal n ++ (b ∷ [])) last ∙ ap (λ (ds : List ℕ). ds ++ c ∷ []) (sym (generation_some n positive).1)

-- one digit more
digits-push : (n c : ℕ) → is_digit c ≡ true → is_generation (with_digit n c) ≡ true → digits_read (with_digit n c) ≡ digits_read n ++ c ∷ []
digits-push n c digit inside =
    let low : 48 ≤ c = leb-true _ _ (and_parts _ _ digit).0 in
    let high : c ≤ 57 = leb-true _ _ (and_parts _ _ digit).1 in
    let least : 1 ≤ with_digit n c = leb-true _ _ (and_parts _ _ inside).0 in
    let most : with_digit n c ≤ 4095 = leb-true _ _ (and_parts _ _ inside).1 in
    (generation_some (with_digit n c) least).1
    ∙ ⊎_elim (λ none. first_digit n c low high none) (λ some. later_digit n c low high most some) (cases_eq n 0)

from_empty : (xs : List ℕ) → is_empty xs ≡ true → xs ≡ []
from_empty [] is = refl
from_empty (x ∷ xs) is = absurd (false≢true is)

-- one byte more
abbrev Goes : ℕ → PathReader → Option PathReader → Type 0
Goes c r next = IfSome next (HasRead (text_read r ++ c ∷ []))

behind_dot : (u l : List ℕ) (c : ℕ) → l ≡ [] → (c == 46) ≡ true → not (is_empty u) ≡ true → user_part (user_read u) ++ l ≡ (58 ∷ u) ++ c ∷ []
behind_dot [] l c none dot there = absurd (false≢true there)
behind_dot (x ∷ xs) l c none dot there =
    ap (λ (rest : List ℕ). ((58 ∷ x ∷ xs) ++ 46 ∷ []) ++ rest) none ∙ append-nil ((58 ∷ x ∷ xs) ++ 46 ∷ [])
    ∙ ap (λ (b : ℕ). (58 ∷ x ∷ xs) ++ b ∷ []) (sym (eqb-true c 46 dot))

behind_colon : (u l : List ℕ) (c : ℕ) → (c == 58) ≡ true → is_empty u ≡ true → is_empty l ≡ true → 58 ∷ u ≡ (user_part (user_read u) ++ l) ++ c ∷ []
behind_colon [] [] c colon no_user no_local = ap (λ (b : ℕ). b ∷ []) (sym (eqb-true c 58 colon))
behind_colon [] (y ∷ ys) c colon no_user no_local = absurd (false≢true no_local)
behind_colon (x ∷ xs) l c colon no_user no_local = absurd (false≢true no_user)

goes_user : (u l : List ℕ) (g : ℕ) (lang : List ℕ) (c : ℕ) → IsReading (reader User u l g lang) → Goes c (reader User u l g lang) (step c (reader User u l g lang))
goes_user u l g lang c known =
    either (Goes c (reader User u l g lang)) (extends u c) _ _
    (λ next. record {
      known = record { user = may_be-from_word (u ++ c ∷ []) (word-push u c known.user next); local = known.local; generation = known.generation; lang = known.lang; reached = known.reached };
      text = refl;
    })
    (λ _. either (Goes c (reader User u l g lang)) (c == 46 && not (is_empty u)) _ _
    (λ dot. let at_dot = and_parts (c == 46) (not (is_empty u)) dot in record {
      known = record { user = known.user; local = known.local; generation = known.generation; lang = known.lang; reached = (known.reached.1, known.reached.2) };
      text = behind_dot u l c known.reached.0 at_dot.0 at_dot.1;
    })
    (λ _. tt))

goes_local : (u l : List ℕ) (g : ℕ) (lang : List ℕ) (c : ℕ) → IsReading (reader Local u l g lang) → Goes c (reader Local u l g lang) (step c (reader Local u l g lang))
goes_local u l g lang c known =
    either (Goes c (reader Local u l g lang)) (extends l c) _ _
    (λ next. record {
      known = record { user = known.user; local = may_be-from_word (l ++ c ∷ []) (word-push l c known.local next); generation = known.generation; lang = known.lang; reached = known.reached };
      text = sym (append_assoc (user_part (user_read u)) l (c ∷ []));
    })
    (λ _. either (Goes c (reader Local u l g lang)) (c == 58 && is_empty u && is_empty l) _ _
    (λ colon. let at_colon = and_parts (c == 58 && is_empty u) (is_empty l) colon in let byte = and_parts (c == 58) (is_empty u) at_colon.0 in record {
      known = record { user = known.user; local = known.local; generation = known.generation; lang = known.lang; reached = (from_empty l at_colon.1, known.reached.0, known.reached.1) };
      text = behind_colon u l c byte.0 byte.1 at_colon.1;
    })
    (λ _. either (Goes c (reader Local u l g lang)) (c == 40 && not (is_empty l)) _ _
    (λ bracket. let at_bracket = and_parts (c == 40) (not (is_empty l)) bracket in record {
      known = record { user = known.user; local = known.local; generation = known.generation; lang = known.lang; reached = (word-from_may_be l known.local (not-true (is_empty l) at_bracket.1), known.reached.1) };
      text = ap (λ (ds : List ℕ). front (reader Local u l g lang) ++ (40 ∷ ds)) (digits-none g known.reached.0)
          ∙ ap (λ (b : ℕ). front (reader Local u l g lang) ++ b ∷ []) (sym (eqb-true c 40 at_bracket.0));
    })
    (λ _. tt)))

goes_generation : (u l : List ℕ) (g : ℕ) (lang : List ℕ) (c : ℕ) → IsReading (reader Generation u l g lang) → Goes c (reader Generation u l g lang) (step c (reader Generation u l g lang))
goes_generation u l g lang c known =
    let before = reader Generation u l g lang in
    either (Goes c before) (is_digit c && is_generation (with_digit g c)) _ _
    (λ digit. let at_digit = and_parts (is_digit c) (is_generation (with_digit g c)) digit in record {
      known = record { user = known.user; local = known.local; generation = leb-true (with_digit g c) 4095 (and_parts _ _ at_digit.1).1; lang = known.lang; reached = known.reached };
      text = ap (λ (ds : List ℕ). front before ++ (40 ∷ ds)) (digits-push g c at_digit.0 at_digit.1) ∙ sym (append_assoc (front before) (40 ∷ digits_read g) (c ∷ []));
    })
    (λ _. either (Goes c before) (c == 47) _ _
    (λ slash. record {
      known = record { user = known.user; local = known.local; generation = known.generation; lang = known.lang; reached = known.reached.0 };
      text = ap (λ (rest : List ℕ). opened before ++ (47 ∷ rest)) known.reached.1 ∙ ap (λ (b : ℕ). opened before ++ b ∷ []) (sym (eqb-true c 47 slash));
    })
    (λ _. either (Goes c before) (c == 41 && not (g == 0)) _ _
    (λ bracket. let at_bracket = and_parts (c == 41) (not (g == 0)) bracket in
    let some : g ≡ 0 → ⊥ = eqb-false g 0 (not-true (g == 0) at_bracket.1) in
    let positive : 0 < g = omega (arith, some) in record {
      known = record { user = known.user; local = known.local; generation = known.generation; lang = known.lang; reached = (known.reached.0, positive, known.reached.1) };
      text = ap (λ (b : ℕ). opened before ++ b ∷ []) (sym (eqb-true c 41 at_bracket.0));
    })
    (λ _. tt)))

goes_lang : (u l : List ℕ) (g : ℕ) (lang : List ℕ) (c : ℕ) → IsReading (reader Lang u l g lang) → Goes c (reader Lang u l g lang) (step c (reader Lang u l g lang))
goes_lang u l g lang c known =
    let before = reader Lang u l g lang in
    either (Goes c before) (extends_lang lang c) _ _
    (λ next. record {
      known = record { user = known.user; local = known.local; generation = known.generation; lang = lang-push lang c known.lang next; reached = known.reached };
      text = sym (append_assoc (opened before) (47 ∷ lang) (c ∷ []));
    })
    (λ _. either (Goes c before) (c == 41) _ _
    (λ bracket. record {
      known = record { user = known.user; local = known.local; generation = known.generation; lang = known.lang; reached = known.reached };
      text = ap (λ (b : ℕ). (opened before ++ (47 ∷ lang)) ++ b ∷ []) (sym (eqb-true c 41 bracket));
    })
    (λ _. tt))

goes : (p : Part) (u l : List ℕ) (g : ℕ) (lang : List ℕ) (c : ℕ) → IsReading (reader p u l g lang) → Goes c (reader p u l g lang) (step c (reader p u l g lang))
goes User u l g lang c known = goes_user u l g lang c known
goes Local u l g lang c known = goes_local u l g lang c known
goes Generation u l g lang c known = goes_generation u l g lang c known
goes Lang u l g lang c known = goes_lang u l g lang c known
goes Closed u l g lang c known = tt
goes LangClosed u l g lang c known = tt

run-read : (state : Option PathReader) (text bytes : List ℕ) → IfSome state (HasRead text) → IfSome (run step state bytes) (HasRead (text ++ bytes))
run-read None text bytes has = subst (λ (o : Option PathReader). IfSome o (HasRead (text ++ bytes))) (sym (run-None step bytes)) tt
run-read (Some r) text [] has = subst (λ (t : List ℕ). HasRead t r) (sym (append-nil text)) has
run-read (Some r) text (c ∷ cs) has =
    let next : IfSome (step c r) (HasRead (text ++ c ∷ [])) =
    subst (λ (t : List ℕ). IfSome (step c r) (HasRead (t ++ c ∷ []))) has.text (goes r.part r.user r.local r.generation r.lang c has.known) in
    subst (λ (t : List ℕ). IfSome (run step (step c r) cs) (HasRead t)) (append_assoc text (c ∷ []) cs) (run-read (step c r) (text ++ c ∷ []) cs next)

start_read : HasRead [] start
start_read = record { known = record { user = refl; local = refl; generation = lit≤ tt; lang = refl; reached = (refl, refl) }; text = refl }

-- a reader that took the bytes has read them
pub has_read : (bytes : List ℕ) (r : PathReader) → run step (Some start) bytes ≡ Some r → HasRead bytes r
has_read bytes r here = subst (λ (o : Option PathReader). IfSome o (HasRead bytes)) here (run-read (Some start) [] bytes start_read)

-- A reader that accepts each byte that may follow ends with all bytes.
run_pushes : {S : Type 0} (taken : ℕ → S → Option S) (at : List ℕ → S) (may_come : List ℕ → ℕ → Bool) (is_in : List ℕ → Bool)
    → ((w : List ℕ) (c : ℕ) → may_come w c ≡ true → taken c (at w) ≡ Some (at (w ++ c ∷ [])))
    → ((w : List ℕ) (c : ℕ) (more : List ℕ) → is_in (w ++ (c ∷ more)) ≡ true → may_come w c ≡ true)
    → (xs ys : List ℕ) → is_in (xs ++ ys) ≡ true → run taken (Some (at xs)) ys ≡ Some (at (xs ++ ys))
run_pushes {S = S} taken at may_come is_in each next xs [] is = ap (λ (w : List ℕ). Some (at w)) (sym (append-nil xs))
run_pushes {S = S} taken at may_come is_in each next xs (y ∷ ys) is =
    ap (λ (o : Option S). run taken o ys) (each xs y (next xs y ys is))
    ∙ run_pushes taken at may_come is_in each next (xs ++ y ∷ []) ys (subst (λ (t : List ℕ). is_in t ≡ true) (sym (append_assoc xs (y ∷ []) ys)) is)
    ∙ ap (λ (w : List ℕ). Some (at w)) (append_assoc xs (y ∷ []) ys)

-- a test that holds
where_true : {X : Type 0} (b : Bool) (x y : X) → b ≡ true → (if b then x else y) ≡ x
where_true {X = X} b x y holds = ap (λ (t : Bool). if t then x else y) holds

abbrev Reads : PathReader → List ℕ → PathReader → Type 0
Reads before bytes after = run step (Some before) bytes ≡ Some after

reads_both : (r s t : PathReader) (xs ys : List ℕ) → Reads r xs s → Reads s ys t → Reads r (xs ++ ys) t
reads_both r s t xs ys first second = run-append step (Some r) xs ys ∙ ap (λ (o : Option PathReader). run step o ys) first ∙ second

reads_user : (user : Option (List ℕ)) → IfSome user (λ u. is_word u ≡ true) → Reads start (user_part user) (reader Local (unwrap_or user []) [] 0 [])
reads_user None is = refl
reads_user (Some []) is = absurd (false≢true is)
reads_user (Some (x ∷ xs)) is =
    reads_both (reader User [] [] 0 []) (reader User (x ∷ xs) [] 0 []) (reader Local (x ∷ xs) [] 0 []) (x ∷ xs) (46 ∷ [])
    (run_pushes step (λ w. reader User w [] 0 []) extends is_word (λ w c. where_true (extends w c) _ _) word-extends [] (x ∷ xs) is)
    refl

reads_local : (u l : List ℕ) → is_word l ≡ true → Reads (reader Local u [] 0 []) l (reader Local u l 0 [])
reads_local u l is = run_pushes step (λ w. reader Local u w 0 []) extends is_word (λ w c. where_true (extends w c) _ _) word-extends [] l is

reads_lang : (u l : List ℕ) (g : ℕ) (lang : List ℕ) → is_lang lang ≡ true → Reads (reader Lang u l g []) lang (reader Lang u l g lang)
reads_lang u l g lang is = run_pushes step (λ w. reader Lang u l g w) extends_lang is_lang (λ w c. where_true (extends_lang w c) _ _) lang-extends [] lang is

takes_digit : (u l lang : List ℕ) (g d : ℕ) → d < 10 → 1 ≤ 10 * g + d → 10 * g + d ≤ 4095 → step (48 + d) (reader Generation u l g lang) ≡ Some (reader Generation u l (10 * g + d) lang)
takes_digit u l lang g d below least most =
    let value : with_digit g (48 + d) ≡ 10 * g + d = omega arith in
    let low : 48 ≤ 48 + d = omega arith in
    let high : 48 + d ≤ 57 = omega arith in
    let low_value : 1 ≤ with_digit g (48 + d) = omega arith in
    let high_value : with_digit g (48 + d) ≤ 4095 = omega arith in
    where_true (is_digit (48 + d) && is_generation (with_digit g (48 + d))) _ _
    (and_from _ _ (and_from _ _ (le-leb 48 (48 + d) low) (le-leb (48 + d) 57 high)) (and_from _ _ (le-leb 1 _ low_value) (le-leb _ 4095 high_value)))
    ∙ ap (λ (n : ℕ). Some (reader Generation u l n lang)) value

abbrev Digits : List ℕ → List ℕ → List ℕ → ℕ → List ℕ → Type 0
Digits u l lang m ds = 1 ≤ m → m ≤ 4095 → Reads (reader Generation u l 0 lang) ds (reader Generation u l m lang)

first_digits : (u l lang : List ℕ) (m : ℕ) → m < 10 → Digits u l lang m ((48 + m) ∷ [])
first_digits u l lang m below least most =
    let value : 10 * 0 + m ≡ m = omega arith in
    takes_digit u l lang 0 m below (omega arith) (omega arith) ∙ ap (λ (n : ℕ). Some (reader Generation u l n lang)) value

more_digits : (u l lang : List ℕ) (m : ℕ) (ds : List ℕ) → 10 ≤ m → Digits u l lang (m / 10) ds → Digits u l lang m (ds ++ ((48 + m % 10) ∷ []))
more_digits u l lang m ds large before least most =
    let some : 1 ≤ m / 10 = omega arith in
    let few : m / 10 ≤ 4095 = omega arith in
    let value : 10 * (m / 10) + m % 10 ≡ m = omega arith in
    reads_both (reader Generation u l 0 lang) (reader Generation u l (m / 10) lang) (reader Generation u l m lang) ds ((48 + m % 10) ∷ [])
    (before some few)
    (takes_digit u l lang (m / 10) (m % 10) (omega arith) (omega arith) (omega arith) ∙ ap (λ (n : ℕ). Some (reader Generation u l n lang)) value)

reads_digits : (u l lang : List ℕ) (n : ℕ) → 1 ≤ n → n ≤ 4095 → Reads (reader Generation u l 0 lang) (decimal n) (reader Generation u l n lang)
reads_digits u l lang n least most =
    let fits : n < 2 ^ 64 = omega arith in
    decimal_by_steps (Digits u l lang) (first_digits u l lang) (more_digits u l lang) n fits least most

-- the part in which a name ends
abbrev the_part : Option ℕ → Option (List ℕ) → Part
the_part None None = Local
the_part (Some g) None = Closed
the_part generation (Some lang) = LangClosed

closes_generation : (u l : List ℕ) (g : ℕ) → 1 ≤ g → step 41 (reader Generation u l g []) ≡ Some (reader Closed u l g [])
closes_generation u l g least = where_true (not (g == 0)) _ _ (ap not (ne_eqb g 0 (λ zero. absurd (omega arith))))

reads_last : (u l : List ℕ) (generation : Option ℕ) (lang : Option (List ℕ)) → is_word l ≡ true
    → IfSome generation (λ g. (1 ≤ g) × (g ≤ 4095)) → IfSome lang (λ t. is_lang t ≡ true)
    → Reads (reader Local u l 0 []) (last_part generation lang) (reader (the_part generation lang) u l (unwrap_or generation 0) (unwrap_or lang []))
reads_last u [] generation lang is in_range is_language = absurd (false≢true is)
reads_last u (x ∷ xs) None None is in_range is_language = refl
reads_last u (x ∷ xs) (Some g) None is in_range is_language =
    reads_both (reader Generation u (x ∷ xs) 0 []) (reader Generation u (x ∷ xs) g []) (reader Closed u (x ∷ xs) g []) (decimal g) (41 ∷ [])
    (reads_digits u (x ∷ xs) [] g in_range.0 in_range.1) (closes_generation u (x ∷ xs) g in_range.0)
reads_last u (x ∷ xs) None (Some lang) is in_range is_language =
    reads_both (reader Lang u (x ∷ xs) 0 []) (reader Lang u (x ∷ xs) 0 lang) (reader LangClosed u (x ∷ xs) 0 lang) lang (41 ∷ []) (reads_lang u (x ∷ xs) 0 lang is_language) refl
reads_last u (x ∷ xs) (Some g) (Some lang) is in_range is_language =
    reads_both (reader Generation u (x ∷ xs) 0 []) (reader Lang u (x ∷ xs) g lang) (reader LangClosed u (x ∷ xs) g lang) ((decimal g ++ 47 ∷ []) ++ lang) (41 ∷ [])
    (reads_both (reader Generation u (x ∷ xs) 0 []) (reader Lang u (x ∷ xs) g []) (reader Lang u (x ∷ xs) g lang) (decimal g ++ 47 ∷ []) lang
    (reads_both (reader Generation u (x ∷ xs) 0 []) (reader Generation u (x ∷ xs) g []) (reader Lang u (x ∷ xs) g []) (decimal g) (47 ∷ [])
    (reads_digits u (x ∷ xs) [] g in_range.0 in_range.1) refl)
    (reads_lang u (x ∷ xs) g lang is_language))
    refl

-- the reader of a whole name
abbrev pub reader_of : Name → PathReader
reader_of n = reader (the_part n.generation n.lang) (unwrap_or n.user []) n.local (unwrap_or n.generation 0) (unwrap_or n.lang [])

-- each name is read
pub reads_name : (n : Name) → IsName n → run step (Some start) (name_text n) ≡ Some (reader_of n)
reads_name n is =
    reads_both start (reader Local (unwrap_or n.user []) n.local 0 []) (reader_of n) (user_part n.user ++ n.local) (last_part n.generation n.lang)
    (reads_both start (reader Local (unwrap_or n.user []) [] 0 []) (reader Local (unwrap_or n.user []) n.local 0 []) (user_part n.user) n.local
    (reads_user n.user is.user) (reads_local (unwrap_or n.user []) n.local is.local))
    (reads_last (unwrap_or n.user []) n.local n.generation n.lang is.local is.generation is.lang)

same_user : (user : Option (List ℕ)) → IfSome user (λ u. is_word u ≡ true) → user_read (unwrap_or user []) ≡ user
same_user None is = refl
same_user (Some []) is = absurd (false≢true is)
same_user (Some (x ∷ xs)) is = refl

same_generation : (generation : Option ℕ) → IfSome generation (λ g. (1 ≤ g) × (g ≤ 4095)) → generation_read (unwrap_or generation 0) ≡ generation
same_generation None is = refl
same_generation (Some g) is = (generation_some g is.0).0

same_lang : (generation : Option ℕ) (lang : Option (List ℕ)) → lang_read (the_part generation lang) (unwrap_or lang []) ≡ lang
same_lang None None = refl
same_lang (Some g) None = refl
same_lang None (Some lang) = refl
same_lang (Some g) (Some lang) = refl

-- and what is read is that name
pub name_read_of : (n : Name) → IsName n → name_read (reader_of n) ≡ n
name_read_of n is =
    let read : Name = name_read (reader_of n) in
    let user : read.user ≡ n.user = same_user n.user is.user in
    let generation : read.generation ≡ n.generation = same_generation n.generation is.generation in
    let lang : read.lang ≡ n.lang = same_lang n.generation n.lang in
    ap (λ (u : Option (List ℕ)). let m : Name = record { user = u; local = n.local; generation = read.generation; lang = read.lang } in m) user
    ∙ ap (λ (g : Option ℕ). let m : Name = record { user = n.user; local = n.local; generation = g; lang = read.lang } in m) generation
    ∙ ap (λ (l : Option (List ℕ)). let m : Name = record { user = n.user; local = n.local; generation = n.generation; lang = l } in m) lang

-- and it may end there
whole_at_end : (l : List ℕ) (generation : Option ℕ) (lang : Option (List ℕ)) (u more : List ℕ) (g : ℕ) → is_word l ≡ true → is_whole (reader (the_part generation lang) u l g more) ≡ true
whole_at_end [] generation lang u more g is = absurd (false≢true is)
whole_at_end (x ∷ xs) None None u more g is = refl
whole_at_end (x ∷ xs) (Some n) None u more g is = refl
whole_at_end (x ∷ xs) None (Some t) u more g is = refl
whole_at_end (x ∷ xs) (Some n) (Some t) u more g is = refl

pub whole_of : (n : Name) → IsName n → is_whole (reader_of n) ≡ true
whole_of n is = whole_at_end n.local n.generation n.lang (unwrap_or n.user []) (unwrap_or n.lang []) (unwrap_or n.generation 0) is.local

user_is : (u : List ℕ) → may_be_word u ≡ true → IfSome (user_read u) (λ w. is_word w ≡ true)
user_is [] may = tt
user_is (x ∷ xs) may = may

abbrev In : Option ℕ → Type 0
In generation = IfSome generation (λ n. (1 ≤ n) × (n ≤ 4095))

generation_is : (g : ℕ) → g ≤ 4095 → IfSome (generation_read g) (λ n. (1 ≤ n) × (n ≤ 4095))
generation_is g most =
    ⊎_elim (λ none. subst In (sym (ap generation_read none)) tt)
    (λ some. let positive : 0 < g = omega (arith, some) in subst In (sym (generation_some g positive).0) (positive, most)) (cases_eq g 0)

-- The brackets, whose digits and language the reader has.
last_of_lang : (g : ℕ) (lang : List ℕ) → ((40 ∷ digits_read g) ++ (47 ∷ lang)) ++ (41 ∷ []) ≡ last_part (generation_read g) (Some lang)
last_of_lang g lang =
    ⊎_elim
    (λ none. ap (λ (n : ℕ). ((40 ∷ digits_read n) ++ (47 ∷ lang)) ++ (41 ∷ [])) none ∙ ap (λ (n : ℕ). last_part (generation_read n) (Some lang)) (sym none))
    (λ some. let positive : 0 < g = omega (arith, some) in
    ap (λ (ds : List ℕ). ((40 ∷ ds) ++ (47 ∷ lang)) ++ (41 ∷ [])) (generation_some g positive).1
    ∙ ap (λ (t : List ℕ). (40 ∷ t) ++ (41 ∷ [])) (sym (append_assoc (decimal g) (47 ∷ []) lang))
    ∙ ap (λ (generation : Option ℕ). last_part generation (Some lang)) (sym (generation_some g positive).0))
    (cases_eq g 0)

-- If a path may end here, the reader has the text of the name that it read.
whole_in : (p : Part) (u l : List ℕ) (g : ℕ) (lang : List ℕ) → IsReading (reader p u l g lang) → is_whole (reader p u l g lang) ≡ true
    → (is_word l ≡ true) × (text_in p (reader p u l g lang) ≡ name_text (name_read (reader p u l g lang)))
whole_in User u l g lang known is = absurd (false≢true is)
whole_in Generation u l g lang known is = absurd (false≢true is)
whole_in Lang u l g lang known is = absurd (false≢true is)
whole_in Local u l g lang known is = (
  word-from_may_be l known.local (not-true (is_empty l) is),
  sym (append-nil (user_part (user_read u) ++ l)) ∙ ap (λ (n : ℕ). (user_part (user_read u) ++ l) ++ last_part (generation_read n) None) (sym known.reached.0),
)
whole_in Closed u l g lang known is = (
  known.reached.0,
  append_assoc (user_part (user_read u) ++ l) (40 ∷ digits_read g) (41 ∷ [])
      ∙ ap (λ (ds : List ℕ). (user_part (user_read u) ++ l) ++ ((40 ∷ ds) ++ 41 ∷ [])) (generation_some g known.reached.1).1
      ∙ ap (λ (generation : Option ℕ). (user_part (user_read u) ++ l) ++ last_part generation None) (sym (generation_some g known.reached.1).0),
)
whole_in LangClosed u l g lang known is = (
  known.reached,
  ap (λ (t : List ℕ). t ++ 41 ∷ []) (append_assoc (user_part (user_read u) ++ l) (40 ∷ digits_read g) (47 ∷ lang))
      ∙ append_assoc (user_part (user_read u) ++ l) ((40 ∷ digits_read g) ++ (47 ∷ lang)) (41 ∷ [])
      ∙ ap (λ (t : List ℕ). (user_part (user_read u) ++ l) ++ t) (last_of_lang g lang),
)

lang_is : (p : Part) (lang : List ℕ) → is_lang lang ≡ true → IfSome (lang_read p lang) (λ t. is_lang t ≡ true)
lang_is User lang is = tt
lang_is Local lang is = tt
lang_is Generation lang is = tt
lang_is Lang lang is = tt
lang_is Closed lang is = tt
lang_is LangClosed lang is = is

pub whole_name : (r : PathReader) → IsReading r → is_whole r ≡ true → IsName (name_read r)
whole_name r known is = record {
  user = user_is r.user known.user;
  local = (whole_in r.part r.user r.local r.generation r.lang known is).0;
  generation = generation_is r.generation known.generation;
  lang = lang_is r.part r.lang known.lang;
}

pub whole_text : (r : PathReader) → IsReading r → is_whole r ≡ true → text_read r ≡ name_text (name_read r)
whole_text r known is = (whole_in r.part r.user r.local r.generation r.lang known is).1

-- What was read is a prefix of the text of a name, given the bytes that complete it.
abbrev BeginsIn : Part → List ℕ → List ℕ → ℕ → List ℕ → Type 0
BeginsIn p u l g lang = IsReading (reader p u l g lang) → Begins IsNameText (text_in p (reader p u l g lang))

-- A complete reader that has read the text and some more.
begins_by : (r : PathReader) (text rest : List ℕ) → IsReading r → is_whole r ≡ true → text ++ rest ≡ text_read r → Begins IsNameText text
begins_by r text rest known is longer = (rest, (name_read r, whole_name r known is, longer ∙ whole_text r known is))

-- the reader with another part of a language
with_lang_closed : (u l : List ℕ) (g : ℕ) (lang : List ℕ) → may_be_word u ≡ true → is_word l ≡ true → g ≤ 4095 → is_lang lang ≡ true → IsReading (reader LangClosed u l g lang)
with_lang_closed u l g lang user local generation is = record { user = user; local = may_be-from_word l local; generation = generation; lang = is; reached = local }

-- the reader of a user and the local name A
user_then_a : (u : List ℕ) → may_be_word u ≡ true → IsReading (reader Local u (65 ∷ []) 0 [])
user_then_a u user = record { user = user; local = refl; generation = lit≤ tt; lang = refl; reached = (refl, refl) }

begins_in : (p : Part) (u l : List ℕ) (g : ℕ) (lang : List ℕ) → BeginsIn p u l g lang
begins_in User [] l g lang known = begins_by (reader Local (65 ∷ []) (65 ∷ []) 0 []) (58 ∷ []) (65 ∷ 46 ∷ 65 ∷ []) (user_then_a (65 ∷ []) refl) refl refl
begins_in User (x ∷ xs) l g lang known =
    begins_by (reader Local (x ∷ xs) (65 ∷ []) 0 []) (58 ∷ x ∷ xs) (46 ∷ 65 ∷ []) (user_then_a (x ∷ xs) known.user) refl
    (sym (append_assoc (58 ∷ x ∷ xs) (46 ∷ []) (65 ∷ [])))
begins_in Local u [] g lang known =
    begins_by (reader Local u (65 ∷ []) 0 []) (user_part (user_read u) ++ []) (65 ∷ []) (user_then_a u known.user) refl
    (append_assoc (user_part (user_read u)) [] (65 ∷ []))
begins_in Local u (x ∷ xs) g lang known = begins_by (reader Local u (x ∷ xs) g lang) _ [] known refl (append-nil (user_part (user_read u) ++ (x ∷ xs)))
begins_in Generation u l g lang known =
    begins_by (reader LangClosed u l g []) (opened (reader Generation u l g lang)) (47 ∷ 41 ∷ []) (with_lang_closed u l g [] known.user known.reached.0 known.generation refl) refl
    (sym (append_assoc (opened (reader Generation u l g lang)) (47 ∷ []) (41 ∷ [])))
begins_in Lang u l g lang known =
    begins_by (reader LangClosed u l g lang) (opened (reader Lang u l g lang) ++ (47 ∷ lang)) (41 ∷ []) (with_lang_closed u l g lang known.user known.reached known.generation known.lang) refl refl
begins_in Closed u l g lang known = begins_by (reader Closed u l g lang) _ [] known refl (append-nil (opened (reader Closed u l g lang) ++ 41 ∷ []))
begins_in LangClosed u l g lang known = begins_by (reader LangClosed u l g lang) _ [] known refl (append-nil ((opened (reader LangClosed u l g lang) ++ (47 ∷ lang)) ++ 41 ∷ []))

pub begins_name : (bytes : List ℕ) (r : PathReader) → HasRead bytes r → Begins IsNameText bytes
begins_name bytes r has = subst (Begins IsNameText) has.text (begins_in r.part r.user r.local r.generation r.lang has.known)

-- the text of a name is read to its end
reads_text : (text : List ℕ) (n : Name) → IsName n → text ≡ name_text n → run step (Some start) text ≡ Some (reader_of n)
reads_text text n is same = ap (λ (t : List ℕ). run step (Some start) t) same ∙ reads_name n is

-- The place where a reader stops is the bad place.
pub wrong_name : (text : List ℕ) (place : ℕ) (r : PathReader) → place ≤ length text → run step (Some start) (take place text) ≡ Some r
    → (place ≡ length text) ⊎ (step (get_or text place 0) r ≡ None) → IsBadPlace IsNameText text place
wrong_name text place r within here end =
    wrong_at step start IsNameText (λ t named. ap (λ (o : Option PathReader). is_some o) (reads_text t named.0 named.1 named.2)) text place r within here
    (begins_name (take place text) r (has_read (take place text) r here)) end

-- a text that goes wrong before its end is no name
pub no_name : (text : List ℕ) (place : ℕ) → IsBadPlace IsNameText text place → place < length text → (n : Name) → IsName n → text ≡ name_text n → ⊥
no_name text place bad inside n is same =
    bad.longest (length text) inside (omega arith) ([], (n, is, append-nil (take (length text) text) ∙ take-length text ∙ same))

-- After the last byte.
pub at_end : (text : List ℕ) (place : ℕ) (r : PathReader) → length text ≤ place → place ≤ length text → run step (Some start) (take place text) ≡ Some r → run step (Some start) text ≡ Some r
at_end text place r past within here =
    let whole : place ≡ length text = omega arith in
    ap (run step (Some start)) (sym (take-length text) ∙ ap (λ (k : ℕ). take k text) (sym whole)) ∙ here

module _ (text : List ℕ) (r : PathReader) (here : run step (Some start) text ≡ Some r) (path : Option Path) (whole : (IsSome path → is_whole r ≡ true) × (is_whole r ≡ true → IsSome path)) (value : IfSome path (λ p. path_name p ≡ name_read r)) where
  by_path : (e : BadName) (o : Option Path) → (IsSome o → is_whole r ≡ true) → IfSome o (λ p. path_name p ≡ name_read r) → IfOk (ok_or o e) (λ p. IsName (path_name p) × (text ≡ name_text (path_name p)))
  by_path e None may_end same = tt
  by_path e (Some p) may_end same =
      let has = has_read text r here in
      (subst IsName (sym same) (whole_name r has.known (may_end refl)), sym has.text ∙ whole_text r has.known (may_end refl) ∙ ap name_text (sym same))

  -- the path that is answered
  pub path-ok : (e : BadName) → IfOk (ok_or path e) (λ p. IsName (path_name p) × (text ≡ name_text (path_name p)))
  path-ok e = by_path e path whole.0 value

  -- each name with this text is answered
  named : (e : BadName) (n : Name) (o : Option Path) → (is_whole r ≡ true → IsSome o) → IfSome o (λ p. path_name p ≡ name_read r) → is_whole r ≡ true → name_read r ≡ n → IsOkAnd (ok_or o e) (λ p. path_name p ≡ n)
  named e n None there same may_end read = absurd (false≢true (there may_end))
  named e n (Some p) there same may_end read = same ∙ read

  pub path-read : (e : BadName) (n : Name) → IsName n → text ≡ name_text n → IsOkAnd (ok_or path e) (λ p. path_name p ≡ n)
  path-read e n is same =
      let both : Some (reader_of n) ≡ Some r = sym (reads_text text n is same) ∙ here in
      let one : reader_of n ≡ r = cc in
      named e n path whole.1 value (subst (λ (s : PathReader). is_whole s ≡ true) one (whole_of n is)) (ap name_read (sym one) ∙ name_read_of n is)

  ended : (e : BadName) → e.place ≡ length text → (o : Option Path) → IfErr (ok_or o e) (λ bad. IsBadPlace IsNameText text bad.place)
  ended e place (Some p) = tt
  ended e place None =
      let all : take e.place text ≡ text = ap (λ (k : ℕ). take k text) place ∙ take-length text in
      let within : e.place ≤ length text = omega arith in
      wrong_name text e.place r within (ap (run step (Some start)) all ∙ here) (inl place)

  -- If the text ends too early, its length is the bad place.
  pub path-err : (e : BadName) → e.place ≡ length text → IfErr (ok_or path e) (λ bad. IsBadPlace IsNameText text bad.place)
  path-err e place = ended e place path

-- A single word is the local name of a path without other parts.
abbrev pub word_name : List ℕ → Name
word_name w = record { user = None; local = w; generation = None; lang = None }

pub word_is_name : (w : List ℕ) → is_word w ≡ true → IsName (word_name w) × (w ≡ name_text (word_name w))
word_is_name w is = (record { user = tt; local = is; generation = tt; lang = tt }, sym (append-nil w))

-- and no other name has its text
pub one_word_name : (w : List ℕ) (n : Name) → is_word w ≡ true → IsName n → w ≡ name_text n → word_name w ≡ n
one_word_name w n is named same =
    let word = word_is_name w is in
    let both : Some (reader_of (word_name w)) ≡ Some (reader_of n) = sym (reads_text w (word_name w) word.0 word.1) ∙ reads_text w n named same in
    let one : reader_of (word_name w) ≡ reader_of n = cc in
    sym (name_read_of (word_name w) word.0) ∙ ap name_read one ∙ name_read_of n named
