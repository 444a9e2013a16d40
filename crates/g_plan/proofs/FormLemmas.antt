-- A line is read as the form that it has, and as no other.
-- serves: LineLemmas, OrderLemmas
use Rattle.std.proofs.Common.{◌≡◌, ◌≢◌, ◌≤◌, ◌<◌, ◌^◌, ◌+◌, ◌-◌, ◌∙◌, ◌⊎◌, inl, inr, ℕ, suc, zero, List, [], ◌∷◌, ◌++◌, Bool, true, false, not, Option, Some, None, ap, arith, codes, drop, length, refl, subst, sym, get_or}
use Rattle.std.specs.Prelude.{◌&&◌, ◌||◌, ◌==◌, if◌then◌else◌, nat_le}
use Rattle.std.specs.Fmt.{decimal}
use Rattle.std.specs.List.{AllByRecursion, find, list_all}
use Rattle.std.specs.Option.{option_and_then, option_map}
use Rattle.std.specs.Char.{digit_value}
use Rattle.std.specs.Str.Parse.{AllDigits}
use Rattle.std.proofs.lemmas.Bool.{and_from, and_parts, cases_Bool, cond_both, eq-eqb, eqb-false, eqb-true, false≢true, le-leb, leb-false, leb-true, lt-leb, ne_eqb}
use Rattle.std.proofs.lemmas.Fmt.{decimal_is_IsNumeral, decimal_nonempty}
use Rattle.std.proofs.lemmas.List.{append-nil}
use Rattle.std.proofs.lemmas.Option.{cond_some, same_Some}
use Rattle.std.proofs.lemmas.Str.Parse.{digit_at}
use Rattle.std.proofs.Math.Seq.{drop-append_seam}
use Rattle.g_name.specs.Grammar.{is_digit, is_letter}
use Rattle.g_name.specs.Order.{same_text}
use Rattle.g_lines.specs.Numbers.{number_read}
use Rattle.g_plan.specs.Forms.{HasPlace, IsAccumulator, IsAddressOf, IsForm, IsModifier, IsNegative, IsValue, IsWord, MayBeNamed, Says}
use Rattle.g_plan.specs.LineReader.{from_least, in_brackets, modifier_read, named_or, negative, negative_read, number_value, only, value_read, word_read}
use Rattle.g_plan.specs.Laws.{IsReading, ReadByForms}
use Rattle.g_plan.specs.Table.{mnemonic_of, mnemonics, name_text, row_of}
use Rattle.g_plan.specs.Words.{before, behind_label, front_of, is_label, is_label_byte, is_printed, is_some_text, label_in, label_read, without_back, without_front, words}
use Rattle.g_plan.specs.declared.form.Form.{Form}
use Rattle.g_plan.specs.declared.form.Form.TheVariants.{Nothing, Program, At, Word, Chars, Order}
use Rattle.g_plan.specs.declared.form.Value.{Value}
use Rattle.g_plan.specs.declared.form.Value.TheVariants.{Number, Named}
use Rattle.g_plan.specs.declared.mnemonic.Mnemonic.{Mnemonic}
use Rattle.g_lines.proofs.NumberLemmas.{number-complete, number-sound, same_text-eq, same_text-refl}
use Rattle.g_plan.proofs.WordLemmas.{back-kept, before-all, before-drop, before-found, front-back, front_some, some_word, words_front, words_split}

-- options
pub mapped_some : {A B : Type 0} (f : A → B) (o : Option A) (y : B) → option_map f o ≡ Some y → (x : A) × (o ≡ Some x) × (f x ≡ y)
mapped_some f None y is = absurd cc
mapped_some f (Some x) y is = (x, refl, same_Some (f x) y is)

pub then_some : {A B : Type 0} (f : A → Option B) (o : Option A) (y : B) → option_and_then f o ≡ Some y → (x : A) × (o ≡ Some x) × (f x ≡ Some y)
then_some f None y is = absurd cc
then_some f (Some x) y is = (x, refl, is)

pub only-sound : (ws : List (List ℕ)) (w : List ℕ) → only ws ≡ Some w → ws ≡ w ∷ []
only-sound [] w is = absurd cc
only-sound (v ∷ []) w is = ap (λ (t : List ℕ). t ∷ []) (same_Some v w is)
only-sound (v ∷ u ∷ ws) w is = absurd cc

pub least-sound : (least n m : ℕ) → from_least least n ≡ Some m → (least ≤ m) × (n ≡ m)
least-sound least n m is =
    let parts = cond_some (nat_le least n) n m is in
    (subst (λ (k : ℕ). least ≤ k) parts.1 (leb-true least n parts.0), parts.1)

pub least-is : (least n : ℕ) → least ≤ n → from_least least n ≡ Some n
least-is least n few = rw (le-leb least n few) refl

-- labels
label-sound : (text label : List ℕ) → label_read text ≡ Some label → (is_label label ≡ true) × (text ≡ label)
label-sound text label is =
    let parts = cond_some (is_label text) text label is in
    (subst (λ (t : List ℕ). is_label t ≡ true) parts.1 parts.0, parts.1)

pub label-is : (text : List ℕ) → is_label text ≡ true → label_read text ≡ Some text
label-is text is = rw is refl

pub label-good : (text label : List ℕ) → label_read text ≡ Some label → is_label text ≡ true
label-good text label is = (cond_some (is_label text) text label is).0

pub label-none : (text : List ℕ) → is_label text ≡ false → label_read text ≡ None
label-none text is = rw is refl

low_first : (text : List ℕ) → get_or text 0 0 ≤ 57 → is_label text ≡ false
low_first [] low = refl
low_first (c ∷ cs) low = let less : nat_le 65 c ≡ false = lt-leb 65 c (omega (arith, low)) in rw less refl

first_digit : (n : ℕ) → n < 2 ^ 64 → (48 ≤ get_or (decimal n) 0 0) × (get_or (decimal n) 0 0 ≤ 57)
first_digit n fits = let at = digit_at (decimal n) 0 (decimal_is_IsNumeral n fits).0.1 (decimal_nonempty n fits) in (at.0, at.1)

decimal-label : (n : ℕ) → n < 2 ^ 64 → is_label (decimal n) ≡ false
decimal-label n fits = low_first (decimal n) (first_digit n fits).1

-- a label begins with a letter
label-first : (text : List ℕ) → is_label text ≡ true → 65 ≤ get_or text 0 0
label-first [] is = absurd cc
label-first (c ∷ cs) is =
    let front = and_parts (is_letter c && nat_le (length cs) 7) (list_all is_label_byte cs) is in
    let letter = and_parts (is_letter c) (nat_le (length cs) 7) front.0 in
    leb-true 65 c (and_parts (nat_le 65 c) (nat_le c 90) letter.0).0

-- values
value_sound : (most : ℕ) (text : List ℕ) (v : Value) (o : Option (List ℕ)) → label_read text ≡ o → named_or o (number_value most text) ≡ Some v → IsValue most v text
value_sound most text v (Some label) read is =
    subst (λ (u : Value). IsValue most u text) (same_Some (Named label) v is) (label-sound text label read)
value_sound most text v None read is =
    let (n, number, same) = mapped_some Number (number_read most text) v is in
    subst (λ (u : Value). IsValue most u text) same (number-sound most n text number)

pub value-sound : (most : ℕ) (text : List ℕ) (v : Value) → value_read most text ≡ Some v → IsValue most v text
value-sound most text v is = value_sound most text v (label_read text) refl is

pub value-complete : (most : ℕ) (text : List ℕ) (v : Value) → most < 2 ^ 64 → IsValue most v text → value_read most text ≡ Some v
value-complete most text (Number n) fits (few, is) =
    ap (value_read most) is ∙ rw (label-none (decimal n) (decimal-label n (omega (arith, few, fits))), number-complete most n (decimal n) fits (few, refl)) refl
value-complete most text (Named label) fits (good, is) = ap (value_read most) is ∙ rw (label-is label good) refl

-- the first byte of a value is neither a sign nor a bracket
value-first : (most : ℕ) (text : List ℕ) (v : Value) → most < 2 ^ 64 → IsValue most v text → 48 ≤ get_or text 0 0
value-first most text (Number n) fits (few, is) = subst (λ (t : List ℕ). 48 ≤ get_or t 0 0) (sym is) (first_digit n (omega (arith, few, fits))).0
value-first most text (Named label) fits (good, is) =
    subst (λ (t : List ℕ). 48 ≤ get_or t 0 0) (sym is) (let first = label-first label good in omega (arith, first))

-- words
negative-sound : (digits : List ℕ) (v : Value) → negative_read digits ≡ Some v → IsNegative v (45 ∷ digits)
negative-sound digits v is =
    let (n, some, same) = mapped_some negative (option_and_then (from_least 1) (number_read (2 ^ 23) digits)) v is in
    let (k, read, least) = then_some (from_least 1) (number_read (2 ^ 23) digits) n some in
    let bounds = least-sound 1 k n least in
    let number = number-sound (2 ^ 23) k digits read in
    (n, bounds.0, subst (λ (m : ℕ). m ≤ 2 ^ 23) bounds.1 number.0, sym same, ap (λ (ds : List ℕ). 45 ∷ ds) (number.1 ∙ ap decimal bounds.1))

pub word-sound : (text : List ℕ) (v : Value) → word_read text ≡ Some v → IsWord v text
word-sound [] v is = absurd cc
word-sound (c ∷ cs) v is =
    cond_both (c == 45) (negative_read cs) (value_read (2 ^ 24 - 1) (c ∷ cs)) (λ (r : Option Value). r ≡ Some v → IsWord v (c ∷ cs))
    (λ sign read. inr (subst (λ (d : ℕ). IsNegative v (d ∷ cs)) (sym (eqb-true c 45 sign)) (negative-sound cs v read)))
    (λ other read. inl (value-sound (2 ^ 24 - 1) (c ∷ cs) v read)) is

plain_word : (text : List ℕ) → 48 ≤ get_or text 0 0 → word_read text ≡ value_read (2 ^ 24 - 1) text
plain_word [] first = absurd (omega (arith, first))
plain_word (c ∷ cs) first = rw (ne_eqb c 45 (λ is. omega (arith, first, is))) refl

negative-complete : (text : List ℕ) (v : Value) → IsNegative v text → word_read text ≡ Some v
negative-complete text v (n, least, few, same, is) =
    ap word_read is
    ∙ (ap (λ (o : Option ℕ). option_map negative (option_and_then (from_least 1) o)) (number-complete (2 ^ 23) n (decimal n) (omega arith) (few, refl))
    ∙ (ap (option_map negative) (least-is 1 n least) ∙ ap Some (sym same)))

pub word-complete : (text : List ℕ) (v : Value) → IsWord v text → word_read text ≡ Some v
word-complete text v (inl is) =
    plain_word text (value-first (2 ^ 24 - 1) text v (omega arith) is) ∙ value-complete (2 ^ 24 - 1) text v (omega arith) is
word-complete text v (inr is) = negative-complete text v is

-- modifiers
brackets-sound : (c d e m : ℕ) → in_brackets c d e ≡ Some m → (1 ≤ m) × (m ≤ 3) × (c ∷ d ∷ e ∷ [] ≡ 40 ∷ (48 + m) ∷ 41 ∷ [])
brackets-sound c d e m is =
    let all = cond_some ((c == 40) && (nat_le 49 d && (nat_le d 51 && (e == 41)))) (d - 48) m is in
    let first = and_parts (c == 40) (nat_le 49 d && (nat_le d 51 && (e == 41))) all.0 in
    let second = and_parts (nat_le 49 d) (nat_le d 51 && (e == 41)) first.1 in
    let third = and_parts (nat_le d 51) (e == 41) second.1 in
    let low = leb-true 49 d second.0 in
    let high = leb-true d 51 third.0 in
    let same = all.1 in
    let digit : d ≡ 48 + m = omega (arith, low, same) in (
      omega (arith, low, same),
      omega (arith, low, high, same),
      ap (λ (x : ℕ). x ∷ d ∷ e ∷ []) (eqb-true c 40 first.0) ∙ ap (λ (x : ℕ). 40 ∷ x ∷ e ∷ []) digit ∙ ap (λ (x : ℕ). 40 ∷ (48 + m) ∷ x ∷ []) (eqb-true e 41 third.1),
    )

modifier_three : (may : Bool) (c d e m : ℕ) → modifier_read may (c ∷ d ∷ e ∷ []) ≡ Some m → IsModifier may m (c ∷ d ∷ e ∷ [])
modifier_three false c d e m is = absurd cc
modifier_three true c d e m is = let parts = brackets-sound c d e m is in inr (refl, parts.0, parts.1, parts.2)

pub modifier-sound : (may : Bool) (m : ℕ) (text : List ℕ) → modifier_read may text ≡ Some m → IsModifier may m text
modifier-sound may m [] is = inl (sym (same_Some 0 m is), refl)
modifier-sound may m (c ∷ []) is = absurd cc
modifier-sound may m (c ∷ d ∷ []) is = absurd cc
modifier-sound may m (c ∷ d ∷ e ∷ []) is = modifier_three may c d e m is
modifier-sound may m (c ∷ d ∷ e ∷ f ∷ cs) is = absurd cc

pub modifier-complete : (may : Bool) (m : ℕ) (text : List ℕ) → IsModifier may m text → modifier_read may text ≡ Some m
modifier-complete may m text (inl (zero_is, is)) = ap (modifier_read may) is ∙ ap Some (sym zero_is)
modifier-complete may m text (inr (allowed, least, few, is)) =
    let low : nat_le 49 (48 + m) ≡ true = le-leb 49 (48 + m) (omega (arith, least)) in
    let high : nat_le (48 + m) 51 ≡ true = le-leb (48 + m) 51 (omega (arith, few)) in
    let digit : (48 + m) - 48 ≡ m = omega arith in
    ap (modifier_read may) is ∙ (rw (allowed, low, high) (ap Some digit))

-- no byte of a value is a bracket
bracket_apart : (c : ℕ) → digit_value c < 10 → c ≡ 40 → ⊥
bracket_apart c few is = let low : digit_value 40 < 10 = subst (λ (d : ℕ). digit_value d < 10) is few in absurd (omega (arith, low))

digits_apart : (ds : List ℕ) → AllDigits 10 ds → AllByRecursion (λ c. c ≢ 40) ds
digits_apart [] all = tt
digits_apart (c ∷ cs) all = ((λ is. bracket_apart c all.0 is), digits_apart cs all.1)

label_apart : (cs : List ℕ) → list_all is_label_byte cs ≡ true → AllByRecursion (λ c. c ≢ 40) cs
label_apart [] all = tt
label_apart (c ∷ cs) all =
    let parts = and_parts (is_label_byte c) (list_all is_label_byte cs) all in
    ((λ is. let low : is_label_byte 40 ≡ true = ap is_label_byte (sym is) ∙ parts.0 in absurd cc), label_apart cs parts.1)

label_all : (text : List ℕ) → is_label text ≡ true → list_all is_label_byte text ≡ true
label_all [] is = absurd cc
label_all (c ∷ cs) is =
    let front = and_parts (is_letter c && nat_le (length cs) 7) (list_all is_label_byte cs) is in
    let letter = and_parts (is_letter c) (nat_le (length cs) 7) front.0 in
    and_from (is_label_byte c) (list_all is_label_byte cs) (rw letter.0 refl) front.1

pub value-apart : (most : ℕ) (text : List ℕ) (v : Value) → most < 2 ^ 64 → IsValue most v text → AllByRecursion (λ c. c ≢ 40) text
value-apart most text (Number n) fits (few, is) =
    subst (AllByRecursion (λ c. c ≢ 40)) (sym is) (digits_apart (decimal n) (decimal_is_IsNumeral n (omega (arith, few, fits))).0.1)
value-apart most text (Named label) fits (good, is) = subst (AllByRecursion (λ c. c ≢ 40)) (sym is) (label_apart label (label_all label good))

pub before-value : (address modifier : List ℕ) (may : Bool) (m : ℕ) → AllByRecursion (λ c. c ≢ 40) address → IsModifier may m modifier → before 40 (address ++ modifier) ≡ address
before-value address modifier may m apart (inl (zero_is, is)) =
    ap (λ (t : List ℕ). before 40 (address ++ t)) is ∙ ap (before 40) (append-nil address) ∙ before-all 40 address apart
before-value address modifier may m apart (inr (allowed, least, few, is)) =
    ap (λ (t : List ℕ). before 40 (address ++ t)) is ∙ before-found 40 address ((48 + m) ∷ 41 ∷ []) apart
