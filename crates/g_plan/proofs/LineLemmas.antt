-- A line is read as the form that it has: orders, and whole lines.
-- serves: lines_are_read_by_their_forms, read_line, OrderLemmas
use Rattle.std.proofs.Common.{◌≡◌, ◌≢◌, ◌≤◌, ◌<◌, ◌^◌, ◌+◌, ◌-◌, ◌∙◌, ◌⊎◌, inl, inr, ℕ, suc, zero, List, [], ◌∷◌, ◌++◌, Bool, true, false, not, Option, Some, None, ap, arith, codes, drop, length, refl, subst, sym}
use Rattle.std.specs.Prelude.{◌&&◌, ◌||◌, ◌==◌, if◌then◌else◌, nat_le}
use Rattle.std.specs.Fmt.{decimal}
use Rattle.std.specs.List.{AllByRecursion, find, list_all}
use Rattle.std.specs.Option.{option_and_then, option_map}
use Rattle.std.proofs.lemmas.Bool.{and_from, and_parts, cases_Bool, cond_both, eqb-false, eqb-true, false≢true, le-leb, leb-true, ne_eqb}
use Rattle.std.proofs.lemmas.List.{append-nil}
use Rattle.std.proofs.lemmas.Option.{cond_some, same_Some}
use Rattle.std.proofs.Math.Seq.{drop-append_seam}
use Rattle.g_name.specs.Order.{same_text}
use Rattle.g_lines.specs.Numbers.{number_read}
use Rattle.g_plan.specs.Forms.{HasPlace, IsAccumulator, IsAddressOf, IsForm, IsModifier, IsValue, IsWord, MayBeNamed, Says}
use Rattle.g_plan.specs.LineReader.{accumulated, accumulator_read, address_read, alone_read, at_read, chars_line_read, chars_read, form_read, from_least, modifier_read, named_read, only, operand_of, operand_read, order_line_read, order_of, order_read, program_read, value_read, with_accumulator, with_modifier, word_line_read, word_read, words_read}
use Rattle.g_plan.specs.Laws.{IsReading, ReadByForms}
use Rattle.g_plan.specs.Table.{mnemonic_of, mnemonics, name_text, row_of}
use Rattle.g_plan.specs.Words.{before, before_rest, behind_label, front_of, is_label, is_printed, is_some_text, label_in, label_read, without_back, without_front, words}
use Rattle.g_plan.specs.declared.form.Form.{Form}
use Rattle.g_plan.specs.declared.form.Form.TheVariants.{Nothing, Program, At, Word, Chars, Order}
use Rattle.g_plan.specs.declared.form.Value.{Value}
use Rattle.g_plan.specs.declared.form.Value.TheVariants.{Number, Named}
use Rattle.g_plan.specs.declared.mnemonic.Mnemonic.{Mnemonic}
use Rattle.g_plan.proofs.FormLemmas.{before-value, label-good, label-is, label-none, least-is, least-sound, mapped_some, modifier-complete, modifier-sound, only-sound, then_some, value-apart, value-complete, value-sound, word-complete, word-sound}
use Rattle.g_lines.proofs.NumberLemmas.{number-complete, number-sound, same_text-eq, same_text-refl}
use Rattle.g_plan.proofs.TableLemmas.{named-order}
use Rattle.g_plan.proofs.WordLemmas.{back-kept, before-drop, front-back, front_some, some_word, words_front, words_split}

-- the word of an address
abbrev IsAddressForm : Mnemonic → ℕ → Form → List ℕ → Type 0
IsAddressForm name x form word =
    (m : ℕ) × (v : Value) × (form ≡ Order name x m v) × (address : List ℕ) × (modifier : List ℕ) × IsValue (2 ^ 24) v address
    × IsModifier (row_of name).modified m modifier × (word ≡ address ++ modifier)

address-sound : (name : Mnemonic) (x : ℕ) (word : List ℕ) (form : Form) → address_read name x word ≡ Some form → IsAddressForm name x form word
address-sound name x word form is =
    let front = before 40 word in
    let back = drop (length (before 40 word)) word in
    let (m, modified, rest) = then_some (with_modifier name x (value_read (2 ^ 24) front)) (modifier_read (row_of name).modified back) form is in
    let (v, read, same) = mapped_some (Order name x m) (value_read (2 ^ 24) front) form rest in
    (m, v, sym same, front, back, value-sound (2 ^ 24) front v read, modifier-sound (row_of name).modified m back modified, sym (before-drop 40 word))

address-complete : (name : Mnemonic) (x m : ℕ) (v : Value) (address modifier : List ℕ) → IsValue (2 ^ 24) v address → IsModifier (row_of name).modified m modifier
    → address_read name x (address ++ modifier) ≡ Some (Order name x m v)
address-complete name x m v address modifier value modified =
    let front = before-value address modifier (row_of name).modified m (value-apart (2 ^ 24) address v (omega arith) value) modified in
    let back = drop-append_seam address modifier in
    let read : value_read (2 ^ 24) address ≡ Some v = value-complete (2 ^ 24) address v (omega arith) value in
    let there : modifier_read (row_of name).modified modifier ≡ Some m = modifier-complete (row_of name).modified m modifier modified in
    rw (front, back, there, read) refl

-- what follows the accumulator
abbrev IsOperandForm : Mnemonic → ℕ → Option ℕ → Form → List (List ℕ) → Type 0
IsOperandForm name x most form ws = (m : ℕ) × (v : Value) × (form ≡ Order name x m v) × IsAddressOf most (row_of name).modified m v ws

operand-sound : (name : Mnemonic) (x : ℕ) (most : Option ℕ) (ws : List (List ℕ)) (form : Form) → operand_of name x most ws ≡ Some form → IsOperandForm name x most form ws
operand-sound name x None [] form is = (0, Number 0, sym (same_Some (Order name x 0 (Number 0)) form is), (refl, refl, refl))
operand-sound name x None (w ∷ ws) form is = absurd cc
operand-sound name x (Some most) ws form is =
    let (word, one, read) = then_some (address_read name x) (only ws) form is in
    let (m, v, same, address, modifier, value, modified, text) = address-sound name x word form read in
    (m, v, same, (address, modifier, value, modified, only-sound ws word one ∙ ap (λ (t : List ℕ). t ∷ []) text))

operand-complete : (name : Mnemonic) (x m : ℕ) (v : Value) (most : Option ℕ) (ws : List (List ℕ)) → IsAddressOf most (row_of name).modified m v ws
    → operand_of name x most ws ≡ Some (Order name x m v)
operand-complete name x m v None ws (none, zero_is, empty) = ap (alone_read name x) empty ∙ rw (none, zero_is) refl
operand-complete name x m v (Some most) ws (address, modifier, value, modified, is) =
    ap (λ (ts : List (List ℕ)). option_and_then (address_read name x) (only ts)) is ∙ address-complete name x m v address modifier value modified

-- accumulators
accumulator-sound : (w : List ℕ) (x : ℕ) → accumulator_read w ≡ Some x → (x < 8) × (w ≡ (48 + x) ∷ [])
accumulator-sound [] x is = absurd cc
accumulator-sound (c ∷ []) x is =
    let all = cond_some (nat_le 48 c && nat_le c 55) (c - 48) x is in
    let tests = and_parts (nat_le 48 c) (nat_le c 55) all.0 in
    let low = leb-true 48 c tests.0 in
    let high = leb-true c 55 tests.1 in
    let same = all.1 in
    (omega (arith, low, high, same), ap (λ (d : ℕ). d ∷ []) (omega (arith, low, same)))
accumulator-sound (c ∷ d ∷ cs) x is = absurd cc

accumulator-is : (x : ℕ) → x < 8 → accumulator_read ((48 + x) ∷ []) ≡ Some x
accumulator-is x few =
    let low : nat_le 48 (48 + x) ≡ true = le-leb 48 (48 + x) (omega arith) in
    let high : nat_le (48 + x) 55 ≡ true = le-leb (48 + x) 55 (omega (arith, few)) in
    let digit : (48 + x) - 48 ≡ x = omega arith in
    rw (low, high) (ap Some digit)

-- what follows a name
abbrev IsOrderForm : Mnemonic → Option ℕ → Form → List (List ℕ) → Type 0
IsOrderForm name accumulator form ws =
    (x : ℕ) × (m : ℕ) × (v : Value) × (form ≡ Order name x m v) × (xs : List (List ℕ)) × (texts : List (List ℕ)) × IsAccumulator accumulator x xs
    × IsAddressOf (row_of name).most (row_of name).modified m v texts × (ws ≡ xs ++ texts)

order_sound : (name : Mnemonic) (accumulator : Option ℕ) (ws : List (List ℕ)) (form : Form) → order_of name accumulator ws ≡ Some form → IsOrderForm name accumulator form ws
order_sound name (Some x) ws form is =
    let (m, v, same, there) = operand-sound name x (row_of name).most ws form is in
    (x, m, v, same, [], ws, (refl, refl), there, refl)
order_sound name None [] form is = absurd cc
order_sound name None (w ∷ ws) form is =
    let (x, read, rest) = then_some (with_accumulator name ws) (accumulator_read w) form is in
    let digit = accumulator-sound w x read in
    let (m, v, same, there) = operand-sound name x (row_of name).most ws form rest in
    (x, m, v, same, w ∷ [], ws, (digit.0, ap (λ (t : List ℕ). t ∷ []) digit.1), there, refl)

order_complete : (name : Mnemonic) (accumulator : Option ℕ) (x m : ℕ) (v : Value) (ws xs texts : List (List ℕ)) → IsAccumulator accumulator x xs
    → IsAddressOf (row_of name).most (row_of name).modified m v texts → ws ≡ xs ++ texts → order_of name accumulator ws ≡ Some (Order name x m v)
order_complete name (Some y) x m v ws xs texts (same, none) there is =
    let texts_are : ws ≡ texts = is ∙ ap (λ (ts : List (List ℕ)). ts ++ texts) none in
    ap (order_of name (Some y)) texts_are ∙ ap (λ (z : ℕ). operand_read name z texts) (sym same) ∙ operand-complete name x m v (row_of name).most texts there
order_complete name None x m v ws xs texts (few, one) there is =
    let texts_are : ws ≡ ((48 + x) ∷ []) ∷ texts = is ∙ ap (λ (ts : List (List ℕ)). ts ++ texts) one in
    ap (accumulated name) texts_are ∙ ap (option_and_then (with_accumulator name texts)) (accumulator-is x few) ∙ operand-complete name x m v (row_of name).most texts there

-- the name of an order
found : (word : List ℕ) (names : List Mnemonic) (name : Mnemonic) → find (λ n. same_text (name_text n) word) names ≡ Some name → name_text name ≡ word
found word [] name is = absurd cc
found word (n ∷ names) name is =
    cond_both (same_text (name_text n) word) (Some n) (find (λ n. same_text (name_text n) word) names) (λ (o : Option Mnemonic). o ≡ Some name → name_text name ≡ word)
    (λ this here. ap name_text (sym (same_Some n name here)) ∙ same_text-eq (name_text n) word this) (λ other there. found word names name there) is

-- WHAT A LINE SAYS by its first word
abbrev IsSaid : Bool → Form → List (List ℕ) → List ℕ → Type 0
IsSaid labelled form ws rest = (labelled ≡ true → MayBeNamed form) × Says form ws rest

named_chars : (form : Form) (rest : List ℕ) (ws : List (List ℕ)) → Says form (codes "CHARS" ∷ ws) rest → MayBeNamed form
named_chars (Program n) rest ws (least, few, is) = absurd cc
named_chars (At n) rest ws (few, is) = absurd cc
named_chars Nothing rest ws says = tt
named_chars (Word v) rest ws says = tt
named_chars (Chars text) rest ws says = tt
named_chars (Order name x m v) rest ws says = tt

apart_spaces : AllByRecursion (λ c. c ≢ 32) (codes "CHARS")
apart_spaces = ((λ is. cc), ((λ is. cc), ((λ is. cc), ((λ is. cc), ((λ is. cc), tt)))))

-- characters
front_word_of : (front rest name : List ℕ) (more ws : List (List ℕ)) → is_some_text front ≡ is_some_text rest → words rest ≡ some_word front more
    → words rest ≡ name ∷ ws → front ≡ name
front_word_of (c ∷ cs) rest name more ws same split is = let e : (c ∷ cs) ∷ more ≡ name ∷ ws = sym split ∙ is in cc
front_word_of [] [] name more ws same split is = absurd cc
front_word_of [] (d ∷ ds) name more ws same split is = absurd cc

front_word : (rest name : List ℕ) (ws : List (List ℕ)) → words rest ≡ name ∷ ws → front_of (without_front rest) ≡ name
front_word rest name ws is =
    front_word_of (front_of (without_front rest)) (without_front rest) name (words (behind_label (without_front rest))) ws (front_some rest)
    (words_split (without_front rest)) (words_front rest ∙ is)

behind_step : (c : ℕ) (cs : List ℕ) (b : Bool) → (c == 32) ≡ b → (behind_label cs ≡ []) ⊎ ((ds : List ℕ) × (behind_label cs ≡ 32 ∷ ds))
    → (behind_label (c ∷ cs) ≡ []) ⊎ ((ds : List ℕ) × (behind_label (c ∷ cs) ≡ 32 ∷ ds))
behind_step c cs true is before = inr (cs, rw is (ap (λ (d : ℕ). d ∷ cs) (eqb-true c 32 is)))
behind_step c cs false is before = rw is before

behind_start : (text : List ℕ) → (behind_label text ≡ []) ⊎ ((ds : List ℕ) × (behind_label text ≡ 32 ∷ ds))
behind_start [] = inl refl
behind_start (c ∷ cs) = behind_step c cs (c == 32) refl (behind_start cs)

-- the text is empty, or begins with a space and isn't only spaces
abbrev StartsSpaced : List ℕ → Type 0
StartsSpaced text = (text ≡ []) ⊎ ((c : ℕ) × (cs : List ℕ) × (text ≡ 32 ∷ c ∷ cs))

space_back : (rest : List ℕ) → StartsSpaced (before_rest 32 rest)
space_back [] = inl refl
space_back (d ∷ rest) = inr (d, rest, refl)

back_start_of : (behind : List ℕ) → (behind ≡ []) ⊎ ((ds : List ℕ) × (behind ≡ 32 ∷ ds)) → StartsSpaced (without_back behind)
back_start_of behind (inl is) = inl (ap without_back is)
back_start_of behind (inr (ds, is)) = subst StartsSpaced (ap without_back (sym is)) (space_back (without_back ds))

chars_of : (form : Form) (rest : List ℕ) (ws : List (List ℕ)) (back : List ℕ) → without_back (without_front rest) ≡ codes "CHARS" ++ back → StartsSpaced back
    → chars_line_read rest ≡ Some form → Says form (codes "CHARS" ∷ ws) rest
chars_of form rest ws back line (inl is) read =
    let none : chars_read (codes "CHARS") ≡ Some form = sym (ap chars_read (line ∙ ap (λ (b : List ℕ). codes "CHARS" ++ b) is)) ∙ read in absurd cc
chars_of form rest ws back line (inr (c, cs, is)) read =
    let whole : without_back (without_front rest) ≡ codes "CHARS " ++ (c ∷ cs) = line ∙ ap (λ (b : List ℕ). codes "CHARS" ++ b) is in
    let there : chars_read (codes "CHARS " ++ (c ∷ cs)) ≡ Some form = sym (ap chars_read whole) ∙ read in
    let size = length (codes "CHARS " ++ (c ∷ cs)) in
    let parts = cond_some (nat_le 7 size && nat_le size 46) (Chars (c ∷ cs)) form there in
    let tests = and_parts (nat_le 7 size) (nat_le size 46) parts.0 in
    let high = leb-true size 46 tests.1 in
    let few : length (c ∷ cs) ≤ 40 = omega (arith, high) in
    let some : 1 ≤ length (c ∷ cs) = omega arith in
    subst (λ (f : Form). Says f (codes "CHARS" ∷ ws) rest) parts.1 (some, few, whole)

chars_sound : (rest : List ℕ) (ws : List (List ℕ)) (form : Form) → words rest ≡ codes "CHARS" ∷ ws → chars_line_read rest ≡ Some form → Says form (codes "CHARS" ∷ ws) rest
chars_sound rest ws form is read =
    let text = without_front rest in
    let front : front_of text ≡ codes "CHARS" = front_word rest (codes "CHARS") ws is in
    let whole : text ≡ codes "CHARS" ++ behind_label text = sym (before-drop 32 text) ∙ ap (λ (f : List ℕ). f ++ behind_label text) front in
    let line : without_back text ≡ codes "CHARS" ++ without_back (behind_label text) =
    ap without_back whole ∙ back-kept (codes "CHARS") (behind_label text) apart_spaces in
    chars_of form rest ws (without_back (behind_label text)) line (back_start_of (behind_label text) (behind_start text)) read

chars_words : (rest text : List ℕ) → without_back (without_front rest) ≡ codes "CHARS " ++ text → (ws : List (List ℕ)) × (words rest ≡ codes "CHARS" ∷ ws)
chars_words rest text line =
    let whole = without_front rest in
    let front : front_of whole ≡ codes "CHARS" = sym (front-back whole) ∙ ap front_of line in
    (words (behind_label whole), sym (words_front rest) ∙ words_split whole ∙ ap (λ (f : List ℕ). some_word f (words (behind_label whole))) front)

chars_complete : (rest text : List ℕ) → 1 ≤ length text → length text ≤ 40 → without_back (without_front rest) ≡ codes "CHARS " ++ text → chars_line_read rest ≡ Some (Chars text)
chars_complete rest text some few line =
    let size = length (codes "CHARS " ++ text) in
    let low : nat_le 7 size ≡ true = le-leb 7 size (omega (arith, some)) in
    let high : nat_le size 46 ≡ true = le-leb size 46 (omega (arith, few)) in
    ap chars_read line ∙ rw (low, high) refl

-- sizes, places and words
unless : (labelled : Bool) (form : Form) (o : Option Form) → (if labelled then None else o) ≡ Some form → (labelled ≡ false) × (o ≡ Some form)
unless true form o is = absurd cc
unless false form o is = (refl, is)

program_sound : (ws : List (List ℕ)) (form : Form) → program_read ws ≡ Some form → (n : ℕ) × (form ≡ Program n) × (32 ≤ n) × (n ≤ 32768) × (ws ≡ decimal n ∷ [])
program_sound ws form is =
    let (n, some, same) = mapped_some Program (option_and_then (from_least 32) (option_and_then (number_read 32768) (only ws))) form is in
    let (k, number, least) = then_some (from_least 32) (option_and_then (number_read 32768) (only ws)) n some in
    let (word, one, read) = then_some (number_read 32768) (only ws) k number in
    let bounds = least-sound 32 k n least in
    let written = number-sound 32768 k word read in
    (n, sym same, bounds.0, subst (λ (m : ℕ). m ≤ 32768) bounds.1 written.0, only-sound ws word one ∙ ap (λ (t : List ℕ). t ∷ []) (written.1 ∙ ap decimal bounds.1))

program_complete : (n : ℕ) → 32 ≤ n → n ≤ 32768 → program_read (decimal n ∷ []) ≡ Some (Program n)
program_complete n least few = rw (number-complete 32768 n (decimal n) (omega arith) (few, refl)) (ap (option_map Program) (least-is 32 n least))

at_sound : (ws : List (List ℕ)) (form : Form) → at_read ws ≡ Some form → (n : ℕ) × (form ≡ At n) × (n ≤ 32767) × (ws ≡ decimal n ∷ [])
at_sound ws form is =
    let (n, number, same) = mapped_some At (option_and_then (number_read 32767) (only ws)) form is in
    let (word, one, read) = then_some (number_read 32767) (only ws) n number in
    let written = number-sound 32767 n word read in
    (n, sym same, written.0, only-sound ws word one ∙ ap (λ (t : List ℕ). t ∷ []) written.1)

at_complete : (n : ℕ) → n ≤ 32767 → at_read (decimal n ∷ []) ≡ Some (At n)
at_complete n few = rw (number-complete 32767 n (decimal n) (omega arith) (few, refl)) refl

word_line_sound : (ws : List (List ℕ)) (form : Form) → word_line_read ws ≡ Some form → (v : Value) × (form ≡ Word v) × (text : List ℕ) × IsWord v text × (ws ≡ text ∷ [])
word_line_sound ws form is =
    let (v, some, same) = mapped_some Word (option_and_then word_read (only ws)) form is in
    let (word, one, read) = then_some word_read (only ws) v some in
    (v, sym same, word, word-sound word v read, only-sound ws word one)

-- soundness, by the first word
module _ (labelled : Bool) (name : List ℕ) (ws : List (List ℕ)) (rest : List ℕ) (form : Form) (is_words : words rest ≡ name ∷ ws) where
  said_chars : same_text name (codes "CHARS") ≡ true → chars_line_read rest ≡ Some form → IsSaid labelled form (name ∷ ws) rest
  said_chars this read =
      let is = same_text-eq name (codes "CHARS") this in
      let says = chars_sound rest ws form (is_words ∙ ap (λ (n : List ℕ). n ∷ ws) is) read in
      ((λ _. named_chars form rest ws says), subst (λ (n : List ℕ). Says form (n ∷ ws) rest) (sym is) says)

  said_program : same_text name (codes "PROGRAM") ≡ true → (if labelled then None else program_read ws) ≡ Some form → IsSaid labelled form (name ∷ ws) rest
  said_program this read =
      let is = same_text-eq name (codes "PROGRAM") this in
      let (not_named, there) = unless labelled form (program_read ws) read in
      let (n, same, least, few, one) = program_sound ws form there in (
        (λ named. absurd (false≢true (sym not_named ∙ named))),
        subst (λ (f : Form). Says f (name ∷ ws) rest) (sym same)
            (least, few, ap (λ (m : List ℕ). m ∷ ws) is ∙ ap (λ (ts : List (List ℕ)). codes "PROGRAM" ∷ ts) one),
      )

  said_at : same_text name (codes "AT") ≡ true → (if labelled then None else at_read ws) ≡ Some form → IsSaid labelled form (name ∷ ws) rest
  said_at this read =
      let is = same_text-eq name (codes "AT") this in
      let (not_named, there) = unless labelled form (at_read ws) read in
      let (n, same, few, one) = at_sound ws form there in (
        (λ named. absurd (false≢true (sym not_named ∙ named))),
        subst (λ (f : Form). Says f (name ∷ ws) rest) (sym same) (few, ap (λ (m : List ℕ). m ∷ ws) is ∙ ap (λ (ts : List (List ℕ)). codes "AT" ∷ ts) one),
      )

  said_word : same_text name (codes "WORD") ≡ true → word_line_read ws ≡ Some form → IsSaid labelled form (name ∷ ws) rest
  said_word this read =
      let is = same_text-eq name (codes "WORD") this in
      let (v, same, text, written, one) = word_line_sound ws form read in (
        (λ _. subst MayBeNamed (sym same) tt),
        subst (λ (f : Form). Says f (name ∷ ws) rest) (sym same)
            (text, written, ap (λ (m : List ℕ). m ∷ ws) is ∙ ap (λ (ts : List (List ℕ)). codes "WORD" ∷ ts) one),
      )

  said_order_of : (o : Option Mnemonic) → mnemonic_of name ≡ o → order_line_read ws o ≡ Some form → IsSaid labelled form (name ∷ ws) rest
  said_order_of None is read = absurd cc
  said_order_of (Some order) is read =
      let spelled = found name mnemonics order is in
      let (x, m, v, same, xs, texts, accumulator, address, parts) = order_sound order (row_of order).x ws form read in (
        (λ _. subst MayBeNamed (sym same) tt),
        subst (λ (f : Form). Says f (name ∷ ws) rest) (sym same)
            (xs, texts, accumulator, address, ap (λ (n : List ℕ). n ∷ ws) (sym spelled) ∙ ap (λ (ts : List (List ℕ)). name_text order ∷ ts) parts),
      )

  said : named_read labelled name ws rest ≡ Some form → IsSaid labelled form (name ∷ ws) rest
  said =
      cond_both (same_text name (codes "CHARS")) (chars_line_read rest) _ (λ (o : Option Form). o ≡ Some form → IsSaid labelled form (name ∷ ws) rest) said_chars (λ _.
      cond_both (same_text name (codes "PROGRAM")) (if labelled then None else program_read ws) _ (λ (o : Option Form). o ≡ Some form → IsSaid labelled form (name ∷ ws) rest) said_program (λ _.
      cond_both (same_text name (codes "AT")) (if labelled then None else at_read ws) _ (λ (o : Option Form). o ≡ Some form → IsSaid labelled form (name ∷ ws) rest) said_at (λ _.
      cond_both (same_text name (codes "WORD")) (word_line_read ws) _ (λ (o : Option Form). o ≡ Some form → IsSaid labelled form (name ∷ ws) rest) said_word (λ _.
      said_order_of (mnemonic_of name) refl))))

words_sound : (labelled : Bool) (ws : List (List ℕ)) (rest : List ℕ) (form : Form) → words rest ≡ ws → words_read labelled ws rest ≡ Some form → IsSaid labelled form ws rest
words_sound labelled [] rest form is read =
    subst (λ (f : Form). IsSaid labelled f [] rest) (same_Some Nothing form read) ((λ _. tt), refl)
words_sound labelled (name ∷ ws) rest form is read = said labelled name ws rest form is read

-- completeness
words_complete : (labelled : Bool) (form : Form) (rest : List ℕ) → (labelled ≡ true → MayBeNamed form) → Says form (words rest) rest
    → words_read labelled (words rest) rest ≡ Some form
words_complete labelled Nothing rest may is = ap (λ (ws : List (List ℕ)). words_read labelled ws rest) is
words_complete true (Program n) rest may (least, few, is) = absurd (may refl)
words_complete false (Program n) rest may (least, few, is) =
    ap (λ (ws : List (List ℕ)). words_read false ws rest) is ∙ program_complete n least few
words_complete true (At n) rest may (few, is) = absurd (may refl)
words_complete false (At n) rest may (few, is) = ap (λ (ws : List (List ℕ)). words_read false ws rest) is ∙ at_complete n few
words_complete labelled (Word v) rest may (text, written, is) =
    ap (λ (ws : List (List ℕ)). words_read labelled ws rest) is ∙ ap (option_map Word) (word-complete text v written)
words_complete labelled (Chars text) rest may (some, few, line) =
    let (ws, is) = chars_words rest text line in
    ap (λ (ts : List (List ℕ)). words_read labelled ts rest) is ∙ chars_complete rest text some few line
words_complete labelled (Order name x m v) rest may (xs, texts, accumulator, address, is) =
    ap (λ (ws : List (List ℕ)). words_read labelled ws rest) is
    ∙ (named-order labelled name (xs ++ texts) rest ∙ order_complete name (row_of name).x x m v (xs ++ texts) xs texts accumulator address refl)

-- a whole line
no_front : (text : List ℕ) → is_some_text text ≡ false → text ≡ []
no_front [] is = refl
no_front (c ∷ cs) is = absurd cc

some_label : (text : List ℕ) → is_label text ≡ true → is_some_text text ≡ true
some_label [] is = absurd cc
some_label (c ∷ cs) is = refl

form_sound : (line : List ℕ) (form : Form) (printed some good : Bool) → list_all is_printed line ≡ printed → is_some_text (front_of line) ≡ some → is_label (front_of line) ≡ good
    → (if not printed then None else (if some && not good then None else words_read some (words (behind_label line)) (behind_label line))) ≡ Some form → IsForm form line
form_sound line form false some good is_print is_some is_good read = absurd cc
form_sound line form true true false is_print is_some is_good read = absurd cc
form_sound line form true true true is_print is_some is_good read =
    let said_is = words_sound true (words (behind_label line)) (behind_label line) form refl read in
    record {
      printed = is_print;
      label = subst (λ (o : Option (List ℕ)). HasPlace o line form) (sym (label-is (front_of line) is_good)) (said_is.0 refl);
      says = said_is.1;
    }
form_sound line form true false good is_print is_some is_good read =
    let empty = no_front (front_of line) is_some in
    let said_is = words_sound false (words (behind_label line)) (behind_label line) form refl read in
    record {
      printed = is_print;
      label = subst (λ (o : Option (List ℕ)). HasPlace o line form) (sym (ap label_read empty)) empty;
      says = said_is.1;
    }

pub form-sound : (line : List ℕ) (form : Form) → form_read line ≡ Some form → IsForm form line
unfolding form_read
form-sound line form is = form_sound line form (list_all is_printed line) (is_some_text (front_of line)) (is_label (front_of line)) refl refl refl is

form_complete : (line : List ℕ) (form : Form) (o : Option (List ℕ)) → label_in line ≡ o → list_all is_printed line ≡ true → HasPlace o line form
    → Says form (words (behind_label line)) (behind_label line) → form_read line ≡ Some form
unfolding form_read
form_complete line form (Some label) is printed place says =
    let good = label-good (front_of line) label is in
    rw (printed, some_label (front_of line) good, good) (words_complete true form (behind_label line) (λ _. place) says)
form_complete line form None is printed place says =
    let none : is_some_text (front_of line) ≡ false = ap is_some_text place in
    rw (printed, none) (words_complete false form (behind_label line) (λ named. absurd (false≢true named)) says)

pub form-complete : (line : List ℕ) (form : Form) → IsForm form line → form_read line ≡ Some form
form-complete line form is = form_complete line form (label_in line) refl is.printed is.label is.says

-- THE LAW
reading_of : (line : List ℕ) (o : Option Form) → form_read line ≡ o → IsReading line o
reading_of line (Some form) is = form-sound line form is
reading_of line None is = λ form there. let e = sym is ∙ form-complete line form there in absurd cc

pub read_by_forms : ReadByForms
read_by_forms = record {
  reads = λ line. reading_of line (form_read line) refl;
  one = λ line f g first second. same_Some f g (sym (form-complete line f first) ∙ form-complete line g second);
}

-- how the code reads a line
pub form-unprinted : (line : List ℕ) → list_all is_printed line ≡ false → None ≡ form_read line
unfolding form_read
form-unprinted line is = rw is refl

pub form-unlabelled : (line front : List ℕ) → front ≡ front_of line → list_all is_printed line ≡ true → is_some_text front ≡ true → is_label front ≡ false → None ≡ form_read line
unfolding form_read
form-unlabelled line front is printed some good =
    let some_is : is_some_text (front_of line) ≡ true = ap is_some_text (sym is) ∙ some in
    let good_is : is_label (front_of line) ≡ false = ap is_label (sym is) ∙ good in
    rw (printed, some_is, good_is) refl

form_by : (line : List ℕ) (some : Bool) → is_some_text (front_of line) ≡ some → list_all is_printed line ≡ true → (some ≡ true → is_label (front_of line) ≡ true)
    → words_read some (words (behind_label line)) (behind_label line) ≡ form_read line
unfolding form_read
form_by line true some printed good = rw (printed, some, good refl) refl
form_by line false some printed good = rw (printed, some) refl

pub form-read : (line front rest : List ℕ) (some : Bool) → front ≡ front_of line → list_all is_printed line ≡ true → some ≡ is_some_text front
    → (some ≡ true → is_label front ≡ true) → rest ≡ drop (length front) line → words_read some (words rest) rest ≡ form_read line
form-read line front rest some is printed some_is good behind =
    let rest_is : rest ≡ behind_label line = behind ∙ ap (λ (f : List ℕ). drop (length f) line) is in
    ap (λ (r : List ℕ). words_read some (words r) r) rest_is
    ∙ form_by line some (ap is_some_text (sym is) ∙ sym some_is) printed (λ named. ap is_label (sym is) ∙ good named)

pub some_by : (text : List ℕ) (empty : Bool) → empty ≡ (length text == 0) → not empty ≡ is_some_text text
some_by [] empty is = ap not is
some_by (c ∷ cs) empty is = ap not (is ∙ ne_eqb (length (c ∷ cs)) 0 (λ z. absurd (omega (arith, z))))
