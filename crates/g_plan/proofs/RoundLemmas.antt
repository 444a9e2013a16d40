-- THE ROUND TRIP: the file of a good source is loaded, and its orders are read.
-- serves: FinishLemmas
use Rattle.std.proofs.Common.{◌≡◌, ◌≢◌, ◌≤◌, ◌<◌, ◌+◌, ◌-◌, ◌^◌, ◌∙◌, ℕ, suc, zero, List, [], ◌∷◌, ◌++◌, Bool, true, false, not, Option, Some, None, Result, Ok, Err, ap, append_assoc, arith, drop, fold, get_or, is_some, length, length-append, map, max, min, refl, replicate, subst, sym, take}
use Rattle.std.specs.Prelude.{◌&&◌, ◌==◌, if◌then◌else◌, nat_le, nat_lt, unwrap_or}
use Rattle.std.specs.List.{AllByRecursion, enumerate_from, find, flat_map, list_all, list_any, prefix_len, range_with_len, slice_get}
use Rattle.std.specs.Option.{option_and_then, option_map, option_or}
use Rattle.std.proofs.lemmas.Bool.{and_from, and_parts, cond_both, eq-eqb, false≢true, le-leb, ltb-true, not-true}
use Rattle.std.proofs.lemmas.Grind.{flat_map-append}
use Rattle.std.proofs.lemmas.List.{append-nil, get_or_append_left, length-map, take-append-drop}
use Rattle.std.proofs.lemmas.List.Folds.{find-append}
use Rattle.std.proofs.lemmas.List.FromFn.{get_or-map-range_with_len, length-map-range_with_len}
use Rattle.std.proofs.lemmas.List.Sums.{fold-append}
use Rattle.std.proofs.lemmas.Option.{same_Some, slice_get-get_or}
use Rattle.g_lines.specs.Lines.{lines_of}
use Rattle.g_mill.specs.Lines.{lines}
use Rattle.g_mill.specs.Loading.{bad_line, good_lines, is_size_line, is_word_line, octal, program_of}
use Rattle.g_order.specs.Order.{Fields, decoded, word_of}
use Rattle.g_order.proofs.CodingLaws.{decoded-word_of}
use Rattle.g_word.specs.Octal.{octal_digits}
use Rattle.g_plan.specs.Assembly.{address, all_cells, are_free, assembled, bad_behind, bad_or_first, cells, end_of, fields_with, file_of, file_or_bad, first_bad, given, is_at, is_below, is_free, is_good, program_words, size_in, size_of, source, word_at, words_up_to}
use Rattle.g_plan.specs.SecondPass.{AllFit, AreSmall, Fits, IsOperand, MayFit}
use Rattle.g_plan.specs.Laws.{IsLoadedAs, IsPlaced, size_or_none, whole_program}
use Rattle.g_plan.specs.Table.{row_of}
use Rattle.g_plan.specs.declared.form.Form.{Form}
use Rattle.g_plan.specs.declared.form.Form.TheVariants.{Nothing, Program, At, Word, Chars, Order}
use Rattle.g_plan.specs.declared.form.Value.{Value}
use Rattle.g_plan.specs.declared.mnemonic.Mnemonic.{Mnemonic}
use Rattle.g_plan.specs.declared.source.Line.{Line}
use Rattle.g_plan.proofs.FillLemmas.{drop_next}
use Rattle.g_plan.proofs.OctalLemmas.{all_words, file_lines, octal_is, word_line, words_back}
use Rattle.g_plan.proofs.OrderLemmas.{order-is}
use Rattle.g_plan.proofs.PutLemmas.{any_found, is_none}

-- the size of a source that has one is that of a program
size_by : (form : Option Form) (lines : List Line) (n : ℕ) → MayFit form → (AllFit lines → size_in lines ≡ Some n → (32 ≤ n) × (n ≤ 32768)) → AllFit lines
    → option_or (size_of form) (size_in lines) ≡ Some n → (32 ≤ n) × (n ≤ 32768)
size_by None lines n fits others all is = others all is
size_by (Some (Program k)) lines n fits others all is = subst (λ (j : ℕ). (32 ≤ j) × (j ≤ 32768)) (same_Some k n is) fits
size_by (Some Nothing) lines n fits others all is = others all is
size_by (Some (At k)) lines n fits others all is = others all is
size_by (Some (Word v)) lines n fits others all is = others all is
size_by (Some (Chars text)) lines n fits others all is = others all is
size_by (Some (Order name x m v)) lines n fits others all is = others all is

size_bounds : (all : List Line) (n : ℕ) → AllFit all → size_in all ≡ Some n → (32 ≤ n) × (n ≤ 32768)
size_bounds [] n fits is = absurd cc
size_bounds (line ∷ lines) n fits is = size_by line.form lines n (fits 0 line refl) (size_bounds lines n) (λ k. fits (suc k)) is

-- the words are words
found_small : (p : ℕ × ℕ → Bool) (filled : List (ℕ × ℕ)) → AreSmall filled → unwrap_or (option_map (λ (cell : ℕ × ℕ). cell.1) (find p filled)) 0 < 2 ^ 24
found_small p [] small = omega arith
found_small p (cell ∷ filled) small =
    cond_both (p cell) (Some cell) (find p filled) (λ (o : Option (ℕ × ℕ)). unwrap_or (option_map (λ (c : ℕ × ℕ). c.1) o) 0 < 2 ^ 24)
    (λ _. small.0) (λ _. found_small p filled small.1)

words_small : (filled : List (ℕ × ℕ)) (a n : ℕ) → AreSmall filled → AllByRecursion (λ w. w < 2 ^ 24) (map (word_at filled) (range_with_len a n))
words_small filled a zero small = tt
words_small filled a (suc n) small = (found_small (is_at a) filled small, words_small filled (a + 1) n small)

-- the file is loaded
size_line : (n : ℕ) → 32 ≤ n → n ≤ 32768 → is_size_line (octal_digits 8 n) ≡ true
size_line n least few =
    let back : octal (octal_digits 8 n) ≡ n = octal_is n (omega (arith, few)) in
    rw (word_line n, back) (and_from (nat_le 32 n) (nat_le n 32768) (le-leb 32 n least) (le-leb n 32768 few))

least_is : (size few : ℕ) → few ≤ size → min size few ≡ few
least_is size few within = omega (arith, within)

good_all : (size : ℕ) (ws : List ℕ) → length ws ≤ size → good_lines size (map (octal_digits 8) ws) ≡ length (map (octal_digits 8) ws)
good_all size ws few =
    ap (min size) (all_words ws) ∙ (least_is size (length ws) few ∙ sym (length-map ws (octal_digits 8)))

loaded : (n : ℕ) (ws : List ℕ) → 32 ≤ n → n ≤ 32768 → length ws ≤ n → bad_line (map (octal_digits 8) (n ∷ ws)) ≡ None
loaded n ws least few within =
    let good : good_lines (octal (octal_digits 8 n)) (map (octal_digits 8) ws) ≡ length (map (octal_digits 8) ws) =
    ap (λ (size : ℕ). good_lines size (map (octal_digits 8) ws)) (octal_is n (omega (arith, few))) ∙ good_all n ws within in
    let same = eq-eqb (good_lines (octal (octal_digits 8 n)) (map (octal_digits 8) ws)) (length (map (octal_digits 8) ws)) good in
    rw (size_line n least few, same) refl

loaded_words : (n : ℕ) (ws : List ℕ) → n ≤ 32768 → AllByRecursion (λ w. w < 2 ^ 24) ws
    → (program_of (map (octal_digits 8) (n ∷ ws))).words ≡ ws ++ replicate (n - length ws) 0
loaded_words n ws few small = rw (words_back ws small, octal_is n (omega (arith, few)), length-map ws (octal_digits 8)) refl

-- a line after others is good
good_by : (all : List Line) (size : ℕ) (earlier : List Line) (first : Line) (rest : List Line) (k : ℕ) (line : Line) → is_good all size earlier first ≡ true
    → ((j : ℕ) → slice_get rest j ≡ Some line → is_good all size ((earlier ++ first ∷ []) ++ take j rest) line ≡ true) → slice_get (first ∷ rest) k ≡ Some line
    → is_good all size (earlier ++ take k (first ∷ rest)) line ≡ true
good_by all size earlier first rest zero line good others here =
    subst (λ (l : Line). is_good all size (earlier ++ []) l ≡ true) (same_Some first line here)
    (subst (λ (ls : List Line). is_good all size ls first ≡ true) (sym (append-nil earlier)) good)
good_by all size earlier first rest (suc k) line good others here =
    subst (λ (ls : List Line). is_good all size ls line ≡ true) (append_assoc earlier (first ∷ []) (take k rest)) (others k here)

good_at : (all : List Line) (size : ℕ) (earlier rest : List Line) (k : ℕ) (line : Line) → bad_behind all size earlier rest ≡ None → slice_get rest k ≡ Some line
    → is_good all size (earlier ++ take k rest) line ≡ true
good_at all size earlier [] k line none here = absurd cc
good_at all size earlier (first ∷ rest) k line none here =
    cond_both (is_good all size earlier first) (bad_behind all size (earlier ++ first ∷ []) rest) (Some (length earlier + 1))
    (λ (o : Option ℕ). o ≡ None → is_good all size (earlier ++ take k (first ∷ rest)) line ≡ true)
    (λ good others. good_by all size earlier first rest k line good (λ j there. good_at all size (earlier ++ first ∷ []) rest j line others there) here)
    (λ _ bad. absurd cc) none

-- the word found at a cell's place
cell_found : (before behind : List (ℕ × ℕ)) (place word : ℕ) → list_any (is_at place) before ≡ false → word_at (before ++ (place, word) ∷ behind) place ≡ word
cell_found before behind place word none =
    let missing : find (is_at place) before ≡ None = is_none (find (is_at place) before) (sym (any_found (is_at place) before) ∙ none) in
    let here : find (is_at place) ((place, word) ∷ behind) ≡ Some (place, word) = rw (eq-eqb place place refl) refl in
    ap (λ (o : Option (ℕ × ℕ)). unwrap_or (option_map (λ (cell : ℕ × ℕ). cell.1) o) 0)
    (find-append (is_at place) before ((place, word) ∷ behind) ∙ (ap (λ (o : Option (ℕ × ℕ)). option_or o (find (is_at place) ((place, word) ∷ behind))) missing ∙ here))

end_grows : (cells_of : List (ℕ × ℕ)) (a : ℕ) → a ≤ fold (λ (last : ℕ) (cell : ℕ × ℕ). max last (cell.0 + 1)) a cells_of
end_grows [] a = omega arith
end_grows (cell ∷ cells_of) a = let more = end_grows cells_of (max a (cell.0 + 1)) in omega (arith, more)

end_past : (before behind : List (ℕ × ℕ)) (place word : ℕ) → place < end_of (before ++ (place, word) ∷ behind)
end_past before behind place word =
    let split = fold-append (λ (last : ℕ) (cell : ℕ × ℕ). max last (cell.0 + 1)) 0 before ((place, word) ∷ behind) in
    let more = end_grows behind (max (end_of before) (place + 1)) in
    omega (arith, split, more)

-- a word of the program
word_of_program : (program : List ℕ) (all : List Line) (place w : ℕ) → program ≡ whole_program all → word_at (all_cells all all) place ≡ w
    → place < end_of (all_cells all all) → slice_get program place ≡ Some w
word_of_program program all place w program_is value inside =
    let ws = program_words all in
    let zeros = replicate (size_or_none all - length ws) 0 in
    let size = length-map-range_with_len (word_at (all_cells all all)) 0 (end_of (all_cells all all)) in
    let short : place < length ws = omega (arith, inside, size) in
    let longer = length-append ws zeros in
    let long : place < length (ws ++ zeros) = omega (arith, short, longer) in
    let read : get_or (ws ++ zeros) place 0 ≡ w =
    get_or_append_left ws zeros 0 place short ∙ (get_or-map-range_with_len (word_at (all_cells all all)) 0 (end_of (all_cells all all)) place place 0 inside (omega arith) ∙ value) in
    ap (λ (p : List ℕ). slice_get p place) program_is ∙ (slice_get-get_or (ws ++ zeros) place 0 long ∙ ap Some read)

-- A LINE WITH AN ORDER has its word in the program
module _ (all : List Line) (n k x m : ℕ) (name : Mnemonic) (v : Value) (line : Line) (good : bad_behind all n [] all ≡ None) (here : slice_get all k ≡ Some line)
    (is : line.form ≡ Some (Order name x m v)) (fits : IsOperand (row_of name) x m v) (program : List ℕ) (program_is : program ≡ whole_program all) where
  free : are_free n (all_cells all (take k all)) (cells all line) ≡ true
  free = (and_parts (is_below n line.form) (are_free n (all_cells all (take k all)) (cells all line)) (good_at all n [] all k line good here)).1

  order_cells : (o : Option ℕ) → address all (row_of name) v ≡ o
      → cells all line ≡ option_map (λ a. (line.place, word_of (fields_with (row_of name) x m a)) ∷ []) o
  order_cells None none = rw is (rw none refl)
  order_cells (Some a) there = rw is (rw there refl)

  whole_cells : (w : ℕ) → cells all line ≡ Some ((line.place, w) ∷ []) → all_cells all all ≡ all_cells all (take k all) ++ (line.place, w) ∷ all_cells all (drop (suc k) all)
  whole_cells w cells_are =
      ap (all_cells all) (sym (take-append-drop k all) ∙ ap (λ (ls : List Line). take k all ++ ls) (drop_next all k line here))
      ∙ (flat_map-append (λ (l : Line). unwrap_or (cells all l) []) (take k all) (line ∷ drop (suc k) all)
      ∙ ap (λ (o : Option (List (ℕ × ℕ))). all_cells all (take k all) ++ (unwrap_or o [] ++ all_cells all (drop (suc k) all))) cells_are)

  word_there : (w : ℕ) → cells all line ≡ Some ((line.place, w) ∷ []) → slice_get program line.place ≡ Some w
  word_there w cells_are =
      let split = whole_cells w cells_are in
      let before = all_cells all (take k all) in
      let behind = all_cells all (drop (suc k) all) in
      let free_is : list_all (is_free n before) ((line.place, w) ∷ []) ≡ true = sym (ap (are_free n before) cells_are) ∙ free in
      let one = (and_parts (is_free n before (line.place, w)) true free_is).0 in
      let none = not-true (list_any (is_at line.place) before) (and_parts (nat_lt line.place n) (not (list_any (is_at line.place) before)) one).1 in
      let value : word_at (all_cells all all) line.place ≡ w = ap (λ (cs : List (ℕ × ℕ)). word_at cs line.place) split ∙ cell_found before behind line.place w none in
      let inside : line.place < end_of (all_cells all all) = subst (λ (cs : List (ℕ × ℕ)). line.place < end_of cs) (sym split) (end_past before behind line.place w) in
      word_of_program program all line.place w program_is value inside

  pub order_placed : (o : Option ℕ) → address all (row_of name) v ≡ o → IsPlaced all program line name x m v
  order_placed None none = absurd (false≢true (sym (ap (are_free n (all_cells all (take k all))) (order_cells None none)) ∙ free))
  order_placed (Some a) there = (
    a,
    there,
    word_there (word_of (fields_with (row_of name) x m a)) (order_cells (Some a) there),
    decoded-word_of (fields_with (row_of name) x m a) (order-is name x m v all a fits there),
  )

-- the law
pub round_trip : (text file : List ℕ) (n : ℕ) → AllFit (source (lines_of text)) → AreSmall (all_cells (source (lines_of text)) (source (lines_of text)))
    → end_of (all_cells (source (lines_of text)) (source (lines_of text))) ≤ n → size_in (source (lines_of text)) ≡ Some n
    → bad_behind (source (lines_of text)) n [] (source (lines_of text)) ≡ None → file ≡ file_of (source (lines_of text)) → IsLoadedAs text file
round_trip text file n fits small within sized good is =
    let all = source (lines_of text) in
    let bounds = size_bounds all n fits sized in
    let ws = program_words all in
    let few : length ws ≤ n = (let e = length-map-range_with_len (word_at (all_cells all all)) 0 (end_of (all_cells all all)) in omega (arith, e, within)) in
    let lines_are : lines file ≡ map (octal_digits 8) (n ∷ ws) =
    ap lines is ∙ (file_lines (unwrap_or (size_in all) 0 ∷ ws) ∙ ap (λ (o : Option ℕ). map (octal_digits 8) (unwrap_or o 0 ∷ ws)) sized) in
    let words_are : (program_of (lines file)).words ≡ whole_program all =
    ap (λ (ls : List (List ℕ)). (program_of ls).words) lines_are
    ∙ (loaded_words n ws bounds.1 (words_small (all_cells all all) 0 (end_of (all_cells all all)) small) ∙ ap (λ (o : Option ℕ). ws ++ replicate (unwrap_or o 0 - length ws) 0) (sym sized)) in
    record {
      good = ap bad_line lines_are ∙ loaded n ws bounds.0 bounds.1 few;
      words = words_are;
      orders = λ k x m name v line here order.
          order_placed all n k x m name v line good here order (subst MayFit order (fits k line here)) (program_of (lines file)).words words_are
          (address all (row_of name) v) refl;
    }
