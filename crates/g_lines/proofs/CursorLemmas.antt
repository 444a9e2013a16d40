-- The byte offset in a document after the lines that were taken.
-- serves: has_line, left (lines, text), line, pass, take_line, crates above
use Rattle.std.proofs.Common.{◌≡◌, ◌<◌, ◌≤◌, ◌+◌, ◌-◌, ℕ, List, [], ◌∷◌, ◌++◌, ⊎_elim, length, get_or, take, drop, take-add, take_all, le-ltb, lt-ltb, nat_lt, sym, ap, ◌∙◌, refl, arith}
use Rattle.std.proofs.lemmas.Bool.{cases_lt}
use Rattle.std.proofs.lemmas.List.{drop_at, drop-drop, drop_more, get_or-drop, length-append, length-drop, take-append-drop, take_more, take_rest}
use Rattle.std.proofs.lemmas.List.Concat.{flat_map-append}
use Rattle.g_lines.proofs.DocumentLemmas.{rest_back, text_more}
use Rattle.g_lines.specs.Documents.{IsPlace}
use Rattle.g_lines.specs.Lines.{ended, lines_of, text_of}

-- the text of the first n lines and that of the others
pub text_cut : (lines : List (List ℕ)) (n : ℕ) → text_of lines ≡ text_of (take n lines) ++ text_of (drop n lines)
text_cut lines n = ap text_of (sym (take-append-drop n lines)) ∙ flat_map-append ended (take n lines) (drop n lines)

pub place_inside : (lines : List (List ℕ)) (taken at : ℕ) → IsPlace lines taken at → at ≤ length (text_of lines)
place_inside lines taken at place =
    omega (arith, place.bytes, ap length (text_cut lines taken), length-append (text_of (take taken lines)) (text_of (drop taken lines)))

pub place_within : (lines : List (List ℕ)) (taken at : ℕ) (text : List ℕ) → IsPlace lines taken at → text ≡ text_of lines → at ≤ length text
place_within lines taken at text place is = omega (arith, place_inside lines taken at place, ap length is)

pub place_left : (lines : List (List ℕ)) (taken at : ℕ) (text : List ℕ) → IsPlace lines taken at → text ≡ text_of lines → take (length text - at) (drop at text) ≡ text_of (drop taken lines)
place_left lines taken at text place is =
    take_rest text at ∙ ap (drop at) (is ∙ text_cut lines taken) ∙ drop_at (text_of (take taken lines)) (text_of (drop taken lines)) at (sym place.bytes)

pub left_lines : (lines : List (List ℕ)) (taken : ℕ) (text : List ℕ) → lines_of text ≡ lines → lines_of (text_of (drop taken lines)) ≡ drop taken lines
left_lines lines taken text is = rest_back text (take taken lines) (drop taken lines) (is ∙ sym (take-append-drop taken lines))

pub bytes_more : (lines : List (List ℕ)) (n : ℕ) (line : List ℕ) → n < length lines → line ≡ get_or lines n [] → length (text_of (take (n + 1) lines)) ≡ length (text_of (take n lines)) + (length line + 1)
bytes_more lines n line inside is =
    ap (λ (ls : List (List ℕ)). length (text_of ls)) (take_more lines n [] inside ∙ ap (λ (l : List ℕ). take n lines ++ l ∷ []) (sym is)) ∙ text_more (take n lines) line

pub place_next : (lines : List (List ℕ)) (taken at : ℕ) (line : List ℕ) → IsPlace lines taken at → taken < length lines → line ≡ get_or lines taken [] → IsPlace lines (taken + 1) (at + (length line + 1))
place_next lines taken at line place inside is = record {
  within = omega (arith, inside);
  bytes = omega (arith, place.bytes, bytes_more lines taken line inside is);
}

-- the offset after some more lines
pub place_pass : (lines : List (List ℕ)) (taken at count bytes : ℕ) → IsPlace lines taken at → count ≤ length (drop taken lines) → bytes ≡ length (text_of (take count (drop taken lines)))
    → IsPlace lines (taken + count) (at + bytes)
place_pass lines taken at count bytes place within is =
    let cut : text_of (take (taken + count) lines) ≡ text_of (take taken lines) ++ text_of (take count (drop taken lines)) =
    ap text_of (take-add taken count lines) ∙ flat_map-append ended (take taken lines) (take count (drop taken lines)) in
    record {
      within = omega (arith, place.within, within, length-drop taken lines);
      bytes = omega (arith, place.bytes, is, ap length cut, length-append (text_of (take taken lines)) (text_of (take count (drop taken lines))));
    }

pub left_some : (lines : List (List ℕ)) (taken : ℕ) → taken < length lines → 0 < length (text_of (drop taken lines))
left_some lines taken inside =
    let line = get_or lines taken [] in
    omega (arith, ap (λ (ls : List (List ℕ)). length (text_of ls)) (drop_more lines taken [] inside), length-append (ended line) (text_of (drop (taken + 1) lines)), length-append line (10 ∷ []))

pub first_left : (lines more : List (List ℕ)) (taken : ℕ) (line : List ℕ) → drop taken lines ≡ line ∷ more → line ≡ get_or lines taken []
first_left lines more taken line cut =
    let e : taken + 0 ≡ taken = omega arith in
    ap (λ (ls : List (List ℕ)). get_or ls 0 []) (sym cut) ∙ get_or-drop taken lines 0 [] ∙ ap (λ (n : ℕ). get_or lines n []) e

-- whether a line is left
pub place_has : (lines : List (List ℕ)) (taken at : ℕ) (text : List ℕ) → IsPlace lines taken at → text ≡ text_of lines → nat_lt at (length text) ≡ nat_lt taken (length lines)
place_has lines taken at text place is =
    ⊎_elim
    (λ more.
    let next = place_inside lines (taken + 1) (at + (length (get_or lines taken []) + 1)) (place_next lines taken at (get_or lines taken []) place more refl) in
    let less : at < length text = omega (arith, next, ap length is) in
    lt-ltb at (length text) less ∙ sym (lt-ltb taken (length lines) more))
    (λ none.
    let whole : at ≡ length (text_of lines) = place.bytes ∙ ap (λ (ls : List (List ℕ)). length (text_of ls)) (take_all taken lines none) in
    le-ltb at (length text) (omega (arith, whole, ap length is)) ∙ sym (le-ltb taken (length lines) none))
    (cases_lt taken (length lines))

-- the bytes of the first lines are within the text
pub bytes_within : (lines : List (List ℕ)) (n : ℕ) → length (text_of (take n lines)) ≤ length (text_of lines)
bytes_within lines n = omega (arith, ap length (text_cut lines n), length-append (text_of (take n lines)) (text_of (drop n lines)))

-- one line more is counted
pub bytes_next : (lines left more : List (List ℕ)) (n bytes : ℕ) (line : List ℕ) → left ≡ drop n lines → bytes ≡ length (text_of (take n lines)) → left ≡ line ∷ more
    → (more ≡ drop (n + 1) lines) × (bytes + (length line + 1) ≡ length (text_of (take (n + 1) lines)))
bytes_next lines left more n bytes line is counted cut =
    let some : n < length lines = omega (arith, ap length (sym cut ∙ is), length-drop n lines) in
    let here : drop n lines ≡ line ∷ more = sym is ∙ cut in
    let first = first_left lines more n line here in (
      ap (drop 1) (sym here) ∙ drop-drop 1 n lines,
      omega (arith, counted, bytes_more lines n line some first),
    )
