-- Loops that search a line or an entry.
-- serves: pass_line, take_document (text), LabelLemmas, SpanLemmas
use Rattle.std.proofs.Common.{List, None, Option, Some, [], ap, append_assoc, arith, drop, false, get_or, length, option_map, refl, sym, take, true, ℕ, ◌++◌, ◌+◌, ◌<◌, ◌∙◌, ◌∷◌, ◌≡◌, ◌≤◌}
use Rattle.std.proofs.lemmas.Bool.{cond_both}
use Rattle.std.proofs.lemmas.List.{drop_more, length-append, take_at}
use Rattle.g_lang.specs.Words.{has_label}
use Rattle.g_lines.specs.Lines.{ended, lines_of, text_of}
use Rattle.g_macro.specs.Levels.{before_closing, is_closing, line_of_label, passed}

map-map : (f g h : ℕ → ℕ) (o : Option ℕ) → ((n : ℕ) → f (g n) ≡ h n) → option_map f (option_map g o) ≡ option_map h o
map-map f g h None same = refl
map-map f g h (Some n) same = ap (λ (m : ℕ). let o : Option ℕ = Some m in o) (same n)

-- lines with a label
pub label-next : (label : List ℕ) (lines left more : List (List ℕ)) (line : List ℕ) (i : ℕ) → line_of_label label lines ≡ option_map (λ n. i + n) (line_of_label label left)
    → left ≡ line ∷ more → has_label label line ≡ false → line_of_label label lines ≡ option_map (λ n. i + 1 + n) (line_of_label label more)
label-next label lines left more line i so_far is other =
    so_far ∙ ap (λ (ls : List (List ℕ)). option_map (λ n. i + n) (line_of_label label ls)) is
    ∙ rw other (map-map (λ n. i + n) (λ n. 1 + n) (λ n. i + 1 + n) (line_of_label label more) (λ n. omega arith))

-- the bytes before `////`
pub close-next : (all left more : List (List ℕ)) (line : List ℕ) (i : ℕ) → i + length (text_of (before_closing left)) ≡ length (text_of (before_closing all)) → left ≡ line ∷ more → is_closing line ≡ false
    → i + (length line + 1) + length (text_of (before_closing more)) ≡ length (text_of (before_closing all))
close-next all left more line i so_far is other =
    let here : before_closing left ≡ line ∷ before_closing more = ap before_closing is ∙ rw other refl in
    omega (arith, so_far, ap (λ (ls : List (List ℕ)). length (text_of ls)) here, length-append (ended line) (text_of (before_closing more)), length-append line (10 ∷ []))

pub close-stop : (all left more : List (List ℕ)) (line : List ℕ) (i : ℕ) → i + length (text_of (before_closing left)) ≡ length (text_of (before_closing all)) → left ≡ line ∷ more → is_closing line ≡ true
    → i ≡ length (text_of (before_closing all))
close-stop all left more line i so_far is closing =
    let here : before_closing left ≡ [] = ap before_closing is ∙ rw closing refl in
    omega (arith, so_far, ap (λ (ls : List (List ℕ)). length (text_of ls)) here)

-- the lines before `////` are a prefix
before_in : (lines : List (List ℕ)) → (rest : List ℕ) × (text_of lines ≡ text_of (before_closing lines) ++ rest)
before_in [] = ([], refl)
before_in (line ∷ lines) =
    cond_both (is_closing line) [] (line ∷ before_closing lines) (λ (ls : List (List ℕ)). (rest : List ℕ) × (text_of (line ∷ lines) ≡ text_of ls ++ rest))
    (λ _. (text_of (line ∷ lines), refl))
    (λ _. let (rest, e) = before_in lines in (rest, ap (λ (bs : List ℕ). ended line ++ bs) e ∙ sym (append_assoc (ended line) (text_of (before_closing lines)) rest)))

pub before-taken : (lines : List (List ℕ)) → take (length (text_of (before_closing lines))) (text_of lines) ≡ text_of (before_closing lines)
before-taken lines =
    let (rest, e) = before_in lines in
    ap (take (length (text_of (before_closing lines)))) e ∙ take_at (text_of (before_closing lines)) rest (length (text_of (before_closing lines))) refl

pub before-short : (lines : List (List ℕ)) → length (text_of (before_closing lines)) ≤ length (text_of lines)
before-short lines = let (rest, e) = before_in lines in omega (arith, ap length e, length-append (text_of (before_closing lines)) rest)

pub document-is : (left : List ℕ) (lines : List (List ℕ)) (place : ℕ) → left ≡ text_of lines → lines_of left ≡ lines → place ≡ length (text_of (before_closing (lines_of left)))
    → take place left ≡ text_of (before_closing lines)
document-is left lines place whole same is =
    ap (λ (n : ℕ). take n left) (is ∙ ap (λ (ls : List (List ℕ)). length (text_of (before_closing ls))) same)
    ∙ ap (take (length (text_of (before_closing lines)))) whole ∙ before-taken lines

pub document-inside : (left : List ℕ) (lines : List (List ℕ)) (place : ℕ) → left ≡ text_of lines → lines_of left ≡ lines → place ≡ length (text_of (before_closing (lines_of left)))
    → place ≤ length left
document-inside left lines place whole same is =
    omega (arith, is, ap (λ (ls : List (List ℕ)). length (text_of (before_closing ls))) same, ap length whole, before-short lines)

-- lines that are passed
pub passed-within : (lines : List (List ℕ)) → passed lines ≤ length lines
passed-within [] = omega arith
passed-within (line ∷ lines) =
    let within = passed-within lines in
    cond_both (is_closing line) 1 (1 + passed lines) (λ (n : ℕ). n ≤ length (line ∷ lines)) (λ _. omega arith) (λ _. omega (arith, within))

-- the next of the lines that are left, and its length in bytes with its byte 10
pub one-left : (lines : List (List ℕ)) (taken : ℕ) → taken < length lines → (1 ≤ length (drop taken lines)) × (length (get_or lines taken []) + 1 ≡ length (text_of (take 1 (drop taken lines))))
one-left lines taken inside =
    let line = get_or lines taken [] in
    let cut : drop taken lines ≡ line ∷ drop (taken + 1) lines = drop_more lines taken [] inside in
    let text : text_of (take 1 (drop taken lines)) ≡ ended line ++ [] = ap (λ (ls : List (List ℕ)). text_of (take 1 ls)) cut in
    (omega (arith, ap length cut), omega (arith, ap length text, length-append (ended line) [], length-append line (10 ∷ [])))
