-- The program file of an image, line by line.
-- serves: program_file
use Rattle.std.proofs.Common.{◌≡◌, ◌<◌, ◌+◌, ◌∙◌, ℕ, suc, zero, List, [], ◌∷◌, ◌++◌, ap, arith, map, subst, sym}
use Rattle.std.specs.List.{range_with_len}
use Rattle.std.proofs.lemmas.Grind.{flat_map-append}
use Rattle.std.proofs.lemmas.List.{append-nil, map-append}
use Rattle.g_lines.specs.Lines.{ended, text_of}
use Rattle.g_word.specs.Octal.{octal_digits}
use Rattle.g_plan.specs.Assembly.{end_of, word_at, words_up_to}
use Rattle.g_plan.specs.SecondPass.{IsImageOf}
use Rattle.g_plan.specs.declared.image.Image.{Image}

-- the lines so far: the size and the words before a place
abbrev pub FileSoFar : ℕ → Image → List ℕ → ℕ → Type 0
FileSoFar size image file place =
    (most : ℕ) (filled : List (ℕ × ℕ)) → IsImageOf most filled image → file ≡ text_of (map (octal_digits 8) (size ∷ words_up_to filled place))

range_one : (f : ℕ → ℕ) (a n : ℕ) → map f (range_with_len a (suc n)) ≡ map f (range_with_len a n) ++ f (a + n) ∷ []
range_one f a zero = let same : a ≡ a + 0 = omega arith in ap (λ (k : ℕ). f k ∷ []) same
range_one f a (suc n) =
    let same : (a + 1) + n ≡ a + suc n = omega arith in
    ap (λ (ks : List ℕ). f a ∷ ks) (range_one f (a + 1) n ∙ ap (λ (k : ℕ). map f (range_with_len (a + 1) n) ++ f k ∷ []) same)

text_one : (ls : List (List ℕ)) (line : List ℕ) → text_of (ls ++ line ∷ []) ≡ text_of ls ++ ended line
text_one ls line = flat_map-append ended ls (line ∷ []) ∙ ap (λ (t : List ℕ). text_of ls ++ t) (append-nil (ended line))

file_suc : (size : ℕ) (image : Image) (file new : List ℕ) (place word : ℕ) → FileSoFar size image file place → new ≡ file ++ ended (octal_digits 8 word)
    → ((most : ℕ) (filled : List (ℕ × ℕ)) → IsImageOf most filled image → place < end_of filled)
    → ((most : ℕ) (filled : List (ℕ × ℕ)) → IsImageOf most filled image → place < most → word ≡ word_at filled place) → FileSoFar size image new (suc place)
file_suc size image file new place word so_far is below value most filled there =
    let inside = below most filled there in
    let within = there.within in
    let word_is : word ≡ word_at filled place = value most filled there (omega (arith, inside, within)) in
    let ws = words_up_to filled place in
    let more : words_up_to filled (suc place) ≡ ws ++ word ∷ [] =
    range_one (word_at filled) 0 place ∙ (ap (λ (k : ℕ). ws ++ word_at filled k ∷ []) (omega arith) ∙ ap (λ (w : ℕ). ws ++ w ∷ []) (sym word_is)) in
    is
    ∙ (ap (λ (t : List ℕ). t ++ ended (octal_digits 8 word)) (so_far most filled there)
    ∙ (sym (text_one (map (octal_digits 8) (size ∷ ws)) (octal_digits 8 word))
    ∙ (ap text_of (sym (map-append (octal_digits 8) (size ∷ ws) (word ∷ []))) ∙ ap (λ (vs : List ℕ). text_of (map (octal_digits 8) (size ∷ vs))) (sym more))))

pub file_next : (size : ℕ) (image : Image) (file new : List ℕ) (place word : ℕ) → FileSoFar size image file place → new ≡ file ++ ended (octal_digits 8 word)
    → ((most : ℕ) (filled : List (ℕ × ℕ)) → IsImageOf most filled image → place < end_of filled)
    → ((most : ℕ) (filled : List (ℕ × ℕ)) → IsImageOf most filled image → place < most → word ≡ word_at filled place) → FileSoFar size image new (place + 1)
file_next size image file new place word so_far is below value =
    let next : suc place ≡ place + 1 = omega arith in
    subst (FileSoFar size image new) next (file_suc size image file new place word so_far is below value)
