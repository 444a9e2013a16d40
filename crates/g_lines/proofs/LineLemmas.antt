-- Lines and the bytes 10 between them.
-- serves: end_last (whole), is_empty, lines_are_those_of_their_text, split_line, DocumentLemmas, crates above
use Rattle.std.proofs.Common.{◌≡◌, ◌≢◌, ◌↔◌, ◌==◌, Bool, true, eqb, eqb-true, ◌<◌, ℕ, List, [], ◌∷◌, ◌++◌, append_assoc, length, All, sym, ap, ◌∙◌, refl, arith}
use Rattle.std.specs.List.{AllByRecursion}
use Rattle.std.proofs.lemmas.Bool.{ne_eqb, cond_both, false≢true}
use Rattle.std.proofs.lemmas.List.Elements.{recursion_from_All}
use Rattle.std.specs.Prelude.{if◌then◌else◌}
use Rattle.g_lines.specs.Lines.{ended, lines_of, onto_first, text_of}

-- a line without a byte 10, byte by byte
abbrev pub HasNoEnd : List ℕ → Type 0
HasNoEnd line = AllByRecursion (λ b. b ≢ 10) line

pub lines_of-line : (line rest : List ℕ) → HasNoEnd line → lines_of (line ++ 10 ∷ rest) ≡ line ∷ lines_of rest
lines_of-line [] rest one = refl
lines_of-line (b ∷ line) rest one = rw (ne_eqb b 10 one.0, lines_of-line line rest one.1) refl

pub lines_of-last : (b : ℕ) (line : List ℕ) → HasNoEnd (b ∷ line) → lines_of (b ∷ line) ≡ (b ∷ line) ∷ []
lines_of-last b [] one = rw (ne_eqb b 10 one.0) refl
lines_of-last b (c ∷ line) one = rw (ne_eqb b 10 one.0, lines_of-last c line one.1) refl

-- what `split_line` returns if the text has a byte 10, and if it has none
pub lines_of-split : (text line rest : List ℕ) → text ≡ line ++ 10 ∷ rest → All (λ b. b ≢ 10) line → lines_of text ≡ line ∷ lines_of rest
lines_of-split text line rest e one = ap lines_of e ∙ lines_of-line line rest (recursion_from_All _ line one)

pub lines_of-whole : (text : List ℕ) → 0 < length text → All (λ b. b ≢ 10) text → lines_of text ≡ text ∷ []
lines_of-whole [] some one = absurd (omega arith)
lines_of-whole (b ∷ text) some one = lines_of-last b text (recursion_from_All _ (b ∷ text) one)

onto_first_some : (b : ℕ) (lines : List (List ℕ)) → onto_first b lines ≡ [] → ⊥
onto_first_some b [] e = cc
onto_first_some b (line ∷ lines) e = cc

pub lines_of_some : (b : ℕ) (text : List ℕ) → lines_of (b ∷ text) ≡ [] → ⊥
lines_of_some b text e =
    cond_both (eqb b 10) ([] ∷ lines_of text) (onto_first b (lines_of text)) (λ (ls : List (List ℕ)). ls ≡ [] → ⊥) (λ is f. cc) (λ is f. onto_first_some b (lines_of text) f) e

-- a text has no lines if and only if it is empty
pub no_lines : (text : List ℕ) (lines : List (List ℕ)) (empty : Bool) → empty ≡ eqb (length text) 0 → lines_of text ≡ lines → (empty ≡ true) ↔ (lines ≡ [])
no_lines [] lines empty is same = ((λ e. sym same), (λ e. is))
no_lines (b ∷ text) lines empty is same =
    ((λ e. absurd (false≢true (sym (is ∙ ne_eqb (length (b ∷ text)) 0 (λ z. omega arith)) ∙ e))), (λ e. absurd (lines_of_some b text (same ∙ e))))

-- LINES AND THEIR TEXT: lines without a byte 10 are those of their text
text_lines : (lines : List (List ℕ)) → AllByRecursion (λ line. All (λ b. b ≢ 10) line) lines → lines_of (text_of lines) ≡ lines
text_lines [] all = refl
text_lines (line ∷ lines) all =
    ap lines_of (append_assoc line (10 ∷ []) (text_of lines))
    ∙ (lines_of-line line (text_of lines) (recursion_from_All _ line all.0) ∙ ap (λ others. line ∷ others) (text_lines lines all.1))

pub text-lines : (lines : List (List ℕ)) → All (λ line. All (λ b. b ≢ 10) line) lines → lines_of (text_of lines) ≡ lines
text-lines lines all = text_lines lines (recursion_from_All _ lines all)

-- a text that ends with a byte 10 is that of its lines
ended_some : (text : List ℕ) → lines_of (ended text) ≡ [] → ⊥
ended_some [] e = lines_of_some 10 [] e
ended_some (b ∷ text) e = lines_of_some b (ended text) e

pub onto_text : (b : ℕ) (lines : List (List ℕ)) → (lines ≡ [] → ⊥) → text_of (onto_first b lines) ≡ b ∷ text_of lines
onto_text b [] some = absurd (some refl)
onto_text b (line ∷ lines) some = refl

pub lines-text : (text : List ℕ) → text_of (lines_of (ended text)) ≡ ended text
lines-text [] = refl
lines-text (b ∷ text) =
    cond_both (b == 10) ([] ∷ lines_of (ended text)) (onto_first b (lines_of (ended text))) (λ (ls : List (List ℕ)). text_of ls ≡ ended (b ∷ text))
    (λ is. ap (λ (bs : List ℕ). 10 ∷ bs) (lines-text text) ∙ ap (λ (c : ℕ). c ∷ ended text) (sym (eqb-true b 10 is)))
    (λ other. onto_text b (lines_of (ended text)) (ended_some text) ∙ ap (λ (bs : List ℕ). b ∷ bs) (lines-text text))

-- the last byte 10 may be missing
pub lines-last : (text : List ℕ) (last : ℕ) → last ≢ 10 → lines_of (ended (text ++ last ∷ [])) ≡ lines_of (text ++ last ∷ [])
lines-last [] last other = rw (ne_eqb last 10 other) refl
lines-last (b ∷ text) last other = ap (λ (ls : List (List ℕ)). if b == 10 then [] ∷ ls else onto_first b ls) (lines-last text last other)
