-- The lines of a text by two definitions: that of programs and units, and that of macros and documents.
-- serves: lines_are_lines_of_programs
use Rattle.std.proofs.Common.{◌≡◌, ◌==◌, ℕ, Bool, true, false, List, [], ◌∷◌, if◌then◌else◌, refl, ap, ◌∙◌}
use Rattle.g_lines.specs.Lines.{lines_of, onto_first}
use Rattle.g_mill.specs.Lines.{before_lines, lines}

same_first : (byte : ℕ) (rows : List (List ℕ)) → before_lines byte rows ≡ onto_first byte rows
same_first byte [] = refl
same_first byte (row ∷ rows) = refl

by_byte : (byte : ℕ) (text : List ℕ) → lines text ≡ lines_of text → (ends : Bool)
    → (if ends then [] ∷ lines text else before_lines byte (lines text)) ≡ (if ends then [] ∷ lines_of text else onto_first byte (lines_of text))
by_byte byte text again true = ap (λ (rows : List (List ℕ)). [] ∷ rows) again
by_byte byte text again false = same_first byte (lines text) ∙ ap (onto_first byte) again

pub same_lines : (text : List ℕ) → lines text ≡ lines_of text
same_lines [] = refl
same_lines (byte ∷ text) = by_byte byte text (same_lines text) (byte == 10)
