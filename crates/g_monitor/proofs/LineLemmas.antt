-- Lines appended to lines.
-- serves: listing, replies
use Rattle.std.proofs.Common.{◌≡◌, ℕ, List, [], ◌∷◌, ◌++◌, append_assoc, append-nil, sym, ap, ◌∙◌}
use Rattle.std.proofs.lemmas.Grind.{flat_map-append}
use Rattle.g_lines.specs.Lines.{ended, text_of}

-- a line with its byte 10 after a text, and what follows
pub line_behind : (text line rest : List ℕ) → ((text ++ line) ++ 10 ∷ []) ++ rest ≡ text ++ ((line ++ 10 ∷ []) ++ rest)
line_behind text line rest =
    ap (λ (bs : List ℕ). bs ++ rest) (append_assoc text line (10 ∷ [])) ∙ append_assoc text (line ++ 10 ∷ []) rest

-- a last line after others
pub last_behind : (lines : List (List ℕ)) (line : List ℕ) → text_of (lines ++ line ∷ []) ≡ (text_of lines ++ line) ++ 10 ∷ []
last_behind lines line =
    flat_map-append ended lines (line ∷ []) ∙ ap (λ (bs : List ℕ). text_of lines ++ bs) (append-nil (ended line)) ∙ sym (append_assoc (text_of lines) line (10 ∷ []))
