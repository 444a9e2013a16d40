-- The summary of a text with more bytes at the end.
-- serves: with_bytes
use Rattle.std.proofs.Common.{List, [], ap, get_or, length, sym, take, ℕ, ◌+◌, ◌<◌, ◌∙◌, ◌∷◌, ◌≡◌}
use Rattle.std.specs.List.{fold}
use Rattle.std.proofs.lemmas.List.{take_more}
use Rattle.std.proofs.lemmas.List.Sums.{fold-append}
use Rattle.g_demo.specs.Summary.{folded}

-- one byte more of a piece
pub byte_folded : (s now new : ℕ) (piece : List ℕ) (i : ℕ) → i < length piece → new ≡ folded now (get_or piece i 0) → now ≡ fold folded s (take i piece) → new ≡ fold folded s (take (i + 1) piece)
byte_folded s now new piece i within is so_far =
    is ∙ ap (λ (n : ℕ). folded n (get_or piece i 0)) so_far
    ∙ sym (ap (fold folded s) (take_more piece i 0 within) ∙ fold-append folded s (take i piece) (get_or piece i 0 ∷ []))
