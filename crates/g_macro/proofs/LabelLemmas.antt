-- The search for the line with a label, line by line.
-- serves: place_of_label
use Rattle.std.proofs.Common.{List, ap, arith, drop, false, length, option_map, sym, take, ℕ, ◌+◌, ◌<◌, ◌∙◌, ◌∷◌, ◌≡◌, ◌≤◌}
use Rattle.std.proofs.lemmas.List.{length-drop}
use Rattle.g_lang.specs.Words.{has_label}
use Rattle.g_lines.proofs.CursorLemmas.{bytes_next, bytes_within}
use Rattle.g_lines.proofs.DocumentLemmas.{lines_few}
use Rattle.g_lines.specs.Documents.{IsWhole}
use Rattle.g_lines.specs.Lines.{lines_of, text_of}
use Rattle.g_macro.proofs.PlaceLemmas.{label-next}
use Rattle.g_macro.specs.Levels.{line_of_label}

-- `count` lines were checked, which have `bytes` bytes, and none of them has the label
pub record IsLabelSoFar (label : List ℕ) (all rest : List (List ℕ)) (count bytes : ℕ) : Type 0 where
  pub behind : rest ≡ drop count all
  pub before : line_of_label label all ≡ option_map (λ n. count + n) (line_of_label label rest)
  pub counted : bytes ≡ length (text_of (take count all))

pub label_so_far-next : (label : List ℕ) (all rest more : List (List ℕ)) (line : List ℕ) (count bytes : ℕ) → IsLabelSoFar label all rest count bytes → rest ≡ line ∷ more → has_label label line ≡ false
    → IsLabelSoFar label all more (count + 1) (bytes + (length line + 1))
label_so_far-next label all rest more line count bytes so_far is other =
    let next = bytes_next all rest more count bytes line so_far.behind so_far.counted is in
    record { behind = next.0; before = label-next label all rest more line count so_far.before is other; counted = next.1 }

-- the counts stay within the text
pub label_so_far-fits : (label text : List ℕ) (rest more : List (List ℕ)) (line : List ℕ) (count bytes : ℕ) → IsWhole text → IsLabelSoFar label (lines_of text) rest count bytes → rest ≡ line ∷ more
    → (bytes + (length line + 1) ≤ length text) × (count + 1 ≤ length text)
label_so_far-fits label text rest more line count bytes whole so_far is =
    let next = bytes_next (lines_of text) rest more count bytes line so_far.behind so_far.counted is in
    let within = bytes_within (lines_of text) (count + 1) in
    let some : count < length (lines_of text) = omega (arith, ap length (sym is ∙ so_far.behind), length-drop count (lines_of text)) in (
      omega (arith, next.1, within, ap length whole),
      omega (arith, some, lines_few text),
    )
