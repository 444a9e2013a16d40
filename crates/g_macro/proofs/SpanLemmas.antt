-- The extent of a document, line by line.
-- serves: span_of
use Rattle.std.proofs.Common.{List, ap, arith, drop, false, length, refl, sym, take, true, ℕ, ◌+◌, ◌<◌, ◌∙◌, ◌∷◌, ◌≡◌, ◌≤◌}
use Rattle.std.proofs.lemmas.List.{length-drop}
use Rattle.g_lines.proofs.CursorLemmas.{bytes_next, bytes_within}
use Rattle.g_lines.proofs.DocumentLemmas.{lines_few}
use Rattle.g_lines.specs.Documents.{IsWhole}
use Rattle.g_lines.specs.Lines.{lines_of, text_of}
use Rattle.g_macro.proofs.PlaceLemmas.{close-next, close-stop}
use Rattle.g_macro.specs.Levels.{before_closing, is_closing, passed}
use Rattle.g_macro.specs.Spans.{IsSpan}

-- `count` lines were checked, whose text has `document` bytes, and none of them is `////`
pub record IsSpanSoFar (all rest : List (List ℕ)) (count document : ℕ) : Type 0 where
  pub behind : rest ≡ drop count all
  pub before : document + length (text_of (before_closing rest)) ≡ length (text_of (before_closing all))
  pub bytes : document ≡ length (text_of (take count all))
  pub lines : count + passed rest ≡ passed all

pub span-next : (all rest more : List (List ℕ)) (line : List ℕ) (count document : ℕ) → IsSpanSoFar all rest count document → rest ≡ line ∷ more → is_closing line ≡ false
    → IsSpanSoFar all more (count + 1) (document + (length line + 1))
span-next all rest more line count document so_far is other =
    let next = bytes_next all rest more count document line so_far.behind so_far.bytes is in
    let one : passed rest ≡ 1 + passed more = ap passed is ∙ rw other refl in
    record {
      behind = next.0;
      before = close-next all rest more line document so_far.before is other;
      bytes = next.1;
      lines = omega (arith, so_far.lines, one);
    }

pub span-stop : (all rest more : List (List ℕ)) (line : List ℕ) (count document : ℕ) → IsSpanSoFar all rest count document → rest ≡ line ∷ more → is_closing line ≡ true
    → IsSpan all (record { document = document; lines = count + 1; bytes = document + length line + 1 })
span-stop all rest more line count document so_far is closing =
    let next = bytes_next all rest more count document line so_far.behind so_far.bytes is in
    let one : passed rest ≡ 1 = ap passed is ∙ rw closing refl in
    let all_lines : count + 1 ≡ passed all = omega (arith, so_far.lines, one) in
    let sum : document + length line + 1 ≡ document + (length line + 1) = omega arith in
    record {
      document = close-stop all rest more line document so_far.before is closing;
      lines = all_lines;
      bytes = sum ∙ next.1 ∙ ap (λ (n : ℕ). length (text_of (take n all))) all_lines;
    }

-- the counts stay within the text
pub span-fits : (text : List ℕ) (rest more : List (List ℕ)) (line : List ℕ) (count document : ℕ) → IsWhole text → IsSpanSoFar (lines_of text) rest count document → rest ≡ line ∷ more
    → (document + (length line + 1) ≤ length text) × (count + 1 ≤ length text)
span-fits text rest more line count document whole so_far is =
    let next = bytes_next (lines_of text) rest more count document line so_far.behind so_far.bytes is in
    let within = bytes_within (lines_of text) (count + 1) in
    let some : count < length (lines_of text) = omega (arith, ap length (sym is ∙ so_far.behind), length-drop count (lines_of text)) in (
      omega (arith, next.1, within, ap length whole),
      omega (arith, some, lines_few text),
    )
