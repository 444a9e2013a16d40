-- The lines of a document, read one after another from a text.
-- serves: read_document
use Rattle.std.proofs.Common.{Bool, eqb, false, true, ◌≡◌, ◌≢◌, ◌∷◌, ◌++◌, ◌+◌, ◌≤◌, ◌∙◌, [], List, ℕ, All, ap, subst, sym, arith, length, take, codes}
use Rattle.std.proofs.lemmas.Bool.Decides.{Decides-eqb, not_from_Decides}
use Rattle.std.proofs.lemmas.List.{append_assoc, length-append}
use Rattle.std.proofs.lemmas.List.Elements.{All-push}
use Rattle.std.proofs.lemmas.Slice.Eq.{slice_eq-Decides}
use Rattle.std.specs.Cmp.Lexicographic.{pointwise}
use Rattle.g_lines.proofs.DocumentLemmas.{front_lines, front_long, lines_in_front, text_more}
use Rattle.g_lines.specs.Lines.{lines_of, text_of}
use Rattle.g_script.specs.Reading.{IsDocumentRead}
use Rattle.g_script.specs.Script.{IsDocumentLine, IsPrinted}
use Rattle.g_script.specs.declared.read.DocumentRead.TheVariants as document

-- whether a line ends the document
pub is_end : (line : List ℕ) (r : Bool) → r ≡ pointwise eqb line (codes "****") → r ≡ true → line ≡ codes "****"
is_end line r e same = (slice_eq-Decides Decides-eqb line (codes "****") r e).0 same

pub is_no_end : (line : List ℕ) (r : Bool) → r ≡ pointwise eqb line (codes "****") → r ≡ false → line ≢ codes "****"
is_no_end line r e other = not_from_Decides r (slice_eq-Decides Decides-eqb line (codes "****") r e) other

-- the good lines so far, their number, and their length with their bytes 10
pub record IsUpTo (lines : List (List ℕ)) (left : List (List ℕ)) (count : ℕ) (bytes : ℕ) : Type 0 where
  pub texts : List (List ℕ)
  pub all : lines ≡ texts ++ left
  pub good : All IsDocumentLine texts
  pub counted : count ≡ length texts
  pub long : bytes ≡ length (text_of texts)

-- another line
module _ (text : List ℕ) (lines left more : List (List ℕ)) (line : List ℕ) (count bytes : ℕ) (here : IsUpTo lines left count bytes) (same : lines_of text ≡ lines) (next : left ≡ line ∷ more) where
  cut : lines ≡ here.texts ++ line ∷ more
  cut = here.all ∙ ap (λ (ls : List (List ℕ)). here.texts ++ ls) next

  behind : lines ≡ (here.texts ++ line ∷ []) ++ more
  behind = cut ∙ sym (append_assoc here.texts (line ∷ []) more)

  more_bytes : bytes + (length line + 1) ≡ length (text_of (here.texts ++ line ∷ []))
  more_bytes = omega (arith, here.long, text_more here.texts line)

  pub up_to-inside : bytes ≤ length text
  up_to-inside = omega (arith, here.long, (lines_in_front text here.texts more line (same ∙ cut)).0)

  pub up_to-room : bytes + (length line + 1) ≤ length text + 1
  up_to-room = omega (arith, more_bytes, front_long text (here.texts ++ line ∷ []) more (same ∙ behind))

  pub up_to-more : IsPrinted line → line ≢ codes "****" → IsUpTo lines more (count + 1) (bytes + (length line + 1))
  up_to-more printed other = record {
    texts = here.texts ++ line ∷ [];
    all = behind;
    good = All-push IsDocumentLine here.texts line here.good (printed, other);
    counted = omega (arith, here.counted, length-append here.texts (line ∷ []));
    long = more_bytes;
  }

  pub up_to-whole : (found : List (List ℕ)) → line ≡ codes "****" → found ≡ lines_of (take bytes text) → IsDocumentRead lines more (document.Whole found count)
  up_to-whole found ends copied =
      let is : found ≡ here.texts = copied ∙ ap (λ (n : ℕ). lines_of (take n text)) here.long ∙ front_lines text here.texts more line (same ∙ cut) in (
        subst (All IsDocumentLine) (sym is) here.good,
        cut ∙ ap (λ (l : List ℕ). here.texts ++ l ∷ more) ends ∙ ap (λ (ls : List (List ℕ)). ls ++ codes "****" ∷ more) (sym is),
        here.counted ∙ ap length (sym is),
      )
