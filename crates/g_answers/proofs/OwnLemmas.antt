-- The lines of a text as lines of the console's own.
-- serves: help
use Rattle.std.proofs.Common.{List, ◌∷◌, ◌++◌, ℕ, [], ◌≡◌, ◌≢◌, ◌==◌, All, Bool, true, false, if◌then◌else◌, eq-eqb, refl, sym, ◌∙◌, subst}
use Rattle.std.specs.List.{flat_map}
use Rattle.std.proofs.lemmas.Bool.{false≢true}
use Rattle.std.proofs.lemmas.List.Elements.{All-cons, All-head, All-nil, All-tail}
use Rattle.g_laws_sessions.specs.Asked.{AreOwnLines, own_line}
use Rattle.g_lines.specs.Documents.{IsOneLine}
use Rattle.g_lines.specs.Lines.{lines_of, onto_first}

onto_one : (b : ℕ) → b ≢ 10 → (lines : List (List ℕ)) → All IsOneLine lines → All IsOneLine (onto_first b lines)
onto_one b other [] all = All-cons IsOneLine (b ∷ []) [] (All-cons (λ (x : ℕ). x ≢ 10) b [] other (All-nil (λ (x : ℕ). x ≢ 10))) (All-nil IsOneLine)
onto_one b other (line ∷ lines) all =
    All-cons IsOneLine (b ∷ line) lines (All-cons (λ (x : ℕ). x ≢ 10) b line other (All-head IsOneLine line lines all)) (All-tail IsOneLine line lines all)

-- each line of a text is one line
pub lines_one : (text : List ℕ) → All IsOneLine (lines_of text)
lines_one [] = All-nil IsOneLine
lines_one (b ∷ bs) = by (b == 10) refl (lines_one bs)
  where
    by : (r : Bool) → (b == 10) ≡ r → All IsOneLine (lines_of bs) → All IsOneLine (if b == 10 then [] ∷ lines_of bs else onto_first b (lines_of bs))
    by true is rest =
        subst (λ (r : Bool). All IsOneLine (if r then [] ∷ lines_of bs else onto_first b (lines_of bs))) (sym is)
        (All-cons IsOneLine [] (lines_of bs) (All-nil (λ (x : ℕ). x ≢ 10)) rest)
    by false is rest =
        subst (λ (r : Bool). All IsOneLine (if r then [] ∷ lines_of bs else onto_first b (lines_of bs))) (sym is)
        (onto_one b (λ e. false≢true (sym is ∙ eq-eqb b 10 e)) (lines_of bs) rest)

pub own_ones : (what text : List ℕ) → text ≡ flat_map own_line (lines_of what) → AreOwnLines text
own_ones what text is = record { lines = lines_of what; one = lines_one what; all = is }
