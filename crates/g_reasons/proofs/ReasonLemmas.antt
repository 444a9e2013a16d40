-- The text after the first space of a line, words at its beginning, and the reasons that were tried.
-- serves: asked_in, begins, first_of
use Rattle.std.proofs.Common.{All, Bool, List, [], ap, eqb, get_or, length, refl, subst, sym, take, drop, true, ℕ, ◌+◌, ◌++◌, ◌<◌, ◌≤◌, ◌∙◌, ◌∷◌, ◌≡◌, ◌≢◌, ◌↔◌}
use Rattle.std.specs.Cmp.Lexicographic.{pointwise}
use Rattle.std.specs.List.{AllByRecursion}
use Rattle.std.specs.Prelude.{if◌then◌else◌}
use Rattle.std.proofs.lemmas.Bool.{ne_eqb}
use Rattle.std.proofs.lemmas.Bool.Decides.{Decides-eqb}
use Rattle.std.proofs.lemmas.List.Elements.{All-more, recursion_from_All}
use Rattle.std.proofs.lemmas.List.{drop_more, take-append-drop, take_all}
use Rattle.std.proofs.lemmas.Slice.Eq.{starts_is}
use Rattle.g_reasons.specs.Reasons.{Begins, IsFirst, IsWrong, asked}
use Rattle.g_reasons.specs.Words.{word_text}
use Rattle.g_reasons.specs.declared.reason.Reason.{Reason}
use Rattle.g_reasons.specs.declared.word.Word.{Word}

split_by : (front rest : List ℕ) → AllByRecursion (λ (b : ℕ). b ≢ 32) front → asked (front ++ 32 ∷ rest) ≡ rest
split_by [] rest none = refl
split_by (b ∷ front) rest none = rw (ne_eqb b 32 none.0, split_by front rest none.1) refl

pub asked_split : (line front rest : List ℕ) → line ≡ front ++ 32 ∷ rest → All (λ b. b ≢ 32) front → asked line ≡ rest
asked_split line front rest is none = ap asked is ∙ split_by front rest (recursion_from_All (λ (b : ℕ). b ≢ 32) front none)

none_by : (line : List ℕ) → AllByRecursion (λ (b : ℕ). b ≢ 32) line → asked line ≡ []
none_by [] none = refl
none_by (b ∷ line) none = rw (ne_eqb b 32 none.0, none_by line none.1) refl

pub asked_none : (line : List ℕ) → All (λ b. b ≢ 32) line → asked line ≡ []
asked_none line none = none_by line (recursion_from_All (λ (b : ℕ). b ≢ 32) line none)

pub begins_test : (word : Word) (text own : List ℕ) (r : Bool) → own ≡ word_text word → r ≡ pointwise eqb own (take (length own) text) → (r ≡ true) ↔ Begins word text
begins_test word text own r same is =
    let parts = starts_is Decides-eqb text own r is in (
      (λ yes. let b : Begins word text = (drop (length own) text, parts.0 yes ∙ ap (λ (w : List ℕ). w ++ drop (length own) text) same) in b),
      (λ (b : Begins word text). parts.1 b.0 (b.1 ∙ ap (λ (w : List ℕ). w ++ b.0) (sym same))),
    )

-- the reason at a place is the first that applies
pub found_at : (among : List Reason) (i : ℕ) (d : Reason) (line : List ℕ) → i < length among → All (λ other. IsWrong other line → ⊥) (take i among)
    → IsWrong (get_or among i d) line → IsFirst among (get_or among i d) line
found_at among i d line inside none applies = record {
  before = take i among;
  after = drop (i + 1) among;
  all = sym (take-append-drop i among) ∙ ap (λ (rs : List Reason). take i among ++ rs) (drop_more among i d inside);
  applies = applies;
  first = none;
}

-- or none that was tried
pub none_at : (among : List Reason) (i : ℕ) (d : Reason) (line : List ℕ) → i < length among → All (λ other. IsWrong other line → ⊥) (take i among)
    → (IsWrong (get_or among i d) line → ⊥) → All (λ other. IsWrong other line → ⊥) (take (i + 1) among)
none_at among i d line inside none isnt = All-more (λ other. IsWrong other line → ⊥) among i d inside none isnt

pub none_applies : (among : List Reason) (i : ℕ) (line : List ℕ) → length among ≤ i → All (λ other. IsWrong other line → ⊥) (take i among) → All (λ other. IsWrong other line → ⊥) among
none_applies among i line all none = subst (λ (rs : List Reason). All (λ other. IsWrong other line → ⊥) rs) (take_all i among all) none
