-- The verb of a name, among those that begin with its first letter.
-- serves: of
use Rattle.std.proofs.Common.{List, Option, find, subst, sym, ℕ, ◌∙◌, ◌∷◌, ◌≡◌}
use Rattle.g_name.specs.Order.{same_text}
use Rattle.g_verbs.specs.Verbs.{verb_of, verb_word}
use Rattle.g_verbs.specs.declared.verb.Verb.{Verb}

pub verb_behind : (name rest : List ℕ) (letter : ℕ) (vs : List Verb) (o : Option Verb) → name ≡ letter ∷ rest
    → ((more : List ℕ) → find (λ verb. same_text (verb_word verb) (letter ∷ more)) vs ≡ verb_of (letter ∷ more))
    → o ≡ find (λ verb. same_text (verb_word verb) name) vs → o ≡ verb_of name
verb_behind name rest letter vs o same there is =
    is ∙ subst (λ (n : List ℕ). find (λ verb. same_text (verb_word verb) n) vs ≡ verb_of n) (sym same) (there rest)
