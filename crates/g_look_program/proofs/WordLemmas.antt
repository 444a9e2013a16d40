-- Two words that request nothing.
-- serves: asked_of
use Rattle.std.proofs.Common.{Bool, List, [], Option, Some, None, ap, arith, codes, get_or, subst, sym, true, ℕ, ◌∙◌, ◌∷◌, ◌≡◌, ◌≢◌}
use Rattle.std.specs.Str.{bytes_eq}
use Rattle.std.proofs.lemmas.Slice.Eq.{bytes_eq-Decides}
use Rattle.g_name.specs.Names.{IsName, Name, name_text, path_name}
use Rattle.g_look_program.specs.Words.{AskNothing, IsAsked, words_of}
use Rattle.g_look_program.specs.declared.words.Asked.{Asked}
use Rattle.g_look_program.specs.declared.words.Asked.TheVariants as asked

one_word : (word of alone : List ℕ) → ◌≡◌ {A = List (List ℕ)} (word ∷ of ∷ []) (alone ∷ []) → ⊥
one_word word of alone is = let bad : ⊥ = cc in bad

parts_of : (word of word' of' : List ℕ) → ◌≡◌ {A = List (List ℕ)} (word ∷ of ∷ []) (word' ∷ of' ∷ []) → (word ≡ word') × (of ≡ of')
parts_of word of word' of' e = (cc, cc)

show_list : codes "show" ≢ codes "list"
show_list is = let first : 115 ≡ 108 = ap (λ (l : List ℕ). get_or l 0 0) is in omega (arith, first)

-- `show` and a text that is no path
pub shows_nothing : (word of : List ℕ) (same : Bool) → same ≡ bytes_eq word (codes "show") → same ≡ true → ((n : Name) → IsName n → of ≡ name_text n → ⊥)
    → AskNothing (word ∷ of ∷ [])
shows_nothing word of same is true_is none asked.Check good e = one_word word of (codes "check") e
shows_nothing word of same is true_is none asked.Dumps good e = one_word word of (codes "dumps") e
shows_nothing word of same is true_is none asked.Restorable good e = one_word word of (codes "restorable") e
shows_nothing word of same is true_is none asked.Seal good e = one_word word of (codes "seal") e
shows_nothing word of same is true_is none (asked.List None) good e = one_word word of (codes "list") e
shows_nothing word of same is true_is none (asked.List (Some user)) good e =
    let show : word ≡ codes "show" = (bytes_eq-Decides word (codes "show")).0 (sym is ∙ true_is) in
    show_list (sym show ∙ (parts_of word of (codes "list") (58 ∷ user) e).0)
shows_nothing word of same is true_is none (asked.Show path) good e = none (path_name path) good (parts_of word of (codes "show") (name_text (path_name path)) e).1
