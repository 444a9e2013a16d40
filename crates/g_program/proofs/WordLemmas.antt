-- The words of a session and of a check.
-- serves: answer (check, known), check_or_run (known), check_words, console_words
use Rattle.std.proofs.Common.{Bool, List, [], ap, arith, codes, get_or, length, refl, sym, true, ℕ, ◌<◌, ◌∙◌, ◌∷◌, ◌≡◌, ◌≤◌, inl, inr}
use Rattle.std.specs.Borrow.{Bor}
use Rattle.std.specs.Str.{bytes_eq}
use Rattle.std.proofs.lemmas.Slice.Eq.{bytes_eq-Decides}
use Rattle.g_demo.specs.Words.{texts_of}
use Rattle.g_program.specs.Exit.{IsCheck, IsConsole}
use Rattle.g_run.specs.Input.{IsRun}

one_word : (words : List (Bor (List ℕ))) (d : Bor (List ℕ)) → 1 ≤ length words → length words < 2 → texts_of words ≡ (get_or words 0 d).now ∷ []
one_word [] d least most = absurd (omega arith)
one_word (word ∷ []) d least most = refl
one_word (word ∷ next ∷ words) d least most = absurd (omega arith)

two_words : (words : List (Bor (List ℕ))) (d : Bor (List ℕ)) → 2 ≤ length words → length words < 3 → texts_of words ≡ (get_or words 0 d).now ∷ (get_or words 1 d).now ∷ []
two_words [] d least most = absurd (omega arith)
two_words (word ∷ []) d least most = absurd (omega arith)
two_words (word ∷ log ∷ []) d least most = refl
two_words (word ∷ log ∷ next ∷ words) d least most = absurd (omega arith)

pub is_one : (same : Bool) (words : List (Bor (List ℕ))) (d : Bor (List ℕ)) → 1 ≤ length words → length words < 2 → same ≡ bytes_eq (get_or words 0 d).now (codes "console") → same ≡ true → IsConsole words
is_one same words d least most tested is = inl (one_word words d least most ∙ ap (λ (w : List ℕ). w ∷ []) ((bytes_eq-Decides (get_or words 0 d).now (codes "console")).0 (sym tested ∙ is)))

pub is_two : (same : Bool) (words : List (Bor (List ℕ))) (d : Bor (List ℕ)) → 2 ≤ length words → length words < 3 → same ≡ bytes_eq (get_or words 0 d).now (codes "console") → same ≡ true → IsConsole words
is_two same words d least most tested is =
    inr ((get_or words 1 d).now, two_words words d least most ∙ ap (λ (w : List ℕ). w ∷ (get_or words 1 d).now ∷ []) ((bytes_eq-Decides (get_or words 0 d).now (codes "console")).0 (sym tested ∙ is)))

pub is_check : (same : Bool) (words : List (Bor (List ℕ))) (d : Bor (List ℕ)) → 1 ≤ length words → length words < 2 → same ≡ bytes_eq (get_or words 0 d).now (codes "check") → same ≡ true → IsCheck words
is_check same words d least most tested is = one_word words d least most ∙ ap (λ (w : List ℕ). w ∷ []) ((bytes_eq-Decides (get_or words 0 d).now (codes "check")).0 (sym tested ∙ is))

-- the words of a session, of a check and of a run differ: the second bytes of their first words do
abbrev second_byte : List (List ℕ) → ℕ
second_byte ((first ∷ second ∷ bytes) ∷ words) = second
second_byte words = 0

no_run : (words others : List (List ℕ)) → words ≡ codes "console" ∷ others → words ≡ codes "run" ∷ [] → ⊥
no_run words others is run = let same : (let n : ℕ = 111 in n ≡ 117) = ap second_byte (sym is ∙ run) in omega (arith, same)

no_check : (words others : List (List ℕ)) → words ≡ codes "console" ∷ others → words ≡ codes "check" ∷ [] → ⊥
no_check words others is check = let same : (let n : ℕ = 111 in n ≡ 104) = ap second_byte (sym is ∙ check) in omega (arith, same)

pub not_run : (words : List (Bor (List ℕ))) → IsConsole words → IsRun words → ⊥
not_run words (inl is) run = no_run (texts_of words) [] is run
not_run words (inr (log, is)) run = no_run (texts_of words) (log ∷ []) is run

pub not_check : (words : List (Bor (List ℕ))) → IsConsole words → IsCheck words → ⊥
not_check words (inl is) check = no_check (texts_of words) [] is check
not_check words (inr (log, is)) check = no_check (texts_of words) (log ∷ []) is check

pub check_not_run : (words : List (Bor (List ℕ))) → IsCheck words → IsRun words → ⊥
check_not_run words check run = let same : (let n : ℕ = 104 in n ≡ 117) = ap second_byte (sym check ∙ run) in omega (arith, same)
