-- The words of the command line, and the numbers in them.
-- serves: asked_by, demo_by, number_in, words_have_one_reading, crates above
use Rattle.std.proofs.Common.{Bool, List, None, Some, [], ap, arith, codes, get_or, length, refl, subst, suc, sym, true, zero, ℕ, ◌<◌, ◌∙◌, ◌∷◌, ◌≡◌, ◌≢◌, ◌≤◌, ◌⊎◌, ◌^◌, inl, inr}
use Rattle.std.specs.Borrow.{Bor}
use Rattle.std.specs.Fmt.{decimal}
use Rattle.std.specs.Str.{bytes_eq}
use Rattle.std.proofs.lemmas.Fmt.{decimal_injective}
use Rattle.std.proofs.lemmas.Slice.Eq.{bytes_eq-Decides}
use Rattle.g_lines.proofs.NumberLemmas.{number-complete, number-sound}
use Rattle.g_lines.specs.Numbers.{number_read}
use Rattle.g_demo.specs.Words.{IsAsked, IsDemonstration, demo_words, texts_of, words_of}
use Rattle.g_demo.specs.declared.demonstration.Demonstration.{Demonstration}
use Rattle.g_demo.specs.declared.words.Asked.{Asked}
use Rattle.g_demo.specs.declared.words.Asked.TheVariants as asked

-- the digits are no number below 2^32
abbrev pub IsNoNumber : List ℕ → Type 0
IsNoNumber digits = (n : ℕ) → n < 2 ^ 32 → digits ≢ decimal n

fits : (n : ℕ) → n < 2 ^ 32 → n < 2 ^ 64
fits n small = omega arith

pub no_number : (digits : List ℕ) → number_read 4294967295 digits ≡ None → IsNoNumber digits
no_number digits none n small written =
    let few : n ≤ 4294967295 = omega (arith, small) in
    let read = number-complete 4294967295 n digits (omega arith) (few, written) in
    cc

pub number_found : (digits : List ℕ) (n : ℕ) → number_read 4294967295 digits ≡ Some n → (n < 2 ^ 32) × (digits ≡ decimal n)
number_found digits n read =
    let is = number-sound 4294967295 n digits read in
    (omega (arith, is.0), is.1)

-- three words that request no demonstration
abbrev pub IsNoDemo : List ℕ → List ℕ → List ℕ → Type 0
IsNoDemo word number rounds = (demo : Demonstration) → IsDemonstration demo → (word ∷ number ∷ rounds ∷ []) ≢ demo_words demo

parts_of : (word number rounds word' number' rounds' : List ℕ) → ◌≡◌ {A = List (List ℕ)} (word ∷ number ∷ rounds ∷ []) (word' ∷ number' ∷ rounds' ∷ [])
    → (word ≡ word') × (number ≡ number') × (rounds ≡ rounds')
parts_of word number rounds word' number' rounds' e = (cc, cc, cc)

small_rounds : (rounds : ℕ) → rounds ≤ 1000 → rounds < 2 ^ 32
small_rounds rounds most = omega arith

pub no_demo-outside : (word number rounds : List ℕ) (n : ℕ) → n < 2 ^ 32 → rounds ≡ decimal n → (n ≡ 0) ⊎ (1000 < n) → IsNoDemo word number rounds
no_demo-outside word number rounds n small written outside demo is e =
    let same : decimal n ≡ decimal demo.rounds = sym written ∙ (parts_of word number rounds (codes "demo") (decimal demo.number) (decimal demo.rounds) e).2 in
    let one : n ≡ demo.rounds = decimal_injective n demo.rounds (fits n small) (fits demo.rounds (small_rounds demo.rounds is.most)) same in
    let least : 1 ≤ demo.rounds = is.least in
    let most : demo.rounds ≤ 1000 = is.most in
    elim outside [ inl zero_is ↦ omega (arith, zero_is, one, least) | inr large ↦ omega (arith, large, one, most) ]

-- the list of words
one_word : (words : List (Bor (List ℕ))) (d : Bor (List ℕ)) → 1 ≤ length words → length words < 2 → texts_of words ≡ (get_or words 0 d).now ∷ []
one_word [] d least most = absurd (omega arith)
one_word (word ∷ []) d least most = refl
one_word (word ∷ next ∷ words) d least most = absurd (omega arith)

pub run_word : (same : Bool) (words : List (Bor (List ℕ))) (d : Bor (List ℕ)) → 1 ≤ length words → length words < 2 → same ≡ bytes_eq (get_or words 0 d).now (codes "run") → same ≡ true → texts_of words ≡ codes "run" ∷ []
run_word same words d least most tested is =
    one_word words d least most ∙ ap (λ (w : List ℕ). w ∷ []) ((bytes_eq-Decides (get_or words 0 d).now (codes "run")).0 (sym tested ∙ is))

-- words request at most one thing
pub one_reading : (one other : Asked) → IsAsked one → IsAsked other → words_of one ≡ words_of other → one ≡ other
one_reading asked.Run asked.Run is too e = refl
one_reading asked.Run (asked.Demo demo) is too e = absurd cc
one_reading (asked.Demo demo) asked.Run is too e = absurd cc
one_reading (asked.Demo one) (asked.Demo other) is too e =
    let parts = parts_of (codes "demo") (decimal one.number) (decimal one.rounds) (codes "demo") (decimal other.number) (decimal other.rounds) e in
    let number = decimal_injective one.number other.number (fits one.number is.number) (fits other.number too.number) parts.1 in
    let rounds = decimal_injective one.rounds other.rounds (fits one.rounds (small_rounds one.rounds is.most)) (fits other.rounds (small_rounds other.rounds too.most)) parts.2 in
    ap (λ (n : ℕ). asked.Demo (record { number = n; rounds = one.rounds })) number ∙ ap (λ (n : ℕ). asked.Demo (record { number = other.number; rounds = n })) rounds
