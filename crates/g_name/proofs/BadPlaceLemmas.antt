-- How to establish the place where a text leaves a grammar.
-- serves: read_path, PathLemmas, WordLemmas, crates above
use Rattle.std.proofs.Common.{◌≡◌, ℕ, ◌+◌, ◌-◌, ◌<◌, ◌≤◌, ◌⊎◌, List, [], ◌∷◌, ◌++◌, length, take, drop, get_or, Option, Some, None, refl, ap, ◌∙◌, subst, inl, inr, arith, append_assoc, suc}
use Rattle.std.proofs.Math.Seq.{drop-cons, take-add}
use Rattle.std.specs.Prelude.{is_some, option_and_then, true}
use Rattle.g_name.specs.BadPlace.{Begins, IsBadPlace}
use Rattle.g_name.specs.Machine.{run}

-- a longer front is the front up to the place, the byte there, and more
abbrev pub more_behind : List ℕ → ℕ → ℕ → List ℕ
more_behind text place k = take (k - suc place) (drop (suc place) text)

pub longer_front : (text : List ℕ) (place k : ℕ) → place < k → k ≤ length text → take k text ≡ take place text ++ (get_or text place 0 ∷ more_behind text place k)
longer_front text place k past inside =
    let parts : k ≡ place + suc (k - suc place) = omega arith in
    let there : place < length text = omega arith in
    ap (λ (n : ℕ). take n text) parts ∙ take-add place (suc (k - suc place)) text
    ∙ ap (λ (rest : List ℕ). take place text ++ take (suc (k - suc place)) rest) (drop-cons text place 0 there)

-- No text of the grammar has this prefix followed by the byte at the place.
abbrev Stuck : (List ℕ → Type 0) → List ℕ → ℕ → Type 0
Stuck IsIn text place = (more : List ℕ) → IsIn (take place text ++ (get_or text place 0 ∷ more)) → ⊥

no_longer : (IsIn : List ℕ → Type 0) (text : List ℕ) (place k : ℕ) → (place ≡ length text) ⊎ Stuck IsIn text place → place < k → k ≤ length text → Begins IsIn (take k text) → ⊥
no_longer IsIn text place k (inl ended) past inside goes_on = absurd (omega arith)
no_longer IsIn text place k (inr stuck) past inside goes_on =
    stuck (more_behind text place k ++ goes_on.0)
    (subst IsIn (ap (λ (front : List ℕ). front ++ goes_on.0) (longer_front text place k past inside) ∙ append_assoc (take place text) (get_or text place 0 ∷ more_behind text place k) goes_on.0) goes_on.1)

-- A place is the bad place if the prefix up to it begins a text of the grammar and no text has it followed by the next
-- byte.
pub bad_place_at : (IsIn : List ℕ → Type 0) (text : List ℕ) (place : ℕ) → place ≤ length text → Begins IsIn (take place text) → (place ≡ length text) ⊎ Stuck IsIn text place → IsBadPlace IsIn text place
bad_place_at IsIn text place within begins end = record {
  within = within;
  begins = begins;
  longest = λ k past inside goes_on. no_longer IsIn text place k end past inside goes_on;
}

module _ {S : Type 0} (step : ℕ → S → Option S) where
  pub run-append : (state : Option S) (xs ys : List ℕ) → run step state (xs ++ ys) ≡ run step (run step state xs) ys
  run-append state [] ys = refl
  run-append state (x ∷ xs) ys = run-append (option_and_then (step x) state) xs ys

  pub run-None : (xs : List ℕ) → run step None xs ≡ None
  run-None [] = refl
  run-None (x ∷ xs) = run-None xs

  -- one byte more
  pub run-more : (state : Option S) (xs : List ℕ) (x : ℕ) (s : S) → run step state xs ≡ Some s → run step state (xs ++ x ∷ []) ≡ step x s
  run-more state xs x s here = run-append state xs (x ∷ []) ∙ ap (λ (o : Option S). run step o (x ∷ [])) here

  -- What a reader refuses, it refuses with any further bytes too.
  pub run-stuck : (state : Option S) (xs : List ℕ) (x : ℕ) (ys : List ℕ) (s : S) → run step state xs ≡ Some s → step x s ≡ None → run step state (xs ++ (x ∷ ys)) ≡ None
  run-stuck state xs x ys s here stuck =
      run-append state xs (x ∷ ys) ∙ ap (λ (o : Option S). run step o (x ∷ ys)) here ∙ ap (λ (o : Option S). run step o ys) stuck ∙ run-None ys

  -- The place where a reader of the grammar stops is the bad place.
  pub wrong_at : (start : S) (IsIn : List ℕ → Type 0)
      → ((text : List ℕ) → IsIn text → is_some (run step (Some start) text) ≡ true)
      → (text : List ℕ) (place : ℕ) (s : S) → place ≤ length text → run step (Some start) (take place text) ≡ Some s
      → Begins IsIn (take place text)
      → ((place ≡ length text) ⊎ (step (get_or text place 0) s ≡ None))
      → IsBadPlace IsIn text place
  wrong_at start IsIn reads text place s within here begins (inl ended) = bad_place_at IsIn text place within begins (inl ended)
  wrong_at start IsIn reads text place s within here begins (inr stuck) =
      bad_place_at IsIn text place within begins
      (inr (λ more is_in. let there = reads (take place text ++ (get_or text place 0 ∷ more)) is_in in
      let gone = ap (λ (o : Option S). is_some o) (run-stuck (Some start) (take place text) (get_or text place 0) more s here stuck) in cc))
