-- The words of the command line, and what they request.
use Rattle.std.specs.Prelude.{List, codes, map, [], ℕ, ◌<◌, ◌^◌, ◌≢◌, ◌≤◌, ◌∷◌}
use Rattle.std.specs.Borrow.{Bor}
use Rattle.std.specs.Fmt.{decimal}
use Rattle.g_demo.specs.declared.demonstration.Demonstration.{Demonstration}
use Rattle.g_demo.specs.declared.words.Asked.{Asked}
use Rattle.g_demo.specs.declared.words.Asked.TheVariants as asked

-- the bytes of the words
abbrev pub texts_of : List (Bor (List ℕ)) → List (List ℕ)
texts_of words = map (λ word. word.now) words

-- A demonstration that may be requested.
pub record IsDemonstration (demo : Demonstration) : Type 0 where
  pub number : demo.number < 2 ^ 32
  pub least : 1 ≤ demo.rounds
  pub most : demo.rounds ≤ 1000

-- The request is allowed.
abbrev pub IsAsked : Asked → Type 0
IsAsked asked.Run = Unit {0}
IsAsked (asked.Demo demo) = IsDemonstration demo

-- `demo NUMBER N`
abbrev pub demo_words : Demonstration → List (List ℕ)
demo_words demo = codes "demo" ∷ decimal demo.number ∷ decimal demo.rounds ∷ []

-- THE WORDS that request it.
abbrev pub words_of : Asked → List (List ℕ)
words_of asked.Run = codes "run" ∷ []
words_of (asked.Demo demo) = demo_words demo

-- The words request nothing.
abbrev pub AskNothing : List (List ℕ) → Type 0
AskNothing words = (asked : Asked) → IsAsked asked → words ≢ words_of asked
