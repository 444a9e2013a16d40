-- A sink that stores only the summary of its text, as contracts see it: the text, and the number of failed calls.
use Rattle.std.specs.Prelude.{ℕ, List}

-- The text written so far, and the number of failed calls.
pub record SummarySinkView : Type 0 where
  pub text : List ℕ
  pub faults : ℕ
