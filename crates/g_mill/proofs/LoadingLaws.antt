-- Invariants of the loop over the lines of words.
-- serves: read_words
use Rattle.std.proofs.Common.{◌≡◌, ℕ, ◌+◌, ◌≤◌, List, length, map, ◌++◌}
use Rattle.std.specs.List.{prefix_len}
use Rattle.g_mill.specs.Loading.{octal, is_word_line}

-- of all lines, those before `rest` are words and have been read
pub record ReadSoFar (size : ℕ) (all : List (List ℕ)) (words : List ℕ) (rest : List (List ℕ)) : Type 0 where
  pub values : map octal all ≡ words ++ map octal rest
  pub good : prefix_len is_word_line all ≡ length words + prefix_len is_word_line rest
  pub count : length all ≡ length words + length rest
  pub room : length words ≤ size
