-- Conditions and their texts.
use Rattle.std.specs.List.{list_all}
use Rattle.std.specs.Prelude.{Bool, List, [], codes, false, if◌then◌else◌, nat_le, not, true, ℕ, ◌&&◌, ◌++◌, ◌==◌, ◌∷◌, ◌≡◌}
use Rattle.g_lang.specs.Words.{is_printed}
use Rattle.g_lang.specs.declared.line.Cond.{Cond}
use Rattle.g_lang.specs.declared.line.Test.{Test}
use Rattle.g_lang.specs.declared.line.Test.TheVariants.{Absent, CommandError, Deleted, Equals, Failed, Halted, Present}
use Rattle.g_name.specs.Order.{same_text}

-- The text has only printed bytes, and no brackets.
abbrev pub is_plain_text : List ℕ → Bool
is_plain_text text = list_all (λ c. is_printed c && not (c == 40) && not (c == 41)) text

-- The byte is a parameter's letter, A to X.
abbrev pub is_param_letter : ℕ → Bool
is_param_letter c = nat_le 65 c && nat_le c 88

-- The byte is a parameter's letter.
abbrev pub IsLetter : ℕ → Type 0
IsLetter letter = is_param_letter letter ≡ true

-- The texts of a test are plain, and its letter is a parameter's.
abbrev pub IsTest : Test → Type 0
IsTest CommandError = Unit {0}
IsTest Failed = Unit {0}
IsTest (Halted text) = is_plain_text text ≡ true
IsTest (Deleted text) = is_plain_text text ≡ true
IsTest (Present letter) = IsLetter letter
IsTest (Absent letter) = IsLetter letter
IsTest (Equals letter text) = IsLetter letter × (is_plain_text text ≡ true)

-- The text of a test.
abbrev pub test_text : Test → List ℕ
test_text CommandError = codes "COMMAND ERROR"
test_text Failed = codes "FAILED"
test_text (Halted text) = codes "HALTED(" ++ (text ++ codes ")")
test_text (Deleted text) = codes "DELETED(" ++ (text ++ codes ")")
test_text (Present letter) = codes "PRESENT(%" ++ (letter ∷ codes ")")
test_text (Absent letter) = codes "ABSENT(%" ++ (letter ∷ codes ")")
test_text (Equals letter text) = codes "STRING(%" ++ (letter ∷ codes ")=(" ++ (text ++ codes ")"))

-- The test of a condition is well-formed.
abbrev pub IsCond : Cond → Type 0
IsCond cond = IsTest cond.test

-- The text of a condition: NOT, if it is negated, and its test.
abbrev pub cond_text : Cond → List ℕ
cond_text cond = (if cond.negated then codes "NOT " else []) ++ test_text cond.test

-- Two tests are the same: of the same kind, with the same letter and the same text.
abbrev pub same_test : Test → Test → Bool
same_test CommandError CommandError = true
same_test Failed Failed = true
same_test (Halted text) (Halted other) = same_text text other
same_test (Deleted text) (Deleted other) = same_text text other
same_test (Present letter) (Present other) = letter == other
same_test (Absent letter) (Absent other) = letter == other
same_test (Equals letter text) (Equals letter' text') = letter == letter' && same_text text text'
same_test test other = false

-- Two conditions are the same: both are negated or neither is, and their tests are the same.
abbrev pub same_cond : Cond → Cond → Bool
same_cond a b = (if a.negated then b.negated else not b.negated) && same_test a.test b.test
