-- The first line of a monitoring file is short.
-- serves: first_line (short)
use Rattle.std.proofs.Common.{◌≡◌, ℕ, ◌^◌, ◌<◌, ◌≤◌, true, ◌&&◌, nat_le, List, [], ◌∷◌, ◌++◌, length, length-append, decimal, codes, lit<, lit≤, lt_of_lt_of_le, arith}
use Rattle.std.specs.List.{list_all}
use Rattle.std.proofs.lemmas.Bool.{and_parts, false≢true, leb-true}
use Rattle.std.proofs.lemmas.Fmt.{length-decimal-le}
use Rattle.g_lines.specs.Lines.{ended}
use Rattle.g_monitor.specs.JobLines.{header}
use Rattle.g_name.specs.Grammar.{is_letter, is_name_char, is_word}

-- a name has up to 12 characters
pub word_short : (word : List ℕ) → is_word word ≡ true → length word ≤ 12
word_short [] is = absurd (false≢true is)
word_short (first ∷ others) is =
    let front = and_parts (is_letter first && nat_le (length others) 11) (list_all is_name_char others) is in
    let short : length others ≤ 11 = leb-true (length others) 11 (and_parts (is_letter first) (nat_le (length others) 11) front.0).1 in omega arith

parts_short : (a number b name c user : List ℕ) → length a ≤ 4 → length number ≤ 20 → length b ≤ 1 → length name ≤ 12 → length c ≤ 2 → length user ≤ 12
    → length ((((((a ++ number) ++ b) ++ name) ++ c) ++ user) ++ 10 ∷ []) ≤ 1048576
parts_short a number b name c user la ln lb lm lc lu =
    omega (arith, length-append a number, length-append (a ++ number) b, length-append ((a ++ number) ++ b) name, length-append (((a ++ number) ++ b) ++ name) c, length-append ((((a ++ number) ++ b) ++ name) ++ c) user, length-append (((((a ++ number) ++ b) ++ name) ++ c) ++ user) (10 ∷ []))

pub header_short : (number : ℕ) (name user : List ℕ) → number < 2 ^ 64 → length name ≤ 12 → length user ≤ 12 → length (ended (header number name user)) ≤ 1048576
header_short number name user small short_name short_user =
    let few : length (decimal number) ≤ 20 = length-decimal-le 20 number (lit< tt) (lt_of_lt_of_le small (lit≤ tt)) small in
    parts_short (codes "JOB ") (decimal number) (codes " ") name (codes " :") user (lit≤ tt) few (lit≤ tt) short_name (lit≤ tt) short_user
