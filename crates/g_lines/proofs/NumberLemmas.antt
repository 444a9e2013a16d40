-- Decimal numbers in texts.
-- serves: number, crates above
use Rattle.std.proofs.Common.{Err, List, true, le-leb, leb-true, None, Ok, Option, Result, Some, ap, arith, get_or, length, refl, subst, suc, sym, zero, ℕ, ◌<◌, ◌≢◌, ◌≤◌, ◌^◌, ◌∙◌, ◌≡◌}
use Rattle.std.specs.Fmt.{decimal}
use Rattle.std.specs.Str.{IsUtf8}
use Rattle.std.specs.Str.Parse.{AllDigits, ParsesUnsigned, digits_value}
use Rattle.std.proofs.lemmas.Fmt.{IsAscii-decimal, decimal-digits_value, decimal_digit, decimal_is_IsNumeral, decimal_nonempty, first_decimal, parse-decimal}
use Rattle.std.proofs.lemmas.Result.{OkIff-at_ok}
use Rattle.std.proofs.lemmas.Str.{IsUtf8-from_ascii}
use Rattle.std.proofs.lemmas.Str.Parse.{IsNumeralModel, digit_at, numerals_by_value, parse_plain, tells_digits}
use Rattle.std.proofs.lemmas.Bool.{and_from, and_parts}
use Rattle.std.proofs.lemmas.Option.{cond_some}
use Rattle.std.proofs.lemmas.Slice.Eq.{bytes_eq-Decides}
use Rattle.std.specs.Prelude.{Bool, if◌then◌else◌, nat_le, ◌&&◌}
use Rattle.g_name.specs.Order.{same_text}
use Rattle.g_lines.specs.Numbers.{BeginsPlainly, number_read}

-- equal texts
pub same_text-refl : (t : List ℕ) → same_text t t ≡ true
same_text-refl t = (bytes_eq-Decides t t).1 refl

pub same_text-eq : (a b : List ℕ) → same_text a b ≡ true → a ≡ b
same_text-eq a b is = (bytes_eq-Decides a b).0 is

-- the number read is the number written
pub number-sound : (most n : ℕ) (digits : List ℕ) → number_read most digits ≡ Some n → (n ≤ most) × (digits ≡ decimal n)
number-sound most n digits is =
    let v = digits_value 10 digits in
    let parts = cond_some (nat_le v most && same_text (decimal v) digits) v n is in
    let tests = and_parts (nat_le v most) (same_text (decimal v) digits) parts.0 in
    let few : v ≤ most = leb-true v most tests.0 in
    (subst (λ (k : ℕ). k ≤ most) parts.1 few, sym (same_text-eq (decimal v) digits tests.1) ∙ ap decimal parts.1)

number_with : (most n v : ℕ) → v ≡ n → n ≤ most → (if nat_le v most && same_text (decimal v) (decimal n) then Some v else None) ≡ Some n
number_with most n v same few =
    let P : ℕ → Type 0 = λ k. (if nat_le k most && same_text (decimal k) (decimal n) then Some k else None) ≡ Some n in
    let all : (nat_le n most && same_text (decimal n) (decimal n)) ≡ true = and_from _ _ (le-leb n most few) (same_text-refl (decimal n)) in
    subst P (sym same) (ap (λ (b : Bool). let none : Option ℕ = None in if b then Some n else none) all)

pub number-complete : (most n : ℕ) (digits : List ℕ) → most < 2 ^ 64 → (n ≤ most) × (digits ≡ decimal n) → number_read most digits ≡ Some n
number-complete most n digits fits is =
    let small : n < 2 ^ 64 = omega (arith, is.0) in
    ap (number_read most) is.1 ∙ number_with most n (digits_value 10 (decimal n)) (decimal_is_IsNumeral n small).1 is.0

-- the bytes are no number up to the most
abbrev pub IsNoNumber : ℕ → List ℕ → Type 0
IsNoNumber most digits = (n : ℕ) → n ≤ most → digits ≢ decimal n

own : IsNumeralModel (AllDigits 10) (digits_value 10)
own = numerals_by_value (AllDigits 10) tells_digits

none_read : (most : ℕ) (digits : List ℕ) (o : Option ℕ) → number_read most digits ≡ o → IsNoNumber most digits → None ≡ number_read most digits
none_read most digits None read not_one = sym read
none_read most digits (Some n) read not_one = let parts = number-sound most n digits read in absurd (not_one n parts.0 parts.1)

-- the first digit
module _ (most : ℕ) (small : most < 2 ^ 64) (digits : List ℕ) where
  fits_word : (n : ℕ) → n ≤ most → n < 2 ^ 64
  fits_word n few = omega (arith, few, small)

  alone : (n : ℕ) → n ≤ most → get_or (decimal n) 0 0 ≡ 48 → length (decimal n) ≡ 1
  alone zero few first = ap length (decimal_digit 0 (omega arith))
  alone (suc n) few first =
      let positive : 0 < suc n = omega arith in
      let above = first_decimal (suc n) positive (fits_word (suc n) few) in
      absurd (omega (arith, above, first))

  BeginsPlainly-decimal : (n : ℕ) → n ≤ most → BeginsPlainly (decimal n)
  BeginsPlainly-decimal n few =
      let fits = fits_word n few in
      let some = decimal_nonempty n fits in
      let first = digit_at (decimal n) 0 (decimal_is_IsNumeral n fits).0.1 some in
      record { some = omega (arith, some); least = first.0; most = first.1; alone = alone n few }

  pub number-plain : (BeginsPlainly digits → ⊥) → None ≡ number_read most digits
  number-plain not_plain =
      none_read most digits (number_read most digits) refl (λ n few e. not_plain (subst BeginsPlainly (sym e) (BeginsPlainly-decimal n few)))

  pub number-utf8 : (IsUtf8 digits → ⊥) → None ≡ number_read most digits
  number-utf8 not_text =
      none_read most digits (number_read most digits) refl
      (λ n few e. not_text (subst IsUtf8 (sym e) (IsUtf8-from_ascii (decimal n) (IsAscii-decimal n (fits_word n few)))))

  pub number-parse : {E : Type 0} (text : List ℕ) (r : Result ℕ E) (e : E) → text ≡ digits → ParsesUnsigned 64 10 text r → r ≡ Err e → None ≡ number_read most digits
  number-parse text r e same parses failed =
      none_read most digits (number_read most digits) refl
      (λ n few is. let ok = parse-decimal 64 n text r (fits_word n few) (fits_word n few) (same ∙ is) parses in absurd cc)

  pub number-found : {E : Type 0} (text : List ℕ) (r : Result ℕ E) (n : ℕ) → text ≡ digits → ParsesUnsigned 64 10 text r → r ≡ Ok n → BeginsPlainly digits → n ≤ most → Some n ≡ number_read most digits
  number-found text r n same parses is plain few =
      let begins : BeginsPlainly text = subst BeginsPlainly (sym same) plain in
      let read = OkIff-at_ok r _ _ n (parse_plain own 64 text r parses (λ e. absurd (omega (arith, e, begins.least)))) is in
      let printed : decimal n ≡ text = ap decimal read.1 ∙ decimal-digits_value own text read.0.0 read.0.1 begins.alone read.0.2 in
      sym (number-complete most n digits small (few, sym same ∙ sym printed))
