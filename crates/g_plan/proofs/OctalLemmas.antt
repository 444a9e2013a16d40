-- Octal digits, written and read back.
-- serves: RoundLemmas
use Rattle.std.proofs.Common.{◌≡◌, ◌≢◌, ◌≤◌, ◌<◌, ◌+◌, ◌-◌, ◌*◌, ◌/◌, ◌%◌, ◌^◌, ◌∙◌, ℕ, suc, zero, List, [], ◌∷◌, ◌++◌, Bool, true, false, ap, arith, fold, length, map, refl, subst, sym, All, min}
use Rattle.std.specs.Prelude.{◌&&◌, ◌==◌, nat_le, nat_lt}
use Rattle.std.specs.List.{AllByRecursion, list_all, prefix_len}
use Rattle.std.proofs.lemmas.Bool.{and_from, eq-eqb, le-leb, lt-ltb}
use Rattle.std.proofs.lemmas.List.Elements.{All-from_recursion}
use Rattle.std.proofs.Math.Nat.{div-add-mod, div-div-eq-div-mul, mod-eq_of_lt, mod-lt, mod-one, pow-suc}
use Rattle.std.proofs.lemmas.Nat.{mod-mul-add}
use Rattle.g_lines.specs.Lines.{lines_of, onto_first, text_of}
use Rattle.g_lines.proofs.LineLemmas.{text-lines}
use Rattle.g_mill.specs.Lines.{before_lines, lines}
use Rattle.g_mill.specs.Loading.{is_octal_digit, is_word_line, octal}
use Rattle.g_word.specs.Octal.{octal_digits}

digit_small : (k : ℕ) → k % 8 < 8
digit_small k = mod-lt k (omega arith)

length-octal : (n w : ℕ) → length (octal_digits n w) ≡ n
unfolding octal_digits
length-octal zero w = refl
length-octal (suc n) w = ap suc (length-octal n w)

digit_is : (d : ℕ) → d < 8 → is_octal_digit (48 + d) ≡ true
digit_is d few = and_from (nat_le 48 (48 + d)) (nat_lt (48 + d) 56) (le-leb 48 (48 + d) (omega arith)) (lt-ltb (48 + d) 56 (omega (arith, few)))

all_octal : (n w : ℕ) → list_all is_octal_digit (octal_digits n w) ≡ true
unfolding octal_digits
all_octal zero w = refl
all_octal (suc n) w =
    and_from (is_octal_digit (48 + w / 8 ^ n % 8)) (list_all is_octal_digit (octal_digits n w)) (digit_is (w / 8 ^ n % 8) (digit_small (w / 8 ^ n))) (all_octal n w)

pub word_line : (w : ℕ) → is_word_line (octal_digits 8 w) ≡ true
word_line w =
    and_from (length (octal_digits 8 w) == 8) (list_all is_octal_digit (octal_digits 8 w)) (eq-eqb (length (octal_digits 8 w)) 8 (length-octal 8 w)) (all_octal 8 w)

-- the remainder after one digit more
split_sum : (p q2 d r : ℕ) → p * (8 * q2 + d) + r ≡ q2 * (p * 8) + (d * p + r)
split_sum p q2 d r = omega arith

split_digit : (p q2 d r q w : ℕ) → p * q + r ≡ w → 8 * q2 + d ≡ q → w ≡ q2 * (p * 8) + (d * p + r)
split_digit p q2 d r q w whole part = sym whole ∙ (ap (λ (k : ℕ). p * k + r) (sym part) ∙ split_sum p q2 d r)

below_next : (p d r : ℕ) → d < 8 → r < p → d * p + r < p * 8
below_next p zero r few less = omega (arith, less)
below_next p (suc zero) r few less = omega (arith, less)
below_next p (suc (suc zero)) r few less = omega (arith, less)
below_next p (suc (suc (suc zero))) r few less = omega (arith, less)
below_next p (suc (suc (suc (suc zero)))) r few less = omega (arith, less)
below_next p (suc (suc (suc (suc (suc zero))))) r few less = omega (arith, less)
below_next p (suc (suc (suc (suc (suc (suc zero)))))) r few less = omega (arith, less)
below_next p (suc (suc (suc (suc (suc (suc (suc zero))))))) r few less = omega (arith, less)
below_next p (suc (suc (suc (suc (suc (suc (suc (suc d)))))))) r few less = absurd (omega (arith, few))

mod_next : (p w : ℕ) → 0 < p → w % (p * 8) ≡ w / p % 8 * p + w % p
mod_next p w some =
    let q = w / p in
    let less = below_next p (q % 8) (w % p) (digit_small q) (mod-lt w some) in
    ap (λ (k : ℕ). k % (p * 8)) (split_digit p (q / 8) (q % 8) (w % p) q w (div-add-mod w p) (div-add-mod q 8))
    ∙ mod-mul-add (q / 8) (p * 8) (q % 8 * p + w % p) less

pow_some : (n : ℕ) → 0 < 8 ^ n
pow_some zero = omega arith
pow_some (suc n) = let more = pow_some n in let is = pow-suc 8 n in omega (arith, more, is)

abbrev folded : ℕ → List ℕ → ℕ
folded acc digits = fold (λ number digit. 8 * number + (digit - 48)) acc digits

next_sum : (p acc d r : ℕ) → p * (8 * acc + d) + r ≡ p * 8 * acc + (d * p + r)
next_sum p acc d r = omega arith

octal_from : (n w acc : ℕ) → folded acc (octal_digits n w) ≡ 8 ^ n * acc + w % 8 ^ n
unfolding octal_digits
octal_from zero w acc = let none = mod-one w in omega (arith, none)
octal_from (suc n) w acc =
    let p = 8 ^ n in
    let d = w / 8 ^ n % 8 in
    let rest = octal_from n w (8 * acc + ((48 + d) - 48)) in
    let digit : (48 + d) - 48 ≡ d = omega arith in
    let more = mod_next p w (pow_some n) in
    let power = pow-suc 8 n in
    rest ∙ (ap (λ (k : ℕ). p * (8 * acc + k) + w % p) digit ∙ (next_sum p acc d (w % p) ∙ (ap (λ (k : ℕ). p * 8 * acc + k) (sym more) ∙ ap (λ (k : ℕ). k * acc + w % k) (sym power))))

nothing_more : (k w : ℕ) → k ≡ w → 8 ^ 8 * 0 + k ≡ w
nothing_more k w is = omega (arith, is)

pub octal_is : (w : ℕ) → w < 2 ^ 24 → octal (octal_digits 8 w) ≡ w
octal_is w few = octal_from 8 w 0 ∙ nothing_more (w % 8 ^ 8) w (mod-eq_of_lt few)

-- the digits are no bytes 10
no_end : (n w : ℕ) → AllByRecursion (λ b. b ≢ 10) (octal_digits n w)
unfolding octal_digits
no_end zero w = tt
no_end (suc n) w = ((λ is. absurd (omega (arith, is))), no_end n w)

no_ends : (ws : List ℕ) → AllByRecursion (λ line. All (λ b. b ≢ 10) line) (map (octal_digits 8) ws)
no_ends [] = tt
no_ends (w ∷ ws) = (All-from_recursion (λ b. b ≢ 10) (octal_digits 8 w) (no_end 8 w), no_ends ws)

-- the lines of a program file, by the definition that loading uses
before_same : (b : ℕ) (ls : List (List ℕ)) → before_lines b ls ≡ onto_first b ls
before_same b [] = refl
before_same b (line ∷ ls) = refl

lines_step : (b : ℕ) (bytes : List ℕ) (t : Bool) → (b == 10) ≡ t → lines bytes ≡ lines_of bytes → lines (b ∷ bytes) ≡ lines_of (b ∷ bytes)
lines_step b bytes true is same = rw is (ap (λ (ls : List (List ℕ)). [] ∷ ls) same)
lines_step b bytes false is same = rw is (before_same b (lines bytes) ∙ ap (onto_first b) same)

lines_same : (text : List ℕ) → lines text ≡ lines_of text
lines_same [] = refl
lines_same (b ∷ bytes) = lines_step b bytes (b == 10) refl (lines_same bytes)

pub file_lines : (ws : List ℕ) → lines (text_of (map (octal_digits 8) ws)) ≡ map (octal_digits 8) ws
file_lines ws =
    lines_same (text_of (map (octal_digits 8) ws))
    ∙ text-lines (map (octal_digits 8) ws) (All-from_recursion (λ line. All (λ b. b ≢ 10) line) (map (octal_digits 8) ws) (no_ends ws))

-- all of them are words
one_more : (n : ℕ) → 1 + n ≡ suc n
one_more n = omega arith

pub all_words : (ws : List ℕ) → prefix_len is_word_line (map (octal_digits 8) ws) ≡ length ws
all_words [] = refl
all_words (w ∷ ws) = rw (word_line w) (ap (λ (k : ℕ). 1 + k) (all_words ws) ∙ one_more (length ws))

pub words_back : (ws : List ℕ) → AllByRecursion (λ w. w < 2 ^ 24) ws → map octal (map (octal_digits 8) ws) ≡ ws
words_back [] few = refl
words_back (w ∷ ws) few = rw (octal_is w few.0, words_back ws few.1) refl
