-- Facts about shifting and rotating the bits of a word, over plain numbers.
-- serves: rotate, shift
use Rattle.std.proofs.Common.{◌≡◌, ℕ, ◌+◌, ◌-◌, ◌*◌, ◌/◌, ◌%◌, ◌^◌, ◌<◌, ◌≤◌, sym, ◌∙◌, ap, subst, arith, add-zero}
use Rattle.std.proofs.lemmas.Nat.{pow_pos, pow-add, mod-pow-add, div-mul-add, mul-add-lt}
use Rattle.std.proofs.Math.Nat.{mul-mod_left, div-eq_of_lt, div-lt_iff_lt-mul, mod-lt, mul_comm, mul_assoc, pow-le-pow_right}

-- a number shifted left by k places in j + k bits keeps its low j bits
pub low_bits_up : (w j k : ℕ) → (w * 2 ^ k) % 2 ^ (j + k) ≡ (w % 2 ^ j) * 2 ^ k
low_bits_up w j k =
    let positive : 0 < 2 ^ k = pow_pos k in
    let back : w * 2 ^ k / 2 ^ k ≡ w = ap (λ n. n / 2 ^ k) (sym (add-zero (w * 2 ^ k))) ∙ div-mul-add w (2 ^ k) 0 positive in
    mod-pow-add (w * 2 ^ k) j k ∙ rw (back, mul-mod_left w (2 ^ k)) (add-zero _)

-- a rotated word is a word
pub rotation_fits : (w j k : ℕ) → w < 2 ^ (j + k) → (w * 2 ^ k) % 2 ^ (j + k) + w / 2 ^ j < 2 ^ (j + k)
rotation_fits w j k h =
    let high : w / 2 ^ j < 2 ^ k = (div-lt_iff_lt-mul (pow_pos j)).1 (omega (arith, h, pow-add 2 j k, mul_comm (2 ^ j) (2 ^ k))) in
    let low : w % 2 ^ j < 2 ^ j = mod-lt w (pow_pos j) in
    let sum = mul-add-lt (w % 2 ^ j) (2 ^ k) (w / 2 ^ j) (2 ^ j) low high in
    omega (arith, low_bits_up w j k, sum, pow-add 2 j k, mul_comm (2 ^ j) (2 ^ k))

-- a number shifted left by the length of the word or more is zero
pub all_moved_up : (w n m : ℕ) → m ≤ n → (w * 2 ^ n) % 2 ^ m ≡ 0
all_moved_up w n m h =
    let split : n ≡ (n - m) + m = omega arith in
    let power : 2 ^ n ≡ 2 ^ (n - m) * 2 ^ m = ap (λ k. 2 ^ k) split ∙ pow-add 2 (n - m) m in
    let product : w * 2 ^ n ≡ (w * 2 ^ (n - m)) * 2 ^ m = ap (λ k. w * k) power ∙ sym (mul_assoc w (2 ^ (n - m)) (2 ^ m)) in
    ap (λ k. k % 2 ^ m) product ∙ mul-mod_left (w * 2 ^ (n - m)) (2 ^ m)

-- a number shifted right by its whole length or more is zero
pub all_moved_down : (w n m : ℕ) → m ≤ n → w < 2 ^ m → w / 2 ^ n ≡ 0
all_moved_down w n m h s =
    let least : 2 ^ m ≤ 2 ^ n = pow-le-pow_right (omega arith) h in
    let below : w < 2 ^ n = omega arith in
    div-eq_of_lt below

-- a rotation to the right is a rotation to the left by the remaining places
pub right_by_left : (w k up : ℕ) → k + up ≡ 24 → (w * 2 ^ up) % 2 ^ 24 + w / 2 ^ (24 - up) ≡ w / 2 ^ k + (w % 2 ^ k) * 2 ^ (24 - k)
right_by_left w k up h =
    let up_is : up ≡ 24 - k = omega arith in
    let k_is : 24 - up ≡ k = omega arith in
    let low : (w * 2 ^ up) % 2 ^ 24 ≡ (w % 2 ^ k) * 2 ^ (24 - k) = ap (λ n. (w * 2 ^ up) % 2 ^ n) (sym h) ∙ low_bits_up w k up ∙ ap (λ n. (w % 2 ^ k) * 2 ^ n) up_is in
    let high : w / 2 ^ (24 - up) ≡ w / 2 ^ k = ap (λ n. w / 2 ^ n) k_is in
    omega (arith, low, high)

-- a 24-bit word, rotated, is a 24-bit word
pub rotation_fits_at : (w up : ℕ) → w < 2 ^ 24 → up ≤ 24 → (w * 2 ^ up) % 2 ^ 24 + w / 2 ^ (24 - up) < 2 ^ 24
rotation_fits_at w up h within =
    let whole : (24 - up) + up ≡ 24 = omega arith in
    let P : ℕ → Type 0 = λ n. w < 2 ^ n → (w * 2 ^ up) % 2 ^ n + w / 2 ^ (24 - up) < 2 ^ n in
    subst P whole (rotation_fits w (24 - up) up) h
