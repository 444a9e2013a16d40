-- Fields of blocks: their lengths, how a writer continues, and which bytes equal fields have.
-- serves: block, finish, put_bytes, put_u8, put_zeros, restart, take_u16 (again), take_u24 (again), take_u32 (again), take_u64 (again), crates above
use Rattle.std.proofs.Common.{◌≡◌, ℕ, ◌+◌, ◌-◌, ◌^◌, ◌<◌, ◌≤◌, List, [], ◌∷◌, ◌++◌, length, take, drop, replicate, refl, sym, ap, ◌∙◌, arith, length-append, length-set, length-take-le, take-append-drop}
use Rattle.std.proofs.Math.ListN.{set}
use Rattle.std.proofs.lemmas.Slice.{drop-put_mid}
use borrow.Rule.Slice.PartMut.{put_mid, mid_len, same_len_mid}
use Rattle.std.proofs.lemmas.List.{length-replicate, drop-set-lt, drop-drop, drop-take, drop-replicate, replicate-append-replicate, take-replicate, take-take, take_at, drop_at, append-nil}
use Rattle.byteorder.specs.Endian.{big_number}
use Rattle.byteorder.specs.Numbers.{big_number-reads_back, length-bytes_high_first}
use Rattle.g_base.specs.Fields.{number, padded, IsPartWritten}

pub length-number : (n x : ℕ) → length (number n x) ≡ n
unfolding number
length-number n x = length-bytes_high_first n x

pub length-padded : (n : ℕ) (bytes : List ℕ) → length bytes ≤ n → length (padded n bytes) ≡ n
unfolding padded
length-padded n bytes fits =
    let zeros = length-replicate {A = ℕ} (n - length bytes) 0 in omega (arith, length-append bytes (replicate (n - length bytes) 0))

-- the lengths of fields that were appended to each other
pub ruleset length_fields = (length-append, length-number, length-padded)

-- After a byte is written at `at`, the bytes from `at` + 1 on are zero.
pub zeros_behind : (at : ℕ) (block : List ℕ) (x : ℕ) → at < 512 → drop at block ≡ replicate (512 - at) 0 → drop (at + 1) (set block at x) ≡ replicate (512 - (at + 1)) 0
zeros_behind at block x below zeros =
    drop-set-lt (at + 1) block at x (omega arith) ∙ sym (drop-drop 1 at block) ∙ ap (drop 1) zeros ∙ drop-replicate 1 (512 - at) 0 ∙ ap (λ (n : ℕ). replicate {A = ℕ} n 0) (let e : 512 - at - 1 ≡ 512 - (at + 1) = omega arith in e)

-- The bytes further on are zero too.
pub zeros_further : (at count : ℕ) (block : List ℕ) → at + count ≤ 512 → drop at block ≡ replicate (512 - at) 0 → drop (at + count) block ≡ replicate (512 - (at + count)) 0
zeros_further at count block fits zeros =
    sym (drop-drop count at block) ∙ ap (drop count) zeros ∙ drop-replicate count (512 - at) 0
    ∙ ap (λ (n : ℕ). replicate {A = ℕ} n 0) (let e : 512 - at - count ≡ 512 - (at + count) = omega arith in e)

-- a writer's block keeps its form under one byte more
pub one_more_byte : (at : ℕ) (block : List ℕ) (x : ℕ) → at < 512 → IsPartWritten at block → IsPartWritten (at + 1) (set block at x)
one_more_byte at block x below was = record {
  within = omega arith;
  size = length-set block at x ∙ was.size;
  zeros = zeros_behind at block x below was.zeros;
}

-- The same after more bytes, which replace as many zeros.
pub more_bytes : (at : ℕ) (block bytes now : List ℕ) → now ≡ bytes → at + length bytes ≤ 512 → IsPartWritten at block
    → IsPartWritten (at + length bytes) (put_mid at (at + length bytes - at) block now)
more_bytes at block bytes now is fits was =
    let end = at + length bytes in
    let size = was.size in
    let long : length now ≡ end - at = let e = ap length is in omega (arith, e) in
    let ends : drop end (put_mid at (end - at) block now) ≡ drop end block =
    drop-put_mid at (end - at) block now end (omega arith) (omega (arith, size)) long in
    record {
      within = fits;
      size = same_len_mid at (end - at) block now (long ∙ sym (mid_len at end block (omega (arith, size)))) ∙ size;
      zeros = ends ∙ zeros_further at (length bytes) block fits was.zeros;
    }

-- The same after skipping zeros.
pub more_zeros : (at count : ℕ) (block : List ℕ) → at + count ≤ 512 → IsPartWritten at block → IsPartWritten (at + count) block
more_zeros at count block fits was = record {
  within = fits;
  size = was.size;
  zeros = zeros_further at count block fits was.zeros;
}

-- What was written, followed by these zeros.
pub zeros_put : (at count : ℕ) (block : List ℕ) → at + count ≤ 512 → IsPartWritten at block → take (at + count) block ≡ take at block ++ replicate count 0
zeros_put at count block fits was =
    let split : take at block ++ drop at (take (at + count) block) ≡ take (at + count) block =
    ap (λ (front : List ℕ). front ++ drop at (take (at + count) block)) (sym (take-take at (at + count) block (omega arith)))
    ∙ take-append-drop at (take (at + count) block) in
    sym split ∙ ap (λ (zeros : List ℕ). take at block ++ zeros)
    (drop-take at count block ∙ ap (take count) was.zeros ∙ take-replicate count (512 - at) 0 (omega arith))

-- Nothing is written in a block whose first bytes are zero again.
pub begun_again : (at : ℕ) (block front : List ℕ) → front ≡ replicate (length (take at block)) 0 → IsPartWritten at block → IsPartWritten 0 (front ++ drop at block)
begun_again at block front is was =
    let size = was.size in
    let within = was.within in
    let long : length (take at block) ≡ at = length-take-le at block (omega arith) in
    let all : front ++ drop at block ≡ replicate 512 0 =
    ap (λ (zeros : List ℕ). zeros ++ drop at block) (is ∙ ap (λ (n : ℕ). replicate {A = ℕ} n 0) long)
    ∙ ap (λ (rest : List ℕ). replicate {A = ℕ} at 0 ++ rest) was.zeros
    ∙ replicate-append-replicate at (512 - at) 0
    ∙ ap (λ (n : ℕ). replicate {A = ℕ} n 0) (let e : at + (512 - at) ≡ 512 = omega (arith, within) in e) in
    record {
      within = omega arith;
      size = ap length all ∙ length-replicate {A = ℕ} 512 0;
      zeros = all;
    }

-- A writer's block is what was written, padded with zeros.
pub block_is_padded : (at : ℕ) (block : List ℕ) → IsPartWritten at block → block ≡ padded 512 (take at block)
unfolding padded
block_is_padded at block was =
    let size = was.size in
    let within = was.within in
    let long : length (take at block) ≡ at = length-take-le at block (omega arith) in
    sym (take-append-drop at block) ∙ ap (λ (zeros : List ℕ). take at block ++ zeros) (was.zeros ∙ ap (λ (n : ℕ). replicate {A = ℕ} (512 - n) 0) (sym long))

-- The number at the front is the one that was written there.
pub number_again : (n x : ℕ) (bytes rest : List ℕ) → x < 256 ^ n → bytes ≡ number n x ++ rest → (big_number n bytes ≡ x) × (drop n bytes ≡ rest)
unfolding number
number_again n x bytes rest fits is =
    (ap (big_number n) is ∙ big_number-reads_back n x rest fits, ap (drop n) is ∙ drop_at (number n x) rest n (length-bytes_high_first n x))

-- The same for bytes.
pub bytes_again : (n : ℕ) (x bytes rest : List ℕ) → length x ≡ n → bytes ≡ x ++ rest → (take n bytes ≡ x) × (drop n bytes ≡ rest)
bytes_again n x bytes rest long is = (ap (take n) is ∙ take_at x rest n long, ap (drop n) is ∙ drop_at x rest n long)

-- Two numbers that precede the same bytes.
pub same_number : (n x y : ℕ) (a b : List ℕ) → x < 256 ^ n → y < 256 ^ n → number n x ++ a ≡ number n y ++ b → (x ≡ y) × (a ≡ b)
same_number n x y a b fits_x fits_y is =
    let one = number_again n x (number n x ++ a) a fits_x refl in
    let two = number_again n y (number n x ++ a) b fits_y is in (sym one.0 ∙ two.0, sym one.1 ∙ two.1)

-- Two texts that precede the same bytes.
pub same_bytes : (n : ℕ) (x y a b : List ℕ) → length x ≡ n → length y ≡ n → x ++ a ≡ y ++ b → (x ≡ y) × (a ≡ b)
same_bytes n x y a b long_x long_y is =
    let one = bytes_again n x (x ++ a) a long_x refl in
    let two = bytes_again n y (x ++ a) b long_y is in (sym one.0 ∙ two.0, sym one.1 ∙ two.1)

-- Two bytes that precede the same bytes.
pub same_byte : (x y : ℕ) (a b : List ℕ) → x ∷ a ≡ y ∷ b → (x ≡ y) × (a ≡ b)
same_byte x y a b is = (cc, cc)

-- A number that was read from the front is the number that was encoded there.
pub number_taken : (n x : ℕ) (bytes taken left rest : List ℕ) → length taken ≡ n → bytes ≡ taken ++ left → x < 256 ^ n → bytes ≡ number n x ++ rest → (big_number n taken ≡ x) × (left ≡ rest)
unfolding number
number_taken n x bytes taken left rest long all fits is =
    let same = same_bytes n taken (number n x) left rest long (length-bytes_high_first n x) (sym all ∙ is) in
    (ap (big_number n) (same.0 ∙ sym (append-nil (number n x))) ∙ big_number-reads_back n x [] fits, same.1)
