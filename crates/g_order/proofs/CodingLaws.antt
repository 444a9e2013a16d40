-- Encoding and decoding are inverse: each order has one word, and each word that has an order has one.
-- serves: decode (found), encode (read), function_in, crates above
use Rattle.std.proofs.Common.{◌≡◌, ℕ, ◌*◌, ◌-◌, ◌/◌, ◌<◌, ◌≤◌, ◌%◌, ◌^◌, Bool, true, false, ◌&&◌, ◌||◌, refl, ap, ◌∙◌, ◌⊎◌, inl, inr, arith}
use Rattle.std.specs.Prelude.{Some, is_some, ◌==◌, nat_lt, nat_le, not, if◌then◌else◌}
use Rattle.std.proofs.lemmas.Bool.{ltb-true, leb-true, eqb-true, le-leb, lt-ltb, and_from}
use Rattle.g_order.specs.Table.{function_of}
use Rattle.g_order.specs.Order.{Fields, are_operands, function_number, is_branch, is_order, fields_of, word_of, decoded}
use Rattle.g_order.proofs.TableLaws.{number_of_row, both_true}

-- the limits of the fields of an order that isn't a branch, and of one that is
record Plain (o : Fields) : Type 0 where
  pub x : o.x < 8
  pub f : o.f < 128
  pub apart : is_branch o.f ≡ false
  pub m : o.m < 4
  pub n : o.n < 2 ^ 12

record Branching (o : Fields) : Type 0 where
  pub x : o.x < 8
  pub f : o.f < 128
  pub even : o.f % 2 ≡ 0
  pub above : 0o50 ≤ o.f
  pub below : o.f < 0o100
  pub m : o.m ≡ 0
  pub n : o.n < 2 ^ 15

by_kind : (o : Fields) (b : Bool) → is_branch o.f ≡ b → nat_lt o.x 8 ≡ true → nat_lt o.f 128 ≡ true → (not b || (o.f % 2 == 0)) ≡ true → (if b then (o.m == 0) && nat_lt o.n (2 ^ 15) else nat_lt o.m 4 && nat_lt o.n (2 ^ 12)) ≡ true → Plain o ⊎ Branching o
by_kind o true e x f even rest =
    let range = both_true (nat_le 0o50 o.f) (nat_lt o.f 0o100) e in
    let parts = both_true (o.m == 0) (nat_lt o.n (2 ^ 15)) rest in
    inr (record { x = ltb-true _ _ x; f = ltb-true _ _ f; even = eqb-true _ _ even; above = leb-true _ _ range.0; below = ltb-true _ _ range.1; m = eqb-true _ _ parts.0; n = ltb-true _ _ parts.1 })
by_kind o false e x f even rest =
    let parts = both_true (nat_lt o.m 4) (nat_lt o.n (2 ^ 12)) rest in
    inl (record { x = ltb-true _ _ x; f = ltb-true _ _ f; apart = e; m = ltb-true _ _ parts.0; n = ltb-true _ _ parts.1 })

limits : (o : Fields) → is_order o.x o.f o.m o.n ≡ true → Plain o ⊎ Branching o
limits o h =
    let length_fits = if is_branch o.f then (o.m == 0) && nat_lt o.n (2 ^ 15) else nat_lt o.m 4 && nat_lt o.n (2 ^ 12) in
    let outer = both_true (nat_lt o.x 8 && is_some (function_of o.f o.x)) length_fits h in
    let inner = both_true (nat_lt o.x 8) (is_some (function_of o.f o.x)) outer.0 in
    let number = both_true (nat_lt o.f 128) (not (is_branch o.f) || (o.f % 2 == 0)) (number_of_row o.f o.x inner.1) in
    by_kind o (is_branch o.f) refl inner.0 number.0 number.1 outer.1

pub word_fits : (o : Fields) → is_order o.x o.f o.m o.n ≡ true → word_of o < 2 ^ 24
word_fits o h = elim (limits o h) [ inl p ↦ omega arith | inr b ↦ omega arith ]

fields_same : (o : Fields) (x f m n : ℕ) → x ≡ o.x → f ≡ o.f → m ≡ o.m → n ≡ o.n → record { x = x; f = f; m = m; n = n } ≡ o
fields_same o x f m n ex ef em en = rw (ex, ef, em, en) refl

plain_back : (o : Fields) → Plain o → fields_of (word_of o) ≡ o
plain_back o p =
    let w = word_of o in
    let f_is : w / 2 ^ 14 % 2 ^ 7 ≡ o.f = omega arith in
    let apart : is_branch (w / 2 ^ 14 % 2 ^ 7) ≡ false = ap is_branch f_is ∙ p.apart in
    rw apart (fields_same o _ _ _ _ (omega arith) f_is (omega arith) (omega arith))

branch_back : (o : Fields) → Branching o → fields_of (word_of o) ≡ o
branch_back o b =
    let w = word_of o in
    let low : 0o50 ≤ w / 2 ^ 14 % 2 ^ 7 = omega arith in
    let high : w / 2 ^ 14 % 2 ^ 7 < 0o100 = omega arith in
    let kept : is_branch (w / 2 ^ 14 % 2 ^ 7) ≡ true = and_from _ _ (le-leb _ _ low) (lt-ltb _ _ high) in
    rw kept (fields_same o _ _ _ _ (omega arith) (omega arith) (omega arith) (omega arith))

pub fields_of-word_of : (o : Fields) → is_order o.x o.f o.m o.n ≡ true → fields_of (word_of o) ≡ o
fields_of-word_of o h = elim (limits o h) [ inl p ↦ plain_back o p | inr b ↦ branch_back o b ]

pub decoded-word_of : (o : Fields) → is_order o.x o.f o.m o.n ≡ true → decoded (word_of o) ≡ Some o
decoded-word_of o h = rw (fields_of-word_of o h, h) refl

-- the function number of a word: even for a branch, otherwise the seven bits of F unchanged
even_branch : (w : ℕ) → is_branch (w / 2 ^ 14 % 2 ^ 7) ≡ true → is_branch (2 * (w / 2 ^ 15 % 2 ^ 6)) ≡ true
even_branch w is =
    let range = both_true (nat_le 0o50 (w / 2 ^ 14 % 2 ^ 7)) (nat_lt (w / 2 ^ 14 % 2 ^ 7) 0o100) is in
    let low = leb-true _ _ range.0 in
    let high = ltb-true _ _ range.1 in
    and_from _ _ (le-leb _ _ (let e : 0o50 ≤ 2 * (w / 2 ^ 15 % 2 ^ 6) = omega (arith, low) in e)) (lt-ltb _ _ (let e : 2 * (w / 2 ^ 15 % 2 ^ 6) < 0o100 = omega (arith, high) in e))

-- the operands of a word are within their limits
operands_by : (w : ℕ) (b : Bool) → is_branch (w / 2 ^ 14 % 2 ^ 7) ≡ b
    → (let o : Fields = if b then (record { x = w / 2 ^ 21; f = 2 * (w / 2 ^ 15 % 2 ^ 6); m = 0; n = w % 2 ^ 15 }) else (record { x = w / 2 ^ 21; f = w / 2 ^ 14 % 2 ^ 7; m = w / 2 ^ 12 % 4; n = w % 2 ^ 12 }) in are_operands o.f o.m o.n) ≡ true
operands_by w true is = rw (even_branch w is) (lt-ltb _ _ (let e : w % 2 ^ 15 < 2 ^ 15 = omega arith in e))
operands_by w false is = rw is (and_from _ _ (lt-ltb _ _ (let e : w / 2 ^ 12 % 4 < 4 = omega arith in e)) (lt-ltb _ _ (let e : w % 2 ^ 12 < 2 ^ 12 = omega arith in e)))

pub operands_of_word : (w : ℕ) → are_operands (fields_of w).f (fields_of w).m (fields_of w).n ≡ true
operands_of_word w = operands_by w (is_branch (w / 2 ^ 14 % 2 ^ 7)) refl

-- the function number of a word
number_by : (w : ℕ) (b : Bool) → is_branch (w / 2 ^ 14 % 2 ^ 7) ≡ b
    → (if b then w / 2 ^ 14 % 2 ^ 7 - w / 2 ^ 14 % 2 ^ 7 % 2 else w / 2 ^ 14 % 2 ^ 7) ≡ (let o : Fields = if b then (record { x = w / 2 ^ 21; f = 2 * (w / 2 ^ 15 % 2 ^ 6); m = 0; n = w % 2 ^ 15 }) else (record { x = w / 2 ^ 21; f = w / 2 ^ 14 % 2 ^ 7; m = w / 2 ^ 12 % 4; n = w % 2 ^ 12 }) in o.f)
number_by w true is = omega arith
number_by w false is = refl

pub number_of_word : (w : ℕ) → function_number (w / 2 ^ 14 % 2 ^ 7) ≡ (fields_of w).f
number_of_word w = number_by w (is_branch (w / 2 ^ 14 % 2 ^ 7)) refl

-- and its X
x_by : (w : ℕ) (b : Bool) → w / 2 ^ 21 ≡ (let o : Fields = if b then (record { x = w / 2 ^ 21; f = 2 * (w / 2 ^ 15 % 2 ^ 6); m = 0; n = w % 2 ^ 15 }) else (record { x = w / 2 ^ 21; f = w / 2 ^ 14 % 2 ^ 7; m = w / 2 ^ 12 % 4; n = w % 2 ^ 12 }) in o.x)
x_by w true = refl
x_by w false = refl

pub x_of_word : (w : ℕ) → w / 2 ^ 21 ≡ (fields_of w).x
x_of_word w = x_by w (is_branch (w / 2 ^ 14 % 2 ^ 7))
