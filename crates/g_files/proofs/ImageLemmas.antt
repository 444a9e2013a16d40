-- What reads see of a file with buffered bytes written over it.
-- serves: buffer (written), flush (bytes, same), over (seen), read (block), read_file (block), read_gate (gate), size (blocks), and 3 more
use Rattle.std.proofs.Common.{◌≡◌, ◌⊎◌, ℕ, ◌+◌, ◌-◌, ◌≤◌, List, [], ◌++◌, length, take, drop, Result, Ok, Some, None, refl, sym, ap, subst, ◌∙◌, inl, inr, arith, length-take, length-drop}
use Rattle.std.specs.Prelude.{Option, option_map}
use Rattle.std.specs.Option.{ForSome}
use Rattle.std.proofs.lemmas.Bool.{cases_lt}
use Rattle.std.proofs.lemmas.Option.{none-some, same_Some}
use Rattle.g_files.specs.Bytes.{part, put}
use Rattle.g_base.specs.ToldContent.{Changes}
use Rattle.g_base.proofs.ToldLemmas.{Changes-back}
use Rattle.g_files.specs.Bytes.{AreBytes}
use Rattle.g_files.specs.Calls.{IsMixed, HasWrittenAll}
use Rattle.g_files.proofs.BytesLemmas.{AreBytes-put, put-nil, put-put_next, part-put_in, part-put_before, part-put_behind, part-part, length-put, fresh_cut, fresh_behind}
use Rattle.g_files.proofs.CallLemmas.{same_seen, over_mixed, mixed_same, any_mixed, mixed_bytes}

-- the file's bytes below what reads see
pub under : (at : ℕ) (p : List ℕ) (o : Option (List ℕ)) (x : List ℕ) → option_map (put at p) o ≡ Some x → (b : List ℕ) × (o ≡ Some b) × (put at p b ≡ x)
under at p None x is = absurd (none-some x is)
under at p (Some b) x is = (b, refl, same_Some (put at p b) x is)

-- if nothing is buffered, reads see the file
pub seen_none : (at : ℕ) (p : List ℕ) (o : Option (List ℕ)) → p ≡ [] → option_map (put at p) o ≡ o
seen_none at p None none = refl
seen_none at p (Some b) none = ap (λ (q : List ℕ). Some (put at q b)) none ∙ ap (λ (x : List ℕ). Some x) (put-nil at b)

-- its length
pub seen_sized : (at n : ℕ) (p : List ℕ) (o : Option (List ℕ)) → ForSome o (λ b. length b ≡ n) → at + length p ≤ n
    → ForSome (option_map (put at p) o) (λ x. length x ≡ n)
seen_sized at n p o sized within x is =
    let u = under at p o x is in
    ap length (sym u.2) ∙ length-put at p u.0 (omega (arith, within, sized u.0 u.1)) ∙ sized u.0 u.1

-- its bytes are bytes
pub seen_bytes : (at n : ℕ) (p : List ℕ) (o : Option (List ℕ)) → ForSome o (λ b. length b ≡ n) → ForSome o AreBytes → at + length p ≤ n → AreBytes p
    → ForSome (option_map (put at p) o) AreBytes
seen_bytes at n p o sized bytes within more x is =
    let u = under at p o x is in
    subst AreBytes u.2 (AreBytes-put at p u.0 (omega (arith, within, sized u.0 u.1)) more (bytes u.0 u.1))

-- READING

pub read_held : (at k n : ℕ) (p into : List ℕ) (o : Option (List ℕ)) → ForSome o (λ b. length b ≡ n) → at + length p ≤ n → at ≤ k → k + 512 ≤ at + length p
    → into ≡ part (k - at) 512 p → ForSome (option_map (put at p) o) (λ x. into ≡ part k 512 x)
read_held at k n p into o sized within from to is x sees =
    let u = under at p o x sees in
    is ∙ sym (part-put_in k 512 at p u.0 (omega (arith, within, sized u.0 u.1)) from to) ∙ ap (part k 512) u.2

pub read_beside : (at k n : ℕ) (p into : List ℕ) (o : Option (List ℕ)) → ForSome o (λ b. length b ≡ n) → at + length p ≤ n → k + 512 ≤ n
    → (k + 512 ≤ at) ⊎ (at + length p ≤ k)
    → ForSome o (λ b. into ≡ part k 512 b) → ForSome (option_map (put at p) o) (λ x. into ≡ part k 512 x)
read_beside at k n p into o sized within room beside is x sees =
    let u = under at p o x sees in
    let long = sized u.0 u.1 in
    is u.0 u.1 ∙ (elim beside [
      | inl before ↦ sym (part-put_before k 512 at p u.0 (omega (arith, within, long)) before)
      | inr behind ↦ sym (part-put_behind k 512 at p u.0 (omega (arith, within, long)) behind (omega (arith, room, long)))
    ]) ∙ ap (part k 512) u.2

-- a block that was read ahead
pub read_ahead : (a k : ℕ) (q into : List ℕ) (o : Option (List ℕ)) → ForSome o (λ b. q ≡ part a (length q) b) → a ≤ k → k + 512 ≤ a + length q
    → into ≡ part (k - a) 512 q
    → ForSome o (λ b. into ≡ part k 512 b)
read_ahead a k q into o fresh from to is b sees =
    let same = fresh b sees in
    let long : a + length q ≤ length b = omega (arith, ap length same, length-take (length q) (drop a b), length-drop a b, from, to) in
    is ∙ ap (part (k - a) 512) same ∙ part-part (k - a) 512 a (length q) b (omega (arith, from, to)) long
    ∙ ap (λ (i : ℕ). part i 512 b) (omega (arith, from))

-- WRITING

-- a flush doesn't change what reads see, even if it fails
pub seen_over : {E : Type 0} (at n : ℕ) (p : List ℕ) (r : Result (Unit {0}) E) (o o' : Option (List ℕ)) → ForSome o (λ b. length b ≡ n) → at + length p ≤ n
    → Changes (HasWrittenAll at p r) o o' → option_map (put at p) o' ≡ option_map (put at p) o
seen_over at n p r o o' sized within c =
    same_seen (put at p) (put at p) o o' (λ b a is changes. over_mixed at p b a (omega (arith, within, sized b is)) (any_mixed at p b a r changes)) c

-- a write within the file doesn't change its length
pub still_sized : {E : Type 0} (at n : ℕ) (p : List ℕ) (r : Result (Unit {0}) E) (o o' : Option (List ℕ)) → ForSome o (λ b. length b ≡ n) → at + length p ≤ n
    → Changes (HasWrittenAll at p r) o o' → ForSome o' (λ b. length b ≡ n)
still_sized at n p r o o' sized within c a is =
    let f = Changes-back (HasWrittenAll at p r) o o' c a is in
    let long = sized f.0 f.1 in
    let m = any_mixed at p f.0 a r f.2 in
    ap length m.2 ∙ length-put at m.0 f.0 (omega (arith, within, long, m.1.few)) ∙ long

-- its bytes are bytes
pub still_bytes : {E : Type 0} (at n : ℕ) (p : List ℕ) (r : Result (Unit {0}) E) (o o' : Option (List ℕ)) → ForSome o (λ b. length b ≡ n)
    → ForSome o AreBytes → at + length p ≤ n → AreBytes p
    → Changes (HasWrittenAll at p r) o o' → ForSome o' AreBytes
still_bytes at n p r o o' sized bytes within more c a is =
    let f = Changes-back (HasWrittenAll at p r) o o' c a is in
    mixed_bytes at p f.0 a (omega (arith, within, sized f.0 f.1)) more (bytes f.0 f.1) (any_mixed at p f.0 a r f.2)

-- what was read ahead, truncated where the write starts, is still a part of the file
pub still_fresh : {E : Type 0} (at n a : ℕ) (p q : List ℕ) (r : Result (Unit {0}) E) (o o' : Option (List ℕ)) → ForSome o (λ b. length b ≡ n)
    → at + length p ≤ n
    → ForSome o (λ b. q ≡ part a (length q) b) → Changes (HasWrittenAll at p r) o o'
    → ForSome o' (λ b. take (at - a) q ≡ part a (length (take (at - a) q)) b)
still_fresh at n a p q r o o' sized within fresh c b is =
    let f = Changes-back (HasWrittenAll at p r) o o' c b is in
    let long = sized f.0 f.1 in
    let m = any_mixed at p f.0 b r f.2 in
    let cut = fresh_cut a (at - a) q f.0 (fresh f.0 f.1) in
    let few : length (take (at - a) q) ≤ at - a = omega (arith, length-take (at - a) q) in
    elim (cases_lt at a) [
      | inl before ↦ let none : at - a ≡ 0 = omega (arith, before) in rw none refl
      | inr from ↦ rw m.2 (fresh_behind a at (take (at - a) q) m.0 f.0 (omega (arith, within, long, m.1.few)) (omega (arith, few, from)) cut)
    ]

-- one more block is buffered
pub seen_more : (E : Type 0) (at k n : ℕ) (p q : List ℕ) (o : Option (List ℕ)) → ForSome o (λ b. length b ≡ n) → at ≤ n → k ≡ at + length p
    → Changes (HasWrittenAll {E = E} k q (Ok tt)) (option_map (put at p) o) (option_map (put at (p ++ q)) o)
seen_more E at k n p q None sized within next = record { told = λ b is. absurd (none-some b is); untold = λ is. refl }
seen_more E at k n p q (Some b) sized within next = record {
  told = λ x is. (
    put at (p ++ q) b,
    refl,
    sym (put-put_next at p q b (omega (arith, within, sized b refl))) ∙ ap (λ (i : ℕ). put i q (put at p b)) (sym next)
        ∙ ap (put k q) (same_Some (put at p b) x is),
  );
  untold = λ is. absurd (none-some (put at p b) (sym is));
}

-- the gate is written again, unchanged
pub same_again : {E : Type 0} (n : ℕ) (gate : List ℕ) (r : Result (Unit {0}) E) (x y : Option (List ℕ)) → ForSome x (λ b. length b ≡ n) → 512 ≤ n
    → ForSome x (λ b. gate ≡ part 0 512 b)
    → Changes (HasWrittenAll 0 gate r) x y → y ≡ x
same_again n gate r None y sized room is c = c.untold refl
same_again n gate r (Some b) y sized room is c =
    let t = c.told b refl in
    t.1 ∙ ap (λ (z : List ℕ). Some z) (mixed_same 0 512 b t.0 (omega (arith, room, sized b refl))
    (subst (λ g. IsMixed 0 g b t.0) (is b refl) (any_mixed 0 gate b t.0 r t.2)))
