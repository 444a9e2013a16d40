-- All parts of the forms read are in range, and each order is one of the table.
-- serves: order_for, FinishLemmas, RoundLemmas
use Rattle.std.proofs.Common.{◌≡◌, ◌≢◌, ◌≤◌, ◌<◌, ◌+◌, ◌-◌, ◌^◌, ◌∙◌, ◌⊎◌, inl, inr, ℕ, suc, zero, List, [], ◌∷◌, ◌++◌, Bool, true, false, not, Option, Some, None, ap, arith, is_some, IsTrue, refl, subst, sym}
use Rattle.std.specs.Prelude.{◌&&◌, ◌==◌, nat_le, nat_lt}
use Rattle.std.specs.List.{list_all, range_with_len, slice_get}
use Rattle.std.specs.Option.{option_and_then}
use Rattle.std.proofs.lemmas.Bool.{and_from, and_parts, cases_Bool, cond_both, eq-eqb, eqb-false, eqb-true, false≢true, leb-true, lt-ltb, ltb-true, not-true}
use Rattle.std.proofs.lemmas.Option.{cond_some, same_Some}
use Rattle.g_order.specs.Order.{are_operands, is_branch, is_order}
use Rattle.g_order.specs.Table.{function_of}
use Rattle.g_plan.specs.Assembly.{address, at_most, form_behind, in_place, is_among, is_blank, moved, resolved}
use Rattle.g_plan.specs.SecondPass.{AllFit, Fits, HasAddress, HasM, HasX, IsOperand, IsWordValue, MayFit}
use Rattle.g_plan.specs.Forms.{IsAccumulator, IsAddressOf, IsModifier, IsWord, Says}
use Rattle.g_plan.specs.LineReader.{form_read}
use Rattle.g_plan.specs.Reading.{read_from}
use Rattle.g_plan.specs.Table.{row_of}
use Rattle.g_plan.specs.Words.{behind_label, label_in, words}
use Rattle.g_plan.specs.declared.form.Form.{Form}
use Rattle.g_plan.specs.declared.form.Form.TheVariants.{Nothing, Program, At, Word, Chars, Order}
use Rattle.g_plan.specs.declared.form.Value.{Value}
use Rattle.g_plan.specs.declared.form.Value.TheVariants.{Number, Named}
use Rattle.g_plan.specs.declared.mnemonic.Mnemonic.{Mnemonic}
use Rattle.g_plan.specs.declared.mnemonic.Row.{Row}
use Rattle.g_plan.specs.declared.source.Line.{Line}
use Rattle.g_plan.proofs.FormLemmas.{then_some}
use Rattle.g_plan.proofs.LineLemmas.{form-sound}
use Rattle.g_plan.proofs.TableLemmas.{has_function, has_room, rows_are_orders}

-- what is read is in range
number_is : (n k : ℕ) → ◌≡◌ {A = Value} (Number n) (Number k) → n ≡ k
number_is n k is = cc

value_fits : (v : Value) (text : List ℕ) → IsWord v text → IsWordValue v
value_fits (Named label) text is = tt
value_fits (Number n) text (inl (few, is)) = omega (arith, few)
value_fits (Number n) text (inr (k, least, few, same, is)) = let number = number_is n (2 ^ 24 - k) same in omega (arith, least, few, number)

x_fits : (o : Option ℕ) (x : ℕ) (texts : List (List ℕ)) → IsAccumulator o x texts → HasX o x
x_fits None x texts is = is.0
x_fits (Some y) x texts is = is.0

modifier_fits : (may : Bool) (m : ℕ) (text : List ℕ) → IsModifier may m text → HasM may m
modifier_fits true m text (inl (is, empty)) = omega (arith, is)
modifier_fits true m text (inr (allowed, least, few, is)) = omega (arith, few)
modifier_fits false m text (inl (is, empty)) = is
modifier_fits false m text (inr (allowed, least, few, is)) = absurd (false≢true allowed)

m_fits : (most : Option ℕ) (may : Bool) (m : ℕ) (v : Value) (texts : List (List ℕ)) → IsAddressOf most may m v texts → HasM may m
m_fits None true m v texts (is, zero_is, empty) = omega (arith, is)
m_fits None false m v texts (is, zero_is, empty) = is
m_fits (Some most) may m v texts (address, modifier, value, modified, is) = modifier_fits may m modifier modified

v_fits : (most : Option ℕ) (may : Bool) (m : ℕ) (v : Value) (texts : List (List ℕ)) → IsAddressOf most may m v texts → HasAddress most v
v_fits None may m v texts (is, zero_is, empty) = zero_is
v_fits (Some most) may m v texts is = tt

says_fits : (form : Form) (ws : List (List ℕ)) (rest : List ℕ) → Says form ws rest → Fits form
says_fits Nothing ws rest is = tt
says_fits (Program n) ws rest (least, few, is) = (least, few)
says_fits (At n) ws rest is = tt
says_fits (Word v) ws rest (text, written, is) = value_fits v text written
says_fits (Chars text) ws rest is = tt
says_fits (Order name x m v) ws rest (xs, texts, accumulator, address_is, is) = record {
  x_fits = x_fits (row_of name).x x xs accumulator;
  m_fits = m_fits (row_of name).most (row_of name).modified m v texts address_is;
  v_fits = v_fits (row_of name).most (row_of name).modified m v texts address_is;
}

read_fits : (line : List ℕ) (form : Form) → form_read line ≡ Some form → Fits form
read_fits line form is = says_fits form (words (behind_label line)) (behind_label line) (form-sound line form is).says

placed_same : (blank : Bool) (form out : Form) → in_place blank form ≡ Some out → form ≡ out
placed_same true (Program n) out is = same_Some (Program n) out is
placed_same true Nothing out is = absurd cc
placed_same true (At n) out is = absurd cc
placed_same true (Word v) out is = absurd cc
placed_same true (Chars text) out is = absurd cc
placed_same true (Order name x m v) out is = absurd cc
placed_same false (Program n) out is = absurd cc
placed_same false Nothing out is = same_Some Nothing out is
placed_same false (At n) out is = same_Some (At n) out is
placed_same false (Word v) out is = same_Some (Word v) out is
placed_same false (Chars text) out is = same_Some (Chars text) out is
placed_same false (Order name x m v) out is = same_Some (Order name x m v) out is

behind_fits : (earlier : List (List ℕ)) (line : List ℕ) (form : Form) → form_behind earlier line ≡ Some form → Fits form
behind_fits earlier line form =
    cond_both (is_blank line) (Some Nothing) _ (λ (o : Option Form). o ≡ Some form → Fits form)
    (λ blank is. subst Fits (same_Some Nothing form is) tt)
    (λ _. cond_both (is_among earlier (label_in line)) None (option_and_then (in_place (list_all is_blank earlier)) (form_read line)) (λ (o : Option Form). o ≡ Some form → Fits form)
    (λ _ is. absurd cc)
    (λ _ is. let (read, was, placed) = then_some (in_place (list_all is_blank earlier)) (form_read line) form is in
    subst Fits (placed_same (list_all is_blank earlier) read form placed) (read_fits line read was)))

may_fit : (o : Option Form) → ((form : Form) → o ≡ Some form → Fits form) → MayFit o
may_fit None all = tt
may_fit (Some form) all = all form refl

no_item : (k : ℕ) (line : Line) → slice_get {X = Line} [] k ≡ Some line → ⊥
no_item zero line is = cc
no_item (suc k) line is = cc

pub all_fit : (earlier : List (List ℕ)) (place : ℕ) (lines : List (List ℕ)) → AllFit (read_from earlier place lines)
all_fit earlier place [] k line is = absurd (no_item k line is)
all_fit earlier place (first ∷ lines) zero line is =
    subst (λ (l : Line). MayFit l.form) (same_Some (record { label = label_in first; form = form_behind earlier first; place = place }) line is) (may_fit (form_behind earlier first) (behind_fits earlier first))
all_fit earlier place (first ∷ lines) (suc k) line is = all_fit (earlier ++ first ∷ []) (moved place (form_behind earlier first)) lines k line is

-- ORDERS: an address in range makes one of the table
least_more : (a x : ℕ) → a ≤ x → (a ≡ x → ⊥) → a + 1 ≤ x
least_more a x least apart = omega (arith, least, apart)

range_by : (p : ℕ → Bool) (a n : ℕ) → p a ≡ true → ((x : ℕ) → a + 1 ≤ x → x < (a + 1) + n → p x ≡ true) → (x : ℕ) → a ≤ x → x < a + suc n
    → ((a == x) ≡ true) ⊎ ((a == x) ≡ false) → p x ≡ true
range_by p a n first others x least few (inl is) = subst (λ (k : ℕ). p k ≡ true) (eqb-true a x is) first
range_by p a n first others x least few (inr other) = let apart = eqb-false a x other in others x (least_more a x least apart) (omega (arith, few))

all_range : (p : ℕ → Bool) (a n : ℕ) → list_all p (range_with_len a n) ≡ true → (x : ℕ) → a ≤ x → x < a + n → p x ≡ true
all_range p a zero all x least few = absurd (omega (arith, least, few))
all_range p a (suc n) all x least few =
    let parts = and_parts (p a) (list_all p (range_with_len (a + 1) n)) all in
    range_by p a n parts.0 (all_range p (a + 1) n parts.1) x least few (cases_Bool (a == x))

has_x : (f : ℕ) (o : Option ℕ) (x : ℕ) → has_function f o ≡ true → HasX o x → (nat_lt x 8 && is_some (function_of f x)) ≡ true
has_x f (Some y) x there is = subst (λ (z : ℕ). (nat_lt z 8 && is_some (function_of f z)) ≡ true) (sym is) there
has_x f None x there is = and_from (nat_lt x 8) (is_some (function_of f x)) (lt-ltb x 8 is) (all_range (λ x. is_some (function_of f x)) 0 8 there x (omega arith) (omega (arith, is)))

few_m : (may : Bool) (m : ℕ) → HasM may m → m < 4
few_m true m is = is
few_m false m is = omega (arith, is)

branch_operands : (f m n : ℕ) → is_branch f ≡ true → m ≡ 0 → n < 2 ^ 15 → are_operands f m n ≡ true
branch_operands f m n branch none few = rw branch (and_from (m == 0) (nat_lt n (2 ^ 15)) (eq-eqb m 0 none) (lt-ltb n (2 ^ 15) few))

plain_operands : (f m n : ℕ) → is_branch f ≡ false → m < 4 → n < 2 ^ 12 → are_operands f m n ≡ true
plain_operands f m n branch modifier few = rw branch (and_from (nat_lt m 4) (nat_lt n (2 ^ 12)) (lt-ltb m 4 modifier) (lt-ltb n (2 ^ 12) few))

no_modifier : (may : Bool) (m : ℕ) → not may ≡ true → HasM may m → m ≡ 0
no_modifier true m is there = absurd (false≢true is)
no_modifier false m is there = there

-- the address of an order is at most the limit
ranged : (most a b : ℕ) → at_most (Some most) a ≡ Some b → b ≤ most
ranged most a b is = let parts = cond_some (nat_le a most) a b is in subst (λ (k : ℕ). k ≤ most) parts.1 (leb-true a most parts.0)

operands_of : (row : Row) (m : ℕ) (v : Value) (all : List Line) (a : ℕ) (most : Option ℕ) → has_room row most ≡ true → HasM row.modified m → HasAddress most v
    → option_and_then (at_most most) (resolved all v) ≡ Some a → are_operands row.f m (a + row.adds) ≡ true
operands_of row m v all a None room modified address_is is =
    let parts = and_parts (row.adds == 0) (not (is_branch row.f)) room in
    let adds = eqb-true row.adds 0 parts.0 in
    let zero_is : ◌≡◌ {A = Option ℕ} (Some 0) (Some a) = sym (ap (λ (u : Value). option_and_then (at_most None) (resolved all u)) address_is) ∙ is in
    let same = same_Some 0 a zero_is in
    plain_operands row.f m (a + row.adds) (not-true (is_branch row.f) parts.1) (few_m row.modified m modified) (omega (arith, adds, same))
operands_of row m v all a (Some most) room modified address_is is =
    let (b, resolved_is, within) = then_some (at_most (Some most)) (resolved all v) a is in
    let few = ranged most b a within in
    cond_both (is_branch row.f) (nat_lt (most + row.adds) 32768 && not row.modified) (nat_lt (most + row.adds) 4096) (λ (t : Bool). t ≡ true → are_operands row.f m (a + row.adds) ≡ true)
    (λ branch there. let parts = and_parts (nat_lt (most + row.adds) 32768) (not row.modified) there in
    let low = ltb-true (most + row.adds) 32768 parts.0 in
    branch_operands row.f m (a + row.adds) branch (no_modifier row.modified m parts.1 modified) (omega (arith, few, low)))
    (λ branch there. let low = ltb-true (most + row.adds) 4096 there in plain_operands row.f m (a + row.adds) branch (few_m row.modified m modified) (omega (arith, few, low))) room

pub order-is : (name : Mnemonic) (x m : ℕ) (v : Value) (all : List Line) (a : ℕ) → IsOperand (row_of name) x m v → address all (row_of name) v ≡ Some a
    → is_order x (row_of name).f m (a + (row_of name).adds) ≡ true
order-is name x m v all a fits is =
    let row = row_of name in
    let parts = and_parts (nat_lt row.f 128) (has_function row.f row.x && has_room row row.most) (rows_are_orders name) in
    let both = and_parts (has_function row.f row.x) (has_room row row.most) parts.1 in
    and_from (nat_lt x 8 && is_some (function_of row.f x)) (are_operands row.f m (a + row.adds)) (has_x row.f row.x x both.0 fits.x_fits)
    (operands_of row m v all a row.most both.1 fits.m_fits fits.v_fits is)

-- the order of the form's word is in the table
pub order-new : (name : Mnemonic) (x m : ℕ) (v : Value) (all : List Line) (row : Row) (a : ℕ) → IsOperand (row_of name) x m v → row ≡ row_of name
    → address all row v ≡ Some a → (false ≡ true → IsTrue (is_order x row.f m (a + row.adds))) × (IsTrue (is_order x row.f m (a + row.adds)) → false ≡ true) → ⊥
order-new name x m v all row a fits same is valid =
    let there : is_order x (row_of name).f m (a + (row_of name).adds) ≡ true = order-is name x m v all a fits (sym (ap (λ (r : Row). address all r v) same) ∙ is) in
    false≢true (valid.1 (subst (λ (r : Row). IsTrue (is_order x r.f m (a + r.adds))) (sym same) there))
