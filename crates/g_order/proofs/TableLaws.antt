-- Invariants of every function number in the table.
-- serves: function_at, CodingLaws, crates above
use Rattle.std.proofs.Common.{◌≡◌, arith, ℕ, ◌-◌, ◌%◌, Bool, true, false, ◌&&◌, ◌||◌, List, [], ◌∷◌, refl, ap, ◌∙◌, inl, inr}
use Rattle.std.specs.Prelude.{Some, is_some, ◌==◌, nat_lt, not, if◌then◌else◌}
use Rattle.std.proofs.lemmas.Bool.{eqb-true}
use Rattle.std.specs.List.{list_all}
use Rattle.std.proofs.lemmas.Bool.Decides.{eqb_tells}
use Rattle.g_order.specs.declared.functions.Function.{Function}
use Rattle.g_order.specs.declared.functions.Function.TheVariants.{Branch, Call, Exit}
use Rattle.g_order.specs.Table.{function_of, row, by_f, branches_by_x, texts_by_x}
use Rattle.g_order.specs.Order.{function_number, is_branch}

-- a function number has seven bits, and that of a branch is even
abbrev pub is_number : ℕ → Bool
is_number f = nat_lt f 128 && (not (is_branch f) || (f % 2 == 0))

pub both_true : (a b : Bool) → (a && b) ≡ true → (a ≡ true) × (b ≡ true)
both_true true b h = (refl, h)
both_true false b h = cc

-- a row is found only at a key of the list
row_key : (rs : List (ℕ × Function)) (key : ℕ) → list_all (λ (r : ℕ × Function). is_number r.0) rs ≡ true → is_some (row rs key) ≡ true → is_number key ≡ true
row_key [] key h found = cc
row_key (r ∷ rs) key h found =
    let parts = both_true (is_number r.0) (list_all (λ (r : ℕ × Function). is_number r.0) rs) h in
    elim (eqb_tells key r.0) [
      | inl e ↦ ap is_number e.1 ∙ parts.0
      | inr e ↦ row_key rs key parts.1 (rw e.0 at found)
    ]

pub number_of_row : (f x : ℕ) → is_some (function_of f x) ≡ true → is_number f ≡ true
unfolding function_of
number_of_row f x found =
    elim (eqb_tells f 0o074) [
      | inl e ↦ ap is_number e.1
      | inr e ↦ elim (eqb_tells f 0o160) [ inl e' ↦ ap is_number e'.1 | inr e' ↦ row_key by_f f refl (rw (e.0, e'.0) at found) ]
    ]

-- whether a function is that of a branch
abbrev pub is_jump : Function → Bool
is_jump (Branch condition) = true
is_jump Call = true
is_jump Exit = true
is_jump function = false

abbrev same_bool : Bool → Bool → Bool
same_bool true b = b
same_bool false b = not b

same_true : (a b : Bool) → same_bool a b ≡ true → a ≡ b
same_true true true h = refl
same_true true false h = cc
same_true false true h = cc
same_true false false h = refl

-- in each row whose key is its function number, the function is a branch if and only if the number is a branch's
row_kind : (rs : List (ℕ × Function)) (key : ℕ) (function : Function) → list_all (λ (r : ℕ × Function). same_bool (is_branch r.0) (is_jump r.1)) rs ≡ true → row rs key ≡ Some function → is_branch key ≡ is_jump function
row_kind [] key function h found = cc
row_kind (r ∷ rs) key function h found =
    let parts = both_true (same_bool (is_branch r.0) (is_jump r.1)) (list_all (λ (r : ℕ × Function). same_bool (is_branch r.0) (is_jump r.1)) rs) h in
    elim (eqb_tells key r.0) [
      | inl e ↦
          let is : Some r.1 ≡ Some function = rw e.0 at found in
          let same : r.1 ≡ function = cc in
          ap is_branch e.1 ∙ same_true (is_branch r.0) (is_jump r.1) parts.0 ∙ ap is_jump same
      | inr e ↦ row_kind rs key function parts.1 (rw e.0 at found)
    ]

-- if the function of every row has this kind, so has each function found
row_all : (rs : List (ℕ × Function)) (key : ℕ) (function : Function) (b : Bool) → list_all (λ (r : ℕ × Function). same_bool b (is_jump r.1)) rs ≡ true → row rs key ≡ Some function → b ≡ is_jump function
row_all [] key function b h found = cc
row_all (r ∷ rs) key function b h found =
    let parts = both_true (same_bool b (is_jump r.1)) (list_all (λ (r : ℕ × Function). same_bool b (is_jump r.1)) rs) h in
    elim (eqb_tells key r.0) [
      | inl e ↦
          let is : Some r.1 ≡ Some function = rw e.0 at found in
          let same : r.1 ≡ function = cc in
          same_true b (is_jump r.1) parts.0 ∙ ap is_jump same
      | inr e ↦ row_all rs key function b parts.1 (rw e.0 at found)
    ]

-- a function is a branch if and only if its number is a branch's
pub kind_of_function : (f x : ℕ) (function : Function) → function_of f x ≡ Some function → is_branch f ≡ is_jump function
unfolding function_of
kind_of_function f x function found =
    elim (eqb_tells f 0o074) [
      | inl e ↦ ap is_branch e.1 ∙ row_all branches_by_x x function true refl (rw e.0 at found)
      | inr e ↦ elim (eqb_tells f 0o160) [
        | inl e' ↦ ap is_branch e'.1 ∙ row_all texts_by_x x function false refl (rw (e.0, e'.0) at found)
        | inr e' ↦ row_kind by_f f function refl (rw (e.0, e'.0) at found)
      ]
    ]

-- a number that a row has is its own function's
number_itself : (n : ℕ) (b : Bool) → is_branch n ≡ b → is_number n ≡ true → (if b then n - n % 2 else n) ≡ n
number_itself n true is number =
    let parts = both_true (nat_lt n 128) (not (is_branch n) || (n % 2 == 0)) number in
    let even : n % 2 ≡ 0 = eqb-true _ _ (rw is at parts.1) in
    omega (arith, even)
number_itself n false is number = refl

pub number_of_function : (n x : ℕ) (function : Function) → function_of n x ≡ Some function → function_of (function_number n) x ≡ Some function
number_of_function n x function found =
    let some : is_some (function_of n x) ≡ true = ap is_some found in
    ap (λ (k : ℕ). function_of k x) (number_itself n (is_branch n) refl (number_of_row n x some)) ∙ found
