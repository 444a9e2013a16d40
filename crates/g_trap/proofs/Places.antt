-- The place of a user's pair among pairs sorted by user number, and the effect of inserting or removing it there.
-- serves: give (full, kept, ok), is_rising, other_modes, place_of (absent, found)
use Rattle.std.proofs.Common.{◌≡◌, ℕ, zero, suc, ◌+◌, ◌<◌, ◌≤◌, ◌==◌, Bool, true, false, cond, not, nat_lt, List, [], ◌∷◌, ◌++◌, take, drop, length, length-set, get_or, set, insert, remove, filter, None, Some, Result, Ok, Err, IfOk, IfErr, refl, sym, ap, subst, ◌∙◌, arith, T, inl, inr}
use Rattle.std.specs.Ordering.{nat_cmp, ordering_index}
use Rattle.std.proofs.Math.Seq.{take-length, drop-length}
use Rattle.std.proofs.lemmas.List.{append-nil}
use Rattle.std.specs.List.{list_all, IsAllAdjacentAnswer, AllAdjacentBelow, refill}
use Rattle.std.specs.List.Sorted.{IsSearchInRange, IsBinarySearchResult, IsNonDecreasingBy}
use Rattle.std.specs.FinMap.{find, put, is_sorted}
use Rattle.std.specs.FinMap.Entries.{below_all, is_sorted-put, is_sorted-where_key}
use Rattle.std.specs.Cmp.{nat_cmp_total}
use Rattle.std.proofs.lemmas.Bool.{cases_lt}
use Rattle.std.proofs.lemmas.Bool.Decides.{nat_tests}
use Rattle.std.proofs.lemmas.Cmp.{ranked}
use Rattle.g_trap.specs.Places.{StandsAt, FitsAt}
use Rattle.g_trap.specs.TrapList.{with_other, IsOthers}

abbrev pub others_than : ℕ → List (ℕ × ℕ) → List (ℕ × ℕ)
others_than user es = filter (λ pair. not (pair.0 == user)) es

abbrev pub is_used : List (ℕ × ℕ) → Bool
is_used es = list_all (λ pair. not (pair.1 == 0)) es

abbrev pub are_sets : List (ℕ × ℕ) → Bool
are_sets es = list_all (λ pair. nat_lt pair.1 32) es

below_all-is : (x : ℕ) (es : List (ℕ × ℕ)) → below_all nat_cmp x es ≡ list_all (λ pair. nat_lt x pair.0) es
below_all-is x [] = refl
below_all-is x (e ∷ es) = let more = below_all-is x es in grind (arith, nat_tests)

-- the first number is below all others, and these rise
rest_rises : (e : ℕ × ℕ) (es : List (ℕ × ℕ)) → is_sorted nat_cmp (e ∷ es) ≡ true → (list_all (λ pair. nat_lt e.0 pair.0) es ≡ true) × (is_sorted nat_cmp es ≡ true)
rest_rises e es s = (sym (below_all-is e.0 es) ∙ grind (arith, nat_tests), grind (arith, nat_tests))

above_at : (x : ℕ) (es : List (ℕ × ℕ)) (k : ℕ) (d : ℕ × ℕ) → list_all (λ pair. nat_lt x pair.0) es ≡ true → k < length es → x < (get_or es k d).0
above_at x [] k d b h = omega arith
above_at x (e ∷ es) zero d b h = grind (arith, nat_tests)
above_at x (e ∷ es) (suc k) d b h = above_at x es k d (grind (arith, nat_tests)) (omega arith)

rises : (es : List (ℕ × ℕ)) (i j : ℕ) (d : ℕ × ℕ) → is_sorted nat_cmp es ≡ true → i < j → j < length es → (get_or es i d).0 < (get_or es j d).0
rises [] i j d s lt h = omega arith
rises (e ∷ es) i zero d s lt h = omega arith
rises (e ∷ es) zero (suc j) d s lt h = above_at e.0 es j d (rest_rises e es s).0 (omega arith)
rises (e ∷ es) (suc i) (suc j) d s lt h = rises es i j d (rest_rises e es s).1 (omega arith) (omega arith)

-- what a search among them finds
module _ (es : List (ℕ × ℕ)) (s : is_sorted nat_cmp es ≡ true) (user : ℕ) where
  rises_to : (i j : ℕ) (d : ℕ × ℕ) → i ≤ j → j < length es → (get_or es i d).0 ≤ (get_or es j d).0
  rises_to i j d le within =
      elim (cases_lt i j) as (λ _. (get_or es i d).0 ≤ (get_or es j d).0) [
        | inl lt ↦ let rising = rises es i j d s lt within in omega (arith, rising)
        | inr ge ↦ let same : i ≡ j = omega arith in subst (λ k. (get_or es i d).0 ≤ (get_or es k d).0) same (omega arith)
      ]

  compared_rise : IsNonDecreasingBy (λ pair. ordering_index (nat_cmp pair.0 user)) es
  compared_rise = λ i j d le within. let up = rises_to i j d le within in grind (arith, nat_tests)

  pub place_found : (r : Result ℕ ℕ) → IsSearchInRange r (length es) → IsBinarySearchResult (λ pair. nat_cmp pair.0 user) es r → IfOk r (StandsAt user es)
  place_found (Ok place) within equal = record { within = within; has = λ d. ranked _ user _ (sym (equal d)) }
  place_found (Err place) within parted = tt

  pub place_absent : (r : Result ℕ ℕ) → IsSearchInRange r (length es) → IsBinarySearchResult (λ pair. nat_cmp pair.0 user) es r → IfErr r (FitsAt user es)
  place_absent (Ok place) within equal = tt
  place_absent (Err place) within parted = record {
    within = within;
    below = λ k d low high. ranked _ user _ (sym ((parted compared_rise).0 k d low high));
    above = λ k d low high. ranked _ user _ (sym ((parted compared_rise).1 k d low high));
  }

-- the same list, by another name
pub stands_in : (vs es : List (ℕ × ℕ)) (user k : ℕ) → vs ≡ es → StandsAt user vs k → StandsAt user es k
stands_in vs es user k e at = subst (λ (xs : List (ℕ × ℕ)). StandsAt user xs k) e at

pub fits_in : (vs es : List (ℕ × ℕ)) (user k : ℕ) → vs ≡ es → FitsAt user vs k → FitsAt user es k
fits_in vs es user k e at = subst (λ (xs : List (ℕ × ℕ)). FitsAt user xs k) e at

-- The pair is at the place.
stands_later : (e : ℕ × ℕ) (es : List (ℕ × ℕ)) (user k : ℕ) → StandsAt user (e ∷ es) (suc k) → StandsAt user es k
stands_later e es user k at = record { within = let w = at.within in omega arith; has = λ d. at.has d }

pub found : (es : List (ℕ × ℕ)) (user k : ℕ) (d : ℕ × ℕ) → is_sorted nat_cmp es ≡ true → StandsAt user es k → find nat_cmp user es ≡ Some (get_or es k d).1
found [] user k d s at = absurd (let w = at.within in omega arith)
found (e ∷ es) user zero d s at = let here = at.has d in grind (arith, nat_tests)
found (e ∷ es) user (suc k) d s at =
    let later = found es user k d (rest_rises e es s).1 (stands_later e es user k at) in
    let below : e.0 < user = let w = at.within in subst (λ n. e.0 < n) (at.has d) (above_at e.0 es k d (rest_rises e es s).0 (omega arith)) in
    grind (arith, nat_tests)

all_above : (user x : ℕ) (es : List (ℕ × ℕ)) → list_all (λ pair. nat_lt x pair.0) es ≡ true → user ≤ x → others_than user es ≡ es
all_above user x [] b h = refl
all_above user x (e ∷ es) b h = let more = all_above user x es in grind (arith, nat_tests)

pub dropped : (es : List (ℕ × ℕ)) (user k : ℕ) → is_sorted nat_cmp es ≡ true → StandsAt user es k → others_than user es ≡ remove es k
dropped [] user k s at = absurd (let w = at.within in omega arith)
dropped (e ∷ es) user zero s at =
    let here = at.has e in
    let rest = all_above user e.0 es (rest_rises e es s).0 (omega arith) in
    grind (arith, nat_tests)
dropped (e ∷ es) user (suc k) s at =
    let later = dropped es user k (rest_rises e es s).1 (stands_later e es user k at) in
    let below : e.0 < user = let w = at.within in subst (λ n. e.0 < n) (at.has e) (above_at e.0 es k e (rest_rises e es s).0 (omega arith)) in
    grind (arith, nat_tests)

pub replaced : (es : List (ℕ × ℕ)) (user modes k : ℕ) → is_sorted nat_cmp es ≡ true → StandsAt user es k → put nat_cmp user modes es ≡ set es k (user, modes)
replaced [] user modes k s at = absurd (let w = at.within in omega arith)
replaced (e ∷ es) user modes zero s at = let here = at.has e in grind (arith, nat_tests)
replaced (e ∷ es) user modes (suc k) s at =
    let later = replaced es user modes k (rest_rises e es s).1 (stands_later e es user k at) in
    let below : e.0 < user = let w = at.within in subst (λ n. e.0 < n) (at.has e) (above_at e.0 es k e (rest_rises e es s).0 (omega arith)) in
    grind (arith, nat_tests)

-- No pair is at the place, but one would fit.
fits_later : (e : ℕ × ℕ) (es : List (ℕ × ℕ)) (user k : ℕ) → FitsAt user (e ∷ es) (suc k) → FitsAt user es k
fits_later e es user k at = record {
  within = let w = at.within in omega arith;
  below = λ i d low high. at.below (suc i) d (omega arith) (omega arith);
  above = λ i d low high. at.above (suc i) d (omega arith) (omega arith);
}

none_above : (es : List (ℕ × ℕ)) (user : ℕ) → ((k : ℕ) (d : ℕ × ℕ) → k < length es → user < (get_or es k d).0) → (find nat_cmp user es ≡ None) × (others_than user es ≡ es)
none_above [] user all = (refl, refl)
none_above (e ∷ es) user all =
    let first : user < e.0 = all zero e (omega arith) in
    let rest = none_above es user (λ k d h. all (suc k) d (omega arith)) in
    (let none = rest.0 in grind (arith, nat_tests), let same = rest.1 in grind (arith, nat_tests))

first_above : (e : ℕ × ℕ) (es : List (ℕ × ℕ)) (user : ℕ) → FitsAt user (e ∷ es) zero → user < e.0
first_above e es user at = at.above zero e (omega arith) (omega arith)

none_there : (es : List (ℕ × ℕ)) (user k : ℕ) → FitsAt user es k → (find nat_cmp user es ≡ None) × (others_than user es ≡ es)
none_there es user zero at = none_above es user (λ k d h. at.above k d (omega arith) h)
none_there [] user (suc k) at = absurd (let w = at.within in omega arith)
none_there (e ∷ es) user (suc k) at =
    let below : e.0 < user = at.below zero e (omega arith) (omega arith) in
    let later = none_there es user k (fits_later e es user k at) in
    (let none = later.0 in grind (arith, nat_tests), let same = later.1 in grind (arith, nat_tests))

pub absent : (es : List (ℕ × ℕ)) (user k : ℕ) → FitsAt user es k → find nat_cmp user es ≡ None
absent es user k at = (none_there es user k at).0

pub drop_absent : (es : List (ℕ × ℕ)) (user k : ℕ) → FitsAt user es k → others_than user es ≡ es
drop_absent es user k at = (none_there es user k at).1

pub placed : (es : List (ℕ × ℕ)) (user modes k : ℕ) → FitsAt user es k → put nat_cmp user modes es ≡ insert es k (user, modes)
placed [] user modes zero at = refl
placed [] user modes (suc k) at = absurd (let w = at.within in omega arith)
placed (e ∷ es) user modes zero at = let first = first_above e es user at in grind (arith, nat_tests)
placed (e ∷ es) user modes (suc k) at =
    let below : e.0 < user = at.below zero e (omega arith) (omega arith) in
    let later = placed es user modes k (fits_later e es user k at) in
    grind (arith, nat_tests)

-- Numbers are strictly increasing if each is less than the next.
below_first : (x : ℕ) (e : ℕ × ℕ) (es : List (ℕ × ℕ)) → x < e.0 → list_all (λ pair. nat_lt e.0 pair.0) es ≡ true → list_all (λ pair. nat_lt x pair.0) es ≡ true
below_first x e [] h b = refl
below_first x e (f ∷ es) h b = let more = below_first x e es h in grind (arith, nat_tests)

suc_more : (k : ℕ) → suc k + 1 ≡ suc (k + 1)
suc_more k = omega arith

all_rise : (es : List (ℕ × ℕ)) → AllAdjacentBelow (λ p q. true ≡ nat_lt p.0 q.0) es (length es) → is_sorted nat_cmp es ≡ true
all_rise [] up = refl
all_rise (e ∷ []) up = refl
all_rise (e ∷ f ∷ es) up =
    let rest : is_sorted nat_cmp (f ∷ es) ≡ true = all_rise (f ∷ es) (λ k d h. subst (λ n. true ≡ nat_lt (get_or (f ∷ es) k d).0 (get_or (e ∷ f ∷ es) n d).0) (suc_more k) (up (suc k) d (omega arith))) in
    let next = up zero e (omega arith) in
    let step : e.0 < f.0 = grind (arith, nat_tests) in
    let beyond = below_first e.0 f es step (rest_rises f es rest).0 in
    let all = below_all-is e.0 es in
    grind (arith, nat_tests)

pub rising_answer : (es : List (ℕ × ℕ)) (r : Bool) → IsAllAdjacentAnswer (λ p q b. b ≡ nat_lt p.0 q.0) es r → r ≡ is_sorted nat_cmp es
rising_answer es true up = sym (all_rise es up)
rising_answer es false (k, within, apart) =
    elim (is_sorted nat_cmp es) as (λ b. is_sorted nat_cmp es ≡ b → false ≡ b) [
      | true ↦ λ s. absurd (let up = rises es k (k + 1) (0, 0) s (omega arith) within in let no = apart (0, 0) in grind (arith, nat_tests))
      | false ↦ λ _. refl
    ] refl

from_T : (b : Bool) → T b → b ≡ true
from_T true t = refl
from_T false t = absurd t

is_used-filter : (p : ℕ × ℕ → Bool) (es : List (ℕ × ℕ)) → is_used es ≡ true → is_used (filter p es) ≡ true
is_used-filter p [] u = refl
is_used-filter p (e ∷ es) u = let more = is_used-filter p es in grind (arith, nat_tests)

is_used-put : (user modes : ℕ) (es : List (ℕ × ℕ)) → (modes == 0) ≡ false → is_used es ≡ true → is_used (put nat_cmp user modes es) ≡ true
is_used-put user modes [] m u = grind (arith, nat_tests)
is_used-put user modes (e ∷ es) m u = let more = is_used-put user modes es m in grind (arith, nat_tests)

are_sets-filter : (p : ℕ × ℕ → Bool) (es : List (ℕ × ℕ)) → are_sets es ≡ true → are_sets (filter p es) ≡ true
are_sets-filter p [] u = refl
are_sets-filter p (e ∷ es) u = let more = are_sets-filter p es in grind (arith, nat_tests)

are_sets-put : (user modes : ℕ) (es : List (ℕ × ℕ)) → modes < 32 → are_sets es ≡ true → are_sets (put nat_cmp user modes es) ≡ true
are_sets-put user modes [] m u = grind (arith, nat_tests)
are_sets-put user modes (e ∷ es) m u = let more = are_sets-put user modes es m in grind (arith, nat_tests)

-- The pairs after a change are valid as a file's other users, if there are at most 8.
pub with_other-IsOthers : (es fs : List (ℕ × ℕ)) (user modes : ℕ) → fs ≡ with_other es user modes → IsOthers es → modes < 32 → length fs ≤ 8 → IsOthers fs
with_other-IsOthers es fs user modes e o below few = record {
  rising = rw e (elim (modes == 0) as (λ b. is_sorted nat_cmp (cond b (others_than user es) (put nat_cmp user modes es)) ≡ true) [
    | true ↦ from_T _ (is_sorted-where_key nat_cmp (λ q. not (q == user)) es (subst T (sym o.rising) tt))
    | false ↦ from_T _ (is_sorted-put nat_cmp nat_cmp_total user modes es (subst T (sym o.rising) tt))
  ]);
  used = rw e (elim (modes == 0) as (λ b. (modes == 0) ≡ b → is_used (cond b (others_than user es) (put nat_cmp user modes es)) ≡ true) [
    | true ↦ λ z. is_used-filter _ es o.used
    | false ↦ λ z. is_used-put user modes es z o.used
  ] refl);
  sets = rw e (elim (modes == 0) as (λ b. are_sets (cond b (others_than user es) (put nat_cmp user modes es)) ≡ true) [
    | true ↦ are_sets-filter _ es o.sets
    | false ↦ are_sets-put user modes es below o.sets
  ]);
  few = few;
}

-- The result of each change, by whether the new set is empty.
by_empty : (es : List (ℕ × ℕ)) (user modes : ℕ) (b : Bool) → b ≡ (modes == 0) → cond b (others_than user es) (put nat_cmp user modes es) ≡ with_other es user modes
by_empty es user modes b e = ap (λ t. cond t (others_than user es) (put nat_cmp user modes es)) e

pub dropped_there : (es : List (ℕ × ℕ)) (user modes k : ℕ) → is_sorted nat_cmp es ≡ true → StandsAt user es k → true ≡ (modes == 0) → remove es k ≡ with_other es user modes
dropped_there es user modes k s at e = sym (dropped es user k s at) ∙ by_empty es user modes true e

pub replaced_there : (es : List (ℕ × ℕ)) (user modes k : ℕ) → is_sorted nat_cmp es ≡ true → StandsAt user es k → false ≡ (modes == 0) → set es k (user, modes) ≡ with_other es user modes
replaced_there es user modes k s at e = sym (replaced es user modes k s at) ∙ by_empty es user modes false e

refill_same : (es ws : List (ℕ × ℕ)) → length ws ≡ length es → refill (length es) es ws ≡ ws
refill_same es ws e =
    ap (λ (n : ℕ). take (length es) (ws ++ drop n es)) e ∙ ap (λ (r : List (ℕ × ℕ)). take (length es) (ws ++ r)) (drop-length es)
    ∙ ap (λ (n : ℕ). take n (ws ++ [])) (sym e) ∙ ap (take (length ws)) (append-nil ws) ∙ take-length ws

-- A pair that replaces an existing one.
pub written_there : (es ws : List (ℕ × ℕ)) (user modes k : ℕ) (d : ℕ × ℕ) → is_sorted nat_cmp es ≡ true → StandsAt user es k → ws ≡ es → false ≡ (modes == 0)
    → refill (length es) es (set ws k ((get_or ws k d).0, modes)) ≡ with_other es user modes
written_there es ws user modes k d s at e some =
    subst (λ (vs : List (ℕ × ℕ)). refill (length es) es (set vs k ((get_or vs k d).0, modes)) ≡ with_other es user modes) (sym e)
    (refill_same es (set es k ((get_or es k d).0, modes)) (simp length-set refl)
    ∙ ap (λ (u : ℕ). set es k (u, modes)) (at.has d) ∙ replaced_there es user modes k s at some)

pub stays_absent : (es : List (ℕ × ℕ)) (user modes k : ℕ) → FitsAt user es k → true ≡ (modes == 0) → es ≡ with_other es user modes
stays_absent es user modes k at e = sym (drop_absent es user k at) ∙ by_empty es user modes true e

pub placed_absent : (es : List (ℕ × ℕ)) (user modes k : ℕ) → FitsAt user es k → false ≡ (modes == 0) → insert es k (user, modes) ≡ with_other es user modes
placed_absent es user modes k at e = sym (placed es user modes k at) ∙ by_empty es user modes false e
