-- The free blocks that the search has found so far.
-- serves: least_free, put_least_free
use Rattle.std.proofs.Common.{◌≡◌, ℕ, zero, suc, ◌+◌, ◌-◌, ◌<◌, ◌≤◌, ◌⊎◌, List, [], ◌∷◌, ◌++◌, Bool, true, false, not, Some, length, take, drop, All, Contains, slice_get, get_or, refl, sym, ◌∙◌, ap, subst, inl, inr, arith, length-append, length-drop}
use Rattle.std.proofs.Math.Seq.{get_or-append_seam}
use Rattle.std.proofs.lemmas.Bool.{cases_lt}
use Rattle.std.proofs.lemmas.List.{get_or_append_left, get_or-drop}
use Rattle.std.proofs.lemmas.List.Elements.{All-push, Contains-append_left, Contains-push}
use Rattle.std.proofs.lemmas.List.Sums.{count_by_more_yes, count_by_more_no}
use Rattle.std.proofs.lemmas.Option.{slice_get-get_or, get_or_from_slice_get}
use Rattle.std.specs.List.Sorted.{IsStrictlyIncreasing}
use Rattle.g_base.specs.Limits.{first_copy_block}
use Rattle.g_blocks.specs.Flags.{free_flags, AreSetBefore}
use Rattle.g_blocks.specs.Pool.{IsFree}

-- these are the free blocks among the first of the pool
pub record AreFound (pool : List Bool) (seen : ℕ) (blocks : List ℕ) : Type 0 where
  pub count : length blocks ≡ free_flags (take seen pool)
  pub rising : IsStrictlyIncreasing blocks
  pub free : All (IsFree pool) blocks
  pub below : All (λ block. block < first_copy_block + seen) blocks
  pub all : (block : ℕ) → IsFree pool block → block < first_copy_block + seen → Contains blocks block

-- the block at the next place is the only one below the bound that wasn't below it before
below_or_next : (block seen : ℕ) → block < first_copy_block + (seen + 1) → (block < first_copy_block + seen) ⊎ (block ≡ first_copy_block + seen)
below_or_next block seen h = search arith

-- Appending a number greater than all others keeps the list strictly increasing.
rising-push : (numbers : List ℕ) (x : ℕ) → IsStrictlyIncreasing numbers → All (λ n. n < x) numbers → IsStrictlyIncreasing (numbers ++ x ∷ [])
rising-push numbers x rising below k h =
    let within : k < length numbers = omega (arith, length-append numbers (x ∷ []), h) in
    let first : get_or (numbers ++ x ∷ []) k 0 ≡ get_or numbers k 0 = get_or_append_left numbers (x ∷ []) 0 k within in
    elim (cases_lt (k + 1) (length numbers)) [
      | inl more ↦
          let second : get_or (numbers ++ x ∷ []) (k + 1) 0 ≡ get_or numbers (k + 1) 0 = get_or_append_left numbers (x ∷ []) 0 (k + 1) more in
          let rises : get_or numbers k 0 < get_or numbers (k + 1) 0 = rising k more in
          omega (arith, first, second, rises)
      | inr last ↦
          let end : k + 1 ≡ length numbers = omega arith in
          let second : get_or (numbers ++ x ∷ []) (k + 1) 0 ≡ x = subst (λ (i : ℕ). get_or (numbers ++ x ∷ []) i 0 ≡ x) (sym end) (get_or-append_seam numbers x [] 0) in
          let under : get_or numbers k 0 < x = below k 0 within in
          omega (arith, first, second, under)
    ]

-- The next block of the pool was free and was appended, or it was taken.
pub AreFound-free : (pool : List Bool) (seen : ℕ) (blocks : List ℕ) → AreFound pool seen blocks → seen < length pool → get_or pool seen false ≡ false → AreFound pool (seen + 1) (blocks ++ (first_copy_block + seen) ∷ [])
AreFound-free pool seen blocks found within is =
    let block = first_copy_block + seen in
    let passes : not (get_or pool seen false) ≡ true = ap not is in
    let more = count_by_more_yes not pool seen false within passes in
    let place : block - first_copy_block ≡ seen = omega arith in
    let here : slice_get pool seen ≡ Some false = slice_get-get_or pool seen false within ∙ ap Some is in
    let free : IsFree pool block = record { low = omega arith; flag = subst (λ i. slice_get pool i ≡ Some false) (sym place) here } in
    let earlier : All (λ b. b < first_copy_block + (seen + 1)) blocks = λ k d h. omega (arith, found.below k d h) in
    record {
      count = omega (arith, length-append blocks (block ∷ []), more, found.count);
      rising = rising-push blocks block found.rising found.below;
      free = All-push (IsFree pool) blocks block found.free free;
      below = All-push (λ b. b < first_copy_block + (seen + 1)) blocks block earlier (omega arith);
      all = λ other is_free h.
          elim (below_or_next other seen h) [
            | inl b ↦ Contains-append_left _ _ _ (found.all other is_free b)
            | inr e ↦ subst (Contains (blocks ++ block ∷ [])) (sym e) (Contains-push blocks block)
          ];
    }

pub AreFound-taken : (pool : List Bool) (seen : ℕ) (blocks : List ℕ) → AreFound pool seen blocks → seen < length pool → get_or pool seen false ≡ true → AreFound pool (seen + 1) blocks
AreFound-taken pool seen blocks found within is =
    let fails : not (get_or pool seen false) ≡ false = ap not is in
    let same = count_by_more_no not pool seen false within fails in
    record {
      count = omega (arith, same, found.count);
      rising = found.rising;
      free = found.free;
      below = λ k d h. omega (arith, found.below k d h);
      all = λ other is_free h.
          elim (below_or_next other seen h) [
            | inl b ↦ found.all other is_free b
            | inr e ↦
                let place : other - first_copy_block ≡ seen = omega arith in
                let clear : get_or pool seen false ≡ false = get_or_from_slice_get pool seen false false (subst (λ i. slice_get pool i ≡ Some false) place is_free.flag) in
                absurd (cc)
          ];
    }

-- If all blocks before a place are taken, the search finds none there.
AreFound-front : (pool : List Bool) (n : ℕ) → n ≤ length pool → ((i : ℕ) → i < n → slice_get pool i ≡ Some true) → AreFound pool n []
AreFound-front pool zero within each = record {
  count = refl;
  rising = λ k h. absurd (omega (arith, h));
  free = λ k d h. absurd (omega (arith, h));
  below = λ k d h. absurd (omega (arith, h));
  all = λ block is_free h. absurd (omega (arith, is_free.low, h));
}
AreFound-front pool (suc n) within each =
    let next : n + 1 ≡ suc n = omega arith in
    let is : get_or pool n false ≡ true = get_or_from_slice_get pool n true false (each n (omega arith)) in
    let before = AreFound-front pool n (omega arith) (λ i h. each i (omega (arith, h))) in
    subst (λ (m : ℕ). AreFound pool m []) next (AreFound-taken pool n [] before (omega arith) is)

pub AreFound-before : (pool : List Bool) (low : ℕ) → AreSetBefore low pool → AreFound pool (low + 0) []
AreFound-before pool low before =
    let same : low ≡ low + 0 = omega arith in
    subst (λ (m : ℕ). AreFound pool m []) same (AreFound-front pool low before.within before.each)

-- The same step, by the place within the flags after the first ones.
module _ (pool slice : List Bool) (low place : ℕ) (blocks : List ℕ)
    (is_slice : slice ≡ drop low pool) (found : AreFound pool (low + place) blocks) (within : place < length slice) where
  within_pool : low + place < length pool
  within_pool = omega (arith, length-drop low pool, ap length is_slice, within)

  one_more_place : low + place + 1 ≡ low + (place + 1)
  one_more_place = omega arith

  same_flag : get_or pool (low + place) false ≡ get_or slice place false
  same_flag = sym (get_or-drop low pool place false) ∙ ap (λ (flags : List Bool). get_or flags place false) (sym is_slice)

  pub AreFound-next_free : get_or slice place false ≡ false → AreFound pool (low + (place + 1)) (blocks ++ (first_copy_block + (low + place)) ∷ [])
  AreFound-next_free is =
      subst (λ (n : ℕ). AreFound pool n (blocks ++ (first_copy_block + (low + place)) ∷ [])) one_more_place
      (AreFound-free pool (low + place) blocks found within_pool (same_flag ∙ is))

  pub AreFound-next_taken : get_or slice place false ≡ true → AreFound pool (low + (place + 1)) blocks
  AreFound-next_taken is =
      subst (λ (n : ℕ). AreFound pool n blocks) one_more_place
      (AreFound-taken pool (low + place) blocks found within_pool (same_flag ∙ is))
