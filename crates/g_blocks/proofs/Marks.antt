-- One flag after another: what a loop that marks blocks has changed so far.
-- serves: all_free, give, least_free, mark_all_taken, mark_free (count), mark_taken (count), new (ok), put_least_free, take, take_into, Between, and 2 more
use Rattle.std.proofs.Common.{◌≡◌, ◌≢◌, ℕ, zero, suc, ◌+◌, ◌-◌, ◌*◌, ◌<◌, ◌≤◌, List, [], ◌∷◌, ◌++◌, Bool, true, false, not, cond, Some, length, take, drop, All, AllPairs, Contains, slice_get, get_or, replicate, refl, sym, ◌∙◌, ap, subst, inl, inr, arith, length-set, length-take, length-drop}
use Rattle.std.proofs.Math.ListN.{set}
use Rattle.std.proofs.lemmas.List.{take_all, take_more, get_or-set_same, get_or-take, get_or_default, get_or-replicate, length-replicate}
use Rattle.std.proofs.lemmas.List.Folds.{sum_by-replicate}
use Rattle.std.proofs.lemmas.List.Elements.{All-more, Contains-append_left, Contains-push}
use Rattle.std.specs.List.Sorted.{IsStrictlyIncreasing}
use Rattle.std.proofs.lemmas.Bool.{cases_eq}
use Rattle.std.proofs.lemmas.List.Kept.{AllPairs-from_increasing}
use Rattle.std.proofs.lemmas.List.Sums.{sum_by-set}
use Rattle.std.proofs.lemmas.Option.{slice_get-get_or, get_or_from_slice_get, slice_get_within}
use Rattle.g_base.specs.Limits.{first_copy_block}
use Rattle.g_blocks.specs.Flags.{free_flags, AreSetBefore}
use Rattle.g_blocks.specs.Pool.{IsFree, IsTaken, ChangesOnly, HasTaken, HasGiven, IsFresh}

pub slice_get-set_same : {X : Type 0} (xs : List X) (i : ℕ) (x : X) → i < length xs → slice_get (set xs i x) i ≡ Some x
slice_get-set_same xs i x below =
    let within : i < length (set xs i x) = omega (arith, length-set xs i x) in
    slice_get-get_or (set xs i x) i x within ∙ ap Some (get_or-set_same xs i x x below)

pub slice_get-set_other : {X : Type 0} (xs : List X) (i j : ℕ) (x : X) → j ≢ i → slice_get (set xs i x) j ≡ slice_get xs j
slice_get-set_other [] i j x apart = refl
slice_get-set_other (y ∷ ys) zero zero x apart = absurd (apart refl)
slice_get-set_other (y ∷ ys) zero (suc j) x apart = refl
slice_get-set_other (y ∷ ys) (suc i) zero x apart = refl
slice_get-set_other (y ∷ ys) (suc i) (suc j) x apart = slice_get-set_other ys i j x (λ e. apart (ap suc e))

-- what one flag adds to the count
abbrev number_free : Bool → ℕ
number_free flag = cond (not flag) 1 0

-- how many are free once the flag of a free block is set, and once that of a taken one is cleared
pub free_flags-taken : (flags : List Bool) (i : ℕ) → slice_get flags i ≡ Some false → free_flags (set flags i true) + 1 ≡ free_flags flags
free_flags-taken flags i is =
    let moved = sum_by-set number_free flags i true false (slice_get_within flags i false is) in
    let was : get_or flags i false ≡ false = get_or_from_slice_get flags i false false is in
    let one = ap number_free was in
    omega (arith, moved, one)

pub free_flags-none : (flags : List Bool) (n : ℕ) → flags ≡ replicate n false → n ≡ free_flags flags
free_flags-none flags n is =
    let all : free_flags flags ≡ n * 1 = ap free_flags is ∙ sum_by-replicate number_free n false in
    omega (arith, all)

pub free_flags-given : (flags : List Bool) (i : ℕ) → slice_get flags i ≡ Some true → free_flags (set flags i false) ≡ free_flags flags + 1
free_flags-given flags i is =
    let moved = sum_by-set number_free flags i false false (slice_get_within flags i true is) in
    let was : get_or flags i false ≡ true = get_or_from_slice_get flags i true false is in
    let none = ap number_free was in
    omega (arith, moved, none)

-- a block of the list isn't among those before it
not-before : (blocks : List ℕ) (i : ℕ) → AllPairs (λ one other. one ≢ other) blocks → i < length blocks → Contains (take i blocks) (get_or blocks i 0) → ⊥
not-before blocks i apart below (k, within, is) =
    let before : k < i = omega (arith, length-take i blocks) in
    let here : k < length blocks = omega arith in
    let block = get_or blocks i 0 in
    apart k i 0 before below (get_or_default blocks k 0 block here ∙ sym (get_or-take i blocks k block before) ∙ is)

-- a block that isn't among the first i of the list has its old flag
pub flag-still : (blocks : List ℕ) (i : ℕ) (old now : List Bool) → ChangesOnly (take i blocks) old now → AllPairs (λ one other. one ≢ other) blocks → i < length blocks → first_copy_block ≤ get_or blocks i 0 → slice_get now (get_or blocks i 0 - first_copy_block) ≡ slice_get old (get_or blocks i 0 - first_copy_block)
flag-still blocks i old now changes apart below low =
    let number : first_copy_block + (get_or blocks i 0 - first_copy_block) ≡ get_or blocks i 0 = omega arith in
    changes.others (get_or blocks i 0 - first_copy_block) (λ among. not-before blocks i apart below (subst (Contains (take i blocks)) number among))

-- one block more
ChangesOnly-more : (blocks : List ℕ) (i : ℕ) (old now : List Bool) (flag : Bool) → ChangesOnly (take i blocks) old now → i < length blocks → first_copy_block ≤ get_or blocks i 0 → ChangesOnly (take (i + 1) blocks) old (set now (get_or blocks i 0 - first_copy_block) flag)
ChangesOnly-more blocks i old now flag changes below low =
    let block = get_or blocks i 0 in
    let more = take_more blocks i 0 below in
    record {
      size = length-set now _ flag ∙ changes.size;
      others = λ place apart.
          let earlier : Contains (take i blocks) (first_copy_block + place) → ⊥ = λ among. apart (subst (λ bs. Contains bs (first_copy_block + place)) (sym more) (Contains-append_left _ _ _ among)) in
          let other : place ≢ block - first_copy_block = λ same.
          let number : block ≡ first_copy_block + place = omega arith in
          apart (subst (λ bs. Contains bs (first_copy_block + place)) (sym more) (subst (Contains (take i blocks ++ block ∷ [])) number (Contains-push (take i blocks) block))) in
          slice_get-set_other now (block - first_copy_block) place flag other ∙ changes.others place earlier;
    }

-- a flag that is set stays set when another is set or it is set again
pub flag-kept : (flags : List Bool) (i j : ℕ) (flag : Bool) → i < length flags → slice_get flags j ≡ Some flag → slice_get (set flags i flag) j ≡ Some flag
flag-kept flags i j flag below is =
    elim (cases_eq j i) [
      | inl same ↦ subst (λ k. slice_get (set flags i flag) k ≡ Some flag) (sym same) (slice_get-set_same flags i flag below)
      | inr apart ↦ slice_get-set_other flags i j flag apart ∙ is
    ]

pub HasTaken-more : (blocks : List ℕ) (i : ℕ) (old now : List Bool) → HasTaken (take i blocks) old now → i < length blocks → IsFree now (get_or blocks i 0) → HasTaken (take (i + 1) blocks) old (set now (get_or blocks i 0 - first_copy_block) true)
HasTaken-more blocks i old now taken below free =
    let place = get_or blocks i 0 - first_copy_block in
    let within : place < length now = slice_get_within now place false free.flag in
    let count = free_flags-taken now place free.flag in
    let earlier : All (IsTaken (set now place true)) (take i blocks) = λ k d h.
    record { low = (taken.taken k d h).low; flag = flag-kept now place _ true within (taken.taken k d h).flag } in
    let here : IsTaken (set now place true) (get_or blocks i 0) = record { low = free.low; flag = slice_get-set_same now place true within } in
    record {
      changes = ChangesOnly-more blocks i old now true taken.changes below free.low;
      taken = All-more (IsTaken (set now place true)) blocks i 0 below earlier here;
      count = omega (arith, count, taken.count, length-take (i + 1) blocks, length-take i blocks);
    }

pub HasGiven-more : (blocks : List ℕ) (i : ℕ) (old now : List Bool) → HasGiven (take i blocks) old now → i < length blocks → IsTaken now (get_or blocks i 0) → HasGiven (take (i + 1) blocks) old (set now (get_or blocks i 0 - first_copy_block) false)
HasGiven-more blocks i old now given below taken =
    let place = get_or blocks i 0 - first_copy_block in
    let within : place < length now = slice_get_within now place true taken.flag in
    let count = free_flags-given now place taken.flag in
    let earlier : All (IsFree (set now place false)) (take i blocks) = λ k d h.
    record { low = (given.free k d h).low; flag = flag-kept now place _ false within (given.free k d h).flag } in
    let here : IsFree (set now place false) (get_or blocks i 0) = record { low = taken.low; flag = slice_get-set_same now place false within } in
    record {
      changes = ChangesOnly-more blocks i old now false given.changes below taken.low;
      free = All-more (IsFree (set now place false)) blocks i 0 below earlier here;
      count = omega (arith, count, given.count, length-take (i + 1) blocks, length-take i blocks);
    }

-- No block before the start of the search is free: after a flag is set, and after one is cleared.
AreSetBefore-set : (low : ℕ) (flags : List Bool) (i : ℕ) → i < length flags → AreSetBefore low flags → AreSetBefore low (set flags i true)
AreSetBefore-set low flags i below before = record {
  within = omega (arith, length-set flags i true, before.within);
  each = λ j h. flag-kept flags i j true below (before.each j h);
}

AreSetBefore-cleared : (low now : ℕ) (flags : List Bool) (i : ℕ) → now ≤ low → now ≤ i
    → AreSetBefore low flags → AreSetBefore now (set flags i false)
AreSetBefore-cleared low now flags i lower none before = record {
  within = omega (arith, length-set flags i false, before.within);
  each = λ j h. slice_get-set_other flags i j false (omega (arith, h)) ∙ before.each j (omega (arith, h));
}

-- No flag; one more that is set; the flags after the place.
pub AreSetBefore-none : (flags : List Bool) → AreSetBefore 0 flags
AreSetBefore-none flags = record { within = omega arith; each = λ j h. absurd (omega (arith, h)) }

pub slice_from : {X : Type 0} (n : ℕ) (xs : List X) → take (length xs - n) (drop n xs) ≡ drop n xs
slice_from n xs = take_all (length xs - n) (drop n xs) (omega (arith, length-drop n xs))

-- The number of free flags when a free block is taken, and when a taken one is freed.
pub count-taken : (free low : ℕ) (flags pool : List Bool) (i : ℕ) → flags ≡ pool → slice_get pool i ≡ Some false
    → (free ≡ free_flags flags) × (2177 + length flags ≤ 1_048_576) × AreSetBefore low flags
    → (free - 1 ≡ free_flags (set flags i true)) × (2177 + length (set flags i true) ≤ 1_048_576) × AreSetBefore low (set flags i true)
count-taken free low flags pool i same is (counted, small, before) =
    let clear = subst (λ fs. slice_get fs i ≡ Some false) (sym same) is in
    let count = free_flags-taken flags i clear in
    let set_before = AreSetBefore-set low flags i (slice_get_within flags i false clear) before in
    (omega (arith, count, counted), omega (arith, small, length-set flags i true), set_before)

pub count-given : (free low now : ℕ) (flags pool : List Bool) (i : ℕ) → flags ≡ pool → slice_get pool i ≡ Some true
    → now ≤ low → now ≤ i → (free ≡ free_flags flags) × (2177 + length flags ≤ 1_048_576) × AreSetBefore low flags
    → (free + 1 ≡ free_flags (set flags i false)) × (2177 + length (set flags i false) ≤ 1_048_576) × AreSetBefore now (set flags i false)
count-given free low now flags pool i same is lower none (counted, small, before) =
    let count = free_flags-given flags i (subst (λ fs. slice_get fs i ≡ Some true) (sym same) is) in
    let set_before = AreSetBefore-cleared low now flags i lower none before in
    (omega (arith, count, counted), omega (arith, small, length-set flags i false), set_before)

pub free_flags-some : (flags pool : List Bool) (i : ℕ) → flags ≡ pool → slice_get pool i ≡ Some false → 1 ≤ free_flags flags
free_flags-some flags pool i same is =
    omega (arith, free_flags-taken flags i (subst (λ fs. slice_get fs i ≡ Some false) (sym same) is))

pub free_count-taken : (flags pool : List Bool) (i : ℕ) → flags ≡ pool → slice_get pool i ≡ Some false → free_flags (set flags i true) + 1 ≡ free_flags pool
free_count-taken flags pool i same is = free_flags-taken flags i (subst (λ fs. slice_get fs i ≡ Some false) (sym same) is) ∙ ap free_flags same

pub free_count-given : (flags pool : List Bool) (i : ℕ) → flags ≡ pool → slice_get pool i ≡ Some true → free_flags (set flags i false) ≡ free_flags pool + 1
free_count-given flags pool i same is = free_flags-given flags i (subst (λ fs. slice_get fs i ≡ Some true) (sym same) is) ∙ ap (λ fs. free_flags fs + 1) same

-- The next block of the list still has the flag that it had before the loop.
pub IsTaken-still : (blocks : List ℕ) (i : ℕ) (old now : List Bool) → HasGiven (take i blocks) old now → AllPairs (λ one other. one ≢ other) blocks → All (IsTaken old) blocks → i < length blocks → IsTaken now (get_or blocks i 0)
IsTaken-still blocks i old now given apart taken below =
    let is = taken i 0 below in
    record { low = is.low; flag = flag-still blocks i old now given.changes apart below is.low ∙ is.flag }

pub IsFree-still : (blocks : List ℕ) (i : ℕ) (old now : List Bool) → HasTaken (take i blocks) old now → AllPairs (λ one other. one ≢ other) blocks → All (IsFree old) blocks → i < length blocks → IsFree now (get_or blocks i 0)
IsFree-still blocks i old now taken apart free below =
    let is = free i 0 below in
    record { low = is.low; flag = flag-still blocks i old now taken.changes apart below is.low ∙ is.flag }

-- and joins the first of the list
pub HasGiven-next : (blocks : List ℕ) (i : ℕ) (old now after : List Bool) → HasGiven (take i blocks) old now → AllPairs (λ one other. one ≢ other) blocks → All (IsTaken old) blocks → i < length blocks
    → after ≡ set now (get_or blocks i 0 - first_copy_block) false → HasGiven (take (i + 1) blocks) old after
HasGiven-next blocks i old now after given apart taken below is =
    subst (HasGiven (take (i + 1) blocks) old) (sym is) (HasGiven-more blocks i old now given below (IsTaken-still blocks i old now given apart taken below))

pub HasTaken-next : (blocks : List ℕ) (i : ℕ) (old now after : List Bool) → HasTaken (take i blocks) old now → AllPairs (λ one other. one ≢ other) blocks → All (IsFree old) blocks → i < length blocks
    → after ≡ set now (get_or blocks i 0 - first_copy_block) true → HasTaken (take (i + 1) blocks) old after
HasTaken-next blocks i old now after taken apart free below is =
    subst (HasTaken (take (i + 1) blocks) old) (sym is) (HasTaken-more blocks i old now taken below (IsFree-still blocks i old now taken apart free below))

-- numbers that rise are apart
pub apart-rising : (blocks : List ℕ) → IsStrictlyIncreasing blocks → AllPairs (λ one other. one ≢ other) blocks
apart-rising blocks rising i j d before below same = absurd (omega (arith, AllPairs-from_increasing blocks rising i j d before below, same))

-- If no block was taken before, exactly these are taken now.
pub IsFresh-taken : (size : ℕ) (used : List ℕ) (old new : List Bool) → first_copy_block < size → old ≡ replicate (size - first_copy_block) false → HasTaken used old new → IsFresh size used new
IsFresh-taken size used old new low empty taken =
    let n = size - first_copy_block in
    let long : length old ≡ n = ap length empty ∙ length-replicate n false in
    let all : free_flags old ≡ n * 1 = ap free_flags empty ∙ sum_by-replicate number_free n false in
    record {
      whole = omega (arith, taken.changes.size, long);
      taken = taken.taken;
      free = λ block area other.
          let place = block - first_copy_block in
          let below : place < n = omega (arith, area.low, area.high) in
          let within : place < length old = omega (arith, long) in
          let number : first_copy_block + place ≡ block = omega (arith, area.low) in
          let clear : get_or old place false ≡ false = ap (λ (flags : List Bool). get_or flags place false) empty ∙ get_or-replicate n place false false below in
          let was : slice_get old place ≡ Some false = slice_get-get_or old place false within ∙ ap Some clear in
          record { low = area.low; flag = taken.changes.others place (λ among. other (subst (Contains used) number among)) ∙ was };
      count = omega (arith, taken.count, all);
    }
