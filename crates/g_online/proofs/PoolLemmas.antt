-- Blocks of a pool are given back or taken, item by item of a list.
-- serves: free_orphaned_pins, give_all, make_ready (same), retake_all, OffLemmas
use Rattle.std.proofs.Common.{◌≡◌, ◌≢◌, ℕ, ◌+◌, ◌-◌, ◌<◌, ◌≤◌, Bool, true, false, List, [], ◌∷◌, ◌++◌, length, get_or, take, drop, Some, All, AllPairs, refl, sym, ◌∙◌, ap, subst, arith, length-append, take-append-drop, slice_get, ⊎_elim}
use Rattle.std.specs.Prelude.{Contains}
use Rattle.std.specs.List.{flat_map}
use Rattle.std.proofs.lemmas.Grind.{flat_map-append}
use Rattle.std.proofs.lemmas.List.{append-nil, get_or_default, take_more}
use Rattle.std.proofs.lemmas.List.Elements.{All-append, All-contains, All-contains_itself, All-weaker, Contains-append_left, Contains-append_right}
use Rattle.g_blocks.specs.Pool.{ChangesOnly, HasGiven, HasTaken, IsFree, IsTaken}
use Rattle.g_copy.specs.declared.copy.DiscCopy.{DiscCopy}
use Rattle.g_dirs.specs.Directory.{copy_at}
use Rattle.g_dirs.proofs.EntryLemmas.{same_lists}
use Rattle.g_online.specs.Invariant.{copy_places}
use Rattle.g_online.specs.Unloading.{places_off}
use Rattle.g_online.proofs.UseLemmas.{contains_or_not, left_all, left_apart, parts_apart, right_all, right_apart}

-- FLAGS: a free block's is false, a taken one's true
record HasFlag (flag : Bool) (pool : List Bool) (k : ℕ) : Type 0 where
  pub low : 2177 ≤ k
  pub flag_is : slice_get pool (k - 2177) ≡ Some flag

free_flags : (pool : List Bool) (ks : List ℕ) → All (IsFree pool) ks → All (HasFlag false pool) ks
free_flags pool ks all = All-weaker (IsFree pool) (HasFlag false pool) (λ k is. record { low = is.low; flag_is = is.flag }) ks all

flags_free : (pool : List Bool) (ks : List ℕ) → All (HasFlag false pool) ks → All (IsFree pool) ks
flags_free pool ks all = All-weaker (HasFlag false pool) (IsFree pool) (λ k is. record { low = is.low; flag = is.flag_is }) ks all

taken_flags : (pool : List Bool) (ks : List ℕ) → All (IsTaken pool) ks → All (HasFlag true pool) ks
taken_flags pool ks all = All-weaker (IsTaken pool) (HasFlag true pool) (λ k is. record { low = is.low; flag_is = is.flag }) ks all

flags_taken : (pool : List Bool) (ks : List ℕ) → All (HasFlag true pool) ks → All (IsTaken pool) ks
flags_taken pool ks all = All-weaker (HasFlag true pool) (IsTaken pool) (λ k is. record { low = is.low; flag = is.flag_is }) ks all

-- SET for the blocks of a list, and for no others
record Sets (flag : Bool) (blocks : List ℕ) (old new : List Bool) : Type 0 where
  pub changes : ChangesOnly blocks old new
  pub flags : All (HasFlag flag new) blocks

given_sets : (blocks : List ℕ) (old new : List Bool) → HasGiven blocks old new → Sets false blocks old new
given_sets blocks old new gives = record { changes = gives.changes; flags = free_flags new blocks gives.free }

taken_sets : (blocks : List ℕ) (old new : List Bool) → HasTaken blocks old new → Sets true blocks old new
taken_sets blocks old new takes = record { changes = takes.changes; flags = taken_flags new blocks takes.taken }

-- what isn't set stays
flags_stay : (flag other : Bool) (xs ys : List ℕ) (p q : List Bool) → AllPairs (λ j k. j ≢ k) (xs ++ ys) → Sets flag xs p q → All (HasFlag other p) ys → All (HasFlag other q) ys
flags_stay flag other xs ys p q apart sets all = All-weaker (Contains ys) (HasFlag other q) still ys (All-contains_itself ys)
  where
    still : (k : ℕ) → Contains ys k → HasFlag other q k
    still k there =
        let f = All-contains (HasFlag other p) ys k all there in
        let low = f.low in
        let number : 2177 + (k - 2177) ≡ k = omega (arith, low) in
        record { low = low; flag_is = sets.changes.others (k - 2177) (λ set. parts_apart xs ys k apart (subst (Contains xs) number set) there) ∙ f.flag_is }

-- set twice
sets_then : (flag : Bool) (xs ys : List ℕ) (p q r : List Bool) → AllPairs (λ j k. j ≢ k) (xs ++ ys) → Sets flag xs p q → Sets flag ys q r → Sets flag (xs ++ ys) p r
sets_then flag xs ys p q r apart first second = record {
  changes = record {
    size = second.changes.size ∙ first.changes.size;
    others = λ place away.
        second.changes.others place (λ there. away (Contains-append_right xs ys (2177 + place) there))
        ∙ first.changes.others place (λ there. away (Contains-append_left xs ys (2177 + place) there));
  };
  flags = All-append (HasFlag flag r) xs ys (All-weaker (Contains xs) (HasFlag flag r) still xs (All-contains_itself xs)) second.flags;
}
  where
    still : (k : ℕ) → Contains xs k → HasFlag flag r k
    still k there =
        let f = All-contains (HasFlag flag q) xs k first.flags there in
        let low = f.low in
        let number : 2177 + (k - 2177) ≡ k = omega (arith, low) in
        record { low = low; flag_is = second.changes.others (k - 2177) (λ set. parts_apart xs ys k apart there (subst (Contains ys) number set)) ∙ f.flag_is }

-- GIVEN BACK, and taken
pub given_then : (xs ys : List ℕ) (p q r : List Bool) → AllPairs (λ j k. j ≢ k) (xs ++ ys) → HasGiven xs p q → HasGiven ys q r → HasGiven (xs ++ ys) p r
given_then xs ys p q r apart first second =
    let both = sets_then false xs ys p q r apart (given_sets xs p q first) (given_sets ys q r second) in
    record {
      changes = both.changes;
      free = flags_free r (xs ++ ys) both.flags;
      count = (let a = first.count in let b = second.count in omega (arith, a, b, length-append xs ys));
    }

pub taken_then : (xs ys : List ℕ) (p q r : List Bool) → AllPairs (λ j k. j ≢ k) (xs ++ ys) → HasTaken xs p q → HasTaken ys q r → HasTaken (xs ++ ys) p r
taken_then xs ys p q r apart first second =
    let both = sets_then true xs ys p q r apart (taken_sets xs p q first) (taken_sets ys q r second) in
    record {
      changes = both.changes;
      taken = flags_taken r (xs ++ ys) both.flags;
      count = (let a = first.count in let b = second.count in omega (arith, a, b, length-append xs ys));
    }

pub given_none : (p : List Bool) → HasGiven [] p p
given_none p = record { changes = record { size = refl; others = λ place away. refl }; free = λ k d within. absurd (omega arith); count = omega arith }

pub taken_none : (p : List Bool) → HasTaken [] p p
taken_none p = record { changes = record { size = refl; others = λ place away. refl }; taken = λ k d within. absurd (omega arith); count = omega arith }

pub still_taken : (xs ys : List ℕ) (p q : List Bool) → AllPairs (λ j k. j ≢ k) (xs ++ ys) → HasGiven xs p q → All (IsTaken p) ys → All (IsTaken q) ys
still_taken xs ys p q apart given all = flags_taken q ys (flags_stay false true xs ys p q apart (given_sets xs p q given) (taken_flags p ys all))

pub still_free : (xs ys : List ℕ) (p q : List Bool) → AllPairs (λ j k. j ≢ k) (xs ++ ys) → HasTaken xs p q → All (IsFree p) ys → All (IsFree q) ys
still_free xs ys p q apart took all = flags_free q ys (flags_stay true false xs ys p q apart (taken_sets xs p q took) (free_flags p ys all))

-- given and taken again: the pool is unchanged
pub retaken : (blocks : List ℕ) (p q r : List Bool) → All (IsTaken p) blocks → HasGiven blocks p q → HasTaken blocks q r → r ≡ p
retaken blocks p q r were given took = same_lists r p each
  where
    each : (k : ℕ) → slice_get r k ≡ slice_get p k
    each k = ⊎_elim
        (λ (there : Contains blocks (2177 + k)).
        let at : (2177 + k) - 2177 ≡ k = omega arith in
        let t = All-contains (IsTaken r) blocks (2177 + k) took.taken there in
        let w = All-contains (IsTaken p) blocks (2177 + k) were there in
        subst (λ (j : ℕ). slice_get r j ≡ slice_get p j) at (t.flag ∙ sym w.flag))
        (λ (away : Contains blocks (2177 + k) → ⊥). took.changes.others k away ∙ given.changes.others k away)
        (contains_or_not blocks (2177 + k))

-- ONE ITEM AFTER ANOTHER: what is done with the blocks of each, and what that requires of them
module _ {A : Type 0} (F : A → List ℕ) (xs : List A) (i : ℕ) (x : A) (within : i < length xs) (is : get_or xs i x ≡ x) where
  further : flat_map F (take (i + 1) xs) ≡ flat_map F (take i xs) ++ F x
  further =
      ap (flat_map F) (take_more xs i x within ∙ ap (λ (y : A). take i xs ++ y ∷ []) is) ∙ flat_map-append F (take i xs) (x ∷ [])
      ∙ ap (λ (ks : List ℕ). flat_map F (take i xs) ++ ks) (append-nil (F x))

  front : flat_map F xs ≡ (flat_map F (take i xs) ++ F x) ++ flat_map F (drop (i + 1) xs)
  front =
      ap (flat_map F) (sym (take-append-drop (i + 1) xs)) ∙ flat_map-append F (take (i + 1) xs) (drop (i + 1) xs)
      ∙ ap (λ (ks : List ℕ). ks ++ flat_map F (drop (i + 1) xs)) further

  front_apart : AllPairs (λ j k. j ≢ k) (flat_map F xs) → AllPairs (λ j k. j ≢ k) (flat_map F (take i xs) ++ F x)
  front_apart apart = left_apart (flat_map F (take i xs) ++ F x) (flat_map F (drop (i + 1) xs)) (subst (AllPairs (λ (j : ℕ) k. j ≢ k)) front apart)

  pub next_apart : AllPairs (λ j k. j ≢ k) (flat_map F xs) → AllPairs (λ j k. j ≢ k) (F x)
  next_apart apart = right_apart (flat_map F (take i xs)) (F x) (front_apart apart)

  -- `may` is the precondition for a block; `then` and `still` state that what is done to one list's blocks doesn't affect
  -- others
  pub next_may : (Does : List ℕ → List Bool → List Bool → Type 0) (May : List Bool → ℕ → Type 0)
      → ((ys zs : List ℕ) (p q : List Bool) → AllPairs (λ j k. j ≢ k) (ys ++ zs) → Does ys p q → All (May p) zs → All (May q) zs) → (pool mid : List Bool)
      → AllPairs (λ j k. j ≢ k) (flat_map F xs) → Does (flat_map F (take i xs)) pool mid → All (May pool) (flat_map F xs) → All (May mid) (F x)
  next_may Does May still pool mid apart done may =
      still (flat_map F (take i xs)) (F x) pool mid (front_apart apart) done
      (right_all (May pool) (flat_map F (take i xs)) (F x) (left_all (May pool) (flat_map F (take i xs) ++ F x) (flat_map F (drop (i + 1) xs)) (subst (All (May pool)) front may)))

  pub one_more : (Does : List ℕ → List Bool → List Bool → Type 0)
      → ((ys zs : List ℕ) (p q r : List Bool) → AllPairs (λ j k. j ≢ k) (ys ++ zs) → Does ys p q → Does zs q r → Does (ys ++ zs) p r) → (pool mid last : List Bool)
      → AllPairs (λ j k. j ≢ k) (flat_map F xs) → Does (flat_map F (take i xs)) pool mid → Does (F x) mid last → Does (flat_map F (take (i + 1) xs)) pool last
  one_more Does then_more pool mid last apart done more =
      subst (λ (ks : List ℕ). Does ks pool last) (sym further) (then_more (flat_map F (take i xs)) (F x) pool mid last (front_apart apart) done more)

-- ONE FILE AFTER THE OTHER
module _ (online : List (ℕ × DiscCopy)) (numbers : List ℕ) (i : ℕ) (within : i < length numbers) where
  abbrev blocks_of : ℕ → List ℕ
  blocks_of n = copy_places (copy_at online n)

  abbrev this : ℕ
  this = get_or numbers i 0

  pub file_apart : AllPairs (λ j k. j ≢ k) (places_off numbers online) → AllPairs (λ j k. j ≢ k) (blocks_of this)
  file_apart = next_apart blocks_of numbers i this within (get_or_default numbers i this 0 within)

  pub file_may : (Does : List ℕ → List Bool → List Bool → Type 0) (May : List Bool → ℕ → Type 0)
      → ((ys zs : List ℕ) (p q : List Bool) → AllPairs (λ j k. j ≢ k) (ys ++ zs) → Does ys p q → All (May p) zs → All (May q) zs) → (pool mid : List Bool)
      → AllPairs (λ j k. j ≢ k) (places_off numbers online) → Does (places_off (take i numbers) online) pool mid → All (May pool) (places_off numbers online) → All (May mid) (blocks_of this)
  file_may = next_may blocks_of numbers i this within (get_or_default numbers i this 0 within)

  pub one_more_file : (Does : List ℕ → List Bool → List Bool → Type 0)
      → ((ys zs : List ℕ) (p q r : List Bool) → AllPairs (λ j k. j ≢ k) (ys ++ zs) → Does ys p q → Does zs q r → Does (ys ++ zs) p r) → (pool mid last : List Bool)
      → AllPairs (λ j k. j ≢ k) (places_off numbers online) → Does (places_off (take i numbers) online) pool mid → Does (blocks_of this) mid last → Does (places_off (take (i + 1) numbers) online) pool last
  one_more_file = one_more blocks_of numbers i this within (get_or_default numbers i this 0 within)
