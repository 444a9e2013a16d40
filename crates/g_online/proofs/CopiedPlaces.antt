-- The blocks of a list of copies, when copies are removed or added.
-- serves: BringStepLemmas, EraseLemmas, PutStepLemmas, UnjamLemmas, UnloadLemmas
use Rattle.std.proofs.Common.{◌≡◌, ◌⊎◌, ℕ, Bool, true, false, List, [], ◌∷◌, ◌++◌, filter, cond, ap, subst, inl, inr}
use Rattle.std.specs.Prelude.{Contains, nat_lt}
use Rattle.std.specs.List.{flat_map}
use Rattle.std.proofs.lemmas.Bool.{cases_Bool, cond-false, cond-true}
use Rattle.std.proofs.lemmas.Grind.{flat_map-append}
use Rattle.std.proofs.lemmas.List.Elements.{Contains-append_cases, Contains-append_left, Contains-append_right}
use Rattle.g_copy.specs.declared.copy.DiscCopy.{DiscCopy}
use Rattle.g_dirs.specs.Rules.{numbers_of}
use Rattle.g_online.specs.Copies.{with_copy_at}
use Rattle.g_online.proofs.CopyLemmas.{Copies}

-- the blocks of some of the copies are among those of all
pub places_filter : (p : ℕ × DiscCopy → Bool) (online : Copies) (k : ℕ) → Contains (numbers_of (filter p online)) k → Contains (numbers_of online) k
places_filter p [] k there = there
places_filter p (c ∷ cs) k there = by (cases_Bool (p c)) (λ some. Contains-append_right c.1.blocks (numbers_of cs) k (places_filter p cs k some))
  where
    by : (p c ≡ true) ⊎ (p c ≡ false) → (Contains (numbers_of (filter p cs)) k → Contains (numbers_of (c ∷ cs)) k) → Contains (numbers_of (c ∷ cs)) k
    by (inl kept) rest = elim (Contains-append_cases c.1.blocks (numbers_of (filter p cs)) k (subst (λ (l : Copies). Contains (numbers_of l) k) (cond-true (p c) (c ∷ filter p cs) (filter p cs) kept) there)) [
      | inl here ↦ Contains-append_left c.1.blocks (numbers_of cs) k here
      | inr some ↦ rest some
    ]
    by (inr gone) rest = rest (subst (λ (l : Copies). Contains (numbers_of l) k) (cond-false (p c) (c ∷ filter p cs) (filter p cs) gone) there)

-- a copy that is added brings its own blocks
pub places_with : (c : ℕ × DiscCopy) (online : Copies) (k : ℕ) → Contains (numbers_of (with_copy_at c online)) k → Contains (numbers_of online) k ⊎ Contains c.1.blocks k
places_with c online k there = by (Contains-append_cases (numbers_of low) (numbers_of (c ∷ high)) k (subst (λ (l : List ℕ). Contains l k) (flat_map-append (λ (d : ℕ × DiscCopy). d.1.blocks) low (c ∷ high)) there))
  where
    low : Copies
    low = filter (λ d. nat_lt d.0 c.0) online

    high : Copies
    high = filter (λ d. nat_lt c.0 d.0) online

    by : Contains (numbers_of low) k ⊎ Contains (numbers_of (c ∷ high)) k → Contains (numbers_of online) k ⊎ Contains c.1.blocks k
    by (inl some) = inl (places_filter (λ d. nat_lt d.0 c.0) online k some)
    by (inr more) = elim (Contains-append_cases c.1.blocks (numbers_of high) k more) [
      | inl here ↦ inr here
      | inr some ↦ inl (places_filter (λ d. nat_lt c.0 d.0) online k some)
    ]
