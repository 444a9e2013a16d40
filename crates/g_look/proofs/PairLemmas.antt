-- Dumps in rising order of number: if two break a rule of pairs, two neighbours do.
-- serves: falling (none, some), twice (none), GapLemmas, MissingLemmas, OutlookLemmas, RackLemmas
use Rattle.std.proofs.Common.{◌≡◌, ◌⊎◌, inl, inr, ℕ, zero, suc, ◌+◌, ◌-◌, ◌<◌, ◌≤◌, List, length, get_or, sym, ◌∙◌, ap, arith, subst}
use Rattle.std.specs.Prelude.{Contains}
use Rattle.std.specs.List.Sorted.{IsNonDecreasingBy}
use Rattle.std.proofs.lemmas.List.{get_or_default}
use Rattle.g_look.specs.declared.broken.DumpAt.{DumpAt}
use Rattle.g_look.specs.SeenDumps.{HaveNoTwins, IsLower, NoneFalls, SamePlace}

pub le_cases : (a b : ℕ) → a ≤ b → (a < b) ⊎ (a ≡ b)
le_cases a zero le = inr (omega (arith, le))
le_cases zero (suc b) le = inl (omega arith)
le_cases (suc a) (suc b) le = later (le_cases a b (omega (arith, le)))
  where
    later : (a < b) ⊎ (a ≡ b) → (suc a < suc b) ⊎ (suc a ≡ suc b)
    later (inl less) = inl (omega (arith, less))
    later (inr same) = inr (ap suc same)

pub either_way : (a b : ℕ) → (a ≤ b) ⊎ (b < a)
either_way zero b = inl (omega arith)
either_way (suc a) zero = inr (omega arith)
either_way (suc a) (suc b) = later (either_way a b)
  where
    later : (a ≤ b) ⊎ (b < a) → (suc a ≤ suc b) ⊎ (suc b < suc a)
    later (inl le) = inl (omega (arith, le))
    later (inr less) = inr (omega (arith, less))

pub back_place : (a b : DumpAt) → SamePlace a b → SamePlace b a
back_place a b same = record { serial = sym same.serial; place = sym same.place }

module _ (dumps : List DumpAt) where
  -- THOSE OF ONE NUMBER among the first i lie at one place
  abbrev pub ApartUpTo : ℕ → Type 0
  ApartUpTo i = (j k : ℕ) (d : DumpAt) → j ≤ k → k < i → k < length dumps → (get_or dumps k d).number ≡ (get_or dumps j d).number
      → SamePlace (get_or dumps j d) (get_or dumps k d)

  -- THE NEXT STAMPS of the first i don't fall
  abbrev pub RiseUpTo : ℕ → Type 0
  RiseUpTo i = (j k : ℕ) (d : DumpAt) → j ≤ k → k < i → k < length dumps → (get_or dumps j d).next_stamp ≤ (get_or dumps k d).next_stamp

  module _ (order : IsNonDecreasingBy (λ (d : DumpAt). d.number) dumps) where
    pub all_apart : (i : ℕ) → length dumps ≤ i → ApartUpTo i → HaveNoTwins dumps
    all_apart i long apart a b (j, in_j, at_j) (k, in_k, at_k) same = by_order (either_way j k)
      where
        one : get_or dumps j a ≡ a
        one = at_j

        other : get_or dumps k a ≡ b
        other = get_or_default dumps k a b in_k ∙ at_k

        by_order : (j ≤ k) ⊎ (k < j) → SamePlace a b
        by_order (inl le) =
            subst (λ (x : DumpAt). SamePlace x b) one (subst (SamePlace (get_or dumps j a)) other
            (apart j k a le (omega (arith, in_k, long)) in_k (ap (λ (x : DumpAt). x.number) other ∙ same ∙ ap (λ (x : DumpAt). x.number) (sym one))))
        by_order (inr less) =
            back_place b a (subst (λ (x : DumpAt). SamePlace x a) other (subst (SamePlace (get_or dumps k a)) one
            (apart k j a (omega (arith, less)) (omega (arith, in_j, long)) in_j (ap (λ (x : DumpAt). x.number) one ∙ sym same ∙ ap (λ (x : DumpAt). x.number) (sym other)))))

    pub rise_more : (i : ℕ) (z : DumpAt) → 1 ≤ i → i < length dumps → (get_or dumps (i - 1) z).next_stamp ≤ (get_or dumps i z).next_stamp → RiseUpTo i → RiseUpTo (i + 1)
    rise_more i z first inside up all j k d le below within = by_place (le_cases k i (omega (arith, below)))
      where
        before : (get_or dumps (i - 1) d).next_stamp ≡ (get_or dumps (i - 1) z).next_stamp
        before = ap (λ (x : DumpAt). x.next_stamp) (get_or_default dumps (i - 1) d z (omega (arith, first, inside)))

        here : (get_or dumps i d).next_stamp ≡ (get_or dumps i z).next_stamp
        here = ap (λ (x : DumpAt). x.next_stamp) (get_or_default dumps i d z inside)

        at_end : (n : ℕ) → n ≤ i → (get_or dumps n d).next_stamp ≤ (get_or dumps i d).next_stamp
        at_end n to = by_end (le_cases n i to)
          where
            by_end : (n < i) ⊎ (n ≡ i) → (get_or dumps n d).next_stamp ≤ (get_or dumps i d).next_stamp
            by_end (inr is) = subst (λ (m : ℕ). (get_or dumps m d).next_stamp ≤ (get_or dumps i d).next_stamp) (sym is) (omega arith)
            by_end (inl less) =
                let old = all n (i - 1) d (omega (arith, less)) (omega (arith, first)) (omega (arith, inside)) in
                omega (arith, old, before, here, up)

        by_place : (k < i) ⊎ (k ≡ i) → (get_or dumps j d).next_stamp ≤ (get_or dumps k d).next_stamp
        by_place (inl less) = all j k d le less within
        by_place (inr is) = subst (λ (n : ℕ). (get_or dumps j d).next_stamp ≤ (get_or dumps n d).next_stamp) (sym is) (at_end j (omega (arith, le, is)))

    pub all_rise : (i : ℕ) → length dumps ≤ i → RiseUpTo i → NoneFalls dumps
    all_rise i long up a b (j, in_j, at_j) (k, in_k, at_k) less = by_order (either_way j k)
      where
        other : get_or dumps k a ≡ b
        other = get_or_default dumps k a b in_k ∙ at_k

        by_order : (j ≤ k) ⊎ (k < j) → a.next_stamp ≤ b.next_stamp
        by_order (inl le) =
            subst (λ (x : DumpAt). x.next_stamp ≤ b.next_stamp) at_j (subst (λ (x : DumpAt). (get_or dumps j a).next_stamp ≤ x.next_stamp) other
            (up j k a le (omega (arith, in_k, long)) in_k))
        by_order (inr before) =
            let one : (get_or dumps j a).number ≡ a.number = ap (λ (x : DumpAt). x.number) at_j in
            let two : (get_or dumps k a).number ≡ b.number = ap (λ (x : DumpAt). x.number) other in
            let low = order k j a (omega (arith, before)) in_j in
            absurd (let no : ⊥ = omega (arith, one, two, low, less) in no)

    pub in_place : (i : ℕ) (z : DumpAt) → i < length dumps → Contains dumps (get_or dumps i z)
    in_place i z inside = (i, inside, get_or_default dumps i (get_or dumps i z) z inside)

    -- TWO NEIGHBOURS, the later of which has the lower next stamp
    pub lower_at : (i : ℕ) (z : DumpAt) → 1 ≤ i → i < length dumps → (get_or dumps i z).next_stamp < (get_or dumps (i - 1) z).next_stamp
        → IsLower dumps (get_or dumps (i - 1) z) (get_or dumps i z)
    lower_at i z first inside falls = record { number = order (i - 1) i z (omega arith) inside; next = falls; neighbours = neighbours }
      where
        neighbours : (c : DumpAt) → Contains dumps c → (get_or dumps (i - 1) z).number < c.number → c.number < (get_or dumps i z).number → ⊥
        neighbours c (m, in_m, at_m) above under = by_order (either_way i m)
          where
            it : (get_or dumps m z).number ≡ c.number
            it = ap (λ (x : DumpAt). x.number) (get_or_default dumps m z c in_m ∙ at_m)

            by_order : (i ≤ m) ⊎ (m < i) → ⊥
            by_order (inl le) = let up = order i m z le in_m in (let no : ⊥ = omega (arith, it, up, under) in no)
            by_order (inr less) = let up = order m (i - 1) z (omega (arith, less)) (omega (arith, inside)) in (let no : ⊥ = omega (arith, it, up, above) in no)
