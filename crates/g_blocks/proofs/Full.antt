-- Groups of flags that are noted as full: what preserves the notes, and what follows from them.
-- serves: all_free, mark_free, mark_taken, skip_taken
use Rattle.std.proofs.Common.{◌≡◌, ◌≢◌, ℕ, ◌+◌, ◌-◌, ◌/◌, ◌<◌, ◌≤◌, List, Bool, true, false, Some, length, slice_get, get_or, min, replicate, sym, ◌∙◌, ap, subst, inl, inr, arith, length-set}
use Rattle.std.specs.Prelude.{◌⊎◌}
use Rattle.std.proofs.Math.ListN.{set}
use Rattle.std.proofs.lemmas.Bool.{cases_eq}
use Rattle.std.proofs.lemmas.List.{get_or-replicate, length-replicate}
use Rattle.std.proofs.lemmas.Option.{get_or_from_slice_get, slice_get_within}
use Rattle.g_blocks.specs.Flags.{AreFull, AreSetBefore, AreSetBetween, free_flags}
use Rattle.g_blocks.proofs.Between.{between-given, between-taken}
use Rattle.g_blocks.proofs.Marks.{count-given, count-taken, flag-kept, slice_get-set_other, slice_get-set_same}

-- a flag is set, or it is cleared and its group noted as full no more
pub full-taken : (full flags : List Bool) (i : ℕ) → i < length flags → AreFull full flags → AreFull full (set flags i true)
full-taken full flags i within are =
    let long = length-set flags i true in
    record {
      size = are.size ∙ ap (λ (n : ℕ). n / 128 + 1) (sym long);
      each = λ j inside noted. flag-kept flags i j true within (are.each j (omega (arith, inside, long)) noted);
    }

pub full-given : (full flags : List Bool) (i : ℕ) → i < length flags → AreFull full flags → AreFull (set full (i / 128) false) (set flags i false)
full-given full flags i within are =
    let long = length-set flags i false in
    let groups = length-set full (i / 128) false in
    let there : i / 128 < length full = let size = are.size in omega (arith, within, size) in
    record {
      size = groups ∙ are.size ∙ ap (λ (n : ℕ). n / 128 + 1) (sym long);
      each = λ j inside noted.
          elim (cases_eq (j / 128) (i / 128)) [
            | inl same ↦
                let off : slice_get (set full (i / 128) false) (j / 128) ≡ Some false = subst (λ (g : ℕ). slice_get (set full (i / 128) false) g ≡ Some false) (sym same) (slice_get-set_same full (i / 128) false there) in
                let no : ⊥ = cc in absurd no
            | inr apart ↦
                let other : j ≢ i = λ is. apart (ap (λ (n : ℕ). n / 128) is) in
                slice_get-set_other flags i j false other
                ∙ are.each j (omega (arith, inside, long)) (sym (slice_get-set_other full (i / 128) (j / 128) false apart) ∙ noted)
          ];
    }

-- none is noted in the beginning
pub full-none : (full flags : List Bool) (n : ℕ) → full ≡ replicate n false → n ≡ length flags / 128 + 1 → AreFull full flags
full-none full flags n is size = record {
  size = ap length is ∙ length-replicate n false ∙ size;
  each = λ i inside noted.
      let below : i / 128 < n = omega (arith, inside, size) in
      let off : get_or full (i / 128) false ≡ false = ap (λ (l : List Bool). get_or l (i / 128) false) is ∙ get_or-replicate n (i / 128) false false below in
      let on : get_or full (i / 128) false ≡ true = get_or_from_slice_get full (i / 128) true false noted in
      let no : ⊥ = cc in absurd no;
}

-- If all flags before a place are set, the groups before it are full.
pub full-noted : (full now flags : List Bool) (low : ℕ) → AreFull full flags → AreSetBefore low flags → length now ≡ length full
    → ((group : ℕ) → slice_get now group ≡ Some true → (slice_get full group ≡ Some true) ⊎ (group < low / 128)) → AreFull now flags
full-noted full now flags low are before long noted = record {
  size = long ∙ are.size;
  each = λ i inside is.
      elim (noted (i / 128) is) [
        | inl was ↦ are.each i inside was
        | inr front ↦ before.each i (omega (arith, front))
      ];
}

-- What a pool preserves when the flag of a free block is set, and when that of a taken one is cleared.
pub all-taken : (free low next : ℕ) (full flags pool : List Bool) (i : ℕ) → flags ≡ pool → slice_get pool i ≡ Some false
    → (free ≡ free_flags flags) × (2177 + length flags ≤ 1_048_576) × AreSetBefore low flags × AreFull full flags × AreSetBetween low next flags
    → (free - 1 ≡ free_flags (set flags i true)) × (2177 + length (set flags i true) ≤ 1_048_576) × AreSetBefore low (set flags i true) × AreFull full (set flags i true)
    × AreSetBetween low next (set flags i true)
all-taken free low next full flags pool i same is (counted, small, before, are, between) =
    let (count, few, after) = count-taken free low flags pool i same is (counted, small, before) in
    let inside = slice_get_within flags i false (subst (λ fs. slice_get fs i ≡ Some false) (sym same) is) in
    (count, few, after, full-taken full flags i inside are, between-taken low next i flags inside between)

pub all-given : (free low now next start result : ℕ) (full flags pool : List Bool) (i : ℕ) → flags ≡ pool → slice_get pool i ≡ Some true → now ≡ min low i → AreSetBefore start flags
    → (i < low → result ≡ start) → (i ≡ low → result ≡ next) → (low < i → (result ≤ next) × (result ≤ i))
    → (free ≡ free_flags flags) × (2177 + length flags ≤ 1_048_576) × AreSetBefore low flags × AreFull full flags × AreSetBetween low next flags
    → (free + 1 ≡ free_flags (set flags i false)) × (2177 + length (set flags i false) ≤ 1_048_576) × AreSetBefore now (set flags i false)
    × AreFull (set full (i / 128) false) (set flags i false) × AreSetBetween now result (set flags i false)
all-given free low now next start result full flags pool i same is is_now set_before lower here higher (counted, small, before, are, between) =
    let (count, few, after) = count-given free low now flags pool i same is (omega (arith, is_now)) (omega (arith, is_now)) (counted, small, before) in (
      count,
      few,
      after,
      full-given full flags i (slice_get_within flags i true (subst (λ fs. slice_get fs i ≡ Some true) (sym same) is)) are,
      between-given i low next start result now flags set_before between lower here higher is_now,
    )
