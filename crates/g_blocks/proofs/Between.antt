-- The flags between two places are set: what preserves that, and where the search for a free block begins.
-- serves: all_free, search_start (before), skip_taken, Full
use Rattle.std.proofs.Common.{◌≡◌, ℕ, ◌+◌, ◌<◌, ◌≤◌, List, Bool, true, false, Some, length, slice_get, min, max, sym, ◌∙◌, subst, inl, inr, arith, length-set}
use Rattle.std.proofs.Math.ListN.{set}
use Rattle.std.proofs.lemmas.Bool.{cases_order}
use Rattle.g_blocks.specs.Flags.{AreSetBefore, AreSetBetween}
use Rattle.g_blocks.proofs.Marks.{flag-kept, slice_get-set_other}

-- no place is between
pub between-none : (flags : List Bool) → AreSetBetween 0 0 flags
between-none flags = record { within = omega arith; each = λ i above below. absurd (omega (arith, below)) }

-- a flag is set
pub between-taken : (low next i : ℕ) (flags : List Bool) → i < length flags → AreSetBetween low next flags → AreSetBetween low next (set flags i true)
between-taken low next i flags inside are = record {
  within = omega (arith, length-set flags i true, are.within);
  each = λ j above below. flag-kept flags i j true inside (are.each j above below);
}

-- a flag is cleared
pub between-given : (place low next start result now : ℕ) (flags : List Bool) → AreSetBefore start flags → AreSetBetween low next flags → (place < low → result ≡ start) → (place ≡ low → result ≡ next)
    → (low < place → (result ≤ next) × (result ≤ place)) → now ≡ min low place → AreSetBetween now result (set flags place false)
between-given place low next start result now flags before are lower same higher is_now =
    let long = length-set flags place false in
    let within_start = before.within in
    let within_next = are.within in
    elim (cases_order place low) [
      | inl here ↦
          let is = same here in
          record {
            within = omega (arith, long, is, within_next);
            each = λ j above below.
                slice_get-set_other flags place j false (omega (arith, here, above, is_now))
                ∙ are.each j (omega (arith, here, above, is_now)) (omega (arith, is, below));
          }
      | inr (inl less) ↦
          let is = lower less in
          record {
            within = omega (arith, long, is, within_start);
            each = λ j above below.
                slice_get-set_other flags place j false (omega (arith, less, above, is_now))
                ∙ before.each j (omega (arith, is, below));
          }
      | inr (inr more) ↦
          let (is_next, is_place) = higher more in
          record {
            within = omega (arith, long, is_next, within_next);
            each = λ j above below.
                slice_get-set_other flags place j false (omega (arith, is_place, below))
                ∙ are.each j (omega (arith, more, above, is_now)) (omega (arith, is_next, below));
          }
    ]

-- the first of the places is later
pub between-later : (low next now : ℕ) (flags : List Bool) → low ≤ now → AreSetBetween low next flags → AreSetBetween now next flags
between-later low next now flags later are = record {
  within = are.within;
  each = λ j above below. are.each j (omega (arith, above, later)) below;
}

-- The flag at the first place is set too, so all before the second one are, and all up to the first.
pub set-through : (low next start : ℕ) (flags : List Bool) → AreSetBefore low flags → AreSetBetween low next flags → slice_get flags low ≡ Some true → low < length flags → start ≡ max next (low + 1)
    → AreSetBefore start flags
set-through low next start flags before are here inside is =
    let within_next = are.within in
    record {
      within = omega (arith, is, within_next, inside);
      each = λ j below.
          elim (cases_order j low) [
            | inl same ↦ subst (λ (i : ℕ). slice_get flags i ≡ Some true) (sym same) here
            | inr (inl less) ↦ before.each j less
            | inr (inr more) ↦ are.each j more (omega (arith, is, below, more))
          ];
    }
