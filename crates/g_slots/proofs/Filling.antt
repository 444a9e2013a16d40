-- The slot that isn't current, filled block by block.
-- serves: fill (dirties, ok)
use Rattle.std.proofs.Common.{◌≡◌, ℕ, ◌+◌, ◌-◌, ◌<◌, ◌≤◌, List, [], ◌∷◌, ◌++◌, length, get_or, take, drop, Some, Ok, Err, sym, ◌∙◌, ap, subst, arith, inl, inr}
use Rattle.std.specs.Prelude.{◌⊎◌, true}
use Rattle.std.proofs.Math.Seq.{take-length}
use Rattle.std.proofs.lemmas.Bool.{cases_lt}
use Rattle.std.proofs.lemmas.List.{take-take, take_more, take_more_set}
use Rattle.g_base.specs.Counts.{RoseBy}
use Rattle.g_base.specs.ToldContent.{Changes}
use Rattle.g_base.proofs.CountLemmas.{RoseBy-then}
use Rattle.g_base.proofs.ToldLemmas.{Changes-then}
use Rattle.g_disc.specs.Disc.{DiscState, StaySyncable, WritesOnly, is_durable, is_syncable}
use Rattle.g_disc.specs.Durable.{AreSyncable, DirtiesOnly}
use Rattle.g_disc.proofs.CallLemmas.{then_later}
use Rattle.g_slots.specs.declared.side.Side.{Side}
use Rattle.g_slots.specs.declared.fault.SlotFault.{SlotFault}
use Rattle.g_slots.specs.Layout.{IsInSlot, other, start_of, slot}
use Rattle.g_slots.specs.Commit.{Fills, KeepsCurrent, Prepares}
use Rattle.g_slots.proofs.OneWrite.{length-slot}

-- the first n blocks of the slot opposite `side` are those of the image, and nothing outside of that slot has changed
pub record FillsTo (side : Side) (n : ℕ) (image before after : List (List ℕ)) : Type 0 where
  pub kept : KeepsCurrent side before after
  pub so_far : take n (slot (other side) after) ≡ take n image

-- n blocks were written, all without a fault
pub record Filled (side : Side) (n : ℕ) (image : List (List ℕ)) (before after : DiscState) : Type 0 where
  pub content : Changes (FillsTo side n image) before.held after.held
  pub size : after.size ≡ before.size
  pub read_faults : after.read_faults ≡ before.read_faults
  pub write_faults : after.write_faults ≡ before.write_faults
  pub arms : after.arms ≡ before.arms
  pub writes : RoseBy n before.writes after.writes
  pub later : before.writes ≤ after.writes
  pub durable : (j : ℕ) → (IsInSlot (other side) j → ⊥) → is_durable before j ≡ true → is_durable after j ≡ true
  pub syncable : StaySyncable before after
  pub here : (i : ℕ) → i < n → is_syncable after (start_of (other side) + i) ≡ true

fills_more : (side : Side) (k : ℕ) (image a b c : List (List ℕ)) → k < 1088 → k < length image → 2177 ≤ length a → FillsTo side k image a b → Prepares side k (get_or image k []) b c → FillsTo side (k + 1) image a c
fills_more side k image a b c below within long so_far step = record {
  kept = record {
    size = step.kept.size ∙ so_far.kept.size;
    gate = step.kept.gate ∙ so_far.kept.gate;
    kept = step.kept.kept ∙ so_far.kept.kept;
    copies = step.kept.copies ∙ so_far.kept.copies;
  };
  so_far =
      let old = slot (other side) b in
      let same = so_far.kept.size in
      let there : k < length old = omega (arith, length-slot (other side) b (omega arith)) in
      ap (take (k + 1)) step.written ∙ take_more_set old k _ there
      ∙ ap (λ (xs : List (List ℕ)). xs ++ get_or image k [] ∷ []) so_far.so_far
      ∙ sym (take_more image k [] within);
}

pub filled_more : (side : Side) (k : ℕ) (image : List (List ℕ)) (x y z : DiscState) (u : Unit {0}) → k < length image → length image ≡ 1088 → 2177 < x.size
    → ((a : List (List ℕ)) → x.held ≡ Some a → length a ≡ x.size)
    → Filled side k image x y → Changes (Prepares side k (get_or image k [])) y.held z.held → WritesOnly {T = Unit {0}} {E = SlotFault} 1 y z (Ok u)
    → DirtiesOnly {T = Unit {0}} {E = SlotFault} (λ j. j ≡ start_of (other side) + k) y z (Ok u) → Filled side (k + 1) image x z
filled_more side k image x y z u within whole large long so_far step counts dirties = record {
  content = Changes-then so_far.content step (λ a b c told. fills_more side k image a b c (omega arith) within (let l = long a told in omega arith));
  size = counts.size ∙ so_far.size;
  read_faults = counts.read_faults ∙ so_far.read_faults;
  write_faults = counts.kept ∙ so_far.write_faults;
  arms = counts.arms ∙ so_far.arms;
  writes = RoseBy-then so_far.writes counts.writes;
  later = then_later so_far.later counts.later;
  durable = λ j outside was.
      dirties.durable j (λ same. outside (let low : start_of (other side) ≤ j = omega (arith, same) in low, let high : j < start_of (other side) + 1088 = omega (arith, same, within, whole) in high))
      (so_far.durable j outside was);
  syncable = λ j was. dirties.syncable j (so_far.syncable j was);
  here = λ i below. by i (cases_lt i k) below;
}
  where
    by : (i : ℕ) → (i < k) ⊎ (k ≤ i) → i < k + 1 → is_syncable z (start_of (other side) + i) ≡ true
    by i (inl low) below = dirties.syncable (start_of (other side) + i) (so_far.here i low)
    by i (inr high) below = dirties.here (start_of (other side) + i) (let same : i ≡ k = omega (arith, high, below) in ap (λ (n : ℕ). start_of (other side) + n) same)

-- all blocks of the image were written
pub fills_all : (side : Side) (n : ℕ) (image a b : List (List ℕ)) → length image ≡ 1088 → 1088 ≤ n → n ≤ 1088 → FillsTo side n image a b → Fills side image a b
unfolding slot
fills_all side n image a b whole reached within filled = record {
  kept = filled.kept;
  whole =
      let is : n ≡ 1088 = omega arith in
      sym (take-take 1088 1088 (drop (start_of (other side)) b) (omega arith)) ∙ ap (λ (m : ℕ). take m (slot (other side) b)) (sym is) ∙ filled.so_far ∙ ap (λ (m : ℕ). take m image) (is ∙ sym whole) ∙ take-length image;
}

-- all blocks of the slot are syncable then
pub filled_syncable : (side : Side) (n : ℕ) (image : List (List ℕ)) (x y : DiscState) → 1088 ≤ n → Filled side n image x y → AreSyncable (IsInSlot (other side)) y
filled_syncable side n image x y reached filled j (low, high) =
    let at : start_of (other side) + (j - start_of (other side)) ≡ j = omega (arith, low) in
    subst (λ (i : ℕ). is_syncable y i ≡ true) at (filled.here (j - start_of (other side)) (omega (arith, low, high, reached)))

-- a write failed
pub filled_torn : {T E : Type 0} (side : Side) (k : ℕ) (image : List (List ℕ)) (x y z : DiscState) (e : E) → k < 1088 → Filled side k image x y
    → DirtiesOnly {T = T} {E = E} (λ j. j ≡ start_of (other side) + k) y z (Err e) → (j : ℕ) → (IsInSlot (other side) j → ⊥) → is_durable x j ≡ true → is_durable z j ≡ true
filled_torn side k image x y z e within so_far dirties j outside was =
    dirties.durable j (λ same. outside (let low : start_of (other side) ≤ j = omega (arith, same) in low, let high : j < start_of (other side) + 1088 = omega (arith, same, within) in high))
    (so_far.durable j outside was)
