-- What a power loss leaves of a commit.
-- serves: commit (old_survives, one_survives, survives), crates above
use Rattle.std.proofs.Common.{◌≡◌, ◌≢◌, ℕ, ◌+◌, ◌%◌, ◌<◌, ◌≤◌, ◌==◌, if◌then◌else◌, List, [], length, get_or, take, drop, Some, Ok, Err, sym, ◌∙◌, ap, arith, slice_get, inl, inr, refl, length-take, length-drop}
use Rattle.std.specs.Prelude.{◌⊎◌, Result, OnOk, OnErr, true}
use Rattle.std.proofs.lemmas.List.{get_or-drop, get_or-take, same_lists}
use Rattle.g_base.specs.ToldContent.{Changes}
use Rattle.g_disc.specs.Disc.{DiscState, GateFailed, HasSynced, is_durable}
use Rattle.g_disc.specs.Durable.{AreDurable, AreSyncable, MayLeave, PowerLossLeaves}
use Rattle.g_disc.proofs.DurableLemmas.{get_or-same}
use Rattle.g_slots.specs.declared.side.Side.{Side}
use Rattle.g_slots.specs.declared.side.Side.TheVariants.{A, B}
use Rattle.g_slots.specs.Commit.{Fills, Flips, KeepsCurrent}
use Rattle.g_slots.specs.Layout.{GateNames, IsInSlot, current, gate_side, other, slot, start_of}

-- TWO CONTENTS WITH BLOCKS IN COMMON

-- the same gate names the same slot
pub gate_same : (b c : List (List ℕ)) → slice_get c 0 ≡ slice_get b 0 → gate_side c ≡ gate_side b
unfolding gate_side
gate_same b c same = ap (λ (g : List ℕ). if get_or g 0 0 % 2 == 0 then A else B) (get_or-same b c 0 [] same)

-- a slot whose blocks are the same is the same
pub slot_same : (side : Side) (b c : List (List ℕ)) → length c ≡ length b → ((j : ℕ) → IsInSlot side j → slice_get c j ≡ slice_get b j) → slot side c ≡ slot side b
unfolding slot
slot_same side b c size each =
    same_lists (take 1088 (drop (start_of side) c)) (take 1088 (drop (start_of side) b))
    (let same = size in simp (length-take, length-drop) (omega arith))
    (λ k d within.
    let below : k < 1088 = omega (arith, length-take 1088 (drop (start_of side) c)) in
    let from : start_of side ≤ start_of side + k = omega arith in
    let to : start_of side + k < start_of side + 1088 = omega (arith, below) in
    get_or-take 1088 (drop (start_of side) c) k d below ∙ get_or-drop (start_of side) c k d
    ∙ get_or-same b c (start_of side + k) d (each (start_of side + k) (from, to))
    ∙ sym (get_or-take 1088 (drop (start_of side) b) k d below ∙ get_or-drop (start_of side) b k d))

pub one_or_other : (s side : Side) → (s ≡ side) ⊎ (s ≡ other side)
one_or_other A A = inl refl
one_or_other A B = inr refl
one_or_other B A = inr refl
one_or_other B B = inl refl

-- the slots don't overlap, and lie between the gate and the copy area
pub slots_apart : (side : Side) (j : ℕ) → IsInSlot side j → IsInSlot (other side) j → ⊥
slots_apart A j here there = let low = there.0 in let high = here.1 in let none : ⊥ = omega (arith, low, high) in none
slots_apart B j here there = let low = here.0 in let high = there.1 in let none : ⊥ = omega (arith, low, high) in none

pub after_gate : (side : Side) (j : ℕ) → IsInSlot side j → j ≢ 0
after_gate A j (low, high) same = let none : ⊥ = omega (arith, low, same) in none
after_gate B j (low, high) same = let none : ⊥ = omega (arith, low, same) in none

pub before_copies : (side : Side) (j : ℕ) → IsInSlot side j → j < 2177
before_copies A j (low, high) = omega (arith, high)
before_copies B j (low, high) = omega (arith, high)

-- the current slot, if the gate names this one
pub current_at : (side : Side) (b : List (List ℕ)) → gate_side b ≡ side → current b ≡ slot side b
current_at side b names = ap (λ (s : Side). slot s b) names

-- WHAT IS DURABLE IS LEFT

module _ (d : DiscState) (b c : List (List ℕ)) (held : d.held ≡ Some b) (left : MayLeave d c) where
  pub slot_left : (side : Side) → length b ≡ d.size → AreDurable (IsInSlot side) d → slot side c ≡ slot side b
  slot_left side whole durable = slot_same side b c (left.size ∙ sym whole) (λ j within. left.durable j (durable j within) b held)

  pub gate_left : is_durable d 0 ≡ true → gate_side c ≡ gate_side b
  gate_left durable = gate_same b c (left.durable 0 durable b held)

-- A COMMIT fills the other slot (x to y), and then writes the gate (y to z).
module _ (side : Side) (image : List (List ℕ)) (x y : DiscState) (whole : (b : List (List ℕ)) → x.held ≡ Some b → length b ≡ x.size)
    (same_size : y.size ≡ x.size) (keeps : (j : ℕ) → (IsInSlot (other side) j → ⊥) → is_durable x j ≡ true → is_durable y j ≡ true) where
  -- the current slot and the gate stay durable while the other slot is filled
  slot_stays : AreDurable (IsInSlot side) x → AreDurable (IsInSlot side) y
  slot_stays durable j within = keeps j (slots_apart side j within) (durable j within)

  gate_stays : is_durable x 0 ≡ true → is_durable y 0 ≡ true
  gate_stays durable = keeps 0 (λ within. after_gate (other side) 0 within refl) durable

  -- the current slot and the gate are what they were
  unchanged : (d : DiscState) (before b left : List (List ℕ)) → length b ≡ d.size → gate_side before ≡ side → d.held ≡ Some b → gate_side b ≡ gate_side before → slot side b ≡ slot side before
      → is_durable d 0 ≡ true → AreDurable (IsInSlot side) d → MayLeave d left → current left ≡ current before
  unchanged d before b left long names held gate kept durable slots may =
      current_at side left (gate_left d b left held may durable ∙ gate ∙ names) ∙ slot_left d b left held may side long slots ∙ kept ∙ sym (current_at side before names)

  -- a block of the other slot couldn't be written
  pub survives_filling : GateNames side x.held → Changes (KeepsCurrent side) x.held y.held → is_durable x 0 ≡ true → AreDurable (IsInSlot side) x
      → PowerLossLeaves (λ before left. (current left ≡ current before) ⊎ (current left ≡ image)) x y
  survives_filling names kept gate durable before held left may =
      let mid = kept.told before held in
      inl (unchanged y before mid.0 left (mid.2.size ∙ whole before held ∙ sym same_size) (names before held) mid.1 mid.2.gate mid.2.kept (gate_stays gate) (slot_stays durable) may)

  module _ (z : DiscState) (last_size : z.size ≡ y.size) (fills : Changes (Fills side image) x.held y.held) (flips : Changes Flips y.held z.held)
      (stays : (j : ℕ) → j ≢ 0 → is_durable y j ≡ true → is_durable z j ≡ true) where
    slot_durable : AreDurable (IsInSlot side) x → AreDurable (IsInSlot side) z
    slot_durable durable j within = stays j (after_gate side j within) (slot_stays durable j within)

    new_durable : AreSyncable (IsInSlot (other side)) y → HasSynced y z → AreDurable (IsInSlot (other side)) z
    new_durable filled synced j within = synced j (after_gate (other side) j within) (filled j within)

    -- the blocks at the end
    ends : (before : List (List ℕ)) → x.held ≡ Some before
        → (b : List (List ℕ)) × (z.held ≡ Some b) × (length b ≡ z.size) × (slot side b ≡ slot side before) × (slot (other side) b ≡ image)
    ends before held =
        let mid = fills.told before held in
        let end = flips.told mid.0 mid.1 in (
          end.0,
          end.1,
          end.2.size ∙ mid.2.kept.size ∙ whole before held ∙ sym (last_size ∙ same_size),
          end.2.slots side ∙ mid.2.kept.kept,
          end.2.slots (other side) ∙ mid.2.whole,
        )

    old_left : (before left : List (List ℕ)) → x.held ≡ Some before → AreDurable (IsInSlot side) x → MayLeave z left → slot side left ≡ slot side before
    old_left before left held durable may = let end = ends before held in slot_left z end.0 left end.1 may side end.2 (slot_durable durable) ∙ end.3

    new_left : (before left : List (List ℕ)) → x.held ≡ Some before → AreSyncable (IsInSlot (other side)) y → HasSynced y z → MayLeave z left → slot (other side) left ≡ image
    new_left before left held filled synced may =
        let end = ends before held in slot_left z end.0 left end.1 may (other side) end.2 (new_durable filled synced) ∙ end.4

    pub survives : {T E : Type 0} (result : Result T E) (now : Side) → AreSyncable (IsInSlot (other side)) y → OnOk result (now ≡ other side) → OnOk result (GateNames now z.held)
        → OnOk result (HasSynced y z × (is_durable z 0 ≡ true)) → OnOk result (PowerLossLeaves (λ _ left. current left ≡ image) x z)
    survives (Err e) now filled is names synced = tt
    survives (Ok t) now filled is names (synced, gate) = λ before held left may.
        let end = ends before held in
        current_at (other side) left (gate_left z end.0 left end.1 may gate ∙ names end.0 end.1 ∙ is) ∙ new_left before left held filled synced may

    pub old_survives : {T E : Type 0} (result : Result T E) → AreDurable (IsInSlot side) x → OnOk result (PowerLossLeaves (λ before left. slot side left ≡ slot side before) x z)
    old_survives (Err e) durable = tt
    old_survives (Ok t) durable = λ before held left may. old_left before left held durable may

    -- the gate couldn't be written
    module _ (names : GateNames side x.held) (filled : AreSyncable (IsInSlot (other side)) y) (gate : is_durable x 0 ≡ true) (durable : AreDurable (IsInSlot side) x)
        (before : List (List ℕ)) (held : x.held ≡ Some before) (left : List (List ℕ)) (may : MayLeave z left) where
      is_old : gate_side left ≡ side → current left ≡ current before
      is_old named = current_at side left named ∙ old_left before left held durable may ∙ sym (current_at side before (names before held))

      either : HasSynced y z → (gate_side left ≡ side) ⊎ (gate_side left ≡ other side) → (current left ≡ current before) ⊎ (current left ≡ image)
      either synced (inl named) = inl (is_old named)
      either synced (inr named) = inr (current_at (other side) left named ∙ new_left before left held filled synced may)

      torn_gate : GateFailed y z → (current left ≡ current before) ⊎ (current left ≡ image)
      torn_gate (inl (same, stands)) =
          let mid = fills.told before held in
          inl (is_old (gate_left z mid.0 left (same ∙ mid.1) may (stands (gate_stays gate)) ∙ mid.2.kept.gate ∙ names before held))
      torn_gate (inr synced) = either synced (one_or_other (gate_side left) side)

    pub survives_flipping : {T E : Type 0} (result : Result T E) → GateNames side x.held → AreSyncable (IsInSlot (other side)) y → OnErr result (GateFailed y z) → is_durable x 0 ≡ true
        → AreDurable (IsInSlot side) x → OnErr result (PowerLossLeaves (λ before left. (current left ≡ current before) ⊎ (current left ≡ image)) x z)
    survives_flipping (Ok t) names filled failed gate durable = tt
    survives_flipping (Err e) names filled failed gate durable = λ before held left may. torn_gate names filled gate durable before held left may failed
