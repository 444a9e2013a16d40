-- What one write does to the gate, the slots and the copy area.
-- serves: commit (one_survives), find (ok), flip (any, gate), prepare (ok, stopped, torn), read (ok), Filling, crates above
use Rattle.std.proofs.Common.{◌≡◌, ◌≢◌, ℕ, ◌+◌, ◌%◌, ◌<◌, ◌≤◌, ◌==◌, if◌then◌else◌, List, [], length, get_or, take, drop, Option, Some, sym, ◌∙◌, ap, arith, slice_get, get_or-set_other, get_or-set_same, length-set, length-take, length-drop}
use Rattle.std.specs.Prelude.{Result, Ok, Err, OnErr}
use Rattle.std.proofs.Math.ListN.{set}
use Rattle.std.proofs.Math.Seq.{take-set-lt}
use Rattle.std.proofs.lemmas.List.{drop-set-add, drop-set-lt, take-set-le, get_or-drop, get_or-take}
use Rattle.std.proofs.lemmas.Option.{get_or_from_slice_get, slice_get-get_or, slice_get_within}
use Rattle.g_base.specs.Block.{IsBlock, with_block}
use Rattle.g_base.specs.ToldContent.{Changes}
use Rattle.g_base.proofs.ToldLemmas.{Changes-with_block, told_after_write}
use Rattle.g_slots.specs.declared.side.Side.{Side}
use Rattle.g_slots.specs.declared.side.Side.TheVariants.{A, B}
use Rattle.g_slots.specs.Layout.{other, start_of, slot, copy_area, gate_block, gate_side}
use Rattle.g_slots.specs.Commit.{Flips, KeepsCurrent, Prepares, Tears}

-- a fact that holds for any result
pub on_err : {T E P : Type 0} (result : Result T E) → P → OnErr result P
on_err (Ok t) holds = tt
on_err (Err e) holds = holds

-- the gate names a slot by its first byte
pub gate_side-named : (blocks : List (List ℕ)) (gate : List ℕ) → slice_get blocks 0 ≡ Some gate → gate_side blocks ≡ (if get_or gate 0 0 % 2 == 0 then A else B)
unfolding gate_side
gate_side-named blocks gate is =
    ap (λ (g : List ℕ). if get_or g 0 0 % 2 == 0 then A else B) (get_or_from_slice_get blocks 0 gate [] is)

slot-get : (side : Side) (k : ℕ) (blocks : List (List ℕ)) (block : List ℕ) → k < 1088 → slice_get blocks (start_of side + k) ≡ Some block → slice_get (slot side blocks) k ≡ Some block
unfolding slot
slot-get side k blocks block below is =
    let start = start_of side in
    let whole : start + k < length blocks = slice_get_within blocks (start + k) block is in
    let there : k < length (take 1088 (drop start blocks)) = simp (length-take, length-drop) (omega arith) in
    slice_get-get_or (take 1088 (drop start blocks)) k [] there
    ∙ ap Some (get_or-take 1088 (drop start blocks) k [] below ∙ get_or-drop start blocks k [] ∙ get_or_from_slice_get blocks (start + k) block [] is)

-- a slot's length
pub length-slot : (side : Side) (blocks : List (List ℕ)) → 2177 ≤ length blocks → length (slot side blocks) ≡ 1088
unfolding slot
length-slot A blocks long = simp (length-take, length-drop) (omega arith)
length-slot B blocks long = simp (length-take, length-drop) (omega arith)

written_gate : (side : Side) (blocks : List (List ℕ)) → 0 < length blocks → slice_get (set blocks 0 (gate_block side)) 0 ≡ Some (gate_block side)
written_gate side blocks there =
    let same : 0 < length (set blocks 0 (gate_block side)) = simp length-set there in
    slice_get-get_or (set blocks 0 (gate_block side)) 0 [] same ∙ ap Some (get_or-set_same blocks 0 (gate_block side) [] there)

-- the gate as a commit writes it
pub gate_side-gate_block : (side : Side) (blocks : List (List ℕ)) → 0 < length blocks → gate_side (set blocks 0 (gate_block side)) ≡ side
unfolding gate_block
gate_side-gate_block A blocks there = gate_side-named (set blocks 0 (gate_block A)) (gate_block A) (written_gate A blocks there)
gate_side-gate_block B blocks there = gate_side-named (set blocks 0 (gate_block B)) (gate_block B) (written_gate B blocks there)

-- a block of a slot, by its place on the disc
pub slot-read : (side : Side) (k start : ℕ) (blocks : List (List ℕ)) (block : List ℕ) → start ≡ start_of side → k < 1088 → slice_get blocks (start + k) ≡ Some block → slice_get (slot side blocks) k ≡ Some block
slot-read side k start blocks block at below is = slot-get side k blocks block below (ap (λ (s : ℕ). slice_get blocks (s + k)) (sym at) ∙ is)

-- a write after the gate
pub gate_side-set : (blocks : List (List ℕ)) (place : ℕ) (v : List ℕ) → 0 < place → gate_side (set blocks place v) ≡ gate_side blocks
unfolding gate_side
gate_side-set blocks place v behind =
    let apart : 0 ≢ place = omega arith in
    ap (λ (g : List ℕ). if get_or g 0 0 % 2 == 0 then A else B) (get_or-set_other blocks place 0 v [] apart)

-- a write before the copy area
pub copy_area-set : (blocks : List (List ℕ)) (place : ℕ) (v : List ℕ) → place < 2177 → copy_area (set blocks place v) ≡ copy_area blocks
unfolding copy_area
copy_area-set blocks place v below = drop-set-lt 2177 blocks place v below

-- a write in the gate
pub slot-set-gate : (side : Side) (blocks : List (List ℕ)) (v : List ℕ) → slot side (set blocks 0 v) ≡ slot side blocks
unfolding slot
slot-set-gate A blocks v = ap (take 1088) (drop-set-lt 1 blocks 0 v (omega arith))
slot-set-gate B blocks v = ap (take 1088) (drop-set-lt 1089 blocks 0 v (omega arith))

-- a write in one of the slots
module _ (b : List (List ℕ)) (k : ℕ) (v : List ℕ) (below : k < 1088) where
  pub slot-set-same : (side : Side) → slot side (set b (start_of side + k) v) ≡ set (slot side b) k v
  unfolding slot
  slot-set-same A = ap (take 1088) (drop-set-add 1 b k v) ∙ take-set-lt 1088 (drop 1 b) k v below
  slot-set-same B = ap (take 1088) (drop-set-add 1089 b k v) ∙ take-set-lt 1088 (drop 1089 b) k v below

  pub slot-set-other : (side : Side) → slot side (set b (start_of (other side) + k) v) ≡ slot side b
  unfolding slot
  slot-set-other A =
      let place : 1089 + k ≡ 1 + (1088 + k) = omega arith in
      ap (λ (i : ℕ). take 1088 (drop 1 (set b i v))) place ∙ ap (take 1088) (drop-set-add 1 b (1088 + k) v) ∙ take-set-le 1088 (drop 1 b) (1088 + k) v (omega arith)
  slot-set-other B = ap (take 1088) (drop-set-lt 1089 b (1 + k) v (omega arith))

  start-within : (side : Side) → (0 < start_of side + k) × (start_of side + k < 2177)
  start-within A = (omega arith, omega arith)
  start-within B = (omega arith, omega arith)

  pub keeps_current : (side : Side) → KeepsCurrent side b (set b (start_of (other side) + k) v)
  keeps_current side = record {
    size = length-set b (start_of (other side) + k) v;
    gate = gate_side-set b _ v (start-within (other side)).0;
    kept = slot-set-other side;
    copies = copy_area-set b _ v (start-within (other side)).1;
  }

  pub prepares : (side : Side) → Prepares side k v b (set b (start_of (other side) + k) v)
  prepares side = record { kept = keeps_current side; written = slot-set-same (other side) }

  pub tears : (side : Side) → IsBlock v → Tears side k b (set b (start_of (other side) + k) v)
  tears side whole = record { left = v; whole = whole; torn = slot-set-same (other side) }

pub flips : (blocks : List (List ℕ)) (v : List ℕ) → Flips blocks (set blocks 0 v)
flips blocks v = record {
  size = length-set blocks 0 v;
  slots = λ side. slot-set-gate side blocks v;
  copies = copy_area-set blocks 0 v (omega arith);
}

-- the same for a disc whose blocks may be observable, after one write
module _ (side : Side) (k start : ℕ) (v : List ℕ) (before after : Option (List (List ℕ))) where
  pub prepared : start ≡ start_of (other side) → k < 1088 → after ≡ with_block (start + k) v before → Changes (Prepares side k v) before after
  prepared at below is =
      Changes-with_block (Prepares side k v) (start_of (other side) + k) v before after
      (is ∙ ap (λ (s : ℕ). with_block (s + k) v before) at)
      (λ b was. prepares b k v below side)

  pub kept_current : start ≡ start_of (other side) → k < 1088 → after ≡ with_block (start + k) v before → Changes (KeepsCurrent side) before after
  kept_current at below is =
      Changes-with_block (KeepsCurrent side) (start_of (other side) + k) v before after
      (is ∙ ap (λ (s : ℕ). with_block (s + k) v before) at)
      (λ b was. keeps_current b k v below side)

  pub torn : start ≡ start_of (other side) → k < 1088 → IsBlock v → after ≡ with_block (start + k) v before → Changes (Tears side k) before after
  torn at below whole is =
      Changes-with_block (Tears side k) (start_of (other side) + k) v before after
      (is ∙ ap (λ (s : ℕ). with_block (s + k) v before) at)
      (λ b was. tears b k v below side whole)

pub flipped : (side : Side) (gate : List ℕ) (before after : Option (List (List ℕ))) → gate ≡ gate_block side → ((b : List (List ℕ)) → before ≡ Some b → 0 < length b) → after ≡ with_block 0 gate before
    → (a : List (List ℕ)) → after ≡ Some a → gate_side a ≡ side
flipped side gate before after names long is =
    told_after_write (λ b. gate_side b ≡ side) 0 gate before after is
    (λ b was. ap (λ (v : List ℕ). gate_side (set b 0 v)) names ∙ gate_side-gate_block side b (long b was))
