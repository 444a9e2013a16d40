-- Writes that don't change the directory that a disc holds.
-- serves: quiet_writes (bytes, copy, slot), Surviving, crates above
use Rattle.std.proofs.Common.{◌≡◌, ℕ, zero, suc, ◌+◌, ◌-◌, ◌<◌, ◌≤◌, List, [], ◌∷◌, length, get_or, take, drop, Option, sym, ◌∙◌, ap, subst, arith, slice_get, length-set}
use Rattle.std.specs.Prelude.{All, Contains, ◌%◌, ◌==◌, if◌then◌else◌, unwrap_or}
use Rattle.std.proofs.Math.ListN.{set}
use Rattle.std.proofs.lemmas.List.{drop-set-add, take-set-le, get_or-drop, get_or-take, get_or_default, length-drop, length-take, same_lists}
use Rattle.std.proofs.lemmas.List.Elements.{All-contains}
use Rattle.std.proofs.lemmas.Option.{unwrap_or-slice_get}
use Rattle.g_blocks.specs.Pool.{IsInArea}
use Rattle.g_blocks.proofs.Marks.{slice_get-set_other}
use Rattle.g_copy.proofs.Blocks.{blocks_at-OnlyAt}
use Rattle.g_copy.specs.Copy.{OnlyAt, bytes_at}
use Rattle.g_slots.proofs.OneWrite.{gate_side-set, keeps_current}
use Rattle.g_slots.specs.Commit.{KeepsCurrent}
use Rattle.g_slots.specs.declared.side.Side.{Side}
use Rattle.g_slots.specs.declared.side.Side.TheVariants.{A, B}
use Rattle.g_slots.specs.Layout.{current, gate_side, other, slot, start_of}
use Rattle.g_dirs.specs.Directory.{Directory, IsDirectory}
use Rattle.g_dirs.specs.Image.{IsImage, StandsFor}
use Rattle.g_dirs.specs.Pages.{Remembered, Remembers}

-- THE DIRECTORY of a disc depends only on its current slot and its size
pub stands_same : (before after : List (List ℕ)) (d : Directory) → current after ≡ current before → length after ≡ length before → StandsFor before d → StandsFor after d
stands_same before after d slots size stands = record {
  format = stands.format;
  image = subst (IsImage stands.format d) (sym slots) stands.image;
  records = stands.records;
  rules = subst (λ (n : ℕ). IsDirectory n d) (sym size) stands.rules;
}

-- the current slot is unchanged if the gate and that slot are
pub current_kept : (before after : List (List ℕ)) → KeepsCurrent (gate_side before) before after → current after ≡ current before
current_kept before after kept = ap (λ (s : Side). slot s after) kept.gate ∙ kept.kept

pub quiet_slot : (blocks : List (List ℕ)) (k : ℕ) (left : List ℕ) (d : Directory) → k < 1088 → StandsFor blocks d → StandsFor (set blocks (start_of (other (gate_side blocks)) + k) left) d
quiet_slot blocks k left d below stands =
    let after = set blocks (start_of (other (gate_side blocks)) + k) left in
    let kept = keeps_current blocks k left below (gate_side blocks) in
    stands_same blocks after d (current_kept blocks after kept) kept.size stands

slot-set-copy : (side : Side) (blocks : List (List ℕ)) (place : ℕ) (left : List ℕ) → 2177 ≤ place → slot side (set blocks place left) ≡ slot side blocks
unfolding slot
slot-set-copy A blocks place left past =
    let at : place ≡ 1 + (place - 1) = omega arith in
    ap (λ (i : ℕ). take 1088 (drop 1 (set blocks i left))) at ∙ ap (take 1088) (drop-set-add 1 blocks (place - 1) left) ∙ take-set-le 1088 (drop 1 blocks) (place - 1) left (omega arith)
slot-set-copy B blocks place left past =
    let at : place ≡ 1089 + (place - 1089) = omega arith in
    ap (λ (i : ℕ). take 1088 (drop 1089 (set blocks i left))) at ∙ ap (take 1088) (drop-set-add 1089 blocks (place - 1089) left) ∙ take-set-le 1088 (drop 1089 blocks) (place - 1089) left (omega arith)

pub quiet_copy : (blocks : List (List ℕ)) (place : ℕ) (left : List ℕ) (d : Directory) → 2177 ≤ place → StandsFor blocks d → StandsFor (set blocks place left) d
quiet_copy blocks place left d past stands =
    let after = set blocks place left in
    let gate = gate_side-set blocks place left (omega arith) in
    stands_same blocks after d (ap (λ (s : Side). slot s after) gate ∙ slot-set-copy (gate_side blocks) blocks place left past) (length-set blocks place left) stands

-- a list of one number
alone : (place k : ℕ) → Contains (place ∷ []) k → place ≡ k
alone place k (zero, inside, is) = is
alone place k (suc i, inside, is) = let no : ⊥ = omega (arith, inside) in absurd no

one_place : (blocks : List (List ℕ)) (place : ℕ) (left : List ℕ) → OnlyAt (place ∷ []) blocks (set blocks place left)
one_place blocks place left = record {
  size = length-set blocks place left;
  others = λ k apart. slice_get-set_other blocks place k left (λ same. apart (0, omega arith, sym same));
}

pub quiet_bytes : (blocks : List (List ℕ)) (place : ℕ) (left places : List ℕ) (len : ℕ) → (Contains places place → ⊥) → bytes_at places len (set blocks place left) ≡ bytes_at places len blocks
quiet_bytes blocks place left places len apart =
    let each : All (λ k. Contains (place ∷ []) k → ⊥) places = λ j d inside among.
    apart (j, inside, get_or_default places j place d inside ∙ sym (alone place (get_or places j d) among)) in
    ap (take len) (blocks_at-OnlyAt (place ∷ []) places blocks (set blocks place left) (one_place blocks place left) each)

start_low : (side : Side) (k : ℕ) → k < 1088 → start_of side + k < 2177
start_low A k below = omega arith
start_low B k below = omega arith

-- A WRITE INTO THE COPY AREA leaves the gate and the slots unchanged
module _ (places : List ℕ) (a b : List (List ℕ)) (only : OnlyAt places a b) (size : ℕ) (area : All (IsInArea size) places) where
  same_at : (k : ℕ) (d : List ℕ) → k < 2177 → get_or b k d ≡ get_or a k d
  same_at k d below =
      let apart : Contains places k → ⊥ = λ is. let low = (All-contains (IsInArea size) places k area is).low in let none : ⊥ = omega arith in none in
      sym (unwrap_or-slice_get b k d) ∙ ap (λ (o : Option (List ℕ)). unwrap_or o d) (only.others k apart) ∙ unwrap_or-slice_get a k d

  pub gate_kept : gate_side b ≡ gate_side a
  unfolding gate_side
  gate_kept = ap (λ (g : List ℕ). if get_or g 0 0 % 2 == 0 then A else B) (same_at 0 [] (omega arith))

  pub slot_kept : (side : Side) → slot side b ≡ slot side a
  unfolding slot
  slot_kept side =
      same_lists (take 1088 (drop (start_of side) b)) (take 1088 (drop (start_of side) a))
      (let same = only.size in simp (length-take, length-drop) (omega arith))
      (λ k d within.
      let below : k < 1088 = omega (arith, length-take 1088 (drop (start_of side) b)) in
      get_or-take 1088 (drop (start_of side) b) k d below ∙ get_or-drop (start_of side) b k d
      ∙ same_at (start_of side + k) d (start_low side k below)
      ∙ sym (get_or-take 1088 (drop (start_of side) a) k d below ∙ get_or-drop (start_of side) a k d))

  pub remembers_kept : (pages : Remembered) → Remembers pages a → Remembers pages b
  remembers_kept pages was = record {
    block = λ side k page there. ap (λ (blocks : List (List ℕ)). slice_get blocks k) (slot_kept side) ∙ was.block side k page there;
  }

  pub stands_beside : (d : Directory) → StandsFor a d → StandsFor b d
  stands_beside d stands = stands_same a b d (ap (λ (s : Side). slot s b) gate_kept ∙ slot_kept (gate_side a)) only.size stands
