-- What a power loss may leave of a reel in a file.
-- serves: end_with (durable), finish (no_more), open (able), secure (durable), RackRiskLemmas
use Rattle.std.proofs.Common.{◌≡◌, ◌⊎◌, ◌==◌, ℕ, zero, suc, ◌+◌, ◌*◌, ◌<◌, ◌≤◌, true, List, [], ◌∷◌, length, map, take, min, Result, Ok, Err, OnErr, OnOk, Some, None, refl, sym, ap, subst, ◌∙◌, inl, inr, arith, length-take}
use Rattle.std.specs.Prelude.{All, Contains, Option, option_map, slice_get}
use Rattle.std.specs.Option.{ForSome}
use Rattle.std.proofs.lemmas.Bool.{and_from, and_parts, cases_eq, eq-eqb, ne_eqb}
use Rattle.std.proofs.lemmas.List.{take-take, take_all}
use Rattle.std.proofs.lemmas.List.Elements.{All-contains, Contains-append_cases, Contains-append_left, Contains-append_right}
use Rattle.std.proofs.lemmas.Option.{none-some, same_Some}
use Rattle.g_tape.specs.Reel.{Remains, Shortened, Torn, Unchanged}
use Rattle.g_tape.specs.Risk.{IsRemnant, IsSynced, Remnant}
use Rattle.g_files.specs.Bytes.{blocks_of}
use Rattle.g_files.specs.ReelRisk.{all_begin, can_sync, cut_remnant, same_blocks, same_bytes, with_cuts}
use Rattle.g_base.specs.ToldContent.{Changes}
use Rattle.g_base.proofs.ToldLemmas.{Changes-back}
use Rattle.g_files.specs.BlockFile.{Blocks, blocks_seen, content_of, ended, left_of, len_of}
use Rattle.g_files.specs.Front.{KeepsFront}
use Rattle.g_files.specs.Growth.{IsOrderly}
use Rattle.g_files.specs.Risks.{IsStored, Keeps, KeepsTo, LeavesBegun, LeavesNoMoreBlocks, durability_of, durable_of, reach_of}
use Rattle.g_files.specs.declared.block_file.BlockFile.{BlockFile}
use Rattle.g_files.specs.declared.raw.RawFile.{Ghosts}
use Rattle.g_files.specs.Sectors.{AreResized, IsWhole, LeavesSectors}
use Rattle.g_files.proofs.BlockLemmas.{length-blocks_of}
use Rattle.g_files.proofs.RiskLemmas.{Kept, Left, kept_less, left_kept, left_short, left_stored}
use Rattle.g_files.proofs.SectorLemmas.{get_take, long_by, take_gets}

-- THE SAME BLOCKS

same_bytes_is : (x y : List ℕ) → same_bytes x y ≡ true → x ≡ y
unfolding same_bytes
same_bytes_is [] [] is = refl
same_bytes_is [] (y ∷ ys) is = absurd (cc)
same_bytes_is (x ∷ xs) [] is = absurd (cc)
same_bytes_is (x ∷ xs) (y ∷ ys) is =
    let p = and_parts (x == y) (same_bytes xs ys) is in
    elim (cases_eq x y) [
      | inl same ↦ ap (λ (z : ℕ). z ∷ xs) same ∙ ap (λ (zs : List ℕ). y ∷ zs) (same_bytes_is xs ys p.1)
      | inr other ↦ absurd (let no = ne_eqb x y other in let yes = p.0 in cc)
    ]

same_bytes_refl : (x : List ℕ) → same_bytes x x ≡ true
unfolding same_bytes
same_bytes_refl [] = refl
same_bytes_refl (x ∷ xs) = and_from (x == x) (same_bytes xs xs) (eq-eqb x x refl) (same_bytes_refl xs)

same_blocks_is : (x y : List (List ℕ)) → same_blocks x y ≡ true → x ≡ y
unfolding same_blocks
same_blocks_is [] [] is = refl
same_blocks_is [] (y ∷ ys) is = absurd (cc)
same_blocks_is (x ∷ xs) [] is = absurd (cc)
same_blocks_is (x ∷ xs) (y ∷ ys) is =
    let p = and_parts (same_bytes x y) (same_blocks xs ys) is in
    ap (λ (z : List ℕ). z ∷ xs) (same_bytes_is x y p.0) ∙ ap (λ (zs : List (List ℕ)). y ∷ zs) (same_blocks_is xs ys p.1)

same_blocks_refl : (x : List (List ℕ)) → same_blocks x x ≡ true
unfolding same_blocks
same_blocks_refl [] = refl
same_blocks_refl (x ∷ xs) = and_from (same_bytes x x) (same_blocks xs xs) (same_bytes_refl x) (same_blocks_refl xs)

-- ALL REMNANTS BEGIN WITH THESE BLOCKS

each_begins : (n : ℕ) (blocks : List (List ℕ)) (ms : List Remnant) → all_begin n blocks ms ≡ true → (m : Remnant) → Contains ms m → take n m.front ≡ take n blocks
unfolding all_begin
each_begins n blocks [] is m (k, below, at) = absurd (omega (arith, below))
each_begins n blocks (first ∷ ms) is m (zero, below, at) =
    let p = and_parts (same_blocks (take n first.front) (take n blocks)) (all_begin n blocks ms) is in
    subst (λ (r : Remnant). take n r.front ≡ take n blocks) at (same_blocks_is (take n first.front) (take n blocks) p.0)
each_begins n blocks (first ∷ ms) is m (suc k, below, at) =
    let p = and_parts (same_blocks (take n first.front) (take n blocks)) (all_begin n blocks ms) is in
    each_begins n blocks ms p.1 m (k, omega (arith, below), at)

all_begins : (n : ℕ) (blocks : List (List ℕ)) (ms : List Remnant) → ((m : Remnant) → Contains ms m → take n m.front ≡ take n blocks) → all_begin n blocks ms ≡ true
unfolding all_begin
all_begins n blocks [] each = refl
all_begins n blocks (first ∷ ms) each =
    let same : take n first.front ≡ take n blocks = each first (0, omega arith, refl) in
    and_from (same_blocks (take n first.front) (take n blocks)) (all_begin n blocks ms)
    (subst (λ (bs : List (List ℕ)). same_blocks (take n first.front) bs ≡ true) same (same_blocks_refl (take n first.front)))
    (all_begins n blocks ms (λ m there. let (k, below, at) = there in each m (suc k, omega (arith, below), at)))

pub begin_to : (n : ℕ) (blocks : List (List ℕ)) (ms : List Remnant) → all_begin n blocks ms ≡ true → n ≤ length blocks
    → (left : List (List ℕ)) → LeavesSectors ms left → take n left ≡ take n blocks
begin_to n blocks ms is few left (m, there, remnant) =
    let same = each_begins n blocks ms is m there in
    let long : n ≤ length m.front = long_by n m.front blocks same few in
    sym (take-take n (length m.front) left long) ∙ ap (take n) remnant.front ∙ same

-- a whole remnant may be left without more
itself : (ms : List Remnant) (m : Remnant) → All IsWhole ms → Contains ms m → LeavesSectors ms m.front
itself ms m whole there =
    let is = All-contains IsWhole ms m whole there in
    (m, there, record { front = take_all (length m.front) m.front (omega arith); most = is.fits; whole = is.each })

pub begin_from : (n : ℕ) (blocks : List (List ℕ)) (ms : List Remnant) → All IsWhole ms
    → ((left : List (List ℕ)) → LeavesSectors ms left → take n left ≡ take n blocks) → all_begin n blocks ms ≡ true
begin_from n blocks ms whole each = all_begins n blocks ms (λ m there. each m.front (itself ms m whole there))

-- CUTS

contains_cut : (n : ℕ) (ms : List Remnant) (m : Remnant) → Contains (map (cut_remnant n) ms) m → (r : Remnant) × Contains ms r × (cut_remnant n r ≡ m)
contains_cut n [] m (k, below, at) = absurd (omega (arith, below))
contains_cut n (first ∷ ms) m (zero, below, at) = (first, (0, omega arith, refl), at)
contains_cut n (first ∷ ms) m (suc k, below, at) =
    let (r, there, is) = contains_cut n ms m (k, omega (arith, below), at) in
    let (j, within, found) = there in
    (r, (suc j, omega (arith, within), found), is)

cut_contains : (n : ℕ) (ms : List Remnant) (r : Remnant) → Contains ms r → Contains (map (cut_remnant n) ms) (cut_remnant n r)
cut_contains n [] r (k, below, at) = absurd (omega (arith, below))
cut_contains n (first ∷ ms) r (zero, below, at) = (0, omega arith, ap (cut_remnant n) at)
cut_contains n (first ∷ ms) r (suc k, below, at) =
    let (j, within, found) = cut_contains n ms r (k, omega (arith, below), at) in
    (suc j, omega (arith, within), found)

cut_is : (n : ℕ) (r : Remnant) (left : List (List ℕ)) → IsRemnant (cut_remnant n r) left → AreResized (512 * n) r.front left
cut_is n r left is = record {
  most = (let most = is.most in omega (arith, most));
  front = λ i early here.
      let c = length (take n r.front) in
      let below : i < c = omega (arith, early, here, length-take n r.front) in
      sym (get_take c left i below) ∙ ap (λ (s : List (List ℕ)). slice_get s i) is.front ∙ get_take n r.front i (omega (arith, early));
  whole = is.whole;
}

is_cut : (n : ℕ) (r : Remnant) (x left : List (List ℕ)) → IsRemnant r x → AreResized (512 * n) x left → IsRemnant (cut_remnant n r) left
is_cut n r x left is resized =
    let c = length (take n r.front) in
    let count = length-take n r.front in
    let long : length r.front ≤ length x = long_by (length r.front) x r.front (is.front ∙ sym (take_all (length r.front) r.front (omega arith))) (omega arith) in record {
      front = take_gets c left (take n r.front) (λ i below.
          let first : i < length r.front = omega (arith, below, count) in
          let early : i < n = omega (arith, below, count) in
          resized.front i (omega (arith, early)) (omega (arith, first, long))
          ∙ sym (get_take (length r.front) x i first) ∙ ap (λ (s : List (List ℕ)). slice_get s i) is.front ∙ sym (get_take n r.front i early))
          ∙ take_all c (take n r.front) (omega arith);
      most = (let most = resized.most in omega (arith, most));
      whole = resized.whole;
    }

pub cuts_to : (n : ℕ) (ms : List Remnant) → All IsWhole ms → (left : List (List ℕ)) → LeavesSectors (with_cuts n ms) left → Left n ms left
cuts_to n ms whole left (m, there, is) = elim (Contains-append_cases ms (map (cut_remnant n) ms) m there) [
  | inl here ↦ inl (m, here, is)
  | inr cut ↦
      let (r, here, same) = contains_cut n ms m cut in
      inr (r.front, itself ms r whole here, cut_is n r left (subst (λ (x : Remnant). IsRemnant x left) (sym same) is))
]

pub cuts_from : (n : ℕ) (ms : List Remnant) (left : List (List ℕ)) → Left n ms left → LeavesSectors (with_cuts n ms) left
cuts_from n ms left (inl (m, there, is)) = (m, Contains-append_left ms (map (cut_remnant n) ms) m there, is)
cuts_from n ms left (inr (x, (m, there, is), resized)) =
    (cut_remnant n m, Contains-append_right ms (map (cut_remnant n) ms) (cut_remnant n m) (cut_contains n ms m there), is_cut n m x left is resized)

-- WHAT IS SYNCABLE

pub can_from : (n len : ℕ) (x : Option (List ℕ)) (ms : List Remnant) → All IsWhole ms → Kept n x len ms → can_sync n (option_map (blocks_of len) x) ms ≡ true
can_from n len None ms whole kept = refl
can_from n len (Some b) ms whole kept = begin_from n (blocks_of len b) ms whole (kept b refl)

pub can_to : (n len : ℕ) (x : Option (List ℕ)) (ms : List Remnant) → n ≤ len → can_sync n (option_map (blocks_of len) x) ms ≡ true → Kept n x len ms
can_to n len x ms few can b at left leaves =
    let can' : all_begin n (blocks_of len b) ms ≡ true = subst (λ (o : Option (List ℕ)). can_sync n (option_map (blocks_of len) o) ms ≡ true) at can in
    begin_to n (blocks_of len b) ms can' (omega (arith, few, length-blocks_of len b)) left leaves

-- A REEL IN A FILE OF BLOCKS

pub seen_some : {X Y : Type 0} (h : X → Y) (x : Option X) (y : Y) → option_map h x ≡ Some y → (b : X) × (x ≡ Some b) × (h b ≡ y)
seen_some h None y at = absurd (none-some y at)
seen_some h (Some b) y at = (b, refl, same_Some (h b) y at)

abbrev pub Seen : {F : Type 0} {g : Ghosts F} → BlockFile F g → Option (List (List ℕ))
Seen f = option_map (blocks_of (len_of f)) (content_of f)

abbrev pub ReelLeaves : {F : Type 0} {g : Ghosts F} → BlockFile F g → List (List ℕ) → Type 0
ReelLeaves f left = LeavesSectors (with_cuts (len_of f) (durability_of f).remnants) left

abbrev pub Syncs : {F : Type 0} {g : Ghosts F} → BlockFile F g → Type 0
Syncs f = can_sync (durable_of f) (Seen f) (durability_of f).remnants ≡ true

abbrev pub ReelKept : {F : Type 0} {g : Ghosts F} → ℕ → BlockFile F g → Type 0
ReelKept n f = ForSome (Seen f) (λ blocks. (left : List (List ℕ)) → ReelLeaves f left → take n left ≡ take n blocks)

module _ {F : Type 0} {g : Ghosts F} (f : BlockFile F g) (whole : All IsWhole (durability_of f).remnants) where
  abbrev pub ms : List Remnant
  ms = (durability_of f).remnants

  pub kept_from_reel : (n : ℕ) → ReelKept n f → Keeps n f
  kept_from_reel n kept b at left there =
      kept (blocks_of (len_of f) b) (ap (option_map (blocks_of (len_of f))) at) left (cuts_from (len_of f) ms left (inl there))

  pub reel_kept : (n : ℕ) → n ≤ len_of f → Keeps n f → ReelKept n f
  reel_kept n few kept blocks at left there =
      let (b, is, same) = seen_some (blocks_of (len_of f)) (content_of f) blocks at in
      left_kept n (len_of f) b ms few (kept b is) left (cuts_to (len_of f) ms whole left there) ∙ ap (take n) same

  pub kept_if_syncs : Syncs f → Keeps (durable_of f) f
  kept_if_syncs can = can_to (durable_of f) (len_of f) (content_of f) ms f.counted can

  pub syncs_if_kept : Keeps (durable_of f) f → Syncs f
  syncs_if_kept kept = can_from (durable_of f) (len_of f) (content_of f) ms whole kept

  -- as far as a block that is written next
  pub kept_to : (k : ℕ) → Syncs f ⊎ ReelKept k f → KeepsTo k f
  kept_to k (inl can) = kept_less (min (durable_of f) k) (durable_of f) (len_of f) (content_of f) ms (omega arith) (kept_if_syncs can)
  kept_to k (inr kept) = kept_less (min (durable_of f) k) k (len_of f) (content_of f) ms (omega arith) (kept_from_reel k kept)

  pub reel_stored : IsStored f → ForSome (Seen f) (λ blocks. (left : List (List ℕ)) → ReelLeaves f left → left ≡ blocks)
  reel_stored stored blocks at left there =
      let (b, is, same) = seen_some (blocks_of (len_of f)) (content_of f) blocks at in
      left_stored (len_of f) b ms (stored b is) left (cuts_to (len_of f) ms whole left there) ∙ same

  pub reel_short : (n : ℕ) → len_of f ≤ n → IsOrderly (reach_of f) → ForSome (Seen f) (λ blocks. (left : List (List ℕ)) → ReelLeaves f left → length left ≤ n)
  reel_short n few orderly blocks at left there =
      let (b, is, same) = seen_some (blocks_of (len_of f)) (content_of f) blocks at in
      left_short n (len_of f) ms few (λ z here. let short = f.short orderly b is z here in omega (arith, short, few)) left (cuts_to (len_of f) ms whole left there)

-- what a write leaves
pub reel_begun : {F : Type 0} {g : Ghosts F} (f f' : BlockFile F g) (k : ℕ) (able : Type 0) → All IsWhole (durability_of f').remnants
    → Changes (KeepsFront (512 * k)) (content_of f) (content_of f') → LeavesBegun k able f f'
    → ForSome (Seen f') (λ seen. (left : List (List ℕ)) → ReelLeaves f' left
    → ForSome (Seen f) (λ blocks. ReelLeaves f left) ⊎ ((length left ≤ k + 1) × (able → ForSome (Seen f) (λ blocks. take k left ≡ take k blocks))))
reel_begun f f' k able whole front begun seen at left there =
    let (b', is', same') = seen_some (blocks_of (len_of f')) (content_of f') seen at in
    let back = Changes-back (KeepsFront (512 * k)) (content_of f) (content_of f') front b' is' in
    elim (begun back.0 back.1 left (cuts_to (len_of f') (durability_of f').remnants whole left there)) [
      | inl same ↦ inl (λ blocks here. cuts_from (len_of f) (durability_of f).remnants left same)
      | inr is ↦ inr (
        is.short,
        λ a blocks here.
            let first : Some (blocks_of (len_of f) back.0) ≡ Some blocks = sym (ap (option_map (blocks_of (len_of f))) back.1) ∙ here in
            is.front a ∙ ap (take k) (same_Some (blocks_of (len_of f) back.0) blocks first),
      )
    ]

-- THE CLAUSES OF `FileReel`

left_least : (how : Remains) (k : ℕ) (old new : Blocks) → k ≤ old.len → new ≡ left_of how k old → k ≤ new.len
left_least Unchanged k old new few is = omega (arith, few, ap (λ (b : Blocks). b.len) is)
left_least Shortened k old new few is = omega (arith, ap (λ (b : Blocks). b.len) is)
left_least (Torn block) k old new few is = omega (arith, ap (λ (b : Blocks). b.len) is)

pub least_by : {T E : Type 0} (k : ℕ) (block : List ℕ) (old new : Blocks) (r : Result T E) → k ≤ old.len → OnOk r (new ≡ ended k block old)
    → OnErr r ((how : Remains) × (new ≡ left_of how k old)) → k ≤ new.len
least_by k block old new (Ok x) few done left = omega (arith, ap (λ (b : Blocks). b.len) done)
least_by k block old new (Err e) few done (how, is) = left_least how k old new few is

pub short_reel : {F : Type 0} {g : Ghosts F} {T E : Type 0} (f' : BlockFile F g) → All IsWhole (durability_of f').remnants → (k : ℕ) (block : List ℕ) (old : Blocks) (r : Result T E)
    → OnOk r (blocks_seen f' ≡ ended k block old) → OnOk r (IsOrderly (reach_of f'))
    → OnOk r (ForSome (Seen f') (λ blocks. (left : List (List ℕ)) → ReelLeaves f' left → length left ≤ k + 1))
short_reel f' whole k block old (Ok x) done orderly = reel_short f' whole (k + 1) (omega (arith, ap (λ (b : Blocks). b.len) done)) orderly
short_reel f' whole k block old (Err e) done orderly = tt

pub leaves_reel : {F : Type 0} {g : Ghosts F} (f f' : BlockFile F g) → All IsWhole (durability_of f').remnants → Seen f' ≡ Seen f → LeavesNoMoreBlocks f f'
    → (left : List (List ℕ)) → ForSome (Seen f') (λ blocks. ReelLeaves f' left) → ForSome (Seen f) (λ blocks. ReelLeaves f left)
leaves_reel f f' whole same more left leaves blocks at =
    cuts_from (len_of f) (durability_of f).remnants left (more left (cuts_to (len_of f') (durability_of f').remnants whole left (leaves blocks (same ∙ at))))

pub secured_reel : {F : Type 0} {g : Ghosts F} {T E : Type 0} (f f' : BlockFile F g) → All IsWhole (durability_of f).remnants → All IsWhole (durability_of f').remnants → (r : Result T E)
    → (Keeps (durable_of f) f → OnOk r (IsStored f'))
    → OnOk r (Syncs f → ForSome (Seen f') (λ blocks. (left : List (List ℕ)) → ReelLeaves f' left → left ≡ blocks))
secured_reel f f' whole whole' (Ok x) stored = λ can. reel_stored f' whole' (stored (kept_if_syncs f whole can))
secured_reel f f' whole whole' (Err e) stored = tt

pub failed_reel : {F : Type 0} {g : Ghosts F} {T E : Type 0} (f f' : BlockFile F g) (k : ℕ) (block : List ℕ) (r : Result T E) → All IsWhole (durability_of f).remnants
    → All IsWhole (durability_of f').remnants → Changes (KeepsFront (512 * k)) (content_of f) (content_of f')
    → LeavesBegun k (IsSynced k block × KeepsTo k f) f f'
    → OnErr r (ForSome (Seen f') (λ seen. (left : List (List ℕ)) → ReelLeaves f' left
    → ForSome (Seen f) (λ blocks. ReelLeaves f left)
    ⊎ ((length left ≤ k + 1) × (IsSynced k block → Syncs f ⊎ ReelKept k f → ForSome (Seen f) (λ blocks. take k left ≡ take k blocks)))))
failed_reel f f' k block (Ok x) whole whole' front begun = tt
failed_reel f f' k block (Err e) whole whole' front begun = λ seen at left there.
    elim (reel_begun f f' k (IsSynced k block × KeepsTo k f) whole' front begun seen at left there) [
      | inl same ↦ inl same
      | inr is ↦ inr (is.0, λ needed able. is.1 (needed, kept_to f whole k able))
    ]
