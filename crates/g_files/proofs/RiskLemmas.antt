-- What a power loss may leave of a file of blocks, over several calls.
-- serves: append, bring (durable), cut (disorderly), cut_tail (no_more), drop_from (resized), make_room (disorderly, orderly), and 5 more
use Rattle.std.proofs.Common.{◌≡◌, ◌⊎◌, ℕ, ◌+◌, ◌-◌, ◌*◌, ◌<◌, ◌≤◌, List, length, take, min, Result, Ok, Err, OnOk, is_ok, refl, sym, ap, subst, ◌∙◌, inl, inr, arith, length-take, true}
use Rattle.std.specs.Prelude.{Option, slice_get}
use Rattle.std.specs.Option.{ForSome}
use Rattle.std.proofs.lemmas.Bool.{cases_lt}
use Rattle.std.proofs.lemmas.List.{take-take, take_all}
use Rattle.g_base.specs.ToldContent.{Changes}
use Rattle.g_base.proofs.ToldLemmas.{Changes-back}
use Rattle.g_tape.specs.Risk.{Remnant}
use Rattle.g_files.specs.Bytes.{blocks_of}
use Rattle.g_files.specs.Growth.{Appends, AreGrown, AreWritten, Grows, IsOrderly, Rewrites}
use Rattle.g_files.specs.declared.reach.Reach.{Reach}
use Rattle.g_files.specs.declared.reach.Reach.TheVariants.{Behind, Failed, There, Unknown}
use Rattle.g_files.specs.Durability.{AreSectorsSynced, Durability, SetsLength}
use Rattle.g_files.specs.Front.{IsCut, KeepsFront}
use Rattle.g_files.specs.Risks.{IsBegun}
use Rattle.g_files.specs.Sectors.{HasSectors, LeavesNoOther, LeavesResized, LeavesSectors}
use Rattle.g_files.proofs.BlockFileLemmas.{blocks_front}
use Rattle.g_files.proofs.BlockLemmas.{get-blocks_of, length-blocks_of}
use Rattle.g_files.proofs.FrontLemmas.{keeps_less}
use Rattle.g_files.proofs.SectorLemmas.{gets_take, grown_resized, grown_then, long_by, resized_then, same_gets, take_gets}

-- WHAT IS LEFT OF A FILE OF SO MANY BLOCKS: the sectors, or these cut where the last block ends
abbrev pub Left : ℕ → List Remnant → List (List ℕ) → Type 0
Left len ms left = LeavesSectors ms left ⊎ LeavesResized (512 * len) ms left

-- its first n blocks are durable
abbrev pub Kept : ℕ → Option (List ℕ) → ℕ → List Remnant → Type 0
Kept n x len ms = ForSome x (λ b. (left : List (List ℕ)) → LeavesSectors ms left → take n left ≡ take n (blocks_of len b))

-- the first n sectors are those that were left before, as far as these go
abbrev pub Fronts : ℕ → List Remnant → List Remnant → Type 0
Fronts n old new = (left : List (List ℕ)) → LeavesSectors new left
    → (z : List (List ℕ)) × LeavesSectors old z × ((i : ℕ) → i < n → i < length z → slice_get left i ≡ slice_get z i)

-- FRONTS

pub fronts_none : (n : ℕ) (old new : List Remnant) → LeavesNoOther old new → Fronts n old new
fronts_none n old new same left leaves = (left, same left leaves, λ i below here. refl)

pub fronts_grows : (n k : ℕ) (old new : List Remnant) → n ≤ k → Grows k old new → Fronts n old new
fronts_grows n k old new few grows left leaves =
    let (z, there, grown) = grows left leaves in
    (z, there, λ i below here. grown.front i (omega (arith, below, few)) here)

pub fronts_set : (n m : ℕ) (old new : List Remnant) → n ≤ m
    → ((left : List (List ℕ)) → LeavesSectors new left → LeavesSectors old left ⊎ LeavesResized (512 * m) old left) → Fronts n old new
fronts_set n m old new few sets left leaves = elim (sets left leaves) [
  | inl same ↦ (left, same, λ i below here. refl)
  | inr (z, there, resized) ↦ (z, there, λ i below here. resized.front i (omega (arith, below, few)) here)
]

first_blocks : (n len : ℕ) (b : List ℕ) → n ≤ len → take n (blocks_of len b) ≡ blocks_of n b
first_blocks n len b few = sym (blocks_front len n b b few refl)

pub kept_by : (n m len len' : ℕ) (x y : Option (List ℕ)) (old new : List Remnant) → n ≤ len → n ≤ len' → n ≤ m → Changes (KeepsFront (512 * m)) x y
    → Fronts n old new → Kept n x len old → Kept n y len' new
kept_by n m len len' x y old new few few' less front fronts kept b' at left leaves =
    let f = Changes-back (KeepsFront (512 * m)) x y front b' at in
    let (z, there, same) = fronts left leaves in
    let was = kept f.0 f.1 z there in
    let long : n ≤ length z = long_by n z (blocks_of len f.0) was (omega (arith, few, length-blocks_of len f.0)) in
    let bytes = (keeps_less (512 * n) (512 * m) f.0 b' (omega (arith, less)) f.2).same in
    take_gets n left z (λ i below. same i below (omega (arith, below, long))) ∙ was ∙ sym (blocks_front len n b' f.0 few bytes) ∙ sym (first_blocks n len' b' few')

-- fewer blocks are durable too
pub kept_less : (n m len : ℕ) (x : Option (List ℕ)) (ms : List Remnant) → n ≤ m → Kept m x len ms → Kept n x len ms
kept_less n m len x ms less kept b at left leaves =
    sym (take-take n m left less) ∙ ap (take n) (kept b at left leaves) ∙ take-take n m (blocks_of len b) less

pub kept_min : (n m k len : ℕ) (x : Option (List ℕ)) (ms : List Remnant) → n ≡ min m k → Kept m x len ms ⊎ Kept k x len ms → Kept n x len ms
kept_min n m k len x ms same (inl kept) = kept_less n m len x ms (omega (arith, same)) kept
kept_min n m k len x ms same (inr kept) = kept_less n k len x ms (omega (arith, same)) kept

-- NO MORE IS LEFT

pub left_none : (len : ℕ) (old new : List Remnant) → LeavesNoOther old new → (left : List (List ℕ)) → Left len new left → Left len old left
left_none len old new same left (inl there) = inl (same left there)
left_none len old new same left (inr (x, there, resized)) = inr (x, same x there, resized)

pub left_set : (len : ℕ) (old new : List Remnant)
    → ((left : List (List ℕ)) → LeavesSectors new left → LeavesSectors old left ⊎ LeavesResized (512 * len) old left)
    → (left : List (List ℕ)) → Left len new left → Left len old left
left_set len old new sets left (inl there) = sets left there
left_set len old new sets left (inr (x, there, resized)) = elim (sets x there) [
  | inl same ↦ inr (x, same, resized)
  | inr (z, before, first) ↦ inr (z, before, resized_then (512 * len) z x left first resized)
]

-- A SYNC THAT SUCCEEDED

pub has_sectors : (len : ℕ) (x : Option (List ℕ)) → ForSome x (λ b. 512 * len ≤ length b) → ForSome x (λ b. length b < 512 * len + 512) → ForSome x (HasSectors len)
has_sectors len x long ends b at = record { least = long b at; most = ends b at }

pub stored_by : (c len : ℕ) (x : Option (List ℕ)) (d d' : Durability) → ForSome x (HasSectors len) → AreWritten c len d
    → ForSome x (λ b. AreSectorsSynced b d d') → LeavesNoOther d.remnants d'.remnants → Kept c x len d.remnants
    → ForSome x (λ b. (left : List (List ℕ)) → LeavesSectors d'.remnants left → left ≡ blocks_of len b)
stored_by c len x d d' sized written synced same kept b at left leaves =
    let has = sized b at in
    let now = synced b at in
    let size = now.whole written.sized left leaves in
    let least = has.least in let most = has.most in let least' = size.least in let most' = size.most in
    let long : length left ≡ len = omega (arith, least, most, least', most') in
    same_gets len left (blocks_of len b) (omega (arith, long)) (omega (arith, length-blocks_of len b)) (λ i below. elim (cases_lt i c) [
      | inl early ↦ gets_take c left (blocks_of len b) (kept b at left (same left leaves)) i early
      | inr late ↦ now.each i (λ j inside. written.bytes (512 * i + j) (omega (arith, late)) (omega (arith, below, inside))) (omega (arith, below, least)) left leaves (omega (arith, below, long))
          ∙ sym (get-blocks_of len i b below)
    ])

-- and no more than the blocks is left
pub short_by : (len : ℕ) (x : Option (List ℕ)) (d d' : Durability) → ForSome x (HasSectors len) → d.sized ≡ true
    → ForSome x (λ b. AreSectorsSynced b d d') → ForSome x (λ b. (left : List (List ℕ)) → LeavesSectors d'.remnants left → length left ≤ len)
short_by len x d d' sized is synced b at left leaves =
    let has = sized b at in
    let size = (synced b at).whole is left leaves in
    let most = has.most in let least' = size.least in
    omega (arith, most, least')

-- a file of which all blocks are durable
pub kept_stored : (n len : ℕ) (x : Option (List ℕ)) (ms : List Remnant) → ForSome x (λ b. (left : List (List ℕ)) → LeavesSectors ms left → left ≡ blocks_of len b) → Kept n x len ms
kept_stored n len x ms stored b at left leaves = ap (take n) (stored b at left leaves)

-- if all blocks are kept and no more is left, it is stored
pub stored_kept : (len : ℕ) (x : Option (List ℕ)) (ms : List Remnant) → ForSome x (λ b. (left : List (List ℕ)) → LeavesSectors ms left → length left ≤ len) → Kept len x len ms
    → ForSome x (λ b. (left : List (List ℕ)) → LeavesSectors ms left → left ≡ blocks_of len b)
stored_kept len x ms short kept b at left leaves =
    sym (take_all len left (short b at left leaves)) ∙ kept b at left leaves ∙ take_all len (blocks_of len b) (omega (arith, length-blocks_of len b))

-- as far as the reel goes, what is left of a durable one is the reel
pub left_stored : (len : ℕ) (b : List ℕ) (ms : List Remnant) → ((left : List (List ℕ)) → LeavesSectors ms left → left ≡ blocks_of len b)
    → (left : List (List ℕ)) → Left len ms left → left ≡ blocks_of len b
left_stored len b ms stored left (inl there) = stored left there
left_stored len b ms stored left (inr (x, there, resized)) =
    let all = stored x there in
    let count = length-blocks_of len b in
    let most = resized.most in
    same_gets len left (blocks_of len b) (omega (arith, most)) (omega (arith, count)) (λ i below.
    resized.front i (omega (arith, below)) (omega (arith, below, count, ap (λ (s : List (List ℕ)). length s) all)) ∙ ap (λ (s : List (List ℕ)). slice_get s i) all)

pub left_kept : (n len : ℕ) (b : List ℕ) (ms : List Remnant) → n ≤ len → ((left : List (List ℕ)) → LeavesSectors ms left → take n left ≡ take n (blocks_of len b))
    → (left : List (List ℕ)) → Left len ms left → take n left ≡ take n (blocks_of len b)
left_kept n len b ms few kept left (inl there) = kept left there
left_kept n len b ms few kept left (inr (x, there, resized)) =
    let was = kept x there in
    let long : n ≤ length x = long_by n x (blocks_of len b) was (omega (arith, few, length-blocks_of len b)) in
    take_gets n left x (λ i below. resized.front i (omega (arith, below, few)) (omega (arith, below, long))) ∙ was

pub left_short : (n len : ℕ) (ms : List Remnant) → len ≤ n → ((left : List (List ℕ)) → LeavesSectors ms left → length left ≤ n)
    → (left : List (List ℕ)) → Left len ms left → length left ≤ n
left_short n len ms few short left (inl there) = short left there
left_short n len ms few short left (inr (x, there, resized)) = let most = resized.most in omega (arith, most, few)

-- WHAT WAS BEGUN

abbrev pub Begun : ℕ → Type 0 → Option (List ℕ) → ℕ → List Remnant → ℕ → List Remnant → Type 0
Begun k able x len old len' new = ForSome x (λ b. (left : List (List ℕ)) → Left len' new left → Left len old left ⊎ IsBegun k able (blocks_of len b) left)

pub begun_more : (k : ℕ) (able : Type 0) (x : Option (List ℕ)) (len : ℕ) (old : List Remnant) (len' : ℕ) (new : List Remnant)
    → ((left : List (List ℕ)) → Left len' new left → Left len old left) → Begun k able x len old len' new
begun_more k able x len old len' new more b at left leaves = inl (more left leaves)

pub begun_less : (k : ℕ) (able able' : Type 0) (x : Option (List ℕ)) (len : ℕ) (old : List Remnant) (len' : ℕ) (mid : List Remnant) (len'' : ℕ) (new : List Remnant)
    → (able' → able) → ((left : List (List ℕ)) → Left len'' new left → Left len' mid left) → Begun k able x len old len' mid → Begun k able' x len old len'' new
begun_less k able able' x len old len' mid len'' new weaker more begun b at left leaves = elim (begun b at left (more left leaves)) [
  | inl same ↦ inl same
  | inr is ↦ inr (record { short = is.short; front = λ a. is.front (weaker a) })
]

same_front : (k len len' : ℕ) (b b' : List ℕ) → k ≤ len → k ≤ len' → KeepsFront (512 * k) b b' → take k (blocks_of len' b') ≡ take k (blocks_of len b)
same_front k len len' b b' few few' keeps = first_blocks k len' b' few' ∙ blocks_front len k b' b few keeps.same

pub begun_then : (k : ℕ) (able able' : Type 0) (x y : Option (List ℕ)) (len len' len'' : ℕ) (old mid new : List Remnant) → k ≤ len → k ≤ len' → (able → able')
    → Changes (KeepsFront (512 * k)) x y → Begun k able x len old len' mid → Begun k able' y len' mid len'' new → Begun k able x len old len'' new
begun_then k able able' x y len len' len'' old mid new few few' weaker front first second b at left leaves =
    let t = front.told b at in
    elim (second t.0 t.1 left leaves) [
      | inl same ↦ first b at left same
      | inr is ↦ inr (record { short = is.short; front = λ a. is.front (weaker a) ∙ same_front k len len' b t.0 few few' t.2 })
    ]

pub begun_cut : (k : ℕ) (able : Type 0) (x : Option (List ℕ)) (len len' : ℕ) (old new : List Remnant) → k ≤ len → (able → Kept k x len old)
    → ForSome x (λ b. (left : List (List ℕ)) → Left len' new left → Left len old left ⊎ LeavesResized (512 * k) old left) → Begun k able x len old len' new
begun_cut k able x len len' old new few kept cuts b at left leaves = elim (cuts b at left leaves) [
  | inl same ↦ inl same
  | inr (z, there, resized) ↦ inr (record {
    short = (let most = resized.most in omega (arith, most));
    front = λ a.
        let was = kept a b at z there in
        let long : k ≤ length z = long_by k z (blocks_of len b) was (omega (arith, few, length-blocks_of len b)) in
        take_gets k left z (λ i below. resized.front i (omega (arith, below)) (omega (arith, below, long))) ∙ was;
  })
]

grown_left : (k len' : ℕ) (old new : List Remnant) → k ≤ len' → len' ≤ k + 1 → Grows k old new → (left : List (List ℕ)) → Left len' new left
    → (z : List (List ℕ)) × LeavesSectors old z × AreGrown k z left
grown_left k len' old new least most grows left (inl there) = grows left there
grown_left k len' old new least most grows left (inr (w, there, resized)) =
    let (z, before, grown) = grows w there in
    (z, before, grown_then k z w left grown (grown_resized k (512 * len') w left (omega (arith, least)) (omega (arith, most)) resized))

pub begun_grown : (k : ℕ) (able : Type 0) (x : Option (List ℕ)) (len' : ℕ) (old new : List Remnant) → k ≤ len' → len' ≤ k + 1
    → ForSome x (λ b. (left : List (List ℕ)) → LeavesSectors old left → length left ≤ k)
    → (able → ForSome x (λ b. (left : List (List ℕ)) → LeavesSectors old left → left ≡ blocks_of k b)) → Grows k old new → Begun k able x k old len' new
begun_grown k able x len' old new least most short stored grows b at left leaves =
    let (z, there, grown) = grown_left k len' old new least most grows left leaves in
    let few = short b at z there in
    inr (record {
      short = grown.most (omega (arith, few));
      front = λ a.
          let all = stored a b at z there in
          take_gets k left z (λ i below. grown.front i below (omega (arith, below, ap (λ (s : List (List ℕ)). length s) all, length-blocks_of k b))) ∙ ap (take k) all;
    })

-- A FILE OF BLOCKS: what each step owes

failed_not : (r : Reach) → r ≡ Failed → IsOrderly r → ⊥
failed_not r same (inl is) = absurd (let no : Failed ≡ Behind = sym same ∙ is in cc)
failed_not r same (inr is) = absurd (let no : Failed ≡ There = sym same ∙ is in cc)

pub not_orderly : (r : Reach) → r ≡ Failed ⊎ r ≡ Unknown → IsOrderly r → ⊥
not_orderly r (inl same) is = failed_not r same is
not_orderly r (inr same) (inl is) = absurd (let no : Unknown ≡ Behind = sym same ∙ is in cc)
not_orderly r (inr same) (inr is) = absurd (let no : Unknown ≡ There = sym same ∙ is in cc)

pub swapped : {P Q : Type 0} → P ⊎ Q → Q ⊎ P
swapped (inl p) = inr p
swapped (inr q) = inl q

pub some_at : {X : Type 0} {P : X → Type 0} (x y : Option X) → y ≡ x → ForSome x P → ForSome y P
some_at x y same all b at = all b (sym same ∙ at)

-- blocks that were rewritten are written
pub written_by : {T E : Type 0} {from to : ℕ} {old new : Durability} (r : Result T E) → Rewrites from to old new (is_ok r ≡ true) → old.sized ≡ true → OnOk r (AreWritten from to new)
written_by (Ok t) rewrites sized = record { bytes = rewrites.written refl; sized = rewrites.sized refl sized }
written_by (Err e) rewrites sized = tt

-- a cut, if the blocks below it count then
pub cut_left : (len k : ℕ) (old new : List Remnant) → ((left : List (List ℕ)) → LeavesSectors new left → LeavesSectors old left ⊎ LeavesResized (512 * k) old left)
    → (left : List (List ℕ)) → Left k new left → Left len old left ⊎ LeavesResized (512 * k) old left
cut_left len k old new cuts left (inl there) = elim (cuts left there) [
  | inl same ↦ inl (inl same)
  | inr cut ↦ inr cut
]
cut_left len k old new cuts left (inr (x, there, resized)) = elim (cuts x there) [
  | inl same ↦ inr (x, same, resized)
  | inr (z, before, first) ↦ inr (z, before, resized_then (512 * k) z x left first resized)
]

-- a cut that failed and did nothing
pub uncut_left : {T E : Type 0} (len k : ℕ) (x y : Option (List ℕ)) (d d' : Durability) (r : Result T E) → ForSome x (HasSectors len) → ForSome y (λ b. 512 * len ≤ length b)
    → Changes (IsCut (512 * k)) x y → SetsLength (512 * k) x y d d' r
    → ForSome x (λ b. (left : List (List ℕ)) → Left len d'.remnants left → Left len d.remnants left ⊎ LeavesResized (512 * k) d.remnants left)
uncut_left len k x y d d' r sized enough cut sets b at left leaves =
    let has = sized b at in
    let (a, is, (m, least, most, same)) = cut.told b at in
    let high = has.most in
    let long : length a ≤ length b = omega (arith, ap (λ (z : List ℕ). length z) same, length-take m b) in
    let has' : HasSectors len a = record { least = enough a is; most = omega (arith, long, high) } in
    inl (left_none len d.remnants d'.remnants (sets.no_other b at a is len has has') left leaves)

-- one block more is written
pub written_more : (c k : ℕ) (d d' : Durability) (ok : Type 0) → ok → AreWritten c k d → Appends k d d' ok → AreWritten c (k + 1) d'
written_more c k d d' ok is written appends = record {
  bytes = λ j least most. elim (cases_lt j (512 * k)) [
    | inl early ↦ appends.front j early (written.bytes j least early)
    | inr late ↦ subst (λ (m : ℕ). d'.syncable m ≡ true) (omega (arith, late)) (appends.last is (j - 512 * k) (omega (arith, late, most)))
  ];
  sized = appends.sized is written.sized;
}

pub short_more : (k : ℕ) (x y : Option (List ℕ)) (old new : List Remnant) → Changes (KeepsFront (512 * k)) x y
    → ForSome x (λ b. (left : List (List ℕ)) → LeavesSectors old left → length left ≤ k) → Grows k old new
    → ForSome y (λ b. (left : List (List ℕ)) → LeavesSectors new left → length left ≤ k + 1)
short_more k x y old new front short grows b at left there =
    let f = Changes-back (KeepsFront (512 * k)) x y front b at in
    let (z, before, grown) = grows left there in
    let few = short f.0 f.1 z before in
    grown.most (omega (arith, few))

pub is_orderly : (r : Reach) → (r ≡ Failed → ⊥) → (r ≡ Unknown → ⊥) → IsOrderly r
is_orderly Behind failed unknown = inl refl
is_orderly There failed unknown = inr refl
is_orderly Failed failed unknown = absurd (failed refl)
is_orderly Unknown failed unknown = absurd (unknown refl)
