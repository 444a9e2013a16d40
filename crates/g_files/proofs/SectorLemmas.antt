-- What a power loss may leave of a file's sectors, over several calls.
-- serves: append (grows), drop_last (grows), extend (grows), put_last (durability), set_len (durability), sync (durability, synced), and 6 more
use Rattle.std.proofs.Common.{◌≡◌, ℕ, zero, suc, ◌+◌, ◌-◌, ◌*◌, ◌<◌, ◌≤◌, List, [], ◌∷◌, ◌++◌, length, take, drop, get_or, replicate, Result, Ok, Err, IfOk, OnErr, OnOk, Some, None, refl, sym, ap, subst, ◌∙◌, inl, inr, arith, length-drop, length-take}
use Rattle.std.specs.Prelude.{◌/◌, All, Contains, Option, slice_get}
use Rattle.std.proofs.lemmas.Bool.{cases_lt}
use Rattle.std.proofs.lemmas.List.{ext_get_or, get_or-take, get_or_append_left, take-take, take_all}
use Rattle.std.proofs.lemmas.Option.{none-some, same_Some, slice_get-get_or, slice_get_past, slice_get_within}
use Rattle.g_base.specs.Block.{IsBlock}
use Rattle.g_tape.specs.Risk.{Remnant}
use Rattle.g_files.specs.Bytes.{AreBytes, blocks_of, padded, part, put, sectors_of}
use Rattle.g_files.specs.Growth.{AreGrown, Grows}
use Rattle.g_files.specs.Durability.{AreSectorsSynced, Durability, SetsLength, SyncsDurability, WritesDurability, remnant_of, stored}
use Rattle.g_files.specs.Sectors.{AreResized, AreWritten, HasSectors, LeavesNoOther, LeavesSectors, LeavesWritten}
use Rattle.g_files.specs.StoredSectors.{stored_left}
use Rattle.g_files.proofs.BlockFileLemmas.{blocks_front}
use Rattle.g_files.proofs.BlockLemmas.{get-blocks_of, length-blocks_of}
use Rattle.g_files.proofs.BytesLemmas.{get-part, get-put_before, get-put_behind, length-part, length-put_any, length-put_least, put-nil, put-part}
use Rattle.g_files.proofs.FrontLemmas.{keeps_padded, length-padded}

-- LISTS, PLACE BY PLACE

pub get_past : (xs : List (List ℕ)) (i : ℕ) → slice_get xs i ≡ None → length xs ≤ i
get_past xs i none = elim (cases_lt i (length xs)) [
  | inl below ↦ absurd (none-some _ (sym none ∙ slice_get-get_or xs i [] below))
  | inr past ↦ past
]

within_get : (xs ys : List (List ℕ)) (i : ℕ) → slice_get ys i ≡ slice_get xs i → i < length xs → i < length ys
within_get xs ys i same below = slice_get_within ys i _ (same ∙ slice_get-get_or xs i [] below)

pub take_gets : (n : ℕ) (xs ys : List (List ℕ)) → ((i : ℕ) → i < n → slice_get xs i ≡ slice_get ys i) → take n xs ≡ take n ys
take_gets zero xs ys each = refl
take_gets (suc n) [] [] each = refl
take_gets (suc n) [] (y ∷ ys) each = absurd (let none : None ≡ Some y = each 0 (omega arith) in cc)
take_gets (suc n) (x ∷ xs) [] each = absurd (let none : Some x ≡ None = each 0 (omega arith) in cc)
take_gets (suc n) (x ∷ xs) (y ∷ ys) each =
    ap (λ (z : List ℕ). z ∷ take n xs) (same_Some x y (each 0 (omega arith)))
    ∙ ap (λ (zs : List (List ℕ)). y ∷ zs) (take_gets n xs ys (λ i below. each (suc i) (omega (arith, below))))

pub get_take : (n : ℕ) (xs : List (List ℕ)) (i : ℕ) → i < n → slice_get (take n xs) i ≡ slice_get xs i
get_take zero xs i below = absurd (omega (arith, below))
get_take (suc n) [] i below = refl
get_take (suc n) (x ∷ xs) zero below = refl
get_take (suc n) (x ∷ xs) (suc i) below = get_take n xs i (omega (arith, below))

pub gets_take : (n : ℕ) (xs ys : List (List ℕ)) → take n xs ≡ take n ys → (i : ℕ) → i < n → slice_get xs i ≡ slice_get ys i
gets_take n xs ys same i below = sym (get_take n xs i below) ∙ ap (λ (zs : List (List ℕ)). slice_get zs i) same ∙ get_take n ys i below

-- a list that begins with as many as another has, has them
pub long_by : (n : ℕ) (xs ys : List (List ℕ)) → take n xs ≡ take n ys → n ≤ length ys → n ≤ length xs
long_by zero xs ys same long = omega arith
long_by (suc n) xs ys same long =
    within_get ys xs n (gets_take (suc n) xs ys same n (omega arith)) (omega (arith, long))

pub same_gets : (n : ℕ) (xs ys : List (List ℕ)) → length xs ≤ n → length ys ≤ n → ((i : ℕ) → i < n → slice_get xs i ≡ slice_get ys i) → xs ≡ ys
same_gets n xs ys few few' each = sym (take_all n xs few) ∙ take_gets n xs ys each ∙ take_all n ys few'

-- RELATIONS

pub written_more : (at done n m : ℕ) (x y z : List (List ℕ)) → done + m ≤ n → AreWritten at n x y → AreWritten (at + done) m y z → AreWritten at n x z
written_more at done n m x y z within first second = record {
  below = λ i early here.
      second.below i (omega (arith, early)) (within_get x y i (first.below i early here) here) ∙ first.below i early here;
  above = λ i late. second.above i (omega (arith, late, within)) ∙ first.above i late;
}

pub leaves_more : (at done n m : ℕ) (old mid new : List Remnant) → done + m ≤ n
    → ((left : List (List ℕ)) → LeavesSectors mid left → LeavesWritten at n old left)
    → ((left : List (List ℕ)) → LeavesSectors new left → LeavesWritten (at + done) m mid left)
    → (left : List (List ℕ)) → LeavesSectors new left → LeavesWritten at n old left
leaves_more at done n m old mid new within first second left leaves =
    let (y, there, last) = second left leaves in
    let (x, before, early) = first y there in
    (x, before, written_more at done n m x y left within early last)

pub resized_then : (n : ℕ) (x y z : List (List ℕ)) → AreResized n x y → AreResized n y z → AreResized n x z
resized_then n x y z first second = record {
  most = second.most;
  front = λ i early here. second.front i early (within_get x y i (first.front i early here) here) ∙ first.front i early here;
  whole = second.whole;
}

pub grown_none : (k : ℕ) (x : List (List ℕ)) → AreGrown k x x
grown_none k x = record { most = λ few. few; front = λ i early here. refl }

pub grown_then : (k : ℕ) (x y z : List (List ℕ)) → AreGrown k x y → AreGrown k y z → AreGrown k x z
grown_then k x y z first second = record {
  most = λ few. second.most (first.most few);
  front = λ i early here. second.front i early (within_get x y i (first.front i early here) here) ∙ first.front i early here;
}

pub grown_resized : (k n : ℕ) (x left : List (List ℕ)) → 512 * k ≤ n → n ≤ 512 * k + 512 → AreResized n x left → AreGrown k x left
grown_resized k n x left least most resized = record {
  most = λ few. let all = resized.most in omega (arith, all, most);
  front = λ i early here. resized.front i (omega (arith, early, least)) here;
}

grown_written : (k n : ℕ) (x left : List (List ℕ)) → n ≤ 512 → AreWritten (512 * k) n x left → AreGrown k x left
grown_written k n x left few written = record {
  most = λ short. get_past left (k + 1) (written.above (k + 1) (omega (arith, few)) ∙ slice_get_past x (k + 1) short);
  front = λ i early here. written.below i (omega (arith, early)) here;
}

-- WHAT CALLS LEAVE

pub grows_none : (k : ℕ) (old new : List Remnant) → LeavesNoOther old new → Grows k old new
grows_none k old new same left leaves = (left, same left leaves, grown_none k left)

pub grows_then : (k : ℕ) (old mid new : List Remnant) → Grows k old mid → Grows k mid new → Grows k old new
grows_then k old mid new first second left leaves =
    let (y, there, last) = second left leaves in
    let (x, before, early) = first y there in
    (x, before, grown_then k x y left early last)

pub grows_set : {T E : Type 0} (k n : ℕ) (x y : Option (List ℕ)) (old new : Durability) (r : Result T E) → 512 * k ≤ n → n ≤ 512 * k + 512 → SetsLength n x y old new r
    → Grows k old.remnants new.remnants
grows_set k n x y old new r least most sets left leaves = elim (sets.sectors left leaves) [
  | inl same ↦ (left, same, grown_none k left)
  | inr (z, before, resized) ↦ (z, before, grown_resized k n z left least most resized)
]

pub grows_write : {T E : Type 0} (k : ℕ) (from : List ℕ) (x : Option (List ℕ)) (old new : Durability) (r : Result T E) → length from ≤ 512
    → WritesDurability (512 * k) from x old new r → Grows k old.remnants new.remnants
grows_write k from x old new r few writes left leaves =
    let (z, before, written) = writes.sectors left leaves in
    (z, before, grown_written k (length from) z left few written)

-- A FILE WHOSE BYTES ARE DURABLE AT ONCE

only_one : (n m : Remnant) → Contains (n ∷ []) m → n ≡ m
only_one n m (zero, below, is) = is
only_one n m (suc k, below, is) = absurd (omega (arith, below))

-- exactly these sectors are left
pub stored_only : (bytes : List ℕ) (left : List (List ℕ)) → LeavesSectors (stored bytes).remnants left → left ≡ sectors_of bytes
stored_only bytes left (m, there, is) =
    let all = sectors_of bytes in
    let one : remnant_of all ≡ m = only_one (remnant_of all) m there in
    let most : length left ≤ length all = subst (λ (r : Remnant). length left ≤ r.longest) (sym one) is.most in
    sym (take_all (length all) left most) ∙ subst (λ (r : Remnant). take (length r.front) left ≡ r.front) (sym one) is.front

-- single sectors
pub get_in : (bytes : List ℕ) (i : ℕ) → 512 * i + 512 ≤ length bytes → slice_get (sectors_of bytes) i ≡ Some (part (512 * i) 512 bytes)
get_in bytes i within = get-blocks_of (length bytes / 512) i bytes (omega (arith, within))

get_out : (bytes : List ℕ) (i : ℕ) → length bytes < 512 * i + 512 → slice_get (sectors_of bytes) i ≡ None
get_out bytes i past = slice_get_past (sectors_of bytes) i (omega (arith, past, length-blocks_of (length bytes / 512) bytes))

-- sectors of two files that have the same bytes there
same_part : (at n : ℕ) (x y : List ℕ) → at + n ≤ length x → at + n ≤ length y → ((i : ℕ) → at ≤ i → i < at + n → get_or x i 0 ≡ get_or y i 0) → part at n x ≡ part at n y
same_part at n x y long long' each =
    let size = length-part at n x long in
    ext_get_or 0 (part at n x) (part at n y) (size ∙ sym (length-part at n y long')) (λ i h.
    let below : i < n = omega (arith, h, size) in
    get-part at n i 0 x below ∙ each (at + i) (omega arith) (omega (arith, below)) ∙ sym (get-part at n i 0 y below))

-- a write
put_written : (at n : ℕ) (p b : List ℕ) → at ≤ length b → length p ≤ n → AreWritten at n (sectors_of b) (sectors_of (put at p b))
put_written at n p b start few = record {
  below = λ i early here.
      let long : 512 * i + 512 ≤ length b = omega (arith, early, start) in
      let long' : 512 * i + 512 ≤ length (put at p b) = omega (arith, early, length-put_least at p b start) in
      get_in (put at p b) i long' ∙ ap (λ (s : List ℕ). Some s) (same_part (512 * i) 512 (put at p b) b long' long
      (λ j from to. get-put_before at j 0 p b start (omega (arith, early, to)))) ∙ sym (get_in b i long);
  above = λ i late. elim (cases_lt (length b) (512 * i + 512)) [
    | inl short ↦ get_out (put at p b) i (omega (arith, short, late, few, length-put_any at p b start)) ∙ sym (get_out b i short)
    | inr long ↦
        let long' : 512 * i + 512 ≤ length (put at p b) = omega (arith, long, length-put_any at p b start) in
        get_in (put at p b) i long' ∙ ap (λ (s : List ℕ). Some s) (same_part (512 * i) 512 (put at p b) b long' long
        (λ j from to. get-put_behind at j 0 p b start (omega (arith, late, few, from)))) ∙ sym (get_in b i long)
  ];
}

-- from any sectors to those of a file in memory
module _ (old new : List ℕ) (are : AreBytes old) where
  stored_written : (at n : ℕ) → AreWritten at n (sectors_of old) (sectors_of new) → (left : List (List ℕ)) → LeavesSectors (stored new).remnants left
      → LeavesWritten at n (stored old).remnants left
  stored_written at n written left leaves =
      (sectors_of old, stored_left old are, subst (λ (s : List (List ℕ)). AreWritten at n (sectors_of old) s) (sym (stored_only new left leaves)) written)

  stored_same : sectors_of new ≡ sectors_of old → LeavesNoOther (stored old).remnants (stored new).remnants
  stored_same same left leaves =
      subst (λ (s : List (List ℕ)). LeavesSectors (stored old).remnants s) (sym (stored_only new left leaves ∙ same)) (stored_left old are)

  -- what a write of a part of `from` does, failed or not
  pub stored_writes : {E : Type 0} (at few : ℕ) (from : List ℕ) (r : Result ℕ E) → at ≤ length old → new ≡ put at (take few from) old
      → WritesDurability at from (Some old) (stored old) (stored new) r
  stored_writes at few from r start is = record {
    apart = λ j out was. refl;
    syncable_apart = λ j out was. refl;
    unchanged = λ there j was. refl;
    kept = on_ok_all r (λ j was. refl);
    sound = λ was j is. refl;
    sectors = stored_written at (length from) (subst (λ (b : List ℕ). AreWritten at (length from) (sectors_of old) (sectors_of b)) (sym is)
        (put_written at (length from) (take few from) old start (omega (arith, length-take few from))));
    no_other = λ there. stored_same (ap sectors_of (is ∙ part_again (there old refl)));
    sized = on_ok_all r (λ was. refl);
  }
    where
      on_ok_all : {E' P : Type 0} (r : Result ℕ E') → P → OnOk r P
      on_ok_all (Ok n) p = p
      on_ok_all (Err e) p = tt

      part_again : from ≡ part at (length from) old → put at (take few from) old ≡ old
      part_again there =
          let room : at + length from ≤ length old = omega (arith, start, ap (λ (p : List ℕ). length p) there, length-take (length from) (drop at old), length-drop at old) in
          elim (cases_lt few (length from)) [
            | inl less ↦ ap (λ (p : List ℕ). put at p old) (ap (take few) there ∙ take-take few (length from) (drop at old) (omega (arith, less))) ∙ put-part at few old (omega (arith, room, less))
            | inr all ↦ ap (λ (p : List ℕ). put at p old) (take_all few from all ∙ there) ∙ put-part at (length from) old room
          ]

-- a length that is set
resized_is : (n : ℕ) (old : List ℕ) → All IsBlock (sectors_of (padded n old)) → AreResized n (sectors_of old) (sectors_of (padded n old))
resized_is n old whole = record {
  whole = whole;
  most = (let size = length-padded n old in let count = length-blocks_of (length (padded n old) / 512) (padded n old) in omega (arith, size, count));
  front = λ i early here.
      let long : 512 * i + 512 ≤ length old = omega (arith, here, length-blocks_of (length old / 512) old) in
      let long' : 512 * i + 512 ≤ length (padded n old) = omega (arith, early, length-padded n old) in
      get_in (padded n old) i long' ∙ ap (λ (s : List ℕ). Some s) (same_part (512 * i) 512 (padded n old) old long' long
      (λ j from to. get_padded j (omega (arith, to, early)) (omega (arith, to, long)))) ∙ sym (get_in old i long);
}
  where
    get_padded : (j : ℕ) → j < n → j < length old → get_or (padded n old) j 0 ≡ get_or old j 0
    get_padded j early here = get_or-take n (old ++ replicate (n - length old) 0) j 0 early ∙ get_or_append_left old (replicate (n - length old) 0) 0 j here

module _ (old new : List ℕ) (are : AreBytes old) where
  -- what setting the length does, failed or not
  pub stored_sets : {E : Type 0} (n : ℕ) (r : Result (Unit {0}) E) → OnOk r (new ≡ padded n old) → OnErr r (new ≡ old) → SetsLength n (Some old) (Some new) (stored old) (stored new) r
  stored_sets n (Ok u) cut kept = record {
    durable = λ j below was. refl;
    syncable = λ j below was. refl;
    sound = λ was j is. refl;
    sectors = λ left leaves.
        let same : left ≡ sectors_of (padded n old) = stored_only new left leaves ∙ ap sectors_of cut in
        let whole : All IsBlock (sectors_of (padded n old)) = subst (λ (s : List (List ℕ)). All IsBlock s) same leaves.2.whole in
        inr (sectors_of old, stored_left old are, subst (λ (s : List (List ℕ)). AreResized n (sectors_of old) s) (sym same) (resized_is n old whole));
    no_other = λ was at is at' s has has'. stored_same old new are (same_sectors s was is has has' (same_Some old was at) (same_Some new is at'));
    sized = refl;
  }
    where
      same_sectors : (s : ℕ) (was is : List ℕ) → HasSectors s was → HasSectors s is → old ≡ was → new ≡ is → sectors_of new ≡ sectors_of old
      same_sectors s was is has has' before after =
          let few = has.least in let most = has.most in let few' = has'.least in let most' = has'.most in
          let was' : length old ≡ length was = ap (λ (b : List ℕ). length b) before in
          let is' : length new ≡ length is = ap (λ (b : List ℕ). length b) after in
          let size : length new ≡ n = ap (λ (b : List ℕ). length b) cut ∙ length-padded n old in
          let one : length old / 512 ≡ s = omega (arith, few, most, was') in
          let other : length new / 512 ≡ s = omega (arith, few', most', is') in
          let front : take (512 * s) new ≡ take (512 * s) old =
          ap (take (512 * s)) cut ∙ (keeps_padded (512 * s) n old (omega (arith, few', is', size)) (omega (arith, few, was'))).same in
          ap (λ (m : ℕ). blocks_of m new) other ∙ blocks_front s s new old (omega arith) front ∙ take_all s (blocks_of s old) (omega (arith, length-blocks_of s old))
          ∙ ap (λ (m : ℕ). blocks_of m old) (sym one)
  stored_sets n (Err e) cut kept = record {
    durable = λ j below was. refl;
    syncable = λ j below was. refl;
    sound = λ was j is. refl;
    sectors = λ left leaves. inl (stored_same old new are (ap sectors_of kept) left leaves);
    no_other = λ was at is at' s has has'. stored_same old new are (ap sectors_of kept);
    sized = tt;
  }

-- what a sync does
pub stored_syncs : {E : Type 0} (old : List ℕ) (r : Result (Unit {0}) E) → SyncsDurability (stored old) (stored old) r
stored_syncs old (Ok u) = record { durable = λ j was. was; kept = λ j was. was; synced = λ j is. refl; sound = λ was. was; no_other = λ left leaves. leaves; sized = λ was. was }
stored_syncs old (Err e) = record { durable = λ j was. was; kept = tt; synced = tt; sound = λ was. was; no_other = λ left leaves. leaves; sized = tt }

pub stored_synced : (old bytes : List ℕ) → old ≡ bytes → AreSectorsSynced bytes (stored old) (stored old)
stored_synced old bytes same = record {
  whole = λ sized left leaves.
      let is : left ≡ sectors_of bytes = stored_only old left leaves ∙ ap sectors_of same in
      let count = length-blocks_of (length bytes / 512) bytes in
      let long = ap (λ (s : List (List ℕ)). length s) is in
      record { least = omega (arith, long, count); most = omega (arith, long, count) };
  each = λ i syncable within left leaves here. ap (λ (s : List (List ℕ)). slice_get s i) (stored_only old left leaves ∙ ap sectors_of same) ∙ get_in bytes i within;
}

-- a write of a part of these bytes wrote some of the first ones
pub written_first : {E : Type 0} (at few : ℕ) (from old new : List ℕ) (r : Result ℕ E) → IfOk r (λ n. n ≤ length (take few from))
    → IfOk r (λ n. new ≡ put at (take n (take few from)) old) → OnErr r (new ≡ old) → (m : ℕ) × (new ≡ put at (take m from) old)
written_first at few from old new (Ok n) count written kept =
    (n, written ∙ ap (λ (p : List ℕ). put at p old) (take-take n few from (omega (arith, count, length-take few from))))
written_first at few from old new (Err e) count written kept = (0, kept ∙ sym (put-nil at old))

-- the same, of a file whose calls are counted in between
pub stored_syncs_at : {E : Type 0} (old new : List ℕ) (r : Result (Unit {0}) E) → new ≡ old → SyncsDurability (stored old) (stored new) r
stored_syncs_at old new r same = subst (λ (b : List ℕ). SyncsDurability (stored old) (stored b) r) (sym same) (stored_syncs old r)

pub stored_writes_at : {E : Type 0} (old mid new : List ℕ) (at few : ℕ) (from : List ℕ) (r : Result ℕ E) → AreBytes mid → mid ≡ old → at ≤ length old
    → new ≡ put at (take few from) mid → WritesDurability at from (Some old) (stored old) (stored new) r
stored_writes_at old mid new at few from r are same start is =
    subst (λ (b : List ℕ). WritesDurability at from (Some b) (stored b) (stored new) r) same
    (stored_writes mid new are at few from r (omega (arith, start, ap (λ (b : List ℕ). length b) same)) is)
