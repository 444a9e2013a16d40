-- Records of files that are changed while their versions stay.
-- serves: CloseNoteLemmas, FileLemmas
use Rattle.std.proofs.Common.{◌≡◌, ◌≢◌, ◌⊎◌, ℕ, ◌<◌, ◌==◌, ◌||◌, Bool, true, List, [], ◌∷◌, ◌++◌, map, filter, not, Option, Some, None, All, AllPairs, refl, sym, ◌∙◌, ap, subst, arith, inl, inr, if◌then◌else◌}
use Rattle.std.specs.Prelude.{⊤, IfSome}
use Rattle.std.specs.List.{flat_map}
use Rattle.std.proofs.lemmas.Bool.{cases_eq, cond-true, cond-false, eq-eqb, ne_eqb}
use Rattle.std.proofs.lemmas.List.Elements.{All-cons, All-head, All-tail, All-weaker}
use Rattle.g_base.specs.Block.{blocks_for}
use Rattle.g_blocks.specs.Pool.{IsFresh, IsInArea}
use Rattle.g_copy.specs.declared.copy.DiscCopy.{DiscCopy}
use Rattle.g_entry.specs.declared.file_rec.FileRec.{FileRec}
use Rattle.g_dirs.specs.Directory.{FileEntry, IsCopyOf, all_places, copy_at, entries_of, places_of}
use Rattle.g_dirs.specs.Image.{entry_at}
use Rattle.g_disc_contents.specs.Contents.{has}
use Rattle.g_online.specs.declared.pinned.Pinned.{Pinned}
use Rattle.g_online.specs.Invariant.{AreNoted, IsFileOf, IsPinned, IsPooled, PinsAre, WaitsFor, WaitsPinned, has_stamp, is_current, orphans, used_places}
use Rattle.g_online.proofs.KeepLemmas.{CopyFits}

-- the same version in the same place
pub record IsSameEntry (e f : FileEntry) : Type 0 where
  pub number : f.0.number ≡ e.0.number
  pub owner : f.0.owner ≡ e.0.owner
  pub stamp : f.0.stamp ≡ e.0.stamp
  pub len : f.0.len ≡ e.0.len
  pub tape : f.0.tape ≡ e.0.tape
  pub copy : f.1 ≡ e.1

abbrev pub AllSame : List FileEntry → List FileEntry → Type 0
AllSame [] [] = ⊤
AllSame [] (f ∷ fs) = ⊥
AllSame (e ∷ es) [] = ⊥
AllSame (e ∷ es) (f ∷ fs) = IsSameEntry e f × AllSame es fs

-- a property that carries over from one to the other does so for all
pub all_same : (P Q : FileEntry → Type 0) → ((e f : FileEntry) → IsSameEntry e f → P e → Q f) → (old new : List FileEntry) → AllSame old new → All P old → All Q new
all_same P Q each [] [] same all = λ k d inside. absurd (omega arith)
all_same P Q each [] (f ∷ fs) same all = absurd same
all_same P Q each (e ∷ es) [] same all = absurd same
all_same P Q each (e ∷ es) (f ∷ fs) same all = All-cons Q f fs (each e f same.0 (All-head P e es all)) (all_same P Q each es fs same.1 (All-tail P e es all))

place_rec : (r s : FileRec) (copy : Option DiscCopy) → places_of (s, copy) ≡ places_of (r, copy)
place_rec r s None = refl
place_rec r s (Some copy) = refl

place_one : (e f : FileEntry) → IsSameEntry e f → places_of f ≡ places_of e
place_one e f same = place_rec e.0 f.0 f.1 ∙ ap (λ (copy : Option DiscCopy). places_of (e.0, copy)) same.copy

places_same : (old new : List FileEntry) → AllSame old new → all_places new ≡ all_places old
places_same [] [] same = refl
places_same [] (f ∷ fs) same = absurd same
places_same (e ∷ es) [] same = absurd same
places_same (e ∷ es) (f ∷ fs) same = λ i. place_one e f same.0 i ++ places_same es fs same.1 i

current_same : (old new : List FileEntry) → AllSame old new → (s : ℕ) → is_current new s ≡ is_current old s
current_same [] [] same s = refl
current_same [] (f ∷ fs) same s = absurd same
current_same (e ∷ es) [] same s = absurd same
current_same (e ∷ es) (f ∷ fs) same s = λ i. (same.0.stamp i == s) || current_same es fs same.1 s i

orphans_same : (old new : List FileEntry) → AllSame old new → (pins : Option (List Pinned)) → orphans pins new ≡ orphans pins old
orphans_same old new same None = refl
orphans_same old new same (Some pins) = λ i. flat_map (λ (p : Pinned). p.blocks) (filter (λ (p : Pinned). not (current_same old new same p.stamp i)) pins)

used_same : (old new : List FileEntry) → AllSame old new → (pins : Option (List Pinned)) → used_places pins new ≡ used_places pins old
used_same old new same pins = λ i. places_same old new same i ++ orphans_same old new same pins i

-- the pool is that of the files before the change
pub pool_same : (size : ℕ) (pins : Option (List Pinned)) (old new : List FileEntry) (pool : List Bool) → AllSame old new → IsPooled size pins old pool → IsPooled size pins new pool
pool_same size pins old new pool same was =
    let used : used_places pins old ≡ used_places pins new = sym (used_same old new same pins) in
    record {
      fresh = subst (λ (u : List ℕ). IsFresh size u pool) used was.fresh;
      area = subst (λ (u : List ℕ). All (IsInArea size) u) used was.area;
      apart = subst (λ (u : List ℕ). AllPairs (λ j k. j ≢ k) u) used was.apart;
    }

waits_same : (changed : List ℕ) (e f : FileEntry) → IsSameEntry e f → WaitsFor changed e.0 → WaitsFor changed f.0
waits_same changed e f same waits = λ filled none.
    ap (has changed) same.owner ∙ waits (subst (λ (n : ℕ). 0 < n) same.len filled) (sym same.tape ∙ none)

pub noted_same : (users : ℕ) (old new : List FileEntry) (changed touched : List ℕ) → AllSame old new → AreNoted users old changed touched → AreNoted users new changed touched
noted_same users old new changed touched same was = record {
  changed_are = was.changed_are;
  touched_are = was.touched_are;
  touched_changed = was.touched_changed;
  waits = all_same (λ (e : FileEntry). WaitsFor changed e.0) (λ (f : FileEntry). WaitsFor changed f.0) (waits_same changed) old new same was.waits;
}

file_of_same : (p : Pinned) (e f : FileEntry) → IsSameEntry e f → IsFileOf p e → IsFileOf p f
file_of_same p e f same is = λ at.
    let was = is (sym same.stamp ∙ at) in
    (same.len ∙ was.0, same.tape ∙ was.1, place_one e f same ∙ was.2, same.number ∙ was.3)

pinned_same : (size next : ℕ) (old new : List FileEntry) → AllSame old new → (p : Pinned) → IsPinned size next old p → IsPinned size next new p
pinned_same size next old new same p is = record {
  older = is.older;
  filled = is.filled;
  count = is.count;
  area = is.area;
  current = all_same (IsFileOf p) (IsFileOf p) (file_of_same p) old new same is.current;
}

waits_pinned_same : (pins : List Pinned) (touched : List ℕ) (e f : FileEntry) → IsSameEntry e f → WaitsPinned pins touched e → WaitsPinned pins touched f
waits_pinned_same pins touched e f same waits = λ filled none. still (waits (subst (λ (n : ℕ). 0 < n) same.len filled) (sym same.tape ∙ none))
  where
    still : (has_stamp pins e.0.stamp ≡ true) ⊎ (has touched e.0.owner ≡ true) → (has_stamp pins f.0.stamp ≡ true) ⊎ (has touched f.0.owner ≡ true)
    still (inl pinned) = inl (ap (has_stamp pins) same.stamp ∙ pinned)
    still (inr touched_is) = inr (ap (has touched) same.owner ∙ touched_is)

pub pins_same : (size next : ℕ) (old new : List FileEntry) (touched : List ℕ) (pins : Option (List Pinned)) → AllSame old new → PinsAre pins size next old touched → PinsAre pins size next new touched
pins_same size next old new touched None same are = are
pins_same size next old new touched (Some pins) same are = record {
  each = All-weaker (IsPinned size next old) (IsPinned size next new) (pinned_same size next old new same) pins are.each;
  apart = are.apart;
  waits = all_same (WaitsPinned pins touched) (WaitsPinned pins touched) (waits_pinned_same pins touched) old new same are.waits;
}

fits_rec : (r s : FileRec) (copy : Option DiscCopy) → s.len ≡ r.len → IfSome copy (IsCopyOf r) → IfSome copy (IsCopyOf s)
fits_rec r s None len is = tt
fits_rec r s (Some copy) len is = record { len = is.len ∙ sym len; count = is.count ∙ ap blocks_for (sym len) }

fits_one : (e f : FileEntry) → IsSameEntry e f → CopyFits e → CopyFits f
fits_one e f same is = subst (λ (copy : Option DiscCopy). IfSome copy (IsCopyOf f.0)) (sym same.copy) (fits_rec e.0 f.0 e.1 same.len is)

pub fits_same : (old new : List FileEntry) → AllSame old new → All CopyFits old → All CopyFits new
fits_same old new same all = all_same CopyFits CopyFits fits_one old new same all

-- A RECORD IN THE PLACE of that of its number
abbrev pub put_one : FileRec → FileRec → FileRec
put_one rec r = if r.number == rec.number then rec else r

pub record IsVersion (rec r : FileRec) : Type 0 where
  pub owner : rec.owner ≡ r.owner
  pub stamp : rec.stamp ≡ r.stamp
  pub len : rec.len ≡ r.len
  pub tape : rec.tape ≡ r.tape

put_here : (rec r : FileRec) → r.number ≡ rec.number → put_one rec r ≡ rec
put_here rec r same = cond-true (r.number == rec.number) rec r (eq-eqb r.number rec.number same)

put_other : (rec r : FileRec) → r.number ≢ rec.number → put_one rec r ≡ r
put_other rec r other = cond-false (r.number == rec.number) rec r (ne_eqb r.number rec.number other)

abbrev entry : List (ℕ × DiscCopy) → FileRec → FileEntry
entry online r = (r, copy_at online r.number)

entry_same : (online : List (ℕ × DiscCopy)) (rec r : FileRec) → (r.number ≡ rec.number → IsVersion rec r) → IsSameEntry (entry online r) (entry online (put_one rec r))
entry_same online rec r version = by_number (cases_eq r.number rec.number)
  where
    by_number : (r.number ≡ rec.number) ⊎ (r.number ≡ rec.number → ⊥) → IsSameEntry (entry online r) (entry online (put_one rec r))
    by_number (inl same) =
        let is = version same in
        subst (λ (s : FileRec). IsSameEntry (entry online r) (entry online s)) (sym (put_here rec r same))
        (record { number = sym same; owner = is.owner; stamp = is.stamp; len = is.len; tape = is.tape; copy = ap (copy_at online) (sym same) })
    by_number (inr other) =
        subst (λ (s : FileRec). IsSameEntry (entry online r) (entry online s)) (sym (put_other rec r other))
        (record { number = refl; owner = refl; stamp = refl; len = refl; tape = refl; copy = refl })

pub entries_same : (rec : FileRec) (files : List FileRec) (online : List (ℕ × DiscCopy)) → All (λ (r : FileRec). r.number ≡ rec.number → IsVersion rec r) files
    → AllSame (entries_of files online) (entries_of (map (put_one rec) files) online)
entries_same rec [] online all = tt
entries_same rec (r ∷ files) online all =
    let P : FileRec → Type 0 = λ s. s.number ≡ rec.number → IsVersion rec s in
    (entry_same online rec r (All-head P r files all), entries_same rec files online (All-tail P r files all))

-- the numbers are unchanged
number_put : (rec r : FileRec) → (put_one rec r).number ≡ r.number
number_put rec r = by_number (cases_eq r.number rec.number)
  where
    by_number : (r.number ≡ rec.number) ⊎ (r.number ≡ rec.number → ⊥) → (put_one rec r).number ≡ r.number
    by_number (inl same) = ap (λ (s : FileRec). s.number) (put_here rec r same) ∙ sym same
    by_number (inr other) = ap (λ (s : FileRec). s.number) (put_other rec r other)

pub numbers_put : (rec : FileRec) (files : List FileRec) → map (λ (r : FileRec). r.number) (map (put_one rec) files) ≡ map (λ (r : FileRec). r.number) files
numbers_put rec [] = refl
numbers_put rec (r ∷ files) = λ i. number_put rec r i ∷ numbers_put rec files i

-- the other files' entries
entry_put : (rec r : FileRec) (rest : Option FileEntry) (online : List (ℕ × DiscCopy)) (n : ℕ) → n ≢ rec.number
    → (if (put_one rec r).number == n then Some (entry online (put_one rec r)) else rest) ≡ (if r.number == n then Some (entry online r) else rest)
entry_put rec r rest online n other = by_number (cases_eq r.number rec.number)
  where
    by_number : (r.number ≡ rec.number) ⊎ (r.number ≡ rec.number → ⊥)
        → (if (put_one rec r).number == n then Some (entry online (put_one rec r)) else rest) ≡ (if r.number == n then Some (entry online r) else rest)
    by_number (inl same) =
        cond-false ((put_one rec r).number == n) (Some (entry online (put_one rec r))) rest
        (ne_eqb (put_one rec r).number n (λ is. other (sym is ∙ ap (λ (s : FileRec). s.number) (put_here rec r same))))
        ∙ sym (cond-false (r.number == n) (Some (entry online r)) rest (ne_eqb r.number n (λ is. other (sym is ∙ same))))
    by_number (inr differs) = ap (λ (s : FileRec). if s.number == n then Some (entry online s) else rest) (put_other rec r differs)

pub others_put : (rec : FileRec) (files : List FileRec) (online : List (ℕ × DiscCopy)) (n : ℕ) → n ≢ rec.number
    → entry_at (entries_of (map (put_one rec) files) online) n ≡ entry_at (entries_of files online) n
others_put rec [] online n other = refl
others_put rec (r ∷ files) online n other =
    entry_put rec r (entry_at (entries_of (map (put_one rec) files) online) n) online n other
    ∙ ap (λ (rest : Option FileEntry). if r.number == n then Some (entry online r) else rest) (others_put rec files online n other)
