-- The calls of a rack of files, by what was done to the reel of the serial.
-- serves: finish_all, mount, place_of, push_reel (rack), read, secure, serial, unmount, write, RackRiskLemmas
use Rattle.std.proofs.Common.{◌≡◌, ◌⊎◌, ℕ, suc, ◌==◌, ◌||◌, not, nat_lt, if◌then◌else◌, true, false, ◌+◌, ◌-◌, ◌<◌, ◌≤◌, List, [], ◌∷◌, ◌++◌, Bool, Option, Some, None, is_some, Result, Ok, Err, OnOk, OnErr, length, take, map, get_or, inl, inr, refl, ap, subst, sym, ◌∙◌, arith, length-append, length-set, length-take}
use Rattle.std.specs.Prelude.{All, slice_get}
use Rattle.std.specs.Result.{result_and}
use Rattle.std.proofs.lemmas.Option.{slice_get-get_or}
use Rattle.std.specs.Option.{ForSome}
use Rattle.std.proofs.Math.ListN.{set}
use Rattle.std.proofs.Math.Seq.{map-set_same}
use Rattle.std.proofs.lemmas.Bool.{cases_eq, cases_lt}
use Rattle.std.proofs.Math.Seq.{get_or-append_seam}
use Rattle.std.proofs.lemmas.List.Elements.{All-map, All-push}
use Rattle.std.specs.List.Sorted.{IsStrictlyIncreasing}
use Rattle.std.proofs.lemmas.Bool.{ne_eqb}
use Rattle.std.proofs.lemmas.List.{get_or-map, get_or_default, get_or-set_other, get_or-set_same, get_or_append_left, length-map, map-set, map_push}
use Rattle.g_base.specs.Counts.{one_more}
use Rattle.g_base.specs.Fuse.{Arms, burnt}
use Rattle.g_base.specs.ToldContent.{Changes}
use Rattle.g_base.proofs.ToldLemmas.{Changes-back}
use Rattle.g_files.specs.Ahead.{IsPartOf}
use Rattle.g_files.specs.Bytes.{part}
use Rattle.g_files.specs.Front.{KeepsFront}
use Rattle.g_files.specs.Window.{Window, window}
use Rattle.g_files.proofs.BytesLemmas.{fresh_cut, part_take}
use Rattle.g_tape.specs.declared.fault.TapeFault.{TapeFault}
use Rattle.g_tape.specs.declared.fault.TapeFault.TheVariants.{End, NoTape, NotMounted, ReadFailed, WriteFailed}
use Rattle.g_tape.specs.Reel.{IsReel, Reel, Remains, Shortened, Torn, Unchanged, ending, left_by, read_at, with_mounted}
use Rattle.g_tape.specs.Rack.{AreReels, Mounting, Rack, Reading, Securing, Writing, reel, refuses_read, refuses_write, with_reel}
use Rattle.g_tape.specs.Place.{IsPlaceOf}
use Rattle.g_tape.specs.Risk.{Risk}
use Rattle.g_tape.proofs.PlaceLemmas.{reel-first}
use Rattle.g_tape.proofs.RackLemmas.{AreReels-set, with_reel-place}

-- a reel that tells no counts of reads is the same when it was read
unread : (k : ℕ) (r : Reel) → r.times_read ≡ None → r ≡ read_at k r
unread k r untold =
    let x : Reel = record
    { serial = r.serial; capacity = r.capacity; len = r.len; mounted = r.mounted; blocks = r.blocks; times_read = r.times_read } in
    let y : Reel = record
    { serial = r.serial; capacity = r.capacity; len = r.len; mounted = r.mounted; blocks = r.blocks; times_read = None } in
    let there : x ≡ y = cc in there ∙ ap (read_at k) (sym there)

-- a rack of these reels
abbrev pub rack : ℕ → ℕ → Option ℕ → Arms → List Reel → List Risk → Rack
rack reads writes fuse arms reels risks = record { reels = reels; read_faults = reads; write_faults = writes; fuse = fuse; arms = arms; risks = risks }

module _ {A : Type 0} (f : A → Reel) (s k i : ℕ) (items : List A) (was now : A) (place : IsPlaceOf s (map f items) i) (is : was ≡ get_or items i was) where
  within : i < length items
  within = let long = place.within in omega (arith, long, length-map items f)

  there : f was ≡ get_or (map f items) i (f was)
  there = ap f is ∙ sym (get_or-map f items i was (f was) within)

  -- what the reel doesn't refuse when it is read again where it lies
  pub free_at : (refuses : Option Reel → Option TapeFault) (here : A) (answer : Option TapeFault) → here ≡ get_or items i here → answer ≡ refuses (Some (f here))
      → answer ≡ None → refuses (Some (f was)) ≡ None
  free_at refuses here answer at asked free =
      let same : here ≡ was = at ∙ get_or_default items i here was within ∙ sym is in
      ap (λ (x : A). refuses (Some (f x))) (sym same) ∙ sym asked ∙ free

  -- the reel of the serial
  pub found : reel s (map f items) ≡ Some (f was)
  found = place.there (f was) ∙ ap Some (sym there)

  -- why the reel refuses a call
  pub refused_at : (refuses : Option Reel → Option TapeFault) (answer : Option TapeFault) (fault : TapeFault) → answer ≡ refuses (Some (f was))
      → answer ≡ Some fault → refuses (reel s (map f items)) ≡ Some fault
  refused_at refuses answer fault asked refused = ap refuses found ∙ sym asked ∙ refused

  changed_at : (h : Reel → Reel) → f now ≡ h (f was) → map f (set items i now) ≡ with_reel s h (map f items)
  changed_at h value = map-set f items i now ∙ with_reel-place s (map f items) i h (f was) (f now) place there value

  same_at : f now ≡ f was → map f (set items i now) ≡ map f items
  same_at value = map-set_same f items i now was (value ∙ ap f is)

  pub reels_set : AreReels (map f items) → IsReel (f now) → (f now).serial ≡ (f was).serial → AreReels (map f (set items i now))
  reels_set are new serial =
      subst AreReels (sym (map-set f items i now)) (AreReels-set (map f items) i (f was) (f now) are place.within there (λ kept. new) serial)

  module _ (h : A → Risk) (reads writes : ℕ) (fuse : Option ℕ) (arms : Arms) where
    abbrev pub before : Rack
    before = rack reads writes fuse arms (map f items) (map h items)

    abbrev pub risks : List Risk
    risks = map h (set items i now)

    same_risks : h now ≡ h was → risks ≡ map h items
    same_risks value = map-set_same h items i now was (value ∙ ap h is)

    pub mount_done : (mounted : Bool) (refuses : Option Reel → Option TapeFault) → refuses (Some (f was)) ≡ None → f now ≡ with_mounted mounted (f was) → h now ≡ h was
        → Mounting refuses mounted s before (Ok tt) (rack reads writes fuse arms (map f (set items i now)) risks)
    mount_done mounted refuses free value risk = (
      ap refuses found ∙ free,
      ap (λ (rs : List Reel). rack reads writes fuse arms rs risks) (changed_at (with_mounted mounted) value)
          ∙ ap (rack reads writes fuse arms (with_reel s (with_mounted mounted) (map f items))) (same_risks risk),
    )

    pub read_done : (into : List ℕ) → refuses_read k (Some (f was)) ≡ None → ForSome (f was).blocks (λ bs. slice_get bs k ≡ Some into)
        → (f was).times_read ≡ None → f now ≡ f was → h now ≡ h was
        → Reading s k before (Ok tt) into (rack reads writes fuse arms (map f (set items i now)) risks)
    read_done into allowed block no_times value risk = (
      ap (refuses_read k) found ∙ allowed,
      λ r at. let one : Some (f was) ≡ Some r = sym found ∙ at in let same : f was ≡ r = cc in
          subst (λ (x : Reel). ForSome x.blocks (λ bs. slice_get bs k ≡ Some into)) same block,
      ap (λ (rs : List Reel). rack reads writes fuse arms rs risks) (changed_at (read_at k) (value ∙ unread k (f was) no_times))
          ∙ ap (rack reads writes fuse arms (with_reel s (read_at k) (map f items))) (same_risks risk),
    )

    pub read_failed : (into : List ℕ) (faults : ℕ) → refuses_read k (Some (f was)) ≡ None → f now ≡ f was → h now ≡ h was → faults ≡ one_more reads
        → Reading s k before (Err ReadFailed) into (rack faults writes fuse arms (map f (set items i now)) risks)
    read_failed into faults allowed value risk more = (
      ap (refuses_read k) found ∙ allowed,
      record { more = omega (arith, more) },
      ap (λ (rs : List Reel). rack faults writes fuse arms rs risks) (same_at value) ∙ ap (rack faults writes fuse arms (map f items)) (same_risks risk),
    )

    pub write_done : (block : List ℕ) (left : Option ℕ) → refuses_write k (Some (f was)) ≡ None → f now ≡ ending k block (f was) → left ≡ burnt fuse
        → (fuse ≡ Some 1 → ⊥)
        → Writing s k block before (Ok tt) (rack reads writes left arms (map f (set items i now)) risks)
    write_done block left allowed value burns good = (
      ap (refuses_write k) found ∙ allowed,
      good,
      ap (λ (rs : List Reel). rack reads writes left arms rs risks) (changed_at (ending k block) value)
          ∙ ap (λ (z : Option ℕ). rack reads writes z arms (with_reel s (ending k block) (map f items)) risks) burns,
    )

    pub write_failed : (block : List ℕ) (left : Option ℕ) (faults : ℕ) → refuses_write k (Some (f was)) ≡ None
        → ((how : Remains) × (f now ≡ left_by how k (f was))) → left ≡ burnt fuse → faults ≡ one_more writes
        → Writing s k block before (Err WriteFailed) (rack reads faults left arms (map f (set items i now)) risks)
    write_failed block left faults allowed (how, value) burns more = (
      ap (refuses_write k) found ∙ allowed,
      record { more = omega (arith, more) },
      (
        how,
        ap (λ (rs : List Reel). rack reads faults left arms rs risks) (changed_at (left_by how k) value)
            ∙ ap (λ (z : Option ℕ). rack reads faults z arms (with_reel s (left_by how k) (map f items)) risks) burns,
      ),
    )

    -- a reel that was made durable is the reel that it was
    pub secure_done : f now ≡ f was → Securing s before (Ok tt) (rack reads writes fuse arms (map f (set items i now)) risks)
    secure_done value = (ap is_some found, ap (λ (rs : List Reel). rack reads writes fuse arms rs risks) (same_at value))

    pub secure_failed : (faults : ℕ) → f now ≡ f was → faults ≡ one_more reads
        → Securing s before (Err ReadFailed) (rack faults writes fuse arms (map f (set items i now)) risks)
    secure_failed faults value more = (
      ap is_some found,
      record { more = omega (arith, more) },
      ap (λ (rs : List Reel). rack faults writes fuse arms rs risks) (same_at value),
    )

-- REFUSALS

refusal_not_failed : (mounted there : Bool) (fault : TapeFault) → (if mounted then (if there then None else Some End) else Some NotMounted) ≡ Some fault
    → (fault ≡ ReadFailed) ⊎ (fault ≡ WriteFailed) → ⊥
refusal_not_failed true true fault is failed = cc
refusal_not_failed true false fault is (inl failed) = cc
refusal_not_failed true false fault is (inr failed) = cc
refusal_not_failed false there fault is (inl failed) = cc
refusal_not_failed false there fault is (inr failed) = cc

end_not_failed : (mounted past : Bool) (fault : TapeFault) → (if mounted then (if past then Some End else None) else Some NotMounted) ≡ Some fault
    → (fault ≡ ReadFailed) ⊎ (fault ≡ WriteFailed) → ⊥
end_not_failed true true fault is (inl failed) = cc
end_not_failed true true fault is (inr failed) = cc
end_not_failed true false fault is failed = cc
end_not_failed false past fault is (inl failed) = cc
end_not_failed false past fault is (inr failed) = cc

-- a refusal is no failure of the device
read_not_failed : (k : ℕ) (o : Option Reel) (fault : TapeFault) → refuses_read k o ≡ Some fault → (fault ≡ ReadFailed) ⊎ (fault ≡ WriteFailed) → ⊥
read_not_failed k None fault is (inl failed) = cc
read_not_failed k None fault is (inr failed) = cc
read_not_failed k (Some r) fault is failed = refusal_not_failed r.mounted (nat_lt k r.len) fault is failed

write_not_failed : (k : ℕ) (o : Option Reel) (fault : TapeFault) → refuses_write k o ≡ Some fault → (fault ≡ ReadFailed) ⊎ (fault ≡ WriteFailed) → ⊥
write_not_failed k None fault is (inl failed) = cc
write_not_failed k None fault is (inr failed) = cc
write_not_failed k (Some r) fault is failed = end_not_failed r.mounted (nat_lt r.len k || not (nat_lt k r.capacity)) fault is failed

pub read_refused : (s k : ℕ) (r : Rack) (into : List ℕ) (fault : TapeFault) → refuses_read k (reel s r.reels) ≡ Some fault
    → Reading s k r (Err fault) into r
read_refused s k r into NoTape is = (is, refl)
read_refused s k r into NotMounted is = (is, refl)
read_refused s k r into End is = (is, refl)
read_refused s k r into ReadFailed is = absurd (read_not_failed k (reel s r.reels) ReadFailed is (inl refl))
read_refused s k r into WriteFailed is = absurd (read_not_failed k (reel s r.reels) WriteFailed is (inr refl))

pub write_refused : (s k : ℕ) (block : List ℕ) (r : Rack) (fault : TapeFault) → refuses_write k (reel s r.reels) ≡ Some fault
    → Writing s k block r (Err fault) r
write_refused s k block r NoTape is = (is, refl)
write_refused s k block r NotMounted is = (is, refl)
write_refused s k block r End is = (is, refl)
write_refused s k block r ReadFailed is = absurd (write_not_failed k (reel s r.reels) ReadFailed is (inl refl))
write_refused s k block r WriteFailed is = absurd (write_not_failed k (reel s r.reels) WriteFailed is (inr refl))

-- whatever a write left, it is the reel of the same serial
pub serial_left : (k : ℕ) (old new : Reel) → ((how : Remains) × (new ≡ left_by how k old)) → new.serial ≡ old.serial
serial_left k old new (Unchanged, value) = ap (λ (r : Reel). r.serial) value
serial_left k old new (Shortened, value) = ap (λ (r : Reel). r.serial) value
serial_left k old new (Torn block, value) = ap (λ (r : Reel). r.serial) value

-- whether a write fails or not, what it leaves is something that a failed write may leave
pub left_any : {V E : Type 0} (k : ℕ) (block : List ℕ) (old new : Reel) (result : Result V E) → OnOk result (new ≡ ending k block old)
    → OnErr result ((how : Remains) × (new ≡ left_by how k old)) → (how : Remains) × (new ≡ left_by how k old)
left_any k block old new (Ok _) done left = (Torn block, done)
left_any k block old new (Err _) done left = left

-- WHAT WAS READ AHEAD

-- bytes of a file are still there after a change of later ones
pub part_kept : (n : ℕ) (w : Window) (b a : List ℕ) → n ≤ length b → IsPartOf w b → KeepsFront n b a → IsPartOf (window w.at (take (n - w.at) w.bytes)) a
part_kept n w b a long fresh keeps =
    let q = take (n - w.at) w.bytes in
    let cut : q ≡ part w.at (length q) b = fresh_cut w.at (n - w.at) w.bytes b fresh in
    elim (cases_lt w.at n) [
      | inl before ↦
          let few : w.at + length q ≤ n = omega (arith, before, length-take (n - w.at) w.bytes) in
          let long' = keeps.long in
          cut ∙ sym (part_take w.at (length q) n b few long) ∙ ap (part w.at (length q)) (sym keeps.same)
          ∙ part_take w.at (length q) n a few long'
      | inr past ↦ let none : n - w.at ≡ 0 = omega (arith, past) in rw none refl
    ]

pub window_cut : (n : ℕ) (w : Window) (b : List ℕ) → IsPartOf w b → IsPartOf (window w.at (take (n - w.at) w.bytes)) b
window_cut n w b fresh = fresh_cut w.at (n - w.at) w.bytes b fresh

-- a write from byte n on, before which what was read ahead was cut there
pub written_fresh : (n : ℕ) (w : Window) (x y : Option (List ℕ)) → ForSome x (λ b. n ≤ length b) → ForSome x (IsPartOf w) → Changes (KeepsFront n) x y
    → ForSome y (IsPartOf (window w.at (take (n - w.at) w.bytes)))
written_fresh n w x y long fresh c a is =
    let f = Changes-back (KeepsFront n) x y c a is in part_kept n w f.0 a (long f.0 f.1) (fresh f.0 f.1) f.2

module _ {A : Type 0} (h : A → Option (List ℕ)) (items : List A) (i : ℕ) (now : A) where
  -- the file of the reel that changed
  pub fresh_here : (Q : List ℕ → Type 0) (o : ℕ) → o ≡ i → ForSome (h now) Q → (d : A) → o < length (set items i now)
      → ForSome (h (get_or (set items i now) o d)) Q
  fresh_here Q o same fresh d below =
      let inside : i < length items = omega (arith, same, below, length-set items i now) in
      subst (λ (x : A). ForSome (h x) Q) (sym (ap (λ (j : ℕ). get_or (set items i now) j d) same ∙ get_or-set_same items i now d inside)) fresh

  module _ (P : List ℕ → Type 0) (o : ℕ) (fresh : (d : A) → o < length items → ForSome (h (get_or items o d)) P) where
    at_owner : (was : A) → was ≡ get_or items i was → o ≡ i → i < length items → ForSome (h was) P
    at_owner was is same inside =
        subst (λ (x : A). ForSome (h x) P) (ap (λ (j : ℕ). get_or items j was) same ∙ sym is) (fresh was (omega (arith, same, inside)))

    -- the file of that reel or of another
    pub fresh_set : (Q : List ℕ → Type 0) (was : A) → was ≡ get_or items i was → (o' : ℕ) → o' ≡ o → (o ≡ i → ForSome (h was) P → ForSome (h now) Q)
        → ((o ≡ i → ⊥) → (b : List ℕ) → P b → Q b) → (d : A) → o' < length (set items i now) → ForSome (h (get_or (set items i now) o' d)) Q
    fresh_set Q was is o' moved here other d below = elim (cases_eq o i) [
      | inl same ↦
          let inside : i < length items = omega (arith, same, moved, below, length-set items i now) in
          fresh_here Q o' (moved ∙ same) (here same (at_owner was is same inside)) d below
      | inr apart ↦
          let inside : o < length items = omega (arith, moved, below, length-set items i now) in
          subst (λ (x : A). ForSome (h x) Q)
          (sym (ap (λ (j : ℕ). get_or (set items i now) j d) moved ∙ get_or-set_other items i o now d apart)) (λ b is'. other apart b (fresh d inside b is'))
    ]

    -- where no file changed
    pub fresh_same : (was : A) → was ≡ get_or items i was → h now ≡ h was → (d : A) → o < length (set items i now)
        → ForSome (h (get_or (set items i now) o d)) P
    fresh_same was is file = fresh_set P was is o refl (λ same old b is'. old b (sym file ∙ is')) (λ apart b p. p)

-- PLACES

pub first_mapped : {A : Type 0} (f : A → Reel) (s : ℕ) (items : List A) (i : ℕ) (x : A) → i < length items → (f (get_or items i x)).serial ≡ s
    → ((k : ℕ) (d : A) → k < i → (f (get_or items k d)).serial ≡ s → ⊥) → IsPlaceOf s (map f items) i
first_mapped f s items i x within here before =
    reel-first s (map f items) i (omega (arith, within, length-map items f))
    (λ d. ap (λ (r : Reel). r.serial) (get_or-map f items i x d within) ∙ here)
    (λ k d h is. before k x h (ap (λ (r : Reel). r.serial) (sym (get_or-map f items k x d (omega (arith, h, within)))) ∙ is))

pub none_mapped : {A : Type 0} (f : A → Reel) (s : ℕ) (items : List A) → ((k : ℕ) (d : A) → k < length items → (f (get_or items k d)).serial ≡ s → ⊥)
    → reel s (map f items) ≡ None
none_mapped f s [] other = refl
none_mapped f s (x ∷ xs) other =
    let differs : (s == (f x).serial) ≡ false = ne_eqb s (f x).serial (λ e. other 0 x (omega arith) (sym e)) in
    ap (λ (b : Bool). if b then Some (f x) else reel s (map f xs)) differs ∙ none_mapped f s xs (λ k d h. other (suc k) d (omega (arith, h)))

pub serial_at : {A : Type 0} (f : A → Reel) (items : List A) (i : ℕ) (x : A) → i < length items
    → slice_get (map (λ r. r.serial) (map f items)) i ≡ Some (f (get_or items i x)).serial
serial_at f items i x within =
    let long : i < length (map f items) = omega (arith, within, length-map items f) in
    let numbers : List ℕ = map (λ (r : Reel). r.serial) (map f items) in
    slice_get-get_or numbers i 0 (omega (arith, long, length-map (map f items) (λ (r : Reel). r.serial)))
    ∙ ap (λ (n : ℕ). Some n) (get_or-map (λ (r : Reel). r.serial) (map f items) i (f x) 0 long ∙ ap (λ (r : Reel). r.serial) (get_or-map f items i x (f x) within))

-- a number above all others keeps them rising
rising-push : (numbers : List ℕ) (x : ℕ) → IsStrictlyIncreasing numbers → All (λ n. n < x) numbers
    → IsStrictlyIncreasing (numbers ++ x ∷ [])
rising-push numbers x rising below k h =
    let within : k < length numbers = omega (arith, length-append numbers (x ∷ []), h) in
    let first : get_or (numbers ++ x ∷ []) k 0 ≡ get_or numbers k 0 = get_or_append_left numbers (x ∷ []) 0 k within in
    elim (cases_lt (k + 1) (length numbers)) [
      | inl more ↦
          let second : get_or (numbers ++ x ∷ []) (k + 1) 0 ≡ get_or numbers (k + 1) 0 =
          get_or_append_left numbers (x ∷ []) 0 (k + 1) more in
          let rises : get_or numbers k 0 < get_or numbers (k + 1) 0 = rising k more in
          omega (arith, first, second, rises)
      | inr last ↦
          let end : k + 1 ≡ length numbers = omega arith in
          let second : get_or (numbers ++ x ∷ []) (k + 1) 0 ≡ x =
          subst (λ (i : ℕ). get_or (numbers ++ x ∷ []) i 0 ≡ x) (sym end) (get_or-append_seam numbers x [] 0) in
          let under : get_or numbers k 0 < x = below k 0 within in
          omega (arith, first, second, under)
    ]

-- one more reel after those of a rack, with a serial above all of them
AreReels-push : (reels : List Reel) (r : Reel) → AreReels reels → length reels < 16 → IsReel r
    → All (λ other. other.serial < r.serial) reels → AreReels (reels ++ r ∷ [])
AreReels-push reels r are room is above =
    let below : All (λ n. n < r.serial) (map (λ (o : Reel). o.serial) reels) = All-map (λ (n : ℕ). n < r.serial) (λ (o : Reel). o.serial) reels above in
    record {
      few = omega (arith, length-append reels (r ∷ []), room);
      rising = subst IsStrictlyIncreasing (sym (map_push (λ (o : Reel). o.serial) reels r))
          (rising-push (map (λ (o : Reel). o.serial) reels) r.serial are.rising below);
      each = All-push IsReel reels r are.each is;
    }

pub reels_push : {A : Type 0} (f : A → Reel) (items : List A) (x : A) → AreReels (map f items) → length items < 16 → IsReel (f x)
    → All (λ other. (f other).serial < (f x).serial) items → AreReels (map f (items ++ x ∷ []))
reels_push f items x are room is above =
    subst AreReels (sym (map_push f items x)) (AreReels-push (map f items) (f x) are (omega (arith, room, length-map items f)) is
    (All-map (λ (r : Reel). r.serial < (f x).serial) f items above))

-- THE END OF A RUN

-- one more reel was finished
pub saved_more : {V W E A : Type 0} (S : A → Type 0) (items : List A) (i : ℕ) (now : A) (one : Result V E) (two : Result W E) → i < length items
    → OnOk one ((k : ℕ) (d : A) → k < i → S (get_or items k d)) → OnOk two (S now)
    → OnOk (result_and one two) ((k : ℕ) (d : A) → k < i + 1 → S (get_or (set items i now) k d))
saved_more S items i now (Err e) two within before last = tt
saved_more S items i now (Ok v) (Err e) within before last = tt
saved_more S items i now (Ok v) (Ok u) within before last = λ k d h. elim (cases_lt k i) [
  | inl below ↦
      let apart : k ≡ i → ⊥ = λ same. omega (arith, below, same) in
      subst S (sym (get_or-set_other items i k now d apart)) (before k d below)
  | inr from ↦
      let same : k ≡ i = omega (arith, h, from) in
      subst S (sym (ap (λ (j : ℕ). get_or (set items i now) j d) same ∙ get_or-set_same items i now d within)) last
]

pub finished_same : {A : Type 0} (f : A → Reel) (items : List A) (i : ℕ) (was now : A) → was ≡ get_or items i was → f now ≡ f was → map f (set items i now) ≡ map f items
finished_same f items i was now is value = map-set_same f items i now was (value ∙ ap f is)
