-- What a power loss may leave of the reels of a rack of files.
-- serves: finish (no_more), finish_all, risks_list_what_is_read, secure, write
use Rattle.std.proofs.Common.{◌≡◌, ◌⊎◌, ◌==◌, ℕ, zero, suc, ◌+◌, ◌*◌, ◌<◌, ◌≤◌, Bool, true, false, if◌then◌else◌, List, [], ◌∷◌, ◌++◌, length, map, get_or, take, replicate, Result, Ok, Err, OnOk, is_err, is_ok, Some, refl, sym, ap, subst, ◌∙◌, inl, inr, arith, length-set, length-take}
use Rattle.std.specs.Prelude.{All, Option, option_map}
use Rattle.std.specs.List.{AllZip}
use Rattle.std.specs.Option.{ForSome}
use Rattle.std.specs.List.Sorted.{IsStrictlyIncreasing}
use Rattle.std.proofs.Math.ListN.{set}
use Rattle.std.proofs.lemmas.Bool.{cases_eq, cases_lt, eq-eqb, ne_eqb}
use Rattle.std.proofs.Math.Seq.{take-append_seam}
use Rattle.std.proofs.lemmas.List.{get_or-map, get_or-set_other, get_or-set_same, length-map, length-take-le, take-append-le, take-take}
use Rattle.std.proofs.lemmas.List.Elements.{All-append, All-map}
use Rattle.std.proofs.lemmas.Option.{none-some, same_Some}
use Rattle.g_tape.specs.declared.fault.TapeFault.{TapeFault}
use Rattle.g_tape.specs.Durable.{IsDurableTo, IsSyncableTo, SecuresDurably, WritesDurably}
use Rattle.g_tape.specs.Place.{IsPlaceOf}
use Rattle.g_tape.specs.Rack.{AreReels, Rack, reel, refuses_write}
use Rattle.g_tape.specs.Reads.{LeavesNoMore, MayLeave, blocks_in, blocks_of, is_syncable}
use Rattle.g_tape.specs.Reel.{Reel, ending}
use Rattle.g_tape.specs.Risk.{IsSynced, Leaves, Remnant, Risk, risk, syncs}
use Rattle.g_tape.proofs.PlaceLemmas.{reel-found}
use Rattle.g_files.specs.BlockFile.{content_of, len_of}
use Rattle.g_files.specs.Bytes.{AreBytes, sectors_of}
use Rattle.g_files.specs.Bytes.{blocks_of as file_blocks}
use Rattle.g_files.specs.ReelRisk.{ReelIsBegun, ReelKeeps, ReelLeavesNoMore, SecuresReel, WritesReel, cut_remnant, with_cuts}
use Rattle.g_files.specs.Risks.{durability_of}
use Rattle.g_files.specs.Sectors.{AreResized, IsWhole, LeavesRead}
use Rattle.g_files.specs.StoredSectors.{blocks_whole}
use Rattle.g_files.specs.declared.block_file.BlockFile.{BlockFile}
use Rattle.g_files.specs.declared.raw.RawFile.{Ghosts}
use Rattle.g_files.proofs.BlockLemmas.{get-blocks_of, length-blocks_of}
use Rattle.g_files.proofs.FileRackLemmas.{first_mapped, found}
use Rattle.g_files.proofs.ReelRiskLemmas.{ReelLeaves, Seen, cuts_from, seen_some}
use Rattle.g_files.proofs.SectorLemmas.{get_in}

module _ {A : Type 0} (h : A → Risk) (s : ℕ) where
  -- the risk of the first reel of the serial
  pub risk_at : (items : List A) (i : ℕ) (was : A) → i < length items → was ≡ get_or items i was → (h was).serial ≡ s
      → ((j : ℕ) (d : A) → j < i → (h (get_or items j d)).serial ≡ s → ⊥) → risk s (map h items) ≡ Some (h was)
  risk_at [] i was within is serial first = absurd (omega (arith, within))
  risk_at (x ∷ xs) zero was within is serial first =
      let here : (s == (h x).serial) ≡ true = eq-eqb s (h x).serial (sym serial ∙ ap (λ (a : A). (h a).serial) is) in
      ap (λ (b : Bool). if b then Some (h x) else risk s (map h xs)) here ∙ ap (λ (a : A). Some (h a)) (sym is)
  risk_at (x ∷ xs) (suc i) was within is serial first =
      let apart : (s == (h x).serial) ≡ false = ne_eqb s (h x).serial (λ same. first zero x (omega arith) (sym same)) in
      ap (λ (b : Bool). if b then Some (h x) else risk s (map h xs)) apart
      ∙ risk_at xs i was (omega (arith, within)) is serial (λ j d below. first (suc j) d (omega (arith, below)))

  -- the risks of the others
  pub risk_other : (t : ℕ) (items : List A) (i : ℕ) (was now : A) → i < length items → was ≡ get_or items i was → (t ≡ s → ⊥) → (h was).serial ≡ s → (h now).serial ≡ s
      → risk t (map h (set items i now)) ≡ risk t (map h items)
  risk_other t [] i was now within is apart serial serial' = absurd (omega (arith, within))
  risk_other t (x ∷ xs) zero was now within is apart serial serial' =
      let here : (t == (h now).serial) ≡ false = ne_eqb t (h now).serial (λ same. apart (same ∙ serial')) in
      let there : (t == (h x).serial) ≡ false = ne_eqb t (h x).serial (λ same. apart (same ∙ ap (λ (a : A). (h a).serial) (sym is) ∙ serial)) in
      ap (λ (b : Bool). if b then Some (h now) else risk t (map h xs)) here ∙ sym (ap (λ (b : Bool). if b then Some (h x) else risk t (map h xs)) there)
  risk_other t (x ∷ xs) (suc i) was now within is apart serial serial' =
      ap (λ (o : Option Risk). if t == (h x).serial then Some (h x) else o) (risk_other t xs i was now (omega (arith, within)) is apart serial serial')

-- the other reels
reel_other : {A : Type 0} (f : A → Reel) (s t : ℕ) (items : List A) (i : ℕ) (was now : A) → i < length items → was ≡ get_or items i was → (t ≡ s → ⊥) → (f was).serial ≡ s → (f now).serial ≡ s
    → reel t (map f (set items i now)) ≡ reel t (map f items)
reel_other f s t [] i was now within is apart serial serial' = absurd (omega (arith, within))
reel_other f s t (x ∷ xs) zero was now within is apart serial serial' =
    let here : (t == (f now).serial) ≡ false = ne_eqb t (f now).serial (λ same. apart (same ∙ serial')) in
    let there : (t == (f x).serial) ≡ false = ne_eqb t (f x).serial (λ same. apart (same ∙ ap (λ a. (f a).serial) (sym is) ∙ serial)) in
    ap (λ (b : Bool). if b then Some (f now) else reel t (map f xs)) here ∙ sym (ap (λ (b : Bool). if b then Some (f x) else reel t (map f xs)) there)
reel_other f s t (x ∷ xs) (suc i) was now within is apart serial serial' =
    ap (λ (o : Option Reel). if t == (f x).serial then Some (f x) else o) (reel_other f s t xs i was now (omega (arith, within)) is apart serial serial')

-- WHAT A RACK OWES, from what the reel of the serial owes
module _ (n s : ℕ) (rack : Rack) (r : Reel) (k : Risk) (same : blocks_of s rack ≡ r.blocks) (noted : risk s rack.risks ≡ Some k) where
  durable_to : IsDurableTo n s rack → ReelKeeps n r k
  durable_to durable b at left there = durable b (same ∙ at) left (subst (λ (o : Option Risk). Leaves o b left) (sym noted) there) b (same ∙ at)

  durable_from : ReelKeeps n r k → IsDurableTo n s rack
  durable_from keeps b at left there b' at' = keeps b' (sym same ∙ at') left (subst (λ (o : Option Risk). Leaves o b left) noted there)

module _ (s : ℕ) (old new : Rack) (r r' : Reel) (was is : Risk) (before : blocks_of s old ≡ r.blocks) (after : blocks_of s new ≡ r'.blocks)
    (risked : risk s old.risks ≡ Some was) (risks : risk s new.risks ≡ Some is) (others : (t : ℕ) → (t ≡ s → ⊥) → risk t new.risks ≡ risk t old.risks) where
  able : (k : ℕ) → IsSyncableTo k s old → (was.syncable ≡ true) ⊎ ReelKeeps k r was
  able k (inl can) = inl (sym (ap syncs risked) ∙ can)
  able k (inr durable) = inr (durable_to k s old r was before risked durable)

  noted : (b left : List (List ℕ)) → Leaves (risk s new.risks) b left → Leaves (Some is) b left
  noted b left there = subst (λ (o : Option Risk). Leaves o b left) risks there

  pub writes_from_reel : (k : ℕ) (block : List ℕ) (result : Result (Unit {0}) TapeFault) → WritesReel k block r r' was is result → WritesDurably s k block old result new
  writes_from_reel k block (Ok u) w = record {
    others = others;
    front = λ n few durable. durable_from n s new r' is after risks (w.front n few (durable_to n s old r was before risked durable));
    syncable = λ can. ap syncs risks ∙ w.syncable (sym (ap syncs risked) ∙ can);
    fresh = λ free durable. ap syncs risks ∙ w.fresh (durable_to k s old r was before risked durable);
    short = λ b at left there. w.short b (sym after ∙ at) left (noted b left there);
    synced = λ needed can b at left there. w.synced needed (able k can) b (sym after ∙ at) left (noted b left there);
    failed = tt;
  }
  writes_from_reel k block (Err fault) w = record {
    others = others;
    front = λ n few durable. durable_from n s new r' is after risks (w.front n few (durable_to n s old r was before risked durable));
    syncable = λ can. ap syncs risks ∙ w.syncable (sym (ap syncs risked) ∙ can);
    fresh = λ free durable. ap syncs risks ∙ w.fresh (durable_to k s old r was before risked durable);
    short = tt;
    synced = λ needed can. tt;
    failed = λ b at left there. elim (w.failed b (sym after ∙ at) left (noted b left there)) [
      | inl same ↦ inl (λ bs here. subst (λ (o : Option Risk). Leaves o bs left) (sym risked) (same bs (sym before ∙ here)))
      | inr begun ↦ inr (record { short = begun.short; synced = λ needed can bs here. begun.front needed (able k can) bs (sym before ∙ here) })
    ];
  }

-- A RACK OF WHICH A POWER LOSS LEAVES NO MORE, since it leaves no more of any reel
module _ {A : Type 0} (f : A → Reel) (h : A → Risk) (named : (x : A) → (h x).serial ≡ (f x).serial) where
  abbrev pub IsAlike : A → A → Type 0
  IsAlike x y = (f y ≡ f x) × ((h y).serial ≡ (h x).serial) × ReelLeavesNoMore (f x) (f y) (h x) (h y)

  pub alike : (x : A) → IsAlike x x
  alike x = (refl, refl, record { leaves = λ left there. there; syncable = λ can. can })

  pub alike_then : (x y z : A) → IsAlike x y → IsAlike y z → IsAlike x z
  alike_then x y z one two = (
    two.0 ∙ one.0,
    two.1 ∙ one.1,
    record { leaves = λ left there. one.2.leaves left (two.2.leaves left there); syncable = λ can. two.2.syncable (one.2.syncable can) },
  )

  pub all_alike : (xs : List A) → AllZip IsAlike xs xs
  all_alike [] = tt
  all_alike (x ∷ xs) = (alike x, all_alike xs)

  -- one more of them changed
  pub alike_set : (xs ys : List A) (i : ℕ) (was now : A) → i < length ys → was ≡ get_or ys i was → AllZip IsAlike xs ys → IsAlike was now → AllZip IsAlike xs (set ys i now)
  alike_set [] [] i was now within is all one = absurd (omega (arith, within))
  alike_set [] (y ∷ ys) i was now within is all one = absurd all
  alike_set (x ∷ xs) [] i was now within is all one = absurd all
  alike_set (x ∷ xs) (y ∷ ys) zero was now within is all one = (alike_then x y now all.0 (subst (λ (a : A). IsAlike a now) is one), all.1)
  alike_set (x ∷ xs) (y ∷ ys) (suc i) was now within is all one = (all.0, alike_set xs ys i was now (omega (arith, within)) is all.1 one)

  module _ (s : ℕ) where
    abbrev pub MayBe : Option Reel → Option Risk → List (List ℕ) → Type 0
    MayBe r k left = ForSome (blocks_in r) (λ blocks. Leaves k blocks left)

    here_reel : (x : A) (xs : List A) → s ≡ (f x).serial → reel s (map f (x ∷ xs)) ≡ Some (f x)
    here_reel x xs at = ap (λ (b : Bool). if b then Some (f x) else reel s (map f xs)) (eq-eqb s (f x).serial at)

    here_risk : (x : A) (xs : List A) → s ≡ (h x).serial → risk s (map h (x ∷ xs)) ≡ Some (h x)
    here_risk x xs at = ap (λ (b : Bool). if b then Some (h x) else risk s (map h xs)) (eq-eqb s (h x).serial at)

    next_reel : (x : A) (xs : List A) → (s ≡ (f x).serial → ⊥) → reel s (map f (x ∷ xs)) ≡ reel s (map f xs)
    next_reel x xs apart = ap (λ (b : Bool). if b then Some (f x) else reel s (map f xs)) (ne_eqb s (f x).serial apart)

    next_risk : (x : A) (xs : List A) → (s ≡ (h x).serial → ⊥) → risk s (map h (x ∷ xs)) ≡ risk s (map h xs)
    next_risk x xs apart = ap (λ (b : Bool). if b then Some (h x) else risk s (map h xs)) (ne_eqb s (h x).serial apart)

    serial_now : (x y : A) → IsAlike x y → (h y).serial ≡ (f x).serial
    serial_now x y one = one.1 ∙ named x

    leaves_in : (xs ys : List A) → AllZip IsAlike xs ys → (left : List (List ℕ)) → MayBe (reel s (map f ys)) (risk s (map h ys)) left → MayBe (reel s (map f xs)) (risk s (map h xs)) left
    leaves_in [] [] all left there = there
    leaves_in [] (y ∷ ys) all left there = absurd all
    leaves_in (x ∷ xs) [] all left there = absurd all
    leaves_in (x ∷ xs) (y ∷ ys) all left there = elim (cases_eq s (f x).serial) [
      | inl at ↦
          let now : MayBe (Some (f y)) (Some (h y)) left =
          subst (λ (k : Option Risk). MayBe (Some (f y)) k left) (here_risk y ys (at ∙ sym (serial_now x y all.0)))
          (subst (λ (r : Option Reel). MayBe r (risk s (map h (y ∷ ys))) left) (here_reel y ys (at ∙ ap (λ (r : Reel). r.serial) (sym all.0.0))) there) in
          subst (λ (r : Option Reel). MayBe r (risk s (map h (x ∷ xs))) left) (sym (here_reel x xs at))
          (subst (λ (k : Option Risk). MayBe (Some (f x)) k left) (sym (here_risk x xs (at ∙ sym (named x)))) (all.0.2.leaves left now))
      | inr apart ↦
          let now : MayBe (reel s (map f ys)) (risk s (map h ys)) left =
          subst (λ (k : Option Risk). MayBe (reel s (map f ys)) k left) (next_risk y ys (λ at. apart (at ∙ serial_now x y all.0)))
          (subst (λ (r : Option Reel). MayBe r (risk s (map h (y ∷ ys))) left) (next_reel y ys (λ at. apart (at ∙ ap (λ (r : Reel). r.serial) all.0.0))) there) in
          subst (λ (r : Option Reel). MayBe r (risk s (map h (x ∷ xs))) left) (sym (next_reel x xs apart))
          (subst (λ (k : Option Risk). MayBe (reel s (map f xs)) k left) (sym (next_risk x xs (λ at. apart (at ∙ named x)))) (leaves_in xs ys all.1 left now))
    ]

    syncable_in : (xs ys : List A) → AllZip IsAlike xs ys → syncs (risk s (map h xs)) ≡ true → syncs (risk s (map h ys)) ≡ true
    syncable_in [] [] all can = can
    syncable_in [] (y ∷ ys) all can = absurd all
    syncable_in (x ∷ xs) [] all can = absurd all
    syncable_in (x ∷ xs) (y ∷ ys) all can = elim (cases_eq s (f x).serial) [
      | inl at ↦
          ap syncs (here_risk y ys (at ∙ sym (serial_now x y all.0))) ∙ all.0.2.syncable (sym (ap syncs (here_risk x xs (at ∙ sym (named x)))) ∙ can)
      | inr apart ↦
          ap syncs (next_risk y ys (λ at. apart (at ∙ serial_now x y all.0)))
          ∙ syncable_in xs ys all.1 (sym (ap syncs (next_risk x xs (λ at. apart (at ∙ named x)))) ∙ can)
    ]

  all_long : (xs ys : List A) → AllZip IsAlike xs ys → length ys ≡ length xs
  all_long [] [] all = refl
  all_long [] (y ∷ ys) all = absurd all
  all_long (x ∷ xs) [] all = absurd all
  all_long (x ∷ xs) (y ∷ ys) all = ap suc (all_long xs ys all.1)

  -- a vector of them whose elements were replaced
  pub alike_refilled : (n : ℕ) (xs ys rest : List A) → length xs ≡ n → AllZip IsAlike xs ys → take n (ys ++ rest) ≡ ys
  alike_refilled n xs ys rest long all = subst (λ (m : ℕ). take m (ys ++ rest) ≡ ys) (all_long xs ys all ∙ long) (take-append_seam ys rest)

  pub alike_leave : (xs ys : List A) (old new : Rack) → old.reels ≡ map f xs → old.risks ≡ map h xs → new.reels ≡ map f ys → new.risks ≡ map h ys → AllZip IsAlike xs ys → LeavesNoMore old new
  alike_leave xs ys old new reels risks reels' risks' all = record {
    leaves = λ s left there.
        subst (λ (k : List Risk). MayBe s (reel s old.reels) (risk s k) left) (sym risks)
        (subst (λ (r : List Reel). MayBe s (reel s r) (risk s (map h xs)) left) (sym reels)
        (leaves_in s xs ys all left
        (subst (λ (k : List Risk). MayBe s (reel s (map f ys)) (risk s k) left) risks' (subst (λ (r : List Reel). MayBe s (reel s r) (risk s new.risks) left) reels' there))));
    syncable = λ s can. ap (λ (k : List Risk). syncs (risk s k)) risks' ∙ syncable_in s xs ys all (sym (ap (λ (k : List Risk). syncs (risk s k)) risks) ∙ can);
  }

-- A RACK OF REELS IN FILES, one of which changed
next_rises : (ns : List ℕ) → IsStrictlyIncreasing ns → (m : ℕ) → suc m < length ns → get_or ns m 0 < get_or ns (suc m) 0
next_rises ns rising m within =
    let same : m + 1 ≡ suc m = omega arith in
    subst (λ (x : ℕ). get_or ns m 0 < get_or ns x 0) same (rising m (omega (arith, within)))

rises : (ns : List ℕ) → IsStrictlyIncreasing ns → (j i : ℕ) → j < i → i < length ns → get_or ns j 0 < get_or ns i 0
rises ns rising j zero below within = absurd (omega (arith, below))
rises ns rising j (suc m) below within = elim (cases_lt j m) [
  | inl early ↦
      let one = rises ns rising j m early (omega (arith, within)) in
      let two = next_rises ns rising m within in
      omega (arith, one, two)
  | inr late ↦
      let same : m ≡ j = omega (arith, late, below) in
      subst (λ (x : ℕ). get_or ns x 0 < get_or ns (suc m) 0) same (next_rises ns rising m within)
]

module _ {A : Type 0} (f : A → Reel) (h : A → Risk) (named : (x : A) → (h x).serial ≡ (f x).serial) (s i : ℕ) (items : List A) (was now : A)
    (are : AreReels (map f items)) (place : IsPlaceOf s (map f items) i) (is : was ≡ get_or items i was) (same : (h now).serial ≡ (h was).serial) where
  within : i < length items
  within = let long = place.within in omega (arith, long, length-map items f)

  abbrev pub serials : List ℕ
  serials = map (λ (r : Reel). r.serial) (map f items)

  serial_of : (j : ℕ) (d : A) → j < length items → get_or serials j 0 ≡ (f (get_or items j d)).serial
  serial_of j d below =
      get_or-map (λ (r : Reel). r.serial) (map f items) j (f d) 0 (omega (arith, below, length-map items f))
      ∙ ap (λ (r : Reel). r.serial) (get_or-map f items j d (f d) below)

  here : (f was).serial ≡ s
  here = (reel-found s (map f items) (f was) (found f s 0 i items was now place is)).1

  serial : (h was).serial ≡ s
  serial = named was ∙ here

  first : (j : ℕ) (d : A) → j < i → (h (get_or items j d)).serial ≡ s → ⊥
  first j d below there =
      let rise = rises serials are.rising j i below (omega (arith, within, length-map items f, length-map (map f items) (λ (r : Reel). r.serial))) in
      let low = serial_of j d (omega (arith, below, within)) in
      let high = serial_of i was within in
      let at : (f (get_or items i was)).serial ≡ s = ap (λ (x : A). (f x).serial) (sym is) ∙ here in
      let name = named (get_or items j d) in
      omega (arith, rise, low, high, at, name, there)

  abbrev pub after : List A
  after = set items i now

  inside : i < length after
  inside = omega (arith, within, length-set items i now)

  itself : now ≡ get_or after i now
  itself = sym (get_or-set_same items i now now within)

  first_after : (j : ℕ) (d : A) → j < i → (h (get_or after j d)).serial ≡ s → ⊥
  first_after j d below there =
      first j d below (ap (λ (x : A). (h x).serial) (sym (get_or-set_other items i j now d (λ at. omega (arith, below, at)))) ∙ there)

  named_now : (f now).serial ≡ s
  named_now = sym (named now) ∙ same ∙ serial

  place_after : IsPlaceOf s (map f after) i
  place_after =
      first_mapped f s after i now inside (ap (λ (x : A). (f x).serial) (sym itself) ∙ named_now)
      (λ j d below there. first_after j d below (named (get_or after j d) ∙ there))

  -- what the rack owes of a write or when it is secured
  module _ (old new : Rack) (reels : old.reels ≡ map f items) (risks : old.risks ≡ map h items) (reels' : new.reels ≡ map f after) (risks' : new.risks ≡ map h after) where
    before_blocks : blocks_of s old ≡ (f was).blocks
    before_blocks = ap (λ (rs : List Reel). blocks_in (reel s rs)) reels ∙ ap blocks_in (found f s 0 i items was now place is)

    after_blocks : blocks_of s new ≡ (f now).blocks
    after_blocks = ap (λ (rs : List Reel). blocks_in (reel s rs)) reels' ∙ ap blocks_in (found f s 0 i after now now place_after itself)

    before_risk : risk s old.risks ≡ Some (h was)
    before_risk = ap (risk s) risks ∙ risk_at h s items i was within is serial first

    after_risk : risk s new.risks ≡ Some (h now)
    after_risk = ap (risk s) risks' ∙ risk_at h s after i now inside itself (same ∙ serial) first_after

    others : (t : ℕ) → (t ≡ s → ⊥) → risk t new.risks ≡ risk t old.risks
    others t apart = ap (risk t) risks' ∙ risk_other h s t items i was now within is apart serial (same ∙ serial) ∙ sym (ap (risk t) risks)

    pub rack_writes : (k : ℕ) (block : List ℕ) (result : Result (Unit {0}) TapeFault) → WritesReel k block (f was) (f now) (h was) (h now) result
        → WritesDurably s k block old result new
    rack_writes k block result = writes_from_reel s old new (f was) (f now) (h was) (h now) before_blocks after_blocks before_risk after_risk others k block result

    other_blocks : (t : ℕ) → (t ≡ s → ⊥) → blocks_of t new ≡ blocks_of t old
    other_blocks t apart = ap (λ (rs : List Reel). blocks_in (reel t rs)) reels' ∙ ap blocks_in (reel_other f s t items i was now within is apart here named_now)
        ∙ sym (ap (λ (rs : List Reel). blocks_in (reel t rs)) reels)

    rack_leaves : ((left : List (List ℕ)) → ForSome (f now).blocks (λ blocks. Leaves (Some (h now)) blocks left) → ForSome (f was).blocks (λ blocks. Leaves (Some (h was)) blocks left))
        → ((h was).syncable ≡ true → (h now).syncable ≡ true) → LeavesNoMore old new
    rack_leaves leaves syncable = record {
      leaves = λ t left there. elim (cases_eq t s) [
        | inl one ↦
            let seen : MayLeave s new left = subst (λ (u : ℕ). MayLeave u new left) one there in
            subst (λ (u : ℕ). MayLeave u old left) (sym one) (λ blocks at.
            subst (λ (o : Option Risk). Leaves o blocks left) (sym before_risk)
            (leaves left (λ bs at'. subst (λ (o : Option Risk). Leaves o bs left) after_risk (seen bs (after_blocks ∙ at'))) blocks (sym before_blocks ∙ at)))
        | inr apart ↦ λ blocks at. subst (λ (o : Option Risk). Leaves o blocks left) (others t apart) (there blocks (other_blocks t apart ∙ at))
      ];
      syncable = λ t was'. elim (cases_eq t s) [
        | inl one ↦
            let able : syncs (risk s old.risks) ≡ true = subst (λ (u : ℕ). is_syncable u old ≡ true) one was' in
            subst (λ (u : ℕ). is_syncable u new ≡ true) (sym one) (ap syncs after_risk ∙ syncable (sym (ap syncs before_risk) ∙ able))
        | inr apart ↦ ap syncs (others t apart) ∙ was'
      ];
    }

    pub rack_secures : (result : Result (Unit {0}) TapeFault) → SecuresReel (f was) (f now) (h was) (h now) result → SecuresDurably s old result new
    rack_secures (Ok u) w = record {
      others = others;
      no_more = rack_leaves w.no_more.leaves w.no_more.syncable;
      durable = λ able blocks at left there.
          w.durable (sym (ap syncs before_risk) ∙ able) blocks (sym after_blocks ∙ at) left (subst (λ (o : Option Risk). Leaves o blocks left) after_risk there);
    }
    rack_secures (Err fault) w = record { others = others; no_more = rack_leaves w.no_more.leaves w.no_more.syncable; durable = tt }

-- WHAT READS SEE MAY BE LEFT
pub first_resized : (n : ℕ) (b : List ℕ) → 512 * n ≤ length b → AreBytes b → AreResized (512 * n) (sectors_of b) (file_blocks n b)
first_resized n b long are = record {
  most = omega (arith, length-blocks_of n b);
  front = λ i early here. get-blocks_of n i b (omega (arith, early)) ∙ sym (get_in b i (omega (arith, early, long)));
  whole = blocks_whole n b long are;
}

pub reel_left : {F : Type 0} {g : Ghosts F} (f : BlockFile F g) → LeavesRead (content_of f) (durability_of f).remnants → ForSome (Seen f) (λ blocks. ReelLeaves f blocks)
reel_left f law blocks at =
    let (b, is, same) = seen_some (file_blocks (len_of f)) (content_of f) blocks at in
    subst (λ (x : List (List ℕ)). ReelLeaves f x) same (cuts_from (len_of f) (durability_of f).remnants (file_blocks (len_of f) b)
    (inr (sectors_of b, law b is, first_resized (len_of f) b (f.long b is) (f.bytes b is))))

pub cuts_fit : (n : ℕ) (ms : List Remnant) → All IsWhole ms → All (λ m. length m.front ≤ m.longest) (with_cuts n ms)
cuts_fit n ms whole =
    All-append (λ (m : Remnant). length m.front ≤ m.longest) ms (map (cut_remnant n) ms) (λ k d h. let is = whole k d h in is.fits)
    (All-map (λ (m : Remnant). length m.front ≤ m.longest) (cut_remnant n) ms (λ k d h. let count = length-take n (get_or ms k d).front in omega (arith, count)))

module _ {A : Type 0} (f : A → Reel) (h : A → Risk) (named : (x : A) → (h x).serial ≡ (f x).serial)
    (each : (x : A) → ForSome (f x).blocks (λ bs. Leaves (Some (h x)) bs bs)) (s : ℕ) where
  pub rack_left : (items : List A) (blocks any : List (List ℕ)) → blocks_in (reel s (map f items)) ≡ Some blocks → Leaves (risk s (map h items)) any blocks
  rack_left [] blocks any at = absurd (none-some blocks at)
  rack_left (x ∷ xs) blocks any at = elim (cases_eq s (f x).serial) [
    | inl same ↦
        let is : (s == (f x).serial) ≡ true = eq-eqb s (f x).serial same in
        let noted : (s == (h x).serial) ≡ true = eq-eqb s (h x).serial (same ∙ sym (named x)) in
        let here : (f x).blocks ≡ Some blocks = sym (ap (λ (b : Bool). blocks_in (if b then Some (f x) else reel s (map f xs))) is) ∙ at in
        subst (λ (b : Bool). Leaves (if b then Some (h x) else risk s (map h xs)) any blocks) (sym noted) (each x blocks here)
    | inr apart ↦
        let is : (s == (f x).serial) ≡ false = ne_eqb s (f x).serial apart in
        let noted : (s == (h x).serial) ≡ false = ne_eqb s (h x).serial (λ same. apart (same ∙ named x)) in
        subst (λ (b : Bool). Leaves (if b then Some (h x) else risk s (map h xs)) any blocks) (sym noted)
        (rack_left xs blocks any (sym (ap (λ (b : Bool). blocks_in (if b then Some (f x) else reel s (map f xs))) is) ∙ at))
  ]

-- A refused write changes nothing.
pub refused_durably : (s k : ℕ) (block : List ℕ) (rack : Rack) (fault : TapeFault) → refuses_write k (reel s rack.reels) ≡ Some fault → WritesDurably s k block rack (Err fault) rack
refused_durably s k block rack fault refused = record {
  others = λ t apart. refl;
  front = λ n few durable. durable;
  syncable = λ is. is;
  fresh = λ free. absurd (none-some fault (sym free ∙ refused));
  short = tt;
  synced = λ needed able. tt;
  failed = λ seen at left there. inl (λ blocks here. subst (λ (x : List (List ℕ)). Leaves (risk s rack.risks) x left) (same_Some seen blocks (sym at ∙ here)) there);
}

-- AN ARMED WRITE writes half of the block, and fails.
half_synced : (k : ℕ) (block : List ℕ) → IsSynced k block → IsSynced k (take 256 block ++ replicate 256 0)
half_synced k block (inl first) = inl first
half_synced k block (inr (rest, inl is)) =
    inr (take 252 rest ++ replicate 256 0, inl (ap (λ (b : List ℕ). take 256 b ++ replicate 256 0) is))
half_synced k block (inr (rest, inr is)) =
    inr (take 252 rest ++ replicate 256 0, inr (ap (λ (b : List ℕ). take 256 b ++ replicate 256 0) is))

ended_front : (k : ℕ) (block : List ℕ) (old new : Option (List (List ℕ))) → new ≡ option_map (λ bs. take k bs ++ block ∷ []) old → ForSome old (λ bs. k ≤ length bs)
    → (seen blocks : List (List ℕ)) → new ≡ Some seen → old ≡ Some blocks → take k seen ≡ take k blocks
ended_front k block old new done long seen blocks at here =
    let is : seen ≡ take k blocks ++ block ∷ [] = same_Some seen (take k blocks ++ block ∷ []) (sym at ∙ done ∙ ap (option_map (λ bs. take k bs ++ block ∷ [])) here) in
    let count : length (take k blocks) ≡ k = length-take-le k blocks (long blocks here) in
    ap (take k) is ∙ take-append-le k (take k blocks) (block ∷ []) (omega (arith, count)) ∙ take-take k k blocks (omega arith)

abbrev pub half_of : List ℕ → List ℕ
half_of block = take 256 block ++ replicate 256 0

module _ {V E : Type 0} (k : ℕ) (block : List ℕ) (old new : Reel) (was is : Risk) where
  half_left : (result : Result V E) → OnOk result (new ≡ ending k (half_of block) old) → ForSome old.blocks (λ bs. k ≤ length bs)
      → WritesReel k (half_of block) old new was is result
      → ForSome new.blocks (λ seen. (left : List (List ℕ)) → Leaves (Some is) seen left
      → ForSome old.blocks (λ blocks. Leaves (Some was) blocks left) ⊎ ReelIsBegun k block old was left)
  half_left (Ok v) done long w = λ seen at left there.
      inr (record {
        short = w.short seen at left there;
        front = λ needed able blocks here.
            ap (take k) (w.synced (half_synced k block needed) able seen at left there)
            ∙ ended_front k (half_of block) old.blocks new.blocks (ap (λ (r : Reel). r.blocks) done) long seen blocks at here;
      })
  half_left (Err e) done long w = λ seen at left there. elim (w.failed seen at left there) [
    | inl same ↦ inl same
    | inr begun ↦ inr (record { short = begun.short; front = λ needed. begun.front (half_synced k block needed) })
  ]

  pub armed_writes : (result : Result V E) (fault : TapeFault) → OnOk result (new ≡ ending k (half_of block) old) → ForSome old.blocks (λ bs. k ≤ length bs)
      → WritesReel k (half_of block) old new was is result → WritesReel {T = Unit {0}} {E = TapeFault} k block old new was is (Err fault)
  armed_writes result fault done long w = record {
    front = w.front;
    syncable = w.syncable;
    fresh = w.fresh;
    short = tt;
    synced = λ needed able. tt;
    failed = half_left result done long w;
  }

-- the same write, with another error
pub writes_as : {E : Type 0} (k : ℕ) (block : List ℕ) (old new : Reel) (was is : Risk) (result : Result (Unit {0}) E) (known : Result (Unit {0}) TapeFault) → is_ok result ≡ is_ok known
    → WritesReel k block old new was is result → WritesReel k block old new was is known
writes_as k block old new was is (Ok u) (Ok v) same w = record { front = w.front; syncable = w.syncable; fresh = w.fresh; short = w.short; synced = w.synced; failed = tt }
writes_as k block old new was is (Err e) (Err f) same w = record { front = w.front; syncable = w.syncable; fresh = w.fresh; short = tt; synced = λ needed able. tt; failed = w.failed }
writes_as k block old new was is (Ok u) (Err f) same w = absurd (let no : true ≡ false = same in cc)
writes_as k block old new was is (Err e) (Ok v) same w = absurd (let no : false ≡ true = same in cc)

pub secures_as : {E : Type 0} (old new : Reel) (was is : Risk) (result : Result (Unit {0}) E) (known : Result (Unit {0}) TapeFault) → is_ok result ≡ is_ok known
    → SecuresReel old new was is result → SecuresReel old new was is known
secures_as old new was is (Ok u) (Ok v) same w = record { no_more = w.no_more; durable = w.durable }
secures_as old new was is (Err e) (Err f) same w = record { no_more = w.no_more; durable = tt }
secures_as old new was is (Ok u) (Err f) same w = absurd (let no : true ≡ false = same in cc)
secures_as old new was is (Err e) (Ok v) same w = absurd (let no : false ≡ true = same in cc)

pub is_done : {T E : Type 0} (r : Result T E) → is_err r ≡ false → is_ok r ≡ true
is_done (Ok x) is = refl
is_done (Err e) is = absurd (cc)

pub is_failed : {T E : Type 0} (r : Result T E) → is_err r ≡ true → is_ok r ≡ false
is_failed (Ok x) is = absurd (cc)
is_failed (Err e) is = refl
