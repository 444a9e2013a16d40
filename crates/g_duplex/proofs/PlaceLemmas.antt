-- Reels and standings by their places, and the list of lost twins.
-- serves: agree, copy_reel, first_difference, lost_among, place_of, read, rebuild_twin, secure, standing, standing_by, standings_by, write, and 6 more
use Rattle.std.proofs.Common.{◌≡◌, ℕ, zero, suc, ◌+◌, ◌<◌, ◌≤◌, List, [], ◌∷◌, ◌++◌, Bool, true, false, ◌==◌, Option, Some, None, if◌then◌else◌, length, map, get_or, take, refl, sym, ap, ◌∙◌, inl, inr, eq-eqb, subst, arith}
use Rattle.std.proofs.Math.ListN.{set}
use Rattle.std.proofs.lemmas.Bool.{cases_eq, ne_eqb}
use Rattle.std.proofs.lemmas.Bool.Decides.{eqb_tells}
use Rattle.std.proofs.lemmas.List.{get_or-map, length-take-le, map_more}
use Rattle.std.proofs.lemmas.Option.{get_or_from_slice_get}
use Rattle.std.specs.Prelude.{find, slice_get}
use Rattle.std.specs.Option.{option_or}
use Rattle.std.proofs.Math.Seq.{take-suc}
use Rattle.std.proofs.lemmas.List.Folds.{find-append}
use Rattle.g_tape.specs.Reel.{Reel}
use Rattle.g_tape.specs.Rack.{reel}
use Rattle.g_duplex.specs.Pair.{ArePaired, lost_of, standing, with_standing}
use Rattle.g_duplex.specs.Places.{IsFirst, lost_one, standing_by, standings_by}
use Rattle.g_duplex.specs.declared.twin.Twin.{Twin}
use Rattle.g_duplex.specs.declared.twin.Standing.{Standing}
use Rattle.g_duplex.specs.declared.twin.Standing.TheVariants.{Level, Apart, Lost}

-- the serial of the reel at a place
pub serial_is : (rs : List Reel) (i n : ℕ) → i < length rs → slice_get (map (λ (r : Reel). r.serial) rs) i ≡ Some n → (d : Reel) → (get_or rs i d).serial ≡ n
serial_is rs i n within is d =
    sym (get_or-map (λ (r : Reel). r.serial) rs i d 0 within) ∙ get_or_from_slice_get (map (λ (r : Reel). r.serial) rs) i n 0 is

-- as many standings as reels, and as many reels in one rack as in the other
pub long_standings : (ts : List Standing) (xs ys : List Reel) → ArePaired ts xs ys → length ts ≡ length xs
long_standings [] [] [] paired = refl
long_standings [] [] (b ∷ ys) paired = absurd paired
long_standings [] (a ∷ xs) ys paired = absurd paired
long_standings (t ∷ ts) [] ys paired = absurd paired
long_standings (t ∷ ts) (a ∷ xs) [] paired = absurd paired
long_standings (t ∷ ts) (a ∷ xs) (b ∷ ys) (twins, rest) = ap suc (long_standings ts xs ys rest)

-- the place of a serial is one of the standings' too
pub first_within : (s : ℕ) (ts : List Standing) (xs ys : List Reel) (i : ℕ) → ArePaired ts xs ys → IsFirst s xs i → i < length ts
first_within s ts xs ys i paired first =
    let within = first.within in
    let long = long_standings ts xs ys paired in
    omega (arith, within, long)

-- A property of racks and standings at the place of a reel: it holds if the reel is the first, and carries over past a reel of another
-- serial.
at_place : (s : ℕ) (P : List Reel → List Standing → ℕ → Type 0)
    → ((r : Reel) (rs : List Reel) (t : Standing) (ts : List Standing) → (s == r.serial) ≡ true → P (r ∷ rs) (t ∷ ts) 0)
    → ((r : Reel) (rs : List Reel) (t : Standing) (ts : List Standing) (i : ℕ) → (s == r.serial) ≡ false → P rs ts i → P (r ∷ rs) (t ∷ ts) (suc i))
    → (xs : List Reel) (ts : List Standing) (i : ℕ) → i < length xs → ((e : Reel) → (get_or xs i e).serial ≡ s)
    → ((k : ℕ) (e : Reel) → k < i → (get_or xs k e).serial ≡ s → ⊥) → length ts ≡ length xs → P xs ts i
at_place s P now later [] ts i within here before long = elim within [ ]
at_place s P now later (r ∷ rs) [] i within here before long = let never : ⊥ = omega (arith, long) in absurd never
at_place s P now later (r ∷ rs) (t ∷ ts) zero within here before long = now r rs t ts (eq-eqb s r.serial (sym (here r)))
at_place s P now later (r ∷ rs) (t ∷ ts) (suc i) within here before long =
    later r rs t ts i (ne_eqb s r.serial (λ e. before 0 r (omega arith) (sym e)))
    (at_place s P now later rs ts i (omega (arith, within)) here (λ k e h. before (suc k) e (omega (arith, h))) (omega (arith, long)))

-- the standing at the place of a reel
standing_now : (s : ℕ) (r : Reel) (rs : List Reel) (t : Standing) (ts : List Standing) → (s == r.serial) ≡ true → standing s (r ∷ rs) (t ∷ ts) ≡ Some t
standing_now s r rs t ts same = rw same refl

standing_later : (s : ℕ) (r : Reel) (rs : List Reel) (t : Standing) (ts : List Standing) (o : Option Standing) → (s == r.serial) ≡ false → standing s rs ts ≡ o → standing s (r ∷ rs) (t ∷ ts) ≡ o
standing_later s r rs t ts o differs is = rw differs is

pub standing-first : (s : ℕ) (xs : List Reel) (ts : List Standing) (i : ℕ) (t : Standing) → IsFirst s xs i → length ts ≡ length xs → slice_get ts i ≡ Some t → standing s xs ts ≡ Some t
standing-first s xs ts i t first long is =
    at_place s (λ (rs : List Reel) (us : List Standing) (k : ℕ). standing s rs us ≡ Some (get_or us k t)) (λ r rs u us same. standing_now s r rs u us same)
    (λ r rs u us k differs rest. standing_later s r rs u us (Some (get_or us k t)) differs rest) xs ts i first.within first.here first.before long
    ∙ ap (λ (u : Standing). Some u) (get_or_from_slice_get ts i t t is)

-- the standing of a reel is changed at its place
changed_now : (s : ℕ) (u : Standing) (r : Reel) (rs : List Reel) (t : Standing) (ts : List Standing) → (s == r.serial) ≡ true → with_standing s (λ (v : Standing). u) (r ∷ rs) (t ∷ ts) ≡ set (t ∷ ts) 0 u
changed_now s u r rs t ts same = rw same refl

changed_later : (s : ℕ) (u : Standing) (r : Reel) (rs : List Reel) (t : Standing) (ts : List Standing) (i : ℕ) → (s == r.serial) ≡ false → with_standing s (λ (v : Standing). u) rs ts ≡ set ts i u
    → with_standing s (λ (v : Standing). u) (r ∷ rs) (t ∷ ts) ≡ set (t ∷ ts) (suc i) u
changed_later s u r rs t ts i differs is = rw differs (ap (λ (us : List Standing). t ∷ us) is)

pub changed-first : (s : ℕ) (xs : List Reel) (ts : List Standing) (i : ℕ) (u : Standing) → IsFirst s xs i → length ts ≡ length xs → with_standing s (λ (t : Standing). u) xs ts ≡ set ts i u
changed-first s xs ts i u first long =
    at_place s (λ (rs : List Reel) (us : List Standing) (k : ℕ). with_standing s (λ (t : Standing). u) rs us ≡ set us k u) (λ r rs t us same. changed_now s u r rs t us same)
    (λ r rs t us k differs rest. changed_later s u r rs t us k differs rest) xs ts i first.within first.here first.before long

-- A serial has no standing if and only if the rack doesn't have it.
pub standing_none : (s : ℕ) (xs : List Reel) (ts : List Standing) → reel s xs ≡ None → standing s xs ts ≡ None
standing_none s [] ts is = refl
standing_none s (r ∷ rs) [] is = refl
standing_none s (r ∷ rs) (t ∷ ts) is =
    elim (eqb_tells s r.serial) [
      | inl here ↦ let never : Some r ≡ None = rw here.0 at is in absurd (cc)
      | inr apart ↦ rw apart.0 (standing_none s rs ts (rw apart.0 at is))
    ]

pub none_standing : (s : ℕ) (xs : List Reel) (ts : List Standing) → length ts ≡ length xs → standing s xs ts ≡ None → reel s xs ≡ None
none_standing s [] ts long is = refl
none_standing s (r ∷ rs) [] long is = let never : ⊥ = omega (arith, long) in absurd never
none_standing s (r ∷ rs) (t ∷ ts) long is =
    elim (eqb_tells s r.serial) [
      | inl here ↦ let never : Some t ≡ None = rw here.0 at is in absurd (cc)
      | inr apart ↦ rw apart.0 (none_standing s rs ts (omega (arith, long)) (rw apart.0 at is))
    ]

-- THE LOST TWINS, one more reel at a time
pub lost_more : (xs : List Reel) (ts : List Standing) (i : ℕ) (d : Reel) (e : Standing) → i < length xs → length ts ≡ length xs
    → lost_of (take (suc i) xs) (take (suc i) ts) ≡ lost_of (take i xs) (take i ts) ++ lost_one (get_or xs i d).serial (get_or ts i e)
lost_more [] ts i d e within long = elim within [ ]
lost_more (x ∷ xs) [] i d e within long = let never : ⊥ = omega (arith, long) in absurd never
lost_more (x ∷ xs) (Level ∷ ts) zero d e within long = refl
lost_more (x ∷ xs) (Apart k ∷ ts) zero d e within long = refl
lost_more (x ∷ xs) (Lost twin ∷ ts) zero d e within long = refl
lost_more (x ∷ xs) (Level ∷ ts) (suc i) d e within long = lost_more xs ts i d e (omega (arith, within)) (omega (arith, long))
lost_more (x ∷ xs) (Apart k ∷ ts) (suc i) d e within long = lost_more xs ts i d e (omega (arith, within)) (omega (arith, long))
lost_more (x ∷ xs) (Lost twin ∷ ts) (suc i) d e within long =
    ap (λ (ls : List (ℕ × Twin)). (x.serial, twin) ∷ ls) (lost_more xs ts i d e (omega (arith, within)) (omega (arith, long)))

-- no more lost twins than reels
pub lost_few : (xs : List Reel) (ts : List Standing) → length (lost_of xs ts) ≤ length xs
lost_few [] ts = omega arith
lost_few (x ∷ xs) [] = omega arith
lost_few (x ∷ xs) (Level ∷ ts) = omega (arith, lost_few xs ts)
lost_few (x ∷ xs) (Apart k ∷ ts) = omega (arith, lost_few xs ts)
lost_few (x ∷ xs) (Lost twin ∷ ts) = omega (arith, lost_few xs ts)

-- The lost twins depend only on the labels.
pub lost_same : (xs ys : List Reel) (ts : List Standing) → map (λ (r : Reel). r.serial) ys ≡ map (λ (r : Reel). r.serial) xs → lost_of ys ts ≡ lost_of xs ts
lost_same [] [] ts same = refl
lost_same [] (y ∷ ys) ts same = let wrong : (y.serial ∷ map (λ (r : Reel). r.serial) ys) ≡ [] = same in absurd (cc)
lost_same (x ∷ xs) [] ts same = let wrong : [] ≡ (x.serial ∷ map (λ (r : Reel). r.serial) xs) = same in absurd (cc)
lost_same (x ∷ xs) (y ∷ ys) [] same = refl
lost_same (x ∷ xs) (y ∷ ys) (Level ∷ ts) same =
    let is : (y.serial ∷ map (λ (r : Reel). r.serial) ys) ≡ (x.serial ∷ map (λ (r : Reel). r.serial) xs) = same in
    lost_same xs ys ts cc
lost_same (x ∷ xs) (y ∷ ys) (Apart k ∷ ts) same =
    let is : (y.serial ∷ map (λ (r : Reel). r.serial) ys) ≡ (x.serial ∷ map (λ (r : Reel). r.serial) xs) = same in
    lost_same xs ys ts cc
lost_same (x ∷ xs) (y ∷ ys) (Lost twin ∷ ts) same =
    let is : (y.serial ∷ map (λ (r : Reel). r.serial) ys) ≡ (x.serial ∷ map (λ (r : Reel). r.serial) xs) = same in
    let one : y.serial ≡ x.serial = cc in
    let rest : map (λ (r : Reel). r.serial) ys ≡ map (λ (r : Reel). r.serial) xs = cc in
    ap (λ (n : ℕ). (n, twin) ∷ lost_of ys ts) one ∙ ap (λ (ls : List (ℕ × Twin)). (x.serial, twin) ∷ ls) (lost_same xs ys ts rest)

-- the reels before the next place are of other serials
pub before_more : (s n i : ℕ) (rs : List Reel) → i < length rs → slice_get (map (λ (r : Reel). r.serial) rs) i ≡ Some n → (n ≡ s → ⊥)
    → ((k : ℕ) (d : Reel) → k < i → (get_or rs k d).serial ≡ s → ⊥) → (k : ℕ) (d : Reel) → k < i + 1 → (get_or rs k d).serial ≡ s → ⊥
before_more s n i rs within is apart before k d less e =
    elim (cases_eq k i) [
      | inl same ↦ apart (sym (serial_is rs i n within is d) ∙ ap (λ (j : ℕ). (get_or rs j d).serial) (sym same) ∙ e)
      | inr other ↦ before k d (omega (arith, less, other)) e
    ]

-- one more of the lost ones, as the loop has it
pub lost_next : (xs : List Reel) (ts : List Standing) (i n : ℕ) (t : Standing) → i < length xs → length ts ≡ length xs → slice_get (map (λ (r : Reel). r.serial) xs) i ≡ Some n → slice_get ts i ≡ Some t
    → lost_of (take (i + 1) xs) (take (i + 1) ts) ≡ lost_of (take i xs) (take i ts) ++ lost_one n t
lost_next xs ts i n t within long is stands = by xs within long is
  where
    by : (rs : List Reel) → i < length rs → length ts ≡ length rs → slice_get (map (λ (r : Reel). r.serial) rs) i ≡ Some n → lost_of (take (i + 1) rs) (take (i + 1) ts) ≡ lost_of (take i rs) (take i ts) ++ lost_one n t
    by [] inside many here = elim inside [ ]
    by (r ∷ rs) inside many here =
        subst (λ (j : ℕ). lost_of (take j (r ∷ rs)) (take j ts) ≡ lost_of (take i (r ∷ rs)) (take i ts) ++ lost_one n t) (let e : suc i ≡ i + 1 = omega arith in e)
        (lost_more (r ∷ rs) ts i r t inside many
        ∙ ap (λ (m : ℕ). lost_of (take i (r ∷ rs)) (take i ts) ++ lost_one m (get_or ts i t)) (serial_is (r ∷ rs) i n inside here r)
        ∙ ap (λ (u : Standing). lost_of (take i (r ∷ rs)) (take i ts) ++ lost_one n u) (get_or_from_slice_get ts i t t stands))

pub lost_within : (xs : List Reel) (ts : List Standing) (i : ℕ) → i ≤ length xs → length (lost_of (take i xs) (take i ts)) ≤ i
lost_within xs ts i far = omega (arith, lost_few (take i xs) (take i ts), length-take-le i xs far)

-- one more standing, as the loop has it
pub standings_next : (lost : List (ℕ × Twin)) (xs : List Reel) (i n : ℕ) → i < length xs → slice_get (map (λ (r : Reel). r.serial) xs) i ≡ Some n
    → standings_by lost (take (i + 1) xs) ≡ standings_by lost (take i xs) ++ standing_by n lost ∷ []
standings_next lost [] i n within is = elim within [ ]
standings_next lost (r ∷ rs) i n within is =
    map_more (λ (x : Reel). standing_by x.serial lost) (r ∷ rs) i r within
    ∙ ap (λ (m : ℕ). standings_by lost (take i (r ∷ rs)) ++ standing_by m lost ∷ []) (serial_is (r ∷ rs) i n within is r)

pub eq_from : (a b : ℕ) → (a == b) ≡ true → a ≡ b
eq_from a b is =
    elim (eqb_tells a b) [
      | inl h ↦ h.1
      | inr h ↦ let never : true ≡ false = sym is ∙ h.0 in absurd (cc)
    ]

pub suc_plus : (k : ℕ) → suc k ≡ k + 1
suc_plus k = omega arith

-- looking for a serial among the lost ones, one more at a time
pub not_found_more : (s : ℕ) (lost : List (ℕ × Twin)) (i : ℕ) (d : ℕ × Twin) → i < length lost → find (λ (entry : ℕ × Twin). entry.0 == s) (take i lost) ≡ None → ((get_or lost i d).0 ≡ s → ⊥)
    → find (λ (entry : ℕ × Twin). entry.0 == s) (take (i + 1) lost) ≡ None
not_found_more s lost i d within before apart =
    subst (λ (j : ℕ). find (λ (entry : ℕ × Twin). entry.0 == s) (take j lost) ≡ None) (suc_plus i)
    (ap (find (λ (entry : ℕ × Twin). entry.0 == s)) (take-suc lost i d within)
    ∙ find-append (λ (entry : ℕ × Twin). entry.0 == s) (take i lost) (get_or lost i d ∷ [])
    ∙ ap (λ (o : Option (ℕ × Twin)). option_or o (find (λ (entry : ℕ × Twin). entry.0 == s) (get_or lost i d ∷ []))) before
    ∙ ap (λ (b : Bool). option_or None (if b then Some (get_or lost i d) else None)) (ne_eqb (get_or lost i d).0 s apart))

pub found_there : (s : ℕ) (lost : List (ℕ × Twin)) (i : ℕ) (d : ℕ × Twin) → i < length lost → find (λ (entry : ℕ × Twin). entry.0 == s) (take i lost) ≡ None → (get_or lost i d).0 ≡ s
    → find (λ (entry : ℕ × Twin). entry.0 == s) lost ≡ Some (get_or lost i d)
found_there s [] i d within before is = elim within [ ]
found_there s (x ∷ xs) zero d within before is = let same : (x.0 == s) ≡ true = eq-eqb x.0 s is in rw same refl
found_there s (x ∷ xs) (suc i) d within before is =
    elim (eqb_tells x.0 s) [
      | inl here ↦ let never : Some x ≡ None = rw here.0 at before in absurd (cc)
      | inr apart ↦ rw apart.0 (found_there s xs i d (omega (arith, within)) (rw apart.0 at before) is)
    ]
