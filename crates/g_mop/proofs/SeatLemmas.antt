-- Seats at the terminals 1 to 8, each at a different one: at most seven are taken if one terminal is free.
-- serves: ended, login, logout (left), place_of
use Rattle.std.proofs.Common.{◌≡◌, ◌∙◌, ℕ, zero, suc, ◌+◌, ◌<◌, ◌≤◌, ◌==◌, Bool, true, false, append-nil, cond, drop, drop_of_length-le, eqb-true, get_or, if◌then◌else◌, is_some, length-set, not, List, [], ◌∷◌, ◌++◌, length, set, map, filter, slice_get, slice_index_or, slice_set, Option, Some, None, refl, sym, ap, subst, take, take_all, arith, inl, inr}
use Rattle.std.specs.List.{refill}
use Rattle.std.proofs.lemmas.Bool.{cases_lt, false≢true, eq-eqb, ne_eqb}
use Rattle.std.proofs.lemmas.Option.{get_or_from_slice_get, slice_get-get_or}
use Rattle.g_mop.specs.Seats.{AreSeats, IsPlaceOf, job_in_seat, left_at, seat_at, seat_taken, without_seat}
use Rattle.g_mop.specs.declared.seat.Seat.{Seat}

abbrev nobody : Option Seat
nobody = None

-- 1 if there is a seat, otherwise 0
abbrev count_of : Option Seat → ℕ
count_of None = 0
count_of (Some s) = 1

count_one : (o : Option Seat) → count_of o ≤ 1
count_one None = omega arith
count_one (Some s) = omega arith

-- the number of seats at the terminals up to this one
abbrev held_to : ℕ → List Seat → ℕ
held_to zero seats = 0
held_to (suc n) seats = count_of (seat_at (suc n) seats) + held_to n seats

held_most : (n : ℕ) (seats : List Seat) → held_to n seats ≤ n
held_most zero seats = omega arith
held_most (suc n) seats = let one = count_one (seat_at (suc n) seats) in let more = held_most n seats in omega (arith, one, more)

held_free : (n t : ℕ) (seats : List Seat) → 1 ≤ t → t ≤ n → seat_at t seats ≡ None → held_to n seats < n
held_free zero t seats least most free = absurd (omega (arith, least, most))
held_free (suc n) t seats least most free =
    elim (cases_lt n t) as (λ _. held_to (suc n) seats < suc n) [
      | inl above ↦
          let here : t ≡ suc n = omega (arith, above, most) in
          let none : count_of (seat_at (suc n) seats) ≡ 0 = ap count_of (subst (λ (k : ℕ). seat_at k seats ≡ None) here free) in
          let rest = held_most n seats in
          omega (arith, none, rest)
      | inr within ↦
          let one = count_one (seat_at (suc n) seats) in
          let rest = held_free n t seats least within free in
          omega (arith, one, rest)
    ]

-- another seat at the front
seat_other : (k : ℕ) (s : Seat) (seats : List Seat) → (s.terminal ≡ k → ⊥) → seat_at k (s ∷ seats) ≡ seat_at k seats
seat_other k s seats differs = ap (λ (b : Bool). cond b (Some s) (seat_at k seats)) (ne_eqb s.terminal k differs)

seat_here : (k : ℕ) (s : Seat) (seats : List Seat) → s.terminal ≡ k → seat_at k (s ∷ seats) ≡ Some s
seat_here k s seats same = ap (λ (b : Bool). cond b (Some s) (seat_at k seats)) (eq-eqb s.terminal k same)

held_above : (n : ℕ) (s : Seat) (seats : List Seat) → n < s.terminal → held_to n (s ∷ seats) ≡ held_to n seats
held_above zero s seats above = refl
held_above (suc n) s seats above =
    let same : count_of (seat_at (suc n) (s ∷ seats)) ≡ count_of (seat_at (suc n) seats) = ap count_of (seat_other (suc n) s seats (λ e. omega (arith, above, e))) in
    let rest = held_above n s seats (omega (arith, above)) in
    omega (arith, same, rest)

held_more : (n : ℕ) (s : Seat) (seats : List Seat) → 1 ≤ s.terminal → s.terminal ≤ n → seat_at s.terminal seats ≡ None → held_to n (s ∷ seats) ≡ suc (held_to n seats)
held_more zero s seats least most free = absurd (omega (arith, least, most))
held_more (suc n) s seats least most free =
    elim (cases_lt n s.terminal) as (λ _. held_to (suc n) (s ∷ seats) ≡ suc (held_to (suc n) seats)) [
      | inl above ↦
          let here : s.terminal ≡ suc n = omega (arith, above, most) in
          let one : count_of (seat_at (suc n) (s ∷ seats)) ≡ 1 = ap count_of (seat_here (suc n) s seats here) in
          let none : count_of (seat_at (suc n) seats) ≡ 0 = ap count_of (subst (λ (k : ℕ). seat_at k seats ≡ None) here free) in
          let rest = held_above n s seats above in
          omega (arith, one, none, rest)
      | inr within ↦
          let same : count_of (seat_at (suc n) (s ∷ seats)) ≡ count_of (seat_at (suc n) seats) = ap count_of (seat_other (suc n) s seats (λ e. omega (arith, within, e))) in
          let rest = held_more n s seats least within free in
          omega (arith, same, rest)
    ]

held_none : (n : ℕ) → held_to n [] ≡ 0
held_none zero = refl
held_none (suc n) = let rest = held_none n in omega (arith, rest)

all_held : (seats : List Seat) → AreSeats seats → length seats ≡ held_to 8 seats
all_held [] are = sym (held_none 8)
all_held (s ∷ seats) (least, most, free, are) =
    let rest = all_held seats are in
    let more = held_more 8 s seats least most free in
    omega (arith, rest, more)

-- THERE IS ROOM for a terminal that is free
pub has_room : (seats : List Seat) (t : ℕ) → AreSeats seats → 1 ≤ t → t ≤ 8 → seat_at t seats ≡ None → length seats < 8
has_room seats t are least most free =
    let held = all_held seats are in
    let few = held_free 8 t seats least most free in
    omega (arith, held, few)

-- a terminal that is free in a list is free in its parts
none_parts : (b : Bool) (s : Seat) (o : Option Seat) → cond b (Some s) o ≡ None → (b ≡ false) × (o ≡ None)
none_parts true s o is = absurd (let one : Option Seat = Some s in let same : one ≡ None = is in let no : ⊥ = cc in no)
none_parts false s o is = (refl, is)

none_cond : (b : Bool) (s : Seat) (o : Option Seat) → b ≡ false → o ≡ None → cond b (Some s) o ≡ None
none_cond b s o fails none = ap (λ (c : Bool). cond c (Some s) o) fails ∙ none

none_behind : (k t job : ℕ) (seats : List Seat) → seat_at k seats ≡ None → (t == k) ≡ false → seat_at k (seats ++ seat_taken t job ∷ []) ≡ None
none_behind k t job [] free differs = none_cond (t == k) (seat_taken t job) None differs refl
none_behind k t job (s ∷ seats) free differs =
    let parts = none_parts (s.terminal == k) s (seat_at k seats) free in
    none_cond (s.terminal == k) s (seat_at k (seats ++ seat_taken t job ∷ [])) parts.0 (none_behind k t job seats parts.1 differs)

turned : (a b : ℕ) → (a == b) ≡ false → (b == a) ≡ false
turned a b fails = ne_eqb b a (λ e. false≢true (sym fails ∙ eq-eqb a b (sym e)))

-- with one more seat
pub seats_push : (t job : ℕ) (seats : List Seat) → AreSeats seats → 1 ≤ t → t ≤ 8 → seat_at t seats ≡ None → AreSeats (seats ++ seat_taken t job ∷ [])
seats_push t job [] are least most free = (least, most, refl, tt)
seats_push t job (s ∷ seats) (low, high, alone, are) least most free =
    let parts = none_parts (s.terminal == t) s (seat_at t seats) free in
    (low, high, none_behind s.terminal t job seats alone (turned s.terminal t parts.0), seats_push t job seats are least most parts.1)

-- without the seat of a job
none_kept : (k : ℕ) (p : Seat → Bool) (seats : List Seat) → seat_at k seats ≡ None → seat_at k (filter p seats) ≡ None
none_kept k p [] free = refl
none_kept k p (s ∷ seats) free =
    let parts = none_parts (s.terminal == k) s (seat_at k seats) free in by (p s) parts.0 (none_kept k p seats parts.1)
  where
    by : (b : Bool) → (s.terminal == k) ≡ false → seat_at k (filter p seats) ≡ None → seat_at k (cond b (s ∷ filter p seats) (filter p seats)) ≡ None
    by true fails rest = none_cond (s.terminal == k) s (seat_at k (filter p seats)) fails rest
    by false fails rest = rest

kept_seats : (p : Seat → Bool) (seats : List Seat) → AreSeats seats → AreSeats (filter p seats)
kept_seats p [] are = tt
kept_seats p (s ∷ seats) (low, high, alone, are) = by (p s) (kept_seats p seats are)
  where
    by : (b : Bool) → AreSeats (filter p seats) → AreSeats (cond b (s ∷ filter p seats) (filter p seats))
    by true rest = (low, high, none_kept s.terminal p seats alone, rest)
    by false rest = rest

pub seats_without : (job : ℕ) (seats : List Seat) → AreSeats seats → AreSeats (without_seat job seats)
seats_without job seats are = kept_seats (λ s. not (s.job == job)) seats are

-- a seat that was logged out
left_same : (t : ℕ) (s : Seat) → (left_at t s).terminal ≡ s.terminal
left_same t s = by (s.terminal == t)
  where
    by : (b : Bool) → (cond b (record s { out = true }) s).terminal ≡ s.terminal
    by true = refl
    by false = refl

left_other : (t : ℕ) (s : Seat) → (s.terminal == t) ≡ false → left_at t s ≡ s
left_other t s fails = ap (λ (b : Bool). cond b (record s { out = true }) s) fails

left_here : (t : ℕ) (s : Seat) → (s.terminal == t) ≡ true → left_at t s ≡ record s { out = true }
left_here t s is = ap (λ (b : Bool). cond b (record s { out = true }) s) is

left_none : (t : ℕ) (seats : List Seat) → seat_at t seats ≡ None → map (left_at t) seats ≡ seats
left_none t [] free = refl
left_none t (s ∷ seats) free =
    let parts = none_parts (s.terminal == t) s (seat_at t seats) free in
    ap (λ (x : Seat). x ∷ map (left_at t) seats) (left_other t s parts.0) ∙ ap (λ (xs : List Seat). s ∷ xs) (left_none t seats parts.1)

none_left : (k t : ℕ) (seats : List Seat) → seat_at k seats ≡ None → seat_at k (map (left_at t) seats) ≡ None
none_left k t [] free = refl
none_left k t (s ∷ seats) free =
    let parts = none_parts (s.terminal == k) s (seat_at k seats) free in
    none_cond ((left_at t s).terminal == k) (left_at t s) (seat_at k (map (left_at t) seats)) (ap (λ (n : ℕ). n == k) (left_same t s) ∙ parts.0) (none_left k t seats parts.1)

pub seats_left : (t : ℕ) (seats : List Seat) → AreSeats seats → AreSeats (map (left_at t) seats)
seats_left t [] are = tt
seats_left t (s ∷ seats) (low, high, alone, are) =
    let same = left_same t s in (
      subst (λ (n : ℕ). 1 ≤ n) (sym same) low,
      subst (λ (n : ℕ). n ≤ 8) (sym same) high,
      ap (λ (n : ℕ). seat_at n (map (left_at t) seats)) same ∙ none_left s.terminal t seats alone,
      seats_left t seats are,
    )

-- the seat at a place is found by its terminal
not_none : (place t : ℕ) (s : Seat) (seats : List Seat) → slice_get seats place ≡ Some s → s.terminal ≡ t → seat_at t seats ≡ None → ⊥
not_none place t s [] there same free = let one : Option Seat = Some s in let no : nobody ≡ one = there in let no : ⊥ = cc in no
not_none zero t s (x ∷ seats) there same free =
    let parts = none_parts (x.terminal == t) x (seat_at t seats) free in
    let is : x ≡ s = (let one : Option Seat = Some x in let other : Option Seat = Some s in let e : one ≡ other = there in let same : x ≡ s = cc in same) in
    false≢true (sym parts.0 ∙ eq-eqb x.terminal t (ap (λ (y : Seat). y.terminal) is ∙ same))
not_none (suc place) t s (x ∷ seats) there same free =
    not_none place t s seats there same (none_parts (x.terminal == t) x (seat_at t seats) free).1

-- the SEAT AT THE PLACE is the one that is logged out
pub left_set : (place t : ℕ) (s : Seat) (seats : List Seat) → AreSeats seats → slice_get seats place ≡ Some s → s.terminal ≡ t
    → set seats place (record s { out = true }) ≡ map (left_at t) seats
left_set place t s [] are there same = refl
left_set zero t s (x ∷ seats) (low, high, alone, are) there same =
    let is : x ≡ s = (let one : Option Seat = Some x in let other : Option Seat = Some s in let e : one ≡ other = there in let same : x ≡ s = cc in same) in
    let at : x.terminal ≡ t = ap (λ (y : Seat). y.terminal) is ∙ same in
    ap (λ (y : Seat). record y { out = true } ∷ seats) (sym is) ∙ ap (λ (y : Seat). y ∷ seats) (sym (left_here t x (eq-eqb x.terminal t at)))
    ∙ ap (λ (ys : List Seat). left_at t x ∷ ys) (sym (left_none t seats (subst (λ (k : ℕ). seat_at k seats ≡ None) at alone)))
left_set (suc place) t s (x ∷ seats) (low, high, alone, are) there same =
    let other : (x.terminal == t) ≡ false = ne_eqb x.terminal t (λ e. not_none place t s seats there same (subst (λ (k : ℕ). seat_at k seats ≡ None) e alone)) in
    ap (λ (ys : List Seat). x ∷ ys) (left_set place t s seats are there same) ∙ ap (λ (y : Seat). y ∷ map (left_at t) seats) (sym (left_other t x other))

-- a seat that is found is the terminal's
pub found_at : (t : ℕ) (s : Seat) (seats : List Seat) → seat_at t seats ≡ Some s → (s.terminal == t) ≡ true
found_at t s [] is = absurd (let one : Option Seat = Some s in let same : nobody ≡ one = is in let no : ⊥ = cc in no)
found_at t s (x ∷ seats) is = by (x.terminal == t) refl is (found_at t s seats)
  where
    by : (b : Bool) → (x.terminal == t) ≡ b → cond b (Some x) (seat_at t seats) ≡ Some s → (seat_at t seats ≡ Some s → (s.terminal == t) ≡ true) → (s.terminal == t) ≡ true
    by true here same rest =
        let is : x ≡ s = (let one : Option Seat = Some x in let other : Option Seat = Some s in let e : one ≡ other = same in let same' : x ≡ s = cc in same') in
        ap (λ (y : Seat). y.terminal == t) (sym is) ∙ here
    by false here same rest = rest same

-- the seat at the place that a search finds
drop_found : (place t : ℕ) (seats : List Seat) (d : Seat) → place < length seats → (get_or seats place d).terminal ≡ t → seat_at t (drop place seats) ≡ Some (get_or seats place d)
drop_found place t [] d less is = absurd (omega (arith, less))
drop_found zero t (s ∷ seats) d less is = seat_here t s seats is
drop_found (suc place) t (s ∷ seats) d less is = drop_found place t seats d (omega (arith, less)) is

pub place_found : (place t : ℕ) (seats : List Seat) (d : Seat) → place < length seats → seat_at t (drop place seats) ≡ seat_at t seats → (get_or seats place d).terminal ≡ t
    → IsPlaceOf t seats place
place_found place t seats d less before is = (get_or seats place d, slice_get-get_or seats place d less, sym before ∙ drop_found place t seats d less is)

pub nobody_at : (o : Option Seat) (b : Bool) → b ≡ is_some o → b ≡ false → o ≡ None
nobody_at None b is fails = refl
nobody_at (Some s) b is fails = absurd (false≢true (sym fails ∙ is))

-- the write of the seat that is logged out
refilled : (xs ws : List Seat) → length ws ≡ length xs → refill (length xs) xs ws ≡ ws
refilled xs ws same =
    ap (λ (rest : List Seat). take (length xs) (ws ++ rest)) (drop_of_length-le xs (omega (arith, same))) ∙ ap (take (length xs)) (append-nil ws) ∙ take_all (length xs) ws (omega (arith, same))

pub left_written : (seats now : List Seat) (place t : ℕ) (s d : Seat) → now ≡ seats → AreSeats seats → slice_get seats place ≡ Some s → seat_at t seats ≡ Some s
    → refill (length seats) seats (slice_set now place (record (slice_index_or now place d) { out = true })) ≡ map (left_at t) seats
left_written seats now place t s d is are there at =
    let old : get_or now place d ≡ s = ap (λ (xs : List Seat). get_or xs place d) is ∙ get_or_from_slice_get seats place s d there in
    let new : set now place (record (get_or now place d) { out = true }) ≡ set seats place (record s { out = true }) =
    ap (λ (xs : List Seat). set xs place (record (get_or now place d) { out = true })) is ∙ ap (λ (x : Seat). set seats place (record x { out = true })) old in
    ap (λ (xs : List Seat). refill (length seats) seats xs) new ∙ refilled seats (set seats place (record s { out = true })) (length-set seats place (record s { out = true }))
    ∙ left_set place t s seats are there (eqb-true s.terminal t (found_at t s seats at))

pub job_there : (seats now : List Seat) (place : ℕ) (s d : Seat) → now ≡ seats → slice_get seats place ≡ Some s → s.job ≡ (slice_index_or now place d).job
job_there seats now place s d is there =
    ap (λ (x : Seat). x.job) (sym (ap (λ (xs : List Seat). get_or xs place d) is ∙ get_or_from_slice_get seats place s d there))

pub job_at : (s : Seat) → s.out ≡ false → job_in_seat (Some s) ≡ Some s.job
job_at s stays = ap (λ (out : Bool). let o : Option ℕ = if out then None else Some s.job in o) stays
