-- The first candidates in order of stamp are a plan of unjamming.
-- serves: plan_by_age (none, order, plan, room), take_first
use Rattle.std.proofs.Common.{◌≡◌, ◌≢◌, ℕ, zero, suc, ◌+◌, ◌<◌, ◌≤◌, ◌==◌, Bool, true, false, ◌&&◌, ◌||◌, List, [], ◌∷◌, ◌*◌, length, get_or, map, filter, take, sum_by, Option, Some, None, refl, sym, ◌∙◌, ap, subst, arith, inl, inr, if◌then◌else◌}
use Rattle.std.specs.Prelude.{◌⊎◌, All, AllPairs, Contains, is_some, nat_lt}
use Rattle.std.specs.List.Sorted.{IsNonDecreasingBy, IsPermutation}
use Rattle.std.proofs.lemmas.Bool.{and_from, and_parts, cases_Bool, cases_lt, cases_order, cond-false, cond-true, eq-eqb, eqb-true, lt-ltb, ltb-true}
use Rattle.std.proofs.lemmas.List.{get_or-map, get_or-take, get_or_default, length-map, length-take-le, take-map}
use Rattle.std.proofs.lemmas.List.Elements.{All-head, All-map, All-tail, Contains-get_or}
use Rattle.std.proofs.lemmas.List.Folds.{list_any_at}
use Rattle.std.proofs.lemmas.List.Kept.{AllPairs-filter}
use Rattle.std.proofs.lemmas.List.Sorted.{Contains-permutation, IsPermutation-map, IsPermutation-sym, sum_by-IsPermutation}
use Rattle.std.proofs.lemmas.List.Sums.{sum_by-cons}
use Rattle.g_base.specs.Block.{blocks_for}
use Rattle.g_entry.specs.declared.file_rec.FileRec.{FileRec}
use Rattle.g_tree.specs.Records.{IsRecords}
use Rattle.g_tree.proofs.ListLemmas.{contains_cases, contains_first, contains_more}
use Rattle.g_disc_contents.specs.Contents.{File, has, offline_in, recs_in, taken_off}
use Rattle.g_disc_contents.specs.Facts.{OnlineFacts, Pin, is_current, online_blocks, pinned_blocks, room_of}
use Rattle.g_online.proofs.UseLemmas.{same_apart}
use Rattle.g_migrate.specs.declared.candidates.Candidate.{Candidate}
use Rattle.g_migrate.specs.Candidates.{TakesFirst, blocks_in, candidate_of, candidates_in}
use Rattle.g_laws_store.specs.UnjamPlan.{IsUnjamPlan, is_candidate, is_taken, room_until}
use Rattle.g_online.specs.Room.{FitsDisc}
use Rattle.g_migrate.specs.UnjamPlan.{IsOlder, IsRoomWithout}
use Rattle.g_migrate.proofs.FrontLemmas.{AreRising, IsFront, below, fewer_below, until_front, until_of}

-- WHAT IS LEFT AND BUILT of a list
pub made_there : {A B : Type 0} (p : A → Bool) (f : A → B) (xs : List A) (x : A) → Contains xs x → p x ≡ true → Contains (map f (filter p xs)) (f x)
made_there p f [] x (i, inside, is) pass = let no : ⊥ = omega (arith, inside) in absurd no
made_there {A} {B} p f (y ∷ ys) x there pass = by_case (made_there p f ys x) (contains_cases y x ys there) (cases_Bool (p y))
  where
    by_case : (Contains ys x → p x ≡ true → Contains (map f (filter p ys)) (f x)) → (y ≡ x) ⊎ Contains ys x → (p y ≡ true) ⊎ (p y ≡ false) → Contains (map f (filter p (y ∷ ys))) (f x)
    by_case later (inl same) (inl is) =
        subst (λ (l : List A). Contains (map f l) (f x)) (sym (cond-true (p y) (y ∷ filter p ys) (filter p ys) is))
        (subst (λ (z : A). Contains (f y ∷ map f (filter p ys)) (f z)) same (contains_first (f y) (map f (filter p ys))))
    by_case later (inl same) (inr isnt) = let no : true ≡ false = sym pass ∙ sym (ap p same) ∙ isnt in (let wrong : ⊥ = cc in absurd wrong)
    by_case later (inr behind) (inl is) =
        subst (λ (l : List A). Contains (map f l) (f x)) (sym (cond-true (p y) (y ∷ filter p ys) (filter p ys) is))
        (contains_more (f y) (f x) (map f (filter p ys)) (later behind pass))
    by_case later (inr behind) (inr isnt) =
        subst (λ (l : List A). Contains (map f l) (f x)) (sym (cond-false (p y) (y ∷ filter p ys) (filter p ys) isnt)) (later behind pass)

pub record IsMadeOf {A B : Type 0} (p : A → Bool) (f : A → B) (xs : List A) (y : B) : Type 0 where
  pub source : A
  pub there : Contains xs source
  pub passes : p source ≡ true
  pub made : f source ≡ y

made_behind : {A B : Type 0} (p : A → Bool) (f : A → B) (x : A) (xs : List A) (y : B) → IsMadeOf p f xs y → IsMadeOf p f (x ∷ xs) y
made_behind p f x xs y is = record { source = is.source; there = contains_more x is.source xs is.there; passes = is.passes; made = is.made }

pub made_of : {A B : Type 0} (p : A → Bool) (f : A → B) (xs : List A) (y : B) → Contains (map f (filter p xs)) y → IsMadeOf p f xs y
made_of p f [] y (i, inside, is) = let no : ⊥ = omega (arith, inside) in absurd no
made_of {A} {B} p f (x ∷ xs) y there = by_case (made_of p f xs y) (cases_Bool (p x))
  where
    first : (Contains (map f (filter p xs)) y → IsMadeOf p f xs y) → (f x ≡ y) ⊎ Contains (map f (filter p xs)) y → p x ≡ true → IsMadeOf p f (x ∷ xs) y
    first later (inl same) is = record { source = x; there = contains_first x xs; passes = is; made = same }
    first later (inr behind) is = made_behind p f x xs y (later behind)

    by_case : (Contains (map f (filter p xs)) y → IsMadeOf p f xs y) → (p x ≡ true) ⊎ (p x ≡ false) → IsMadeOf p f (x ∷ xs) y
    by_case later (inl is) = first later (contains_cases (f x) y (map f (filter p xs)) (subst (λ (l : List A). Contains (map f l) y) (cond-true (p x) (x ∷ filter p xs) (filter p xs) is) there)) is
    by_case later (inr isnt) = made_behind p f x xs y (later (subst (λ (l : List A). Contains (map f l) y) (cond-false (p x) (x ∷ filter p xs) (filter p xs) isnt) there))

sum_made : {A B : Type 0} (p : A → Bool) (f : A → B) (h : B → ℕ) (xs : List A) → sum_by h (map f (filter p xs)) ≡ sum_by (λ x. if p x then h (f x) else 0) xs
sum_made p f h [] = refl
sum_made {A} p f h (x ∷ xs) =
    let rest = sum_made p f h xs in
    let g : A → ℕ = λ y. if p y then h (f y) else 0 in
    elim (cases_Bool (p x)) as (λ _. sum_by h (map f (filter p (x ∷ xs))) ≡ sum_by g (x ∷ xs)) [
      | inl is ↦
          ap (λ (l : List A). sum_by h (map f l)) (cond-true (p x) (x ∷ filter p xs) (filter p xs) is)
          ∙ sum_by-cons h (f x) (map f (filter p xs)) ∙ ap (λ (n : ℕ). h (f x) + n) rest
          ∙ ap (λ (n : ℕ). n + sum_by g xs) (sym (cond-true (p x) (h (f x)) 0 is)) ∙ sym (sum_by-cons g x xs)
      | inr isnt ↦
          let none : g x ≡ 0 = cond-false (p x) (h (f x)) 0 isnt in
          let last : sum_by g xs ≡ sum_by g (x ∷ xs) = (let both = sum_by-cons g x xs in omega (arith, both, none)) in
          ap (λ (l : List A). sum_by h (map f l)) (cond-false (p x) (x ∷ filter p xs) (filter p xs) isnt) ∙ rest ∙ last
    ]

-- pairs of a list that is made of another
pub pairs_made : {A B : Type 0} (R : B → B → Type 0) (f : A → B) (xs : List A) → AllPairs (λ x y. R (f x) (f y)) xs → AllPairs R (map f xs)
pairs_made R f [] all i j d before inside = let no : ⊥ = omega (arith, inside) in absurd no
pairs_made {A} {B} R f (x ∷ xs) all i j d before inside =
    let long = length-map (x ∷ xs) f in
    let at : j < length (x ∷ xs) = omega (arith, inside, long) in
    let one = get_or-map f (x ∷ xs) i x d (omega (arith, before, at)) in
    let two = get_or-map f (x ∷ xs) j x d at in
    subst (λ (b : B). R b (get_or (map f (x ∷ xs)) j d)) (sym one) (subst (R (f (get_or (x ∷ xs) i x))) (sym two) (all i j x before at))

pub pairs_of : {A B : Type 0} (R : B → B → Type 0) (f : A → B) (xs : List A) → AllPairs R (map f xs) → AllPairs (λ x y. R (f x) (f y)) xs
pairs_of {A} {B} R f xs all i j d before inside =
    let long = length-map xs f in
    let one = get_or-map f xs i d (f d) (omega (arith, before, inside)) in
    let two = get_or-map f xs j d (f d) inside in
    subst (λ (b : B). R b (f (get_or xs j d))) one (subst (R (get_or (map f xs) i (f d))) two (all i j (f d) before (omega (arith, inside, long))))

pub pairs_front : {A : Type 0} (R : A → A → Type 0) (n : ℕ) (xs : List A) → n ≤ length xs → AllPairs R xs → AllPairs R (take n xs)
pairs_front {A} R n xs within all i j d before inside =
    let long = length-take-le n xs within in
    let at : j < n = omega (arith, inside, long) in
    subst (λ (x : A). R x (get_or (take n xs) j d)) (sym (get_or-take n xs i d (omega (arith, before, at))))
    (subst (R (get_or xs i d)) (sym (get_or-take n xs j d at)) (all i j d before (omega (arith, at, within))))

-- THE CANDIDATES IN ORDER
files_apart : (files : List File) → AllPairs (λ (r s : FileRec). r.stamp ≢ s.stamp) (map (λ (f : File). f.rec) files) → AllPairs (λ (f g : File). f.rec.stamp ≢ g.rec.stamp) files
files_apart files all = pairs_of (λ (r s : FileRec). r.stamp ≢ s.stamp) (λ (f : File). f.rec) files all

numbers_apart : (files : List File) → AllPairs (λ (r s : FileRec). r.number < s.number) (map (λ (f : File). f.rec) files) → AllPairs (λ (f g : File). f.rec.number ≢ g.rec.number) files
numbers_apart files all = λ i j d before inside same.
    let less = pairs_of (λ (r s : FileRec). r.number < s.number) (λ (f : File). f.rec) files all i j d before inside in
    (let no : ⊥ = omega (arith, less, same) in no)

-- what no two files share, no two candidates share, in any order
sorted_apart : (key : Candidate → ℕ) (files : List File) (sorted : List Candidate) → AllPairs (λ (f g : File). key (candidate_of f) ≢ key (candidate_of g)) files
    → IsPermutation (candidates_in files) sorted → AllPairs (λ (m n : ℕ). m ≢ n) (map key sorted)
sorted_apart key files sorted apart moved =
    let made = pairs_made (λ (c e : Candidate). key c ≢ key e) candidate_of (filter is_candidate files)
    (AllPairs-filter (λ (f g : File). key (candidate_of f) ≢ key (candidate_of g)) is_candidate files apart) in
    same_apart (map key (candidates_in files)) (map key sorted)
    (λ f. sym (sum_by-IsPermutation f (map key (candidates_in files)) (map key sorted) (IsPermutation-map key (candidates_in files) sorted moved)))
    (pairs_made (λ (m n : ℕ). m ≢ n) key (candidates_in files) made)

rising : (sorted : List Candidate) → IsNonDecreasingBy (λ (c : Candidate). c.stamp) sorted → AllPairs (λ (m n : ℕ). m ≢ n) (map (λ (c : Candidate). c.stamp) sorted) → AreRising sorted
rising sorted order apart = record {
  each = λ i j d before inside.
      let le = order i j d (omega (arith, before)) inside in
      let ne = pairs_of (λ (m n : ℕ). m ≢ n) (λ (c : Candidate). c.stamp) sorted apart i j d before inside in
      by_case (get_or sorted i d).stamp (get_or sorted j d).stamp le ne (cases_lt (get_or sorted i d).stamp (get_or sorted j d).stamp);
}
  where
    by_case : (m n : ℕ) → m ≤ n → m ≢ n → (m < n) ⊎ (n ≤ m) → m < n
    by_case m n le ne (inl less) = less
    by_case m n le ne (inr more) = absurd (ne (omega (arith, le, more)))

-- a number is one file's
pub one_file : (files : List File) (f g : File) → AllPairs (λ (x y : File). x.rec.number ≢ y.rec.number) files → Contains files f → Contains files g → f.rec.number ≡ g.rec.number → f ≡ g
one_file files f g apart (i, at, is) (j, within, it) same = by_order (cases_order i j)
  where
    differ : (m n : ℕ) → m < n → n < length files → (get_or files m f).rec.number ≢ (get_or files n f).rec.number
    differ m n less inside = apart m n f less inside

    second : get_or files j f ≡ g
    second = get_or_default files j f g within ∙ it

    by_order : (i ≡ j) ⊎ ((i < j) ⊎ (j < i)) → f ≡ g
    by_order (inl one) = sym is ∙ ap (λ (n : ℕ). get_or files n f) one ∙ second
    by_order (inr (inl less)) = absurd (differ i j less within (ap (λ (x : File). x.rec.number) is ∙ same ∙ ap (λ (x : File). x.rec.number) (sym second)))
    by_order (inr (inr more)) = absurd (differ j i more at (ap (λ (x : File). x.rec.number) second ∙ sym same ∙ ap (λ (x : File). x.rec.number) (sym is)))

-- the blocks of what is taken below a stamp
taken_blocks : (t : ℕ) (files : List File) → sum_by (below t) (candidates_in files) ≡ sum_by (λ (f : File). if is_taken t f then blocks_for f.rec.len else 0) files
taken_blocks t files = sum_made is_candidate candidate_of (below t) files ∙ (λ i. sum_by (λ (f : File). both (is_candidate f) (nat_lt f.rec.stamp t) (blocks_for f.rec.len) i) files)
  where
    both : (p q : Bool) (n : ℕ) → (if p then (if q then n else 0) else 0) ≡ (if q && p then n else 0)
    both true true n = refl
    both true false n = refl
    both false true n = refl
    both false false n = refl

-- A LIST OF NUMBERS has what it contains
pub has_there : (numbers : List ℕ) (n : ℕ) → Contains numbers n → has numbers n ≡ true
has_there numbers n (i, inside, is) = list_any_at (λ (m : ℕ). m == n) numbers i n inside (eq-eqb (get_or numbers i n) n is)

pub there_has : (numbers : List ℕ) (n : ℕ) → has numbers n ≡ true → Contains numbers n
there_has [] n is = let no : ⊥ = cc in absurd no
there_has (m ∷ ms) n is = by_case (there_has ms n) (cases_Bool (m == n))
  where
    by_case : (has ms n ≡ true → Contains ms n) → ((m == n) ≡ true) ⊎ ((m == n) ≡ false) → Contains (m ∷ ms) n
    by_case later (inl here) = (0, omega arith, eqb-true m n here)
    by_case later (inr other) =
        let rest : has ms n ≡ true = ap (λ (b : Bool). b || has ms n) (sym other) ∙ is in
        contains_more m n ms (later rest)

-- THE BLOCKS ON THE DISC without those of the files that are taken off
abbrev held : File → ℕ
held f = if f.online then blocks_for f.rec.len else 0

off_one : (t : ℕ) (taken : List ℕ) (f : File) → has taken f.rec.number ≡ is_taken t f → held (offline_in taken f) + (if is_taken t f then blocks_for f.rec.len else 0) ≡ held f
off_one t taken f same = by_case (cases_Bool (is_taken t f))
  where
    by_case : (is_taken t f ≡ true) ⊎ (is_taken t f ≡ false) → held (offline_in taken f) + (if is_taken t f then blocks_for f.rec.len else 0) ≡ held f
    by_case (inl is) =
        let off : File = record f { online = false; bytes = None } in
        let gone : held (offline_in taken f) ≡ 0 = ap held (cond-true (has taken f.rec.number) off f (same ∙ is)) in
        let counted : (if is_taken t f then blocks_for f.rec.len else 0) ≡ blocks_for f.rec.len = cond-true (is_taken t f) (blocks_for f.rec.len) 0 is in
        let candidate = (and_parts (nat_lt f.rec.stamp t) (is_candidate f) is).1 in
        let filled = (and_parts (f.online && nat_lt 0 f.rec.len) (is_some f.rec.tape) candidate).0 in
        let online = (and_parts f.online (nat_lt 0 f.rec.len) filled).0 in
        let there : held f ≡ blocks_for f.rec.len = cond-true f.online (blocks_for f.rec.len) 0 online in
        omega (arith, gone, counted, there)
    by_case (inr isnt) =
        let off : File = record f { online = false; bytes = None } in
        let stays : held (offline_in taken f) ≡ held f = ap held (cond-false (has taken f.rec.number) off f (same ∙ isnt)) in
        let nothing : (if is_taken t f then blocks_for f.rec.len else 0) ≡ 0 = cond-false (is_taken t f) (blocks_for f.rec.len) 0 isnt in
        omega (arith, stays, nothing)

off_all : (t : ℕ) (taken : List ℕ) (files : List File) → All (λ (f : File). has taken f.rec.number ≡ is_taken t f) files
    → online_blocks (taken_off taken files) + sum_by (λ (f : File). if is_taken t f then blocks_for f.rec.len else 0) files ≡ online_blocks files
off_all t taken [] all = refl
off_all t taken (f ∷ fs) all =
    let counted : File → ℕ = λ g. if is_taken t g then blocks_for g.rec.len else 0 in
    let one = off_one t taken f (All-head (λ (g : File). has taken g.rec.number ≡ is_taken t g) f fs all) in
    let rest = off_all t taken fs (All-tail (λ (g : File). has taken g.rec.number ≡ is_taken t g) f fs all) in
    omega (arith, sum_by-cons held (offline_in taken f) (taken_off taken fs), sum_by-cons counted f fs, sum_by-cons held f fs, one, rest)

off_stamp : (taken : List ℕ) (f : File) → (offline_in taken f).rec.stamp ≡ f.rec.stamp
off_stamp taken f = by_case (has taken f.rec.number)
  where
    by_case : (b : Bool) → (let off : File = record f { online = false; bytes = None } in (if b then off else f).rec.stamp) ≡ f.rec.stamp
    by_case true = refl
    by_case false = refl

current_off : (taken : List ℕ) (files : List File) (s : ℕ) → is_current (taken_off taken files) s ≡ is_current files s
current_off taken [] s = refl
current_off taken (f ∷ fs) s =
    ap (λ (n : ℕ). (n == s) || is_current (taken_off taken fs) s) (off_stamp taken f) ∙ ap (λ (b : Bool). (f.rec.stamp == s) || b) (current_off taken fs s)

pinned_off : (taken : List ℕ) (files : List File) (pins : Option (List Pin)) → pinned_blocks pins (taken_off taken files) ≡ pinned_blocks pins files
pinned_off taken files None = refl
pinned_off taken files (Some pins) = λ i. sum_by (λ (p : Pin). if current_off taken files p.stamp i then 0 else blocks_for p.len) pins

-- THE PLAN
module _ (o : OnlineFacts) (need : ℕ) (sorted : List Candidate) (taken : List ℕ) (room : ℕ) (records : IsRecords o.contents.users (recs_in o.contents))
    (moved : IsPermutation (candidates_in o.contents.files) sorted) (order : IsNonDecreasingBy (λ (c : Candidate). c.stamp) sorted)
    (first : TakesFirst sorted (room_of o) need taken room) where
  abbrev files : List File
  files = o.contents.files

  apart_numbers : AllPairs (λ (f g : File). f.rec.number ≢ g.rec.number) files
  apart_numbers = numbers_apart files records.numbers.rising

  rises : AreRising sorted
  rises = rising sorted order (sorted_apart (λ (c : Candidate). c.stamp) files sorted (files_apart files records.among_files.stamps) moved)

  abbrev until : ℕ
  until = until_of sorted first.count

  below_until : IsFront until sorted first.count
  below_until = until_front sorted first.count rises first.within

  -- the room by a stamp, and by how many precede it
  by_front : (t n : ℕ) → IsFront t sorted n → room_until o t ≡ room_of o + blocks_in (take n sorted)
  by_front t n is = ap (λ (m : ℕ). room_of o + m) (sym (taken_blocks t files) ∙ sym (sum_by-IsPermutation (below t) (candidates_in files) sorted moved) ∙ is.blocks)

  -- a file that is a candidate has its place among the sorted ones
  place_of : (f : File) → Contains files f → is_candidate f ≡ true → Contains sorted (candidate_of f)
  place_of f there is = Contains-permutation (candidates_in files) sorted (candidate_of f) moved (made_there is_candidate candidate_of files f there is)

  -- and what is sorted is a file
  file_at : (i : ℕ) (d : Candidate) → i < length sorted → IsMadeOf is_candidate candidate_of files (get_or sorted i d)
  file_at i d inside =
      made_of is_candidate candidate_of files (get_or sorted i d)
      (Contains-permutation sorted (candidates_in files) (get_or sorted i d) (IsPermutation-sym (candidates_in files) sorted moved) (Contains-get_or sorted i d inside))

  abbrev Comes : ℕ → Type 0
  Comes n = (f : File) × Contains files f × (f.rec.number ≡ n) × (is_taken until f ≡ true)

  numbers_are : taken ≡ map (λ (c : Candidate). c.number) (take first.count sorted)
  numbers_are = first.numbers

  comes : (i : ℕ) (d : Candidate) → i < first.count → Comes (get_or sorted i d).number
  comes i d inside =
      let within = first.within in
      let is = file_at i d (omega (arith, inside, within)) in
      let old = below_until.lower i d inside in
      let stamp : is.source.rec.stamp ≡ (get_or sorted i d).stamp = ap (λ (c : Candidate). c.stamp) is.made in
      (is.source, is.there, ap (λ (c : Candidate). c.number) is.made, and_from (nat_lt is.source.rec.stamp until) (is_candidate is.source) (lt-ltb is.source.rec.stamp until (omega (arith, stamp, old))) is.passes)

  all_come : All Comes taken
  all_come =
      subst (All Comes) (sym numbers_are)
      (All-map Comes (λ (c : Candidate). c.number) (take first.count sorted)
      (λ i d inside.
      let long = length-take-le first.count sorted first.within in
      let at : i < first.count = omega (arith, inside, long) in
      subst (λ (c : Candidate). Comes c.number) (sym (get_or-take first.count sorted i d at)) (comes i d at)))

  -- the place of a file that is taken is one of the first
  placed : (f : File) → Contains files f → is_taken until f ≡ true → (i : ℕ) × (i < first.count) × (get_or sorted i (candidate_of f) ≡ candidate_of f)
  placed f there is = by_case (place_of f there (and_parts (nat_lt f.rec.stamp until) (is_candidate f) is).1)
    where
      by_case : Contains sorted (candidate_of f) → (i : ℕ) × (i < first.count) × (get_or sorted i (candidate_of f) ≡ candidate_of f)
      by_case (i, inside, at) = (i, by_order (cases_lt i first.count), at)
        where
          by_order : (i < first.count) ⊎ (first.count ≤ i) → i < first.count
          by_order (inl less) = less
          by_order (inr more) =
              let high = below_until.higher i (candidate_of f) more inside in
              let low = ltb-true f.rec.stamp until (and_parts (nat_lt f.rec.stamp until) (is_candidate f) is).0 in
              let stamp : (get_or sorted i (candidate_of f)).stamp ≡ f.rec.stamp = ap (λ (c : Candidate). c.stamp) at in
              (let no : ⊥ = omega (arith, high, low, stamp) in absurd no)

  all_there : (f : File) → Contains files f → is_taken until f ≡ true → Contains taken f.rec.number
  all_there f there is =
      let (i, less, at) = placed f there is in
      let long = length-map (take first.count sorted) (λ (c : Candidate). c.number) in
      let front_long = length-take-le first.count sorted first.within in
      subst (λ (ns : List ℕ). Contains ns f.rec.number) (sym numbers_are) (
        i,
        omega (arith, less, long, front_long),
        get_or-map (λ (c : Candidate). c.number) (take first.count sorted) i (candidate_of f) f.rec.number (omega (arith, less, front_long))
            ∙ ap (λ (c : Candidate). c.number) (get_or-take first.count sorted i (candidate_of f) less ∙ at),
      )

  each_once : AllPairs (λ (m n : ℕ). m ≢ n) taken
  each_once =
      let all = sorted_apart (λ (c : Candidate). c.number) files sorted apart_numbers moved in
      let long = length-map sorted (λ (c : Candidate). c.number) in
      let within = first.within in
      subst (AllPairs (λ (m n : ℕ). m ≢ n)) (take-map (λ (c : Candidate). c.number) first.count sorted ∙ sym numbers_are)
      (pairs_front (λ (m n : ℕ). m ≢ n) first.count (map (λ (c : Candidate). c.number) sorted) (omega (arith, long, within)) all)

  older : (i j : ℕ) (d : Candidate) → i < j → j < first.count → IsOlder files (get_or sorted i d).number (get_or sorted j d).number
  older i j d before inside = λ f g in_files also of other.
      let within = first.within in
      let one = file_at i d (omega (arith, before, inside, within)) in
      let two = file_at j d (omega (arith, inside, within)) in
      let f_is : one.source ≡ f = one_file files one.source f apart_numbers one.there in_files (ap (λ (c : Candidate). c.number) one.made ∙ sym of) in
      let g_is : two.source ≡ g = one_file files two.source g apart_numbers two.there also (ap (λ (c : Candidate). c.number) two.made ∙ sym other) in
      let stamp : f.rec.stamp ≡ (get_or sorted i d).stamp = ap (λ (x : File). x.rec.stamp) (sym f_is) ∙ ap (λ (c : Candidate). c.stamp) one.made in
      let behind : g.rec.stamp ≡ (get_or sorted j d).stamp = ap (λ (x : File). x.rec.stamp) (sym g_is) ∙ ap (λ (c : Candidate). c.stamp) two.made in
      let less = rises.each i j d before (omega (arith, inside, within)) in
      omega (arith, stamp, behind, less)

  pub oldest_first : AllPairs (IsOlder files) taken
  oldest_first =
      subst (AllPairs (IsOlder files)) (sym numbers_are)
      (pairs_made (IsOlder files) (λ (c : Candidate). c.number) (take first.count sorted)
      (λ i j d before inside.
      let long = length-take-le first.count sorted first.within in
      let at : j < first.count = omega (arith, inside, long) in
      subst (λ (c : Candidate). IsOlder files c.number (get_or (take first.count sorted) j d).number) (sym (get_or-take first.count sorted i d (omega (arith, before, at))))
      (subst (λ (c : Candidate). IsOlder files (get_or sorted i d).number c.number) (sym (get_or-take first.count sorted j d at)) (older i j d before at))))

  room_reached : room ≡ room_until o until
  room_reached = first.room_is ∙ sym (by_front until first.count below_until)

  -- the numbers that are taken are those of the files that are
  taken_are : (f : File) → Contains files f → has taken f.rec.number ≡ is_taken until f
  taken_are f there = by_case (cases_Bool (has taken f.rec.number)) (cases_Bool (is_taken until f))
    where
      found : Contains taken f.rec.number → is_taken until f ≡ true
      found (i, inside, at) =
          let came : Comes f.rec.number = subst Comes at (all_come i f.rec.number inside) in
          let same : came.0 ≡ f = one_file files came.0 f apart_numbers came.1 there came.2 in
          ap (is_taken until) (sym same) ∙ came.3

      by_case : (has taken f.rec.number ≡ true) ⊎ (has taken f.rec.number ≡ false) → (is_taken until f ≡ true) ⊎ (is_taken until f ≡ false) → has taken f.rec.number ≡ is_taken until f
      by_case (inl is) test = is ∙ sym (found (there_has taken f.rec.number is))
      by_case (inr isnt) (inl is) = let no : true ≡ false = sym (has_there taken f.rec.number (all_there f there is)) ∙ isnt in (let wrong : ⊥ = cc in absurd wrong)
      by_case (inr isnt) (inr also) = isnt ∙ sym also

  pub room_behind : FitsDisc o → IsRoomWithout o taken room
  room_behind fits =
      let sum = off_all until taken files (λ i d inside. taken_are (get_or files i d) (Contains-get_or files i d inside)) in
      let pinned = pinned_off taken files o.pins in
      let reached = room_reached in
      omega (arith, sum, pinned, reached, fits)

  is_enough : (need ≤ room) ⊎ (first.count ≡ length sorted) → (need ≤ room) ⊎ ((f : File) → Contains files f → is_candidate f ≡ true → f.rec.stamp < until)
  is_enough (inl enough) = inl enough
  is_enough (inr all) = inr (λ f there is.
      let (i, inside, at) = place_of f there is in
      let low = below_until.lower i (candidate_of f) (omega (arith, inside, all)) in
      let stamp : (get_or sorted i (candidate_of f)).stamp ≡ f.rec.stamp = ap (λ (c : Candidate). c.stamp) at in
      omega (arith, low, stamp))

  at_least : (lower : ℕ) → lower < until → room_until o lower < need
  at_least lower less =
      let (n, fewer, is) = fewer_below sorted first.count rises first.within lower less in
      let short = first.least n fewer in
      let by = by_front lower n is in
      omega (arith, short, by)

  pub plan_is : IsUnjamPlan need o taken room
  plan_is = record {
    until = until;
    from = all_come;
    all = all_there;
    once = each_once;
    room_is = room_reached;
    enough = is_enough first.enough;
    least = at_least;
  }

-- if the room suffices nothing is taken
pub none_taken : (sorted : List Candidate) (start need : ℕ) (taken : List ℕ) (room : ℕ) → TakesFirst sorted start need taken room → need ≤ start → (taken ≡ []) × (room ≡ start)
none_taken sorted start need taken room first suffices = by_count first.count first.numbers first.room_is first.least
  where
    by_count : (n : ℕ) → taken ≡ map (λ (c : Candidate). c.number) (take n sorted) → room ≡ start + blocks_in (take n sorted)
        → ((fewer : ℕ) → fewer < n → start + blocks_in (take fewer sorted) < need) → (taken ≡ []) × (room ≡ start)
    by_count zero numbers room_is least = (numbers, (let none : blocks_in (take 0 sorted) ≡ 0 = refl in omega (arith, room_is, none)))
    by_count (suc n) numbers room_is least =
        let short = least 0 (omega arith) in
        (let none : blocks_in (take 0 sorted) ≡ 0 = refl in let no : ⊥ = omega (arith, short, suffices, none) in absurd no)

-- THE FIRST ONES are taken one after another
pub record HasTaken (cs : List Candidate) (start need count : ℕ) (taken : List ℕ) (room : ℕ) : Type 0 where
  pub numbers : taken ≡ map (λ (c : Candidate). c.number) (take count cs)
  pub room_is : room ≡ start + blocks_in (take count cs)
  pub most : room ≤ start + 128 * count
  pub least : (fewer : ℕ) → fewer < count → start + blocks_in (take fewer cs) < need
