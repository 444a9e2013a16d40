-- Files are taken off one by one.
-- serves: forget_all, take_off, BringStepLemmas, CloseMarkLemmas, UnjamLemmas, UnloadLemmas
use Rattle.std.proofs.Common.{◌≡◌, ◌≢◌, ◌⊎◌, ℕ, ◌+◌, ◌<◌, ◌==◌, ◌||◌, Bool, true, false, not, List, [], ◌∷◌, ◌++◌, length, get_or, take, drop, Option, Some, All, AllPairs, refl, sym, ◌∙◌, ap, subst, arith, inl, inr, append_assoc, take-append-drop, slice_get, if◌then◌else◌}
use Rattle.std.proofs.Math.ListN.{set}
use Rattle.std.proofs.lemmas.Bool.{cases_eq, eq-eqb, ne_eqb}
use Rattle.std.proofs.lemmas.List.{append-nil, get_or-take, get_or_default, length-set, length-take, take_more}
use Rattle.std.proofs.lemmas.List.Elements.{All-append, All-cons, All-head, All-tail}
use Rattle.std.proofs.lemmas.Option.{slice_get_within}
use Rattle.g_blocks.specs.Pool.{HasGiven, IsTaken}
use Rattle.g_copy.specs.declared.copy.DiscCopy.{DiscCopy}
use Rattle.g_blocks.proofs.Marks.{slice_get-set_other}
use Rattle.g_slots.specs.declared.side.Side.{Side}
use Rattle.g_slots.specs.declared.side.Side.TheVariants.{A, B}
use Rattle.g_dirs.specs.Directory.{copy_at}
use Rattle.g_dirs.specs.Pages.{Remembered, marked, marks_of}
use Rattle.g_dirs.proofs.PageLemmas.{slice_get-set_same}
use Rattle.g_disc_contents.specs.Contents.{has}
use Rattle.g_online.specs.Copies.{without_copies, without_copy}
use Rattle.g_online.specs.Invariant.{copy_places}
use Rattle.g_online.specs.Unloading.{MarksFiles, places_off}
use Rattle.g_online.proofs.CopyLemmas.{copy_at-passing}
use Rattle.g_online.proofs.PoolLemmas.{given_none, given_then, still_taken}
use Rattle.g_online.proofs.UseLemmas.{left_all, left_apart, right_all, right_apart}

-- THE LIST OF COPIES without one more
has_push : (ns : List ℕ) (n m : ℕ) → has (ns ++ n ∷ []) m ≡ (has ns m || (n == m))
has_push [] n m = or_none (n == m)
  where
    or_none : (b : Bool) → (b || false) ≡ b
    or_none true = refl
    or_none false = refl
has_push (k ∷ ns) n m = ap (λ (b : Bool). (k == m) || b) (has_push ns n m) ∙ or_assoc (k == m) (has ns m) (n == m)
  where
    or_assoc : (a b c : Bool) → (a || (b || c)) ≡ ((a || b) || c)
    or_assoc true b c = refl
    or_assoc false b c = refl

turned : (a b : ℕ) → (b == a) ≡ (a == b)
turned a b = by_case (cases_eq a b)
  where
    by_case : (a ≡ b) ⊎ (a ≡ b → ⊥) → (b == a) ≡ (a == b)
    by_case (inl same) = eq-eqb b a (sym same) ∙ sym (eq-eqb a b same)
    by_case (inr other) = ne_eqb b a (λ same. other (sym same)) ∙ sym (ne_eqb a b other)

first_passes : (n : ℕ) (c : ℕ × DiscCopy) (x y : Bool) → y ≡ (c.0 == n) → (rest : List (ℕ × DiscCopy))
    → without_copy n (if not x then c ∷ rest else rest) ≡ (if not (x || y) then c ∷ without_copy n rest else without_copy n rest)
first_passes n c true y is rest = refl
first_passes n c false y is rest = ap (λ (b : Bool). if not b then c ∷ without_copy n rest else without_copy n rest) (sym is)

pub both_filters : (ns : List ℕ) (n : ℕ) (cs : List (ℕ × DiscCopy)) → without_copy n (without_copies ns cs) ≡ without_copies (ns ++ n ∷ []) cs
both_filters ns n [] = refl
both_filters ns n (c ∷ cs) =
    first_passes n c (has ns c.0) (n == c.0) (turned c.0 n) (without_copies ns cs)
    ∙ ap (λ (rest : List (ℕ × DiscCopy)). if not (has ns c.0 || (n == c.0)) then c ∷ rest else rest) (both_filters ns n cs)
    ∙ sym (ap (λ (b : Bool). if not b then c ∷ without_copies (ns ++ n ∷ []) cs else without_copies (ns ++ n ∷ []) cs) (has_push ns n c.0))

pub no_filter : (cs : List (ℕ × DiscCopy)) → cs ≡ without_copies [] cs
no_filter [] = refl
no_filter (c ∷ cs) = ap (λ (rest : List (ℕ × DiscCopy)). c ∷ rest) (no_filter cs)

-- MARKS
pub marks_none : (pages : Remembered) → MarksFiles [] pages pages
marks_none pages = record { pages = record { a = refl; b = refl }; free = λ side k is. (is, λ i d within. absurd (omega arith)) }

not_set : (marks : List Bool) (j k : ℕ) → slice_get (set marks j true) k ≡ Some false → (slice_get marks k ≡ Some false) × (k ≢ j)
not_set marks j k is = (sym (slice_get-set_other marks j k true other) ∙ is, other)
  where
    other : k ≢ j
    other same =
        let long = length-set marks j true in
        let in_all : k < length (set marks j true) = slice_get_within (set marks j true) k false is in
        let less : j < length marks = omega (arith, long, in_all, same) in
        let there : slice_get (set marks j true) k ≡ Some true = ap (λ (i : ℕ). slice_get (set marks j true) i) same ∙ slice_get-set_same marks j true less in
        (let no : ⊥ = cc in no)

marks_set : (side : Side) (j : ℕ) (pages : Remembered) → marks_of side (marked j pages) ≡ set (marks_of side pages) j true
marks_set A j pages = refl
marks_set B j pages = refl

pub marks_more : (ns : List ℕ) (n : ℕ) (old mid new : Remembered) → MarksFiles ns old mid → new ≡ marked (64 + n) mid → MarksFiles (ns ++ n ∷ []) old new
marks_more ns n old mid new was is = record {
  pages = record { a = ap (λ (p : Remembered). p.a) is ∙ was.pages.a; b = ap (λ (p : Remembered). p.b) is ∙ was.pages.b };
  free = λ side k free.
      let here = not_set (marks_of side mid) (64 + n) k (ap (λ (ms : List Bool). slice_get ms k) (sym (ap (marks_of side) is ∙ marks_set side (64 + n) mid)) ∙ free) in
      let before = was.free side k here.0 in
      (before.0, All-append (λ m. k ≢ 64 + m) ns (n ∷ []) before.1 (All-cons (λ m. k ≢ 64 + m) n [] here.1 (λ i d within. absurd (omega arith))));
}

-- ONE MORE
pub record IsOff (numbers : List ℕ) (online next : List (ℕ × DiscCopy)) (pool given : List Bool) (old new : Remembered) : Type 0 where
  pub copies : next ≡ without_copies numbers online
  pub blocks : HasGiven (places_off numbers online) pool given
  pub marks : MarksFiles numbers old new

pub off_none : (online : List (ℕ × DiscCopy)) (pool : List Bool) (pages : Remembered) → IsOff [] online online pool pool pages pages
off_none online pool pages = record { copies = no_filter online; blocks = given_none pool; marks = marks_none pages }

pub places_push : (ns : List ℕ) (n : ℕ) (online : List (ℕ × DiscCopy)) → places_off (ns ++ n ∷ []) online ≡ places_off ns online ++ copy_places (copy_at online n)
places_push [] n online = append-nil (copy_places (copy_at online n))
places_push (k ∷ ns) n online =
    ap (λ (ps : List ℕ). copy_places (copy_at online k) ++ ps) (places_push ns n online) ∙ sym (append_assoc (copy_places (copy_at online k)) (places_off ns online) (copy_places (copy_at online n)))

not_has : (ns : List ℕ) (n : ℕ) → All (λ m. m ≢ n) ns → not (has ns n) ≡ true
not_has [] n away = refl
not_has (m ∷ ns) n away =
    ap (λ (b : Bool). not (b || has ns n)) (ne_eqb m n (All-head (λ k. k ≢ n) m ns away)) ∙ not_has ns n (All-tail (λ k. k ≢ n) m ns away)

-- the next copy is the old one
pub copy_still : (ns : List ℕ) (n : ℕ) (online next : List (ℕ × DiscCopy)) → All (λ m. m ≢ n) ns → next ≡ without_copies ns online → copy_at next n ≡ copy_at online n
copy_still ns n online next away is =
    ap (λ (cs : List (ℕ × DiscCopy)). copy_at cs n) is ∙ copy_at-passing (λ m. not (has ns m)) online n (not_has ns n away)

pub off_more : (ns : List ℕ) (n : ℕ) (online next last : List (ℕ × DiscCopy)) (pool given rest : List Bool) (old mid new : Remembered) → IsOff ns online next pool given old mid → All (λ m. m ≢ n) ns
    → AllPairs (λ j k. j ≢ k) (places_off (ns ++ n ∷ []) online) → last ≡ without_copy n next → HasGiven (copy_places (copy_at next n)) given rest → new ≡ marked (64 + n) mid
    → IsOff (ns ++ n ∷ []) online last pool rest old new
off_more ns n online next last pool given rest old mid new was away apart gone gives marks =
    let same = copy_still ns n online next away was.copies in
    let here : HasGiven (copy_places (copy_at online n)) given rest = subst (λ (c : Option DiscCopy). HasGiven (copy_places c) given rest) same gives in
    record {
      copies = gone ∙ ap (without_copy n) was.copies ∙ both_filters ns n online;
      blocks = subst (λ (ps : List ℕ). HasGiven ps pool rest) (sym (places_push ns n online))
          (given_then (places_off ns online) (copy_places (copy_at online n)) pool given rest (subst (AllPairs (λ j k. j ≢ k)) (places_push ns n online) apart) was.blocks here);
      marks = marks_more ns n old mid new was.marks marks;
    }

-- what giving the next ones back requires
pub off_next : (ns : List ℕ) (n : ℕ) (online next : List (ℕ × DiscCopy)) (pool given : List Bool) (old mid : Remembered) → IsOff ns online next pool given old mid → All (λ m. m ≢ n) ns
    → AllPairs (λ j k. j ≢ k) (places_off (ns ++ n ∷ []) online) → All (IsTaken pool) (places_off (ns ++ n ∷ []) online)
    → AllPairs (λ j k. j ≢ k) (copy_places (copy_at next n)) × All (IsTaken given) (copy_places (copy_at next n))
off_next ns n online next pool given old mid was away apart taken =
    let same = copy_still ns n online next away was.copies in
    let push = places_push ns n online in
    let all : AllPairs (λ j k. j ≢ k) (places_off ns online ++ copy_places (copy_at online n)) = subst (AllPairs (λ j k. j ≢ k)) push apart in
    subst (λ (c : Option DiscCopy). AllPairs (λ j k. j ≢ k) (copy_places c) × All (IsTaken given) (copy_places c)) (sym same) (
      right_apart (places_off ns online) (copy_places (copy_at online n)) all,
      still_taken (places_off ns online) (copy_places (copy_at online n)) pool given all was.blocks
          (right_all (IsTaken pool) (places_off ns online) (copy_places (copy_at online n)) (subst (All (IsTaken pool)) push taken)),
    )

places_append : (xs ys : List ℕ) (online : List (ℕ × DiscCopy)) → places_off (xs ++ ys) online ≡ places_off xs online ++ places_off ys online
places_append [] ys online = refl
places_append (x ∷ xs) ys online =
    ap (λ (ps : List ℕ). copy_places (copy_at online x) ++ ps) (places_append xs ys online) ∙ sym (append_assoc (copy_places (copy_at online x)) (places_off xs online) (places_off ys online))

module _ (numbers : List ℕ) (i : ℕ) (within : i < length numbers) where
  pub one_further : take (i + 1) numbers ≡ take i numbers ++ get_or numbers i 0 ∷ []
  one_further = take_more numbers i 0 within

  front_places : (online : List (ℕ × DiscCopy)) → places_off numbers online ≡ places_off (take i numbers ++ get_or numbers i 0 ∷ []) online ++ places_off (drop (i + 1) numbers) online
  front_places online =
      ap (λ (ns : List ℕ). places_off ns online) (sym (take-append-drop (i + 1) numbers)) ∙ places_append (take (i + 1) numbers) (drop (i + 1) numbers) online
      ∙ ap (λ (ns : List ℕ). places_off ns online ++ places_off (drop (i + 1) numbers) online) one_further

  pub front_apart : (online : List (ℕ × DiscCopy)) → AllPairs (λ j k. j ≢ k) (places_off numbers online) → AllPairs (λ j k. j ≢ k) (places_off (take i numbers ++ get_or numbers i 0 ∷ []) online)
  front_apart online apart =
      left_apart (places_off (take i numbers ++ get_or numbers i 0 ∷ []) online) (places_off (drop (i + 1) numbers) online) (subst (AllPairs (λ j k. j ≢ k)) (front_places online) apart)

  pub front_taken : (online : List (ℕ × DiscCopy)) (pool : List Bool) → All (IsTaken pool) (places_off numbers online) → All (IsTaken pool) (places_off (take i numbers ++ get_or numbers i 0 ∷ []) online)
  front_taken online pool taken =
      left_all (IsTaken pool) (places_off (take i numbers ++ get_or numbers i 0 ∷ []) online) (places_off (drop (i + 1) numbers) online) (subst (All (IsTaken pool)) (front_places online) taken)

  pub front_away : AllPairs (λ m n. m ≢ n) numbers → All (λ m. m ≢ get_or numbers i 0) (take i numbers)
  front_away once = λ k d inside. λ same.
      let less : k < i = omega (arith, inside, length-take i numbers) in
      once k i d less within (sym (get_or-take i numbers k d less) ∙ same ∙ get_or_default numbers i 0 d within)
