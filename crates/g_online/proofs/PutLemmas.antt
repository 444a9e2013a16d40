-- A version that is inserted: its copy among the copies, and its blocks among those that are used.
-- serves: BringStepLemmas, PutStepLemmas
use Rattle.std.proofs.Common.{◌≡◌, ◌≢◌, ℕ, zero, suc, ◌+◌, ◌<◌, ◌==◌, Bool, true, false, List, [], ◌∷◌, ◌++◌, length, map, filter, find, Option, Some, None, All, AllPairs, refl, sym, ◌∙◌, ap, inl, inr, arith, subst, if◌then◌else◌, is_some}
use Rattle.std.specs.Prelude.{Contains, IfSome, nat_lt, ◌⊎◌}
use Rattle.std.specs.Option.{ForSome}
use Rattle.std.proofs.lemmas.Bool.{cases_Bool, cases_eq, cases_order, cond-false, cond-true, eq-eqb, le-ltb, lt-ltb, ltb-true, ne_eqb, true≢false}
use Rattle.std.proofs.lemmas.List.{map-append}
use Rattle.std.proofs.lemmas.List.Elements.{All-append, All-cons, All-filter, All-weaker, Contains-append_left, Contains-append_right, filter_passes}
use Rattle.std.proofs.lemmas.List.Kept.{AllPairs-filter}
use Rattle.std.proofs.lemmas.List.Sums.{sum_by-append}
use Rattle.g_blocks.specs.Pool.{HasTaken, IsFree, IsTaken}
use Rattle.g_copy.specs.declared.copy.DiscCopy.{DiscCopy}
use Rattle.g_copy.specs.Copy.{bytes_at}
use Rattle.g_disc.specs.Disc.{DiscState}
use Rattle.g_entry.specs.declared.file_rec.FileRec.{FileRec}
use Rattle.g_entry.specs.declared.head.Head.{Head}
use Rattle.g_slots.specs.declared.side.Side.{Side}
use Rattle.g_tree.specs.State.{with_file as tree_with_file}
use Rattle.g_dirs.specs.Directory.{AreCopies, Directory, FileEntry, IsCopyOf, copy_at, directory_of, entries_of, places_of}
use Rattle.g_dirs.specs.Image.{entry_at}
use Rattle.g_dirs.specs.Pages.{Covers, Remembered}
use Rattle.g_disc_contents.specs.Contents.{contents_of, has, with_number}
use Rattle.g_online.specs.declared.change.Change.TheVariants.{PutFile}
use Rattle.g_online.specs.declared.pinned.Pinned.{Pinned}
use Rattle.g_online.specs.Change.{changed as changed_to}
use Rattle.g_online.specs.Copies.{with_copy_at, without_copies}
use Rattle.g_online.specs.Invariant.{AreNoted, GivesUnless, IsAgreed, IsFileOf, IsPinned, Memory, PinsAre, WaitsFor, WaitsPinned, directory_in, head_after, used_places}
use Rattle.g_online.proofs.ChangeLemmas.{committed_head, put_contents}
use Rattle.g_online.proofs.CopyLemmas.{Copies, copy_at-put}
use Rattle.g_online.proofs.EntryLemmas.{made-put}
use Rattle.g_online.proofs.KeepLemmas.{CopyFits}
use Rattle.g_online.proofs.MarkLemmas.{but_file, but_head}
use Rattle.g_online.proofs.NoteLemmas.{noted_then, pins_then, touched_with}
use Rattle.g_online.proofs.NumberLemmas.{has_with}
use Rattle.g_online.proofs.PlaceLemmas.{NotPinned, used_with, with_entry, without_entry}
use Rattle.g_online.proofs.ReadyLemmas.{CoversBut}
use Rattle.g_online.proofs.RecordLemmas.{fits_still, next_kept}
use Rattle.g_online.proofs.UseLemmas.{IsUsed, SameUse, may_give, same_append, same_back, used_given, used_same, used_taken}

pairs-cons : {X : Type 0} (R : X → X → Type 0) (x : X) (xs : List X) → All (R x) xs → AllPairs R xs → AllPairs R (x ∷ xs)
pairs-cons R x xs first rest zero zero d before inside = let no : ⊥ = omega (arith, before) in absurd no
pairs-cons R x xs first rest zero (suc j) d before inside = first j d (omega (arith, inside))
pairs-cons R x xs first rest (suc i) zero d before inside = let no : ⊥ = omega (arith, before) in absurd no
pairs-cons R x xs first rest (suc i) (suc j) d before inside = rest i j d (omega (arith, before)) (omega (arith, inside))

pairs-append : {X : Type 0} (R : X → X → Type 0) (xs ys : List X) → AllPairs R xs → AllPairs R ys → All (λ x. All (R x) ys) xs → AllPairs R (xs ++ ys)
pairs-append R [] ys one other across = other
pairs-append R (x ∷ xs) ys one other across =
    pairs-cons R x (xs ++ ys)
    (All-append (R x) xs ys (λ k d inside. one 0 (suc k) d (omega arith) (omega (arith, inside))) (across 0 x (omega arith)))
    (pairs-append R xs ys (λ i j d before inside. one (suc i) (suc j) d (omega (arith, before)) (omega (arith, inside))) other (λ k d inside. across (suc k) d (omega (arith, inside))))

-- among rising numbers
abbrev below_at : ℕ → ℕ × DiscCopy → Bool
below_at n c = nat_lt c.0 n

abbrev above_at : ℕ → ℕ × DiscCopy → Bool
above_at n c = nat_lt n c.0

copies_rise : (c : ℕ × DiscCopy) (online : Copies) → AllPairs (λ c d. c.0 < d.0) online → AllPairs (λ c d. c.0 < d.0) (with_copy_at c online)
copies_rise c online rising =
    let R : ℕ × DiscCopy → ℕ × DiscCopy → Type 0 = λ a b. a.0 < b.0 in
    let low = filter (below_at c.0) online in
    let high = filter (above_at c.0) online in
    let lows : All (λ d. d.0 < c.0) low = All-weaker (λ (d : ℕ × DiscCopy). nat_lt d.0 c.0 ≡ true) (λ (d : ℕ × DiscCopy). d.0 < c.0) (λ d is. ltb-true d.0 c.0 is) low (filter_passes (below_at c.0) online) in
    let highs : All (λ d. c.0 < d.0) high = All-weaker (λ (d : ℕ × DiscCopy). nat_lt c.0 d.0 ≡ true) (λ (d : ℕ × DiscCopy). c.0 < d.0) (λ d is. ltb-true c.0 d.0 is) high (filter_passes (above_at c.0) online) in
    pairs-append R low (c ∷ high) (AllPairs-filter R (below_at c.0) online rising)
    (pairs-cons R c high highs (AllPairs-filter R (above_at c.0) online rising))
    (All-weaker (λ (d : ℕ × DiscCopy). d.0 < c.0) (λ (d : ℕ × DiscCopy). All (R d) (c ∷ high))
    (λ d less. All-cons (R d) c high less (All-weaker (λ (e : ℕ × DiscCopy). c.0 < e.0) (R d) (λ e more. omega (arith, less, more)) high highs)) low lows)

abbrev numbers : List FileRec → List ℕ
numbers files = map (λ r. r.number) files

-- a number of the files is one of them after another is inserted
in_filter : (p : ℕ → Bool) (files : List FileRec) (m : ℕ) → p m ≡ true → Contains (numbers files) m → Contains (numbers (filter (λ s. p s.number) files)) m
in_filter p [] m passes (k, inside, is) = let no : ⊥ = omega (arith, inside) in absurd no
in_filter p (r ∷ files) m passes (zero, inside, is) =
    let kept : p r.number ≡ true = ap p is ∙ passes in
    subst (λ (l : List FileRec). Contains (numbers l) m) (sym (cond-true (p r.number) (r ∷ filter (λ s. p s.number) files) (filter (λ s. p s.number) files) kept)) (0, omega arith, is)
in_filter p (r ∷ files) m passes (suc k, inside, is) =
    let rest : Contains (numbers (filter (λ s. p s.number) files)) m = in_filter p files m passes (k, omega (arith, inside), is) in
    elim (cases_Bool (p r.number)) as (λ _. Contains (numbers (filter (λ s. p s.number) (r ∷ files))) m) [
      | inl kept ↦ subst (λ (l : List FileRec). Contains (numbers l) m) (sym (cond-true (p r.number) (r ∷ filter (λ s. p s.number) files) (filter (λ s. p s.number) files) kept)) (suc rest.0, (let within = rest.1 in omega (arith, within)), rest.2)
      | inr gone ↦ subst (λ (l : List FileRec). Contains (numbers l) m) (sym (cond-false (p r.number) (r ∷ filter (λ s. p s.number) files) (filter (λ s. p s.number) files) gone)) rest
    ]

numbers-put : (rec : FileRec) (files : List FileRec) → numbers (tree_with_file rec files) ≡ numbers (filter (λ s. nat_lt s.number rec.number) files) ++ rec.number ∷ numbers (filter (λ s. nat_lt rec.number s.number) files)
numbers-put rec files = map-append (λ (r : FileRec). r.number) (filter (λ s. nat_lt s.number rec.number) files) (rec ∷ filter (λ s. nat_lt rec.number s.number) files)

number_put : (rec : FileRec) (files : List FileRec) (m : ℕ) → (m ≡ rec.number) ⊎ Contains (numbers files) m → Contains (numbers (tree_with_file rec files)) m
number_put rec files m (inl same) =
    let low = numbers (filter (λ s. nat_lt s.number rec.number) files) in
    let high = numbers (filter (λ s. nat_lt rec.number s.number) files) in
    subst (λ (l : List ℕ). Contains l m) (sym (numbers-put rec files)) (Contains-append_right low (rec.number ∷ high) m (0, omega arith, sym same))
number_put rec files m (inr there) =
    let n = rec.number in
    let low = numbers (filter (λ s. nat_lt s.number n) files) in
    let high = numbers (filter (λ s. nat_lt n s.number) files) in
    subst (λ (l : List ℕ). Contains l m) (sym (numbers-put rec files))
    (elim (cases_order m n) as (λ _. Contains (low ++ n ∷ high) m) [
      | inl same ↦ Contains-append_right low (n ∷ high) m (0, omega arith, sym same)
      | inr (inl less) ↦ Contains-append_left low (n ∷ high) m (in_filter (λ k. nat_lt k n) files m (lt-ltb m n less) there)
      | inr (inr more) ↦ Contains-append_right low (n ∷ high) m (let found = in_filter (λ k. nat_lt n k) files m (lt-ltb n m more) there in (suc found.0, (let within = found.1 in omega (arith, within)), found.2))
    ])

-- THE COPIES, with that of the new version
pub copies_put : (rec : FileRec) (copy : DiscCopy) (files : List FileRec) (online : Copies) → AreCopies files online → AreCopies (tree_with_file rec files) (with_copy_at (rec.number, copy) online)
copies_put rec copy files online are = record {
  rising = copies_rise (rec.number, copy) online are.rising;
  files_are = All-append P low ((rec.number, copy) ∷ high) (All-filter (below_at rec.number) P online all) (All-cons P (rec.number, copy) high (number_put rec files rec.number (inl refl)) (All-filter (above_at rec.number) P online all));
}
  where
    P : ℕ × DiscCopy → Type 0
    P c = Contains (map (λ r. r.number) (tree_with_file rec files)) c.0

    low : Copies
    low = filter (below_at rec.number) online

    high : Copies
    high = filter (above_at rec.number) online

    all : All (λ c. Contains (map (λ r. r.number) (tree_with_file rec files)) c.0) online
    all = All-weaker (λ (c : ℕ × DiscCopy). Contains (map (λ r. r.number) files) c.0) (λ (c : ℕ × DiscCopy). Contains (map (λ r. r.number) (tree_with_file rec files)) c.0) (λ c there. number_put rec files c.0 (inr there)) online are.files_are

-- THE FILES, with the new version
pub entries_put : (rec : FileRec) (copy : DiscCopy) (files : List FileRec) (online : Copies) → entries_of (tree_with_file rec files) (with_copy_at (rec.number, copy) online) ≡ with_entry (rec, Some copy) (entries_of files online)
entries_put rec copy files online = made-put {X = FileEntry} (λ e. e) (λ e. e.0.number) (λ e. refl) rec copy files online

-- what holds of all files and of the new one
pub all_put : (P : FileEntry → Type 0) (e : FileEntry) (files : List FileEntry) → P e → All P files → All P (with_entry e files)
all_put P e files here all =
    let low = filter (λ f. nat_lt f.0.number e.0.number) files in
    let high = filter (λ f. nat_lt e.0.number f.0.number) files in
    All-append P low (e ∷ high) (All-filter (λ f. nat_lt f.0.number e.0.number) P files all) (All-cons P e high here (All-filter (λ f. nat_lt e.0.number f.0.number) P files all))

-- the blocks: those of the new version were taken; those of the version that it replaces, if there was one, were given back
-- afterwards, unless that version is pinned
pub put_used : (size : ℕ) (pins : Option (List Pinned)) (e : FileEntry) (files : List FileEntry) (given : List ℕ) (gone : Bool) (old mid new : List Bool) → NotPinned e.0.stamp pins
    → SameUse (used_places pins files) ((if gone then [] else given) ++ used_places pins (without_entry e.0.number files))
    → IsUsed size (used_places pins files) old → AllPairs (λ j k. j ≢ k) (places_of e) → All (IsFree old) (places_of e) → HasTaken (places_of e) old mid → GivesUnless gone given mid new
    → IsUsed size (used_places pins (with_entry e files)) new
put_used size pins e files given true old mid new away was used apart free taken kept =
    let others = used_places pins (without_entry e.0.number files) in
    let now : IsUsed size (places_of e ++ used_places pins files) mid = used_taken size (places_of e) (used_places pins files) old mid used apart free taken in
    subst (IsUsed size (used_places pins (with_entry e files))) (sym kept)
    (used_same size (places_of e ++ others) (used_places pins (with_entry e files)) mid (same_back (used_places pins (with_entry e files)) (places_of e ++ others) (used_with pins e files away))
    (used_same size (places_of e ++ used_places pins files) (places_of e ++ others) mid (same_append (places_of e) (places_of e) (used_places pins files) others (λ f. refl) was) now))
put_used size pins e files given false old mid new away was used apart free taken kept =
    let others = used_places pins (without_entry e.0.number files) in
    let now : IsUsed size (places_of e ++ used_places pins files) mid = used_taken size (places_of e) (used_places pins files) old mid used apart free taken in
    used_same size (places_of e ++ others) (used_places pins (with_entry e files)) new (same_back (used_places pins (with_entry e files)) (places_of e ++ others) (used_with pins e files away))
    (used_given size given (places_of e ++ others) mid new
    (used_same size (places_of e ++ used_places pins files) (given ++ (places_of e ++ others)) mid (moved (used_places pins files) others was) now) kept)
  where
    moved : (all others : List ℕ) → SameUse all (given ++ others) → SameUse (places_of e ++ all) (given ++ (places_of e ++ others))
    moved all others same f =
        let is = same f in
        omega (arith, is, sum_by-append f (places_of e) all, sum_by-append f given others, sum_by-append f given (places_of e ++ others), sum_by-append f (places_of e) others)

-- and they may be given back
pub put_may_give : (size : ℕ) (pins : Option (List Pinned)) (e : FileEntry) (files : List FileEntry) (given : List ℕ) (old mid : List Bool)
    → SameUse (used_places pins files) (given ++ used_places pins (without_entry e.0.number files))
    → IsUsed size (used_places pins files) old → AllPairs (λ j k. j ≢ k) (places_of e) → All (IsFree old) (places_of e) → HasTaken (places_of e) old mid
    → AllPairs (λ j k. j ≢ k) given × All (IsTaken mid) given
put_may_give size pins e files given old mid was used apart free taken =
    let others = used_places pins (without_entry e.0.number files) in
    let now : IsUsed size (places_of e ++ used_places pins files) mid = used_taken size (places_of e) (used_places pins files) old mid used apart free taken in
    may_give size given (places_of e ++ others) mid
    (used_same size (places_of e ++ used_places pins files) (given ++ (places_of e ++ others)) mid
    (λ f. let is = was f in omega (arith, is, sum_by-append f (places_of e) (used_places pins files), sum_by-append f given others, sum_by-append f given (places_of e ++ others), sum_by-append f (places_of e) others)) now)

-- the pinned versions next to a version with the next stamp, which belongs to a touched user
new_stamp : (size next : ℕ) (files : List FileEntry) (p : Pinned) → IsPinned size next files p → (e : FileEntry) → e.0.stamp ≡ next → IsPinned size (next + 1) (with_entry e files) p
new_stamp size next files p is e stamp = record {
  older = (let old = is.older in omega (arith, old));
  filled = is.filled;
  count = is.count;
  area = is.area;
  current = all_put (IsFileOf p) e files (λ same. let old = is.older in let no : ⊥ = omega (arith, old, stamp, same) in absurd no) is.current;
}

pub pins_put : (size next : ℕ) (files : List FileEntry) (touched : List ℕ) (pins : Option (List Pinned)) (e : FileEntry) → e.0.stamp ≡ next → PinsAre pins size next files touched
    → IfSome pins (λ ps. has touched e.0.owner ≡ true) → PinsAre pins size (next + 1) (with_entry e files) touched
pins_put size next files touched None e stamp are owner = are
pins_put size next files touched (Some pins) e stamp are owner = record {
  each = All-weaker (IsPinned size next files) (IsPinned size (next + 1) (with_entry e files)) (λ p is. new_stamp size next files p is e stamp) pins are.each;
  apart = are.apart;
  waits = all_put (WaitsPinned pins touched) e files (λ filled none. inr owner) are.waits;
}

pub not_pinned : (size next : ℕ) (files : List FileEntry) (touched : List ℕ) (pins : Option (List Pinned)) → PinsAre pins size next files touched → NotPinned next pins
not_pinned size next files touched None are = tt
not_pinned size next files touched (Some pins) are = All-weaker (IsPinned size next files) (λ (p : Pinned). p.stamp ≢ next) (λ p is same. let old = is.older in omega (arith, old, same)) pins are.each

pub noted_put : (users : ℕ) (files : List FileEntry) (changed touched : List ℕ) (e : FileEntry) → AreNoted users files changed touched → has changed e.0.owner ≡ true → AreNoted users (with_entry e files) changed touched
noted_put users files changed touched e was owner = record {
  changed_are = was.changed_are;
  touched_are = was.touched_are;
  touched_changed = was.touched_changed;
  waits = all_put (λ (f : FileEntry). WaitsFor changed f.0) e files (λ filled none. owner) was.waits;
}

-- the other files are found unchanged
module _ {X : Type 0} (number : X → ℕ) where
  abbrev at_number : List X → ℕ → Option X
  at_number xs n = find (λ x. number x == n) xs

  here_at : (x : X) (xs : List X) (n : ℕ) → number x ≡ n → at_number (x ∷ xs) n ≡ Some x
  here_at x xs n same = cond-true (number x == n) (Some x) (at_number xs n) (eq-eqb (number x) n same)

  past_at : (x : X) (xs : List X) (n : ℕ) → number x ≢ n → at_number (x ∷ xs) n ≡ at_number xs n
  past_at x xs n other = cond-false (number x == n) (Some x) (at_number xs n) (ne_eqb (number x) n other)

  abbrev passing_at : (ℕ → Bool) → List X → List X
  passing_at p xs = filter (λ x. p (number x)) xs

  kept_at : (p : ℕ → Bool) (xs : List X) (n : ℕ) → p n ≡ true → at_number (passing_at p xs) n ≡ at_number xs n
  kept_at p [] n passes = refl
  kept_at p (x ∷ xs) n passes =
      elim (cases_Bool (p (number x))) as (λ _. at_number (passing_at p (x ∷ xs)) n ≡ at_number (x ∷ xs) n) [
        | inl is ↦ ap (λ (l : List X). at_number l n) (cond-true (p (number x)) (x ∷ passing_at p xs) (passing_at p xs) is) ∙
            (elim (cases_eq (number x) n) as (λ _. at_number (x ∷ passing_at p xs) n ≡ at_number (x ∷ xs) n) [
              | inl same ↦ here_at x (passing_at p xs) n same ∙ sym (here_at x xs n same)
              | inr other ↦ past_at x (passing_at p xs) n other ∙ kept_at p xs n passes ∙ sym (past_at x xs n other)
            ])
        | inr is ↦ ap (λ (l : List X). at_number l n) (cond-false (p (number x)) (x ∷ passing_at p xs) (passing_at p xs) is) ∙ kept_at p xs n passes
            ∙ sym (past_at x xs n (λ same. true≢false (sym passes ∙ ap p (sym same) ∙ is)))
      ]

  gone_at : (p : ℕ → Bool) (xs : List X) (n : ℕ) → p n ≡ false → at_number (passing_at p xs) n ≡ None
  gone_at p [] n fails = refl
  gone_at p (x ∷ xs) n fails =
      elim (cases_Bool (p (number x))) as (λ _. at_number (passing_at p (x ∷ xs)) n ≡ None) [
        | inl is ↦ ap (λ (l : List X). at_number l n) (cond-true (p (number x)) (x ∷ passing_at p xs) (passing_at p xs) is)
            ∙ past_at x (passing_at p xs) n (λ same. true≢false (sym is ∙ ap p same ∙ fails)) ∙ gone_at p xs n fails
        | inr is ↦ ap (λ (l : List X). at_number l n) (cond-false (p (number x)) (x ∷ passing_at p xs) (passing_at p xs) is) ∙ gone_at p xs n fails
      ]

  front_at : (xs ys : List X) (n : ℕ) (x : X) → at_number xs n ≡ Some x → at_number (xs ++ ys) n ≡ Some x
  front_at [] ys n x is = absurd (let no : ⊥ = cc in no)
  front_at (y ∷ xs) ys n x is =
      elim (cases_eq (number y) n) as (λ _. at_number ((y ∷ xs) ++ ys) n ≡ Some x) [
        | inl same ↦ here_at y (xs ++ ys) n same ∙ sym (here_at y xs n same) ∙ is
        | inr other ↦ past_at y (xs ++ ys) n other ∙ front_at xs ys n x (sym (past_at y xs n other) ∙ is)
      ]

  back_at : (xs ys : List X) (n : ℕ) → at_number xs n ≡ None → at_number (xs ++ ys) n ≡ at_number ys n
  back_at [] ys n is = refl
  back_at (y ∷ xs) ys n is =
      elim (cases_eq (number y) n) as (λ _. at_number ((y ∷ xs) ++ ys) n ≡ at_number ys n) [
        | inl same ↦ absurd (let here : at_number (y ∷ xs) n ≡ Some y = here_at y xs n same in let no : ⊥ = cc in no)
        | inr other ↦ past_at y (xs ++ ys) n other ∙ back_at xs ys n (sym (past_at y xs n other) ∙ is)
      ]

  below_found : (x : X) (xs : List X) (m : ℕ) (o : Option X) → m < number x → at_number (passing_at (λ k. nat_lt k (number x)) xs) m ≡ o → at_number (passing_at (λ k. nat_lt (number x) k) xs) m ≡ None
      → at_number (passing_at (λ k. nat_lt k (number x)) xs ++ x ∷ passing_at (λ k. nat_lt (number x) k) xs) m ≡ o
  below_found x xs m None less low high =
      back_at (passing_at (λ k. nat_lt k (number x)) xs) (x ∷ passing_at (λ k. nat_lt (number x) k) xs) m low
      ∙ past_at x (passing_at (λ k. nat_lt (number x) k) xs) m (λ same. omega (arith, less, same)) ∙ high
  below_found x xs m (Some y) less low high = front_at (passing_at (λ k. nat_lt k (number x)) xs) (x ∷ passing_at (λ k. nat_lt (number x) k) xs) m y low

  pub others_put : (x : X) (xs : List X) (m : ℕ) → m ≢ number x → at_number (passing_at (λ k. nat_lt k (number x)) xs ++ x ∷ passing_at (λ k. nat_lt (number x) k) xs) m ≡ at_number xs m
  others_put x xs m other =
      let n = number x in
      let low = passing_at (λ k. nat_lt k n) xs in
      let high = passing_at (λ k. nat_lt n k) xs in
      elim (cases_order m n) as (λ _. at_number (low ++ x ∷ high) m ≡ at_number xs m) [
        | inl same ↦ absurd (other same)
        | inr (inl less) ↦ below_found x xs m (at_number xs m) less (kept_at (λ k. nat_lt k n) xs m (lt-ltb m n less)) (gone_at (λ k. nat_lt n k) xs m (le-ltb n m (omega (arith, less))))
        | inr (inr more) ↦
            back_at low (x ∷ high) m (gone_at (λ k. nat_lt k n) xs m (le-ltb m n (omega (arith, more))))
            ∙ past_at x high m (λ same. other (sym same)) ∙ kept_at (λ k. nat_lt n k) xs m (lt-ltb n m more)
      ]

-- WHAT MEMORY IS with the new version
abbrev pub put_in_memory : Bool → Memory → FileRec → DiscCopy → List Bool → Remembered → Memory
put_in_memory pinned m rec copy pool pages = record m {
  head = head_after pinned (record m.head { next_stamp = m.head.next_stamp + 1 });
  files = tree_with_file rec m.files;
  online = with_copy_at (rec.number, copy) m.online;
  pool = pool;
  pages = pages;
  changed = with_number rec.owner m.changed;
  touched = touched_with m.pins rec.owner m.touched;
}

-- what its commit requires, and everything that must be established afterwards, except for the pool
pub record IsPut (rec : FileRec) (bytes : List ℕ) (disc : DiscState) (m n : Memory) : Type 0 where
  pub contents : contents_of disc.held (directory_in n) ≡ changed_to (is_some disc.held) (is_some m.pins) (PutFile rec bytes []) (contents_of disc.held (directory_in m))
  pub files : (directory_in n).files ≡ with_entry (rec, copy_at n.online rec.number) (directory_in m).files
  pub copies : AreCopies n.files n.online
  pub fits : All CopyFits (directory_in n).files
  pub noted : AreNoted (length n.users) (directory_in n).files n.changed n.touched
  pub pins : PinsAre n.pins disc.size n.head.next_stamp (directory_in n).files n.touched
  pub covers : (s : Side) → Covers (directory_in m) s m.pages → Covers (directory_in n) s n.pages

owner_touched : (pins : Option (List Pinned)) (n : ℕ) (touched : List ℕ) → IfSome pins (λ ps. has (touched_with pins n touched) n ≡ true)
owner_touched None n touched = tt
owner_touched (Some pins) n touched = has_with n touched

without_none : (online : Copies) → without_copies [] online ≡ online
without_none [] = refl
without_none (c ∷ online) = ap (λ (l : Copies). c ∷ l) (without_none online)

pub made_put : (rec : FileRec) (bytes : List ℕ) (copy : DiscCopy) (disc : DiscState) (m : Memory) (pool : List Bool) (pages : Remembered) → ForSome disc.held (λ blocks. bytes_at copy.blocks copy.len blocks ≡ bytes)
    → contents_of disc.held (directory_in (put_in_memory (is_some m.pins) m rec copy pool pages)) ≡ changed_to (is_some disc.held) (is_some m.pins) (PutFile rec bytes []) (contents_of disc.held (directory_in m))
made_put rec bytes copy disc m pool pages told =
    ap (λ (l : Copies). contents_of disc.held (directory_of (head_after (is_some m.pins) (record m.head { next_stamp = m.head.next_stamp + 1 })) m.users (tree_with_file rec m.files) (with_copy_at (rec.number, copy) l))) (sym (without_none m.online))
    ∙ heads (is_some m.pins)
    ∙ put_contents disc.held (is_some m.pins) m.head m.users m.files m.online rec bytes [] copy told
  where
    heads : (b : Bool) → contents_of disc.held (directory_of (head_after b (record m.head { next_stamp = m.head.next_stamp + 1 })) m.users (tree_with_file rec m.files) (with_copy_at (rec.number, copy) (without_copies [] m.online)))
        ≡ contents_of disc.held (directory_of (committed_head b (record m.head { next_stamp = m.head.next_stamp + 1 })) m.users (tree_with_file rec m.files) (with_copy_at (rec.number, copy) (without_copies [] m.online)))
    heads true = refl
    heads false = refl

pub is_put : (rec : FileRec) (bytes : List ℕ) (copy : DiscCopy) (disc : DiscState) (m : Memory) (pool : List Bool) (first pages : Remembered) → IsAgreed disc m → rec.stamp ≡ m.head.next_stamp → rec.owner < length m.users
    → IsCopyOf rec copy → ForSome disc.held (λ blocks. bytes_at copy.blocks copy.len blocks ≡ bytes)
    → CoversBut 0 m.pages first → CoversBut (64 + rec.number) first pages → IsPut rec bytes disc m (put_in_memory (is_some m.pins) m rec copy pool pages)
is_put rec bytes copy disc m pool first pages was stamp owner copied told covers covers' =
    let n : Memory = put_in_memory (is_some m.pins) m rec copy pool pages in
    let h : Head = head_after (is_some m.pins) (record m.head { next_stamp = m.head.next_stamp + 1 }) in
    let mid : Directory = directory_of h m.users m.files m.online in
    let old : List FileEntry = entries_of m.files m.online in
    let e : FileEntry = (rec, Some copy) in
    let all : with_entry e old ≡ (directory_in n).files = sym (entries_put rec copy m.files m.online) in
    record {
      contents = made_put rec bytes copy disc m pool pages told;
      files = sym all ∙ ap (λ (o : Option DiscCopy). let f : FileEntry = (rec, o) in with_entry f old) (sym (copy_at-put rec.number copy m.online));
      copies = copies_put rec copy m.files m.online was.copies;
      fits = subst (All CopyFits) all (all_put CopyFits e old copied (fits_still old was.stored.rules.lies));
      noted = subst (λ (fs : List FileEntry). AreNoted (length m.users) fs (with_number rec.owner m.changed) (touched_with m.pins rec.owner m.touched)) all
          (noted_put (length m.users) old (with_number rec.owner m.changed) (touched_with m.pins rec.owner m.touched) e
          (noted_then (length m.users) (length m.users) rec.owner old m.changed m.touched m.pins owner (omega arith) was.noted) (has_with rec.owner m.changed));
      pins = subst (λ (fs : List FileEntry). PinsAre m.pins disc.size h.next_stamp fs (touched_with m.pins rec.owner m.touched)) all
          (subst (λ (k : ℕ). PinsAre m.pins disc.size k (with_entry e old) (touched_with m.pins rec.owner m.touched)) (sym (next_kept (is_some m.pins) (record m.head { next_stamp = m.head.next_stamp + 1 })))
          (pins_put disc.size m.head.next_stamp old (touched_with m.pins rec.owner m.touched) m.pins e stamp (pins_then disc.size m.head.next_stamp rec.owner old m.touched m.pins was.pins) (owner_touched m.pins rec.owner m.touched)));
      covers = λ s covered. covers' s mid (directory_in n) (covers s (directory_in m) mid covered (but_head (directory_in m) mid refl refl))
          (but_file rec.number mid (directory_in n) refl refl (λ i other. ap (λ (fs : List FileEntry). entry_at fs i) (sym all) ∙ others_put {X = FileEntry} (λ f. f.0.number) e old i other));
    }
