-- The blocks of files and of pinned versions, when a file is added or removed.
-- serves: BringStepLemmas, EraseLemmas, PutLemmas, PutStepLemmas
use Rattle.std.proofs.Common.{◌≡◌, ◌≢◌, ℕ, zero, suc, ◌+◌, ◌<◌, ◌≤◌, ◌==◌, Bool, true, false, List, [], ◌∷◌, ◌++◌, filter, not, Option, Some, None, All, AllPairs, refl, sym, ◌∙◌, ap, inl, inr, arith, if◌then◌else◌, cond, ◌||◌, get_or}
use Rattle.std.specs.Prelude.{Contains, nat_lt, sum_by, IfSome}
use Rattle.std.specs.List.{flat_map}
use Rattle.std.proofs.lemmas.Bool.{cases_eq, cases_order, cond-false, cond-true, eq-eqb, ne_eqb, lt-ltb, le-ltb}
use Rattle.std.proofs.lemmas.List.Elements.{All-head, All-tail, All-contains, All-weaker}
use Rattle.std.proofs.lemmas.List.Sums.{sum_by-append, sum_by-cons}
use Rattle.g_dirs.specs.Directory.{FileEntry, places_of, all_places}
use Rattle.g_online.specs.declared.pinned.Pinned.{Pinned}
use Rattle.g_online.specs.Invariant.{is_current, orphans, used_places}
use Rattle.g_online.proofs.UseLemmas.{SameUse}

sum-flat_map : {X : Type 0} (f : ℕ → ℕ) (g : X → List ℕ) (xs : List X) → sum_by f (flat_map g xs) ≡ sum_by (λ x. sum_by f (g x)) xs
sum-flat_map f g [] = refl
sum-flat_map f g (x ∷ xs) = omega (arith, sum_by-append f (g x) (flat_map g xs), sum_by-cons (λ y. sum_by f (g y)) x xs, sum-flat_map f g xs)

sum-in : {X : Type 0} (h : X → ℕ) (p : X → Bool) (x : X) (xs : List X) → p x ≡ true → sum_by h (filter p (x ∷ xs)) ≡ h x + sum_by h (filter p xs)
sum-in h p x xs is = ap (sum_by h) (cond-true (p x) (x ∷ filter p xs) (filter p xs) is) ∙ sum_by-cons h x (filter p xs)

sum-out : {X : Type 0} (h : X → ℕ) (p : X → Bool) (x : X) (xs : List X) → p x ≡ false → sum_by h (filter p (x ∷ xs)) ≡ sum_by h (filter p xs)
sum-out h p x xs is = ap (sum_by h) (cond-false (p x) (x ∷ filter p xs) (filter p xs) is)

-- A FILE AMONG FILES by its number
abbrev pub without_entry : ℕ → List FileEntry → List FileEntry
without_entry n files = filter (λ f. not (f.0.number == n)) files

abbrev pub with_entry : FileEntry → List FileEntry → List FileEntry
with_entry e files = filter (λ f. nat_lt f.0.number e.0.number) files ++ e ∷ filter (λ f. nat_lt e.0.number f.0.number) files

abbrev pub RisingEntries : List FileEntry → Type 0
RisingEntries files = AllPairs (λ e f. e.0.number < f.0.number) files

rest_rises : (e : FileEntry) (files : List FileEntry) → RisingEntries (e ∷ files) → RisingEntries files
rest_rises e files rising i j d before inside = rising (suc i) (suc j) d (omega (arith, before)) (omega (arith, inside))

first_below : (e : FileEntry) (files : List FileEntry) → RisingEntries (e ∷ files) → All (λ f. e.0.number < f.0.number) files
first_below e files rising k d inside = rising 0 (suc k) d (omega arith) (omega (arith, inside))

not_eq : (n m : ℕ) → n ≢ m → not (n == m) ≡ true
not_eq n m other = ap not (ne_eqb n m other)

is_eq : (n m : ℕ) → n ≡ m → not (n == m) ≡ false
is_eq n m same = ap not (eq-eqb n m same)

-- without a number that no file has
pub without_none : (n : ℕ) (files : List FileEntry) → All (λ f. f.0.number ≢ n) files → without_entry n files ≡ files
without_none n [] away = refl
without_none n (e ∷ files) away =
    let P : FileEntry → Type 0 = λ f. f.0.number ≢ n in
    cond-true (not (e.0.number == n)) (e ∷ without_entry n files) (without_entry n files) (not_eq e.0.number n (All-head P e files away))
    ∙ ap (λ (l : List FileEntry). e ∷ l) (without_none n files (All-tail P e files away))

-- A FILE AND THE OTHERS
pub sum_split : (h : FileEntry → ℕ) (e : FileEntry) (files : List FileEntry) → RisingEntries files → Contains files e → sum_by h files ≡ h e + sum_by h (without_entry e.0.number files)
sum_split h e [] rising (k, inside, is) = let no : ⊥ = omega (arith, inside) in absurd no
sum_split h e (x ∷ files) rising (zero, inside, is) =
    let n = e.0.number in
    let firsts = first_below x files rising in
    let same : x.0.number ≡ n = ap (λ (f : FileEntry). f.0.number) is in
    let away : All (λ f. f.0.number ≢ n) files = All-weaker (λ (f : FileEntry). x.0.number < f.0.number) (λ (f : FileEntry). f.0.number ≢ n) (λ f less equal. omega (arith, less, equal, same)) files firsts in
    omega (arith, sum_by-cons h x files, sum-out h (λ f. not (f.0.number == n)) x files (is_eq x.0.number n same), ap (sum_by h) (without_none n files away), ap h is)
sum_split h e (x ∷ files) rising (suc k, inside, is) =
    let n = e.0.number in
    let there : Contains files e = (k, omega (arith, inside), is) in
    let less : x.0.number < n = All-contains (λ f. x.0.number < f.0.number) files e (first_below x files rising) there in
    omega (arith, sum_by-cons h x files, sum-in h (λ f. not (f.0.number == n)) x files (not_eq x.0.number n (λ same. omega (arith, same, less))), sum_split h e files (rest_rises x files rising) there)

low_and_high : (h : FileEntry → ℕ) (n : ℕ) (files : List FileEntry) → sum_by h (filter (λ f. nat_lt f.0.number n) files) + sum_by h (filter (λ f. nat_lt n f.0.number) files) ≡ sum_by h (without_entry n files)
low_and_high h n [] = refl
low_and_high h n (x ∷ files) =
    let m = x.0.number in
    let low : FileEntry → Bool = λ f. nat_lt f.0.number n in
    let high : FileEntry → Bool = λ f. nat_lt n f.0.number in
    let others : FileEntry → Bool = λ f. not (f.0.number == n) in
    let rest = low_and_high h n files in
    elim (cases_order m n) as (λ _. sum_by h (filter low (x ∷ files)) + sum_by h (filter high (x ∷ files)) ≡ sum_by h (filter others (x ∷ files))) [
      | inl same ↦ omega (arith, sum-out h low x files (le-ltb m n (omega (arith, same))), sum-out h high x files (le-ltb n m (omega (arith, same))), sum-out h others x files (is_eq m n same), rest)
      | inr (inl less) ↦ omega (arith, sum-in h low x files (lt-ltb m n less), sum-out h high x files (le-ltb n m (omega (arith, less))), sum-in h others x files (not_eq m n (λ same. omega (arith, same, less))), rest)
      | inr (inr more) ↦ omega (arith, sum-out h low x files (le-ltb m n (omega (arith, more))), sum-in h high x files (lt-ltb n m more), sum-in h others x files (not_eq m n (λ same. omega (arith, same, more))), rest)
    ]

pub sum_with : (h : FileEntry → ℕ) (e : FileEntry) (files : List FileEntry) → sum_by h (with_entry e files) ≡ h e + sum_by h (without_entry e.0.number files)
sum_with h e files =
    let low = filter (λ f. nat_lt f.0.number e.0.number) files in
    let high = filter (λ f. nat_lt e.0.number f.0.number) files in
    omega (arith, sum_by-append h low (e ∷ high), sum_by-cons h e high, low_and_high h e.0.number files)

-- THE BLOCKS OF FILES
pub places_split : (e : FileEntry) (files : List FileEntry) → RisingEntries files → Contains files e → SameUse (all_places files) (places_of e ++ all_places (without_entry e.0.number files))
places_split e files rising there f =
    let h : FileEntry → ℕ = λ g. sum_by f (places_of g) in
    omega (arith, sum-flat_map f places_of files, sum-flat_map f places_of (without_entry e.0.number files), sum_by-append f (places_of e) (all_places (without_entry e.0.number files)), sum_split h e files rising there)

pub places_with : (e : FileEntry) (files : List FileEntry) → SameUse (all_places (with_entry e files)) (places_of e ++ all_places (without_entry e.0.number files))
places_with e files f =
    let h : FileEntry → ℕ = λ g. sum_by f (places_of g) in
    omega (arith, sum-flat_map f places_of (with_entry e files), sum-flat_map f places_of (without_entry e.0.number files), sum_by-append f (places_of e) (all_places (without_entry e.0.number files)), sum_with h e files)

-- THE VERSIONS THAT ARE FILES'
abbrev dated : ℕ → FileEntry → ℕ
dated s f = if f.0.stamp == s then 1 else 0

dated_yes : (s : ℕ) (f : FileEntry) → f.0.stamp ≡ s → dated s f ≡ 1
dated_yes s f same = cond-true (f.0.stamp == s) 1 0 (eq-eqb f.0.stamp s same)

dated_no : (s : ℕ) (f : FileEntry) → f.0.stamp ≢ s → dated s f ≡ 0
dated_no s f other = cond-false (f.0.stamp == s) 1 0 (ne_eqb f.0.stamp s other)

current_by_count : (s : ℕ) (files : List FileEntry) → is_current files s ≡ nat_lt 0 (sum_by (dated s) files)
current_by_count s [] = refl
current_by_count s (e ∷ files) =
    elim (cases_eq e.0.stamp s) as (λ _. is_current (e ∷ files) s ≡ nat_lt 0 (sum_by (dated s) (e ∷ files))) [
      | inl same ↦
          ap (λ (b : Bool). b || is_current files s) (eq-eqb e.0.stamp s same)
          ∙ sym (lt-ltb 0 (sum_by (dated s) (e ∷ files)) (omega (arith, sum_by-cons (dated s) e files, dated_yes s e same)))
      | inr other ↦
          let count : sum_by (dated s) (e ∷ files) ≡ sum_by (dated s) files = omega (arith, sum_by-cons (dated s) e files, dated_no s e other) in
          ap (λ (b : Bool). b || is_current files s) (ne_eqb e.0.stamp s other) ∙ current_by_count s files ∙ ap (λ (n : ℕ). nat_lt 0 n) (sym count)
    ]

same_current : (s : ℕ) (old new : List FileEntry) → sum_by (dated s) new ≡ sum_by (dated s) old → is_current new s ≡ is_current old s
same_current s old new same = current_by_count s new ∙ ap (λ (n : ℕ). nat_lt 0 n) same ∙ sym (current_by_count s old)

-- a file of another version is added or removed
current_without : (s : ℕ) (e : FileEntry) (files : List FileEntry) → RisingEntries files → Contains files e → e.0.stamp ≢ s → is_current (without_entry e.0.number files) s ≡ is_current files s
current_without s e files rising there other =
    same_current s files (without_entry e.0.number files) (omega (arith, sum_split (dated s) e files rising there, dated_no s e other))

current_with : (s : ℕ) (e : FileEntry) (files : List FileEntry) → e.0.stamp ≢ s → is_current (with_entry e files) s ≡ is_current (without_entry e.0.number files) s
current_with s e files other =
    same_current s (without_entry e.0.number files) (with_entry e files) (omega (arith, sum_with (dated s) e files, dated_no s e other))

-- no other file has the version of a removed file
one_of_stamp : (e : FileEntry) (files : List FileEntry) → AllPairs (λ f g. f.0.stamp ≢ g.0.stamp) files → Contains files e → sum_by (dated e.0.stamp) files ≤ 1
one_of_stamp e [] apart there = omega arith
one_of_stamp e (x ∷ files) apart (zero, inside, is) =
    let s = e.0.stamp in
    let same : x.0.stamp ≡ s = ap (λ (f : FileEntry). f.0.stamp) is in
    let others : All (λ f. f.0.stamp ≢ s) files = λ k d within equal. apart 0 (suc k) d (omega arith) (omega (arith, within)) (same ∙ sym equal) in
    omega (arith, sum_by-cons (dated s) x files, dated_yes s x same, none_of_stamp s files others)
  where
    none_of_stamp : (s : ℕ) (files : List FileEntry) → All (λ f. f.0.stamp ≢ s) files → sum_by (dated s) files ≡ 0
    none_of_stamp s [] away = refl
    none_of_stamp s (x ∷ files) away =
        let P : FileEntry → Type 0 = λ f. f.0.stamp ≢ s in
        omega (arith, sum_by-cons (dated s) x files, dated_no s x (All-head P x files away), none_of_stamp s files (All-tail P x files away))
one_of_stamp e (x ∷ files) apart (suc k, inside, is) =
    let s = e.0.stamp in
    let there : Contains files e = (k, omega (arith, inside), is) in
    let rest : AllPairs (λ f g. f.0.stamp ≢ g.0.stamp) files = λ i j d before within. apart (suc i) (suc j) d (omega (arith, before)) (omega (arith, within)) in
    let Q : FileEntry → Type 0 = λ f. x.0.stamp ≢ f.0.stamp in
    let other : x.0.stamp ≢ s = All-contains Q files e (λ j d within. apart 0 (suc j) d (omega arith) (omega (arith, within))) there in
    omega (arith, sum_by-cons (dated s) x files, dated_no s x other, one_of_stamp e files rest there)

current_gone : (e : FileEntry) (files : List FileEntry) → RisingEntries files → AllPairs (λ f g. f.0.stamp ≢ g.0.stamp) files → Contains files e → is_current (without_entry e.0.number files) e.0.stamp ≡ false
current_gone e files rising apart there =
    let s = e.0.stamp in
    current_by_count s (without_entry e.0.number files)
    ∙ le-ltb 0 (sum_by (dated s) (without_entry e.0.number files)) (omega (arith, sum_split (dated s) e files rising there, dated_yes s e refl, one_of_stamp e files apart there))

current_there : (e : FileEntry) (files : List FileEntry) → RisingEntries files → Contains files e → is_current files e.0.stamp ≡ true
current_there e files rising there =
    let s = e.0.stamp in
    current_by_count s files ∙ lt-ltb 0 (sum_by (dated s) files) (omega (arith, sum_split (dated s) e files rising there, dated_yes s e refl))

-- orphans depend on which pinned versions are files'
pub orphans_same : (pins : List Pinned) (old new : List FileEntry) → All (λ p. is_current new p.stamp ≡ is_current old p.stamp) pins → orphans (Some pins) new ≡ orphans (Some pins) old
orphans_same [] old new same = refl
orphans_same (p ∷ pins) old new same =
    let P : Pinned → Type 0 = λ q. is_current new q.stamp ≡ is_current old q.stamp in
    let rest = orphans_same pins old new (All-tail P p pins same) in
    let lost : List Pinned = filter (λ q. not (is_current new q.stamp)) pins in
    ap (λ (b : Bool). flat_map (λ (q : Pinned). q.blocks) (cond (not b) (p ∷ lost) lost)) (All-head P p pins same) ∙ by_current (is_current old p.stamp) rest
  where
    by_current : (b : Bool) → orphans (Some pins) new ≡ orphans (Some pins) old
        → flat_map (λ (q : Pinned). q.blocks) (cond (not b) (p ∷ filter (λ q. not (is_current new q.stamp)) pins) (filter (λ q. not (is_current new q.stamp)) pins))
        ≡ flat_map (λ (q : Pinned). q.blocks) (cond (not b) (p ∷ filter (λ q. not (is_current old q.stamp)) pins) (filter (λ q. not (is_current old q.stamp)) pins))
    by_current true rest = rest
    by_current false rest = ap (λ (l : List ℕ). p.blocks ++ l) rest

-- no pinned version is added or removed
pub orphans_kept : (pins : Option (List Pinned)) (old new : List FileEntry) → IfSome pins (All (λ p. is_current new p.stamp ≡ is_current old p.stamp)) → orphans pins new ≡ orphans pins old
orphans_kept None old new same = refl
orphans_kept (Some pins) old new same = orphans_same pins old new same

-- a version that isn't pinned
abbrev pub NotPinned : ℕ → Option (List Pinned) → Type 0
NotPinned s pins = IfSome pins (All (λ p. p.stamp ≢ s))

away_from : (s : ℕ) (pins : Option (List Pinned)) (P : ℕ → Type 0) → ((t : ℕ) → s ≢ t → P t) → NotPinned s pins → IfSome pins (All (λ p. P p.stamp))
away_from s None P each away = tt
away_from s (Some pins) P each away = All-weaker (λ (p : Pinned). p.stamp ≢ s) (λ (p : Pinned). P p.stamp) (λ p other. each p.stamp (λ same. other (sym same))) pins away

-- one file more is used, if the same pins are orphans
used_more : (f : ℕ → ℕ) (pins : Option (List Pinned)) (e : FileEntry) (more others : List FileEntry) → orphans pins more ≡ orphans pins others
    → sum_by f (all_places more) ≡ sum_by f (places_of e ++ all_places others) → sum_by f (used_places pins more) ≡ sum_by f (places_of e ++ used_places pins others)
used_more f pins e more others lost split =
    omega (
      arith,
      split,
      ap (sum_by f) lost,
      sum_by-append f (all_places more) (orphans pins more),
      sum_by-append f (places_of e) (all_places others),
      sum_by-append f (places_of e) (used_places pins others),
      sum_by-append f (all_places others) (orphans pins others),
    )

-- A FILE THAT ISN'T PINNED GOES: its blocks are no longer used
pub used_without : (pins : Option (List Pinned)) (e : FileEntry) (files : List FileEntry) → RisingEntries files → Contains files e → NotPinned e.0.stamp pins
    → SameUse (used_places pins files) (places_of e ++ used_places pins (without_entry e.0.number files))
used_without pins e files rising there away f =
    let others = without_entry e.0.number files in
    let lost : orphans pins others ≡ orphans pins files =
    orphans_kept pins files others (away_from e.0.stamp pins (λ s. is_current others s ≡ is_current files s) (λ s other. current_without s e files rising there other) away) in
    used_more f pins e files others (sym lost) (places_split e files rising there f)

-- a file with a new version is added, in place of one of its number
pub used_with : (pins : Option (List Pinned)) (e : FileEntry) (files : List FileEntry) → NotPinned e.0.stamp pins
    → SameUse (used_places pins (with_entry e files)) (places_of e ++ used_places pins (without_entry e.0.number files))
used_with pins e files away f =
    let others = without_entry e.0.number files in
    let new = with_entry e files in
    let lost : orphans pins new ≡ orphans pins others =
    orphans_kept pins others new (away_from e.0.stamp pins (λ s. is_current new s ≡ is_current others s) (λ s other. current_with s e files other) away) in
    used_more f pins e new others lost (places_with e files f)

-- A PINNED FILE IS REMOVED: its blocks stay used
orphan-cons : (f : ℕ → ℕ) (p : Pinned) (pins : List Pinned) (files : List FileEntry)
    → sum_by f (orphans (Some (p ∷ pins)) files) ≡ (if is_current files p.stamp then 0 else sum_by f p.blocks) + sum_by f (orphans (Some pins) files)
orphan-cons f p pins files = by_current (is_current files p.stamp)
  where
    by_current : (b : Bool) → sum_by f (flat_map (λ (q : Pinned). q.blocks) (cond (not b) (p ∷ filter (λ q. not (is_current files q.stamp)) pins) (filter (λ q. not (is_current files q.stamp)) pins)))
        ≡ (if b then 0 else sum_by f p.blocks) + sum_by f (orphans (Some pins) files)
    by_current true = omega arith
    by_current false = sum_by-append f p.blocks (orphans (Some pins) files)

pub orphan_more : (f : ℕ → ℕ) (p : Pinned) (pins : List Pinned) (old new : List FileEntry) → AllPairs (λ p q. p.stamp ≢ q.stamp) pins → Contains pins p
    → is_current old p.stamp ≡ true → is_current new p.stamp ≡ false → ((s : ℕ) → p.stamp ≢ s → is_current new s ≡ is_current old s)
    → sum_by f (orphans (Some pins) new) ≡ sum_by f p.blocks + sum_by f (orphans (Some pins) old)
orphan_more f p [] old new apart (k, inside, is) was now others = let no : ⊥ = omega (arith, inside) in absurd no
orphan_more f p (q ∷ pins) old new apart (zero, inside, is) was now others =
    let away : All (λ r. is_current new r.stamp ≡ is_current old r.stamp) pins =
    λ k d within. others (get_or pins k d).stamp (λ same. apart 0 (suc k) d (omega arith) (omega (arith, within)) (ap (λ (r : Pinned). r.stamp) is ∙ same)) in
    let rest = orphans_same pins old new away in
    let was_q : is_current old q.stamp ≡ true = ap (λ (r : Pinned). is_current old r.stamp) is ∙ was in
    let now_q : is_current new q.stamp ≡ false = ap (λ (r : Pinned). is_current new r.stamp) is ∙ now in
    omega (
      arith,
      orphan-cons f q pins new,
      orphan-cons f q pins old,
      cond-false (is_current new q.stamp) 0 (sum_by f q.blocks) now_q,
      cond-true (is_current old q.stamp) 0 (sum_by f q.blocks) was_q,
      ap (sum_by f) rest,
      ap (λ (r : Pinned). sum_by f r.blocks) is,
    )
orphan_more f p (q ∷ pins) old new apart (suc k, inside, is) was now others =
    let there : Contains pins p = (k, omega (arith, inside), is) in
    let rest_apart : AllPairs (λ p q. p.stamp ≢ q.stamp) pins = λ i j d before within. apart (suc i) (suc j) d (omega (arith, before)) (omega (arith, within)) in
    let Q : Pinned → Type 0 = λ r. q.stamp ≢ r.stamp in
    let other : q.stamp ≢ p.stamp = All-contains Q pins p (λ j d within. apart 0 (suc j) d (omega arith) (omega (arith, within))) there in
    let same : is_current new q.stamp ≡ is_current old q.stamp = others q.stamp (λ equal. other (sym equal)) in
    omega (arith, orphan-cons f q pins new, orphan-cons f q pins old, ap (λ (b : Bool). if b then 0 else sum_by f q.blocks) same, orphan_more f p pins old new rest_apart there was now others)

pub used_without_pinned : (p : Pinned) (pins : List Pinned) (e : FileEntry) (files : List FileEntry) → RisingEntries files → AllPairs (λ f g. f.0.stamp ≢ g.0.stamp) files → Contains files e
    → AllPairs (λ p q. p.stamp ≢ q.stamp) pins → Contains pins p → p.stamp ≡ e.0.stamp → p.blocks ≡ places_of e
    → SameUse (used_places (Some pins) files) (used_places (Some pins) (without_entry e.0.number files))
used_without_pinned p pins e files rising stamps there apart pinned same blocks f =
    let others = without_entry e.0.number files in
    let was : is_current files p.stamp ≡ true = ap (is_current files) same ∙ current_there e files rising there in
    let now : is_current others p.stamp ≡ false = ap (is_current others) same ∙ current_gone e files rising stamps there in
    let more = orphan_more f p pins files others apart pinned was now (λ s other. current_without s e files rising there (λ equal. other (same ∙ equal))) in
    let split = places_split e files rising there f in
    omega (arith, split, more, ap (sum_by f) blocks, sum_by-append f (all_places files) (orphans (Some pins) files), sum_by-append f (places_of e) (all_places others), sum_by-append f (all_places others) (orphans (Some pins) others))
