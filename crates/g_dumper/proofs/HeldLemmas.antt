-- The files that a dump holds: those of some users, one user after another.
-- serves: OpeningLemmas, PlanLemmas, crates above
use Rattle.std.proofs.Common.{◌≡◌, ◌≢◌, ℕ, zero, suc, ◌+◌, ◌<◌, ◌≤◌, Bool, true, false, List, [], ◌∷◌, ◌++◌, get_or, length, refl, sym, ◌∙◌, ap, arith, subst, inl, inr, true≢false}
use Rattle.std.specs.Prelude.{◌⊎◌, ◌==◌, ◌||◌, All, AllPairs, Contains, map}
use Rattle.std.specs.List.Sorted.{IsStrictlyIncreasing}
use Rattle.std.proofs.lemmas.Bool.{cases_Bool, cond-true, eq-eqb, eqb-true, ne_eqb, or_cases}
use Rattle.std.proofs.lemmas.List.{append-nil}
use Rattle.std.proofs.lemmas.List.Elements.{All-append, All-contains, All-filter, All-head, All-nil, All-tail, Contains-append_cases, Contains-append_left, Contains-append_right, Contains-get_or, filter-append}
use Rattle.std.proofs.lemmas.List.Kept.{AllPairs-filter, AllPairs-from_increasing}
use Rattle.g_entry.specs.declared.file_rec.FileRec.{FileRec}
use Rattle.g_entry.specs.declared.user_rec.UserRec.{UserRec}
use Rattle.g_incr.specs.Layout.{holds}
use Rattle.g_incr.specs.Plan.{ComesBefore}
use Rattle.g_online.proofs.CloseNoteLemmas.{pairs_map}
use Rattle.g_tree.proofs.ListLemmas.{filter_none}
use Rattle.g_store_meaning.specs.Meaning.{files_of}
use Rattle.g_laws_store.proofs.ClosingLemmas.{contains_filter}
use Rattle.g_laws_store.proofs.RecordLemmas.{OtherUser, from_filter, gathered_by, gathered_few, gathered_pairs, owned, pairs_head, pairs_tail, pairs_append}
use Rattle.g_dumper.specs.Beginning.{held_of}

-- A USER FOR EACH NUMBER, so that files are ordered by users
numbered_user : ℕ → UserRec
numbered_user n = record { number = n; user = []; superior = 0; space = 0; time = 0; money = 0 }

by_users : (ns : List ℕ) (files : List FileRec) → held_of ns files ≡ gathered_by (map numbered_user ns) files
unfolding numbered_user
by_users [] files = refl
by_users (n ∷ ns) files = ap (λ (rs : List FileRec). files_of n files ++ rs) (by_users ns files)

others : (ns : List ℕ) → IsStrictlyIncreasing ns → AllPairs OtherUser (map numbered_user ns)
unfolding numbered_user
others ns rising = pairs_map OtherUser numbered_user ns
    (λ i j d less within same. let below = AllPairs-from_increasing ns rising i j d less within in (let no : ⊥ = omega (arith, below, same) in no))

pub held_few : (ns : List ℕ) (files : List FileRec) → IsStrictlyIncreasing ns → length (held_of ns files) ≤ length files
held_few ns files rising = subst (λ (rs : List FileRec). length rs ≤ length files) (sym (by_users ns files)) (gathered_few (map numbered_user ns) files (others ns rising))

pub held_pairs : (R : FileRec → FileRec → Type 0) → ((r s : FileRec) → R r s → R s r) → (ns : List ℕ) (files : List FileRec) → IsStrictlyIncreasing ns → AllPairs R files → AllPairs R (held_of ns files)
held_pairs R turn ns files rising all = subst (AllPairs R) (sym (by_users ns files)) (gathered_pairs R turn (map numbered_user ns) files (others ns rising) all)

pub held_all : (P : FileRec → Type 0) (ns : List ℕ) (files : List FileRec) → All P files → All P (held_of ns files)
held_all P [] files all = All-nil P
held_all P (n ∷ ns) files all = All-append P (files_of n files) (held_of ns files) (All-filter (λ (r : FileRec). r.owner == n) P files all) (held_all P ns files all)

-- WHICH FILES: those of these users
pub in_held : (ns : List ℕ) (files : List FileRec) (r : FileRec) → Contains (held_of ns files) r → Contains files r × Contains ns r.owner
in_held [] files r (i, within, is) = let no : ⊥ = omega (arith, within) in absurd no
in_held (n ∷ ns) files r there = by_part (Contains-append_cases (files_of n files) (held_of ns files) r there) (in_held ns files r)
  where
    by_part : Contains (files_of n files) r ⊎ Contains (held_of ns files) r → (Contains (held_of ns files) r → Contains files r × Contains ns r.owner) → Contains files r × Contains (n ∷ ns) r.owner
    by_part (inl here) more = (from_filter (λ (s : FileRec). s.owner == n) files r here, (0, omega arith, sym (owned n files r here)))
    by_part (inr behind) more = let (is_file, is_user) = more behind in (is_file, Contains-append_right (n ∷ []) ns r.owner is_user)

pub is_held : (ns : List ℕ) (files : List FileRec) (r : FileRec) → Contains files r → holds ns r.owner ≡ true → Contains (held_of ns files) r
is_held [] files r there held = absurd (true≢false (sym held))
is_held (n ∷ ns) files r there held = by_first (or_cases (n == r.owner) (holds ns r.owner) held) (is_held ns files r there)
  where
    by_first : ((n == r.owner) ≡ true) ⊎ (holds ns r.owner ≡ true) → (holds ns r.owner ≡ true → Contains (held_of ns files) r) → Contains (held_of (n ∷ ns) files) r
    by_first (inl is) more =
        Contains-append_left (files_of n files) (held_of ns files) r (contains_filter (λ (s : FileRec). s.owner == n) files r there (eq-eqb r.owner n (sym (eqb-true n r.owner is))))
    by_first (inr behind) more = Contains-append_right (files_of n files) (held_of ns files) r (more behind)

pub holds_there : (ns : List ℕ) (n : ℕ) → Contains ns n → holds ns n ≡ true
holds_there [] n (i, within, is) = let no : ⊥ = omega (arith, within) in absurd no
holds_there (m ∷ ms) n (zero, within, is) = ap (λ (b : Bool). b || holds ms n) (eq-eqb m n is)
holds_there (m ∷ ms) n (suc i, within, is) = by_first (m == n) (holds_there ms n (i, omega (arith, within), is))
  where
    by_first : (b : Bool) → holds ms n ≡ true → (b || holds ms n) ≡ true
    by_first true rest = refl
    by_first false rest = rest

all_owned : (n : ℕ) (files : List FileRec) → All (λ (r : FileRec). r.owner ≡ n) (files_of n files)
all_owned n files i d within = owned n files (get_or (files_of n files) i d) (Contains-get_or (files_of n files) i d within)

-- THE FILES OF ONE USER among them are those that the user has
same_of : (n : ℕ) (rs : List FileRec) → All (λ (r : FileRec). r.owner ≡ n) rs → files_of n rs ≡ rs
same_of n [] all = refl
same_of n (r ∷ rs) all =
    cond-true (r.owner == n) (r ∷ files_of n rs) (files_of n rs) (eq-eqb r.owner n (All-head (λ (s : FileRec). s.owner ≡ n) r rs all))
    ∙ ap (λ (ss : List FileRec). r ∷ ss) (same_of n rs (All-tail (λ (s : FileRec). s.owner ≡ n) r rs all))

none_of : (n : ℕ) (rs : List FileRec) → All (λ (r : FileRec). r.owner ≡ n → ⊥) rs → files_of n rs ≡ []
none_of n rs others = filter_none (λ (r : FileRec). r.owner == n) rs (λ k d within. ne_eqb (get_or rs k d).owner n (others k d within))

none_held : (n : ℕ) (ns : List ℕ) (files : List FileRec) → All (λ (m : ℕ). m ≡ n → ⊥) ns → files_of n (held_of ns files) ≡ []
none_held n ns files others =
    none_of n (held_of ns files)
    (λ k d within same.
    let r = get_or (held_of ns files) k d in
    All-contains (λ (m : ℕ). m ≡ n → ⊥) ns r.owner others (in_held ns files r (Contains-get_or (held_of ns files) k d within)).1 same)

pub held_of_one : (n : ℕ) (ns : List ℕ) (files : List FileRec) → AllPairs (λ (a b : ℕ). a < b) ns → holds ns n ≡ true → files_of n (held_of ns files) ≡ files_of n files
held_of_one n [] files rising held = absurd (true≢false (sym held))
held_of_one n (m ∷ ms) files rising held = by_first (cases_Bool (m == n)) (held_of_one n ms files (pairs_tail (λ (a b : ℕ). a < b) m ms rising))
  where
    split : files_of n (held_of (m ∷ ms) files) ≡ files_of n (files_of m files) ++ files_of n (held_of ms files)
    split = filter-append (λ (r : FileRec). r.owner == n) (files_of m files) (held_of ms files)

    by_first : ((m == n) ≡ true) ⊎ ((m == n) ≡ false) → (holds ms n ≡ true → files_of n (held_of ms files) ≡ files_of n files) → files_of n (held_of (m ∷ ms) files) ≡ files_of n files
    by_first (inl is) rest =
        let same : m ≡ n = eqb-true m n is in
        split
        ∙ ap (λ (k : ℕ). files_of n (files_of k files) ++ files_of n (held_of ms files)) same
        ∙ ap (λ (rs : List FileRec). rs ++ files_of n (held_of ms files)) (same_of n (files_of n files) (all_owned n files))
        ∙ ap (λ (rs : List FileRec). files_of n files ++ rs)
        (none_held n ms files
        (λ k d within equal.
        let above = pairs_head (λ (a b : ℕ). a < b) m ms rising k d within in
        let no : ⊥ = omega (arith, above, equal, same) in no))
        ∙ append-nil (files_of n files)
    by_first (inr isnt) rest =
        let other : m ≡ n → ⊥ = λ e. true≢false (sym (eq-eqb m n e) ∙ isnt) in
        split
        ∙ ap (λ (rs : List FileRec). rs ++ files_of n (held_of ms files))
        (none_of n (files_of m files) (λ k d within equal. other (sym (all_owned m files k d within) ∙ equal)))
        ∙ rest (sym (ap (λ (b : Bool). b || holds ms n) isnt) ∙ held)

-- IN ORDER: by owner, then by number
ordered_of : (n : ℕ) (rs : List FileRec) → All (λ (r : FileRec). r.owner ≡ n) rs → AllPairs (λ (r s : FileRec). r.number < s.number) rs → AllPairs ComesBefore rs
ordered_of n rs all rising i j d less within =
    inr (all i d (omega (arith, less, within)) ∙ sym (all j d within), rising i j d less within)

ordered : (ns : List ℕ) (files : List FileRec) → AllPairs (λ (m n : ℕ). m < n) ns → AllPairs (λ (r s : FileRec). r.number < s.number) files → AllPairs ComesBefore (held_of ns files)
ordered [] files below rising = λ i j d less within. let no : ⊥ = omega (arith, within) in absurd no
ordered (n ∷ ns) files below rising =
    pairs_append ComesBefore (files_of n files) (held_of ns files)
    (ordered_of n (files_of n files) (all_owned n files) (AllPairs-filter (λ (r s : FileRec). r.number < s.number) (λ (r : FileRec). r.owner == n) files rising))
    (ordered ns files (pairs_tail (λ (m n : ℕ). m < n) n ns below) rising)
    (λ r s in_r in_s.
    let later = All-contains (λ (m : ℕ). n < m) ns s.owner (pairs_head (λ (m n : ℕ). m < n) n ns below) (in_held ns files s in_s).1 in
    inl (subst (λ (m : ℕ). m < s.owner) (sym (owned n files r in_r)) later))

pub held_ordered : (ns : List ℕ) (files : List FileRec) → IsStrictlyIncreasing ns → AllPairs (λ (r s : FileRec). r.number < s.number) files → AllPairs ComesBefore (held_of ns files)
held_ordered ns files rising numbers = ordered ns files (AllPairs-from_increasing ns rising) numbers

-- LISTS IN ORDER that have the same elements are one list
abbrev pub Turns : {A : Type 0} → (A → A → Type 0) → Type 0
Turns {A} R = (x y : A) → R x y → R y x → ⊥

not_in_rest : {A : Type 0} (R : A → A → Type 0) → Turns R → (x : A) (xs : List A) → AllPairs R (x ∷ xs) → Contains xs x → ⊥
not_in_rest R turns x xs all there = let before = All-contains (R x) xs x (pairs_head R x xs all) there in turns x x before before

in_cons : {A : Type 0} (x : A) (xs : List A) (y : A) → Contains (x ∷ xs) y → (x ≡ y) ⊎ Contains xs y
in_cons x xs y (zero, within, is) = inl is
in_cons x xs y (suc i, within, is) = inr (i, omega (arith, within), is)

abbrev SameRests : {A : Type 0} → List A → List A → Type 0
SameRests {A} xs ys = ((z : A) → Contains xs z → Contains ys z) → ((z : A) → Contains ys z → Contains xs z) → xs ≡ ys

pub one_order : {A : Type 0} (R : A → A → Type 0) → Turns R → (xs ys : List A) → AllPairs R xs → AllPairs R ys → ((x : A) → Contains xs x → Contains ys x) → ((x : A) → Contains ys x → Contains xs x) → xs ≡ ys
one_order R turns [] [] in_xs in_ys to back = refl
one_order R turns [] (y ∷ ys) in_xs in_ys to back = let (i, within, is) = back y (0, omega arith, refl) in (let no : ⊥ = omega (arith, within) in absurd no)
one_order R turns (x ∷ xs) [] in_xs in_ys to back = let (i, within, is) = to x (0, omega arith, refl) in (let no : ⊥ = omega (arith, within) in absurd no)
one_order {A} R turns (x ∷ xs) (y ∷ ys) in_xs in_ys to back =
    by_first (in_cons y ys x (to x (0, omega arith, refl))) (in_cons x xs y (back y (0, omega arith, refl)))
    (λ forth around. one_order R turns xs ys (pairs_tail R x xs in_xs) (pairs_tail R y ys in_ys) forth around)
  where
    from_to : y ≡ x → (z : A) → Contains xs z → (y ≡ z) ⊎ Contains ys z → Contains ys z
    from_to same z there (inl is) = absurd (not_in_rest R turns x xs in_xs (subst (Contains xs) (sym is ∙ same) there))
    from_to same z there (inr more) = more

    from_back : y ≡ x → (z : A) → Contains ys z → (x ≡ z) ⊎ Contains xs z → Contains xs z
    from_back same z there (inl is) = absurd (not_in_rest R turns y ys in_ys (subst (Contains ys) (sym is ∙ sym same) there))
    from_back same z there (inr more) = more

    with_first : y ≡ x → SameRests xs ys → x ∷ xs ≡ y ∷ ys
    with_first same rests =
        ap (λ (z : A). z ∷ xs) (sym same)
        ∙ ap (λ (zs : List A). y ∷ zs)
        (rests (λ z there. from_to same z there (in_cons y ys z (to z (Contains-append_right (x ∷ []) xs z there))))
        (λ z there. from_back same z there (in_cons x xs z (back z (Contains-append_right (y ∷ []) ys z there)))))

    by_first : (y ≡ x) ⊎ Contains ys x → (x ≡ y) ⊎ Contains xs y → SameRests xs ys → x ∷ xs ≡ y ∷ ys
    by_first (inl is) other rests = with_first is rests
    by_first (inr behind) (inl is) rests = with_first (sym is) rests
    by_first (inr behind) (inr before) rests =
        absurd (turns x y (All-contains (R x) xs y (pairs_head R x xs in_xs) before) (All-contains (R y) ys x (pairs_head R y ys in_ys) behind))
