-- Records that are gathered user by user satisfy the rules that they satisfied in order of number.
-- serves: AdoptLemmas, CopyLemmas, ForgetLemmas, NeedsLemmas, OpenedLemmas, OpeningLemmas, OwnLemmas, PlaceLemmas, ReleaseLemmas, SetLemmas, and 3 more
use Rattle.std.proofs.Common.{◌≡◌, ◌≢◌, ℕ, zero, suc, ◌+◌, ◌<◌, ◌≤◌, Bool, true, false, List, [], ◌∷◌, ◌++◌, get_or, length, refl, sym, ◌∙◌, ap, arith, subst, inl, inr}
use Rattle.std.specs.Prelude.{◌⊎◌, ◌==◌, All, AllPairs, Contains, filter, map}
use Rattle.std.specs.List.{flat_map}
use Rattle.std.proofs.lemmas.Bool.{cases_Bool, cases_order, cond-false, cond-true, eqb-true, ne_eqb}
use Rattle.std.proofs.lemmas.List.{get_or-map, get_or_default, length-append, length-map}
use Rattle.std.proofs.lemmas.List.Elements.{All-append, All-cons, All-contains, All-contains_itself, All-filter, All-head, All-map, All-nil, All-tail, All-weaker, Contains-append_cases, Contains-append_right, Contains-get_or, filter_passes}
use Rattle.std.proofs.lemmas.List.Kept.{AllPairs-filter}
use Rattle.std.proofs.lemmas.Option.{slice_get-get_or}
use Rattle.g_entry.specs.declared.file_rec.FileRec.{FileRec}
use Rattle.g_entry.specs.declared.user_rec.UserRec.{UserRec}
use Rattle.g_entry.specs.Rules.{AreUsers}
use Rattle.g_incr.specs.Plan.{numbered_from, with_number}
use Rattle.g_store_meaning.specs.Meaning.{files_of}
use Rattle.g_store_meaning.specs.StoreInvariant.{unnumbered}

-- a filter has nothing of its own
pub from_filter : {A : Type 0} (p : A → Bool) (xs : List A) (x : A) → Contains (filter p xs) x → Contains xs x
from_filter p xs x there = All-contains (Contains xs) (filter p xs) x (All-filter p (Contains xs) xs (All-contains_itself xs)) there

-- PAIRS of a list
pub pairs_head : {A : Type 0} (R : A → A → Type 0) (x : A) (xs : List A) → AllPairs R (x ∷ xs) → All (R x) xs
pairs_head R x xs all j d within = all 0 (suc j) d (omega arith) (omega (arith, within))

pub pairs_tail : {A : Type 0} (R : A → A → Type 0) (x : A) (xs : List A) → AllPairs R (x ∷ xs) → AllPairs R xs
pairs_tail R x xs all i j d less within = all (suc i) (suc j) d (omega (arith, less)) (omega (arith, within))

pub pairs_cons : {A : Type 0} (R : A → A → Type 0) (x : A) (xs : List A) → All (R x) xs → AllPairs R xs → AllPairs R (x ∷ xs)
pairs_cons R x xs first rest zero zero d less within = let no : ⊥ = omega (arith, less) in absurd no
pairs_cons R x xs first rest zero (suc j) d less within = first j d (omega (arith, within))
pairs_cons R x xs first rest (suc i) zero d less within = let no : ⊥ = omega (arith, less) in absurd no
pairs_cons R x xs first rest (suc i) (suc j) d less within = rest i j d (omega (arith, less)) (omega (arith, within))

pub pairs_append : {A : Type 0} (R : A → A → Type 0) (xs ys : List A) → AllPairs R xs → AllPairs R ys → ((x y : A) → Contains xs x → Contains ys y → R x y) → AllPairs R (xs ++ ys)
pairs_append R [] ys in_xs in_ys across = in_ys
pairs_append R (x ∷ xs) ys in_xs in_ys across =
    pairs_cons R x (xs ++ ys)
    (All-append (R x) xs ys (pairs_head R x xs in_xs) (λ j d within. across x (get_or ys j d) (0, omega arith, refl) (Contains-get_or ys j d within)))
    (pairs_append R xs ys (pairs_tail R x xs in_xs) in_ys (λ a b in_a in_b. across a b (Contains-append_right (x ∷ []) xs a in_a) in_b))

-- two elements of a list in which each two are apart
pub apart_in : {A : Type 0} (R : A → A → Type 0) → ((x y : A) → R x y → R y x) → (xs : List A) → AllPairs R xs → (x y : A) → Contains xs x → Contains xs y → (x ≡ y → ⊥) → R x y
apart_in {A} R turn xs apart x y (i, in_x, is_x) (j, in_y, is_y) other = by_order (cases_order i j)
  where
    at_y : get_or xs j x ≡ y
    at_y = get_or_default xs j x y in_y ∙ is_y

    by_order : (i ≡ j) ⊎ ((i < j) ⊎ (j < i)) → R x y
    by_order (inl same) = absurd (other (sym is_x ∙ ap (λ (n : ℕ). get_or xs n x) same ∙ at_y))
    by_order (inr (inl less)) = subst (λ (z : A). R z y) is_x (subst (λ (z : A). R (get_or xs i x) z) at_y (apart i j x less in_y))
    by_order (inr (inr less)) = turn y x (subst (λ (z : A). R z x) at_y (subst (λ (z : A). R (get_or xs j x) z) is_x (apart j i x less in_x)))

-- directories one after another
abbrev pub gathered_by : List UserRec → List FileRec → List FileRec
gathered_by users files = flat_map (λ (u : UserRec). files_of u.number files) users

pub owned : (n : ℕ) (files : List FileRec) (r : FileRec) → Contains (files_of n files) r → r.owner ≡ n
owned n files r there =
    eqb-true r.owner n (All-contains (λ (s : FileRec). (s.owner == n) ≡ true) (files_of n files) r (filter_passes (λ (s : FileRec). s.owner == n) files) there)

in_gathered : (users : List UserRec) (files : List FileRec) (r : FileRec) → Contains (gathered_by users files) r → (u : UserRec) × Contains users u × Contains (files_of u.number files) r
in_gathered [] files r (i, within, is) = let no : ⊥ = omega (arith, within) in absurd no
in_gathered (u ∷ us) files r there = by_part (Contains-append_cases (files_of u.number files) (gathered_by us files) r there) (in_gathered us files r)
  where
    by_part : Contains (files_of u.number files) r ⊎ Contains (gathered_by us files) r → (Contains (gathered_by us files) r → (v : UserRec) × Contains us v × Contains (files_of v.number files) r)
        → (v : UserRec) × Contains (u ∷ us) v × Contains (files_of v.number files) r
    by_part (inl here) more = (u, (0, omega arith, refl), here)
    by_part (inr behind) more = let (v, there_v, is_of) = more behind in (v, Contains-append_right (u ∷ []) us v there_v, is_of)

pub gathered_all_of : (P : FileRec → Type 0) (users : List UserRec) (files : List FileRec) → All P files → All P (gathered_by users files)
gathered_all_of P [] files all = All-nil P
gathered_all_of P (u ∷ us) files all =
    All-append P (files_of u.number files) (gathered_by us files) (All-filter (λ (r : FileRec). r.owner == u.number) P files all) (gathered_all_of P us files all)

abbrev pub OtherUser : UserRec → UserRec → Type 0
OtherUser u v = u.number ≢ v.number

pub gathered_pairs : (R : FileRec → FileRec → Type 0) → ((r s : FileRec) → R r s → R s r) → (users : List UserRec) (files : List FileRec) → AllPairs OtherUser users → AllPairs R files
    → AllPairs R (gathered_by users files)
gathered_pairs R turn [] files others all = λ i j d less within. let no : ⊥ = omega (arith, within) in absurd no
gathered_pairs R turn (u ∷ us) files others all =
    pairs_append R (files_of u.number files) (gathered_by us files) (AllPairs-filter R (λ (r : FileRec). r.owner == u.number) files all)
    (gathered_pairs R turn us files (pairs_tail OtherUser u us others) all)
    (λ r s in_r in_s.
    let (v, in_us, is_of) = in_gathered us files s in_s in
    let other = All-contains (OtherUser u) us v (pairs_head OtherUser u us others) in_us in
    apart_in R turn files all r s (from_filter (λ (q : FileRec). q.owner == u.number) files r in_r) (from_filter (λ (q : FileRec). q.owner == v.number) files s is_of)
    (λ same. other (sym (owned u.number files r in_r) ∙ ap (λ (q : FileRec). q.owner) same ∙ owned v.number files s is_of)))

-- no more than there were
none_gathered : (users : List UserRec) → gathered_by users [] ≡ []
none_gathered [] = refl
none_gathered (u ∷ us) = none_gathered us

abbrev IsntOf : ℕ → UserRec → Type 0
IsntOf owner u = u.number ≡ owner → ⊥

passed_by : (r : FileRec) (files : List FileRec) (users : List UserRec) → All (IsntOf r.owner) users → gathered_by users (r ∷ files) ≡ gathered_by users files
passed_by r files [] all = refl
passed_by r files (u ∷ us) all =
    ap (λ (rs : List FileRec). rs ++ gathered_by us (r ∷ files))
    (cond-false (r.owner == u.number) (r ∷ files_of u.number files) (files_of u.number files) (ne_eqb r.owner u.number (λ e. All-head (IsntOf r.owner) u us all (sym e))))
    ∙ ap (λ (rs : List FileRec). files_of u.number files ++ rs) (passed_by r files us (All-tail (IsntOf r.owner) u us all))

one_more : (r : FileRec) (files : List FileRec) (users : List UserRec) → AllPairs OtherUser users → length (gathered_by users (r ∷ files)) ≤ suc (length (gathered_by users files))
one_more r files [] others = omega arith
one_more r files (u ∷ us) others = by_owner (cases_Bool (r.owner == u.number)) (one_more r files us (pairs_tail OtherUser u us others))
  where
    here : List FileRec
    here = files_of u.number files

    by_owner : ((r.owner == u.number) ≡ true) ⊎ ((r.owner == u.number) ≡ false) → length (gathered_by us (r ∷ files)) ≤ suc (length (gathered_by us files))
        → length (gathered_by (u ∷ us) (r ∷ files)) ≤ suc (length (gathered_by (u ∷ us) files))
    by_owner (inl is) rest =
        let same = passed_by r files us (All-weaker (OtherUser u) (IsntOf r.owner) (λ v other e. other (sym (eqb-true r.owner u.number is) ∙ sym e)) us (pairs_head OtherUser u us others)) in
        let long : length (gathered_by (u ∷ us) (r ∷ files)) ≡ suc (length (files_of u.number files) + length (gathered_by us files)) =
        ap (λ (rs : List FileRec). length (rs ++ gathered_by us (r ∷ files))) (cond-true (r.owner == u.number) (r ∷ files_of u.number files) (files_of u.number files) is)
        ∙ ap (λ (rs : List FileRec). length (r ∷ (files_of u.number files ++ rs))) same
        ∙ ap suc (length-append (files_of u.number files) (gathered_by us files)) in
        let old = length-append (files_of u.number files) (gathered_by us files) in
        omega (arith, long, old)
    by_owner (inr isnt) rest =
        let long : length (gathered_by (u ∷ us) (r ∷ files)) ≡ length (files_of u.number files) + length (gathered_by us (r ∷ files)) =
        ap (λ (rs : List FileRec). length (rs ++ gathered_by us (r ∷ files))) (cond-false (r.owner == u.number) (r ∷ files_of u.number files) (files_of u.number files) isnt)
        ∙ length-append (files_of u.number files) (gathered_by us (r ∷ files)) in
        let old = length-append (files_of u.number files) (gathered_by us files) in
        omega (arith, long, old, rest)

pub gathered_few : (users : List UserRec) (files : List FileRec) → AllPairs OtherUser users → length (gathered_by users files) ≤ length files
gathered_few users [] others = let none = ap (λ (rs : List FileRec). length rs) (none_gathered users) in omega (arith, none)
gathered_few users (r ∷ rs) others =
    let more = one_more r rs users others in
    let rest = gathered_few users rs others in
    omega (arith, more, rest)

-- users have distinct numbers
user_at : (users : List UserRec) → AreUsers users → (i : ℕ) (d : UserRec) → i < length users → (get_or users i d).number ≡ i
user_at users are i d within = are.numbered i (get_or users i d) (slice_get-get_or users i d within)

pub users_apart : (users : List UserRec) → AreUsers users → AllPairs OtherUser users
users_apart users are i j d less within same =
    let one = user_at users are i d (omega (arith, less, within)) in
    let two = user_at users are j d within in
    (let no : ⊥ = omega (arith, less, same, one, two) in no)

-- WHAT DOESN'T DEPEND ON NUMBERS
all_unmapped : {A : Type 0} (P : A → Type 0) (f : A → A) (xs : List A) → All P (map f xs) → All (λ x. P (f x)) xs
all_unmapped P f [] all = All-nil (λ x. P (f x))
all_unmapped P f (x ∷ xs) all = All-cons (λ y. P (f y)) x xs (All-head P (f x) (map f xs) all) (all_unmapped P f xs (All-tail P (f x) (map f xs) all))

pub same_all : (P : FileRec → Type 0) → ((r : FileRec) → P r → P (unnumbered r)) → ((r : FileRec) → P (unnumbered r) → P r) → (a b : List FileRec)
    → map unnumbered a ≡ map unnumbered b → All P b → All P a
same_all P to back a b same all =
    All-weaker (λ (r : FileRec). P (unnumbered r)) P back a
    (all_unmapped P unnumbered a (subst (All P) (sym same) (All-map P unnumbered b (All-weaker P (λ (r : FileRec). P (unnumbered r)) to b all))))

pub pairs_mapped : {A : Type 0} (R : A → A → Type 0) (f : A → A) (xs : List A) → AllPairs (λ x y. R (f x) (f y)) xs → AllPairs R (map f xs)
pairs_mapped {A} R f xs all i j d less within =
    let long = length-map xs f in
    let in_j : j < length xs = omega (arith, within, long) in
    let in_i : i < length xs = omega (arith, less, in_j) in
    subst (λ (y : A). R (get_or (map f xs) i d) y) (sym (get_or-map f xs j d d in_j))
    (subst (λ (x : A). R x (f (get_or xs j d))) (sym (get_or-map f xs i d d in_i)) (all i j d less in_j))

pairs_unmapped : {A : Type 0} (R : A → A → Type 0) (f : A → A) (xs : List A) → AllPairs R (map f xs) → AllPairs (λ x y. R (f x) (f y)) xs
pairs_unmapped {A} R f xs all i j d less within =
    let long = length-map xs f in
    let in_i : i < length xs = omega (arith, less, within) in
    subst (λ (y : A). R (f (get_or xs i d)) y) (get_or-map f xs j d d within)
    (subst (λ (x : A). R x (get_or (map f xs) j d)) (get_or-map f xs i d d in_i) (all i j d less (omega (arith, within, long))))

pub same_pairs : (R : FileRec → FileRec → Type 0) → ((r s : FileRec) → R r s → R (unnumbered r) (unnumbered s)) → ((r s : FileRec) → R (unnumbered r) (unnumbered s) → R r s)
    → (a b : List FileRec) → map unnumbered a ≡ map unnumbered b → AllPairs R b → AllPairs R a
same_pairs R to back a b same all =
    let of_b : AllPairs R (map unnumbered b) = pairs_mapped R unnumbered b (λ i j d less within. to (get_or b i d) (get_or b j d) (all i j d less within)) in
    let of_a = pairs_unmapped R unnumbered a (subst (AllPairs R) (sym same) of_b) in
    λ i j d less within. back (get_or a i d) (get_or a j d) (of_a i j d less within)

pub same_count : (a b : List FileRec) → map unnumbered a ≡ map unnumbered b → length a ≡ length b
same_count a b same = sym (length-map a unnumbered) ∙ ap (λ (rs : List FileRec). length rs) same ∙ length-map b unnumbered

pub numbers_none : (n : ℕ) (rs : List FileRec) → map unnumbered (numbered_from n rs) ≡ map unnumbered rs
numbers_none n [] = refl
numbers_none n (r ∷ rs) = ap (λ (qs : List FileRec). unnumbered r ∷ qs) (numbers_none (n + 1) rs)

-- and the directory of a user doesn't either
pub numbers_none_of : (user n : ℕ) (rs : List FileRec) → map unnumbered (files_of user (numbered_from n rs)) ≡ map unnumbered (files_of user rs)
numbers_none_of user n [] = refl
numbers_none_of user n (r ∷ rs) = by_owner (cases_Bool (r.owner == user)) (numbers_none_of user (n + 1) rs)
  where
    by_owner : ((r.owner == user) ≡ true) ⊎ ((r.owner == user) ≡ false) → map unnumbered (files_of user (numbered_from (n + 1) rs)) ≡ map unnumbered (files_of user rs)
        → map unnumbered (files_of user (numbered_from n (r ∷ rs))) ≡ map unnumbered (files_of user (r ∷ rs))
    by_owner (inl is) rest =
        ap (map unnumbered) (cond-true (r.owner == user) (with_number n r ∷ files_of user (numbered_from (n + 1) rs)) (files_of user (numbered_from (n + 1) rs)) is)
        ∙ ap (λ (qs : List FileRec). unnumbered r ∷ qs) rest ∙ ap (map unnumbered) (sym (cond-true (r.owner == user) (r ∷ files_of user rs) (files_of user rs) is))
    by_owner (inr isnt) rest =
        ap (map unnumbered) (cond-false (r.owner == user) (with_number n r ∷ files_of user (numbered_from (n + 1) rs)) (files_of user (numbered_from (n + 1) rs)) isnt)
        ∙ rest ∙ ap (map unnumbered) (sym (cond-false (r.owner == user) (r ∷ files_of user rs) (files_of user rs) isnt))
