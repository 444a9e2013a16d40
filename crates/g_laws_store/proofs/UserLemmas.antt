-- The users who are kept and touched, by name and by number.
-- serves: dumped_texts_stay, lib, AddLemmas, AdoptLemmas, NeedsLemmas, OpenedLemmas, PartLemmas, UnjamLemmas, crates above
use Rattle.std.proofs.Common.{◌≡◌, ◌≢◌, ℕ, zero, suc, ◌<◌, Bool, true, false, cond, List, [], ◌∷◌, Option, Some, None, is_some, refl, sym, ◌∙◌, ap, arith, inl, inr}
use Rattle.std.specs.Prelude.{◌⊎◌, ◌==◌, ◌||◌, All, Contains, filter, map, nat_lt, not}
use Rattle.std.specs.List.{list_any}
use Rattle.std.specs.Ordering.{eq_by_cmp}
use Rattle.std.specs.FinMap.{find, get, insert, remove, same_map, get-from_entries, get-insert, get-remove}
use Rattle.std.proofs.lemmas.Bool.{both_ways, cases_Bool, cases_order, cond-false, cond-true, eq-eqb, eqb-true, le-ltb, lt-ltb, ne_eqb}
use Rattle.std.proofs.lemmas.List.Elements.{All-contains, All-head, All-tail, All-weaker}
use Rattle.std.proofs.lemmas.List.Folds.{list_any-append}
use Rattle.std.proofs.lemmas.Map.Views.{any-filter_same}
use Rattle.g_name.specs.Order.{text_cmp}
use Rattle.g_entry.specs.declared.file_rec.FileRec.{FileRec}
use Rattle.g_entry.specs.declared.user_rec.UserRec.{UserRec}
use Rattle.g_plain.proofs.Found.{tied_are}
use Rattle.g_plain.proofs.TextMaps.{text_exact, text_total}
use Rattle.g_plain.specs.PlainTree.{Tree}
use Rattle.g_tree.proofs.LawLemmas.{same_bytes}
use Rattle.g_disc_contents.specs.Contents.{has, with_number}
use Rattle.g_store_model.specs.State as state
use Rattle.g_store_meaning.specs.Laws.{with_text}
use Rattle.g_store_meaning.specs.Meaning.{files_in}
use Rattle.g_store_meaning.specs.Reading.{dumped_places, names_of, own_of, users_in, users_not_in}
use Rattle.g_laws_store.proofs.ClosingLemmas.{contains_filter}
use Rattle.g_laws_store.specs.Users.{DumpedTextsStay, IsNamed, UsersGoByChange}

-- TESTS and options
or_false : (b : Bool) → (b || false) ≡ b
or_false true = refl
or_false false = refl

or_true : (b : Bool) → (b || true) ≡ true
or_true true = refl
or_true false = refl

some_of : (b : Bool) (o : Option (Unit {0})) → is_some (cond b (Some tt) o) ≡ (b || is_some o)
some_of true o = refl
some_of false o = refl

one_of : (a b : Option (Unit {0})) → is_some a ≡ is_some b → a ≡ b
one_of None None same = refl
one_of None (Some y) same = absurd (both_ways false refl same)
one_of (Some x) None same = absurd (both_ways false refl (sym same))
one_of (Some x) (Some y) same = refl

-- NUMBERS with one more
pub apart_any : (n m : ℕ) (numbers : List ℕ) → m ≢ n → has (with_number n numbers) m ≡ has numbers m
apart_any n m numbers other = list_any-append (λ k. k == m) (filter (λ k. nat_lt k n) numbers) (n ∷ filter (λ k. nat_lt n k) numbers) ∙ by_order (cases_order m n)
  where
    middle : (n == m) ≡ false
    middle = ne_eqb n m (λ e. other (sym e))

    by_order : (m ≡ n) ⊎ ((m < n) ⊎ (n < m))
        → (list_any (λ k. k == m) (filter (λ k. nat_lt k n) numbers) || ((n == m) || list_any (λ k. k == m) (filter (λ k. nat_lt n k) numbers))) ≡ has numbers m
    by_order (inl same) = absurd (other same)
    by_order (inr (inl less)) =
        let first = any-filter_same (λ k. k == m) (λ k. nat_lt k n) true (λ k is. ap (λ (j : ℕ). nat_lt j n) (eqb-true k m is) ∙ lt-ltb m n less) numbers in
        let last = any-filter_same (λ k. k == m) (λ k. nat_lt n k) false (λ k is. ap (λ (j : ℕ). nat_lt n j) (eqb-true k m is) ∙ le-ltb n m (omega (arith, less))) numbers in
        ap (λ (b : Bool). b || ((n == m) || list_any (λ k. k == m) (filter (λ k. nat_lt n k) numbers))) first
        ∙ ap (λ (b : Bool). has numbers m || (b || list_any (λ k. k == m) (filter (λ k. nat_lt n k) numbers))) middle
        ∙ ap (λ (b : Bool). has numbers m || (false || b)) last ∙ or_false (has numbers m)
    by_order (inr (inr more)) =
        let first = any-filter_same (λ k. k == m) (λ k. nat_lt k n) false (λ k is. ap (λ (j : ℕ). nat_lt j n) (eqb-true k m is) ∙ le-ltb m n (omega (arith, more))) numbers in
        let last = any-filter_same (λ k. k == m) (λ k. nat_lt n k) true (λ k is. ap (λ (j : ℕ). nat_lt n j) (eqb-true k m is) ∙ lt-ltb n m more) numbers in
        ap (λ (b : Bool). b || ((n == m) || list_any (λ k. k == m) (filter (λ k. nat_lt n k) numbers))) first
        ∙ ap (λ (b : Bool). false || (b || list_any (λ k. k == m) (filter (λ k. nat_lt n k) numbers))) middle
        ∙ ap (λ (b : Bool). false || (false || b)) last

pub has_new : (n : ℕ) (numbers : List ℕ) → has (with_number n numbers) n ≡ true
has_new n numbers =
    list_any-append (λ k. k == n) (filter (λ k. nat_lt k n) numbers) (n ∷ filter (λ k. nat_lt n k) numbers)
    ∙ ap (λ (b : Bool). list_any (λ k. k == n) (filter (λ k. nat_lt k n) numbers) || (b || list_any (λ k. k == n) (filter (λ k. nat_lt n k) numbers))) (eq-eqb n n refl)
    ∙ or_true (list_any (λ k. k == n) (filter (λ k. nat_lt k n) numbers))

-- what a filter leaves of the items that pass a test
any_agree : {A : Type 0} (t p q : A → Bool) (xs : List A) → All (λ x. t x ≡ true → p x ≡ q x) xs → list_any t (filter p xs) ≡ list_any t (filter q xs)
any_agree t p q [] all = refl
any_agree t p q (x ∷ xs) all = by_test (cases_Bool (t x)) (any_agree t p q xs (All-tail (λ y. t y ≡ true → p y ≡ q y) x xs all))
  where
    skip : (b : Bool) → t x ≡ false → list_any t (cond b (x ∷ filter p xs) (filter p xs)) ≡ list_any t (filter p xs)
    skip true isnt = ap (λ (c : Bool). c || list_any t (filter p xs)) isnt
    skip false isnt = refl

    skip_other : (b : Bool) → t x ≡ false → list_any t (cond b (x ∷ filter q xs) (filter q xs)) ≡ list_any t (filter q xs)
    skip_other true isnt = ap (λ (c : Bool). c || list_any t (filter q xs)) isnt
    skip_other false isnt = refl

    both : (b : Bool) → list_any t (filter p xs) ≡ list_any t (filter q xs) → list_any t (cond b (x ∷ filter p xs) (filter p xs)) ≡ list_any t (cond b (x ∷ filter q xs) (filter q xs))
    both true rest = ap (λ (c : Bool). t x || c) rest
    both false rest = rest

    by_test : (t x ≡ true) ⊎ (t x ≡ false) → list_any t (filter p xs) ≡ list_any t (filter q xs) → list_any t (filter p (x ∷ xs)) ≡ list_any t (filter q (x ∷ xs))
    by_test (inl is) rest =
        both (p x) rest ∙ ap (λ (b : Bool). list_any t (cond b (x ∷ filter q xs) (filter q xs))) (All-head (λ y. t y ≡ true → p y ≡ q y) x xs all is)
    by_test (inr isnt) rest = skip (p x) isnt ∙ rest ∙ sym (skip_other (q x) isnt)

pub any_none : {A : Type 0} (t p : A → Bool) (xs : List A) → All (λ x. t x ≡ true → p x ≡ false) xs → list_any t (filter p xs) ≡ false
any_none t p [] all = refl
any_none t p (x ∷ xs) all = by_test (cases_Bool (t x)) (any_none t p xs (All-tail (λ y. t y ≡ true → p y ≡ false) x xs all))
  where
    skip : (b : Bool) → t x ≡ false → list_any t (filter p xs) ≡ false → list_any t (cond b (x ∷ filter p xs) (filter p xs)) ≡ false
    skip true isnt rest = ap (λ (c : Bool). c || list_any t (filter p xs)) isnt ∙ rest
    skip false isnt rest = rest

    by_test : (t x ≡ true) ⊎ (t x ≡ false) → list_any t (filter p xs) ≡ false → list_any t (filter p (x ∷ xs)) ≡ false
    by_test (inl is) rest = ap (list_any t) (cond-false (p x) (x ∷ filter p xs) (filter p xs) (All-head (λ y. t y ≡ true → p y ≡ false) x xs all is)) ∙ rest
    by_test (inr isnt) rest = skip (p x) isnt rest

pub any_there : {A : Type 0} (t : A → Bool) (xs : List A) (x : A) → Contains xs x → t x ≡ true → list_any t xs ≡ true
any_there t [] x (i, within, is) test = let no : ⊥ = omega (arith, within) in absurd no
any_there t (y ∷ ys) x (zero, within, is) test = ap (λ (b : Bool). b || list_any t ys) (ap t is ∙ test)
any_there t (y ∷ ys) x (suc i, within, is) test = ap (λ (b : Bool). t y || b) (any_there t ys x (i, omega (arith, within), is) test) ∙ or_true (t y)

-- NAMES as a set
abbrev pub called : List ℕ → UserRec → Bool
called q u = eq_by_cmp text_cmp q u.user

abbrev member : UserRec → List ℕ × Unit {0}
member u = (u.user, tt)

named_found : (q : List ℕ) (us : List UserRec) → is_some (find text_cmp q (map member us)) ≡ list_any (called q) us
named_found q [] = refl
named_found q (u ∷ us) = some_of (eq_by_cmp text_cmp q u.user) (find text_cmp q (map member us)) ∙ ap (λ (b : Bool). called q u || b) (named_found q us)

pub named_any : (q : List ℕ) (users : List UserRec) → is_some (get (names_of users) q) ≡ list_any (called q) users
named_any q users = ap is_some (get-from_entries text_total (map member users) q) ∙ named_found q users

same_names : (m n : state.Users) → ((q : List ℕ) → is_some (get m q) ≡ is_some (get n q)) → m ≡ n
same_names m n same = same_map text_total text_exact m n (λ q. one_of (get m q) (get n q) (same q))

pub is_called : (q : List ℕ) (u : UserRec) → called q u ≡ true → q ≡ u.user
is_called q u e = tied_are text_total text_exact q u.user e

-- the user of this name has the number, and conversely
module _ (users : List UserRec) (numbers : List ℕ) (u : UserRec) (named : All (IsNamed u.number u.user) users) where
  of_number : (q : List ℕ) → called q u ≡ true → All (λ (v : UserRec). called q v ≡ true → v.number ≡ u.number) users
  of_number q is = All-weaker (IsNamed u.number u.user) (λ (v : UserRec). called q v ≡ true → v.number ≡ u.number) (λ v n e. n.1 (sym (is_called q v e) ∙ is_called q u is)) users named

  of_others : (q : List ℕ) → called q u ≡ false → All (λ (v : UserRec). called q v ≡ true → v.number ≢ u.number) users
  of_others q isnt =
      All-weaker (IsNamed u.number u.user) (λ (v : UserRec). called q v ≡ true → v.number ≢ u.number)
      (λ v n e same. both_ways (called q u) isnt (ap (λ (name : List ℕ). eq_by_cmp text_cmp q name) (sym (n.0 same)) ∙ e)) users named

  kept_users : names_of (users_not_in (with_number u.number numbers) users) ≡ remove (names_of (users_not_in numbers users)) u.user
  kept_users =
      same_names (names_of (users_not_in (with_number u.number numbers) users)) (remove (names_of (users_not_in numbers users)) u.user)
      (λ q. named_any q (users_not_in (with_number u.number numbers) users) ∙ at q (cases_Bool (called q u))
      ∙ sym (ap is_some (get-remove text_total (names_of (users_not_in numbers users)) u.user q)))
    where
      at : (q : List ℕ) → (called q u ≡ true) ⊎ (called q u ≡ false)
          → list_any (called q) (users_not_in (with_number u.number numbers) users) ≡ is_some (cond (eq_by_cmp text_cmp q u.user) None (get (names_of (users_not_in numbers users)) q))
      at q (inl is) =
          any_none (called q) (λ (v : UserRec). not (has (with_number u.number numbers) v.number)) users
          (All-weaker (λ (v : UserRec). called q v ≡ true → v.number ≡ u.number) (λ (v : UserRec). called q v ≡ true → not (has (with_number u.number numbers) v.number) ≡ false)
          (λ v n e. ap (λ (m : ℕ). not (has (with_number u.number numbers) m)) (n e) ∙ ap not (has_new u.number numbers)) users (of_number q is))
          ∙ ap is_some (sym (cond-true (called q u) None (get (names_of (users_not_in numbers users)) q) is))
      at q (inr isnt) =
          any_agree (called q) (λ (v : UserRec). not (has (with_number u.number numbers) v.number)) (λ (v : UserRec). not (has numbers v.number)) users
          (All-weaker (λ (v : UserRec). called q v ≡ true → v.number ≢ u.number) (λ (v : UserRec). called q v ≡ true → not (has (with_number u.number numbers) v.number) ≡ not (has numbers v.number))
          (λ v n e. ap not (apart_any u.number v.number numbers (n e))) users (of_others q isnt))
          ∙ sym (named_any q (users_not_in numbers users)) ∙ ap is_some (sym (cond-false (called q u) None (get (names_of (users_not_in numbers users)) q) isnt))

  touched_users : Contains users u → names_of (users_in (with_number u.number numbers) users) ≡ insert (names_of (users_in numbers users)) u.user tt
  touched_users there =
      same_names (names_of (users_in (with_number u.number numbers) users)) (insert (names_of (users_in numbers users)) u.user tt)
      (λ q. named_any q (users_in (with_number u.number numbers) users) ∙ at q (cases_Bool (called q u))
      ∙ sym (ap is_some (get-insert text_total (names_of (users_in numbers users)) u.user tt q)))
    where
      at : (q : List ℕ) → (called q u ≡ true) ⊎ (called q u ≡ false)
          → list_any (called q) (users_in (with_number u.number numbers) users) ≡ is_some (cond (eq_by_cmp text_cmp q u.user) (Some tt) (get (names_of (users_in numbers users)) q))
      at q (inl is) =
          any_there (called q) (users_in (with_number u.number numbers) users) u
          (contains_filter (λ (v : UserRec). has (with_number u.number numbers) v.number) users u there (has_new u.number numbers)) is
          ∙ ap is_some (sym (cond-true (called q u) (Some tt) (get (names_of (users_in numbers users)) q) is))
      at q (inr isnt) =
          any_agree (called q) (λ (v : UserRec). has (with_number u.number numbers) v.number) (λ (v : UserRec). has numbers v.number) users
          (All-weaker (λ (v : UserRec). called q v ≡ true → v.number ≢ u.number) (λ (v : UserRec). called q v ≡ true → has (with_number u.number numbers) v.number ≡ has numbers v.number)
          (λ v n e. apart_any u.number v.number numbers (n e)) users (of_others q isnt))
          ∙ sym (named_any q (users_in numbers users)) ∙ ap is_some (sym (cond-false (called q u) (Some tt) (get (names_of (users_in numbers users)) q) isnt))

pub users_go_by_change : UsersGoByChange
users_go_by_change = record {
  kept = λ users changed u named. kept_users users changed u named;
  touched = λ users touched u there named. touched_users users touched u named there;
}

-- TEXTS of a dump, whose stamps are older
pub dumped_texts_stay : DumpedTextsStay
dumped_texts_stay dumps t text next bytes le =
    ap (λ (tree : Tree). let d : state.Dumped = record { number = t.last.number; tree = tree; places = dumped_places (files_in t); own = own_of t.last } in d)
    (same_bytes t.last.users (files_in t) (λ r. text r.stamp) (λ r. with_text next bytes text r.stamp) t.last.next
    (λ r there.
    let below : r.stamp < t.last.next = All-contains (λ (s : FileRec). s.stamp < t.last.next) (files_in t) r t.dated there in
    cond-false (r.stamp == next) bytes (text r.stamp) (ne_eqb r.stamp next (λ e. let no : ⊥ = omega (arith, below, le, e) in no))))
