-- What is known by full name, and how it changes.
-- serves: close (entries), counts_of, fall (entries), lower (newest, numbers, topped), newest (generation, number), and 14 more
use Rattle.std.proofs.Common.{◌≡◌, ◌≢◌, ℕ, suc, ◌+◌, ◌<◌, ◌≤◌, ◌==◌, Bool, true, false, cond, ◌&&◌, List, [], length, max, take, drop, nat_lt, get_or, Option, Some, None, is_some, inl, inr, refl, sym, ap, subst, ◌∙◌, arith, true≢false}
use Rattle.std.proofs.Math.ListN.{set}
use Rattle.std.specs.List as list
use Rattle.std.specs.Ordering.{eq_by_cmp}
use Rattle.std.specs.Cmp.{eq_by_cmp_equiv}
use Rattle.std.specs.FinMap.{FinMap, get, insert, remove, empty, same_map, get-empty, get-insert, get-remove}
use Rattle.std.proofs.lemmas.Bool.{cases_lt, lt-ltb, le-ltb}
use Rattle.std.proofs.lemmas.Bool.Decides.{nat_tests}
use Rattle.std.proofs.lemmas.List.{set_split, get_or_default}
use Rattle.g_name.specs.declared.full.Full.{Full}
use Rattle.g_name.specs.Order.{full_cmp, same_text}
use Rattle.g_name.proofs.Order.{full_total, full_ties}
use Rattle.g_entry.specs.declared.user_rec.UserRec.{UserRec}
use Rattle.g_entry.specs.declared.file_rec.FileRec.{FileRec}
use Rattle.g_plain.specs.PlainTree.{is_version_of}
use Rattle.g_plain.proofs.Found.{apart_is, here, tied_are}
use Rattle.g_plain.proofs.TextMaps.{full_exact}
use Rattle.g_tree.specs.Places.{StandsAt}
use Rattle.g_tree.specs.Records.{IsRecords, full_of, number_of}
use Rattle.g_tree.specs.State.{versions_of, number_at, number_in, newest_at, newest_in, top_at, top_in, later, later_top, risen, lifted, raised_at, raised, settled_at, settled, closed_at, closed, is_first_of_two, fallen_at, fallen, HasNumbers, HasNumber, HasNewest, HasTop, IsTopped, AreIndexed}
use Rattle.g_tree.specs.declared.index.NameEntry.{NameEntry}
use Rattle.g_tree.proofs.MapLemmas.{AreApart, shadowed}
use Rattle.g_tree.proofs.RecordLemmas.{get_file, names_apart}
use Rattle.g_tree.proofs.ChangeLemmas.{index_more, removed_map}
use Rattle.g_tree.proofs.PutLemmas.{rows_of, rows_new, rows_same, put_between}

-- names of versions

abbrev pub at_generation : Full → ℕ → Full
at_generation full n = record full { generation = n }

three : (a b c : Bool) → (a && (b && c)) ≡ (a && b && c)
three true b c = refl
three false b c = refl

pub same_versions : (q f : Full) → eq_by_cmp full_cmp (versions_of q) (versions_of f) ≡ is_version_of q f
same_versions q f = sym (full_ties (versions_of q) (versions_of f)) ∙ three (same_text q.user f.user) (same_text q.local f.local) (same_text q.lang f.lang)

pub one_version : (q f : Full) → is_version_of q f ≡ true → versions_of q ≡ versions_of f
one_version q f e = tied_are full_total full_exact (versions_of q) (versions_of f) (same_versions q f ∙ e)

pub version_itself : (f : Full) → is_version_of f f ≡ true
version_itself f = sym (same_versions f f) ∙ (eq_by_cmp_equiv full_total).refl (versions_of f)

-- the first of a file's versions is found by its own name
pub first_itself : (f : Full) → f.generation ≡ 1 → versions_of f ≡ f
first_itself f first = ap (λ n. at_generation f n) (sym first)

first_versions : (q f : Full) → f.generation ≡ 1 → eq_by_cmp full_cmp (versions_of q) f ≡ is_version_of q f
first_versions q f first = ap (λ g. eq_by_cmp full_cmp (versions_of q) g) (sym (first_itself f first)) ∙ same_versions q f

-- and none of them by that of another
later_versions : (q f : Full) → f.generation ≢ 1 → eq_by_cmp full_cmp (versions_of q) f ≡ false
later_versions q f other = apart_is full_total full_exact (versions_of q) f (λ e. other (sym (ap (λ g. g.generation) e)))

-- what is found

abbrev pub numbered : ℕ → ℕ → Option ℕ → NameEntry
numbered number n top = record { number = Some number; newest = n; top = top }

abbrev pub unnumbered : ℕ → ℕ → NameEntry
unnumbered n number = record { number = None; newest = n; top = Some number }

number_cond : (b : Bool) (x y : Option NameEntry) → number_at (cond b x y) ≡ cond b (number_at x) (number_at y)
number_cond true x y = refl
number_cond false x y = refl

-- what is seen of an entry is seen under the name of the first
module _ {A : Type 0} (seen : Option NameEntry → A) where
  seen_cond : (b : Bool) (x y : Option NameEntry) → seen (cond b x y) ≡ cond b (seen x) (seen y)
  seen_cond true x y = refl
  seen_cond false x y = refl

  module _ (m : FinMap full_cmp NameEntry) (full : Full) where
    under_itself : full.generation ≡ 1 → seen (get m (versions_of full)) ≡ seen (get m full)
    under_itself first = ap (λ f. seen (get m f)) (first_itself full first)

    under_inserted : (e : NameEntry) (q : Full) → full.generation ≡ 1 → seen (get (insert m full e) (versions_of q)) ≡ cond (is_version_of q full) (seen (Some e)) (seen (get m (versions_of q)))
    under_inserted e q first =
        ap seen (get-insert full_total m full e (versions_of q) ∙ ap (λ b. cond b (Some e) (get m (versions_of q))) (first_versions q full first))
        ∙ seen_cond (is_version_of q full) (Some e) (get m (versions_of q))

    under_removed : (q : Full) → full.generation ≡ 1 → seen (get (remove m full) (versions_of q)) ≡ cond (is_version_of q full) (seen None) (seen (get m (versions_of q)))
    under_removed q first =
        ap seen (get-remove full_total m full (versions_of q) ∙ ap (λ b. cond b None (get m (versions_of q))) (first_versions q full first))
        ∙ seen_cond (is_version_of q full) None (get m (versions_of q))

    other_inserted : (e : NameEntry) (q : Full) → full.generation ≢ 1 → seen (get (insert m full e) (versions_of q)) ≡ seen (get m (versions_of q))
    other_inserted e q other =
        ap seen (get-insert full_total m full e (versions_of q) ∙ ap (λ b. cond b (Some e) (get m (versions_of q))) (later_versions q full other))

    other_removed : (q : Full) → full.generation ≢ 1 → seen (get (remove m full) (versions_of q)) ≡ seen (get m (versions_of q))
    other_removed q other =
        ap seen (get-remove full_total m full (versions_of q) ∙ ap (λ b. cond b None (get m (versions_of q))) (later_versions q full other))

no_newest_at : (o : Option NameEntry) → is_some o ≡ false → newest_at o ≡ 0
no_newest_at None none = refl
no_newest_at (Some e) none = absurd (true≢false none)

no_number_at : (o : Option NameEntry) → is_some o ≡ false → number_at o ≡ None
no_number_at None none = refl
no_number_at (Some e) none = absurd (true≢false none)

some_newest_at : (o : Option NameEntry) → 1 ≤ newest_at o → is_some o ≡ true
some_newest_at None some = absurd (omega arith)
some_newest_at (Some e) some = refl

-- the first of two versions

both_true : (a b : Bool) → (a && b) ≡ true → (a ≡ true) × (b ≡ true)
both_true true true e = (refl, refl)
both_true true false e = absurd (true≢false (sym e))
both_true false b e = absurd (true≢false (sym e))

nat_two : (n : ℕ) → (n == 2) ≡ true → n ≡ 2
nat_two n e = grind (arith, nat_tests)

pub two_newest : (e : NameEntry) → is_first_of_two e ≡ true → e.newest ≡ 2
two_newest e two = nat_two e.newest (both_true (e.newest == 2) (is_some e.number) two).0

pub two_number : (e : NameEntry) → is_first_of_two e ≡ true → is_some e.number ≡ true
two_number e two = (both_true (e.newest == 2) (is_some e.number) two).1

-- Generations greater than 1.

lt_is : (m n : ℕ) → nat_lt m n ≡ true → m < n
lt_is m n e = grind (arith, nat_tests)

lt_not : (m n : ℕ) → nat_lt m n ≡ false → n ≤ m
lt_not m n e = grind (arith, nat_tests)

pub later_none : (n : ℕ) → n < 2 → 0 ≡ later n
later_none n first =
    elim (nat_lt 1 n) as (λ t. nat_lt 1 n ≡ t → 0 ≡ cond t n 0) [
      | true ↦ λ e. let behind = lt_is 1 n e in absurd (omega (arith, behind, first))
      | false ↦ λ _. refl
    ] refl

pub later_some : (n : ℕ) → 2 ≤ n → n ≡ later n
later_some n some =
    elim (nat_lt 1 n) as (λ t. nat_lt 1 n ≡ t → n ≡ cond t n 0) [
      | true ↦ λ _. refl
      | false ↦ λ e. let first = lt_not 1 n e in absurd (omega (arith, some, first))
    ] refl

pub later_top_none : (n : ℕ) (top : Option ℕ) → n < 2 → later_top n top ≡ None
later_top_none n top first =
    elim (nat_lt 1 n) as (λ t. nat_lt 1 n ≡ t → cond t top None ≡ None) [
      | true ↦ λ e. let behind = lt_is 1 n e in absurd (omega (arith, behind, first))
      | false ↦ λ _. refl
    ] refl

pub later_top_some : (n : ℕ) (top : Option ℕ) → 2 ≤ n → later_top n top ≡ top
later_top_some n top some =
    elim (nat_lt 1 n) as (λ t. nat_lt 1 n ≡ t → cond t top None ≡ top) [
      | true ↦ λ _. refl
      | false ↦ λ e. let first = lt_not 1 n e in absurd (omega (arith, some, first))
    ] refl

-- the newest is another, or stays

module _ (e : NameEntry) (n k : ℕ) where
  abbrev new_top : NameEntry
  new_top = record e { newest = n; top = Some k }

  pub lifted_newest : (lifted e n k).newest ≡ max e.newest n
  lifted_newest =
      elim (nat_lt n e.newest) as (λ t. nat_lt n e.newest ≡ t → (cond t e new_top).newest ≡ max e.newest n) [
        | true ↦ λ t. let more = lt_is n e.newest t in omega (arith, more)
        | false ↦ λ t. let most = lt_not n e.newest t in omega (arith, most)
      ] refl

  pub lifted_number : (lifted e n k).number ≡ e.number
  lifted_number = elim (nat_lt n e.newest) as (λ t. (cond t e new_top).number ≡ e.number) [ true ↦ refl | false ↦ refl ]

  pub lifted_top : (lifted e n k).top ≡ risen e.newest e.top n k
  lifted_top = elim (nat_lt n e.newest) as (λ t. (cond t e new_top).top ≡ cond t e.top (Some k)) [ true ↦ refl | false ↦ refl ]

-- the only one
pub risen_none : (m : ℕ) (top : Option ℕ) (n k : ℕ) → m ≤ n → Some k ≡ risen m top n k
risen_none m top n k few =
    elim (nat_lt n m) as (λ t. nat_lt n m ≡ t → Some k ≡ cond t top (Some k)) [
      | true ↦ λ t. let more = lt_is n m t in absurd (omega (arith, more, few))
      | false ↦ λ _. refl
    ] refl

module _ (m : FinMap full_cmp NameEntry) (full : Full) where
  pub numbers_inserted : (e : NameEntry) → HasNumber m (insert m full e) full e.number
  numbers_inserted e = λ q.
      ap (λ o. number_at o) (get-insert full_total m full e q) ∙ number_cond (eq_by_cmp full_cmp q full) (Some e) (get m q)

  pub numbers_removed : HasNumber m (remove m full) full None
  numbers_removed = λ q.
      ap (λ o. number_at o) (get-remove full_total m full q) ∙ number_cond (eq_by_cmp full_cmp q full) None (get m q)

  -- If the name already has that number.
  pub numbers_kept : (e : NameEntry) → number_in m full ≡ e.number → HasNumbers m (insert m full e)
  numbers_kept e same = λ q.
      numbers_inserted e q
      ∙ elim (eq_by_cmp full_cmp q full) as (λ t. eq_by_cmp full_cmp q full ≡ t → cond t e.number (number_in m q) ≡ number_in m q) [
        | true ↦ λ t. sym same ∙ ap (λ f. number_in m f) (sym (tied_are full_total full_exact q full t))
        | false ↦ λ _. refl
      ] refl

  -- If it has none.
  pub numbers_left : number_in m full ≡ None → HasNumbers m (remove m full)
  numbers_left none = λ q.
      numbers_removed q
      ∙ elim (eq_by_cmp full_cmp q full) as (λ t. eq_by_cmp full_cmp q full ≡ t → cond t None (number_in m q) ≡ number_in m q) [
        | true ↦ λ t. sym none ∙ ap (λ f. number_in m f) (sym (tied_are full_total full_exact q full t))
        | false ↦ λ _. refl
      ] refl

  -- under the name of a first generation
  module _ (first : full.generation ≡ 1) where
    pub newest_under : newest_in m full ≡ newest_at (get m full)
    newest_under = under_itself (λ o. newest_at o) m full first

    pub top_under : top_in m full ≡ top_at (get m full)
    top_under = under_itself (λ o. top_at o) m full first

    pub first_inserted : (e : NameEntry) → HasNewest m (insert m full e) full e.newest
    first_inserted e = λ q. under_inserted (λ o. newest_at o) m full e q first

    pub top_inserted : (e : NameEntry) → HasTop m (insert m full e) full e.top
    top_inserted e = λ q. under_inserted (λ o. top_at o) m full e q first

    pub first_removed : HasNewest m (remove m full) full 0
    first_removed = λ q. under_removed (λ o. newest_at o) m full q first

    pub top_removed : HasTop m (remove m full) full None
    top_removed = λ q. under_removed (λ o. top_at o) m full q first

    pub some_under : 1 ≤ newest_in m full → is_some (get m full) ≡ true
    some_under some = some_newest_at (get m full) (subst (λ n. 1 ≤ n) newest_under some)

    pub none_under : is_some (get m full) ≡ false → newest_in m full ≡ 0
    none_under none = newest_under ∙ no_newest_at (get m full) none

  -- under another
  pub later_inserted : (e : NameEntry) → full.generation ≢ 1 → (q : Full) → newest_in (insert m full e) q ≡ newest_in m q
  later_inserted e other q = other_inserted (λ o. newest_at o) m full e q other

  pub later_removed : full.generation ≢ 1 → (q : Full) → newest_in (remove m full) q ≡ newest_in m q
  later_removed other q = other_removed (λ o. newest_at o) m full q other

  -- what is written twice
  pub insert_twice : (e f : NameEntry) → insert (insert m full e) full f ≡ insert m full f
  insert_twice e f =
      same_map full_total full_exact _ _
      (λ q. get-insert full_total (insert m full e) full f q
      ∙ ap (λ o. cond (eq_by_cmp full_cmp q full) (Some f) o) (get-insert full_total m full e q)
      ∙ sym (shadowed (eq_by_cmp full_cmp q full) (Some f) (Some e) (get m q)) ∙ sym (get-insert full_total m full f q))

  -- a newest that is raised
  pub numbers_raised : (n k : ℕ) → HasNumbers m (raised m full n k)
  numbers_raised n k = λ q.
      elim (get m full) as (λ o. get m full ≡ o → number_in (raised_at m full n k o) q ≡ number_in m q) [
        | Some e ↦ λ is. numbers_kept (lifted e n k) (ap (λ o. number_at o) is ∙ sym (lifted_number e n k)) q
        | None ↦ λ _. refl
      ] refl

  pub newest_raised : (n k : ℕ) → full.generation ≡ 1 → is_some (get m full) ≡ true → HasNewest m (raised m full n k) full (max (newest_in m full) n)
  newest_raised n k first there = λ q.
      elim (get m full) as (λ o. get m full ≡ o → is_some o ≡ true → newest_in (raised_at m full n k o) q ≡ cond (is_version_of q full) (max (newest_in m full) n) (newest_in m q)) [
        | Some e ↦ λ is _.
            first_inserted first (lifted e n k) q
            ∙ ap (λ j. cond (is_version_of q full) j (newest_in m q)) (lifted_newest e n k ∙ ap (λ j. max j n) (sym (newest_under first ∙ ap (λ o. newest_at o) is)))
        | None ↦ λ _ none. absurd (true≢false (sym none))
      ] refl there

  pub top_raised : (n k : ℕ) → full.generation ≡ 1 → is_some (get m full) ≡ true → HasTop m (raised m full n k) full (risen (newest_in m full) (top_in m full) n k)
  top_raised n k first there = λ q.
      elim (get m full) as (λ o. get m full ≡ o → is_some o ≡ true → top_in (raised_at m full n k o) q ≡ cond (is_version_of q full) (risen (newest_in m full) (top_in m full) n k) (top_in m q)) [
        | Some e ↦ λ is _.
            let newest : e.newest ≡ newest_in m full = sym (newest_under first ∙ ap (λ o. newest_at o) is) in
            let top : e.top ≡ top_in m full = sym (top_under first ∙ ap (λ o. top_at o) is) in
            top_inserted first (lifted e n k) q ∙ ap (λ o. cond (is_version_of q full) o (top_in m q)) (lifted_top e n k ∙ (λ i. risen (newest i) (top i) n k))
        | None ↦ λ _ none. absurd (true≢false (sym none))
      ] refl there

  raised_absent : (n k : ℕ) → is_some (get m full) ≡ false → raised m full n k ≡ m
  raised_absent n k none =
      elim (get m full) as (λ o. is_some o ≡ false → raised_at m full n k o ≡ m) [ Some e ↦ λ s. absurd (true≢false s) | None ↦ λ _. refl ] none

  -- If the index doesn't have the name.
  module _ (mid new : FinMap full_cmp NameEntry) (n k : ℕ) (none : is_some (get m full) ≡ false) (stays : mid ≡ raised m full n k) (is : new ≡ insert mid full (unnumbered n k)) where
    new_is : new ≡ insert m full (unnumbered n k)
    new_is = is ∙ ap (λ j. insert j full (unnumbered n k)) (stays ∙ raised_absent n k none)

    pub numbers_begun : HasNumbers m new
    numbers_begun = λ q. ap (λ j. number_in j q) new_is ∙ numbers_kept (unnumbered n k) (no_number_at (get m full) none) q

    pub newest_begun : full.generation ≡ 1 → HasNewest m new full (max (newest_in m full) n)
    newest_begun first = λ q.
        let nothing = none_under first none in
        let most : n ≡ max (newest_in m full) n = omega (arith, nothing) in
        ap (λ j. newest_in j q) new_is ∙ first_inserted first (unnumbered n k) q ∙ ap (λ j. cond (is_version_of q full) j (newest_in m q)) most

    pub top_begun : full.generation ≡ 1 → HasTop m new full (risen (newest_in m full) (top_in m full) n k)
    top_begun first = λ q.
        let nothing = none_under first none in
        let few : newest_in m full ≤ n = omega (arith, nothing) in
        ap (λ j. top_in j q) new_is ∙ top_inserted first (unnumbered n k) q ∙ ap (λ o. cond (is_version_of q full) o (top_in m q)) (risen_none (newest_in m full) (top_in m full) n k few)

  -- one that was of two versions
  numbers_fallen_at : (o : Option NameEntry) → get m full ≡ o → HasNumbers m (fallen_at m full o)
  numbers_fallen_at None is = λ q. refl
  numbers_fallen_at (Some e) is = λ q.
      elim (is_first_of_two e) as (λ t. number_in (cond t (insert m full (record e { newest = 1; top = e.number })) m) q ≡ number_in m q) [
        | true ↦ numbers_kept (record e { newest = 1; top = e.number }) (ap (λ o. number_at o) is) q
        | false ↦ refl
      ]

  pub numbers_fallen : HasNumbers m (fallen m full)
  numbers_fallen = numbers_fallen_at (get m full) refl

  pub fallen_two : (e : NameEntry) → get m full ≡ Some e → is_first_of_two e ≡ true → fallen m full ≡ insert m full (record e { newest = 1; top = e.number })
  fallen_two e is two = ap (λ o. fallen_at m full o) is ∙ ap (λ t. cond t (insert m full (record e { newest = 1; top = e.number })) m) two

  pub fallen_same : (e : NameEntry) → get m full ≡ Some e → is_first_of_two e ≡ false → fallen m full ≡ m
  fallen_same e is other = ap (λ o. fallen_at m full o) is ∙ ap (λ t. cond t (insert m full (record e { newest = 1; top = e.number })) m) other

  pub newest_fallen_two : (e : NameEntry) → full.generation ≡ 1 → get m full ≡ Some e → is_first_of_two e ≡ true → HasNewest m (fallen m full) full 1
  newest_fallen_two e first is two = λ q. ap (λ k. newest_in k q) (fallen_two e is two) ∙ first_inserted first (record e { newest = 1; top = e.number }) q

  pub top_fallen_two : (e : NameEntry) → full.generation ≡ 1 → get m full ≡ Some e → is_first_of_two e ≡ true → HasTop m (fallen m full) full e.number
  top_fallen_two e first is two = λ q. ap (λ k. top_in k q) (fallen_two e is two) ∙ top_inserted first (record e { newest = 1; top = e.number }) q

  -- Inserting an existing entry again changes nothing.
  pub insert_same : (e : NameEntry) → get m full ≡ Some e → insert m full e ≡ m
  insert_same e is =
      same_map full_total full_exact _ _
      (λ q. get-insert full_total m full e q
      ∙ elim (eq_by_cmp full_cmp q full) as (λ t. eq_by_cmp full_cmp q full ≡ t → cond t (Some e) (get m q) ≡ get m q) [
        | true ↦ λ t. sym is ∙ ap (get m) (sym (tied_are full_total full_exact q full t))
        | false ↦ λ _. refl
      ] refl)

  -- and one that is another now
  pub numbers_settled : (n : ℕ) (k : Option ℕ) → HasNumbers m (settled m full n k)
  numbers_settled n k = λ q.
      elim (get m full) as (λ o. get m full ≡ o → number_in (settled_at m full n k o) q ≡ number_in m q) [
        | Some e ↦ λ is. numbers_kept (record e { newest = n; top = k }) (ap (λ o. number_at o) is) q
        | None ↦ λ _. refl
      ] refl

  pub newest_settled : (n : ℕ) (k : Option ℕ) → full.generation ≡ 1 → is_some (get m full) ≡ true → HasNewest m (settled m full n k) full n
  newest_settled n k first there = λ q.
      elim (get m full) as (λ o. is_some o ≡ true → newest_in (settled_at m full n k o) q ≡ cond (is_version_of q full) n (newest_in m q)) [
        | Some e ↦ λ _. first_inserted first (record e { newest = n; top = k }) q
        | None ↦ λ none. absurd (true≢false (sym none))
      ] there

  pub top_settled : (n : ℕ) (k : Option ℕ) → full.generation ≡ 1 → is_some (get m full) ≡ true → HasTop m (settled m full n k) full k
  top_settled n k first there = λ q.
      elim (get m full) as (λ o. is_some o ≡ true → top_in (settled_at m full n k o) q ≡ cond (is_version_of q full) k (top_in m q)) [
        | Some e ↦ λ _. top_inserted first (record e { newest = n; top = k }) q
        | None ↦ λ none. absurd (true≢false (sym none))
      ] there

  -- a first generation that goes
  pub closed_few : (e : NameEntry) → get m full ≡ Some e → e.newest < 2 → remove m full ≡ closed m full
  closed_few e is few =
      ap (λ t. cond t (remove m full) (insert m full (record e { number = None }))) (sym (lt-ltb e.newest 2 few)) ∙ ap (λ o. closed_at m full o) (sym is)

  pub closed_some : (e : NameEntry) → get m full ≡ Some e → 2 ≤ e.newest → insert m full (record e { number = None }) ≡ closed m full
  closed_some e is some =
      ap (λ t. cond t (remove m full) (insert m full (record e { number = None }))) (sym (le-ltb e.newest 2 some)) ∙ ap (λ o. closed_at m full o) (sym is)

  module _ (first : full.generation ≡ 1) where
    pub numbers_closed : HasNumber m (closed m full) full None
    numbers_closed = λ q.
        elim (get m full) as (λ o. get m full ≡ o → number_in (closed_at m full o) q ≡ cond (eq_by_cmp full_cmp q full) None (number_in m q)) [
          | Some e ↦ λ _.
              elim (nat_lt e.newest 2) as (λ t. number_in (cond t (remove m full) (insert m full (record e { number = None }))) q ≡ cond (eq_by_cmp full_cmp q full) None (number_in m q)) [
                | true ↦ numbers_removed q
                | false ↦ numbers_inserted (record e { number = None }) q
              ]
          | None ↦ λ is.
              elim (eq_by_cmp full_cmp q full) as (λ t. eq_by_cmp full_cmp q full ≡ t → number_in m q ≡ cond t None (number_in m q)) [
                | true ↦ λ t. ap (λ f. number_in m f) (tied_are full_total full_exact q full t) ∙ ap (λ o. number_at o) is
                | false ↦ λ _. refl
              ] refl
        ] refl

    pub newest_closed : HasNewest m (closed m full) full (later (newest_in m full))
    newest_closed = λ q.
        elim (get m full) as (λ o. get m full ≡ o → newest_in (closed_at m full o) q ≡ cond (is_version_of q full) (later (newest_in m full)) (newest_in m q)) [
          | Some e ↦ λ is.
              let known : newest_in m full ≡ e.newest = newest_under first ∙ ap (λ o. newest_at o) is in
              elim (nat_lt e.newest 2) as (λ t. nat_lt e.newest 2 ≡ t → newest_in (cond t (remove m full) (insert m full (record e { number = None }))) q ≡ cond (is_version_of q full) (later (newest_in m full)) (newest_in m q)) [
                | true ↦ λ t.
                    let few = lt_is e.newest 2 t in
                    first_removed first q ∙ ap (λ n. cond (is_version_of q full) n (newest_in m q)) (later_none e.newest few ∙ ap (λ n. later n) (sym known))
                | false ↦ λ t.
                    let some = lt_not e.newest 2 t in
                    first_inserted first (record e { number = None }) q ∙ ap (λ n. cond (is_version_of q full) n (newest_in m q)) (later_some e.newest some ∙ ap (λ n. later n) (sym known))
              ] refl
          | None ↦ λ is.
              let known : newest_in m full ≡ 0 = newest_under first ∙ ap (λ o. newest_at o) is in
              let none : newest_in m full ≡ later (newest_in m full) = known ∙ later_none 0 (omega arith) ∙ ap (λ n. later n) (sym known) in
              elim (is_version_of q full) as (λ t. is_version_of q full ≡ t → newest_in m q ≡ cond t (later (newest_in m full)) (newest_in m q)) [
                | true ↦ λ t. ap (λ f. newest_at (get m f)) (one_version q full t) ∙ none
                | false ↦ λ _. refl
              ] refl
        ] refl

    pub top_closed : HasTop m (closed m full) full (later_top (newest_in m full) (top_in m full))
    top_closed = λ q.
        elim (get m full) as (λ o. get m full ≡ o → top_in (closed_at m full o) q ≡ cond (is_version_of q full) (later_top (newest_in m full) (top_in m full)) (top_in m q)) [
          | Some e ↦ λ is.
              let newest : newest_in m full ≡ e.newest = newest_under first ∙ ap (λ o. newest_at o) is in
              let top : top_in m full ≡ e.top = top_under first ∙ ap (λ o. top_at o) is in
              let known : later_top e.newest e.top ≡ later_top (newest_in m full) (top_in m full) = (λ i. later_top (sym newest i) (sym top i)) in
              elim (nat_lt e.newest 2) as (λ t. nat_lt e.newest 2 ≡ t → top_in (cond t (remove m full) (insert m full (record e { number = None }))) q ≡ cond (is_version_of q full) (later_top (newest_in m full) (top_in m full)) (top_in m q)) [
                | true ↦ λ t.
                    let few = lt_is e.newest 2 t in
                    top_removed first q ∙ ap (λ o. cond (is_version_of q full) o (top_in m q)) (sym (later_top_none e.newest e.top few) ∙ known)
                | false ↦ λ t.
                    let some = lt_not e.newest 2 t in
                    top_inserted first (record e { number = None }) q ∙ ap (λ o. cond (is_version_of q full) o (top_in m q)) (sym (later_top_some e.newest e.top some) ∙ known)
              ] refl
          | None ↦ λ is.
              let newest : newest_in m full ≡ 0 = newest_under first ∙ ap (λ o. newest_at o) is in
              let top : top_in m full ≡ None = top_under first ∙ ap (λ o. top_at o) is in
              let none : top_in m full ≡ later_top (newest_in m full) (top_in m full) = top ∙ sym (later_top_none 0 (top_in m full) (omega arith)) ∙ ap (λ n. later_top n (top_in m full)) (sym newest) in
              elim (is_version_of q full) as (λ t. is_version_of q full ≡ t → top_in m q ≡ cond t (later_top (newest_in m full) (top_in m full)) (top_in m q)) [
                | true ↦ λ t. ap (λ f. top_at (get m f)) (one_version q full t) ∙ none
                | false ↦ λ _. refl
              ] refl
        ] refl

-- Inserting a name.

-- An inserted name is in the index.
pub there_inserted : (old new : FinMap full_cmp NameEntry) (full again : Full) (e : NameEntry) → new ≡ insert old full e → again ≡ full → is_some (get new again) ≡ true
there_inserted old new full again e is same =
    ap (λ m. is_some (get m again)) is ∙ ap (λ f. is_some (get (insert old full e) f)) same ∙ ap is_some (here full_total full_exact old full e)

pub number_put : (old new : FinMap full_cmp NameEntry) (full : Full) (e : NameEntry) → new ≡ insert old full e → HasNumber old new full e.number
number_put old new full e is = λ q. ap (λ m. number_in m q) is ∙ numbers_inserted old full e q

pub first_put : (old new : FinMap full_cmp NameEntry) (full : Full) (e : NameEntry) (n : ℕ) → full.generation ≡ 1 → new ≡ insert old full e → e.newest ≡ n → HasNewest old new full n
first_put old new full e n first is same = λ q.
    ap (λ m. newest_in m q) is ∙ first_inserted old full first e q ∙ ap (λ k. cond (is_version_of q full) k (newest_in old q)) same

pub top_put : (old new : FinMap full_cmp NameEntry) (full : Full) (e : NameEntry) (k : Option ℕ) → full.generation ≡ 1 → new ≡ insert old full e → e.top ≡ k → HasTop old new full k
top_put old new full e k first is same = λ q.
    ap (λ m. top_in m q) is ∙ top_inserted old full first e q ∙ ap (λ o. cond (is_version_of q full) o (top_in old q)) same

-- Inserting a name that is already in the index.
pub put_twice : (old mid new : FinMap full_cmp NameEntry) (full again named : Full) (e f : NameEntry) → mid ≡ insert old full e → new ≡ insert mid again f → full ≡ named → again ≡ named → new ≡ insert old named f
put_twice old mid new full again named e f before is is_named again_named =
    is ∙ (λ i. insert (before i) (again_named i) f) ∙ ap (λ k. insert (insert old k e) named f) is_named ∙ insert_twice old named e f

-- A generation greater than 1, once the greatest generation is recorded.
pub number_behind : (old mid new : FinMap full_cmp NameEntry) (full : Full) (e : NameEntry) → HasNumbers old mid → new ≡ insert mid full e → HasNumber old new full e.number
number_behind old mid new full e same is = λ q.
    ap (λ m. number_in m q) is ∙ numbers_inserted mid full e q ∙ ap (λ o. cond (eq_by_cmp full_cmp q full) e.number o) (same q)

pub newest_behind : (old mid new : FinMap full_cmp NameEntry) (full : Full) (e : NameEntry) (n : ℕ) → full.generation ≢ 1 → HasNewest old mid full n → new ≡ insert mid full e → HasNewest old new full n
newest_behind old mid new full e n behind changed is = λ q. ap (λ m. newest_in m q) is ∙ later_inserted mid full e behind q ∙ changed q

pub top_behind : (old mid new : FinMap full_cmp NameEntry) (full : Full) (e : NameEntry) (k : Option ℕ) → full.generation ≢ 1 → HasTop old mid full k → new ≡ insert mid full e → HasTop old new full k
top_behind old mid new full e k behind changed is = λ q. ap (λ m. top_in m q) is ∙ other_inserted (λ o. top_at o) mid full e q behind ∙ changed q

-- a name that is taken out

pub first_gone : (old new : FinMap full_cmp NameEntry) (full : Full) (n : ℕ) → full.generation ≡ 1 → new ≡ remove old full → 0 ≡ n → HasNewest old new full n
first_gone old new full n first is none = λ q.
    ap (λ m. newest_in m q) is ∙ first_removed old full first q ∙ ap (λ k. cond (is_version_of q full) k (newest_in old q)) none

pub number_out : (old mid new : FinMap full_cmp NameEntry) (full : Full) → HasNumbers old mid → new ≡ remove mid full → HasNumber old new full None
number_out old mid new full same is = λ q.
    ap (λ m. number_in m q) is ∙ numbers_removed mid full q ∙ ap (λ o. cond (eq_by_cmp full_cmp q full) None o) (same q)

pub newest_out : (old mid new : FinMap full_cmp NameEntry) (full : Full) (n : ℕ) → full.generation ≢ 1 → HasNewest old mid full n → new ≡ remove mid full → HasNewest old new full n
newest_out old mid new full n behind changed is = λ q. ap (λ m. newest_in m q) is ∙ later_removed mid full behind q ∙ changed q

-- the number of the newest is that of its name

pub no_top : (m : FinMap full_cmp NameEntry) → m ≡ empty → IsTopped m
no_top m e = λ q.
    ap (λ n. top_in n q) e ∙ ap (λ o. top_at o) (get-empty full_cmp (versions_of q))
    ∙ sym (ap (λ n. number_in n (at_generation q (newest_in m q))) e ∙ ap (λ o. number_at o) (get-empty full_cmp (at_generation q (newest_in m q))))

other_name : (q full : Full) (n : ℕ) → is_version_of q full ≡ false → eq_by_cmp full_cmp (at_generation q n) full ≡ false
other_name q full n apart =
    apart_is full_total full_exact (at_generation q n) full (λ e. true≢false (sym (version_itself full) ∙ ap (λ f. is_version_of f full) (sym e) ∙ apart))

other_generation : (q full : Full) (n : ℕ) → n ≢ full.generation → eq_by_cmp full_cmp (at_generation q n) full ≡ false
other_generation q full n apart = apart_is full_total full_exact (at_generation q n) full (λ e. apart (ap (λ f. f.generation) e))

module _ (old new : FinMap full_cmp NameEntry) (full : Full) (topped : IsTopped old) where
  -- If the newest version changes, and the names stay the same.
  pub topped_by : (n : ℕ) (k : Option ℕ) → HasNumbers old new → HasNewest old new full n → HasTop old new full k → k ≡ number_in old (at_generation full n) → IsTopped new
  topped_by n k numbers newest top is = λ q.
      elim (is_version_of q full) as (λ t. is_version_of q full ≡ t → top_in new q ≡ number_in new (at_generation q (newest_in new q))) [
        | true ↦ λ t.
            let there : newest_in new q ≡ n = newest q ∙ ap (λ b. cond b n (newest_in old q)) t in
            top q ∙ ap (λ b. cond b k (top_in old q)) t ∙ is ∙ ap (λ f. number_in old (at_generation f n)) (sym (one_version q full t))
            ∙ sym (numbers (at_generation q n)) ∙ ap (λ j. number_in new (at_generation q j)) (sym there)
        | false ↦ λ t.
            let there : newest_in new q ≡ newest_in old q = newest q ∙ ap (λ b. cond b n (newest_in old q)) t in
            top q ∙ ap (λ b. cond b k (top_in old q)) t ∙ topped q ∙ sym (numbers (at_generation q (newest_in old q))) ∙ ap (λ j. number_in new (at_generation q j)) (sym there)
      ] refl

  -- If a name gets another number, or none.
  module _ (k : Option ℕ) (numbers : HasNumber old new full k) where
    elsewhere : (q : Full) (n : ℕ) → eq_by_cmp full_cmp (at_generation q n) full ≡ false → number_in old (at_generation q n) ≡ number_in new (at_generation q n)
    elsewhere q n apart = sym (numbers (at_generation q n) ∙ ap (λ b. cond b k (number_in old (at_generation q n))) apart)

    itself : (q : Full) → is_version_of q full ≡ true → k ≡ number_in new (at_generation q full.generation)
    itself q same =
        let named : at_generation q full.generation ≡ full = ap (λ f. at_generation f full.generation) (one_version q full same) in
        sym (numbers (at_generation q full.generation) ∙ ap (λ b. cond b k (number_in old (at_generation q full.generation))) (ap (λ f. eq_by_cmp full_cmp f full) named ∙ (eq_by_cmp_equiv full_total).refl full))

    -- of other versions
    untouched : (q : Full) (n : ℕ) (j : Option ℕ) → HasNewest old new full n → HasTop old new full j → is_version_of q full ≡ false → top_in new q ≡ number_in new (at_generation q (newest_in new q))
    untouched q n j newest top t =
        let there : newest_in new q ≡ newest_in old q = newest q ∙ ap (λ b. cond b n (newest_in old q)) t in
        top q ∙ ap (λ b. cond b j (top_in old q)) t ∙ topped q ∙ elsewhere q (newest_in old q) (other_name q full (newest_in old q) t) ∙ ap (λ i. number_in new (at_generation q i)) (sym there)

    -- one that isn't the newest
    pub topped_else : (n : ℕ) (j : Option ℕ) → HasNewest old new full n → HasTop old new full j → n ≢ full.generation → j ≡ number_in old (at_generation full n) → IsTopped new
    topped_else n j newest top apart is = λ q.
        elim (is_version_of q full) as (λ t. is_version_of q full ≡ t → top_in new q ≡ number_in new (at_generation q (newest_in new q))) [
          | true ↦ λ t.
              let there : newest_in new q ≡ n = newest q ∙ ap (λ b. cond b n (newest_in old q)) t in
              top q ∙ ap (λ b. cond b j (top_in old q)) t ∙ is ∙ ap (λ f. number_in old (at_generation f n)) (sym (one_version q full t))
              ∙ elsewhere q n (other_generation q full n apart) ∙ ap (λ i. number_in new (at_generation q i)) (sym there)
          | false ↦ λ t. untouched q n j newest top t
        ] refl

    -- one that is
    pub topped_new : HasNewest old new full full.generation → HasTop old new full k → IsTopped new
    topped_new newest top = λ q.
        elim (is_version_of q full) as (λ t. is_version_of q full ≡ t → top_in new q ≡ number_in new (at_generation q (newest_in new q))) [
          | true ↦ λ t.
              let there : newest_in new q ≡ full.generation = newest q ∙ ap (λ b. cond b full.generation (newest_in old q)) t in
              top q ∙ ap (λ b. cond b k (top_in old q)) t ∙ itself q t ∙ ap (λ i. number_in new (at_generation q i)) (sym there)
          | false ↦ λ t. untouched q full.generation k newest top t
        ] refl

  -- one more
  pub topped_more : (n k : ℕ) → n ≡ full.generation → HasNumber old new full (Some k) → HasNewest old new full (max (newest_in old full) n) → HasTop old new full (risen (newest_in old full) (top_in old full) n k) → IsTopped new
  topped_more n k is numbers newest top =
      let was = newest_in old full in
      elim (nat_lt n was) as (λ t. nat_lt n was ≡ t → HasTop old new full (cond t (top_in old full) (Some k)) → IsTopped new) [
        | true ↦ λ t top.
            let more = lt_is n was t in
            let stays : max was n ≡ was = omega (arith, more) in
            topped_else (Some k) numbers was (top_in old full) (subst (λ j. HasNewest old new full j) stays newest) top (λ same. omega (arith, same, more, is)) (topped full)
        | false ↦ λ t top.
            let most = lt_not n was t in
            let now : max was n ≡ full.generation = omega (arith, most, is) in
            topped_new (Some k) numbers (subst (λ j. HasNewest old new full j) now newest) top
      ] refl top

  -- the first goes
  pub topped_first : full.generation ≡ 1 → number_in old (at_generation full 0) ≡ None → HasNumber old new full None → HasNewest old new full (later (newest_in old full))
      → HasTop old new full (later_top (newest_in old full) (top_in old full)) → IsTopped new
  topped_first first zeroth numbers newest top =
      let n = newest_in old full in
      let k = top_in old full in
      elim (cases_lt n 2) as (λ _. IsTopped new) [
        | inl few ↦
            let none = later_none n few in
            topped_else None numbers (later n) (later_top n k) newest top (λ same. omega (arith, same, first, none)) (later_top_none n k few ∙ sym zeroth ∙ ap (λ j. number_in old (at_generation full j)) none)
        | inr some ↦
            let all = later_some n some in
            topped_else None numbers (later n) (later_top n k) newest top (λ same. omega (arith, same, first, all, some)) (later_top_some n k some ∙ topped full ∙ ap (λ j. number_in old (at_generation full j)) all)
      ]

  -- a later one goes that isn't the newest
  pub topped_out : new ≡ remove old full → full.generation ≢ 1 → newest_in old full ≢ full.generation → IsTopped new
  topped_out is behind apart = λ q.
      let there : newest_in new q ≡ newest_in old q = ap (λ m. newest_in m q) is ∙ later_removed old full behind q in
      let n = newest_in old q in
      let other : eq_by_cmp full_cmp (at_generation q n) full ≡ false =
      apart_is full_total full_exact (at_generation q n) full (λ e. apart (ap (λ f. newest_in old f) (sym e) ∙ ap (λ f. f.generation) e)) in
      ap (λ m. top_in m q) is ∙ other_removed (λ o. top_at o) old full q behind ∙ topped q
      ∙ elsewhere None (λ f. ap (λ m. number_in m f) is ∙ numbers_removed old full f) q n other
      ∙ ap (λ i. number_in new (at_generation q i)) (sym there)

-- the numbers of files

no_rows : (users : List UserRec) (q : Full) → None ≡ get (rows_of users (λ r. r.number) []) q
no_rows users q = sym (get-empty full_cmp q)

pub no_index : (users : List UserRec) (m : FinMap full_cmp NameEntry) → m ≡ empty → AreIndexed users [] m
no_index users m e = λ q. ap (λ n. number_in n q) e ∙ ap (λ o. number_at o) (get-empty full_cmp q) ∙ no_rows users q

-- a name among them is that of the file which has the number
pub indexed_number : (users : List UserRec) (files : List FileRec) (m : FinMap full_cmp NameEntry) (full : Full) → AreIndexed users files m → number_in m full ≡ number_of users files full
indexed_number users files m full are = are full ∙ get_file users files (λ r. r.number) full

module _ (users : List UserRec) (files : List FileRec) where
  pub indexed_more : (i : ℕ) (r : FileRec) (old new : FinMap full_cmp NameEntry) → IsRecords users files → i < length files → r ≡ get_or files i r
      → AreIndexed users (take i files) old → HasNumber old new (full_of users r) (Some r.number) → AreIndexed users (take (i + 1) files) new
  indexed_more i r old new is within stands are changed = λ q.
      let full = full_of users r in
      let rows = rows_of users (λ s. s.number) (take i files) in
      changed q ∙ ap (λ o. cond (eq_by_cmp full_cmp q full) (Some r.number) o) (are q)
      ∙ sym (get-insert full_total rows full r.number q)
      ∙ ap (λ m. get m q) (index_more users files i r full rows (insert rows full r.number) is within stands refl refl refl)

  module _ (place : ℕ) where
    -- a file between others
    pub indexed_in : (file : FileRec) (old new : FinMap full_cmp NameEntry) → IsRecords users (list.insert files place file) → AreIndexed users files old
        → HasNumber old new (full_of users file) (Some file.number) → AreIndexed users (list.insert files place file) new
    indexed_in file old new rules are changed = λ q.
        let full = full_of users file in
        let rows = rows_of users (λ s. s.number) files in
        changed q ∙ ap (λ o. cond (eq_by_cmp full_cmp q full) (Some file.number) o) (are q)
        ∙ sym (get-insert full_total rows full file.number q)
        ∙ ap (λ m. get m q) (sym (rows_new users (λ s. s.number) files place file (names_apart users (list.insert files place file) rules)))

    -- one that is taken out
    pub indexed_out : (d : FileRec) (old new : FinMap full_cmp NameEntry) → IsRecords users files → place < length files → AreIndexed users files old
        → HasNumber old new (full_of users (get_or files place d)) None → AreIndexed users (list.remove files place) new
    indexed_out d old new is within are changed = λ q.
        let r = get_or files place d in
        let full = full_of users r in
        let rows = rows_of users (λ s. s.number) files in
        let at : StandsAt files r.number place = record { within = within; has = λ e. ap (λ s. s.number) (get_or_default files place e d within) } in
        changed q ∙ ap (λ o. cond (eq_by_cmp full_cmp q full) None o) (are q)
        ∙ sym (get-remove full_total rows full q)
        ∙ ap (λ m. get m q) (sym (removed_map users files is r.number place at (λ s. s.number) d))

    -- one in the place of that
    pub indexed_set : (file : FileRec) (old new : FinMap full_cmp NameEntry) → IsRecords users (set files place file) → place < length files → AreIndexed users (list.remove files place) old
        → HasNumber old new (full_of users file) (Some file.number) → AreIndexed users (set files place file) new
    indexed_set file old new rules within are changed = λ q.
        let full = full_of users file in
        let rows = rows_of users (λ s. s.number) (list.remove files place) in
        let split = set_split files place file within in
        changed q ∙ ap (λ o. cond (eq_by_cmp full_cmp q full) (Some file.number) o) (are q)
        ∙ sym (get-insert full_total rows full file.number q)
        ∙ ap (λ m. get m q)
        (sym (ap (λ fs. rows_of users (λ s. s.number) fs) split
        ∙ put_between users (λ s. s.number) (take place files) file (drop (suc place) files) (subst (AreApart (full_of users)) split (names_apart users (set files place file) rules))))

    -- one of the same name and number
    pub indexed_kept : (old file : FileRec) (m : FinMap full_cmp NameEntry) → place < length files → old ≡ get_or files place old → full_of users old ≡ full_of users file → old.number ≡ file.number
        → AreIndexed users files m → AreIndexed users (set files place file) m
    indexed_kept old file m within is named same are = λ q.
        are q ∙ ap (λ k. get k q) (sym (rows_same users (λ s. s.number) files place old file within is named same))
