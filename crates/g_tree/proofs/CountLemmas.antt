-- What is remembered of files: the greatest generations by name, and the blocks by owner.
-- serves: counts_of, erase, lower (newest), newest_but (generation), put, rename, renew, take_later (topped), take_out (newest, topped), used (few), and 1 more
use Rattle.std.proofs.Common.{◌≡◌, ◌≢◌, ℕ, zero, suc, ◌+◌, ◌-◌, ◌<◌, ◌≤◌, ◌==◌, Bool, true, false, cond, List, [], ◌∷◌, ◌++◌, length, max, take, drop, get_or, replicate, Option, Some, None, is_some, inl, inr, refl, sym, ap, subst, ◌∙◌, arith, true≢false}
use Rattle.std.proofs.Math.ListN.{set}
use Rattle.std.specs.List.{All, Contains}
use Rattle.std.specs.List as list
use Rattle.std.specs.FinMap.{FinMap, empty, get-empty}
use Rattle.std.proofs.lemmas.Bool.{cases_lt}
use Rattle.std.proofs.lemmas.Bool.Decides.{nat_tests}
use Rattle.std.proofs.lemmas.List.{length-set, get_or-set_same, get_or-set_other, set_split, take-append-drop, take_more, append-nil, length-take-le}
use Rattle.std.proofs.lemmas.List.Elements.{All-head, All-tail, All-append, All-take, Contains-append_left, Contains-append_right, Contains-append_cases}
use Rattle.std.proofs.lemmas.List.Sums.{sum_by-cons, sum_by-append, sum_by-remove, sum_by-insert, sum_by-set, sum_by-le}
use Rattle.g_base.specs.Block.{blocks_for}
use Rattle.g_name.specs.declared.full.Full.{Full}
use Rattle.g_name.specs.Order.{full_cmp}
use Rattle.g_entry.specs.declared.user_rec.UserRec.{UserRec}
use Rattle.g_entry.specs.declared.file_rec.FileRec.{FileRec}
use Rattle.g_plain.specs.PlainTree.{is_version_of}
use Rattle.g_tree.specs.Records.{IsRecords, full_of, number_of}
use Rattle.g_tree.specs.State.{versions_of, later, newest_at, newest_in, number_in, HasNewest, used_of, AreIndexed, AreNewest, AreUsed}
use Rattle.g_tree.specs.declared.index.NameEntry.{NameEntry}
use Rattle.g_tree.specs.Answers.{newest_of}
use Rattle.g_tree.proofs.EntryLemmas.{at_generation, indexed_number, later_none, later_some, one_version, version_itself}
use Rattle.g_tree.proofs.ListLemmas.{greatest, fold_greatest, around, contains_cases}
use Rattle.g_tree.proofs.RecordLemmas.{names_apart}
use Rattle.g_tree.proofs.ChangeLemmas.{before_apart, behind_apart, removed_rules}
use Rattle.g_tree.proofs.PutLemmas.{named_found}

-- the greatest of lists

module _ {A : Type 0} (p : A → Bool) (f : A → ℕ) where
  abbrev with_one : A → ℕ → ℕ
  with_one y n = cond (p y) (max n (f y)) n

  pub greatest_middle : (xs ys : List A) (y : A) → greatest p f (xs ++ y ∷ ys) ≡ with_one y (greatest p f (xs ++ ys))
  greatest_middle [] ys y = elim (p y) as (λ t. cond t (max (f y) (greatest p f ys)) (greatest p f ys) ≡ cond t (max (greatest p f ys) (f y)) (greatest p f ys)) [ true ↦ omega arith | false ↦ refl ]
  greatest_middle (x ∷ xs) ys y =
      let rest = greatest p f (xs ++ ys) in
      ap (λ n. cond (p x) (max (f x) n) n) (greatest_middle xs ys y)
      ∙ elim (p x) as (λ s. cond s (max (f x) (with_one y rest)) (with_one y rest) ≡ with_one y (cond s (max (f x) rest) rest)) [
        | true ↦ elim (p y) as (λ t. max (f x) (cond t (max rest (f y)) rest) ≡ cond t (max (max (f x) rest) (f y)) (max (f x) rest)) [ true ↦ omega arith | false ↦ refl ]
        | false ↦ refl
      ]

  -- none is as great as one that none equals
  pub greatest_less : (n : ℕ) (xs : List A) → 1 ≤ n → All (λ x. p x ≡ true → f x ≢ n) xs → greatest p f xs ≤ n → greatest p f xs < n
  greatest_less n [] some apart = λ le. omega arith
  greatest_less n (x ∷ xs) some apart =
      let rest = greatest_less n xs some (All-tail (λ y. p y ≡ true → f y ≢ n) x xs apart) in
      let first : p x ≡ true → f x ≢ n = All-head (λ y. p y ≡ true → f y ≢ n) x xs apart in
      elim (p x) as (λ t. p x ≡ t → cond t (max (f x) (greatest p f xs)) (greatest p f xs) ≤ n → cond t (max (f x) (greatest p f xs)) (greatest p f xs) < n) [
        | true ↦ λ e le. let other = first e in let lower = rest (omega arith) in omega (arith, other, lower, le)
        | false ↦ λ _ le. rest le
      ] refl

  -- An element of the list is at most the greatest.
  pub greatest_holds : (xs : List A) (k : ℕ) (d : A) → k < length xs → p (get_or xs k d) ≡ true → f (get_or xs k d) ≤ greatest p f xs
  greatest_holds [] k d within e = absurd (omega arith)
  greatest_holds (x ∷ xs) zero d within e = subst (λ t. f x ≤ cond t (max (f x) (greatest p f xs)) (greatest p f xs)) (sym e) (omega arith)
  greatest_holds (x ∷ xs) (suc k) d within e =
      let rest = greatest_holds xs k d (omega arith) e in
      elim (p x) as (λ t. f (get_or xs k d) ≤ cond t (max (f x) (greatest p f xs)) (greatest p f xs)) [ true ↦ omega (arith, rest) | false ↦ rest ]

-- the greatest generation of the files

module _ (users : List UserRec) where
  pub newest_greatest : (q : Full) (files : List FileRec) → newest_of users q files ≡ greatest (λ r. is_version_of q (full_of users r)) (λ r. r.generation) files
  newest_greatest q files = fold_greatest (λ r. is_version_of q (full_of users r)) (λ r. r.generation) 0 files ∙ omega arith

  pub newest_middle : (q : Full) (xs ys : List FileRec) (r : FileRec)
      → newest_of users q (xs ++ r ∷ ys) ≡ cond (is_version_of q (full_of users r)) (max (newest_of users q (xs ++ ys)) r.generation) (newest_of users q (xs ++ ys))
  newest_middle q xs ys r =
      newest_greatest q (xs ++ r ∷ ys) ∙ greatest_middle (λ r. is_version_of q (full_of users r)) (λ r. r.generation) xs ys r
      ∙ ap (λ n. cond (is_version_of q (full_of users r)) (max n r.generation) n) (sym (newest_greatest q (xs ++ ys)))

  pub newest_one : (q f : Full) (files : List FileRec) → is_version_of q f ≡ true → newest_of users q files ≡ newest_of users f files
  newest_one q f files e = ap (λ name. newest_of users name files) (one_version q f e)

  -- a file between others
  pub newest_risen : (xs ys : List FileRec) (r : FileRec) (old new : FinMap full_cmp NameEntry) → AreNewest users (xs ++ ys) old → HasNewest old new (full_of users r) (max (newest_in old (full_of users r)) r.generation)
      → AreNewest users (xs ++ r ∷ ys) new
  newest_risen xs ys r old new are changed = λ q.
      let full = full_of users r in
      let rest = newest_of users q (xs ++ ys) in
      changed q
      ∙ elim (is_version_of q full) as (λ t. is_version_of q full ≡ t → cond t (max (newest_in old full) r.generation) (newest_in old q) ≡ cond t (max rest r.generation) rest) [
        | true ↦ λ e. ap (λ n. max n r.generation) (are full ∙ sym (newest_one q full (xs ++ ys) e))
        | false ↦ λ _. are q
      ] refl
      ∙ sym (newest_middle q xs ys r)

  -- a file that is taken out
  pub newest_fallen : (xs ys : List FileRec) (r : FileRec) (n : ℕ) (old new : FinMap full_cmp NameEntry) → AreNewest users (xs ++ r ∷ ys) old → n ≡ newest_of users (full_of users r) (xs ++ ys)
      → HasNewest old new (full_of users r) n → AreNewest users (xs ++ ys) new
  newest_fallen xs ys r n old new are left changed = λ q.
      let full = full_of users r in
      let rest = newest_of users q (xs ++ ys) in
      changed q
      ∙ elim (is_version_of q full) as (λ t. is_version_of q full ≡ t → cond t n (newest_in old q) ≡ rest) [
        | true ↦ λ e. left ∙ sym (newest_one q full (xs ++ ys) e)
        | false ↦ λ e. are q ∙ newest_middle q xs ys r ∙ ap (λ t. cond t (max rest r.generation) rest) e
      ] refl

  -- the greatest generation with a file among the others, and without it
  module _ (files : List FileRec) (place : ℕ) (r : FileRec) (within : place < length files) (here : r ≡ get_or files place r) where
    parts : files ≡ take place files ++ r ∷ drop (suc place) files
    parts = around files place r within ∙ ap (λ s. take place files ++ s ∷ drop (suc place) files) (sym here)

    pub newest_with : (full : Full) → full ≡ full_of users r → newest_of users full files ≡ max (newest_of users full (list.remove files place)) r.generation
    newest_with full named =
        let rest = newest_of users full (list.remove files place) in
        ap (newest_of users full) parts ∙ newest_middle full (take place files) (drop (suc place) files) r
        ∙ ap (λ t. cond t (max rest r.generation) rest) (ap (λ f. is_version_of full f) (sym named) ∙ version_itself full)

    pub erased_newest : (n : ℕ) (full : Full) (old new : FinMap full_cmp NameEntry) → AreNewest users files old → full ≡ full_of users r → n ≡ newest_of users full (list.remove files place) → HasNewest old new full n
        → AreNewest users (list.remove files place) new
    erased_newest n full old new are named left changed =
        newest_fallen (take place files) (drop (suc place) files) r n old new (subst (λ fs. AreNewest users fs old) parts are) (left ∙ ap (λ f. newest_of users f (list.remove files place)) named)
        (subst (λ f. HasNewest old new f n) named changed)

    pub replaced_newest : (file : FileRec) (middle new : FinMap full_cmp NameEntry) → AreNewest users (list.remove files place) middle
        → HasNewest middle new (full_of users file) (max (newest_in middle (full_of users file)) file.generation) → AreNewest users (set files place file) new
    replaced_newest file middle new are risen =
        subst (λ fs. AreNewest users fs new) (sym (set_split files place file within))
        (newest_risen (take place files) (drop (suc place) files) file middle new are risen)

    -- the same name in the place of another of that name
    pub kept_newest : (file : FileRec) (old : FinMap full_cmp NameEntry) → AreNewest users files old → full_of users r ≡ full_of users file → AreNewest users (set files place file) old
    kept_newest file old are named = λ q.
        let xs = take place files in
        let ys = drop (suc place) files in
        are q
        ∙ (ap (newest_of users q) parts ∙ newest_middle q xs ys r
        ∙ ap (λ f. cond (is_version_of q f) (max (newest_of users q (xs ++ ys)) f.generation) (newest_of users q (xs ++ ys))) named
        ∙ sym (newest_middle q xs ys file) ∙ ap (newest_of users q) (sym (set_split files place file within)))

  pub new_newest : (files : List FileRec) (place : ℕ) (file : FileRec) (old new : FinMap full_cmp NameEntry) → AreNewest users files old
      → HasNewest old new (full_of users file) (max (newest_in old (full_of users file)) file.generation) → AreNewest users (list.insert files place file) new
  new_newest files place file old new are risen =
      newest_risen (take place files) (drop place files) file old new (subst (λ fs. AreNewest users fs old) (sym (take-append-drop place files)) are) risen

pub no_newest : (users : List UserRec) (m : FinMap full_cmp NameEntry) → m ≡ empty → AreNewest users [] m
no_newest users m e = λ q. ap (λ n. newest_in n q) e ∙ ap (λ o. newest_at o) (get-empty full_cmp (versions_of q))

-- the blocks of owners

abbrev pub blocks_at : ℕ → FileRec → ℕ
blocks_at owner r = cond (r.owner == owner) (blocks_for r.len) 0

nat_same : (n : ℕ) → (n == n) ≡ true
nat_same n = grind (arith, nat_tests)

nat_equal : (m n : ℕ) → (m == n) ≡ true → m ≡ n
nat_equal m n e = grind (arith, nat_tests)

nat_other : (m n : ℕ) → (m == n) ≡ false → m ≢ n
nat_other m n e = grind (arith, nat_tests)

-- one number among others becomes another
at_place : (blocks : List ℕ) (place n owner : ℕ) → place < length blocks → get_or (set blocks place n) owner 0 ≡ cond (place == owner) n (get_or blocks owner 0)
at_place blocks place n owner within =
    elim (place == owner) as (λ t. (place == owner) ≡ t → get_or (set blocks place n) owner 0 ≡ cond t n (get_or blocks owner 0)) [
      | true ↦ λ e. let is = nat_equal place owner e in ap (λ k. get_or (set blocks place n) k 0) (sym is) ∙ get_or-set_same blocks place n 0 within
      | false ↦ λ e. get_or-set_other blocks place owner n 0 (λ same. nat_other place owner e (sym same))
    ] refl

-- a file more, and a file fewer
pub used_more : (files more : List FileRec) (r : FileRec) (blocks : List ℕ) → AreUsed files blocks → r.owner < 63 → ((o : ℕ) → used_of more o ≡ used_of files o + blocks_at o r)
    → AreUsed more (set blocks r.owner (get_or blocks r.owner 0 + blocks_for r.len))
used_more files more r blocks are within sums = record {
  places = length-set blocks r.owner _ ∙ are.places;
  each = λ o.
      at_place blocks r.owner _ o (let places = are.places in omega (arith, within, places))
      ∙ elim (r.owner == o) as (λ t. (r.owner == o) ≡ t → cond t (get_or blocks r.owner 0 + blocks_for r.len) (get_or blocks o 0) ≡ used_of files o + cond t (blocks_for r.len) 0) [
        | true ↦ λ e. ap (λ n. n + blocks_for r.len) (ap (λ k. get_or blocks k 0) (nat_equal r.owner o e) ∙ are.each o)
        | false ↦ λ _. are.each o ∙ omega arith
      ] refl
      ∙ sym (sums o);
}

pub used_fewer : (files fewer : List FileRec) (r : FileRec) (blocks : List ℕ) → AreUsed files blocks → r.owner < 63 → ((o : ℕ) → used_of fewer o + blocks_at o r ≡ used_of files o)
    → AreUsed fewer (set blocks r.owner (get_or blocks r.owner 0 - blocks_for r.len))
used_fewer files fewer r blocks are within sums = record {
  places = length-set blocks r.owner _ ∙ are.places;
  each = λ o.
      at_place blocks r.owner _ o (let places = are.places in omega (arith, within, places))
      ∙ elim (r.owner == o) as (λ t. (r.owner == o) ≡ t → used_of fewer o + cond t (blocks_for r.len) 0 ≡ used_of files o → cond t (get_or blocks r.owner 0 - blocks_for r.len) (get_or blocks o 0) ≡ used_of fewer o) [
        | true ↦ λ e sum. let there = ap (λ k. get_or blocks k 0) (nat_equal r.owner o e) ∙ are.each o in omega (arith, there, sum)
        | false ↦ λ _ sum. let there = are.each o in omega (arith, there, sum)
      ] refl (sums o);
}

module _ (files : List FileRec) where
  pub used_most : (owner : ℕ) → length files ≤ 1024 → All (λ r. r.len ≤ 65536) files → used_of files owner ≤ 131072
  used_most owner few lens =
      let each : All (λ r. blocks_at owner r ≤ 128) files =
      λ k d within. let r = get_or files k d in let len = lens k d within in
      elim (r.owner == owner) as (λ t. cond t (blocks_for r.len) 0 ≤ 128) [ true ↦ omega (arith, len) | false ↦ omega arith ] in
      let most = sum_by-le (blocks_at owner) 128 files each in
      omega (arith, most, few)

  -- a file's blocks are among those of its owner
  pub used_least : (place : ℕ) (r : FileRec) → place < length files → r ≡ get_or files place r → blocks_for r.len ≤ used_of files r.owner
  used_least place r within here =
      let sum = sum_by-remove (blocks_at r.owner) files place r within in
      let is : blocks_at r.owner (get_or files place r) ≡ blocks_for r.len =
      ap (blocks_at r.owner) (sym here) ∙ ap (λ t. cond t (blocks_for r.len) 0) (nat_same r.owner) in
      omega (arith, sum, is)

  pub new_used : (place : ℕ) (file : FileRec) (blocks : List ℕ) → AreUsed files blocks → file.owner < 63 → AreUsed (list.insert files place file) (set blocks file.owner (get_or blocks file.owner 0 + blocks_for file.len))
  new_used place file blocks are within = used_more files (list.insert files place file) file blocks are within (λ o. sum_by-insert (blocks_at o) files place file)

  pub erased_used : (place : ℕ) (r : FileRec) (blocks : List ℕ) → AreUsed files blocks → r.owner < 63 → place < length files → r ≡ get_or files place r
      → AreUsed (list.remove files place) (set blocks r.owner (get_or blocks r.owner 0 - blocks_for r.len))
  erased_used place r blocks are within there here =
      used_fewer files (list.remove files place) r blocks are within
      (λ o. ap (λ s. used_of (list.remove files place) o + blocks_at o s) here ∙ sum_by-remove (blocks_at o) files place r there)

  pub replaced_used : (place : ℕ) (r file : FileRec) (old middle : List ℕ) → AreUsed files old → r.owner < 63 → file.owner < 63 → place < length files → r ≡ get_or files place r
      → middle ≡ set old r.owner (get_or old r.owner 0 - blocks_for r.len) → AreUsed (set files place file) (set middle file.owner (get_or middle file.owner 0 + blocks_for file.len))
  replaced_used place r file old middle are within other there here less =
      used_more (list.remove files place) (set files place file) file middle (subst (AreUsed (list.remove files place)) (sym less) (erased_used place r old are within there here)) other
      (λ o.
      let out = ap (λ s. used_of (list.remove files place) o + blocks_at o s) here ∙ sum_by-remove (blocks_at o) files place r there in
      let changed = ap (λ s. used_of (set files place file) o + blocks_at o s) here ∙ sum_by-set (blocks_at o) files place file r there in
      omega (arith, out, changed))

pub no_used : (blocks : List ℕ) → length blocks ≡ 63 → ((o : ℕ) → get_or blocks o 0 ≡ 0) → AreUsed [] blocks
no_used blocks places none = record { places = places; each = none }

module _ (users : List UserRec) (files : List FileRec) (is : IsRecords users files) where
  pub used_few : (blocks : List ℕ) (owner : ℕ) → AreUsed files blocks → get_or blocks owner 0 ≤ 131072
  used_few blocks owner are = subst (λ n. n ≤ 131072) (sym (are.each owner)) (used_most files owner is.among_files.few (λ k d within. (is.each_file k d within).len))

  pub owner_few : (owner : ℕ) → owner < length users → owner < 63
  owner_few owner within = let few = is.among_users.few in omega (arith, within, few)

  pub owner_at : (place : ℕ) (r : FileRec) → place < length files → r ≡ get_or files place r → r.owner < 63
  owner_at place r within here = owner_few r.owner (subst (λ s. s.owner < length users) (sym here) (is.among_files.owners place r within))

-- No version after the newest exists.
pub nothing_newer : (users : List UserRec) (files : List FileRec) (full : Full) → IsRecords users files → newest_of users full files < full.generation → number_of users files full ≡ None
nothing_newer users files full is newer =
    elim (number_of users files full) as (λ o. number_of users files full ≡ o → o ≡ None) [
      | None ↦ λ _. refl
      | Some number ↦ λ found.
          let p = λ (s : FileRec). is_version_of full (full_of users s) in
          let there = named_found users files is number full found in
          let among : Contains files there.0 = there.1.0 in
          let same : get_or files among.0 there.0 ≡ there.0 = among.2 in
          let holds = greatest_holds p (λ s. s.generation) files among.0 there.0 among.1 (ap p same ∙ ap (is_version_of full) there.1.1 ∙ version_itself full) in
          let greatest_is = newest_greatest users full files in
          let generation = ap (λ (s : FileRec). s.generation) same in
          let is_full = ap (λ f. f.generation) there.1.1 in
          absurd (omega (arith, holds, greatest_is, generation, is_full, newer))
    ] refl

-- nor one before the first
no_zeroth : (users : List UserRec) (files : List FileRec) (full : Full) → IsRecords users files → number_of users files (at_generation full 0) ≡ None
no_zeroth users files full is =
    elim (number_of users files (at_generation full 0)) as (λ o. number_of users files (at_generation full 0) ≡ o → o ≡ None) [
      | None ↦ λ _. refl
      | Some number ↦ λ found.
          let there = named_found users files is number (at_generation full 0) found in
          let among : Contains files there.0 = there.1.0 in
          let least = subst (λ s. 1 ≤ s.generation) among.2 (is.each_file among.0 there.0 among.1).least_generation in
          let zeroth = ap (λ f. f.generation) there.1.1 in
          absurd (omega (arith, least, zeroth))
    ] refl

pub zeroth_none : (users : List UserRec) (files : List FileRec) (entries : FinMap full_cmp NameEntry) (full : Full) → IsRecords users files → AreIndexed users files entries → number_in entries (at_generation full 0) ≡ None
zeroth_none users files entries full is are = indexed_number users files entries (at_generation full 0) are ∙ no_zeroth users files full is

-- the newest version but one

same_full : (a b : Full) → is_version_of a b ≡ true → b.generation ≡ a.generation → a ≡ b
same_full a b e g = ap (λ f. at_generation f a.generation) (one_version a b e) ∙ ap (λ n. at_generation b n) (sym g)

module _ (users : List UserRec) (files : List FileRec) (is : IsRecords users files) (place : ℕ) (r : FileRec) (within : place < length files) (here : r ≡ get_or files place r) where
  module _ (full : Full) (named : full ≡ full_of users r) where
    generation_is : full.generation ≡ r.generation
    generation_is = ap (λ f. f.generation) named

    least : 1 ≤ r.generation
    least = subst (λ s. 1 ≤ s.generation) (sym here) (is.each_file place r within).least_generation

    pub least_here : 1 ≤ full.generation
    least_here = let one = least in let same = generation_is in omega (arith, one, same)

    -- something is known of the versions
    pub newest_some : (entries : FinMap full_cmp NameEntry) → AreNewest users files entries → 1 ≤ newest_in entries full
    newest_some entries are =
        let with_it = newest_with users files place r within here full named in
        let one = least in
        let known = are full in
        omega (arith, with_it, one, known)

    -- If the removed version isn't the newest.
    pub newest_kept : (n : ℕ) → n ≡ newest_of users full files → n ≢ full.generation → n ≡ newest_of users full (list.remove files place)
    newest_kept n newest other =
        let with_it = newest_with users files place r within here full named in
        let same = generation_is in
        omega (arith, newest, with_it, other, same)

    others_apart : All (λ x. is_version_of full (full_of users x) ≡ true → x.generation ≢ r.generation) (list.remove files place)
    others_apart =
        let apart = names_apart users files is in
        let one : (x : FileRec) → full_of users (get_or files place r) ≢ full_of users x → is_version_of full (full_of users x) ≡ true → x.generation ≢ r.generation =
        λ x other e same. other (ap (full_of users) (sym here) ∙ sym named ∙ same_full full (full_of users x) e (same ∙ sym generation_is)) in
        let all : (xs : List FileRec) → All (λ x. full_of users (get_or files place r) ≢ full_of users x) xs → All (λ x. is_version_of full (full_of users x) ≡ true → x.generation ≢ r.generation) xs =
        λ xs h k d low. one (get_or xs k d) (h k d low) in
        All-append (λ x. is_version_of full (full_of users x) ≡ true → x.generation ≢ r.generation) (take place files) (drop (suc place) files)
        (all (take place files) (before_apart (full_of users) files place r apart within)) (all (drop (suc place) files) (behind_apart (full_of users) files place r apart within))

    -- If it is.
    pub newest_less : newest_of users full files ≡ full.generation → newest_of users full (list.remove files place) < full.generation
    newest_less newest =
        let p = λ (s : FileRec). is_version_of full (full_of users s) in
        let with_it = newest_with users files place r within here full named in
        let same = generation_is in
        let one = least in
        let greatest_is = newest_greatest users full (list.remove files place) in
        let less = greatest_less p (λ s. s.generation) r.generation (list.remove files place) one others_apart (omega (arith, newest, with_it, same, greatest_is)) in
        omega (arith, less, greatest_is, same)

    -- the newest of the others has another generation
    pub newest_apart : newest_of users full (list.remove files place) ≢ full.generation
    newest_apart = λ e.
        let with_it = newest_with users files place r within here full named in
        let same = generation_is in
        let less = newest_less (omega (arith, with_it, same, e)) in
        omega (arith, less, e)

    -- An existing version is among the others.
    pub newest_holds : (before : Full) (number : ℕ) → is_version_of full before ≡ true → before.generation ≢ full.generation → number_of users files before ≡ Some number
        → before.generation ≤ newest_of users full (list.remove files place)
    newest_holds before number version other found =
        let p = λ (s : FileRec). is_version_of full (full_of users s) in
        let there = named_found users files is number before found in
        let s = there.0 in
        let parts_is = around files place r within in
        let among : Contains (list.remove files place) s =
        elim (Contains-append_cases (take place files) (get_or files place r ∷ drop (suc place) files) s (subst (λ fs. Contains fs s) parts_is there.1.0)) as (λ _. Contains (list.remove files place) s) [
          | inl front ↦ Contains-append_left (take place files) (drop (suc place) files) s front
          | inr back ↦ elim (contains_cases (get_or files place r) s (drop (suc place) files) back) as (λ _. Contains (list.remove files place) s) [
            | inl same ↦ absurd (other (ap (λ f. f.generation) (sym there.1.1) ∙ ap (λ t. t.generation) (sym same ∙ sym here) ∙ sym generation_is))
            | inr behind ↦ Contains-append_right (take place files) (drop (suc place) files) s behind
          ]
        ] in
        let k = among.0 in
        let same : get_or (list.remove files place) k s ≡ s = among.2 in
        let holds = greatest_holds p (λ t. t.generation) (list.remove files place) k s among.1 (ap p same ∙ ap (is_version_of full) there.1.1 ∙ version) in
        let greatest_is = newest_greatest users full (list.remove files place) in
        let generation = ap (λ t. t.generation) same in
        let is_before = ap (λ f. f.generation) there.1.1 in
        omega (arith, holds, greatest_is, generation, is_before)

    pub newest_next : (n : ℕ) → newest_of users full files ≡ full.generation → n + 1 ≡ full.generation → n ≤ newest_of users full (list.remove files place) → n ≡ newest_of users full (list.remove files place)
    newest_next n newest next most = let less = newest_less newest in omega (arith, less, next, most)

    pub newest_before : (n : ℕ) (o : Option ℕ) → newest_of users full files ≡ full.generation → n + 1 ≡ full.generation → o ≡ number_of users files (at_generation full n) → is_some o ≡ true
        → n ≡ newest_of users full (list.remove files place)
    newest_before n None newest next is some = absurd (true≢false (sym some))
    newest_before n (Some number) newest next is some =
        newest_next n newest next (newest_holds (at_generation full n) number (version_itself full) (λ same. omega (arith, same, next)) (sym is))

    -- If no version is left, the name of generation 1 has no number.
    pub none_first : (entries : FinMap full_cmp NameEntry) → AreIndexed users files entries → full.generation ≢ 1 → 0 ≡ newest_of users full (list.remove files place) → number_in entries (versions_of full) ≡ None
    none_first entries are behind none =
        elim (number_of users files (versions_of full)) as (λ o. number_of users files (versions_of full) ≡ o → number_in entries (versions_of full) ≡ None) [
          | None ↦ λ absent. indexed_number users files entries (versions_of full) are ∙ absent
          | Some number ↦ λ found.
              let holds : 1 ≤ newest_of users full (list.remove files place) = newest_holds (versions_of full) number (version_itself full) (λ same. behind (sym same)) found in
              absurd (omega (arith, holds, none))
        ] refl

    -- what is left of a file without its first generation
    pub first_left : full.generation ≡ 1 → later (newest_of users full files) ≡ newest_of users full (list.remove files place)
    first_left first =
        let p = λ (s : FileRec). is_version_of full (full_of users s) in
        let rest = newest_of users full (list.remove files place) in
        let with_it = newest_with users files place r within here full named in
        let same = generation_is in
        let one : r.generation ≡ 1 = sym same ∙ first in
        let greatest_is = newest_greatest users full (list.remove files place) in
        elim (cases_lt rest 2) as (λ _. later (newest_of users full files) ≡ rest) [
          | inl few ↦
              let less = greatest_less p (λ s. s.generation) r.generation (list.remove files place) least others_apart (omega (arith, few, one, greatest_is)) in
              let left : rest ≡ 0 = omega (arith, less, one, greatest_is) in
              sym (later_none (newest_of users full files) (omega (arith, with_it, left, one))) ∙ sym left
          | inr some ↦
              let all : newest_of users full files ≡ rest = omega (arith, with_it, some, one) in
              sym (later_some (newest_of users full files) (omega (arith, all, some))) ∙ all
        ]

-- what a file at a place gives back

module _ (users : List UserRec) (files : List FileRec) (is : IsRecords users files) (place : ℕ) (r : FileRec) (within : place < length files) (here : r ≡ get_or files place r) (blocks : List ℕ) (are : AreUsed files blocks) where
  pub give_there : r.owner < length blocks
  give_there =
      let owner = owner_at users files is place r within here in
      let places = are.places in
      omega (arith, owner, places)

  pub give_some : blocks_for r.len ≤ get_or blocks r.owner 0
  give_some = subst (λ n. blocks_for r.len ≤ n) (sym (are.each r.owner)) (used_least files place r within here)

-- file by file

zeros_at : (n k : ℕ) → ◌≡◌ {A = ℕ} (get_or (replicate n 0) k 0) 0
zeros_at zero k = refl
zeros_at (suc n) zero = refl
zeros_at (suc n) (suc k) = zeros_at n k

pub first_used : (blocks : List ℕ) → blocks ≡ replicate 63 0 → AreUsed [] blocks
first_used blocks is = no_used blocks (ap length is) (λ o. ap (λ bs. get_or bs o 0) is ∙ zeros_at 63 o)

module _ (users : List UserRec) (files : List FileRec) (i : ℕ) (r : FileRec) (within : i < length files) (here : r ≡ get_or files i r) where
  one_more : take (i + 1) files ≡ take i files ++ r ∷ []
  one_more = take_more files i r within ∙ ap (λ s. take i files ++ s ∷ []) (sym here)

  pub newest_push : (old new : FinMap full_cmp NameEntry) → AreNewest users (take i files) old → HasNewest old new (full_of users r) (max (newest_in old (full_of users r)) r.generation)
      → AreNewest users (take (i + 1) files) new
  newest_push old new are risen =
      subst (λ fs. AreNewest users fs new) (sym one_more)
      (newest_risen users (take i files) [] r old new (subst (λ fs. AreNewest users fs old) (sym (append-nil (take i files))) are) risen)

  pub used_push : (blocks : List ℕ) → IsRecords users files → AreUsed (take i files) blocks → AreUsed (take (i + 1) files) (set blocks r.owner (get_or blocks r.owner 0 + blocks_for r.len))
  used_push blocks is are =
      used_more (take i files) (take (i + 1) files) r blocks are (owner_at users files is i r within here)
      (λ o.
      let sum = ap (λ fs. used_of fs o) one_more ∙ sum_by-append (blocks_at o) (take i files) (r ∷ []) in
      let one = sum_by-cons (blocks_at o) r [] in
      omega (arith, sum, one))

  pub take_some : (blocks : List ℕ) → IsRecords users files → AreUsed (take i files) blocks → (r.owner < length blocks) × (get_or blocks r.owner 0 ≤ 131072) × (r.len ≤ 65536)
  take_some blocks is are =
      let owner = owner_at users files is i r within here in
      let places = are.places in
      let few = is.among_files.few in
      let len = length-take-le i files (omega (arith, within)) in (
        omega (arith, owner, places),
        subst (λ n. n ≤ 131072) (sym (are.each r.owner)) (used_most (take i files) r.owner (omega (arith, few, within, len)) (All-take (λ s. s.len ≤ 65536) i files (λ k d inside. (is.each_file k d inside).len))),
        subst (λ s. s.len ≤ 65536) (sym here) (is.each_file i r within).len,
      )

-- One file replaces another.

module _ (users : List UserRec) (files : List FileRec) (is : IsRecords users files) (place : ℕ) (r : FileRec) (within : place < length files) (here : r ≡ get_or files place r) where
  pub rest_used : (blocks next : List ℕ) (owner : ℕ) → AreUsed files blocks → next ≡ set blocks r.owner (get_or blocks r.owner 0 - blocks_for r.len) → get_or next owner 0 ≤ 131072
  rest_used blocks next owner are less =
      let rest = list.remove files place in
      let left : AreUsed rest next = subst (AreUsed rest) (sym less) (erased_used files place r blocks are (owner_at users files is place r within here) within here) in
      used_few users rest (removed_rules users files is place within) next owner left

  module _ (file : FileRec) (rules : IsRecords users (set files place file)) where
    there : get_or (set files place file) place file ≡ file
    there = get_or-set_same files place file file within

    inside : place < length (set files place file)
    inside = let len = length-set files place file in omega (arith, within, len)

    pub put_owner : file.owner < 63
    put_owner = owner_at users (set files place file) rules place file inside (sym there)

    pub put_len : file.len ≤ 65536
    put_len = subst (λ s. s.len ≤ 65536) there (rules.each_file place file inside).len
