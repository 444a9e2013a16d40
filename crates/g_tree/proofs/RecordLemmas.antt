-- From numbered records to the tree of names.
-- serves: by_number, find (there), find_user (there), input (there), len (len), listing, newest_file (few), number, and 18 more
use Rattle.std.proofs.Common.{◌≡◌, ◌≢◌, ◌⊎◌, ℕ, zero, suc, ◌<◌, ◌≤◌, ◌==◌, true, false, cond, ◌&&◌, List, [], ◌∷◌, length, map, filter, fold, max, sum_by, Option, Some, None, is_some, unwrap_or, refl, sym, ap, ◌∙◌, arith, inl, inr, true≢false, get_or}
use Rattle.std.specs.List.{All, AllPairs}
use Rattle.std.specs.Option.{option_map}
use Rattle.std.specs.Cmp.{eq_by_cmp_equiv}
use Rattle.std.specs.Cmp.Lexicographic.{texts_ties}
use Rattle.std.specs.FinMap.{get, entries, from_entries, get-from_entries}
use Rattle.std.proofs.lemmas.List.{get_or-map}
use Rattle.std.proofs.lemmas.List.Elements.{Contains-get_or}
use Rattle.std.proofs.lemmas.List.Sorted.{sum_by-IsPermutation}
use Rattle.std.proofs.lemmas.Bool.{cases_lt}
use Rattle.std.proofs.lemmas.Bool.Decides.{nat_tests}
use Rattle.g_base.specs.Block.{blocks_for}
use Rattle.g_name.specs.declared.full.Full.{Full}
use Rattle.g_name.specs.declared.path.Path.{Path}
use Rattle.g_name.specs.Grammar.{is_word}
use Rattle.g_name.specs.Order.{text_cmp, full_cmp, same_text}
use Rattle.g_name.proofs.Order.{full_total}
use Rattle.g_entry.specs.declared.format.Format.TheVariants.{Two}
use Rattle.g_entry.specs.declared.user_rec.UserRec.{UserRec}
use Rattle.g_entry.specs.declared.file_rec.FileRec.{FileRec}
use Rattle.g_entry.specs.UserFields.{IsUser}
use Rattle.g_plain.specs.PlainTree.{has_user, has_file, newest, named, used_blocks, is_version_of}
use Rattle.g_plain.proofs.Found.{apart_is}
use Rattle.g_plain.proofs.TextMaps.{text_total, text_exact, full_exact}
use Rattle.g_plain.proofs.TreeLemmas.{entries_found, all_map}
use Rattle.g_tree.specs.Records.{IsRecords, HasLengths, name_of, full_of, user_row_of, file_row_of, tree_of, users_by_name, by_name, number_of}
use Rattle.g_tree.specs.Answers.{newest_of, listed}
use Rattle.g_tree.proofs.ListLemmas.{filter_same_on, filter_none, sum_same_on, sum_of_map, greatest, fold_greatest, greatest_of_map, greatest_le, filter_of_map, kept_same_on, map_of_map}
use Rattle.g_tree.proofs.MapLemmas.{with_value, keyed, AreApart, apart_keyed, none_found, get_valued, entries_valued, entries_kept, entries_permute, greatest_made}

pub nobody : UserRec
nobody = record { number = 0; user = []; superior = 0; space = 0; time = 0; money = 0 }

-- the names of users

pub name_at : (users : List UserRec) (i : ℕ) (d : UserRec) → i < length users → name_of users i ≡ (get_or users i d).user
name_at users i d within = get_or-map (λ u. u.user) users i d [] within

name_past : (users : List UserRec) (i : ℕ) → length users ≤ i → name_of users i ≡ []
name_past [] i past = refl
name_past (u ∷ users) zero past = absurd (omega arith)
name_past (u ∷ users) (suc i) past = name_past users i (omega arith)

pub name_word : (users : List UserRec) (i : ℕ) → All (IsUser Two) users → i < length users → is_word (name_of users i) ≡ true
name_word users i all within = ap is_word (name_at users i nobody within) ∙ (all i nobody within).user

word_there : (name : List ℕ) → is_word name ≡ true → name ≢ []
word_there name word none = true≢false (sym word ∙ ap is_word none)

pub name_apart : (users : List UserRec) (i j : ℕ) → AllPairs (λ u v. u.user ≢ v.user) users → i < length users → j < length users → name_of users i ≡ name_of users j → i ≡ j
name_apart users i j pairs first second same =
    let users_same : (get_or users i nobody).user ≡ (get_or users j nobody).user = sym (name_at users i nobody first) ∙ same ∙ name_at users j nobody second in
    elim (cases_lt i j) as (λ _. i ≡ j) [
      | inl lower ↦ absurd (pairs i j nobody lower second users_same)
      | inr above ↦ elim (cases_lt j i) as (λ _. i ≡ j) [
        | inl lower ↦ absurd (pairs j i nobody lower first (sym users_same))
        | inr below ↦ omega arith
      ]
    ]

same_itself : (a : List ℕ) → same_text a a ≡ true
same_itself a = texts_ties a a ∙ (eq_by_cmp_equiv text_total).refl a

text_apart : (a b : List ℕ) → a ≢ b → same_text a b ≡ false
text_apart a b apart = texts_ties a b ∙ apart_is text_total text_exact a b apart

-- Users' names are equal if and only if their numbers are, even if one of the numbers is unused.
pub same_user : (users : List UserRec) (i j : ℕ) → All (IsUser Two) users → AllPairs (λ u v. u.user ≢ v.user) users
    → (i < length users) ⊎ (j < length users) → same_text (name_of users i) (name_of users j) ≡ (i == j)
same_user users i j all pairs used =
    elim (i == j) as (λ t. (i == j) ≡ t → same_text (name_of users i) (name_of users j) ≡ t) [
      | true ↦ λ t. let is : i ≡ j = grind (arith, nat_tests) in ap (λ k. same_text (name_of users i) (name_of users k)) (sym is) ∙ same_itself (name_of users i)
      | false ↦ λ t.
          let apart : i ≢ j = grind (arith, nat_tests) in
          text_apart (name_of users i) (name_of users j)
          (λ e. elim (cases_lt i (length users)) as (λ _. ⊥) [
            | inl first ↦ elim (cases_lt j (length users)) as (λ _. ⊥) [
              | inl second ↦ apart (name_apart users i j pairs first second e)
              | inr past ↦ word_there (name_of users i) (name_word users i all first) (e ∙ name_past users j past)
            ]
            | inr past ↦ elim used as (λ _. ⊥) [
              | inl first ↦ omega arith
              | inr second ↦ word_there (name_of users j) (name_word users j all second) (sym e ∙ name_past users i past)
            ]
          ])
    ] refl

-- the keys of records

module _ (users : List UserRec) (files : List FileRec) where
  pub names_apart : IsRecords users files → AreApart (full_of users) files
  names_apart is =
      λ i j d lower within e.
      let first : i < length files = omega arith in
      is.among_files.names i j d lower within
      (record {
        owner = name_apart users _ _ is.among_users.names (is.among_files.owners i d first) (is.among_files.owners j d within) (ap (λ f. f.user) e);
        local = ap (λ f. f.local) e;
        generation = ap (λ f. f.generation) e;
        lang = ap (λ f. f.lang) e;
      })

  pub numbers_apart : IsRecords users files → AreApart (λ r. r.number) files
  numbers_apart is = λ i j d lower within e. let rising = is.numbers.rising i j d lower within in omega (arith, rising, e)

  -- the map of other values, and that of records
  pub valued : {X : Type 0} (g : FileRec → X) → map (λ r. (full_of users r, g r)) files ≡ map (with_value full_cmp g) (keyed (full_of users) files)
  valued g = sym (map_of_map (with_value full_cmp g) (λ r. (full_of users r, r)) files)

  pub get_file : {X : Type 0} (g : FileRec → X) (full : Full) → get (from_entries {R = full_cmp} (map (λ r. (full_of users r, g r)) files)) full ≡ option_map g (get (by_name users files) full)
  get_file g full = ap (λ es. get (from_entries {R = full_cmp} es) full) (valued g) ∙ get_valued full_cmp g full_total (keyed (full_of users) files) full

  pub file_entries : {X : Type 0} (g : FileRec → X) → entries (from_entries {R = full_cmp} (map (λ r. (full_of users r, g r)) files)) ≡ map (with_value full_cmp g) (entries (by_name users files))
  file_entries g = ap (λ es. entries (from_entries {R = full_cmp} es)) (valued g) ∙ entries_valued full_cmp g full_total (keyed (full_of users) files)

some_mapped : {A B : Type 0} (f : A → B) (o : Option A) → is_some (option_map f o) ≡ is_some o
some_mapped f None = refl
some_mapped f (Some x) = refl

module _ (users : List UserRec) (files : List FileRec) (bytes : FileRec → List ℕ) (next : ℕ) where
  pub file_there : (full : Full) → is_some (number_of users files full) ≡ has_file (tree_of users files bytes next) full
  file_there full =
      some_mapped (λ r. r.number) (get (by_name users files) full) ∙ sym (some_mapped (file_row_of users bytes) (get (by_name users files) full))
      ∙ sym (ap is_some (get_file users files (file_row_of users bytes) full))

  -- the greatest generation among records is that of the tree
  pub newest_is : (who : List ℕ) (path : Path) → IsRecords users files → newest (tree_of users files bytes next) who path ≡ newest_of users (named who path 0) files
  newest_is who path is =
      let p = λ (e : Full × FileRec). is_version_of (named who path 0) e.0 in
      let f = λ (e : Full × FileRec). e.0.generation in
      fold_greatest _ _ 0 (entries (tree_of users files bytes next).files)
      ∙ ap (λ n. max 0 n)
      (ap (greatest (λ e. is_version_of (named who path 0) e.0) (λ e. e.0.generation)) (file_entries users files (file_row_of users bytes))
      ∙ greatest_of_map _ _ (with_value full_cmp (file_row_of users bytes)) (entries (by_name users files))
      ∙ greatest_made full_cmp p f full_total (keyed (full_of users) files) (apart_keyed full_total full_exact (full_of users) files (names_apart users files is))
      ∙ greatest_of_map p f (λ r. (full_of users r, r)) files)
      ∙ sym (fold_greatest (λ r. is_version_of (named who path 0) (full_of users r)) (λ r. r.generation) 0 files)

-- the blocks of a user's files

abbrev pub blocks_in : List ℕ → (FileRec → List ℕ) → List UserRec → FileRec → ℕ
blocks_in user bytes users r = cond (same_text (name_of users r.owner) user) (blocks_for (length (bytes r))) 0

pub used_named : (users : List UserRec) (files : List FileRec) (bytes : FileRec → List ℕ) (next : ℕ) (user : List ℕ) → IsRecords users files
    → used_blocks (tree_of users files bytes next) user ≡ sum_by (blocks_in user bytes users) files
used_named users files bytes next user is =
    let row = file_row_of users bytes in
    let g = λ (e : Full × FileRec). cond (same_text e.0.user user) (blocks_for (length (row e.1).bytes)) 0 in
    let es = keyed (full_of users) files in
    ap (sum_by (λ e. cond (same_text e.0.user user) (blocks_for (length e.1.bytes)) 0)) (file_entries users files row)
    ∙ sum_of_map (λ e. cond (same_text e.0.user user) (blocks_for (length e.1.bytes)) 0) (with_value full_cmp row) (entries (by_name users files))
    ∙ sum_by-IsPermutation g es (entries (from_entries es)) (entries_permute full_total es (apart_keyed full_total full_exact (full_of users) files (names_apart users files is)))
    ∙ sum_of_map g (λ r. (full_of users r, r)) files

pub used_is : (users : List UserRec) (files : List FileRec) (bytes : FileRec → List ℕ) (next owner : ℕ) → IsRecords users files → HasLengths files bytes
    → sum_by (λ r. cond (r.owner == owner) (blocks_for r.len) 0) files ≡ used_blocks (tree_of users files bytes next) (name_of users owner)
used_is users files bytes next owner is lengths =
    let user = name_of users owner in
    sum_same_on (λ r. cond (r.owner == owner) (blocks_for r.len) 0) (blocks_in user bytes users) files
    (λ k d within.
    let r = get_or files k d in
    ap (λ t. cond t (blocks_for r.len) 0) (sym (same_user users r.owner owner is.each_user is.among_users.names (inl (is.among_files.owners k d within))))
    ∙ ap (λ n. cond (same_text (name_of users r.owner) user) (blocks_for n) 0) (sym (lengths r (Contains-get_or files k d within))))
    ∙ sym (used_named users files bytes next user is)

-- the numbers of a user's files in order

number_found : (users : List UserRec) (files : List FileRec) (full : Full) (r : FileRec) → get (by_name users files) full ≡ Some r → unwrap_or (number_of users files full) 0 ≡ r.number
number_found users files full r e = ap (λ o. unwrap_or (option_map (λ (s : FileRec). s.number) o) 0) e

pub listed_is : (users : List UserRec) (files : List FileRec) (bytes : FileRec → List ℕ) (next owner : ℕ) → IsRecords users files
    → map (λ e. e.1) (entries (from_entries {R = full_cmp} (map (λ r. (full_of users r, r.number)) (filter (λ r. r.owner == owner) files)))) ≡ listed users files (name_of users owner) (tree_of users files bytes next)
listed_is users files bytes next owner is =
    let user = name_of users owner in
    let p = λ (f : Full). same_text f.user user in
    let row = file_row_of users bytes in
    let number = λ (r : FileRec). r.number in
    let named = entries (by_name users files) in
    let own : filter (λ r. r.owner == owner) files ≡ filter (λ r. p (full_of users r)) files =
    filter_same_on (λ r. r.owner == owner) (λ r. p (full_of users r)) files
    (λ k d within. sym (same_user users (get_or files k d).owner owner is.each_user is.among_users.names (inl (is.among_files.owners k d within)))) in
    ap (λ rs. map (λ e. e.1) (entries (from_entries {R = full_cmp} (map (λ r. (full_of users r, r.number)) rs)))) own
    ∙ ap (λ es. map (λ e. e.1) (entries (from_entries {R = full_cmp} es))) (sym (filter_of_map (λ e. p e.0) (λ r. (full_of users r, r.number)) files))
    ∙ ap (map (λ e. e.1)) (entries_kept full_total full_exact p (map (λ r. (full_of users r, r.number)) files)
    ∙ ap (filter (λ e. p e.0)) (file_entries users files number)
    ∙ filter_of_map (λ e. p e.0) (with_value full_cmp number) named)
    ∙ map_of_map (λ e. e.1) (with_value full_cmp number) (filter (λ e. p e.0) named)
    ∙ kept_same_on (λ e. p e.0) (λ e. e.1.number) (λ e. unwrap_or (number_of users files e.0) 0) named
    (all_map (λ e. get (by_name users files) e.0 ≡ Some e.1) (λ e. e.1.number ≡ unwrap_or (number_of users files e.0) 0)
    (λ e h. sym (number_found users files e.0 e.1 h)) named (entries_found full_total (by_name users files)))
    ∙ sym (map_of_map (λ e. unwrap_or (number_of users files e.0) 0) (with_value full_cmp row) (filter (λ e. p e.0) named))
    ∙ ap (map (λ e. unwrap_or (number_of users files e.0) 0)) (sym (filter_of_map (λ e. p e.0) (with_value full_cmp row) named) ∙ ap (filter (λ e. p e.0)) (sym (file_entries users files row)))

-- If there is no such user.

pub nobodys : (users : List UserRec) (files : List FileRec) (full : Full) → IsRecords users files → full.user ≡ [] → get (by_name users files) full ≡ None
nobodys users files full is none =
    get-from_entries full_total (keyed (full_of users) files) full
    ∙ none_found full_total full_exact (full_of users) full files
    (λ k d within e. word_there (name_of users (get_or files k d).owner) (name_word users (get_or files k d).owner is.each_user (is.among_files.owners k d within)) (sym (ap (λ f. f.user) e) ∙ none))

pub nobodys_newest : (users : List UserRec) (files : List FileRec) (full : Full) → IsRecords users files → full.user ≡ [] → newest_of users full files ≡ 0
nobodys_newest users files full is none =
    let p = λ (r : FileRec). is_version_of full (full_of users r) in
    ap (λ rs. fold max 0 (map (λ (r : FileRec). r.generation) rs))
    (filter_none p files
    (λ k d within.
    let r = get_or files k d in
    ap (λ t. t && same_text full.local r.local && same_text full.lang r.lang)
    (text_apart full.user (name_of users r.owner)
    (λ e. word_there (name_of users r.owner) (name_word users r.owner is.each_user (is.among_files.owners k d within)) (sym e ∙ none)))))

pub newest_few : (users : List UserRec) (files : List FileRec) (full : Full) → IsRecords users files → newest_of users full files ≤ 4095
newest_few users files full is =
    let few : greatest (λ r. is_version_of full (full_of users r)) (λ r. r.generation) files ≤ 4095 =
    greatest_le (λ r. is_version_of full (full_of users r)) (λ r. r.generation) 4095 files (λ k d within. (is.each_file k d within).most_generation) in
    let sum = fold_greatest (λ r. is_version_of full (full_of users r)) (λ (r : FileRec). r.generation) 0 files in
    omega (arith, few, sum)

-- users by name

pub get_user : {X : Type 0} (g : UserRec → X) (users : List UserRec) (name : List ℕ) → get (from_entries {R = text_cmp} (map (λ u. (u.user, g u)) users)) name ≡ option_map g (get (users_by_name users) name)
get_user g users name =
    ap (λ es. get (from_entries {R = text_cmp} es) name) (sym (map_of_map (with_value text_cmp g) (λ u. (u.user, u)) users))
    ∙ get_valued text_cmp g text_total (keyed (λ u. u.user) users) name

pub user_entries : {X : Type 0} (g : UserRec → X) (users : List UserRec) → entries (from_entries {R = text_cmp} (map (λ u. (u.user, g u)) users)) ≡ map (with_value text_cmp g) (entries (users_by_name users))
user_entries g users =
    ap (λ es. entries (from_entries {R = text_cmp} es)) (sym (map_of_map (with_value text_cmp g) (λ u. (u.user, u)) users))
    ∙ entries_valued text_cmp g text_total (keyed (λ u. u.user) users)

pub user_there : (users : List UserRec) (files : List FileRec) (bytes : FileRec → List ℕ) (next : ℕ) (name : List ℕ) → is_some (get (users_by_name users) name) ≡ has_user (tree_of users files bytes next) name
user_there users files bytes next name = sym (ap is_some (get_user (user_row_of users) users name) ∙ some_mapped (user_row_of users) (get (users_by_name users) name))
