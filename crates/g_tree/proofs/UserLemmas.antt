-- How a changed or a new user changes the tree that records represent.
-- serves: add_user (tree), records_change_the_tree, set_user (tree), LawLemmas, RuleLemmas, crates above
use Rattle.std.proofs.Common.{◌≡◌, ◌≢◌, ℕ, suc, ◌+◌, ◌<◌, ◌≤◌, List, [], ◌∷◌, ◌++◌, length, map, filter, fold, max, take, drop, get_or, Some, None, slice_get, refl, sym, ap, subst, ◌∙◌, arith, inl, inr}
use Rattle.std.proofs.Math.ListN.{set}
use Rattle.std.specs.List.{All, slice_index_or}
use Rattle.std.specs.Option.{option_map}
use Rattle.std.specs.FinMap.{FinMap, get, insert, from_entries, find}
use Rattle.std.proofs.lemmas.Bool.{cases_lt}
use Rattle.std.proofs.lemmas.List.{map-append, map-set, map_push, set-get_or, set_split, append-nil, length-append, length-map, get_or_append_left}
use Rattle.std.proofs.lemmas.List.Elements.{All-head, All-tail}
use Rattle.std.proofs.lemmas.Option.{slice_get-get_or}
use Rattle.g_name.specs.declared.full.Full.{Full}
use Rattle.g_name.specs.Order.{text_cmp, full_cmp}
use Rattle.g_trap.specs.TrapList.{TrapList}
use Rattle.g_entry.specs.declared.user_rec.UserRec.{UserRec}
use Rattle.g_entry.specs.declared.file_rec.FileRec.{FileRec}
use Rattle.g_entry.specs.Rules.{AreUsers}
use Rattle.g_plain.specs.PlainTree.{UserRow, FileRow, Tree, is_version_of}
use Rattle.g_plain.proofs.TextMaps.{text_total, text_exact}
use Rattle.g_tree.specs.Records.{IsRecords, name_of, full_of, traps_named, user_row_of, file_row_of, tree_of}
use Rattle.g_tree.specs.State.{IsKept}
use Rattle.g_tree.specs.declared.index.NameEntry.{NameEntry}
use Rattle.g_tree.proofs.ListLemmas.{map_of_map, around, filter_same_on}
use Rattle.g_tree.proofs.MapLemmas.{keyed, with_value, AreApart, none_found, find_valued, made_middle, made_other}
use Rattle.g_tree.proofs.RecordLemmas.{name_at}
use Rattle.g_tree.proofs.PutLemmas.{apart_before}

pub map_same_on : {A B : Type 0} (f g : A → B) (xs : List A) → All (λ x. f x ≡ g x) xs → map f xs ≡ map g xs
map_same_on f g [] all = refl
map_same_on f g (x ∷ xs) all = λ i. All-head (λ y. f y ≡ g y) x xs all i ∷ map_same_on f g xs (All-tail (λ y. f y ≡ g y) x xs all) i

-- The parts of the tree that depend on users' names.

abbrev names : List UserRec → List (List ℕ)
names users = map (λ u. u.user) users

abbrev named : List (List ℕ) → ℕ → List ℕ
named ns number = slice_index_or ns number []

abbrev full_by : List (List ℕ) → FileRec → Full
full_by ns r = record { user = named ns r.owner; local = r.local; generation = r.generation; lang = r.lang }

abbrev numbers_by : List (List ℕ) → List FileRec → FinMap full_cmp ℕ
numbers_by ns files = from_entries {R = full_cmp} (map (λ r. (full_by ns r, r.number)) files)

abbrev newest_by : List (List ℕ) → Full → List FileRec → ℕ
newest_by ns full files = fold max 0 (map (λ r. r.generation) (filter (λ r. is_version_of full (full_by ns r)) files))

abbrev user_row_by : List (List ℕ) → UserRec → UserRow
user_row_by ns u = record { superior = named ns u.superior; space = u.space; time = u.time; money = u.money }

abbrev traps_by : List (List ℕ) → ℕ → TrapList → FinMap text_cmp ℕ
traps_by ns owner traps = from_entries ((named ns owner, traps.owner) ∷ map (λ pair. (named ns pair.0, pair.1)) traps.others)

abbrev file_row_by : List (List ℕ) → (FileRec → List ℕ) → FileRec → FileRow
file_row_by ns bytes r = record { traps = traps_by ns r.owner r.traps; bytes = bytes r; stamp = r.stamp }

abbrev tree_by : List (List ℕ) → List UserRec → List FileRec → (FileRec → List ℕ) → ℕ → Tree
tree_by ns users files bytes next = record {
  users = from_entries (map (λ u. (u.user, user_row_by ns u)) users);
  files = from_entries (map (λ r. (full_by ns r, file_row_by ns bytes r)) files);
  next = next;
}

abbrev row_under : UserRec → List ℕ → List ℕ × UserRow
row_under u superior = (u.user, record { superior = superior; space = u.space; time = u.time; money = u.money })

abbrev file_row_with : List ℕ → ℕ → FinMap text_cmp ℕ → FileRow
file_row_with bytes stamp traps = record { traps = traps; bytes = bytes; stamp = stamp }

abbrev full_with : FileRec → List ℕ → Full
full_with r user = record { user = user; local = r.local; generation = r.generation; lang = r.lang }

abbrev tree_with : FinMap text_cmp UserRow → FinMap full_cmp FileRow → ℕ → Tree
tree_with users files next = record { users = users; files = files; next = next }

-- rows of users

module _ {X : Type 0} (g : UserRec → X) where
  unnamed : (u : UserRec) (xs : List UserRec) → All (λ x. u.user ≢ x.user) xs → find text_cmp u.user (map (λ v. (v.user, g v)) xs) ≡ None
  unnamed u xs apart =
      ap (find text_cmp u.user) (sym (map_of_map (with_value text_cmp g) (λ v. (v.user, v)) xs)) ∙ find_valued text_cmp g u.user (keyed (λ v. v.user) xs)
      ∙ ap (option_map g) (none_found text_total text_exact (λ v. v.user) u.user xs apart)

  users_other : (users : List UserRec) (n : ℕ) (u : UserRec) → n < length users → name_of users n ≡ u.user → AreApart (λ v. v.user) (set users n u)
      → from_entries {R = text_cmp} (map (λ v. (v.user, g v)) (set users n u)) ≡ insert (from_entries (map (λ v. (v.user, g v)) users)) u.user (g u)
  users_other users n u within same apart =
      let row : UserRec → List ℕ × X = λ v. (v.user, g v) in
      let xs = take n users in
      let ys = drop (suc n) users in
      let old = get_or users n u in
      let named_old : old.user ≡ u.user = sym (name_at users n u within) ∙ same in
      let new : set users n u ≡ xs ++ u ∷ ys = set_split users n u within in
      ap (λ us. from_entries {R = text_cmp} (map row us)) new ∙ ap (λ es. from_entries {R = text_cmp} es) (map-append row xs (u ∷ ys))
      ∙ made_other text_total text_exact (map row xs) (map row ys) u.user (g old) (g u) (unnamed u xs (apart_before (λ v. v.user) xs u ys (subst (AreApart (λ v. v.user)) new apart)))
      ∙ ap (λ k. insert (from_entries {R = text_cmp} (map row xs ++ (k, g old) ∷ map row ys)) u.user (g u)) (sym named_old)
      ∙ ap (λ es. insert (from_entries {R = text_cmp} es) u.user (g u)) (sym (ap (map row) (around users n u within) ∙ map-append row xs (old ∷ ys)))

  users_more : (users : List UserRec) (u : UserRec) → AreApart (λ v. v.user) (users ++ u ∷ [])
      → from_entries {R = text_cmp} (map (λ v. (v.user, g v)) (users ++ u ∷ [])) ≡ insert (from_entries (map (λ v. (v.user, g v)) users)) u.user (g u)
  users_more users u apart =
      let row : UserRec → List ℕ × X = λ v. (v.user, g v) in
      ap (λ es. from_entries {R = text_cmp} es) (map-append row users (u ∷ []))
      ∙ made_middle text_total text_exact (map row users) [] u.user (g u) (unnamed u users (apart_before (λ v. v.user) users u [] apart))
      ∙ ap (λ es. insert (from_entries {R = text_cmp} es) u.user (g u)) (append-nil (map row users))

-- a user in the place of one of the same name

module _ (users : List UserRec) (files : List FileRec) (n : ℕ) (u : UserRec) (same : name_of users n ≡ u.user) where
  names_kept : names (set users n u) ≡ names users
  names_kept = map-set (λ v. v.user) users n u ∙ ap (set (names users) n) (sym same) ∙ set-get_or (names users) n []

  pub kept_set : (entries : FinMap full_cmp NameEntry) (blocks : List ℕ) → IsKept users files entries blocks → IsRecords (set users n u) files → IsKept (set users n u) files entries blocks
  kept_set entries blocks is rules = record {
    records = rules;
    index = λ full. is.index full ∙ ap (λ ns. get (numbers_by ns files) full) (sym names_kept);
    newest = λ full. is.newest full ∙ ap (λ ns. newest_by ns full files) (sym names_kept);
    topped = is.topped;
    used = is.used;
  }

  pub tree_set : (bytes : FileRec → List ℕ) (next : ℕ) → n < length users → IsRecords (set users n u) files
      → tree_of (set users n u) files bytes next ≡ record (tree_of users files bytes next) { users = insert (tree_of users files bytes next).users u.user (user_row_of users u) }
  tree_set bytes next within rules =
      ap (λ ns. tree_by ns (set users n u) files bytes next) names_kept
      ∙ ap (λ m. record (tree_of users files bytes next) { users = m }) (users_other (user_row_of users) users n u within same rules.among_users.names)

-- A user appended to the others.

pub superior_there : (us : List UserRec) (n : ℕ) → AreUsers us → 2 ≤ n → length us ≤ n + 1 → All (λ v. v.superior < n) us
superior_there us n is both few = λ k d within.
    let v = get_or us k d in
    let at = slice_get-get_or us k d within in
    elim (cases_lt k 2) as (λ _. v.superior < n) [
      | inl low ↦ elim (cases_lt k 1) as (λ _. v.superior < n) [
        | inl first ↦
            let is_first : k ≡ 0 = omega arith in
            let none = (is.master v (subst (λ j. slice_get us j ≡ Some v) is_first at)).superior in omega (arith, none)
        | inr second ↦
            let is_second : k ≡ 1 = omega arith in
            let none = (is.macros v (subst (λ j. slice_get us j ≡ Some v) is_second at)).superior in omega (arith, none)
      ]
      | inr high ↦ let before = is.superiors k v high at in omega (arith, before)
    ]

module _ (users : List UserRec) (files : List FileRec) (u : UserRec) (is : IsRecords users files) where
  name_kept : (k : ℕ) → k < length users → name_of (users ++ u ∷ []) k ≡ name_of users k
  name_kept k within =
      let len = length-map users (λ (v : UserRec). v.user) in
      ap (λ ns. named ns k) (map_push (λ v. v.user) users u) ∙ get_or_append_left (names users) (u.user ∷ []) [] k (omega (arith, len))

  full_kept : All (λ r. full_of (users ++ u ∷ []) r ≡ full_of users r) files
  full_kept = λ k d within.
      let r = get_or files k d in
      ap (full_with r) (name_kept r.owner (is.among_files.owners k d within))

  traps_kept : All (λ r. traps_named (users ++ u ∷ []) r.owner r.traps ≡ traps_named users r.owner r.traps) files
  traps_kept = λ k d within.
      let r = get_or files k d in
      let others : map (λ (pair : ℕ × ℕ). (name_of (users ++ u ∷ []) pair.0, pair.1)) r.traps.others ≡ map (λ pair. (name_of users pair.0, pair.1)) r.traps.others =
      map_same_on (λ pair. (name_of (users ++ u ∷ []) pair.0, pair.1)) (λ pair. (name_of users pair.0, pair.1)) r.traps.others
      (λ j e inside i. (name_kept (get_or r.traps.others j e).0 (is.among_files.trapped k d within j e inside) i, (get_or r.traps.others j e).1)) in
      λ i. from_entries {R = text_cmp} ((name_kept r.owner (is.among_files.owners k d within) i, r.traps.owner) ∷ others i)

  pub kept_more : (entries : FinMap full_cmp NameEntry) (blocks : List ℕ) → IsKept users files entries blocks → IsRecords (users ++ u ∷ []) files → IsKept (users ++ u ∷ []) files entries blocks
  kept_more entries blocks kept rules = record {
    records = rules;
    index = λ full.
        kept.index full
        ∙ ap (λ es. get (from_entries {R = full_cmp} es) full)
        (map_same_on (λ r. (full_of users r, r.number)) (λ r. (full_of (users ++ u ∷ []) r, r.number)) files (λ k d within i. (sym (full_kept k d within) i, (get_or files k d).number)));
    newest = λ full.
        kept.newest full
        ∙ ap (λ rs. fold max 0 (map (λ (r : FileRec). r.generation) rs))
        (filter_same_on (λ r. is_version_of full (full_of users r)) (λ r. is_version_of full (full_of (users ++ u ∷ []) r)) files (λ k d within. ap (is_version_of full) (sym (full_kept k d within))));
    topped = kept.topped;
    used = kept.used;
  }

  pub tree_more : (bytes : FileRec → List ℕ) (next : ℕ) → IsRecords (users ++ u ∷ []) files
      → tree_of (users ++ u ∷ []) files bytes next ≡ record (tree_of users files bytes next) { users = insert (tree_of users files bytes next).users u.user (user_row_of users u) }
  tree_more bytes next rules =
      let us = users ++ u ∷ [] in
      let len = length-append users (u ∷ []) in
      let superiors = superior_there us (length users) rules.among_users is.among_users.both (omega (arith, len)) in
      let rows : map (λ v. (v.user, user_row_of us v)) us ≡ map (λ v. (v.user, user_row_of users v)) us =
      map_same_on (λ v. (v.user, user_row_of us v)) (λ v. (v.user, user_row_of users v)) us
      (λ k d within. let v = get_or us k d in ap (row_under v) (name_kept v.superior (superiors k d within))) in
      let kept : map (λ r. (full_of us r, file_row_of us bytes r)) files ≡ map (λ r. (full_of users r, file_row_of users bytes r)) files =
      map_same_on (λ r. (full_of us r, file_row_of us bytes r)) (λ r. (full_of users r, file_row_of users bytes r)) files
      (λ k d within i. (full_kept k d within i, file_row_with (bytes (get_or files k d)) (get_or files k d).stamp (traps_kept k d within i))) in
      (λ i. tree_with (from_entries {R = text_cmp} (rows i)) (from_entries {R = full_cmp} (kept i)) next)
      ∙ ap (λ m. record (tree_of users files bytes next) { users = m }) (users_more (user_row_of users) users u rules.among_users.names)
