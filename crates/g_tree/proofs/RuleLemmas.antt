-- Records that satisfy their rules represent a tree that satisfies its rules.
-- serves: files, records_make_a_tree, rows_are_of_records, users, FaultLemmas, LawLemmas, NamedLemmas, crates above
use Rattle.std.proofs.Common.{◌≡◌, ℕ, zero, suc, ◌^◌, ◌<◌, ◌≤◌, ◌==◌, true, false, cond, not, nat_lt, codes, List, [], ◌∷◌, length, map, get_or, Option, Some, None, is_some, unwrap_or, refl, sym, ap, subst, ◌∙◌, arith, true≢false}
use Rattle.std.specs.List.{All, Contains, list_all}
use Rattle.std.specs.Option.{option_map}
use Rattle.std.specs.Ordering.{nat_cmp, eq_by_cmp}
use Rattle.std.specs.FinMap.{get, len, entries, find, get-from_entries, len-entries, nat_cmp-IsAntisymmetric}
use Rattle.std.proofs.lemmas.Bool.Decides.{nat_tests}
use Rattle.std.proofs.lemmas.Cmp.{nat_cmp_total}
use Rattle.std.proofs.lemmas.List.Elements.{All-head, All-tail, All-contains, Contains-get_or}
use Rattle.std.proofs.lemmas.List.Sorted.{length_permutation}
use Rattle.std.proofs.lemmas.Option.{slice_get-get_or}
use Rattle.g_name.specs.declared.full.Full.{Full}
use Rattle.g_name.specs.Order.{text_cmp, full_cmp}
use Rattle.g_name.proofs.Order.{full_total}
use Rattle.g_entry.specs.declared.format.Format.TheVariants.{Two}
use Rattle.g_entry.specs.declared.user_rec.UserRec.{UserRec}
use Rattle.g_entry.specs.declared.file_rec.FileRec.{FileRec}
use Rattle.g_entry.specs.UserFields.{IsUser}
use Rattle.g_trap.specs.TrapList.{TrapList}
use Rattle.g_entry.specs.FileFields.{IsFile, AreSets}
use Rattle.g_entry.specs.Rules.{StampsBelow}
use Rattle.g_plain.specs.PlainTree.{UserRow, FileRow, has_user, user_row, no_budgets}
use Rattle.g_plain.specs.Rules.{IsUserRow, IsFileRow, IsFirst, LeadsUp, superior_of, IsTree}
use Rattle.g_plain.proofs.TextMaps.{text_total, text_exact, full_exact}
use Rattle.g_plain.proofs.Found.{some_of, tied_are, apart_is, same_some}
use Rattle.g_tree.specs.Records.{IsRecords, HasLengths, name_of, full_of, traps_named, user_row_of, file_row_of, tree_of, users_by_name, by_name, by_number, number_of}
use Rattle.g_tree.proofs.ListLemmas.{both_true}
use Rattle.g_tree.proofs.UserLemmas.{superior_there}
use Rattle.g_tree.proofs.MapLemmas.{with_value, keyed, AreApart, apart_keyed, found_one, found_itself, entries_permute}
use Rattle.g_tree.proofs.RecordLemmas.{nobody, name_at, names_apart, numbers_apart, get_file, get_user, user_entries, user_there, file_entries}
use Rattle.g_tree.proofs.TrapLemmas.{are_trapped, trap_found, trap_count, by_names}

mapped_length : {A B : Type 0} (f : A → B) (xs : List A) → length (map f xs) ≡ length xs
mapped_length f [] = refl
mapped_length f (x ∷ xs) = ap suc (mapped_length f xs)

some_mode : (n : ℕ) → not (n == 0) ≡ true → 0 < n
some_mode n e = grind (arith, nat_tests)

below_set : (n : ℕ) → nat_lt n 32 ≡ true → n < 32
below_set n e = grind (arith, nat_tests)

own_number : (n : ℕ) → (n == n) ≡ true
own_number n = grind (arith, nat_tests)

-- The value from which another was made.
pub made_of : {A B : Type 0} (g : A → B) (o : Option A) (y : B) → option_map g o ≡ Some y → (x : A) × (o ≡ Some x) × (g x ≡ y)
made_of g None y e = absurd (true≢false (sym (ap is_some e)))
made_of g (Some x) y e = (x, refl, same_some (g x) y e)

-- elements of one key are one
pub one_of_key : {A : Type 0} (key : A → ℕ) (xs : List A) (r s : A) → AreApart key xs → Contains xs r → Contains xs s → key r ≡ key s → r ≡ s
one_of_key key xs r s apart first second same =
    same_some r s
    (sym (found_itself nat_cmp_total nat_cmp-IsAntisymmetric key xs r apart first)
    ∙ ap (λ k. find nat_cmp k (keyed key xs)) same
    ∙ found_itself nat_cmp_total nat_cmp-IsAntisymmetric key xs s apart second)

module _ (users : List UserRec) (files : List FileRec) (bytes : FileRec → List ℕ) (next : ℕ) (is : IsRecords users files) where
  -- each number that is used is of a user of the tree
  pub has_name : (i : ℕ) → i < length users → has_user (tree_of users files bytes next) (name_of users i) ≡ true
  has_name i within =
      sym (user_there users files bytes next (name_of users i))
      ∙ ap is_some (get-from_entries text_total (keyed (λ u. u.user) users) (name_of users i)
      ∙ ap (λ name. find text_cmp name (keyed (λ u. u.user) users)) (name_at users i nobody within)
      ∙ found_itself text_total text_exact (λ u. u.user) users (get_or users i nobody) is.among_users.names (Contains-get_or users i nobody within))

  -- a superior is a user
  pub superior_below : (u : UserRec) → Contains users u → u.superior < length users
  superior_below u there =
      let both = is.among_users.both in
      All-contains (λ v. v.superior < length users) users u (superior_there users (length users) is.among_users both (omega arith)) there

  pub user_found : (name : List ℕ) (row : UserRow) → get (tree_of users files bytes next).users name ≡ Some row → (u : UserRec) × Contains users u × (u.user ≡ name) × (user_row_of users u ≡ row)
  user_found name row e =
      let (u, got, made) = made_of (user_row_of users) (get (users_by_name users) name) row (sym (get_user (user_row_of users) users name) ∙ e) in
      let (there, named) = found_one text_total text_exact (λ v. v.user) name users u (sym (get-from_entries text_total (keyed (λ v. v.user) users) name) ∙ got) in
      (u, there, named, made)

  pub file_found : (full : Full) (row : FileRow) → get (tree_of users files bytes next).files full ≡ Some row → (r : FileRec) × Contains files r × (full_of users r ≡ full) × (file_row_of users bytes r ≡ row)
  file_found full row e =
      let (r, got, made) = made_of (file_row_of users bytes) (get (by_name users files) full) row (sym (get_file users files (file_row_of users bytes) full) ∙ e) in
      let (there, named) = found_one full_total full_exact (full_of users) full files r (sym (get-from_entries full_total (keyed (full_of users) files) full) ∙ got) in
      (r, there, named, made)

  -- as many files and users as records
  pub count_users : len (tree_of users files bytes next).users ≡ length users
  count_users =
      let es = keyed (λ u. u.user) users in
      len-entries (tree_of users files bytes next).users
      ∙ ap length (user_entries (user_row_of users) users)
      ∙ mapped_length (with_value text_cmp (user_row_of users)) (entries (users_by_name users))
      ∙ length_permutation es (entries (users_by_name users)) (entries_permute text_total es (apart_keyed text_total text_exact (λ u. u.user) users is.among_users.names))
      ∙ mapped_length (λ u. (u.user, u)) users

  pub count_files : len (tree_of users files bytes next).files ≡ length files
  count_files =
      let es = keyed (full_of users) files in
      len-entries (tree_of users files bytes next).files
      ∙ ap length (file_entries users files (file_row_of users bytes))
      ∙ mapped_length (with_value full_cmp (file_row_of users bytes)) (entries (by_name users files))
      ∙ length_permutation es (entries (by_name users files)) (entries_permute full_total es (apart_keyed full_total full_exact (full_of users) files (names_apart users files is)))
      ∙ mapped_length (λ r. (full_of users r, r)) files

  -- the modes of a user are a set
  modes_below : (user : List ℕ) (modes : ℕ) (ps : List (ℕ × ℕ)) → list_all (λ p. nat_lt p.1 32) ps ≡ true → find text_cmp user (by_names users ps) ≡ Some modes → modes < 32
  modes_below user modes [] sets e = absurd (true≢false (sym (ap is_some e)))
  modes_below user modes (p ∷ ps) sets e =
      let parts = both_true (nat_lt p.1 32) (list_all (λ q. nat_lt q.1 32) ps) sets in
      elim (eq_by_cmp text_cmp user (name_of users p.0)) as (λ t. cond t (Some p.1) (find text_cmp user (by_names users ps)) ≡ Some modes → modes < 32) [
        | true ↦ λ h. subst (λ n. n < 32) (same_some p.1 modes h) (below_set p.1 parts.0)
        | false ↦ λ h. modes_below user modes ps parts.1 h
      ] e

  given_below : (user : List ℕ) (modes owner : ℕ) (traps : TrapList) → AreSets traps → get (traps_named users owner traps) user ≡ Some modes → modes < 32
  given_below user modes owner traps sets e =
      elim (eq_by_cmp text_cmp user (name_of users owner)) as (λ t. cond t (Some traps.owner) (find text_cmp user (by_names users traps.others)) ≡ Some modes → modes < 32) [
        | true ↦ λ h. subst (λ n. n < 32) (same_some traps.owner modes h) sets.owner
        | false ↦ λ h. modes_below user modes traps.others sets.others h
      ] (sym (get-from_entries text_total ((name_of users owner, traps.owner) ∷ by_names users traps.others) user) ∙ e)

  -- the superiors of a user
  user_at : (i : ℕ) → i < length users → get (users_by_name users) (name_of users i) ≡ Some (get_or users i nobody)
  user_at i within =
      get-from_entries text_total (keyed (λ u. u.user) users) (name_of users i)
      ∙ ap (λ name. find text_cmp name (keyed (λ u. u.user) users)) (name_at users i nobody within)
      ∙ found_itself text_total text_exact (λ u. u.user) users (get_or users i nobody) is.among_users.names (Contains-get_or users i nobody within)

  superior_of_name : (i : ℕ) → i < length users → (user_row (tree_of users files bytes next) (name_of users i)).superior ≡ name_of users (get_or users i nobody).superior
  superior_of_name i within =
      ap (λ o. (unwrap_or o no_budgets).superior) (get_user (user_row_of users) users (name_of users i) ∙ ap (option_map (user_row_of users)) (user_at i within))

  first_name : name_of users 0 ≡ codes "MASTER"
  first_name = let both = is.among_users.both in name_at users 0 nobody (omega arith) ∙ (is.among_users.master _ (slice_get-get_or users 0 nobody (omega arith))).user

  second_name : name_of users 1 ≡ codes "MACROS"
  second_name = let both = is.among_users.both in name_at users 1 nobody (omega arith) ∙ (is.among_users.macros _ (slice_get-get_or users 1 nobody (omega arith))).user

  -- each but the first has a superior before
  superior_before : (i : ℕ) → suc i < length users → (get_or users (suc i) nobody).superior ≤ i
  superior_before zero within = let first = (is.among_users.macros _ (slice_get-get_or users 1 nobody within)).superior in omega (arith, first)
  superior_before (suc i) within = let before = is.among_users.superiors (suc (suc i)) _ (omega arith) (slice_get-get_or users (suc (suc i)) nobody within) in omega (arith, before)

  leads_up : (most i : ℕ) → i ≤ most → i < length users → LeadsUp (tree_of users files bytes next) (name_of users i)
  leads_up most zero few within = (0, first_name)
  leads_up zero (suc i) few within = absurd (omega arith)
  leads_up (suc most) (suc i) few within =
      let before = superior_before i within in
      let (n, up) = leads_up most (get_or users (suc i) nobody).superior (omega (arith, before)) (omega (arith, before)) in
      (suc n, ap (superior_of (tree_of users files bytes next) n) (superior_of_name (suc i) within) ∙ up)

  named_up : (name : List ℕ) → has_user (tree_of users files bytes next) name ≡ true → LeadsUp (tree_of users files bytes next) name
  named_up name there =
      let (row, e) = some_of (get (tree_of users files bytes next).users name) there in
      let (u, stands, named, made) = user_found name row e in
      let (k, within, at) = stands in
      subst (LeadsUp (tree_of users files bytes next)) (name_at users k u within ∙ ap (λ v. v.user) at ∙ named) (leads_up k k (omega arith) within)

  is_first : (i : ℕ) (name : List ℕ) → i < length users → name_of users i ≡ name → (get_or users i nobody).superior ≡ 0 → IsFirst (tree_of users files bytes next) name
  is_first i name within named made = record {
    there = ap (has_user (tree_of users files bytes next)) (sym named) ∙ has_name i within;
    superior =
        ap (λ n. (user_row (tree_of users files bytes next) n).superior) (sym named)
        ∙ superior_of_name i within ∙ ap (name_of users) made ∙ first_name;
  }

  named_other : (user : List ℕ) (modes : ℕ) (ps : List (ℕ × ℕ)) → All (λ p. p.0 < length users) ps → list_all (λ p. not (p.1 == 0)) ps ≡ true
      → find text_cmp user (by_names users ps) ≡ Some modes → (has_user (tree_of users files bytes next) user ≡ true) × (0 < modes)
  named_other user modes [] there used e = absurd (true≢false (sym (ap is_some e)))
  named_other user modes (p ∷ ps) there used e =
      let parts = both_true (not (p.1 == 0)) (list_all (λ q. not (q.1 == 0)) ps) used in
      elim (eq_by_cmp text_cmp user (name_of users p.0)) as (λ t. eq_by_cmp text_cmp user (name_of users p.0) ≡ t → cond t (Some p.1) (find text_cmp user (by_names users ps)) ≡ Some modes
      → (has_user (tree_of users files bytes next) user ≡ true) × (0 < modes)) [
        | true ↦ λ t h. (
          ap (has_user (tree_of users files bytes next)) (tied_are text_total text_exact user (name_of users p.0) t) ∙ has_name p.0 (All-head (λ q. q.0 < length users) p ps there),
          subst (λ n. 0 < n) (same_some p.1 modes h) (some_mode p.1 parts.0),
        )
        | false ↦ λ t h. named_other user modes ps (All-tail (λ q. q.0 < length users) p ps there) parts.1 h
      ] refl e

  module _ (below : StampsBelow next files) (lengths : HasLengths files bytes) where
    file_rules : (r : FileRec) → Contains files r → IsFileRow (tree_of users files bytes next) (full_of users r) (file_row_of users bytes r)
    file_rules r there =
        let file = All-contains IsFile files r is.each_file there in
        let trapped = are_trapped users files r is there in
        let few = file.others.few in
        let most = file.len in
        let count = trap_count users r.owner r.traps trapped in
        let same = lengths r there in record {
          owner = has_name r.owner trapped.owner_there;
          local = file.local;
          lang = file.lang;
          generation = (file.least_generation, file.most_generation);
          bytes = subst (λ n. n ≤ 65536) (sym same) most;
          owner_stands = ap is_some (trap_found users r.owner r.traps trapped r.owner ∙ ap (λ t. cond t (Some r.traps.owner) (find nat_cmp r.owner r.traps.others)) (own_number r.owner));
          others = λ user modes got other.
              named_other user modes r.traps.others trapped.others_there file.others.used
              (ap (λ t. cond t (Some r.traps.owner) (find text_cmp user (by_names users r.traps.others))) (sym (apart_is text_total text_exact user (name_of users r.owner) other))
              ∙ sym (get-from_entries text_total ((name_of users r.owner, r.traps.owner) ∷ by_names users r.traps.others) user) ∙ got);
          modes = λ user modes got. given_below user modes r.owner r.traps file.sets got;
          few = subst (λ n. n ≤ 9) (sym count) (omega (arith, few));
          stamp = (All-contains (λ s. 1 ≤ s.stamp) files r is.among_files.dated there, All-contains (λ s. s.stamp < next) files r below there);
        }

    pub tree_rules : 1 ≤ next → next ≤ 2 ^ 62 → IsTree (tree_of users files bytes next)
    tree_rules first last = record {
      users = λ name row e.
          let (u, there, named, made) = user_found name row e in
          let user = All-contains (IsUser Two) users u is.each_user there in
          subst (λ n. IsUserRow (tree_of users files bytes next) n row) named
          (subst (IsUserRow (tree_of users files bytes next) u.user) made
          (record { name = user.user; superior = has_name u.superior (superior_below u there); space = user.space; time = user.time; money = user.money }));
      master = (let both = is.among_users.both in is_first 0 (codes "MASTER") (omega arith) first_name (is.among_users.master _ (slice_get-get_or users 0 nobody (omega arith))).superior);
      macros = (let both = is.among_users.both in is_first 1 (codes "MACROS") (omega arith) second_name (is.among_users.macros _ (slice_get-get_or users 1 nobody (omega arith))).superior);
      above = λ name there. named_up name there;
      few_users = subst (λ n. n ≤ 63) (sym count_users) is.among_users.few;
      files = λ full row e.
          let (r, there, named, made) = file_found full row e in
          subst (λ f. IsFileRow (tree_of users files bytes next) f row) named (subst (IsFileRow (tree_of users files bytes next) (full_of users r)) made (file_rules r there));
      few_files = subst (λ n. n ≤ 1024) (sym count_files) is.among_files.few;
      stamps = λ f g a b found other same.
          let (r, there, named, made) = file_found f a found in
          let (s, there_too, named_too, made_too) = file_found g b other in
          let one = one_of_key (λ x. x.stamp) files r s is.among_files.stamps there there_too (ap (λ x. x.stamp) made ∙ same ∙ sym (ap (λ x. x.stamp) made_too)) in
          sym named ∙ ap (full_of users) one ∙ named_too;
      next = (first, last);
    }

pub numbered_is : (users : List UserRec) (files : List FileRec) (full : Full) (number : ℕ) → IsRecords users files → number_of users files full ≡ Some number → get (by_number files) number ≡ get (by_name users files) full
numbered_is users files full number is e =
    let (r, got, same) = made_of (λ s. s.number) (get (by_name users files) full) number e in
    let there = (found_one full_total full_exact (full_of users) full files r (sym (get-from_entries full_total (keyed (full_of users) files) full) ∙ got)).0 in
    get-from_entries nat_cmp_total (keyed (λ s. s.number) files) number
    ∙ ap (λ n. find nat_cmp n (keyed (λ s. s.number) files)) (sym same)
    ∙ found_itself nat_cmp_total nat_cmp-IsAntisymmetric (λ s. s.number) files r (numbers_apart users files is) there
    ∙ sym got
