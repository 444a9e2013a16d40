-- The row of the file of a number, and what users may do with it.
-- serves: erase, full_name (number, there), is_ninth, len_of (few, len), modes_of, replace, users_go_by_name, crates above
use Rattle.std.proofs.Common.{◌≡◌, ℕ, ◌<◌, ◌==◌, cond, bit_or, codes, List, length, Some, IfSome, unwrap_or, is_some, true, sym, ap, subst, ◌∙◌, arith, inr}
use Rattle.std.specs.List.{Contains}
use Rattle.std.specs.Option.{option_map}
use Rattle.std.specs.FinMap.{get, get-from_entries, nat_cmp-IsAntisymmetric}
use Rattle.std.proofs.lemmas.Cmp.{nat_cmp_total}
use Rattle.std.proofs.lemmas.List.Elements.{All-contains}
use Rattle.std.proofs.lemmas.Option.{slice_get-get_or}
use Rattle.g_name.specs.declared.full.Full.{Full}
use Rattle.g_name.specs.Order.{same_text}
use Rattle.g_name.proofs.Order.{full_total}
use Rattle.g_trap.specs.TrapList.{modes_of as numbered_modes}
use Rattle.g_entry.specs.declared.user_rec.UserRec.{UserRec}
use Rattle.g_entry.specs.declared.file_rec.FileRec.{FileRec}
use Rattle.g_plain.specs.PlainTree.{FileRow, Tree, file_row, no_row, has_file, modes_of}
use Rattle.g_plain.proofs.TextMaps.{full_exact}
use Rattle.g_tree.specs.Records.{IsRecords, name_of, full_of, file_row_of, tree_of, by_name, by_number, number_of, name_of_file}
use Rattle.g_tree.proofs.MapLemmas.{keyed, found_one, found_itself}
use Rattle.g_tree.proofs.RecordLemmas.{nobody, name_at, names_apart, same_user, get_file, file_there}
use Rattle.g_tree.proofs.TrapLemmas.{are_trapped, modes_found}

module _ (users : List UserRec) (files : List FileRec) (is : IsRecords users files) where
  -- the file of a number is one of them
  pub numbered_there : (number : ℕ) (r : FileRec) → get (by_number files) number ≡ Some r → Contains files r × (r.number ≡ number)
  numbered_there number r got =
      found_one nat_cmp_total nat_cmp-IsAntisymmetric (λ s. s.number) number files r (sym (get-from_entries nat_cmp_total (keyed (λ s. s.number) files) number) ∙ got)

  pub owner_used : (r : FileRec) → Contains files r → r.owner < length users
  owner_used r there = All-contains (λ s. s.owner < length users) files r is.among_files.owners there

  -- The same for a file that was found by its number, among the users that a call returns.
  pub owner_within : (us : List UserRec) (number : ℕ) (r : FileRec) → us ≡ users → get (by_number files) number ≡ Some r → r.owner < length us
  owner_within us number r same got = subst (λ xs. r.owner < length xs) (sym same) (owner_used r (numbered_there number r got).0)

  -- and it is found by its name
  pub found_named : (r : FileRec) → Contains files r → get (by_name users files) (full_of users r) ≡ Some r
  found_named r there =
      get-from_entries full_total (keyed (full_of users) files) (full_of users r) ∙ found_itself full_total full_exact (full_of users) files r (names_apart users files is) there

  pub number_found : (number : ℕ) (r : FileRec) → get (by_number files) number ≡ Some r → number_of users files (full_of users r) ≡ Some number
  number_found number r got =
      let (there, numbered) = numbered_there number r got in ap (option_map (λ s. s.number)) (found_named r there) ∙ ap Some numbered

  macros_is : name_of users 1 ≡ codes "MACROS"
  macros_is =
      let both = is.among_users.both in
      name_at users 1 nobody (omega arith) ∙ (is.among_users.macros _ (slice_get-get_or users 1 nobody (omega arith))).user

  module _ (bytes : FileRec → List ℕ) (next : ℕ) where
    abbrev tree : Tree
    tree = tree_of users files bytes next

    pub row_is : (r : FileRec) → Contains files r → file_row tree (full_of users r) ≡ file_row_of users bytes r
    row_is r there = ap (λ o. unwrap_or o no_row) (get_file users files (file_row_of users bytes) (full_of users r) ∙ ap (option_map (file_row_of users bytes)) (found_named r there))

    pub numbered_file : (number : ℕ) (r : FileRec) → get (by_number files) number ≡ Some r → has_file tree (full_of users r) ≡ true
    numbered_file number r got = sym (file_there users files bytes next (full_of users r)) ∙ ap is_some (number_found number r got)

    -- what is so of the record is so of the row
    pub for_file : (P : FileRow → Full → Type 0) (number : ℕ) (r : FileRec) → get (by_number files) number ≡ Some r → P (file_row_of users bytes r) (full_of users r)
        → IfSome (name_of_file users files number) (λ full. P (file_row tree full) full)
    for_file P number r got holds =
        subst (λ o. IfSome (option_map (full_of users) o) (λ full. P (file_row tree full) full)) (sym got)
        (subst (λ row. P row (full_of users r)) (sym (row_is r (numbered_there number r got).0)) holds)

    pub modes_by_number : (r : FileRec) (user : ℕ) → Contains files r
        → cond (r.owner == 1) (bit_or (numbered_modes r.traps r.owner user) 2) (numbered_modes r.traps r.owner user) ≡ modes_of (file_row_of users bytes r) (full_of users r) (name_of users user)
    modes_by_number r user there =
        let both = is.among_users.both in
        let macros : (r.owner == 1) ≡ same_text (full_of users r).user (codes "MACROS") =
        sym (same_user users r.owner 1 is.each_user is.among_users.names (inr (omega arith))) ∙ ap (same_text (name_of users r.owner)) macros_is in
        let given = sym (modes_found users r.owner r.traps (are_trapped users files r is there) user) in
        (λ i. cond (macros i) (bit_or (given i) 2) (given i))

    -- what answers by the numbered traps answers by those of the tree
    pub modes_answered : (number : ℕ) (r : FileRec) (user given : ℕ) → get (by_number files) number ≡ Some r
        → given ≡ cond (r.owner == 1) (bit_or (numbered_modes r.traps r.owner user) 2) (numbered_modes r.traps r.owner user)
        → IfSome (name_of_file users files number) (λ full. given ≡ modes_of (file_row tree full) full (name_of users user))
    modes_answered number r user given got same =
        for_file (λ row full. given ≡ modes_of row full (name_of users user)) number r got (same ∙ modes_by_number r user (numbered_there number r got).0)

    -- a user of a number owns what a user of a name owns
    pub owner_answered : (number : ℕ) (r : FileRec) (user : ℕ) → get (by_number files) number ≡ Some r
        → IfSome (name_of_file users files number) (λ full. (user == r.owner) ≡ same_text (name_of users user) full.user)
    owner_answered number r user got =
        for_file (λ row full. (user == r.owner) ≡ same_text (name_of users user) full.user) number r got
        (sym (same_user users user r.owner is.each_user is.among_users.names (inr (owner_used r (numbered_there number r got).0))))
