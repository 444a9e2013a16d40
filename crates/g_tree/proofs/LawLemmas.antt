-- How the tree changes with its records, and what users' numbers are.
-- serves: bytes_go_by_record, erase (tree), is_superior, put (tree), records_change_the_tree, space_left, user_number (named), users_go_by_name, crates above
use Rattle.std.proofs.Common.{◌≡◌, ◌≢◌, ℕ, ◌<◌, ◌==◌, true, false, cond, List, length, get_or, Option, Some, None, unwrap_or, not, refl, sym, ap, subst, ◌∙◌, arith, inl, inr, true≢false}
use Rattle.std.specs.List.{Contains}
use Rattle.std.specs.Option.{option_map}
use Rattle.std.specs.Ordering.{eq_by_cmp}
use Rattle.std.specs.Cmp.{eq_by_cmp_equiv}
use Rattle.std.specs.FinMap.{FinMap, get, insert, remove, from_entries, find, same_map, get-from_entries, get-insert, get-remove}
use Rattle.std.proofs.lemmas.Bool.{cases_lt}
use Rattle.std.proofs.lemmas.List.Elements.{Contains-get_or}
use Rattle.std.proofs.lemmas.Option.{slice_get-get_or}
use Rattle.g_name.specs.declared.full.Full.{Full}
use Rattle.g_name.specs.Order.{full_cmp, text_cmp, same_text}
use Rattle.g_name.proofs.Order.{full_total}
use Rattle.g_entry.specs.declared.user_rec.UserRec.{UserRec}
use Rattle.g_entry.specs.declared.file_rec.FileRec.{FileRec}
use Rattle.g_plain.specs.PlainTree.{FileRow, Tree, user_row, no_budgets}
use Rattle.g_plain.proofs.Found.{tied_are}
use Rattle.g_plain.proofs.TextMaps.{text_total, text_exact, full_exact}
use Rattle.g_tree.specs.Records.{IsRecords, name_of, full_of, traps_named, user_row_of, file_row_of, tree_of, users_by_name, by_name, number_of, user_number}
use Rattle.g_tree.specs.State.{with_file, without_file, without_number}
use Rattle.g_tree.proofs.ListLemmas.{filter_whole}
use Rattle.g_tree.proofs.MapLemmas.{keyed, found_one, found_itself, shadowed}
use Rattle.g_tree.proofs.RecordLemmas.{nobody, name_at, names_apart, numbers_apart, same_user, get_user, get_file}
use Rattle.g_tree.proofs.RuleLemmas.{one_of_key, superior_below}
use Rattle.g_tree.proofs.UserLemmas.{map_same_on}
use Rattle.g_tree.proofs.PlaceLemmas.{no_file, place_for, fits_none}
use Rattle.g_tree.proofs.ChangeLemmas.{other_number, removed_list, removed_tree}
use Rattle.g_tree.proofs.PutLemmas.{with_new, with_other, tree_new, tree_other, named_found, number_found}

-- The tree with a file added, and with one removed.

module _ (users : List UserRec) (files : List FileRec) (bytes : FileRec → List ℕ) (next : ℕ) (is : IsRecords users files) where
  abbrev tree : Tree
  tree = tree_of users files bytes next

  pub tree_put : (r : FileRec) → IsRecords users (with_file r files)
      → tree_of users (with_file r files) bytes next ≡ record tree { files = insert (without_number users files r.number tree.files) (full_of users r) (file_row_of users bytes r) }
  tree_put r rules =
      let (place, there) = place_for files r.number is.numbers in
      elim there as (λ _. tree_of users (with_file r files) bytes next ≡ record tree { files = insert (without_number users files r.number tree.files) (full_of users r) (file_row_of users bytes r) }) [
        | inl at ↦
            let put = with_other r files place is.numbers at in
            ap (λ fs. tree_of users fs bytes next) put ∙ tree_other users bytes next files place r is at (subst (IsRecords users) put rules)
        | inr fits ↦
            let put = with_new r files place fits in
            ap (λ fs. tree_of users fs bytes next) put ∙ tree_new users bytes next files place r is fits (subst (IsRecords users) put rules)
      ]

  -- the row of a name that is inserted again
  pub put_over : (r : FileRec) (rows : FinMap full_cmp FileRow) (row : FileRow) → number_of users files (full_of users r) ≡ Some r.number
      → insert (without_number users files r.number rows) (full_of users r) row ≡ insert rows (full_of users r) row
  put_over r rows row named =
      let found = named_found users files is r.number (full_of users r) named in
      let full = full_of users r in
      ap (λ o. insert (elim o [ Some s ↦ remove rows (full_of users s) | None ↦ rows ]) full row) (number_found users files is r.number found.0 found.1.0 found.1.2)
      ∙ ap (λ k. insert (remove rows k) full row) found.1.1
      ∙ same_map full_total full_exact _ _
      (λ q. get-insert full_total (remove rows full) full row q
      ∙ ap (cond (eq_by_cmp full_cmp q full) (Some row)) (get-remove full_total rows full q)
      ∙ sym (shadowed (eq_by_cmp full_cmp q full) (Some row) None (get rows q))
      ∙ sym (get-insert full_total rows full row q))

  pub tree_erased : (number : ℕ) → tree_of users (without_file number files) bytes next ≡ record tree { files = without_number users files number tree.files }
  tree_erased number =
      let (place, there) = place_for files number is.numbers in
      elim there as (λ _. tree_of users (without_file number files) bytes next ≡ record tree { files = without_number users files number tree.files }) [
        | inl at ↦ ap (λ fs. tree_of users fs bytes next) (sym (removed_list users files is number place at no_file)) ∙ removed_tree users files is number place at bytes next no_file
        | inr fits ↦
            ap (λ fs. tree_of users fs bytes next)
            (filter_whole (λ r. not (r.number == number)) files
            (λ k d within. elim (cases_lt k place) as (λ _. not ((get_or files k d).number == number) ≡ true) [
              | inl lower ↦ let below = fits.below k d (omega arith) lower in other_number (get_or files k d).number number (λ e. omega (arith, below, e))
              | inr above ↦ let beyond = fits.above k d above within in other_number (get_or files k d).number number (λ e. omega (arith, beyond, e))
            ]))
            ∙ ap (λ o. record tree { files = elim o [ Some s ↦ remove tree.files (full_of users s) | None ↦ tree.files ] }) (sym (fits_none files is.numbers number place fits))
      ]

-- the tree of other bytes

module _ (users : List UserRec) (files : List FileRec) (old new : FileRec → List ℕ) (next : ℕ) where
  abbrev row_with : FileRec → List ℕ → Full × FileRow
  row_with r bytes = (full_of users r, record { traps = traps_named users r.owner r.traps; bytes = bytes; stamp = r.stamp })

  pub same_bytes : ((r : FileRec) → Contains files r → new r ≡ old r) → tree_of users files new next ≡ tree_of users files old next
  same_bytes same =
      ap (λ es. record (tree_of users files old next) { files = from_entries {R = full_cmp} es })
      (map_same_on (λ r. (full_of users r, file_row_of users new r)) (λ r. (full_of users r, file_row_of users old r)) files
      (λ k d within. ap (row_with (get_or files k d)) (same (get_or files k d) (Contains-get_or files k d within))))

  -- a row of another name
  row_kept : (r : FileRec) → IsRecords users files → Contains files r → ((s : FileRec) → Contains files s → s.number ≢ r.number → new s ≡ old s) → (q : Full) → eq_by_cmp full_cmp q (full_of users r) ≡ false
      → (found : Option FileRec) → get (by_name users files) q ≡ found → option_map (file_row_of users new) found ≡ option_map (file_row_of users old) found
  row_kept r is there same q apart None got = refl
  row_kept r is there same q apart (Some s) got =
      let (stands, named) = found_one full_total full_exact (full_of users) q files s (sym (get-from_entries full_total (keyed (full_of users) files) q) ∙ got) in
      let differ : s.number ≢ r.number = λ e.
      let one = one_of_key (λ x. x.number) files s r (numbers_apart users files is) stands there e in
      true≢false (sym ((eq_by_cmp_equiv full_total).refl q) ∙ ap (eq_by_cmp full_cmp q) (sym named ∙ ap (full_of users) one) ∙ apart) in
      ap (λ b. Some (row_with s b).1) (same s stands differ)

  pub other_bytes : (r : FileRec) → IsRecords users files → Contains files r → ((s : FileRec) → Contains files s → s.number ≢ r.number → new s ≡ old s)
      → tree_of users files new next ≡ record (tree_of users files old next) { files = insert (tree_of users files old next).files (full_of users r) (file_row_of users new r) }
  other_bytes r is there same =
      let rows = (tree_of users files old next).files in
      let full = full_of users r in
      let row = file_row_of users new in
      let found : get (by_name users files) full ≡ Some r =
      get-from_entries full_total (keyed (full_of users) files) full ∙ found_itself full_total full_exact (full_of users) files r (names_apart users files is) there in
      ap (λ m. record (tree_of users files old next) { files = m })
      (same_map full_total full_exact _ _
      (λ q. get_file users files row q
      ∙ elim (eq_by_cmp full_cmp q full) as (λ t. eq_by_cmp full_cmp q full ≡ t → option_map row (get (by_name users files) q) ≡ cond t (Some (row r)) (get rows q)) [
        | true ↦ λ t. ap (λ k. option_map row (get (by_name users files) k)) (tied_are full_total full_exact q full t) ∙ ap (option_map row) found
        | false ↦ λ t.
            row_kept r is there same q t (get (by_name users files) q) refl
            ∙ sym (get_file users files (file_row_of users old) q)
      ] refl
      ∙ sym (get-insert full_total rows full (row r) q)))

-- the numbers of users

module _ (users : List UserRec) (files : List FileRec) (is : IsRecords users files) where
  pub number_named : (user : ℕ) → user < length users → user_number users (name_of users user) ≡ Some user
  number_named user within =
      let u = get_or users user nobody in
      ap (option_map (λ (v : UserRec). v.number))
      (get-from_entries text_total (keyed (λ v. v.user) users) (name_of users user)
      ∙ ap (λ name. find text_cmp name (keyed (λ v. v.user) users)) (name_at users user nobody within)
      ∙ found_itself text_total text_exact (λ v. v.user) users u is.among_users.names (Contains-get_or users user nobody within))
      ∙ ap Some (is.among_users.numbered user u (slice_get-get_or users user nobody within))

  pub named_by_number : (name : List ℕ) (u : UserRec) → get (users_by_name users) name ≡ Some u → (u.number < length users) × (name_of users u.number ≡ name)
  named_by_number name u got =
      let (there, named) = found_one text_total text_exact (λ v. v.user) name users u (sym (get-from_entries text_total (keyed (λ v. v.user) users) name) ∙ got) in
      let (k, within, stands) = there in
      let number : u.number ≡ k = is.among_users.numbered k u (slice_get-get_or users k u within ∙ ap Some stands) in (
        subst (λ n. n < length users) (sym number) within,
        ap (name_of users) number ∙ name_at users k u within ∙ ap (λ v. v.user) stands ∙ named,
      )

  pub superior_named : (bytes : FileRec → List ℕ) (next : ℕ) (u : UserRec) (who : ℕ) → Contains users u
      → same_text (user_row (tree_of users files bytes next) u.user).superior (name_of users who) ≡ (u.superior == who)
  superior_named bytes next u who there =
      ap (λ o. same_text (unwrap_or o no_budgets).superior (name_of users who))
      (get_user (user_row_of users) users u.user
      ∙ ap (option_map (user_row_of users)) (get-from_entries text_total (keyed (λ v. v.user) users) u.user ∙ found_itself text_total text_exact (λ v. v.user) users u is.among_users.names there))
      ∙ same_user users u.superior who is.each_user is.among_users.names (inl (superior_below users files bytes next is u there))

  pub superior_at : (bytes : FileRec → List ℕ) (next user who : ℕ) (d : UserRec) → user < length users
      → ((get_or users user d).superior == who) ≡ same_text (user_row (tree_of users files bytes next) (name_of users user)).superior (name_of users who)
  superior_at bytes next user who d within =
      sym (ap (λ name. same_text (user_row (tree_of users files bytes next) name).superior (name_of users who)) (name_at users user d within)
      ∙ superior_named bytes next (get_or users user d) who (Contains-get_or users user d within))
