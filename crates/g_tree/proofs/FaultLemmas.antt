-- Why a call is refused doesn't depend on the bytes of files.
-- serves: refusals_go_by_length, GrantLemmas
use Rattle.std.proofs.Common.{◌≡◌, ℕ, cond, List, length, get_or, Option, Some, None, unwrap_or, refl, sym, ap, ◌∙◌}
use Rattle.std.specs.Option.{option_map}
use Rattle.std.specs.FinMap.{get, len, get-from_entries}
use Rattle.std.proofs.lemmas.List.Elements.{Contains-get_or}
use Rattle.g_base.specs.Block.{blocks_for}
use Rattle.g_name.specs.declared.full.Full.{Full}
use Rattle.g_name.specs.declared.path.Path.{Path}
use Rattle.g_name.specs.Order.{same_text}
use Rattle.g_name.proofs.Order.{full_total}
use Rattle.g_entry.specs.declared.user_rec.UserRec.{UserRec}
use Rattle.g_entry.specs.declared.file_rec.FileRec.{FileRec}
use Rattle.g_plain.specs.declared.calls.StoreCall.{StoreCall}
use Rattle.g_plain.specs.declared.calls.StoreCall.TheVariants.{NewUser, Budget, Put, Append, Fetch, Erase, Rename, List as ListFiles, TrapGo, TrapStop, TrapCheck, Retrieve}
use Rattle.g_plain.specs.PlainTree.{Tree, has_file, file_row, no_row, newest, used_blocks}
use Rattle.g_plain.specs.PlainStep.{fault_of}
use Rattle.g_plain.proofs.TextMaps.{full_exact}
use Rattle.g_tree.specs.Records.{IsRecords, HasLengths, name_of, full_of, file_row_of, tree_of, by_name}
use Rattle.g_tree.proofs.ListLemmas.{sum_same_on}
use Rattle.g_tree.proofs.MapLemmas.{keyed, found_one}
use Rattle.g_tree.proofs.RecordLemmas.{file_there, newest_is, blocks_in, used_named}
use Rattle.g_tree.proofs.RuleLemmas.{count_files}
use Rattle.g_tree.proofs.NamedLemmas.{row_named}

module _ (users : List UserRec) (files : List FileRec) (bytes other : FileRec → List ℕ) (next : ℕ) (is : IsRecords users files) (lengths : HasLengths files bytes) (others : HasLengths files other) where
  abbrev one : Tree
  one = tree_of users files bytes next

  abbrev two : Tree
  two = tree_of users files other next

  has_same : (full : Full) → has_file one full ≡ has_file two full
  has_same full = sym (file_there users files bytes next full) ∙ file_there users files other next full

  newest_same : (who : List ℕ) (path : Path) → newest one who path ≡ newest two who path
  newest_same who path = newest_is users files bytes next who path is ∙ sym (newest_is users files other next who path is)

  traps_of : (found : Option FileRec) → (unwrap_or (option_map (file_row_of users bytes) found) no_row).traps ≡ (unwrap_or (option_map (file_row_of users other) found) no_row).traps
  traps_of None = refl
  traps_of (Some r) = refl

  traps_same : (full : Full) → (file_row one full).traps ≡ (file_row two full).traps
  traps_same full =
      let found = get (by_name users files) full in
      ap (λ r. r.traps) (row_named users files bytes next full found refl) ∙ traps_of found ∙ ap (λ r. r.traps) (sym (row_named users files other next full found refl))

  length_of : (full : Full) (found : Option FileRec) → get (by_name users files) full ≡ found
      → length (unwrap_or (option_map (file_row_of users bytes) found) no_row).bytes ≡ length (unwrap_or (option_map (file_row_of users other) found) no_row).bytes
  length_of full None got = refl
  length_of full (Some r) got =
      let there = (found_one full_total full_exact (full_of users) full files r (sym (get-from_entries full_total (keyed (full_of users) files) full) ∙ got)).0 in
      lengths r there ∙ sym (others r there)

  length_same : (full : Full) → length (file_row one full).bytes ≡ length (file_row two full).bytes
  length_same full =
      let found = get (by_name users files) full in
      ap (λ r. length r.bytes) (row_named users files bytes next full found refl) ∙ length_of full found refl ∙ ap (λ r. length r.bytes) (sym (row_named users files other next full found refl))

  used_same : (user : List ℕ) → used_blocks one user ≡ used_blocks two user
  used_same user =
      used_named users files bytes next user is
      ∙ sum_same_on (blocks_in user bytes users) (blocks_in user other users) files
      (λ k d within.
      let r = get_or files k d in
      let there = Contains-get_or files k d within in
      ap (λ n. cond (same_text (name_of users r.owner) user) (blocks_for n) 0) (lengths r there ∙ sym (others r there)))
      ∙ sym (used_named users files other next user is)

  count_same : len one.files ≡ len two.files
  count_same = count_files users files bytes next is ∙ sym (count_files users files other next is)

  pub fault_same : (who : List ℕ) (call : StoreCall) → fault_of one who call ≡ fault_of two who call
  fault_same who (NewUser user space time money) = refl
  fault_same who (Budget user kind amount) = refl
  fault_same who (ListFiles user) = refl
  fault_same who (Put path text) = simp (has_same, newest_same, traps_same, length_same, used_same, count_same)
  fault_same who (Append path text) = simp (has_same, newest_same, traps_same, length_same, used_same)
  fault_same who (Fetch path mode) = simp (has_same, newest_same, traps_same)
  fault_same who (Retrieve path) = simp (has_same, newest_same, traps_same)
  fault_same who (Erase path) = simp (has_same, newest_same, traps_same)
  fault_same who (Rename path to) = simp (has_same, newest_same)
  fault_same who (TrapGo path user modes) = simp (has_same, newest_same, traps_same)
  fault_same who (TrapStop path user modes) = simp (has_same, newest_same)
  fault_same who (TrapCheck path user) = simp (has_same, newest_same)
