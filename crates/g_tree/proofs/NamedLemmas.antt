-- The rows of users and files by their names and by their numbers.
-- serves: is_ninth, len (len), modes_of, number, number_of (named), space_left, FaultLemmas, GrantLemmas, crates above
use Rattle.std.proofs.Common.{◌≡◌, ℕ, true, List, Option, Some, None, IfSome, is_some, unwrap_or, refl, sym, ap, ◌∙◌, true≢false}
use Rattle.std.proofs.lemmas.List.{length-replicate}
use Rattle.std.specs.Option.{option_map}
use Rattle.std.specs.FinMap.{get, get-from_entries}
use Rattle.g_name.specs.declared.full.Full.{Full}
use Rattle.g_entry.specs.declared.user_rec.UserRec.{UserRec}
use Rattle.g_entry.specs.declared.file_rec.FileRec.{FileRec}
use Rattle.g_name.proofs.Order.{full_total}
use Rattle.g_plain.specs.PlainTree.{Tree, file_row, no_row, user_row, no_budgets}
use Rattle.g_plain.proofs.TextMaps.{full_exact}
use Rattle.g_tree.specs.AskedRecords.{zeros}
use Rattle.g_tree.specs.Records.{IsRecords, HasLengths, full_of, user_row_of, file_row_of, tree_of, users_by_name, by_name, by_number, number_of, name_of_file}
use Rattle.g_tree.proofs.MapLemmas.{keyed, found_one}
use Rattle.g_tree.proofs.RecordLemmas.{get_user, get_file}
use Rattle.g_tree.proofs.RuleLemmas.{made_of, numbered_is}

pub none_mapped : {A B : Type 0} (f : A → B) (o : Option A) → option_map f o ≡ None → o ≡ None
none_mapped f None e = refl
none_mapped f (Some x) e = absurd (true≢false (ap is_some e))

-- A row is that of the record, if there is one.
module _ (users : List UserRec) (files : List FileRec) (bytes : FileRec → List ℕ) (next : ℕ) where
  abbrev tree : Tree
  tree = tree_of users files bytes next

  pub row_named : (full : Full) (o : Option FileRec) → get (by_name users files) full ≡ o → file_row tree full ≡ unwrap_or (option_map (file_row_of users bytes) o) no_row
  row_named full o got = ap (λ r. unwrap_or r no_row) (get_file users files (file_row_of users bytes) full ∙ ap (option_map (file_row_of users bytes)) got)

  pub user_row_named : (name : List ℕ) (o : Option UserRec) → get (users_by_name users) name ≡ o → user_row tree name ≡ unwrap_or (option_map (user_row_of users) o) no_budgets
  user_row_named name o got = ap (λ r. unwrap_or r no_budgets) (get_user (user_row_of users) users name ∙ ap (option_map (user_row_of users)) got)

-- the file that is found by its name has that name by its number
pub name_found : (users : List UserRec) (files : List FileRec) (full : Full) (number : ℕ) → IsRecords users files → number_of users files full ≡ Some number → name_of_file users files number ≡ Some full
name_found users files full number is e =
    let (r, got, same) = made_of (λ s. s.number) (get (by_name users files) full) number e in
    ap (option_map (full_of users)) (numbered_is users files full number is e ∙ got)
    ∙ ap Some (found_one full_total full_exact (full_of users) full files r (sym (get-from_entries full_total (keyed (full_of users) files) full) ∙ got)).1

-- And it is found by its number.
pub number_there : (users : List UserRec) (files : List FileRec) (full : Full) (number : ℕ) → name_of_file users files number ≡ Some full → is_some (get (by_number files) number) ≡ true
number_there users files full number e = let (r, got, same) = made_of (full_of users) (get (by_number files) number) full e in ap is_some got

pub name_if_found : (users : List UserRec) (files : List FileRec) (full : Full) (found : Option ℕ) → IsRecords users files → found ≡ number_of users files full
    → IfSome found (λ number. name_of_file users files number ≡ Some full)
name_if_found users files full None is e = tt
name_if_found users files full (Some number) is e = name_found users files full number is (sym e)

-- zeros have the lengths of records
pub zeros_fit : (files : List FileRec) → HasLengths files zeros
zeros_fit files r there = length-replicate r.len 0
