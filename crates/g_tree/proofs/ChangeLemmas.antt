-- How records and the tree change together.
-- serves: erase (records), lower (newest), newest_but (generation), rename, take_later (topped), take_out (index, newest), CountLemmas, EntryLemmas, LawLemmas
use Rattle.std.proofs.Common.{◌≡◌, ◌≢◌, ℕ, suc, ◌+◌, ◌<◌, ◌≤◌, ◌==◌, true, false, cond, not, List, [], ◌∷◌, ◌++◌, length, map, filter, take, drop, get_or, Some, None, sym, ap, ◌∙◌, arith}
use Rattle.std.specs.List.{All, remove as remove_at}
use Rattle.std.proofs.lemmas.Bool.Decides.{nat_tests}
use Rattle.std.proofs.lemmas.List.Edits.{length-remove}
use Rattle.std.proofs.lemmas.List.Elements.{All-append, All-take, All-drop, filter-append}
use Rattle.std.proofs.lemmas.List.Quantifiers.{all_pairs_remove}
use Rattle.std.specs.FinMap.{FinMap, insert, remove, find, from_entries, from_entries_push}
use Rattle.std.specs.Option.{option_map}
use Rattle.std.proofs.lemmas.List.{map_more, map-append, length-take-le, length-drop, get_or-take, get_or-drop, get_or_default}
use Rattle.g_name.specs.declared.full.Full.{Full}
use Rattle.g_name.specs.Order.{full_cmp}
use Rattle.g_name.proofs.Order.{full_total}
use Rattle.g_entry.specs.declared.user_rec.UserRec.{UserRec}
use Rattle.g_entry.specs.declared.file_rec.FileRec.{FileRec}
use Rattle.g_plain.proofs.TextMaps.{full_exact}
use Rattle.g_entry.specs.FileFields.{IsFile}
use Rattle.g_entry.specs.Rules.{SameName}
use Rattle.g_plain.specs.PlainTree.{FileRow}
use Rattle.g_tree.specs.Records.{IsRecords, full_of, file_row_of, name_of_file, tree_of}
use Rattle.g_tree.specs.State.{without_file, without_number}
use Rattle.g_tree.specs.Places.{StandsAt}
use Rattle.g_tree.proofs.PlaceLemmas.{named_there, numbered_apart, stands_at, stands_found}
use Rattle.g_tree.proofs.MapLemmas.{keyed, AreApart, none_found, find_valued, with_value, made_without}
use Rattle.g_tree.proofs.ListLemmas.{map_of_map, filter_whole, around}
use Rattle.g_tree.proofs.RecordLemmas.{names_apart}

-- an element is none of those before it
pub before_apart : {A K : Type 0} (key : A → K) (xs : List A) (i : ℕ) (d : A) → AreApart key xs → i < length xs → All (λ y. key (get_or xs i d) ≢ key y) (take i xs)
before_apart key xs i d apart within = λ k e before same.
    let len : length (take i xs) ≡ i = length-take-le i xs (omega arith) in
    let low : k < i = omega (arith, before, len) in
    apart k i e low within (ap key (sym (get_or-take i xs k e low)) ∙ sym same ∙ ap key (get_or_default xs i d e within))

-- and its key isn't found among theirs
pub before_none : {X : Type 0} (g : FileRec → X) (users : List UserRec) (files : List FileRec) (i : ℕ) (d : FileRec) → IsRecords users files → i < length files
    → find full_cmp (full_of users (get_or files i d)) (map (λ r. (full_of users r, g r)) (take i files)) ≡ None
before_none g users files i d is within =
    let full = full_of users (get_or files i d) in
    ap (find full_cmp full) (sym (map_of_map (with_value full_cmp g) (λ r. (full_of users r, r)) (take i files)))
    ∙ find_valued full_cmp g full (keyed (full_of users) (take i files))
    ∙ ap (option_map g) (none_found full_total full_exact (full_of users) full (take i files) (before_apart (full_of users) files i d (names_apart users files is) within))

-- one file more in the index
pub index_more : (users : List UserRec) (files : List FileRec) (i : ℕ) (r : FileRec) (full : Full) (old new : FinMap full_cmp ℕ) → IsRecords users files → i < length files → r ≡ get_or files i r → full ≡ full_of users r
    → old ≡ from_entries (map (λ s. (full_of users s, s.number)) (take i files)) → new ≡ insert old full r.number → new ≡ from_entries (map (λ s. (full_of users s, s.number)) (take (i + 1) files))
index_more users files i r full old new is within here named before more =
    let entry : FileRec → Full × ℕ = λ s. (full_of users s, s.number) in
    let none : find full_cmp (full_of users r) (map entry (take i files)) ≡ None =
    ap (λ s. find full_cmp (full_of users s) (map entry (take i files))) here ∙ before_none (λ s. s.number) users files i r is within in
    more ∙ (λ j. insert (before j) (named j) r.number)
    ∙ sym (ap (λ es. from_entries {R = full_cmp} es) (map_more entry files i r within ∙ ap (λ s. map entry (take i files) ++ entry s ∷ []) (sym here))
    ∙ from_entries_push full_total full_exact (map entry (take i files)) (full_of users r) r.number none)

-- An element differs from those after it.
pub behind_apart : {A K : Type 0} (key : A → K) (xs : List A) (i : ℕ) (d : A) → AreApart key xs → i < length xs → All (λ y. key (get_or xs i d) ≢ key y) (drop (suc i) xs)
behind_apart key xs i d apart within = λ k e behind same.
    let len = length-drop (suc i) xs in
    let high : suc i + k < length xs = omega (arith, behind, len) in
    apart i (suc i + k) e (omega arith) high (ap key (sym (get_or_default xs i d e within)) ∙ same ∙ ap key (get_or-drop (suc i) xs k e))

pub behind_none : {X : Type 0} (g : FileRec → X) (users : List UserRec) (files : List FileRec) (i : ℕ) (d : FileRec) → IsRecords users files → i < length files
    → find full_cmp (full_of users (get_or files i d)) (map (λ r. (full_of users r, g r)) (drop (suc i) files)) ≡ None
behind_none g users files i d is within =
    let full = full_of users (get_or files i d) in
    ap (find full_cmp full) (sym (map_of_map (with_value full_cmp g) (λ r. (full_of users r, r)) (drop (suc i) files)))
    ∙ find_valued full_cmp g full (keyed (full_of users) (drop (suc i) files))
    ∙ ap (option_map g) (none_found full_total full_exact (full_of users) full (drop (suc i) files) (behind_apart (full_of users) files i d (names_apart users files is) within))

-- a file that is taken out

pub other_number : (m n : ℕ) → m ≢ n → not (m == n) ≡ true
other_number m n apart = grind (arith, nat_tests)

same_number : (m n : ℕ) → m ≡ n → not (m == n) ≡ false
same_number m n is = grind (arith, nat_tests)

module _ (users : List UserRec) (files : List FileRec) (is : IsRecords users files) where
  pub removed_rules : (i : ℕ) → i < length files → IsRecords users (remove_at files i)
  removed_rules i within =
      let kept = λ (P : FileRec → Type 0) (all : All P files). All-append P (take i files) (drop (suc i) files) (All-take P i files all) (All-drop P (suc i) files all) in
      let fewer = length-remove files i within in record {
        each_user = is.each_user;
        among_users = is.among_users;
        each_file = kept IsFile is.each_file;
        numbers = record {
          rising = all_pairs_remove (λ r s. r.number < s.number) files i within is.numbers.rising;
          below = kept (λ r. r.number < 1024) is.numbers.below;
        };
        among_files = record {
          few = (let few = is.among_files.few in omega (arith, few, fewer));
          owners = kept (λ r. r.owner < length users) is.among_files.owners;
          trapped = kept (λ r. All (λ pair. pair.0 < length users) r.traps.others) is.among_files.trapped;
          names = all_pairs_remove (λ r s. SameName r s → ⊥) files i within is.among_files.names;
          stamps = all_pairs_remove (λ r s. r.stamp ≢ s.stamp) files i within is.among_files.stamps;
          dated = kept (λ r. 1 ≤ r.stamp) is.among_files.dated;
          empty = kept (λ r. r.len ≡ 0 → r.tape ≡ None) is.among_files.empty;
        };
      }

  module _ (number place : ℕ) (at : StandsAt files number place) where
    pub removed_list : (d : FileRec) → remove_at files place ≡ without_file number files
    removed_list d =
        let p = λ (r : FileRec). not (r.number == number) in
        let r = get_or files place d in
        let apart = numbered_apart files is.numbers number in
        let before : filter p (take place files) ≡ take place files =
        filter_whole p (take place files)
        (λ k e within. other_number _ number (λ same. before_apart (λ s. s.number) files place d apart at.within k e within (at.has d ∙ sym same))) in
        let behind : filter p (drop (suc place) files) ≡ drop (suc place) files =
        filter_whole p (drop (suc place) files)
        (λ k e within. other_number _ number (λ same. behind_apart (λ s. s.number) files place d apart at.within k e within (at.has d ∙ sym same))) in
        sym (ap (filter p) (around files place d at.within) ∙ filter-append p (take place files) (r ∷ drop (suc place) files)
        ∙ (λ i. before i ++ cond (same_number r.number number (at.has d) i) (r ∷ filter p (drop (suc place) files)) (filter p (drop (suc place) files)))
        ∙ ap (λ ys. take place files ++ ys) behind)

    pub removed_map : {X : Type 0} (g : FileRec → X) (d : FileRec)
        → from_entries {R = full_cmp} (map (λ s. (full_of users s, g s)) (remove_at files place)) ≡ remove (from_entries (map (λ s. (full_of users s, g s)) files)) (full_of users (get_or files place d))
    removed_map {X} g d =
        let entry : FileRec → Full × X = λ s. (full_of users s, g s) in
        let r = get_or files place d in
        ap (λ es. from_entries {R = full_cmp} es) (map-append entry (take place files) (drop (suc place) files))
        ∙ made_without full_total full_exact (map entry (take place files)) (map entry (drop (suc place) files)) (full_of users r) (g r) (before_none g users files place d is at.within) (behind_none g users files place d is at.within)
        ∙ ap (λ es. remove (from_entries {R = full_cmp} es) (full_of users r)) (sym (ap (map entry) (around files place d at.within) ∙ map-append entry (take place files) (r ∷ drop (suc place) files)))

    pub without_is : (d : FileRec) (rows : FinMap full_cmp FileRow) → without_number users files number rows ≡ remove rows (full_of users (get_or files place d))
    without_is d rows = ap (λ o. elim o [ Some r ↦ remove rows (full_of users r) | None ↦ rows ]) (stands_found files is.numbers number place d at)

    pub removed_tree : (bytes : FileRec → List ℕ) (next : ℕ) (d : FileRec)
        → tree_of users (remove_at files place) bytes next ≡ record (tree_of users files bytes next) { files = without_number users files number (tree_of users files bytes next).files }
    removed_tree bytes next d =
        ap (λ m. record (tree_of users files bytes next) { files = m }) (removed_map (file_row_of users bytes) d ∙ sym (without_is d (tree_of users files bytes next).files))

-- The place of the file with a number and a full name, and the files without it.
pub record IsPlaced (users : List UserRec) (files : List FileRec) (number : ℕ) (full : Full) (place : ℕ) : Type 0 where
  pub within : place < length files
  pub named : (d : FileRec) → full ≡ full_of users (get_or files place d)
  pub rest : remove_at files place ≡ without_file number files

pub placed : (users : List UserRec) (files : List FileRec) → IsRecords users files → (number : ℕ) (full : Full) → name_of_file users files number ≡ Some full → (place : ℕ) × IsPlaced users files number full place
placed users files is number full e =
    let (r, named) = named_there users files number full e in
    let (place, it) = stands_at files is.numbers number r named.found in (
      place,
      record {
        within = it.at.within;
        named = λ d. named.named ∙ ap (full_of users) (it.here ∙ get_or_default files place r d it.at.within);
        rest = removed_list users files is number place it.at r;
      },
    )
