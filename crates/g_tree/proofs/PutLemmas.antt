-- How a changed record changes the maps that records represent.
-- serves: put (same_name), rename, renew, replace (same_name), CountLemmas, EntryLemmas, LawLemmas, UserLemmas, crates above
use Rattle.std.proofs.Common.{◌≡◌, ◌≢◌, ℕ, suc, ◌+◌, ◌<◌, ◌≤◌, Bool, true, false, cond, List, [], ◌∷◌, ◌++◌, length, map, filter, take, drop, nat_eq, nat_lt, ◌&&◌, get_or, Option, Some, None, refl, sym, ap, subst, ◌∙◌, arith, is_some, true≢false, ◌⊎◌, inl, inr, not}
use Rattle.std.proofs.Math.ListN.{set}
use Rattle.std.specs.List.{All, AllWithin, Contains}
use Rattle.std.specs.List as list
use Rattle.std.specs.Ordering.{nat_cmp, eq_by_cmp}
use Rattle.std.specs.Cmp.{eq_by_cmp_equiv}
use Rattle.std.specs.FinMap.{FinMap, get, insert, remove, from_entries, find, get-from_entries, nat_cmp-IsAntisymmetric}
use Rattle.std.proofs.lemmas.Bool.{lt-ltb, le-ltb}
use Rattle.std.specs.Option.{option_map}
use Rattle.std.proofs.lemmas.List.{map-append, take-append-drop, length-take-le, length-drop, get_or-take, get_or-drop, get_or_default, set_split, append-nil}
use Rattle.std.proofs.lemmas.List.Elements.{All-cons, All-nil, All-contains, All-weaker, Contains-append_right, filter-append}
use Rattle.g_name.specs.declared.full.Full.{Full}
use Rattle.g_name.specs.Order.{full_cmp, same_text}
use Rattle.g_name.proofs.Order.{full_total, full_ties, full_eq}
use Rattle.g_entry.specs.declared.user_rec.UserRec.{UserRec}
use Rattle.g_entry.specs.declared.file_rec.FileRec.{FileRec}
use Rattle.g_entry.specs.FileFields.{IsFile}
use Rattle.g_entry.specs.Rules.{AreNumbered}
use Rattle.g_table.specs.Files.{rec_at}
use Rattle.g_plain.specs.PlainTree.{FileRow, Tree}
use Rattle.g_plain.proofs.TextMaps.{full_exact}
use Rattle.g_plain.proofs.Found.{same_some, tied_are}
use Rattle.std.proofs.lemmas.Cmp.{nat_cmp_total}
use Rattle.g_tree.specs.Records.{IsRecords, full_of, file_row_of, tree_of, by_name, by_number, number_of}
use Rattle.g_tree.specs.State.{with_file, without_number}
use Rattle.g_tree.specs.Names.{same_name}
use Rattle.g_tree.specs.Places.{StandsAt, FitsAt}
use Rattle.g_tree.proofs.ListLemmas.{pairs_first, pairs_rest, contains_first, filter_none, filter_whole, around}
use Rattle.g_tree.proofs.MapLemmas.{keyed, AreApart, none_found, found_one, found_itself, find_valued, made_middle, made_without}
use Rattle.g_tree.proofs.RecordLemmas.{valued, names_apart, same_user}
use Rattle.g_tree.proofs.PlaceLemmas.{numbered_apart, stands_at, stands_found, fits_none}

module _ {A : Type 0} where
  pub all_before : (P : A → Type 0) (xs : List A) (n : ℕ) → n ≤ length xs → AllWithin P xs 0 n → All P (take n xs)
  all_before P xs n within all =
      λ k d h. let len = length-take-le n xs within in let lower : k < n = omega (arith, len, h) in subst P (sym (get_or-take n xs k d lower)) (all k d (omega arith) lower)

  pub all_behind : (P : A → Type 0) (xs : List A) (n : ℕ) → AllWithin P xs n (length xs) → All P (drop n xs)
  all_behind P xs n all = λ k d h. let len = length-drop n xs in subst P (sym (get_or-drop n xs k d)) (all (n + k) d (omega arith) (omega (arith, len, h)))

module _ {A K : Type 0} (key : A → K) where
  pub apart_before : (xs : List A) (r : A) (ys : List A) → AreApart key (xs ++ r ∷ ys) → All (λ x. key r ≢ key x) xs
  apart_before [] r ys pairs = All-nil (λ x. key r ≢ key x)
  apart_before (x ∷ xs) r ys pairs =
      All-cons (λ y. key r ≢ key y) x xs
      (λ e. All-contains (λ y. key x ≢ key y) (xs ++ r ∷ ys) r (pairs_first (λ y z. key y ≢ key z) x (xs ++ r ∷ ys) pairs) (Contains-append_right xs (r ∷ ys) r (contains_first r ys)) (sym e))
      (apart_before xs r ys (pairs_rest (λ y z. key y ≢ key z) x (xs ++ r ∷ ys) pairs))

  pub apart_behind : (xs : List A) (r : A) (ys : List A) → AreApart key (xs ++ r ∷ ys) → All (λ x. key r ≢ key x) ys
  apart_behind [] r ys pairs = pairs_first (λ y z. key y ≢ key z) r ys pairs
  apart_behind (x ∷ xs) r ys pairs = apart_behind xs r ys (pairs_rest (λ y z. key y ≢ key z) x (xs ++ r ∷ ys) pairs)

-- a file among files in order of number

module _ (r : FileRec) where
  abbrev is_lower : FileRec → Bool
  is_lower s = nat_lt s.number r.number

  abbrev is_greater : FileRec → Bool
  is_greater s = nat_lt r.number s.number

  with_parts : (xs ys zs : List FileRec) → All (λ s. s.number < r.number) xs → filter is_lower zs ≡ [] → filter is_greater zs ≡ ys → with_file r (xs ++ zs) ≡ xs ++ r ∷ ys
  with_parts xs ys zs below none rest =
      let lower : filter is_lower (xs ++ zs) ≡ xs =
      filter-append is_lower xs zs
      ∙ (λ i. filter_whole is_lower xs (All-weaker (λ s. s.number < r.number) (λ s. is_lower s ≡ true) (λ s lt. lt-ltb s.number r.number lt) xs below) i ++ none i) ∙ append-nil xs in
      let greater : filter is_greater (xs ++ zs) ≡ ys =
      filter-append is_greater xs zs
      ∙ (λ i. filter_none is_greater xs (All-weaker (λ s. s.number < r.number) (λ s. is_greater s ≡ false) (λ s lt. le-ltb r.number s.number (omega arith)) xs below) i ++ rest i) in
      λ i. lower i ++ r ∷ greater i

  none_lower : (ys : List FileRec) → All (λ s. r.number < s.number) ys → filter is_lower ys ≡ []
  none_lower ys above = filter_none is_lower ys (All-weaker (λ s. r.number < s.number) (λ s. is_lower s ≡ false) (λ s lt. le-ltb s.number r.number (omega arith)) ys above)

  all_greater : (ys : List FileRec) → All (λ s. r.number < s.number) ys → filter is_greater ys ≡ ys
  all_greater ys above = filter_whole is_greater ys (All-weaker (λ s. r.number < s.number) (λ s. is_greater s ≡ true) (λ s lt. lt-ltb r.number s.number lt) ys above)

  -- If no file has its number.
  pub with_new : (files : List FileRec) (place : ℕ) → FitsAt files r.number place → with_file r files ≡ list.insert files place r
  with_new files place fits =
      let above = all_behind (λ s. r.number < s.number) files place fits.above in
      sym (ap (with_file r) (take-append-drop place files))
      ∙ with_parts (take place files) (drop place files) (drop place files) (all_before (λ s. s.number < r.number) files place fits.within fits.below) (none_lower (drop place files) above)
      (all_greater (drop place files) above)

  -- If a file has it.
  pub with_other : (files : List FileRec) (place : ℕ) → AreNumbered files → StandsAt files r.number place → with_file r files ≡ set files place r
  with_other files place is at =
      let old = get_or files place r in
      let same : old.number ≡ r.number = at.has r in
      let below : All (λ s. s.number < r.number) (take place files) =
      all_before (λ s. s.number < r.number) files place (omega (arith, at.within))
      (λ k d low high. subst (λ n. (get_or files k d).number < n) (at.has d) (is.rising k place d high at.within)) in
      let above : All (λ s. r.number < s.number) (drop (suc place) files) =
      all_behind (λ s. r.number < s.number) files (suc place) (λ k d low high. subst (λ n. n < (get_or files k d).number) (at.has d) (is.rising place k d low high)) in
      ap (with_file r) (around files place r at.within)
      ∙ with_parts (take place files) (drop (suc place) files) (old ∷ drop (suc place) files) below
      (ap (λ b. cond b (old ∷ filter is_lower (drop (suc place) files)) (filter is_lower (drop (suc place) files))) (le-ltb old.number r.number (omega (arith, same))) ∙ none_lower (drop (suc place) files) above)
      (ap (λ b. cond b (old ∷ filter is_greater (drop (suc place) files)) (filter is_greater (drop (suc place) files))) (le-ltb r.number old.number (omega (arith, same))) ∙ all_greater (drop (suc place) files) above)
      ∙ sym (set_split files place r at.within)

-- the rows of files by name

module _ (users : List UserRec) {X : Type 0} (g : FileRec → X) where
  abbrev pub rows_of : List FileRec → FinMap full_cmp X
  rows_of files = from_entries {R = full_cmp} (map (λ r. (full_of users r, g r)) files)

  unnamed : (r : FileRec) (xs : List FileRec) → All (λ x. full_of users r ≢ full_of users x) xs → find full_cmp (full_of users r) (map (λ s. (full_of users s, g s)) xs) ≡ None
  unnamed r xs apart =
      ap (find full_cmp (full_of users r)) (valued users xs g) ∙ find_valued full_cmp g (full_of users r) (keyed (full_of users) xs)
      ∙ ap (option_map g) (none_found full_total full_exact (full_of users) (full_of users r) xs apart)

  -- a file between others
  pub put_between : (xs : List FileRec) (r : FileRec) (ys : List FileRec) → AreApart (full_of users) (xs ++ r ∷ ys) → rows_of (xs ++ r ∷ ys) ≡ insert (rows_of (xs ++ ys)) (full_of users r) (g r)
  put_between xs r ys apart =
      let row : FileRec → Full × X = λ s. (full_of users s, g s) in
      ap (λ es. from_entries {R = full_cmp} es) (map-append row xs (r ∷ ys))
      ∙ made_middle full_total full_exact (map row xs) (map row ys) (full_of users r) (g r) (unnamed r xs (apart_before (full_of users) xs r ys apart))
      ∙ ap (λ es. insert (from_entries {R = full_cmp} es) (full_of users r) (g r)) (sym (map-append row xs ys))

  pub out_between : (xs : List FileRec) (r : FileRec) (ys : List FileRec) → AreApart (full_of users) (xs ++ r ∷ ys) → rows_of (xs ++ ys) ≡ remove (rows_of (xs ++ r ∷ ys)) (full_of users r)
  out_between xs r ys apart =
      let row : FileRec → Full × X = λ s. (full_of users s, g s) in
      ap (λ es. from_entries {R = full_cmp} es) (map-append row xs ys)
      ∙ made_without full_total full_exact (map row xs) (map row ys) (full_of users r) (g r) (unnamed r xs (apart_before (full_of users) xs r ys apart)) (unnamed r ys (apart_behind (full_of users) xs r ys apart))
      ∙ ap (λ es. remove (from_entries {R = full_cmp} es) (full_of users r)) (sym (map-append row xs (r ∷ ys)))

  -- a file that is new at a place
  pub rows_new : (files : List FileRec) (place : ℕ) (r : FileRec) → AreApart (full_of users) (list.insert files place r) → rows_of (list.insert files place r) ≡ insert (rows_of files) (full_of users r) (g r)
  rows_new files place r apart =
      put_between (take place files) r (drop place files) apart ∙ ap (λ fs. insert (rows_of fs) (full_of users r) (g r)) (take-append-drop place files)

  -- a file in the place of another
  pub rows_other : (files : List FileRec) (place : ℕ) (old r : FileRec) → place < length files → old ≡ get_or files place old → AreApart (full_of users) files → AreApart (full_of users) (set files place r)
      → rows_of (set files place r) ≡ insert (remove (rows_of files) (full_of users old)) (full_of users r) (g r)
  rows_other files place old r within is apart later =
      let xs = take place files in
      let ys = drop (suc place) files in
      let parts : files ≡ xs ++ old ∷ ys = around files place old within ∙ ap (λ s. xs ++ s ∷ ys) (sym is) in
      let new : set files place r ≡ xs ++ r ∷ ys = set_split files place r within in
      ap rows_of new
      ∙ put_between xs r ys (subst (AreApart (full_of users)) new later)
      ∙ ap (λ m. insert m (full_of users r) (g r)) (out_between xs old ys (subst (AreApart (full_of users)) parts apart) ∙ ap (λ fs. remove (rows_of fs) (full_of users old)) (sym parts))

  -- the same row in the place of another
  pub rows_same : (files : List FileRec) (place : ℕ) (old r : FileRec) → place < length files → old ≡ get_or files place old → full_of users old ≡ full_of users r → g old ≡ g r → rows_of (set files place r) ≡ rows_of files
  rows_same files place old r within is named valued_same =
      let xs = take place files in
      let ys = drop (suc place) files in
      let row : FileRec → Full × X = λ s. (full_of users s, g s) in
      let parts : files ≡ xs ++ old ∷ ys = around files place old within ∙ ap (λ s. xs ++ s ∷ ys) (sym is) in
      ap (λ fs. from_entries {R = full_cmp} (map row fs)) (set_split files place r within) ∙ ap (λ es. from_entries {R = full_cmp} es) (map-append row xs (r ∷ ys))
      ∙ (λ i. from_entries {R = full_cmp} (map row xs ++ (sym named i, sym valued_same i) ∷ map row ys))
      ∙ ap (λ es. from_entries {R = full_cmp} es) (sym (map-append row xs (old ∷ ys))) ∙ ap (λ fs. from_entries {R = full_cmp} (map row fs)) (sym parts)

-- the file of a full name, by its number

module _ (users : List UserRec) (files : List FileRec) (is : IsRecords users files) (number : ℕ) where
  pub named_found : (full : Full) → number_of users files full ≡ Some number → (r : FileRec) × (Contains files r × (full_of users r ≡ full) × (r.number ≡ number))
  named_found full e =
      elim (get (by_name users files) full) as (λ o. get (by_name users files) full ≡ o → option_map (λ (r : FileRec). r.number) o ≡ Some number → (r : FileRec) × (Contains files r × (full_of users r ≡ full) × (r.number ≡ number))) [
        | None ↦ λ there n. absurd (true≢false (sym (ap is_some n)))
        | Some r ↦ λ there n.
            let found = found_one full_total full_exact (full_of users) full files r (sym (get-from_entries full_total (keyed (full_of users) files) full) ∙ there) in
            (r, (found.0, found.1, same_some r.number number n))
      ] refl e

  pub number_found : (r : FileRec) → Contains files r → r.number ≡ number → get (by_number files) number ≡ Some r
  number_found r there e =
      get-from_entries nat_cmp_total (keyed (λ s. s.number) files) number
      ∙ subst (λ n. find nat_cmp n (keyed (λ s. s.number) files) ≡ Some r) e (found_itself nat_cmp_total nat_cmp-IsAntisymmetric (λ s. s.number) files r (numbered_apart files is.numbers number) there)

  pub named_stands : (full : Full) (place : ℕ) (old : FileRec) → number_of users files full ≡ Some number → StandsAt files number place → old ≡ get_or files place old → full_of users old ≡ full
  named_stands full place old e at stands =
      let found = named_found full e in
      let same : found.0 ≡ old = same_some found.0 old (sym (number_found found.0 found.1.0 found.1.2) ∙ stands_found files is.numbers number place old at ∙ ap Some (sym stands)) in
      ap (full_of users) (sym same) ∙ found.1.1

  pub named_fits : (full : Full) (place : ℕ) → number_of users files full ≡ Some number → FitsAt files number place → ⊥
  named_fits full place e fits =
      let found = named_found full e in true≢false (ap is_some (sym (number_found found.0 found.1.0 found.1.2) ∙ fits_none files is.numbers number place fits))

-- whether two full names are one

pub names_agree : (a b : Full) (t : Bool) → t ≡ not (full_eq a b) → t ≡ false → a ≡ b
names_agree a b t is e =
    elim (full_eq a b) as (λ u. full_eq a b ≡ u → t ≡ not u → a ≡ b) [
      | true ↦ λ f _. tied_are full_total full_exact a b (sym (full_ties a b) ∙ f)
      | false ↦ λ _ n. absurd (true≢false (sym n ∙ e))
    ] refl is

pub names_differ : (a b : Full) (t : Bool) → t ≡ not (full_eq a b) → t ≡ true → a ≡ b → ⊥
names_differ a b t is e same =
    true≢false (sym e ∙ is ∙ ap not (full_ties a b ∙ ap (λ x. eq_by_cmp full_cmp x b) same ∙ (eq_by_cmp_equiv full_total).refl b))

-- by the parts of a record they are the same as by the name of the owner
pub same_parts : (users : List UserRec) (files : List FileRec) (a b : FileRec) → IsRecords users files → a.owner < length users → same_name a b ≡ full_eq (full_of users a) (full_of users b)
same_parts users files a b is there =
    ap (λ t. t && (same_text a.local b.local && (nat_eq a.generation b.generation && same_text a.lang b.lang)))
    (sym (same_user users a.owner b.owner is.each_user is.among_users.names (inl there)))

module _ (users : List UserRec) (files : List FileRec) (place : ℕ) (r file : FileRec) (same : Bool) (is : IsRecords users files) (at : StandsAt files file.number place)
    (here : r ≡ get_or files place r) (told : same ≡ same_name r file) where
  by_names : not same ≡ not (full_eq (full_of users r) (full_of users file))
  by_names = ap not (told ∙ same_parts users files r file is (subst (λ s. s.owner < length users) (sym here) (is.among_files.owners place r at.within)))

  -- The file at the place has the name, for any default value.
  pub stands_named : same ≡ true → (d : FileRec) → full_of users (get_or files place d) ≡ full_of users file
  stands_named named d =
      ap (full_of users) (get_or_default files place d r at.within ∙ sym here) ∙ names_agree (full_of users r) (full_of users file) (not same) by_names (ap not named)

  -- the name isn't that of the number
  pub named_apart : same ≡ false → number_of users files (full_of users file) ≡ Some file.number → ⊥
  named_apart apart e =
      names_differ (full_of users r) (full_of users file) (not same) by_names (ap not apart)
      (named_stands users files is file.number (full_of users file) place r e at here)

pub still_room : (users : List UserRec) (files : List FileRec) (full : Full) (number spare : ℕ) → (1 ≤ spare) ⊎ (number_of users files full ≡ Some number) → (number_of users files full ≡ Some number → ⊥) → 1 ≤ spare
still_room users files full number spare room apart = elim room as (λ _. 1 ≤ spare) [ inl some ↦ some | inr e ↦ absurd (apart e) ]

abbrev without_found : List UserRec → FinMap full_cmp FileRow → Option FileRec → FinMap full_cmp FileRow
without_found users rows found = elim found [ Some r ↦ remove rows (full_of users r) | None ↦ rows ]

-- The tree after a file was added.

module _ (users : List UserRec) (bytes : FileRec → List ℕ) (next : ℕ) where
  abbrev with_row : Tree → FileRec → List UserRec → List FileRec → Tree
  with_row tree file owners files = record tree { files = insert (without_number owners files file.number tree.files) (full_of owners file) (file_row_of owners bytes file) }

  pub tree_new : (files : List FileRec) (place : ℕ) (file : FileRec) → IsRecords users files → FitsAt files file.number place → IsRecords users (list.insert files place file)
      → tree_of users (list.insert files place file) bytes next ≡ with_row (tree_of users files bytes next) file users files
  tree_new files place file is fits rules =
      let row = file_row_of users bytes in
      let rows = rows_of users row files in
      ap (λ m. record (tree_of users files bytes next) { files = m })
      (rows_new users row files place file (names_apart users (list.insert files place file) rules)
      ∙ ap (λ o. insert (without_found users rows o) (full_of users file) (row file)) (sym (fits_none files is.numbers file.number place fits)))

  pub tree_other : (files : List FileRec) (place : ℕ) (file : FileRec) → IsRecords users files → StandsAt files file.number place → IsRecords users (set files place file)
      → tree_of users (set files place file) bytes next ≡ with_row (tree_of users files bytes next) file users files
  tree_other files place file is at rules =
      let row = file_row_of users bytes in
      let rows = rows_of users row files in
      let old = get_or files place file in
      ap (λ m. record (tree_of users files bytes next) { files = m })
      (rows_other users row files place old file at.within (get_or_default files place file old at.within) (names_apart users files is) (names_apart users (set files place file) rules)
      ∙ ap (λ o. insert (without_found users rows o) (full_of users file) (row file)) (sym (stands_found files is.numbers file.number place file at)))

-- a file among others keeps the rules of a file
pub file_ruled : (users : List UserRec) (files : List FileRec) (file : FileRec) → IsRecords users (with_file file files) → IsFile file
file_ruled users files file is =
    All-contains IsFile (with_file file files) file is.each_file (Contains-append_right (filter (is_lower file) files) (file ∷ filter (is_greater file) files) file (contains_first file (filter (is_greater file) files)))

-- The owner of a file exists.
pub owner_there : (users : List UserRec) (files : List FileRec) (file : FileRec) → IsRecords users (with_file file files) → file.owner < length users
owner_there users files file is =
    All-contains (λ r. r.owner < length users) (with_file file files) file is.among_files.owners
    (Contains-append_right (filter (is_lower file) files) (file ∷ filter (is_greater file) files) file (contains_first file (filter (is_greater file) files)))

-- and its number is below 1,024
pub number_few : (users : List UserRec) (files : List FileRec) (file : FileRec) → IsRecords users (with_file file files) → file.number < 1024
number_few users files file is =
    All-contains (λ r. r.number < 1024) (with_file file files) file is.numbers.below
    (Contains-append_right (filter (is_lower file) files) (file ∷ filter (is_greater file) files) file (contains_first file (filter (is_greater file) files)))

-- a file in the place of the one of its number
pub record IsSet (users : List UserRec) (files : List FileRec) (file r : FileRec) (place : ℕ) : Type 0 where
  pub at : StandsAt files file.number place
  pub here : r ≡ get_or files place r
  pub put : with_file file files ≡ set files place file
  pub rules : IsRecords users (set files place file)

pub set_at : (users : List UserRec) (files : List FileRec) → IsRecords users files → (file r : FileRec) → rec_at files file.number ≡ Some r → IsRecords users (with_file file files) → (place : ℕ) × IsSet users files file r place
set_at users files is file r found rules =
    let (place, it) = stands_at files is.numbers file.number r found in
    let put = with_other file files place is.numbers it.at in
    (place, record { at = it.at; here = it.here; put = put; rules = subst (IsRecords users) put rules })
