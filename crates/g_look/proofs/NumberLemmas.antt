-- A list visits the files by number, in the order of their names.
-- serves: add_numbers, all_numbers, asked_user (name, no_user, user), directory_text (text), lines_of (text), list (text), push_numbered, tree_text
use Rattle.std.proofs.Common.{◌≡◌, ℕ, suc, ◌+◌, ◌<◌, Bool, true, false, cond, List, [], ◌∷◌, ◌++◌, length, map, filter, drop, Option, Some, None, Result, Ok, Err, IfOk, refl, sym, ◌∙◌, ap, arith, subst, unwrap_or}
use Rattle.std.specs.Prelude.{IfSome, codes, get_or}
use Rattle.std.specs.List.{AllByRecursion, flat_map}
use Rattle.std.specs.Option.{option_map}
use Rattle.std.specs.FinMap.{entries, from_entries, get, get-from_entries}
use Rattle.std.proofs.Math.Seq.{drop-cons}
use Rattle.std.proofs.lemmas.Grind.{flat_map-append}
use Rattle.std.proofs.lemmas.List.{append-nil, append_assoc, length-append, length-map}
use Rattle.std.proofs.lemmas.Option.{slice_get-get_or}
use Rattle.g_copy.specs.declared.copy.DiscCopy.{DiscCopy}
use Rattle.g_entry.specs.declared.file_rec.FileRec.{FileRec}
use Rattle.g_entry.specs.declared.head.Head.{Head}
use Rattle.g_entry.specs.declared.user_rec.UserRec.{UserRec}
use Rattle.g_name.specs.declared.full.Full.{Full}
use Rattle.g_name.specs.Order.{full_cmp, same_text}
use Rattle.g_name.proofs.Order.{full_total}
use Rattle.g_plain.proofs.TextMaps.{full_exact, text_exact, text_total}
use Rattle.g_plain.proofs.TreeLemmas.{all_map, entries_found}
use Rattle.g_tree.specs.Answers.{listed}
use Rattle.g_tree.specs.AskedRecords.{zeros}
use Rattle.g_tree.specs.Records.{ForTree, IsRecords, by_name, by_number, file_row_of, full_of, name_of, number_of, tree_of, users_by_name}
use Rattle.g_tree.proofs.ListLemmas.{filter_of_map, kept_same_on, map_of_map}
use Rattle.g_tree.proofs.MapLemmas.{found_itself, found_one, keyed, with_value}
use Rattle.g_tree.proofs.RecordLemmas.{file_entries, name_at}
use Rattle.g_tree.proofs.RightLemmas.{numbered_there, owner_used}
use Rattle.g_tree.proofs.RuleLemmas.{numbered_is}
use Rattle.g_dirs.specs.Directory.{Directory, FileEntry, copy_at, directory_of}
use Rattle.g_dirs.specs.Image.{StandsFor}
use Rattle.g_lines.specs.Lines.{ended, text_of}
use Rattle.g_look.specs.declared.fault.LookFault.{LookFault}
use Rattle.g_look.specs.FileLines.{disc_file_line, dumped_file_line}
use Rattle.g_look.specs.Lists.{HasUser, IsListed, dumped_lines, file_lines, files_named, list_lines, user_lines}
use Rattle.g_look.specs.Numbers.{all_numbers, asked_numbers, disc_line, dumped_line, line_if, lines_at, lines_dumped, lines_listed, numbers_named}
use Rattle.g_look.specs.Text.{told}

-- an entry of the files by name
abbrev IsEntry : List UserRec → List FileRec → Full × FileRec → Type 0
IsEntry users files e = get (by_name users files) e.0 ≡ Some e.1

-- THE NUMBERS that the tree lists of a user
pub listed_numbers : (users : List UserRec) (files : List FileRec) (bytes : FileRec → List ℕ) (next : ℕ) (user : List ℕ) → listed users files user (tree_of users files bytes next) ≡ numbers_named users files user
listed_numbers users files bytes next user =
    let p = λ (f : Full). same_text f.user user in
    let row = file_row_of users bytes in
    let named = entries (by_name users files) in
    sym (kept_same_on (λ e. p e.0) (λ e. e.1.number) (λ e. unwrap_or (number_of users files e.0) 0) named
    (all_map (IsEntry users files) (λ e. e.1.number ≡ unwrap_or (number_of users files e.0) 0)
    (λ e h. sym (ap (λ (o : Option FileRec). unwrap_or (option_map (λ (s : FileRec). s.number) o) 0) h)) named (entries_found full_total (by_name users files)))
    ∙ sym (map_of_map (λ e. unwrap_or (number_of users files e.0) 0) (with_value full_cmp row) (filter (λ e. p e.0) named))
    ∙ ap (map (λ e. unwrap_or (number_of users files e.0) 0)) (sym (filter_of_map (λ e. p e.0) (with_value full_cmp row) named) ∙ ap (filter (λ e. p e.0)) (sym (file_entries users files row))))

-- two lists of lists that are as long, one by one
flat_long : {X Y Z : Type 0} (f : X → List Y) (g : X → List Z) (xs : List X) → ((x : X) → length (f x) ≡ length (g x)) → length (flat_map f xs) ≡ length (flat_map g xs)
flat_long f g [] same = refl
flat_long f g (x ∷ xs) same =
    let here = same x in
    let rest = flat_long f g xs same in
    omega (arith, length-append (f x) (flat_map f xs), length-append (g x) (flat_map g xs), here, rest)

flat_same : {X Y : Type 0} (f g : X → List Y) (xs : List X) → ((x : X) → f x ≡ g x) → flat_map f xs ≡ flat_map g xs
flat_same f g [] same = refl
flat_same {Y = Y} f g (x ∷ xs) same = ap (λ (ys : List Y). ys ++ flat_map f xs) (same x) ∙ ap (λ (ys : List Y). g x ++ ys) (flat_same f g xs same)

module _ (users : List UserRec) (files : List FileRec) (is : IsRecords users files) where
  at_number : (e : Full × FileRec) → IsEntry users files e → get (by_number files) e.1.number ≡ Some e.1
  at_number e got = numbered_is users files e.0 e.1.number is (ap (option_map (λ (r : FileRec). r.number)) got) ∙ got

  has_name : (e : Full × FileRec) → IsEntry users files e → full_of users e.1 ≡ e.0
  has_name e got = (found_one full_total full_exact (full_of users) e.0 files e.1 (sym (get-from_entries full_total (keyed (full_of users) files) e.0) ∙ got)).1

  -- lines by number are lines by name
  module _ (line : FileRec → List ℕ) (named : Full × FileRec → List ℕ) (same : (e : Full × FileRec) → full_of users e.1 ≡ e.0 → line e.1 ≡ named e) where
    lines_kept : (p : Full × FileRec → Bool) (es : List (Full × FileRec)) → AllByRecursion (IsEntry users files) es
        → flat_map (lines_at line files) (map (λ e. e.1.number) (filter p es)) ≡ map named (filter p es)
    lines_kept p [] all = refl
    lines_kept p (e ∷ es) all = by_test (p e) (filter p es) (lines_kept p es all.1)
      where
        here : lines_at line files e.1.number ≡ named e ∷ []
        here = ap (line_if line) (at_number e all.0) ∙ ap (λ (l : List ℕ). l ∷ []) (same e (has_name e all.0))

        by_test : (b : Bool) (fs : List (Full × FileRec)) → flat_map (lines_at line files) (map (λ e. e.1.number) fs) ≡ map named fs
            → flat_map (lines_at line files) (map (λ e. e.1.number) (cond b (e ∷ fs) fs)) ≡ map named (cond b (e ∷ fs) fs)
        by_test true fs rest = ap (λ (ls : List (List ℕ)). ls ++ flat_map (lines_at line files) (map (λ e. e.1.number) fs)) here ∙ ap (λ (ls : List (List ℕ)). named e ∷ ls) rest
        by_test false fs rest = rest

    pub lines_named : (user : List ℕ) → flat_map (lines_at line files) (numbers_named users files user) ≡ map named (files_named (λ r. r) users files user)
    lines_named user = lines_kept (λ e. same_text e.0.user user) (entries (by_name users files)) (entries_found full_total (by_name users files))

    pub all_named : (us : List UserRec) → flat_map (lines_at line files) (flat_map (λ u. numbers_named users files u.user) us) ≡ flat_map (λ u. map named (files_named (λ r. r) users files u.user)) us
    all_named [] = refl
    all_named (u ∷ us) =
        flat_map-append (lines_at line files) (numbers_named users files u.user) (flat_map (λ u. numbers_named users files u.user) us)
        ∙ ap (λ (ls : List (List ℕ)). ls ++ flat_map (lines_at line files) (flat_map (λ u. numbers_named users files u.user) us)) (lines_named u.user)
        ∙ ap (λ (ls : List (List ℕ)). map named (files_named (λ r. r) users files u.user) ++ ls) (all_named us)

  -- THE USER OF A NAME
  pub user_found : (name : List ℕ) (u : UserRec) → get (users_by_name users) name ≡ Some u → (name_of users u.number ≡ name) × HasUser users name
  user_found name u got =
      let ((k, within, at), named) = found_one text_total text_exact (λ (v : UserRec). v.user) name users u (sym (get-from_entries text_total (keyed (λ (v : UserRec). v.user) users) name) ∙ got) in
      let number : u.number ≡ k = is.among_users.numbered k u (slice_get-get_or users k u within ∙ ap Some at) in (
        ap (name_of users) number ∙ name_at users k u within ∙ ap (λ (v : UserRec). v.user) at ∙ named,
        (u, (k, within, at), named),
      )

  pub nobody_found : (name : List ℕ) → get (users_by_name users) name ≡ None → HasUser users name → ⊥
  nobody_found name none (u, there, named) =
      let found : get (users_by_name users) u.user ≡ Some u =
      get-from_entries text_total (keyed (λ (v : UserRec). v.user) users) u.user ∙ found_itself text_total text_exact (λ (v : UserRec). v.user) users u is.among_users.names there in
      let both : Some u ≡ None = sym found ∙ ap (get (users_by_name users)) named ∙ none in
      cc

  -- ONE MORE USER
  pub user_added : (old new whole : List ℕ) (i : ℕ) (u : UserRec) → i < length users → u ≡ get_or users i u
      → old ++ flat_map (λ v. numbers_named users files v.user) (drop i users) ≡ whole → new ≡ old ++ numbers_named users files (name_of users u.number)
      → new ++ flat_map (λ v. numbers_named users files v.user) (drop (i + 1) users) ≡ whole
  user_added old new whole i u within at so_far more =
      let number : u.number ≡ i = is.among_users.numbered i u (slice_get-get_or users i u within ∙ ap Some (sym at)) in
      let name : name_of users u.number ≡ u.user = ap (name_of users) number ∙ name_at users i u within ∙ ap (λ (v : UserRec). v.user) (sym at) in
      let next : suc i ≡ i + 1 = omega arith in
      let rest : drop i users ≡ u ∷ drop (i + 1) users =
      drop-cons users i u within ∙ ap (λ (v : UserRec). v ∷ drop (suc i) users) (sym at) ∙ ap (λ (n : ℕ). u ∷ drop n users) next in
      ap (λ (xs : List ℕ). xs ++ flat_map (λ v. numbers_named users files v.user) (drop (i + 1) users)) (more ∙ ap (λ (n : List ℕ). old ++ numbers_named users files n) name)
      ∙ append_assoc old (numbers_named users files u.user) (flat_map (λ v. numbers_named users files v.user) (drop (i + 1) users))
      ∙ ap (λ (us : List UserRec). old ++ flat_map (λ v. numbers_named users files v.user) us) (sym rest)
      ∙ so_far

  -- THE LINES OF A DIRECTORY whose files have these copies
  module _ (head : Head) (online : List (ℕ × DiscCopy)) where
    abbrev d : Directory
    d = directory_of head users files online

    abbrev with_copy : FileRec → FileEntry
    with_copy r = (r, copy_at online r.number)

    abbrev line_there : Full × FileEntry → List ℕ
    line_there e = disc_file_line e.0 users e.1.1 e.1.0

    abbrev line_here : Full × FileRec → List ℕ
    line_here e = disc_file_line e.0 users (copy_at online e.1.number) e.1

    same_line : (e : Full × FileRec) → full_of users e.1 ≡ e.0 → disc_line users online e.1 ≡ line_here e
    same_line e named = ap (λ (f : Full). disc_file_line f users (copy_at online e.1.number) e.1) named

    user_here : (user : List ℕ) → user_lines d user ≡ map line_here (files_named (λ r. r) users files user)
    user_here user =
        ap (λ (es : List (Full × FileEntry)). map line_there (filter (λ e. same_text e.0.user user) es))
        (ap (λ (es : List (Full × FileEntry)). entries (from_entries {R = full_cmp} es)) (map_of_map (λ (f : FileEntry). (full_of users f.0, f)) with_copy files)
        ∙ file_entries users files with_copy)
        ∙ ap (map line_there) (filter_of_map (λ e. same_text e.0.user user) (with_value full_cmp with_copy) (entries (by_name users files)))
        ∙ map_of_map line_there (with_value full_cmp with_copy) (files_named (λ r. r) users files user)

    lines_here : (only : Option (List ℕ)) → flat_map (lines_at (disc_line users online) files) (asked_numbers users files only) ≡ file_lines d only
    lines_here None =
        all_named (disc_line users online) line_here same_line users
        ∙ flat_same (λ u. map line_here (files_named (λ r. r) users files u.user)) (λ u. user_lines d u.user) users (λ u. sym (user_here u.user))
    lines_here (Some user) = lines_named (disc_line users online) line_here same_line user ∙ sym (user_here user)

    user_long : (user : List ℕ) → length (numbers_named users files user) ≡ length (user_lines d user)
    user_long user =
        length-map (files_named (λ r. r) users files user) (λ e. e.1.number)
        ∙ sym (length-map (files_named (λ r. r) users files user) line_here)
        ∙ ap length (sym (user_here user))

    long_here : (only : Option (List ℕ)) → length (asked_numbers users files only) ≡ length (file_lines d only)
    long_here None = flat_long (λ u. numbers_named users files u.user) (λ u. user_lines d u.user) users (λ u. user_long u.user)
    long_here (Some user) = user_long user

    pub list_is : (only : Option (List ℕ)) → lines_listed users files online (asked_numbers users files only) ≡ list_lines d only
    list_is only =
        ap (λ (ls : List (List ℕ)). ls ++ told (codes "LISTED ") (length (asked_numbers users files only)) ∷ []) (lines_here only)
        ∙ ap (λ (n : ℕ). file_lines d only ++ told (codes "LISTED ") n ∷ []) (long_here only)

  -- AND THE LINES of the files that a restore gives
  pub dumped_are : (number : ℕ) → lines_dumped users files number (all_numbers users files) ≡ dumped_lines users files number
  dumped_are number =
      ap (λ (ls : List (List ℕ)). ls ++ told (codes "RESTORABLE FROM DUMP ") number ∷ [])
      (all_named (dumped_line users) (λ e. dumped_file_line e.0 users e.1) (λ e named. ap (λ (f : Full). dumped_file_line f users e.1) named) users)

-- THE NUMBERS of one more user
pub numbers_added : (users : List UserRec) (files : List FileRec) (user : List ℕ) (list slice old new : List ℕ) → ForTree users files (λ t. list ≡ listed users files user t) → slice ≡ list → new ≡ old ++ slice
    → new ≡ old ++ numbers_named users files user
numbers_added users files user list slice old new is is_slice more = more ∙ ap (λ (ns : List ℕ). old ++ ns) (is_slice ∙ is zeros 0 ∙ listed_numbers users files zeros 0 user)

pub user_added_in : (users : List UserRec) (files : List FileRec) → IsRecords users files → (old new whole : List ℕ) (i : ℕ) (u : UserRec) (slice : List UserRec) → slice ≡ users → i < length slice → u ≡ get_or slice i u
    → old ++ flat_map (λ v. numbers_named users files v.user) (drop i users) ≡ whole → new ≡ old ++ numbers_named users files (name_of users u.number)
    → new ++ flat_map (λ v. numbers_named users files v.user) (drop (i + 1) users) ≡ whole
user_added_in users files is old new whole i u slice is_slice within at so_far more =
    user_added users files is old new whole i u (subst (λ (us : List UserRec). i < length us) is_slice within) (at ∙ ap (λ (us : List UserRec). get_or us i u) is_slice) so_far more

-- the owner of a file that is found exists
pub owner_found : (users slice : List UserRec) (files : List FileRec) (number : ℕ) (r : FileRec) → IsRecords users files → Some r ≡ get (by_number files) number → slice ≡ users → r.owner < length slice
owner_found users slice files number r is got is_slice =
    subst (λ (us : List UserRec). r.owner < length us) (sym is_slice) (owner_used users files is r (numbered_there users files is number r (sym got)).0)

-- A LAST LINE after some lines
pub last_line : (lines : List (List ℕ)) (line t0 t1 t2 t3 : List ℕ) → t0 ≡ [] → t1 ≡ t0 ++ text_of lines → t2 ≡ t1 ++ line → t3 ≡ t2 ++ 10 ∷ [] → t3 ≡ text_of (lines ++ line ∷ [])
last_line lines line t0 t1 t2 t3 is0 is1 is2 is3 =
    is3
    ∙ ap (λ (xs : List ℕ). xs ++ 10 ∷ []) (is2 ∙ ap (λ (xs : List ℕ). xs ++ line) (is1 ∙ ap (λ (xs : List ℕ). xs ++ text_of lines) is0))
    ∙ append_assoc (text_of lines) line (10 ∷ [])
    ∙ ap (λ (xs : List ℕ). text_of lines ++ xs) (sym (append-nil (ended line)))
    ∙ sym (flat_map-append ended lines (line ∷ []))

-- THE TEXTS, by the records
pub list_text_is : (users us : List UserRec) (files fs : List FileRec) (head : Head) (online on : List (ℕ × DiscCopy)) (only asked : Option (List ℕ)) (text : List ℕ) → IsRecords users files → us ≡ users → fs ≡ files → on ≡ online
    → only ≡ asked → text ≡ text_of (lines_listed us fs on (asked_numbers us fs only)) → text ≡ text_of (list_lines (directory_of head users files online) asked)
list_text_is users us files fs head online on only asked text is same_users same_files same_online same_asked text_is =
    text_is
    ∙ ap (λ (vs : List UserRec). text_of (lines_listed vs fs on (asked_numbers vs fs only))) same_users
    ∙ ap (λ (gs : List FileRec). text_of (lines_listed users gs on (asked_numbers users gs only))) same_files
    ∙ ap (λ (cs : List (ℕ × DiscCopy)). text_of (lines_listed users files cs (asked_numbers users files only))) same_online
    ∙ ap (λ (o : Option (List ℕ)). text_of (lines_listed users files online (asked_numbers users files o))) same_asked
    ∙ ap text_of (list_is users files is head online asked)

pub dumped_text_is : (users us : List UserRec) (files fs : List FileRec) (number : ℕ) (last text : List ℕ) → IsRecords users files → us ≡ users → fs ≡ files
    → text ≡ text_of (lines_dumped us fs number (all_numbers us fs)) ++ last → text ≡ text_of (dumped_lines users files number) ++ last
dumped_text_is users us files fs number last text is same_users same_files text_is =
    text_is
    ∙ ap (λ (vs : List UserRec). text_of (lines_dumped vs fs number (all_numbers vs fs)) ++ last) same_users
    ∙ ap (λ (gs : List FileRec). text_of (lines_dumped users gs number (all_numbers users gs)) ++ last) same_files
    ∙ ap (λ (ls : List (List ℕ)). text_of ls ++ last) (dumped_are users files is number)

-- the text of a list, for the directory that the disc represents
pub listed_ok : (blocks : List (List ℕ)) (only : Option (List ℕ)) (d : Directory) → StandsFor blocks d → (result : Result (List ℕ) LookFault) → IfOk result (λ text. text ≡ text_of (list_lines d only))
    → IfOk result (λ text. IfSome only (HasUser d.users)) → IfOk result (IsListed blocks only)
listed_ok blocks only d stands (Err e) text user = tt
listed_ok blocks only d stands (Ok text) is user = record { directory = d; stands = stands; user = user; text_is = is }
