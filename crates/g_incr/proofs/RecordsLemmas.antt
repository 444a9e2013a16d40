-- The records of a dump, block by block.
-- serves: files_in (none), records_in (none), users_in (none)
use Rattle.std.proofs.Common.{◌≡◌, ◌⊎◌, ℕ, ◌+◌, ◌<◌, ◌≤◌, Bool, true, false, List, [], ◌∷◌, ◌++◌, length, get_or, take, drop, Some, refl, sym, ◌∙◌, ap, arith, slice_get, subst, inl, inr}
use Rattle.std.specs.Prelude.{◌==◌, ◌||◌, All, map, option_map, if◌then◌else◌, slice_index}
use Rattle.std.specs.List.Sorted.{IsStrictlyIncreasing}
use Rattle.std.proofs.Math.ListN.{get_or-append}
use Rattle.std.proofs.Math.Seq.{get_or-append_seam}
use Rattle.std.proofs.lemmas.Bool.{cases_lt, eq-eqb, ne_eqb}
use Rattle.std.proofs.lemmas.List.{append-nil, length-append, length-map, length-take-le, same_lists, take_more}
use Rattle.std.proofs.lemmas.List.Elements.{All-push, All-weaker}
use Rattle.std.proofs.lemmas.List.Folds.{list_any-append}
use Rattle.std.proofs.lemmas.Option.{get_or_from_slice_get, slice_get-get_or, slice_get-map, slice_get_within}
use Rattle.g_entry.specs.declared.format.Format.{Format}
use Rattle.g_entry.specs.declared.file_rec.FileRec.{FileRec}
use Rattle.g_entry.specs.declared.user_rec.UserRec.{UserRec}
use Rattle.g_entry.specs.FileFields.{IsFile, file_block}
use Rattle.g_entry.specs.UserFields.{IsUser, held_byte, user_block}
use Rattle.g_incr.specs.Layout.{holds, numbers_in}
use Rattle.g_incr.specs.declared.note.Header.{Header}
use Rattle.g_incr.specs.Records.{AreFilesIn, AreUsersIn, HasRecords, KeepRules}
use Rattle.g_incr.proofs.ListLemmas.{get_push, get_some, map_push_one, same_map}
use Rattle.g_incr.proofs.OneLemmas.{at_users, flag_of, nobody, none_beyond, same_files, same_held}

abbrev pub block_of_user : Format → List ℕ → UserRec → List ℕ
block_of_user format held u = user_block format (held_byte (holds held u.number)) u

abbrev pub block_of_file : Format → FileRec → List ℕ
block_of_file format r = file_block format r (numbers_in r)

-- HELD NUMBERS, one more
abbrev pub with_held : List ℕ → ℕ → Bool → List ℕ
with_held held n flag = held ++ (if flag then n ∷ [] else [])

or_nothing : (b : Bool) → (b || false) ≡ b
or_nothing true = refl
or_nothing false = refl

held_before : (held : List ℕ) (n m : ℕ) (flag : Bool) → m < n → holds (with_held held n flag) m ≡ holds held m
held_before held n m true below =
    list_any-append (λ (k : ℕ). k == m) held (n ∷ []) ∙ ap (λ (b : Bool). holds held m || (b || false)) (ne_eqb n m (λ same. omega arith)) ∙ or_nothing (holds held m)
held_before held n m false below = list_any-append (λ (k : ℕ). k == m) held [] ∙ or_nothing (holds held m)

held_now : (held : List ℕ) (n : ℕ) (flag : Bool) → All (λ k. k < n) held → holds (with_held held n flag) n ≡ flag
held_now held n true all =
    list_any-append (λ (k : ℕ). k == n) held (n ∷ []) ∙ ap (λ (b : Bool). b || ((n == n) || false)) (none_beyond n n held all (omega arith)) ∙ ap (λ (b : Bool). false || (b || false)) (eq-eqb n n refl)
held_now held n false all = list_any-append (λ (k : ℕ). k == n) held [] ∙ or_nothing (holds held n) ∙ none_beyond n n held all (omega arith)

rising_push : (xs : List ℕ) (n : ℕ) → IsStrictlyIncreasing xs → All (λ k. k < n) xs → IsStrictlyIncreasing (xs ++ n ∷ [])
rising_push xs n rising all k within = by_place (cases_lt (k + 1) (length xs))
  where
    by_place : (k + 1 < length xs) ⊎ (length xs ≤ k + 1) → slice_index (xs ++ n ∷ []) k < slice_index (xs ++ n ∷ []) (k + 1)
    by_place (inl inside) =
        let one = get_or-append xs (n ∷ []) 0 k (omega arith) in
        let two = get_or-append xs (n ∷ []) 0 (k + 1) inside in
        let less = rising k inside in omega arith
    by_place (inr last) =
        let long = length-append xs (n ∷ []) in
        let at : length xs ≡ k + 1 = omega arith in
        let one = get_or-append xs (n ∷ []) 0 k (omega arith) in
        let two : get_or (xs ++ n ∷ []) (k + 1) 0 ≡ n = ap (λ (m : ℕ). get_or (xs ++ n ∷ []) m 0) (sym at) ∙ get_or-append_seam xs n [] 0 in
        let less : get_or xs k 0 < n = all k 0 (omega arith) in omega arith

rising_with : (held : List ℕ) (n : ℕ) (flag : Bool) → IsStrictlyIncreasing held → All (λ k. k < n) held → IsStrictlyIncreasing (with_held held n flag)
rising_with held n true rising all = rising_push held n rising all
rising_with held n false rising all = subst IsStrictlyIncreasing (sym (append-nil held)) rising

below_with : (held : List ℕ) (n : ℕ) (flag : Bool) → All (λ k. k < n) held → All (λ k. k < n + 1) (with_held held n flag)
below_with held n true all = All-push (λ k. k < n + 1) held n (All-weaker (λ k. k < n) (λ k. k < n + 1) (λ k less. omega arith) held all) (omega arith)
below_with held n false all = subst (All (λ k. k < n + 1)) (sym (append-nil held)) (All-weaker (λ k. k < n) (λ k. k < n + 1) (λ k less. omega arith) held all)

pub one_more_user : (format : Format) (users : List UserRec) (held : List ℕ) (done : List (List ℕ)) (block : List ℕ) (u : UserRec) (flag : Bool) → AreUsersIn format users held done
    → u.number ≡ length users → IsUser format u → block ≡ user_block format (held_byte flag) u → AreUsersIn format (users ++ u ∷ []) (with_held held u.number flag) (done ++ block ∷ [])
one_more_user format users held done block u flag so at is here =
    let n = u.number in
    let below : All (λ k. k < n) held = subst (λ (m : ℕ). All (λ k. k < m) held) (sym at) so.held_users in
    let hs = with_held held n flag in
    let long = length-append users (u ∷ []) in
    record {
      blocks_are =
          ap (λ (l : List (List ℕ)). l ++ block ∷ []) (so.blocks_are ∙ sym (same_map (block_of_user format hs) (block_of_user format held) users (λ i v there.
          let placed = so.numbered i v there in
          let within = slice_get_within users i v there in
          ap (λ (b : Bool). user_block format (held_byte b) v) (held_before held n v.number flag (omega arith)))))
          ∙ ap (λ (b : List ℕ). map (block_of_user format hs) users ++ b ∷ []) (here ∙ ap (λ (b : Bool). user_block format (held_byte b) u) (sym (held_now held n flag below)))
          ∙ sym (map_push_one (block_of_user format hs) users u);
      numbered = λ i v there. by_place i v (get_push users u i v there);
      each = All-push (IsUser format) users u so.each is;
      rising = rising_with held n flag so.rising below;
      held_users = subst (λ (m : ℕ). All (λ k. k < m) hs) (let sum : n + 1 ≡ length (users ++ u ∷ []) = omega arith in sum) (below_with held n flag below);
    }
  where
    by_place : (i : ℕ) (v : UserRec) → (slice_get users i ≡ Some v) ⊎ ((i ≡ length users) × (v ≡ u)) → v.number ≡ i
    by_place i v (inl there) = so.numbered i v there
    by_place i v (inr last) = ap (λ (w : UserRec). w.number) last.1 ∙ at ∙ sym last.0

length-users : (format : Format) (users : List UserRec) (held : List ℕ) (blocks : List (List ℕ)) → AreUsersIn format users held blocks → length blocks ≡ length users
length-users format users held blocks so = ap length so.blocks_are ∙ length-map users (block_of_user format held)

-- the loop: the blocks before i are users'
pub users_next : (format : Format) (users : List UserRec) (held : List ℕ) (blocks : List (List ℕ)) (i : ℕ) (d : List ℕ) (u : UserRec) (flag : Bool) → i < length blocks
    → AreUsersIn format users held (take i blocks) → u.number ≡ i → IsUser format u → get_or blocks i d ≡ user_block format (held_byte flag) u
    → AreUsersIn format (users ++ u ∷ []) (with_held held u.number flag) (take (i + 1) blocks)
users_next format users held blocks i d u flag within so at is here =
    let many = length-users format users held (take i blocks) so in
    let long = length-take-le i blocks (omega arith) in
    subst (λ (l : List (List ℕ)). AreUsersIn format (users ++ u ∷ []) (with_held held u.number flag) l)
    (sym (take_more blocks i d within))
    (one_more_user format users held (take i blocks) (get_or blocks i d) u flag so (omega arith) is here)

-- each block is a user's
pub user_there : (format : Format) (users : List UserRec) (held : List ℕ) (blocks : List (List ℕ)) (i : ℕ) → AreUsersIn format users held blocks → i < length blocks
    → (u : UserRec) × (u.number ≡ i) × IsUser format u × ((d : List ℕ) → get_or blocks i d ≡ user_block format (held_byte (holds held u.number)) u)
user_there format users held blocks i so within =
    let long = length-users format users held blocks so in
    let u = get_or users i nobody in
    let there : slice_get users i ≡ Some u = slice_get-get_or users i nobody (omega arith) in
    let here : slice_get blocks i ≡ Some (block_of_user format held u) =
    ap (λ (l : List (List ℕ)). slice_get l i) so.blocks_are ∙ slice_get-map (block_of_user format held) users i ∙ ap (option_map (block_of_user format held)) there in
    (u, so.numbered i u there, so.each i nobody (omega arith), λ d. get_or_from_slice_get blocks i (block_of_user format held u) d here)

-- the same blocks are of the same users
pub users_are_one : (format : Format) (us vs : List UserRec) (hs ks : List ℕ) (blocks : List (List ℕ)) → AreUsersIn format us hs blocks → AreUsersIn format vs ks blocks → (us ≡ vs) × (hs ≡ ks)
users_are_one format us vs hs ks blocks so too =
    let long : length us ≡ length vs = sym (length-users format us hs blocks so) ∙ length-users format vs ks blocks too in
    let at = at_users format (flag_of hs) (flag_of ks) us vs so.numbered too.numbered so.each too.each long (sym so.blocks_are ∙ too.blocks_are) in (
      same_lists us vs long (λ i d within. (at i d within).0),
      same_held (length us) hs ks so.rising too.rising so.held_users (subst (λ (m : ℕ). All (λ n. n < m) ks) (sym long) too.held_users) (λ n below. (at n nobody below).1),
    )

length-files : (format : Format) (files : List FileRec) (blocks : List (List ℕ)) → AreFilesIn format files blocks → length blocks ≡ length files
length-files format files blocks so = ap length so.blocks_are ∙ length-map files (block_of_file format)

pub files_next : (format : Format) (files : List FileRec) (blocks : List (List ℕ)) (i : ℕ) (d : List ℕ) (r : FileRec) → i < length blocks
    → AreFilesIn format files (take i blocks) → r.number ≡ i → IsFile r → get_or blocks i d ≡ file_block format r (numbers_in r) → AreFilesIn format (files ++ r ∷ []) (take (i + 1) blocks)
files_next format files blocks i d r within so at is here =
    let many = length-files format files (take i blocks) so in
    let long = length-take-le i blocks (omega arith) in
    record {
      blocks_are =
          take_more blocks i d within ∙ ap (λ (l : List (List ℕ)). l ++ get_or blocks i d ∷ []) so.blocks_are
          ∙ ap (λ (b : List ℕ). map (block_of_file format) files ++ b ∷ []) here ∙ sym (map_push_one (block_of_file format) files r);
      numbered = λ j s found. by_place (omega arith) j s (get_push files r j s found);
      each = All-push IsFile files r so.each is;
    }
  where
    by_place : length files ≡ i → (j : ℕ) (s : FileRec) → (slice_get files j ≡ Some s) ⊎ ((j ≡ length files) × (s ≡ r)) → s.number ≡ j
    by_place many j s (inl found) = so.numbered j s found
    by_place many j s (inr last) = ap (λ (t : FileRec). t.number) last.1 ∙ at ∙ sym many ∙ sym last.0

pub file_there : (format : Format) (files : List FileRec) (blocks : List (List ℕ)) (i : ℕ) → AreFilesIn format files blocks → i < length blocks
    → (r : FileRec) × (r.number ≡ i) × IsFile r × ((d : List ℕ) → get_or blocks i d ≡ file_block format r (numbers_in r))
file_there format files blocks i so within =
    let long = length-files format files blocks so in
    let (r, there) = get_some files i (omega arith) in
    let here : slice_get blocks i ≡ Some (block_of_file format r) =
    ap (λ (l : List (List ℕ)). slice_get l i) so.blocks_are ∙ slice_get-map (block_of_file format) files i ∙ ap (option_map (block_of_file format)) there in
    (r, so.numbered i r there, subst IsFile (get_or_from_slice_get files i r r there) (so.each i r (omega arith)), λ d. get_or_from_slice_get blocks i (block_of_file format r) d here)

pub files_are_one : (format : Format) (rs ss : List FileRec) (blocks : List (List ℕ)) → AreFilesIn format rs blocks → AreFilesIn format ss blocks → rs ≡ ss
files_are_one format rs ss blocks so too =
    same_files format rs ss so.numbered too.numbered so.each too.each (sym (length-files format rs blocks so) ∙ length-files format ss blocks too) (sym so.blocks_are ∙ too.blocks_are)

-- The records that were read break a rule, and the blocks are those of no other records.
pub no_records : (serial : ℕ) (h : Header) (us vs : List UserRec) (hs ks : List ℕ) (fs gs : List FileRec) (blocks front back : List (List ℕ)) → AreUsersIn h.format us hs front → AreFilesIn h.format fs back
    → front ≡ take h.note.users blocks → back ≡ drop h.note.users blocks → (KeepRules serial h.note us hs fs → ⊥) → HasRecords serial h vs ks gs blocks → ⊥
no_records serial h us vs hs ks fs gs blocks front back users files front_is back_is broken has =
    let same = users_are_one h.format vs us ks hs front (subst (AreUsersIn h.format vs ks) (sym front_is) has.front) users in
    let same_f = files_are_one h.format gs fs back (subst (AreFilesIn h.format gs) (sym back_is) has.back) files in
    broken (subst (λ (l : List FileRec). KeepRules serial h.note us hs l) same_f (subst (λ (l : List ℕ). KeepRules serial h.note us l gs) same.1 (subst (λ (l : List UserRec). KeepRules serial h.note l ks gs) same.0 has.rules)))
