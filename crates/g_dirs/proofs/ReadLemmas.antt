-- What holds for a slot after its first blocks were read.
-- serves: file_in (again), read_dirs (none, ok, records), read_files (none, ok), read_users (none), user_in (again, found)
use Rattle.std.proofs.Common.{◌≡◌, ◌≢◌, ℕ, zero, suc, ◌+◌, ◌<◌, ◌≤◌, Bool, true, false, cond, List, [], ◌∷◌, ◌++◌, length, Option, Some, None, map, refl, sym, ap, ◌∙◌, subst, inl, inr, arith, eqb, below_more}
use Rattle.std.specs.Prelude.{replicate, find, slice_get, IfSome, IsTrue, All, AllPairs, Contains, option_map}
use Rattle.std.specs.Option.{ForSome, option_to_list}
use Rattle.std.proofs.lemmas.Bool.{cases_lt, eq-eqb, ne_eqb}
use Rattle.std.proofs.lemmas.List.{append-nil, length_push, map_push}
use Rattle.std.proofs.lemmas.List.Elements.{All-append, All-head, All-map, All-nil, All-tail, All-push, All-weaker, Contains-push, Contains-append_left, recursion_from_All}
use Rattle.std.proofs.lemmas.Bool.Decides.{nat_tests}
use Rattle.std.proofs.lemmas.List.Sums.{AllPass-from_list_all}
use Rattle.std.proofs.lemmas.List.Quantifiers.{all_pairs_push}
use Rattle.std.proofs.lemmas.Option.{slice_get_past, slice_get_within, same_Some, get_or_from_slice_get}
use Rattle.g_copy.specs.declared.copy.DiscCopy.{DiscCopy}
use Rattle.g_disc.specs.Disc.{DiscState, ReadsByCause}
use Rattle.g_disc.proofs.CallLemmas.{ReadsByCause-then}
use Rattle.g_entry.specs.declared.file_rec.FileRec.{FileRec}
use Rattle.g_entry.specs.declared.format.Format.{Format}
use Rattle.g_entry.specs.declared.head.Head.{Head}
use Rattle.g_entry.specs.declared.user_rec.UserRec.{UserRec}
use Rattle.g_entry.specs.FileFields.{ArePlaces, IsFile, file_block}
use Rattle.g_entry.specs.declared.format.Format.TheVariants.{One, Two}
use Rattle.g_entry.specs.Formats.{is_place}
use Rattle.g_entry.specs.HeadFields.{IsHead}
use Rattle.g_entry.specs.Rules.{AreNumbered}
use Rattle.g_entry.specs.UserFields.{IsUser, user_block}
use Rattle.g_entry.proofs.OneEncoding.{file_used, user_used}
use Rattle.g_slots.specs.Layout.{current}
use Rattle.g_dirs.specs.Directory.{AreCopies, AreRecords, Directory, FileEntry, IsDirectory, all_places, places_of, copy_at, entries_of}
use Rattle.g_dirs.specs.Image.{StandsFor, entry_at, file_or_empty, user_or_empty}
use Rattle.g_dirs.specs.Parts.{AreInOrder, HoldsFiles, HoldsHead, HoldsUsers, IsEntry}
use Rattle.g_dirs.proofs.Parts.{entry_is, files_again, head_again, parts_of_stands, stands_from_parts, users_again}
use Rattle.g_dirs.specs.Reading.{FileCell, IsFileCell, IsUserCell, TakesFile, TakesUser, copies_in, copies_of, recs_in}
use Rattle.g_dirs.proofs.CopyLemmas.{recs-entries}

module _ (format : Format) (number : ℕ) (block : List ℕ) where
  pub user_unused : block ≡ replicate 512 0 → IsUserCell format number block None
  unfolding user_or_empty
  user_unused is = record { user = tt; block_is = is }

  pub user_holds : (u : UserRec) → (u.number ≡ number) × IsUser format u × (block ≡ user_block format 0 u) → IsUserCell format number block (Some u)
  unfolding user_or_empty
  user_holds u is = record { user = (is.0, is.1); block_is = is.2 }

  pub user_unused_again : block ≡ replicate 512 0 → (cell : Option UserRec) → IsUserCell format number block cell → None ≡ cell
  unfolding user_or_empty
  user_unused_again is None holds = refl
  user_unused_again is (Some u) holds = absurd (user_used format u (sym holds.block_is ∙ is))

  pub user_used_again : (found : Option UserRec) → (block ≡ replicate 512 0 → IsTrue false)
      → ((r : UserRec) → r.number ≡ number → IsUser format r → block ≡ user_block format 0 r → found ≡ Some r)
      → (cell : Option UserRec) → IsUserCell format number block cell → found ≡ cell
  unfolding user_or_empty
  user_used_again found used again None holds = (let unused = used holds.block_is in cc)
  user_used_again found used again (Some r) holds = again r holds.user.0 holds.user.1 holds.block_is

  pub user_in_none : (block ≡ replicate 512 0 → IsTrue false)
      → ((r : UserRec) → r.number ≡ number → IsUser format r → block ≡ user_block format 0 r → (let none : Option UserRec = None in none ≡ Some r))
      → (cell : Option UserRec) → IsUserCell format number block cell → ⊥
  unfolding user_or_empty
  user_in_none used again None holds = let unused = used holds.block_is in cc
  user_in_none used again (Some r) holds = let none_some = again r holds.user.0 holds.user.1 holds.block_is in cc

  pub file_used_again : (found : Option FileCell) → (block ≡ replicate 512 0 → IsTrue false)
      → ((r : FileRec) (places : Option (List ℕ)) → r.number ≡ number → IsFile r → IfSome places (ArePlaces format r.len) → block ≡ file_block format r places → found ≡ Some (r, places))
      → (cell : Option FileCell) → IsFileCell format number block cell → found ≡ cell
  file_used_again found used again None holds = (let unused = used holds.block_is in cc)
  file_used_again found used again (Some (r, places)) holds = again r places holds.file.0 holds.file.1 holds.file.2 holds.block_is

  pub file_in_none : (block ≡ replicate 512 0 → IsTrue false)
      → ((r : FileRec) (places : Option (List ℕ)) → r.number ≡ number → IsFile r → IfSome places (ArePlaces format r.len) → block ≡ file_block format r places → (let none : Option FileCell = None in none ≡ Some (r, places)))
      → (cell : Option FileCell) → IsFileCell format number block cell → ⊥
  file_in_none used again None holds = let unused = used holds.block_is in cc
  file_in_none used again (Some (r, places)) holds = let none_some = again r places holds.file.0 holds.file.1 holds.file.2 holds.block_is in cc

  pub file_unused_again : block ≡ replicate 512 0 → (cell : Option FileCell) → IsFileCell format number block cell → None ≡ cell
  file_unused_again is None holds = refl
  file_unused_again is (Some (r, places)) holds = absurd (file_used format r places (sym holds.block_is ∙ is))

-- READS, one after another

-- LISTS

slice_get-before : {X : Type 0} (xs ys : List X) (k : ℕ) → k < length xs → slice_get (xs ++ ys) k ≡ slice_get xs k
slice_get-before [] ys k within = absurd (omega (arith, within))
slice_get-before (x ∷ xs) ys zero within = refl
slice_get-before (x ∷ xs) ys (suc k) within = slice_get-before xs ys k (omega (arith, within))

slice_get-push : {X : Type 0} (xs : List X) (x : X) (k : ℕ) → length xs ≡ k → slice_get (xs ++ x ∷ []) k ≡ Some x
slice_get-push [] x zero long = refl
slice_get-push [] x (suc k) long = absurd (omega (arith, long))
slice_get-push (y ∷ xs) x zero long = absurd (omega (arith, long))
slice_get-push (y ∷ xs) x (suc k) long = slice_get-push xs x k (omega (arith, long))

none_past : {X : Type 0} (xs : List X) (k : ℕ) → slice_get xs k ≡ None → length xs ≤ k
none_past [] k none = omega arith
none_past (x ∷ xs) zero none = cc
none_past (x ∷ xs) (suc k) none = let rest = none_past xs k none in omega (arith, rest)

module _ {X : Type 0} (p : X → Bool) where
  find-none : (xs : List X) → All (λ x. p x ≡ false) xs → find p xs ≡ None
  find-none [] all = refl
  find-none (x ∷ xs) all = let P : X → Type 0 = λ y. p y ≡ false in rw (All-head P x xs all) (find-none xs (All-tail P x xs all))

  find-other : (xs : List X) (y : X) → p y ≡ false → find p (xs ++ y ∷ []) ≡ find p xs
  find-other [] y not_it = rw not_it refl
  find-other (x ∷ xs) y not_it = ap (λ (o : Option X). cond (p x) (Some x) o) (find-other xs y not_it)

  find-last : (xs : List X) (y : X) → All (λ x. p x ≡ false) xs → p y ≡ true → find p (xs ++ y ∷ []) ≡ Some y
  find-last [] y all it = rw it refl
  find-last (x ∷ xs) y all it = let P : X → Type 0 = λ z. p z ≡ false in rw (All-head P x xs all) (find-last xs y (All-tail P x xs all) it)

-- USERS

user_or_empty-unused : (format : Format) (o : Option UserRec) → user_or_empty format o ≡ replicate 512 0 → o ≡ None
unfolding user_or_empty
user_or_empty-unused format None is = refl
user_or_empty-unused format (Some u) is = absurd (user_used format u is)

user_or_empty-none : (format : Format) → user_or_empty format None ≡ replicate 512 0
unfolding user_or_empty
user_or_empty-none format = refl

-- users in order, with each below n in its block
pub record UsersRead (format : Format) (n : ℕ) (users : List UserRec) (before after : DiscState) : Type 0 where
  pub counts : ReadsByCause ⊥ before after
  pub few : length users ≤ n
  pub in_order : (i : ℕ) (u : UserRec) → slice_get users i ≡ Some u → u.number ≡ i
  pub limits : All (IsUser format) users
  pub here : ForSome before.held (λ blocks. (k : ℕ) → k < n → slice_get (current blocks) (1 + k) ≡ Some (user_or_empty format (slice_get users k)))

numbered_more : (users : List UserRec) (u : UserRec) (n : ℕ) → ((i : ℕ) (v : UserRec) → slice_get users i ≡ Some v → v.number ≡ i) → length users ≡ n → u.number ≡ n
    → (i : ℕ) (v : UserRec) → slice_get (users ++ u ∷ []) i ≡ Some v → v.number ≡ i
numbered_more users u n all long here i v there =
    elim (cases_lt i n) [
      | inl before ↦ all i v (sym (slice_get-before users (u ∷ []) i (omega (arith, long, before))) ∙ there)
      | inr behind ↦
          let within : i < length (users ++ u ∷ []) = slice_get_within (users ++ u ∷ []) i v there in
          let at : n ≡ i = omega (arith, length_push users u, within, behind, long) in
          let same : u ≡ v = same_Some u v (sym (slice_get-push users u i (long ∙ at)) ∙ there) in
          ap (λ (w : UserRec). w.number) (sym same) ∙ here ∙ at
    ]

abbrev UserHere : Format → List UserRec → List (List ℕ) → ℕ → Type 0
UserHere format users blocks k = slice_get (current blocks) (1 + k) ≡ Some (user_or_empty format (slice_get users k))

module _ (format : Format) (n : ℕ) (block : List ℕ) (users : List UserRec) (before after : DiscState) where
  users_unused : ReadsByCause ⊥ before after → UsersRead format n users before after → ForSome before.held (λ blocks. slice_get (current blocks) (1 + n) ≡ Some block)
      → block ≡ user_or_empty format None → UsersRead format (n + 1) users before after
  users_unused counts so here holds = record {
    counts = counts;
    few = let few_are = so.few in omega arith;
    in_order = so.in_order;
    limits = so.limits;
    here = λ blocks told. below_more (UserHere format users blocks) n (so.here blocks told) (rw (slice_get_past users n so.few) (here blocks told ∙ ap Some holds));
  }

  users_used : (u : UserRec) → UsersRead format n users before after → ForSome before.held (λ blocks. slice_get (current blocks) (1 + n) ≡ Some block)
      → (u.number ≡ n) × IsUser format u → block ≡ user_or_empty format (Some u) → length users ≡ n → UsersRead format (n + 1) (users ++ u ∷ []) before after
  users_used u so here is holds long = record {
    counts = so.counts;
    few = omega (arith, length_push users u, long);
    in_order = numbered_more users u n so.in_order long is.0;
    limits = All-push (IsUser format) users u so.limits is.1;
    here = λ blocks told. below_more (UserHere format (users ++ u ∷ []) blocks) n
        (λ k below. rw (slice_get-before users (u ∷ []) k (omega (arith, long, below))) (so.here blocks told k below))
        (rw (slice_get-push users u n long) (here blocks told ∙ ap Some holds));
  }

module _ (format : Format) (n : ℕ) (users : List UserRec) (before mid : DiscState) where
  users_later : (after : DiscState) → UsersRead format n users before mid → ReadsByCause ⊥ mid after → UsersRead format n users before after
  users_later after so counts = record { counts = ReadsByCause-then (λ none. none) so.counts counts; few = so.few; in_order = so.in_order; limits = so.limits; here = so.here }

  users_more_at : (block : List ℕ) (after : DiscState) (new : List UserRec) (cell : Option UserRec) → UsersRead format n users before after
      → ForSome before.held (λ blocks. slice_get (current blocks) (1 + n) ≡ Some block)
      → IsUserCell format n block cell → IfSome cell (λ u. length users ≡ n) → new ≡ users ++ option_to_list cell → UsersRead format (n + 1) new before after
  users_more_at block after new None so here holds next added =
      rw (added ∙ append-nil users) (users_unused format n block users before after so.counts so here holds.block_is)
  users_more_at block after new (Some u) so here holds next added =
      rw added (users_used format n block users before after u so here holds.user holds.block_is next)

  pub users_more : (block : List ℕ) (after : DiscState) (new : List UserRec) → UsersRead format n users before mid → ReadsByCause ⊥ mid after
      → ForSome mid.held (λ blocks. slice_get (current blocks) (1 + n) ≡ Some block) → TakesUser format n block users new → UsersRead format (n + 1) new before after
  users_more block after new so counts read takes =
      users_more_at block after new takes.cell (users_later after so counts) (λ blocks told. read blocks (so.counts.held ∙ told)) takes.holds takes.next takes.added

  -- what the blocks up to n say about any users that they encode
  user_cell_of : (vs : List UserRec) (block : List ℕ) (o : Option UserRec) → AreInOrder format vs → slice_get vs n ≡ o → block ≡ user_or_empty format o → IsUserCell format n block o
  user_cell_of vs block None are at is = record { user = tt; block_is = is }
  user_cell_of vs block (Some u) are at is = record {
    user = (are.numbered n u at, rw (← get_or_from_slice_get vs n u u at) (are.limits n u (slice_get_within vs n u at)));
    block_is = is;
  }

  pub users_stopped : (block : List ℕ) → n < 63 → UsersRead format n users before mid → ForSome mid.held (λ blocks. slice_get (current blocks) (1 + n) ≡ Some block)
      → ((cell : Option UserRec) → IsUserCell format n block cell → (user : UserRec) × (cell ≡ Some user) × (length users ≢ n))
      → ForSome before.held (λ blocks. (vs : List UserRec) → HoldsUsers format vs (current blocks) → ⊥)
  users_stopped block below so read nothing = λ blocks told vs holds.
      let is : block ≡ user_or_empty format (slice_get vs n) = same_Some _ _ (sym (read blocks (so.counts.held ∙ told)) ∙ holds.block n below) in
      let used = nothing (slice_get vs n) (user_cell_of vs block (slice_get vs n) holds.are refl is) in
      let m : ℕ = length users in
      let gap : m < n = let few_are = so.few in let other = used.2 in omega arith in
      let unused : user_or_empty format None ≡ user_or_empty format (slice_get vs m) =
      rw (slice_get_past users m (omega arith)) at (same_Some _ _ (sym (so.here blocks told m gap) ∙ holds.block m (omega arith))) in
      let past : length vs ≤ m = none_past vs m (user_or_empty-unused format (slice_get vs m) (sym unused ∙ user_or_empty-none format)) in
      let within : n < length vs = slice_get_within vs n used.0 used.1 in
      omega arith

-- FILES

abbrev Copies : Type 0
Copies = List (ℕ × DiscCopy)

abbrev copy : ℕ × DiscCopy → DiscCopy
copy c = c.1

copy_at-other : (online : Copies) (c : ℕ × DiscCopy) (k : ℕ) → c.0 ≢ k → copy_at (online ++ c ∷ []) k ≡ copy_at online k
copy_at-other online c k other = ap (option_map copy) (find-other (λ d. eqb d.0 k) online c (ne_eqb c.0 k other))

copy_at-last : (online : Copies) (n : ℕ) (d : DiscCopy) → All (λ c. c.0 < n) online → copy_at (online ++ (n, d) ∷ []) n ≡ Some d
copy_at-last online n d below =
    ap (option_map copy) (find-last (λ c. eqb c.0 n) online (n, d) (λ k e within. let less = below k e within in ne_eqb _ n (omega (arith, less))) (eq-eqb n n refl))

copy_at-none : (online : Copies) (n : ℕ) → All (λ c. c.0 < n) online → copy_at online n ≡ None
copy_at-none online n below =
    ap (option_map copy) (find-none (λ c. eqb c.0 n) online (λ k e within. let less = below k e within in ne_eqb _ n (omega (arith, less))))

abbrev IsBelow : ℕ → FileRec → Type 0
IsBelow n r = r.number < n

entries_kept : (files : List FileRec) (online : Copies) (c : ℕ × DiscCopy) → All (IsBelow c.0) files → entries_of files (online ++ c ∷ []) ≡ entries_of files online
entries_kept [] online c below = refl
entries_kept (r ∷ files) online c below =
    let first : r.number < c.0 = All-head (IsBelow c.0) r files below in
    let same : copy_at (online ++ c ∷ []) r.number ≡ copy_at online r.number = copy_at-other online c r.number (omega (arith, first)) in
    rw same (ap (λ (es : List FileEntry). (r, copy_at online r.number) ∷ es) (entries_kept files online c (All-tail (IsBelow c.0) r files below)))

entries_push : (files : List FileRec) (online : Copies) (r : FileRec) → entries_of (files ++ r ∷ []) online ≡ entries_of files online ++ (r, copy_at online r.number) ∷ []
entries_push files online r = map_push (λ s. (s, copy_at online s.number)) files r

-- the entries, with each below n in its block
pub record EntriesRead (format : Format) (n : ℕ) (entries : List FileEntry) (before : DiscState) : Type 0 where
  pub below : All (λ f. f.0.number < n) entries
  pub good : All (IsEntry format) entries
  pub here : ForSome before.held (λ blocks. (k : ℕ) → k < n → slice_get (current blocks) (64 + k) ≡ Some (file_or_empty format (entry_at entries k)))

abbrev FileHere : Format → List FileEntry → List (List ℕ) → ℕ → Type 0
FileHere format entries blocks k = slice_get (current blocks) (64 + k) ≡ Some (file_or_empty format (entry_at entries k))

module _ (format : Format) (n : ℕ) (block : List ℕ) (entries : List FileEntry) (before : DiscState) where
  others : EntriesRead format n entries before → All (λ f. eqb f.0.number n ≡ false) entries
  others so = λ k e within. let less = so.below k e within in ne_eqb _ n (omega (arith, less))

  entries_unused : EntriesRead format n entries before → ForSome before.held (λ blocks. slice_get (current blocks) (64 + n) ≡ Some block)
      → block ≡ file_or_empty format None → EntriesRead format (n + 1) entries before
  entries_unused so read is = record {
    below = λ k e within. let less = so.below k e within in omega (arith, less);
    good = so.good;
    here = λ blocks told. below_more (FileHere format entries blocks) n (so.here blocks told)
        (rw (find-none (λ f. eqb f.0.number n) entries (others so)) (read blocks told ∙ ap Some is));
  }

  entries_used : (e : FileEntry) → EntriesRead format n entries before → ForSome before.held (λ blocks. slice_get (current blocks) (64 + n) ≡ Some block)
      → e.0.number ≡ n → IsEntry format e → block ≡ file_or_empty format (Some e) → EntriesRead format (n + 1) (entries ++ e ∷ []) before
  entries_used e so read numbered good is = record {
    below = All-push (λ f. f.0.number < n + 1) entries e (λ k d within. let less = so.below k d within in omega (arith, less)) (omega (arith, numbered));
    good = All-push (IsEntry format) entries e so.good good;
    here = λ blocks told. below_more (FileHere format (entries ++ e ∷ []) blocks) n
        (λ k less. rw (find-other (λ f. eqb f.0.number k) entries e (ne_eqb e.0.number k (omega (arith, numbered, less)))) (so.here blocks told k less))
        (rw (find-last (λ f. eqb f.0.number n) entries e (others so) (eq-eqb e.0.number n numbered)) (read blocks told ∙ ap Some is));
  }

-- files and their copies, with each below n in its block
pub record FilesRead (format : Format) (n : ℕ) (files : List FileRec) (online : List (ℕ × DiscCopy)) (before after : DiscState) : Type 0 where
  pub counts : ReadsByCause ⊥ before after
  pub rising : AllPairs (λ r s. r.number < s.number) files
  pub below : All (λ r. r.number < n) files
  pub copies : AreCopies files online
  pub copies_below : All (λ c. c.0 < n) online
  pub entries : EntriesRead format n (entries_of files online) before

abbrev numbers : List FileRec → List ℕ
numbers files = map (λ r. r.number) files

numbers_kept : (files : List FileRec) (r : FileRec) (k : ℕ) → Contains (numbers files) k → Contains (numbers (files ++ r ∷ [])) k
numbers_kept files r k there = let is = map_push (λ (s : FileRec). s.number) files r in rw is (Contains-append_left (numbers files) (r.number ∷ []) k there)

numbers_push : (files : List FileRec) (r : FileRec) → Contains (numbers (files ++ r ∷ [])) r.number
numbers_push files r = let is = map_push (λ (s : FileRec). s.number) files r in rw is (Contains-push (numbers files) r.number)

copies_kept : (files : List FileRec) (online : Copies) (r : FileRec) → AreCopies files online → AreCopies (files ++ r ∷ []) online
copies_kept files online r so = record { rising = so.rising; files_are = λ k d within. numbers_kept files r _ (so.files_are k d within) }

copies_push : (files : List FileRec) (online : Copies) (r : FileRec) (d : DiscCopy) → AreCopies files online → All (λ c. c.0 < r.number) online
    → AreCopies (files ++ r ∷ []) (online ++ (r.number, d) ∷ [])
copies_push files online r d so below = record {
  rising = all_pairs_push (λ c e. c.0 < e.0) online (r.number, d) so.rising below;
  files_are = All-push (λ c. Contains (numbers (files ++ r ∷ [])) c.0) online (r.number, d) (λ k e within. numbers_kept files r _ (so.files_are k e within)) (numbers_push files r);
}

-- the entry of a block's file
abbrev entry_of : FileCell → FileEntry
entry_of (rec, places) = (rec, option_map (λ ks. let made : DiscCopy = record { blocks = ks; len = rec.len } in made) places)

entry_good : (format : Format) (n : ℕ) (block : List ℕ) (rec : FileRec) (places : Option (List ℕ)) → IsFileCell format n block (Some (rec, places)) → IsEntry format (entry_of (rec, places))
entry_good format n block rec None holds = record { file = holds.file.1; places = tt; len = tt }
entry_good format n block rec (Some ks) holds = record { file = holds.file.1; places = holds.file.2; len = refl }

entry_block : (format : Format) (n : ℕ) (block : List ℕ) (rec : FileRec) (places : Option (List ℕ)) → IsFileCell format n block (Some (rec, places)) → block ≡ file_or_empty format (Some (entry_of (rec, places)))
unfolding file_or_empty
entry_block format n block rec None holds = holds.block_is
entry_block format n block rec (Some ks) holds = holds.block_is

unused_block : (format : Format) (n : ℕ) (block : List ℕ) → IsFileCell format n block None → block ≡ file_or_empty format None
unfolding file_or_empty
unused_block format n block holds = holds.block_is

module _ (format : Format) (n : ℕ) (block : List ℕ) (files : List FileRec) (online : List (ℕ × DiscCopy)) (before after : DiscState) where
  abbrev BlockRead : Type 0
  BlockRead = ForSome before.held (λ blocks. slice_get (current blocks) (64 + n) ≡ Some block)

  files_unused : FilesRead format n files online before after → BlockRead → IsFileCell format n block None → FilesRead format (n + 1) files online before after
  files_unused so read holds = record {
    counts = so.counts;
    rising = so.rising;
    below = λ k d within. let less = so.below k d within in omega (arith, less);
    copies = so.copies;
    copies_below = λ k d within. let less = so.copies_below k d within in omega (arith, less);
    entries = entries_unused format n block (entries_of files online) before so.entries read (unused_block format n block holds);
  }

  rising_push : (r : FileRec) → FilesRead format n files online before after → r.number ≡ n → AllPairs (λ s t. s.number < t.number) (files ++ r ∷ [])
  rising_push r so at = all_pairs_push (λ s t. s.number < t.number) files r so.rising (λ k d within. rw at (so.below k d within))

  below_push : (r : FileRec) → FilesRead format n files online before after → r.number ≡ n → All (λ s. s.number < n + 1) (files ++ r ∷ [])
  below_push r so at = All-push (λ s. s.number < n + 1) files r (λ k d within. let less = so.below k d within in omega (arith, less)) (omega (arith, at))

  files_offline : (r : FileRec) → FilesRead format n files online before after → BlockRead → IsFileCell format n block (Some (r, None)) → FilesRead format (n + 1) (files ++ r ∷ []) online before after
  files_offline r so read holds =
      let at : r.number ≡ n = holds.file.0 in
      let no_copy : copy_at online r.number ≡ None = rw at (copy_at-none online n so.copies_below) in
      let entries_are : entries_of (files ++ r ∷ []) online ≡ entries_of files online ++ (r, None) ∷ [] = rw (← no_copy) (entries_push files online r) in record {
        counts = so.counts;
        rising = rising_push r so at;
        below = below_push r so at;
        copies = copies_kept files online r so.copies;
        copies_below = λ k d within. let less = so.copies_below k d within in omega (arith, less);
        entries = rw entries_are (entries_used format n block (entries_of files online) before (r, None) so.entries read at (entry_good format n block r None holds) (entry_block format n block r None holds));
      }

  files_online : (r : FileRec) (ks : List ℕ) → FilesRead format n files online before after → BlockRead → IsFileCell format n block (Some (r, Some ks))
      → FilesRead format (n + 1) (files ++ r ∷ []) (online ++ copies_in r (Some ks)) before after
  files_online r ks so read holds =
      let at : r.number ≡ n = holds.file.0 in
      let d : DiscCopy = record { blocks = ks; len = r.len } in
      let copies_below : All (λ c. c.0 < r.number) online = rw at so.copies_below in
      let here : copy_at (online ++ (r.number, d) ∷ []) r.number ≡ Some d = copy_at-last online r.number d copies_below in
      let below_r : All (IsBelow r.number) files = rw at so.below in
      let kept : entries_of files (online ++ (r.number, d) ∷ []) ≡ entries_of files online = entries_kept files online (r.number, d) below_r in
      let entries_are : entries_of (files ++ r ∷ []) (online ++ (r.number, d) ∷ []) ≡ entries_of files online ++ (r, Some d) ∷ [] =
      entries_push files (online ++ (r.number, d) ∷ []) r ∙ ap (λ (es : List FileEntry). es ++ (r, copy_at (online ++ (r.number, d) ∷ []) r.number) ∷ []) kept
      ∙ ap (λ (o : Option DiscCopy). entries_of files online ++ (r, o) ∷ []) here in record {
        counts = so.counts;
        rising = rising_push r so at;
        below = below_push r so at;
        copies = copies_push files online r d so.copies copies_below;
        copies_below = All-push (λ c. c.0 < n + 1) online (r.number, d) (λ k e within. let less = so.copies_below k e within in omega (arith, less)) (omega (arith, at));
        entries = rw entries_are (entries_used format n block (entries_of files online) before (r, Some d) so.entries read at (entry_good format n block r (Some ks) holds) (entry_block format n block r (Some ks) holds));
      }

  files_more_at : (new : List FileRec) (new_online : List (ℕ × DiscCopy)) (cell : Option FileCell) → FilesRead format n files online before after → BlockRead
      → IsFileCell format n block cell → new ≡ files ++ recs_in cell → new_online ≡ online ++ copies_of cell → FilesRead format (n + 1) new new_online before after
  files_more_at new new_online None so read holds added copied =
      rw (added ∙ append-nil files, copied ∙ append-nil online) (files_unused so read holds)
  files_more_at new new_online (Some (r, None)) so read holds added copied =
      rw (added, copied ∙ append-nil online) (files_offline r so read holds)
  files_more_at new new_online (Some (r, Some ks)) so read holds added copied =
      rw (added, copied) (files_online r ks so read holds)

-- what the block of a file number says about any files that it belongs to
cell_of : Option FileEntry → Option FileCell
cell_of = option_map (λ f. (f.0, option_map (λ c. c.blocks) f.1))

file_cell_of : (format : Format) (n : ℕ) (block : List ℕ) (o : Option FileEntry) → IfSome o (λ f. IsEntry format f × (f.0.number ≡ n)) → block ≡ file_or_empty format o → IsFileCell format n block (cell_of o)
unfolding cell_of file_or_empty
file_cell_of format n block None is here = record { file = tt; block_is = here }
file_cell_of format n block (Some (rec, copy)) is here = record { file = (is.1, is.0.file, is.0.places); block_is = here }

module _ (format : Format) (n : ℕ) (files : List FileRec) (online : List (ℕ × DiscCopy)) (before mid : DiscState) where
  files_later : (after : DiscState) → FilesRead format n files online before mid → ReadsByCause ⊥ mid after → FilesRead format n files online before after
  files_later after so counts = record {
    counts = ReadsByCause-then (λ none. none) so.counts counts;
    rising = so.rising;
    below = so.below;
    copies = so.copies;
    copies_below = so.copies_below;
    entries = so.entries;
  }

  pub files_more : (block : List ℕ) (after : DiscState) (new : List FileRec) (new_online : List (ℕ × DiscCopy)) → FilesRead format n files online before mid → ReadsByCause ⊥ mid after
      → ForSome mid.held (λ blocks. slice_get (current blocks) (64 + n) ≡ Some block) → TakesFile format n block files new online new_online → FilesRead format (n + 1) new new_online before after
  files_more block after new new_online so counts read takes =
      files_more_at format n block files online before after new new_online takes.cell (files_later after so counts) (λ blocks told. read blocks (so.counts.held ∙ told)) takes.holds takes.added takes.copies

  pub files_stopped : (block : List ℕ) → n < 1024 → FilesRead format n files online before mid → ForSome mid.held (λ blocks. slice_get (current blocks) (64 + n) ≡ Some block)
      → ((cell : Option FileCell) → IsFileCell format n block cell → ⊥)
      → ForSome before.held (λ blocks. (xs : List FileEntry) → HoldsFiles format xs (current blocks) → ⊥)
  files_stopped block below so read nothing = λ blocks told xs holds.
      let is : block ≡ file_or_empty format (entry_at xs n) = same_Some _ _ (sym (read blocks (so.counts.held ∙ told)) ∙ holds.block n below) in
      nothing (cell_of (entry_at xs n)) (file_cell_of format n block (entry_at xs n) (entry_is format xs (recursion_from_All (IsEntry format) xs holds.entries) n) is)

-- after the last block
pub files_numbered : (format : Format) (n : ℕ) (files : List FileRec) (online : List (ℕ × DiscCopy)) (before after : DiscState) → n ≤ 1024 → FilesRead format n files online before after → AreNumbered files
files_numbered format n files online before after most so = record { rising = so.rising; below = λ k d within. let less = so.below k d within in omega (arith, less) }

pub files_all : (format : Format) (n : ℕ) (files : List FileRec) (online : List (ℕ × DiscCopy)) (before after : DiscState) → n ≤ 1024 → 1024 ≤ n → FilesRead format n files online before after
    → ForSome before.held (λ blocks. HoldsFiles format (entries_of files online) (current blocks))
files_all format n files online before after most least so = λ blocks told. record {
  numbered = rw (recs-entries files online) (files_numbered format n files online before after most so);
  entries = so.entries.good;
  block = λ k below. so.entries.here blocks told k (omega arith);
}

-- THE DIRECTORY

-- the parts that were read, and whether they satisfy the rules
module _ (format : Format) (d : Directory) (size : ℕ) (blocks : List (List ℕ)) where
  pub directory_read : HoldsHead format d.head (current blocks) → HoldsUsers format d.users (current blocks) → HoldsFiles format d.files (current blocks)
      → length blocks ≡ size → IsDirectory size d → StandsFor blocks d
  directory_read head users files long rules =
      stands_from_parts format blocks d (record { head = head; users = users; files = files }) (rw long rules)

  pub rules_broken : HoldsHead format d.head (current blocks) → HoldsUsers format d.users (current blocks) → HoldsFiles format d.files (current blocks)
      → length blocks ≡ size → (IsDirectory size d → IsTrue false) → (e : Directory) → StandsFor blocks e → ⊥
  rules_broken head users files long broken e stands =
      let parts = parts_of_stands blocks e stands in
      let heads = head_again parts.1.head head in
      let same_head = heads.1 in
      let same_users = users_again (rw heads.0 at parts.1.users) users in
      let same_files = files_again (rw heads.0 at parts.1.files) files in
      let x : Directory = record { head = e.head; users = e.users; files = e.files } in
      let y : Directory = record { head = d.head; users = d.users; files = d.files } in
      let same : x ≡ y = cc in
      let kept : IsDirectory size e = rw (← long) stands.rules in
      let never = broken (subst (IsDirectory size) same kept) in
      cc

pub no_head : (blocks : List (List ℕ)) → ((format : Format) (head : Head) → HoldsHead format head (current blocks) → ⊥) → (e : Directory) → StandsFor blocks e → ⊥
no_head blocks nothing e stands = let parts = parts_of_stands blocks e stands in nothing parts.0 e.head parts.1.head

pub no_users : (format : Format) (head : Head) (blocks : List (List ℕ)) → HoldsHead format head (current blocks)
    → ((users : List UserRec) → HoldsUsers format users (current blocks) → ⊥) → (e : Directory) → StandsFor blocks e → ⊥
no_users format head blocks is nothing e stands =
    let parts = parts_of_stands blocks e stands in nothing e.users (rw (head_again parts.1.head is).0 at parts.1.users)

pub no_files : (format : Format) (head : Head) (blocks : List (List ℕ)) → HoldsHead format head (current blocks)
    → ((files : List FileEntry) → HoldsFiles format files (current blocks) → ⊥) → (e : Directory) → StandsFor blocks e → ⊥
no_files format head blocks is nothing e stands =
    let parts = parts_of_stands blocks e stands in nothing e.files (rw (head_again parts.1.head is).0 at parts.1.files)

-- what can be encoded in a format can be encoded in the second

user_later : (format : Format) (u : UserRec) → IsUser format u → IsUser Two u
user_later One u is = let money_is = is.money in record { user = is.user; space = is.space; time = is.time; money = omega (arith, money_is) }
user_later Two u is = is

place_later : (format : Format) (k : ℕ) → is_place format k ≡ true → is_place Two k ≡ true
place_later One k is = grind (arith, nat_tests)
place_later Two k is = is

abbrev HasPlace : ℕ → Type 0
HasPlace k = is_place Two k ≡ true

places_in : (format : Format) (f : FileEntry) → IsEntry format f → All HasPlace (places_of f)
places_in format (rec, None) is = All-nil HasPlace
places_in format (rec, Some d) is =
    All-weaker (λ k. is_place format k ≡ true) HasPlace (place_later format) d.blocks (AllPass-from_list_all (is_place format) d.blocks is.places.each)

places_later : (format : Format) (files : List FileEntry) → All (IsEntry format) files → All HasPlace (all_places files)
places_later format [] all = All-nil HasPlace
places_later format (f ∷ files) all =
    All-append HasPlace (places_of f) (all_places files) (places_in format f (All-head (IsEntry format) f files all)) (places_later format files (All-tail (IsEntry format) f files all))

pub records_read : (format : Format) (d : Directory) → IsHead d.head → AreInOrder format d.users → All (IsEntry format) d.files → AreRecords Two d
records_read format d head users files = record {
  head = head;
  users = All-weaker (IsUser format) (IsUser Two) (user_later format) d.users users.limits;
  files = All-map IsFile (λ (f : FileEntry). f.0) d.files (All-weaker (IsEntry format) (λ f. IsFile f.0) (λ f is. is.file) d.files files);
  places = places_later format d.files files;
}
