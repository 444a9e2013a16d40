-- What a filestore is at its beginning.
-- serves: begin (tied), find (none), numbers_of, read_filestore (none, ok), write_filestore (ok, stopped, survives)
use Rattle.std.proofs.Common.{◌≡◌, ◌≢◌, ℕ, zero, suc, ◌+◌, ◌<◌, ◌≤◌, ◌==◌, Bool, true, false, ◌||◌, List, [], ◌∷◌, ◌++◌, length, get_or, map, filter, replicate, take, Option, Some, None, Ok, All, AllPairs, refl, sym, ◌∙◌, ap, subst, inl, inr, arith, slice_get, if◌then◌else◌, is_some}
use Rattle.std.specs.Prelude.{Contains, IfSome, nat_eq, nat_lt, not, ◌⊎◌}
use Rattle.std.specs.List.{list_any}
use Rattle.std.specs.Option.{ForSome}
use Rattle.std.proofs.lemmas.Bool.{cases_eq, cond-false, cond-true, eq-eqb, le-ltb, lt-ltb, ne_eqb, true≢false, or_right}
use Rattle.std.proofs.lemmas.List.{append-nil, get_or-map, get_or-replicate, get_or-take, length-map, length-replicate, length-take, map_more, take-map}
use Rattle.std.proofs.lemmas.List.Elements.{All-cons, All-contains, All-head, All-map, All-tail, All-weaker}
use Rattle.std.proofs.lemmas.Option.{get_or_from_slice_get, slice_get_within}
use Rattle.g_base.specs.Block.{blocks_for}
use Rattle.g_base.specs.Counts.{RoseBy}
use Rattle.g_base.specs.ToldContent.{Changes}
use Rattle.g_base.proofs.ToldLemmas.{Changes-weaken}
use Rattle.g_blocks.specs.Pool.{IsFresh, IsInArea}
use Rattle.g_copy.specs.declared.copy.DiscCopy.{DiscCopy}
use Rattle.g_disc.specs.Disc.{DiscState, ReadsByCause, ReadsOnly, StayDurable, WritesOnly, is_durable}
use Rattle.g_disc.specs.Durable.{AreDurable, PowerLossLeaves}
use Rattle.g_disc.proofs.CallLemmas.{Causes-ReadsByCause, Causes-WritesOnly_ok, Causes-then, ReadsByCause-ReadsOnly_ok, ReadsByCause-for}
use Rattle.g_entry.specs.declared.file_rec.FileRec.{FileRec}
use Rattle.g_entry.specs.declared.format.Format.TheVariants.{Two}
use Rattle.g_entry.specs.declared.head.Head.{Head}
use Rattle.g_entry.specs.declared.user_rec.UserRec.{UserRec}
use Rattle.g_entry.specs.FileFields.{IsFile}
use Rattle.g_entry.specs.Rules.{AreFiles, AreNumbered, AreUsers}
use Rattle.g_slots.specs.declared.side.Side.{Side}
use Rattle.g_slots.specs.declared.side.Side.TheVariants.{A, B}
use Rattle.g_slots.specs.Layout.{GateNames, copy_area, current}
use Rattle.g_tree.specs.Records.{IsRecords}
use Rattle.g_dirs.specs.declared.fault.DirsFault.{DirsFault}
use Rattle.g_dirs.specs.declared.fault.DirsFault.TheVariants as dirs
use Rattle.g_dirs.specs.Commit.{OldOrNew}
use Rattle.g_dirs.specs.Directory.{AreCopies, AreRecords, Directory, FileEntry, IsCopyOf, IsDirectory, all_places, copy_at, directory_of, entries_of, places_of, recs}
use Rattle.g_dirs.specs.Durable.{AreRememberedSyncable, IsDiscSafe, IsLive}
use Rattle.g_dirs.specs.Image.{StandsFor}
use Rattle.g_dirs.specs.Pages.{Covers, Remembered, Remembers, marks_of, nothing, pages_of, unwritten}
use Rattle.g_dirs.specs.Rules.{AreApart, numbers_of}
use Rattle.g_dirs.proofs.CopyLemmas.{match_from, places_are, recs-entries}
use Rattle.g_dirs.proofs.QuietLemmas.{stands_same}
use Rattle.g_dirs.proofs.Surviving.{live_is_safe, remembered_nothing, safe_stays}
use Rattle.g_disc_contents.specs.Contents.{Contents, File, Holds, contents_of, file_of, has, with_number}
use Rattle.g_disc_contents.specs.Facts.{AreNumbers, IsTied, OnlineFacts}
use Rattle.g_disc_contents.proofs.SurvivalLemmas.{commit_survives}
use Rattle.g_online.specs.declared.fault.OnlineFault.TheVariants.{NoFilestore, NoMemory, ReadFault}
use Rattle.g_online.specs.declared.pinned.Pinned.{Pinned}
use Rattle.g_online.specs.AllowedChanges.{KeepsRules}
use Rattle.g_online.specs.Beginning.{AsBeforeOr, HasLoaded, HasMade, HasRead, HoldsAsBefore, IsFound, SecuresAndReads, WroteFirst, empty_copies, empty_copy, first_contents, first_file, memory_of, refusal_of}
use Rattle.g_online.specs.Change.{told_bytes}
use Rattle.g_online.specs.Commit.{AreSaved, CommitStopped, HasCommitted, IsMarked, commit_blocks}
use Rattle.g_online.specs.Invariant.{AreNoted, AreWhole, IsAgreed, IsPooled, IsStored, Memory, PinsAre, directory_in, facts_of}
use Rattle.g_online.proofs.ContentLemmas.{Told, bytes_are}
use Rattle.g_online.proofs.CopyLemmas.{Copies, copy_behind, copy_here}
use Rattle.g_online.proofs.KeepLemmas.{CopyFits, rules_kept}
use Rattle.g_online.proofs.SameLemmas.{same_area, same_contents_told}
use Rattle.g_online.proofs.TieLemmas.{tied}

-- ALL USERS by number
abbrev pub all_numbers : List UserRec → List ℕ
all_numbers users = map (λ u. u.number) users

by_place : (users : List UserRec) (k n d : ℕ) → k < length users → ((u : UserRec) → slice_get users k ≡ Some u → u.number ≡ n) → get_or (all_numbers users) k d ≡ n
by_place [] k n d below numbered = let no : ⊥ = omega (arith, below) in absurd no
by_place (u ∷ users) zero n d below numbered = numbered u refl
by_place (u ∷ users) (suc k) n d below numbered = by_place users k n d (omega (arith, below)) numbered

number_at : (users : List UserRec) → AreUsers users → (k : ℕ) → k < length users → (d : ℕ) → get_or (all_numbers users) k d ≡ k
number_at users are k below d = by_place users k k d below (are.numbered k)

pub all_are : (users : List UserRec) → AreUsers users → AreNumbers (length users) (all_numbers users)
all_are users are = record {
  rising = λ k next.
      let long = length-map users (λ (u : UserRec). u.number) in
      let here = number_at users are k (omega (arith, next, long)) 0 in
      let there = number_at users are (k + 1) (omega (arith, next, long)) 0 in
      omega (arith, here, there);
  there = λ k d inside.
      let long = length-map users (λ (u : UserRec). u.number) in
      let here = number_at users are k (omega (arith, inside, long)) d in
      omega (arith, here, inside, long);
}

any_there : (xs : List ℕ) (n k : ℕ) → k < length xs → get_or xs k 0 ≡ n → has xs n ≡ true
any_there [] n k below is = let no : ⊥ = omega (arith, below) in absurd no
any_there (x ∷ xs) n zero below is = ap (λ (b : Bool). b || has xs n) (eq-eqb x n is)
any_there (x ∷ xs) n (suc k) below is = or_right (x == n) (has xs n) (any_there xs n k (omega (arith, below)) is)

-- each user is among them
pub has_user : (users : List UserRec) → AreUsers users → (n : ℕ) → n < length users → has (all_numbers users) n ≡ true
has_user users are n below = any_there (all_numbers users) n n (omega (arith, below, length-map users (λ (u : UserRec). u.number))) (number_at users are n below 0)

-- ALL IS MARKED if nothing is remembered
marked_none : (k : ℕ) → slice_get (replicate 1088 true) k ≡ Some false → ⊥
marked_none k is =
    let within = slice_get_within (replicate 1088 true) k false is in
    let at : get_or (replicate 1088 true) k true ≡ true = get_or-replicate 1088 k true true (omega (arith, within, length-replicate 1088 true)) in
    let other : get_or (replicate 1088 true) k true ≡ false = get_or_from_slice_get (replicate 1088 true) k false true is in
    true≢false (sym at ∙ other)

marked_all : (side : Side) (k : ℕ) → slice_get (marks_of side nothing) k ≡ Some false → ⊥
marked_all A k is = marked_none k is
marked_all B k is = marked_none k is

pub covers_all : (d : Directory) (side : Side) → Covers d side nothing
covers_all d side = record { block = λ k less free. absurd (marked_all side k free) }

none_known : (k : ℕ) (page : List ℕ) → slice_get (replicate {A = Option (List ℕ)} 1088 None) k ≡ Some (Some page) → ⊥
none_known k page is =
    let blank = replicate {A = Option (List ℕ)} 1088 None in
    let within = slice_get_within blank k (Some page) is in
    let at : get_or blank k None ≡ None = get_or-replicate 1088 k None None (omega (arith, within, length-replicate {A = Option (List ℕ)} 1088 None)) in
    let other : get_or blank k None ≡ Some page = get_or_from_slice_get blank k (Some page) None is in
    (let no : ⊥ = cc in no)

unknown_all : (side : Side) (k : ℕ) (page : List ℕ) → slice_get (pages_of side nothing) k ≡ Some (Some page) → ⊥
unknown_all A k page is = none_known k page is
unknown_all B k page is = none_known k page is

pub remembers_nothing : (blocks : List (List ℕ)) → Remembers nothing blocks
remembers_nothing blocks = record { block = λ side k page known. absurd (unknown_all side k page known) }

-- what is noted at the beginning
noted_first : (users : List UserRec) (files : List FileEntry) → AreUsers users → AreFiles (length users) (recs files) → AreNoted (length users) files (all_numbers users) []
noted_first users files are of_files = record {
  changed_are = all_are users are;
  touched_are = record { rising = λ k next. let no : ⊥ = omega (arith, next) in absurd no; there = λ k d inside. let no : ⊥ = omega (arith, inside) in absurd no };
  touched_changed = λ k d inside. let no : ⊥ = omega (arith, inside) in absurd no;
  waits = λ k d inside filled none.
      let there : k < length (recs files) = omega (arith, inside, length-map files (λ (f : FileEntry). f.0)) in
      let owner : (get_or (recs files) k d.0).owner < length users = of_files.owners k d.0 there in
      let is : get_or (recs files) k d.0 ≡ (get_or files k d).0 = get_or-map (λ (f : FileEntry). f.0) files k d d.0 inside in
      has_user users are (get_or files k d).0.owner (subst (λ (r : FileRec). r.owner < length users) is owner);
}

-- WHAT IS IN MEMORY agrees with the disc
pub begun_agreed : (disc : DiscState) (m : Memory) → (m.pins ≡ None) → (m.touched ≡ []) → (m.changed ≡ all_numbers m.users) → IsStored disc m.side m.pages (directory_in m) → AreCopies m.files m.online
    → IsFresh disc.size (all_places (directory_in m).files) m.pool → AreRememberedSyncable m.pages disc → IsAgreed disc m
begun_agreed disc m pins touched changed stored copies fresh remembered =
    let files = (directory_in m).files in
    let same : all_places files ++ [] ≡ all_places files = append-nil (all_places files) in
    record {
      stored = stored;
      copies = copies;
      pool = subst (λ (p : Option (List Pinned)). IsPooled disc.size p files m.pool) (sym pins) (record {
        fresh = subst (λ (l : List ℕ). IsFresh disc.size l m.pool) (sym same) fresh;
        area = subst (All (IsInArea disc.size)) (sym same) stored.rules.area;
        apart = subst (AllPairs (λ j k. j ≢ k)) (sym same) stored.rules.apart;
      });
      noted = subst (λ (l : List ℕ). AreNoted (length m.users) files l m.touched) (sym changed) (subst (λ (l : List ℕ). AreNoted (length m.users) files (all_numbers m.users) l) (sym touched) (noted_first m.users files stored.rules.users stored.rules.files));
      pins = subst (λ (p : Option (List Pinned)). PinsAre p disc.size m.head.next_stamp files m.touched) (sym pins) touched;
      remembered = remembered;
    }

-- a table has a place for each of the copies
pub numbers_below : (files : List FileRec) (online : Copies) → AreNumbered files → AreCopies files online → All (λ c. c.0 < 1024) online
numbers_below files online numbered copies =
    let below : All (λ (n : ℕ). n < 1024) (map (λ (r : FileRec). r.number) files) = All-map (λ (n : ℕ). n < 1024) (λ (r : FileRec). r.number) files numbered.below in
    All-weaker (λ (c : ℕ × DiscCopy). Contains (map (λ (r : FileRec). r.number) files) c.0) (λ (c : ℕ × DiscCopy). c.0 < 1024)
    (λ c there. All-contains (λ (n : ℕ). n < 1024) (map (λ (r : FileRec). r.number) files) c.0 below there) online copies.files_are

-- LOADED
pub loaded_agreed : (disc : DiscState) (side : Side) (pool : List Bool) (users : List UserRec) (files : List FileRec) (head : Head) (online : Copies)
    → IsFound disc side (directory_of head users files online) → AreCopies files online → IsFresh disc.size (numbers_of online) pool
    → IsAgreed disc (memory_of side nothing pool users files head online)
loaded_agreed disc side pool users files head online found copies fresh =
    let places : all_places (entries_of files online) ≡ numbers_of online =
    places_are files online (match_from files online (subst AreNumbered (recs-entries files online) found.rules.numbered) copies) in
    begun_agreed disc (memory_of side nothing pool users files head online) refl refl refl
    (record {
      gate = found.gate;
      remembers = λ blocks told. remembers_nothing blocks;
      covers = λ s. covers_all (directory_of head users files online) s;
      stands = found.stands;
      records = found.records;
      rules = found.rules;
    })
    copies (subst (λ (l : List ℕ). IsFresh disc.size l pool) (sym places) fresh) (remembered_nothing nothing disc refl)

-- THE DISC HOLDS WHAT IT HELD
pub still_holds : (before after : List (List ℕ)) → current after ≡ current before → copy_area after ≡ copy_area before → length after ≡ length before → (c : Contents) → Holds before c → Holds after c
still_holds before after slots copies size c was = record {
  directory = was.directory;
  stands = stands_same before after was.directory slots size was.stands;
  are = was.are ∙ sym (same_contents_told before after was.directory (same_area (length before) before after (all_places was.directory.files) copies was.stands.rules.area));
}

-- READ
pub no_contents : (blocks : List (List ℕ)) → ((d : Directory) → StandsFor blocks d → ⊥) → (c : Contents) → Holds blocks c → ⊥
no_contents blocks none c is = none is.directory is.stands

pub none_found : (fault : DirsFault) → refusal_of fault ≡ NoFilestore → fault ≡ dirs.NoFilestore
none_found dirs.ReadFault is = (let no : ⊥ = cc in absurd no)
none_found dirs.NoFilestore is = refl
none_found dirs.Stopped is = (let no : ⊥ = cc in absurd no)
none_found dirs.NoMemory is = (let no : ⊥ = cc in absurd no)

module _ (old new : DiscState) (side : Side) (head : Head) (users : List UserRec) (files : List FileRec) (online : Copies) (found : IsFound old side (directory_of head users files online)) (copies : AreCopies files online) where
  numbered : AreNumbered files
  numbered = subst AreNumbered (recs-entries files online) found.rules.numbered

  pub found_apart : AreApart old.size (numbers_of online)
  found_apart =
      let places : all_places (entries_of files online) ≡ numbers_of online = places_are files online (match_from files online numbered copies) in
      record { area = subst (All (IsInArea old.size)) places found.rules.area; apart = subst (AllPairs (λ j k. j ≢ k)) places found.rules.apart }

  pub found_records : IsRecords users files
  found_records =
      let same = recs-entries files online in
      record {
        each_user = found.records.users;
        among_users = found.rules.users;
        each_file = subst (All IsFile) same found.records.files;
        numbers = numbered;
        among_files = subst (AreFiles (length users)) same found.rules.files;
      }

  found_here : {P : Type 0} → ReadsByCause P old new → IsFound new side (directory_of head users files online)
  found_here reads = record {
    gate = λ blocks told. found.gate blocks (sym reads.held ∙ told);
    stands = λ blocks told. found.stands blocks (sym reads.held ∙ told);
    records = found.records;
    rules = subst (λ (n : ℕ). IsDirectory n (directory_of head users files online)) (sym reads.size) found.rules;
  }

  pub loaded : {P : Type 0} (pages : Remembered) (pool : List Bool) (us : List UserRec) (fs : List FileRec) → ReadsByCause P old new → pages ≡ nothing → IsFresh new.size (numbers_of online) pool → us ≡ users → fs ≡ files
      → IsAgreed new (memory_of side pages pool us fs head online)
  loaded pages pool us fs reads unknown fresh same_users same_files =
      subst (λ (l : List FileRec). IsAgreed new (memory_of side pages pool us l head online)) (sym same_files)
      (subst (λ (l : List UserRec). IsAgreed new (memory_of side pages pool l files head online)) (sym same_users)
      (subst (λ (p : Remembered). IsAgreed new (memory_of side p pool users files head online)) (sym unknown)
      (loaded_agreed new side pool users files head online (found_here reads) copies fresh)))

  pub has_read : {P : Type 0} (pages : Remembered) (pool : List Bool) (us : List UserRec) (fs : List FileRec) (o : OnlineFacts) → ForSome new.held (λ b. length b ≡ new.size) → 2177 < old.size → ReadsByCause P old new → (P → ⊥) → pages ≡ nothing → us ≡ users → fs ≡ files
      → o ≡ facts_of new (memory_of side pages pool us fs head online) → HasRead old o
  has_read pages pool us fs o whole large reads none unknown same_users same_files is =
      subst (HasRead old) (sym is) (record {
        begun = record { live = refl; pins = refl; touched = refl; changed = refl };
        reads = ReadsByCause-for none (λ never. absurd never) reads;
        holds = λ blocks told.
            subst (λ (l : List FileRec). Holds blocks (contents_of new.held (directory_of head us l online))) (sym same_files)
            (subst (λ (l : List UserRec). Holds blocks (contents_of new.held (directory_of head l files online))) (sym same_users)
            (subst (λ (h : Option (List (List ℕ))). Holds blocks (contents_of h (directory_of head users files online))) (sym told ∙ sym reads.held)
            (record { directory = directory_of head users files online; stands = found.stands blocks told; are = refl })));
        unknown = unknown;
        gate = found.gate;
        durable = λ blocks told is_safe gate.
            let d = directory_of head users files online in
            let all : AreDurable (IsLive side d) old =
            (live_is_safe side d old blocks told (whole blocks (reads.held ∙ told) ∙ reads.size) large (found.gate blocks told) (found.stands blocks told)).1 is_safe gate in
            subst (λ (l : List FileRec). AreDurable (IsLive side (directory_of head us l online)) new) (sym same_files)
            (subst (λ (l : List UserRec). AreDurable (IsLive side (directory_of head l files online)) new) (sym same_users)
            (λ k which. ap (λ (ks : List ℕ). not (list_any (nat_eq k) ks)) reads.volatile ∙ all k which));
      })

-- a created filestore: empty files are on the disc, and all others aren't
abbrev no_block : DiscCopy
no_block = record { blocks = []; len = 0 }

abbrev first_copy : FileRec → Option DiscCopy
first_copy r = if r.len == 0 then Some no_block else None

abbrev first_entry : FileRec → FileEntry
first_entry r = (r, first_copy r)

abbrev Above : ℕ → List FileRec → Type 0
Above n files = All (λ s. n < s.number) files

empties_in : (r : FileRec) (files : List FileRec) → r.len ≡ 0 → empty_copies (r ∷ files) ≡ empty_copy r ∷ empty_copies files
empties_in r files is = ap (map empty_copy) (cond-true (r.len == 0) (r ∷ filter (λ s. s.len == 0) files) (filter (λ s. s.len == 0) files) (eq-eqb r.len 0 is))

empties_out : (r : FileRec) (files : List FileRec) → r.len ≢ 0 → empty_copies (r ∷ files) ≡ empty_copies files
empties_out r files is = ap (map empty_copy) (cond-false (r.len == 0) (r ∷ filter (λ s. s.len == 0) files) (filter (λ s. s.len == 0) files) (ne_eqb r.len 0 is))

first_of : (n : ℕ) (r : FileRec) (files : List FileRec) → Above n (r ∷ files) → n < r.number
first_of n r files above = All-head (λ s. n < s.number) r files above

rest_of : (n : ℕ) (r : FileRec) (files : List FileRec) → Above n (r ∷ files) → Above n files
rest_of n r files above = All-tail (λ s. n < s.number) r files above

none_empty : (n : ℕ) (files : List FileRec) → Above n files → copy_at (empty_copies files) n ≡ None
none_empty n [] above = refl
none_empty n (r ∷ files) above =
    let first = first_of n r files above in
    let rest = none_empty n files (rest_of n r files above) in
    elim (cases_eq r.len 0) as (λ _. copy_at (empty_copies (r ∷ files)) n ≡ None) [
      | inl is ↦ ap (λ (l : Copies). copy_at l n) (empties_in r files is) ∙ copy_behind (empty_copy r) (empty_copies files) n (λ same. omega (arith, first, same)) ∙ rest
      | inr is ↦ ap (λ (l : Copies). copy_at l n) (empties_out r files is) ∙ rest
    ]

empties_above : (n : ℕ) (files : List FileRec) → Above n files → All (λ c. n < c.0) (empty_copies files)
empties_above n [] above = λ k d inside. let no : ⊥ = omega (arith, inside) in absurd no
empties_above n (r ∷ files) above =
    let P : ℕ × DiscCopy → Type 0 = λ c. n < c.0 in
    let first = first_of n r files above in
    let rest = empties_above n files (rest_of n r files above) in
    elim (cases_eq r.len 0) as (λ _. All P (empty_copies (r ∷ files))) [
      | inl is ↦ subst (All P) (sym (empties_in r files is)) (All-cons P (empty_copy r) (empty_copies files) first rest)
      | inr is ↦ subst (All P) (sym (empties_out r files is)) rest
    ]

rest_rises : (r : FileRec) (files : List FileRec) → AllPairs (λ r s. r.number < s.number) (r ∷ files) → AllPairs (λ r s. r.number < s.number) files
rest_rises r files rising i j d before inside = rising (suc i) (suc j) d (omega (arith, before)) (omega (arith, inside))

first_below : (r : FileRec) (files : List FileRec) → AllPairs (λ r s. r.number < s.number) (r ∷ files) → Above r.number files
first_below r files rising k d inside = rising 0 (suc k) d (omega arith) (omega (arith, inside))

pairs-cons : {X : Type 0} (R : X → X → Type 0) (x : X) (xs : List X) → All (R x) xs → AllPairs R xs → AllPairs R (x ∷ xs)
pairs-cons R x xs first rest zero zero d before inside = let no : ⊥ = omega (arith, before) in absurd no
pairs-cons R x xs first rest zero (suc j) d before inside = first j d (omega (arith, inside))
pairs-cons R x xs first rest (suc i) zero d before inside = let no : ⊥ = omega (arith, before) in absurd no
pairs-cons R x xs first rest (suc i) (suc j) d before inside = rest i j d (omega (arith, before)) (omega (arith, inside))

empties_rise : (files : List FileRec) → AllPairs (λ r s. r.number < s.number) files → AllPairs (λ c d. c.0 < d.0) (empty_copies files)
empties_rise [] rising = λ i j d before inside. let no : ⊥ = omega (arith, inside) in absurd no
empties_rise (r ∷ files) rising =
    let R : ℕ × DiscCopy → ℕ × DiscCopy → Type 0 = λ c d. c.0 < d.0 in
    let rest = empties_rise files (rest_rises r files rising) in
    elim (cases_eq r.len 0) as (λ _. AllPairs R (empty_copies (r ∷ files))) [
      | inl is ↦ subst (AllPairs R) (sym (empties_in r files is)) (pairs-cons R (empty_copy r) (empty_copies files) (empties_above r.number files (first_below r files rising)) rest)
      | inr is ↦ subst (AllPairs R) (sym (empties_out r files is)) rest
    ]

abbrev numbers_in : List FileRec → List ℕ
numbers_in files = map (λ r. r.number) files

empties_are : (files : List FileRec) → All (λ c. Contains (numbers_in files) c.0) (empty_copies files)
empties_are [] = λ k d inside. let no : ⊥ = omega (arith, inside) in absurd no
empties_are (r ∷ files) =
    let P : ℕ × DiscCopy → Type 0 = λ c. Contains (numbers_in (r ∷ files)) c.0 in
    let rest : All P (empty_copies files) =
    All-weaker (λ (c : ℕ × DiscCopy). Contains (numbers_in files) c.0) P (λ c there. (suc there.0, (let inside = there.1 in omega (arith, inside)), there.2)) (empty_copies files) (empties_are files) in
    elim (cases_eq r.len 0) as (λ _. All P (empty_copies (r ∷ files))) [
      | inl is ↦ subst (All P) (sym (empties_in r files is)) (All-cons P (empty_copy r) (empty_copies files) (0, omega arith, refl) rest)
      | inr is ↦ subst (All P) (sym (empties_out r files is)) rest
    ]

pub copies_first : (files : List FileRec) → AllPairs (λ r s. r.number < s.number) files → AreCopies files (empty_copies files)
copies_first files rising = record { rising = empties_rise files rising; files_are = empties_are files }

entries_behind : (c : ℕ × DiscCopy) (online : Copies) (files : List FileRec) → Above c.0 files → entries_of files (c ∷ online) ≡ entries_of files online
entries_behind c online [] above = refl
entries_behind c online (r ∷ files) above =
    let first = first_of c.0 r files above in
    ap (λ (o : Option DiscCopy). let e : FileEntry = (r, o) in e ∷ entries_of files (c ∷ online)) (copy_behind c online r.number (λ same. omega (arith, same, first)))
    ∙ ap (λ (l : List FileEntry). let e : FileEntry = (r, copy_at online r.number) in e ∷ l) (entries_behind c online files (rest_of c.0 r files above))

entries_first : (files : List FileRec) → AllPairs (λ r s. r.number < s.number) files → entries_of files (empty_copies files) ≡ map first_entry files
entries_first [] rising = refl
entries_first (r ∷ files) rising =
    let above = first_below r files rising in
    let rest = entries_first files (rest_rises r files rising) in
    let with_copy : Option DiscCopy → FileEntry = λ o. (r, o) in
    elim (cases_eq r.len 0) as (λ _. entries_of (r ∷ files) (empty_copies (r ∷ files)) ≡ map first_entry (r ∷ files)) [
      | inl is ↦
          ap (entries_of (r ∷ files)) (empties_in r files is)
          ∙ ap (λ (o : Option DiscCopy). with_copy o ∷ entries_of files (empty_copy r ∷ empty_copies files)) (copy_here (empty_copy r) (empty_copies files) r.number refl ∙ sym (cond-true (r.len == 0) (Some no_block) None (eq-eqb r.len 0 is)))
          ∙ ap (λ (l : List FileEntry). first_entry r ∷ l) (entries_behind (empty_copy r) (empty_copies files) files above ∙ rest)
      | inr is ↦
          ap (entries_of (r ∷ files)) (empties_out r files is)
          ∙ ap (λ (o : Option DiscCopy). with_copy o ∷ entries_of files (empty_copies files)) (none_empty r.number files above ∙ sym (cond-false (r.len == 0) (Some no_block) None (ne_eqb r.len 0 is)))
          ∙ ap (λ (l : List FileEntry). first_entry r ∷ l) rest
    ]

-- what they are
first_is : (held : Told) (r : FileRec) → file_of held (first_entry r) ≡ first_file (is_some held) r
first_is held r = by_length (r.len == 0)
  where
    by_length : (b : Bool) → (let e : FileEntry = (r, if b then Some no_block else None) in file_of held e)
        ≡ (if b then record { rec = r; online = true; bytes = told_bytes (is_some held) [] } else record { rec = r; online = false; bytes = None })
    by_length true = ap (λ (b : Option (List ℕ)). let f : File = record { rec = r; online = true; bytes = b } in f) (bytes_are held no_block [] (λ blocks told. refl))
    by_length false = refl

firsts_are : (held : Told) (files : List FileRec) → map (file_of held) (map first_entry files) ≡ map (first_file (is_some held)) files
firsts_are held [] = refl
firsts_are held (r ∷ files) =
    ap (λ (f : File). f ∷ map (file_of held) (map first_entry files)) (first_is held r) ∙ ap (λ (l : List File). first_file (is_some held) r ∷ l) (firsts_are held files)

pub contents_first : (held : Told) (head : Head) (users : List UserRec) (files : List FileRec) → AllPairs (λ r s. r.number < s.number) files
    → contents_of held (directory_of head users files (empty_copies files)) ≡ first_contents (is_some held) head users files
contents_first held head users files rising =
    ap (λ (l : List File). let c : Contents = record { head = head; users = users; files = l } in c) (ap (map (file_of held)) (entries_first files rising) ∙ firsts_are held files)

rec_first : (told : Bool) (r : FileRec) → (first_file told r).rec ≡ r
rec_first told r = by_length (r.len == 0)
  where
    by_length : (b : Bool) → (let f : File = (if b then record { rec = r; online = true; bytes = told_bytes told [] } else record { rec = r; online = false; bytes = None }) in f.rec) ≡ r
    by_length true = refl
    by_length false = refl

recs_first : (told : Bool) (files : List FileRec) → map (λ f. f.rec) (map (first_file told) files) ≡ files
recs_first told [] = refl
recs_first told (r ∷ files) = ap (λ (s : FileRec). s ∷ map (λ f. f.rec) (map (first_file told) files)) (rec_first told r) ∙ ap (λ (l : List FileRec). r ∷ l) (recs_first told files)

pub rises_first : (told : Bool) (head : Head) (users : List UserRec) (files : List FileRec) → KeepsRules (first_contents told head users files) → AllPairs (λ r s. r.number < s.number) files
rises_first told head users files kept = (subst AreNumbered (recs_first told files) kept.records.numbers).rising

fits_one : (r : FileRec) → CopyFits (first_entry r)
fits_one r =
    elim (cases_eq r.len 0) as (λ _. CopyFits (first_entry r)) [
      | inl is ↦ subst (λ (o : Option DiscCopy). IfSome o (IsCopyOf r)) (sym (cond-true (r.len == 0) (Some no_block) None (eq-eqb r.len 0 is))) (record { len = sym is; count = ap blocks_for (sym is) })
      | inr is ↦ subst (λ (o : Option DiscCopy). IfSome o (IsCopyOf r)) (sym (cond-false (r.len == 0) (Some no_block) None (ne_eqb r.len 0 is))) tt
    ]

places_one : (r : FileRec) → places_of (first_entry r) ≡ []
places_one r = by_length (r.len == 0)
  where
    by_length : (b : Bool) → (let e : FileEntry = (r, if b then Some no_block else None) in places_of e) ≡ []
    by_length true = refl
    by_length false = refl

places_none : (files : List FileRec) → all_places (map first_entry files) ≡ []
places_none [] = refl
places_none (r ∷ files) = ap (λ (l : List ℕ). l ++ all_places (map first_entry files)) (places_one r) ∙ places_none files

pub no_places : (files : List FileRec) → AllPairs (λ r s. r.number < s.number) files → all_places (entries_of files (empty_copies files)) ≡ []
no_places files rising = ap all_places (entries_first files rising) ∙ places_none files

-- THE DIRECTORY THAT IS WRITTEN FIRST
module _ (disc : DiscState) (head : Head) (users : List UserRec) (files : List FileRec) (most : disc.size ≤ 1_048_576) (kept : KeepsRules (first_contents (is_some disc.held) head users files)) where
  abbrev first_directory : Directory
  first_directory = directory_of head users files (empty_copies files)

  rising : AllPairs (λ r s. r.number < s.number) files
  rising = rises_first (is_some disc.held) head users files kept

  first_rules : AreRecords Two first_directory × IsDirectory disc.size first_directory
  first_rules =
      let none = no_places files rising in
      rules_kept disc.size disc.held first_directory most (subst KeepsRules (sym (contents_first disc.held head users files rising)) kept)
      (subst (All CopyFits) (sym (entries_first files rising)) (All-map CopyFits first_entry files (λ k d inside. fits_one (get_or files k d))))
      (subst (All (IsInArea disc.size)) (sym none) (λ k d inside. let no : ⊥ = omega (arith, inside) in absurd no))
      (subst (AllPairs (λ j k. j ≢ k)) (sym none) (λ i j d before inside. let no : ⊥ = omega (arith, inside) in absurd no))

  pub first_copies : (online : Copies) → online ≡ empty_copies files → AreCopies files online
  first_copies online is = subst (AreCopies files) (sym is) (copies_first files rising)

  pub first_marked : (now : DiscState) (side : Side) (pages : Remembered) (online : Copies) → 2177 < disc.size → now.size ≡ disc.size → GateNames side now.held → pages ≡ nothing → online ≡ empty_copies files
      → IsMarked now side pages (directory_of head users files online)
  first_marked now side pages online low size gate unknown is =
      subst (λ (l : Copies). IsMarked now side pages (directory_of head users files l)) (sym is)
      (subst (λ (p : Remembered). IsMarked now side p first_directory) (sym unknown) (record {
        size = omega (arith, low, size);
        gate = gate;
        remembers = λ blocks told. remembers_nothing blocks;
        covers = λ s. covers_all first_directory s;
        records = first_rules.0;
        rules = subst (λ (n : ℕ). IsDirectory n first_directory) (sym size) first_rules.1;
      }))

  pub first_agreed : (before after : DiscState) (side next : Side) (old new : Remembered) (pool : List Bool) (online : Copies) → online ≡ empty_copies files → old ≡ nothing
      → HasCommitted (directory_of head users files online) before after side next old new → IsFresh after.size [] pool
      → IsAgreed after (memory_of next new pool users files head online)
  first_agreed before after side next old new pool online is unknown done fresh =
      begun_agreed after (memory_of next new pool users files head online) refl refl refl done.stored (first_copies online is)
      (subst (λ (l : List ℕ). IsFresh after.size l pool) (sym (ap (λ (l : Copies). all_places (entries_of files l)) is ∙ no_places files rising)) fresh)
      (done.remembered (remembered_nothing old before unknown))

  pub first_made : (after : DiscState) (online : Copies) → online ≡ empty_copies files → is_some after.held ≡ is_some disc.held
      → contents_of after.held (directory_of head users files online) ≡ first_contents (is_some disc.held) head users files
  first_made after online is told =
      ap (λ (l : Copies). contents_of after.held (directory_of head users files l)) is ∙ contents_first after.held head users files rising
      ∙ ap (λ (b : Bool). first_contents b head users files) told

  -- stopped
  first_stop : (online : Copies) (before after : List (List ℕ)) → disc.held ≡ Some before → online ≡ empty_copies files → OldOrNew (directory_of head users files online) before after
      → AsBeforeOr (first_contents (is_some disc.held) head users files) before after
  first_stop online before after told is stop = record { one = by_half stop.whole }
    where
      by_half : (current after ≡ current before) ⊎ StandsFor after (directory_of head users files online) → HoldsAsBefore before after ⊎ Holds after (first_contents (is_some disc.held) head users files)
      by_half (inl same) = inl (record {
        kept = λ c was. still_holds before after same stop.copies stop.size c was;
        only = λ c now. still_holds after before (sym same) (sym stop.copies) (sym stop.size) c now;
      })
      by_half (inr new) = inr (record {
        directory = directory_of head users files online;
        stands = new;
        are = ap (λ (b : Bool). first_contents b head users files) (ap is_some told) ∙ sym (contents_first (Some after) head users files rising)
            ∙ ap (λ (l : Copies). contents_of (Some after) (directory_of head users files l)) (sym is);
      })

  pub first_stopped : (online : Copies) (before after : Told) → before ≡ disc.held → online ≡ empty_copies files → Changes (OldOrNew (directory_of head users files online)) before after
      → Changes (AsBeforeOr (first_contents (is_some disc.held) head users files)) disc.held after
  first_stopped online before after same is stop =
      subst (λ (h : Told). Changes (AsBeforeOr (first_contents (is_some disc.held) head users files)) h after) same
      (Changes-weaken stop (λ b a told one. first_stop online b a (sym same ∙ told) is one))

  -- and what a power loss leaves then
  pub first_survives : {S F : Type 0} {s : S} (now after : DiscState) (pages : Remembered) (online : Copies) → ReadsOnly {T = S} {E = F} disc now (Ok s) → online ≡ empty_copies files → pages ≡ nothing
      → CommitStopped (directory_of head users files online) now after pages → is_durable disc 0 ≡ true → IsDiscSafe disc
      → IsDiscSafe after × PowerLossLeaves (AsBeforeOr (first_contents (is_some disc.held) head users files)) disc after
  first_survives now after pages online reads is unknown stop gate is_safe =
      let still : StayDurable disc now = λ k was. ap (λ (ks : List ℕ). not (list_any (nat_eq k) ks)) reads.volatile ∙ was in
      let none : AreSaved (directory_of head users files online) now =
      λ k of. (let inside = (subst (λ (places : List ℕ). Contains places k) (ap (λ (l : Copies). all_places (entries_of files l)) is ∙ no_places files rising) of).1 in let no : ⊥ = omega (arith, inside) in absurd no) in
      let both = stop.safe (remembered_nothing pages now unknown) none (still 0 gate) (safe_stays disc now reads.held still is_safe) in (
        both.0,
        λ before told left may. by before left told (commit_survives before left (directory_of head users files online) (both.1 before (reads.held ∙ told) left may)),
      )
    where
      by : (before left : List (List ℕ)) → disc.held ≡ Some before
          → (((c : Contents) → Holds before c → Holds left c) × ((c : Contents) → Holds left c → Holds before c)) ⊎ Holds left (contents_of (Some before) (directory_of head users files online))
          → AsBeforeOr (first_contents (is_some disc.held) head users files) before left
      by before left told (inl both) = record { one = inl (record { kept = both.0; only = both.1 }) }
      by before left told (inr new) = record {
        one = inr (subst (Holds left)
            (ap (λ (l : Copies). contents_of (Some before) (directory_of head users files l)) is ∙ contents_first (Some before) head users files rising
            ∙ ap (λ (b : Bool). first_contents b head users files) (sym (ap is_some told))) new);
      }

told_same : {R : List (List ℕ) → List (List ℕ) → Type 0} (before after : Told) → Changes R before after → is_some after ≡ is_some before
told_same None after changes = ap is_some (changes.untold refl)
told_same (Some b) after changes = ap is_some (changes.told b refl).1

-- MADE
pub has_made : {S F T E : Type 0} {s : S} {t : T} (disc before after : DiscState) (side next : Side) (old new : Remembered) (pool : List Bool) (head : Head) (users : List UserRec) (files : List FileRec) (online : Copies) (o : OnlineFacts)
    → disc.size ≤ 1_048_576 → KeepsRules (first_contents (is_some disc.held) head users files) → online ≡ empty_copies files → old ≡ nothing → GateNames side before.held
    → ReadsOnly {T = S} {E = F} disc before (Ok s) → WritesOnly {T = T} {E = E} (commit_blocks (directory_of head users files online) side old) before after (Ok t)
    → HasCommitted (directory_of head users files online) before after side next old new
    → o ≡ facts_of after (memory_of next new pool users files head online) → HasMade (first_contents (is_some disc.held) head users files) disc o
has_made disc before after side next old new pool head users files online o most kept is unknown gate reads writes done made =
    let told : is_some after.held ≡ is_some disc.held = told_same before.held after.held done.content ∙ ap is_some reads.held in
    let d = directory_of head users files online in
    subst (HasMade (first_contents (is_some disc.held) head users files) disc) (sym made) (record {
      begun = record { live = refl; pins = refl; touched = refl; changed = refl };
      contents = first_made disc head users files most kept after online is told;
      causes = Causes-then (λ never. never) (λ never. never) (Causes-ReadsByCause (λ never. never) (ReadsByCause-ReadsOnly_ok (λ never. never) reads)) (Causes-WritesOnly_ok (λ never. never) (λ never. never) writes);
      wrote = record {
        found = record { directory = d; side = side; pages = old };
        unknown = unknown;
        gate = λ blocks held. gate blocks (reads.held ∙ held);
        blocks = commit_blocks d side old;
        commits = (
          record { directory = d; side = next; pages = new },
          commit_blocks d side old,
          0,
          record { side = done.turned; written = ap (λ (s : Side). unwritten d (pages_of s old) 1088 + 1) (sym done.turned); here = done.here; there = done.there },
          (refl, refl),
          omega arith,
        );
        writes = subst (λ (n : ℕ). RoseBy (commit_blocks d side old) n after.writes) reads.writes writes.writes;
      };
      told = told;
      durable = done.durable (remembered_nothing old before unknown)
          (λ k of.
          (let inside = (subst (λ (places : List ℕ). Contains places k) (ap (λ (l : Copies). all_places (entries_of files l)) is ∙ no_places files (rises_first (is_some disc.held) head users files kept)) of).1 in
          let no : ⊥ = omega (arith, inside) in absurd no));
    })

-- numbers that rise, one more
all_below : (n : ℕ) (xs : List ℕ) → All (λ m. m < n) xs → filter (λ m. nat_lt m n) xs ≡ xs
all_below n [] below = refl
all_below n (x ∷ xs) below =
    cond-true (nat_lt x n) (x ∷ filter (λ m. nat_lt m n) xs) (filter (λ m. nat_lt m n) xs) (lt-ltb x n (All-head (λ m. m < n) x xs below))
    ∙ ap (λ (l : List ℕ). x ∷ l) (all_below n xs (All-tail (λ m. m < n) x xs below))

none_above : (n : ℕ) (xs : List ℕ) → All (λ m. m < n) xs → filter (λ m. nat_lt n m) xs ≡ []
none_above n [] below = refl
none_above n (x ∷ xs) below =
    let first : x < n = All-head (λ m. m < n) x xs below in
    cond-false (nat_lt n x) (x ∷ filter (λ m. nat_lt n m) xs) (filter (λ m. nat_lt n m) xs) (le-ltb n x (omega (arith, first))) ∙ none_above n xs (All-tail (λ m. m < n) x xs below)

with_last : (n : ℕ) (xs : List ℕ) → All (λ m. m < n) xs → with_number n xs ≡ xs ++ n ∷ []
with_last n xs below =
    ap (λ (l : List ℕ). l ++ n ∷ filter (λ m. nat_lt n m) xs) (all_below n xs below) ∙ ap (λ (l : List ℕ). xs ++ n ∷ l) (none_above n xs below)

pub numbers_more : (users : List UserRec) (k : ℕ) (u : UserRec) (xs ys : List ℕ) → AreUsers users → k < length users → u ≡ get_or users k u → xs ≡ all_numbers (take k users) → ys ≡ with_number u.number xs
    → ys ≡ all_numbers (take (k + 1) users)
numbers_more users k u xs ys are inside is was now =
    let f : UserRec → ℕ = λ v. v.number in
    let long = length-map users f in
    let at : u.number ≡ k =
    ap f is ∙ sym (get_or-map f users k u (f u) inside) ∙ number_at users are k inside (f u) in
    let below : All (λ m. m < u.number) (all_numbers (take k users)) = λ j d within.
    let few : j < k = omega (arith, within, length-map (take k users) f, length-take k users) in
    let same : get_or (all_numbers (take k users)) j d ≡ j =
    ap (λ (l : List ℕ). get_or l j d) (sym (take-map f k users)) ∙ get_or-take k (all_numbers users) j d few ∙ number_at users are j (omega (arith, few, inside)) d in
    omega (arith, few, same, at) in
    now ∙ ap (with_number u.number) was ∙ with_last u.number (all_numbers (take k users)) below
    ∙ ap (λ (v : UserRec). all_numbers (take k users) ++ v.number ∷ []) is ∙ sym (map_more f users k u inside)

-- WHAT CALLERS KNOW at the beginning
pub begun_tied : (disc : DiscState) (m : Memory) (changed touched : List ℕ) → 2177 < disc.size → disc.size ≤ 1_048_576 → ForSome disc.held (AreWhole disc.size) → IsAgreed disc m → changed ≡ m.changed → touched ≡ m.touched
    → IsTied (facts_of disc (record m { changed = changed; touched = touched }))
begun_tied disc m changed touched low high whole agreed same_changed same_touched =
    subst (λ (l : List ℕ). IsTied (facts_of disc (record m { changed = l; touched = touched }))) (sym same_changed)
    (subst (λ (l : List ℕ). IsTied (facts_of disc (record m { touched = l }))) (sym same_touched)
    (tied disc m (record { size = low; most = high; whole = whole; agreed = λ live. agreed })))
