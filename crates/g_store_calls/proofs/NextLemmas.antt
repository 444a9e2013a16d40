-- The record of a new version: in the place of the file of its number, or of a new file, the records satisfy their rules.
-- serves: first_of (version), next_of (version), version_of (next), AppendCallLemmas, AppendPartLemmas
use Rattle.std.proofs.Common.{◌≡◌, ◌≢◌, ℕ, zero, suc, ◌<◌, ◌≤◌, ◌^◌, Bool, true, List, [], ◌∷◌, get_or, length, Option, Some, None, is_some, refl, sym, ◌∙◌, ap, arith, inl, inr, subst, All}
use Rattle.std.specs.Prelude.{◌⊎◌, AllPairs, Contains, IfSome, filter, nat_lt}
use Rattle.std.specs.FinMap.{get, get-from_entries, len, nat_cmp-IsAntisymmetric}
use Rattle.std.specs.Option.{option_map}
use Rattle.std.proofs.lemmas.Bool.{cases_lt, false≢true, ltb-true}
use Rattle.std.proofs.lemmas.Cmp.{nat_cmp_total}
use Rattle.std.proofs.lemmas.List.Elements.{All-append, All-cons, All-contains, All-filter, Contains-get_or, filter_passes}
use Rattle.std.proofs.lemmas.List.Kept.{AllPairs-cons, AllPairs-filter}
use Rattle.std.proofs.lemmas.Option.{same_Some}
use Rattle.g_entry.specs.declared.file_rec.FileRec.{FileRec}
use Rattle.g_entry.specs.declared.file_rec.TapeCopy.{TapeCopy}
use Rattle.g_entry.specs.declared.user_rec.UserRec.{UserRec}
use Rattle.g_entry.specs.FileFields.{AreSets, IsCopy, IsFile, lacks}
use Rattle.g_entry.specs.Rules.{AreNumbered, SameName}
use Rattle.g_entry.proofs.RuleLemmas.{file_anew}
use Rattle.g_name.specs.declared.full.Full.{Full}
use Rattle.g_name.specs.Grammar.{is_lang, is_word}
use Rattle.g_trap.specs.TrapList.{IsOthers, TrapList}
use Rattle.g_tree.specs.Records.{IsRecords, by_number, full_of, name_of, name_of_file, number_of}
use Rattle.g_tree.specs.State.{with_file}
use Rattle.g_tree.proofs.MapLemmas.{found_one, keyed}
use Rattle.g_tree.proofs.PutLemmas as found
use Rattle.g_tree.proofs.RightLemmas.{number_found}
use Rattle.g_disc_contents.specs.Contents.{recs_in}
use Rattle.g_disc_contents.specs.Facts.{IsTied, OnlineFacts}
use Rattle.g_online.specs.AllowedChanges.{KeepsRules}
use Rattle.g_laws_store.specs.Calls.{IsVersionOf}
use Rattle.g_laws_store.proofs.RecordLemmas.{apart_in, from_filter, pairs_append}
use Rattle.g_migrate.proofs.MigrationLemmas.{rules_here}
use Rattle.g_store_calls.specs.Versions.{IsNext}

-- pairs of a list and its suffix that pass a filter
passed : {A : Type 0} (p : A → Bool) (xs : List A) (x : A) → Contains (filter p xs) x → p x ≡ true
passed p xs x there = All-contains (λ y. p y ≡ true) (filter p xs) x (filter_passes p xs) there

-- numbers rise at least as places do
at_least : (files : List FileRec) → AllPairs (λ r s. r.number < s.number) files → (i : ℕ) (d : FileRec) → i < length files → i ≤ (get_or files i d).number
at_least files rising zero d within = omega arith
at_least files rising (suc i) d within =
    let before = at_least files rising i d (omega (arith, within)) in
    let more = rising i (suc i) d (omega arith) within in
    omega (arith, before, more)

few_of : (files : List FileRec) → AreNumbered files → length files ≤ 1024
few_of files is = by_length (cases_lt 1024 (length files))
  where
    by_length : (1024 < length files) ⊎ (length files ≤ 1024) → length files ≤ 1024
    by_length (inr le) = le
    by_length (inl more) =
        let d : FileRec = record { number = 0; owner = 0; local = []; generation = 0; lang = []; stamp = 0; len = 0; traps = record { owner = 0; others = [] }; tape = None } in
        let least = at_least files is.rising 1024 d more in
        let most = is.below 1024 d more in
        let no : ⊥ = omega (arith, least, most) in absurd no

-- A RECORD AMONG RECORDS: which rules it has to satisfy on its own, and which together with those of other numbers
pub record Fits (users : List UserRec) (files : List FileRec) (r : FileRec) : Type 0 where
  pub file : IsFile r
  pub number : r.number < 1024
  pub owner : r.owner < length users
  pub trapped : All (λ pair. pair.0 < length users) r.traps.others
  pub dated : 1 ≤ r.stamp
  pub newest : All (λ q. q.stamp < r.stamp) files
  pub tape : r.tape ≡ None
  pub alone : (q : FileRec) → Contains files q → q.number ≢ r.number → SameName q r → ⊥

turned : (q r : FileRec) → SameName q r → SameName r q
turned q r same = record { owner = sym same.owner; local = sym same.local; generation = sym same.generation; lang = sym same.lang }

module _ (users : List UserRec) (files : List FileRec) (r : FileRec) (was : IsRecords users files) (fits : Fits users files r) where
  abbrev lower : List FileRec
  lower = filter (λ s. nat_lt s.number r.number) files

  abbrev greater : List FileRec
  greater = filter (λ s. nat_lt r.number s.number) files

  in_lower : (q : FileRec) → Contains lower q → Contains files q × (q.number < r.number)
  in_lower q there = (from_filter (λ (s : FileRec). nat_lt s.number r.number) files q there, ltb-true q.number r.number (passed (λ (s : FileRec). nat_lt s.number r.number) files q there))

  in_greater : (q : FileRec) → Contains greater q → Contains files q × (r.number < q.number)
  in_greater q there = (from_filter (λ (s : FileRec). nat_lt r.number s.number) files q there, ltb-true r.number q.number (passed (λ (s : FileRec). nat_lt r.number s.number) files q there))

  all_with : (P : FileRec → Type 0) → All P files → P r → All P (with_file r files)
  all_with P all is =
      All-append P lower (r ∷ greater) (All-filter (λ (s : FileRec). nat_lt s.number r.number) P files all)
      (All-cons P r greater is (All-filter (λ (s : FileRec). nat_lt r.number s.number) P files all))

  pairs_with : (R : FileRec → FileRec → Type 0) → AllPairs R files → ((q : FileRec) → Contains files q → q.number < r.number → R q r) → ((q : FileRec) → Contains files q → r.number < q.number → R r q)
      → ((p q : FileRec) → Contains files p → Contains files q → p.number < q.number → R p q) → AllPairs R (with_file r files)
  pairs_with R all below above across =
      pairs_append R lower (r ∷ greater) (AllPairs-filter R (λ (s : FileRec). nat_lt s.number r.number) files all)
      (AllPairs-cons R r greater (λ j d within. let q = get_or greater j d in let is = in_greater q (Contains-get_or greater j d within) in above q is.0 is.1)
      (AllPairs-filter R (λ (s : FileRec). nat_lt r.number s.number) files all))
      (λ p q in_p in_q. by_first p q (in_lower p in_p) in_q)
    where
      by_first : (p q : FileRec) → Contains files p × (p.number < r.number) → Contains (r ∷ greater) q → R p q
      by_first p q is (zero, within, at) = subst (R p) at (below p is.0 is.1)
      by_first p q is (suc j, within, at) =
          let more = in_greater q (j, omega (arith, within), at) in
          let one = is.1 in
          let two = more.1 in
          across p q is.0 more.0 (omega (arith, one, two))

  differ : (p q : FileRec) → p.number < q.number → p ≡ q → ⊥
  differ p q less same = let no : ⊥ = (let numbers = ap (λ (s : FileRec). s.number) same in omega (arith, less, numbers)) in no

  numbers_with : AreNumbered (with_file r files)
  numbers_with = record {
    rising = pairs_with (λ p q. p.number < q.number) was.numbers.rising (λ q there less. less) (λ q there less. less) (λ p q in_p in_q less. less);
    below = all_with (λ q. q.number < 1024) was.numbers.below fits.number;
  }

  older : (q : FileRec) → Contains files q → q.stamp < r.stamp
  older q there = All-contains (λ (s : FileRec). s.stamp < r.stamp) files q fits.newest there

  pub records_with : IsRecords users (with_file r files)
  records_with = record {
    each_user = was.each_user;
    among_users = was.among_users;
    each_file = all_with IsFile was.each_file fits.file;
    numbers = numbers_with;
    among_files = record {
      few = few_of (with_file r files) numbers_with;
      owners = all_with (λ q. q.owner < length users) was.among_files.owners fits.owner;
      trapped = all_with (λ q. All (λ pair. pair.0 < length users) q.traps.others) was.among_files.trapped fits.trapped;
      names = pairs_with (λ p q. SameName p q → ⊥) was.among_files.names
          (λ q there less same. fits.alone q there (λ e. let no : ⊥ = omega (arith, less, e) in no) same)
          (λ q there less same. fits.alone q there (λ e. let no : ⊥ = omega (arith, less, e) in no) (turned r q same))
          (λ p q in_p in_q less. apart_in (λ (x y : FileRec). SameName x y → ⊥) (λ x y not same. not (turned y x same)) files was.among_files.names p q in_p in_q (differ p q less));
      stamps = pairs_with (λ p q. p.stamp ≢ q.stamp) was.among_files.stamps
          (λ q there less e. let is = older q there in let no : ⊥ = omega (arith, is, e) in no)
          (λ q there less e. let is = older q there in let no : ⊥ = omega (arith, is, e) in no)
          (λ p q in_p in_q less. apart_in (λ (x y : FileRec). x.stamp ≢ y.stamp) (λ x y not same. not (sym same)) files was.among_files.stamps p q in_p in_q (differ p q less));
      dated = all_with (λ q. 1 ≤ q.stamp) was.among_files.dated fits.dated;
      empty = all_with (λ q. q.len ≡ 0 → q.tape ≡ None) was.among_files.empty (λ none. fits.tape);
    };
  }

none_others : IsOthers []
none_others = record { rising = refl; used = refl; sets = refl; few = omega arith }

-- THE NEXT VERSION of a file
abbrev pub next_rec : FileRec → ℕ → ℕ → FileRec
next_rec r next len = record r { stamp = next; len = len; tape = None }

module _ (o : OnlineFacts) (rules : KeepsRules o.contents) (early : o.contents.head.next_stamp < 2 ^ 62) (len : ℕ) (short : len ≤ 65536) where
  abbrev users : List UserRec
  users = o.contents.users

  abbrev recs : List FileRec
  recs = recs_in o.contents

  abbrev next : ℕ
  next = o.contents.head.next_stamp

  module _ (old : FileRec) (there : Contains (recs_in o.contents) old) where
    fits_next : Fits users recs (next_rec old next len)
    fits_next =
        let was = rules.records in
        let file = All-contains IsFile recs old was.each_file there in
        let least = rules.head.least_stamp in
        record {
          file = file_anew old.number next len None old file early short tt;
          number = All-contains (λ (q : FileRec). q.number < 1024) recs old was.numbers.below there;
          owner = All-contains (λ (q : FileRec). q.owner < length users) recs old was.among_files.owners there;
          trapped = All-contains (λ (q : FileRec). All (λ pair. pair.0 < length users) q.traps.others) recs old was.among_files.trapped there;
          dated = least;
          newest = rules.dated;
          tape = refl;
          alone = λ q in_q other same.
              apart_in (λ (x y : FileRec). SameName x y → ⊥) (λ x y not same. not (turned y x same)) recs was.among_files.names q old in_q there (λ e. other (ap (λ (s : FileRec). s.number) e))
              (record { owner = same.owner; local = same.local; generation = same.generation; lang = same.lang });
        }

    pub next_version : (full : Full) → full_of users old ≡ full → IsVersionOf o full (next_rec old next len)
    next_version full named = record {
      stamp = refl;
      tape = refl;
      name = named;
      rules = records_with users recs (next_rec old next len) rules.records fits_next;
      place = inl (old, there, refl, named, refl, refl);
    }

  -- THE FIRST VERSION of a new file
  module _ (full : Full) (none : number_of o.contents.users (recs_in o.contents) full ≡ None) (word : is_word full.local ≡ true) (lang : is_lang full.lang ≡ true)
      (generation : (1 ≤ full.generation) × (full.generation ≤ 4095)) (r : FileRec) (number : r.number < 1024) (free : get (by_number (recs_in o.contents)) r.number ≡ None)
      (owner : r.owner < length o.contents.users) (named : name_of o.contents.users r.owner ≡ full.user) (local_is : r.local ≡ full.local) (generation_is : r.generation ≡ full.generation)
      (lang_is : r.lang ≡ full.lang) (stamp_is : r.stamp ≡ o.contents.head.next_stamp) (len_is : r.len ≡ len) (traps_are : r.traps ≡ record { owner = 31; others = [] }) (tape_is : r.tape ≡ None) where
    name_is : full_of users r ≡ full
    name_is = λ i. let f : Full = record { user = named i; local = local_is i; generation = generation_is i; lang = lang_is i } in f

    nobody : All (λ q. q.number ≡ r.number → ⊥) recs
    nobody i d within same =
        let q = get_or recs i d in
        let at = found.number_found users recs rules.records q.number q (Contains-get_or recs i d within) refl in
        false≢true (sym (ap is_some (ap (get (by_number recs)) same ∙ free)) ∙ ap is_some at)

    no_other : (q : FileRec) → Contains recs q → SameName q r → ⊥
    no_other q there same =
        let at = found.number_found users recs rules.records q.number q there refl in
        let called : full_of users q ≡ full = (λ i. let f : Full = record { user = name_of users (same.owner i); local = same.local i; generation = same.generation i; lang = same.lang i } in f) ∙ name_is in
        let it = number_found users recs rules.records q.number q at in
        false≢true (sym (ap is_some (ap (number_of users recs) called ∙ none)) ∙ ap is_some it)

    fits_first : Fits users recs r
    fits_first =
        let least = rules.head.least_stamp in
        let low = generation.0 in
        let high = generation.1 in
        record {
          file = record {
            local = ap is_word local_is ∙ word;
            least_generation = subst (λ (n : ℕ). 1 ≤ n) (sym generation_is) low;
            most_generation = subst (λ (n : ℕ). n ≤ 4095) (sym generation_is) high;
            lang = ap is_lang lang_is ∙ lang;
            stamp = subst (λ (n : ℕ). n < 2 ^ 62) (sym stamp_is) early;
            len = subst (λ (n : ℕ). n ≤ 65536) (sym len_is) short;
            others = subst (λ (t : TrapList). IsOthers t.others) (sym traps_are) none_others;
            sets = subst AreSets (sym traps_are) (record { owner = omega arith; others = refl });
            no_owner = ap (λ (t : TrapList). lacks r.owner t.others) traps_are;
            tape = subst (λ (t : Option TapeCopy). IfSome t IsCopy) (sym tape_is) tt;
          };
          number = number;
          owner = owner;
          trapped = subst (λ (t : TrapList). All (λ pair. pair.0 < length users) t.others) (sym traps_are) (λ i d within. let no : ⊥ = omega (arith, within) in absurd no);
          dated = subst (λ (n : ℕ). 1 ≤ n) (sym stamp_is) least;
          newest = subst (λ (n : ℕ). All (λ q. q.stamp < n) recs) (sym stamp_is) rules.dated;
          tape = tape_is;
          alone = λ q there other same. no_other q there same;
        }

    pub first_version : IsVersionOf o full r
    first_version = record {
      stamp = stamp_is;
      tape = tape_is;
      name = name_is;
      rules = records_with users recs r rules.records fits_first;
      place = inr (none, nobody, traps_are);
    }

-- AS THE CODE has them
pub rec_found : (files : List FileRec) (number : ℕ) (r : FileRec) → (let one : Option FileRec = Some r in one ≡ get (by_number files) number) → Contains files r × (r.number ≡ number)
rec_found files number r it =
    found_one nat_cmp_total nat_cmp-IsAntisymmetric (λ (s : FileRec). s.number) number files r (sym (get-from_entries nat_cmp_total (keyed (λ (s : FileRec). s.number) files) number) ∙ sym it)

-- the record of the file of a number
pub next_made : (o : OnlineFacts) → o.live ≡ true → IsTied o → o.contents.head.next_stamp < 2 ^ 62 → (len : ℕ) → len ≤ 65536 → (files : List FileRec) (number : ℕ) (file copied : FileRec) (stamp : ℕ)
    → files ≡ recs_in o.contents → (let one : Option FileRec = Some file in one ≡ get (by_number files) number) → copied ≡ file → stamp ≡ o.contents.head.next_stamp
    → (full : Full) → name_of_file o.contents.users (recs_in o.contents) number ≡ Some full → IsVersionOf o full (next_rec copied stamp len)
next_made o live tied early len short files number file copied stamp same it copy at full named =
    let here = subst (λ (fs : List FileRec). (let one : Option FileRec = Some file in one ≡ get (by_number fs) number)) same it in
    let (there, is) = rec_found (recs_in o.contents) number file here in
    let called : full_of o.contents.users file ≡ full =
    same_Some (full_of o.contents.users file) full (ap (λ (x : Option FileRec). option_map (full_of o.contents.users) x) here ∙ named) in
    subst (λ (r : FileRec). IsVersionOf o full r) (λ i. next_rec (sym copy i) (sym at i) len)
    (next_version o (rules_here o live tied) early len short file there full called)

-- what is required of the record that is inserted
pub is_next : (o : OnlineFacts) (bytes : List ℕ) (full : Full) (r : FileRec) (len : ℕ) → IsVersionOf o full r → o.contents.head.next_stamp < 2 ^ 62 → r.len ≡ len → len ≡ length bytes → IsNext o bytes r
is_next o bytes full r len version early is long = record { stamp = version.stamp; early = early; tape = version.tape; len = is ∙ long; rules = version.rules }

-- the record of a new file
pub first_made : (o : OnlineFacts) → o.live ≡ true → IsTied o → o.contents.head.next_stamp < 2 ^ 62 → (len : ℕ) → len ≤ 65536 → (full : Full) → number_of o.contents.users (recs_in o.contents) full ≡ None
    → is_word full.local ≡ true → is_lang full.lang ≡ true → (1 ≤ full.generation) × (full.generation ≤ 4095) → (us : List UserRec) (fs : List FileRec) → us ≡ o.contents.users → fs ≡ recs_in o.contents
    → (r : FileRec) → (r.number < 1024) × (get (by_number fs) r.number ≡ None) → (r.owner < length us) × (name_of us r.owner ≡ full.user) → r.local ≡ full.local → r.generation ≡ full.generation
    → r.lang ≡ full.lang → r.stamp ≡ o.contents.head.next_stamp → r.len ≡ len → r.traps ≡ record { owner = 31; others = [] } → r.tape ≡ None → IsVersionOf o full r
first_made o live tied early len short full none word lang generation us fs users files r free owner local_is generation_is lang_is stamp_is len_is traps_are tape_is =
    let owned = subst (λ (x : List UserRec). (r.owner < length x) × (name_of x r.owner ≡ full.user)) users owner in
    first_version o (rules_here o live tied) early len short full none word lang generation r free.0 (subst (λ (x : List FileRec). get (by_number x) r.number ≡ None) files free.1) owned.0 owned.1 local_is generation_is
    lang_is stamp_is len_is traps_are tape_is
