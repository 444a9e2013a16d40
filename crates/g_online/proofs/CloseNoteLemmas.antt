-- The noted places on tape are written into the records one by one.
-- serves: note_copies (files), note_copy (files, marks), with_copy (none, some), CloseMarkLemmas, CopiedLemmas, FewerLemmas, PinLemmas, crates above
use Rattle.std.proofs.Common.{◌≡◌, ◌≢◌, ◌⊎◌, ℕ, suc, ◌+◌, ◌<◌, ◌≤◌, ◌==◌, Bool, true, false, List, [], ◌∷◌, ◌++◌, length, get_or, map, take, drop, Option, Some, None, All, AllPairs, refl, sym, ◌∙◌, ap, subst, arith, inl, inr, if◌then◌else◌}
use Rattle.std.specs.Prelude.{Contains}
use Rattle.std.specs.FinMap as finmap
use Rattle.std.specs.FinMap.{get-from_entries, nat_cmp-IsAntisymmetric}
use Rattle.std.specs.Option.{option_map}
use Rattle.std.proofs.lemmas.Bool.{cases_Bool, cases_eq, cond-false, cond-true, eq-eqb, ne_eqb}
use Rattle.std.proofs.lemmas.Cmp.{nat_cmp_total}
use Rattle.std.proofs.lemmas.List.{get_or-map, get_or-take, get_or_default, length-map, length-take-le, map-append, take-append-drop, take_all, take_more}
use Rattle.std.proofs.lemmas.List.Elements.{All-contains, All-head, All-map, All-tail, Contains-get_or}
use Rattle.std.proofs.lemmas.List.Kept.{AllPairs-cons}
use Rattle.g_name.proofs.Order.{full_total}
use Rattle.g_plain.proofs.TextMaps.{full_exact}
use Rattle.g_entry.specs.declared.file_rec.FileRec.{FileRec}
use Rattle.g_entry.specs.declared.file_rec.TapeCopy.{TapeCopy}
use Rattle.g_entry.specs.declared.user_rec.UserRec.{UserRec}
use Rattle.g_entry.specs.FileFields.{IsFile}
use Rattle.g_entry.specs.Rules.{SameName}
use Rattle.g_tree.specs.Records.{IsRecords, by_number, full_of, number_of}
use Rattle.g_tree.specs.State.{TreeState, with_file}
use Rattle.g_tree.proofs.MapLemmas.{found_itself, found_one, keyed}
use Rattle.g_tree.proofs.PlaceLemmas.{numbered_apart}
use Rattle.g_tree.proofs.PutLemmas.{number_found}
use Rattle.g_tree.proofs.RecordLemmas.{names_apart}
use Rattle.g_tree.proofs.RuleLemmas.{one_of_key}
use Rattle.g_disc_contents.specs.Contents.{copied_rec, copy_of}
use Rattle.g_online.specs.declared.pinned.Pinned.{Pinned}
use Rattle.g_online.specs.DumpedVersions.{HasItsNumber, noted_at, noted_in}
use Rattle.g_online.proofs.EntryLemmas.{put-set}
use Rattle.g_online.proofs.VersionLemmas.{put_one}

abbrev pub Tapes : Type 0
Tapes = List (ℕ × TapeCopy)

-- The first place noted for a stamp in one list after the other.
copy_of-append : (xs ys : Tapes) (stamp : ℕ) (old : Option TapeCopy) → copy_of (xs ++ ys) stamp old ≡ copy_of xs stamp (copy_of ys stamp old)
copy_of-append [] ys stamp old = refl
copy_of-append (c ∷ cs) ys stamp old = ap (λ (t : Option TapeCopy). if c.0 == stamp then Some c.1 else t) (copy_of-append cs ys stamp old)

-- No place is noted for the stamp.
copy_of-none : (xs : Tapes) (stamp : ℕ) (old : Option TapeCopy) → All (λ c. c.0 ≢ stamp) xs → copy_of xs stamp old ≡ old
copy_of-none [] stamp old apart = refl
copy_of-none (c ∷ cs) stamp old apart =
    cond-false (c.0 == stamp) (Some c.1) (copy_of cs stamp old) (ne_eqb c.0 stamp (All-head (λ (d : ℕ × TapeCopy). d.0 ≢ stamp) c cs apart))
    ∙ copy_of-none cs stamp old (All-tail (λ (d : ℕ × TapeCopy). d.0 ≢ stamp) c cs apart)

-- The place that the first notes have for a stamp is that of all notes, or they have none.
copy_of-front : (xs ys : Tapes) (stamp : ℕ) (old : Option TapeCopy) → (copy_of xs stamp old ≡ old) ⊎ (copy_of xs stamp old ≡ copy_of (xs ++ ys) stamp old)
copy_of-front [] ys stamp old = inl refl
copy_of-front (c ∷ cs) ys stamp old = by_first (cases_Bool (c.0 == stamp)) (copy_of-front cs ys stamp old)
  where
    by_first : ((c.0 == stamp) ≡ true) ⊎ ((c.0 == stamp) ≡ false) → (copy_of cs stamp old ≡ old) ⊎ (copy_of cs stamp old ≡ copy_of (cs ++ ys) stamp old)
        → (copy_of (c ∷ cs) stamp old ≡ old) ⊎ (copy_of (c ∷ cs) stamp old ≡ copy_of ((c ∷ cs) ++ ys) stamp old)
    by_first (inl here) rest =
        inr (cond-true (c.0 == stamp) (Some c.1) (copy_of cs stamp old) here ∙ sym (cond-true (c.0 == stamp) (Some c.1) (copy_of (cs ++ ys) stamp old) here))
    by_first (inr away) (inl none) = inl (cond-false (c.0 == stamp) (Some c.1) (copy_of cs stamp old) away ∙ none)
    by_first (inr away) (inr same) =
        inr (cond-false (c.0 == stamp) (Some c.1) (copy_of cs stamp old) away ∙ same ∙ sym (cond-false (c.0 == stamp) (Some c.1) (copy_of (cs ++ ys) stamp old) away))

-- Lists that are made of lists.
pub map_same : {A B : Type 0} (f g : A → B) (xs : List A) → All (λ x. f x ≡ g x) xs → map f xs ≡ map g xs
map_same f g [] same = refl
map_same f g (x ∷ xs) same = λ i. All-head (λ y. f y ≡ g y) x xs same i ∷ map_same f g xs (All-tail (λ y. f y ≡ g y) x xs same) i

pub map_then : {A B C : Type 0} (f : B → C) (g : A → B) (h : A → C) (xs : List A) → All (λ x. f (g x) ≡ h x) xs → map f (map g xs) ≡ map h xs
map_then f g h [] same = refl
map_then f g h (x ∷ xs) same = λ i. All-head (λ y. f (g y) ≡ h y) x xs same i ∷ map_then f g h xs (All-tail (λ y. f (g y) ≡ h y) x xs same) i

map_itself : {A : Type 0} (xs : List A) → xs ≡ map (λ x. x) xs
map_itself [] = refl
map_itself (x ∷ xs) = ap (λ l. x ∷ l) (map_itself xs)

pub pairs_map : {A B : Type 0} (R : B → B → Type 0) (f : A → B) (xs : List A) → AllPairs (λ x y. R (f x) (f y)) xs → AllPairs R (map f xs)
pairs_map R f [] all = λ i j d less within. (let no : ⊥ = omega (arith, within) in absurd no)
pairs_map R f (x ∷ xs) all =
    AllPairs-cons R (f x) (map f xs) (All-map (R (f x)) f xs (λ k d within. all 0 (suc k) d (omega arith) (omega (arith, within))))
    (pairs_map R f xs (λ i j d less within. all (suc i) (suc j) d (omega (arith, less)) (omega (arith, within))))

taped : (r : FileRec) (a b : Option TapeCopy) → a ≡ b → (let s : FileRec = record r { tape = a } in s) ≡ record r { tape = b }
taped r a b same = ap (λ (t : Option TapeCopy). let s : FileRec = record r { tape = t } in s) same

-- The record of the version that has this stamp gets this place; another record is unchanged.
pub made_here : (r made : FileRec) (stamp : ℕ) (copy : TapeCopy) → made ≡ record r { tape = Some copy } → stamp ≡ r.stamp → made ≡ copied_rec ((stamp, copy) ∷ []) r
made_here r made stamp copy is here =
    is ∙ taped r (Some copy) (if stamp == r.stamp then Some copy else r.tape) (sym (cond-true (stamp == r.stamp) (Some copy) r.tape (eq-eqb stamp r.stamp here)))

pub made_none : (r : FileRec) (stamp : ℕ) (copy : TapeCopy) → (stamp ≡ r.stamp → ⊥) → copied_rec ((stamp, copy) ∷ []) r ≡ r
made_none r stamp copy away =
    taped r (if stamp == r.stamp then Some copy else r.tape) r.tape (cond-false (stamp == r.stamp) (Some copy) r.tape (ne_eqb stamp r.stamp away))

-- One more place is noted, for a stamp for which there was none yet, and which only the record of this number can have.
pub more_noted : (copies : Tapes) (stamp number : ℕ) (copy : TapeCopy) (r : FileRec) → All (λ c. c.0 ≢ stamp) copies → (r.stamp ≡ stamp → r.number ≡ number)
    → noted_at ((stamp, copy) ∷ []) number (copied_rec copies r) ≡ copied_rec (copies ++ (stamp, copy) ∷ []) r
more_noted copies stamp number copy r apart numbered = taped r here there (by_stamp (cases_eq stamp r.stamp))
  where
    was : Option TapeCopy
    was = copy_of copies r.stamp r.tape

    one : Option TapeCopy
    one = if stamp == r.stamp then Some copy else was

    here : Option TapeCopy
    here = if r.number == number then one else was

    there : Option TapeCopy
    there = copy_of (copies ++ (stamp, copy) ∷ []) r.stamp r.tape

    last : Option TapeCopy
    last = if stamp == r.stamp then Some copy else r.tape

    either : (b : Bool) → one ≡ was → (if b then one else was) ≡ was
    either true same = same
    either false same = refl

    by_stamp : (stamp ≡ r.stamp) ⊎ (stamp ≡ r.stamp → ⊥) → here ≡ there
    by_stamp (inl same) =
        let none : All (λ (c : ℕ × TapeCopy). c.0 ≢ r.stamp) copies = subst (λ (s : ℕ). All (λ (c : ℕ × TapeCopy). c.0 ≢ s) copies) same apart in
        cond-true (r.number == number) one was (eq-eqb r.number number (numbered (sym same)))
        ∙ cond-true (stamp == r.stamp) (Some copy) was (eq-eqb stamp r.stamp same)
        ∙ sym (copy_of-append copies ((stamp, copy) ∷ []) r.stamp r.tape ∙ ap (copy_of copies r.stamp) (cond-true (stamp == r.stamp) (Some copy) r.tape (eq-eqb stamp r.stamp same))
        ∙ copy_of-none copies r.stamp (Some copy) none)
    by_stamp (inr other) =
        either (r.number == number) (cond-false (stamp == r.stamp) (Some copy) was (ne_eqb stamp r.stamp other))
        ∙ sym (copy_of-append copies ((stamp, copy) ∷ []) r.stamp r.tape ∙ ap (copy_of copies r.stamp) (cond-false (stamp == r.stamp) (Some copy) r.tape (ne_eqb stamp r.stamp other)))

-- The rules of records hold after the first notes.
tape_one : (P : FileRec → Type 0) (xs ys : Tapes) (r : FileRec) → P r → P (copied_rec (xs ++ ys) r) → P (copied_rec xs r)
tape_one P xs ys r before after = by_front (copy_of-front xs ys r.stamp r.tape)
  where
    by_front : (copy_of xs r.stamp r.tape ≡ r.tape) ⊎ (copy_of xs r.stamp r.tape ≡ copy_of (xs ++ ys) r.stamp r.tape) → P (copied_rec xs r)
    by_front (inl same) = subst P (sym (taped r (copy_of xs r.stamp r.tape) r.tape same)) before
    by_front (inr same) = subst P (sym (taped r (copy_of xs r.stamp r.tape) (copy_of (xs ++ ys) r.stamp r.tape) same)) after

tape_all : (P : FileRec → Type 0) (xs ys : Tapes) (files : List FileRec) → All P files → All P (map (copied_rec (xs ++ ys)) files) → All P (map (copied_rec xs) files)
tape_all P xs ys files before after =
    let all : FileRec → FileRec = copied_rec (xs ++ ys) in
    All-map P (copied_rec xs) files
    (λ k d within.
    tape_one P xs ys (get_or files k d) (before k d within)
    (subst P (get_or-map all files k d (all d) within) (after k (all d) (let long = length-map files all in omega (arith, within, long)))))

rules_meanwhile : (xs ys : Tapes) (users : List UserRec) (files : List FileRec) → IsRecords users files → IsRecords users (map (copied_rec (xs ++ ys)) files) → IsRecords users (map (copied_rec xs) files)
rules_meanwhile xs ys users files before after =
    let f : FileRec → FileRec = copied_rec xs in
    let long = length-map files f in
    let few = before.among_files.few in
    record {
      each_user = before.each_user;
      among_users = before.among_users;
      each_file = tape_all IsFile xs ys files before.each_file after.each_file;
      numbers = record {
        rising = pairs_map (λ (r : FileRec) (s : FileRec). r.number < s.number) f files before.numbers.rising;
        below = All-map (λ (r : FileRec). r.number < 1024) f files before.numbers.below;
      };
      among_files = record {
        few = omega (arith, long, few);
        owners = All-map (λ (r : FileRec). r.owner < length users) f files before.among_files.owners;
        trapped = All-map (λ (r : FileRec). All (λ pair. pair.0 < length users) r.traps.others) f files before.among_files.trapped;
        names = pairs_map (λ (r : FileRec) (s : FileRec). SameName r s → ⊥) f files
            (λ i j d less within. λ same. before.among_files.names i j d less within (record { owner = same.owner; local = same.local; generation = same.generation; lang = same.lang }));
        stamps = pairs_map (λ (r : FileRec) (s : FileRec). r.stamp ≢ s.stamp) f files before.among_files.stamps;
        dated = All-map (λ (r : FileRec). 1 ≤ r.stamp) f files before.among_files.dated;
        empty = tape_all (λ (r : FileRec). r.len ≡ 0 → r.tape ≡ None) xs ys files before.among_files.empty after.among_files.empty;
      };
    }

-- The files have the places that are noted for the first versions.
pub record IsNoting (pins : List Pinned) (place : ℕ) (old new : TreeState) : Type 0 where
  pub users : new.users ≡ old.users
  pub files : new.files ≡ map (copied_rec (noted_in (take place pins))) old.files

pub noting_none : (pins : List Pinned) (old : TreeState) → IsNoting pins 0 old old
noting_none pins old = record { users = refl; files = map_itself old.files }

pub noting_all : (pins : List Pinned) (place : ℕ) (old new : TreeState) → length pins ≤ place → IsNoting pins place old new → new.files ≡ map (copied_rec (noted_in pins)) old.files
noting_all pins place old new all was = was.files ∙ ap (λ (ps : List Pinned). map (copied_rec (noted_in ps)) old.files) (take_all place pins all)

module _ (pins : List Pinned) (place : ℕ) (p : Pinned) (within : place < length pins) (is : get_or pins place p ≡ p) where
  pub further : noted_in (take (place + 1) pins) ≡ noted_in (take place pins) ++ (p.stamp, p.copy) ∷ []
  further =
      ap noted_in (take_more pins place p within ∙ ap (λ (q : Pinned). take place pins ++ q ∷ []) is)
      ∙ map-append (λ (q : Pinned). let c : ℕ × TapeCopy = (q.stamp, q.copy) in c) (take place pins) (p ∷ [])

  -- The version's stamp isn't among the earlier ones.
  apart_before : AllPairs (λ (q : Pinned) (r : Pinned). q.stamp ≢ r.stamp) pins → All (λ (c : ℕ × TapeCopy). c.0 ≢ p.stamp) (noted_in (take place pins))
  apart_before apart =
      All-map (λ (c : ℕ × TapeCopy). c.0 ≢ p.stamp) (λ (q : Pinned). let c : ℕ × TapeCopy = (q.stamp, q.copy) in c) (take place pins)
      (λ k d inside same.
      let long = length-take-le place pins (omega (arith, within)) in
      let before : k < place = omega (arith, inside, long) in
      apart k place d before within
      (ap (λ (q : Pinned). q.stamp) (sym (get_or-take place pins k d before)) ∙ same ∙ ap (λ (q : Pinned). q.stamp) (sym (get_or_default pins place d p within ∙ is))))

  pub noted_more : (files : List FileRec) → AllPairs (λ (q : Pinned) (r : Pinned). q.stamp ≢ r.stamp) pins → All (λ (q : Pinned). All (HasItsNumber q) files) pins
      → All (λ (r : FileRec). noted_at (noted_in (p ∷ [])) p.number (copied_rec (noted_in (take place pins)) r) ≡ copied_rec (noted_in (take (place + 1) pins)) r) files
  noted_more files apart numbered = λ k d inside.
      let r : FileRec = get_or files k d in
      let numbers : All (HasItsNumber p) files = subst (λ (q : Pinned). All (HasItsNumber q) files) is (numbered place p within) in
      more_noted (noted_in (take place pins)) p.stamp p.number p.copy r (apart_before apart) (numbers k d inside) ∙ ap (λ (cs : Tapes). copied_rec cs r) (sym further)

  module _ (old mid : TreeState) (apart : AllPairs (λ (q : Pinned) (r : Pinned). q.stamp ≢ r.stamp) pins) (numbered : All (λ (q : Pinned). All (HasItsNumber q) old.files) pins)
      (was : IsNoting pins place old mid) where
    pub noting_next : map (noted_at (noted_in (p ∷ [])) p.number) mid.files ≡ map (copied_rec (noted_in (take (place + 1) pins))) old.files
    noting_next =
        ap (map (noted_at (noted_in (p ∷ [])) p.number)) was.files
        ∙ map_then (noted_at (noted_in (p ∷ [])) p.number) (copied_rec (noted_in (take place pins))) (copied_rec (noted_in (take (place + 1) pins))) old.files (noted_more old.files apart numbered)

    pub noting_more : (new : TreeState) → new.users ≡ mid.users → new.files ≡ map (noted_at (noted_in (p ∷ [])) p.number) mid.files → IsNoting pins (place + 1) old new
    noting_more new users files = record { users = users ∙ was.users; files = files ∙ noting_next }

    pub noting_rules : IsRecords old.users old.files → IsRecords old.users (map (copied_rec (noted_in pins)) old.files) → IsRecords mid.users (map (noted_at (noted_in (p ∷ [])) p.number) mid.files)
    noting_rules before after =
        let split : noted_in pins ≡ noted_in (take (place + 1) pins) ++ noted_in (drop (place + 1) pins) =
        ap noted_in (sym (take-append-drop (place + 1) pins)) ∙ map-append (λ (q : Pinned). let c : ℕ × TapeCopy = (q.stamp, q.copy) in c) (take (place + 1) pins) (drop (place + 1) pins) in
        subst (λ (us : List UserRec). IsRecords us (map (noted_at (noted_in (p ∷ [])) p.number) mid.files)) (sym was.users)
        (subst (IsRecords old.users) (sym noting_next)
        (rules_meanwhile (noted_in (take (place + 1) pins)) (noted_in (drop (place + 1) pins)) old.users old.files before
        (subst (λ (cs : Tapes). IsRecords old.users (map (copied_rec cs) old.files)) split after)))

-- One file.
module _ (copies : Tapes) (number : ℕ) where
  here_noted : (s : FileRec) → s.number ≡ number → noted_at copies number s ≡ copied_rec copies s
  here_noted s same =
      taped s (if s.number == number then copy_of copies s.stamp s.tape else s.tape) (copy_of copies s.stamp s.tape) (cond-true (s.number == number) (copy_of copies s.stamp s.tape) s.tape (eq-eqb s.number number same))

  pub other_noted : (s : FileRec) → s.number ≢ number → noted_at copies number s ≡ s
  other_noted s other =
      taped s (if s.number == number then copy_of copies s.stamp s.tape else s.tape) s.tape (cond-false (s.number == number) (copy_of copies s.stamp s.tape) s.tape (ne_eqb s.number number other))

module _ (copies : Tapes) (users : List UserRec) (files : List FileRec) (rules : IsRecords users files) (number : ℕ) where
  no_number : (r : FileRec) → (let none : Option FileRec = None in none ≡ Some r) → ⊥
  no_number r e = cc

  -- there is none
  pub none_at : (let none : Option FileRec = None in none ≡ finmap.get (by_number files) number) → files ≡ map (noted_at copies number) files
  none_at none =
      map_itself files
      ∙ map_same (λ r. r) (noted_at copies number) files
      (λ k d within. sym (other_noted copies number (get_or files k d) (λ same. no_number (get_or files k d) (none ∙ number_found users files rules number (get_or files k d) (Contains-get_or files k d within) same))))

  -- there is one
  file_there : (r : FileRec) → (let one : Option FileRec = Some r in one ≡ finmap.get (by_number files) number) → Contains files r × (r.number ≡ number)
  file_there r found =
      found_one nat_cmp_total nat_cmp-IsAntisymmetric (λ (s : FileRec). s.number) number files r
      (sym (get-from_entries nat_cmp_total (keyed (λ (s : FileRec). s.number) files) number) ∙ sym found)

  pub found_below : (r : FileRec) → (let one : Option FileRec = Some r in one ≡ finmap.get (by_number files) number) → number < 1024
  found_below r found =
      let there = file_there r found in
      let below : r.number < 1024 = All-contains (λ (s : FileRec). s.number < 1024) files r rules.numbers.below there.0 in
      let is = there.1 in omega (arith, below, is)

  put_noted : (r : FileRec) → Contains files r → r.number ≡ number → with_file (copied_rec copies r) files ≡ map (noted_at copies number) files
  put_noted r there at =
      put-set (copied_rec copies r) files rules.numbers.rising (there.0, (let inside = there.1 in let long = length-map files (λ (s : FileRec). s.number) in omega (arith, inside, long)), number_in)
      ∙ map_same (put_one (copied_rec copies r)) (noted_at copies number) files
      (λ k d within. by_number (get_or files k d) (Contains-get_or files k d within) (cases_eq (get_or files k d).number number))
    where
      number_in : get_or (map (λ (s : FileRec). s.number) files) there.0 r.number ≡ r.number
      number_in = get_or-map (λ (s : FileRec). s.number) files there.0 r r.number there.1 ∙ ap (λ (s : FileRec). s.number) there.2

      by_number : (s : FileRec) → Contains files s → (s.number ≡ number) ⊎ (s.number ≡ number → ⊥) → put_one (copied_rec copies r) s ≡ noted_at copies number s
      by_number s in_it (inl same) =
          cond-true (s.number == r.number) (copied_rec copies r) s (eq-eqb s.number r.number (same ∙ sym at))
          ∙ ap (copied_rec copies) (one_of_key (λ (t : FileRec). t.number) files r s (numbered_apart files rules.numbers number) there in_it (at ∙ sym same))
          ∙ sym (here_noted copies number s same)
      by_number s in_it (inr other) =
          cond-false (s.number == r.number) (copied_rec copies r) s (ne_eqb s.number r.number (λ same. other (same ∙ at))) ∙ sym (other_noted copies number s other)

  -- none is noted for it
  pub kept_here : (r : FileRec) → (let one : Option FileRec = Some r in one ≡ finmap.get (by_number files) number) → copied_rec copies r ≡ r → files ≡ map (noted_at copies number) files
  kept_here r found same =
      map_itself files
      ∙ map_same (λ r. r) (noted_at copies number) files
      (λ k d within. by_case (get_or files k d) (Contains-get_or files k d within) (cases_eq (get_or files k d).number number))
    where
      by_case : (s : FileRec) → Contains files s → (s.number ≡ number) ⊎ (s.number ≡ number → ⊥) → s ≡ noted_at copies number s
      by_case s in_it (inl at) =
          let there = file_there r found in
          let it : r ≡ s = one_of_key (λ (t : FileRec). t.number) files r s (numbered_apart files rules.numbers number) there.0 in_it (there.1 ∙ sym at) in
          subst (λ (t : FileRec). t ≡ copied_rec copies t) it (sym same) ∙ sym (here_noted copies number s at)
      by_case s in_it (inr other) = sym (other_noted copies number s other)

  named_itself : (r : FileRec) → Contains files r → number_of users files (full_of users r) ≡ Some r.number
  named_itself r there =
      ap (option_map (λ (s : FileRec). s.number))
      (get-from_entries full_total (keyed (full_of users) files) (full_of users r) ∙ found_itself full_total full_exact (full_of users) files r (names_apart users files rules) there)

  -- what the tree requires
  pub name_there : (r noted : FileRec) → (let one : Option FileRec = Some r in one ≡ finmap.get (by_number files) number) → noted ≡ copied_rec copies r
      → number_of users files (full_of users noted) ≡ Some noted.number
  name_there r noted found is =
      subst (λ (s : FileRec). number_of users files (full_of users s) ≡ Some s.number) (sym is) (named_itself r (file_there r found).0)

  pub put_here : (r noted : FileRec) → (let one : Option FileRec = Some r in one ≡ finmap.get (by_number files) number) → noted ≡ copied_rec copies r → with_file noted files ≡ map (noted_at copies number) files
  put_here r noted found is =
      ap (λ (s : FileRec). with_file s files) is ∙ put_noted r (file_there r found).0 (file_there r found).1
