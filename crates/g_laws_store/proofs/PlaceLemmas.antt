-- Places by stamp, after each change of contents.
-- serves: places_go_by_change (places, taken), CallLemmas, OpenedLemmas, PutLemmas, RoomLemmas, SetLemmas, StandLemmas, StillLemmas, UnjamLemmas, and 2 more
use Rattle.std.proofs.Common.{◌≡◌, ◌≢◌, ℕ, ◌<◌, Bool, true, false, cond, List, [], ◌∷◌, get_or, Option, Some, None, is_some, unwrap_or, refl, sym, ◌∙◌, ap, arith, subst, inl, inr}
use Rattle.std.specs.Prelude.{◌⊎◌, ◌==◌, ◌&&◌, T, All, Contains, filter, map, nat_lt, not, if◌then◌else◌}
use Rattle.std.specs.Option.{option_map}
use Rattle.std.specs.Ordering.{nat_cmp, eq_by_cmp, is_lt}
use Rattle.std.specs.Cmp.{eq_by_cmp_equiv}
use Rattle.std.specs.FinMap.{FinMap, find, get, insert, remove, entries, entries_sorted, from_entries, from_sorted, is_sorted, same_map, get-entries, get-from_entries, get-from_sorted, get-insert, get-remove, nat_cmp-IsAntisymmetric}
use Rattle.std.specs.FinMap.Entries.{below_all}
use Rattle.std.proofs.lemmas.Bool.{and_parts, cases_eq, cases_order, cond-false, cond-true, eq-eqb, eqb-false, eqb-true, lt-ltb, ltb-true, ne_eqb, not-true}
use Rattle.std.proofs.lemmas.Cmp.{nat_cmp_total}
use Rattle.std.proofs.lemmas.List.Elements.{All-cons, All-contains, All-head, All-nil, All-tail, All-weaker, Contains-append_cases, Contains-append_left, Contains-append_right, Contains-get_or, filter_passes}
use Rattle.g_base.specs.Block.{blocks_for}
use Rattle.g_entry.specs.declared.file_rec.FileRec.{FileRec}
use Rattle.g_entry.specs.declared.file_rec.TapeCopy.{TapeCopy}
use Rattle.g_plain.proofs.Found.{apart_is, here, stays, tied_are}
use Rattle.g_tree.proofs.ListLemmas.{contains_cases, map_of_map}
use Rattle.g_tree.proofs.MapLemmas.{found_itself, found_one, get_valued, keyed, none_found, with_value}
use Rattle.g_disc_contents.specs.Contents.{File, brought, copy_of, has, offline_in, online_with, set_rec, taken_off, with_copies, with_copy, with_file, with_rec, without_file}
use Rattle.g_disc_contents.specs.Facts.{Pin, noted}
use Rattle.g_store_model.specs.State.{Holding, OpenDump, Place, is_candidate, place_at, taken_offline, with_online}
use Rattle.g_store_model.specs.DumpSteps.{noted_copy, with_noted}
use Rattle.g_store_meaning.specs.Laws.{RecordsAnew}
use Rattle.g_store_meaning.specs.Reading.{place_of, places_of, waiting_of}
use Rattle.g_laws_store.proofs.ClosingLemmas.{contains_filter}
use Rattle.g_laws_store.proofs.PinLemmas.{pairs}
use Rattle.g_laws_store.proofs.RecordLemmas.{apart_in, from_filter}
use Rattle.g_laws_store.specs.Places.{AreDistinct, AreNotedIn, IsOfStamp, PlacesGoByChange, TakenHaveCopies}

abbrev pub stamp_of : File → ℕ
stamp_of f = f.rec.stamp

-- LOOKING UP
pub get_place : (files : List File) (q : ℕ) → get (places_of files) q ≡ option_map place_of (find nat_cmp q (keyed stamp_of files))
get_place files q =
    ap (λ es. get (from_entries {R = nat_cmp} es) q) (sym (map_of_map (with_value nat_cmp place_of) (λ (f : File). (f.rec.stamp, f)) files))
    ∙ get_valued nat_cmp place_of nat_cmp_total (keyed stamp_of files) q
    ∙ ap (option_map place_of) (get-from_entries nat_cmp_total (keyed stamp_of files) q)

pub place_found : (files : List File) (f : File) → AreDistinct files → Contains files f → get (places_of files) f.rec.stamp ≡ Some (place_of f)
place_found files f distinct there =
    get_place files f.rec.stamp ∙ ap (option_map place_of) (found_itself nat_cmp_total nat_cmp-IsAntisymmetric stamp_of files f distinct there)

abbrev Isnt : ℕ → File → Type 0
Isnt q f = q ≢ f.rec.stamp

place_none : (files : List File) (q : ℕ) → All (Isnt q) files → get (places_of files) q ≡ None
place_none files q all = get_place files q ∙ ap (option_map place_of) (none_found nat_cmp_total nat_cmp-IsAntisymmetric stamp_of q files all)

record IsThere (files : List File) (q : ℕ) : Type 0 where
  file : File
  there : Contains files file
  is : file.rec.stamp ≡ q

seek : (files : List File) (q : ℕ) → IsThere files q ⊎ All (Isnt q) files
seek [] q = inr (All-nil (Isnt q))
seek (f ∷ fs) q = by_first (cases_eq f.rec.stamp q) (seek fs q)
  where
    by_first : (f.rec.stamp ≡ q) ⊎ (f.rec.stamp ≡ q → ⊥) → IsThere fs q ⊎ All (Isnt q) fs → IsThere (f ∷ fs) q ⊎ All (Isnt q) (f ∷ fs)
    by_first (inl is) rest = inl (record { file = f; there = (0, omega arith, refl); is = is })
    by_first (inr isnt) (inl found) = inl (record { file = found.file; there = Contains-append_right (f ∷ []) fs found.file found.there; is = found.is })
    by_first (inr isnt) (inr none) = inr (All-cons (Isnt q) f fs (λ e. isnt (sym e)) none)

-- the same places, if each file has its own in the other map too, and no others have any
same_places : (files : List File) (m : FinMap nat_cmp Place) → AreDistinct files → ((f : File) → Contains files f → get m f.rec.stamp ≡ Some (place_of f))
    → ((q : ℕ) → All (Isnt q) files → get m q ≡ None) → places_of files ≡ m
same_places files m distinct each none = same_map nat_cmp_total nat_cmp-IsAntisymmetric (places_of files) m (λ q. at q (seek files q))
  where
    at : (q : ℕ) → IsThere files q ⊎ All (Isnt q) files → get (places_of files) q ≡ get m q
    at q (inl found) = subst (λ (n : ℕ). get (places_of files) n ≡ get m n) found.is (place_found files found.file distinct found.there ∙ sym (each found.file found.there))
    at q (inr all) = place_none files q all ∙ sym (none q all)

-- what an insertion and a removal leave
kept_insert : (m : FinMap nat_cmp Place) (k q : ℕ) (v : Place) → q ≢ k → get (insert m k v) q ≡ get m q
kept_insert m k q v other =
    get-insert nat_cmp_total m k v q ∙ ap (λ (t : Bool). cond t (Some v) (get m q)) (apart_is nat_cmp_total nat_cmp-IsAntisymmetric q k other)

kept_remove : (m : FinMap nat_cmp Place) (k q : ℕ) → q ≢ k → get (remove m k) q ≡ get m q
kept_remove m k q other = stays nat_cmp_total nat_cmp-IsAntisymmetric m k q other

gone : (m : FinMap nat_cmp Place) (k : ℕ) → get (remove m k) k ≡ None
gone m k = get-remove nat_cmp_total m k k ∙ ap (λ (t : Bool). cond t None (get m k)) ((eq_by_cmp_equiv nat_cmp_total).refl k)

removed_none : (m : FinMap nat_cmp Place) (k q : ℕ) → (q ≢ k → get m q ≡ None) → get (remove m k) q ≡ None
removed_none m k q none = by_key (cases_eq q k)
  where
    by_key : (q ≡ k) ⊎ (q ≡ k → ⊥) → get (remove m k) q ≡ None
    by_key (inl is) = subst (λ (n : ℕ). get (remove m k) n ≡ None) (sym is) (gone m k)
    by_key (inr isnt) = kept_remove m k q isnt ∙ none isnt

-- A NEW VERSION
abbrev below : ℕ → File → Bool
below number g = nat_lt g.rec.number number

abbrev beyond : ℕ → File → Bool
beyond number g = nat_lt number g.rec.number

record IsApartFrom (files : List File) (number : ℕ) (g : File) : Type 0 where
  there : Contains files g
  other : g.rec.number ≢ number

in_parts : (files : List File) (f g : File) → Contains (with_file f files) g → (f ≡ g) ⊎ IsApartFrom files f.rec.number g
in_parts files f g there = by_part (Contains-append_cases (filter (below f.rec.number) files) (f ∷ filter (beyond f.rec.number) files) g there)
  where
    by_rest : (f ≡ g) ⊎ Contains (filter (beyond f.rec.number) files) g → (f ≡ g) ⊎ IsApartFrom files f.rec.number g
    by_rest (inl same) = inl same
    by_rest (inr later) =
        let test = All-contains (λ (h : File). beyond f.rec.number h ≡ true) (filter (beyond f.rec.number) files) g (filter_passes (beyond f.rec.number) files) later in
        let more = ltb-true f.rec.number g.rec.number test in
        inr (record { there = from_filter (beyond f.rec.number) files g later; other = λ e. let no : ⊥ = omega (arith, more, e) in no })

    by_part : Contains (filter (below f.rec.number) files) g ⊎ Contains (f ∷ filter (beyond f.rec.number) files) g → (f ≡ g) ⊎ IsApartFrom files f.rec.number g
    by_part (inl before) =
        let test = All-contains (λ (h : File). below f.rec.number h ≡ true) (filter (below f.rec.number) files) g (filter_passes (below f.rec.number) files) before in
        let less = ltb-true g.rec.number f.rec.number test in
        inr (record { there = from_filter (below f.rec.number) files g before; other = λ e. let no : ⊥ = omega (arith, less, e) in no })
    by_part (inr behind) = by_rest (contains_cases f g (filter (beyond f.rec.number) files) behind)

to_parts : (files : List File) (f g : File) → Contains files g → g.rec.number ≢ f.rec.number → Contains (with_file f files) g
to_parts files f g there other = by_order (cases_order g.rec.number f.rec.number)
  where
    by_order : (g.rec.number ≡ f.rec.number) ⊎ ((g.rec.number < f.rec.number) ⊎ (f.rec.number < g.rec.number)) → Contains (with_file f files) g
    by_order (inl same) = absurd (other same)
    by_order (inr (inl less)) =
        Contains-append_left (filter (below f.rec.number) files) (f ∷ filter (beyond f.rec.number) files) g
        (contains_filter (below f.rec.number) files g there (lt-ltb g.rec.number f.rec.number less))
    by_order (inr (inr more)) =
        Contains-append_right (filter (below f.rec.number) files) (f ∷ filter (beyond f.rec.number) files) g
        (Contains-append_right (f ∷ []) (filter (beyond f.rec.number) files) g (contains_filter (beyond f.rec.number) files g there (lt-ltb f.rec.number g.rec.number more)))

pub itself_there : (files : List File) (f : File) → Contains (with_file f files) f
itself_there files f = Contains-append_right (filter (below f.rec.number) files) (f ∷ filter (beyond f.rec.number) files) f (0, omega arith, refl)

abbrev Other : File → File → Type 0
Other f g = f.rec.stamp ≢ g.rec.stamp

-- a file with neither the number nor the stamp
none_of : (files : List File) (q number old : ℕ) → All (IsOfStamp number old) files → q ≢ old → ((g : File) → Contains files g → g.rec.number ≢ number → q ≢ g.rec.stamp) → All (Isnt q) files
none_of files q number old of other each i d within = by_number (cases_eq g.rec.number number)
  where
    g : File
    g = get_or files i d

    in_files : Contains files g
    in_files = Contains-get_or files i d within

    by_number : (g.rec.number ≡ number) ⊎ (g.rec.number ≡ number → ⊥) → q ≢ g.rec.stamp
    by_number (inl same) = λ e. other (e ∙ (of i d within).0 same)
    by_number (inr apart) = each g in_files apart

version_places : (files : List File) (f : File) (old : ℕ) → AreDistinct files → AreDistinct (with_file f files) → All (IsOfStamp f.rec.number old) files
    → places_of (with_file f files) ≡ insert (remove (places_of files) old) f.rec.stamp (place_of f)
version_places files f old distinct distinct_new of =
    same_places (with_file f files) (insert (remove (places_of files) old) f.rec.stamp (place_of f)) distinct_new
    (λ g there. at g there (in_parts files f g there))
    (λ q all.
    kept_insert (remove (places_of files) old) f.rec.stamp q (place_of f) (All-contains (Isnt q) (with_file f files) f all (itself_there files f))
    ∙ removed_none (places_of files) old q
    (λ other. place_none files q (none_of files q f.rec.number old of other (λ g in_files apart. All-contains (Isnt q) (with_file f files) g all (to_parts files f g in_files apart)))))
  where
    at : (g : File) → Contains (with_file f files) g → (f ≡ g) ⊎ IsApartFrom files f.rec.number g → get (insert (remove (places_of files) old) f.rec.stamp (place_of f)) g.rec.stamp ≡ Some (place_of g)
    at g there (inl same) =
        subst (λ (h : File). get (insert (remove (places_of files) old) f.rec.stamp (place_of f)) h.rec.stamp ≡ Some (place_of h)) same
        (here nat_cmp_total nat_cmp-IsAntisymmetric (remove (places_of files) old) f.rec.stamp (place_of f))
    at g there (inr is) =
        let apart = apart_in Other (λ x y other e. other (sym e)) (with_file f files) distinct_new g f there (itself_there files f) (λ e. is.other (ap (λ (h : File). h.rec.number) e)) in
        let not_old : g.rec.stamp ≢ old = λ e. is.other ((All-contains (IsOfStamp f.rec.number old) files g of is.there).1 e) in
        kept_insert (remove (places_of files) old) f.rec.stamp g.rec.stamp (place_of f) apart ∙ kept_remove (places_of files) old g.rec.stamp not_old ∙ place_found files g distinct is.there

-- A FILE ERASED
abbrev stands : ℕ → File → Bool
stands number g = not (g.rec.number == number)

erased_places : (files : List File) (number old : ℕ) → AreDistinct files → AreDistinct (without_file number files) → All (IsOfStamp number old) files
    → places_of (without_file number files) ≡ remove (places_of files) old
erased_places files number old distinct distinct_new of =
    same_places (without_file number files) (remove (places_of files) old) distinct_new
    (λ g there.
    let in_files = from_filter (stands number) files g there in
    let test = All-contains (λ (h : File). stands number h ≡ true) (filter (stands number) files) g (filter_passes (stands number) files) there in
    let apart : g.rec.number ≢ number = eqb-false g.rec.number number (not-true (g.rec.number == number) test) in
    kept_remove (places_of files) old g.rec.stamp (λ e. apart ((All-contains (IsOfStamp number old) files g of in_files).1 e)) ∙ place_found files g distinct in_files)
    (λ q all.
    removed_none (places_of files) old q
    (λ other.
    place_none files q
    (none_of files q number old of other
    (λ g in_files apart.
    All-contains (Isnt q) (without_file number files) g all (contains_filter (stands number) files g in_files (ap not (ne_eqb g.rec.number number apart)))))))

-- CHANGES OF EACH FILE BY ITSELF
pub find_mapped : (h : File → File) (q : ℕ) (files : List File) → All (λ g. (h g).rec.stamp ≡ g.rec.stamp) files → find nat_cmp q (keyed stamp_of (map h files)) ≡ option_map h (find nat_cmp q (keyed stamp_of files))
find_mapped h q [] same = refl
find_mapped h q (g ∷ gs) same =
    ap (λ (n : ℕ). cond (eq_by_cmp nat_cmp q n) (Some (h g)) (find nat_cmp q (keyed stamp_of (map h gs)))) (All-head (λ (f : File). (h f).rec.stamp ≡ f.rec.stamp) g gs same)
    ∙ ap (λ (o : Option File). cond (eq_by_cmp nat_cmp q g.rec.stamp) (Some (h g)) o) (find_mapped h q gs (All-tail (λ (f : File). (h f).rec.stamp ≡ f.rec.stamp) g gs same))
    ∙ by_key (eq_by_cmp nat_cmp q g.rec.stamp)
  where
    by_key : (b : Bool) → cond b (Some (h g)) (option_map h (find nat_cmp q (keyed stamp_of gs))) ≡ option_map h (cond b (Some g) (find nat_cmp q (keyed stamp_of gs)))
    by_key true = refl
    by_key false = refl

pub mapped_places : (h : File → File) (k : ℕ → Place → Place) (files : List File) (m : FinMap nat_cmp Place) → All (λ g. (h g).rec.stamp ≡ g.rec.stamp) files
    → All (λ g. place_of (h g) ≡ k g.rec.stamp (place_of g)) files → ((q : ℕ) → get m q ≡ option_map (k q) (get (places_of files) q)) → places_of (map h files) ≡ m
mapped_places h k files m same each is =
    same_map nat_cmp_total nat_cmp-IsAntisymmetric (places_of (map h files)) m
    (λ q. get_place (map h files) q ∙ ap (option_map place_of) (find_mapped h q files same) ∙ at q (find nat_cmp q (keyed stamp_of files)) refl ∙ ap (option_map (k q)) (sym (get_place files q)) ∙ sym (is q))
  where
    at : (q : ℕ) (o : Option File) → find nat_cmp q (keyed stamp_of files) ≡ o → option_map place_of (option_map h o) ≡ option_map (k q) (option_map place_of o)
    at q None found = refl
    at q (Some g) found =
        let one = found_one nat_cmp_total nat_cmp-IsAntisymmetric stamp_of q files g found in
        ap (λ (p : Place). let o : Option Place = Some p in o)
        (All-contains (λ (f : File). place_of (h f) ≡ k f.rec.stamp (place_of f)) files g each one.0 ∙ ap (λ (n : ℕ). k n (place_of g)) one.1)

-- a map whose values are changed by their keys
module _ (k : ℕ → Place → Place) where
  abbrev by_key : ℕ × Place → ℕ × Place
  by_key e = (e.0, k e.0 e.1)

  below_same : (n : ℕ) (es : List (ℕ × Place)) → below_all nat_cmp n (map by_key es) ≡ below_all nat_cmp n es
  below_same n [] = refl
  below_same n (e ∷ es) = ap (λ (b : Bool). is_lt (nat_cmp n e.0) && b) (below_same n es)

  sorted_same : (es : List (ℕ × Place)) → is_sorted nat_cmp (map by_key es) ≡ is_sorted nat_cmp es
  sorted_same [] = refl
  sorted_same (e ∷ es) =
      ap (λ (b : Bool). b && is_sorted nat_cmp (map by_key es)) (below_same e.0 es) ∙ ap (λ (b : Bool). below_all nat_cmp e.0 es && b) (sorted_same es)

  find_by : (q : ℕ) (es : List (ℕ × Place)) → find nat_cmp q (map by_key es) ≡ option_map (k q) (find nat_cmp q es)
  find_by q [] = refl
  find_by q (e ∷ es) = at (eq_by_cmp nat_cmp q e.0) refl (find_by q es)
    where
      at : (b : Bool) → eq_by_cmp nat_cmp q e.0 ≡ b → find nat_cmp q (map by_key es) ≡ option_map (k q) (find nat_cmp q es)
          → cond b (Some (k e.0 e.1)) (find nat_cmp q (map by_key es)) ≡ option_map (k q) (cond b (Some e.1) (find nat_cmp q es))
      at true is rest = ap (λ (n : ℕ). let o : Option Place = Some (k n e.1) in o) (sym (tied_are nat_cmp_total nat_cmp-IsAntisymmetric q e.0 is))
      at false is rest = rest

  pub get_by : (m : FinMap nat_cmp Place) (q : ℕ) → get (from_sorted {R = nat_cmp} (map by_key (entries m))) q ≡ option_map (k q) (get m q)
  get_by m q =
      get-from_sorted nat_cmp (map by_key (entries m)) q (subst (λ (b : Bool). T b) (sym (sorted_same (entries m))) (entries_sorted m)) ∙ find_by q (entries m) ∙ ap (option_map (k q)) (sym (get-entries m q))

-- the same record, but for what isn't said of it
entry_by : Bool → Option TapeCopy → Place
entry_by online copy = record { online = online; copy = copy }

choose : {A : Type 0} (P : A → Type 0) (b : Bool) (x y : A) → (b ≡ true → P x) → (b ≡ false → P y) → P (if b then x else y)
choose P true x y on off = on refl
choose P false x y on off = off refl

recorded_places : (files : List File) (r : FileRec) → All (RecordsAnew r) files → places_of (set_rec r files) ≡ places_of files
unfolding entry_by
recorded_places files r anew =
    mapped_places (with_rec r) (λ q p. p) files (places_of files)
    (All-weaker (RecordsAnew r) (λ (g : File). (with_rec r g).rec.stamp ≡ g.rec.stamp)
    (λ g is. choose (λ (h : File). h.rec.stamp ≡ g.rec.stamp) (g.rec.number == r.number) (record g { rec = r }) g (λ e. (is (eqb-true g.rec.number r.number e)).stamp) (λ e. refl)) files anew)
    (All-weaker (RecordsAnew r) (λ (g : File). place_of (with_rec r g) ≡ place_of g)
    (λ g is.
    choose (λ (h : File). place_of h ≡ place_of g) (g.rec.number == r.number) (record g { rec = r }) g
    (λ e. ap (entry_by g.online) (is (eqb-true g.rec.number r.number e)).tape) (λ e. refl)) files anew)
    (λ q. same_option (get (places_of files) q))
  where
    same_option : (o : Option Place) → o ≡ option_map (λ (p : Place). p) o
    same_option None = refl
    same_option (Some p) = refl

-- A FILE BROUGHT BACK
abbrev brought_by : ℕ → ℕ → Place → Place
brought_by stamp q p = if q == stamp then record p { online = true } else p

kept_others : (stamp q : ℕ) (o : Option Place) → (q ≡ stamp → ⊥) → o ≡ option_map (brought_by stamp q) o
kept_others stamp q None isnt = refl
kept_others stamp q (Some p) isnt = ap (λ (y : Place). let o : Option Place = Some y in o) (sym (cond-false (q == stamp) (record p { online = true }) p (ne_eqb q stamp isnt)))

back_places : (files : List File) (f : File) (bytes : Option (List ℕ)) → AreDistinct files → Contains files f → All (IsOfStamp f.rec.number f.rec.stamp) files
    → places_of (brought f.rec.number bytes files) ≡ with_online true f.rec.stamp (places_of files)
unfolding entry_by
back_places files f bytes distinct there of =
    mapped_places (online_with f.rec.number bytes) (brought_by f.rec.stamp) files (with_online true f.rec.stamp (places_of files))
    (λ i d within. let g = get_or files i d in choose (λ (h : File). h.rec.stamp ≡ g.rec.stamp) (g.rec.number == f.rec.number) (record g { online = true; bytes = bytes }) g (λ e. refl) (λ e. refl))
    (λ i d within. at (get_or files i d) (of i d within))
    (λ q. found q (cases_eq q f.rec.stamp))
  where
    at : (g : File) → IsOfStamp f.rec.number f.rec.stamp g → place_of (online_with f.rec.number bytes g) ≡ brought_by f.rec.stamp g.rec.stamp (place_of g)
    at g is =
        choose (λ (h : File). place_of h ≡ brought_by f.rec.stamp g.rec.stamp (place_of g)) (g.rec.number == f.rec.number) (record g { online = true; bytes = bytes }) g
        (λ e. sym (cond-true (g.rec.stamp == f.rec.stamp) (record (place_of g) { online = true }) (place_of g) (eq-eqb g.rec.stamp f.rec.stamp (is.0 (eqb-true g.rec.number f.rec.number e)))))
        (λ e. sym (cond-false (g.rec.stamp == f.rec.stamp) (record (place_of g) { online = true }) (place_of g) (ne_eqb g.rec.stamp f.rec.stamp (λ same. eqb-false g.rec.number f.rec.number e (is.1 same)))))

    found : (q : ℕ) → (q ≡ f.rec.stamp) ⊎ (q ≡ f.rec.stamp → ⊥) → get (with_online true f.rec.stamp (places_of files)) q ≡ option_map (brought_by f.rec.stamp q) (get (places_of files) q)
    found q (inl is) =
        let old = place_found files f distinct there in
        let place : place_at (places_of files) f.rec.stamp ≡ place_of f = ap (λ (o : Option Place). unwrap_or o (entry_by true None)) old in
        subst (λ (n : ℕ). get (with_online true f.rec.stamp (places_of files)) n ≡ option_map (brought_by f.rec.stamp n) (get (places_of files) n)) (sym is)
        (here nat_cmp_total nat_cmp-IsAntisymmetric (places_of files) f.rec.stamp (record (place_at (places_of files) f.rec.stamp) { online = true })
        ∙ ap (λ (x : Place). let o : Option Place = Some (record x { online = true }) in o) place
        ∙ ap (λ (x : Place). let o : Option Place = Some x in o) (sym (cond-true (f.rec.stamp == f.rec.stamp) (record (place_of f) { online = true }) (place_of f) (eq-eqb f.rec.stamp f.rec.stamp refl)))
        ∙ ap (option_map (brought_by f.rec.stamp f.rec.stamp)) (sym old))
    found q (inr isnt) =
        kept_insert (places_of files) f.rec.stamp q (record (place_at (places_of files) f.rec.stamp) { online = true }) isnt ∙ kept_others f.rec.stamp q (get (places_of files) q) isnt

-- FILES TAKEN OFF
abbrev taken_by : ℕ → ℕ → Place → Place
taken_by until q p = if nat_lt q until && is_candidate p then record p { online = false } else p

taken_places : (k : Holding) (files : List File) (numbers : List ℕ) (until : ℕ) → k.places ≡ places_of files → AreDistinct files
    → All (λ f. has numbers f.rec.number ≡ (nat_lt f.rec.stamp until && is_candidate (place_of f))) files → places_of (taken_off numbers files) ≡ (taken_offline until k).places
taken_places k files numbers until is distinct tests =
    mapped_places (offline_in numbers) (taken_by until) files (taken_offline until k).places
    (λ i d within. let g = get_or files i d in choose (λ (h : File). h.rec.stamp ≡ g.rec.stamp) (has numbers g.rec.number) (record g { online = false; bytes = None }) g (λ e. refl) (λ e. refl))
    (λ i d within. at (get_or files i d) (tests i d within))
    (λ q. get_by (taken_by until) k.places q ∙ ap (λ (m : FinMap nat_cmp Place). option_map (taken_by until q) (get m q)) is)
  where
    at : (g : File) → has numbers g.rec.number ≡ (nat_lt g.rec.stamp until && is_candidate (place_of g)) → place_of (offline_in numbers g) ≡ taken_by until g.rec.stamp (place_of g)
    at g test =
        choose (λ (h : File). place_of h ≡ taken_by until g.rec.stamp (place_of g)) (has numbers g.rec.number) (record g { online = false; bytes = None }) g
        (λ e. sym (cond-true (nat_lt g.rec.stamp until && is_candidate (place_of g)) (record (place_of g) { online = false }) (place_of g) (sym test ∙ e)))
        (λ e. sym (cond-false (nat_lt g.rec.stamp until && is_candidate (place_of g)) (record (place_of g) { online = false }) (place_of g) (sym test ∙ e)))

-- COPIES THAT ARE NOTED
abbrev pin_stamp : Pin → ℕ
pin_stamp p = p.stamp

abbrev pin_blocks : Pin → ℕ
pin_blocks p = blocks_for p.len

get_waiting : (pins : List Pin) (q : ℕ) → get (waiting_of (Some pins)) q ≡ option_map pin_blocks (find nat_cmp q (keyed pin_stamp pins))
get_waiting pins q =
    ap (λ es. get (from_entries {R = nat_cmp} es) q) (sym (map_of_map (with_value nat_cmp pin_blocks) (λ (p : Pin). (p.stamp, p)) pins))
    ∙ get_valued nat_cmp pin_blocks nat_cmp_total (keyed pin_stamp pins) q ∙ ap (option_map pin_blocks) (get-from_entries nat_cmp_total (keyed pin_stamp pins) q)

-- a pin's copy is the one that is inserted
copy_found : (pins : List Pin) (q : ℕ) (old : Option TapeCopy) → copy_of (pairs pins) q old ≡ unwrap_or (option_map (λ (p : Pin). Some p.copy) (find nat_cmp q (keyed pin_stamp pins))) old
copy_found [] q old = refl
copy_found (p ∷ ps) q old = at (cases_eq p.stamp q) (copy_found ps q old)
  where
    at : (p.stamp ≡ q) ⊎ (p.stamp ≡ q → ⊥) → copy_of (pairs ps) q old ≡ unwrap_or (option_map (λ (x : Pin). Some x.copy) (find nat_cmp q (keyed pin_stamp ps))) old
        → copy_of (pairs (p ∷ ps)) q old ≡ unwrap_or (option_map (λ (x : Pin). Some x.copy) (find nat_cmp q (keyed pin_stamp (p ∷ ps)))) old
    at (inl is) rest =
        cond-true (p.stamp == q) (Some p.copy) (copy_of (pairs ps) q old) (eq-eqb p.stamp q is)
        ∙ ap (λ (b : Bool). unwrap_or (option_map (λ (x : Pin). Some x.copy) (cond b (Some p) (find nat_cmp q (keyed pin_stamp ps)))) old)
        (sym (ap (λ (n : ℕ). eq_by_cmp nat_cmp q n) is ∙ (eq_by_cmp_equiv nat_cmp_total).refl q))
    at (inr isnt) rest =
        cond-false (p.stamp == q) (Some p.copy) (copy_of (pairs ps) q old) (ne_eqb p.stamp q isnt) ∙ rest
        ∙ ap (λ (b : Bool). unwrap_or (option_map (λ (x : Pin). Some x.copy) (cond b (Some p) (find nat_cmp q (keyed pin_stamp ps)))) old)
        (sym (apart_is nat_cmp_total nat_cmp-IsAntisymmetric q p.stamp (λ e. isnt (sym e))))

module _ (d : OpenDump) (pins : List Pin) (are : AreNotedIn d pins) where
  waits_is : (q : ℕ) → is_some (get d.waiting q) ≡ is_some (find nat_cmp q (keyed pin_stamp pins))
  waits_is q = ap (λ (m : FinMap nat_cmp ℕ). is_some (get m q)) are.waiting ∙ ap is_some (get_waiting pins q) ∙ some_mapped (find nat_cmp q (keyed pin_stamp pins))
    where
      some_mapped : (o : Option Pin) → is_some (option_map pin_blocks o) ≡ is_some o
      some_mapped None = refl
      some_mapped (Some p) = refl

  noted_at : (g : File) (o : Option Pin) → find nat_cmp g.rec.stamp (keyed pin_stamp pins) ≡ o → place_of (with_copy (pairs pins) g) ≡ noted_copy d g.rec.stamp (place_of g)
  unfolding entry_by
  noted_at g None found =
      ap (entry_by g.online) (copy_found pins g.rec.stamp g.rec.tape ∙ ap (λ (o : Option Pin). unwrap_or (option_map (λ (x : Pin). Some x.copy) o) g.rec.tape) found)
      ∙ sym (cond-false (is_some (get d.waiting g.rec.stamp)) (record (place_of g) { copy = (place_at d.places g.rec.stamp).copy }) (place_of g) (waits_is g.rec.stamp ∙ ap is_some found))
  noted_at g (Some p) found =
      let one = found_one nat_cmp_total nat_cmp-IsAntisymmetric pin_stamp g.rec.stamp pins p found in
      let copy : (place_at d.places g.rec.stamp).copy ≡ Some p.copy =
      ap (λ (n : ℕ). (place_at d.places n).copy) (sym one.1) ∙ All-contains (λ (x : Pin). (place_at d.places x.stamp).copy ≡ Some x.copy) pins p are.copies one.0 in
      ap (entry_by g.online) (copy_found pins g.rec.stamp g.rec.tape ∙ ap (λ (o : Option Pin). unwrap_or (option_map (λ (x : Pin). Some x.copy) o) g.rec.tape) found ∙ sym copy)
      ∙ sym (cond-true (is_some (get d.waiting g.rec.stamp)) (record (place_of g) { copy = (place_at d.places g.rec.stamp).copy }) (place_of g) (waits_is g.rec.stamp ∙ ap is_some found))

noted_places : (d : OpenDump) (files : List File) (pins : List Pin) → AreDistinct files → AreNotedIn d pins → places_of (with_copies (noted (Some pins)) files) ≡ with_noted d (places_of files)
noted_places d files pins distinct are =
    mapped_places (with_copy (pairs pins)) (noted_copy d) files (with_noted d (places_of files)) (λ i e within. refl)
    (λ i e within. let g = get_or files i e in noted_at d pins are g (find nat_cmp g.rec.stamp (keyed pin_stamp pins)) refl)
    (λ q. get_by (noted_copy d) (places_of files) q)

pub places_go_by_change : PlacesGoByChange
places_go_by_change = record { version = version_places; erased = erased_places; recorded = recorded_places; back = back_places; taken = taken_places; noted = noted_places }

-- WHAT IS TAKEN OFF has a copy
taken_choice : (b : Bool) (p : Place) → p.online ≡ true → (if b then record p { online = false } else p).online ≡ false → b ≡ true
taken_choice true p was is = refl
taken_choice false p was is = sym is ∙ was

candidate_copy : (a b c : Bool) → (a && (b && c)) ≡ true → c ≡ true
candidate_copy a b c e = (and_parts b c (and_parts a (b && c) e).1).1

has_copy : (until q : ℕ) (o : Option Place) → (unwrap_or o (record { online = true; copy = None })).online ≡ true
    → (unwrap_or (option_map (taken_by until q) o) (record { online = true; copy = None })).online ≡ false → is_some (unwrap_or o (record { online = true; copy = None })).copy ≡ true
has_copy until q None was is = sym is ∙ was
has_copy until q (Some p) was is =
    candidate_copy (nat_lt q until) p.online (is_some p.copy) (taken_choice (nat_lt q until && is_candidate p) p was is)

pub taken_have_copies : TakenHaveCopies
taken_have_copies k until q was is =
    has_copy until q (get k.places q) was
    (ap (λ (o : Option Place). (unwrap_or o (record { online = true; copy = None })).online) (sym (get_by (taken_by until) k.places q)) ∙ is)
