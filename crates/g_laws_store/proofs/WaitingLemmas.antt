-- The versions that wait, by stamp: those of the plan are those of the state.
-- serves: AdoptLemmas, CallLemmas, NeedsLemmas, OpenedLemmas, OwnLemmas, PutLemmas, SetLemmas, UnjamLemmas, crates above
use Rattle.std.proofs.Common.{◌≡◌, ◌≢◌, ℕ, zero, suc, ◌+◌, ◌<◌, Bool, true, false, cond, List, [], ◌∷◌, get_or, length, Option, Some, None, unwrap_or, refl, sym, ◌∙◌, ap, arith, subst, inl, inr}
use Rattle.std.specs.Prelude.{◌⊎◌, ◌==◌, ◌&&◌, All, Contains, filter, is_none, map, nat_lt}
use Rattle.std.specs.Ordering.{nat_cmp, eq_by_cmp}
use Rattle.std.specs.Cmp.{eq_by_cmp_equiv}
use Rattle.std.specs.FinMap.{entries, find, from_entries, nat_cmp-IsAntisymmetric, same_map, get-from_entries}
use Rattle.std.proofs.lemmas.Bool.{and_parts, both_ways, cases_Bool, cases_eq, eq-eqb, ltb-true}
use Rattle.std.proofs.lemmas.Cmp.{nat_cmp_total}
use Rattle.std.proofs.lemmas.List.Elements.{All-cons, All-contains, All-filter, All-head, All-map, All-nil, All-tail, All-weaker, Contains-append_right, Contains-get_or, filter_passes}
use Rattle.std.proofs.lemmas.List.Sorted.{All-permutation, Contains-permutation}
use Rattle.g_base.specs.Block.{blocks_for}
use Rattle.g_name.specs.declared.full.Full.{Full}
use Rattle.g_name.proofs.Order.{full_total}
use Rattle.g_entry.specs.declared.file_rec.FileRec.{FileRec}
use Rattle.g_entry.specs.declared.file_rec.TapeCopy.{TapeCopy}
use Rattle.g_entry.specs.declared.user_rec.UserRec.{UserRec}
use Rattle.g_plain.specs.PlainTree.{FileRow}
use Rattle.g_plain.proofs.Found.{apart_is}
use Rattle.g_plain.proofs.TextMaps.{full_exact}
use Rattle.g_tree.specs.Records.{IsRecords, by_name, file_row_of, full_of}
use Rattle.g_tree.proofs.MapLemmas.{apart_keyed, entries_permute, keyed}
use Rattle.g_tree.proofs.RecordLemmas.{file_entries, names_apart}
use Rattle.g_tree.proofs.RuleLemmas.{one_of_key}
use Rattle.g_disc_contents.specs.Contents.{Contents, File, recs_in}
use Rattle.g_disc_contents.specs.Facts.{Pin}
use Rattle.g_incr.specs.Layout.{Dump, holds}
use Rattle.g_incr.specs.Plan.{Plan, first_content, waiting as waiting_files, waits as file_waits}
use Rattle.g_store_model.specs.State as state
use Rattle.g_store_model.specs.DumpSteps.{waiting, waits}
use Rattle.g_store_meaning.specs.Reading.{holding_of, waiting_of}
use Rattle.g_store_meaning.specs.StoreInvariant.{ArePinned}
use Rattle.g_laws_store.proofs.ClosingLemmas.{contains_filter}
use Rattle.g_laws_store.proofs.RecordLemmas.{from_filter}
use Rattle.g_laws_store.specs.OpeningNeeds.{AreOpened}
use Rattle.g_laws_store.specs.Rooms.{HasLength}
use Rattle.g_laws_store.proofs.PlaceLemmas.{place_found}
use Rattle.g_laws_store.proofs.RoomLemmas.{files_apart}

-- mapped items are there, and come from somewhere
pub mapped_there : {A B : Type 0} (f : A → B) (xs : List A) (x : A) → Contains xs x → Contains (map f xs) (f x)
mapped_there f [] x (i, within, is) = let no : ⊥ = omega (arith, within) in absurd no
mapped_there f (y ∷ ys) x (zero, within, is) = (0, omega arith, ap f is)
mapped_there f (y ∷ ys) x (suc i, within, is) = Contains-append_right (f y ∷ []) (map f ys) (f x) (mapped_there f ys x (i, omega (arith, within), is))

pub from_mapped : {A B : Type 0} (f : A → B) (xs : List A) (y : B) → Contains (map f xs) y → (x : A) × Contains xs x × (f x ≡ y)
from_mapped f [] y (i, within, is) = let no : ⊥ = omega (arith, within) in absurd no
from_mapped f (x ∷ xs) y (zero, within, is) = (x, (0, omega arith, refl), is)
from_mapped f (x ∷ xs) y (suc i, within, is) =
    let (z, there, same) = from_mapped f xs y (i, omega (arith, within), is) in (z, Contains-append_right (x ∷ []) xs z there, same)

pub no_copy : (tape : Option TapeCopy) → is_none tape ≡ true → tape ≡ None
no_copy None is = refl
no_copy (Some copy) is = absurd (both_ways false refl is)

-- LOOKING UP a number among elements: one value, or none
pub find_value : {A : Type 0} (key value : A → ℕ) (xs : List A) (q v : ℕ) (x : A) → Contains xs x → key x ≡ q → All (λ y. key y ≡ q → value y ≡ v) xs
    → find nat_cmp q (map (λ y. (key y, value y)) xs) ≡ Some v
find_value key value [] q v x (i, within, is) same all = let no : ⊥ = omega (arith, within) in absurd no
find_value {A} key value (y ∷ ys) q v x there same all =
    by_key (cases_eq (key y) q) (λ other. find_value key value ys q v x (later there other) same (All-tail (λ z. key z ≡ q → value z ≡ v) y ys all))
  where
    later : Contains (y ∷ ys) x → (key y ≡ q → ⊥) → Contains ys x
    later (zero, within, is) other = absurd (other (ap key is ∙ same))
    later (suc i, within, is) other = (i, omega (arith, within), is)

    by_key : (key y ≡ q) ⊎ (key y ≡ q → ⊥) → ((key y ≡ q → ⊥) → find nat_cmp q (map (λ z. (key z, value z)) ys) ≡ Some v) → find nat_cmp q (map (λ z. (key z, value z)) (y ∷ ys)) ≡ Some v
    by_key (inl is) rest =
        ap (λ (b : Bool). cond b (Some (value y)) (find nat_cmp q (map (λ z. (key z, value z)) ys))) (ap (λ (n : ℕ). eq_by_cmp nat_cmp q n) is ∙ (eq_by_cmp_equiv nat_cmp_total).refl q)
        ∙ ap (λ (n : ℕ). let o : Option ℕ = Some n in o) (All-head (λ z. key z ≡ q → value z ≡ v) y ys all is)
    by_key (inr isnt) rest =
        ap (λ (b : Bool). cond b (Some (value y)) (find nat_cmp q (map (λ z. (key z, value z)) ys))) (apart_is nat_cmp_total nat_cmp-IsAntisymmetric q (key y) (λ e. isnt (sym e))) ∙ rest isnt

pub find_nothing : {A : Type 0} (key value : A → ℕ) (xs : List A) (q : ℕ) → All (λ y. key y ≢ q) xs → find nat_cmp q (map (λ y. (key y, value y)) xs) ≡ None
find_nothing key value [] q all = refl
find_nothing key value (y ∷ ys) q all =
    ap (λ (b : Bool). cond b (Some (value y)) (find nat_cmp q (map (λ z. (key z, value z)) ys)))
    (apart_is nat_cmp_total nat_cmp-IsAntisymmetric q (key y) (λ e. All-head (λ z. key z ≢ q) y ys all (sym e)))
    ∙ find_nothing key value ys q (All-tail (λ z. key z ≢ q) y ys all)

-- PINS and the versions that wait
record HasPin (pins : List Pin) (r : FileRec) : Type 0 where
  pin : Pin
  there : Contains pins pin
  stamp : pin.stamp ≡ r.stamp

has_pin : (serial at : ℕ) (ws : List FileRec) (pins : List Pin) → ArePinned serial at ws pins → (r : FileRec) → Contains ws r → HasPin pins r
has_pin serial at [] pins are r (i, within, is) = let no : ⊥ = omega (arith, within) in absurd no
has_pin serial at (w ∷ ws) pins (pin, rest, same, stamp, len, copy, blocks, more) r (zero, within, is) =
    subst (λ (ps : List Pin). HasPin ps r) (sym same) (record { pin = pin; there = (0, omega arith, refl); stamp = stamp ∙ ap (λ (x : FileRec). x.stamp) is })
has_pin serial at (w ∷ ws) pins (pin, rest, same, stamp, len, copy, blocks, more) r (suc i, within, is) =
    let found = has_pin serial (at + blocks_for w.len) ws rest more r (i, omega (arith, within), is) in
    subst (λ (ps : List Pin). HasPin ps r) (sym same) (record { pin = found.pin; there = Contains-append_right (pin ∷ []) rest found.pin found.there; stamp = found.stamp })

-- each pin is of a version that waits
pub record IsPinned (ws : List FileRec) (p : Pin) : Type 0 where
  pub rec : FileRec
  pub there : Contains ws rec
  pub stamp : p.stamp ≡ rec.stamp
  pub len : p.len ≡ rec.len

more_pinned : (w : FileRec) (ws : List FileRec) (p : Pin) → IsPinned ws p → IsPinned (w ∷ ws) p
more_pinned w ws p is = record { rec = is.rec; there = Contains-append_right (w ∷ []) ws is.rec is.there; stamp = is.stamp; len = is.len }

pub are_of : (serial at : ℕ) (ws : List FileRec) (pins : List Pin) → ArePinned serial at ws pins → All (IsPinned ws) pins
are_of serial at [] pins are = subst (All (IsPinned [])) (sym are) (All-nil (IsPinned []))
are_of serial at (w ∷ ws) pins (pin, rest, same, stamp, len, copy, blocks, more) =
    subst (All (IsPinned (w ∷ ws))) (sym same)
    (All-cons (IsPinned (w ∷ ws)) pin rest (record { rec = w; there = (0, omega arith, refl); stamp = stamp; len = len })
    (All-weaker (IsPinned ws) (IsPinned (w ∷ ws)) (more_pinned w ws) rest (are_of serial (at + blocks_for w.len) ws rest more)))

module _ (text : ℕ → List ℕ) (shelf : ℕ → List Dump) (changed : List ℕ) (c : Contents) (plan : Plan) (pins : List Pin) (opened : AreOpened text shelf changed c plan pins) where
  abbrev xs : List FileRec
  xs = recs_in c

  abbrev rules : IsRecords c.users (recs_in c)
  rules = opened.dumpable.records

  -- a version that waits is of the plan, and the other way round
  pub in_plan : (f : File) → Contains c.files f → file_waits f.rec ≡ true → Contains (waiting_files plan.files) f.rec
  in_plan f there is =
      let (long, none) = and_parts (nat_lt 0 f.rec.len) (is_none f.rec.tape) is in
      let held : holds changed f.rec.owner ≡ true = All-contains (λ (g : File). 0 < g.rec.len → g.rec.tape ≡ None → holds changed g.rec.owner ≡ true) c.files f opened.dumpable.waits there (ltb-true 0 f.rec.len long) (no_copy f.rec.tape none) in
      let in_xs : Contains xs f.rec = mapped_there (λ (g : File). g.rec) c.files f there in
      let of_owner = contains_filter (λ (r : FileRec). r.owner == f.rec.owner) xs f.rec in_xs (eq-eqb f.rec.owner f.rec.owner refl) in
      contains_filter file_waits plan.files f.rec
      (from_filter (λ (r : FileRec). r.owner == f.rec.owner) plan.files f.rec (subst (λ (rs : List FileRec). Contains rs f.rec) (sym (opened.planned.files f.rec.owner held)) of_owner)) is

  pub from_plan : (r : FileRec) → Contains (waiting_files plan.files) r → Contains xs r × (file_waits r ≡ true)
  from_plan r there =
      let in_files = from_filter file_waits plan.files r there in
      let held : holds plan.held r.owner ≡ true = All-contains (λ (s : FileRec). holds plan.held s.owner ≡ true) plan.files r opened.planned.rules.owners in_files in
      let of_owner = contains_filter (λ (s : FileRec). s.owner == r.owner) plan.files r in_files (eq-eqb r.owner r.owner refl) in (
        from_filter (λ (s : FileRec). s.owner == r.owner) xs r
            (subst (λ (rs : List FileRec). Contains rs r) (opened.planned.files r.owner (subst (λ (ns : List ℕ). holds ns r.owner ≡ true) opened.planned.held held)) of_owner),
        All-contains (λ (s : FileRec). file_waits s ≡ true) (waiting_files plan.files) r (filter_passes file_waits plan.files) there,
      )

  module _ (kept : List UserRec) where
    abbrev held : state.Holding
    held = holding_of text kept c

    abbrev entry : File → Full × FileRow
    entry f = (full_of c.users f.rec, file_row_of c.users (λ s. text s.stamp) f.rec)

    -- the entries of the tree are those of the files
    pub entries_all : (P : Full × FileRow → Type 0) → All (λ f. P (entry f)) c.files → All P (entries held.tree.files)
    entries_all P all =
        let es = keyed (full_of c.users) xs in
        let row : Full × FileRec → Full × FileRow = λ e. (e.0, file_row_of c.users (λ s. text s.stamp) e.1) in
        subst (All P) (sym (file_entries c.users xs (λ r. file_row_of c.users (λ s. text s.stamp) r)))
        (All-map P row (entries (by_name c.users xs))
        (All-permutation (λ (e : Full × FileRec). P (row e)) es (entries (from_entries es)) (entries_permute full_total es (apart_keyed full_total full_exact (full_of c.users) xs (names_apart c.users xs rules)))
        (All-map (λ (e : Full × FileRec). P (row e)) (λ (r : FileRec). (full_of c.users r, r)) xs
        (All-map (λ (r : FileRec). P (row (full_of c.users r, r))) (λ (f : File). f.rec) c.files all))))

    pub entry_there : (f : File) → Contains c.files f → Contains (entries held.tree.files) (entry f)
    entry_there f there =
        let es = keyed (full_of c.users) xs in
        let row : Full × FileRec → Full × FileRow = λ e. (e.0, file_row_of c.users (λ s. text s.stamp) e.1) in
        subst (λ (fs : List (Full × FileRow)). Contains fs (entry f)) (sym (file_entries c.users xs (λ r. file_row_of c.users (λ s. text s.stamp) r)))
        (mapped_there row (entries (by_name c.users xs)) (full_of c.users f.rec, f.rec)
        (Contains-permutation es (entries (from_entries es)) (full_of c.users f.rec, f.rec)
        (entries_permute full_total es (apart_keyed full_total full_exact (full_of c.users) xs (names_apart c.users xs rules)))
        (mapped_there (λ (r : FileRec). (full_of c.users r, r)) xs f.rec (mapped_there (λ (g : File). g.rec) c.files f there))))

    waits_is : (f : File) → Contains c.files f → waits held (entry f) ≡ file_waits f.rec
    waits_is f there =
        let long : length (text f.rec.stamp) ≡ f.rec.len = All-contains (HasLength text) c.files f opened.long there in
        let place = place_found c.files f (files_apart c.files rules.among_files.stamps) there in
        ap (λ (n : ℕ). nat_lt 0 n && is_none (state.place_at held.places f.rec.stamp).copy) long
        ∙ ap (λ (o : Option state.Place). nat_lt 0 f.rec.len && is_none (unwrap_or o (record { online = true; copy = None })).copy) place

    one_file : (f g : File) → Contains c.files f → Contains c.files g → f.rec.stamp ≡ g.rec.stamp → f ≡ g
    one_file f g in_f in_g same = one_of_key (λ (h : File). h.rec.stamp) c.files f g (files_apart c.files rules.among_files.stamps) in_f in_g same

    abbrev stamp_in : Full × FileRow → ℕ
    stamp_in e = e.1.stamp

    abbrev of_state : List (Full × FileRow)
    of_state = filter (waits held) (entries held.tree.files)

    -- a version that waits has its blocks on both sides
    here : (q : ℕ) (f : File) → Contains c.files f → f.rec.stamp ≡ q → file_waits f.rec ≡ true
        → find nat_cmp q (map (λ (p : Pin). (p.stamp, blocks_for p.len)) pins) ≡ find nat_cmp q (map (λ (e : Full × FileRow). (e.1.stamp, state.blocks_of e.1)) of_state)
    here q f there is test =
        let v = blocks_for f.rec.len in
        let pin = has_pin plan.serial (first_content plan) (waiting_files plan.files) pins opened.pinned f.rec (in_plan f there test) in
        find_value (λ (p : Pin). p.stamp) (λ (p : Pin). blocks_for p.len) pins q v pin.pin pin.there (pin.stamp ∙ is)
        (All-weaker (IsPinned (waiting_files plan.files)) (λ (p : Pin). p.stamp ≡ q → blocks_for p.len ≡ v)
        (λ p it same.
        let (in_xs, waits_r) = from_plan it.rec it.there in
        let (g, in_files, g_is) = from_mapped (λ (h : File). h.rec) c.files it.rec in_xs in
        let one = one_file g f in_files there (ap (λ (r : FileRec). r.stamp) g_is ∙ sym it.stamp ∙ same ∙ sym is) in
        ap blocks_for (it.len ∙ ap (λ (r : FileRec). r.len) (sym g_is) ∙ ap (λ (h : File). h.rec.len) one)) pins
        (are_of plan.serial (first_content plan) (waiting_files plan.files) pins opened.pinned))
        ∙ sym (find_value stamp_in (λ (e : Full × FileRow). state.blocks_of e.1) of_state q v (entry f)
        (contains_filter (waits held) (entries held.tree.files) (entry f) (entry_there f there) (waits_is f there ∙ test)) is
        (All-filter (waits held) (λ (e : Full × FileRow). e.1.stamp ≡ q → state.blocks_of e.1 ≡ v) (entries held.tree.files)
        (entries_all (λ (e : Full × FileRow). e.1.stamp ≡ q → state.blocks_of e.1 ≡ v)
        (λ i d within same.
        let g = get_or c.files i d in
        let in_files = Contains-get_or c.files i d within in
        let one = one_file g f in_files there (same ∙ sym is) in
        ap blocks_for (All-contains (HasLength text) c.files g opened.long in_files ∙ ap (λ (h : File). h.rec.len) one)))))

    -- and where none waits there is nothing
    nowhere : (q : ℕ) → All (λ (f : File). f.rec.stamp ≡ q → file_waits f.rec ≡ false) c.files
        → find nat_cmp q (map (λ (p : Pin). (p.stamp, blocks_for p.len)) pins) ≡ find nat_cmp q (map (λ (e : Full × FileRow). (e.1.stamp, state.blocks_of e.1)) of_state)
    nowhere q none =
        find_nothing (λ (p : Pin). p.stamp) (λ (p : Pin). blocks_for p.len) pins q
        (All-weaker (IsPinned (waiting_files plan.files)) (λ (p : Pin). p.stamp ≢ q)
        (λ p it same.
        let (in_xs, waits_r) = from_plan it.rec it.there in
        let (g, in_files, g_is) = from_mapped (λ (h : File). h.rec) c.files it.rec in_xs in
        let isnt = All-contains (λ (f : File). f.rec.stamp ≡ q → file_waits f.rec ≡ false) c.files g none in_files (ap (λ (r : FileRec). r.stamp) g_is ∙ sym it.stamp ∙ same) in
        both_ways (file_waits it.rec) (ap file_waits (sym g_is) ∙ isnt) waits_r) pins
        (are_of plan.serial (first_content plan) (waiting_files plan.files) pins opened.pinned))
        ∙ sym (find_nothing stamp_in (λ (e : Full × FileRow). state.blocks_of e.1) of_state q
        (λ i d within same.
        let e = get_or of_state i d in
        let passes = All-contains (λ (x : Full × FileRow). waits held x ≡ true) of_state e (filter_passes (waits held) (entries held.tree.files)) (Contains-get_or of_state i d within) in
        let all = entries_all (λ (x : Full × FileRow). x.1.stamp ≡ q → waits held x ≡ false)
        (λ j f inside is. let in_files = Contains-get_or c.files j f inside in waits_is (get_or c.files j f) in_files ∙ none j f inside is) in
        both_ways (waits held e) (All-contains (λ (x : Full × FileRow). x.1.stamp ≡ q → waits held x ≡ false) (entries held.tree.files) e all
        (from_filter (waits held) (entries held.tree.files) e (Contains-get_or of_state i d within)) same) passes))

    record IsWaiting (q : ℕ) : Type 0 where
      file : File
      there : Contains c.files file
      stamp : file.rec.stamp ≡ q
      is : file_waits file.rec ≡ true

    look : (q : ℕ) (files : List File) → ((f : File) → Contains files f → Contains c.files f) → IsWaiting q ⊎ All (λ (f : File). f.rec.stamp ≡ q → file_waits f.rec ≡ false) files
    look q [] in_all = inr (All-nil (λ (f : File). f.rec.stamp ≡ q → file_waits f.rec ≡ false))
    look q (f ∷ fs) in_all = by_first (cases_eq f.rec.stamp q) (cases_Bool (file_waits f.rec)) (look q fs (λ g there. in_all g (Contains-append_right (f ∷ []) fs g there)))
      where
        by_first : (f.rec.stamp ≡ q) ⊎ (f.rec.stamp ≡ q → ⊥) → (file_waits f.rec ≡ true) ⊎ (file_waits f.rec ≡ false)
            → IsWaiting q ⊎ All (λ (g : File). g.rec.stamp ≡ q → file_waits g.rec ≡ false) fs → IsWaiting q ⊎ All (λ (g : File). g.rec.stamp ≡ q → file_waits g.rec ≡ false) (f ∷ fs)
        by_first (inl same) (inl is) rest = inl (record { file = f; there = in_all f (0, omega arith, refl); stamp = same; is = is })
        by_first stamp test (inl found) = inl found
        by_first (inl same) (inr isnt) (inr none) = inr (All-cons (λ (g : File). g.rec.stamp ≡ q → file_waits g.rec ≡ false) f fs (λ e. isnt) none)
        by_first (inr other) test (inr none) = inr (All-cons (λ (g : File). g.rec.stamp ≡ q → file_waits g.rec ≡ false) f fs (λ e. absurd (other e)) none)

    pub waiting_is : waiting_of (Some pins) ≡ waiting (holding_of text kept c)
    waiting_is =
        same_map nat_cmp_total nat_cmp-IsAntisymmetric (waiting_of (Some pins)) (waiting held)
        (λ q. get-from_entries nat_cmp_total (map (λ (p : Pin). (p.stamp, blocks_for p.len)) pins) q ∙ at q (look q c.files (λ f there. there))
        ∙ sym (get-from_entries nat_cmp_total (map (λ (e : Full × FileRow). (e.1.stamp, state.blocks_of e.1)) of_state) q))
      where
        at : (q : ℕ) → IsWaiting q ⊎ All (λ (f : File). f.rec.stamp ≡ q → file_waits f.rec ≡ false) c.files
            → find nat_cmp q (map (λ (p : Pin). (p.stamp, blocks_for p.len)) pins) ≡ find nat_cmp q (map (λ (e : Full × FileRow). (e.1.stamp, state.blocks_of e.1)) of_state)
        at q (inl is) = here q is.file is.there is.stamp is.is
        at q (inr none) = nowhere q none
