-- What a start would adopt, at the opening of a dump.
-- serves: StandLemmas
use Rattle.std.proofs.Common.{◌≡◌, ℕ, ◌<◌, ◌≤◌, Bool, true, false, List, get_or, length, Option, Some, None, is_some, unwrap_or, refl, sym, ◌∙◌, ap, arith, subst, inl, inr}
use Rattle.std.specs.Prelude.{◌⊎◌, ◌==◌, ◌&&◌, Contains, filter, is_none, map, nat_lt, if◌then◌else◌}
use Rattle.std.specs.List.{list_any}
use Rattle.std.specs.Ordering.{nat_cmp}
use Rattle.std.specs.FinMap.{FinMap, entries, find, from_entries, get, get-from_entries}
use Rattle.std.proofs.lemmas.Bool.{both_ways, cases_Bool, cases_eq, eq-eqb, eqb-true, false_from_ne_true, lt-ltb, ltb-true, and_parts, not-true}
use Rattle.std.proofs.lemmas.Cmp.{nat_cmp_total}
use Rattle.std.proofs.lemmas.List.Elements.{All-contains, All-filter, All-from_recursion, Contains-get_or, filter_passes}
use Rattle.std.proofs.lemmas.Option.{same_Some}
use Rattle.g_name.specs.declared.full.Full.{Full}
use Rattle.g_name.proofs.Order.{full_total}
use Rattle.g_entry.specs.declared.file_rec.FileRec.{FileRec}
use Rattle.g_entry.specs.declared.file_rec.TapeCopy.{TapeCopy}
use Rattle.g_plain.specs.PlainTree.{FileRow, Tree}
use Rattle.g_plain.proofs.TreeLemmas.{entries_found}
use Rattle.g_tree.specs.Records.{full_of, name_of}
use Rattle.g_tree.proofs.RuleLemmas.{file_found, one_of_key}
use Rattle.g_disc_contents.specs.Contents.{File, has, recs_in}
use Rattle.g_disc_contents.specs.Facts.{Pin}
use Rattle.g_incr.specs.Plan.{Plan, waits as file_waits}
use Rattle.g_store_model.specs.State as state
use Rattle.g_store_model.specs.DumpSteps.{AreNoted, noted_copy, own_copies, own_copy, waiting, waits}
use Rattle.g_store_model.specs.Rising.{other_copy}
use Rattle.g_store_meaning.specs.Reading.{Opened, View}
use Rattle.g_store_meaning.specs.StoreInvariant.{StoreFacts}
use Rattle.g_laws_store.proofs.ClosingLemmas.{contains_filter}
use Rattle.g_laws_store.proofs.RecordLemmas.{from_filter}
use Rattle.g_laws_store.specs.Rooms.{held_in}
use Rattle.g_laws_store.proofs.NeedsLemmas.{kept_is}
use Rattle.g_laws_store.proofs.UnjamLemmas.{any_found}
use Rattle.g_laws_store.proofs.UserLemmas.{any_there}
use Rattle.g_laws_store.proofs.WaitingLemmas.{find_nothing, find_value, from_mapped, no_copy}
use Rattle.g_laws_store.specs.Opening.{IsOpening}
use Rattle.g_laws_store.specs.Adoption.{IsDumpable, OwnsStand}
use Rattle.g_laws_store.proofs.CopyLemmas.{copies_by, find_copy, no_copy_of, same_flat}
use Rattle.g_laws_store.proofs.OpenedLemmas.{waits_same}
use Rattle.g_laws_store.proofs.OwnLemmas.{chosen_copy}

-- A STORE that opens a dump
module _ (v : View) (s : StoreFacts) (plan : Plan) (pins : List Pin) (content : List (List ℕ)) (opened : Opened) (is : IsOpening v s plan pins content opened) where
  abbrev changed : List ℕ
  changed = s.online.changed

  abbrev text_of : FileRec → List ℕ
  text_of r = v.text r.stamp

  waits_by_change : (r : FileRec) → Contains (recs_in s.online.contents) r → file_waits r ≡ true → has changed r.owner ≡ true
  waits_by_change r there waits_it =
      let (f, in_files, same) = from_mapped (λ (g : File). g.rec) s.online.contents.files r there in
      let (long, none) = and_parts (nat_lt 0 r.len) (is_none r.tape) waits_it in
      let by_file = All-contains (λ (g : File). 0 < g.rec.len → g.rec.tape ≡ None → has changed g.rec.owner ≡ true) s.online.contents.files f is.dumpable.waits in_files in
      subst (λ (q : FileRec). 0 < q.len → q.tape ≡ None → has changed q.owner ≡ true) same by_file (ltb-true 0 r.len long) (no_copy r.tape none)

  never_kept : (r : FileRec) → Contains (recs_in s.online.contents) r → file_waits r ≡ true → state.is_in (held_in v s.online).kept (name_of s.online.contents.users r.owner) ≡ false
  never_kept r there waits_it =
      let owner : r.owner < length s.online.contents.users = All-contains (λ (q : FileRec). q.owner < length s.online.contents.users) (recs_in s.online.contents) r is.dumpable.records.among_files.owners there in
      not-true (state.is_in (held_in v s.online).kept (name_of s.online.contents.users r.owner)) (kept_is s.online.contents.users (recs_in s.online.contents) changed r.owner is.dumpable.records owner ∙ waits_by_change r there waits_it)

  pub dumpable : IsDumpable (held_in v s.online)
  dumpable = record {
    apart = λ full other row another e f same.
        let (r, in_r, named_r, row_r) = file_found s.online.contents.users (recs_in s.online.contents) text_of s.online.contents.head.next_stamp is.dumpable.records full row e in
        let (q, in_q, named_q, row_q) = file_found s.online.contents.users (recs_in s.online.contents) text_of s.online.contents.head.next_stamp is.dumpable.records other another f in
        let one : r ≡ q = one_of_key (λ (w : FileRec). w.stamp) (recs_in s.online.contents) r q is.dumpable.records.among_files.stamps in_r in_q
        (ap (λ (w : FileRow). w.stamp) row_r ∙ same ∙ ap (λ (w : FileRow). w.stamp) (sym row_q)) in
        sym named_r ∙ ap (full_of s.online.contents.users) one ∙ named_q;
    dated = λ full row e.
        let (r, in_r, named_r, row_r) = file_found s.online.contents.users (recs_in s.online.contents) text_of s.online.contents.head.next_stamp is.dumpable.records full row e in
        subst (λ (w : FileRow). w.stamp < s.online.contents.head.next_stamp) row_r (All-contains (λ (w : FileRec). w.stamp < s.online.contents.head.next_stamp) (recs_in s.online.contents) r is.dumpable.dated in_r);
    kept = λ full row e is_kept.
        let (r, in_r, named_r, row_r) = file_found s.online.contents.users (recs_in s.online.contents) text_of s.online.contents.head.next_stamp is.dumpable.records full row e in
        subst (λ (w : FileRow). (nat_lt 0 (length w.bytes) && is_none (state.place_at (held_in v s.online).places w.stamp).copy) ≡ false) row_r
        (waits_same v s plan pins content opened is r in_r
        ∙ false_from_ne_true (file_waits r)
        (λ waits_it.
        both_ways (state.is_in (held_in v s.online).kept full.user) (ap (λ (n : Full). state.is_in (held_in v s.online).kept n.user) (sym named_r) ∙ never_kept r in_r waits_it) is_kept));
  }

-- the copies at the opening, from the state only
with_tape : Option TapeCopy → state.Place → state.Place
with_tape o p = record p { copy = o }

module _ (k : state.Holding) (serial from to : ℕ) (places : FinMap nat_cmp state.Place) (noted : AreNoted serial from to k places) (able : IsDumpable k) where
  abbrev es : List (Full × FileRow)
  es = entries k.tree.files

  abbrev stamp_in : Full × FileRow → ℕ
  stamp_in e = e.1.stamp

  abbrev copy_in : Full × FileRow → Option TapeCopy
  copy_in e = if state.is_in k.kept e.0.user then None else (state.place_at places e.1.stamp).copy

  found : (e : Full × FileRow) → Contains es e → get k.tree.files e.0 ≡ Some e.1
  found e there =
      All-contains (λ (f : Full × FileRow). get k.tree.files f.0 ≡ Some f.1) es e
      (All-from_recursion (λ (f : Full × FileRow). get k.tree.files f.0 ≡ Some f.1) es (entries_found full_total k.tree.files)) there

  one_entry : (e f : Full × FileRow) → Contains es e → Contains es f → e.1.stamp ≡ f.1.stamp → e ≡ f
  one_entry e f in_e in_f same =
      let name : e.0 ≡ f.0 = able.apart e.0 f.0 e.1 f.1 (found e in_e) (found f in_f) same in
      let row : e.1 ≡ f.1 = same_Some e.1 f.1 (sym (found e in_e) ∙ ap (λ (n : Full). get k.tree.files n) name ∙ found f in_f) in
      λ i. (name i, row i)

  own_list : own_copies k places ≡ from_entries {R = nat_cmp} (copies_by stamp_in copy_in es)
  own_list =
      ap (λ (cs : List (ℕ × TapeCopy)). from_entries {R = nat_cmp} cs)
      (same_flat (own_copy k places) (λ (e : Full × FileRow). state.copy_entry (stamp_in e) (copy_in e))
      (λ e. chosen_copy (state.is_in k.kept e.0.user) e.1.stamp (state.place_at places e.1.stamp).copy) es)

  get_own : (q : ℕ) → get (own_copies k places) q ≡ find nat_cmp q (copies_by stamp_in copy_in es)
  get_own q = ap (λ (m : FinMap nat_cmp TapeCopy). get m q) own_list ∙ get-from_entries nat_cmp_total (copies_by stamp_in copy_in es) q

  own_at : (e : Full × FileRow) → Contains es e → get (own_copies k places) e.1.stamp ≡ copy_in e
  own_at e there =
      get_own e.1.stamp
      ∙ find_copy stamp_in copy_in es e.1.stamp (copy_in e) e there refl
      (λ i d within same. ap copy_in (one_entry (get_or es i d) e (Contains-get_or es i d within) there same))

  own_none : (q : ℕ) → ((e : Full × FileRow) → Contains es e → e.1.stamp ≡ q → ⊥) → get (own_copies k places) q ≡ None
  own_none q none = get_own q ∙ no_copy_of stamp_in copy_in es q (λ i d within same. none (get_or es i d) (Contains-get_or es i d within) same)

  abbrev waiting_list : List (Full × FileRow)
  waiting_list = filter (waits k) es

  get_waiting : (q : ℕ) → get (waiting k) q ≡ find nat_cmp q (map (λ (e : Full × FileRow). (e.1.stamp, state.blocks_of e.1)) waiting_list)
  get_waiting q = get-from_entries nat_cmp_total (map (λ (e : Full × FileRow). (e.1.stamp, state.blocks_of e.1)) waiting_list) q

  waiting_at : (e : Full × FileRow) → Contains es e → waits k e ≡ true → is_some (get (waiting k) e.1.stamp) ≡ true
  waiting_at e there waits_it =
      ap is_some
      (get_waiting e.1.stamp
      ∙ find_value stamp_in (λ (f : Full × FileRow). state.blocks_of f.1) waiting_list e.1.stamp (state.blocks_of e.1) e (contains_filter (waits k) es e there waits_it) refl
      (All-filter (waits k) (λ (f : Full × FileRow). f.1.stamp ≡ e.1.stamp → state.blocks_of f.1 ≡ state.blocks_of e.1) es
      (λ i d within same. ap (λ (f : Full × FileRow). state.blocks_of f.1) (one_entry (get_or es i d) e (Contains-get_or es i d within) there same))))

  waiting_none : (q : ℕ) → ((e : Full × FileRow) → Contains es e → waits k e ≡ true → e.1.stamp ≡ q → ⊥) → get (waiting k) q ≡ None
  waiting_none q none =
      get_waiting q
      ∙ find_nothing stamp_in (λ (f : Full × FileRow). state.blocks_of f.1) waiting_list q
      (λ i d within same.
      let e = get_or waiting_list i d in
      let there = Contains-get_or waiting_list i d within in
      none e (from_filter (waits k) es e there) (All-contains (λ (f : Full × FileRow). waits k f ≡ true) waiting_list e (filter_passes (waits k) es) there) same)

  -- an open dump with these
  module _ (d : state.OpenDump) (own_is : d.own ≡ own_copies k places) (waiting_is : d.waiting ≡ waiting k) (places_is : d.places ≡ places) where
    -- what the closing would note
    noted_not : (stamp : ℕ) (p : state.Place) → get (waiting k) stamp ≡ None → noted_copy d stamp p ≡ p
    noted_not stamp p none =
        ap (λ (m : FinMap nat_cmp ℕ). if is_some (get m stamp) then record p { copy = (state.place_at d.places stamp).copy } else p) waiting_is
        ∙ ap (λ (o : Option ℕ). if is_some o then record p { copy = (state.place_at d.places stamp).copy } else p) none

    noted_is : (stamp : ℕ) (p : state.Place) → is_some (get (waiting k) stamp) ≡ true → noted_copy d stamp p ≡ with_tape (state.place_at places stamp).copy p
    unfolding with_tape
    noted_is stamp p some =
        ap (λ (m : FinMap nat_cmp ℕ). if is_some (get m stamp) then record p { copy = (state.place_at d.places stamp).copy } else p) waiting_is
        ∙ ap (λ (b : Bool). if b then record p { copy = (state.place_at d.places stamp).copy } else p) some
        ∙ ap (λ (m : FinMap nat_cmp state.Place). with_tape (state.place_at m stamp).copy p) places_is

    -- what a start would adopt
    other_is : (stamp : ℕ) (p : state.Place) (o : Option TapeCopy) → get (own_copies k places) stamp ≡ o → other_copy (get d.own stamp) p ≡ other_copy o p
    other_is stamp p o is = ap (λ (m : FinMap nat_cmp TapeCopy). other_copy (get m stamp) p) own_is ∙ ap (λ (x : Option TapeCopy). other_copy x p) is

    -- a version that doesn't wait has the same copy
    same_copy : (e : Full × FileRow) (p : state.Place) → Contains es e → get k.places e.1.stamp ≡ Some p → waits k e ≡ false → other_copy (state.place_at places e.1.stamp).copy p ≡ p
    unfolding with_tape
    same_copy e p there has isnt = by_length (cases_eq (length e.1.bytes) 0)
      where
        at : state.place_at k.places e.1.stamp ≡ p
        at = ap (λ (o : Option state.Place). unwrap_or o (record { online = true; copy = None })) has

        by_copy : 0 < length e.1.bytes → (o : Option TapeCopy) → p.copy ≡ o → other_copy (state.place_at places e.1.stamp).copy p ≡ p
        by_copy filled None none =
            let waits_it : waits k e ≡ true =
            ap (λ (b : Bool). b && is_none (state.place_at k.places e.1.stamp).copy) (lt-ltb 0 (length e.1.bytes) filled)
            ∙ ap (λ (q : state.Place). is_none q.copy) at ∙ ap (λ (o : Option TapeCopy). is_none o) none in
            absurd (both_ways (waits k e) isnt waits_it)
        by_copy filled (Some copy) some =
            ap (λ (q : state.Place). other_copy q.copy p) (noted.old e.0 e.1 copy (found e there) filled (ap (λ (q : state.Place). q.copy) at ∙ some))
            ∙ ap (λ (o : Option TapeCopy). with_tape o p) (sym some)

        by_length : (length e.1.bytes ≡ 0) ⊎ (length e.1.bytes ≡ 0 → ⊥) → other_copy (state.place_at places e.1.stamp).copy p ≡ p
        by_length (inl none) = ap (λ (q : state.Place). other_copy q.copy p) (noted.empty e.0 e.1 (found e there) none)
        by_length (inr some) = by_copy (omega (arith, some)) p.copy refl

    at_entry : (e : Full × FileRow) (p : state.Place) → Contains es e → get k.places e.1.stamp ≡ Some p
        → (state.is_in k.kept e.0.user ≡ true) ⊎ (state.is_in k.kept e.0.user ≡ false) → (waits k e ≡ true) ⊎ (waits k e ≡ false)
        → other_copy (get d.own e.1.stamp) p ≡ noted_copy d e.1.stamp p
    unfolding with_tape
    at_entry e p there has (inl kept) waiting_or =
        let isnt : waits k e ≡ false = able.kept e.0 e.1 (found e there) kept in
        other_is e.1.stamp p None (own_at e there ∙ ap (λ (b : Bool). let o : Option TapeCopy = if b then None else (state.place_at places e.1.stamp).copy in o) kept)
        ∙ sym (noted_not e.1.stamp p
        (waiting_none e.1.stamp (λ f in_f waits_it same. both_ways (waits k e) isnt (ap (waits k) (sym (one_entry f e in_f there same)) ∙ waits_it))))
    at_entry e p there has (inr free) (inl waits_it) =
        let (copy, place, serial_is, least, most) = noted.new e.0 e.1 (found e there) waits_it in
        other_is e.1.stamp p (state.place_at places e.1.stamp).copy
        (own_at e there ∙ ap (λ (b : Bool). let o : Option TapeCopy = if b then None else (state.place_at places e.1.stamp).copy in o) free)
        ∙ ap (λ (q : state.Place). other_copy q.copy p) place
        ∙ ap (λ (q : state.Place). with_tape q.copy p) (sym place)
        ∙ sym (noted_is e.1.stamp p (waiting_at e there waits_it))
    at_entry e p there has (inr free) (inr isnt) =
        other_is e.1.stamp p (state.place_at places e.1.stamp).copy
        (own_at e there ∙ ap (λ (b : Bool). let o : Option TapeCopy = if b then None else (state.place_at places e.1.stamp).copy in o) free)
        ∙ same_copy e p there has isnt
        ∙ sym (noted_not e.1.stamp p
        (waiting_none e.1.stamp (λ f in_f waits_it same. both_ways (waits k e) isnt (ap (waits k) (sym (one_entry f e in_f there same)) ∙ waits_it))))

    each : (stamp : ℕ) (p : state.Place) → get k.places stamp ≡ Some p → other_copy (get d.own stamp) p ≡ noted_copy d stamp p
    each stamp p has = by_entry (cases_Bool (list_any (λ (e : Full × FileRow). e.1.stamp == stamp) es))
      where
        by_entry : (list_any (λ (e : Full × FileRow). e.1.stamp == stamp) es ≡ true) ⊎ (list_any (λ (e : Full × FileRow). e.1.stamp == stamp) es ≡ false)
            → other_copy (get d.own stamp) p ≡ noted_copy d stamp p
        by_entry (inl some) =
            let (e, there, test) = any_found (λ (f : Full × FileRow). f.1.stamp == stamp) es some in
            let same : e.1.stamp ≡ stamp = eqb-true e.1.stamp stamp test in
            subst (λ (n : ℕ). other_copy (get d.own n) p ≡ noted_copy d n p) same
            (at_entry e p there (subst (λ (n : ℕ). get k.places n ≡ Some p) (sym same) has) (cases_Bool (state.is_in k.kept e.0.user)) (cases_Bool (waits k e)))
        by_entry (inr none) =
            let nobody : (e : Full × FileRow) → Contains es e → e.1.stamp ≡ stamp → ⊥ =
            λ e there same. both_ways (list_any (λ (f : Full × FileRow). f.1.stamp == stamp) es) none (any_there (λ (f : Full × FileRow). f.1.stamp == stamp) es e there (eq-eqb e.1.stamp stamp same)) in
            other_is stamp p None (own_none stamp nobody) ∙ sym (noted_not stamp p (waiting_none stamp (λ e there waits_it same. nobody e there same)))

    later : (stamp : ℕ) → k.tree.next ≤ stamp → (get d.own stamp ≡ None) × (get d.waiting stamp ≡ None)
    later stamp le =
        let nobody : (e : Full × FileRow) → Contains es e → e.1.stamp ≡ stamp → ⊥ =
        λ e there same. let less = able.dated e.0 e.1 (found e there) in (let no : ⊥ = omega (arith, less, same, le) in no) in (
          ap (λ (m : FinMap nat_cmp TapeCopy). get m stamp) own_is ∙ own_none stamp nobody,
          ap (λ (m : FinMap nat_cmp ℕ). get m stamp) waiting_is ∙ waiting_none stamp (λ e there waits_it same. nobody e there same),
        )

    pub stands : (h : state.Holding) → h.places ≡ k.places → h.tree ≡ k.tree → OwnsStand d h
    stands h same_places same_tree = record {
      noted = record { each = λ stamp p has. each stamp p (ap (λ (m : FinMap nat_cmp state.Place). get m stamp) (sym same_places) ∙ has) };
      older = λ stamp le. later stamp (subst (λ (n : ℕ). n ≤ stamp) (ap (λ (t : Tree). t.next) same_tree) le);
    }
