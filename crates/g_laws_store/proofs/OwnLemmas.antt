-- The copies that the records of a dump name at its opening, and the whole state afterwards.
-- serves: opening_goes_by_step, AdoptLemmas, crates above
use Rattle.std.proofs.Common.{◌≡◌, ℕ, zero, suc, ◌+◌, ◌<◌, Bool, true, false, List, [], ◌∷◌, get_or, length, Option, Some, None, refl, sym, ◌∙◌, ap, arith, subst, inl, inr}
use Rattle.std.specs.Prelude.{◌⊎◌, ◌==◌, Contains, Ok, map, not, if◌then◌else◌}
use Rattle.std.specs.Ordering.{nat_cmp}
use Rattle.std.specs.FinMap.{FinMap, empty, entries, find, from_entries, nat_cmp-IsAntisymmetric, same_map, get-from_entries}
use Rattle.std.proofs.lemmas.Bool.{both_ways, cases_Bool, cases_eq, eq-eqb, ne_eqb, not-false, not-true}
use Rattle.std.proofs.lemmas.Cmp.{nat_cmp_total}
use Rattle.std.proofs.lemmas.List.Elements.{All-contains, Contains-get_or}
use Rattle.std.proofs.lemmas.List.Folds.{flat_map-map}
use Rattle.std.proofs.lemmas.Option.{none-some}
use Rattle.g_name.specs.declared.full.Full.{Full}
use Rattle.g_entry.specs.declared.file_rec.FileRec.{FileRec}
use Rattle.g_entry.specs.declared.file_rec.TapeCopy.{TapeCopy}
use Rattle.g_entry.specs.declared.user_rec.UserRec.{UserRec}
use Rattle.g_tape.specs.Reel.{Reel}
use Rattle.g_plain.specs.declared.faults.StoreFault.{StoreFault}
use Rattle.g_plain.specs.PlainTree.{FileRow, Tree}
use Rattle.g_tree.specs.Records.{file_row_of, full_of, name_of}
use Rattle.g_tree.proofs.ListLemmas.{filter_none}
use Rattle.g_tree.proofs.MapLemmas.{found_itself, found_one, keyed}
use Rattle.g_tree.proofs.RuleLemmas.{one_of_key}
use Rattle.g_disc_contents.specs.Contents.{File, copied_rec, copy_of, has, recs_in}
use Rattle.g_disc_contents.specs.Facts.{Pin}
use Rattle.g_incr.specs.Layout.{Dump, ends, holds}
use Rattle.g_incr.specs.Plan.{Plan, dump_of, first_content, needs, noted_files}
use Rattle.g_shelf.specs.CompletedDumps.{end_behind, end_of as end_of_shelf}
use Rattle.g_store_model.specs.State as state
use Rattle.g_store_model.specs.CallStep.{Plain}
use Rattle.g_store_model.specs.DumpSteps.{Event, dump_needs, open_refuses, opening, own_copies, own_copy, waiting}
use Rattle.g_store_meaning.specs.Meaning.{files_in, told_reels}
use Rattle.g_store_meaning.specs.Reading.{Opened, View, dumped_places, names_of, open_tree, own_of, own_opened, row_of, shelved_of, state_up, users_in, users_not_in, waiting_of}
use Rattle.g_store_meaning.specs.StoreInvariant.{StoreFacts}
use Rattle.g_laws_store.specs.Dumping.{opened_with}
use Rattle.g_laws_store.proofs.ClosingLemmas.{contains_filter}
use Rattle.g_laws_store.proofs.PinLemmas.{noted_copied, pairs}
use Rattle.g_laws_store.proofs.RecordLemmas.{from_filter}
use Rattle.g_laws_store.specs.Rooms.{held_in}
use Rattle.g_laws_store.proofs.NeedsLemmas.{kept_is, opening_takes}
use Rattle.g_laws_store.proofs.WaitingLemmas.{entries_all, entry_there, from_mapped, mapped_there}
use Rattle.g_laws_store.specs.Opening.{IsOpening, OpeningIsStep}
use Rattle.g_laws_store.proofs.CopyLemmas.{copies_by, find_copy, no_copy_of, numbered_copies, same_flat}
use Rattle.g_laws_store.proofs.OpenedLemmas.{are, are_noted, distinct, place_of_rec, tree_is}

-- the reel of the dump, and the block after its dumps
ends_same : (at : ℕ) (d : Dump) (ds : List Dump) → state.end_of_dumps (map shelved_of (d ∷ ds)) ≡ end_behind at (d ∷ ds)
ends_same at d [] = refl
ends_same at d (e ∷ es) = ends_same (ends d) e es

end_is : (ds : List Dump) → state.end_of_dumps (map shelved_of ds) ≡ end_of_shelf ds
end_is [] = refl
end_is (d ∷ ds) = ends_same 0 d ds

reel_end : (shelf : ℕ → List Dump) (serial : ℕ) (reels : List Reel) → Contains (map (λ (r : Reel). r.serial) reels) serial
    → state.end_in (state.reel_at serial (map (row_of shelf) reels)) ≡ end_of_shelf (shelf serial)
reel_end shelf serial [] (i, within, is) = let no : ⊥ = omega (arith, within) in absurd no
reel_end shelf serial (r ∷ rs) there = by_serial (cases_eq serial r.serial) (λ other. reel_end shelf serial rs (later there other))
  where
    later : Contains (map (λ (q : Reel). q.serial) (r ∷ rs)) serial → (serial ≡ r.serial → ⊥) → Contains (map (λ (q : Reel). q.serial) rs) serial
    later (zero, within, is) other = absurd (other (sym is))
    later (suc i, within, is) other = (i, omega (arith, within), is)

    by_serial : (serial ≡ r.serial) ⊎ (serial ≡ r.serial → ⊥)
        → ((serial ≡ r.serial → ⊥) → state.end_in (state.reel_at serial (map (row_of shelf) rs)) ≡ end_of_shelf (shelf serial))
        → state.end_in (state.reel_at serial (map (row_of shelf) (r ∷ rs))) ≡ end_of_shelf (shelf serial)
    by_serial (inl same) rest =
        ap (λ (b : Bool). state.end_in (if b then Some (row_of shelf r) else state.reel_at serial (map (row_of shelf) rs))) (eq-eqb serial r.serial same)
        ∙ end_is (shelf r.serial) ∙ ap (λ (n : ℕ). end_of_shelf (shelf n)) (sym same)
    by_serial (inr other) rest =
        ap (λ (b : Bool). state.end_in (if b then Some (row_of shelf r) else state.reel_at serial (map (row_of shelf) rs))) (ne_eqb serial r.serial other) ∙ rest other

-- a user who is kept has no copy of the dump's own
pub chosen_copy : (b : Bool) (n : ℕ) (o : Option TapeCopy) → (if b then [] else state.copy_entry n o) ≡ state.copy_entry n (if b then None else o)
chosen_copy true n o = refl
chosen_copy false n o = refl

module _ (v : View) (s : StoreFacts) (plan : Plan) (pins : List Pin) (content : List (List ℕ)) (opened : Opened) (is : IsOpening v s plan pins content opened) where
  abbrev changed : List ℕ
  changed = s.online.changed

  abbrev reels : List Reel
  reels = told_reels s.rack

  abbrev kept : List UserRec
  kept = users_not_in changed s.online.contents.users

  abbrev k : state.Holding
  k = held_in v s.online

  abbrev places : FinMap nat_cmp state.Place
  places = dumped_places (files_in opened.directory)

  abbrev stamp_of : FileRec → ℕ
  stamp_of r = r.stamp

  abbrev copy_by : FileRec → Option TapeCopy
  copy_by r = copy_of (pairs pins) r.stamp r.tape

  abbrev entry_stamp : Full × FileRow → ℕ
  entry_stamp e = e.1.stamp

  abbrev entry_copy : Full × FileRow → Option TapeCopy
  entry_copy e = if state.is_in k.kept e.0.user then None else (state.place_at places e.1.stamp).copy

  abbrev entry : File → Full × FileRow
  entry f = (full_of s.online.contents.users f.rec, file_row_of s.online.contents.users (λ r. v.text r.stamp) f.rec)

  -- THE FILES OF THE PLAN
  in_recs : (r : FileRec) → Contains plan.files r → Contains (recs_in s.online.contents) r × (holds changed r.owner ≡ true)
  in_recs r there =
      let held : holds changed r.owner ≡ true =
      subst (λ (ns : List ℕ). holds ns r.owner ≡ true) is.planned.held (All-contains (λ (q : FileRec). holds plan.held q.owner ≡ true) plan.files r is.planned.rules.owners there) in (
        from_filter (λ (q : FileRec). q.owner == r.owner) (recs_in s.online.contents) r
            (subst (λ (rs : List FileRec). Contains rs r) (is.planned.files r.owner held)
            (contains_filter (λ (q : FileRec). q.owner == r.owner) plan.files r there (eq-eqb r.owner r.owner refl))),
        held,
      )

  in_plan_files : (r : FileRec) → Contains (recs_in s.online.contents) r → holds changed r.owner ≡ true → Contains plan.files r
  in_plan_files r there held =
      from_filter (λ (q : FileRec). q.owner == r.owner) plan.files r
      (subst (λ (rs : List FileRec). Contains rs r) (sym (is.planned.files r.owner held))
      (contains_filter (λ (q : FileRec). q.owner == r.owner) (recs_in s.online.contents) r there (eq-eqb r.owner r.owner refl)))

  one_rec : (q r : FileRec) → Contains (recs_in s.online.contents) q → Contains (recs_in s.online.contents) r → q.stamp ≡ r.stamp → q ≡ r
  one_rec q r in_q in_r same = one_of_key stamp_of (recs_in s.online.contents) q r is.dumpable.records.among_files.stamps in_q in_r same

  -- BY STAMP: the copies of the plan's records and those of the state
  here : (q : ℕ) (f : File) → Contains s.online.contents.files f → f.rec.stamp ≡ q → (holds changed f.rec.owner ≡ true) ⊎ (holds changed f.rec.owner ≡ false)
      → find nat_cmp q (copies_by stamp_of copy_by plan.files) ≡ find nat_cmp q (copies_by entry_stamp entry_copy (entries k.tree.files))
  here q f in_files stamp by_owner =
      by_plan by_owner
      ∙ sym (find_copy entry_stamp entry_copy (entries k.tree.files) q (entry_copy (entry f)) (entry f)
      (entry_there v.text v.shelf changed s.online.contents plan pins (are v s plan pins content opened is) kept f in_files) stamp
      (entries_all v.text v.shelf changed s.online.contents plan pins (are v s plan pins content opened is) kept (λ (e : Full × FileRow). entry_stamp e ≡ q → entry_copy e ≡ entry_copy (entry f))
      (λ i d within same.
      let g = get_or s.online.contents.files i d in
      let in_g : Contains (recs_in s.online.contents) g.rec = mapped_there (λ (h : File). h.rec) s.online.contents.files g (Contains-get_or s.online.contents.files i d within) in
      ap (λ (r : FileRec). entry_copy (full_of s.online.contents.users r, file_row_of s.online.contents.users (λ (w : FileRec). v.text w.stamp) r)) (one_rec g.rec f.rec in_g there (same ∙ sym stamp)))))
    where
      there : Contains (recs_in s.online.contents) f.rec
      there = mapped_there (λ (h : File). h.rec) s.online.contents.files f in_files

      owner : f.rec.owner < length s.online.contents.users
      owner = All-contains (λ (r : FileRec). r.owner < length s.online.contents.users) (recs_in s.online.contents) f.rec is.dumpable.records.among_files.owners there

      is_kept : (b : Bool) → holds changed f.rec.owner ≡ b → not (state.is_in k.kept (name_of s.online.contents.users f.rec.owner)) ≡ b
      is_kept b is_b = kept_is s.online.contents.users (recs_in s.online.contents) changed f.rec.owner is.dumpable.records owner ∙ is_b

      value_is : (b : Bool) → state.is_in k.kept (name_of s.online.contents.users f.rec.owner) ≡ b → entry_copy (entry f) ≡ (if b then None else copy_by f.rec)
      value_is b is_b =
          ap (λ (x : Bool). if x then None else (state.place_at places f.rec.stamp).copy) is_b
          ∙ ap (λ (p : state.Place). let o : Option TapeCopy = if b then None else p.copy in o) (place_of_rec v s plan pins content opened is f.rec there)

      by_plan : (holds changed f.rec.owner ≡ true) ⊎ (holds changed f.rec.owner ≡ false) → find nat_cmp q (copies_by stamp_of copy_by plan.files) ≡ entry_copy (entry f)
      by_plan (inl held) =
          find_copy stamp_of copy_by plan.files q (copy_by f.rec) f.rec (in_plan_files f.rec there held) stamp
          (λ i d within same.
          let r = get_or plan.files i d in
          ap copy_by (one_rec r f.rec (in_recs r (Contains-get_or plan.files i d within)).0 there (same ∙ sym stamp)))
          ∙ sym (value_is false (not-true (state.is_in k.kept (name_of s.online.contents.users f.rec.owner)) (is_kept true held)))
      by_plan (inr isnt) =
          no_copy_of stamp_of copy_by plan.files q
          (λ i d within same.
          let r = get_or plan.files i d in
          let (in_r, held) = in_recs r (Contains-get_or plan.files i d within) in
          both_ways (holds changed f.rec.owner) isnt (ap (λ (w : FileRec). holds changed w.owner) (sym (one_rec r f.rec in_r there (same ∙ sym stamp))) ∙ held))
          ∙ sym (value_is true (not-false (state.is_in k.kept (name_of s.online.contents.users f.rec.owner)) (is_kept false isnt)))

  nowhere : (q : ℕ) → ((f : File) → Contains s.online.contents.files f → f.rec.stamp ≡ q → ⊥)
      → find nat_cmp q (copies_by stamp_of copy_by plan.files) ≡ find nat_cmp q (copies_by entry_stamp entry_copy (entries k.tree.files))
  nowhere q none =
      no_copy_of stamp_of copy_by plan.files q
      (λ i d within same.
      let r = get_or plan.files i d in
      let (f, in_files, is_r) = from_mapped (λ (h : File). h.rec) s.online.contents.files r (in_recs r (Contains-get_or plan.files i d within)).0 in
      none f in_files (ap (λ (w : FileRec). w.stamp) is_r ∙ same))
      ∙ sym (no_copy_of entry_stamp entry_copy (entries k.tree.files) q
      (entries_all v.text v.shelf changed s.online.contents plan pins (are v s plan pins content opened is) kept (λ (e : Full × FileRow). entry_stamp e ≡ q → ⊥)
      (λ i d within same. none (get_or s.online.contents.files i d) (Contains-get_or s.online.contents.files i d within) same)))

  own_by : (q : ℕ) (o : Option File) → find nat_cmp q (keyed (λ (f : File). f.rec.stamp) s.online.contents.files) ≡ o
      → find nat_cmp q (copies_by stamp_of copy_by plan.files) ≡ find nat_cmp q (copies_by entry_stamp entry_copy (entries k.tree.files))
  own_by q (Some f) e =
      let one = found_one nat_cmp_total nat_cmp-IsAntisymmetric (λ (g : File). g.rec.stamp) q s.online.contents.files f e in
      here q f one.0 one.1 (cases_Bool (holds changed f.rec.owner))
  own_by q None e = nowhere q (λ f in_files same. no_file f in_files same)
    where
      no_file : (f : File) → Contains s.online.contents.files f → f.rec.stamp ≡ q → ⊥
      no_file f in_files same =
          none-some f
          (sym e ∙ subst (λ (n : ℕ). find nat_cmp n (keyed (λ (g : File). g.rec.stamp) s.online.contents.files) ≡ Some f) same
          (found_itself nat_cmp_total nat_cmp-IsAntisymmetric (λ (g : File). g.rec.stamp) s.online.contents.files f (distinct v s plan pins content opened is) in_files))

  -- the copies of the dump's records, for any numbers
  plan_copies : own_of (dump_of plan content) ≡ from_entries {R = nat_cmp} (copies_by stamp_of copy_by plan.files)
  plan_copies =
      ap (λ (es : List (ℕ × TapeCopy)). from_entries {R = nat_cmp} es)
      (numbered_copies 0 (noted_files plan.serial (first_content plan) plan.files)
      ∙ ap (λ (rs : List FileRec). copies_by stamp_of (λ (r : FileRec). r.tape) rs) (noted_copied plan.serial (first_content plan) plan.files pins is.pinned is.planned.rules.files.stamps)
      ∙ flat_map-map (λ (r : FileRec). state.copy_entry r.stamp r.tape) (copied_rec (pairs pins)) plan.files)

  state_copies : own_copies k places ≡ from_entries {R = nat_cmp} (copies_by entry_stamp entry_copy (entries k.tree.files))
  state_copies =
      ap (λ (es : List (ℕ × TapeCopy)). from_entries {R = nat_cmp} es)
      (same_flat (own_copy k places) (λ (e : Full × FileRow). state.copy_entry (entry_stamp e) (entry_copy e))
      (λ e. chosen_copy (state.is_in k.kept e.0.user) e.1.stamp (state.place_at places e.1.stamp).copy) (entries k.tree.files))

  pub own_is : own_of opened.dump ≡ own_copies k places
  own_is =
      ap own_of is.opens.dump ∙ plan_copies
      ∙ same_map nat_cmp_total nat_cmp-IsAntisymmetric (from_entries (copies_by stamp_of copy_by plan.files)) (from_entries (copies_by entry_stamp entry_copy (entries k.tree.files)))
      (λ q. get-from_entries nat_cmp_total (copies_by stamp_of copy_by plan.files) q
      ∙ own_by q (find nat_cmp q (keyed (λ (f : File). f.rec.stamp) s.online.contents.files)) refl
      ∙ sym (get-from_entries nat_cmp_total (copies_by entry_stamp entry_copy (entries k.tree.files)) q))
      ∙ sym state_copies

  -- the state after the opening
  abbrev old : state.State
  old = state_up v reels s.online s.dump

  place_is : state.end_of old plan.serial ≡ plan.place
  place_is = reel_end v.shelf plan.serial reels is.on ∙ sym is.planned.place

  none_touched : names_of (users_in [] s.online.contents.users) ≡ empty
  none_touched = ap names_of (filter_none (λ (u : UserRec). has [] u.number) s.online.contents.users (λ i d within. refl))

  state_by : ℕ → ℕ → ℕ → Tree → FinMap nat_cmp state.Place → FinMap nat_cmp ℕ → FinMap nat_cmp TapeCopy → state.Users → state.State
  state_by place number needed tree where_ waits own touched = record old {
    holding = Some (record k { intent = Some (record { serial = plan.serial; place = place; number = number }) });
    open_dump = Some (record {
      number = number;
      serial = plan.serial;
      place = place;
      needs = needed;
      done = 0;
      tree = tree;
      places = where_;
      waiting = waits;
      own = own;
      touched = touched;
    });
  }

  needs_is : needs plan ≡ dump_needs k
  needs_is = sym (opening_takes.needs v.text v.shelf changed s.online.contents plan pins (are v s plan pins content opened is))

  waits_is : waiting_of (Some pins) ≡ waiting k
  waits_is = opening_takes.waits v.text v.shelf changed s.online.contents plan pins kept (are v s plan pins content opened is)

  trees : (open_tree v.text v.opened).0 ≡ k.tree
  trees = ap (λ (o : Option Opened). (open_tree v.text o).0) is.opens.is ∙ tree_is v s plan pins content opened is

  wheres : (open_tree v.text v.opened).1 ≡ places
  wheres = ap (λ (o : Option Opened). (open_tree v.text o).1) is.opens.is

  owns : own_opened v.opened ≡ own_copies k places
  owns = ap own_opened is.opens.is ∙ own_is

  pub state_is : (let new = opened_with plan pins s in state_up v (told_reels new.rack) new.online new.dump ≡ opening old k plan.serial places)
  unfolding state_by
  state_is = λ i. state_by (sym place_is i) (is.planned.number i) (needs_is i) (trees i) (wheres i) (waits_is i) (owns i) (none_touched i)

event_done : {A : Type 0} (refusal : Option StoreFault) (reply : A) (s after : state.State) → refusal ≡ None → Event refusal reply s after (Ok reply) after
event_done refusal reply s after none = subst (λ (o : Option StoreFault). Event o reply s after (Ok reply) after) (sym none) (refl, refl)

pub opening_is_step : OpeningIsStep
opening_is_step = record {
  noted = λ v s plan pins content opened is.
      are_noted v s plan pins content opened is (state.end_of (state_up v (told_reels s.rack) s.online s.dump) plan.serial) (place_is v s plan pins content opened is);
  own = own_is;
  state = state_is;
  step = λ v s plan pins content opened is passes.
      let before = state_up v (told_reels s.rack) s.online s.dump in
      let k = held_in v s.online in
      let places = dumped_places (files_in opened.directory) in
      let after = opening before k plan.serial places in (
        places,
        λ free. are_noted v s plan pins content opened is (state.end_of before plan.serial) (place_is v s plan pins content opened is),
        subst (λ (u : state.State). Event (open_refuses before k plan.serial Plain) (k.last + 1) before after (Ok (k.last + 1)) u)
            (sym (state_is v s plan pins content opened is)) (event_done (open_refuses before k plan.serial Plain) (k.last + 1) before after passes),
      );
}
