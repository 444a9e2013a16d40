-- The step of a call that changes a file's record: its name, or its traps.
-- serves: CallLemmas
use Rattle.std.proofs.Common.{◌≡◌, ℕ, zero, suc, ◌-◌, ◌<◌, Bool, true, false, List, [], ◌∷◌, ◌++◌, get_or, length, Option, Some, None, unwrap_or, refl, sym, ◌∙◌, ap, arith, subst, inl, inr}
use Rattle.std.specs.Prelude.{◌⊎◌, ◌==◌, bit_and, bit_or, All, AllPairs, Contains, filter, map, nat_lt, if◌then◌else◌}
use Rattle.std.specs.Ordering.{nat_cmp}
use Rattle.std.specs.FinMap.{FinMap, get, insert, remove}
use Rattle.std.proofs.lemmas.Bool.{cases_order, cond-false, cond-true, eq-eqb, le-ltb, lt-ltb, ne_eqb, or_left}
use Rattle.std.proofs.lemmas.List.Elements.{All-contains, All-head, All-tail, All-weaker, Contains-get_or}
use Rattle.std.proofs.lemmas.Option.{same_Some}
use Rattle.g_name.specs.declared.full.Full.{Full}
use Rattle.g_name.specs.declared.path.Path.{Path}
use Rattle.g_name.specs.Order.{full_cmp, text_cmp}
use Rattle.g_trap.specs.TrapList.{modes_of, with_modes as with_numbered}
use Rattle.g_entry.specs.declared.file_rec.FileRec.{FileRec}
use Rattle.g_tape.specs.Reel.{Reel}
use Rattle.g_plain.specs.declared.calls.StoreCall.{StoreCall}
use Rattle.g_plain.specs.declared.calls.StoreCall.TheVariants.{Rename, TrapGo, TrapStop}
use Rattle.g_plain.specs.PlainStep.{fault_of, plain_tree, tree_after, with_traps}
use Rattle.g_plain.specs.PlainTree.{FileRow, Tree, file_row, input_name, with_modes}
use Rattle.g_tree.specs.Records.{by_number, file_row_of, full_of, name_of, number_of, traps_named}
use Rattle.g_tree.specs.State as records
use Rattle.g_tree.proofs.LawLemmas.{put_over, tree_put}
use Rattle.g_tree.proofs.ListLemmas.{filter_none, filter_whole}
use Rattle.g_tree.proofs.PutLemmas as found
use Rattle.g_tree.proofs.RightLemmas.{number_found, row_is}
use Rattle.g_tree.proofs.TrapLemmas.{are_trapped, modes_changed, modes_found}
use Rattle.g_disc_contents.specs.Contents.{Contents, File, recs_in, set_rec}
use Rattle.g_disc_contents.specs.Facts.{OnlineFacts}
use Rattle.g_store_model.specs.State as state
use Rattle.g_store_model.specs.CallStep.{IsUnjam, brings_now, changes, need, places_after, writes}
use Rattle.g_store_meaning.specs.Reading.{View, names_of, places_of, state_up, tree_by, users_in}
use Rattle.g_store_meaning.specs.StoreInvariant.{DumpFacts}
use Rattle.g_laws_store.proofs.RecordLemmas.{pairs_head, pairs_tail}
use Rattle.g_laws_store.specs.Rooms.{held_in}
use Rattle.g_laws_store.proofs.PlaceLemmas.{places_go_by_change}
use Rattle.g_laws_store.proofs.UnjamLemmas.{numbers_apart}
use Rattle.g_laws_store.proofs.WaitingLemmas.{mapped_there}
use Rattle.g_tree.proofs.RuleLemmas.{one_of_key}
use Rattle.g_laws_store.specs.Calls.{IsKnown, IsRecordOf, modes_by, trapped}
use Rattle.g_laws_store.proofs.PartLemmas.{GoesBy, granted_tree, kept_without, touched_with}
use Rattle.g_laws_store.proofs.StillLemmas.{still}

-- A RECORD in the place of the one of its number
set_one : FileRec → FileRec → FileRec
set_one r q = if q.number == r.number then r else q

abbrev IsAbove : ℕ → FileRec → Type 0
IsAbove n q = n < q.number

chosen_rec : (b : Bool) (r : FileRec) (g : File) → (if b then record g { rec = r } else g).rec ≡ (if b then r else g.rec)
chosen_rec true r g = refl
chosen_rec false r g = refl

set_recs : (r : FileRec) (files : List File) → map (λ (g : File). g.rec) (set_rec r files) ≡ map (set_one r) (map (λ (g : File). g.rec) files)
unfolding set_one
set_recs r [] = refl
set_recs r (g ∷ gs) = λ i. chosen_rec (g.rec.number == r.number) r g i ∷ set_recs r gs i

unset : (r : FileRec) (qs : List FileRec) → All (IsAbove r.number) qs → map (set_one r) qs ≡ qs
unfolding set_one
unset r [] all = refl
unset r (q ∷ qs) all =
    let above = All-head (IsAbove r.number) q qs all in
    (λ i. cond-false (q.number == r.number) r q (ne_eqb q.number r.number (λ e. let no : ⊥ = omega (arith, above, e) in no)) i ∷ unset r qs (All-tail (IsAbove r.number) q qs all) i)

abbrev lower : ℕ → FileRec → Bool
lower n q = nat_lt q.number n

abbrev upper : ℕ → FileRec → Bool
upper n q = nat_lt n q.number

none_lower : (n : ℕ) (qs : List FileRec) → All (IsAbove n) qs → filter (lower n) qs ≡ []
none_lower n qs all = filter_none (lower n) qs (All-weaker (IsAbove n) (λ (q : FileRec). lower n q ≡ false) (λ q above. le-ltb q.number n (omega (arith, above))) qs all)

all_upper : (n : ℕ) (qs : List FileRec) → All (IsAbove n) qs → filter (upper n) qs ≡ qs
all_upper n qs all = filter_whole (upper n) qs (All-weaker (IsAbove n) (λ (q : FileRec). upper n q ≡ true) (λ q above. lt-ltb n q.number above) qs all)

abbrev Rise : FileRec → FileRec → Type 0
Rise p q = p.number < q.number

set_is : (r : FileRec) (xs : List FileRec) → AllPairs Rise xs → (old : FileRec) → Contains xs old → old.number ≡ r.number → map (set_one r) xs ≡ records.with_file r xs
unfolding set_one
set_is r [] rising old (i, within, is) same = let no : ⊥ = omega (arith, within) in absurd no
set_is r (q ∷ qs) rising old there same = by_order (cases_order q.number r.number) (λ in_qs. set_is r qs (pairs_tail Rise q qs rising) old in_qs same)
  where
    behind : All (IsAbove q.number) qs
    behind = pairs_head Rise q qs rising

    later : Contains (q ∷ qs) old → (q.number ≡ r.number → ⊥) → Contains qs old
    later (zero, within, is) other = absurd (other (ap (λ (p : FileRec). p.number) is ∙ same))
    later (suc i, within, is) other = (i, omega (arith, within), is)

    by_order : (q.number ≡ r.number) ⊎ ((q.number < r.number) ⊎ (r.number < q.number)) → (Contains qs old → map (set_one r) qs ≡ records.with_file r qs)
        → map (set_one r) (q ∷ qs) ≡ records.with_file r (q ∷ qs)
    by_order (inl is) rest =
        let above : All (IsAbove r.number) qs = subst (λ (n : ℕ). All (IsAbove n) qs) is behind in
        let low : filter (lower r.number) (q ∷ qs) ≡ [] =
        cond-false (nat_lt q.number r.number) (q ∷ filter (lower r.number) qs) (filter (lower r.number) qs) (le-ltb q.number r.number (omega (arith, is))) ∙ none_lower r.number qs above in
        let high : filter (upper r.number) (q ∷ qs) ≡ qs =
        cond-false (nat_lt r.number q.number) (q ∷ filter (upper r.number) qs) (filter (upper r.number) qs) (le-ltb r.number q.number (omega (arith, is))) ∙ all_upper r.number qs above in
        (λ i. cond-true (q.number == r.number) r q (eq-eqb q.number r.number is) i ∷ unset r qs above i)
        ∙ (λ i. sym low i ++ r ∷ sym high i)
    by_order (inr (inl less)) rest =
        let low : filter (lower r.number) (q ∷ qs) ≡ q ∷ filter (lower r.number) qs =
        cond-true (nat_lt q.number r.number) (q ∷ filter (lower r.number) qs) (filter (lower r.number) qs) (lt-ltb q.number r.number less) in
        let high : filter (upper r.number) (q ∷ qs) ≡ filter (upper r.number) qs =
        cond-false (nat_lt r.number q.number) (q ∷ filter (upper r.number) qs) (filter (upper r.number) qs) (le-ltb r.number q.number (omega (arith, less))) in
        (λ i. cond-false (q.number == r.number) r q (ne_eqb q.number r.number (λ e. let no : ⊥ = omega (arith, less, e) in no)) i
        ∷ rest (later there (λ e. let no : ⊥ = omega (arith, less, e) in no)) i)
        ∙ (λ i. sym low i ++ r ∷ sym high i)
    by_order (inr (inr more)) rest =
        let in_qs = later there (λ e. let no : ⊥ = omega (arith, more, e) in no) in
        let above = All-contains (IsAbove q.number) qs old behind in_qs in
        let no : ⊥ = omega (arith, above, same, more) in absurd no

row_by : FinMap text_cmp ℕ → List ℕ → ℕ → FileRow
row_by traps bytes stamp = record { traps = traps; bytes = bytes; stamp = stamp }

module _ (v : View) (reels : List Reel) (o : OnlineFacts) (dump : Option DumpFacts) (who : List ℕ) (asked : IsKnown o dump)
    (full : Full) (f : File) (r : FileRec) (there : Contains o.contents.files f) (named : full_of o.contents.users f.rec ≡ full) (is : IsRecordOf o f.rec r) where
  abbrev s : state.State
  s = state_up v reels o dump

  abbrev k : state.Holding
  k = held_in v o

  abbrev bytes : FileRec → List ℕ
  bytes q = v.text q.stamp

  abbrev after : Contents
  after = record o.contents { files = set_rec r o.contents.files }

  rec_there : Contains (recs_in o.contents) f.rec
  rec_there = mapped_there (λ (g : File). g.rec) o.contents.files f there

  after_recs : recs_in after ≡ records.with_file r (recs_in o.contents)
  after_recs = set_recs r o.contents.files ∙ set_is r (recs_in o.contents) asked.records.numbers.rising f.rec rec_there (sym is.number)

  at : get (by_number (recs_in o.contents)) r.number ≡ Some f.rec
  at = found.number_found o.contents.users (recs_in o.contents) asked.records r.number f.rec rec_there (sym is.number)

  row_before : file_row k.tree full ≡ file_row_of o.contents.users bytes f.rec
  row_before = ap (λ (n : Full). file_row k.tree n) (sym named) ∙ row_is o.contents.users (recs_in o.contents) asked.records bytes o.contents.head.next_stamp f.rec rec_there

  -- the tree with the record's row, under its name
  set_tree : tree_by v.text o.contents.users (recs_in after) o.contents.head.next_stamp
      ≡ record k.tree { files = insert (records.without_number o.contents.users (recs_in o.contents) r.number k.tree.files) (full_of o.contents.users r) (file_row_of o.contents.users bytes r) }
  set_tree = ap (λ (rs : List FileRec). tree_by v.text o.contents.users rs o.contents.head.next_stamp) after_recs ∙ tree_put o.contents.users (recs_in o.contents) bytes o.contents.head.next_stamp asked.records r is.rules

  renamed_tree : (to : List ℕ) → r.traps ≡ f.rec.traps → full_of o.contents.users r ≡ record full { local = to }
      → tree_by v.text o.contents.users (recs_in after) o.contents.head.next_stamp ≡ record k.tree { files = insert (remove k.tree.files full) (record full { local = to }) (file_row k.tree full) }
  unfolding row_by
  renamed_tree to traps name =
      let row : file_row_of o.contents.users bytes r ≡ file_row k.tree full =
      (λ i. row_by (traps_named o.contents.users (is.owner i) (traps i)) (v.text (is.stamp i)) (is.stamp i)) ∙ sym row_before in
      set_tree
      ∙ ap (λ (x : Option FileRec). let t : Tree = record k.tree { files = insert (elim x [ Some q ↦ remove k.tree.files (full_of o.contents.users q) | None ↦ k.tree.files ]) (full_of o.contents.users r) (file_row_of o.contents.users bytes r) } in t) at
      ∙ (λ i. let t : Tree = record k.tree { files = insert (remove k.tree.files (named i)) (name i) (row i) } in t)

  trapped_tree : (user : List ℕ) (number modes : ℕ) → name_of o.contents.users number ≡ user → number < length o.contents.users → full_of o.contents.users r ≡ full
      → r.traps ≡ with_numbered f.rec.traps f.rec.owner number modes
      → tree_by v.text o.contents.users (recs_in after) o.contents.head.next_stamp
      ≡ record k.tree { files = insert k.tree.files full (record (file_row k.tree full) { traps = with_modes full user modes (file_row k.tree full).traps }) }
  unfolding row_by
  trapped_tree user number modes name within same traps =
      let trap_list = are_trapped o.contents.users (recs_in o.contents) f.rec asked.records rec_there in
      let owned : full.user ≡ name_of o.contents.users f.rec.owner = ap (λ (n : Full). n.user) (sym named) in
      let numbered : number_of o.contents.users (recs_in o.contents) (full_of o.contents.users r) ≡ Some r.number =
      ap (λ (n : Full). number_of o.contents.users (recs_in o.contents) n) (same ∙ sym named) ∙ number_found o.contents.users (recs_in o.contents) asked.records r.number f.rec at in
      let traps_are : traps_named o.contents.users r.owner r.traps ≡ with_modes full user modes (file_row k.tree full).traps =
      (λ i. traps_named o.contents.users (is.owner i) (traps i))
      ∙ sym (modes_changed o.contents.users f.rec.owner f.rec.traps trap_list full number modes owned within)
      ∙ ap (λ (n : List ℕ). with_modes full n modes (traps_named o.contents.users f.rec.owner f.rec.traps)) name
      ∙ ap (λ (w : FileRow). with_modes full user modes w.traps) (sym row_before) in
      let row : file_row_of o.contents.users bytes r ≡ record (file_row k.tree full) { traps = with_modes full user modes (file_row k.tree full).traps } =
      (λ i. row_by (traps_are i) (v.text (is.stamp i)) (is.stamp i))
      ∙ (λ i. row_by (with_modes full user modes (file_row k.tree full).traps) (sym row_before i).bytes (sym row_before i).stamp) in
      set_tree
      ∙ ap (λ (m : FinMap full_cmp FileRow). let t : Tree = record k.tree { files = m } in t)
      (put_over o.contents.users (recs_in o.contents) bytes o.contents.head.next_stamp asked.records r k.tree.files (file_row_of o.contents.users bytes r) numbered)
      ∙ (λ i. let t : Tree = record k.tree { files = insert k.tree.files (same i) (row i) } in t)

  -- the modes that the user had
  had_modes : (user : List ℕ) (number : ℕ) → name_of o.contents.users number ≡ user → unwrap_or (get (file_row k.tree full).traps user) 0 ≡ modes_of f.rec.traps f.rec.owner number
  had_modes user number name =
      ap (λ (w : FileRow). unwrap_or (get w.traps user) 0) row_before
      ∙ ap (λ (n : List ℕ). unwrap_or (get (traps_named o.contents.users f.rec.owner f.rec.traps) n) 0) (sym name)
      ∙ modes_found o.contents.users f.rec.owner f.rec.traps (are_trapped o.contents.users (recs_in o.contents) f.rec asked.records rec_there) number

  -- the places stay
  places_stay : places_of (set_rec r o.contents.files) ≡ places_of o.contents.files
  places_stay =
      places_go_by_change.recorded o.contents.files r
      (λ i d within same.
      let g = get_or o.contents.files i d in
      let one : g ≡ f = one_of_key (λ (h : File). h.rec.number) o.contents.files g f (numbers_apart o.contents.files asked.records.numbers.rising) (Contains-get_or o.contents.files i d within) there (same ∙ is.number) in
      record {
        stamp = is.stamp ∙ ap (λ (h : File). h.rec.stamp) (sym one);
        len = is.len ∙ ap (λ (h : File). h.rec.len) (sym one);
        tape = is.tape ∙ ap (λ (h : File). h.rec.tape) (sym one);
      })

  owner_within : r.owner < length o.contents.users
  owner_within = subst (λ (n : ℕ). n < length o.contents.users) (sym is.owner) (All-contains (λ (q : FileRec). q.owner < length o.contents.users) (recs_in o.contents) f.rec asked.records.among_files.owners rec_there)

  owner_name : name_of o.contents.users r.owner ≡ full.user
  owner_name = ap (name_of o.contents.users) is.owner ∙ ap (λ (n : Full). n.user) named

  set_parts : (new : OnlineFacts) (call : StoreCall) (until : ℕ) → writes call ≡ true → tree_by v.text o.contents.users (recs_in after) o.contents.head.next_stamp ≡ plain_tree k.tree who call
      → ((m : FinMap nat_cmp state.Place) → places_after k.tree who call m ≡ m) → changes k.tree who call ≡ full.user ∷ []
      → (state.taken_offline until k).places ≡ k.places → GoesBy v reels o new dump who call until v.text after (r.owner ∷ [])
  set_parts new call until does tree_goes stays mine unmoved = record {
    does = or_left (writes call) (brings_now s k who call) does;
    tree = tree_goes;
    places = places_stay ∙ sym (stays (state.taken_offline until k).places ∙ unmoved);
    last = refl;
    intent = refl;
    kept = kept_without o.contents.users (recs_in o.contents) o.changed r.owner asked.records owner_within ∙ ap (λ (n : List ℕ). remove k.kept n) owner_name
        ∙ ap (λ (names : List (List ℕ)). state.without_all names k.kept) (sym mine);
    touched = touched_with o.contents.users (recs_in o.contents) o.touched r.owner asked.records owner_within ∙ ap (λ (n : List ℕ). insert (names_of (users_in o.touched o.contents.users)) n tt) owner_name
        ∙ ap (λ (names : List (List ℕ)). state.with_all names (names_of (users_in o.touched o.contents.users))) (sym mine);
    dumped = refl;
    opened = refl;
  }

  pub rename_parts : (new : OnlineFacts) (path : Path) (to : List ℕ) (until : ℕ) → full ≡ input_name k.tree who path → r.traps ≡ f.rec.traps → full_of o.contents.users r ≡ record full { local = to }
      → fault_of k.tree who (Rename path to) ≡ None → IsUnjam s k who (Rename path to) until → GoesBy v reels o new dump who (Rename path to) until v.text after (r.owner ∷ [])
  rename_parts new path to until input traps name granted unjam =
      set_parts new (Rename path to) until refl
      (renamed_tree to traps name
      ∙ ap (λ (n : Full). let t : Tree = record k.tree { files = insert (remove k.tree.files n) (record n { local = to }) (file_row k.tree n) } in t) input
      ∙ sym (granted_tree k.tree who (Rename path to) granted))
      (λ m. refl) (ap (λ (n : Full). let names : List (List ℕ) = n.user ∷ [] in names) (sym input))
      (still s k who (Rename path to) until refl unjam)

  -- TrapGo and TrapStop
  trap_tree : (call : StoreCall) (path : Path) (user : List ℕ) (number : ℕ) → trapped call ≡ Some (path, user) → full ≡ input_name k.tree who path → name_of o.contents.users number ≡ user → number < length o.contents.users
      → full_of o.contents.users r ≡ full → r.traps ≡ with_numbered f.rec.traps f.rec.owner number (modes_by call (modes_of f.rec.traps f.rec.owner number))
      → tree_by v.text o.contents.users (recs_in after) o.contents.head.next_stamp ≡ tree_after k.tree who call
  trap_tree (TrapGo p u given) path user number is_call input name within same traps =
      let of : (p, u) ≡ (path, user) = same_Some (p, u) (path, user) is_call in
      let at_path : full ≡ input_name k.tree who p = input ∙ ap (λ (x : Path × List ℕ). input_name k.tree who x.0) (sym of) in
      let at_user : name_of o.contents.users number ≡ u = name ∙ ap (λ (x : Path × List ℕ). x.1) (sym of) in
      trapped_tree u number (bit_or (modes_of f.rec.traps f.rec.owner number) given) at_user within same traps
      ∙ ap (λ (had : ℕ). let t : Tree = record k.tree { files = insert k.tree.files full (record (file_row k.tree full) { traps = with_modes full u (bit_or had given) (file_row k.tree full).traps }) } in t)
      (sym (had_modes u number at_user))
      ∙ ap (λ (n : Full). with_traps k.tree n u (bit_or (unwrap_or (get (file_row k.tree n).traps u) 0) given)) at_path
  trap_tree (TrapStop p u given) path user number is_call input name within same traps =
      let of : (p, u) ≡ (path, user) = same_Some (p, u) (path, user) is_call in
      let at_path : full ≡ input_name k.tree who p = input ∙ ap (λ (x : Path × List ℕ). input_name k.tree who x.0) (sym of) in
      let at_user : name_of o.contents.users number ≡ u = name ∙ ap (λ (x : Path × List ℕ). x.1) (sym of) in
      let had : ℕ = modes_of f.rec.traps f.rec.owner number in
      trapped_tree u number (had - bit_and had given) at_user within same traps
      ∙ ap (λ (h : ℕ). let t : Tree = record k.tree { files = insert k.tree.files full (record (file_row k.tree full) { traps = with_modes full u (h - bit_and h given) (file_row k.tree full).traps }) } in t)
      (sym (had_modes u number at_user))
      ∙ ap (λ (n : Full). let h = unwrap_or (get (file_row k.tree n).traps u) 0 in with_traps k.tree n u (h - bit_and h given)) at_path
  trap_tree call path user number is_call input name within same traps = absurd (let no : ⊥ = cc in no)

  trap_facts : (call : StoreCall) (path : Path) (user : List ℕ) → trapped call ≡ Some (path, user)
      → (writes call ≡ true) × ((m : FinMap nat_cmp state.Place) → places_after k.tree who call m ≡ m) × (changes k.tree who call ≡ (input_name k.tree who path).user ∷ []) × (need s k who call ≡ 0)
  trap_facts (TrapGo p u given) path user is_call =
      (refl, λ m. refl, ap (λ (x : Path × List ℕ). let names : List (List ℕ) = (input_name k.tree who x.0).user ∷ [] in names) (same_Some (p, u) (path, user) is_call), refl)
  trap_facts (TrapStop p u given) path user is_call =
      (refl, λ m. refl, ap (λ (x : Path × List ℕ). let names : List (List ℕ) = (input_name k.tree who x.0).user ∷ [] in names) (same_Some (p, u) (path, user) is_call), refl)
  trap_facts call path user is_call = absurd (let no : ⊥ = cc in no)

  pub trap_parts : (new : OnlineFacts) (call : StoreCall) (path : Path) (user : List ℕ) (number until : ℕ) → trapped call ≡ Some (path, user) → full ≡ input_name k.tree who path
      → name_of o.contents.users number ≡ user → number < length o.contents.users → full_of o.contents.users r ≡ full
      → r.traps ≡ with_numbered f.rec.traps f.rec.owner number (modes_by call (modes_of f.rec.traps f.rec.owner number))
      → fault_of k.tree who call ≡ None → IsUnjam s k who call until → GoesBy v reels o new dump who call until v.text after (r.owner ∷ [])
  trap_parts new call path user number until is_call input name within same traps granted unjam =
      let (does, stays, mine, none) = trap_facts call path user is_call in
      set_parts new call until does
      (trap_tree call path user number is_call input name within same traps ∙ sym (granted_tree k.tree who call granted))
      stays (mine ∙ ap (λ (n : Full). let names : List (List ℕ) = n.user ∷ [] in names) (sym input))
      (still s k who call until none unjam)
