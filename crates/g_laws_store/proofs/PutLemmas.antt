-- The step of a call that creates a new version.
-- serves: CallLemmas
use Rattle.std.proofs.Common.{◌≡◌, ◌≢◌, ℕ, ◌+◌, ◌<◌, ◌≤◌, true, false, List, [], ◌∷◌, get_or, length, Option, Some, None, is_some, unwrap_or, refl, sym, ◌∙◌, ap, arith, subst, inl, inr}
use Rattle.std.specs.Prelude.{◌⊎◌, ◌==◌, All, AllPairs, Contains, if◌then◌else◌}
use Rattle.std.specs.Ordering.{nat_cmp}
use Rattle.std.specs.FinMap.{FinMap, empty, get, insert, remove, nat_cmp-IsAntisymmetric, get-from_entries}
use Rattle.std.proofs.lemmas.Bool.{cond-false, cond-true, eq-eqb, ne_eqb, or_left}
use Rattle.std.proofs.lemmas.Cmp.{nat_cmp_total}
use Rattle.std.proofs.lemmas.List.Elements.{All-contains, Contains-get_or}
use Rattle.std.proofs.lemmas.Option.{same_Some}
use Rattle.g_name.specs.declared.full.Full.{Full}
use Rattle.g_name.specs.Order.{full_cmp, text_cmp}
use Rattle.g_trap.specs.TrapList.{TrapList}
use Rattle.g_entry.specs.declared.file_rec.FileRec.{FileRec}
use Rattle.g_tape.specs.Reel.{Reel}
use Rattle.g_plain.specs.declared.calls.StoreCall.{StoreCall}
use Rattle.g_plain.specs.declared.calls.StoreCall.TheVariants.{Put, Append}
use Rattle.g_plain.specs.PlainStep as plain
use Rattle.g_plain.specs.PlainStep.{fault_of, tree_after}
use Rattle.g_plain.specs.PlainTree.{FileRow, Tree, file_row, has_file, no_row}
use Rattle.g_tree.specs.Records.{by_number, file_row_of, full_of, name_of, number_of, traps_named, tree_of}
use Rattle.g_tree.specs.State as records
use Rattle.g_tree.proofs.LawLemmas.{put_over, same_bytes, tree_put}
use Rattle.g_tree.proofs.MapLemmas.{AreApart, keyed, none_found}
use Rattle.g_tree.proofs.PutLemmas as found
use Rattle.g_tree.proofs.RecordLemmas.{file_there}
use Rattle.g_tree.proofs.RightLemmas.{number_found, numbered_file, row_is}
use Rattle.g_disc_contents.specs.Contents.{File, recs_in, taken_off}
use Rattle.g_disc_contents.specs.Contents as contents
use Rattle.g_disc_contents.specs.Facts.{OnlineFacts}
use Rattle.g_store_model.specs.State as state
use Rattle.g_store_model.specs.CallStep.{brings_now, changes, need, places_after, stamp_of, with_version as with_place, writes}
use Rattle.g_store_meaning.specs.Laws.{with_text, with_version}
use Rattle.g_store_meaning.specs.Reading.{View, names_of, place_of, places_of, state_up, tree_by, users_in}
use Rattle.g_store_meaning.specs.StoreInvariant.{DumpFacts}
use Rattle.g_laws_store.specs.Places.{AreDistinct, IsOfStamp}
use Rattle.g_laws_store.specs.Rooms.{held_in}
use Rattle.g_laws_store.specs.UnjamPlan.{IsUnjamPlan}
use Rattle.g_laws_store.proofs.PlaceLemmas.{itself_there, places_go_by_change}
use Rattle.g_laws_store.proofs.RoomLemmas.{files_apart}
use Rattle.g_laws_store.proofs.UnjamLemmas.{numbers_apart, unjam_is}
use Rattle.g_laws_store.proofs.WaitingLemmas.{from_mapped, mapped_there}
use Rattle.g_laws_store.specs.Calls.{IsAsked, IsVersionOf, version_made}
use Rattle.g_laws_store.proofs.FileLemmas.{of_stamp, offline_rec, offline_recs, recs_with}
use Rattle.g_laws_store.proofs.PartLemmas.{GoesBy, dumped_same, granted_tree, kept_without, opened_same, touched_with}

-- WHAT PUT AND APPEND change in the tree, in places and in users, by the name and the bytes of the version
made_tree : (tree : Tree) (who : List ℕ) (call : StoreCall) (full : Full) (bytes : List ℕ) → version_made tree who call ≡ Some (full, bytes) → tree_after tree who call ≡ plain.with_version tree full bytes
made_tree tree who (Put path given) full bytes is = ap (λ (p : Full × List ℕ). plain.with_version tree p.0 p.1) (same_Some _ (full, bytes) is)
made_tree tree who (Append path given) full bytes is = ap (λ (p : Full × List ℕ). plain.with_version tree p.0 p.1) (same_Some _ (full, bytes) is)
made_tree tree who call full bytes is = absurd (let no : ⊥ = cc in no)

made_places : (tree : Tree) (who : List ℕ) (call : StoreCall) (full : Full) (bytes : List ℕ) (m : FinMap nat_cmp state.Place) → version_made tree who call ≡ Some (full, bytes)
    → places_after tree who call m ≡ with_place tree full m
made_places tree who (Put path given) full bytes m is = ap (λ (p : Full × List ℕ). with_place tree p.0 m) (same_Some _ (full, bytes) is)
made_places tree who (Append path given) full bytes m is = ap (λ (p : Full × List ℕ). with_place tree p.0 m) (same_Some _ (full, bytes) is)
made_places tree who call full bytes m is = absurd (let no : ⊥ = cc in no)

made_changes : (tree : Tree) (who : List ℕ) (call : StoreCall) (full : Full) (bytes : List ℕ) → version_made tree who call ≡ Some (full, bytes) → changes tree who call ≡ full.user ∷ []
made_changes tree who (Put path given) full bytes is = ap (λ (p : Full × List ℕ). let names : List (List ℕ) = p.0.user ∷ [] in names) (same_Some _ (full, bytes) is)
made_changes tree who (Append path given) full bytes is = ap (λ (p : Full × List ℕ). let names : List (List ℕ) = p.0.user ∷ [] in names) (same_Some _ (full, bytes) is)
made_changes tree who call full bytes is = absurd (let no : ⊥ = cc in no)

made_writes : (tree : Tree) (who : List ℕ) (call : StoreCall) (full : Full) (bytes : List ℕ) → version_made tree who call ≡ Some (full, bytes) → writes call ≡ true
made_writes tree who (Put path given) full bytes is = refl
made_writes tree who (Append path given) full bytes is = refl
made_writes tree who call full bytes is = absurd (let no : ⊥ = cc in no)

row_by : FinMap text_cmp ℕ → List ℕ → ℕ → FileRow
row_by traps bytes stamp = record { traps = traps; bytes = bytes; stamp = stamp }

-- a file that isn't there
no_file : (o : Option FileRow) → is_some o ≡ false → unwrap_or o no_row ≡ no_row
no_file None is = refl
no_file (Some row) is = absurd (let no : ⊥ = cc in no)

no_stamp : no_row.stamp ≡ 0
unfolding no_row
no_stamp = refl

module _ (v : View) (reels : List Reel) (o : OnlineFacts) (dump : Option DumpFacts) (who : List ℕ) (asked : IsAsked v o dump)
    (call : StoreCall) (full : Full) (bytes : List ℕ) (f : File) (take : List ℕ) (room : ℕ)
    (made : version_made (held_in v o).tree who call ≡ Some (full, bytes)) (is : IsVersionOf o full f.rec) (online : f.online ≡ true)
    (granted : fault_of (held_in v o).tree who call ≡ None) (plan : IsUnjamPlan (need (state_up v reels o dump) (held_in v o) who call) o take room) where
  abbrev s : state.State
  s = state_up v reels o dump

  abbrev k : state.Holding
  k = held_in v o

  abbrev next : ℕ
  next = o.contents.head.next_stamp

  abbrev text : ℕ → List ℕ
  text = with_text next bytes v.text

  abbrev r : FileRec
  r = f.rec

  abbrev taken : List File
  taken = taken_off take o.contents.files

  abbrev old_bytes : FileRec → List ℕ
  old_bytes q = v.text q.stamp

  abbrev new_bytes : FileRec → List ℕ
  new_bytes q = text q.stamp

  after_recs : recs_in (with_version f take o.contents) ≡ records.with_file r (recs_in o.contents)
  after_recs = recs_with f taken ∙ ap (records.with_file r) (offline_recs take o.contents.files)

  -- THE TREE
  text_kept : (q : FileRec) → Contains (recs_in o.contents) q → new_bytes q ≡ old_bytes q
  text_kept q there =
      let older = All-contains (λ (x : FileRec). x.stamp < next) (recs_in o.contents) q asked.dated there in
      cond-false (q.stamp == next) bytes (v.text q.stamp) (ne_eqb q.stamp next (λ e. let no : ⊥ = omega (arith, older, e) in no))

  text_here : new_bytes r ≡ bytes
  text_here = cond-true (r.stamp == next) bytes (v.text r.stamp) (eq-eqb r.stamp next is.stamp)

  old_tree : tree_of o.contents.users (recs_in o.contents) new_bytes (next + 1) ≡ record k.tree { next = next + 1 }
  old_tree = same_bytes o.contents.users (recs_in o.contents) old_bytes new_bytes (next + 1) text_kept

  put_tree : tree_by text o.contents.users (records.with_file r (recs_in o.contents)) (next + 1)
      ≡ record k.tree { files = insert (records.without_number o.contents.users (recs_in o.contents) r.number k.tree.files) (full_of o.contents.users r) (row_by (traps_named o.contents.users r.owner r.traps) bytes next); next = next + 1 }
  unfolding row_by
  put_tree =
      tree_put o.contents.users (recs_in o.contents) new_bytes (next + 1) asked.records r is.rules
      ∙ ap (λ (t : Tree). let u : Tree = record t { files = insert (records.without_number o.contents.users (recs_in o.contents) r.number t.files) (full_of o.contents.users r) (file_row_of o.contents.users new_bytes r) } in u) old_tree
      ∙ (λ i. let u : Tree = record k.tree {
        files = insert (records.without_number o.contents.users (recs_in o.contents) r.number k.tree.files) (full_of o.contents.users r) (row_by (traps_named o.contents.users r.owner r.traps) (text_here i) (is.stamp i));
        next = next + 1;
      } in u)

  taken_distinct : AreDistinct taken
  taken_distinct =
      files_apart taken (subst (λ (rs : List FileRec). AllPairs (λ (p q : FileRec). p.stamp ≢ q.stamp) rs) (sym (offline_recs take o.contents.files)) asked.records.among_files.stamps)

  taken_numbered : AreApart (λ (g : File). g.rec.number) taken
  taken_numbered = numbers_apart taken (subst (λ (rs : List FileRec). AllPairs (λ (p q : FileRec). p.number < q.number) rs) (sym (offline_recs take o.contents.files)) asked.records.numbers.rising)

  -- the file that is replaced, or none
  record IsAmong : Type 0 where
    rows : insert (records.without_number o.contents.users (recs_in o.contents) r.number k.tree.files) (full_of o.contents.users r) (row_by (traps_named o.contents.users r.owner r.traps) bytes next)
        ≡ insert k.tree.files full (row_by (if has_file k.tree full then (file_row k.tree full).traps else insert empty full.user 31) bytes next)
    stamp : All (IsOfStamp r.number (stamp_of k.tree full)) taken

  replaced : (old : FileRec) → Contains (recs_in o.contents) old → old.number ≡ r.number → full_of o.contents.users old ≡ full → old.owner ≡ r.owner → old.traps ≡ r.traps → IsAmong
  replaced old there number name owner traps =
      let at : get (by_number (recs_in o.contents)) old.number ≡ Some old = found.number_found o.contents.users (recs_in o.contents) asked.records old.number old there refl in
      let numbered : number_of o.contents.users (recs_in o.contents) (full_of o.contents.users r) ≡ Some r.number =
      ap (λ (n : Full). number_of o.contents.users (recs_in o.contents) n) (is.name ∙ sym name) ∙ number_found o.contents.users (recs_in o.contents) asked.records old.number old at ∙ ap (λ (n : ℕ). let x : Option ℕ = Some n in x) number in
      let row : file_row k.tree full ≡ file_row_of o.contents.users old_bytes old = ap (λ (n : Full). file_row k.tree n) (sym name) ∙ row_is o.contents.users (recs_in o.contents) asked.records old_bytes next old there in
      let has : has_file k.tree full ≡ true = ap (λ (n : Full). has_file k.tree n) (sym name) ∙ numbered_file o.contents.users (recs_in o.contents) asked.records old_bytes next old.number old at in
      let same_traps : traps_named o.contents.users r.owner r.traps ≡ (if has_file k.tree full then (file_row k.tree full).traps else insert empty full.user 31) =
      (λ i. traps_named o.contents.users (sym owner i) (sym traps i)) ∙ ap (λ (w : FileRow). w.traps) (sym row)
      ∙ sym (cond-true (has_file k.tree full) (file_row k.tree full).traps (insert empty full.user 31) has) in
      let stamp : stamp_of k.tree full ≡ old.stamp = ap (λ (w : FileRow). w.stamp) row in
      let (g, in_files, same) = from_mapped (λ (h : File). h.rec) o.contents.files old there in
      let (h, in_taken, rec) = taken_at g in_files in
      record {
        rows = put_over o.contents.users (recs_in o.contents) old_bytes next asked.records r k.tree.files (row_by (traps_named o.contents.users r.owner r.traps) bytes next) numbered
            ∙ (λ i. insert k.tree.files (is.name i) (row_by (same_traps i) bytes next));
        stamp = subst (λ (n : ℕ). All (IsOfStamp r.number n) taken) (ap (λ (q : FileRec). q.stamp) (rec ∙ same) ∙ sym stamp)
            (subst (λ (n : ℕ). All (IsOfStamp n h.rec.stamp) taken) (ap (λ (q : FileRec). q.number) (rec ∙ same) ∙ number) (of_stamp taken h taken_distinct taken_numbered in_taken));
      }
    where
      taken_at : (g : File) → Contains o.contents.files g → (h : File) × Contains taken h × (h.rec ≡ g.rec)
      taken_at g there = (contents.offline_in take g, mapped_there (contents.offline_in take) o.contents.files g there, offline_rec (contents.has take g.rec.number) g)

  made_new : number_of o.contents.users (recs_in o.contents) full ≡ None → All (λ (q : FileRec). q.number ≡ r.number → ⊥) (recs_in o.contents) → r.traps ≡ record { owner = 31; others = [] } → IsAmong
  made_new none others traps =
      let nobody : get (by_number (recs_in o.contents)) r.number ≡ None =
      get-from_entries nat_cmp_total (keyed (λ (q : FileRec). q.number) (recs_in o.contents)) r.number
      ∙ none_found nat_cmp_total nat_cmp-IsAntisymmetric (λ (q : FileRec). q.number) r.number (recs_in o.contents) (λ i d within e. others i d within (sym e)) in
      let has : has_file k.tree full ≡ false = sym (file_there o.contents.users (recs_in o.contents) old_bytes next full) ∙ ap is_some none in
      let owner : name_of o.contents.users r.owner ≡ full.user = ap (λ (n : Full). n.user) is.name in
      let same_traps : traps_named o.contents.users r.owner r.traps ≡ (if has_file k.tree full then (file_row k.tree full).traps else insert empty full.user 31) =
      ap (λ (t : TrapList). traps_named o.contents.users r.owner t) traps
      ∙ ap (λ (n : List ℕ). let m : FinMap text_cmp ℕ = insert empty n 31 in m) owner
      ∙ sym (cond-false (has_file k.tree full) (file_row k.tree full).traps (insert empty full.user 31) has) in
      let stamp : stamp_of k.tree full ≡ 0 = ap (λ (w : FileRow). w.stamp) (no_file (get k.tree.files full) has) ∙ no_stamp in
      record {
        rows = ap (λ (x : Option FileRec). insert (elim x [ Some q ↦ remove k.tree.files (full_of o.contents.users q) | None ↦ k.tree.files ]) (full_of o.contents.users r) (row_by (traps_named o.contents.users r.owner r.traps) bytes next)) nobody
            ∙ (λ i. insert k.tree.files (is.name i) (row_by (same_traps i) bytes next));
        stamp = λ i d within.
            let g = get_or taken i d in
            let in_xs : Contains (recs_in o.contents) g.rec = subst (λ (rs : List FileRec). Contains rs g.rec) (offline_recs take o.contents.files) (mapped_there (λ (h : File). h.rec) taken g (Contains-get_or taken i d within)) in
            let dated = All-contains (λ (q : FileRec). 1 ≤ q.stamp) (recs_in o.contents) g.rec asked.records.among_files.dated in_xs in (
              λ same. absurd (All-contains (λ (q : FileRec). q.number ≡ r.number → ⊥) (recs_in o.contents) g.rec others in_xs same),
              λ same. absurd (let no : ⊥ = omega (arith, dated, same, stamp) in no),
            );
      }

  among : IsAmong
  among = by_place is.place
    where
      by_place : ((old : FileRec) × Contains (recs_in o.contents) old × (old.number ≡ r.number) × (full_of o.contents.users old ≡ full) × (old.owner ≡ r.owner) × (old.traps ≡ r.traps))
          ⊎ ((number_of o.contents.users (recs_in o.contents) full ≡ None) × All (λ (q : FileRec). q.number ≡ r.number → ⊥) (recs_in o.contents) × (r.traps ≡ record { owner = 31; others = [] })) → IsAmong
      by_place (inl (old, there, number, name, owner, traps)) = replaced old there number name owner traps
      by_place (inr (none, others, traps)) = made_new none others traps

  tree_is : tree_by text o.contents.users (recs_in (with_version f take o.contents)) (next + 1) ≡ tree_after k.tree who call
  unfolding row_by
  tree_is =
      ap (λ (rs : List FileRec). tree_by text o.contents.users rs (next + 1)) after_recs ∙ put_tree
      ∙ ap (λ (m : FinMap full_cmp FileRow). let t : Tree = record k.tree { files = m; next = next + 1 } in t) among.rows
      ∙ sym (made_tree k.tree who call full bytes made)

  -- THE PLACES
  after_distinct : AreDistinct (contents.with_file f taken)
  after_distinct =
      files_apart (contents.with_file f taken) (subst (λ (rs : List FileRec). AllPairs (λ (p q : FileRec). p.stamp ≢ q.stamp) rs) (sym after_recs) is.rules.among_files.stamps)

  planned : places_of taken ≡ (state.taken_offline plan.until k).places
  planned = unjam_is.places_are v o dump (need s k who call) take room (record { records = asked.records; long = asked.long; pins = asked.pins }) plan

  fresh_is : place_of f ≡ state.fresh
  fresh_is = (λ i. let p : state.Place = record { online = online i; copy = is.tape i } in p)

  places_are : places_of (contents.with_file f taken) ≡ places_after k.tree who call (state.taken_offline plan.until k).places
  places_are =
      places_go_by_change.version taken f (stamp_of k.tree full) taken_distinct after_distinct among.stamp
      ∙ (λ i. insert (remove (planned i) (stamp_of k.tree full)) (is.stamp i) (fresh_is i))
      ∙ sym (made_places k.tree who call full bytes (state.taken_offline plan.until k).places made)

  owner_in : r.owner < length o.contents.users
  owner_in = All-contains (λ (q : FileRec). q.owner < length o.contents.users) (records.with_file r (recs_in o.contents)) r is.rules.among_files.owners itself
    where
      itself : Contains (records.with_file r (recs_in o.contents)) r
      itself = subst (λ (rs : List FileRec). Contains rs r) after_recs (mapped_there (λ (g : File). g.rec) (contents.with_file f taken) f (itself_there taken f))

  pub put_parts : (new : OnlineFacts) → GoesBy v reels o new dump who call plan.until text (with_version f take o.contents) (f.rec.owner ∷ [])
  put_parts new = record {
    does = or_left (writes call) (brings_now s k who call) (made_writes k.tree who call full bytes made);
    tree = tree_is ∙ sym (granted_tree k.tree who call granted);
    places = places_are;
    last = refl;
    intent = refl;
    kept = kept_without o.contents.users (recs_in o.contents) o.changed r.owner asked.records owner_in ∙ ap (λ (n : Full). remove k.kept n.user) is.name
        ∙ ap (λ (names : List (List ℕ)). state.without_all names k.kept) (sym (made_changes k.tree who call full bytes made));
    touched = touched_with o.contents.users (recs_in o.contents) o.touched r.owner asked.records owner_in ∙ ap (λ (n : Full). insert (names_of (users_in o.touched o.contents.users)) n.user tt) is.name
        ∙ ap (λ (names : List (List ℕ)). state.with_all names (names_of (users_in o.touched o.contents.users))) (sym (made_changes k.tree who call full bytes made));
    dumped = dumped_same v.dumps v.dumped v.text next bytes asked.dumped;
    opened = opened_same v.opened v.text next bytes asked.opened;
  }
