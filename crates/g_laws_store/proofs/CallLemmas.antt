-- The step of each kind of call.
-- serves: calls_go_by_step, crates above
use Rattle.std.proofs.Common.{◌≡◌, ◌≢◌, ℕ, ◌<◌, Bool, true, false, List, [], ◌∷◌, ◌++◌, length, Option, Some, None, refl, sym, ◌∙◌, ap, subst}
use Rattle.std.specs.Prelude.{◌==◌, ◌||◌, AllPairs, Contains, not, slice_set, if◌then◌else◌}
use Rattle.std.specs.Ordering.{nat_cmp}
use Rattle.std.specs.FinMap.{FinMap, insert, remove}
use Rattle.std.proofs.lemmas.Bool.{and_parts, cond-false, or_right}
use Rattle.std.proofs.lemmas.List.Elements.{All-contains}
use Rattle.std.proofs.lemmas.List.Kept.{AllPairs-filter}
use Rattle.std.proofs.lemmas.Option.{same_Some}
use Rattle.g_name.specs.declared.full.Full.{Full}
use Rattle.g_name.specs.declared.path.Path.{Path}
use Rattle.g_entry.specs.declared.file_rec.FileRec.{FileRec}
use Rattle.g_tape.specs.Reel.{Reel}
use Rattle.g_plain.specs.declared.calls.StoreCall.{StoreCall}
use Rattle.g_plain.specs.declared.calls.StoreCall.TheVariants.{NewUser, Budget, Fetch, Erase, Rename, Retrieve}
use Rattle.g_plain.specs.PlainStep.{fault_of, tree_after}
use Rattle.g_plain.specs.PlainTree.{FileRow, Tree, input_name}
use Rattle.g_tree.specs.Records.{full_of}
use Rattle.g_tree.specs.State as records
use Rattle.g_tree.proofs.LawLemmas.{tree_erased}
use Rattle.g_tree.proofs.ListLemmas.{filter_of_map}
use Rattle.g_tree.proofs.MapLemmas.{AreApart}
use Rattle.g_tree.proofs.PutLemmas.{number_found}
use Rattle.g_tree.proofs.RightLemmas.{row_is}
use Rattle.g_disc_contents.specs.Contents.{Contents, File, brought, has, offline_in, recs_in, set_rec, taken_off, without_file}
use Rattle.g_disc_contents.specs.Facts.{OnlineFacts}
use Rattle.g_store_model.specs.State as state
use Rattle.g_store_model.specs.CallStep.{IsUnjam, after_call, brings, brings_now, changes, is_offline, need, places_after, stamp_of, version_read, writes}
use Rattle.g_store_meaning.specs.Laws.{with_text, with_version}
use Rattle.g_store_meaning.specs.Reading.{View, names_of, places_of, state_up, tree_by, users_in}
use Rattle.g_store_meaning.specs.StoreInvariant.{DumpFacts}
use Rattle.g_laws_store.specs.Places.{AreDistinct}
use Rattle.g_laws_store.specs.Rooms.{held_in}
use Rattle.g_laws_store.specs.UnjamPlan.{IsUnjamPlan}
use Rattle.g_laws_store.proofs.PlaceLemmas.{places_go_by_change}
use Rattle.g_laws_store.proofs.RoomLemmas.{files_apart}
use Rattle.g_laws_store.proofs.UnjamLemmas.{numbers_apart, unjam_is}
use Rattle.g_laws_store.proofs.WaitingLemmas.{mapped_there}
use Rattle.g_laws_store.specs.Calls.{CallsGoByStep, IsAsked, IsKnown}
use Rattle.g_laws_store.proofs.AddLemmas.{add_parts, budget_parts}
use Rattle.g_laws_store.proofs.FileLemmas.{of_stamp, offline_rec, offline_recs, online_recs}
use Rattle.g_laws_store.proofs.PutLemmas.{put_parts}
use Rattle.g_laws_store.proofs.SetLemmas.{rename_parts, trap_parts}
use Rattle.g_laws_store.proofs.StillLemmas.{still}
use Rattle.g_laws_store.proofs.PartLemmas.{GoesBy, granted_tree, kept_without, state_is, touched_with}

-- a call that changes nothing
tells : (v : View) (reels : List Reel) (o : OnlineFacts) (dump : Option DumpFacts) (who : List ℕ) (call : StoreCall) (until : ℕ)
    → (writes call || brings_now (state_up v reels o dump) (held_in v o) who call) ≡ false
    → state_up v reels o dump ≡ after_call (state_up v reels o dump) (held_in v o) who call until
tells v reels o dump who call until none =
    sym (after_none (writes call || brings_now (state_up v reels o dump) (held_in v o) who call) _ none)
  where
    after_none : (b : Bool) (x : state.State) → b ≡ false → (if b then x else state_up v reels o dump) ≡ state_up v reels o dump
    after_none b x is = cond-false b x (state_up v reels o dump) is

module _ (v : View) (reels : List Reel) (o : OnlineFacts) (dump : Option DumpFacts) (who : List ℕ) (asked : IsKnown o dump) where
  abbrev s : state.State
  s = state_up v reels o dump

  abbrev k : state.Holding
  k = held_in v o

  distinct : AreDistinct o.contents.files
  distinct = files_apart o.contents.files asked.records.among_files.stamps

  numbered : AreApart (λ (f : File). f.rec.number) o.contents.files
  numbered = numbers_apart o.contents.files asked.records.numbers.rising

  rec_there : (f : File) → Contains o.contents.files f → Contains (recs_in o.contents) f.rec
  rec_there f there = mapped_there (λ (g : File). g.rec) o.contents.files f there

  owner_there : (f : File) → Contains o.contents.files f → f.rec.owner < length o.contents.users
  owner_there f there = All-contains (λ (r : FileRec). r.owner < length o.contents.users) (recs_in o.contents) f.rec asked.records.among_files.owners (rec_there f there)

  -- the stamp by the tree is the record's
  stamp_is : (f : File) (full : Full) → Contains o.contents.files f → full_of o.contents.users f.rec ≡ full → stamp_of k.tree full ≡ f.rec.stamp
  stamp_is f full there named =
      ap (λ (n : Full). stamp_of k.tree n) (sym named)
      ∙ ap (λ (row : FileRow). row.stamp) (row_is o.contents.users (recs_in o.contents) asked.records (λ (r : FileRec). v.text r.stamp) o.contents.head.next_stamp f.rec (rec_there f there))

  -- BROUGHT BACK
  module _ (call : StoreCall) (f : File) (bytes : Option (List ℕ)) (take : List ℕ) (room : ℕ) (there : Contains o.contents.files f)
      (reads : version_read k.tree who call ≡ Some (full_of o.contents.users f.rec)) (granted : fault_of k.tree who call ≡ None) (does : brings_now s k who call ≡ true)
      (plan : IsUnjamPlan (need s k who call) o take room) (whole : IsAsked v o dump) where
    abbrev taken : List File
    taken = taken_off take o.contents.files

    abbrev back : Contents
    back = record o.contents { files = brought f.rec.number bytes taken }

    same_recs : recs_in back ≡ (recs_in o.contents)
    same_recs = online_recs f.rec.number bytes taken ∙ offline_recs take o.contents.files

    -- the file among those that are left
    left : File
    left = offline_in take f

    left_rec : left.rec ≡ f.rec
    unfolding left
    left_rec = offline_rec (has take f.rec.number) f

    left_there : Contains taken left
    unfolding left
    left_there = mapped_there (offline_in take) o.contents.files f there

    taken_distinct : AreDistinct taken
    taken_distinct =
        files_apart taken (subst (λ (rs : List FileRec). AllPairs (λ (r q : FileRec). r.stamp ≢ q.stamp) rs) (sym (offline_recs take o.contents.files)) asked.records.among_files.stamps)

    taken_numbered : AreApart (λ (g : File). g.rec.number) taken
    taken_numbered = numbers_apart taken (subst (λ (rs : List FileRec). AllPairs (λ (r q : FileRec). r.number < q.number) rs) (sym (offline_recs take o.contents.files)) asked.records.numbers.rising)

    planned : places_of taken ≡ (state.taken_offline plan.until k).places
    planned = unjam_is.places_are v o dump (need s k who call) take room (record { records = whole.records; long = whole.long; pins = whole.pins }) plan

    back_places : places_of (brought f.rec.number bytes taken) ≡ state.with_online true f.rec.stamp (state.taken_offline plan.until k).places
    back_places =
        subst (λ (r : FileRec). places_of (brought r.number bytes taken) ≡ state.with_online true r.stamp (places_of taken)) left_rec
        (places_go_by_change.back taken left bytes taken_distinct left_there (of_stamp taken left taken_distinct taken_numbered left_there))
        ∙ ap (state.with_online true f.rec.stamp) planned

    brings_it : brings call ≡ true
    brings_it = (and_parts (brings call) (is_offline s k who call) does).0

    place_by : (x : StoreCall) → brings x ≡ true → version_read k.tree who x ≡ Some (full_of o.contents.users f.rec) → (m : FinMap nat_cmp state.Place)
        → places_after k.tree who x m ≡ state.with_online true f.rec.stamp m
    place_by (Fetch path mode) is read m =
        ap (λ (n : ℕ). state.with_online true n m)
        (stamp_is f (input_name k.tree who path) there (sym (same_Some (input_name k.tree who path) (full_of o.contents.users f.rec) read)))
    place_by (Retrieve path) is read m =
        ap (λ (n : ℕ). state.with_online true n m)
        (stamp_is f (input_name k.tree who path) there (sym (same_Some (input_name k.tree who path) (full_of o.contents.users f.rec) read)))
    place_by x is read m = absurd (let no : ⊥ = cc in no)

    tree_stays : (x : StoreCall) → brings x ≡ true → tree_after k.tree who x ≡ k.tree
    tree_stays (Fetch path mode) is = refl
    tree_stays (Retrieve path) is = refl
    tree_stays x is = absurd (let no : ⊥ = cc in no)

    nobody_changes : (x : StoreCall) → brings x ≡ true → changes k.tree who x ≡ []
    nobody_changes (Fetch path mode) is = refl
    nobody_changes (Retrieve path) is = refl
    nobody_changes x is = absurd (let no : ⊥ = cc in no)

    pub brings_parts : (new : OnlineFacts) → GoesBy v reels o new dump who call plan.until v.text back []
    brings_parts new = record {
      does = or_right (writes call) (brings_now s k who call) does;
      tree = ap (λ (rs : List FileRec). tree_by v.text o.contents.users rs o.contents.head.next_stamp) same_recs ∙ sym (granted_tree k.tree who call granted ∙ tree_stays call brings_it);
      places = back_places ∙ sym (place_by call brings_it reads (state.taken_offline plan.until k).places);
      last = refl;
      intent = refl;
      kept = sym (ap (λ (names : List (List ℕ)). state.without_all names k.kept) (nobody_changes call brings_it));
      touched = sym (ap (λ (names : List (List ℕ)). state.with_all names (names_of (users_in o.touched o.contents.users))) (nobody_changes call brings_it));
      dumped = refl;
      opened = refl;
    }

  -- ERASED
  module _ (path : Path) (f : File) (until : ℕ) (there : Contains o.contents.files f) (named : full_of o.contents.users f.rec ≡ input_name k.tree who path)
      (granted : fault_of k.tree who (Erase path) ≡ None) (unjam : IsUnjam s k who (Erase path) until) where
    abbrev without : Contents
    without = record o.contents { files = without_file f.rec.number o.contents.files }

    without_recs : recs_in without ≡ records.without_file f.rec.number (recs_in o.contents)
    without_recs = sym (filter_of_map (λ (r : FileRec). not (r.number == f.rec.number)) (λ (g : File). g.rec) o.contents.files)

    erased_tree : tree_by v.text o.contents.users (recs_in without) o.contents.head.next_stamp ≡ tree_after k.tree who (Erase path)
    erased_tree =
        ap (λ (rs : List FileRec). tree_by v.text o.contents.users rs o.contents.head.next_stamp) without_recs
        ∙ tree_erased o.contents.users (recs_in o.contents) (λ (r : FileRec). v.text r.stamp) o.contents.head.next_stamp asked.records f.rec.number
        ∙ ap (λ (x : Option FileRec). let t : Tree = record k.tree { files = elim x [ Some r ↦ remove k.tree.files (full_of o.contents.users r) | None ↦ k.tree.files ] } in t)
        (number_found o.contents.users (recs_in o.contents) asked.records f.rec.number f.rec (rec_there f there) refl)
        ∙ ap (λ (n : Full). let t : Tree = record k.tree { files = remove k.tree.files n } in t) named

    erased_places : places_of (without_file f.rec.number o.contents.files) ≡ places_after k.tree who (Erase path) (state.taken_offline until k).places
    erased_places =
        places_go_by_change.erased o.contents.files f.rec.number f.rec.stamp distinct
        (AllPairs-filter (λ (g h : File). g.rec.stamp ≢ h.rec.stamp) (λ (g : File). not (g.rec.number == f.rec.number)) o.contents.files distinct)
        (of_stamp o.contents.files f distinct numbered there)
        ∙ ap (λ (m : FinMap nat_cmp state.Place). remove m f.rec.stamp) (sym (still s k who (Erase path) until refl unjam))
        ∙ ap (λ (n : ℕ). remove (state.taken_offline until k).places n) (sym (stamp_is f (input_name k.tree who path) there named))

    pub erase_parts : (new : OnlineFacts) → GoesBy v reels o new dump who (Erase path) until v.text without (f.rec.owner ∷ [])
    erase_parts new = record {
      does = refl;
      tree = erased_tree ∙ sym (granted_tree k.tree who (Erase path) granted);
      places = erased_places;
      last = refl;
      intent = refl;
      kept = kept_without o.contents.users (recs_in o.contents) o.changed f.rec.owner asked.records (owner_there f there) ∙ ap (λ (n : Full). remove k.kept n.user) named;
      touched = touched_with o.contents.users (recs_in o.contents) o.touched f.rec.owner asked.records (owner_there f there) ∙ ap (λ (n : Full). insert (names_of (users_in o.touched o.contents.users)) n.user tt) named;
      dumped = refl;
      opened = refl;
    }

known : (v : View) (o : OnlineFacts) (dump : Option DumpFacts) → IsAsked v o dump → IsKnown o dump
known v o dump asked = record { records = asked.records; pinned = asked.pinned }

pub calls_go_by_step : CallsGoByStep
calls_go_by_step = record {
  tells = tells;
  brings = λ v reels o new dump who call f bytes take room asked there reads granted does plan behind.
      state_is v reels o new dump who call plan.until v.text (back v reels o dump who (known v o dump asked) call f bytes take room there reads granted does plan asked) [] asked.pinned behind
      (brings_parts v reels o dump who (known v o dump asked) call f bytes take room there reads granted does plan asked new);
  erases = λ v reels o new dump who path f until asked there named granted unjam behind.
      state_is v reels o new dump who (Erase path) until v.text (without v reels o dump who asked path f until there named granted unjam) (f.rec.owner ∷ []) asked.pinned behind
      (erase_parts v reels o dump who asked path f until there named granted unjam new);
  renames = λ v reels o new dump who path to f r until asked there named is traps name granted unjam behind.
      state_is v reels o new dump who (Rename path to) until v.text (record o.contents { files = set_rec r o.contents.files }) (r.owner ∷ []) asked.pinned behind
      (rename_parts v reels o dump who asked (input_name (held_in v o).tree who path) f r there named is new path to until refl traps name granted unjam);
  traps = λ v reels o new dump who call path user number f r until asked is_call there named name within is same traps granted unjam behind.
      state_is v reels o new dump who call until v.text (record o.contents { files = set_rec r o.contents.files }) (r.owner ∷ []) asked.pinned behind
      (trap_parts v reels o dump who asked (input_name (held_in v o).tree who path) f r there named is new call path user number until is_call refl name within same traps granted unjam);
  adds = λ v reels o new dump who user space time money u until asked rules name row granted unjam behind.
      state_is v reels o new dump who (NewUser user space time money) until v.text (record o.contents { users = o.contents.users ++ u ∷ [] }) (u.number ∷ []) asked.pinned behind
      (add_parts v reels o dump who asked u new user space time money until rules name row granted unjam);
  budgets = λ v reels o new dump who user kind amount u until asked rules within named name row granted unjam behind.
      state_is v reels o new dump who (Budget user kind amount) until v.text (record o.contents { users = slice_set o.contents.users u.number u }) [] asked.pinned behind
      (budget_parts v reels o dump who asked u new user kind amount until rules within named name row granted unjam);
  puts = λ v reels o new dump who call full bytes f take room asked made is online granted plan behind.
      state_is v reels o new dump who call plan.until (with_text o.contents.head.next_stamp bytes v.text) (with_version f take o.contents) (f.rec.owner ∷ []) asked.pinned behind
      (put_parts v reels o dump who asked call full bytes f take room made is online granted plan new);
}
