-- The room of a state by its files and pins.
-- serves: room_goes_by_files, CallLemmas, NeedsLemmas, OpenedLemmas, PutLemmas, UnjamLemmas, WaitingLemmas, crates above
use Rattle.std.proofs.Common.{◌≡◌, ◌≢◌, ℕ, ◌-◌, Bool, true, false, cond, List, [], ◌∷◌, get_or, length, Option, Some, None, unwrap_or, refl, sym, ◌∙◌, ap, arith}
use Rattle.std.specs.Prelude.{◌==◌, ◌||◌, All, AllPairs, IfSome, map, not, sum_by, if◌then◌else◌}
use Rattle.std.specs.List.{list_any}
use Rattle.std.specs.Option.{option_map}
use Rattle.std.specs.Ordering.{nat_cmp}
use Rattle.std.specs.FinMap.{entries, find, from_entries, nat_cmp-IsAntisymmetric}
use Rattle.std.proofs.lemmas.Cmp.{nat_cmp_total}
use Rattle.std.proofs.lemmas.List.{get_or-map, length-map}
use Rattle.std.proofs.lemmas.List.Elements.{All-head, All-tail, Contains-get_or}
use Rattle.std.proofs.lemmas.List.Sorted.{list_any-IsPermutation, sum_by-IsPermutation}
use Rattle.g_base.specs.Block.{blocks_for}
use Rattle.g_name.specs.declared.full.Full.{Full}
use Rattle.g_name.proofs.Order.{full_total}
use Rattle.g_entry.specs.declared.file_rec.FileRec.{FileRec}
use Rattle.g_entry.specs.declared.user_rec.UserRec.{UserRec}
use Rattle.g_plain.specs.PlainTree.{FileRow}
use Rattle.g_plain.proofs.Found.{apart_is}
use Rattle.g_plain.proofs.TextMaps.{full_exact}
use Rattle.g_tree.specs.Records.{IsRecords, by_name, file_row_of, full_of}
use Rattle.g_tree.proofs.ListLemmas.{pairs_first, pairs_rest, sum_of_map, sum_same_on}
use Rattle.g_tree.proofs.MapLemmas.{Apart, apart_keyed, entries_permute, keyed}
use Rattle.g_tree.proofs.RecordLemmas.{file_entries, names_apart}
use Rattle.g_disc_contents.specs.Contents.{Contents, File, recs_in}
use Rattle.g_disc_contents.specs.Facts as facts
use Rattle.g_store_model.specs.State as state
use Rattle.g_store_meaning.specs.Reading.{View, holding_of, open_of, users_not_in, waiting_of}
use Rattle.g_store_meaning.specs.StoreInvariant.{DumpFacts}
use Rattle.g_laws_store.specs.Places.{AreDistinct}
use Rattle.g_laws_store.specs.Rooms.{ArePins, HasLength, RoomIs}
use Rattle.g_laws_store.proofs.PlaceLemmas.{place_found}

-- files with the records that they have
pub files_apart : (files : List File) → AllPairs (λ (r s : FileRec). r.stamp ≢ s.stamp) (map (λ (f : File). f.rec) files) → AreDistinct files
files_apart files apart i j d less within same =
    let long = length-map files (λ (f : File). f.rec) in
    let one = get_or-map (λ (f : File). f.rec) files i d d.rec (omega (arith, less, within)) in
    let two = get_or-map (λ (f : File). f.rec) files j d d.rec within in
    apart i j d.rec less (omega (arith, within, long)) (ap (λ (r : FileRec). r.stamp) one ∙ same ∙ ap (λ (r : FileRec). r.stamp) (sym two))

any_of_map : {A B : Type 0} (p : B → Bool) (f : A → B) (xs : List A) → list_any p (map f xs) ≡ list_any (λ x. p (f x)) xs
any_of_map p f [] = refl
any_of_map p f (x ∷ xs) = ap (λ (b : Bool). p (f x) || b) (any_of_map p f xs)

-- no two pins have one stamp
find_pin : (q : ℕ) (pins : List facts.Pin) → All (λ (p : facts.Pin). q ≢ p.stamp) pins → find nat_cmp q (map (λ (p : facts.Pin). (p.stamp, blocks_for p.len)) pins) ≡ None
find_pin q [] all = refl
find_pin q (p ∷ ps) all =
    ap (λ (b : Bool). cond b (Some (blocks_for p.len)) (find nat_cmp q (map (λ (x : facts.Pin). (x.stamp, blocks_for x.len)) ps)))
    (apart_is nat_cmp_total nat_cmp-IsAntisymmetric q p.stamp (All-head (λ (x : facts.Pin). q ≢ x.stamp) p ps all))
    ∙ find_pin q ps (All-tail (λ (x : facts.Pin). q ≢ x.stamp) p ps all)

pub pins_apart : (pins : List facts.Pin) → AllPairs (λ (p q : facts.Pin). p.stamp ≢ q.stamp) pins → Apart nat_cmp (map (λ (p : facts.Pin). (p.stamp, blocks_for p.len)) pins)
pins_apart [] apart = tt
pins_apart (p ∷ ps) apart =
    (find_pin p.stamp ps (pairs_first (λ (x y : facts.Pin). x.stamp ≢ y.stamp) p ps apart), pins_apart ps (pairs_rest (λ (x y : facts.Pin). x.stamp ≢ y.stamp) p ps apart))

module _ (text : ℕ → List ℕ) (c : Contents) (kept : List UserRec) (rules : IsRecords c.users (recs_in c)) where
  abbrev held : state.Holding
  held = holding_of text kept c

  abbrev row : FileRec → FileRow
  row r = file_row_of c.users (λ s. text s.stamp) r

  abbrev named : FileRec → Full × FileRec
  named r = (full_of c.users r, r)

  abbrev in_tree : Full × FileRec → Full × FileRow
  in_tree e = (e.0, row e.1)

  -- a sum over the files of the tree is one over the records
  pub sum_is : (f : Full × FileRow → ℕ) → sum_by f (entries held.tree.files) ≡ sum_by (λ (g : File). f (in_tree (named g.rec))) c.files
  sum_is f =
      let es = keyed (full_of c.users) (recs_in c) in
      ap (sum_by f) (file_entries c.users (recs_in c) row)
      ∙ sum_of_map f in_tree (entries (by_name c.users (recs_in c)))
      ∙ sum_by-IsPermutation (λ (e : Full × FileRec). f (in_tree e)) es (entries (from_entries es))
      (entries_permute full_total es (apart_keyed full_total full_exact (full_of c.users) (recs_in c) (names_apart c.users (recs_in c) rules)))
      ∙ sum_of_map (λ (e : Full × FileRec). f (in_tree e)) named (recs_in c)
      ∙ sum_of_map (λ (r : FileRec). f (in_tree (named r))) (λ (g : File). g.rec) c.files

  any_is : (p : Full × FileRow → Bool) → list_any p (entries held.tree.files) ≡ list_any (λ (g : File). p (in_tree (named g.rec))) c.files
  any_is p =
      let es = keyed (full_of c.users) (recs_in c) in
      ap (list_any p) (file_entries c.users (recs_in c) row)
      ∙ any_of_map p in_tree (entries (by_name c.users (recs_in c)))
      ∙ sym (list_any-IsPermutation (λ (e : Full × FileRec). p (in_tree e)) es (entries (from_entries es))
      (entries_permute full_total es (apart_keyed full_total full_exact (full_of c.users) (recs_in c) (names_apart c.users (recs_in c) rules))))
      ∙ any_of_map (λ (e : Full × FileRec). p (in_tree e)) named (recs_in c)
      ∙ any_of_map (λ (r : FileRec). p (in_tree (named r))) (λ (g : File). g.rec) c.files

  pub current_is : (stamp : ℕ) → state.is_current held.tree stamp ≡ facts.is_current c.files stamp
  current_is stamp = any_is (λ (e : Full × FileRow). e.1.stamp == stamp)

  only_is : (b : Bool) (m n : ℕ) → m ≡ n → state.only_if b m ≡ (if b then n else 0)
  only_is true m n same = same
  only_is false m n same = refl

  online_is : All (HasLength text) c.files → state.online_blocks held ≡ facts.online_blocks c.files
  online_is long =
      sum_is (λ (e : Full × FileRow). state.only_if (state.place_at held.places e.1.stamp).online (state.blocks_of e.1))
      ∙ sum_same_on (λ (g : File). state.only_if (state.place_at held.places g.rec.stamp).online (blocks_for (length (text g.rec.stamp)))) (λ (g : File). if g.online then blocks_for g.rec.len else 0) c.files
      (λ i d within.
      let g = get_or c.files i d in
      let place = place_found c.files g (files_apart c.files rules.among_files.stamps) (Contains-get_or c.files i d within) in
      ap (λ (o : Option state.Place). state.only_if (unwrap_or o (record { online = true; copy = None })).online (blocks_for (length (text g.rec.stamp)))) place
      ∙ only_is g.online (blocks_for (length (text g.rec.stamp))) (blocks_for g.rec.len) (ap blocks_for (long i d within)))

  if_not : (b : Bool) (n : ℕ) → state.only_if (not b) n ≡ (if b then 0 else n)
  if_not true n = refl
  if_not false n = refl

  held_is : (pins : Option (List facts.Pin)) → IfSome pins (AllPairs (λ (p q : facts.Pin). p.stamp ≢ q.stamp))
      → sum_by (λ (w : ℕ × ℕ). state.only_if (not (state.is_current held.tree w.0)) w.1) (entries (waiting_of pins)) ≡ facts.pinned_blocks pins c.files
  held_is None apart =
      let none : List (ℕ × ℕ) = [] in
      sum_by-IsPermutation (λ (w : ℕ × ℕ). state.only_if (not (state.is_current held.tree w.0)) w.1) none (entries (from_entries {R = nat_cmp} none)) (entries_permute nat_cmp_total none tt)
  held_is (Some pins) apart =
      let es : List (ℕ × ℕ) = map (λ (p : facts.Pin). (p.stamp, blocks_for p.len)) pins in
      sum_by-IsPermutation (λ (w : ℕ × ℕ). state.only_if (not (state.is_current held.tree w.0)) w.1) es (entries (from_entries {R = nat_cmp} es)) (entries_permute nat_cmp_total es (pins_apart pins apart))
      ∙ sum_of_map (λ (w : ℕ × ℕ). state.only_if (not (state.is_current held.tree w.0)) w.1) (λ (p : facts.Pin). (p.stamp, blocks_for p.len)) pins
      ∙ sum_same_on (λ (p : facts.Pin). state.only_if (not (state.is_current held.tree p.stamp)) (blocks_for p.len)) (λ (p : facts.Pin). if facts.is_current c.files p.stamp then 0 else blocks_for p.len) pins
      (λ i d within.
      let p = get_or pins i d in
      ap (λ (b : Bool). state.only_if (not b) (blocks_for p.len)) (current_is p.stamp) ∙ if_not (facts.is_current c.files p.stamp) (blocks_for p.len))

  room_held : (v : View) (o : facts.OnlineFacts) (dump : Option DumpFacts) → ArePins dump o.pins → state.held_blocks (option_map (open_of v o) dump) held.tree ≡ facts.pinned_blocks o.pins c.files
  room_held v o None pins = ap (λ (ps : Option (List facts.Pin)). facts.pinned_blocks ps c.files) (sym (pins.none refl))
  room_held v o (Some d) pins = held_is o.pins pins.apart

pub room_is : RoomIs
room_is v reels o dump rules long pins =
    let c = o.contents in
    let kept = users_not_in o.changed c.users in
    let k = holding_of v.text kept c in
    ap (λ (n : ℕ). o.disc.size - 2177 - n - state.held_blocks (option_map (open_of v o) dump) k.tree) (online_is v.text c kept rules long)
    ∙ ap (λ (n : ℕ). o.disc.size - 2177 - facts.online_blocks c.files - n) (room_held v.text c kept rules v o dump pins)
