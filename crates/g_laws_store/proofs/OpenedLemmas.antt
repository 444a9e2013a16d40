-- What a dump that is opened will leave: the tree of the opening, and the places of its versions.
-- serves: AdoptLemmas, OwnLemmas, crates above
use Rattle.std.proofs.Common.{◌≡◌, ℕ, ◌+◌, ◌-◌, ◌<◌, ◌≤◌, Bool, true, false, List, length, Option, Some, None, is_some, unwrap_or, refl, sym, ◌∙◌, ap, arith, subst, inl, inr}
use Rattle.std.specs.Prelude.{◌⊎◌, ◌==◌, ◌&&◌, All, Contains, is_none, map, nat_lt}
use Rattle.std.specs.Option.{option_map}
use Rattle.std.specs.Ordering.{nat_cmp}
use Rattle.std.specs.FinMap.{FinMap, find, from_entries, get, nat_cmp-IsAntisymmetric, get-from_entries}
use Rattle.std.proofs.lemmas.Bool.{and_parts, and_right, both_ways, eq-eqb, eqb-true, false_from_ne_true, ltb-true, ne_eqb}
use Rattle.std.proofs.lemmas.Cmp.{nat_cmp_total}
use Rattle.std.proofs.lemmas.List.Elements.{All-contains, All-map, All-weaker}
use Rattle.std.proofs.lemmas.List.Kept.{AllPairs-filter}
use Rattle.std.proofs.lemmas.Option.{none-some}
use Rattle.g_base.specs.Block.{blocks_for}
use Rattle.g_entry.specs.declared.file_rec.FileRec.{FileRec}
use Rattle.g_entry.specs.declared.file_rec.TapeCopy.{TapeCopy}
use Rattle.g_entry.specs.declared.user_rec.UserRec.{UserRec}
use Rattle.g_tape.specs.Reel.{Reel}
use Rattle.g_plain.specs.PlainTree.{FileRow}
use Rattle.g_tree.specs.Records.{IsRecords, file_row_of}
use Rattle.g_tree.proofs.ListLemmas.{map_of_map}
use Rattle.g_tree.proofs.MapLemmas.{AreApart, found_itself, found_one, get_valued, keyed, with_value}
use Rattle.g_tree.proofs.RuleLemmas.{file_found, one_of_key}
use Rattle.g_disc_contents.specs.Contents.{File, copied_rec, copy_of, recs_in, with_copies}
use Rattle.g_disc_contents.specs.Facts as facts
use Rattle.g_disc_contents.specs.Facts.{Pin, noted}
use Rattle.g_incr.specs.Layout.{Dump}
use Rattle.g_incr.specs.Plan.{Plan, blocks_of, dump_of, first_content, waiting as waiting_files, waits as file_waits}
use Rattle.g_shelf.specs.CompletedDumps.{all_dumps}
use Rattle.g_store_model.specs.State as state
use Rattle.g_store_model.specs.DumpSteps.{AreNoted, dump_needs, waiting, waiting_blocks, waits}
use Rattle.g_store_meaning.specs.Belonging.{KeepsFile}
use Rattle.g_store_meaning.specs.Meaning.{DumpedDirectory, Gathers, files_in, files_of, told_reels}
use Rattle.g_store_meaning.specs.Reading.{Opened, View, dumped_place, dumped_places, tree_by, users_not_in}
use Rattle.g_store_meaning.specs.StoreInvariant.{IsKept, IsReady, StoreFacts, unnumbered}
use Rattle.g_store_meaning.proofs.DirectoryLemmas.{copied_recs}
use Rattle.g_laws_store.specs.Dumping.{opened_with}
use Rattle.g_laws_store.proofs.OpeningLemmas.{opening_stays}
use Rattle.g_laws_store.proofs.PinLemmas.{IsOtherPin, OtherStamp, copy_apart, pairs}
use Rattle.g_laws_store.proofs.RecordLemmas.{gathered_by, gathered_pairs, numbers_none, users_apart}
use Rattle.g_laws_store.proofs.StateLemmas.{with_there}
use Rattle.g_laws_store.proofs.UpOneLemmas.{in_with, reel_named}
use Rattle.g_laws_store.specs.OpeningNeeds.{AreOpened}
use Rattle.g_laws_store.specs.Places.{AreDistinct}
use Rattle.g_laws_store.specs.Rooms.{HasLength, held_in}
use Rattle.g_laws_store.specs.Trees.{AreNumberedApart}
use Rattle.g_laws_store.proofs.NeedsLemmas.{content_is, opening_takes}
use Rattle.g_laws_store.proofs.PlaceLemmas.{place_found}
use Rattle.g_laws_store.proofs.RoomLemmas.{current_is, files_apart}
use Rattle.g_laws_store.proofs.TreeLemmas.{all_there, dumped_tree_is, gathered_copied, gathered_same, none_more}
use Rattle.g_laws_store.proofs.UnjamLemmas.{any_found}
use Rattle.g_laws_store.proofs.UserLemmas.{any_there}
use Rattle.g_laws_store.proofs.WaitingLemmas.{IsPinned, are_of, from_mapped, from_plan, in_plan, mapped_there}
use Rattle.g_laws_store.specs.Opening.{IsOpening}
use Rattle.g_laws_store.proofs.CopyLemmas.{HasCopy, copy_in}

-- the blocks of the dump's content on its reel
low_by : (at needed waits place users files blocks first : ℕ) → at ≡ place → needed ≡ 2 + users + files + blocks → waits ≡ blocks → place + 1 + users + files ≤ first → at + needed - 1 - waits ≤ first
low_by at needed waits place users files blocks first is sum same low = omega (arith, is, sum, same, low)

high_by : (at needed place users files blocks last : ℕ) → at ≡ place → needed ≡ 2 + users + files + blocks → last ≤ place + 1 + users + files + blocks → last ≤ at + needed - 1
high_by at needed place users files blocks last is sum high = omega (arith, is, sum, high)

place_with : Bool → Option TapeCopy → state.Place
place_with online copy = record { online = online; copy = copy }

module _ (v : View) (s : StoreFacts) (plan : Plan) (pins : List Pin) (content : List (List ℕ)) (opened : Opened) (is : IsOpening v s plan pins content opened) where
  abbrev changed : List ℕ
  changed = s.online.changed

  abbrev reels : List Reel
  reels = told_reels s.rack

  abbrev made : Dump
  made = dump_of plan content

  abbrev t : DumpedDirectory opened.dumps
  t = opened.directory

  abbrev k : state.Holding
  k = held_in v s.online

  abbrev places : FinMap nat_cmp state.Place
  places = dumped_places (files_in opened.directory)

  pub rules : IsRecords s.online.contents.users (recs_in s.online.contents)
  rules = is.dumpable.records

  pub long : All (HasLength v.text) s.online.contents.files
  long = All-weaker (λ (f : File). KeepsFile (v.text f.rec.stamp) (all_dumps v.shelf reels) f) (HasLength v.text) (λ f keeps. keeps.rec.len) s.online.contents.files is.up.disc.files

  pub are : AreOpened v.text v.shelf changed s.online.contents plan pins
  are = record { dumpable = is.dumpable; planned = is.planned; pinned = is.pinned; long = long }

  pub distinct : AreDistinct s.online.contents.files
  distinct = files_apart s.online.contents.files is.dumpable.records.among_files.stamps

  -- THE DUMP, were it completed
  ready : IsReady v.text v.shelf reels (opened_with plan pins s).online made
  ready = (opening_stays v.text v.shelf s plan pins is.none is.told is.shelved is.on is.dumpable is.planned is.pinned is.texts is.up).open_dump pins refl content is.content_is

  apart : AreNumberedApart opened.dumps
  apart = subst (λ (ds : List Dump). AreNumberedApart ds) (sym is.opens.all) ready.rack.apart

  kept : (u : UserRec) → Contains s.online.contents.users u → IsKept opened.dumps u.number (files_of u.number (map (λ (f : File). f.rec) (with_copies (noted (Some pins)) s.online.contents.files)))
  kept u there =
      subst (λ (ds : List Dump). IsKept ds u.number (files_of u.number (map (λ (f : File). f.rec) (with_copies (noted (Some pins)) s.online.contents.files)))) (sym is.opens.all) (ready.opening.each u there refl)

  made_there : Contains opened.dumps made
  made_there =
      let (r, in_reels, same) = reel_named plan.serial reels is.on in
      subst (λ (ds : List Dump). Contains ds made) (sym is.opens.all) (with_there made v.shelf reels r in_reels same)

  low : (e : Dump) → Contains opened.dumps e → e.number ≤ plan.number
  low e in_dumps = by_case (in_with made v.shelf reels e (subst (λ (ds : List Dump). Contains ds e) is.opens.all in_dumps))
    where
      by_case : Contains (all_dumps v.shelf reels) e ⊎ (made ≡ e) → e.number ≤ plan.number
      by_case (inl old) = let le = is.up.quiet e old in let number = is.planned.number in omega (arith, le, number)
      by_case (inr same) = subst (λ (d : Dump). d.number ≤ plan.number) same (omega arith)

  last_is : t.last ≡ made
  last_is =
      let one : t.last.number ≤ plan.number = low t.last t.greatest.there in
      let two : plan.number ≤ t.last.number = t.greatest.greatest made made_there in
      let same : t.last.number ≡ plan.number = omega (arith, one, two) in
      apart t.last made t.greatest.there made_there same

  users_is : t.last.users ≡ s.online.contents.users
  users_is = ap (λ (d : Dump). d.users) last_is ∙ is.planned.users

  next_is : t.last.next ≡ s.online.contents.head.next_stamp
  next_is = ap (λ (d : Dump). d.next) last_is ∙ is.planned.next

  pub tree_is : tree_by v.text t.last.users (files_in t) t.last.next ≡ tree_by v.text s.online.contents.users (recs_in s.online.contents) s.online.contents.head.next_stamp
  tree_is = dumped_tree_is v.text opened.dumps t s.online.contents (noted (Some pins)) apart is.dumpable.records users_is next_is kept

  -- ITS RECORDS are those of the disc, with the noted copies
  abbrev gathered : List FileRec
  gathered = gathered_by s.online.contents.users (recs_in s.online.contents)

  abbrev copied : FileRec → FileRec
  copied r = copied_rec (pairs pins) r

  abbrev noted_place : FileRec → state.Place
  noted_place r = record { online = r.len == 0; copy = copy_of (pairs pins) r.stamp r.tape }

  abbrev entry_of : FileRec → ℕ × state.Place
  entry_of r = (r.stamp, dumped_place r)

  abbrev stamp_of : FileRec → ℕ
  stamp_of r = r.stamp

  kept_copied : (u : UserRec) → Contains s.online.contents.users u → IsKept opened.dumps u.number (files_of u.number (map copied (recs_in s.online.contents)))
  kept_copied u there = subst (λ (rs : List FileRec). IsKept opened.dumps u.number (files_of u.number rs)) (copied_recs (pairs pins) s.online.contents.files) (kept u there)

  same_records : map unnumbered (files_in t) ≡ map unnumbered (gathered_by s.online.contents.users (map copied (recs_in s.online.contents)))
  same_records =
      numbers_none 0 t.gathered
      ∙ gathered_same opened.dumps apart (map copied (recs_in s.online.contents)) s.online.contents.users t.gathered kept_copied (subst (λ (us : List UserRec). Gathers opened.dumps us t.gathered) users_is t.gathers)

  same_entries : map entry_of (files_in t) ≡ map (λ (r : FileRec). (r.stamp, noted_place r)) gathered
  same_entries =
      sym (map_of_map entry_of unnumbered (files_in t)) ∙ ap (map entry_of) same_records ∙ map_of_map entry_of unnumbered (gathered_by s.online.contents.users (map copied (recs_in s.online.contents)))
      ∙ ap (map entry_of) (gathered_copied (pairs pins) s.online.contents.users (recs_in s.online.contents)) ∙ map_of_map entry_of copied gathered

  get_dumped : (q : ℕ) → get places q ≡ option_map noted_place (find nat_cmp q (keyed stamp_of gathered))
  get_dumped q =
      ap (λ (es : List (ℕ × state.Place)). get (from_entries {R = nat_cmp} es) q) (same_entries ∙ sym (map_of_map (with_value nat_cmp noted_place) (λ (r : FileRec). (r.stamp, r)) gathered))
      ∙ get_valued nat_cmp noted_place nat_cmp_total (keyed stamp_of gathered) q
      ∙ ap (option_map noted_place) (get-from_entries nat_cmp_total (keyed stamp_of gathered) q)

  gathered_distinct : AreApart stamp_of gathered
  gathered_distinct =
      gathered_pairs OtherStamp (λ r q other e. other (sym e)) s.online.contents.users (recs_in s.online.contents) (users_apart s.online.contents.users is.dumpable.records.among_users) is.dumpable.records.among_files.stamps

  pub place_of_rec : (r : FileRec) → Contains (recs_in s.online.contents) r → state.place_at places r.stamp ≡ noted_place r
  place_of_rec r there =
      ap (λ (p : Option state.Place). unwrap_or p (record { online = true; copy = None }))
      (get_dumped r.stamp
      ∙ ap (option_map noted_place)
      (found_itself nat_cmp_total nat_cmp-IsAntisymmetric stamp_of gathered r gathered_distinct (all_there s.online.contents.users (recs_in s.online.contents) is.dumpable.records r there)))

  -- A VERSION THAT DOESN'T WAIT has the same copy
  unpinned : (r : FileRec) → Contains (recs_in s.online.contents) r → file_waits r ≡ false → All (IsOtherPin r.stamp) pins
  unpinned r there isnt =
      All-weaker (IsPinned (waiting_files plan.files)) (IsOtherPin r.stamp)
      (λ p it e.
      let (in_xs, waits_it) = from_plan v.text v.shelf changed s.online.contents plan pins are it.rec it.there in
      let one : it.rec ≡ r = one_of_key stamp_of (recs_in s.online.contents) it.rec r is.dumpable.records.among_files.stamps in_xs there (sym it.stamp ∙ e) in
      both_ways (file_waits r) isnt (ap file_waits (sym one) ∙ waits_it)) pins
      (are_of plan.serial (first_content plan) (waiting_files plan.files) pins is.pinned)

  pub copy_kept : (r : FileRec) → Contains (recs_in s.online.contents) r → file_waits r ≡ false → copy_of (pairs pins) r.stamp r.tape ≡ r.tape
  copy_kept r there isnt = copy_apart r.stamp pins r.tape (unpinned r there isnt)

  pub long_of : (r : FileRec) → Contains (recs_in s.online.contents) r → length (v.text r.stamp) ≡ r.len
  long_of r there =
      All-contains (λ (q : FileRec). length (v.text q.stamp) ≡ q.len) (recs_in s.online.contents) r (All-map (λ (q : FileRec). length (v.text q.stamp) ≡ q.len) (λ (f : File). f.rec) s.online.contents.files long) there

  -- the copy that the state before has
  pub copy_before : (r : FileRec) → Contains (recs_in s.online.contents) r → (state.place_at k.places r.stamp).copy ≡ r.tape
  copy_before r there =
      let (f, in_files, same) = from_mapped (λ (g : File). g.rec) s.online.contents.files r there in
      subst (λ (q : FileRec). (state.place_at k.places q.stamp).copy ≡ q.tape) same
      (ap (λ (p : Option state.Place). (unwrap_or p (record { online = true; copy = None })).copy) (place_found s.online.contents.files f distinct in_files))

  -- a version that waits by the state waits by its record
  pub waits_same : (r : FileRec) → Contains (recs_in s.online.contents) r → (nat_lt 0 (length (v.text r.stamp)) && is_none (state.place_at k.places r.stamp).copy) ≡ file_waits r
  waits_same r there =
      ap (λ (n : ℕ). nat_lt 0 n && is_none (state.place_at k.places r.stamp).copy) (long_of r there)
      ∙ ap (λ (o : Option TapeCopy). nat_lt 0 r.len && is_none o) (copy_before r there)

  -- WHERE ITS VERSIONS LIE
  current : (stamp : ℕ) → is_some (get places stamp) ≡ state.is_current k.tree stamp
  current stamp = by_found (find nat_cmp stamp (keyed stamp_of gathered)) refl ∙ sym (current_is v.text s.online.contents (users_not_in changed s.online.contents.users) is.dumpable.records stamp)
    where
      by_found : (o : Option FileRec) → find nat_cmp stamp (keyed stamp_of gathered) ≡ o → is_some (get places stamp) ≡ facts.is_current s.online.contents.files stamp
      by_found None e =
          ap is_some (get_dumped stamp ∙ ap (option_map noted_place) e)
          ∙ sym (false_from_ne_true (facts.is_current s.online.contents.files stamp)
          (λ yes.
          let (f, in_files, same) = any_found (λ (g : File). g.rec.stamp == stamp) s.online.contents.files yes in
          let there = all_there s.online.contents.users (recs_in s.online.contents) is.dumpable.records f.rec (mapped_there (λ (g : File). g.rec) s.online.contents.files f in_files) in
          none-some f.rec
          (sym e ∙ subst (λ (n : ℕ). find nat_cmp n (keyed stamp_of gathered) ≡ Some f.rec) (eqb-true f.rec.stamp stamp same)
          (found_itself nat_cmp_total nat_cmp-IsAntisymmetric stamp_of gathered f.rec gathered_distinct there))))
      by_found (Some r) e =
          let one = found_one nat_cmp_total nat_cmp-IsAntisymmetric stamp_of stamp gathered r e in
          let (f, in_files, same) = from_mapped (λ (g : File). g.rec) s.online.contents.files r (none_more s.online.contents.users (recs_in s.online.contents) is.dumpable.records r one.0) in
          ap is_some (get_dumped stamp ∙ ap (option_map noted_place) e)
          ∙ sym (any_there (λ (g : File). g.rec.stamp == stamp) s.online.contents.files f in_files (eq-eqb f.rec.stamp stamp (ap (λ (q : FileRec). q.stamp) same ∙ one.1)))

  empty_at : (r : FileRec) → Contains (recs_in s.online.contents) r → length (v.text r.stamp) ≡ 0 → state.place_at places r.stamp ≡ record { online = true; copy = None }
  unfolding place_with
  empty_at r there short =
      let none : r.len ≡ 0 = sym (long_of r there) ∙ short in
      let isnt : file_waits r ≡ false = ap (λ (n : ℕ). nat_lt 0 n && is_none r.tape) none in
      let tape : r.tape ≡ None = All-contains (λ (q : FileRec). q.len ≡ 0 → q.tape ≡ None) (recs_in s.online.contents) r is.dumpable.records.among_files.empty there none in
      place_of_rec r there ∙ ap (place_with (r.len == 0)) (copy_kept r there isnt ∙ tape) ∙ ap (λ (b : Bool). place_with b None) (eq-eqb r.len 0 none)

  old_at : (r : FileRec) (copy : TapeCopy) → Contains (recs_in s.online.contents) r → 0 < length (v.text r.stamp) → (state.place_at k.places r.stamp).copy ≡ Some copy
      → state.place_at places r.stamp ≡ record { online = false; copy = Some copy }
  unfolding place_with
  old_at r copy there filled has =
      let tape : r.tape ≡ Some copy = sym (copy_before r there) ∙ has in
      let isnt : file_waits r ≡ false = and_right (nat_lt 0 r.len) (is_none r.tape) (ap is_none tape) in
      let size = long_of r there in
      place_of_rec r there ∙ ap (place_with (r.len == 0)) (copy_kept r there isnt ∙ tape)
      ∙ ap (λ (b : Bool). place_with b (Some copy)) (ne_eqb r.len 0 (λ e. let no : ⊥ = omega (arith, filled, size, e) in no))

  -- the copy that is noted for a version that waits
  new_copy : (r : FileRec) → Contains (recs_in s.online.contents) r → file_waits r ≡ true → HasCopy plan.serial (first_content plan) (waiting_files plan.files) pins r r.tape
  new_copy r there waits_it =
      let (f, in_files, same) = from_mapped (λ (g : File). g.rec) s.online.contents.files r there in
      let in_waiting : Contains (waiting_files plan.files) r =
      subst (λ (q : FileRec). Contains (waiting_files plan.files) q) same (in_plan v.text v.shelf changed s.online.contents plan pins are f in_files (ap file_waits same ∙ waits_it)) in
      copy_in plan.serial (first_content plan) (waiting_files plan.files) pins is.pinned (AllPairs-filter OtherStamp file_waits plan.files is.planned.rules.files.stamps) r in_waiting r.tape

  new_at : (r : FileRec) (copy : TapeCopy) → Contains (recs_in s.online.contents) r → file_waits r ≡ true → copy_of (pairs pins) r.stamp r.tape ≡ Some copy → state.place_at places r.stamp ≡ record { online = false; copy = Some copy }
  unfolding place_with
  new_at r copy there waits_it has =
      let filled = ltb-true 0 r.len (and_parts (nat_lt 0 r.len) (is_none r.tape) waits_it).0 in
      place_of_rec r there ∙ ap (place_with (r.len == 0)) has ∙ ap (λ (b : Bool). place_with b (Some copy)) (ne_eqb r.len 0 (λ e. let no : ⊥ = omega (arith, filled, e) in no))

  -- THE PLACES are those of the step
  module _ (at : ℕ) (place_is : at ≡ plan.place) where
    abbrev ends : ℕ
    ends = at + dump_needs k - 1

    needs_is : dump_needs k ≡ 2 + length plan.users + length plan.files + blocks_of (waiting_files plan.files)
    needs_is = opening_takes.needs v.text v.shelf changed s.online.contents plan pins are

    waits_is : waiting_blocks (waiting k) ≡ blocks_of (waiting_files plan.files)
    waits_is = content_is v.text v.shelf changed s.online.contents plan pins are

    record IsNew (row : FileRow) : Type 0 where
      copy : TapeCopy
      place : state.place_at places row.stamp ≡ record { online = false; copy = Some copy }
      serial : copy.serial ≡ plan.serial
      least : ends - waiting_blocks (waiting k) ≤ copy.first
      most : copy.first + state.blocks_of row ≤ ends

    is_new : (r : FileRec) → Contains (recs_in s.online.contents) r → (nat_lt 0 (length (v.text r.stamp)) && is_none (state.place_at k.places r.stamp).copy) ≡ true
        → IsNew (file_row_of s.online.contents.users (λ (q : FileRec). v.text q.stamp) r)
    is_new r there waits_it =
        let waits_rec : file_waits r ≡ true = sym (waits_same r there) ∙ waits_it in
        let found = new_copy r there waits_rec in
        let size : blocks_for (length (v.text r.stamp)) ≡ blocks_for r.len = ap blocks_for (long_of r there) in
        let copy : TapeCopy = record { serial = plan.serial; first = found.first } in
        record {
          copy = copy;
          place = new_at r copy there waits_rec found.is;
          serial = refl;
          least = low_by at (dump_needs k) (waiting_blocks (waiting k)) plan.place (length plan.users) (length plan.files) (blocks_of (waiting_files plan.files)) found.first place_is needs_is waits_is found.low;
          most = high_by at (dump_needs k) plan.place (length plan.users) (length plan.files) (blocks_of (waiting_files plan.files)) (found.first + blocks_for (length (v.text r.stamp))) place_is needs_is
              (let high = found.high in
              let last : found.first + blocks_for (length (v.text r.stamp)) ≡ found.first + blocks_for r.len = ap (λ (n : ℕ). found.first + n) size in
              subst (λ (n : ℕ). n ≤ plan.place + 1 + length plan.users + length plan.files + blocks_of (waiting_files plan.files)) (sym last) high);
        }

    pub are_noted : AreNoted plan.serial (ends - waiting_blocks (waiting k)) ends k places
    are_noted = record {
      current = current;
      empty = λ full row e.
          let (r, there, named, row_is) = file_found s.online.contents.users (recs_in s.online.contents) (λ (q : FileRec). v.text q.stamp) s.online.contents.head.next_stamp is.dumpable.records full row e in
          subst (λ (w : FileRow). length w.bytes ≡ 0 → state.place_at places w.stamp ≡ record { online = true; copy = None }) row_is (empty_at r there);
      old = λ full row copy e.
          let (r, there, named, row_is) = file_found s.online.contents.users (recs_in s.online.contents) (λ (q : FileRec). v.text q.stamp) s.online.contents.head.next_stamp is.dumpable.records full row e in
          subst (λ (w : FileRow). 0 < length w.bytes → (state.place_at k.places w.stamp).copy ≡ Some copy → state.place_at places w.stamp ≡ record { online = false; copy = Some copy }) row_is (old_at r copy there);
      new = λ full row e waits_it.
          let (r, there, named, row_is) = file_found s.online.contents.users (recs_in s.online.contents) (λ (q : FileRec). v.text q.stamp) s.online.contents.head.next_stamp is.dumpable.records full row e in
          let it = subst (λ (w : FileRow). (nat_lt 0 (length w.bytes) && is_none (state.place_at k.places w.stamp).copy) ≡ true → IsNew w) row_is (is_new r there) waits_it in
          (it.copy, it.place, it.serial, it.least, it.most);
    }
