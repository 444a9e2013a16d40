-- The opening of a dump: with its dump completed disc and rack would belong together, and the directories would be those of
-- the opening.
-- serves: events_stay_up (opening), ForgetLemmas, OpenedLemmas, crates above
use Rattle.std.proofs.Common.{◌≡◌, ℕ, ◌+◌, ◌<◌, ◌≤◌, Bool, true, false, List, [], ◌∷◌, ◌++◌, get_or, length, Option, Some, None, refl, sym, ◌∙◌, ap, arith, subst, inl, inr}
use Rattle.std.specs.Prelude.{◌⊎◌, ◌==◌, ◌&&◌, All, AllPairs, Contains, IfSome, filter, map, nat_le, nat_lt}
use Rattle.std.proofs.lemmas.Bool.{and_left, both_ways, cases_Bool, cases_eq, cond-false, cond-true, eq-eqb, eqb-true, lt-leb}
use Rattle.std.proofs.lemmas.List.{append-nil, length-map, map-append}
use Rattle.std.proofs.lemmas.List.Elements.{All-contains, All-head, All-map, All-tail, All-weaker, Contains-append_left, Contains-append_right, Contains-get_or, filter-append}
use Rattle.std.proofs.lemmas.Option.{same_Some}
use Rattle.g_entry.specs.declared.file_rec.FileRec.{FileRec}
use Rattle.g_entry.specs.declared.file_rec.TapeCopy.{TapeCopy}
use Rattle.g_entry.specs.declared.head.Intent.{Intent}
use Rattle.g_entry.specs.declared.user_rec.UserRec.{UserRec}
use Rattle.g_entry.specs.FileFields.{IsFile}
use Rattle.g_entry.specs.Rules.{AreFiles, AreNumbered, SameName, StampsBelow}
use Rattle.g_tape.specs.Reel.{Reel}
use Rattle.g_tree.specs.Records.{IsRecords}
use Rattle.g_disc_contents.specs.Contents.{Contents, File, copied_rec, recs_in, with_intent}
use Rattle.g_disc_contents.specs.Facts.{Pin}
use Rattle.g_incr.specs.Layout.{Dump, IsDump, holds, is_between}
use Rattle.g_incr.specs.Plan.{IsAway, Plan, content_blocks, dump_of, first_content, noted_files, numbered_from, waiting, with_number}
use Rattle.g_incr.proofs.PlanLemmas.{plan_gives_dump}
use Rattle.g_incr.proofs.NumberLemmas.{file_numbered, number_at, numbered_each}
use Rattle.g_shelf.specs.CompletedDumps.{AreShelved, all_dumps, end_of}
use Rattle.g_store_meaning.specs.Belonging.{DiscBelongs, IsIntended, IsPlaced, KeepsFile, KeepsRecord, RackBelongs}
use Rattle.g_laws_store.specs.Dumping.{AreDumpable, IsPlanOf, OpeningStaysUp, PinsText, opened_with}
use Rattle.g_store_meaning.specs.Laws.{HasContent}
use Rattle.g_store_meaning.specs.Meaning.{DumpedDirectory, Gathers, HasDirectory, IsContent, files_in, files_of, told_reels}
use Rattle.g_store_meaning.specs.Reading.{ReelsTold}
use Rattle.g_store_meaning.specs.StoreInvariant.{ArePinned, IsKept, IsReady, IsUp, KeepsOpening, StoreFacts, content_in, unnumbered, up_to, with_dump}
use Rattle.g_store_meaning.proofs.ChangeLemmas.{copy_is, intents_belong}
use Rattle.g_laws_store.proofs.ClosingLemmas.{contains_filter}
use Rattle.g_store_meaning.proofs.DirectoryLemmas.{all_up_to, copied_files, copied_recs}
use Rattle.g_store_meaning.proofs.OneLemmas.{AreRight, IsApart, on_reel, same_gathered}
use Rattle.g_store_meaning.proofs.GatheredLemmas.{each_gathered}
use Rattle.g_laws_store.proofs.PinLemmas.{HasLen, IsOther, OtherStamp, copied_apart, noted_copied, other_pins, pairs, pinned_blocks, pins_content, waiting_all}
use Rattle.g_laws_store.proofs.RecordLemmas.{apart_in, from_filter, gathered_all_of, gathered_by, gathered_few, gathered_pairs, numbers_none, numbers_none_of, owned, pairs_mapped, same_all, same_count, same_pairs, users_apart}
use Rattle.g_laws_store.proofs.StateLemmas.{with_there}
use Rattle.g_laws_store.proofs.UpOneLemmas.{ends_before, in_with, on_all, reel_named, right_with}

-- what was there is there with a dump more
pub old_with : (d : Dump) (shelf : ℕ → List Dump) (reels : List Reel) (e : Dump) → Contains (all_dumps shelf reels) e → Contains (all_dumps (with_dump d shelf) reels) e
old_with d shelf reels e there =
    let on = on_reel shelf reels e there in on_all (with_dump d shelf) reels on.reel e on.there (by_serial on.reel (cases_Bool (on.reel.serial == d.serial)) on.on)
  where
    by_serial : (r : Reel) → ((r.serial == d.serial) ≡ true) ⊎ ((r.serial == d.serial) ≡ false) → Contains (shelf r.serial) e → Contains (with_dump d shelf r.serial) e
    by_serial r (inl is) on =
        subst (λ (ds : List Dump). Contains ds e) (sym (cond-true (r.serial == d.serial) (shelf r.serial ++ d ∷ []) (shelf r.serial) is)) (Contains-append_left (shelf r.serial) (d ∷ []) e on)
    by_serial r (inr isnt) on = subst (λ (ds : List Dump). Contains ds e) (sym (cond-false (r.serial == d.serial) (shelf r.serial ++ d ∷ []) (shelf r.serial) isnt)) on

pub more_content : (old new : List Dump) → ((e : Dump) → Contains old e → Contains new e) → (tape : Option TapeCopy) (t : List ℕ) → IfSome tape (λ c. IsContent old c t) → IfSome tape (λ c. IsContent new c t)
more_content old new more None t is = tt
more_content old new more (Some c) t is = record { dump = is.dump; there = more is.dump is.there; reel = is.reel; from = is.from; to = is.to; text_is = is.text_is }

map_same : (f : FileRec → FileRec) (rs : List FileRec) → All (λ r. f r ≡ r) rs → map f rs ≡ rs
map_same f [] all = refl
map_same f (r ∷ rs) all = ap (λ (q : FileRec). q ∷ map f rs) (All-head (λ (q : FileRec). f q ≡ q) r rs all) ∙ ap (λ (qs : List FileRec). r ∷ qs) (map_same f rs (All-tail (λ (q : FileRec). f q ≡ q) r rs all))

abbrev IsOtherName : FileRec → FileRec → Type 0
IsOtherName r s = SameName r s → ⊥

IsEmptyAlone : FileRec → Type 0
IsEmptyAlone r = r.len ≡ 0 → r.tape ≡ None

-- no dump of a reel is newer than the last one
quiet_shelf : (text : ℕ → List ℕ) (shelf : ℕ → List Dump) (s : StoreFacts) (serial : ℕ) → Contains (map (λ r. r.serial) (told_reels s.rack)) serial → IsUp text shelf s
    → All (λ (d : Dump). d.number ≤ s.online.contents.head.last_dump) (shelf serial)
quiet_shelf text shelf s serial on was i d within =
    let (r, in_reels, same) = reel_named serial (told_reels s.rack) on in
    let e = get_or (shelf serial) i d in
    was.quiet e (on_all shelf (told_reels s.rack) r e in_reels (subst (λ (n : ℕ). Contains (shelf n) e) (sym same) (Contains-get_or (shelf serial) i d within)))

module _ (text : ℕ → List ℕ) (shelf : ℕ → List Dump) (s : StoreFacts) (plan : Plan) (pins : List Pin) (content : List (List ℕ))
    (told : ReelsTold (told_reels s.rack)) (shelved : AreShelved shelf (told_reels s.rack)) (on : Contains (map (λ r. r.serial) (told_reels s.rack)) plan.serial)
    (dumpable : AreDumpable s.online.changed s.online.contents) (planned : IsPlanOf shelf s.online.changed s.online.contents plan)
    (are : ArePinned plan.serial (first_content plan) (waiting plan.files) pins) (texts : All (PinsText text) pins) (is_content : content_in pins ≡ Some content)
    (was : IsUp text shelf s) where
  abbrev reels : List Reel
  reels = told_reels s.rack

  abbrev c : Contents
  c = s.online.contents

  abbrev changed : List ℕ
  changed = s.online.changed

  abbrev xs : List FileRec
  xs = recs_in c

  abbrev made : Dump
  made = dump_of plan content

  abbrev old : List Dump
  old = all_dumps shelf reels

  abbrev dumps : List Dump
  dumps = all_dumps (with_dump made shelf) reels

  abbrev copied : FileRec → FileRec
  copied r = copied_rec (pairs pins) r

  -- the records with the noted copies
  abbrev ys : List FileRec
  ys = map copied xs

  there : Contains dumps made
  there = let (r, in_reels, same) = reel_named plan.serial reels on in with_there made shelf reels r in_reels same

  old_in : (e : Dump) → Contains old e → Contains dumps e
  old_in e in_old = old_with made shelf reels e in_old

  above : (e : Dump) → Contains old e → e.number < plan.number
  above e in_old = let le = was.quiet e in_old in let number = planned.number in omega (arith, le, number)

  low : (e : Dump) → Contains dumps e → e.number ≤ plan.number
  low e in_dumps = by_case (in_with made shelf reels e in_dumps)
    where
      by_case : Contains old e ⊎ (made ≡ e) → e.number ≤ plan.number
      by_case (inl in_old) = let less = above e in_old in omega (arith, less)
      by_case (inr same) = subst (λ (x : Dump). x.number ≤ plan.number) same (omega arith)

  newest : (e : Dump) → Contains dumps e → plan.number ≤ e.number → e ≡ made
  newest e in_dumps le = by_case (in_with made shelf reels e in_dumps)
    where
      by_case : Contains old e ⊎ (made ≡ e) → e ≡ made
      by_case (inl in_old) = let less = above e in_old in let no : ⊥ = omega (arith, less, le) in absurd no
      by_case (inr same) = sym same

  -- THE PLAN'S FILES are records of the disc, of changed users
  held_owner : (i : ℕ) (d : FileRec) → i < length plan.files → holds changed (get_or plan.files i d).owner ≡ true
  held_owner i d within = subst (λ (ns : List ℕ). holds ns (get_or plan.files i d).owner ≡ true) planned.held (planned.rules.owners i d within)

  in_xs : All (Contains xs) plan.files
  in_xs i d within =
      let r = get_or plan.files i d in
      from_filter (λ (q : FileRec). q.owner == r.owner) xs r
      (subst (λ (fs : List FileRec). Contains fs r) (planned.files r.owner (held_owner i d within))
      (contains_filter (λ (q : FileRec). q.owner == r.owner) plan.files r (Contains-get_or plan.files i d within) (eq-eqb r.owner r.owner refl)))

  kept_xs : All (λ (r : FileRec). KeepsRecord (text r.stamp) old r) xs
  kept_xs =
      All-map (λ (r : FileRec). KeepsRecord (text r.stamp) old r) (λ (f : File). f.rec) c.files
      (All-weaker (λ (f : File). KeepsFile (text f.rec.stamp) old f) (λ (f : File). KeepsRecord (text f.rec.stamp) old f.rec) (λ f keeps. keeps.rec) c.files was.disc.files)

  kept_plan : (i : ℕ) (d : FileRec) → i < length plan.files → (let r = get_or plan.files i d in KeepsRecord (text r.stamp) old r)
  kept_plan i d within = All-contains (λ (r : FileRec). KeepsRecord (text r.stamp) old r) xs (get_or plan.files i d) kept_xs (in_xs i d within)

  -- NO COPY that there is lies where the dump's content will
  away_from : (tape : Option TapeCopy) (t : List ℕ) → IfSome tape (λ k. IsContent old k t) → is_between plan.serial (first_content plan) (first_content plan + content_blocks plan) tape ≡ false
  away_from None t is = refl
  away_from (Some k) t is = by_serial (cases_Bool (k.serial == plan.serial))
    where
      low_first : k.serial ≡ plan.serial → nat_le (first_content plan) k.first ≡ false
      low_first same =
          let ended = ends_before shelf reels told shelved is.dump plan.serial is.there (is.reel ∙ same) in
          let to = is.to in
          let place = planned.place in
          lt-leb (first_content plan) k.first (omega (arith, ended, to, place))

      by_serial : ((k.serial == plan.serial) ≡ true) ⊎ ((k.serial == plan.serial) ≡ false)
          → ((k.serial == plan.serial) && (nat_le (first_content plan) k.first && nat_lt k.first (first_content plan + content_blocks plan))) ≡ false
      by_serial (inl same) =
          let first = low_first (eqb-true k.serial plan.serial same) in
          let rest = and_left (nat_le (first_content plan) k.first) (nat_lt k.first (first_content plan + content_blocks plan)) first in
          ap (λ (b : Bool). (k.serial == plan.serial) && b) rest ∙ ap (λ (b : Bool). b && false) same
      by_serial (inr other) = and_left (k.serial == plan.serial) (nat_le (first_content plan) k.first && nat_lt k.first (first_content plan + content_blocks plan)) other

  away : IsAway plan
  away = record { each = λ i d within. away_from (get_or plan.files i d).tape (text (get_or plan.files i d).stamp) (kept_plan i d within).copy }

  made_rules : IsDump made
  made_rules =
      let blocks = pinned_blocks text plan.serial (first_content plan) (waiting plan.files) pins content are is_content texts in
      plan_gives_dump plan content planned.rules away blocks.0 blocks.1

  right : AreRight dumps
  right = right_with shelf reels told shelved made made_rules planned.place

  -- THE NOTED COPIES
  noted_is : noted_files plan.serial (first_content plan) plan.files ≡ map copied plan.files
  noted_is = noted_copied plan.serial (first_content plan) plan.files pins are planned.rules.files.stamps

  copies : All (HasContent text dumps) (pairs pins)
  copies =
      let count : length made.files ≡ length plan.files =
      same_count made.files (noted_files plan.serial (first_content plan) plan.files) (numbers_none 0 (noted_files plan.serial (first_content plan) plan.files))
      ∙ ap (λ (rs : List FileRec). length rs) noted_is ∙ length-map plan.files copied in
      pins_content text dumps made plan.serial (first_content plan) (waiting plan.files) pins [] content there refl (omega (arith, count)) refl are is_content texts
      (waiting_all (HasLen text) plan.files (λ i d within. (kept_plan i d within).len))

  kept_ys : All (λ (r : FileRec). KeepsRecord (text r.stamp) dumps r) ys
  kept_ys =
      All-map (λ (r : FileRec). KeepsRecord (text r.stamp) dumps r) copied xs
      (All-weaker (λ (r : FileRec). KeepsRecord (text r.stamp) old r) (λ (r : FileRec). KeepsRecord (text (copied r).stamp) dumps (copied r))
      (λ r keeps. record { len = keeps.len; copy = copy_is text dumps (pairs pins) r.stamp r.tape copies (more_content old dumps old_in r.tape (text r.stamp) keeps.copy) }) xs kept_xs)

  -- THE DIRECTORY of each user, as the newest dump that holds it has it
  record IsDir (u : UserRec) : Type 0 where
    source : Dump
    has : HasDirectory dumps u.number source
    same : map unnumbered (files_of u.number source.files) ≡ map unnumbered (files_of u.number ys)

  dir_changed : (u : UserRec) → holds changed u.number ≡ true → IsDir u
  dir_changed u held = record {
    source = made;
    has = record {
      there = there;
      held = subst (λ (ns : List ℕ). holds ns u.number ≡ true) (sym planned.held) held;
      newest = λ e in_dumps held_e. low e in_dumps;
    };
    same = numbers_none_of u.number 0 (noted_files plan.serial (first_content plan) plan.files) ∙ ap (λ (rs : List FileRec). map unnumbered (files_of u.number rs)) noted_is
        ∙ ap (map unnumbered) (copied_files u.number (pairs pins) plan.files ∙ ap (map copied) (planned.files u.number held) ∙ sym (copied_files u.number (pairs pins) xs));
  }

  -- a file of another user has no pin's stamp
  unpinned : (r : FileRec) → Contains xs r → holds changed r.owner ≡ false → copied r ≡ r
  unpinned r in_r isnt =
      copied_apart pins r
      (other_pins plan.serial (first_content plan) r.stamp (waiting plan.files) pins are
      (waiting_all (IsOther r.stamp) plan.files
      (λ i d within.
      apart_in OtherStamp (λ x y other e. other (sym e)) xs dumpable.records.among_files.stamps (get_or plan.files i d) r (in_xs i d within) in_r
      (λ same. both_ways (holds changed r.owner) isnt (ap (λ (q : FileRec). holds changed q.owner) (sym same) ∙ held_owner i d within)))))

  dir_kept : (u : UserRec) → holds changed u.number ≡ false → IsKept old u.number (files_of u.number xs) → IsDir u
  dir_kept u isnt kept = record {
    source = kept.source;
    has = record {
      there = old_in kept.source kept.directory.there;
      held = kept.directory.held;
      newest = λ e in_dumps held_e. by_case e held_e (in_with made shelf reels e in_dumps);
    };
    same = kept.same ∙ ap (map unnumbered) (sym (copied_files u.number (pairs pins) xs ∙ map_same copied (files_of u.number xs) others));
  }
    where
      by_case : (e : Dump) → holds e.held u.number ≡ true → Contains old e ⊎ (made ≡ e) → e.number ≤ kept.source.number
      by_case e held_e (inl in_old) = kept.directory.newest e in_old held_e
      by_case e held_e (inr same) =
          absurd (both_ways (holds changed u.number) isnt (subst (λ (ns : List ℕ). holds ns u.number ≡ true) planned.held (subst (λ (x : Dump). holds x.held u.number ≡ true) (sym same) held_e)))

      others : All (λ (r : FileRec). copied r ≡ r) (files_of u.number xs)
      others i d within =
          let r = get_or (files_of u.number xs) i d in
          let in_files = Contains-get_or (files_of u.number xs) i d within in
          unpinned r (from_filter (λ (q : FileRec). q.owner == u.number) xs r in_files) (ap (holds changed) (owned u.number xs r in_files) ∙ isnt)

  dir : (u : UserRec) → Contains c.users u → IsDir u
  dir u in_users = by_change (cases_Bool (holds changed u.number))
    where
      some_last : holds changed u.number ≡ false → (c.head.last_dump ≡ 0) ⊎ (c.head.last_dump ≡ 0 → ⊥) → 0 < c.head.last_dump
      some_last isnt (inl none) = absurd (both_ways (holds changed u.number) isnt (was.directories.none none u in_users))
      some_last isnt (inr some) = omega (arith, some)

      all_old : up_to c.head.last_dump old ≡ old
      all_old = all_up_to c.head.last_dump old (λ i d within. was.quiet (get_or old i d) (Contains-get_or old i d within))

      by_change : (holds changed u.number ≡ true) ⊎ (holds changed u.number ≡ false) → IsDir u
      by_change (inl is) = dir_changed u is
      by_change (inr isnt) =
          dir_kept u isnt (subst (λ (ds : List Dump). IsKept ds u.number (files_of u.number xs)) all_old (was.directories.each (some_last isnt (cases_eq c.head.last_dump 0)) u in_users isnt))

  -- ALL OF THEM
  record AreGathered (users : List UserRec) : Type 0 where
    files : List FileRec
    gathers : Gathers dumps users files
    same : map unnumbered files ≡ map unnumbered (gathered_by users ys)

  gather : (users : List UserRec) → ((u : UserRec) → Contains users u → IsDir u) → AreGathered users
  gather [] dirs = record { files = []; gathers = refl; same = refl }
  gather (u ∷ us) dirs =
      let d = dirs u (0, omega arith, refl) in
      let rest = gather us (λ v in_us. dirs v (Contains-append_right (u ∷ []) us v in_us)) in record {
        files = files_of u.number d.source.files ++ rest.files;
        gathers = (d.source, d.has, rest.files, refl, rest.gathers);
        same = map-append unnumbered (files_of u.number d.source.files) rest.files
            ∙ ap (λ (rs : List FileRec). rs ++ map unnumbered rest.files) d.same
            ∙ ap (λ (rs : List FileRec). map unnumbered (files_of u.number ys) ++ rs) rest.same
            ∙ sym (map-append unnumbered (files_of u.number ys) (gathered_by us ys));
      }

  all : AreGathered c.users
  all = gather c.users dir

  numbered : List FileRec
  numbered = numbered_from 0 all.files

  same_numbered : map unnumbered numbered ≡ map unnumbered (gathered_by c.users ys)
  unfolding numbered
  same_numbered = numbers_none 0 all.files ∙ all.same

  -- what is so of the records, but for number and copy
  of_records : (P : FileRec → Type 0) → ((r : FileRec) → P r → P (copied r)) → ((r : FileRec) → P r → P (unnumbered r)) → ((r : FileRec) → P (unnumbered r) → P r) → All P xs → All P numbered
  of_records P copy to back each =
      same_all P to back numbered (gathered_by c.users ys) same_numbered
      (gathered_all_of P c.users ys (All-map P copied xs (All-weaker P (λ (r : FileRec). P (copied r)) copy xs each)))

  of_pairs : (R : FileRec → FileRec → Type 0) → ((r q : FileRec) → R r q → R q r) → ((r q : FileRec) → R r q → R (copied r) (copied q)) → ((r q : FileRec) → R r q → R (unnumbered r) (unnumbered q))
      → ((r q : FileRec) → R (unnumbered r) (unnumbered q) → R r q) → AllPairs R xs → AllPairs R numbered
  of_pairs R turn copy to back each =
      same_pairs R to back numbered (gathered_by c.users ys) same_numbered
      (gathered_pairs R turn c.users ys (users_apart c.users dumpable.records.among_users)
      (pairs_mapped R copied xs (λ i j d less within. copy (get_or xs i d) (get_or xs j d) (each i j d less within))))

  -- what is so of the records of all dumps
  of_dumps : (P : FileRec → Type 0) → ((n : ℕ) (r : FileRec) → P r → P (with_number n r)) → ((e : Dump) → IsDump e → All P e.files) → All P numbered
  unfolding numbered
  of_dumps P to each = numbered_each P to 0 all.files (each_gathered P dumps (λ e in_dumps. each e (right.rules e in_dumps)) c.users all.files all.gathers)

  count : length numbered ≤ 1024
  count =
      let same = same_count numbered (gathered_by c.users ys) same_numbered in
      let few = gathered_few c.users ys (users_apart c.users dumpable.records.among_users) in
      let long = length-map xs copied in
      let most = dumpable.records.among_files.few in
      omega (arith, same, few, long, most)

  are_numbered : AreNumbered numbered
  unfolding numbered
  are_numbered = record {
    rising = λ i j d less within.
        let one = number_at 0 all.files i d (omega (arith, less, within)) in
        let two = number_at 0 all.files j d within in
        omega (arith, less, one, two);
    below = λ i d within. let one = number_at 0 all.files i d within in let most = count in omega (arith, within, one, most);
  }

  are_files : AreFiles (length c.users) numbered
  unfolding IsEmptyAlone
  are_files =
      let old_files = dumpable.records.among_files in record {
        few = count;
        owners = of_records (λ (r : FileRec). r.owner < length c.users) (λ r is. is) (λ r is. is) (λ r is. is) old_files.owners;
        trapped = of_records (λ (r : FileRec). All (λ (pair : ℕ × ℕ). pair.0 < length c.users) r.traps.others) (λ r is. is) (λ r is. is) (λ r is. is) old_files.trapped;
        names = of_pairs IsOtherName
            (λ r q other is. other (record { owner = sym is.owner; local = sym is.local; generation = sym is.generation; lang = sym is.lang }))
            (λ r q other is. other (record { owner = is.owner; local = is.local; generation = is.generation; lang = is.lang }))
            (λ r q other is. other (record { owner = is.owner; local = is.local; generation = is.generation; lang = is.lang }))
            (λ r q other is. other (record { owner = is.owner; local = is.local; generation = is.generation; lang = is.lang })) old_files.names;
        stamps = of_pairs OtherStamp (λ r q other e. other (sym e)) (λ r q other. other) (λ r q other. other) (λ r q other. other) old_files.stamps;
        dated = of_records (λ (r : FileRec). 1 ≤ r.stamp) (λ r is. is) (λ r is. is) (λ r is. is) old_files.dated;
        empty = of_dumps IsEmptyAlone (λ n r is. is) (λ e rules. rules.files.empty);
      }

  are_records : IsRecords c.users numbered
  are_records = record {
    each_user = dumpable.records.each_user;
    among_users = dumpable.records.among_users;
    each_file = of_dumps IsFile file_numbered (λ e rules. rules.each_file);
    numbers = are_numbered;
    among_files = are_files;
  }

  kept_numbered : All (λ (r : FileRec). KeepsRecord (text r.stamp) dumps r) numbered
  kept_numbered =
      same_all (λ (r : FileRec). KeepsRecord (text r.stamp) dumps r) (λ r keeps. record { len = keeps.len; copy = keeps.copy }) (λ r keeps. record { len = keeps.len; copy = keeps.copy })
      numbered (gathered_by c.users ys) same_numbered (gathered_all_of (λ (r : FileRec). KeepsRecord (text r.stamp) dumps r) c.users ys kept_ys)

  gathers_made : Gathers dumps plan.users all.files
  gathers_made = subst (λ (us : List UserRec). Gathers dumps us all.files) (sym planned.users) all.gathers

  tree : DumpedDirectory dumps
  unfolding numbered
  tree = record {
    last = made;
    greatest = record { there = there; greatest = low };
    gathered = all.files;
    gathers = gathers_made;
    rules = subst (λ (us : List UserRec). IsRecords us numbered) (sym planned.users) are_records;
    dated = subst (λ (n : ℕ). StampsBelow n numbered) (sym planned.next) (of_records (λ (r : FileRec). r.stamp < c.head.next_stamp) (λ r is. is) (λ r is. is) (λ r is. is) dumpable.dated);
  }

  -- THE RACK, were the dump completed
  apart : (d e : Dump) → Contains dumps d → Contains dumps e → d.number ≡ e.number → d ≡ e
  apart d e in_d in_e same = by_case (in_with made shelf reels d in_d) (in_with made shelf reels e in_e)
    where
      by_case : Contains old d ⊎ (made ≡ d) → Contains old e ⊎ (made ≡ e) → d ≡ e
      by_case (inl old_d) (inl old_e) = was.rack.apart d e old_d old_e same
      by_case (inl old_d) (inr is_e) = let less = above d old_d in let number = ap (λ (x : Dump). x.number) is_e in let no : ⊥ = omega (arith, less, number, same) in absurd no
      by_case (inr is_d) (inl old_e) = let less = above e old_e in let number = ap (λ (x : Dump). x.number) is_d in let no : ⊥ = omega (arith, less, number, same) in absurd no
      by_case (inr is_d) (inr is_e) = sym is_d ∙ is_e

  next_most : (e : Dump) → Contains dumps e → e.next ≤ c.head.next_stamp
  next_most e in_e = by_case (in_with made shelf reels e in_e)
    where
      by_case : Contains old e ⊎ (made ≡ e) → e.next ≤ c.head.next_stamp
      by_case (inl old_e) = was.disc.stamps e old_e
      by_case (inr is_e) = let next = planned.next in subst (λ (x : Dump). x.next ≤ c.head.next_stamp) is_e (omega (arith, next))

  rising : (d e : Dump) → Contains dumps d → Contains dumps e → d.number ≤ e.number → d.next ≤ e.next
  rising d e in_d in_e le = by_case (in_with made shelf reels d in_d) (in_with made shelf reels e in_e)
    where
      by_case : Contains old d ⊎ (made ≡ d) → Contains old e ⊎ (made ≡ e) → d.next ≤ e.next
      by_case (inl old_d) (inl old_e) = was.rack.rising d e old_d old_e le
      by_case (inl old_d) (inr is_e) = let most = was.disc.stamps d old_d in let next = planned.next in subst (λ (x : Dump). d.next ≤ x.next) is_e (omega (arith, most, next))
      by_case (inr is_d) (inl old_e) = let less = above e old_e in let number = ap (λ (x : Dump). x.number) is_d in let no : ⊥ = omega (arith, less, number, le) in absurd no
      by_case (inr is_d) (inr is_e) = let one = ap (λ (x : Dump). x.next) is_d in let two = ap (λ (x : Dump). x.next) is_e in omega (arith, one, two)

  same_tree : (t : DumpedDirectory dumps) → numbered ≡ files_in t
  unfolding numbered IsApart
  same_tree t =
      let last : t.last ≡ made = newest t.last t.greatest.there (t.greatest.greatest made there) in
      ap (numbered_from 0)
      (same_gathered dumps apart plan.users all.files t.gathered gathers_made (subst (λ (x : Dump). Gathers dumps x.users t.gathered) last t.gathers))

  rack : RackBelongs text dumps
  rack = record {
    apart = apart;
    rising = rising;
    tree = λ d in_dumps. tree;
    records = λ t. subst (All (λ (r : FileRec). KeepsRecord (text r.stamp) dumps r)) (same_tree t) kept_numbered;
  }

  -- THE DISC, and the intent
  abbrev intent : Intent
  intent = record { serial = plan.serial; place = plan.place; number = plan.number }

  place_is : plan.place ≡ end_of (filter (λ (d : Dump). nat_le d.number c.head.last_dump) (shelf plan.serial))
  place_is = planned.place ∙ ap end_of (sym (all_up_to c.head.last_dump (shelf plan.serial) (quiet_shelf text shelf s plan.serial on was)))

  placed_with : IsPlaced (with_dump made shelf) reels c.head.last_dump intent
  placed_with =
      let test : Dump → Bool = λ d. nat_le d.number c.head.last_dump in
      let number = planned.number in
      let none : filter test (made ∷ []) ≡ [] = cond-false (test made) (made ∷ []) [] (lt-leb plan.number c.head.last_dump (omega (arith, number))) in
      let shelf_is : with_dump made shelf plan.serial ≡ shelf plan.serial ++ made ∷ [] =
      cond-true (plan.serial == plan.serial) (shelf plan.serial ++ made ∷ []) (shelf plan.serial) (eq-eqb plan.serial plan.serial refl) in record {
        reel = on;
        number = planned.number;
        place = place_is
            ∙ ap end_of (sym (ap (filter test) shelf_is ∙ filter-append test (shelf plan.serial) (made ∷ []) ∙ ap (λ (ds : List Dump). filter test (shelf plan.serial) ++ ds) none ∙ append-nil (filter test (shelf plan.serial))));
      }

  disc : DiscBelongs text (with_dump made shelf) reels (with_intent (Some intent) c)
  disc = record {
    files = All-weaker (λ (f : File). KeepsFile (text f.rec.stamp) old f) (λ (f : File). KeepsFile (text f.rec.stamp) dumps f)
        (λ f keeps. record { rec = record { len = keeps.rec.len; copy = more_content old dumps old_in f.rec.tape (text f.rec.stamp) keeps.rec.copy }; bytes = keeps.bytes }) c.files was.disc.files;
    numbers = λ d in_d. by_case d (in_with made shelf reels d in_d);
    has_last = λ some. let (d, in_old, number) = was.disc.has_last some in (d, old_in d in_old, number);
    stamps = next_most;
    intent = placed_with;
  }
    where
      by_case : (d : Dump) → Contains old d ⊎ (made ≡ d) → (d.number ≤ c.head.last_dump) ⊎ IsIntended c.head.last_dump (Some intent) dumps d
      by_case d (inl in_old) = inl (was.quiet d in_old)
      by_case d (inr same) =
          inr (subst (IsIntended c.head.last_dump (Some intent) dumps) same (record { number = planned.number; named = refl; latest = λ e in_dumps on_reel. low e in_dumps }))

  opening : KeepsOpening (opened_with plan pins s).online dumps
  opening = record {
    each = λ u in_users isnt.
        let d = dir u in_users in
        record { source = d.source; directory = d.has; same = d.same ∙ ap (λ (rs : List FileRec). map unnumbered (files_of u.number rs)) (sym (copied_recs (pairs pins) c.files)) };
  }

  ready : IsReady text shelf reels (opened_with plan pins s).online made
  ready = record { rules = made_rules; rack = rack; disc = disc; opening = opening }

pub opening_stays : OpeningStaysUp
opening_stays text shelf s plan pins isnt told shelved on dumpable planned are texts was = record {
  rack = was.rack;
  disc = intents_belong.intended text shelf (told_reels s.rack) s.online.contents (record { serial = plan.serial; place = plan.place; number = plan.number }) was.quiet
      (record {
        reel = on;
        number = planned.number;
        place = planned.place ∙ ap end_of (sym (all_up_to s.online.contents.head.last_dump (shelf plan.serial) (quiet_shelf text shelf s plan.serial on was)));
      }) was.disc;
  quiet = was.quiet;
  directories = record { each = was.directories.each; none = was.directories.none };
  open_dump = λ ps pinned content is.
      let same : pins ≡ ps = same_Some pins ps pinned in
      ready text shelf s plan pins content told shelved on dumpable planned are texts (ap content_in same ∙ is) was;
}
