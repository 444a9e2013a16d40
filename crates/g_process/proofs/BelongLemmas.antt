-- Disc and rack still belong together, for any outcome of PROCESS.
-- serves: ExitLemmas, LossLemmas, crates above
use Rattle.std.proofs.Common.{◌≡◌, ℕ, zero, suc, ◌+◌, ◌<◌, ◌≤◌, ◌==◌, Bool, true, false, List, [], ◌∷◌, ◌++◌, get_or, length, map, Option, Some, None, refl, sym, ◌∙◌, ap, arith, subst, inl, inr}
use Rattle.std.specs.Prelude.{◌⊎◌, ◌||◌, All, Contains, IfSome, filter, is_some, nat_le}
use Rattle.std.specs.Option.{ForSome}
use Rattle.std.proofs.lemmas.Bool.{cases_Bool, cond-false, cond-true, eq-eqb, eqb-true, ne_eqb}
use Rattle.std.proofs.lemmas.List.Elements.{All-contains, All-head, All-map, All-tail, Contains-append_right, Contains-get_or}
use Rattle.std.proofs.lemmas.List.Kept.{AllPairs-from_increasing}
use Rattle.g_base.specs.Block.{IsBlock}
use Rattle.g_entry.specs.declared.file_rec.FileRec.{FileRec}
use Rattle.g_entry.specs.declared.file_rec.TapeCopy.{TapeCopy}
use Rattle.g_entry.specs.declared.user_rec.UserRec.{UserRec}
use Rattle.g_tape.specs.Rack.{Rack, reel}
use Rattle.g_tape.specs.Reads.{blocks_in, unread}
use Rattle.g_tape.specs.Reel.{Reel}
use Rattle.g_disc_contents.specs.Contents.{Contents, File, copied_rec, copy_of, has, recs_in, with_copies, with_copy, with_intent}
use Rattle.g_disc_contents.specs.Facts.{IsTied, OnlineFacts, Pin, noted}
use Rattle.g_incr.specs.Layout.{Dump, holds}
use Rattle.g_incr.specs.Plan.{IsPlan, Plan, blocks_of, content_blocks, dump_of, first_content, needs, noted_files, numbered_from, waiting, with_number as numbered}
use Rattle.g_incr.proofs.PlanLemmas.{length-made}
use Rattle.g_shelf.specs.CompletedDumps.{AreCompleted, AreShelved, all_dumps, end_of}
use Rattle.g_store_meaning.specs.Belonging.{DiscBelongs, IsPlaced, KeepsFile, KeepsRecord}
use Rattle.g_store_meaning.specs.Laws.{HasContent, closed}
use Rattle.g_store_meaning.specs.Meaning.{IsContent, told_reels}
use Rattle.g_store_meaning.specs.Reading.{AllTold}
use Rattle.g_store_meaning.specs.StoreInvariant.{ArePinned, IsOpen, IsReady, IsUp, StoreFacts, content_in, with_dump}
use Rattle.g_store_meaning.proofs.ChangeLemmas.{intents_belong}
use Rattle.g_laws_store.specs.Dumping.{AreDumpable, IsPlanOf, closed_with, opened_with}
use Rattle.g_laws_store.proofs.ClosingLemmas.{closing_stays}
use Rattle.g_laws_store.proofs.DumpingLemmas.{events_stay_up}
use Rattle.g_laws_store.proofs.OpeningLemmas.{opening_stays}
use Rattle.g_laws_store.proofs.PinLemmas.{noted_copied, pins_content}
use Rattle.g_laws_store.proofs.UpOneLemmas.{reel_named as reel_by_name}
use Rattle.g_laws_store.specs.Releasing.{HasAll, without_reel}
use Rattle.g_laws_store.proofs.ReleaseLemmas.{releases_stay}
use Rattle.g_laws_store.specs.ForgottenCopies.{bare, bare_file, bare_rec, every_user, forgotten}
use Rattle.g_laws_store.proofs.ForgetLemmas.{forgetting_stays}
use Rattle.g_dumper.specs.Invariant.{up_with}
use Rattle.g_dumper.proofs.BeginLemmas.{reel_named}
use Rattle.g_dumper.proofs.HeldLemmas.{held_of_one, holds_there}
use Rattle.g_dumper.proofs.IntentLemmas.{rules_here}
use Rattle.g_dumper.proofs.KeepLemmas.{without_dump}
use Rattle.g_dumper.proofs.ShelfLemmas.{reel_there, told_is}
use Rattle.g_laws_store.proofs.WaitingLemmas.{mapped_there}
use Rattle.g_process.specs.Exits.{AreParts}
use Rattle.g_process.specs.ProcessPlan.{IsFree, living, process_plan, versions}
use Rattle.g_process.specs.NamedCopies.{intended_by, moved_by, process_copies, process_intent}
use Rattle.g_process.proofs.BecomeLemmas.{Becomes, all_cons, labels, same_serials}
use Rattle.g_process.proofs.PinsLemmas.{are_pinned, content_pins, copy_same, noted_pins, pins_of, pins_texts}
use Rattle.g_process.proofs.PlanLemmas.{all_versions, living_there, plan_content, plan_files, plan_waiting, users_rise}
use Rattle.g_process.proofs.JobLemmas.{of_file}

-- a shelf without the dumps of these reels
abbrev pub without_all : List ℕ → (ℕ → List Dump) → ℕ → List Dump
without_all [] shelf = shelf
without_all (n ∷ ns) shelf = without_reel n (without_all ns shelf)

-- THE DUMPS OF A RACK, by what became of each reel
pub shelved_by : (F : Reel → Reel) (old new : Rack) (shelf next : ℕ → List Dump) → Becomes F old new → AreShelved shelf (told_reels old)
    → ((r : Reel) → Contains old.reels r → ForSome r.blocks (λ bs. AreCompleted r.serial bs (shelf r.serial)) → ForSome (F (unread r)).blocks (λ bs. AreCompleted (F (unread r)).serial bs (next (F (unread r)).serial)))
    → AreShelved next (told_reels new)
shelved_by F old new shelf next is shelved make = record {
  each = λ q there. in_reels old.reels (λ r in_old. make r in_old (shelved.each (unread r) (mapped_there unread old.reels r in_old))) q (subst (λ (rs : List Reel). Contains rs q) is.all there);
}
  where
    in_reels : (rs : List Reel) → ((r : Reel) → Contains rs r → ForSome (F (unread r)).blocks (λ bs. AreCompleted (F (unread r)).serial bs (next (F (unread r)).serial))) → (q : Reel)
        → Contains (map (λ (r : Reel). F (unread r)) rs) q → ForSome q.blocks (λ bs. AreCompleted q.serial bs (next q.serial))
    in_reels [] one q (i, inside, at) = absurd (let no : ⊥ = omega (arith, inside) in no)
    in_reels (x ∷ xs) one q (zero, inside, at) = subst (λ (y : Reel). ForSome y.blocks (λ bs. AreCompleted y.serial bs (next y.serial))) at (one x (0, omega arith, refl))
    in_reels (x ∷ xs) one q (suc i, inside, at) = in_reels xs (λ r there. one r (later r there)) q (i, omega (arith, inside), at)
      where
        later : (r : Reel) → Contains xs r → Contains (x ∷ xs) r
        later r (j, within, same) = (suc j, omega (arith, within), same)

-- the store before, on devices that expose their contents and belong together
module _ (serial : ℕ) (o : OnlineFacts) (old : Rack) (live : o.live ≡ true) (tied : IsTied o) (rules : IsPlan (process_plan serial o)) (on : Reel) (on_is : reel serial old.reels ≡ Some on) (free : IsFree serial old)
    (told : AllTold o.disc.held (told_reels old)) (text : ℕ → List ℕ) (shelf : ℕ → List Dump) (shelved : AreShelved shelf (told_reels old)) (up : IsUp text shelf (up_with o old None)) where
  abbrev c : Contents
  c = o.contents

  abbrev plan : Plan
  plan = process_plan serial o

  pub on_there : Contains (told_reels old) (unread on)
  on_there = reel_there serial old.reels on on_is

  pub on_named : on.serial ≡ serial
  on_named = reel_named serial old.reels on on_is

  -- the reel is empty of dumps
  pub none_on : shelf serial ≡ []
  none_on =
      let (blocks, at) = told_is on.blocks (All-contains (λ (r : Reel). is_some r.blocks ≡ true) (told_reels old) (unread on) told.each.each on_there) in
      free.none blocks (ap blocks_in on_is ∙ at) (shelf serial) (subst (λ (n : ℕ). AreCompleted n blocks (shelf n)) on_named (shelved.each (unread on) on_there blocks at))

  pub serial_there : Contains (map (λ (r : Reel). r.serial) (told_reels old)) serial
  serial_there = subst (Contains (map (λ (r : Reel). r.serial) (told_reels old))) on_named (mapped_there (λ (x : Reel). x.serial) (told_reels old) (unread on) on_there)

  unread_serials : (rs : List Reel) → map (λ (r : Reel). r.serial) (map unread rs) ≡ map (λ (r : Reel). r.serial) rs
  unread_serials [] = refl
  unread_serials (r ∷ rs) = ap (λ (ns : List ℕ). r.serial ∷ ns) (unread_serials rs)

  -- ON ANOTHER RACK of the same reels
  module _ (x : Rack) (same : labels x.reels ≡ labels old.reels) where
    names : map (λ (r : Reel). r.serial) x.reels ≡ map (λ (r : Reel). r.serial) old.reels
    names = same_serials old.reels x.reels same

    pub up_at : IsUp text shelf (up_with o x None)
    up_at = events_stay_up.reels text shelf (up_with o old None) x names up

    there_at : Contains (map (λ (r : Reel). r.serial) (told_reels x)) serial
    there_at = subst (λ (ns : List ℕ). Contains ns serial) (unread_serials old.reels ∙ sym names ∙ sym (unread_serials x.reels)) serial_there

    placed : IsPlaced shelf (told_reels x) c.head.last_dump (process_intent serial o)
    placed = record {
      reel = there_at;
      number = refl;
      place = ap (λ (ds : List Dump). end_of (filter (λ d. nat_le d.number c.head.last_dump) ds)) (sym none_on);
    }

    -- with the intent on the disc
    pub disc_intended : DiscBelongs text shelf (told_reels x) (intended_by serial o)
    disc_intended = intents_belong.intended text shelf (told_reels x) c (process_intent serial o) up_at.quiet placed up_at.disc

    pub up_intended : (o' : OnlineFacts) → o'.contents ≡ intended_by serial o → o'.changed ≡ o.changed → IsUp text shelf (up_with o' x None)
    up_intended o' contents changed_is = without_dump text shelf x (record o { contents = intended_by serial o }) o' contents changed_is (record {
      rack = up_at.rack;
      disc = disc_intended;
      quiet = up_at.quiet;
      directories = record { each = up_at.directories.each; none = up_at.directories.none };
      open_dump = tt;
    })

  -- WITH THE DUMP of this content
  module _ (content : List (List ℕ)) (long : length content ≡ content_blocks plan) (blocks : All IsBlock content) (lens : All (λ (r : FileRec). length (text r.stamp) ≡ r.len) (versions c))
      (parts : AreParts text (versions c) content) where
    abbrev pub pins : List Pin
    pins = pins_of serial (first_content plan) (versions c) content

    abbrev pub made : Dump
    made = dump_of (process_plan serial o) content

    pub size : length content ≡ blocks_of (versions c)
    size = long ∙ plan_content serial o

    pub pinned : ArePinned serial (first_content plan) (waiting plan.files) pins
    pinned = subst (λ (rs : List FileRec). ArePinned serial (first_content plan) rs pins) (sym (plan_waiting serial o)) (are_pinned serial (first_content plan) (versions c) content size)

    pub dumpable : AreDumpable (every_user c) (bare c)
    dumpable =
        let kept = rules_here o live tied in
        forgetting_stays.dumpable o.changed c (record { records = kept.records; dated = kept.dated; waits = tied.waits live })

    pub planned : IsPlanOf shelf (every_user c) (bare c) plan
    planned = record {
      rules = rules;
      number = refl;
      place = ap end_of (sym none_on);
      next = refl;
      users = refl;
      held = refl;
      files = λ n held.
          let kept = rules_here o live tied in
          held_of_one n (every_user c) (recs_in (bare c)) (AllPairs-from_increasing (every_user c) (users_rise c.users kept.records.among_users)) held;
    }

    abbrev pub opened : StoreFacts
    opened = opened_with plan pins (forgotten (up_with o old None))

    pub stays : IsUp text shelf opened
    stays = opening_stays text shelf (forgotten (up_with o old None)) plan pins refl told.each shelved serial_there dumpable planned pinned
        (pins_texts text serial (first_content plan) (versions c) content size blocks lens parts)
        (forgetting_stays.up text shelf (up_with o old None) refl up)

    pub copy_moved : (g : File) → Contains c.files g → copy_of (noted (Some pins)) g.rec.stamp None ≡ copy_of (process_copies serial o) g.rec.stamp g.rec.tape
    copy_moved g there =
        ap (λ (cs : List (ℕ × TapeCopy)). copy_of cs g.rec.stamp None) (noted_pins serial (first_content plan) (versions c) content) ∙ by_len (len_cases g.rec.len)
      where
        by_len : (g.rec.len ≡ 0) ⊎ (0 < g.rec.len) → copy_of (process_copies serial o) g.rec.stamp None ≡ copy_of (process_copies serial o) g.rec.stamp g.rec.tape
        by_len (inl empty) =
            let kept = rules_here o live tied in
            let none : g.rec.tape ≡ None = All-contains (λ (r : FileRec). r.len ≡ 0 → r.tape ≡ None) (recs_in c) g.rec kept.records.among_files.empty (mapped_there (λ (x : File). x.rec) c.files g there) empty in
            ap (copy_of (process_copies serial o) g.rec.stamp) (sym none)
        by_len (inr some) =
            let kept = rules_here o live tied in
            copy_same serial (first_content plan) (versions c) g.rec None g.rec.tape (all_versions c g.rec kept.records (mapped_there (λ (x : File). x.rec) c.files g there) some)

        len_cases : (n : ℕ) → (n ≡ 0) ⊎ (0 < n)
        len_cases zero = inl refl
        len_cases (suc n) = inr (omega arith)

    -- the new copies
    copied : (fs : List File) → ((f : File) → Contains fs f → Contains c.files f) → with_copies (noted (Some pins)) (map bare_file fs) ≡ with_copies (process_copies serial o) fs
    copied [] among = refl
    copied (f ∷ fs) among =
        ap (λ (g : File). g ∷ with_copies (noted (Some pins)) (map bare_file fs)) (one_copied f (among f (0, omega arith, refl)))
        ∙ ap (λ (gs : List File). with_copy (process_copies serial o) f ∷ gs) (copied fs (λ g there. among g (later g there)))
      where
        later : (g : File) → Contains fs g → Contains (f ∷ fs) g
        later g (i, inside, is) = (suc i, omega (arith, inside), is)

        one_copied : (g : File) → Contains c.files g → with_copy (noted (Some pins)) (bare_file g) ≡ with_copy (process_copies serial o) g
        one_copied g there =
            ap (λ (t : Option TapeCopy). let y : File = record g { rec = record g.rec { tape = t } } in y) (copy_moved g there)

    contents_moved : closed plan.number (noted (Some pins)) (with_intent (Some (process_intent serial o)) (bare c)) ≡ moved_by serial o
    contents_moved =
        ap (λ (fs : List File). let y : Contents = record c { head = record c.head { last_dump = c.head.last_dump + 1; intent = None }; files = fs } in y) (copied c.files (λ f there. there))

    -- it may be marked, and closed
    module _ (x : Rack) (same : labels x.reels ≡ labels old.reels) (room : needs plan ≤ on.capacity) (up_mounted : on.mounted ≡ true) where
      opened_at : IsUp text shelf (record opened { rack = x })
      opened_at = events_stay_up.reels text shelf opened x (same_serials old.reels x.reels same) stays

      pub the_content : content_in pins ≡ Some content
      the_content = content_pins serial (first_content plan) (versions c) content size

      pub ready : IsReady text shelf (told_reels x) opened.online made
      ready = opened_at.open_dump pins refl content the_content

      pub disc_marked : DiscBelongs text (with_dump made shelf) (told_reels x) (intended_by serial o)
      disc_marked = forgetting_stays.marked text shelf (told_reels x) made c (process_intent serial o) (up_at x same).disc ready.disc

      is_open : IsOpen (record { plan = plan; done = 0 }) opened.online old
      is_open = record {
        intent = refl;
        number = refl;
        pins = pins;
        pinned = refl;
        are = pinned;
        on = on;
        reel_is = on_is;
        mounted = up_mounted;
        from = omega arith;
        length_is = λ some. absurd (let no : ⊥ = omega (arith, some) in no);
        room = omega (arith, room);
        within = omega arith;
        written = λ some. absurd (let no : ⊥ = omega (arith, some) in no);
      }

      pub up_moved : (o' : OnlineFacts) → o'.contents ≡ moved_by serial o → o'.changed ≡ [] → IsUp text (with_dump made shelf) (up_with o' x None)
      unfolding is_open
      up_moved o' contents changed_is =
          let shut = closing_stays text shelf opened (record { plan = plan; done = 0 }) content [] refl is_open the_content stays in
          let moved = events_stay_up.reels text (with_dump made shelf) (closed_with (record { plan = plan; done = 0 }) [] opened) x (same_serials old.reels x.reels same) shut in
          without_dump text (with_dump made shelf) x (closed_with (record { plan = plan; done = 0 }) [] opened).online o' (contents ∙ sym contents_moved) changed_is moved

      -- ALL VERSIONS are in the dump, so the others may be deleted
      lens_waiting : All (λ (r : FileRec). length (text r.stamp) ≡ r.len) (waiting plan.files)
      lens_waiting = subst (All (λ (r : FileRec). length (text r.stamp) ≡ r.len)) (sym (plan_waiting serial o)) (All-map (λ (r : FileRec). length (text r.stamp) ≡ r.len) bare_rec (versions c) lens)

      all_content : All (HasContent text (made ∷ [])) (noted (Some pins))
      all_content =
          let files = length-made serial 0 (first_content plan) plan.files in
          pins_content text (made ∷ []) made serial (first_content plan) (waiting plan.files) pins [] content (0, omega arith, refl) refl (omega (arith, files)) refl pinned the_content
          (pins_texts text serial (first_content plan) (versions c) content size blocks lens parts) lens_waiting

      found_copy : (cs : List (ℕ × TapeCopy)) → All (HasContent text (made ∷ [])) cs → (stamp : ℕ) (old' : Option TapeCopy) → IfSome old' (λ k. IsContent (made ∷ []) k (text stamp))
          → IfSome (copy_of cs stamp old') (λ k. IsContent (made ∷ []) k (text stamp))
      found_copy [] all stamp old' was = was
      found_copy (k ∷ ks) all stamp old' was = by_stamp (cases_Bool (k.0 == stamp)) (found_copy ks (All-tail (HasContent text (made ∷ [])) k ks all) stamp old' was)
        where
          by_stamp : ((k.0 == stamp) ≡ true) ⊎ ((k.0 == stamp) ≡ false) → IfSome (copy_of ks stamp old') (λ k. IsContent (made ∷ []) k (text stamp)) → IfSome (copy_of (k ∷ ks) stamp old') (λ k. IsContent (made ∷ []) k (text stamp))
          by_stamp (inl is) rest =
              subst (λ (x : Option TapeCopy). IfSome x (λ j. IsContent (made ∷ []) j (text stamp))) (sym (cond-true (k.0 == stamp) (Some k.1) (copy_of ks stamp old') is))
              (subst (λ (n : ℕ). IsContent (made ∷ []) k.1 (text n)) (eqb-true k.0 stamp is) (All-head (HasContent text (made ∷ [])) k ks all))
          by_stamp (inr isnt) rest = subst (λ (x : Option TapeCopy). IfSome x (λ j. IsContent (made ∷ []) j (text stamp))) (sym (cond-false (k.0 == stamp) (Some k.1) (copy_of ks stamp old') isnt)) rest

      -- its records
      noted_are : noted_files serial (first_content plan) plan.files ≡ map (copied_rec (noted (Some pins))) plan.files
      noted_are = noted_copied serial (first_content plan) plan.files pins pinned rules.files.stamps

      keeps_bare : (rs : List FileRec) → All (λ (r : FileRec). length (text r.stamp) ≡ r.len) rs → (n : ℕ)
          → All (λ (r : FileRec). KeepsRecord (text r.stamp) (made ∷ []) r) (numbered_from n (map (copied_rec (noted (Some pins))) (map bare_rec rs)))
      keeps_bare [] all n = λ k d inside. absurd (let no : ⊥ = omega (arith, inside) in no)
      keeps_bare (r ∷ rs) all n =
          all_cons (λ (q : FileRec). KeepsRecord (text q.stamp) (made ∷ []) q) (numbered n (copied_rec (noted (Some pins)) (bare_rec r))) (numbered_from (n + 1) (map (copied_rec (noted (Some pins))) (map bare_rec rs)))
          (record { len = all 0 r (omega arith); copy = found_copy (noted (Some pins)) all_content r.stamp None tt })
          (keeps_bare rs (λ k d inside. all (suc k) d (omega (arith, inside))) (n + 1))

      lens_living : All (λ (r : FileRec). length (text r.stamp) ≡ r.len) (living c)
      lens_living k d inside =
          let r = get_or (living c) k d in
          let (f, there, same) = of_file o r (living_there c r (Contains-get_or (living c) k d inside)) in
          let kept = All-contains (λ (g : File). KeepsFile (text g.rec.stamp) (all_dumps shelf (told_reels old)) g) c.files f up.disc.files there in
          subst (λ (q : FileRec). length (text q.stamp) ≡ q.len) same kept.rec.len

      made_records : All (λ (r : FileRec). KeepsRecord (text r.stamp) (made ∷ []) r) made.files
      made_records =
          subst (λ (rs : List FileRec). All (λ (r : FileRec). KeepsRecord (text r.stamp) (made ∷ []) r) (numbered_from 0 rs))
          (sym (noted_are ∙ ap (map (copied_rec (noted (Some pins)))) (plan_files serial o))) (keeps_bare (living c) lens_living 0)

      -- and those of the disc
      moved_files : All (λ f. KeepsFile (text f.rec.stamp) (made ∷ []) f) (with_copies (process_copies serial o) c.files)
      moved_files = All-map (λ (f : File). KeepsFile (text f.rec.stamp) (made ∷ []) f) (with_copy (process_copies serial o)) c.files (λ k d inside.
          let f = get_or c.files k d in
          let there = Contains-get_or c.files k d inside in
          let kept = All-contains (λ (g : File). KeepsFile (text g.rec.stamp) (all_dumps shelf (told_reels old)) g) c.files f up.disc.files there in
          record {
            rec = record {
              len = kept.rec.len;
              copy = subst (λ (t : Option TapeCopy). IfSome t (λ j. IsContent (made ∷ []) j (text f.rec.stamp))) (copy_moved f there)
                  (found_copy (noted (Some pins)) all_content f.rec.stamp None tt);
            };
            bytes = kept.bytes;
          })

      abbrev o_moved : OnlineFacts
      o_moved = record o { contents = moved_by serial o; changed = [] }

      abbrev s_moved : StoreFacts
      s_moved = up_with o_moved x None

      users_held : All (λ (u : UserRec). holds (every_user c) u.number ≡ true) c.users
      users_held k d inside = holds_there (every_user c) (get_or c.users k d).number (mapped_there (λ (x : UserRec). x.number) c.users (get_or c.users k d) (Contains-get_or c.users k d inside))

      has_all : (sh : ℕ → List Dump) → Contains (sh serial) made → (a : HasAll text sh s_moved made) × (a.reel.serial ≡ serial)
      has_all sh there =
          let (r, among_reels, named) = reel_by_name serial (told_reels x) (there_at x same) in (
            record {
              reel = r;
              among = among_reels;
              on = subst (λ (n : ℕ). Contains (sh n) made) (sym named) there;
              last = refl;
              users = refl;
              held = users_held;
              records = made_records;
              files = moved_files;
            },
            named,
          )

      -- the shelf without those that are released
      pub shelf_has : (ns : List ℕ) → (has ns serial ≡ true → ⊥) → Contains (without_all ns (with_dump made shelf) serial) made
      shelf_has [] never =
          subst (λ (ds : List Dump). Contains ds made) (sym (cond-true (serial == serial) (shelf serial ++ made ∷ []) (shelf serial) (eq-eqb serial serial refl)))
          (Contains-append_right (shelf serial) (made ∷ []) made (0, omega arith, refl))
      shelf_has (n ∷ ns) never =
          subst (λ (ds : List Dump). Contains ds made)
          (sym (cond-false (serial == n) [] (without_all ns (with_dump made shelf) serial) (ne_eqb serial n (λ e. never (ap (λ (b : Bool). b || has ns serial) (eq-eqb n serial (sym e)))))))
          (shelf_has ns (λ is. never (or_later (n == serial) (has ns serial) is)))
        where
          or_later : (a b : Bool) → b ≡ true → (a || b) ≡ true
          or_later true b is = refl
          or_later false b is = is

      pub up_released : (ns : List ℕ) → (has ns serial ≡ true → ⊥) → IsUp text (without_all ns (with_dump made shelf)) s_moved
      up_released [] never = up_moved o_moved refl refl
      up_released (n ∷ ns) never =
          let rest = up_released ns (λ is. never (or_later (n == serial) (has ns serial) is)) in
          let all = has_all (without_all ns (with_dump made shelf)) (shelf_has ns (λ is. never (or_later (n == serial) (has ns serial) is))) in
          releases_stay.up text (without_all ns (with_dump made shelf)) s_moved made n all.0 (λ e. never (ap (λ (b : Bool). b || has ns serial) (eq-eqb n serial (sym e ∙ all.1)))) refl refl rest
        where
          or_later : (a b : Bool) → b ≡ true → (a || b) ≡ true
          or_later true b is = refl
          or_later false b is = is
