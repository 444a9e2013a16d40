-- A store that is up and exposes its contents represents at most one state, including an open dump.
-- serves: lib, one_state, ClosingLemmas, MoveLemmas, OpenedLemmas, OpeningLemmas, PartLemmas, ReleaseLemmas, StateLemmas, crates above
use Rattle.std.proofs.Common.{◌≡◌, ℕ, zero, suc, ◌+◌, ◌≤◌, true, false, List, [], ◌∷◌, ◌++◌, get_or, Option, Some, None, refl, sym, ◌∙◌, ap, arith, subst, inl, inr}
use Rattle.std.specs.Prelude.{◌⊎◌, Bool, ◌==◌, All, Contains, IfSome, map, is_some, if◌then◌else◌}
use Rattle.std.specs.Option.{ForSome, option_map}
use Rattle.std.specs.Ordering.{nat_cmp}
use Rattle.std.specs.FinMap.{FinMap}
use Rattle.std.proofs.lemmas.Bool.{cases_Bool, cond-false, cond-true, false≢true}
use Rattle.std.proofs.lemmas.List.Elements.{Contains-append_left, Contains-append_right, Contains-get_or, Contains-push_cases}
use Rattle.std.proofs.lemmas.Option.{none-some, same_Some}
use Rattle.g_entry.specs.declared.file_rec.TapeCopy.{TapeCopy}
use Rattle.g_entry.specs.declared.head.Intent.{Intent}
use Rattle.g_entry.specs.declared.user_rec.UserRec.{UserRec}
use Rattle.g_tape.specs.Reel.{Reel}
use Rattle.g_tape.specs.Rack.{Rack}
use Rattle.g_plain.specs.PlainTree.{Tree}
use Rattle.g_disc_contents.specs.Contents.{Contents, Holds, contents_of, recs_in}
use Rattle.g_disc_contents.specs.Facts.{IsTied, OnlineFacts, Pin}
use Rattle.g_incr.specs.Layout.{Dump, IsDump, ends}
use Rattle.g_incr.specs.Plan.{dump_of, needs}
use Rattle.g_shelf.specs.CompletedDumps.{AreNext, AreShelved, all_dumps, end_behind, end_of}
use Rattle.g_shelf.proofs.QuietLemmas.{end_behind-le}
use Rattle.g_store_model.specs.State as state
use Rattle.g_store_meaning.specs.Answers.{Belongs, IsStore, Told}
use Rattle.g_store_meaning.specs.Belonging.{DiscBelongs, IsPlaced}
use Rattle.g_store_meaning.specs.Meaning.{DumpedDirectory, told_reels}
use Rattle.g_laws_store.specs.States.{StoreIsOne}
use Rattle.g_store_meaning.specs.Reading.{AllTold, HasText, OpensTo, Opened, ReelsTold, View, dumped_of, holding_of, names_of, open_of, open_tree, own_of, own_opened, places_of, row_of, users_in, users_not_in, waiting_of}
use Rattle.g_store_meaning.specs.StoreInvariant.{DumpFacts, IsOpen, IsReady, StoreFacts, content_in, with_dump}
use Rattle.g_store_meaning.proofs.DirectoryLemmas.{all_up_to}
use Rattle.g_store_meaning.proofs.OneLemmas.{Agree, Apart, AreRight, IsApart, KeepsIn, NoneIn, are_right, devices_are_one, is_shelved, on_reel, on_told, over_dumps, reel_told, same_dumps, same_rows, same_tree, shelves_agree, texts_on}
use Rattle.g_store_meaning.proofs.ViewLemmas.{Stands, to}

-- THE OPEN DUMP among the dumps of its reel
pub on_all : (shelf : ℕ → List Dump) (reels : List Reel) (r : Reel) (d : Dump) → Contains reels r → Contains (shelf r.serial) d → Contains (all_dumps shelf reels) d
on_all shelf [] r d (i, within, is) on = let no : ⊥ = omega (arith, within) in absurd no
on_all shelf (q ∷ qs) r d (zero, within, is) on =
    Contains-append_left (shelf q.serial) (all_dumps shelf qs) d (subst (λ (x : Reel). Contains (shelf x.serial) d) (sym is) on)
on_all shelf (q ∷ qs) r d (suc i, within, is) on = Contains-append_right (shelf q.serial) (all_dumps shelf qs) d (on_all shelf qs r d (i, omega (arith, within), is) on)

pub reel_named : (serial : ℕ) (reels : List Reel) → Contains (map (λ r. r.serial) reels) serial → (r : Reel) × Contains reels r × (r.serial ≡ serial)
reel_named serial [] (i, within, is) = let no : ⊥ = omega (arith, within) in absurd no
reel_named serial (q ∷ qs) (zero, within, is) = (q, (0, omega arith, refl), is)
reel_named serial (q ∷ qs) (suc i, within, is) =
    let (r, there, same) = reel_named serial qs (i, omega (arith, within), is) in (r, Contains-append_right (q ∷ []) qs r there, same)

-- a dump that is added is one of all
pub in_with : (d : Dump) (shelf : ℕ → List Dump) (reels : List Reel) (e : Dump) → Contains (all_dumps (with_dump d shelf) reels) e → Contains (all_dumps shelf reels) e ⊎ (d ≡ e)
in_with d shelf reels e there = let is = on_reel (with_dump d shelf) reels e there in by_reel is.reel is.there is.on
  where
    by_last : (r : Reel) → Contains reels r → Contains (shelf r.serial) e ⊎ (d ≡ e) → Contains (all_dumps shelf reels) e ⊎ (d ≡ e)
    by_last r here (inl on) = inl (on_all shelf reels r e here on)
    by_last r here (inr same) = inr same

    by_serial : (r : Reel) → Contains reels r → ((r.serial == d.serial) ≡ true) ⊎ ((r.serial == d.serial) ≡ false) → Contains (with_dump d shelf r.serial) e
        → Contains (all_dumps shelf reels) e ⊎ (d ≡ e)
    by_serial r here (inl is) on =
        by_last r here (Contains-push_cases (shelf r.serial) d e
        (subst (λ (ds : List Dump). Contains ds e) (cond-true (r.serial == d.serial) (shelf r.serial ++ d ∷ []) (shelf r.serial) is) on))
    by_serial r here (inr isnt) on =
        inl (on_all shelf reels r e here (subst (λ (ds : List Dump). Contains ds e) (cond-false (r.serial == d.serial) (shelf r.serial ++ d ∷ []) (shelf r.serial) isnt) on))

    by_reel : (r : Reel) → Contains reels r → Contains (with_dump d shelf r.serial) e → Contains (all_dumps shelf reels) e ⊎ (d ≡ e)
    by_reel r here on = by_serial r here (cases_Bool (r.serial == d.serial)) on

ends_within : (serial : ℕ) (reel : List (List ℕ)) (at from : ℕ) (ds : List Dump) → AreNext serial reel at from ds → (d : Dump) → Contains ds d → ends d ≤ end_behind at ds
ends_within serial reel at from [] are d (i, within, is) = let no : ⊥ = omega (arith, within) in absurd no
ends_within serial reel at from (e ∷ es) are d (zero, within, is) = subst (λ (x : Dump). ends x ≤ end_behind (ends e) es) is (end_behind-le serial reel (ends e) (e.number + 1) es are.1)
ends_within serial reel at from (e ∷ es) are d (suc i, within, is) = ends_within serial reel (ends e) (e.number + 1) es are.1 d (i, omega (arith, within), is)

module _ (shelf : ℕ → List Dump) (reels : List Reel) (told : ReelsTold reels) (shelved : AreShelved shelf reels) where
  -- a completed dump ends at the end of its reel's dumps, or before
  pub ends_before : (d : Dump) (serial : ℕ) → Contains (all_dumps shelf reels) d → d.serial ≡ serial → ends d ≤ end_of (shelf serial)
  ends_before d serial there same =
      let on = on_reel shelf reels d there in
      let is = (is_shelved shelf reels told shelved d on.reel on.there on.on).0 in
      on_told on.reel.serial on.reel.blocks (shelf on.reel.serial) (reel_told shelf reels told shelved on.reel on.there) (shelved.each on.reel on.there)
      (λ reel are.
      subst (λ (n : ℕ). ends d ≤ end_of (shelf n)) (sym is ∙ same) (ends_within on.reel.serial reel 0 0 (shelf on.reel.serial) are.are d on.on))

  -- after a dump is appended to those of its reel, all are still right
  pub right_with : (d : Dump) → IsDump d → d.place ≡ end_of (shelf d.serial) → AreRight (all_dumps (with_dump d shelf) reels)
  unfolding Apart
  right_with d is place = record {
    rules = λ e there. rule_of e (in_with d shelf reels e there);
    two = λ e f in_e in_f same. both e f (in_with d shelf reels e in_e) (in_with d shelf reels f in_f) same;
  }
    where
      old : AreRight (all_dumps shelf reels)
      old = are_right shelf reels told shelved

      rule_of : (e : Dump) → Contains (all_dumps shelf reels) e ⊎ (d ≡ e) → IsDump e
      rule_of e (inl there) = old.rules e there
      rule_of e (inr same) = subst IsDump same is

      before : (e : Dump) → Contains (all_dumps shelf reels) e → e.serial ≡ d.serial → ends e ≤ d.place
      before e there same = let le = ends_before e d.serial there same in omega (arith, le, place)

      both : (e f : Dump) → Contains (all_dumps shelf reels) e ⊎ (d ≡ e) → Contains (all_dumps shelf reels) f ⊎ (d ≡ f) → e.serial ≡ f.serial → Apart e f
      both e f (inl in_e) (inl in_f) same = old.two e f in_e in_f same
      both e f (inl in_e) (inr is_f) same = inr (inl (subst (λ (x : Dump). ends e ≤ x.place) is_f (before e in_e (same ∙ ap (λ (x : Dump). x.serial) (sym is_f)))))
      both e f (inr is_e) (inl in_f) same = inr (inr (subst (λ (x : Dump). ends f ≤ x.place) is_e (before f in_f (sym same ∙ ap (λ (x : Dump). x.serial) (sym is_e)))))
      both e f (inr is_e) (inr is_f) same = inl (sym is_e ∙ is_f)

-- the intent's place is the end of its reel's dumps, if none is newer than the last one
pub placed_at_end : (text : ℕ → List ℕ) (shelf : ℕ → List Dump) (reels : List Reel) (c : Contents) (i : Intent) → DiscBelongs text shelf reels c
    → ((d : Dump) → Contains (all_dumps shelf reels) d → d.number ≤ c.head.last_dump) → c.head.intent ≡ Some i → i.place ≡ end_of (shelf i.serial)
placed_at_end text shelf reels c i disc quiet is =
    let placed = subst (λ (o : Option Intent). IfSome o (IsPlaced shelf reels c.head.last_dump)) is disc.intent in
    let (r, there, same) = reel_named i.serial reels placed.reel in
    placed.place ∙ ap end_of (all_up_to c.head.last_dump (shelf i.serial)
    (λ k d within.
    let on : Contains (shelf r.serial) (get_or (shelf i.serial) k d) = subst (λ (n : ℕ). Contains (shelf n) (get_or (shelf i.serial) k d)) (sym same) (Contains-get_or (shelf i.serial) k d within) in
    quiet (get_or (shelf i.serial) k d) (on_all shelf reels r (get_or (shelf i.serial) k d) there on)))

-- WHAT IS THE SAME BY TWO VIEWS
agree_with : (d : Dump) (a b : ℕ → List Dump) (reels : List Reel) → Agree a b reels → Agree (with_dump d a) (with_dump d b) reels
unfolding Agree
agree_with d a b reels agree r there = ap (λ (ds : List Dump). let es : List Dump = if r.serial == d.serial then ds ++ d ∷ [] else ds in es) (agree r there)

holding_by : Tree → List UserRec → Contents → state.Holding
holding_by tree kept c = record { tree = tree; places = places_of c.files; last = c.head.last_dump; intent = c.head.intent; kept = names_of kept }

-- an open dump by its tree and places, the copies of its own records, and the users who were touched
abbrev pub open_with : DumpFacts → Option (List Pin) → Tree → FinMap nat_cmp state.Place → FinMap nat_cmp TapeCopy → state.Users → state.OpenDump
open_with d pins tree places own touched = record {
  number = d.plan.number;
  serial = d.plan.serial;
  place = d.plan.place;
  needs = needs d.plan;
  done = d.done;
  tree = tree;
  places = places;
  waiting = waiting_of pins;
  own = own;
  touched = touched;
}

-- and by what a view says of it
open_by : OnlineFacts → DumpFacts → Tree → FinMap nat_cmp state.Place → FinMap nat_cmp TapeCopy → state.OpenDump
open_by o d tree places own = open_with d o.pins tree places own (names_of (users_in o.touched o.contents.users))

open_is : (v : View) (o : OnlineFacts) (d : DumpFacts) (opened : Opened) (made : Dump) → v.opened ≡ Some opened → opened.dump ≡ made
    → open_of v o d ≡ open_by o d (dumped_of v.text opened.directory).tree (dumped_of v.text opened.directory).places (own_of made)
unfolding open_by
open_is v o d opened made is dump =
    ap (λ (x : Option Opened). open_by o d (open_tree v.text x).0 (open_tree v.text x).1 (own_opened x)) is
    ∙ ap (λ (x : Dump). open_by o d (dumped_of v.text opened.directory).tree (dumped_of v.text opened.directory).places (own_of x)) dump

-- what a right view has of the dump
abbrev OpensIn : List Reel → View → List Pin → DumpFacts → Type 0
OpensIn reels v pins d = (content : List (List ℕ)) × (content_in pins ≡ Some content) × (opened : Opened) × OpensTo reels v d.plan content opened

abbrev IsReadyIn : (ℕ → List ℕ) → (ℕ → List Dump) → List Reel → OnlineFacts → DumpFacts → Type 0
IsReadyIn text shelf reels o d = (pins : List Pin) → o.pins ≡ Some pins → ForSome (content_in pins) (λ content. IsReady text shelf reels o (dump_of d.plan content))

some_directory : (dumps : List Dump) (t : DumpedDirectory dumps) → NoneIn dumps (Some t)
some_directory dumps t isnt u text keeps = none-some t (sym isnt)

module _ (reels : List Reel) (told : ReelsTold reels) (text : ℕ → List ℕ) (shelf : ℕ → List Dump) (shelved : AreShelved shelf reels) (v w : View)
    (agree_v : Agree shelf v.shelf reels) (agree_w : Agree shelf w.shelf reels) (o : OnlineFacts) where
  same_opened : (d : DumpFacts) (made : Dump) (opened_v opened_w : Opened) → opened_v.dump ≡ made → opened_w.dump ≡ made → v.opened ≡ Some opened_v → w.opened ≡ Some opened_w
      → opened_v.dumps ≡ all_dumps (with_dump made v.shelf) reels → opened_w.dumps ≡ all_dumps (with_dump made w.shelf) reels
      → KeepsIn opened_v.dumps v.text opened_v.directory → KeepsIn opened_w.dumps w.text opened_w.directory
      → made.place ≡ end_of (shelf made.serial) → IsReady text shelf reels o made → open_of v o d ≡ open_of w o d
  unfolding IsApart
  same_opened d made opened_v opened_w dump_v dump_w is_v is_w all_v all_w keeps_v keeps_w place ready =
      let to_v = same_dumps (with_dump made shelf) (with_dump made v.shelf) reels (agree_with made shelf v.shelf reels agree_v) ∙ sym all_v in
      let to_w = same_dumps (with_dump made shelf) (with_dump made w.shelf) reels (agree_with made shelf w.shelf reels agree_w) ∙ sym all_w in
      let same =
      over_dumps (all_dumps (with_dump made shelf) reels) (right_with shelf reels told shelved made ready.rules place) ready.rack.apart v.text w.text opened_v.dumps opened_w.dumps to_v to_w
      (Some opened_v.directory) (Some opened_w.directory) keeps_v keeps_w (some_directory opened_v.dumps opened_v.directory) (some_directory opened_w.dumps opened_w.directory) in
      let one = same_Some (dumped_of v.text opened_v.directory) (dumped_of w.text opened_w.directory) same in
      open_is v o d opened_v made is_v dump_v ∙ ap (λ (x : state.Dumped). open_by o d x.tree x.places (own_of made)) one ∙ sym (open_is w o d opened_w made is_w dump_w)

  same_open : (dump : Option DumpFacts) (rack : Rack) → ((pins : List Pin) → o.pins ≡ Some pins → IfSome dump (OpensIn reels v pins)) → ((pins : List Pin) → o.pins ≡ Some pins → IfSome dump (OpensIn reels w pins))
      → IfSome dump (λ d. IsOpen d o rack) → IfSome dump (IsReadyIn text shelf reels o) → ((i : Intent) → o.contents.head.intent ≡ Some i → i.place ≡ end_of (shelf i.serial))
      → option_map (open_of v o) dump ≡ option_map (open_of w o) dump
  same_open None rack open_v open_w is ready at_end = refl
  same_open (Some d) rack open_v open_w is ready at_end =
      let (content, is_v, opened_v, to_v) = open_v is.pins is.pinned in
      let (other, is_w, opened_w, to_w) = open_w is.pins is.pinned in
      let one : other ≡ content = same_Some other content (sym is_w ∙ is_v) in
      let from_w = subst (λ (c : List (List ℕ)). OpensTo reels w d.plan c opened_w) one to_w in
      ap (λ (x : state.OpenDump). Some x)
      (same_opened d (dump_of d.plan content) opened_v opened_w to_v.dump from_w.dump to_v.is from_w.is to_v.all from_w.all to_v.records from_w.records
      (at_end (record { serial = d.plan.serial; place = d.plan.place; number = d.plan.number }) is.intent) (ready is.pins is.pinned content is_v))

up_parts : ℕ → state.Holding → List state.ReelRow → Option state.Dumped → Option state.OpenDump → state.State
up_parts size holding rows dumped dump = record { up = true; size = size; holding = Some holding; reels = rows; dumped = dumped; open_dump = dump }

some_of : {A : Type 0} (o : Option A) → is_some o ≡ true → (x : A) × (o ≡ Some x)
some_of None is = absurd (false≢true is)
some_of (Some x) is = (x, refl)

-- what a store that is up and exposes its contents has on its disc
holds_contents : (o : OnlineFacts) (blocks : List (List ℕ)) → IsTied o → o.live ≡ true → o.disc.held ≡ Some blocks → Holds blocks o.contents
holds_contents o blocks tied live is = record {
  directory = o.layout.directory;
  stands = tied.stands live blocks is;
  are = tied.contents live ∙ ap (λ (h : Option (List (List ℕ))). contents_of h o.layout.directory) is;
}

module _ (s : StoreFacts) (told : Told s) (belongs : Belongs s) (keeps : IsStore s) where
  up_is_one : s.spent ≡ false → (t u : state.State) → Stands false s.online s.dump t (told_reels s.rack) → Stands false s.online s.dump u (told_reels s.rack) → t ≡ u
  unfolding Stands IsApart up_parts holding_by
  up_is_one unspent t u (v, is_v, open_v, t_is) (w, is_w, open_w, u_is) =
      let reels = told_reels s.rack in
      let o = s.online in
      let c = o.contents in
      let (text, shelf, shelved, up) = belongs.up unspent in
      let agree_v = shelves_agree shelf v.shelf reels told.each shelved is_v.rack.shelved in
      let agree_w = shelves_agree shelf w.shelf reels told.each shelved is_w.rack.shelved in
      let dumps_v : all_dumps shelf reels ≡ v.dumps = same_dumps shelf v.shelf reels agree_v ∙ sym is_v.rack.all in
      let dumps_w : all_dumps shelf reels ≡ w.dumps = same_dumps shelf w.shelf reels agree_w ∙ sym is_w.rack.all in
      let right = are_right shelf reels told.each shelved in
      let (blocks, held_is) = some_of o.disc.held told.disc in
      let has_v = subst (λ (ds : List Dump). All (λ f. HasText (AllTold o.disc.held reels) (v.text f.rec.stamp) ds f) c.files) (sym dumps_v) is_v.files in
      let has_w = subst (λ (ds : List Dump). All (λ f. HasText (AllTold o.disc.held reels) (w.text f.rec.stamp) ds f) c.files) (sym dumps_w) is_w.files in
      let texts =
      texts_on (all_dumps shelf reels) right up.rack.apart (AllTold o.disc.held reels) v.text w.text blocks c told
      (holds_contents o blocks keeps.tied (keeps.live unspent) held_is) has_v has_w in
      let kept = users_not_in o.changed c.users in
      let holding : holding_of v.text kept c ≡ holding_of w.text kept c =
      ap (λ (tree : Tree). holding_by tree kept c) (same_tree v.text w.text c.users (recs_in c) c.head.next_stamp texts) in
      let rows = sym (same_rows shelf v.shelf reels agree_v) ∙ same_rows shelf w.shelf reels agree_w in
      let dumped =
      over_dumps (all_dumps shelf reels) right up.rack.apart v.text w.text v.dumps w.dumps dumps_v dumps_w v.dumped w.dumped
      (is_v.rack.dumped told) (is_w.rack.dumped told) (is_v.rack.none told) (is_w.rack.none told) in
      let dump =
      same_open reels told.each text shelf shelved v w agree_v agree_w o s.dump s.rack (open_v.is told) (open_w.is told) (keeps.open_dump unspent) up.open_dump
      (λ i is. placed_at_end text shelf reels c i up.disc up.quiet is) in
      t_is
      ∙ ap (λ (h : state.Holding). up_parts o.disc.size h (map (row_of v.shelf) reels) (option_map (dumped_of v.text) v.dumped) (option_map (open_of v o) s.dump)) holding
      ∙ ap (λ (rs : List state.ReelRow). up_parts o.disc.size (holding_of w.text kept c) rs (option_map (dumped_of v.text) v.dumped) (option_map (open_of v o) s.dump)) rows
      ∙ ap (λ (d : Option state.Dumped). up_parts o.disc.size (holding_of w.text kept c) (map (row_of w.shelf) reels) d (option_map (open_of v o) s.dump)) dumped
      ∙ ap (λ (d : Option state.OpenDump). up_parts o.disc.size (holding_of w.text kept c) (map (row_of w.shelf) reels) (option_map (dumped_of w.text) w.dumped) d) dump
      ∙ sym u_is

  is_one : (b : Bool) → s.spent ≡ b → (t u : state.State) → Stands b s.online s.dump t (told_reels s.rack) → Stands b s.online s.dump u (told_reels s.rack) → t ≡ u
  unfolding Stands
  is_one true spent t u at_t at_u = devices_are_one s.online.disc.size s.online.disc.held (told_reels s.rack) t u told belongs.devices at_t at_u
  is_one false unspent t u at_t at_u = up_is_one unspent t u at_t at_u

pub store_is_one : StoreIsOne
store_is_one s t u told belongs keeps at_t at_u = is_one s told belongs keeps s.spent refl t u (to s.spent s.online s.dump t s.rack at_t) (to s.spent s.online s.dump u s.rack at_u)
