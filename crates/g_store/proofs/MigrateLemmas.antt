-- Taking a file off the disc is the step's.
-- serves: MigratedLemmas
use Rattle.std.proofs.Common.{◌≡◌, ℕ, Bool, true, false, List, [], ◌∷◌, get_or, Option, Some, None, is_some, refl, sym, ◌∙◌, ap, subst, inl, inr, true≢false}
use Rattle.std.specs.Prelude.{◌⊎◌, ◌||◌, All, Contains, IfSome, is_none, map, not}
use Rattle.std.specs.Option.{option_map}
use Rattle.std.proofs.lemmas.Bool.{false≢true}
use Rattle.std.proofs.lemmas.List.Elements.{All-contains, All-map, Contains-get_or}
use Rattle.std.proofs.lemmas.Option.{none-some, same_Some}
use Rattle.g_entry.specs.declared.file_rec.FileRec.{FileRec}
use Rattle.g_entry.specs.declared.user_rec.UserRec.{UserRec}
use Rattle.g_name.specs.declared.full.Full.{Full}
use Rattle.g_name.specs.declared.path.Path.{Path}
use Rattle.g_tape.specs.Reel.{Reel}
use Rattle.g_plain.specs.declared.faults.StoreFault.{StoreFault}
use Rattle.g_plain.specs.declared.faults.StoreFault.TheVariants.{NoFile, NoUser, NotDumped, Offline, Stopped}
use Rattle.g_plain.specs.PlainStep.{first_fault}
use Rattle.g_plain.specs.PlainTree.{Tree, file_row, has_file, has_user, input_name}
use Rattle.g_plain.proofs.Found.{some_of}
use Rattle.g_tree.specs.Records.{full_of}
use Rattle.g_tree.proofs.PutLemmas.{number_found}
use Rattle.g_tree.proofs.RecordLemmas.{numbers_apart}
use Rattle.g_tree.proofs.RightLemmas.{row_is}
use Rattle.g_tree.proofs.RuleLemmas.{one_of_key}
use Rattle.g_disc_contents.specs.Contents.{Contents, File, committed, has, offline_in, recs_in, taken_off}
use Rattle.g_disc_contents.specs.Facts.{OnlineFacts}
use Rattle.g_online.specs.declared.change.Change.TheVariants.{Unload}
use Rattle.g_online.specs.Change.{changed, with_files}
use Rattle.g_incr.specs.Layout.{Dump}
use Rattle.g_incr.specs.Plan.{needs}
use Rattle.g_shelf.specs.CompletedDumps.{all_dumps}
use Rattle.g_store_model.specs.State as state
use Rattle.g_store_model.specs.CallStep.{Outcome, is_cut, commits, down, kept_intent, stamp_of}
use Rattle.g_store_model.specs.DumpSteps.{migrate_refuses}
use Rattle.g_store_meaning.specs.Answers.{Belongs, IsStore}
use Rattle.g_store_meaning.specs.Belonging.{KeepsFile}
use Rattle.g_store_meaning.specs.Meaning.{IsContent, told_reels}
use Rattle.g_store_meaning.specs.Reading.{AllTold, HasText, IsView, View, holding_of, names_of, open_of, open_tree, own_opened, place_of, row_of, state_down, state_up, tree_by, users_in, users_not_in, waiting_of}
use Rattle.g_store_meaning.specs.StoreInvariant.{DumpFacts, StoreFacts}
use Rattle.g_store_meaning.proofs.OneLemmas.{same_dumps, shelves_agree}
use Rattle.g_laws_store.specs.Places.{AreDistinct, IsOfStamp}
use Rattle.g_laws_store.specs.Rooms.{held_in}
use Rattle.g_laws_store.proofs.RoomLemmas.{files_apart}
use Rattle.g_laws_store.proofs.UnjamLemmas.{numbers_apart as files_numbered}
use Rattle.g_laws_store.proofs.FileLemmas.{of_stamp, offline_recs}
use Rattle.g_migrate.proofs.MigrationLemmas.{rec_there}
use Rattle.g_migrate.proofs.UsedLemmas.{used_there}
use Rattle.g_store_calls.proofs.BehindLemmas.{rack_seen, told_then, CopyHolds, off, off_text}
use Rattle.g_store.specs.Naming.{IsNamedBy, IsNamedFile, naming_refuses}
use Rattle.g_store.proofs.OffLemmas.{TellsOnline, off_places, place_is, tells_online}

abbrev pub tree_in : (ℕ → List ℕ) → Contents → Tree
tree_in text c = tree_by text c.users (recs_in c) c.head.next_stamp

-- THE FILE, and its row in the tree
pub record IsFileOf (c : Contents) (path : Path) (full : Full) (f : File) : Type 0 where
  pub there : Contains c.files f
  pub name : (text : ℕ → List ℕ) → IsNamedBy path full (tree_in text c)
  pub row : (text : ℕ → List ℕ) → (file_row (tree_in text c) full).stamp ≡ f.rec.stamp
  pub distinct : AreDistinct c.files
  pub of : All (IsOfStamp f.rec.number f.rec.stamp) c.files
  pub named : IsNamedFile c.users (recs_in c) path f.rec.number full

pub file_of : (c : Contents) (path : Path) (number : ℕ) (full : Full) → IsNamedFile c.users (recs_in c) path number full
    → (f : File) × (f.rec.number ≡ number) × IsFileOf c path full f
file_of c path number full is =
    let (f, there, at) = used_there c.users c.files number is.rec is.rules (sym (number_found c.users (recs_in c) is.rules number is.rec is.there is.number_is)) in
    let same : f.rec ≡ is.rec = one_of_key (λ (s : FileRec). s.number) (recs_in c) f.rec is.rec (numbers_apart c.users (recs_in c) is.rules) (rec_there c.files f there) is.there (at ∙ sym is.number_is) in
    let named : full_of c.users f.rec ≡ full = ap (full_of c.users) same ∙ is.name_is in
    let distinct = files_apart c.files is.rules.among_files.stamps in (
      f,
      at,
      record {
        there = there;
        named = subst (λ (n : ℕ). IsNamedFile c.users (recs_in c) path n full) (sym at) is;
        name = λ text. is.named (λ (r : FileRec). text r.stamp) c.head.next_stamp;
        row = λ text.
            ap (λ (x : Full). (file_row (tree_in text c) x).stamp) (sym named)
            ∙ ap (λ row. row.stamp) (row_is c.users (recs_in c) is.rules (λ (r : FileRec). text r.stamp) c.head.next_stamp f.rec (rec_there c.files f there));
        distinct = distinct;
        of = of_stamp c.files f distinct (files_numbered c.files is.rules.numbers.rising) there;
      },
    )

-- THE REFUSALS
both_off : (a b : Bool) → first_fault ((a, NoUser) ∷ (b, NoFile) ∷ []) ≡ None → (a ≡ false) × (b ≡ false)
both_off true b is = absurd (none-some NoUser (sym is))
both_off false true is = absurd (none-some NoFile (sym is))
both_off false false is = (refl, refl)

stays_first : (a b p q r : Bool) (fault : StoreFault) → first_fault ((a, NoUser) ∷ (b, NoFile) ∷ []) ≡ Some fault
    → first_fault ((a, NoUser) ∷ (b, NoFile) ∷ (p, Offline) ∷ (q, NotDumped) ∷ (r, Stopped) ∷ []) ≡ Some fault
stays_first true b p q r fault is = is
stays_first false true p q r fault is = is
stays_first false false p q r fault is = absurd (none-some fault is)

pub two_faults : (a b : Bool) (fault : StoreFault) → first_fault ((a, NoUser) ∷ (b, NoFile) ∷ []) ≡ Some fault → (NoUser ≡ fault) ⊎ (NoFile ≡ fault)
two_faults true b fault is = inl (same_Some NoUser fault is)
two_faults false true fault is = inr (same_Some NoFile fault is)
two_faults false false fault is = absurd (none-some fault is)

module _ (c : Contents) (path : Path) (text : ℕ → List ℕ) (kept : List UserRec) where
  abbrev t : Tree
  t = tree_in text c

  abbrev n : Full
  n = input_name t [] path

  abbrev k : state.Holding
  k = holding_of text kept c

  pub name_refused : (fault : StoreFault) (out : Outcome) → naming_refuses t path ≡ Some fault → migrate_refuses k path.user n out ≡ Some fault
  name_refused fault out is =
      let place = state.place_at k.places (stamp_of k.tree n) in
      stays_first (is_none path.user || not (has_user t n.user)) (not (has_file t n)) (not place.online) (is_none place.copy) (is_cut out) fault is

  module _ (full : Full) (f : File) (is : IsFileOf c path full f) where
    pub stamp_is : stamp_of k.tree n ≡ f.rec.stamp
    stamp_is = ap (λ (x : Full). (file_row t x).stamp) (sym (is.name text).full_is) ∙ is.row text

    pub refusal_is : (out : Outcome) → migrate_refuses k path.user n out ≡ first_fault ((not f.online, Offline) ∷ (is_none f.rec.tape, NotDumped) ∷ (is_cut out, Stopped) ∷ [])
    refusal_is out =
        let (user, file) = both_off (is_none path.user || not (has_user t n.user)) (not (has_file t n)) (is.name text).granted in
        let place : state.place_at k.places (stamp_of k.tree n) ≡ place_of f = ap (state.place_at k.places) stamp_is ∙ place_is c.files f is.distinct is.there is.of in
        λ i.
        first_fault ((user i, NoUser) ∷ (file i, NoFile) ∷ (not (place i).online, Offline) ∷ (is_none (place i).copy, NotDumped) ∷ (is_cut out, Stopped) ∷ [])

-- what holds after files are taken off
or_false : (b : Bool) → (b || false) ≡ b
or_false true = refl
or_false false = refl

pub unload_is : (told pinned : Bool) (numbers : List ℕ) (c : Contents) → changed told pinned (Unload numbers) c ≡ committed pinned (with_files (taken_off numbers c.files) c)
unfolding changed
unload_is told pinned numbers c = ap (λ (b : Bool). committed b (with_files (taken_off numbers c.files) c)) (or_false pinned)

intent_by : (b : Bool) (e : Contents) (dump : Option state.OpenDump) → b ≡ is_some dump → (committed b e).head.intent ≡ kept_intent dump e.head.intent
intent_by true e (Some d) same = refl
intent_by false e None same = refl
intent_by true e None same = absurd (true≢false same)
intent_by false e (Some d) same = absurd (false≢true same)

held_with : (text : ℕ → List ℕ) (kept : List UserRec) (b : Bool) (e : Contents) → holding_of text kept (committed b e) ≡ record (holding_of text kept e) { intent = (committed b e).head.intent }
held_with text kept true e = refl
held_with text kept false e = refl

some_mapped : {A B : Type 0} (g : A → B) (o : Option A) → is_some (option_map g o) ≡ is_some o
some_mapped g None = refl
some_mapped g (Some x) = refl

module _ (v : View) (reels : List Reel) (o : OnlineFacts) (dump : Option DumpFacts) (path : Path) (full : Full) (f : File) (is : IsFileOf o.contents path full f) where
  abbrev c : Contents
  c = o.contents

  abbrev up : state.State
  up = state_up v reels o dump

  abbrev held : state.Holding
  held = held_in v o

  abbrev e : Contents
  e = with_files (taken_off (f.rec.number ∷ []) c.files) c

  abbrev moved : List UserRec → ℕ → state.Holding
  moved kept stamp = record held { places = state.with_online false stamp held.places; intent = kept_intent up.open_dump held.intent; kept = names_of kept }

  -- the state afterwards
  abbrev pub gone : ℕ → state.State
  gone stamp = commits up (record held { places = state.with_online false stamp held.places })

  pub held_off : (kept : List UserRec) (b : Bool) → b ≡ is_some dump → holding_of v.text kept (committed b e) ≡ moved kept f.rec.stamp
  held_off kept b opened =
      held_with v.text kept b e
      ∙ (λ i. let h : state.Holding = record {
        tree = tree_by v.text c.users (offline_recs (f.rec.number ∷ []) c.files i) c.head.next_stamp;
        places = off_places c.files f is.distinct is.there is.of i;
        last = c.head.last_dump;
        intent = intent_by b e up.open_dump (opened ∙ sym (some_mapped (open_of v o) dump)) i;
        kept = names_of kept;
      } in h)

  module _ (new : OnlineFacts) (pinned : is_some o.pins ≡ is_some dump) (contents : new.contents ≡ committed (is_some o.pins) e) (size : new.disc.size ≡ o.disc.size) where
    same_users : (b : Bool) → (committed b e).users ≡ c.users
    same_users true = refl
    same_users false = refl

    users_are : new.contents.users ≡ c.users
    users_are = ap (λ (x : Contents). x.users) contents ∙ same_users (is_some o.pins)

    open_is : (x : Option DumpFacts) → new.pins ≡ o.pins → IfSome x (λ d. new.touched ≡ o.touched) → option_map (open_of v new) x ≡ option_map (open_of v o) x
    open_is None pins touched = refl
    open_is (Some d) pins touched =
        λ i.
        let od : state.OpenDump = record {
          number = d.plan.number;
          serial = d.plan.serial;
          place = d.plan.place;
          needs = needs d.plan;
          done = d.done;
          tree = (open_tree v.text v.opened).0;
          places = (open_tree v.text v.opened).1;
          waiting = waiting_of (pins i);
          own = own_opened v.opened;
          touched = names_of (users_in (touched i) (users_are i));
        } in Some od

    held_new : new.changed ≡ o.changed → holding_of v.text (users_not_in new.changed new.contents.users) new.contents ≡ moved (users_not_in o.changed c.users) f.rec.stamp
    held_new changed_is =
        (λ i. holding_of v.text (users_not_in (changed_is i) (users_are i)) (contents i)) ∙ held_off (users_not_in o.changed c.users) (is_some o.pins) pinned

    pub state_done : new.changed ≡ o.changed → new.pins ≡ o.pins → IfSome dump (λ d. new.touched ≡ o.touched) → state_up v reels new dump ≡ gone f.rec.stamp
    state_done changed_is pins touched =
        λ i.
        let s : state.State = record {
          up = true;
          size = size i;
          holding = Some (held_new changed_is i);
          reels = map (row_of v.shelf) reels;
          dumped = up.dumped;
          open_dump = open_is dump pins touched i;
        } in s

  module _ (new : OnlineFacts) (pinned : is_some o.pins ≡ is_some dump) (size : new.disc.size ≡ o.disc.size) where
    -- the state after a stop at the first write, and after one at the last
    pub down_before : state_down v reels new.disc.size (Some c) ≡ down up
    down_before =
        λ i. let s : state.State = record { up = false; size = size i; holding = Some (holding_of v.text [] c); reels = map (row_of v.shelf) reels; dumped = up.dumped; open_dump = None } in s

    pub down_behind : state_down v reels new.disc.size (Some (committed (is_some o.pins) e)) ≡ down (gone f.rec.stamp)
    down_behind =
        λ i.
        let s : state.State = record { up = false; size = size i; holding = Some (held_off [] (is_some o.pins) pinned i); reels = map (row_of v.shelf) reels; dumped = up.dumped; open_dump = None } in s

-- THE VIEW stays right
module _ (t : StoreFacts) (unspent : t.spent ≡ false) (keeps : IsStore t) (belongs : Belongs t) (v : View) (right : IsView t.online.disc.held (told_reels t.rack) t.online.contents v) where
  abbrev reels : List Reel
  reels = told_reels t.rack

  copy_holds : (g : File) → Contains t.online.contents.files g → CopyHolds (AllTold t.online.disc.held reels) v.text v.dumps g
  copy_holds g there told on =
      let (text, shelf, shelved, up) = belongs.up unspent in
      let has = All-contains (λ (h : File). HasText (AllTold t.online.disc.held reels) (v.text h.rec.stamp) v.dumps h) t.online.contents.files g right.files there in
      let keeps_file = All-contains (λ (h : File). KeepsFile (text h.rec.stamp) (all_dumps shelf reels) h) t.online.contents.files g up.disc.files there in
      let tells : All TellsOnline t.online.contents.files =
      subst (λ (x : Contents). All TellsOnline x.files) (sym (keeps.tied.contents (keeps.live unspent))) (tells_online t.online.disc.held t.online.layout.directory told.disc) in
      let (bytes, are) = some_of g.bytes (All-contains TellsOnline t.online.contents.files g tells there on) in
      let texts : text g.rec.stamp ≡ v.text g.rec.stamp = sym (keeps_file.bytes bytes are) ∙ has.bytes bytes are in
      let dumps : all_dumps shelf reels ≡ v.dumps = same_dumps shelf v.shelf reels (shelves_agree shelf v.shelf reels told.each shelved right.rack.shelved) ∙ sym right.rack.all in
      subst (λ (x : List ℕ). IfSome g.rec.tape (λ place. IsContent v.dumps place x)) texts
      (subst (λ (ds : List Dump). IfSome g.rec.tape (λ place. IsContent ds place (text g.rec.stamp))) dumps keeps_file.rec.copy)

  -- where files are taken off
  pub view_off : (now : Option (List (List ℕ))) (numbers : List ℕ) (x : Contents) → is_some now ≡ is_some t.online.disc.held → x.files ≡ taken_off numbers t.online.contents.files
      → IsView now reels x v
  unfolding off
  view_off now numbers x same files = record {
    rack = rack_seen t.online.disc.held now reels v same right.rack;
    files = subst (λ (fs : List File). All (λ (g : File). HasText (AllTold now reels) (v.text g.rec.stamp) v.dumps g) fs) (sym files)
        (All-map (λ (g : File). HasText (AllTold now reels) (v.text g.rec.stamp) v.dumps g) (offline_in numbers) t.online.contents.files
        (λ i d within.
        let g = get_or t.online.contents.files i d in
        off_text (AllTold t.online.disc.held reels) (AllTold now reels) v.text v.dumps (has numbers g.rec.number) g (told_then t.online.disc.held now reels same)
        (copy_holds g (Contains-get_or t.online.contents.files i d within)) (right.files i d within)));
  }
