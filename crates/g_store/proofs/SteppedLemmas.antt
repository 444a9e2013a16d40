-- How a store answers a step of its open dump: the state after each answer.
-- serves: ProcessedStepLemmas, StepLemmas, crates above
use Rattle.std.proofs.Common.{◌≡◌, ℕ, zero, suc, ◌+◌, ◌<◌, ◌≤◌, ◌==◌, Bool, true, false, List, [], ◌∷◌, ◌++◌, map, Option, Some, None, Result, Ok, Err, refl, sym, ◌∙◌, ap, arith, subst, inl, inr}
use Rattle.std.specs.Prelude.{◌⊎◌, AllPairs, Contains, is_some, nat_lt, option_map}
use Rattle.std.specs.Ordering.{nat_cmp}
use Rattle.std.specs.FinMap.{FinMap, from_entries}
use Rattle.std.proofs.lemmas.Bool.{cases_Bool, cases_order, cond-false, cond-true, lt-ltb}
use Rattle.std.proofs.lemmas.List.Elements.{All-weaker}
use Rattle.std.proofs.lemmas.Option.{none-some, same_Some}
use Rattle.g_base.specs.Counts.{Rose}
use Rattle.g_base.specs.Fuse.{burnt}
use Rattle.g_name.specs.declared.full.Full.{Full}
use Rattle.g_entry.specs.declared.file_rec.FileRec.{FileRec}
use Rattle.g_entry.specs.declared.file_rec.TapeCopy.{TapeCopy}
use Rattle.g_entry.specs.declared.user_rec.UserRec.{UserRec}
use Rattle.g_tape.specs.Rack.{AreReels, Rack, changed, reel, with_reel}
use Rattle.g_tape.specs.Reads.{unread}
use Rattle.g_tape.specs.Reel.{Reel, Remains, Torn, left_by}
use Rattle.g_tape.proofs.ReadLemmas.{reel-unread}
use Rattle.g_plain.specs.declared.faults.StoreFault.{StoreFault}
use Rattle.g_plain.specs.declared.faults.StoreFault.TheVariants.{DiscReadFault, Stopped}
use Rattle.g_plain.specs.PlainTree.{FileRow, Tree}
use Rattle.g_tree.specs.Records.{IsRecords, file_row_of, full_of, user_row_of}
use Rattle.g_tree.proofs.ListLemmas.{map_of_map}
use Rattle.g_disc_contents.specs.Contents.{Contents, File, Holds, contents_of, copied_rec, recs_in, with_copies}
use Rattle.g_disc_contents.specs.Facts.{OnlineFacts, Pin, noted}
use Rattle.g_online.specs.Change.{closed}
use Rattle.g_online.specs.Outcomes.{HasClosed, StoppedClosing}
use Rattle.g_incr.specs.Layout.{Dump}
use Rattle.g_incr.specs.Plan.{IsContentAt, dump_of, needs}
use Rattle.g_shelf.specs.CompletedDumps.{AreShelved, all_dumps}
use Rattle.g_store_model.specs.State as state
use Rattle.g_store_model.specs.CallStep.{Cut, DiscRead, Outcome, Plain, down}
use Rattle.g_store_model.specs.DumpSteps.{Completed, DumpStep, Going, Stepped, UsedByCut, completed, kept_now, marked, shelved, uses, with_noted, with_shelved, with_used, writes_content}
use Rattle.g_store_meaning.specs.Answers.{Belongs, IsStore, Raised, Told}
use Rattle.g_store_meaning.specs.Belonging.{DiscBelongs, KeepsFile}
use Rattle.g_store_meaning.specs.Meaning.{DumpedDirectory, told_reels}
use Rattle.g_store_meaning.specs.Reading.{AllTold, HasText, IsView, Opened, OpensTo, StandsForState, View, dumped_of, holding_of, names_of, open_of, own_of, places_of, row_of, shelved_of, state_up, tree_by, users_not_in, waiting_of}
use Rattle.g_store_meaning.specs.StoreInvariant.{DumpFacts, IsOpen, IsReady, IsUp, StoreFacts, content_in, with_dump}
use Rattle.g_store_meaning.proofs.DirectoryLemmas.{copied_recs}
use Rattle.g_laws_store.proofs.ClosingLemmas.{closing_stays}
use Rattle.g_laws_store.proofs.PinLemmas.{OtherStamp}
use Rattle.g_laws_store.proofs.StateLemmas.{is_view, view_by, with_there}
use Rattle.g_laws_store.proofs.UpOneLemmas.{in_with, store_is_one}
use Rattle.g_laws_store.specs.Rooms.{held_in}
use Rattle.g_laws_store.proofs.PlaceLemmas.{places_go_by_change}
use Rattle.g_laws_store.proofs.RoomLemmas.{files_apart}
use Rattle.g_store_calls.proofs.SeenLemmas.{Seen, stands}
use Rattle.g_dumper.specs.Invariant.{spent_with, up_with}
use Rattle.g_dumper.specs.Steps.{Abandoned, FailedWrite, WroteBlock}
use Rattle.g_dumper.proofs.BeginLemmas.{reel_named}
use Rattle.g_dumper.proofs.IntentLemmas.{rules_here}
use Rattle.g_dumper.proofs.KeepLemmas.{shelved_then}
use Rattle.g_dumper.proofs.ShelfLemmas.{counts, cut_shelf, left_serial, marked_shelf, quiet_shelf, ready, reel_there, told_is}
use Rattle.g_process.proofs.EndLemmas.{left_long}
use Rattle.g_store.specs.Events.{IsStepOfDump, LeadsBy}
use Rattle.g_store.proofs.EventLemmas.{leads_at}
use Rattle.g_store.proofs.MountLemmas.{row_found}
use Rattle.g_store.proofs.NotedLemmas.{content_written, kept_after, last_is, noted_in, plan_stamps}
use Rattle.g_store.proofs.OpenedLemmas.{spent_holding}
use Rattle.g_store.proofs.WrittenLemmas.{rows_marked, rows_used, used_same}

-- THE SAME DUMPS, where reels are written
dumps_written : (serial : ℕ) (f : Reel → Reel) → ((r : Reel) → (f r).serial ≡ r.serial) → (shelf : ℕ → List Dump) (reels : List Reel)
    → all_dumps shelf (map unread (with_reel serial f reels)) ≡ all_dumps shelf (map unread reels)
dumps_written serial f named shelf [] = refl
dumps_written serial f named shelf (q ∷ qs) = by_serial (cases_Bool (serial == q.serial)) (dumps_written serial f named shelf qs)
  where
    by_serial : ((serial == q.serial) ≡ true) ⊎ ((serial == q.serial) ≡ false) → all_dumps shelf (map unread (with_reel serial f qs)) ≡ all_dumps shelf (map unread qs)
        → all_dumps shelf (map unread (with_reel serial f (q ∷ qs))) ≡ all_dumps shelf (map unread (q ∷ qs))
    by_serial (inl same) rest =
        ap (λ (rs : List Reel). all_dumps shelf (map unread rs)) (cond-true (serial == q.serial) (f q ∷ qs) (q ∷ with_reel serial f qs) same)
        ∙ ap (λ (n : ℕ). shelf n ++ all_dumps shelf (map unread qs)) (named q)
    by_serial (inr other) rest =
        ap (λ (rs : List Reel). all_dumps shelf (map unread rs)) (cond-false (serial == q.serial) (f q ∷ qs) (q ∷ with_reel serial f qs) other)
        ∙ ap (λ (ds : List Dump). shelf q.serial ++ ds) rest

-- the same tree, for any copies that are noted
tree_with : List UserRec → ℕ → List (Full × FileRow) → Tree
tree_with users next rows = record { users = from_entries (map (λ u. (u.user, user_row_of users u)) users); files = from_entries rows; next = next }

pub tree_copied : (text : ℕ → List ℕ) (users : List UserRec) (copies : List (ℕ × TapeCopy)) (files : List File) (next : ℕ)
    → tree_by text users (map (λ (f : File). f.rec) (with_copies copies files)) next ≡ tree_by text users (map (λ (f : File). f.rec) files) next
unfolding tree_with
tree_copied text users copies files next =
    ap (λ (rs : List FileRec). tree_by text users rs next) (copied_recs copies files)
    ∙ ap (tree_with users next) (map_of_map (λ (r : FileRec). (full_of users r, file_row_of users (λ s. text s.stamp) r)) (copied_rec copies) (map (λ (f : File). f.rec) files))

-- A reel of a row
row_of_reel : (shelf : ℕ → List Dump) (serial : ℕ) (reels : List Reel) (on : Reel) → reel serial reels ≡ Some on → (r : state.ReelRow)
    → state.reel_at serial (map (row_of shelf) (map unread reels)) ≡ Some r → row_of shelf (unread on) ≡ r
row_of_reel shelf serial reels on on_is r at =
    same_Some (row_of shelf (unread on)) r (sym (row_found shelf serial (map unread reels) ∙ ap (option_map (row_of shelf)) (reel-unread serial reels ∙ ap (option_map unread) on_is)) ∙ at)

on_long : (n : ℕ) (d : DumpFacts) (o : OnlineFacts) (old : Rack) (is : IsOpen d o old) → d.done ≡ n → 0 < d.plan.place + d.done → 0 < is.on.len
on_long zero d o old is none more = let from = is.from in omega (arith, none, more, from)
on_long (suc n) d o old is some more = let long = is.length_is (omega (arith, some)) in omega (arith, long, more)

-- THE STORE, with its open dump
module _ (d : DumpFacts) (o : OnlineFacts) (old : Rack) (reels : AreReels old.reels) (keeps : IsStore (up_with o old (Some d))) (told : Told (up_with o old (Some d)))
    (was : Belongs (up_with o old (Some d))) (text : ℕ → List ℕ) (shelf : ℕ → List Dump) (shelved_as : AreShelved shelf (told_reels old)) (up : IsUp text shelf (up_with o old (Some d)))
    (is : IsOpen d o old) (content : List (List ℕ)) (has : content_in is.pins ≡ Some content) where
  abbrev pub before : StoreFacts
  before = up_with o old (Some d)

  abbrev pub c : Contents
  c = o.contents

  abbrev pub made : Dump
  made = dump_of d.plan content

  abbrev pub with_made : ℕ → List Dump
  with_made = with_dump made shelf

  abbrev pub rs : List Reel
  rs = told_reels old

  abbrev pub at : ℕ
  at = d.plan.place + d.done

  pub is_ready : IsReady text shelf rs o made
  is_ready = ready d o old reels told.each is text shelf shelved_as up content has

  named_on : is.on.serial ≡ d.plan.serial
  named_on = reel_named d.plan.serial old.reels is.on is.reel_is

  pub made_there : Contains (all_dumps with_made rs) made
  made_there = with_there made shelf rs (unread is.on) (reel_there d.plan.serial old.reels is.on is.reel_is) named_on

  abbrev pub t : DumpedDirectory (all_dumps (with_dump (dump_of d.plan content) shelf) (told_reels old))
  t = is_ready.rack.tree made made_there

  abbrev pub op : Opened
  op = record { dump = made; dumps = all_dumps with_made rs; directory = t }

  -- what is seen of it
  abbrev pub v : View
  v = view_by text shelf rs up.rack (Some op)

  abbrev pub s : state.State
  s = state_up v rs o (Some d)

  abbrev pub k : state.Holding
  k = held_in v o

  abbrev pub od : state.OpenDump
  od = open_of v o d

  opens_now : OpensTo rs v d.plan content op
  opens_now = record { is = refl; dump = refl; all = refl; records = is_ready.rack.records t }

  view_is : IsView o.disc.held rs c v
  view_is = is_view o.disc.held rs text shelf shelved_as up.rack (Some op) c up.disc

  own : Seen before s
  own = record {
    view = v;
    is = view_is;
    opens = record { is = λ all qs some. (content, ap content_in (same_Some qs is.pins (sym some ∙ is.pinned)) ∙ has, op, opens_now) };
    state_is = refl;
  }

  pub state_of : (u : state.State) → StandsForState before u → u ≡ s
  state_of u here = store_is_one before u s told was keeps here (stands before s refl own)

  -- A STEP from it
  pub leads : (answer : Result Stepped StoreFault) (after : StoreFacts) (end : state.State) (out : Outcome) → StandsForState after end → Raised out before after → DumpStep s k od out answer end
      → (u : state.State) → StandsForState before u → LeadsBy IsStepOfDump u before after answer
  leads answer after end out left raised step u here = leads_at IsStepOfDump before after answer s u k refl (state_of u here) end out left raised (od, refl, step)

  -- THE TREE of the dump, and its number
  low : (e : Dump) → Contains (all_dumps with_made rs) e → e.number ≤ d.plan.number
  low e in_dumps = by_case (in_with made shelf rs e in_dumps)
    where
      by_case : Contains (all_dumps shelf rs) e ⊎ (made ≡ e) → e.number ≤ d.plan.number
      by_case (inl there) = let le = up.quiet e there in let number = is.number in omega (arith, le, number)
      by_case (inr same) = subst (λ (x : Dump). x.number ≤ d.plan.number) same (omega arith)

  dumped_by : ℕ → FinMap nat_cmp TapeCopy → state.Dumped
  dumped_by number own_copies = record { number = number; tree = od.tree; places = od.places; own = own_copies }

  pub dumped_is : dumped_of text t ≡ record { number = od.number; tree = od.tree; places = od.places; own = od.own }
  unfolding dumped_by
  dumped_is = ap (λ (x : Dump). dumped_by x.number (own_of x)) (last_is (all_dumps with_made rs) t made made_there low is_ready.rack.apart)

  -- ITS PLACE on the reel
  shelved_by : ℕ → state.Shelved
  shelved_by size = record { place = d.plan.place; ends = d.plan.place + size; number = d.plan.number }

  shelved_is : shelved_of made ≡ shelved od
  unfolding shelved_by
  shelved_is = ap shelved_by (counts d o old reels told.each is text shelf shelved_as up content has)

  -- WHAT THE DISC HOLDS with the dump closed
  rules : IsRecords c.users (recs_in c)
  rules = (rules_here o (keeps.live refl) keeps.tied).records

  stamps : AllPairs OtherStamp d.plan.files
  stamps = plan_stamps d.plan content is_ready.rules

  places_are : places_of (with_copies (noted o.pins) c.files) ≡ with_noted od (places_of c.files)
  places_are =
      ap (λ (p : Option (List Pin)). places_of (with_copies (noted p) c.files)) is.pinned
      ∙ places_go_by_change.noted od c.files is.pins (files_apart c.files rules.among_files.stamps)
      (noted_in d.plan content is.pins is.are stamps (all_dumps with_made rs) t made_there low is_ready.rack.apart is_ready.rules od
      (ap (λ (p : Option (List Pin)). waiting_of p) is.pinned) refl)

  tree_is : tree_by text c.users (recs_in (closed d.plan.number o)) c.head.next_stamp ≡ k.tree
  tree_is = tree_copied text c.users (noted o.pins) c.files c.head.next_stamp

  kept_is : names_of (users_not_in o.touched c.users) ≡ kept_now od k.tree
  kept_is = sym (kept_after od c.users (recs_in c) o.touched rules refl k.tree refl)

  pub held_closed : holding_of text (users_not_in o.touched c.users) (closed d.plan.number o)
      ≡ record k { places = with_noted od k.places; last = od.number; intent = None; kept = kept_now od k.tree }
  held_closed = λ i. let h : state.Holding = record { tree = tree_is i; places = places_are i; last = d.plan.number; intent = None; kept = kept_is i } in h

  -- no user is kept while no store is up
  pub held_cut : holding_of text [] (closed d.plan.number o) ≡ record k { places = with_noted od k.places; last = od.number; intent = None; kept = names_of [] }
  held_cut = λ i. let h : state.Holding = record { tree = tree_is i; places = places_are i; last = d.plan.number; intent = None; kept = names_of [] } in h

  disc_closed : DiscBelongs text with_made rs (closed d.plan.number o)
  disc_closed = (closing_stays text shelf before d content o.touched refl is has up).disc

  pub writes_now : (version part : ℕ) → IsContentAt d.plan d.done version part → writes_content od ≡ true
  writes_now version part stands_at =
      content_written d.plan content is.pins is.are stamps d.done version part stands_at od refl refl (ap (λ (p : Option (List Pin)). waiting_of p) is.pinned)

  -- GIVEN UP: nothing waits any more
  pub given_up : (o' : OnlineFacts) → o' ≡ record o { disc = record o.disc { read_faults = o'.disc.read_faults }; pins = None; touched = [] }
      → StandsForState (up_with o' old None) (record s { open_dump = None })
  given_up o' facts =
      let gone : OnlineFacts = record o { disc = record o.disc { read_faults = o'.disc.read_faults }; pins = None; touched = [] } in
      let end : state.State = record s { open_dump = None } in
      subst (λ (x : OnlineFacts). StandsForState (up_with x old None) end) (sym facts)
      (stands (up_with gone old None) end refl (record { view = v; is = view_is; opens = record { is = λ all qs some. tt }; state_is = refl }))

  -- WHAT IS SEEN, on any reels that have the same dumps
  pub view_on : (qs : List Reel) → all_dumps shelf rs ≡ all_dumps shelf qs → (held : Option (List (List ℕ))) → AreShelved shelf qs → IsView held qs c v
  view_on qs same held on = record {
    rack = record {
      shelved = on;
      all = same;
      dumped = λ _. view_is.rack.dumped told;
      none = λ _. view_is.rack.none told;
    };
    files = All-weaker (λ (f : File). HasText (AllTold o.disc.held rs) (text f.rec.stamp) (all_dumps shelf rs) f) (λ (f : File). HasText (AllTold held qs) (text f.rec.stamp) (all_dumps shelf rs) f)
        (λ f it. record { len = it.len; bytes = it.bytes; tape = λ _. it.tape told }) c.files view_is.files;
  }

  -- or also this one, the newest
  abbrev pub v_marked : View
  v_marked = record { text = text; shelf = with_made; dumps = all_dumps with_made rs; dumped = Some t; opened = None }

  pub view_with : (qs : List Reel) → all_dumps with_made rs ≡ all_dumps with_made qs → (held : Option (List (List ℕ))) (x : Contents) → AreShelved with_made qs → DiscBelongs text with_made rs x
      → IsView held qs x v_marked
  view_with qs same held x on disc = record {
    rack = record {
      shelved = on;
      all = same;
      dumped = λ _. is_ready.rack.records t;
      none = λ _ no. absurd (none-some t (sym no));
    };
    files = All-weaker (λ (f : File). KeepsFile (text f.rec.stamp) (all_dumps with_made rs) f) (λ (f : File). HasText (AllTold held qs) (text f.rec.stamp) (all_dumps with_made rs) f)
        (λ f it. record { len = it.rec.len; bytes = it.bytes; tape = λ _ _. it.rec.copy }) x.files disc.files;
  }

  -- THE REEL WAS WRITTEN, or a write of it failed
  module _ (new : Rack) (how : Remains) (faults : ℕ) (written : new ≡ record (changed d.plan.serial (left_by how at) old) { write_faults = faults; fuse = burnt old.fuse; risks = new.risks }) where
    reels_are : new.reels ≡ with_reel d.plan.serial (left_by how at) old.reels
    reels_are = ap (λ (r : Rack). r.reels) written

    dumps_same : (sh : ℕ → List Dump) → all_dumps sh rs ≡ all_dumps sh (told_reels new)
    dumps_same sh =
        sym (ap (λ (qs : List Reel). all_dumps sh (map unread qs)) reels_are ∙ dumps_written d.plan.serial (left_by how at) (left_serial how at) sh old.reels)

    rows_now : (b : Bool) → nat_lt 0 (left_by how at is.on).len ≡ b → map (row_of shelf) (told_reels new) ≡ state.with_reel d.plan.serial (with_used b) (map (row_of shelf) rs)
    rows_now b used =
        ap (λ (qs : List Reel). map (row_of shelf) (map unread qs)) reels_are ∙ rows_used d.plan.serial old.reels reels is.on is.reel_is how at b used shelf

    pub rows_with : (b : Bool) → nat_lt 0 (left_by how at is.on).len ≡ b
        → map (row_of with_made) (told_reels new) ≡ state.with_reel d.plan.serial (with_used b) (state.with_reel d.plan.serial (with_shelved (shelved od)) (map (row_of shelf) rs))
    rows_with b used =
        ap (λ (qs : List Reel). map (row_of with_made) (map unread qs)) reels_are
        ∙ rows_marked d.plan.serial old.reels reels is.on is.reel_is how at b used shelf made refl (shelved od) shelved_is

    -- no dump was completed: the view stays right
    view_then : (held : Option (List (List ℕ))) → AreShelved shelf (told_reels new) → IsView held (told_reels new) c v
    view_then held shelved_new = view_on (told_reels new) (dumps_same shelf) held shelved_new

    -- the dump continues
    going_state : nat_lt 0 (left_by how at is.on).len ≡ true
        → state_up v (told_reels new) o (Some (record { plan = d.plan; done = d.done + 1 })) ≡ uses true od (record s { open_dump = Some (record od { done = od.done + 1 }) })
    going_state used =
        λ i.
        let u : state.State = record {
          up = true;
          size = o.disc.size;
          holding = s.holding;
          reels = rows_now true used i;
          dumped = s.dumped;
          open_dump = Some (record od { done = od.done + 1 });
        } in u

    pub going_stands : nat_lt 0 (left_by how at is.on).len ≡ true → AreShelved shelf (told_reels new)
        → StandsForState (up_with o new (Some (record { plan = d.plan; done = d.done + 1 }))) (uses true od (record s { open_dump = Some (record od { done = od.done + 1 }) }))
    going_stands used shelved_new =
        let after : StoreFacts = up_with o new (Some (record { plan = d.plan; done = d.done + 1 })) in
        let then : OpensTo (told_reels new) v d.plan content op = record { is = refl; dump = refl; all = dumps_same with_made; records = is_ready.rack.records t } in
        stands after (uses true od (record s { open_dump = Some (record od { done = od.done + 1 }) })) refl
        (record {
          view = v;
          is = view_then o.disc.held shelved_new;
          opens = record { is = λ all qs some. (content, ap content_in (same_Some qs is.pins (sym some ∙ is.pinned)) ∙ has, op, then) };
          state_is = sym (going_state used);
        })

    -- the dump was completed: it is the newest one
    view_marked : (held : Option (List (List ℕ))) (x : Contents) → AreShelved with_made (told_reels new) → DiscBelongs text with_made rs x → IsView held (told_reels new) x v_marked
    view_marked held x shelved_new disc = view_with (told_reels new) (dumps_same with_made) held x shelved_new disc

    -- COMPLETED
    module _ (used : nat_lt 0 (left_by how at is.on).len ≡ true) (shelved_new : AreShelved with_made (told_reels new)) where
      completed_state : (o' : OnlineFacts) → o'.disc.size ≡ o.disc.size → o'.contents ≡ closed d.plan.number o → o'.changed ≡ o.touched
          → state_up v_marked (told_reels new) o' None ≡ uses true od (completed od k s)
      completed_state o' size contents users =
          let held : holding_of text (users_not_in o'.changed o'.contents.users) o'.contents ≡ record k { places = with_noted od k.places; last = od.number; intent = None; kept = kept_now od k.tree } =
          (λ j. holding_of text (users_not_in (users j) (contents j).users) (contents j)) ∙ held_closed in
          λ i.
          let u : state.State = record {
            up = true;
            size = size i;
            holding = Some (held i);
            reels = rows_with true used i;
            dumped = Some (dumped_is i);
            open_dump = None;
          } in u

      pub completed_stands : (o' : OnlineFacts) → o'.disc.size ≡ o.disc.size → HasClosed d.plan.number o o' → StandsForState (up_with o' new None) (uses true od (completed od k s))
      completed_stands o' size done =
          stands (up_with o' new None) (uses true od (completed od k s)) refl
          (record {
            view = v_marked;
            is = subst (λ (x : Contents). IsView o'.disc.held (told_reels new) x v_marked) (sym done.contents) (view_marked o'.disc.held (closed d.plan.number o) shelved_new disc_closed);
            opens = record { is = λ all qs some. tt };
            state_is = sym (completed_state o' size done.contents done.changed);
          })

      -- stopped after the mark: the disc holds what it held, or that with the dump closed
      marked_devices : (o' : OnlineFacts) → o'.disc.size ≡ o.disc.size → (blocks : List (List ℕ)) → o'.disc.held ≡ Some blocks → Holds blocks c
          → StandsForState (spent_with o' new) (uses true od (down (marked od s)))
      marked_devices o' size blocks held holds =
          let seen_then = view_marked o'.disc.held c shelved_new is_ready.disc in
          spent_holding o' new (uses true od (down (marked od s))) v_marked c blocks held holds seen_then refl refl
          (sym size) refl (sym (rows_with true used)) (ap Some (sym dumped_is))

      closed_devices : (o' : OnlineFacts) → o'.disc.size ≡ o.disc.size → (blocks : List (List ℕ)) → o'.disc.held ≡ Some blocks → Holds blocks (closed d.plan.number o)
          → StandsForState (spent_with o' new) (uses true od (down (completed od k s)))
      closed_devices o' size blocks held holds =
          let seen_then = view_marked o'.disc.held (closed d.plan.number o) shelved_new disc_closed in
          spent_holding o' new (uses true od (down (completed od k s))) v_marked (closed d.plan.number o) blocks held holds seen_then refl refl
          (sym size) (ap Some (sym held_cut)) (sym (rows_with true used)) (ap Some (sym dumped_is))

    -- STOPPED at the write, and no dump was completed
    cut_devices : (b : Bool) → nat_lt 0 (left_by how at is.on).len ≡ b → AreShelved shelf (told_reels new) → (blocks : List (List ℕ)) → o.disc.held ≡ Some blocks → Holds blocks c
        → StandsForState (spent_with o new) (uses b od (down s))
    cut_devices b used shelved_new blocks held holds =
        let seen_then = view_then o.disc.held shelved_new in
        spent_holding o new (uses b od (down s)) v c blocks held holds seen_then refl refl
        refl refl (sym (rows_now b used)) refl

    used_behind : 0 < at → nat_lt 0 (left_by how at is.on).len ≡ true
    used_behind more = lt-ltb 0 (left_by how at is.on).len (left_long how at is.on more (on_long d.done d o old is refl more))

    -- after its first block a reel has blocks, for any outcome of the write
    rows_stay : 0 < at → state.with_reel d.plan.serial (with_used true) (map (row_of shelf) rs) ≡ map (row_of shelf) rs
    rows_stay more =
        used_same d.plan.serial true (map (row_of shelf) rs)
        (λ r there. sym (lt-ltb 0 is.on.len (on_long d.done d o old is refl more)) ∙ ap (λ (x : state.ReelRow). x.used) (row_of_reel shelf d.plan.serial old.reels is.on is.reel_is r there))

    cut_by : (b : Bool) → nat_lt 0 (left_by how at is.on).len ≡ b → (at ≡ 0) ⊎ (0 < at) → UsedByCut od (down s) (uses b od (down s))
    cut_by true used (inl none) = inr (none, inl refl)
    cut_by false used (inl none) = inr (none, inr refl)
    cut_by b used (inr more) =
        let same : b ≡ true = sym used ∙ used_behind more in
        let stay : state.with_reel d.plan.serial (with_used b) (map (row_of shelf) rs) ≡ map (row_of shelf) rs =
        ap (λ (x : Bool). state.with_reel d.plan.serial (with_used x) (map (row_of shelf) rs)) same ∙ rows_stay more in
        inl (λ i.
        let u : state.State = record {
          up = false;
          size = s.size;
          holding = (down s).holding;
          reels = stay i;
          dumped = s.dumped;
          open_dump = None;
        } in u)

  -- EACH ANSWER
  zero_or_more : (n : ℕ) → (n ≡ 0) ⊎ (0 < n)
  zero_or_more zero = inl refl
  zero_or_more (suc n) = inr (omega arith)

  holds_now : (blocks : List (List ℕ)) → o.disc.held ≡ Some blocks → Holds blocks c
  holds_now blocks held = record {
    directory = o.layout.directory;
    stands = keeps.tied.stands (keeps.live refl) blocks held;
    are = keeps.tied.contents (keeps.live refl) ∙ ap (λ (h : Option (List (List ℕ))). contents_of h o.layout.directory) held;
  }

  used_torn : (block : List ℕ) → nat_lt 0 (left_by (Torn block) at is.on).len ≡ true
  used_torn block = lt-ltb 0 (at + 1) (omega arith)

  pub goes : (new : Rack) → d.done + 1 < needs d.plan → WroteBlock d o.pins old new → (u : state.State) → StandsForState before u
      → LeadsBy IsStepOfDump u before (up_with o new (Some (record { plan = d.plan; done = d.done + 1 }))) (Ok Going)
  goes new less wrote u here =
      let how : Remains = Torn wrote.block in
      let shelved_new = shelved_then d old new how old.write_faults wrote.rack shelf (quiet_shelf d o old reels told.each is text shelf shelved_as up content has how less) in
      leads (Ok Going) (up_with o new (Some (record { plan = d.plan; done = d.done + 1 }))) (uses true od (record s { open_dump = Some (record od { done = od.done + 1 }) })) Plain
      (going_stands new how old.write_faults wrote.rack (used_torn wrote.block) shelved_new) tt (less, (λ e. let no : ⊥ = cc in no), (λ e. absurd (let no : ⊥ = cc in no)), refl) u here

  with_mark : (new : Rack) → d.done + 1 ≡ needs d.plan → (wrote : WroteBlock d o.pins old new) → AreShelved with_made (told_reels new)
  with_mark new last wrote =
      shelved_then d old new (Torn wrote.block) old.write_faults wrote.rack with_made
      (marked_shelf d o old reels told.each is text shelf shelved_as up content has last wrote.block (wrote.next.is is.pins is.pinned content has))

  pub completes : (new : Rack) (o' : OnlineFacts) (n : ℕ) → d.done + 1 ≡ needs d.plan → n ≡ d.plan.number → WroteBlock d o.pins old new → o'.disc.size ≡ o.disc.size → HasClosed d.plan.number o o'
      → (u : state.State) → StandsForState before u → LeadsBy IsStepOfDump u before (up_with o' new None) (Ok (Completed n))
  completes new o' n last number wrote size done u here =
      leads (Ok (Completed n)) (up_with o' new None) (uses true od (completed od k s)) Plain
      (completed_stands new (Torn wrote.block) old.write_faults wrote.rack (used_torn wrote.block) (with_mark new last wrote) o' size done) tt (last, (λ e. let no : ⊥ = cc in no), number, refl) u here

  pub abandons : (o' : OnlineFacts) → Abandoned d o o' → (u : state.State) → StandsForState before u → LeadsBy IsStepOfDump u before (up_with o' old None) (Err DiscReadFault)
  abandons o' left u here =
      leads (Err DiscReadFault) (up_with o' old None) (record s { open_dump = None }) DiscRead (given_up o' left.facts) left.rose (refl, writes_now left.version left.part left.content, refl) u here

  -- the write of the block failed
  module _ (new : Rack) (failed : FailedWrite d o.pins old new) (u : state.State) (here : StandsForState before u) where
    leads_cut : (end : state.State) → StandsForState (spent_with o new) end
        → UsedByCut od (down s) end ⊎ ((od.done + 1 ≡ od.needs) × ((end ≡ uses true od (down (marked od s))) ⊎ (end ≡ uses true od (down (completed od k s)))))
        → LeadsBy IsStepOfDump u before (spent_with o new) (Err Stopped)
    leads_cut end left which = leads (Err Stopped) (spent_with o new) end Cut left (inr failed.rose) (refl, which) u here

    same_shelf : AreShelved shelf (told_reels new) → LeadsBy IsStepOfDump u before (spent_with o new) (Err Stopped)
    same_shelf shelved_new =
        let (blocks, held) = told_is o.disc.held told.disc in
        let b = nat_lt 0 (left_by failed.how at is.on).len in
        leads_cut (uses b od (down s)) (cut_devices new failed.how new.write_faults failed.rack b refl shelved_new blocks held (holds_now blocks held))
        (inl (cut_by new failed.how new.write_faults failed.rack b refl (zero_or_more at)))

    more_shelf : d.done + 1 ≡ needs d.plan → AreShelved with_made (told_reels new) → LeadsBy IsStepOfDump u before (spent_with o new) (Err Stopped)
    more_shelf last shelved_new =
        let (blocks, held) = told_is o.disc.held told.disc in
        leads_cut (uses true od (down (marked od s)))
        (marked_devices new failed.how new.write_faults failed.rack (used_behind new failed.how new.write_faults failed.rack (omega (arith, last))) shelved_new o refl blocks held (holds_now blocks held))
        (inr (last, inl refl))

    pub stops : LeadsBy IsStepOfDump u before (spent_with o new) (Err Stopped)
    stops = by_place (cases_order (d.done + 1) (needs d.plan))
      where
        by_cut : d.done + 1 ≡ needs d.plan
            → AreShelved shelf (map unread (with_reel d.plan.serial (left_by failed.how at) old.reels)) ⊎ AreShelved with_made (map unread (with_reel d.plan.serial (left_by failed.how at) old.reels))
            → LeadsBy IsStepOfDump u before (spent_with o new) (Err Stopped)
        by_cut last (inl same) = same_shelf (shelved_then d old new failed.how new.write_faults failed.rack shelf same)
        by_cut last (inr more) = more_shelf last (shelved_then d old new failed.how new.write_faults failed.rack with_made more)

        by_place : (d.done + 1 ≡ needs d.plan) ⊎ ((d.done + 1 < needs d.plan) ⊎ (needs d.plan < d.done + 1)) → LeadsBy IsStepOfDump u before (spent_with o new) (Err Stopped)
        by_place (inl last) = by_cut last (cut_shelf d o old reels told.each is text shelf shelved_as up content has last failed.how)
        by_place (inr (inl less)) =
            same_shelf (shelved_then d old new failed.how new.write_faults failed.rack shelf (quiet_shelf d o old reels told.each is text shelf shelved_as up content has failed.how less))
        by_place (inr (inr beyond)) = let within = is.within in absurd (let no : ⊥ = omega (arith, within, beyond) in no)

  -- or the commit after the mark
  pub stops_closing : (new : Rack) (o' : OnlineFacts) → d.done + 1 ≡ needs d.plan → WroteBlock d o.pins old new → o'.disc.size ≡ o.disc.size → is_some o'.disc.held ≡ is_some o.disc.held
      → Rose o.disc.write_faults o'.disc.write_faults → StoppedClosing d.plan.number o o' → (u : state.State) → StandsForState before u
      → LeadsBy IsStepOfDump u before (spent_with o' new) (Err Stopped)
  stops_closing new o' last wrote size told_same rose stopped u here =
      let (blocks, held) = told_is o'.disc.held (told_same ∙ told.disc) in
      by_held blocks held (stopped.holds blocks held)
    where
      by_held : (blocks : List (List ℕ)) → o'.disc.held ≡ Some blocks → Holds blocks c ⊎ Holds blocks (closed d.plan.number o) → LeadsBy IsStepOfDump u before (spent_with o' new) (Err Stopped)
      by_held blocks held (inl holds) =
          leads (Err Stopped) (spent_with o' new) (uses true od (down (marked od s))) Cut
          (marked_devices new (Torn wrote.block) old.write_faults wrote.rack (used_torn wrote.block) (with_mark new last wrote) o' size blocks held holds) (inl rose) (refl, inr (last, inl refl)) u here
      by_held blocks held (inr holds) =
          leads (Err Stopped) (spent_with o' new) (uses true od (down (completed od k s))) Cut
          (closed_devices new (Torn wrote.block) old.write_faults wrote.rack (used_torn wrote.block) (with_mark new last wrote) o' size blocks held holds) (inl rose) (refl, inr (last, inr refl)) u here
