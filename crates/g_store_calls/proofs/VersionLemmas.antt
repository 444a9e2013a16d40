-- A call that creates a new version, by one commit or two, for any such call: the state afterwards, what was written, and
-- that disc and rack still belong together.
-- serves: AppendedLemmas, PutLemmas
use Rattle.std.proofs.Common.{◌≡◌, ℕ, ◌<◌, ◌≤◌, ◌+◌, Bool, true, false, List, [], ◌∷◌, get_or, length, map, Option, Some, None, Ok, Err, is_some, refl, sym, ◌∙◌, ap, arith, inl, inr, subst, true≢false, All}
use Rattle.std.specs.Prelude.{◌⊎◌, ◌||◌, ◌&&◌, Contains, IfSome, if◌then◌else◌, nat_lt, not}
use Rattle.std.specs.Option.{option_map}
use Rattle.std.proofs.lemmas.Bool.{cases_Bool, false≢true, ltb-false, ltb-true}
use Rattle.std.proofs.lemmas.List.{get_or-map, length-map}
use Rattle.std.proofs.lemmas.List.Elements.{All-contains, Contains-get_or}
use Rattle.std.proofs.lemmas.Option.{none-some, same_Some}
use Rattle.g_base.specs.Block.{blocks_for}
use Rattle.g_base.specs.Counts.{RoseBy}
use Rattle.g_disc.specs.Disc.{Causes}
use Rattle.g_name.specs.declared.full.Full.{Full}
use Rattle.g_entry.specs.declared.file_rec.FileRec.{FileRec}
use Rattle.g_entry.specs.declared.user_rec.UserRec.{UserRec}
use Rattle.g_tape.specs.Rack.{Rack}
use Rattle.g_tape.specs.Reads.{OnlyReads}
use Rattle.g_tape.specs.Reel.{Reel}
use Rattle.g_plain.specs.declared.calls.StoreCall.{StoreCall}
use Rattle.g_plain.specs.declared.calls.StoreReply.{StoreReply}
use Rattle.g_plain.specs.declared.faults.StoreFault.{StoreFault}
use Rattle.g_plain.specs.declared.faults.StoreFault.TheVariants.{DiscFull, Stopped}
use Rattle.g_plain.specs.PlainStep.{fault_of, reply_to}
use Rattle.g_tree.specs.Records.{full_of, number_of}
use Rattle.g_tree.proofs.RecordLemmas.{numbers_apart}
use Rattle.g_tree.proofs.RuleLemmas.{one_of_key}
use Rattle.g_disc_contents.specs.Contents.{Contents, File, Holds, committed, recs_in, taken_off, with_intent, with_number}
use Rattle.g_disc_contents.specs.Facts.{IsTied, OnlineFacts}
use Rattle.g_disc_contents.proofs.HoldLemmas.{holds_one}
use Rattle.g_online.specs.declared.change.Change.TheVariants.{PutFile}
use Rattle.g_online.specs.AllowedChanges.{KeepsRules}
use Rattle.g_online.specs.Change.{changed, told_bytes, with_files}
use Rattle.g_online.specs.Outcomes.{HasChanged, HasStopped, commits_of}
use Rattle.g_incr.specs.Layout.{Dump, holds}
use Rattle.g_shelf.specs.CompletedDumps.{AreShelved, all_dumps}
use Rattle.g_store_model.specs.State as state
use Rattle.g_store_model.specs.CallStep.{CallStep, Cut, IsUnjam, LeftByRefusal, Plain, after_call, after_unjam, brings_now, down, is_offline, kept_intent, len_of, need, place_of, reel_of, room_until, version_read, writes}
use Rattle.g_store_meaning.specs.Answers.{Belongs, Did, IsStore, Leads, ReadCopy, Told, Wrote}
use Rattle.g_store_meaning.specs.Belonging.{BelongWith, DiscBelongs, RackBelongs}
use Rattle.g_store_meaning.specs.Directories.{IsOwnedBy}
use Rattle.g_store_meaning.specs.Laws.{IsNewVersion, IsQuiet, with_text, with_version}
use Rattle.g_store_meaning.specs.Meaning.{told_reels}
use Rattle.g_store_meaning.specs.Reading.{DevicesStandFor, IsView, StandsForState, View, holding_of, names_of, open_of, row_of, state_down, state_up, tree_by}
use Rattle.g_store_meaning.specs.Staying.{AreMarked, behind}
use Rattle.g_store_meaning.specs.StoreInvariant.{DumpFacts, IsOpen, IsUp, StoreFacts}
use Rattle.g_store_meaning.proofs.BelongLemmas.{new_version_belongs}
use Rattle.g_store_meaning.proofs.ChangeLemmas.{files_belong, intents_belong}
use Rattle.g_store_meaning.proofs.StayLemmas.{stays_open, stays_up}
use Rattle.g_store_meaning.proofs.ViewLemmas.{Stands, back, reads_keep_state}
use Rattle.g_laws_store.specs.Calls.{IsAsked, IsBehind, IsVersionOf, marked, version_made}
use Rattle.g_laws_store.proofs.CallLemmas.{calls_go_by_step}
use Rattle.g_laws_store.proofs.FileLemmas.{offline_recs}
use Rattle.g_laws_store.proofs.DumpingLemmas.{events_stay_up}
use Rattle.g_laws_store.proofs.TiedLemmas.{devices_belong, moved}
use Rattle.g_laws_store.specs.Rooms.{held_in}
use Rattle.g_laws_store.specs.UnjamPlan.{ArePlanned, IsUnjamPlan}
use Rattle.g_laws_store.proofs.UnjamLemmas.{unjam_is}
use Rattle.g_laws_store.proofs.WaitingLemmas.{mapped_there}
use Rattle.g_migrate.specs.Invariant.{with_online}
use Rattle.g_store_calls.specs.Answering.{KeepsPlan}
use Rattle.g_store_calls.specs.Versions.{HasRoom}
use Rattle.g_store_calls.proofs.AddLemmas.{or_false}
use Rattle.g_store_calls.proofs.AheadLemmas.{Ahead, are_pinned, are_planned, asked_of, rules_of}
use Rattle.g_store_calls.proofs.BehindLemmas.{files_seen, opens_behind, view_behind, view_off}
use Rattle.g_store_calls.proofs.CalmLemmas.{leads_same}
use Rattle.g_store_calls.proofs.MarkLemmas.{has_first, only_grow}
use Rattle.g_store_calls.proofs.RoomSteps.{step_full, step_roomy, step_stopped}
use Rattle.g_store_calls.proofs.SeenLemmas.{stands}
use Rattle.g_store_calls.proofs.RecordLemmas.{devices_hold}

-- what a view says of the call: the plain step grants it, it needs this many blocks, and waits for no reel
pub record IsMet (v : View) (reels : List Reel) (o : OnlineFacts) (dump : Option DumpFacts) (who : List ℕ) (call : StoreCall) (blocks : ℕ) : Type 0 where
  pub granted : fault_of (held_in v o).tree who call ≡ None
  pub needs : need (state_up v reels o dump) (held_in v o) who call ≡ blocks
  pub waits : (is_offline (state_up v reels o dump) (held_in v o) who call && not (state.is_mounted (state_up v reels o dump) (reel_of (state_up v reels o dump) (held_in v o) who call))) ≡ false

-- numbers that are the same
less_by : (n m r x : ℕ) → n ≡ m → r ≡ x → r < m → x < n
less_by n m r x one two less = omega (arith, one, two, less)

most_by : (n m r x : ℕ) → n ≡ m → r ≡ x → m ≤ r → n ≤ x
most_by n m r x one two most = omega (arith, one, two, most)

turned : (n m b : ℕ) → n ≡ m → m + b ≡ b + n
turned n m b same = omega (arith, same)

-- TOO FEW BLOCKS, even without everything that may be taken off the disc
module _ (s : StoreFacts) (unspent : s.spent ≡ false) (store : IsStore s) (keeps : KeepsPlan s.dump) (who : List ℕ) (call : StoreCall) (blocks : ℕ) (take : List ℕ) (room : ℕ)
    (plan : IsUnjamPlan blocks s.online take room) (short : room < blocks)
    (met : (v : View) → IsView s.online.disc.held (told_reels s.rack) s.online.contents v → IsMet v (told_reels s.rack) s.online s.dump who call blocks) where
  pub leads_full : (u : state.State) → StandsForState s u → Leads u s s who call (Err (DiscFull blocks room))
  leads_full u here =
      leads_same s who call unspent (Err (DiscFull blocks room)) u here
      (λ v is.
      let up = state_up v (told_reels s.rack) s.online s.dump in
      let k = held_in v s.online in
      let m = met v is in
      let planned = are_planned s v unspent store keeps is in
      let mine : IsUnjamPlan (need up k who call) s.online take room = subst (λ (n : ℕ). IsUnjamPlan n s.online take room) (sym m.needs) plan in
      let reached = unjam_is.reached v (told_reels s.rack) s.online s.dump who call (need up k who call) take room planned mine in
      let needs = m.needs in
      subst (λ (f : StoreFault). CallStep up k who call Plain (Err f) up) (λ i. DiscFull (needs i) (sym reached i))
      (step_full up k who call mine.until (unjam_is.step_is v (told_reels s.rack) s.online s.dump who call take room planned mine) m.granted m.waits (less_by (need up k who call) blocks room (room_until up k who call mine.until) needs reached short)))
      (λ v. tt)

-- RECORDS of files
of_recs : (P : FileRec → Type 0) (files : List File) → All P (map (λ (f : File). f.rec) files) → All (λ f. P f.rec) files
of_recs P files all = λ k d within.
    let long = length-map files (λ (f : File). f.rec) in
    subst P (get_or-map (λ (f : File). f.rec) files k d d.rec within) (all k d.rec (omega (arith, within, long)))

same_files : (b : Bool) (c : Contents) → (committed b c).files ≡ c.files
same_files true c = refl
same_files false c = refl

told_by : (told : Bool) (bytes : List ℕ) → (told_bytes told bytes ≡ Some bytes) ⊎ (told_bytes told bytes ≡ None)
told_by true bytes = inl refl
told_by false bytes = inr refl

-- THE INTENT of a commit
pub intent_by : (b : Bool) (e : Contents) (dump : Option state.OpenDump) → b ≡ is_some dump → (committed b e).head.intent ≡ kept_intent dump e.head.intent
intent_by true e (Some d) same = refl
intent_by false e None same = refl
intent_by true e None same = absurd (true≢false same)
intent_by false e (Some d) same = absurd (false≢true same)

pub held_with : (text : ℕ → List ℕ) (kept : List UserRec) (b : Bool) (e : Contents) → holding_of text kept (committed b e) ≡ record (holding_of text kept e) { intent = (committed b e).head.intent }
held_with text kept true e = refl
held_with text kept false e = refl

some_mapped : {A B : Type 0} (g : A → B) (x : Option A) → is_some (option_map g x) ≡ is_some x
some_mapped g None = refl
some_mapped g (Some y) = refl

stands_spent : (o : OnlineFacts) (dump : Option DumpFacts) (u : state.State) (rack : Rack) → DevicesStandFor o.disc.size o.disc.held (told_reels rack) u
    → StandsForState (record { online = o; rack = rack; dump = dump; spent = true }) u
unfolding Stands
stands_spent o dump u rack is = let devices : Stands true o dump u (told_reels rack) = is in back true o dump u rack devices

-- THE MAKING of a version
module _ (s : StoreFacts) (new : OnlineFacts) (full : Full) (bytes : List ℕ) (r : FileRec) (take : List ℕ) (room : ℕ) (unspent : s.spent ≡ false) (store : IsStore s) (keeps : KeepsPlan s.dump)
    (tied : IsTied new) (size : new.disc.size ≡ s.online.disc.size) (tells : is_some new.disc.held ≡ is_some s.online.disc.held)
    (version : IsVersionOf s.online full r) (len : r.len ≡ length bytes) (roomy : HasRoom (blocks_for (length bytes)) s.online take room) where
  abbrev o : OnlineFacts
  o = s.online

  abbrev c : Contents
  c = s.online.contents

  abbrev reels : List Reel
  reels = told_reels s.rack

  abbrev next : ℕ
  next = s.online.contents.head.next_stamp

  abbrev told : Bool
  told = is_some s.online.disc.held

  abbrev pinned : Bool
  pinned = is_some s.online.pins

  abbrev file_by : Bool → File
  file_by t = record { rec = r; online = true; bytes = told_bytes t bytes }

  abbrev made : Bool → Contents
  made t = with_version (record { rec = r; online = true; bytes = told_bytes t bytes }) take s.online.contents

  abbrev off : Contents
  off = with_files (taken_off take s.online.contents.files) s.online.contents

  pub rules : KeepsRules c
  rules = rules_of s unspent store

  pub below : All (λ g. g.rec.stamp < next) c.files
  below = of_recs (λ (q : FileRec). q.stamp < next) c.files rules.dated

  pub put_is : (t p : Bool) → changed t p (PutFile r bytes take) c ≡ committed p (made t)
  unfolding changed
  put_is t p = ap (λ (b : Bool). committed b (made t)) (or_false p)

  pub is_new : (t : Bool) → IsNewVersion c (file_by t) bytes
  is_new t = record { stamp = version.stamp; tape = version.tape; len = sym len; told = told_by t bytes }

  owned : All (IsOwnedBy r.number r.owner) c.files
  owned i d within = by_place version.place (mapped_there (λ (f : File). f.rec) c.files (get_or c.files i d) (Contains-get_or c.files i d within))
    where
      by_place : ((old : FileRec) × Contains (recs_in c) old × (old.number ≡ r.number) × (full_of c.users old ≡ full) × (old.owner ≡ r.owner) × (old.traps ≡ r.traps))
          ⊎ ((number_of c.users (recs_in c) full ≡ None) × All (λ (q : FileRec). q.number ≡ r.number → ⊥) (recs_in c) × (r.traps ≡ record { owner = 31; others = [] }))
          → Contains (recs_in c) (get_or c.files i d).rec → (get_or c.files i d).rec.number ≡ r.number → (get_or c.files i d).rec.owner ≡ r.owner
      by_place (inl (old, in_recs, number, name, owner, traps)) there same =
          ap (λ (q : FileRec). q.owner) (one_of_key (λ (q : FileRec). q.number) (recs_in c) (get_or c.files i d).rec old (numbers_apart c.users (recs_in c) rules.records) there in_recs (same ∙ sym number))
          ∙ owner
      by_place (inr (none, others, traps)) there same = absurd (All-contains (λ (q : FileRec). q.number ≡ r.number → ⊥) (recs_in c) (get_or c.files i d).rec others there same)

  committed_belongs : (text : ℕ → List ℕ) (shelf : ℕ → List Dump) (b : Bool) (x : Contents) → IsQuiet shelf reels x → DiscBelongs text shelf reels x → DiscBelongs text shelf reels (committed b x)
  committed_belongs text shelf true x quiet belongs = belongs
  committed_belongs text shelf false x quiet belongs = intents_belong.dropped text shelf reels x quiet belongs

  -- DONE
  module _ (done : HasChanged (PutFile r bytes take) s.online new) where
    pub contents_are : new.contents ≡ committed pinned (made told)
    contents_are = done.contents ∙ put_is told pinned

    touched_are : pinned ≡ true → new.touched ≡ marked (r.owner ∷ []) o.touched
    touched_are is = done.touched ∙ ap (λ (b : Bool). let ns : List ℕ = if b then with_number r.owner o.touched else [] in ns) is

    pub behind_is : IsBehind o (made told) (r.owner ∷ []) new
    behind_is = record { size = size; contents = contents_are; pins = done.pins; changed = done.changed; touched = touched_are }

    touched_by : (dump : Option DumpFacts) → IfSome dump (λ d. IsOpen d o s.rack) → IfSome dump (λ d. new.touched ≡ marked (r.owner ∷ []) o.touched)
    touched_by None open_is = tt
    touched_by (Some d) open_is = touched_are (ap is_some open_is.pinned)

    has_open : (dump : Option DumpFacts) → IfSome dump (λ d. IsOpen d o s.rack) → IfSome dump (λ d. holds new.touched r.owner ≡ true)
    has_open None open_is = tt
    has_open (Some d) open_is = ap (λ (ns : List ℕ). holds ns r.owner) (touched_are (ap is_some open_is.pinned)) ∙ has_first r.owner [] o.touched

    are_marked : AreMarked s r.owner new.changed new.touched
    are_marked = record {
      grow = only_grow s (r.owner ∷ []) new.changed new.touched done.changed (touched_by s.dump (store.open_dump unspent));
      has = ap (λ (ns : List ℕ). holds ns r.owner) done.changed ∙ has_first r.owner [] o.changed;
      has_open = has_open s.dump (store.open_dump unspent);
    }

    pub store_done : IsStore (record s { online = new; spent = false })
    store_done = record {
      tied = tied;
      live = λ up. done.live;
      open_dump = λ up. by_dump s.dump (store.open_dump unspent);
      pins = λ up none. done.pins ∙ store.pins unspent none;
    }
      where
        by_dump : (dump : Option DumpFacts) → IfSome dump (λ d. IsOpen d o s.rack) → IfSome dump (λ d. IsOpen d new s.rack)
        by_dump None open_is = tt
        by_dump (Some d) open_is =
            let same : new.contents ≡ made told = contents_are ∙ ap (λ (b : Bool). committed b (made told)) (ap is_some open_is.pinned) in
            stays_open d o new s.rack s.rack (ap (λ (x : Contents). x.head.intent) same) (ap (λ (x : Contents). x.head.last_dump) same) done.pins refl open_is

    up_made : (text : ℕ → List ℕ) (shelf : ℕ → List Dump) → IsUp text shelf s → IsUp (with_text next bytes text) shelf (behind s (made told) new.changed new.touched)
    up_made text shelf was = stays_up.version text shelf s (file_by told) bytes take new.changed new.touched rules.records.numbers below (is_new told) owned are_marked was

    up_by : (dump : Option DumpFacts) → s.dump ≡ dump → IfSome dump (λ d. IsOpen d o s.rack) → (text : ℕ → List ℕ) (shelf : ℕ → List Dump) → IsUp text shelf s
        → IsUp (with_text next bytes text) shelf (with_online new s)
    up_by None none open_is text shelf was =
        let same = contents_are ∙ ap (λ (b : Bool). committed b (made told)) (ap is_some (store.pins unspent none)) in
        moved (with_text next bytes text) shelf s new (with_intent None (made told)) same done.pins
        (events_stay_up.dropped (with_text next bytes text) shelf (behind s (made told) new.changed new.touched) none (up_made text shelf was))
    up_by (Some d) some open_is text shelf was =
        let same = contents_are ∙ ap (λ (b : Bool). committed b (made told)) (ap is_some open_is.pinned) in
        moved (with_text next bytes text) shelf s new (made told) same done.pins (up_made text shelf was)

    pub belongs_done : Belongs s → Belongs (record s { online = new; spent = false })
    belongs_done was =
        let (text, shelf, shelved, up) = was.up unspent in
        let after : IsUp (with_text next bytes text) shelf (record s { online = new; spent = false }) =
        subst (λ (b : Bool). IsUp (with_text next bytes text) shelf (record s { online = new; spent = not b })) done.live (up_by s.dump refl (store.open_dump unspent) text shelf up) in
        record {
          devices = devices_belong (with_text next bytes text) shelf reels new tied done.live shelved after.rack after.disc;
          up = λ up_then. (with_text next bytes text, shelf, shelved, after);
        }

  -- BY A VIEW in which no dump is ahead
  module _ (belongs : Told s → Belongs s) (u : state.State) (a : Ahead s u) (who : List ℕ) (call : StoreCall) (met : IsMet a.view (told_reels s.rack) s.online s.dump who call (blocks_for (length bytes)))
      (makes : version_made (held_in a.view s.online).tree who call ≡ Some (full, bytes)) (write : writes call ≡ true) where
    abbrev v : View
    v = a.view

    abbrev up : state.State
    up = state_up a.view (told_reels s.rack) s.online s.dump

    abbrev k : state.Holding
    k = held_in a.view s.online

    abbrev behind_view : View
    behind_view = record a.view { text = with_text s.online.contents.head.next_stamp bytes a.view.text }

    pub asked : IsAsked v o s.dump
    asked = asked_of s u unspent store keeps a

    pub planned : ArePlanned v o s.dump
    planned = are_planned s v unspent store keeps a.is

    pub plan : IsUnjamPlan (need up k who call) o take room
    plan = subst (λ (n : ℕ). IsUnjamPlan n o take room) (sym met.needs) roomy.plan

    abbrev until : ℕ
    until = plan.until

    pub unjam : IsUnjam up k who call plan.until
    unjam = unjam_is.step_is v reels o s.dump who call take room planned plan

    pub enough : need up k who call ≤ room_until up k who call plan.until
    enough =
        let reached = unjam_is.reached v reels o s.dump who call (need up k who call) take room planned plan in
        most_by (need up k who call) (blocks_for (length bytes)) room (room_until up k who call plan.until) met.needs reached roomy.enough

    pub view_after : (t : Bool) (b : Bool) → IsView new.disc.held reels (committed b (made t)) behind_view
    view_after t b =
        view_behind s unspent store belongs v a.is new.disc.held tells bytes (file_by t) version.stamp (sym len) (told_by t bytes) refl below a.dumped take (committed b (made t)) (same_files b (made t))

    pub commits_are : ((commits_of (PutFile r bytes take) ≡ 1) × ((stamp : ℕ) → state.is_taken k plan.until stamp ≡ false))
        ⊎ ((commits_of (PutFile r bytes take) ≡ 2) × (stamp : ℕ) × (state.is_taken k plan.until stamp ≡ true))
    commits_are = by_take (cases_Bool (nat_lt 0 (length take)))
      where
        by_take : (nat_lt 0 (length take) ≡ true) ⊎ (nat_lt 0 (length take) ≡ false)
            → ((commits_of (PutFile r bytes take) ≡ 1) × ((stamp : ℕ) → state.is_taken k plan.until stamp ≡ false))
            ⊎ ((commits_of (PutFile r bytes take) ≡ 2) × (stamp : ℕ) × (state.is_taken k plan.until stamp ≡ true))
        by_take (inl is) =
            let (stamp, taken) = unjam_is.takes v o s.dump (need up k who call) take room planned plan (ltb-true 0 (length take) is) in
            inr (ap (λ (b : Bool). let n : ℕ = if b then 2 else 1 in n) is, stamp, taken)
        by_take (inr isnt) =
            let none : length take ≡ 0 = (let le = ltb-false 0 (length take) isnt in omega (arith, le)) in
            inl (ap (λ (b : Bool). let n : ℕ = if b then 2 else 1 in n) isnt, unjam_is.takes_none v o s.dump (need up k who call) take room planned plan none)

    -- reels may have been read in the call
    module _ (done : HasChanged (PutFile r bytes take) s.online new) (after : Rack) (only : OnlyReads s.rack after) where
      pub wrote : Wrote up k who call s (record s { online = new; rack = after; spent = false })
      wrote =
          record {
            count = commits_of (PutFile r bytes take);
            are = inr (ap (λ (b : Bool). b || brings_now up k who call) write, plan.until, unjam, commits_are);
            blocks = done.blocks;
            commits = done.commits;
            writes = subst (λ (n : ℕ). RoseBy n o.disc.writes new.disc.writes)
                (turned (need up k who call) (blocks_for (length bytes)) done.blocks met.needs) done.writes;
          }

      pub leads_done : (reply : StoreReply) → reply ≡ reply_to k.tree who call
          → (is_offline up k who call ≡ true → ReadCopy (place_of up k who call (version_read k.tree who call)).copy (len_of up k who call (version_read k.tree who call)) s (record s { online = new; rack = after; spent = false }))
          → Leads u s (record s { online = new; rack = after; spent = false }) who call (Ok reply)
      leads_done reply replied read =
          let then_ : StoreFacts = record s { online = new; spent = false } in
          let end = state_up behind_view reels new s.dump in
          let state_is : end ≡ after_call up k who call plan.until =
          calls_go_by_step.puts v reels o new s.dump who call full bytes (file_by told) take room asked makes version refl met.granted plan (behind_is done) in
          let right : IsView new.disc.held reels new.contents behind_view = subst (λ (x : Contents). IsView new.disc.held reels x behind_view) (sym (contents_are done)) (view_after told pinned) in
          record {
            after = end;
            left = reads_keep_state then_ after end only (stands then_ end refl (record { view = behind_view; is = right; opens = opens_behind reels v bytes o new s.dump tells done.pins a.opened a.opens; state_is = refl }));
            held = k;
            holds = ap (λ (t : state.State). t.holding) a.state_is;
            outcome = Plain;
            raised = tt;
            step = subst (λ (t : state.State). CallStep t k who call Plain (Ok reply) end) (sym a.state_is) (step_roomy up k who call plan.until unjam met.granted met.waits enough reply end replied state_is);
            did = subst (λ (t : state.State). Did t k who call s (record s { online = new; rack = after; spent = false })) (sym a.state_is) (record { wrote = wrote; read = read });
          }

    -- STOPPED at one of the writes
    module _ (stopped : HasStopped (PutFile r bytes take) s.online new) (causes : Causes ⊥ (Unit {0}) s.online.disc new.disc) (after : Rack) (only : OnlyReads s.rack after) where
      would_be : OnlineFacts
      would_be = record o { contents = committed pinned (made true); changed = marked (r.owner ∷ []) o.changed; touched = marked (r.owner ∷ []) o.touched }

      behind_would : IsBehind o (made true) (r.owner ∷ []) would_be
      unfolding would_be
      behind_would = record { size = refl; contents = refl; pins = refl; changed = refl; touched = λ some. refl }

      held_off : holding_of v.text [] (committed pinned off)
          ≡ (let h : state.Holding = record (state.taken_offline plan.until k) { intent = kept_intent up.open_dump k.intent; kept = names_of [] } in h)
      held_off =
          held_with v.text [] pinned off
          ∙ (λ i. let h : state.Holding = record {
            tree = tree_by v.text c.users (offline_recs take c.files i) c.head.next_stamp;
            places = unjam_is.places_are v o s.dump (need up k who call) take room planned plan i;
            last = c.head.last_dump;
            intent = intent_by pinned off up.open_dump (are_pinned s unspent store ∙ sym (some_mapped (open_of v o) s.dump)) i;
            kept = names_of [];
          } in h)

      down_off : state_down v reels new.disc.size (Some (committed pinned off)) ≡ down (after_unjam up k who call plan.until)
      down_off =
          λ i.
          let t : state.State = record { up = false; size = size i; holding = Some (held_off i); reels = map (row_of v.shelf) reels; dumped = up.dumped; open_dump = None } in t

      down_before : state_down v reels new.disc.size (Some c) ≡ down up
      down_before = ap (λ (n : ℕ). state_down v reels n (Some c)) size

      down_behind : state_down behind_view reels new.disc.size (Some (committed pinned (made true))) ≡ down (after_call up k who call plan.until)
      unfolding would_be
      down_behind =
          ap (λ (n : ℕ). state_down behind_view reels n (Some (committed pinned (made true)))) size
          ∙ ap down (calls_go_by_step.puts v reels o would_be s.dump who call full bytes (file_by true) take room asked makes version refl met.granted plan behind_would)

      leads_by : (w : View) (x : Contents) (blocks : List (List ℕ)) → new.disc.held ≡ Some blocks → Holds blocks x → IsView new.disc.held reels x w
          → LeftByRefusal up k who call Cut plan.until Stopped (state_down w reels new.disc.size (Some x))
          → Leads u s (record s { online = new; rack = after; spent = true }) who call (Err Stopped)
      leads_by w x blocks held holds_x right left =
          let end = state_down w reels new.disc.size (Some x) in
          let devices = devices_hold new.disc.size new.disc.held reels end w x blocks held holds_x right refl in
          record {
            after = end;
            left = reads_keep_state (record s { online = new; spent = true }) after end only (stands_spent new s.dump end s.rack devices);
            held = k;
            holds = ap (λ (t : state.State). t.holding) a.state_is;
            outcome = Cut;
            raised = inl (causes.writes_rose tt);
            step = subst (λ (t : state.State). CallStep t k who call Cut (Err Stopped) end) (sym a.state_is) (step_stopped up k who call plan.until unjam met.granted met.waits enough write end left);
            did = tt;
          }

      leads_one : (blocks : List (List ℕ)) → new.disc.held ≡ Some blocks
          → Holds blocks c ⊎ (((0 < length take) × Holds blocks (committed pinned off)) ⊎ Holds blocks (changed true pinned (PutFile r bytes take) c))
          → Leads u s (record s { online = new; rack = after; spent = true }) who call (Err Stopped)
      leads_one blocks held (inl now) = leads_by v c blocks held now (files_seen o.disc.held new.disc.held reels v c tells a.is) (inl down_before)
      leads_one blocks held (inr (inl (some, now))) =
          leads_by v (committed pinned off) blocks held now (view_off s unspent store belongs v a.is new.disc.held tells take (committed pinned off) (same_files pinned off))
          (inr (inl (unjam_is.takes v o s.dump (need up k who call) take room planned plan some, down_off)))
      leads_one blocks held (inr (inr now)) =
          leads_by behind_view (committed pinned (made true)) blocks held (subst (Holds blocks) (put_is true pinned) now) (view_after true pinned) (inr (inr down_behind))

      pub leads_stopped : Told s → Leads u s (record s { online = new; rack = after; spent = true }) who call (Err Stopped)
      leads_stopped all =
          let (blocks, held) = some_of new.disc.held (tells ∙ all.disc) in leads_one blocks held (stopped.holds blocks held).one
        where
          some_of : (x : Option (List (List ℕ))) → is_some x ≡ true → (y : List (List ℕ)) × (x ≡ Some y)
          some_of None is = absurd (false≢true is)
          some_of (Some y) is = (y, refl)

  -- whichever of the three contents the disc holds, it belongs to the rack
  module _ (stopped : HasStopped (PutFile r bytes take) s.online new) where
    belong_by : (text : ℕ → List ℕ) (shelf : ℕ → List Dump) (blocks : List (List ℕ)) (x : Contents) → AreShelved shelf reels → RackBelongs text (all_dumps shelf reels) → new.disc.held ≡ Some blocks
        → Holds blocks x → DiscBelongs text shelf reels x → BelongWith new.disc.held reels
    belong_by text shelf blocks x shelved rack held holds_x disc = record {
      text = text;
      shelf = shelf;
      shelved = shelved;
      rack = rack;
      disc = λ others y told_y holds_y.
          let same : blocks ≡ others = same_Some blocks others (sym held ∙ told_y) in
          subst (DiscBelongs text shelf reels) (holds_one others x y (subst (λ (b : List (List ℕ)). Holds b x) same holds_x) holds_y) disc;
    }

    belong_one : (text : ℕ → List ℕ) (shelf : ℕ → List Dump) (blocks : List (List ℕ)) → AreShelved shelf reels → IsUp text shelf s → new.disc.held ≡ Some blocks
        → Holds blocks c ⊎ (((0 < length take) × Holds blocks (committed pinned off)) ⊎ Holds blocks (changed true pinned (PutFile r bytes take) c)) → BelongWith new.disc.held reels
    belong_one text shelf blocks shelved up held (inl now) = belong_by text shelf blocks c shelved up.rack held now up.disc
    belong_one text shelf blocks shelved up held (inr (inl (some, now))) =
        belong_by text shelf blocks (committed pinned off) shelved up.rack held now
        (committed_belongs text shelf pinned off up.quiet (files_belong.offline text shelf reels c take up.disc))
    belong_one text shelf blocks shelved up held (inr (inr now)) =
        let both = new_version_belongs text shelf reels c (file_by true) bytes take up.rack up.disc below (is_new true) in
        belong_by (with_text next bytes text) shelf blocks (committed pinned (made true)) shelved both.0 held (subst (Holds blocks) (put_is true pinned) now)
        (committed_belongs (with_text next bytes text) shelf pinned (made true) up.quiet both.1)

    by_held : (x : Option (List (List ℕ))) → new.disc.held ≡ x → (text : ℕ → List ℕ) (shelf : ℕ → List Dump) → AreShelved shelf reels → IsUp text shelf s → BelongWith new.disc.held reels
    by_held None none text shelf shelved up = record {
      text = text;
      shelf = shelf;
      shelved = shelved;
      rack = up.rack;
      disc = λ others y told_y holds_y. absurd (none-some others (sym none ∙ told_y));
    }
    by_held (Some blocks) held text shelf shelved up = belong_one text shelf blocks shelved up held (stopped.holds blocks held).one

    pub belongs_stopped : Belongs s → Belongs (record s { online = new; spent = true })
    belongs_stopped was =
        let (text, shelf, shelved, up) = was.up unspent in
        record { devices = by_held new.disc.held refl text shelf shelved up; up = λ no. absurd (true≢false no) }
