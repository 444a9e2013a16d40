-- A call that changes records by one commit, for any store that the filestore belongs to.
-- serves: AddLemmas, BudgetLemmas, EraseLemmas, GrantedLemmas, RenameLemmas, SetLemmas, TrapLemmas, VersionLemmas, crates above
use Rattle.std.proofs.Common.{◌≡◌, ◌≢◌, ℕ, ◌<◌, ◌≤◌, ◌+◌, Bool, true, false, List, [], ◌∷◌, length, Option, Some, None, Result, Ok, Err, refl, sym, ◌∙◌, ap, arith, inl, inr, subst, true≢false, All}
use Rattle.std.specs.Prelude.{◌⊎◌, ◌||◌, ◌&&◌, IfSome, if◌then◌else◌, is_some, nat_lt, not, Contains}
use Rattle.std.proofs.lemmas.Bool.{false≢true, le-ltb}
use Rattle.g_base.specs.Counts.{RoseBy}
use Rattle.g_disc.specs.Disc.{Causes}
use Rattle.g_disc.proofs.CallLemmas.{Causes-for}
use Rattle.g_tape.specs.Rack.{Rack}
use Rattle.g_tape.specs.Reel.{Reel}
use Rattle.g_tape.proofs.ReadLemmas.{nothing_read}
use Rattle.g_plain.specs.declared.calls.StoreCall.{StoreCall}
use Rattle.g_plain.specs.declared.calls.StoreReply.{StoreReply}
use Rattle.g_plain.specs.declared.faults.StoreFault.{StoreFault}
use Rattle.g_plain.specs.declared.faults.StoreFault.TheVariants.{NoMemory, Stopped}
use Rattle.g_plain.specs.PlainStep.{fault_of}
use Rattle.g_tree.specs.Records.{IsRecords, ForTree, full_of}
use Rattle.g_disc_contents.specs.Commits.{Commits}
use Rattle.g_disc_contents.specs.Contents.{Contents, File, Holds, committed, recs_in, with_intent, with_number}
use Rattle.g_disc_contents.specs.Facts.{IsTied, OnlineFacts}
use Rattle.g_disc_contents.proofs.HoldLemmas.{holds_one}
use Rattle.g_online.specs.declared.change.Change.{Change}
use Rattle.g_online.specs.Change.{changed, need_of, touches, unjammed, unjammed_by, with_all}
use Rattle.g_online.specs.Outcomes.{HasChanged, HasStopped, commits_of}
use Rattle.g_incr.specs.Layout.{Dump}
use Rattle.g_store_model.specs.State.{Holding, State, is_candidate, is_taken, place_at}
use Rattle.g_store_model.specs.CallStep.{CallStep, Cut, IsUnjam, LeftByRefusal, Plain, after_call, brings_now, down, is_offline, need, writes}
use Rattle.g_store_meaning.specs.Answers.{Answers, Belongs, Did, IsAnswered, IsStore, Leads, Told}
use Rattle.g_store_meaning.specs.Belonging.{DiscBelongs}
use Rattle.g_store_meaning.specs.Laws.{IsQuiet}
use Rattle.g_store_meaning.specs.Meaning.{told_reels}
use Rattle.g_store_meaning.specs.Reading.{AllTold, DevicesStandFor, HasText, IsOpenView, IsRackView, IsView, StandsForState, View, state_down, state_up}
use Rattle.g_store_meaning.specs.Staying.{behind}
use Rattle.g_store_meaning.specs.StoreInvariant.{DumpFacts, IsOpen, IsUp, StoreFacts}
use Rattle.g_store_meaning.proofs.ChangeLemmas.{intents_belong}
use Rattle.g_store_meaning.proofs.ViewLemmas.{Stands, back}
use Rattle.g_store_meaning.proofs.StayLemmas.{stays_open}
use Rattle.g_laws_store.specs.Calls.{IsBehind, IsKnown, marked}
use Rattle.g_laws_store.proofs.DumpingLemmas.{events_stay_up}
use Rattle.g_laws_store.proofs.TiedLemmas.{devices_belong, moved}
use Rattle.g_laws_store.specs.Rooms.{held_in}
use Rattle.g_migrate.specs.Invariant.{with_online}
use Rattle.g_store_calls.specs.Answering.{AnswersIn}
use Rattle.g_store_calls.specs.AppliedChange.{HasApplied, answer_with}
use Rattle.g_store_calls.specs.Replies.{RefusesAs}
use Rattle.g_store_calls.proofs.CalmLemmas.{calmly, nothing_unjammed, same_store, step_done, texts_fit}
use Rattle.g_store_calls.proofs.SeenLemmas.{Seen, seen, stands}
use Rattle.g_store_calls.proofs.StepLemmas.{here_early, late_stops, none_lacks, step_late}
use Rattle.g_store_calls.proofs.SurvivalLemmas.{IsStoppedAt, stays_durable, stop_survives}
use Rattle.g_store_calls.proofs.KindLemmas.{RepliesAs}
use Rattle.g_entry.specs.declared.file_rec.FileRec.{FileRec}
use Rattle.g_entry.specs.declared.user_rec.UserRec.{UserRec}
use Rattle.g_name.specs.declared.full.Full.{Full}
use Rattle.g_name.specs.declared.path.Path.{Path}
use Rattle.g_plain.specs.PlainTree.{input_name}

-- the file that a path names for input, and its full name
pub record IsFileNamed (users : List UserRec) (files : List FileRec) (who : List ℕ) (path : Path) (r : FileRec) (full : Full) : Type 0 where
  pub there : Contains files r
  pub name_is : full_of users r ≡ full
  pub named : ForTree users files (λ t. full ≡ input_name t who path)

-- WHAT IS KNOWN of the call, of its change, of the contents that it makes, and of the users that it marks
pub record IsRecorded (o : OnlineFacts) (who : List ℕ) (call : StoreCall) (change : Change) (e : Contents) (owners : List ℕ) (reply : StoreReply) : Type 0 where
  pub live : o.live ≡ true
  pub records : IsRecords o.contents.users (recs_in o.contents)
  pub changes : (told pinned : Bool) → changed told pinned change o.contents ≡ committed pinned e
  pub alone : unjammed_by change ≡ []
  pub no_blocks : need_of change ≡ 0
  pub touched : touches change o.contents ≡ owners
  pub write : writes call ≡ true
  pub off : (u : State) (k : Holding) → is_offline u k who call ≡ false
  pub none : (u : State) (k : Holding) → need u k who call ≡ 0
  pub head : e.head ≡ o.contents.head
  pub granted : RefusesAs o.contents.users (recs_in o.contents) o.contents.head.next_stamp who call None
  pub replied : RepliesAs o.contents.users (recs_in o.contents) o.contents.head.next_stamp who call reply
  pub goes : (v : View) (reels : List Reel) (new : OnlineFacts) (dump : Option DumpFacts) → IsKnown o dump → fault_of (held_in v o).tree who call ≡ None
      → IsUnjam (state_up v reels o dump) (held_in v o) who call 0 → IsBehind o e owners new → state_up v reels new dump ≡ after_call (state_up v reels o dump) (held_in v o) who call 0
  pub texts : (held : Option (List (List ℕ))) (reels : List Reel) (v : View) → All (λ f. HasText (AllTold held reels) (v.text f.rec.stamp) v.dumps f) o.contents.files
      → All (λ f. HasText (AllTold held reels) (v.text f.rec.stamp) v.dumps f) e.files
  pub up : (text : ℕ → List ℕ) (shelf : ℕ → List Dump) (s : StoreFacts) (changed touched : List ℕ) → s.online ≡ o → changed ≡ marked owners o.changed
      → IfSome s.dump (λ d. touched ≡ marked owners o.touched) → IsUp text shelf s → IsUp text shelf (behind s e changed touched)
  pub belongs : (text : ℕ → List ℕ) (shelf : ℕ → List Dump) (reels : List Reel) → DiscBelongs text shelf reels o.contents → DiscBelongs text shelf reels e

-- both ways of marking
all_marked : (ns numbers : List ℕ) → with_all ns numbers ≡ marked ns numbers
all_marked [] numbers = refl
all_marked (n ∷ ns) numbers = ap (with_number n) (all_marked ns numbers)

-- with or without an intent
same_files : (b : Bool) (e : Contents) → (committed b e).files ≡ e.files
same_files true e = refl
same_files false e = refl

told_back : (held now : Option (List (List ℕ))) (reels : List Reel) → is_some now ≡ is_some held → AllTold now reels → AllTold held reels
told_back disc now reels same told = record { disc = sym same ∙ told.disc; each = told.each }

some_of : {A : Type 0} (o : Option A) → is_some o ≡ true → (x : A) × (o ≡ Some x)
some_of None is = absurd (false≢true is)
some_of (Some x) is = (x, refl)

stands_spent : (o : OnlineFacts) (dump : Option DumpFacts) (u : State) (rack : Rack) → DevicesStandFor o.disc.size o.disc.held (told_reels rack) u
    → StandsForState (record { online = o; rack = rack; dump = dump; spent = true }) u
unfolding Stands
stands_spent o dump u rack is = let devices : Stands true o dump u (told_reels rack) = is in back true o dump u rack devices

-- what devices represent if the disc holds these contents
pub devices_hold : (size : ℕ) (held : Option (List (List ℕ))) (reels : List Reel) (u : State) (v : View) (c : Contents) (blocks : List (List ℕ)) → held ≡ Some blocks → Holds blocks c
    → IsView held reels c v → u ≡ state_down v reels size (Some c) → DevicesStandFor size held reels u
devices_hold size held reels u v c blocks has holds seen is = record {
  view = v;
  contents = Some c;
  is = (blocks, has, holds, seen);
  none = λ no. absurd (true≢false no);
  rack = seen.rack;
  state_is = is;
}

-- a step that was cut
module _ (u : State) (k : Holding) (who : List ℕ) (call : StoreCall) (off : is_offline u k who call ≡ false) (none : need u k who call ≡ 0) (write : writes call ≡ true) where
  step_cut : (new : State) → fault_of k.tree who call ≡ None → LeftByRefusal u k who call Cut 0 Stopped new → CallStep u k who call Cut (Err Stopped) new
  step_cut new granted left =
      step_late u k who call Cut Stopped 0 new (here_early u k who call Cut granted off refl) (nothing_unjammed u k who call off none)
      (late_stops u k who call Cut 0 (none_lacks u k who call Cut none) refl (ap (λ (b : Bool). b || brings_now u k who call) write)) left

-- THE CALL
module _ (s : StoreFacts) (new : OnlineFacts) (who : List ℕ) (call : StoreCall) (change : Change) (e : Contents) (owners : List ℕ) (reply : StoreReply)
    (is : IsRecorded s.online who call change e owners reply) (unspent : s.spent ≡ false) (store : IsStore s)
    (size : new.disc.size ≡ s.online.disc.size) (tells : is_some new.disc.held ≡ is_some s.online.disc.held) (tied : IsTied new) where
  abbrev o : OnlineFacts
  o = s.online

  abbrev reels : List Reel
  reels = told_reels s.rack

  pinned_by : (dump : Option DumpFacts) → s.dump ≡ dump → IfSome dump (λ d. IsOpen d o s.rack) → is_some o.pins ≡ is_some dump
  pinned_by None none open_is = ap is_some (store.pins unspent none)
  pinned_by (Some d) some open_is = ap is_some open_is.pinned

  pinned : is_some o.pins ≡ is_some s.dump
  pinned = pinned_by s.dump refl (store.open_dump unspent)

  known : IsKnown o s.dump
  known = record { records = is.records; pinned = pinned }

  told_on : Told s → AllTold new.disc.held reels
  told_on told = told_back new.disc.held o.disc.held reels (sym tells) told

  back_to : AllTold new.disc.held reels → Told s
  back_to told = told_back o.disc.held new.disc.held reels tells told

  granted_by : (v : View) → IsView o.disc.held reels o.contents v → fault_of (held_in v o).tree who call ≡ None
  granted_by v view = sym (is.granted (λ r. v.text r.stamp) (texts_fit (AllTold o.disc.held reels) v o.contents view.files))

  -- the view stays right
  rack_seen : (v : View) → IsRackView o.disc.held reels v → IsRackView new.disc.held reels v
  rack_seen v right = record {
    shelved = right.shelved;
    all = right.all;
    dumped = λ told. right.dumped (back_to told);
    none = λ told. right.none (back_to told);
  }

  texts_back : (v : View) (files : List File) → All (λ f. HasText (AllTold o.disc.held reels) (v.text f.rec.stamp) v.dumps f) files
      → All (λ f. HasText (AllTold new.disc.held reels) (v.text f.rec.stamp) v.dumps f) files
  texts_back v files are i d within = let has = are i d within in record { len = has.len; bytes = has.bytes; tape = λ told. has.tape (back_to told) }

  seen_before : (v : View) → IsView o.disc.held reels o.contents v → IsView new.disc.held reels o.contents v
  seen_before v view = record { rack = rack_seen v view.rack; files = texts_back v o.contents.files view.files }

  seen_behind : (v : View) (b : Bool) → IsView o.disc.held reels o.contents v → IsView new.disc.held reels (committed b e) v
  seen_behind v b view = record {
    rack = rack_seen v view.rack;
    files = subst (All (λ f. HasText (AllTold new.disc.held reels) (v.text f.rec.stamp) v.dumps f)) (sym (same_files b e))
        (is.texts new.disc.held reels v (texts_back v o.contents.files view.files));
  }

  -- DONE
  module _ (done : HasChanged change o new) (causes : Causes ⊥ ⊥ o.disc new.disc) where
    contents_are : new.contents ≡ committed (is_some o.pins) e
    contents_are = done.contents ∙ is.changes (is_some o.disc.held) (is_some o.pins)

    changed_are : new.changed ≡ marked owners o.changed
    changed_are = done.changed ∙ ap (λ (ns : List ℕ). with_all ns o.changed) is.touched ∙ all_marked owners o.changed

    touched_are : is_some o.pins ≡ true → new.touched ≡ marked owners o.touched
    touched_are some =
        done.touched ∙ ap (λ (b : Bool). if b then with_all (touches change o.contents) o.touched else []) some
        ∙ ap (λ (ns : List ℕ). with_all ns o.touched) is.touched ∙ all_marked owners o.touched

    behind_is : IsBehind o e owners new
    behind_is = record { size = size; contents = contents_are; pins = done.pins; changed = changed_are; touched = touched_are }

    abbrev after : StoreFacts
    after = record s { online = new; spent = false }

    state_is : (v : View) → IsView o.disc.held reels o.contents v → state_up v reels new s.dump ≡ after_call (state_up v reels o s.dump) (held_in v o) who call 0
    state_is v view =
        is.goes v reels new s.dump known (granted_by v view)
        (nothing_unjammed (state_up v reels o s.dump) (held_in v o) who call (is.off (state_up v reels o s.dump) (held_in v o)) (is.none (state_up v reels o s.dump) (held_in v o))) behind_is

    did : (u : State) (k : Holding) → Did u k who call s after
    did u k =
        let nothing = is.none u k in
        let one : commits_of change ≡ 1 = ap (λ (ns : List ℕ). if nat_lt 0 (length ns) then 2 else 1) is.alone in
        let blocks : need_of change + done.blocks ≡ done.blocks + need u k who call = (let no_blocks = is.no_blocks in omega (arith, nothing, no_blocks)) in
        record {
          wrote = record {
            count = 1;
            are = inr (ap (λ (b : Bool). b || brings_now u k who call) is.write, 0, nothing_unjammed u k who call (is.off u k) nothing, inl (refl, λ stamp. none_taken stamp k));
            blocks = done.blocks;
            commits = subst (λ (n : ℕ). Commits n o.layout new.layout done.blocks) one done.commits;
            writes = subst (λ (n : ℕ). RoseBy n o.disc.writes new.disc.writes) blocks done.writes;
          };
          read = λ offline. absurd (false≢true (sym (is.off u k) ∙ offline));
        }
      where
        none_taken : (stamp : ℕ) (k : Holding) → is_taken k 0 stamp ≡ false
        none_taken stamp k = ap (λ (b : Bool). b && is_candidate (place_at k.places stamp)) (le-ltb stamp 0 (omega arith))

    leads_done : (u : State) → StandsForState s u → Leads u s after who call (Ok reply)
    leads_done u here =
        let sn = seen s u unspent here in
        let v = sn.view in
        let up = state_up v reels o s.dump in
        let end = state_up v reels new s.dump in
        let opens : IsOpenView reels v new s.dump = record { is = λ told pins pinned. sn.opens.is (back_to told) pins (sym done.pins ∙ pinned) } in
        let right : Seen after end = record {
          view = v;
          is = subst (λ (c : Contents). IsView new.disc.held reels c v) (sym contents_are) (seen_behind v (is_some o.pins) sn.is);
          opens = opens;
          state_is = refl;
        } in
        record {
          after = end;
          left = stands after end refl right;
          held = held_in v o;
          holds = ap (λ (t : State). t.holding) sn.state_is;
          outcome = Plain;
          raised = tt;
          step = subst (λ (t : State). CallStep t (held_in v o) who call Plain (Ok reply) end) (sym sn.state_is)
              (step_done up (held_in v o) who call (is.off up (held_in v o)) (is.none up (held_in v o)) reply end (granted_by v sn.is)
              (is.replied (λ r. v.text r.stamp) (texts_fit (AllTold o.disc.held reels) v o.contents sn.is.files)) (state_is v sn.is));
          did = subst (λ (t : State). Did t (held_in v o) who call s after) (sym sn.state_is) (did up (held_in v o));
        }

    -- the invariant of a store
    open_kept : (d : DumpFacts) → IsOpen d o s.rack → IsOpen d new s.rack
    open_kept d open_is =
        let same : new.contents ≡ e = contents_are ∙ ap (λ (b : Bool). committed b e) (ap is_some open_is.pinned) in
        stays_open d o new s.rack s.rack (ap (λ (c : Contents). c.head.intent) same ∙ ap (λ h. h.intent) is.head)
        (ap (λ (c : Contents). c.head.last_dump) same ∙ ap (λ h. h.last_dump) is.head) done.pins refl open_is

    dump_kept : (dump : Option DumpFacts) → IfSome dump (λ d. IsOpen d o s.rack) → IfSome dump (λ d. IsOpen d new s.rack)
    dump_kept None open_is = tt
    dump_kept (Some d) open_is = open_kept d open_is

    store_after : IsStore after
    store_after = record {
      tied = tied;
      live = λ up. done.live;
      open_dump = λ up. dump_kept s.dump (store.open_dump unspent);
      pins = λ up none. done.pins ∙ store.pins unspent none;
    }

    touched_by : (dump : Option DumpFacts) → IfSome dump (λ d. IsOpen d o s.rack) → IfSome dump (λ d. new.touched ≡ marked owners o.touched)
    touched_by None open_is = tt
    touched_by (Some d) open_is = touched_are (ap is_some open_is.pinned)

    up_made : (text : ℕ → List ℕ) (shelf : ℕ → List Dump) → IsUp text shelf s → IsUp text shelf (behind s e new.changed new.touched)
    up_made text shelf was = is.up text shelf s new.changed new.touched refl changed_are (touched_by s.dump (store.open_dump unspent)) was

    up_by : (dump : Option DumpFacts) → s.dump ≡ dump → IfSome dump (λ d. IsOpen d o s.rack) → (text : ℕ → List ℕ) (shelf : ℕ → List Dump) → IsUp text shelf s → IsUp text shelf (with_online new s)
    up_by None none open_is text shelf was =
        let same = contents_are ∙ ap (λ (b : Bool). committed b e) (ap is_some (store.pins unspent none)) in
        moved text shelf s new (with_intent None e) same done.pins (events_stay_up.dropped text shelf (behind s e new.changed new.touched) none (up_made text shelf was))
    up_by (Some d) some open_is text shelf was =
        let same = contents_are ∙ ap (λ (b : Bool). committed b e) (ap is_some open_is.pinned) in
        moved text shelf s new e same done.pins (up_made text shelf was)

    belongs_after : Belongs s → Belongs after
    belongs_after was =
        let (text, shelf, shelved, up) = was.up unspent in
        let then_ = subst (λ (b : Bool). IsUp text shelf (record s { online = new; spent = not b })) done.live (up_by s.dump refl (store.open_dump unspent) text shelf up) in
        record {
          devices = devices_belong text shelf reels new tied done.live shelved then_.rack then_.disc;
          up = λ up_then. (text, shelf, shelved, then_);
        }

    pub done_answers : Answers s who call (Ok reply) after
    done_answers = record {
      step = λ belong u here. record { before = u; stands = here; told = λ t. refl; steps = leads_done u here };
      cause = record {
        disc = Causes-for (λ no. absurd no) (λ is_err. let no : ⊥ = cc in no) (λ no. absurd no) (λ is_err. let no : ⊥ = cc in no) causes;
        tapes = nothing_read s.rack;
        tape_read = λ is_err. absurd (let no : ⊥ = cc in no);
        tape_read_only = λ isnt. refl;
        writes = λ fault is_err other. absurd (let no : ⊥ = cc in no);
      };
      keeps = store_after;
      told = told_on;
      belongs = λ t was. belongs_after was;
      lost = λ full serial is_err. absurd (let no : ⊥ = cc in no);
      no_copy = λ t was full serial is_err. let no : ⊥ = cc in no;
      dump = λ isnt. refl;
      spent = (λ then_. absurd (false≢true then_), λ is_err. absurd (let no : ⊥ = cc in no));
      survives = stays_durable (IsAnswered s who call (Ok reply)) s after refl done.durable;
    }

  -- STOPPED
  module _ (stopped : HasStopped change o new) (causes : Causes ⊥ (Unit {0}) o.disc new.disc) where
    abbrev spent : StoreFacts
    spent = record s { online = new; spent = true }

    -- the filestore that was to be, for its state
    abbrev would_be : OnlineFacts
    would_be = record o { contents = committed (is_some o.pins) e; changed = marked owners o.changed; touched = marked owners o.touched }

    would_be_behind : IsBehind o e owners would_be
    would_be_behind = record { size = refl; contents = refl; pins = refl; changed = refl; touched = λ some. refl }

    leads_by : (u : State) (sn : Seen s u) (c : Contents) (blocks : List (List ℕ)) → new.disc.held ≡ Some blocks → Holds blocks c → IsView new.disc.held reels c sn.view
        → (let up = state_up sn.view reels o s.dump in let end = state_down sn.view reels new.disc.size (Some c) in LeftByRefusal up (held_in sn.view o) who call Cut 0 Stopped end)
        → Leads u s spent who call (Err Stopped)
    leads_by u sn c blocks held holds view left =
        let v = sn.view in
        let up = state_up v reels o s.dump in
        let end = state_down v reels new.disc.size (Some c) in
        let devices = devices_hold new.disc.size new.disc.held reels end v c blocks held holds view refl in
        record {
          after = end;
          left = stands_spent new s.dump end s.rack devices;
          held = held_in v o;
          holds = ap (λ (t : State). t.holding) sn.state_is;
          outcome = Cut;
          raised = inl (causes.writes_rose tt);
          step = subst (λ (t : State). CallStep t (held_in v o) who call Cut (Err Stopped) end) (sym sn.state_is)
              (step_cut up (held_in v o) who call (is.off up (held_in v o)) (is.none up (held_in v o)) is.write end (granted_by v sn.is) left);
          did = tt;
        }

    down_before : (v : View) → state_down v reels new.disc.size (Some o.contents) ≡ down (state_up v reels o s.dump)
    down_before v = ap (λ (n : ℕ). state_down v reels n (Some o.contents)) size

    down_behind : (v : View) → IsView o.disc.held reels o.contents v
        → state_down v reels new.disc.size (Some (committed (is_some o.pins) e)) ≡ down (after_call (state_up v reels o s.dump) (held_in v o) who call 0)
    down_behind v view =
        ap (λ (n : ℕ). state_down v reels n (Some (committed (is_some o.pins) e))) size
        ∙ ap down (is.goes v reels would_be s.dump known (granted_by v view)
        (nothing_unjammed (state_up v reels o s.dump) (held_in v o) who call (is.off (state_up v reels o s.dump) (held_in v o)) (is.none (state_up v reels o s.dump) (held_in v o)))
        would_be_behind)

    leads_one : (u : State) (sn : Seen s u) (blocks : List (List ℕ)) → new.disc.held ≡ Some blocks
        → Holds blocks o.contents ⊎ (((0 < length (unjammed_by change)) × Holds blocks (unjammed (is_some o.pins) change o.contents)) ⊎ Holds blocks (changed true (is_some o.pins) change o.contents))
        → Leads u s spent who call (Err Stopped)
    leads_one u sn blocks held (inl holds) = leads_by u sn o.contents blocks held holds (seen_before sn.view sn.is) (inl (down_before sn.view))
    leads_one u sn blocks held (inr (inl (less, mid))) =
        let no : ⊥ = (let none : length (unjammed_by change) ≡ 0 = ap length is.alone in omega (arith, less, none)) in absurd no
    leads_one u sn blocks held (inr (inr holds)) =
        leads_by u sn (committed (is_some o.pins) e) blocks held (subst (Holds blocks) (is.changes true (is_some o.pins)) holds) (seen_behind sn.view (is_some o.pins) sn.is)
        (inr (inr (down_behind sn.view sn.is)))

    leads_stopped : (u : State) → StandsForState s u → Told s → Leads u s spent who call (Err Stopped)
    leads_stopped u here told =
        let (blocks, held) = some_of new.disc.held (tells ∙ told.disc) in leads_one u (seen s u unspent here) blocks held (stopped.holds blocks held).one

    -- whichever contents the disc holds, the old or the new, it belongs to the rack
    committed_belongs : (text : ℕ → List ℕ) (shelf : ℕ → List Dump) (b : Bool) → IsQuiet shelf reels e → DiscBelongs text shelf reels e → DiscBelongs text shelf reels (committed b e)
    committed_belongs text shelf true quiet belongs = belongs
    committed_belongs text shelf false quiet belongs = intents_belong.dropped text shelf reels e quiet belongs

    one_belongs : (text : ℕ → List ℕ) (shelf : ℕ → List Dump) (blocks : List (List ℕ)) (c : Contents) → IsUp text shelf s → Holds blocks c
        → Holds blocks o.contents ⊎ (((0 < length (unjammed_by change)) × Holds blocks (unjammed (is_some o.pins) change o.contents)) ⊎ Holds blocks (changed true (is_some o.pins) change o.contents))
        → DiscBelongs text shelf reels c
    one_belongs text shelf blocks c up holds_c (inl old) = subst (DiscBelongs text shelf reels) (holds_one blocks o.contents c old holds_c) up.disc
    one_belongs text shelf blocks c up holds_c (inr (inl (less, mid))) =
        let no : ⊥ = (let none : length (unjammed_by change) ≡ 0 = ap length is.alone in omega (arith, less, none)) in absurd no
    one_belongs text shelf blocks c up holds_c (inr (inr made)) =
        let quiet : IsQuiet shelf reels e = λ d there. subst (λ (n : ℕ). d.number ≤ n) (sym (ap (λ h. h.last_dump) is.head)) (up.quiet d there) in
        subst (DiscBelongs text shelf reels) (holds_one blocks (committed (is_some o.pins) e) c (subst (Holds blocks) (is.changes true (is_some o.pins)) made) holds_c)
        (committed_belongs text shelf (is_some o.pins) quiet (is.belongs text shelf reels up.disc))

    belongs_stopped : Belongs s → Belongs spent
    belongs_stopped was =
        let (text, shelf, shelved, up) = was.up unspent in
        record {
          devices = record {
            text = text;
            shelf = shelf;
            shelved = shelved;
            rack = up.rack;
            disc = λ blocks c held holds_c. one_belongs text shelf blocks c up holds_c (stopped.holds blocks held).one;
          };
          up = λ no. absurd (true≢false no);
        }

    pub answered_stopped : IsAnswered s who call (Err Stopped) spent
    answered_stopped = record {
      step = λ belong u here. record { before = u; stands = here; told = λ t. refl; steps = leads_stopped u here };
      belongs = λ t was. belongs_stopped was;
    }

-- STOPPED, with any disc that the failed write may have left
module _ (s : StoreFacts) (new : OnlineFacts) (who : List ℕ) (call : StoreCall) (change : Change) (e : Contents) (owners : List ℕ) (reply : StoreReply)
    (is : IsRecorded s.online who call change e owners reply) (unspent : s.spent ≡ false) (store : IsStore s) (at : IsStoppedAt change s.online new) where
  stopped_is : (x : OnlineFacts) → IsStoppedAt change s.online x → IsAnswered s who call (Err Stopped) (record s { online = x; spent = true })
  stopped_is x a = answered_stopped s x who call change e owners reply is unspent store a.size a.tells a.tied a.stopped a.causes

  pub stopped_answers : Answers s who call (Err Stopped) (record s { online = new; spent = true })
  stopped_answers =
      let is_now = stopped_is new at in record {
        step = is_now.step;
        cause = record {
          disc = Causes-for (λ no. absurd no) (λ is_err. let no : ⊥ = cc in no) (λ one. refl) (λ is_err. tt) at.causes;
          tapes = nothing_read s.rack;
          tape_read = λ is_err. absurd (let no : ⊥ = cc in no);
          tape_read_only = λ isnt. refl;
          writes = λ fault is_err other. absurd (other (let same : fault ≡ Stopped = cc in same));
        };
        keeps = record { tied = at.tied; live = λ no. absurd (true≢false no); open_dump = λ no. absurd (true≢false no); pins = λ no none. absurd (true≢false no) };
        told = λ told. told_back new.disc.held s.online.disc.held (told_reels s.rack) (sym at.tells) told;
        belongs = is_now.belongs;
        lost = λ full serial is_err. absurd (let no : ⊥ = cc in no);
        no_copy = λ t was full serial is_err. let no : ⊥ = cc in no;
        dump = λ isnt. absurd (isnt refl);
        spent = (λ then_. refl, λ is_err. refl);
        survives = stop_survives (IsAnswered s who call (Err Stopped)) change s (record s { online = new; spent = true }) refl at stopped_is;
      }

-- for any answer of the filestore
module _ (o new : OnlineFacts) (who : List ℕ) (call : StoreCall) (change : Change) (e : Contents) (owners : List ℕ) (reply : StoreReply) (is : IsRecorded o who call change e owners reply) where
  abbrev At : StoreFacts → Type 0
  At s = IsRecorded s.online who call change e owners reply

  pub recorded : (result : Result (Unit {0}) StoreFault) → HasApplied change o new result → AnswersIn who call o (answer_with reply result) new
  recorded result applied s at unspent store =
      by_result s unspent store (subst (λ (x : OnlineFacts). IsRecorded x who call change e owners reply) (sym at) is) result
      (subst (λ (x : OnlineFacts). HasApplied change x new result) (sym at) applied)
    where
      by_fault : (s : StoreFacts) → s.spent ≡ false → IsStore s → At s → (fault : StoreFault) → HasApplied change s.online new (Err fault) → (fault ≡ Stopped) ⊎ (fault ≡ NoMemory)
          → Answers s who call (Err fault) (with_online new s)
      by_fault s unspent store is fault applied (inl same) =
          subst (λ (f : StoreFault). HasApplied change s.online new (Err f) → Answers s who call (Err f) (with_online new s)) (sym same)
          (λ stop.
          let stopped = stop.stopped refl in
          subst (λ (b : Bool). Answers s who call (Err Stopped) (record s { online = new; spent = not b })) (sym stopped.live)
          (stopped_answers s new who call change e owners reply is unspent store (record {
            tied = stop.tied;
            size = stop.causes.size;
            tells = stop.told;
            stopped = stopped;
            causes = Causes-for (λ no. no) (λ no. no) (λ one. tt) (λ one. refl) stop.causes;
          })))
          applied
      by_fault s unspent store is fault applied (inr same) =
          let other : fault ≢ Stopped = λ stop. let no : ⊥ = cc in no in
          let kept : new ≡ s.online = applied.same other in
          subst (λ (f : StoreFault). Answers s who call (Err f) (with_online new s)) (sym same)
          (subst (λ (x : OnlineFacts). Answers s who call (Err NoMemory) (with_online x s)) (sym kept)
          (subst (λ (t : StoreFacts). Answers s who call (Err NoMemory) t) (same_store s s.online refl unspent is.live)
          (calmly s who call (Err NoMemory) unspent store tt (λ u here. here))))

      by_result : (s : StoreFacts) → s.spent ≡ false → IsStore s → At s → (result : Result (Unit {0}) StoreFault) → HasApplied change s.online new result
          → Answers s who call (answer_with reply result) (with_online new s)
      by_result s unspent store is (Ok u) applied =
          subst (λ (b : Bool). Answers s who call (Ok reply) (record s { online = new; spent = not b })) (sym applied.ok.live)
          (done_answers s new who call change e owners reply is unspent store applied.causes.size applied.told applied.tied applied.ok
          (Causes-for (λ no. no) (λ no. no) (λ one. let no : ⊥ = cc in no) (λ no. absurd no) applied.causes))
      by_result s unspent store is (Err fault) applied = by_fault s unspent store is fault applied applied.only
