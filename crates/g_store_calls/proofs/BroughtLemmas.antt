-- A file is brought back to the disc from its copy on tape, and others are taken off the disc for it: the answer of the
-- store, done and stopped.
-- serves: FetchLemmas
use Rattle.std.proofs.Common.{◌≡◌, ℕ, ◌<◌, ◌≤◌, ◌+◌, Bool, true, false, List, [], get_or, length, Option, Some, None, Ok, Err, refl, sym, ◌∙◌, ap, arith, inl, inr, subst, true≢false}
use Rattle.std.specs.Prelude.{◌⊎◌, ◌==◌, All, IfSome, is_some, map, nat_lt, not, if◌then◌else◌, Result}
use Rattle.std.specs.Option.{ForSome, option_map}
use Rattle.std.proofs.lemmas.Bool.{eqb-true, false≢true, ltb-false, ltb-true, or_right}
use Rattle.std.proofs.lemmas.List.Elements.{All-contains, All-map}
use Rattle.std.proofs.lemmas.Option.{none-some}
use Rattle.g_base.specs.Block.{blocks_for}
use Rattle.g_base.specs.Counts.{RoseBy}
use Rattle.g_disc.specs.Disc.{Causes}
use Rattle.g_disc.proofs.CallLemmas.{Causes-for}
use Rattle.g_entry.specs.declared.file_rec.FileRec.{FileRec}
use Rattle.g_entry.specs.declared.file_rec.TapeCopy.{TapeCopy}
use Rattle.g_entry.specs.declared.head.Intent.{Intent}
use Rattle.g_tape.specs.Rack.{Rack}
use Rattle.g_tape.specs.Reads.{OnlyReads}
use Rattle.g_tape.specs.Reel.{Reel}
use Rattle.g_plain.specs.declared.calls.StoreCall.{StoreCall}
use Rattle.g_plain.specs.declared.calls.StoreReply.{StoreReply}
use Rattle.g_plain.specs.declared.faults.StoreFault.TheVariants.{Stopped}
use Rattle.g_plain.specs.PlainStep.{fault_of, reply_to}
use Rattle.g_tree.specs.Records.{IsRecords}
use Rattle.g_disc_contents.specs.Contents.{Contents, File, Holds, brought, committed, offline_in, online_with, recs_in, taken_off}
use Rattle.g_disc_contents.specs.Facts.{OnlineFacts}
use Rattle.g_online.specs.declared.change.Change.TheVariants.{Bring}
use Rattle.g_online.specs.declared.unjam.Unjam.{Unjam}
use Rattle.g_online.specs.Change.{changed, told_bytes, unjammed}
use Rattle.g_online.specs.Outcomes.{HasChanged, HasStopped}
use Rattle.g_online.proofs.OffRuleLemmas.{rec_off}
use Rattle.g_incr.specs.Layout.{Dump}
use Rattle.g_store_model.specs.State.{Holding, OpenDump, State}
use Rattle.g_store_model.specs.CallStep.{Cut, LeftByRefusal, Plain, after_call, after_unjam, brings, brings_now, down, is_offline, kept_intent, len_of, need, room_until, version_read, writes}
use Rattle.g_store_meaning.specs.Answers.{Answers, AreCommits, Belongs, Did, From, IsAnswered, IsStore, Leads, ReadCopy, Steps, Told}
use Rattle.g_store_meaning.specs.Meaning.{IsContent, told_reels}
use Rattle.g_store_meaning.specs.Reading.{AllTold, DevicesStandFor, HasText, IsOpenView, IsRackView, IsView, StandsForState, View, holding_of, names_of, open_of, row_of, state_down, state_up, tree_by}
use Rattle.g_store_meaning.specs.StoreInvariant.{DumpFacts, StoreFacts}
use Rattle.g_store_meaning.proofs.ViewLemmas.{Stands, back, reads_keep_state}
use Rattle.g_laws_store.specs.Calls.{IsAsked, IsBehind}
use Rattle.g_laws_store.proofs.CallLemmas.{calls_go_by_step}
use Rattle.g_laws_store.proofs.FileLemmas.{of_stamp, offline_recs}
use Rattle.g_laws_store.specs.Places.{AreDistinct}
use Rattle.g_laws_store.specs.Rooms.{held_in}
use Rattle.g_laws_store.specs.UnjamPlan.{IsUnjamPlan}
use Rattle.g_laws_store.proofs.RoomLemmas.{files_apart}
use Rattle.g_laws_store.proofs.UnjamLemmas.{numbers_apart, unjam_is}
use Rattle.g_retrieve.specs.Retrieval.{HasCopied, IsOnTape}
use Rattle.g_retrieve.specs.Invariant.{KeepsDevices}
use Rattle.g_retrieve.proofs.KeepsLemmas.{keeps_stopped}
use Rattle.g_retrieve.proofs.HeldLemmas.{copied_one}
use Rattle.g_store_calls.specs.Answering.{KeepsPlan, with_devices}
use Rattle.g_store_calls.proofs.AddLemmas.{or_false}
use Rattle.g_store_calls.proofs.AskedLemmas.{Met, met, no_bytes, prepared, texts_off}
use Rattle.g_store_calls.proofs.BackLemmas.{step_back, step_cut}
use Rattle.g_store_calls.proofs.SeenLemmas.{Seen, stands}
use Rattle.g_store_calls.proofs.SurvivalLemmas.{IsStoppedAt, stays_durable, stop_survives}
use Rattle.g_store_calls.proofs.TapeLemmas.{are_here, brings_here, len_here, mounted_here, need_here, off_here, over_itself, plan_here, replanned, room_here, unjam_here}
use Rattle.g_store_calls.proofs.WantLemmas.{Wants, granted_in, place_in, reads_is}
use Rattle.g_plain.specs.declared.faults.StoreFault.{StoreFault}

-- the resulting contents
abbrev off_disc : List ℕ → Contents → Contents
off_disc take c = record c { files = taken_off take c.files }

abbrev on_disc : Bool → ℕ → List ℕ → List ℕ → Contents → Contents
on_disc told number text take c = record c { files = brought number (told_bytes told text) (taken_off take c.files) }

bring_is : (told pinned : Bool) (number : ℕ) (text take : List ℕ) (c : Contents) → changed told pinned (Bring number text take) c ≡ committed pinned (on_disc told number text take c)
unfolding changed
bring_is told pinned number text take c = ap (λ (b : Bool). committed b (on_disc told number text take c)) (or_false pinned)

same_files : (b : Bool) (e : Contents) → (committed b e).files ≡ e.files
same_files true e = refl
same_files false e = refl

-- THE STATE without the files that went off the disc
intent_by : (b : Bool) (e : Contents) (dump : Option OpenDump) → b ≡ is_some dump → (committed b e).head.intent ≡ kept_intent dump e.head.intent
intent_by true e (Some d) same = refl
intent_by false e None same = refl
intent_by true e None same = absurd (true≢false same)
intent_by false e (Some d) same = absurd (false≢true same)

some_mapped : {A B : Type 0} (g : A → B) (x : Option A) → is_some (option_map g x) ≡ is_some x
some_mapped g None = refl
some_mapped g (Some x) = refl

down_with : (v : View) (b : Bool) (e : Contents) → holding_of v.text [] (committed b e) ≡ record (holding_of v.text [] e) { intent = (committed b e).head.intent }
down_with v true e = refl
down_with v false e = refl

module _ (v : View) (reels : List Reel) (o : OnlineFacts) (dump : Option DumpFacts) (who : List ℕ) (call : StoreCall) (known : IsAsked v o dump) (need_is : ℕ) (take : List ℕ) (room : ℕ)
    (plan : IsUnjamPlan need_is o take room) where
  -- if a stop came between the two commits
  pub down_off : state_down v reels o.disc.size (Some (committed (is_some o.pins) (off_disc take o.contents))) ≡ down (after_unjam (state_up v reels o dump) (held_in v o) who call plan.until)
  down_off =
      let up : State = state_up v reels o dump in
      let e : Contents = off_disc take o.contents in
      let held : holding_of v.text [] (committed (is_some o.pins) e) ≡ record (holding_of v.text [] e) { intent = kept_intent up.open_dump o.contents.head.intent } =
      down_with v (is_some o.pins) e
      ∙ ap (λ (x : Option Intent). let h : Holding = record (holding_of v.text [] e) { intent = x } in h) (intent_by (is_some o.pins) e up.open_dump (known.pinned ∙ sym (some_mapped (open_of v o) dump))) in
      λ i.
      let s : State = record {
        up = false;
        size = o.disc.size;
        holding = Some ((held ∙ (λ j.
            let h : Holding = record {
              tree = tree_by v.text o.contents.users (offline_recs take o.contents.files j) o.contents.head.next_stamp;
              places = unjam_is.places_are v o dump need_is take room (record { records = known.records; long = known.long; pins = known.pins }) plan j;
              last = o.contents.head.last_dump;
              intent = kept_intent up.open_dump o.contents.head.intent;
              kept = names_of [];
            } in h)) i);
        reels = map (row_of v.shelf) reels;
        dumped = up.dumped;
        open_dump = None;
      } in s

-- afterwards the disc exposes its contents if it did before
retold : (held now : Option (List (List ℕ))) (reels : List Reel) → is_some now ≡ is_some held → AllTold now reels → AllTold held reels
retold held now reels same told = record { disc = sym same ∙ told.disc; each = told.each }

rack_still : (held now : Option (List (List ℕ))) (reels : List Reel) (v : View) → is_some now ≡ is_some held → IsRackView held reels v → IsRackView now reels v
rack_still held now reels v same right = record {
  shelved = right.shelved;
  all = right.all;
  dumped = λ told. right.dumped (retold held now reels same told);
  none = λ told. right.none (retold held now reels same told);
}

texts_still : (held now : Option (List (List ℕ))) (reels : List Reel) (v : View) (files : List File) → is_some now ≡ is_some held
    → All (λ (g : File). HasText (AllTold held reels) (v.text g.rec.stamp) v.dumps g) files → All (λ (g : File). HasText (AllTold now reels) (v.text g.rec.stamp) v.dumps g) files
texts_still held now reels v files same are i d within =
    let has = are i d within in record { len = has.len; bytes = has.bytes; tape = λ told. has.tape (retold held now reels same told) }

pub seen_still : (held now : Option (List (List ℕ))) (reels : List Reel) (v : View) (e c : Contents) (b : Bool) → is_some now ≡ is_some held → c ≡ committed b e → IsRackView held reels v
    → All (λ (g : File). HasText (AllTold held reels) (v.text g.rec.stamp) v.dumps g) e.files → IsView now reels c v
seen_still held now reels v e c b same is rack files = record {
  rack = rack_still held now reels v same rack;
  files = subst (λ (fs : List File). All (λ (g : File). HasText (AllTold now reels) (v.text g.rec.stamp) v.dumps g) fs) (sym (ap (λ (x : Contents). x.files) is ∙ same_files b e))
      (texts_still held now reels v e.files same files);
}

-- THE FILE IS BACK with its text
told_text : (told : Bool) (text t : List ℕ) → text ≡ t → ForSome (told_bytes told text) (λ b. b ≡ t)
told_text true text t same = λ x is. (let one : text ≡ x = cc in sym one) ∙ same
told_text false text t same = λ x is. absurd (none-some x is)

back_text : (all : Type 0) (v : View) (told : Bool) (text : List ℕ) (b : Bool) (g : File) → (b ≡ true → text ≡ v.text g.rec.stamp) → HasText all (v.text g.rec.stamp) v.dumps g
    → (let h : File = if b then record g { online = true; bytes = told_bytes told text } else g in HasText all (v.text h.rec.stamp) v.dumps h)
back_text all v told text true g is has = record { len = has.len; bytes = told_text told text (v.text g.rec.stamp) (is refl); tape = λ t no. absurd (true≢false no) }
back_text all v told text false g is has = has

pub stands_spent : (o : OnlineFacts) (dump : Option DumpFacts) (u : State) (rack : Rack) → DevicesStandFor o.disc.size o.disc.held (told_reels rack) u
    → StandsForState (record { online = o; rack = rack; dump = dump; spent = true }) u
unfolding Stands
stands_spent o dump u rack is = let devices : Stands true o dump u (told_reels rack) = is in back true o dump u rack devices

some_of : {A : Type 0} (x : Option A) → is_some x ≡ true → (y : A) × (x ≡ Some y)
some_of None is = absurd (false≢true is)
some_of (Some y) is = (y, refl)

-- THE CALL that brings it back
pub record Brings (s : StoreFacts) (new : OnlineFacts) (after : Rack) (who : List ℕ) (call : StoreCall) (f : File) (c : TapeCopy) (text : List ℕ) (plan : Unjam) : Type 0 where
  pub unspent : s.spent ≡ false
  pub store : IsStore s
  pub kept_plan : KeepsPlan s.dump
  pub wants : Wants s.online who call f
  pub away : IsOnTape f.rec.number s.online f c
  pub brings_it : brings call ≡ true
  pub copied : HasCopied c f.rec.len text s.rack after
  pub only : OnlyReads s.rack after
  pub read_kept : after.read_faults ≡ s.rack.read_faults
  pub planned : IsUnjamPlan (blocks_for f.rec.len) s.online plan.take plan.room
  pub fits : blocks_for f.rec.len ≤ plan.room
  pub size : new.disc.size ≡ s.online.disc.size
  pub tells : is_some new.disc.held ≡ is_some s.online.disc.held
  pub keeps : KeepsDevices s.online new s.rack after

module _ (s : StoreFacts) (new : OnlineFacts) (after : Rack) (who : List ℕ) (call : StoreCall) (f : File) (c : TapeCopy) (text : List ℕ) (plan : Unjam) (is : Brings s new after who call f c text plan) where
  abbrev o : OnlineFacts
  o = s.online

  abbrev reels : List Reel
  reels = told_reels s.rack

  abbrev n : ℕ
  n = f.rec.number

  abbrev then_ : StoreFacts
  then_ = with_devices new after s

  abbrev up : View → State
  up v = state_up v reels o s.dump

  abbrev held : View → Holding
  held v = held_in v o

  abbrev IsSeen : View → Type 0
  IsSeen v = IsView o.disc.held reels o.contents v

  abbrev until : ℕ
  until = is.planned.until

  records : IsRecords o.contents.users (recs_in o.contents)
  records = (prepared s is.unspent is.store is.kept_plan).records

  -- what the state of a view says of it
  off_at : (v : View) → IsSeen v → is_offline (up v) (held v) who call ≡ true
  off_at v right = off_here s who call f c records is.wants is.away.offline is.away.copy v right

  brings_at : (v : View) → IsSeen v → brings_now (up v) (held v) who call ≡ true
  brings_at v right = brings_here s who call f c records is.wants is.away.offline is.away.copy v right is.brings_it

  need_at : (v : View) → IsSeen v → need (up v) (held v) who call ≡ blocks_for f.rec.len
  need_at v right = need_here s who call f c records is.wants is.away.offline is.away.copy v right is.brings_it

  len_at : (v : View) → IsSeen v → len_of (up v) (held v) who call (version_read (held v).tree who call) ≡ f.rec.len
  len_at v right = len_here s who call f c records is.wants is.away.offline is.away.copy v right

  fits_at : (v : View) → IsSeen v → need (up v) (held v) who call ≤ room_until (up v) (held v) who call until
  fits_at v right =
      let needs = need_at v right in
      let reached = room_here s who call f c records is.wants is.away.offline is.away.copy v right is.brings_it (prepared s is.unspent is.store is.kept_plan) plan.take plan.room is.planned in
      let fits = is.fits in
      omega (arith, needs, reached, fits)

  granted_at : (v : View) → IsSeen v → fault_of (held v).tree who call ≡ None
  granted_at v right = granted_in v reels o s.dump who call f records is.wants right

  -- THE TEXT that was read is the version's
  known_text : Told s → (v : View) → IsSeen v → v.text f.rec.stamp ≡ text
  known_text told v right =
      let has = All-contains (λ (g : File). HasText (Told s) (v.text g.rec.stamp) v.dumps g) o.contents.files f right.files is.wants.there in
      let held_is : IsContent v.dumps c (v.text f.rec.stamp) = subst (λ (x : Option TapeCopy). IfSome x (λ k. IsContent v.dumps k (v.text f.rec.stamp))) is.away.copy (has.tape told is.away.offline) in
      sym (copied_one v.shelf c f.rec.len (v.text f.rec.stamp) text s.rack after told.each right.rack.shelved
      (subst (λ (ds : List Dump). IsContent ds c (v.text f.rec.stamp)) right.rack.all held_is) has.len is.copied)

  not_held : ForSome f.bytes (λ b. b ≡ text)
  not_held b some = absurd (none-some b (sym (no_bytes s is.unspent is.store f is.wants.there is.away.offline) ∙ some))

  abbrev MetAt : State → Type 0
  MetAt u = Met s is.unspent is.store is.kept_plan f text is.wants.there is.copied.long not_held u

  meets : (Told s → Belongs s) → (u : State) → StandsForState s u → MetAt u
  meets belongs u here = met s is.unspent is.store is.kept_plan f text is.wants.there is.copied.long not_held belongs known_text u here

  stands_at : (v : View) → IsSeen v → IsOpenView reels v o s.dump → StandsForState s (up v)
  stands_at v right opens = stands s (up v) is.unspent (record { view = v; is = right; opens = opens; state_is = refl })

  -- from the state that was met
  from_met : (answer : Result StoreReply StoreFault) (t : StoreFacts) → (Told s → Belongs s) → (u : State) → StandsForState s u → ((m : MetAt u) → Steps (up m.asks.view) s who call answer t)
      → From u s who call answer t
  from_met answer t belongs u here steps =
      let m = meets belongs u here in
      let a = m.asks in
      record { before = up a.view; stands = stands_at a.view a.is a.opens; told = a.told; steps = steps m }

  -- views afterwards
  distinct : AreDistinct o.contents.files
  distinct = files_apart o.contents.files records.among_files.stamps

  off_stamps : All (λ (g : File). g.rec.number ≡ n → g.rec.stamp ≡ f.rec.stamp) (taken_off plan.take o.contents.files)
  off_stamps =
      All-map (λ (g : File). g.rec.number ≡ n → g.rec.stamp ≡ f.rec.stamp) (offline_in plan.take) o.contents.files
      (λ i d within.
      subst (λ (r : FileRec). r.number ≡ n → r.stamp ≡ f.rec.stamp) (sym (rec_off plan.take (get_or o.contents.files i d)))
      (of_stamp o.contents.files f distinct (numbers_apart o.contents.files records.numbers.rising) is.wants.there i d within).0)

  texts_back : (Told s → Belongs s) → (v : View) → IsSeen v → v.text f.rec.stamp ≡ text → (told : Bool)
      → All (λ (g : File). HasText (Told s) (v.text g.rec.stamp) v.dumps g) (on_disc told n text plan.take o.contents).files
  texts_back belongs v right text_is told =
      All-map (λ (g : File). HasText (Told s) (v.text g.rec.stamp) v.dumps g) (online_with n (told_bytes told text)) (taken_off plan.take o.contents.files)
      (λ i d within.
      let g = get_or (taken_off plan.take o.contents.files) i d in
      back_text (Told s) v told text (g.rec.number == n) g (λ same. sym (ap v.text (off_stamps i d within (eqb-true g.rec.number n same)) ∙ text_is)) (texts_off s is.unspent is.store v right belongs plan.take i d within))

  behind_with : (told : Bool) (e : OnlineFacts) → e.disc.size ≡ o.disc.size → e.contents ≡ committed (is_some o.pins) (on_disc told n text plan.take o.contents) → e.pins ≡ o.pins
      → e.changed ≡ o.changed → (is_some o.pins ≡ true → e.touched ≡ o.touched) → IsBehind o (on_disc told n text plan.take o.contents) [] e
  behind_with told e size contents pins changed_is touched = record { size = size; contents = contents; pins = pins; changed = changed_is; touched = touched }

  state_behind : (told : Bool) (v : View) → IsSeen v → IsAsked v o s.dump → (e : OnlineFacts) → IsBehind o (on_disc told n text plan.take o.contents) [] e
      → state_up v reels e s.dump ≡ after_call (up v) (held v) who call until
  unfolding plan_here replanned
  state_behind told v right known e behind =
      calls_go_by_step.brings v reels o e s.dump who call f (told_bytes told text) plan.take plan.room known is.wants.there (reads_is v reels o s.dump who call f records is.wants) (granted_at v right)
      (brings_at v right)
      (plan_here s who call f c records is.wants is.away.offline is.away.copy v right is.brings_it (prepared s is.unspent is.store is.kept_plan) plan.take plan.room is.planned) behind

  -- DONE
  module _ (done : HasChanged (Bring n text plan.take) o new) (causes : Causes ⊥ ⊥ o.disc new.disc) (reply : List ℕ → StoreReply)
      (replied : (v : View) → IsSeen v → reply (v.text f.rec.stamp) ≡ reply_to (held v).tree who call) where
    abbrev told : Bool
    told = is_some o.disc.held

    contents_are : new.contents ≡ committed (is_some o.pins) (on_disc told n text plan.take o.contents)
    contents_are = done.contents ∙ bring_is told (is_some o.pins) n text plan.take o.contents

    behind_is : IsBehind o (on_disc told n text plan.take o.contents) [] new
    behind_is = behind_with told new is.size contents_are done.pins done.changed (λ some. done.touched ∙ ap (λ (b : Bool). if b then o.touched else []) some)

    are_commits : (v : View) → IsSeen v → (b : Bool) → nat_lt 0 (length plan.take) ≡ b → AreCommits (up v) (held v) who call (if b then 2 else 1)
    are_commits v right true some =
        inr (
          or_right (writes call) (brings_now (up v) (held v) who call) (brings_at v right),
          until,
          unjam_here s who call f c records is.wants is.away.offline is.away.copy v right is.brings_it (prepared s is.unspent is.store is.kept_plan) plan.take plan.room is.planned,
          (let (stamp, taken) = unjam_is.takes v o s.dump (blocks_for f.rec.len) plan.take plan.room
              (are_here s who call f c records is.wants is.away.offline is.away.copy v right is.brings_it (prepared s is.unspent is.store is.kept_plan) plan.take plan.room is.planned) is.planned
              (ltb-true 0 (length plan.take) some) in inr (refl, stamp, taken)),
        )
    are_commits v right false none =
        inr (
          or_right (writes call) (brings_now (up v) (held v) who call) (brings_at v right),
          until,
          unjam_here s who call f c records is.wants is.away.offline is.away.copy v right is.brings_it (prepared s is.unspent is.store is.kept_plan) plan.take plan.room is.planned,
          inl (
            refl,
            unjam_is.takes_none v o s.dump (blocks_for f.rec.len) plan.take plan.room
                (are_here s who call f c records is.wants is.away.offline is.away.copy v right is.brings_it (prepared s is.unspent is.store is.kept_plan) plan.take plan.room is.planned) is.planned
                (let le = ltb-false 0 (length plan.take) none in omega (arith, le)),
          ),
        )

    did : (v : View) → IsSeen v → Did (up v) (held v) who call s then_
    did v right =
        let needs = need_at v right in
        let long : blocks_for (length text) ≡ blocks_for f.rec.len = ap blocks_for is.copied.long in
        let blocks : blocks_for (length text) + done.blocks ≡ done.blocks + need (up v) (held v) who call = omega (arith, needs, long) in
        record {
          wrote = record {
            count = if nat_lt 0 (length plan.take) then 2 else 1;
            are = are_commits v right (nat_lt 0 (length plan.take)) refl;
            blocks = done.blocks;
            commits = done.commits;
            writes = subst (λ (m : ℕ). RoseBy m o.disc.writes new.disc.writes) blocks done.writes;
          };
          read = λ offline.
              subst (λ (x : Option TapeCopy). ReadCopy x (len_of (up v) (held v) who call (version_read (held v).tree who call)) s then_)
              (sym (ap (λ p. p.copy) (place_in v reels o s.dump who call f records is.wants) ∙ is.away.copy))
              (subst (λ (m : ℕ). ReadCopy (Some c) m s then_) (sym (len_at v right)) is.copied.read);
        }

    stands_then : (end : State) → StandsForState (record s { online = new; spent = false }) end → StandsForState then_ end
    stands_then end there =
        subst (λ (b : Bool). StandsForState (record s { online = new; rack = after; spent = not b }) end) (sym done.live) (reads_keep_state (record s { online = new; spent = false }) after end is.only there)

    leads_done : (Told s → Belongs s) → (v : View) → IsSeen v → IsOpenView reels v o s.dump → IsAsked v o s.dump → v.text f.rec.stamp ≡ text → Leads (up v) s then_ who call (Ok (reply text))
    leads_done belongs v right opens known text_is =
        let end : State = state_up v reels new s.dump in
        let up_then : StoreFacts = record s { online = new; spent = false } in
        let right_then : IsView new.disc.held reels new.contents v =
        seen_still o.disc.held new.disc.held reels v (on_disc told n text plan.take o.contents) new.contents (is_some o.pins) is.tells contents_are right.rack (texts_back belongs v right text_is told) in
        let there : Seen up_then end = record {
          view = v;
          is = right_then;
          opens = record { is = λ all pins pinned. opens.is (retold o.disc.held new.disc.held reels is.tells all) pins (sym done.pins ∙ pinned) };
          state_is = refl;
        } in
        record {
          after = end;
          left = stands_then end (stands up_then end refl there);
          held = held v;
          holds = refl;
          outcome = Plain;
          raised = tt;
          step = step_back (up v) (held v) who call (granted_at v right) (off_at v right)
              (mounted_here s who call f c records is.wants is.away.offline is.away.copy v right ∙ is.copied.mounted) (brings_at v right) until
              (unjam_here s who call f c records is.wants is.away.offline is.away.copy v right is.brings_it (prepared s is.unspent is.store is.kept_plan) plan.take plan.room is.planned)
              (fits_at v right) (reply text) end (ap reply (sym text_is) ∙ replied v right) (state_behind told v right known new behind_is);
          did = did v right;
        }

    from_done : (Told s → Belongs s) → (u : State) → StandsForState s u → From u s who call (Ok (reply text)) then_
    from_done belongs u here =
        from_met (Ok (reply text)) then_ belongs u here (λ (m : MetAt u). leads_done belongs m.asks.view m.asks.is m.asks.opens m.asks.known m.text_is)

    pub done_then : Answers s who call (Ok (reply text)) then_
    done_then = record {
      step = from_done;
      cause = record {
        disc = Causes-for (λ no. absurd no) (λ is_err. let no : ⊥ = cc in no) (λ no. absurd no) (λ is_err. let no : ⊥ = cc in no) causes;
        tapes = is.only;
        tape_read = λ is_err. absurd (let no : ⊥ = cc in no);
        tape_read_only = λ isnt. is.read_kept;
        writes = λ fault is_err other. absurd (let no : ⊥ = cc in no);
      };
      keeps = is.keeps.store s (over_itself s is.unspent) is.store;
      told = is.keeps.told s (over_itself s is.unspent);
      belongs = λ t was. is.keeps.belongs s (over_itself s is.unspent) is.store t was;
      lost = λ full serial is_err. absurd (let no : ⊥ = cc in no);
      no_copy = λ t was full serial is_err. let no : ⊥ = cc in no;
      dump = λ isnt. refl;
      spent = (λ then_is. absurd (false≢true (sym (ap not done.live) ∙ then_is)), λ is_err. absurd (let no : ⊥ = cc in no));
      survives = stays_durable (IsAnswered s who call (Ok (reply text))) s then_ (ap not done.live) done.durable;
    }

  -- STOPPED
  module _ (stopped : HasStopped (Bring n text plan.take) o new) (causes : Causes ⊥ (Unit {0}) o.disc new.disc) where
    would_be : OnlineFacts
    would_be = record o { contents = committed (is_some o.pins) (on_disc true n text plan.take o.contents) }

    spent_then : (end : State) → DevicesStandFor new.disc.size new.disc.held reels end → StandsForState then_ end
    spent_then end devices =
        subst (λ (b : Bool). StandsForState (record s { online = new; rack = after; spent = not b }) end) (sym stopped.live)
        (reads_keep_state (record s { online = new; spent = true }) after end is.only (stands_spent new s.dump end s.rack devices))

    leads_by : (v : View) → IsSeen v → (e : Contents) (blocks : List (List ℕ)) → new.disc.held ≡ Some blocks → Holds blocks e → IsView new.disc.held reels e v
        → LeftByRefusal (up v) (held v) who call Cut until Stopped (state_down v reels new.disc.size (Some e)) → Leads (up v) s then_ who call (Err Stopped)
    leads_by v right e blocks held_is holds view left =
        let end = state_down v reels new.disc.size (Some e) in
        record {
          after = end;
          left = spent_then end (record { view = v; contents = Some e; is = (blocks, held_is, holds, view); none = λ no. absurd (true≢false no); rack = view.rack; state_is = refl });
          held = held v;
          holds = refl;
          outcome = Cut;
          raised = inl (causes.writes_rose tt);
          step = step_cut (up v) (held v) who call (granted_at v right) (off_at v right)
              (mounted_here s who call f c records is.wants is.away.offline is.away.copy v right ∙ is.copied.mounted) (brings_at v right) until
              (unjam_here s who call f c records is.wants is.away.offline is.away.copy v right is.brings_it (prepared s is.unspent is.store is.kept_plan) plan.take plan.room is.planned)
              (fits_at v right) end left;
          did = tt;
        }

    size_down : (v : View) (e : Contents) → state_down v reels new.disc.size (Some e) ≡ state_down v reels o.disc.size (Some e)
    size_down v e = ap (λ (m : ℕ). state_down v reels m (Some e)) is.size

    leads_one : (Told s → Belongs s) → (v : View) → IsSeen v → IsAsked v o s.dump → v.text f.rec.stamp ≡ text → (blocks : List (List ℕ)) → new.disc.held ≡ Some blocks
        → Holds blocks o.contents
        ⊎ (((0 < length plan.take) × Holds blocks (unjammed (is_some o.pins) (Bring n text plan.take) o.contents)) ⊎ Holds blocks (changed true (is_some o.pins) (Bring n text plan.take) o.contents))
        → Leads (up v) s then_ who call (Err Stopped)
    unfolding would_be
    leads_one belongs v right known text_is blocks held_is (inl holds) =
        leads_by v right o.contents blocks held_is holds
        (record { rack = rack_still o.disc.held new.disc.held reels v is.tells right.rack; files = texts_still o.disc.held new.disc.held reels v o.contents.files is.tells right.files })
        (inl (size_down v o.contents))
    leads_one belongs v right known text_is blocks held_is (inr (inl (some, holds))) =
        let e : Contents = committed (is_some o.pins) (off_disc plan.take o.contents) in
        leads_by v right e blocks held_is holds
        (seen_still o.disc.held new.disc.held reels v (off_disc plan.take o.contents) e (is_some o.pins) is.tells refl right.rack (texts_off s is.unspent is.store v right belongs plan.take))
        (inr (inl (
          unjam_is.takes v o s.dump (blocks_for f.rec.len) plan.take plan.room
              (are_here s who call f c records is.wants is.away.offline is.away.copy v right is.brings_it (prepared s is.unspent is.store is.kept_plan) plan.take plan.room is.planned) is.planned some,
          size_down v e ∙ down_off v reels o s.dump who call known (blocks_for f.rec.len) plan.take plan.room is.planned,
        )))
    leads_one belongs v right known text_is blocks held_is (inr (inr holds)) =
        let e : Contents = committed (is_some o.pins) (on_disc true n text plan.take o.contents) in
        leads_by v right e blocks held_is (subst (Holds blocks) (bring_is true (is_some o.pins) n text plan.take o.contents) holds)
        (seen_still o.disc.held new.disc.held reels v (on_disc true n text plan.take o.contents) e (is_some o.pins) is.tells refl right.rack (texts_back belongs v right text_is true))
        (inr (inr (size_down v e ∙ ap down (state_behind true v right known would_be (behind_with true would_be refl refl refl refl (λ some. refl))))))

    from_stopped : (Told s → Belongs s) → (u : State) → StandsForState s u → From u s who call (Err Stopped) then_
    from_stopped belongs u here =
        from_met (Err Stopped) then_ belongs u here (λ (m : MetAt u) told.
        let (blocks, held_is) = some_of new.disc.held (is.tells ∙ told.disc) in
        leads_one belongs m.asks.view m.asks.is m.asks.known m.text_is blocks held_is (stopped.holds blocks held_is).one)

    pub answered_stopped : IsAnswered s who call (Err Stopped) then_
    answered_stopped = record { step = from_stopped; belongs = λ t was. is.keeps.belongs s (over_itself s is.unspent) is.store t was }

-- STOPPED, with any disc that the failed write may have left
module _ (s : StoreFacts) (new : OnlineFacts) (after : Rack) (who : List ℕ) (call : StoreCall) (f : File) (c : TapeCopy) (text : List ℕ) (plan : Unjam) (is : Brings s new after who call f c text plan)
    (stopped : HasStopped (Bring f.rec.number text plan.take) s.online new) (causes : Causes ⊥ (Unit {0}) s.online.disc new.disc) where
  stopped_brings : (x : OnlineFacts) → IsStoppedAt (Bring f.rec.number text plan.take) s.online x → Brings s x after who call f c text plan
  stopped_brings x at = record {
    unspent = is.unspent;
    store = is.store;
    kept_plan = is.kept_plan;
    wants = is.wants;
    away = is.away;
    brings_it = is.brings_it;
    copied = is.copied;
    only = is.only;
    read_kept = is.read_kept;
    planned = is.planned;
    fits = is.fits;
    size = at.size;
    tells = at.tells;
    keeps = keeps_stopped s.online x s.rack after f.rec.number f c text plan.take (is.store.live is.unspent) is.store.tied is.away is.copied is.only at.tied at.tells at.stopped;
  }

  stopped_is : (x : OnlineFacts) → IsStoppedAt (Bring f.rec.number text plan.take) s.online x → IsAnswered s who call (Err Stopped) (record s { online = x; rack = after; spent = not new.live })
  stopped_is x at =
      subst (λ (b : Bool). IsAnswered s who call (Err Stopped) (record s { online = x; rack = after; spent = not b })) (at.stopped.live ∙ sym stopped.live)
      (answered_stopped s x after who call f c text plan (stopped_brings x at) at.stopped at.causes)

  pub stopped_then : Answers s who call (Err Stopped) (with_devices new after s)
  stopped_then =
      let store_then = is.keeps.store s (over_itself s is.unspent) is.store in
      let at : IsStoppedAt (Bring f.rec.number text plan.take) s.online new = record { tied = store_then.tied; size = is.size; tells = is.tells; stopped = stopped; causes = causes } in
      let is_now = stopped_is new at in record {
        step = is_now.step;
        cause = record {
          disc = Causes-for (λ no. absurd no) (λ is_err. let no : ⊥ = cc in no) (λ one. refl) (λ is_err. tt) causes;
          tapes = is.only;
          tape_read = λ is_err. absurd (let no : ⊥ = cc in no);
          tape_read_only = λ isnt. is.read_kept;
          writes = λ fault is_err other. absurd (other (let same : fault ≡ Stopped = cc in same));
        };
        keeps = store_then;
        told = is.keeps.told s (over_itself s is.unspent);
        belongs = is_now.belongs;
        lost = λ full serial is_err. absurd (let no : ⊥ = cc in no);
        no_copy = λ t was full serial is_err. let no : ⊥ = cc in no;
        dump = λ isnt. absurd (isnt refl);
        spent = (λ then_is. refl, λ is_err. ap not stopped.live);
        survives = stop_survives (IsAnswered s who call (Err Stopped)) (Bring f.rec.number text plan.take) s (with_devices new after s) (ap not stopped.live) at stopped_is;
      }
