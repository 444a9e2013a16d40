-- How an append is answered once it writes: the new version is the step's, whether it was written or a write failed.
-- serves: AppendCallLemmas
use Rattle.std.proofs.Common.{◌≡◌, ℕ, ◌+◌, ◌<◌, ◌≤◌, Bool, true, false, List, ◌++◌, get_or, length, length-append, Option, Some, None, Ok, Err, is_some, refl, sym, ◌∙◌, ap, inl, inr, subst, true≢false, All}
use Rattle.std.specs.Prelude.{◌⊎◌, Contains, IfSome, not, Result}
use Rattle.std.specs.Option.{ForSome}
use Rattle.std.proofs.lemmas.Bool.{false≢true}
use Rattle.std.proofs.lemmas.List.Elements.{All-contains, All-map}
use Rattle.std.proofs.lemmas.Option.{none-some}
use Rattle.g_base.specs.Block.{blocks_for}
use Rattle.g_base.specs.Counts.{Rose}
use Rattle.g_disc.specs.Disc.{Causes}
use Rattle.g_disc.proofs.CallLemmas.{Causes-for, stands_later, then_later}
use Rattle.g_name.specs.declared.full.Full.{Full}
use Rattle.g_name.specs.declared.path.Path.{Path}
use Rattle.g_entry.specs.declared.file_rec.FileRec.{FileRec}
use Rattle.g_entry.specs.declared.file_rec.TapeCopy.{TapeCopy}
use Rattle.g_tape.specs.Rack.{Rack}
use Rattle.g_tape.specs.Reads.{HasRead, OnlyReads}
use Rattle.g_tape.specs.Reel.{Reel}
use Rattle.g_plain.specs.declared.calls.StoreCall.{StoreCall}
use Rattle.g_plain.specs.declared.calls.StoreCall.TheVariants.{Append}
use Rattle.g_plain.specs.declared.calls.StoreReply.{StoreReply}
use Rattle.g_plain.specs.declared.calls.StoreReply.TheVariants.{Appended}
use Rattle.g_plain.specs.declared.faults.StoreFault.TheVariants.{Stopped}
use Rattle.g_plain.specs.PlainStep.{reply_to}
use Rattle.g_plain.specs.PlainTree.{FileRow, file_row}
use Rattle.g_tree.specs.Records.{file_row_of, full_of}
use Rattle.g_dirs.specs.Directory.{FileEntry}
use Rattle.g_disc_contents.specs.Contents.{Contents, File, file_of}
use Rattle.g_disc_contents.specs.Facts.{IsTied, OnlineFacts}
use Rattle.g_incr.specs.Layout.{Dump}
use Rattle.g_store_model.specs.State.{Holding, Place, State}
use Rattle.g_store_model.specs.CallStep.{Plain, is_offline, len_of, place_of, version_read}
use Rattle.g_store_meaning.specs.Answers.{Answers, Belongs, From, IsAnswered, IsStore, ReadCopy, Steps, Told}
use Rattle.g_store_meaning.specs.Meaning.{IsContent, told_reels}
use Rattle.g_store_meaning.specs.Reading.{AllTold, HasText, IsView, ReelsTold, StandsForState, View, state_up}
use Rattle.g_store_meaning.specs.StoreInvariant.{StoreFacts}
use Rattle.g_store_meaning.proofs.ViewLemmas.{reads_belong}
use Rattle.g_laws_store.specs.Calls.{IsVersionOf, version_made}
use Rattle.g_laws_store.specs.Rooms.{held_in}
use Rattle.g_laws_store.specs.UnjamPlan.{IsUnjamPlan}
use Rattle.g_online.specs.declared.change.Change.{Change}
use Rattle.g_online.specs.declared.change.Change.TheVariants.{PutFile}
use Rattle.g_online.specs.Outcomes.{HasChanged, HasStopped}
use Rattle.g_retrieve.specs.Retrieval.{HasCopied}
use Rattle.g_retrieve.proofs.HeldLemmas.{copied_one}
use Rattle.g_retrieve.proofs.KeepsLemmas.{keeps_same}
use Rattle.g_store_calls.specs.Answering.{KeepsPlan}
use Rattle.g_store_calls.specs.Appending.{IsAtHand, IsOldText, version_of}
use Rattle.g_store_calls.specs.Asking.{HasAsked}
use Rattle.g_store_calls.specs.Versions.{HasRoom}
use Rattle.g_store_calls.proofs.AheadLemmas.{Ahead, ahead_stands}
use Rattle.g_store_calls.proofs.AppendLemmas.{going, granted_here, long_here, named_here, need_here, offline_here}
use Rattle.g_store_calls.proofs.AskedLemmas.{Met, met, no_bytes, prepared}
use Rattle.g_store_calls.proofs.QuietLemmas.{online_is, read_online}
use Rattle.g_store_calls.proofs.SurvivalLemmas.{IsStoppedAt, stays_durable, stop_survives}
use Rattle.g_store_calls.proofs.VersionLemmas.{IsMet, belongs_done, belongs_stopped, leads_done, leads_stopped, store_done}
use Rattle.g_store_calls.proofs.WantLemmas.{Wants, len_in, place_in, row_in}
use Rattle.g_plain.specs.declared.faults.StoreFault.{StoreFault}

-- a change after reads
module _ (change : Change) (s : StoreFacts) (mid new : OnlineFacts) (after : Rack) (unspent : s.spent ≡ false) (store : IsStore s) (asked : HasAsked ⊥ ⊥ s.online mid s.rack after) where
  mid_is : mid ≡ read_online s mid after ⊥ ⊥ unspent store asked
  mid_is = online_is s mid after ⊥ ⊥ unspent store asked

  pub changed_over : HasChanged change mid new → HasChanged change s.online new
  changed_over done =
      let d : HasChanged change (read_online s mid after ⊥ ⊥ unspent store asked) new = subst (λ (x : OnlineFacts). HasChanged change x new) mid_is done in
      record { live = d.live; contents = d.contents; pins = d.pins; changed = d.changed; touched = d.touched; blocks = d.blocks; commits = d.commits; writes = d.writes; durable = d.durable }

  pub stopped_over : HasStopped change mid new → HasStopped change s.online new
  stopped_over stopped =
      let d : HasStopped change (read_online s mid after ⊥ ⊥ unspent store asked) new = subst (λ (x : OnlineFacts). HasStopped change x new) mid_is stopped in
      record {
        live = d.live;
        holds = λ blocks is. record { one = (d.holds blocks is).one };
        survives = λ durable. let both = d.survives durable in (both.0, λ a told left may. record { one = (both.1 a told left may).one });
      }

  pub causes_over : {Q : Type 0} → Causes ⊥ Q mid.disc new.disc → Causes ⊥ Q s.online.disc new.disc
  causes_over causes = record {
    size = causes.size ∙ asked.disc.size;
    arms = causes.arms ∙ asked.disc.arms;
    later = then_later (stands_later asked.disc.writes) causes.later;
    reads_kept = λ no. causes.reads_kept no ∙ asked.disc.kept no;
    reads_rose = λ no. absurd no;
    writes_kept = λ no. causes.writes_kept no ∙ asked.disc.write_faults;
    writes_rose = λ is. subst (λ (n : ℕ). Rose n new.disc.write_faults) asked.disc.write_faults (causes.writes_rose is);
  }

-- after reads of the rack
module _ (s : StoreFacts) (new : OnlineFacts) (after : Rack) (only : OnlyReads s.rack after) where
  store_then : new.live ≡ true → IsStore (record s { online = new; spent = false }) → IsStore (record s { online = new; rack = after; spent = false })
  store_then live was =
      let then_ = (keeps_same new s.rack after live only).store (record s { online = new; spent = false }) (record { online_is = refl; rack_is = refl; unspent = refl }) was in
      subst (λ (b : Bool). IsStore (record s { online = new; rack = after; spent = b })) (ap not live) then_

  belongs_then : new.live ≡ true → IsStore (record s { online = new; spent = false }) → Told (record s { online = new; spent = false }) → Belongs (record s { online = new; spent = false })
      → Belongs (record s { online = new; rack = after; spent = false })
  belongs_then live store told was =
      let then_ = (keeps_same new s.rack after live only).belongs (record s { online = new; spent = false }) (record { online_is = refl; rack_is = refl; unspent = refl }) store told was in
      subst (λ (b : Bool). Belongs (record s { online = new; rack = after; spent = b })) (ap not live) then_

  belongs_spent : Belongs (record s { online = new; spent = true }) → Belongs (record s { online = new; rack = after; spent = true })
  belongs_spent was = record { devices = reads_belong new.disc.held s.rack after only was.devices; up = λ no. absurd (true≢false no) }

  told_then : is_some new.disc.held ≡ is_some s.online.disc.held → Told s → AllTold new.disc.held (told_reels after)
  told_then tells told = record { disc = tells ∙ told.disc; each = subst ReelsTold (sym only.reels) told.each }

-- the bytes of a file that is on the disc are exposed if the disc exposes its contents
abbrev TellsOnline : File → Type 0
TellsOnline g = g.online ≡ true → is_some g.bytes ≡ true

tells_entry : (held : Option (List (List ℕ))) (e : FileEntry) → is_some held ≡ true → TellsOnline (file_of held e)
tells_entry held (rec, None) told on = absurd (false≢true on)
tells_entry None (rec, Some copy) told on = absurd (false≢true told)
tells_entry (Some blocks) (rec, Some copy) told on = refl

tells_there : (o : OnlineFacts) → IsTied o → o.live ≡ true → is_some o.disc.held ≡ true → (f : File) → Contains o.contents.files f → f.online ≡ true → is_some f.bytes ≡ true
tells_there o tied live told f there =
    All-contains TellsOnline o.contents.files f
    (subst (λ (x : Contents). All TellsOnline x.files) (sym (tied.contents live))
    (All-map TellsOnline (file_of o.disc.held) o.layout.directory.files (λ i e within. tells_entry o.disc.held (get_or o.layout.directory.files i e) told)))
    there

-- THE NEW VERSION
module _ (s : StoreFacts) (new : OnlineFacts) (after : Rack) (unspent : s.spent ≡ false) (store : IsStore s) (keeps : KeepsPlan s.dump) (who : List ℕ) (path : Path) (bytes : List ℕ) (f : File)
    (wants : Wants s.online who (Append path bytes) f) (text : List ℕ) (read : IsOldText f text s.rack after) (only : OnlyReads s.rack after) (kept : after.read_faults ≡ s.rack.read_faults)
    (hand : IsAtHand f s.rack) (take : List ℕ) (room : ℕ) (plan : IsUnjamPlan (blocks_for (f.rec.len + length bytes)) s.online take room) (fits : blocks_for (f.rec.len + length bytes) ≤ room)
    (version : IsVersionOf s.online (full_of s.online.contents.users f.rec) (version_of f.rec s.online.contents.head.next_stamp (f.rec.len + length bytes)))
    (tied : IsTied new) (size : new.disc.size ≡ s.online.disc.size) (tells : is_some new.disc.held ≡ is_some s.online.disc.held) where
  abbrev o : OnlineFacts
  o = s.online

  abbrev reels : List Reel
  reels = told_reels s.rack

  abbrev call : StoreCall
  call = Append path bytes

  abbrev full : Full
  full = full_of s.online.contents.users f.rec

  abbrev whole : List ℕ
  whole = text ++ bytes

  abbrev rec : FileRec
  rec = version_of f.rec s.online.contents.head.next_stamp (f.rec.len + length bytes)

  abbrev change : Change
  change = PutFile rec whole take

  long : length whole ≡ f.rec.len + length bytes
  long = length-append text bytes ∙ ap (λ (n : ℕ). n + length bytes) read.0

  roomy : HasRoom (blocks_for (length whole)) o take room
  roomy = subst (λ (n : ℕ). HasRoom (blocks_for n) o take room) (sym long) (record { plan = plan; enough = fits })

  -- the text that was read is the view's, if everything is exposed
  text_told : Told s → (v : View) → IsView o.disc.held reels o.contents v → v.text f.rec.stamp ≡ text
  text_told told v right = by_place read.1
    where
      has : HasText (AllTold o.disc.held reels) (v.text f.rec.stamp) v.dumps f
      has = All-contains (λ (g : File). HasText (AllTold o.disc.held reels) (v.text g.rec.stamp) v.dumps g) o.contents.files f right.files wants.there

      by_bytes : (x : Option (List ℕ)) → f.bytes ≡ x → is_some x ≡ true → ForSome f.bytes (λ b. b ≡ text) → v.text f.rec.stamp ≡ text
      by_bytes None is some same = absurd (false≢true some)
      by_bytes (Some b) is some same = sym (has.bytes b is) ∙ same b is

      by_place : ((f.online ≡ true) × ForSome f.bytes (λ b. b ≡ text)) ⊎ ((f.online ≡ false) × (c : TapeCopy) × (f.rec.tape ≡ Some c) × HasCopied c f.rec.len text s.rack after)
          → v.text f.rec.stamp ≡ text
      by_place (inl (online, same)) = by_bytes f.bytes refl (tells_there o store.tied (store.live unspent) told.disc f wants.there online) same
      by_place (inr (offline, c, copy, copied)) =
          let content : IsContent v.dumps c (v.text f.rec.stamp) = subst (λ (x : Option TapeCopy). IfSome x (λ k. IsContent v.dumps k (v.text f.rec.stamp))) copy (has.tape told offline) in
          sym (copied_one v.shelf c f.rec.len (v.text f.rec.stamp) text s.rack after told.each right.rack.shelved
          (subst (λ (ds : List Dump). IsContent ds c (v.text f.rec.stamp)) right.rack.all content) has.len copied)

  -- and no other is there
  text_held : ForSome f.bytes (λ b. b ≡ text)
  text_held = by_place read.1
    where
      by_place : ((f.online ≡ true) × ForSome f.bytes (λ b. b ≡ text)) ⊎ ((f.online ≡ false) × (c : TapeCopy) × (f.rec.tape ≡ Some c) × HasCopied c f.rec.len text s.rack after)
          → ForSome f.bytes (λ b. b ≡ text)
      by_place (inl (online, same)) b is = same b is
      by_place (inr (offline, c, copy, copied)) b is = absurd (none-some b (sym (no_bytes s unspent store f wants.there offline) ∙ is))

  -- THE STATE THAT IT MET
  module _ (belongs : Told s → Belongs s) (u : State) (here : StandsForState s u) where
    m : Met s unspent store keeps f text wants.there read.0 text_held u
    m = met s unspent store keeps f text wants.there read.0 text_held belongs text_told u here

    abbrev v : View
    v = m.asks.view

    abbrev up : State
    up = state_up m.asks.view reels o s.dump

    abbrev k : Holding
    k = held_in m.asks.view o

    abbrev ahead : Ahead s (state_up m.asks.view reels o s.dump)
    ahead = record { view = m.asks.view; is = m.asks.is; opens = m.asks.opens; state_is = refl; dumped = m.asks.known.dumped; opened = m.asks.known.opened }

    is_met : IsMet m.asks.view reels o s.dump who call (blocks_for (length whole))
    is_met = record {
      granted = granted_here s unspent store keeps who path bytes f wants v m.asks.is;
      needs = need_here s unspent store keeps who path bytes f wants v m.asks.is ∙ ap blocks_for (sym long);
      waits = going s unspent store keeps who path bytes f wants v m.asks.is Plain hand;
    }

    row_here : file_row k.tree full ≡ file_row_of o.contents.users (λ (r : FileRec). v.text r.stamp) f.rec
    row_here = row_in v reels o s.dump who call f (prepared s unspent store keeps).records wants

    makes : version_made k.tree who call ≡ Some (full, whole)
    makes =
        ap (λ (n : Full). let x : Option (Full × List ℕ) = Some (n, (file_row k.tree n).bytes ++ bytes) in x) (named_here s unspent store keeps who path bytes f wants v m.asks.is)
        ∙ ap (λ (row : FileRow). let x : Option (Full × List ℕ) = Some (full, row.bytes ++ bytes) in x) row_here
        ∙ ap (λ (t : List ℕ). let x : Option (Full × List ℕ) = Some (full, t ++ bytes) in x) m.text_is

    replied : Appended full ≡ reply_to k.tree who call
    replied = ap Appended (sym (named_here s unspent store keeps who path bytes f wants v m.asks.is))

    -- the blocks of an offline copy were read
    copy_read : (t : StoreFacts) → t.rack ≡ after → is_offline up k who call ≡ true
        → ReadCopy (place_of up k who call (version_read k.tree who call)).copy (len_of up k who call (version_read k.tree who call)) s t
    copy_read t is off = by_place read.1
      where
        offline_is : is_offline up k who call ≡ not f.online
        offline_is = offline_here s unspent store keeps who path bytes f wants v m.asks.is

        place_is : (place_of up k who call (version_read k.tree who call)).copy ≡ f.rec.tape
        place_is = ap (λ (p : Place). p.copy) (place_in v reels o s.dump who call f (prepared s unspent store keeps).records wants)

        len_is : len_of up k who call (version_read k.tree who call) ≡ f.rec.len
        len_is = len_in v reels o s.dump who call f (prepared s unspent store keeps).records wants (long_here s unspent store keeps who path bytes f wants v m.asks.is)

        by_place : ((f.online ≡ true) × ForSome f.bytes (λ b. b ≡ text)) ⊎ ((f.online ≡ false) × (c : TapeCopy) × (f.rec.tape ≡ Some c) × HasCopied c f.rec.len text s.rack after)
            → ReadCopy (place_of up k who call (version_read k.tree who call)).copy (len_of up k who call (version_read k.tree who call)) s t
        by_place (inl (online, same)) = absurd (false≢true (sym (offline_is ∙ ap not online) ∙ off))
        by_place (inr (offline, c, copy, copied)) =
            subst (λ (x : Option TapeCopy). ReadCopy x (len_of up k who call (version_read k.tree who call)) s t) (sym (place_is ∙ copy))
            (subst (λ (n : ℕ). (i : ℕ) → c.first ≤ i → i < c.first + blocks_for n → HasRead c.serial i s.rack t.rack) (sym len_is)
            (subst (λ (r : Rack). (i : ℕ) → c.first ≤ i → i < c.first + blocks_for f.rec.len → HasRead c.serial i s.rack r) (sym is) copied.read))

    -- from there
    from_met : (answer : Result StoreReply StoreFault) (t : StoreFacts) → Steps up s who call answer t → From u s who call answer t
    from_met answer t steps = record { before = up; stands = ahead_stands s up unspent ahead; told = λ all. m.asks.told all; steps = steps }

  -- MADE
  module _ (done : HasChanged change s.online new) (causes : Causes ⊥ ⊥ s.online.disc new.disc) where
    abbrev made : StoreFacts
    made = record s { online = new; rack = after; spent = false }

    pub done_answers : Answers s who call (Ok (Appended full)) made
    done_answers = record {
      step = λ belongs u here.
          from_met belongs u here (Ok (Appended full)) made
          (leads_done s new full whole rec take room unspent store keeps tied size tells version (sym long) roomy belongs (up belongs u here) (ahead belongs u here) who call (is_met belongs u here)
          (makes belongs u here) refl done after only (Appended full) (replied belongs u here) (copy_read belongs u here made refl));
      cause = record {
        disc = Causes-for (λ no. absurd no) (λ is. let no : ⊥ = cc in no) (λ no. absurd no) (λ is. let no : ⊥ = cc in no) causes;
        tapes = only;
        tape_read = λ is. absurd (let no : ⊥ = cc in no);
        tape_read_only = λ isnt. kept;
        writes = λ fault is other. absurd (let no : ⊥ = cc in no);
      };
      keeps = store_then s new after only done.live (store_done s new full whole rec take room unspent store keeps tied size tells version (sym long) roomy done);
      told = told_then s new after only tells;
      belongs = λ told was. belongs_then s new after only done.live (store_done s new full whole rec take room unspent store keeps tied size tells version (sym long) roomy done)
          (record { disc = tells ∙ told.disc; each = told.each }) (belongs_done s new full whole rec take room unspent store keeps tied size tells version (sym long) roomy done was);
      lost = λ name serial is. absurd (let no : ⊥ = cc in no);
      no_copy = λ told was name serial is. let no : ⊥ = cc in no;
      dump = λ isnt. refl;
      spent = (λ is. absurd (false≢true is), λ is. absurd (let no : ⊥ = cc in no));
      survives = stays_durable (IsAnswered s who call (Ok (Appended full))) s made refl done.durable;
    }

  -- STOPPED
  module _ (stopped : HasStopped change s.online new) (causes : Causes ⊥ (Unit {0}) s.online.disc new.disc) where
    abbrev spent : StoreFacts
    spent = record s { online = new; rack = after; spent = true }

    pub answered_stopped : IsAnswered s who call (Err Stopped) spent
    answered_stopped = record {
      step = λ belongs u here.
          from_met belongs u here (Err Stopped) spent
          (leads_stopped s new full whole rec take room unspent store keeps tied size tells version (sym long) roomy belongs (up belongs u here) (ahead belongs u here) who call (is_met belongs u here)
          (makes belongs u here) refl stopped causes after only);
      belongs = λ told was. belongs_spent s new after only (belongs_stopped s new full whole rec take room unspent store keeps tied size tells version (sym long) roomy stopped was);
    }

-- STOPPED, with any disc that the failed write may have left
module _ (s : StoreFacts) (new : OnlineFacts) (after : Rack) (unspent : s.spent ≡ false) (store : IsStore s) (keeps : KeepsPlan s.dump) (who : List ℕ) (path : Path) (bytes : List ℕ) (f : File)
    (wants : Wants s.online who (Append path bytes) f) (text : List ℕ) (read : IsOldText f text s.rack after) (only : OnlyReads s.rack after) (kept : after.read_faults ≡ s.rack.read_faults)
    (hand : IsAtHand f s.rack) (take : List ℕ) (room : ℕ) (plan : IsUnjamPlan (blocks_for (f.rec.len + length bytes)) s.online take room) (fits : blocks_for (f.rec.len + length bytes) ≤ room)
    (version : IsVersionOf s.online (full_of s.online.contents.users f.rec) (version_of f.rec s.online.contents.head.next_stamp (f.rec.len + length bytes)))
    (at : IsStoppedAt (PutFile (version_of f.rec s.online.contents.head.next_stamp (f.rec.len + length bytes)) (text ++ bytes) take) s.online new) where
  stopped_is : (x : OnlineFacts) → IsStoppedAt (PutFile (version_of f.rec s.online.contents.head.next_stamp (f.rec.len + length bytes)) (text ++ bytes) take) s.online x
      → IsAnswered s who (Append path bytes) (Err Stopped) (record s { online = x; rack = after; spent = true })
  stopped_is x a = answered_stopped s x after unspent store keeps who path bytes f wants text read only kept hand take room plan fits version a.tied a.size a.tells a.stopped a.causes

  pub stopped_answers : Answers s who (Append path bytes) (Err Stopped) (record s { online = new; rack = after; spent = true })
  stopped_answers =
      let is_now = stopped_is new at in record {
        step = is_now.step;
        cause = record {
          disc = Causes-for (λ no. absurd no) (λ is. let no : ⊥ = cc in no) (λ one. refl) (λ is. tt) at.causes;
          tapes = only;
          tape_read = λ is. absurd (let no : ⊥ = cc in no);
          tape_read_only = λ isnt. kept;
          writes = λ fault is other. absurd (other (let same : fault ≡ Stopped = cc in same));
        };
        keeps = record { tied = at.tied; live = λ no. absurd (true≢false no); open_dump = λ no. absurd (true≢false no); pins = λ no none. absurd (true≢false no) };
        told = told_then s new after only at.tells;
        belongs = is_now.belongs;
        lost = λ name serial is. absurd (let no : ⊥ = cc in no);
        no_copy = λ told was name serial is. let no : ⊥ = cc in no;
        dump = λ isnt. absurd (isnt refl);
        spent = (λ is. refl, λ is. refl);
        survives = stop_survives (IsAnswered s who (Append path bytes) (Err Stopped))
            (PutFile (version_of f.rec s.online.contents.head.next_stamp (f.rec.len + length bytes)) (text ++ bytes) take) s (record s { online = new; rack = after; spent = true }) refl at stopped_is;
      }
