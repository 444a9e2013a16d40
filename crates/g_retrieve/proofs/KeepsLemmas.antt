-- A store preserves its invariant when its rack is read and a file is brought back.
-- serves: BackLemmas, crates above
use Rattle.std.proofs.Common.{◌≡◌, ℕ, ◌<◌, Bool, true, false, List, [], ◌∷◌, map, get_or, Option, Some, None, is_some, refl, sym, ◌∙◌, ap, subst, arith, inl, inr, if◌then◌else◌}
use Rattle.std.specs.Prelude.{◌⊎◌, ◌||◌, All, IfSome, length, not, option_map}
use Rattle.std.specs.Option.{ForSome}
use Rattle.std.proofs.lemmas.List.Elements.{All-map, Contains-get_or}
use Rattle.g_entry.specs.declared.file_rec.FileRec.{FileRec}
use Rattle.g_entry.specs.declared.file_rec.TapeCopy.{TapeCopy}
use Rattle.g_tape.specs.Rack.{Rack, reel}
use Rattle.g_tape.specs.Reads.{OnlyReads, unread}
use Rattle.g_tape.specs.Reel.{Reel}
use Rattle.g_tape.proofs.ReadLemmas.{reel_after_reads}
use Rattle.g_tree.proofs.RuleLemmas.{one_of_key}
use Rattle.g_disc_contents.specs.Contents.{Contents, File, Holds, brought, committed, offline_in, taken_off, with_intent}
use Rattle.g_disc_contents.specs.Facts.{IsTied, OnlineFacts}
use Rattle.g_disc_contents.proofs.HoldLemmas.{holds_one}
use Rattle.g_online.specs.declared.change.Change.TheVariants.{Bring}
use Rattle.g_online.specs.Change.{changed, told_bytes, unjammed, with_files}
use Rattle.g_online.specs.Outcomes.{AfterStop, HasChanged, HasStopped}
use Rattle.g_online.proofs.OffRuleLemmas.{rec_off}
use Rattle.g_incr.specs.Layout.{Dump, holds}
use Rattle.g_shelf.specs.CompletedDumps.{AreShelved}
use Rattle.g_store_meaning.specs.Answers.{Belongs, IsStore, Told}
use Rattle.g_store_meaning.specs.Belonging.{BelongWith, DiscBelongs}
use Rattle.g_store_meaning.specs.Laws.{BringsText, IsQuiet}
use Rattle.g_store_meaning.specs.Meaning.{told_reels}
use Rattle.g_store_meaning.specs.Reading.{ReelsTold}
use Rattle.g_store_meaning.specs.Staying.{OnlyGrow, behind}
use Rattle.g_store_meaning.specs.StoreInvariant.{DumpFacts, IsOpen, IsUp, StoreFacts}
use Rattle.g_store_meaning.proofs.ChangeLemmas.{files_belong}
use Rattle.g_store_meaning.proofs.StayLemmas.{stays_open, stays_up}
use Rattle.g_laws_store.proofs.DumpingLemmas.{events_stay_up}
use Rattle.g_laws_store.proofs.TiedLemmas.{committed_belongs, devices_belong, moved, spent_store, spent_then}
use Rattle.g_laws_store.proofs.UnjamLemmas.{numbers_apart}
use Rattle.g_retrieve.specs.Retrieval.{HasCopied, IsOnTape}
use Rattle.g_retrieve.specs.Invariant.{IsOver, KeepsDevices}
use Rattle.g_retrieve.proofs.AllowLemmas.{rules_here}
use Rattle.g_retrieve.proofs.HeldLemmas.{copied_one, text_is}

-- ONLY READS of the rack
serials_kept : (reels : List Reel) → map (λ (r : Reel). r.serial) (map unread reels) ≡ map (λ (r : Reel). r.serial) reels
serials_kept [] = refl
serials_kept (r ∷ rs) = λ i. r.serial ∷ serials_kept rs i

found_unread : (o : Option Reel) (r : Reel) → option_map unread o ≡ Some (unread r) → (q : Reel) × (o ≡ Some q) × (unread q ≡ unread r)
found_unread None r is = let no : ⊥ = cc in absurd no
found_unread (Some q) r is = (q, refl, (let same : unread q ≡ unread r = cc in same))

open_read : (d : DumpFacts) (o : OnlineFacts) (before after : Rack) → OnlyReads before after → IsOpen d o before → IsOpen d o after
open_read d o before after only is =
    let (q, at, same) = found_unread (reel d.plan.serial after.reels) is.on (reel_after_reads d.plan.serial before after only ∙ ap (option_map unread) is.reel_is) in
    let long : q.len ≡ is.on.len = ap (λ (r : Reel). r.len) same in
    let wide : q.capacity ≡ is.on.capacity = ap (λ (r : Reel). r.capacity) same in
    let from = is.from in
    let room = is.room in
    record {
      intent = is.intent;
      number = is.number;
      pins = is.pins;
      pinned = is.pinned;
      are = is.are;
      on = q;
      reel_is = at;
      mounted = ap (λ (r : Reel). r.mounted) same ∙ is.mounted;
      from = omega (arith, from, long);
      length_is = λ some. long ∙ is.length_is some;
      room = omega (arith, room, wide);
      within = is.within;
      written = λ some blocks told. is.written some blocks (sym (ap (λ (r : Reel). r.blocks) same) ∙ told);
    }

opens_read : (dump : Option DumpFacts) (o : OnlineFacts) (before after : Rack) → OnlyReads before after → IfSome dump (λ d. IsOpen d o before) → IfSome dump (λ d. IsOpen d o after)
opens_read None o before after only is = tt
opens_read (Some d) o before after only is = open_read d o before after only is

abbrev with_rack : Rack → StoreFacts → StoreFacts
with_rack rack s = record s { rack = rack }

module _ (s : StoreFacts) (after : Rack) (only : OnlyReads s.rack after) where
  store_read : IsStore s → IsStore (with_rack after s)
  store_read is = record {
    tied = is.tied;
    live = is.live;
    open_dump = λ up. opens_read s.dump s.online s.rack after only (is.open_dump up);
    pins = is.pins;
  }

  told_read : Told s → Told (with_rack after s)
  told_read told = record { disc = told.disc; each = subst ReelsTold (sym only.reels) told.each }

  same_reels : map (λ (r : Reel). r.serial) after.reels ≡ map (λ (r : Reel). r.serial) s.rack.reels
  same_reels = sym (serials_kept after.reels) ∙ ap (map (λ (r : Reel). r.serial)) only.reels ∙ serials_kept s.rack.reels

  belongs_read : Belongs s → Belongs (with_rack after s)
  belongs_read was = record {
    devices = subst (BelongWith s.online.disc.held) (sym only.reels) was.devices;
    up = λ unspent.
        let (text, shelf, shelved, up) = was.up unspent in
        (text, shelf, subst (AreShelved shelf) (sym only.reels) shelved, events_stay_up.reels text shelf s after same_reels up);
  }

abbrev with_online : OnlineFacts → StoreFacts → StoreFacts
with_online o s = record s { online = o; spent = not o.live }

-- the contents after the change, and between its commits
abbrev off : List ℕ → Contents → Contents
off take c = with_files (taken_off take c.files) c

abbrev back : Bool → ℕ → List ℕ → List ℕ → Contents → Contents
back told number text take c = with_files (brought number (told_bytes told text) (taken_off take c.files)) c

changed_is : (told pinned : Bool) (number : ℕ) (text take : List ℕ) (c : Contents) → changed told pinned (Bring number text take) c ≡ committed (pinned || false) (back told number text take c)
unfolding changed
changed_is told pinned number text take c = refl

-- each record of the file's number has the text of its stamp
brings_off : (text : ℕ → List ℕ) (number : ℕ) (bytes : Option (List ℕ)) (take : List ℕ) (files : List File) → All (BringsText text number bytes) files → All (BringsText text number bytes) (taken_off take files)
brings_off text number bytes take files all =
    All-map (BringsText text number bytes) (offline_in take) files
    (λ k d inside. one (get_or files k d) (all k d inside))
  where
    one : (f : File) → BringsText text number bytes f → BringsText text number bytes (offline_in take f)
    one f is = subst (λ (r : FileRec). r.number ≡ number → ForSome bytes (λ b. b ≡ text r.stamp)) (sym (rec_off take f)) is

brings_all : (text : ℕ → List ℕ) (o : OnlineFacts) (number : ℕ) (f : File) (c : TapeCopy) (told : Bool) (bytes : List ℕ) → IsTied o → o.live ≡ true → IsOnTape number o f c → bytes ≡ text f.rec.stamp
    → All (BringsText text number (told_bytes told bytes)) o.contents.files
brings_all text o number f c told bytes tied live away is = λ k d inside at.
    let g = get_or o.contents.files k d in
    let numbers = (rules_here o live tied).records.numbers.rising in
    let same = one_of_key (λ (h : File). h.rec.number) o.contents.files f g (numbers_apart o.contents.files numbers) away.there (Contains-get_or o.contents.files k d inside) (away.number_is ∙ sym at) in
    by_told told (is ∙ ap (λ (h : File). text h.rec.stamp) same)
  where
    by_told : {t : List ℕ} (b : Bool) → bytes ≡ t → ForSome (told_bytes b bytes) (λ x. x ≡ t)
    by_told true same = λ x e. (let one : bytes ≡ x = cc in sym one) ∙ same
    by_told false same = λ x e. absurd (let no : ⊥ = cc in no)

both_belong : (text : ℕ → List ℕ) (shelf : ℕ → List Dump) (reels : List Reel) (told pinned : Bool) (number : ℕ) (bytes take : List ℕ) (c : Contents) → IsQuiet shelf reels c
    → All (BringsText text number (told_bytes told bytes)) c.files → DiscBelongs text shelf reels c → DiscBelongs text shelf reels (changed told pinned (Bring number bytes take) c)
both_belong text shelf reels told pinned number bytes take c quiet brings belongs =
    subst (DiscBelongs text shelf reels) (sym (changed_is told pinned number bytes take c))
    (committed_belongs text shelf reels (pinned || false) (back told number bytes take c) quiet
    (files_belong.back text shelf reels (off take c) number (told_bytes told bytes) (brings_off text number (told_bytes told bytes) take c.files brings)
    (files_belong.offline text shelf reels c take belongs)))

-- THE OPEN DUMP stays open
open_kept : (d : DumpFacts) (o new : OnlineFacts) (rack : Rack) (number : ℕ) (bytes take : List ℕ) → new.pins ≡ o.pins
    → new.contents ≡ changed (is_some o.disc.held) (is_some o.pins) (Bring number bytes take) o.contents → IsOpen d o rack → IsOpen d new rack
open_kept d o new rack number bytes take pins contents is =
    let same : new.contents ≡ back (is_some o.disc.held) number bytes take o.contents =
    contents ∙ changed_is (is_some o.disc.held) (is_some o.pins) number bytes take o.contents
    ∙ ap (λ (b : Bool). committed (b || false) (back (is_some o.disc.held) number bytes take o.contents)) (ap is_some is.pinned) in
    stays_open d o new rack rack (ap (λ (c : Contents). c.head.intent) same) (ap (λ (c : Contents). c.head.last_dump) same) pins refl is

dump_kept : (dump : Option DumpFacts) (o new : OnlineFacts) (rack : Rack) (number : ℕ) (bytes take : List ℕ) → new.pins ≡ o.pins
    → new.contents ≡ changed (is_some o.disc.held) (is_some o.pins) (Bring number bytes take) o.contents → IfSome dump (λ d. IsOpen d o rack) → IfSome dump (λ d. IsOpen d new rack)
dump_kept None o new rack number bytes take pins contents is = tt
dump_kept (Some d) o new rack number bytes take pins contents is = open_kept d o new rack number bytes take pins contents is

-- no mark is removed
grows_to : (old new : List ℕ) → new ≡ old → (n : ℕ) → holds old n ≡ true → holds new n ≡ true
grows_to old new same n is = ap (λ (l : List ℕ). holds l n) same ∙ is

itself_grows : (s : StoreFacts) → OnlyGrow s s.online.changed s.online.touched
itself_grows s = record { grows = λ n is. is; grows_open = by_dump s.dump }
  where
    by_dump : (dump : Option DumpFacts) → IfSome dump (λ d. (n : ℕ) → holds s.online.touched n ≡ true → holds s.online.touched n ≡ true)
    by_dump None = tt
    by_dump (Some d) = λ n is. is

-- IF IT IS DONE
module _ (s : StoreFacts) (new : OnlineFacts) (number : ℕ) (bytes take : List ℕ) (done : HasChanged (Bring number bytes take) s.online new) (tied : IsTied new) (unspent : s.spent ≡ false) (store : IsStore s) where
  store_after : IsStore (with_online new s)
  store_after = record {
    tied = tied;
    live = λ up. done.live;
    open_dump = λ up. dump_kept s.dump s.online new s.rack number bytes take done.pins done.contents (store.open_dump unspent);
    pins = λ up none. done.pins ∙ store.pins unspent none;
  }

  abbrev told : Bool
  told = is_some s.online.disc.held

  abbrev TouchedGrow : Option DumpFacts → Type 0
  TouchedGrow dump = IfSome dump (λ d. (n : ℕ) → holds s.online.touched n ≡ true → holds new.touched n ≡ true)

  back_then : (text : ℕ → List ℕ) (shelf : ℕ → List Dump) → TouchedGrow s.dump → All (BringsText text number (told_bytes told bytes)) s.online.contents.files → IsUp text shelf s
      → IsUp text shelf (behind s (back told number bytes take s.online.contents) new.changed new.touched)
  back_then text shelf touched brings was =
      let mid : StoreFacts = behind s (off take s.online.contents) new.changed new.touched in
      stays_up.back text shelf mid number (told_bytes told bytes) new.changed new.touched (brings_off text number (told_bytes told bytes) take s.online.contents.files brings) (itself_grows mid)
      (stays_up.offline text shelf s take new.changed new.touched (record { grows = grows_to s.online.changed new.changed done.changed; grows_open = touched }) was)

  up_without : (text : ℕ → List ℕ) (shelf : ℕ → List Dump) → s.dump ≡ None → All (BringsText text number (told_bytes told bytes)) s.online.contents.files → IsUp text shelf s → IsUp text shelf (with_online new s)
  up_without text shelf none brings was =
      let e : Contents = back told number bytes take s.online.contents in
      let unpinned : is_some s.online.pins ≡ false = ap is_some (store.pins unspent none) in
      let same : new.contents ≡ with_intent None e = done.contents ∙ changed_is told (is_some s.online.pins) number bytes take s.online.contents ∙ ap (λ (b : Bool). committed (b || false) e) unpinned in
      let nobody : TouchedGrow s.dump = subst TouchedGrow (sym none) tt in
      moved text shelf s new (with_intent None e) same done.pins (events_stay_up.dropped text shelf (behind s e new.changed new.touched) none (back_then text shelf nobody brings was))

  up_with : (text : ℕ → List ℕ) (shelf : ℕ → List Dump) (d : DumpFacts) → s.dump ≡ Some d → IsOpen d s.online s.rack → All (BringsText text number (told_bytes told bytes)) s.online.contents.files
      → IsUp text shelf s → IsUp text shelf (with_online new s)
  up_with text shelf d some is brings was =
      let e : Contents = back told number bytes take s.online.contents in
      let pinned : is_some s.online.pins ≡ true = ap is_some is.pinned in
      let same : new.contents ≡ e = done.contents ∙ changed_is told (is_some s.online.pins) number bytes take s.online.contents ∙ ap (λ (b : Bool). committed (b || false) e) pinned in
      let touched : new.touched ≡ s.online.touched = done.touched ∙ ap (λ (b : Bool). if b then s.online.touched else []) pinned in
      let grow : TouchedGrow s.dump = subst TouchedGrow (sym some) (grows_to s.online.touched new.touched touched) in
      moved text shelf s new e same done.pins (back_then text shelf grow brings was)

  up_by : (dump : Option DumpFacts) → s.dump ≡ dump → IfSome dump (λ d. IsOpen d s.online s.rack) → (text : ℕ → List ℕ) (shelf : ℕ → List Dump)
      → All (BringsText text number (told_bytes told bytes)) s.online.contents.files → IsUp text shelf s → IsUp text shelf (with_online new s)
  up_by None none is text shelf brings was = up_without text shelf none brings was
  up_by (Some d) some is text shelf brings was = up_with text shelf d some is brings was

  belongs_after : (text : ℕ → List ℕ) (shelf : ℕ → List Dump) → AreShelved shelf (told_reels s.rack) → All (BringsText text number (told_bytes told bytes)) s.online.contents.files → IsUp text shelf s
      → Belongs (with_online new s)
  belongs_after text shelf shelved brings up =
      let after = up_by s.dump refl (store.open_dump unspent) text shelf brings up in
      record {
        devices = devices_belong text shelf (told_reels s.rack) new tied done.live shelved after.rack after.disc;
        up = λ unspent. (text, shelf, shelved, after);
      }

-- IF IT WAS STOPPED the store is spent
module _ (s : StoreFacts) (new : OnlineFacts) (number : ℕ) (bytes take : List ℕ) (stopped : HasStopped (Bring number bytes take) s.online new) (tied : IsTied new) where
  store_stopped : IsStore (with_online new s)
  store_stopped = spent_store s new stopped.live tied

  -- whichever of the three contents the disc holds, it belongs to the rack
  one_belongs : (text : ℕ → List ℕ) (shelf : ℕ → List Dump) (blocks : List (List ℕ)) (c : Contents) → IsUp text shelf s
      → All (BringsText text number (told_bytes true bytes)) s.online.contents.files → AfterStop (Bring number bytes take) s.online blocks → Holds blocks c → DiscBelongs text shelf (told_reels s.rack) c
  one_belongs text shelf blocks c up brings after holds_c = by_case after.one
    where
      reels : List Reel
      reels = told_reels s.rack

      pinned : Bool
      pinned = is_some s.online.pins

      by_case : Holds blocks s.online.contents
          ⊎ (((0 < length take) × Holds blocks (unjammed pinned (Bring number bytes take) s.online.contents))
          ⊎ Holds blocks (changed true pinned (Bring number bytes take) s.online.contents)) → DiscBelongs text shelf reels c
      by_case (inl old) = subst (DiscBelongs text shelf reels) (holds_one blocks s.online.contents c old holds_c) up.disc
      by_case (inr (inl (some, mid))) =
          subst (DiscBelongs text shelf reels) (holds_one blocks (unjammed pinned (Bring number bytes take) s.online.contents) c mid holds_c)
          (committed_belongs text shelf reels pinned (off take s.online.contents) up.quiet (files_belong.offline text shelf reels s.online.contents take up.disc))
      by_case (inr (inr made)) =
          subst (DiscBelongs text shelf reels) (holds_one blocks (changed true pinned (Bring number bytes take) s.online.contents) c made holds_c)
          (both_belong text shelf reels true pinned number bytes take s.online.contents up.quiet brings up.disc)

  belongs_stopped : (text : ℕ → List ℕ) (shelf : ℕ → List Dump) → AreShelved shelf (told_reels s.rack) → All (BringsText text number (told_bytes true bytes)) s.online.contents.files → IsUp text shelf s
      → Belongs (with_online new s)
  belongs_stopped text shelf shelved brings up = record {
    devices = record {
      text = text;
      shelf = shelf;
      shelved = shelved;
      rack = up.rack;
      disc = λ blocks c held holds_c. one_belongs text shelf blocks c up brings (stopped.holds blocks held) holds_c;
    };
    up = λ up. absurd (spent_then new stopped.live up);
  }

-- THE STORE on these devices: nothing has changed except that the rack was read
same_store : (s : StoreFacts) (o : OnlineFacts) → s.online ≡ o → s.spent ≡ false → o.live ≡ true → s ≡ with_online o s
same_store s o at unspent live = λ i. let t : StoreFacts = record s { online = at i; spent = (unspent ∙ sym (ap not live)) i } in t

reads_in : (before after : Rack) (s : StoreFacts) → s.rack ≡ before → OnlyReads before after → OnlyReads s.rack after
reads_in before after s is only = subst (λ (r : Rack). OnlyReads r after) (sym is) only

pub keeps_same : (o : OnlineFacts) (before after : Rack) → o.live ≡ true → OnlyReads before after → KeepsDevices o o before after
keeps_same o before after live only = record {
  store = λ s over was. store_read (with_online o s) after (reads_in before after s over.rack_is only) (subst IsStore (same_store s o over.online_is over.unspent live) was);
  told = λ s over was. told_read (with_online o s) after (reads_in before after s over.rack_is only) (subst Told (same_store s o over.online_is over.unspent live) was);
  belongs = λ s over store told was. belongs_read (with_online o s) after (reads_in before after s over.rack_is only) (subst Belongs (same_store s o over.online_is over.unspent live) was);
}

-- the disc exposes its contents after a change if it did before
told_then : (s : StoreFacts) (new : OnlineFacts) → is_some new.disc.held ≡ is_some s.online.disc.held → Told s → Told (with_online new s)
told_then s new same told = record { disc = same ∙ told.disc; each = told.each }

module _ (o new : OnlineFacts) (before after : Rack) (number : ℕ) (f : File) (c : TapeCopy) (bytes take : List ℕ) (live : o.live ≡ true) (tied : IsTied o) (away : IsOnTape number o f c)
    (copied : HasCopied c f.rec.len bytes before after) (only : OnlyReads before after) (tied_then : IsTied new) (tells : is_some new.disc.held ≡ is_some o.disc.held) where
  -- the bytes are the text of the file's version
  brings_in : (s : StoreFacts) → IsOver o before s → ReelsTold (told_reels s.rack) → (text : ℕ → List ℕ) (shelf : ℕ → List Dump) → AreShelved shelf (told_reels s.rack) → IsUp text shelf s → (told : Bool)
      → All (BringsText text number (told_bytes told bytes)) s.online.contents.files
  brings_in s over reels text shelf shelved up told =
      let here : IsOnTape number s.online f c = subst (λ (p : OnlineFacts). IsOnTape number p f c) (sym over.online_is) away in
      let (content, long) = text_is text shelf s f c up here.there here.copy in
      let read : HasCopied c f.rec.len bytes s.rack after = subst (λ (r : Rack). HasCopied c f.rec.len bytes r after) (sym over.rack_is) copied in
      brings_all text s.online number f c told bytes (subst IsTied (sym over.online_is) tied) (ap (λ (p : OnlineFacts). p.live) over.online_is ∙ live) here
      (copied_one shelf c f.rec.len (text f.rec.stamp) bytes s.rack after reels shelved content long read)

  keeps_by : ((s : StoreFacts) → IsOver o before s → IsStore s → IsStore (with_online new s))
      → ((s : StoreFacts) → IsOver o before s → IsStore s → Told s → Belongs s → Belongs (with_online new s)) → KeepsDevices o new before after
  keeps_by store belongs = record {
    store = λ s over was. store_read (with_online new s) after (reads_in before after s over.rack_is only) (store s over was);
    told = λ s over told. told_read (with_online new s) after (reads_in before after s over.rack_is only)
        (told_then s new (tells ∙ ap (λ (p : OnlineFacts). is_some p.disc.held) (sym over.online_is)) told);
    belongs = λ s over was told belong. belongs_read (with_online new s) after (reads_in before after s over.rack_is only) (belongs s over was told belong);
  }

  pub keeps_done : HasChanged (Bring number bytes take) o new → KeepsDevices o new before after
  keeps_done done =
      keeps_by
      (λ s over store. store_after s new number bytes take (subst (λ (p : OnlineFacts). HasChanged (Bring number bytes take) p new) (sym over.online_is) done) tied_then over.unspent store)
      (λ s over store told was.
      let (text, shelf, shelved, up) = was.up over.unspent in
      belongs_after s new number bytes take (subst (λ (p : OnlineFacts). HasChanged (Bring number bytes take) p new) (sym over.online_is) done) tied_then over.unspent store
      text shelf shelved (brings_in s over told.each text shelf shelved up (is_some s.online.disc.held)) up)

  pub keeps_stopped : HasStopped (Bring number bytes take) o new → KeepsDevices o new before after
  keeps_stopped stopped =
      keeps_by
      (λ s over store. store_stopped s new number bytes take (subst (λ (p : OnlineFacts). HasStopped (Bring number bytes take) p new) (sym over.online_is) stopped) tied_then)
      (λ s over store told was.
      let (text, shelf, shelved, up) = was.up over.unspent in
      belongs_stopped s new number bytes take (subst (λ (p : OnlineFacts). HasStopped (Bring number bytes take) p new) (sym over.online_is) stopped) tied_then
      text shelf shelved (brings_in s over told.each text shelf shelved up true) up)
