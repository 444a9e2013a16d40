-- A store preserves its invariant in the opening of a dump.
-- serves: begin (keeps), crates above
use Rattle.std.proofs.Common.{◌≡◌, ℕ, ◌+◌, ◌<◌, ◌≤◌, Bool, true, List, [], ◌∷◌, get_or, map, take, Option, Some, None, Ok, Err, refl, sym, ◌∙◌, ap, arith, subst, inl, inr}
use Rattle.std.specs.Prelude.{◌⊎◌, All, Contains, IfErr, IfOk, IfSome, Result, is_some}
use Rattle.std.proofs.lemmas.List.Elements.{All-contains, All-cons, All-head, All-nil, All-tail, Contains-get_or}
use Rattle.std.proofs.lemmas.List.Kept.{AllPairs-from_increasing}
use Rattle.std.proofs.lemmas.Option.{none-some, same_Some}
use Rattle.g_base.specs.Block.{blocks_for}
use Rattle.g_tape.specs.Rack.{Rack, reel, refuses_unmount}
use Rattle.g_tape.specs.Reads.{OnlyReads, blocks_in, blocks_of, unread}
use Rattle.g_tape.proofs.ReadLemmas.{blocks_after_reads, reel_after_reads}
use Rattle.g_tape.specs.Reel.{Reel}
use Rattle.g_plain.specs.declared.faults.StoreFault.{StoreFault}
use Rattle.g_plain.specs.declared.faults.StoreFault.TheVariants.{NoMemory, Stopped}
use Rattle.g_disc_contents.specs.Contents.{Contents, File, Holds, recs_in, with_intent}
use Rattle.g_disc_contents.specs.Facts.{IsPinOf, IsTied, OnlineFacts, Pin}
use Rattle.g_disc_contents.proofs.HoldLemmas.{holds_one}
use Rattle.g_incr.specs.Layout.{Dump, holds}
use Rattle.g_incr.specs.Plan.{IsPlan, Plan, first_content, waiting}
use Rattle.g_online.specs.Pins.{ArePinnedFrom}
use Rattle.g_shelf.specs.CompletedDumps.{AreCompleted, AreShelved, all_dumps, end_of}
use Rattle.g_store_meaning.specs.Answers.{Belongs, Told}
use Rattle.g_store_meaning.specs.Belonging.{DiscBelongs, IsPlaced, KeepsFile}
use Rattle.g_store_meaning.specs.Meaning.{joined, told_reels}
use Rattle.g_store_meaning.specs.Reading.{AllTold, ReelsTold}
use Rattle.g_shelf.specs.Surviving.{DumpsSurvive, IsBegunDurably}
use Rattle.g_shelf.proofs.SurvivingLemmas.{can_reads, survive_reads}
use Rattle.g_store_meaning.specs.Surviving.{AreDumpsSafe}
use Rattle.g_store_meaning.specs.StoreInvariant.{ArePinned, DumpFacts, IsOpen, IsUp}
use Rattle.g_store_meaning.proofs.ChangeLemmas.{intents_belong}
use Rattle.g_store_meaning.proofs.DirectoryLemmas.{all_up_to}
use Rattle.g_laws_store.specs.Dumping.{AreDumpable, IsPlanOf, PinsText, opened_with}
use Rattle.g_laws_store.proofs.DumpingLemmas.{events_stay_up}
use Rattle.g_laws_store.proofs.OpeningLemmas.{opening_stays}
use Rattle.g_laws_store.proofs.UpOneLemmas.{on_all}
use Rattle.g_laws_store.proofs.WaitingLemmas.{mapped_there}
use Rattle.g_dumper.specs.Beginning.{Begins, HasOpened, IsEnd, IsSpent, LeftByRefusal, RefusesOpening, StoppedOpening, intent_of, plan_of}
use Rattle.g_dumper.specs.Invariant.{KeepsStore, behind_opening, spent_with, up_with}
use Rattle.g_dumper.proofs.BeginLemmas.{after_reads, reel_named}
use Rattle.g_dumper.proofs.HeldLemmas.{held_of_one}
use Rattle.g_dumper.proofs.IntentLemmas.{rules_here}
use Rattle.g_dumper.proofs.KeepLemmas.{belongs_spent, belongs_up, can_only, store_spent, without_dump}
use Rattle.g_dumper.proofs.ShelfLemmas.{reel_there, told_is}

-- THE PINS HAVE THE TEXTS of their versions
pins_text : (text : ℕ → List ℕ) (dumps : List Dump) (next : ℕ) (told : Bool) (files all : List File) (serial at : ℕ) (ws : List File) (pins : List Pin) → All (Contains files) ws
    → All (λ (f : File). KeepsFile (text f.rec.stamp) dumps f) files → All (IsPinOf told next all) pins → ArePinnedFrom serial at ws pins → All (PinsText text) pins
pins_text text dumps next told files all serial at [] pins there keep each are = subst (All (PinsText text)) (sym are) (All-nil (PinsText text))
pins_text text dumps next told files all serial at (f ∷ fs) pins there keep each (pin, rest, same, is, more) =
    let every = subst (All (IsPinOf told next all)) same each in
    let first = All-head (IsPinOf told next all) pin rest every in
    let kept = All-contains (λ (g : File). KeepsFile (text g.rec.stamp) dumps g) files f keep (All-head (Contains files) f fs there) in
    let here : PinsText text pin = λ blocks found. (
      (first.blocks blocks found).1,
      kept.bytes (take pin.len (joined blocks)) (is.bytes blocks found) ∙ ap text (sym is.stamp),
    ) in
    subst (All (PinsText text)) (sym same)
    (All-cons (PinsText text) pin rest here
    (pins_text text dumps next told files all serial (at + blocks_for f.rec.len) fs rest (All-tail (Contains files) f fs there) keep (All-tail (IsPinOf told next all) pin rest every) more))

-- READS of the reels change nothing of the store
module _ (o : OnlineFacts) (old new : Rack) (reads : OnlyReads old new) where
  serials_same : map (λ (r : Reel). r.serial) new.reels ≡ map (λ (r : Reel). r.serial) old.reels
  serials_same = unread_serials new.reels ∙ ap (λ (rs : List Reel). map (λ (r : Reel). r.serial) rs) reads.reels ∙ sym (unread_serials old.reels)
    where
      unread_serials : (rs : List Reel) → map (λ (r : Reel). r.serial) rs ≡ map (λ (r : Reel). r.serial) (map unread rs)
      unread_serials [] = refl
      unread_serials (r ∷ rs) = ap (λ (ns : List ℕ). r.serial ∷ ns) (unread_serials rs)

  read_up : (text : ℕ → List ℕ) (shelf : ℕ → List Dump) → IsUp text shelf (up_with o old None) → IsUp text shelf (up_with o new None)
  read_up text shelf up = events_stay_up.reels text shelf (up_with o old None) new serials_same up

  read_shelf : (shelf : ℕ → List Dump) → AreShelved shelf (told_reels old) → AreShelved shelf (told_reels new)
  read_shelf shelf shelved = subst (AreShelved shelf) (sym reads.reels) shelved

  read_told : ReelsTold (told_reels old) → ReelsTold (told_reels new)
  read_told told = subst ReelsTold (sym reads.reels) told

-- the invariant of a store that is up depends only on contents, pins and the marked users, also with a dump open
parts : OnlineFacts → Contents → Option (List Pin) → List ℕ → List ℕ → OnlineFacts
parts p c pins changed touched = record p { contents = c; pins = pins; changed = changed; touched = touched }

up_again : (text : ℕ → List ℕ) (shelf : ℕ → List Dump) (rack : Rack) (p q : OnlineFacts) (d : DumpFacts) → q.contents ≡ p.contents → q.pins ≡ p.pins → q.changed ≡ p.changed → q.touched ≡ p.touched
    → IsUp text shelf (up_with p rack (Some d)) → IsUp text shelf (up_with q rack (Some d))
unfolding parts
up_again text shelf rack p q d contents pins changed touched was =
    let one : IsUp text shelf (up_with (parts p q.contents p.pins p.changed p.touched) rack (Some d)) =
    subst (λ (c : Contents). IsUp text shelf (up_with (parts p c p.pins p.changed p.touched) rack (Some d))) (sym contents) was in
    let two : IsUp text shelf (up_with (parts p q.contents q.pins p.changed p.touched) rack (Some d)) =
    subst (λ (ps : Option (List Pin)). IsUp text shelf (up_with (parts p q.contents ps p.changed p.touched) rack (Some d))) (sym pins) one in
    let three : IsUp text shelf (up_with (parts p q.contents q.pins q.changed p.touched) rack (Some d)) =
    subst (λ (ns : List ℕ). IsUp text shelf (up_with (parts p q.contents q.pins ns p.touched) rack (Some d))) (sym changed) two in
    let four : IsUp text shelf (up_with (parts p q.contents q.pins q.changed q.touched) rack (Some d)) =
    subst (λ (ns : List ℕ). IsUp text shelf (up_with (parts p q.contents q.pins q.changed ns) rack (Some d))) (sym touched) three in
    record {
      rack = four.rack;
      disc = four.disc;
      quiet = four.quiet;
      directories = record { each = four.directories.each; none = four.directories.none };
      open_dump = λ ps pinned content told.
          let is = four.open_dump ps pinned content told in
          record { rules = is.rules; rack = is.rack; disc = is.disc; opening = record { each = is.opening.each } };
    }

-- THE REEL is there, and the place is the end of its dumps
module _ (serial place : ℕ) (rack after : Rack) (on : Reel) (reads : OnlyReads rack after) (on_is : reel serial after.reels ≡ Some on) (end_is : IsEnd serial rack place)
    (told : ReelsTold (told_reels after)) (shelf : ℕ → List Dump) (shelved : AreShelved shelf (told_reels after)) where
  on_there : Contains (told_reels after) (unread on)
  on_there = reel_there serial after.reels on on_is

  on_named : on.serial ≡ serial
  on_named = reel_named serial after.reels on on_is

  pub serial_there : Contains (map (λ (r : Reel). r.serial) (told_reels after)) serial
  serial_there = subst (Contains (map (λ (r : Reel). r.serial) (told_reels after))) on_named (mapped_there (λ (x : Reel). x.serial) (told_reels after) (unread on) on_there)

  pub place_at_end : place ≡ end_of (shelf serial)
  place_at_end =
      let (blocks, at) = told_is on.blocks (All-contains (λ (r : Reel). is_some r.blocks ≡ true) (told_reels after) (unread on) told.each on_there) in
      let found : blocks_of serial rack ≡ Some blocks = sym (blocks_after_reads serial rack after reads) ∙ ap blocks_in on_is ∙ at in
      end_is.is blocks found (shelf serial) (subst (λ (n : ℕ). AreCompleted n blocks (shelf n)) on_named (shelved.each (unread on) on_there blocks at))

  -- each of its dumps is at most as new as the last one
  pub shelf_quiet : (last : ℕ) → ((d : Dump) → Contains (all_dumps shelf (told_reels after)) d → d.number ≤ last) → All (λ (d : Dump). d.number ≤ last) (shelf serial)
  shelf_quiet last quiet = λ k d within.
      let x = get_or (shelf serial) k d in
      quiet x (on_all shelf (told_reels after) (unread on) x on_there (subst (λ (n : ℕ). Contains (shelf n) x) (sym on_named) (Contains-get_or (shelf serial) k d within)))

-- what holds after an opening, on devices that expose their contents: the plan is that of the records, the pins have the
-- texts of the versions that wait, and the store preserves the invariant of a store with an open dump
pub record IsOpenedUp (text : ℕ → List ℕ) (shelf : ℕ → List Dump) (o new : OnlineFacts) (after : Rack) (d : DumpFacts) : Type 0 where
  pub dumpable : AreDumpable o.changed o.contents
  pub planned : IsPlanOf shelf o.changed o.contents d.plan
  pub start : d.done ≡ 0
  pub pins : List Pin
  pub pinned : new.pins ≡ Some pins
  pub are : ArePinned d.plan.serial (first_content d.plan) (waiting d.plan.files) pins
  pub texts : All (PinsText text) pins
  pub contents : new.contents ≡ with_intent (Some (intent_of d.plan)) o.contents
  pub up : IsUp text shelf (up_with new after (Some d))

-- THE OPENING, from what the filestore was
module _ (serial : ℕ) (o new : OnlineFacts) (rack after : Rack) (live : o.live ≡ true) (tied : IsTied o) (tied_new : IsTied new) (reads : OnlyReads rack after) where
  dumpable : AreDumpable o.changed o.contents
  dumpable = let rules = rules_here o live tied in record { records = rules.records; dated = rules.dated; waits = tied.waits live }

  told_after : (held : Option (List (List ℕ))) → is_some held ≡ is_some o.disc.held → Told (up_with o rack None) → AllTold held (told_reels after)
  told_after held same told = record { disc = same ∙ told.disc; each = read_told o rack after reads told.each }

  module _ (d : DumpFacts) (begins : Begins serial o rack d new after) where
    opened_now : HasOpened (plan_of serial begins.place o) o new
    opened_now = subst (λ (e : DumpFacts). HasOpened e.plan o new) begins.dump begins.opened

    open_now : IsOpen (record { plan = plan_of serial begins.place o; done = 0 }) new after
    open_now = subst (λ (e : DumpFacts). IsOpen e new after) begins.dump begins.open_dump

    pub opened_up : Told (up_with o rack None) → (text : ℕ → List ℕ) (shelf : ℕ → List Dump) → AreShelved shelf (told_reels rack) → IsUp text shelf (up_with o rack None)
        → IsOpenedUp text shelf o new after d
    opened_up told text shelf shelved up =
        let plan = plan_of serial begins.place o in
        let up_read = read_up o rack after reads text shelf up in
        let shelved_read = read_shelf o rack after reads shelf shelved in
        let tell = read_told o rack after reads told.each in
        let open_dump = open_now in
        let opened = opened_now in
        let planned : IsPlanOf shelf o.changed o.contents plan = record {
          rules = subst (λ (e : DumpFacts). IsPlan e.plan) begins.dump begins.rules;
          number = refl;
          place = place_at_end serial begins.place rack after open_dump.on reads open_dump.reel_is begins.end_is tell shelf shelved_read;
          next = refl;
          users = refl;
          held = refl;
          files = λ n held. held_of_one n o.changed (recs_in o.contents) (AllPairs-from_increasing o.changed (tied.changed_are live).rising) held;
        } in
        let same : opened.pinned.pins ≡ open_dump.pins = same_Some opened.pinned.pins open_dump.pins (sym (ap (λ (x : OnlineFacts). x.pins) opened.pinned.rest) ∙ open_dump.pinned) in
        let each : All (IsPinOf (is_some new.disc.held) new.contents.head.next_stamp new.contents.files) open_dump.pins =
        subst (λ (ps : Option (List Pin)). IfSome ps (All (IsPinOf (is_some new.disc.held) new.contents.head.next_stamp new.contents.files))) open_dump.pinned (tied_new.pinned opened.live) in
        let texts = pins_text text (all_dumps shelf (told_reels after)) new.contents.head.next_stamp (is_some new.disc.held) o.contents.files new.contents.files serial (first_content plan) opened.pinned.waiting open_dump.pins
        opened.pinned.are.from up_read.disc.files each (subst (ArePinnedFrom serial (first_content plan) opened.pinned.waiting) same opened.pinned.pinned) in
        let stays = opening_stays text shelf (up_with o after None) plan open_dump.pins refl tell shelved_read (serial_there serial begins.place rack after open_dump.on reads open_dump.reel_is begins.end_is tell shelf shelved_read)
        dumpable planned open_dump.are texts up_read in
        let up_new : IsUp text shelf (up_with new after (Some (record { plan = plan; done = 0 }))) =
        up_again text shelf after (opened_with plan open_dump.pins (up_with o after None)).online new (record { plan = plan; done = 0 }) opened.contents open_dump.pinned opened.changed_is opened.touched stays in
        subst (λ (e : DumpFacts). IsOpenedUp text shelf o new after e) (sym begins.dump) (record {
          dumpable = dumpable;
          planned = planned;
          start = refl;
          pins = open_dump.pins;
          pinned = open_dump.pinned;
          are = open_dump.are;
          texts = texts;
          contents = opened.contents;
          up = up_new;
        })

    pub opening_belongs : Told (up_with o rack None) → Belongs (up_with o rack None) → Belongs (up_with new after (Some d))
    opening_belongs told was =
        let (text, shelf, shelved, up) = was.up refl in
        belongs_up text shelf (up_with new after (Some d)) tied_new begins.opened.live (read_shelf o rack after reads shelf shelved) (opened_up told text shelf shelved up).up

  -- stopped at the intent: whether the disc holds the old or the new contents, it belongs to the rack
  pub stopped_belongs : (r : Reel) → reel serial after.reels ≡ Some r → StoppedOpening serial o new rack → Told (up_with o rack None) → Belongs (up_with o rack None) → Belongs (spent_with new after)
  stopped_belongs r r_is stopped told was =
      let (text, shelf, shelved, up) = was.up refl in
      let plan = plan_of serial stopped.place o in
      let up_read = read_up o rack after reads text shelf up in
      let shelved_read = read_shelf o rack after reads shelf shelved in
      let tell = read_told o rack after reads told.each in
      let at_end = place_at_end serial stopped.place rack after r reads r_is stopped.end_is tell shelf shelved_read in
      let quiet = shelf_quiet serial stopped.place rack after r reads r_is stopped.end_is tell shelf shelved_read o.contents.head.last_dump up_read.quiet in
      let placed : IsPlaced shelf (told_reels after) o.contents.head.last_dump (intent_of plan) = record {
        reel = serial_there serial stopped.place rack after r reads r_is stopped.end_is tell shelf shelved_read;
        number = refl;
        place = at_end ∙ ap end_of (sym (all_up_to o.contents.head.last_dump (shelf serial) quiet));
      } in
      let noted_belongs = intents_belong.intended text shelf (told_reels after) o.contents (intent_of plan) up_read.quiet placed up_read.disc in
      belongs_spent new after (record {
        text = text;
        shelf = shelf;
        shelved = shelved_read;
        rack = up_read.rack;
        disc = λ blocks c held holds. one_of text shelf plan up_read.disc noted_belongs blocks c holds (stopped.left.holds blocks held);
      })
    where
      one_of : (text : ℕ → List ℕ) (shelf : ℕ → List Dump) (plan : Plan) → DiscBelongs text shelf (told_reels after) o.contents
          → DiscBelongs text shelf (told_reels after) (with_intent (Some (intent_of plan)) o.contents) → (blocks : List (List ℕ)) (c : Contents) → Holds blocks c
          → Holds blocks o.contents ⊎ Holds blocks (with_intent (Some (intent_of plan)) o.contents) → DiscBelongs text shelf (told_reels after) c
      one_of text shelf plan old noted blocks c holds (inl was) = subst (DiscBelongs text shelf (told_reels after)) (holds_one blocks o.contents c was holds) old
      one_of text shelf plan old noted blocks c holds (inr made) =
          subst (DiscBelongs text shelf (told_reels after)) (holds_one blocks (with_intent (Some (intent_of plan)) o.contents) c made holds) noted

  -- refused
  pub refused_belongs : new.contents ≡ o.contents → new.changed ≡ o.changed → new.live ≡ true → Belongs (up_with o rack None) → Belongs (up_with new after None)
  refused_belongs contents changed live_new was =
      let (text, shelf, shelved, up) = was.up refl in
      belongs_up text shelf (up_with new after None) tied_new live_new (read_shelf o rack after reads shelf shelved)
      (without_dump text shelf after o new contents changed (read_up o rack after reads text shelf up))

-- THE DUMPS SURVIVE, since reads change nothing of that; and of a dump that is opened nothing is written yet
safe_reads : (o new : OnlineFacts) (rack after : Rack) → OnlyReads rack after → (dump : Option DumpFacts) → ((d : DumpFacts) → dump ≡ Some d → d.done ≡ 0) → AreDumpsSafe (up_with o rack None)
    → AreDumpsSafe (up_with new after dump)
safe_reads o new rack after reads dump none safe = record {
  up = λ unspent. survive;
  can = λ n. inl (survive n);
  open_dump = λ unspent. by dump none;
}
  where
    survive : (n : ℕ) → DumpsSurvive n after
    survive n = survive_reads n rack after reads.durable (blocks_after_reads n rack after reads) (safe.up refl n)

    by : (x : Option DumpFacts) → ((d : DumpFacts) → x ≡ Some d → d.done ≡ 0) → IfSome x (λ d. 0 < d.done → IsBegunDurably d.plan.serial d.plan.place d.done after)
    by None none = tt
    by (Some d) none = λ some. absurd (let start = none d refl in let no : ⊥ = omega (arith, start, some) in no)

-- WHAT A REFUSAL LEAVES
touched_by : OnlineFacts → List ℕ → OnlineFacts
touched_by o touched = record o { touched = touched }

left_is : (fault : StoreFault) (old new : OnlineFacts) → (fault ≡ Stopped → ⊥) → LeftByRefusal fault old new → new ≡ touched_by old new.touched
unfolding touched_by
left_is Stopped old new other left = absurd (other refl)
left_is NoMemory old new other left = left
left_is fault old new other left = left ∙ ap (λ (o : OnlineFacts). touched_by old o.touched) (sym left)

-- the reel that isn't missing
reel_is_there : {A : Type 0} (serial : ℕ) (o : OnlineFacts) (old new : Rack) (result : Result A StoreFault) → RefusesOpening serial o old new result → result ≡ Err Stopped
    → (x : Option Reel) → reel serial old.reels ≡ x → (r : Reel) × (reel serial old.reels ≡ Some r)
reel_is_there serial o old new result refuses is None none =
    let unspent : IsSpent o → ⊥ = λ spent. (let same = sym (refuses.spent.1 spent) ∙ is in (let no : ⊥ = cc in no)) in
    let missing = refuses.no_tape.1 (unspent, ap refuses_unmount none) in
    let same = sym missing ∙ is in
    absurd (let no : ⊥ = cc in no)
reel_is_there serial o old new result refuses is (Some r) some = (r, some)

refused_store : (serial : ℕ) (o new : OnlineFacts) (rack after : Rack) → o.live ≡ true → o.pins ≡ None → IsTied o → IsTied new → OnlyReads rack after → (touched : List ℕ)
    → new ≡ touched_by o touched → KeepsStore (up_with o rack None) (up_with new after None)
unfolding touched_by
refused_store serial o new rack after live pins tied tied_new reads touched is =
    let live_new = ap (λ (x : OnlineFacts). x.live) is ∙ live in
    record {
      store = λ was. record {
        tied = tied_new;
        live = λ unspent. live_new;
        open_dump = λ unspent. tt;
        pins = λ unspent none. ap (λ (x : OnlineFacts). x.pins) is ∙ pins;
      };
      told = told_after serial o new rack after live tied tied_new reads new.disc.held (ap (λ (x : OnlineFacts). is_some x.disc.held) is);
      dumps = λ told store was safe. safe_reads o new rack after reads None (λ d none. absurd (none-some d none)) safe;
      belongs = λ told store was.
          refused_belongs serial o new rack after live tied tied_new reads (ap (λ (x : OnlineFacts). x.contents) is) (ap (λ (x : OnlineFacts). x.changed) is) live_new was;
    }

pub keeps_opening : (serial : ℕ) (o new : OnlineFacts) (rack after : Rack) (answer : Result DumpFacts StoreFault) → o.live ≡ true → o.pins ≡ None → IsTied o → IsTied new → OnlyReads rack after
    → IfOk answer (λ d. Begins serial o rack d new after) → RefusesOpening serial o rack after answer → IfErr answer (λ e. LeftByRefusal e o new)
    → (answer ≡ Err Stopped → StoppedOpening serial o new rack) → KeepsStore (up_with o rack None) (behind_opening answer new after)
keeps_opening serial o new rack after (Ok d) live pins tied tied_new reads begins refuses left stopped = record {
  store = λ was. record {
    tied = tied_new;
    live = λ unspent. begins.opened.live;
    open_dump = λ unspent. begins.open_dump;
    pins = λ unspent none. absurd (none-some d (sym none));
  };
  told = told_after serial o new rack after live tied tied_new reads new.disc.held begins.opened.told;
  belongs = λ told store was. opening_belongs serial o new rack after live tied tied_new reads d begins told was;
  dumps = λ told store was safe. safe_reads o new rack after reads (Some d) (λ e is. ap (λ (x : DumpFacts). x.done) (same_Some e d (sym is) ∙ begins.dump)) safe;
}
keeps_opening serial o new rack after (Err Stopped) live pins tied tied_new reads begins refuses left stopped =
    let was_stopped = stopped refl in
    let (r, r_is) = reel_is_there serial o rack after (Err Stopped) refuses refl (reel serial rack.reels) refl in
    let (q, q_is, same) = after_reads (reel serial after.reels) (reel serial rack.reels) r r_is (reel_after_reads serial rack after reads) in
    record {
      store = λ was. store_spent new after tied_new;
      told = told_after serial o new rack after live tied tied_new reads new.disc.held was_stopped.left.told;
      belongs = λ told store was. stopped_belongs serial o new rack after live tied tied_new reads q q_is was_stopped told was;
      dumps = λ told store was safe. can_only new after (λ n. can_reads n rack after reads.durable (blocks_after_reads n rack after reads) (safe.can n));
    }
keeps_opening serial o new rack after (Err fault) live pins tied tied_new reads begins refuses left stopped =
    let is : new ≡ touched_by o new.touched = left_is fault o new (λ e. let no : ⊥ = cc in no) left in
    refused_store serial o new rack after live pins tied tied_new reads new.touched is
