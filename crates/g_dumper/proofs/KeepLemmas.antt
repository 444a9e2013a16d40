-- A store preserves its invariant in a step of its open dump.
-- serves: step (dumped, keeps, left), OpeningLemmas, crates above
use Rattle.std.proofs.Common.{◌≡◌, ◌≢◌, ℕ, ◌+◌, ◌<◌, ◌≤◌, Bool, true, false, List, [], ◌∷◌, ◌++◌, map, Option, Some, None, Ok, Err, refl, sym, ◌∙◌, ap, arith, subst, inl, inr, true≢false}
use Rattle.std.specs.Prelude.{◌⊎◌, All, Contains, IfSome, Result, is_some}
use Rattle.std.proofs.lemmas.Bool.{cases_order}
use Rattle.std.proofs.lemmas.List.Elements.{All-head, All-tail}
use Rattle.std.proofs.lemmas.Option.{none-some, same_Some}
use Rattle.g_base.specs.Fuse.{burnt}
use Rattle.g_tape.specs.Rack.{AreReels, Rack, changed, with_reel}
use Rattle.g_tape.specs.Reads.{unread}
use Rattle.g_tape.specs.Reel.{Reel, Remains, Torn, left_by}
use Rattle.g_plain.specs.declared.faults.StoreFault.{StoreFault}
use Rattle.g_plain.specs.declared.faults.StoreFault.TheVariants.{DiscReadFault, Stopped}
use Rattle.g_store_model.specs.DumpSteps.{Stepped, Going, Completed}
use Rattle.g_disc_contents.specs.Contents.{Contents, File, Holds}
use Rattle.g_disc_contents.specs.Facts.{IsPinOf, IsTied, OnlineFacts, Pin}
use Rattle.g_disc_contents.proofs.HoldLemmas.{holds_one}
use Rattle.g_incr.specs.Layout.{Dump}
use Rattle.g_incr.specs.Plan.{dump_of, needs}
use Rattle.g_online.specs.declared.fault.OnlineFault.TheVariants as online
use Rattle.g_online.specs.Change.{closed as closed_by}
use Rattle.g_online.specs.Outcomes.{HasClosed, StoppedClosing}
use Rattle.g_shelf.specs.CompletedDumps.{AreShelved, all_dumps}
use Rattle.g_shelf.specs.Surviving.{CanSurvive, DumpsSurvive}
use Rattle.g_store_meaning.specs.Answers.{Belongs, IsStore, Told}
use Rattle.g_store_meaning.specs.Belonging.{BelongWith, DiscBelongs, RackBelongs}
use Rattle.g_store_meaning.specs.Meaning.{told_reels}
use Rattle.g_store_meaning.specs.Reading.{AllTold, ReelsTold}
use Rattle.g_store_meaning.specs.StoreInvariant.{DumpFacts, IsOpen, IsReady, IsUp, KeepsDirectories, StoreFacts, content_in, with_dump}
use Rattle.g_store_meaning.specs.Surviving.{AreDumpsSafe}
use Rattle.g_laws_store.specs.Dumping.{closed_with}
use Rattle.g_laws_store.proofs.ClosingLemmas.{closing_stays}
use Rattle.g_laws_store.proofs.DumpingLemmas.{events_stay_up}
use Rattle.g_laws_store.proofs.PinLemmas.{both_told}
use Rattle.g_laws_store.proofs.TiedLemmas.{devices_belong}
use Rattle.g_dumper.specs.Invariant.{CompletesOpening, KeepsStore, LeavesDumps, StoppedStepLeaves, StopsAtClosing, StopsAtMark, StopsBeforeMark, SurviveAs, behind_step, spent_with, up_with}
use Rattle.g_dumper.specs.Steps.{Abandoned, FailedWrite, Stepping, WroteBlock}
use Rattle.g_dumper.proofs.ReelLemmas.{same_serials, still_told}
use Rattle.g_dumper.proofs.SafeLemmas.{begun_going, can_survive, dumps_failed, dumps_going, dumps_marked, has_block, left_at_mark, left_shelved}
use Rattle.g_dumper.proofs.ShelfLemmas.{cut_shelf, left_serial, left_told, marked_shelf, quiet_shelf}

-- the invariant of a store that is up depends only on contents, pins and the marked users
pub without_dump : (text : ℕ → List ℕ) (shelf : ℕ → List Dump) (rack : Rack) (p q : OnlineFacts) → q.contents ≡ p.contents → q.changed ≡ p.changed
    → IsUp text shelf (up_with p rack None) → IsUp text shelf (up_with q rack None)
without_dump text shelf rack p q contents users was = record {
  rack = was.rack;
  disc = subst (DiscBelongs text shelf (told_reels rack)) (sym contents) was.disc;
  quiet = subst (λ (c : Contents). (d : Dump) → Contains (all_dumps shelf (told_reels rack)) d → d.number ≤ c.head.last_dump) (sym contents) was.quiet;
  directories = subst (λ (c : Contents). KeepsDirectories q.changed c (all_dumps shelf (told_reels rack))) (sym contents)
      (subst (λ (ns : List ℕ). KeepsDirectories ns p.contents (all_dumps shelf (told_reels rack))) (sym users) was.directories);
  open_dump = tt;
}

-- DISC AND RACK BELONG TOGETHER where memory and rack do
pub belongs_up : (text : ℕ → List ℕ) (shelf : ℕ → List Dump) (s : StoreFacts) → IsTied s.online → s.online.live ≡ true → AreShelved shelf (told_reels s.rack) → IsUp text shelf s → Belongs s
belongs_up text shelf s tied live shelved up = record {
  devices = devices_belong text shelf (told_reels s.rack) s.online tied live shelved up.rack up.disc;
  up = λ unspent. (text, shelf, shelved, up);
}

-- a spent store has only devices
pub belongs_spent : (o : OnlineFacts) (rack : Rack) → BelongWith o.disc.held (told_reels rack) → Belongs (spent_with o rack)
belongs_spent o rack is = record { devices = is; up = λ unspent. absurd (true≢false unspent) }

pub store_spent : (o : OnlineFacts) (rack : Rack) → IsTied o → IsStore (spent_with o rack)
store_spent o rack tied = record {
  tied = tied;
  live = λ unspent. absurd (true≢false unspent);
  open_dump = λ unspent. absurd (true≢false unspent);
  pins = λ unspent. absurd (true≢false unspent);
}

pub can_only : (o : OnlineFacts) (rack : Rack) → ((n : ℕ) → CanSurvive n rack) → AreDumpsSafe (spent_with o rack)
can_only o rack can = record { up = λ unspent. absurd (true≢false unspent); can = can; open_dump = λ unspent. absurd (true≢false unspent) }

-- the content of the pins, if the disc exposes it
pub content_told : (next : ℕ) (files : List File) (pins : List Pin) → All (IsPinOf true next files) pins → (content : List (List ℕ)) × (content_in pins ≡ Some content)
content_told next files [] all = ([], refl)
content_told next files (p ∷ ps) all = by_first p.blocks refl (content_told next files ps (All-tail (IsPinOf true next files) p ps all))
  where
    by_first : (blocks : Option (List (List ℕ))) → p.blocks ≡ blocks → (content : List (List ℕ)) × (content_in ps ≡ Some content) → (content : List (List ℕ)) × (content_in (p ∷ ps) ≡ Some content)
    by_first None none rest = absurd (true≢false (sym (All-head (IsPinOf true next files) p ps all).tells ∙ ap is_some none))
    by_first (Some a) some (b, is) =
        (a ++ b, ap (λ (x : Option (List (List ℕ))). both_told x (content_in ps)) some ∙ ap (both_told (Some a)) is)

-- the rack after a write of the next block
module _ (d : DumpFacts) (old new : Rack) (how : Remains) (faults : ℕ)
    (is : new ≡ record (changed d.plan.serial (left_by how (d.plan.place + d.done)) old) { write_faults = faults; fuse = burnt old.fuse; risks = new.risks }) where
  abbrev reels_then : List Reel
  reels_then = with_reel d.plan.serial (left_by how (d.plan.place + d.done)) old.reels

  reels_are : new.reels ≡ reels_then
  reels_are = ap (λ (r : Rack). r.reels) is

  pub same_reels : map (λ (r : Reel). r.serial) new.reels ≡ map (λ (r : Reel). r.serial) old.reels
  same_reels =
      ap (λ (rs : List Reel). map (λ (r : Reel). r.serial) rs) reels_are
      ∙ same_serials d.plan.serial (left_by how (d.plan.place + d.done)) (left_serial how (d.plan.place + d.done)) old.reels

  pub tell_still : ReelsTold (told_reels old) → ReelsTold (told_reels new)
  tell_still tell = record {
    each = subst (λ (rs : List Reel). All (λ (r : Reel). is_some r.blocks ≡ true) (map unread rs)) (sym reels_are)
        (still_told d.plan.serial (left_by how (d.plan.place + d.done)) (left_told how (d.plan.place + d.done)) old.reels tell.each);
  }

  pub shelved_then : (shelf : ℕ → List Dump) → AreShelved shelf (map unread reels_then) → AreShelved shelf (told_reels new)
  shelved_then shelf is_then = subst (λ (rs : List Reel). AreShelved shelf (map unread rs)) (sym reels_are) is_then

-- A STEP of the open dump of a store that is up
module _ (d : DumpFacts) (o : OnlineFacts) (old new : Rack) (reels : AreReels old.reels) (live : o.live ≡ true) (tied : IsTied o) (is : IsOpen d o old) where
  abbrev before : StoreFacts
  before = up_with o old (Some d)

  -- the content of its pins
  the_content : Told before → (content : List (List ℕ)) × (content_in is.pins ≡ Some content)
  the_content told =
      let pins_are = subst (λ (p : Option (List Pin)). IfSome p (All (IsPinOf (is_some o.disc.held) o.contents.head.next_stamp o.contents.files))) is.pinned (tied.pinned live) in
      content_told o.contents.head.next_stamp o.contents.files is.pins
      (subst (λ (b : Bool). All (IsPinOf b o.contents.head.next_stamp o.contents.files) is.pins) told.disc pins_are)

  -- what is preserved once the mark is written: the closing of the dump
  module _ (told : Told before) (text : ℕ → List ℕ) (shelf : ℕ → List Dump) (shelved : AreShelved shelf (told_reels old)) (up : IsUp text shelf before) (content : List (List ℕ))
      (has : content_in is.pins ≡ Some content) (same : map (λ (r : Reel). r.serial) new.reels ≡ map (λ (r : Reel). r.serial) old.reels) where
    abbrev next : ℕ → List Dump
    next = with_dump (dump_of d.plan content) shelf

    up_closed : IsUp text next (record (closed_with d o.touched before) { rack = new })
    up_closed = events_stay_up.reels text next (closed_with d o.touched before) new same (closing_stays text shelf before d content o.touched refl is has up)

    -- the dump is completed on the reel, but not on the disc
    up_marked : IsUp text shelf (record before { rack = new })
    up_marked = events_stay_up.reels text shelf before new same up

    ready_marked : IsReady text shelf (told_reels new) o (dump_of d.plan content)
    ready_marked = up_marked.open_dump is.pins is.pinned content has

    pub up_completed : (o' : OnlineFacts) → HasClosed d.plan.number o o' → IsUp text next (up_with o' new None)
    up_completed o' closed =
        without_dump text next new (closed_with d o.touched before).online o' closed.contents closed.changed up_closed

    -- stopped at the closing: whether the disc holds the old or the new contents, it belongs to the rack
    pub devices_closing : (o' : OnlineFacts) → StoppedClosing d.plan.number o o' → AreShelved next (told_reels new) → BelongWith o'.disc.held (told_reels new)
    devices_closing o' stopped shelved_new = record {
      text = text;
      shelf = next;
      shelved = shelved_new;
      rack = ready_marked.rack;
      disc = λ blocks c held holds. one_of blocks c holds (stopped.holds blocks held);
    }
      where
        one_of : (blocks : List (List ℕ)) (c : Contents) → Holds blocks c → Holds blocks o.contents ⊎ Holds blocks (closed_by d.plan.number o) → DiscBelongs text next (told_reels new) c
        one_of blocks c holds (inl was) = subst (DiscBelongs text next (told_reels new)) (holds_one blocks o.contents c was holds) ready_marked.disc
        one_of blocks c holds (inr made) = subst (DiscBelongs text next (told_reels new)) (holds_one blocks (closed_by d.plan.number o) c made holds) up_closed.disc

  -- WHAT IS PRESERVED by each answer
  module _ (wrote : WroteBlock d o.pins old new) where
    serials_kept : map (λ (r : Reel). r.serial) new.reels ≡ map (λ (r : Reel). r.serial) old.reels
    serials_kept = same_reels d old new (Torn wrote.block) old.write_faults wrote.rack

    told_kept : (o' : OnlineFacts) → is_some o'.disc.held ≡ is_some o.disc.held → Told before → AllTold o'.disc.held (told_reels new)
    told_kept o' disc told = record { disc = disc ∙ told.disc; each = tell_still d old new (Torn wrote.block) old.write_faults wrote.rack told.each }

    going_belongs : d.done + 1 < needs d.plan → Told before → Belongs before → Belongs (up_with o new (Some (record { plan = d.plan; done = d.done + 1 })))
    going_belongs less told was =
        let (text, shelf, shelved, up) = was.up refl in
        let (content, has) = the_content told in
        let shelved_new = shelved_then d old new (Torn wrote.block) old.write_faults wrote.rack shelf
        (quiet_shelf d o old reels told.each is text shelf shelved up content has (Torn wrote.block) less) in
        let up_new = events_stay_up.going text shelf (up_with o new (Some d)) d (d.done + 1) refl (events_stay_up.reels text shelf before new serials_kept up) in
        belongs_up text shelf (up_with o new (Some (record { plan = d.plan; done = d.done + 1 }))) tied live shelved_new up_new

    -- the dump lies on its reel
    shelved_marked : Told before → d.done + 1 ≡ needs d.plan → (text : ℕ → List ℕ) (shelf : ℕ → List Dump) → AreShelved shelf (told_reels old) → IsUp text shelf before
        → (content : List (List ℕ)) → content_in is.pins ≡ Some content → AreShelved (with_dump (dump_of d.plan content) shelf) (told_reels new)
    shelved_marked told last text shelf shelved up content has =
        shelved_then d old new (Torn wrote.block) old.write_faults wrote.rack (with_dump (dump_of d.plan content) shelf)
        (marked_shelf d o old reels told.each is text shelf shelved up content has last wrote.block (wrote.next.is is.pins is.pinned content has))

    -- the dumps survive: before the mark, and with it
    safe_going : d.done + 1 < needs d.plan → Told before → Belongs before → AreDumpsSafe before → AreDumpsSafe (up_with o new (Some (record { plan = d.plan; done = d.done + 1 })))
    safe_going less told was safe =
        let (text, shelf, shelved, up) = was.up refl in
        let (content, has) = the_content told in
        let survive = dumps_going d o old reels told.each is text shelf shelved up content has safe new wrote less in
        record {
          up = λ unspent. survive;
          can = λ n. inl (survive n);
          open_dump = λ unspent some. begun_going d o old reels told.each is text shelf shelved up content has safe new wrote;
        }

    marked_survive : d.done + 1 ≡ needs d.plan → Told before → Belongs before → AreDumpsSafe before → (n : ℕ) → DumpsSurvive n new
    marked_survive last told was safe =
        let (text, shelf, shelved, up) = was.up refl in
        let (content, has) = the_content told in
        dumps_marked d o old reels told.each is text shelf shelved up content has safe new wrote last

    safe_completed : (o' : OnlineFacts) → d.done + 1 ≡ needs d.plan → Told before → Belongs before → AreDumpsSafe before → AreDumpsSafe (up_with o' new None)
    safe_completed o' last told was safe = let survive = marked_survive last told was safe in record { up = λ unspent. survive; can = λ n. inl (survive n); open_dump = λ unspent. tt }

    safe_closing : (o' : OnlineFacts) → d.done + 1 ≡ needs d.plan → Told before → Belongs before → AreDumpsSafe before → AreDumpsSafe (spent_with o' new)
    safe_closing o' last told was safe = let survive = marked_survive last told was safe in can_only o' new (λ n. inl (survive n))

    completed_belongs : (o' : OnlineFacts) → IsTied o' → d.done + 1 ≡ needs d.plan → HasClosed d.plan.number o o' → Told before → Belongs before → Belongs (up_with o' new None)
    completed_belongs o' tied' last closed told was =
        let (text, shelf, shelved, up) = was.up refl in
        let (content, has) = the_content told in
        belongs_up text (with_dump (dump_of d.plan content) shelf) (up_with o' new None) tied' closed.live (shelved_marked told last text shelf shelved up content has)
        (up_completed told text shelf shelved up content has serials_kept o' closed)

    pub completes : (o' : OnlineFacts) → d.done + 1 ≡ needs d.plan → HasClosed d.plan.number o o' → CompletesOpening d before (up_with o' new None)
    completes o' last closed = record {
      dumped = λ told is' text shelf shelved up content has.
          let same : is'.pins ≡ is.pins = same_Some is'.pins is.pins (sym is'.pinned ∙ is.pinned) in
          let here : content_in is.pins ≡ Some content = ap content_in (sym same) ∙ has in (
            shelved_marked told last text shelf shelved up content here,
            up_completed told text shelf shelved up content here serials_kept o' closed,
          );
    }

    closing_belongs : (o' : OnlineFacts) → d.done + 1 ≡ needs d.plan → StoppedClosing d.plan.number o o' → Told before → Belongs before → Belongs (spent_with o' new)
    closing_belongs o' last stopped told was =
        let (text, shelf, shelved, up) = was.up refl in
        let (content, has) = the_content told in
        belongs_spent o' new (devices_closing told text shelf shelved up content has serials_kept o' stopped (shelved_marked told last text shelf shelved up content has))

  -- the versions wait no more
  safe_abandoned : (o' : OnlineFacts) → AreDumpsSafe before → AreDumpsSafe (up_with o' old None)
  safe_abandoned o' safe = record { up = λ unspent. safe.up refl; can = safe.can; open_dump = λ unspent. tt }

  abandoned_belongs : (o' : OnlineFacts) → IsTied o' → Abandoned d o o' → Told before → Belongs before → Belongs (up_with o' old None)
  abandoned_belongs o' tied' left told was =
      let (text, shelf, shelved, up) = was.up refl in
      let gone = events_stay_up.abandoned text shelf before up in
      belongs_up text shelf (up_with o' old None) tied' (ap (λ (x : OnlineFacts). x.live) left.facts ∙ live) shelved
      (without_dump text shelf old (record o { pins = None }) o' (ap (λ (x : OnlineFacts). x.contents) left.facts) (ap (λ (x : OnlineFacts). x.changed) left.facts) gone)

  -- the write of the block failed
  module _ (failed : FailedWrite d o.pins old new) where
    torn_serials : map (λ (r : Reel). r.serial) new.reels ≡ map (λ (r : Reel). r.serial) old.reels
    torn_serials = same_reels d old new failed.how new.write_faults failed.rack

    torn_told : Told before → AllTold o.disc.held (told_reels new)
    torn_told told = record { disc = told.disc; each = tell_still d old new failed.how new.write_faults failed.rack told.each }

    torn_can : Told before → Belongs before → AreDumpsSafe before → (n : ℕ) → CanSurvive n new
    torn_can told was safe =
        let (text, shelf, shelved, up) = was.up refl in
        let (content, has) = the_content told in
        by_place (dumps_failed d o old reels told.each is text shelf shelved up content has safe new failed)
        (can_survive d o old reels told.each is text shelf shelved up content has safe new failed) (cases_order (d.done + 1) (needs d.plan))
      where
        by_place : (d.done + 1 < needs d.plan → (n : ℕ) → DumpsSurvive n new) → (d.done + 1 ≡ needs d.plan → (n : ℕ) → CanSurvive n new)
            → (d.done + 1 ≡ needs d.plan) ⊎ ((d.done + 1 < needs d.plan) ⊎ (needs d.plan < d.done + 1)) → (n : ℕ) → CanSurvive n new
        by_place quiet at_mark (inl last) n = at_mark last n
        by_place quiet at_mark (inr (inl less)) n = inl (quiet less n)
        by_place quiet at_mark (inr (inr beyond)) n = let within = is.within in absurd (let no : ⊥ = omega (arith, within, beyond) in no)

    torn_belongs : Told before → Belongs before → Belongs (spent_with o new)
    torn_belongs told was =
        let (text, shelf, shelved, up) = was.up refl in
        let (content, has) = the_content told in
        let moved = up_marked told text shelf shelved up content has torn_serials in
        let ready_new = ready_marked told text shelf shelved up content has torn_serials in
        belongs_spent o new (by_place text shelf moved.rack moved.disc (with_dump (dump_of d.plan content) shelf) ready_new.rack ready_new.disc
        (λ less. shelved_then d old new failed.how new.write_faults failed.rack shelf (quiet_shelf d o old reels told.each is text shelf shelved up content has failed.how less))
        (λ last. cut_shelf d o old reels told.each is text shelf shelved up content has last failed.how)
        (cases_order (d.done + 1) (needs d.plan)))
      where
        by_place : (text : ℕ → List ℕ) (shelf : ℕ → List Dump) → RackBelongs text (all_dumps shelf (told_reels new)) → DiscBelongs text shelf (told_reels new) o.contents
            → (more : ℕ → List Dump) → RackBelongs text (all_dumps more (told_reels new)) → DiscBelongs text more (told_reels new) o.contents
            → (d.done + 1 < needs d.plan → AreShelved shelf (told_reels new)) → (d.done + 1 ≡ needs d.plan → AreShelved shelf (map unread (reels_then d old new failed.how new.write_faults failed.rack)) ⊎ AreShelved more (map unread (reels_then d old new failed.how new.write_faults failed.rack)))
            → (d.done + 1 ≡ needs d.plan) ⊎ ((d.done + 1 < needs d.plan) ⊎ (needs d.plan < d.done + 1)) → BelongWith o.disc.held (told_reels new)
        by_place text shelf rack disc more rack_more disc_more quiet cut (inl last) = by_cut (cut last)
          where
            by_cut : AreShelved shelf (map unread (reels_then d old new failed.how new.write_faults failed.rack)) ⊎ AreShelved more (map unread (reels_then d old new failed.how new.write_faults failed.rack))
                → BelongWith o.disc.held (told_reels new)
            by_cut (inl same) = devices_belong text shelf (told_reels new) o tied live (shelved_then d old new failed.how new.write_faults failed.rack shelf same) rack disc
            by_cut (inr added) = devices_belong text more (told_reels new) o tied live (shelved_then d old new failed.how new.write_faults failed.rack more added) rack_more disc_more
        by_place text shelf rack disc more rack_more disc_more quiet cut (inr (inl less)) = devices_belong text shelf (told_reels new) o tied live (quiet less) rack disc
        by_place text shelf rack disc more rack_more disc_more quiet cut (inr (inr beyond)) = let within = is.within in absurd (let no : ⊥ = omega (arith, within, beyond) in no)

no_pins : {A : Type 0} (x : A) → (let some : Option A = Some x in some ≡ None) → ⊥
no_pins x is = none-some x (sym is)

-- a store preserves its invariant, for any answer
pub keeps_step : (d d' : DumpFacts) (o o' : OnlineFacts) (old new : Rack) (answer : Result Stepped StoreFault) → AreReels old.reels → o.live ≡ true → IsTied o → IsOpen d o old
    → Stepping d o old answer d' o' new → (answer ≡ Ok Going → IsOpen d' o' new) → IsTied o' → KeepsStore (up_with o old (Some d)) (behind_step answer d' o' new)
keeps_step d d' o o' old new (Ok Going) reels live tied is (less, dump_is, same, wrote) open_then tied' =
    let both : up_with o new (Some (record { plan = d.plan; done = d.done + 1 })) ≡ up_with o' new (Some d') =
    ap (λ (e : DumpFacts). up_with o new (Some e)) (sym dump_is) ∙ ap (λ (x : OnlineFacts). up_with x new (Some d')) (sym same) in
    record {
      store = λ was. record {
        tied = tied';
        live = λ unspent. ap (λ (x : OnlineFacts). x.live) same ∙ live;
        open_dump = λ unspent. open_then refl;
        pins = λ unspent none. absurd (no_pins d' none);
      };
      told = told_kept d o old new reels live tied is wrote o' (ap (λ (x : OnlineFacts). is_some x.disc.held) same);
      belongs = λ told store was. subst Belongs both (going_belongs d o old new reels live tied is wrote less told was);
      dumps = λ told store was safe. subst AreDumpsSafe both (safe_going d o old new reels live tied is wrote less told was safe);
    }
keeps_step d d' o o' old new (Ok (Completed n)) reels live tied is (last, number, plan_is, wrote, closing) open_then tied' =
    let closed : HasClosed d.plan.number o o' = subst (λ (m : ℕ). HasClosed m o o') number closing.ok in
    record {
      store = λ was. record {
        tied = tied';
        live = λ unspent. closed.live;
        open_dump = λ unspent. tt;
        pins = λ unspent none. closed.pins;
      };
      told = told_kept d o old new reels live tied is wrote o' closing.told;
      belongs = λ told store was. completed_belongs d o old new reels live tied is wrote o' tied' last closed told was;
      dumps = λ told store was safe. safe_completed d o old new reels live tied is wrote o' last told was safe;
    }
keeps_step d d' o o' old new (Err Stopped) reels live tied is (plan_is, inl (failed, same)) open_then tied' = record {
  store = λ was. store_spent o' new tied';
  told = λ told. subst (λ (x : OnlineFacts). AllTold x.disc.held (told_reels new)) (sym same) (torn_told d o old new reels live tied is failed told);
  belongs = λ told store was. subst (λ (x : OnlineFacts). Belongs (spent_with x new)) (sym same) (torn_belongs d o old new reels live tied is failed told was);
  dumps = λ told store was safe. can_only o' new (torn_can d o old new reels live tied is failed told was safe);
}
keeps_step d d' o o' old new (Err Stopped) reels live tied is (plan_is, inr (last, wrote, closing)) open_then tied' = record {
  store = λ was. store_spent o' new tied';
  told = told_kept d o old new reels live tied is wrote o' closing.told;
  belongs = λ told store was. closing_belongs d o old new reels live tied is wrote o' last closing.stopped told was;
  dumps = λ told store was safe. safe_closing d o old new reels live tied is wrote o' last told was safe;
}
keeps_step d d' o o' old new (Err DiscReadFault) reels live tied is (dump_is, same, left) open_then tied' = record {
  store = λ was. record {
    tied = tied';
    live = λ unspent. ap (λ (x : OnlineFacts). x.live) left.facts ∙ live;
    open_dump = λ unspent. tt;
    pins = λ unspent none. ap (λ (x : OnlineFacts). x.pins) left.facts;
  };
  told = λ told. record {
    disc = ap (λ (x : OnlineFacts). is_some x.disc.held) left.facts ∙ told.disc;
    each = subst (λ (r : Rack). ReelsTold (told_reels r)) (sym same) told.each;
  };
  belongs = λ told store was. subst (λ (r : Rack). Belongs (up_with o' r None)) (sym same) (abandoned_belongs d o old new reels live tied is o' tied' left told was);
  dumps = λ told store was safe. subst (λ (r : Rack). AreDumpsSafe (up_with o' r None)) (sym same) (safe_abandoned d o old new reels live tied is o' safe);
}
keeps_step d d' o o' old new (Err fault) reels live tied is never open_then tied' = absurd never

-- AND A DUMP THAT COMPLETES is the one of its opening
pub completes_step : (d d' : DumpFacts) (o o' : OnlineFacts) (old new : Rack) (answer : Result Stepped StoreFault) (number : ℕ) → AreReels old.reels → o.live ≡ true → IsTied o → IsOpen d o old
    → Stepping d o old answer d' o' new → answer ≡ Ok (Completed number) → CompletesOpening d (up_with o old (Some d)) (up_with o' new None)
completes_step d d' o o' old new (Ok Going) number reels live tied is step same = let no : ⊥ = cc in absurd no
completes_step d d' o o' old new (Ok (Completed n)) number reels live tied is (last, at, plan_is, wrote, closing) same =
    completes d o old new reels live tied is wrote o' last (subst (λ (m : ℕ). HasClosed m o o') at closing.ok)
completes_step d d' o o' old new (Err fault) number reels live tied is step same = let no : ⊥ = cc in absurd no

-- WHAT A POWER LOSS LEAVES after a step
module _ (d : DumpFacts) (o : OnlineFacts) (old new : Rack) (reels : AreReels old.reels) (live : o.live ≡ true) (tied : IsTied o) (is : IsOpen d o old) (told : Told (up_with o old (Some d)))
    (text : ℕ → List ℕ) (shelf : ℕ → List Dump) (shelved : AreShelved shelf (told_reels old)) (up : IsUp text shelf (up_with o old (Some d))) (content : List (List ℕ))
    (has : content_in is.pins ≡ Some content) (safe : AreDumpsSafe (up_with o old (Some d))) where
  abbrev more : ℕ → List Dump
  more = with_dump (dump_of d.plan content) shelf

  as_shelved : (dumps : ℕ → List Dump) (rack : Rack) → AreShelved dumps (told_reels rack) → ((n : ℕ) → DumpsSurvive n rack) → SurviveAs dumps rack
  as_shelved dumps rack there survive = record { left = λ n. left_shelved n rack dumps there (survive n); survive = survive }

  pub leaves_same : SurviveAs shelf old
  leaves_same = as_shelved shelf old shelved (safe.up refl)

  pub leaves_going : WroteBlock d o.pins old new → d.done + 1 < needs d.plan → SurviveAs shelf new
  leaves_going wrote less =
      as_shelved shelf new (shelved_then d old new (Torn wrote.block) old.write_faults wrote.rack shelf (quiet_shelf d o old reels told.each is text shelf shelved up content has (Torn wrote.block) less))
      (dumps_going d o old reels told.each is text shelf shelved up content has safe new wrote less)

  pub leaves_marked : WroteBlock d o.pins old new → d.done + 1 ≡ needs d.plan → SurviveAs more new
  leaves_marked wrote last =
      as_shelved more new
      (shelved_then d old new (Torn wrote.block) old.write_faults wrote.rack more
      (marked_shelf d o old reels told.each is text shelf shelved up content has last wrote.block (wrote.next.is is.pins is.pinned content has)))
      (dumps_marked d o old reels told.each is text shelf shelved up content has safe new wrote last)

  pub leaves_failed : (o' : OnlineFacts) → o' ≡ o → FailedWrite d o.pins old new → StoppedStepLeaves d shelf more (up_with o old (Some d)) (spent_with o' new)
  leaves_failed o' same failed = by_place (cases_order (d.done + 1) (needs d.plan))
    where
      by_place : (d.done + 1 ≡ needs d.plan) ⊎ ((d.done + 1 < needs d.plan) ⊎ (needs d.plan < d.done + 1)) → StoppedStepLeaves d shelf more (up_with o old (Some d)) (spent_with o' new)
      by_place (inl last) =
          StopsAtMark last same (left_at_mark d o old reels told.each is text shelf shelved up content has safe new failed last)
          (has_block d o old reels told.each is text shelf shelved up content has safe new failed last)
      by_place (inr (inl less)) =
          StopsBeforeMark less same
          (as_shelved shelf new (shelved_then d old new failed.how new.write_faults failed.rack shelf (quiet_shelf d o old reels told.each is text shelf shelved up content has failed.how less))
          (dumps_failed d o old reels told.each is text shelf shelved up content has safe new failed less))
      by_place (inr (inr beyond)) = let within = is.within in absurd (let no : ⊥ = omega (arith, within, beyond) in no)

pub leaves_step : (d d' : DumpFacts) (o o' : OnlineFacts) (old new : Rack) (answer : Result Stepped StoreFault) → AreReels old.reels → o.live ≡ true → IsTied o → IsOpen d o old
    → Stepping d o old answer d' o' new → LeavesDumps d (up_with o old (Some d)) answer (behind_step answer d' o' new)
leaves_step d d' o o' old new (Ok Going) reels live tied is (less, dump_is, same, wrote) =
    record { left = λ told is' text shelf shelved up content has safe. leaves_going d o old new reels live tied is' told text shelf shelved up content has safe wrote less }
leaves_step d d' o o' old new (Ok (Completed n)) reels live tied is (last, number, plan_is, wrote, closing) =
    record { left = λ told is' text shelf shelved up content has safe. leaves_marked d o old new reels live tied is' told text shelf shelved up content has safe wrote last }
leaves_step d d' o o' old new (Err Stopped) reels live tied is (plan_is, inl (failed, same)) =
    record { left = λ told is' text shelf shelved up content has safe. leaves_failed d o old new reels live tied is' told text shelf shelved up content has safe o' same failed }
leaves_step d d' o o' old new (Err Stopped) reels live tied is (plan_is, inr (last, wrote, closing)) =
    record {
      left = λ told is' text shelf shelved up content has safe.
          StopsAtClosing last closing.stopped (leaves_marked d o old new reels live tied is' told text shelf shelved up content has safe wrote last);
    }
leaves_step d d' o o' old new (Err DiscReadFault) reels live tied is (dump_is, same, left) =
    record {
      left = λ told is' text shelf shelved up content has safe.
          subst (SurviveAs shelf) (sym same) (leaves_same d o old old reels live tied is' told text shelf shelved up content has safe);
    }
leaves_step d d' o o' old new (Err fault) reels live tied is never = absurd never
