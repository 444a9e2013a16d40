-- How a store answers the opening of a dump.
-- serves: open_dump (event), FullLemmas, ProcessedStepLemmas, SteppedLemmas
use Rattle.std.proofs.Common.{◌≡◌, ◌≢◌, ℕ, ◌+◌, ◌-◌, ◌^◌, ◌<◌, ◌≤◌, ◌==◌, Bool, true, false, List, [], ◌∷◌, ◌++◌, length, map, Option, Some, None, Result, Ok, Err, refl, sym, ◌∙◌, ap, arith, subst, inl, inr, true≢false}
use Rattle.std.specs.List.Sorted.{IsStrictlyIncreasing}
use Rattle.std.proofs.lemmas.List.Kept.{AllPairs-from_increasing}
use Rattle.std.proofs.lemmas.List.Sums.{sum_by-cons}
use Rattle.std.specs.Prelude.{◌⊎◌, ◌||◌, All, AllPairs, Contains, IfErr, IfOk, IfSome, filter, is_none, if◌then◌else◌, is_some, nat_lt, not, option_map, sum_by}
use Rattle.std.specs.Ordering.{nat_cmp}
use Rattle.std.specs.FinMap.{FinMap, from_entries}
use Rattle.std.proofs.lemmas.Bool.{cases_Bool, cond-false, cond-true, eq-eqb, eqb-true, false≢true, le-ltb, lt-ltb, ne_eqb}
use Rattle.std.proofs.lemmas.Option.{none-some, same_Some}
use Rattle.std.proofs.lemmas.List.Elements.{All-contains, All-head, All-tail, All-weaker}
use Rattle.g_base.specs.Counts.{Rose}
use Rattle.g_base.specs.Block.{blocks_for}
use Rattle.g_disc.specs.Disc.{Causes}
use Rattle.g_disc.proofs.CallLemmas.{Causes-for, stands_later, Causes-none}
use Rattle.g_entry.specs.declared.file_rec.FileRec.{FileRec}
use Rattle.g_entry.specs.HeadFields.{IsSerial}
use Rattle.g_tape.specs.declared.fault.TapeFault.{TapeFault}
use Rattle.g_tape.specs.declared.fault.TapeFault.TheVariants as tape
use Rattle.g_tape.specs.Rack.{AreReels, Rack, is_mounted, reel, refuses_unmount}
use Rattle.g_tape.proofs.ReadLemmas.{is_reel, nothing_read, reel-unread, reel_after_reads}
use Rattle.g_tape.specs.Reads.{OnlyReads, blocks_in, unread}
use Rattle.g_tape.specs.Reel.{Reel}
use Rattle.g_plain.specs.declared.faults.StoreFault.{StoreFault}
use Rattle.g_plain.specs.declared.faults.StoreFault.TheVariants.{CountersSpent, DiscReadFault, DumpOpen, NoMemory, NoTape, NotMounted, Stopped, TapeFull, TapeReadFault}
use Rattle.g_plain.specs.PlainStep.{first_fault}
use Rattle.g_disc_contents.specs.Contents.{Contents, File, Holds, recs_in, with_intent}
use Rattle.g_disc_contents.specs.Durable.{IsDurable}
use Rattle.g_disc_contents.specs.Facts.{IsPinOf, IsTied, OnlineFacts, Pin}
use Rattle.g_incr.specs.Layout.{Dump, holds}
use Rattle.g_incr.specs.Plan.{blocks_of, dump_of, first_content, needs, waiting, waits}
use Rattle.g_shelf.specs.CompletedDumps.{AreCompleted, AreShelved, all_dumps, end_behind, end_of}
use Rattle.g_shelf.proofs.QuietLemmas.{end-within}
use Rattle.g_store_model.specs.State as state
use Rattle.g_store_model.specs.CallStep.{Cut, Outcome, Plain, TapeRead, down, is_cut, is_tape_read}
use Rattle.g_store_model.specs.DumpSteps.{Event, OpenStep, dump_needs, open_number, open_refuses, opening, tape_room}
use Rattle.g_store_meaning.specs.Answers.{Belongs, IsStore, Told, WroteCommits}
use Rattle.g_store_meaning.specs.Belonging.{DiscBelongs, KeepsFile}
use Rattle.g_store_meaning.specs.Meaning.{files_of, told_reels}
use Rattle.g_store_meaning.specs.Reading.{DevicesStandFor, IsView, Opened, OpensTo, StandsForState, View, holding_of, open_of, row_of, shelved_of, state_down, state_up, dumped_of}
use Rattle.g_store_meaning.specs.StoreInvariant.{ArePinned, DumpFacts, IsReady, IsUp, StoreFacts, content_in, with_dump}
use Rattle.g_store_meaning.proofs.ViewLemmas.{Stands, back, reads_keep_state}
use Rattle.g_laws_store.specs.Dumping.{IsPlanOf, opened_with}
use Rattle.g_laws_store.proofs.StateLemmas.{is_view, view_by, with_there}
use Rattle.g_laws_store.proofs.UpOneLemmas.{store_is_one}
use Rattle.g_laws_store.specs.Rooms.{HasLength, held_in}
use Rattle.g_laws_store.proofs.NeedsLemmas.{opening_takes}
use Rattle.g_laws_store.proofs.WaitingLemmas.{mapped_there}
use Rattle.g_laws_store.specs.Opening.{IsOpening}
use Rattle.g_laws_store.proofs.OwnLemmas.{opening_is_step}
use Rattle.g_dumper.specs.Beginning.{Begins, IsEnd, IsKeptBack, LeftByRefusal, RefusesOpening, StoppedOpening, held_of, intent_of, plan_of}
use Rattle.g_dumper.specs.Invariant.{KeepsStore, behind_opening, spent_with, up_with}
use Rattle.g_dumper.proofs.BeginLemmas.{after_reads, reel_named}
use Rattle.g_dumper.proofs.HeldLemmas.{held_of_one}
use Rattle.g_dumper.proofs.IntentLemmas.{rules_here}
use Rattle.g_dumper.proofs.PlanLemmas.{plan_keeps}
use Rattle.g_dumper.proofs.KeepLemmas.{content_told}
use Rattle.g_dumper.proofs.OpeningLemmas.{IsOpenedUp, keeps_opening, opened_up}
use Rattle.g_dumper.proofs.ShelfLemmas.{reel_there, told_is}
use Rattle.g_laws_store.proofs.RecordLemmas.{pairs_head, pairs_tail}
use Rattle.g_store.specs.Events.{IsAnsweredBy, IsOfOpening, LeadsBy, Opens, StepsBy, WroteBy}
use Rattle.g_store.specs.Refusing.{IsExact, capacity_of, needs_now, number_in, open_refuses as refuses_now}
use Rattle.g_store.specs.Dumping.{is_stop_at}
use Rattle.g_store.proofs.EventLemmas.{leads_same, none_written, refused}
use Rattle.g_store.proofs.MountLemmas.{lacks_by, mounted_by, row_found}
use Rattle.g_store_calls.proofs.SeenLemmas.{Seen, seen, stands}
use Rattle.g_store_calls.proofs.SurvivalLemmas.{stays_durable}
use Rattle.g_store.proofs.LossLemmas.{IsStoppedWith, commit_survives}
use Rattle.g_store_calls.proofs.BehindLemmas.{files_seen}
use Rattle.g_store_calls.proofs.RecordLemmas.{devices_hold}

abbrev pub OpensBy : ℕ → state.State → state.Holding → Outcome → Result ℕ StoreFault → state.State → Type 0
OpensBy serial s k o a n = OpenStep s k serial o a n

-- WHAT THE DUMPER ANSWERED
pub record HasBegun (serial : ℕ) (o : OnlineFacts) (rack : Rack) (new : OnlineFacts) (after : Rack) (r : Result DumpFacts StoreFault) : Type 0 where
  pub ok : IfOk r (λ d. Begins serial o rack d new after)
  pub refused : RefusesOpening serial o rack after r
  pub left : IfErr r (λ e. LeftByRefusal e o new)
  pub stopped : r ≡ Err Stopped → StoppedOpening serial o new rack
  pub reads : OnlyReads rack after
  pub causes : Causes ⊥ (r ≡ Err Stopped) o.disc new.disc
  pub tied : IsTied new
  pub keeps : KeepsStore (up_with o rack None) (behind_opening r new after)

abbrev pub number_of : Result DumpFacts StoreFault → Result ℕ StoreFault
number_of (Ok d) = Ok d.plan.number
number_of (Err fault) = Err fault

-- a spent store represents what its devices do
pub spent_stands : (o : OnlineFacts) (rack : Rack) (u : state.State) → DevicesStandFor o.disc.size o.disc.held (told_reels rack) u → StandsForState (spent_with o rack) u
unfolding Stands
spent_stands o rack u is = let devices : Stands true o None u (told_reels rack) = is in back true o None u rack devices

-- and a spent store on them, part by part
pub spent_holding : (o : OnlineFacts) (rack : Rack) (u : state.State) (v : View) (c : Contents) (blocks : List (List ℕ)) → o.disc.held ≡ Some blocks → Holds blocks c
    → IsView o.disc.held (told_reels rack) c v → u.up ≡ false → u.open_dump ≡ None → u.size ≡ o.disc.size → u.holding ≡ Some (holding_of v.text [] c)
    → u.reels ≡ map (row_of v.shelf) (told_reels rack) → u.dumped ≡ option_map (dumped_of v.text) v.dumped → StandsForState (spent_with o rack) u
spent_holding o rack u v c blocks has holds seen up open_dump size holding reels dumped =
    spent_stands o rack u (devices_hold o.disc.size o.disc.held (told_reels rack) u v c blocks has holds seen (λ i.
    let s : state.State = record { up = up i; size = size i; holding = holding i; reels = reels i; dumped = dumped i; open_dump = open_dump i } in s))

-- the block after the dumps, as the state counts it
ends_same : (at : ℕ) (d : Dump) (ds : List Dump) → state.end_of_dumps (map shelved_of (d ∷ ds)) ≡ end_behind at (d ∷ ds)
ends_same at d [] = refl
ends_same at d (e ∷ es) = ends_same (end_behind at (d ∷ [])) e es

end_is : (ds : List Dump) → state.end_of_dumps (map shelved_of ds) ≡ end_of ds
end_is [] = refl
end_is (d ∷ ds) = ends_same 0 d ds

-- THE TESTS of an opening, by what the state says of the reel
abbrev tests : Option state.ReelRow → Bool → ℕ → Outcome → Option StoreFault
tests row none need out = first_fault (
    (is_none row, NoTape)
    ∷ (not (state.mounted_in row), NotMounted)
    ∷ (false, DumpOpen 0)
    ∷ (none, CountersSpent)
    ∷ (is_tape_read out, TapeReadFault)
    ∷ (nat_lt (state.capacity_in row - state.end_in row) need, TapeFull need (state.capacity_in row - state.end_in row))
    ∷ (is_cut out, Stopped)
    ∷ [])

-- those that are left where the reel is mounted and a number is left
abbrev pub late_tests : ℕ → ℕ → Outcome → Option StoreFault
late_tests room need out = first_fault ((is_tape_read out, TapeReadFault) ∷ (nat_lt room need, TapeFull need room) ∷ (is_cut out, Stopped) ∷ [])

module _ (serial : ℕ) (o : OnlineFacts) (rack : Rack) (on : Reel) (on_is : reel serial rack.reels ≡ Some on) (mounted : on.mounted ≡ true)
    (unspent : (o.contents.head.last_dump == 2 ^ 62 - 1) ≡ false) where
  abbrev reels : List Reel
  reels = told_reels rack

  abbrev before : StoreFacts
  before = up_with o rack None

  module _ (v : View) where
    abbrev old : state.State
    old = state_up v reels o None

    abbrev k : state.Holding
    k = held_in v o

    row_is : state.reel_at serial (map (row_of v.shelf) reels) ≡ Some (row_of v.shelf (unread on))
    row_is = row_found v.shelf serial reels ∙ ap (option_map (row_of v.shelf)) (reel-unread serial rack.reels ∙ ap (option_map unread) on_is)

    abbrev room : ℕ
    room = on.capacity - end_of (v.shelf serial)

    named_end : state.end_of_dumps (map shelved_of (v.shelf on.serial)) ≡ end_of (v.shelf serial)
    named_end = end_is (v.shelf on.serial) ∙ ap (λ (n : ℕ). end_of (v.shelf n)) (reel_named serial rack.reels on on_is)

    pub end_then : state.end_of old serial ≡ end_of (v.shelf serial)
    end_then = ap state.end_in row_is ∙ named_end

    pub refuses_is : (out : Outcome) → open_refuses old k serial out ≡ late_tests room (dump_needs k) out
    refuses_is out =
        (λ i. tests (row_is i) (unspent i) (dump_needs k) out)
        ∙ (λ i.
        first_fault (
        (false, NoTape)
        ∷ (not (mounted i), NotMounted)
        ∷ (false, DumpOpen 0)
        ∷ (false, CountersSpent)
        ∷ (is_tape_read out, TapeReadFault)
        ∷ (nat_lt (on.capacity - named_end i) (dump_needs k), TapeFull (dump_needs k) (on.capacity - named_end i))
        ∷ (is_cut out, Stopped)
        ∷ []))

  -- OPENED
  lengths : (text : ℕ → List ℕ) (shelf : ℕ → List Dump) → DiscBelongs text shelf reels o.contents → All (HasLength text) o.contents.files
  lengths text shelf disc = All-weaker (λ (f : File). KeepsFile (text f.rec.stamp) (all_dumps shelf reels) f) (HasLength text) (λ f keeps. keeps.rec.len) o.contents.files disc.files

  module _ (new : OnlineFacts) (after : Rack) (live : o.live ≡ true) (tied : IsTied o) (tied_new : IsTied new) (reads : OnlyReads rack after) (d : DumpFacts) (begins : Begins serial o rack d new after)
      (size : new.disc.size ≡ o.disc.size) (fits : needs d.plan ≤ on.capacity - d.plan.place) where
    serial_is : d.plan.serial ≡ serial
    serial_is = ap (λ (e : DumpFacts). e.plan.serial) begins.dump

    leads_by : Told before → Belongs before → IsStore before → (text : ℕ → List ℕ) (shelf : ℕ → List Dump) → AreShelved shelf reels → IsUp text shelf before → IsOpenedUp text shelf o new after d
        → (u : state.State) → StandsForState before u → (content : List (List ℕ)) → (ps : List Pin) → new.pins ≡ Some ps → content_in ps ≡ Some content
        → LeadsBy (OpensBy serial) u before (up_with new after (Some d)) (Ok (o.contents.head.last_dump + 1))
    leads_by told was keeps text shelf shelved up opened u here content ps pinned has =
        let pins_same : ps ≡ opened.pins = same_Some ps opened.pins (sym pinned ∙ opened.pinned) in
        let has_own : content_in opened.pins ≡ Some content = ap content_in (sym pins_same) ∙ has in
        let made : Dump = dump_of d.plan content in
        let ready : IsReady text shelf reels new made =
        subst (λ (rs : List Reel). IsReady text shelf rs new made) reads.reels (opened.up.open_dump opened.pins opened.pinned content has_own) in
        let there = with_there made shelf reels (unread on) (reel_there serial rack.reels on on_is) (reel_named serial rack.reels on on_is ∙ sym serial_is) in
        let op : Opened = record { dump = made; dumps = all_dumps (with_dump made shelf) reels; directory = ready.rack.tree made there } in
        let v = view_by text shelf reels up.rack (Some op) in
        let opens : OpensTo reels v d.plan content op = record { is = refl; dump = refl; all = refl; records = ready.rack.records op.directory } in
        let is_opening : IsOpening v before d.plan opened.pins content op = record {
          none = refl;
          told = told.each;
          shelved = shelved;
          on = subst (Contains (map (λ (r : Reel). r.serial) reels)) (reel_named serial rack.reels on on_is ∙ sym serial_is) (mapped_there (λ (x : Reel). x.serial) reels (unread on) (reel_there serial rack.reels on on_is));
          dumpable = opened.dumpable;
          planned = opened.planned;
          pinned = opened.are;
          texts = opened.texts;
          up = up;
          content_is = has_own;
          opens = opens;
        } in
        let own : Seen before (state_up v reels o None) = record {
          view = v;
          is = is_view o.disc.held reels text shelf shelved up.rack (Some op) o.contents up.disc;
          opens = record { is = λ all qs some. tt };
          state_is = refl;
        } in
        let u_is : u ≡ state_up v reels o None = store_is_one before u (state_up v reels o None) told was keeps here (stands before (state_up v reels o None) refl own) in
        let need_is : dump_needs (held_in v o) ≡ needs d.plan = opening_takes.needs text shelf o.changed o.contents d.plan opened.pins
        (record { dumpable = opened.dumpable; planned = opened.planned; pinned = opened.are; long = lengths text shelf up.disc }) in
        let at_end : d.plan.place ≡ end_of (shelf serial) = opened.planned.place ∙ ap (λ (n : ℕ). end_of (shelf n)) serial_is in
        let enough : nat_lt (on.capacity - end_of (shelf serial)) (dump_needs (held_in v o)) ≡ false =
        le-ltb (on.capacity - end_of (shelf serial)) (dump_needs (held_in v o)) (omega (arith, fits, need_is, at_end)) in
        let passes : open_refuses (state_up v reels o None) (held_in v o) serial Plain ≡ None =
        refuses_is v Plain
        ∙ (λ i. first_fault ((false, TapeReadFault) ∷ (enough i, TapeFull (dump_needs (held_in v o)) (on.capacity - end_of (shelf serial))) ∷ (false, Stopped) ∷ [])) in
        let end = state_up v (told_reels after) new (Some d) in
        let made_state = opened_with d.plan opened.pins before in
        let step = opening_is_step.step v before d.plan opened.pins content op is_opening
        (subst (λ (n : ℕ). open_refuses (state_up v reels o None) (held_in v o) n Plain ≡ None) (sym serial_is) passes) in
        let end_same : state_up v reels made_state.online made_state.dump ≡ end =
        λ i. state_up v (sym reads.reels i)
        (record o { disc = record o.disc { size = sym size i }; contents = sym opened.contents i; pins = sym opened.pinned i; changed = sym begins.opened.changed_is i; touched = sym begins.opened.touched i })
        (Some (record { plan = d.plan; done = sym opened.start i })) in
        let disc_new : DiscBelongs text shelf reels new.contents = subst (λ (rs : List Reel). DiscBelongs text shelf rs new.contents) reads.reels opened.up.disc in
        let seen_new : Seen (up_with new after (Some d)) end = record {
          view = v;
          is = subst (λ (rs : List Reel). IsView new.disc.held rs new.contents v) (sym reads.reels) (is_view new.disc.held reels text shelf shelved up.rack (Some op) new.contents disc_new);
          opens = record {
            is = λ all qs some. (
              content,
              ap content_in (same_Some qs opened.pins (sym some ∙ opened.pinned)) ∙ has_own,
              op,
              subst (λ (rs : List Reel). OpensTo rs v d.plan content op) (sym reads.reels) opens,
            );
          };
          state_is = refl;
        } in
        record {
          after = end;
          left = stands (up_with new after (Some d)) end refl seen_new;
          held = held_in v o;
          holds = ap (λ (s : state.State). s.holding) u_is;
          outcome = Plain;
          raised = tt;
          step = subst (λ (s : state.State). OpenStep s (held_in v o) serial Plain (Ok (o.contents.head.last_dump + 1)) end) (sym u_is)
              (subst (λ (n : ℕ). OpenStep (state_up v reels o None) (held_in v o) n Plain (Ok (o.contents.head.last_dump + 1)) end) serial_is
              (subst (λ (s : state.State). OpenStep (state_up v reels o None) (held_in v o) d.plan.serial Plain (Ok (o.contents.head.last_dump + 1)) s) end_same step));
        }

    pub leads_opened : Told before → Belongs before → IsStore before → (u : state.State) → StandsForState before u
        → LeadsBy (OpensBy serial) u before (up_with new after (Some d)) (Ok (o.contents.head.last_dump + 1))
    leads_opened told was keeps u here =
        let (text, shelf, shelved, up) = was.up refl in
        let opened = opened_up serial o new rack after live tied tied_new reads d begins told text shelf shelved up in
        let each = subst (λ (p : Option (List Pin)). IfSome p (All (IsPinOf (is_some new.disc.held) new.contents.head.next_stamp new.contents.files))) opened.pinned (tied_new.pinned begins.opened.live) in
        let (content, has) = content_told new.contents.head.next_stamp new.contents.files opened.pins
        (subst (λ (b : Bool). All (IsPinOf b new.contents.head.next_stamp new.contents.files) opened.pins) (begins.opened.told ∙ told.disc) each) in
        leads_by told was keeps text shelf shelved up opened u here content opened.pins opened.pinned has

-- the number of blocks that a dump takes, for any order of its files
abbrev weigh : (FileRec → ℕ) → List FileRec → ℕ
weigh f rs = sum_by f rs

weigh_append : (f : FileRec → ℕ) (xs ys : List FileRec) → weigh f (xs ++ ys) ≡ weigh f xs + weigh f ys
weigh_append f [] ys = let n : weigh f ys ≡ 0 + weigh f ys = omega arith in n
weigh_append f (x ∷ xs) ys =
    let rest = weigh_append f xs ys in
    let one = sum_by-cons f x (xs ++ ys) in
    let two = sum_by-cons f x xs in
    omega (arith, rest, one, two)

-- a part of a list weighs what its elements weigh
weigh_filter : (f : FileRec → ℕ) (p : FileRec → Bool) (rs : List FileRec) → weigh f (filter p rs) ≡ weigh (λ r. if p r then f r else 0) rs
weigh_filter f p [] = refl
weigh_filter f p (r ∷ rs) = by_test (cases_Bool (p r)) (weigh_filter f p rs)
  where
    g : FileRec → ℕ
    g s = if p s then f s else 0

    by_test : (p r ≡ true) ⊎ (p r ≡ false) → weigh f (filter p rs) ≡ weigh (λ s. if p s then f s else 0) rs → weigh f (filter p (r ∷ rs)) ≡ weigh (λ s. if p s then f s else 0) (r ∷ rs)
    by_test (inl is) rest =
        ap (weigh f) (cond-true (p r) (r ∷ filter p rs) (filter p rs) is) ∙ sum_by-cons f r (filter p rs) ∙ ap (λ (n : ℕ). f r + n) rest
        ∙ ap (λ (n : ℕ). n + weigh (λ s. if p s then f s else 0) rs) (sym (cond-true (p r) (f r) 0 is)) ∙ sym (sum_by-cons (λ s. if p s then f s else 0) r rs)
    by_test (inr isnt) rest =
        ap (weigh f) (cond-false (p r) (r ∷ filter p rs) (filter p rs) isnt) ∙ rest
        ∙ (let sum : weigh (λ s. if p s then f s else 0) rs ≡ 0 + weigh (λ s. if p s then f s else 0) rs = omega arith in sum)
        ∙ ap (λ (n : ℕ). n + weigh (λ s. if p s then f s else 0) rs) (sym (cond-false (p r) (f r) 0 isnt)) ∙ sym (sum_by-cons (λ s. if p s then f s else 0) r rs)

both_parts : (f : FileRec → ℕ) (n : ℕ) (ns : List ℕ) → (holds ns n ≡ false) → (r : FileRec)
    → (if r.owner == n then f r else 0) + (if holds ns r.owner then f r else 0) ≡ (if (n == r.owner) || holds ns r.owner then f r else 0)
both_parts f n ns isnt r = by_owner (cases_Bool (r.owner == n))
  where
    by_owner : ((r.owner == n) ≡ true) ⊎ ((r.owner == n) ≡ false) → (if r.owner == n then f r else 0) + (if holds ns r.owner then f r else 0) ≡ (if (n == r.owner) || holds ns r.owner then f r else 0)
    by_owner (inl is) =
        let same : r.owner ≡ n = eqb-true r.owner n is in
        let other : holds ns r.owner ≡ false = ap (holds ns) same ∙ isnt in
        let here : (n == r.owner) ≡ true = eq-eqb n r.owner (sym same) in
        ap (λ (b : Bool). (if b then f r else 0) + (if holds ns r.owner then f r else 0)) is
        ∙ ap (λ (b : Bool). f r + (if b then f r else 0)) other ∙ (let sum : f r + 0 ≡ f r = omega arith in sum)
        ∙ ap (λ (b : Bool). if b || holds ns r.owner then f r else 0) (sym here)
    by_owner (inr not_of) =
        let off : (n == r.owner) ≡ false = ne_eqb n r.owner (λ e. true≢false (sym (eq-eqb r.owner n (sym e)) ∙ not_of)) in
        ap (λ (b : Bool). (if b then f r else 0) + (if holds ns r.owner then f r else 0)) not_of
        ∙ (let sum : 0 + (if holds ns r.owner then f r else 0) ≡ (if holds ns r.owner then f r else 0) = omega arith in sum)
        ∙ ap (λ (b : Bool). if b || holds ns r.owner then f r else 0) (sym off)

weigh_both : (f g h : FileRec → ℕ) → ((r : FileRec) → f r + g r ≡ h r) → (rs : List FileRec) → weigh f rs + weigh g rs ≡ weigh h rs
weigh_both f g h sum [] = refl
weigh_both f g h sum (r ∷ rs) =
    let rest = weigh_both f g h sum rs in
    let here = sum r in
    let one = sum_by-cons f r rs in
    let two = sum_by-cons g r rs in
    let three = sum_by-cons h r rs in
    omega (arith, rest, here, one, two, three)

above_none : (n : ℕ) (ns : List ℕ) → All (λ (m : ℕ). n < m) ns → holds ns n ≡ false
above_none n [] all = refl
above_none n (m ∷ ms) all =
    let above = All-head (λ (x : ℕ). n < x) m ms all in
    ap (λ (b : Bool). b || holds ms n) (ne_eqb m n (λ e. let no : ⊥ = omega (arith, above, e) in no)) ∙ above_none n ms (All-tail (λ (x : ℕ). n < x) m ms all)

none_weigh : (rs : List FileRec) → weigh (λ r. 0) rs ≡ 0
none_weigh [] = refl
none_weigh (r ∷ rs) = let rest = none_weigh rs in let one = sum_by-cons (λ (s : FileRec). 0) r rs in omega (arith, rest, one)

weigh_held : (f : FileRec → ℕ) (ns : List ℕ) (rs : List FileRec) → AllPairs (λ (a b : ℕ). a < b) ns → weigh f (held_of ns rs) ≡ weigh (λ r. if holds ns r.owner then f r else 0) rs
weigh_held f [] rs rising = sym (none_weigh rs)
weigh_held f (n ∷ ns) rs rising =
    weigh_append f (files_of n rs) (held_of ns rs)
    ∙ (λ i. weigh_filter f (λ (r : FileRec). r.owner == n) rs i + weigh_held f ns rs (pairs_tail (λ (a b : ℕ). a < b) n ns rising) i)
    ∙ weigh_both (λ r. if r.owner == n then f r else 0) (λ r. if holds ns r.owner then f r else 0) (λ r. if (n == r.owner) || holds ns r.owner then f r else 0)
    (both_parts f n ns (above_none n ns (pairs_head (λ (a b : ℕ). a < b) n ns rising))) rs

length_weigh : (rs : List FileRec) → length rs ≡ weigh (λ r. 1) rs
length_weigh [] = refl
length_weigh (r ∷ rs) = let rest = length_weigh rs in let one = sum_by-cons (λ (s : FileRec). 1) r rs in omega (arith, rest, one)

pub needs_are : (serial place : ℕ) (o : OnlineFacts) → IsStrictlyIncreasing o.changed → needs (plan_of serial place o) ≡ needs_now o
needs_are serial place o rising =
    let below = AllPairs-from_increasing o.changed rising in
    let rs = recs_in o.contents in
    let held = held_of o.changed rs in
    let part = filter (λ (r : FileRec). holds o.changed r.owner) rs in
    let blocks : FileRec → ℕ = λ r. blocks_for r.len in
    let waiting_weigh : FileRec → ℕ = λ r. if waits r then blocks_for r.len else 0 in
    let long : length held ≡ length part =
    length_weigh held ∙ weigh_held (λ r. 1) o.changed rs below ∙ sym (weigh_filter (λ r. 1) (λ (r : FileRec). holds o.changed r.owner) rs) ∙ sym (length_weigh part) in
    let full : blocks_of (waiting held) ≡ blocks_of (waiting part) =
    weigh_filter blocks waits held ∙ weigh_held waiting_weigh o.changed rs below ∙ sym (weigh_filter waiting_weigh (λ (r : FileRec). holds o.changed r.owner) rs) ∙ sym (weigh_filter blocks waits part) in
    λ i. 2 + length o.contents.users + long i + full i

-- what else holds of an opening
module _ (serial : ℕ) (o : OnlineFacts) (rack : Rack) (on : Reel) (on_is : reel serial rack.reels ≡ Some on) (mounted : on.mounted ≡ true)
    (unspent : (o.contents.head.last_dump == 2 ^ 62 - 1) ≡ false) (keeps : IsStore (up_with o rack None)) (free : refuses_now serial (up_with o rack None) ≡ None) where
  abbrev was_up : StoreFacts
  was_up = up_with o rack None

  exact_none : (r : Result ℕ StoreFault) (new : StoreFacts) → IfErr r IsOfOpening → IsExact (refuses_now serial was_up) IsOfOpening was_up r new
  exact_none r new others = record {
    refused = subst (λ (x : Option StoreFault). IfSome x (λ f. (r ≡ Err f) × (new ≡ was_up))) (sym free) tt;
    granted = λ _. others;
  }

  pub opens_ok : (new : OnlineFacts) (after : Rack) (d : DumpFacts) → IsTied new → OnlyReads rack after → after.read_faults ≡ rack.read_faults → Begins serial o rack d new after
      → Causes ⊥ ⊥ o.disc new.disc → needs d.plan ≤ on.capacity - d.plan.place → KeepsStore was_up (up_with new after (Some d)) → Opens serial was_up (Ok d.plan.number) (up_with new after (Some d))
  opens_ok new after d tied_new reads quiet begins causes fits kept =
      let number : d.plan.number ≡ o.contents.head.last_dump + 1 = ap (λ (e : DumpFacts). e.plan.number) begins.dump in
      record {
        event = record {
          step = λ told was u here.
              subst (λ (n : ℕ). LeadsBy (OpensBy serial) u was_up (up_with new after (Some d)) (Ok n)) (sym number)
              (leads_opened serial o rack on on_is mounted unspent new after (keeps.live refl) keeps.tied tied_new reads d begins causes.size fits told was keeps u here);
          wrote = record { blocks = begins.opened.blocks; commits = begins.opened.commits; writes = begins.opened.writes };
          keeps = kept.store keeps;
          told = kept.told;
          belongs = λ told was. kept.belongs told keeps was;
          spent = (λ is. absurd (false≢true is), λ is. absurd (let no : ⊥ = cc in no));
          survives = stays_durable (IsAnsweredBy (OpensBy serial) was_up (Ok d.plan.number)) was_up (up_with new after (Some d)) refl begins.opened.durable;
        };
        cause = record {
          disc = Causes-for (λ no. absurd no) (λ is. (let no : ⊥ = cc in no)) (λ no. absurd no) (λ is. (let no : ⊥ = cc in no)) causes;
          tapes = reads;
          tape_read = λ is. absurd (let no : ⊥ = cc in no);
          tape_read_only = λ _. quiet;
          writes = λ fault is other. absurd (let no : ⊥ = cc in no);
        };
        dump = λ fault is other. absurd (let no : ⊥ = cc in no);
        same = tt;
        exact = exact_none (Ok d.plan.number) (up_with new after (Some d)) tt;
        number = λ n is. (let same : n ≡ d.plan.number = cc in same) ∙ number;
        full = λ need room is. absurd (let no : ⊥ = cc in no);
      }

  -- if it isn't opened the store represents what it represented
  touched_only : OnlineFacts → List ℕ → OnlineFacts
  touched_only x touched = record x { touched = touched }

  module _ (new : OnlineFacts) (after : Rack) (tied_new : IsTied new) (reads : OnlyReads rack after) where
    abbrev behind : StoreFacts
    behind = up_with new after None

    left_state : new ≡ touched_only o new.touched → (u : state.State) → StandsForState was_up u → StandsForState behind u
    unfolding touched_only
    left_state is u here =
        let now = seen (up_with o after None) u refl (reads_keep_state was_up after u reads here) in
        subst (λ (x : OnlineFacts). StandsForState (up_with x after None) u) (sym is)
        (stands (up_with (record o { touched = new.touched }) after None) u refl (record { view = now.view; is = now.is; opens = record { is = λ all pins some. tt }; state_is = now.state_is }))

    abbrev Refusal : StoreFault → Type 0
    Refusal fault = (let r : Result DumpFacts StoreFault = Err fault in RefusesOpening serial o rack after r)

    not_opened : (fault : StoreFault) → fault ≢ Stopped → fault ≢ DiscReadFault → new ≡ touched_only o new.touched → KeepsStore was_up behind → Refusal fault
        → (Told was_up → Belongs was_up → (u : state.State) → StandsForState was_up u → StepsBy (OpensBy serial) u was_up (Err fault) behind) → WroteBy (λ (n : ℕ). 1) was_up (Err fault) behind
        → IsOfOpening fault → ((need room : ℕ) → (let r : Result ℕ StoreFault = Err fault in r ≡ Err (TapeFull need room)) → (need ≡ needs_now o) × (room < need) × (room ≤ capacity_of (reel serial rack.reels)))
        → Opens serial was_up (Err fault) behind
    unfolding touched_only
    not_opened fault other disc is kept refuses steps wrote others full = record {
      event = record {
        step = steps;
        wrote = wrote;
        keeps = kept.store keeps;
        told = kept.told;
        belongs = λ told was. kept.belongs told keeps was;
        spent = (λ no. absurd (false≢true no), λ no. absurd (other (let same : fault ≡ Stopped = cc in same)));
        survives = stays_durable (IsAnsweredBy (OpensBy serial) was_up (Err fault)) was_up behind refl (λ durable. subst IsDurable (sym is) durable);
      };
      cause = record {
        disc = record {
          size = ap (λ (x : OnlineFacts). x.disc.size) is;
          arms = ap (λ (x : OnlineFacts). x.disc.arms) is;
          later = stands_later (ap (λ (x : OnlineFacts). x.disc.writes) is);
          reads_kept = λ _. ap (λ (x : OnlineFacts). x.disc.read_faults) is;
          reads_rose = λ no. absurd (disc (let same : fault ≡ DiscReadFault = cc in same));
          writes_kept = λ _. ap (λ (x : OnlineFacts). x.disc.write_faults) is;
          writes_rose = λ no. absurd (other (let same : fault ≡ Stopped = cc in same));
        };
        tapes = reads;
        tape_read = λ yes. refuses.rose (let same : fault ≡ TapeReadFault = cc in ap Err same);
        tape_read_only = λ no. refuses.kept (λ yes. no (let same : fault ≡ TapeReadFault = cc in ap Err same));
        writes = λ f yes no. ap (λ (x : OnlineFacts). x.disc.writes) is;
      };
      dump = λ f yes no. refl;
      same = λ _. is;
      exact = exact_none (Err fault) behind others;
      number = λ n yes. absurd (let no : ⊥ = cc in no);
      full = full;
    }

    none_wrote : new ≡ touched_only o new.touched → WroteCommits 0 was_up behind
    unfolding touched_only
    none_wrote is = record {
      blocks = 0;
      commits = (ap (λ (x : OnlineFacts). x.layout) is, refl);
      writes = record { exactly = λ less. ap (λ (x : OnlineFacts). x.disc.writes) is ∙ (let n : o.disc.writes ≡ o.disc.writes + 0 = omega arith in n) };
    }

    -- an outcome that refuses leaves the state unchanged
    stays_by : (v : View) (out : Outcome) (fault : StoreFault) → open_refuses (state_up v (told_reels rack) o None) (held_in v o) serial out ≡ Some fault
        → ((reply : ℕ) (s next : state.State) → Event (Some fault) reply s next (Err fault) s) → OpenStep (state_up v (told_reels rack) o None) (held_in v o) serial out (Err fault) (state_up v (told_reels rack) o None)
    stays_by v out fault is event =
        let places : FinMap nat_cmp state.Place = from_entries [] in
        let old = state_up v (told_reels rack) o None in (
          places,
          λ none. absurd (none-some fault (sym none ∙ is)),
          subst (λ (x : Option StoreFault). Event x (o.contents.head.last_dump + 1) old (opening old (held_in v o) serial places) (Err fault) old) (sym is)
              (event (o.contents.head.last_dump + 1) old (opening old (held_in v o) serial places)),
        )

    pub couldnt_read : new ≡ o → KeepsStore was_up behind → Refusal TapeReadFault → Opens serial was_up (Err TapeReadFault) behind
    unfolding touched_only
    couldnt_read same kept refuses =
        let is : new ≡ record o { touched = new.touched } = same ∙ ap (λ (x : OnlineFacts). touched_only o x.touched) (sym same) in
        not_opened TapeReadFault (λ e. let no : ⊥ = cc in no) (λ e. let no : ⊥ = cc in no) is kept refuses
        (λ told was u here.
        let sn = seen was_up u refl here in
        record {
          after = u;
          left = left_state is u here;
          held = held_in sn.view o;
          holds = ap (λ (s : state.State). s.holding) sn.state_is;
          outcome = TapeRead;
          raised = refuses.rose refl;
          step = subst (λ (s : state.State). OpenStep s (held_in sn.view o) serial TapeRead (Err TapeReadFault) s) (sym sn.state_is)
              (stays_by sn.view TapeRead TapeReadFault (refuses_is serial o rack on on_is mounted unspent sn.view TapeRead) (λ reply s next. (refl, refl)));
        })
        (none_wrote is) (inl refl) (λ need room no. absurd (let it : ⊥ = cc in it))

    pub forgetful : new ≡ record o { touched = new.touched } → KeepsStore was_up behind → Refusal NoMemory → Opens serial was_up (Err NoMemory) behind
    unfolding touched_only
    forgetful is kept refuses =
        not_opened NoMemory (λ e. let no : ⊥ = cc in no) (λ e. let no : ⊥ = cc in no) is kept refuses (λ told was u here. left_state is u here) (none_wrote is) (inr (inr (inr refl)))
        (λ need room no. absurd (let it : ⊥ = cc in it))

    -- what an opening would have found, on devices that expose their contents: the plan of these records, after the dumps
    -- of the reel
    abbrev pins_for : (at : ℕ) (rs : List FileRec) → List Pin
    pins_for at [] = []
    pins_for at (r ∷ rs) = record { stamp = r.stamp; len = r.len; copy = record { serial = serial; first = at }; blocks = None } ∷ pins_for (at + blocks_for r.len) rs

    pins_are : (at : ℕ) (rs : List FileRec) → ArePinned serial at rs (pins_for at rs)
    pins_are at [] = refl
    pins_are at (r ∷ rs) = (
      record { stamp = r.stamp; len = r.len; copy = record { serial = serial; first = at }; blocks = None },
      pins_for (at + blocks_for r.len) rs,
      refl,
      refl,
      refl,
      refl,
      (λ blocks no. absurd (none-some blocks no)),
      pins_are (at + blocks_for r.len) rs,
    )

    record Found (u : state.State) (place : ℕ) : Type 0 where
      text : ℕ → List ℕ
      shelf : ℕ → List Dump
      shelved : AreShelved shelf (told_reels rack)
      up : IsUp text shelf was_up
      at_end : place ≡ end_of (shelf serial)
      view : View
      text_is : view.text ≡ text
      shelf_is : view.shelf ≡ shelf
      is : IsView o.disc.held (told_reels rack) o.contents view
      state_is : u ≡ state_up view (told_reels rack) o None
      needs_then : dump_needs (held_in view o) ≡ needs (plan_of serial place o)

    found : AreReels rack.reels → Told was_up → Belongs was_up → (u : state.State) → StandsForState was_up u → (place : ℕ) → IsEnd serial rack place → Found u place
    found right told was u here place at =
        let (text, shelf, shelved, up) = was.up refl in
        let v = view_by text shelf (told_reels rack) up.rack None in
        let own : Seen was_up (state_up v (told_reels rack) o None) = record {
          view = v;
          is = is_view o.disc.held (told_reels rack) text shelf shelved up.rack None o.contents up.disc;
          opens = record { is = λ all qs some. tt };
          state_is = refl;
        } in
        let there = reel_there serial rack.reels on on_is in
        let named = reel_named serial rack.reels on on_is in
        let good = is_reel serial rack.reels on right.each on_is in
        let (blocks, told_on) = told_is on.blocks (All-contains (λ (r : Reel). is_some r.blocks ≡ true) (told_reels rack) (unread on) told.each.each there) in
        let completed = subst (λ (n : ℕ). AreCompleted n blocks (shelf n)) named (shelved.each (unread on) there blocks told_on) in
        let at_end : place ≡ end_of (shelf serial) =
        at.is blocks (ap blocks_in on_is ∙ told_on) (shelf serial) completed in
        let low : place ≤ 65536 =
        (let within = end-within serial blocks 0 0 (shelf serial) (omega arith) completed.are in
        let long = good.told blocks told_on in
        let most = good.within in
        let sized = good.sized_most in
        omega (arith, within, long, most, sized, at_end)) in
        let rules = rules_here o (keeps.live refl) keeps.tied in
        let unspent_is : o.contents.head.last_dump ≢ 2 ^ 62 - 1 = λ e. true≢false (sym (eq-eqb o.contents.head.last_dump (2 ^ 62 - 1) e) ∙ unspent) in
        let serial_right : IsSerial serial = subst IsSerial named (good.numbered, good.numbered_most) in
        let planned : IsPlanOf shelf o.changed o.contents (plan_of serial place o) = record {
          rules = plan_keeps serial place o (keeps.live refl) keeps.tied serial_right low unspent_is;
          number = refl;
          place = at_end;
          next = refl;
          users = refl;
          held = refl;
          files = λ n held. held_of_one n o.changed (recs_in o.contents) (AllPairs-from_increasing o.changed (keeps.tied.changed_are (keeps.live refl)).rising) held;
        } in
        let first = first_content (plan_of serial place o) in
        let wait = waiting (plan_of serial place o).files in
        record {
          text = text;
          shelf = shelf;
          shelved = shelved;
          up = up;
          at_end = at_end;
          view = v;
          text_is = refl;
          shelf_is = refl;
          is = own.is;
          state_is = store_is_one was_up u (state_up v (told_reels rack) o None) told was keeps here (stands was_up (state_up v (told_reels rack) o None) refl own);
          needs_then = opening_takes.needs text shelf o.changed o.contents (plan_of serial place o) (pins_for first wait)
              (record {
                dumpable = record { records = rules.records; dated = rules.dated; waits = keeps.tied.waits (keeps.live refl) };
                planned = planned;
                pinned = pins_are first wait;
                long = lengths serial o rack on on_is mounted unspent text shelf up.disc;
              });
        }

    -- TOO LONG
    pub too_short : AreReels rack.reels → (need room : ℕ) → new ≡ o → KeepsStore was_up behind → Refusal (TapeFull need room) → Opens serial was_up (Err (TapeFull need room)) behind
    unfolding touched_only
    too_short right need room same kept refuses =
        let is : new ≡ record o { touched = new.touched } = same ∙ ap (λ (x : OnlineFacts). touched_only o x.touched) (sym same) in
        let long = refuses.full need room refl in
        let left = long.room_is on on_is in
        not_opened (TapeFull need room) (λ e. let no : ⊥ = cc in no) (λ e. let no : ⊥ = cc in no) is kept refuses
        (λ told was u here.
        let f = found right told was u here long.place long.end_is in
        let v = f.view in
        let end_same : end_of (v.shelf serial) ≡ long.place = ap (λ (sh : ℕ → List Dump). end_of (sh serial)) f.shelf_is ∙ sym f.at_end in
        let need_same : dump_needs (held_in v o) ≡ need = f.needs_then ∙ sym long.need_is in
        let room_same : on.capacity - end_of (v.shelf serial) ≡ room = ap (λ (n : ℕ). on.capacity - n) end_same ∙ sym left in
        let tests_same : open_refuses (state_up v (told_reels rack) o None) (held_in v o) serial Plain ≡ Some (TapeFull need room) =
        refuses_is serial o rack on on_is mounted unspent v Plain
        ∙ (λ i. late_tests (room_same i) (need_same i) Plain)
        ∙ (λ i. first_fault ((false, TapeReadFault) ∷ (lt-ltb room need long.less i, TapeFull need room) ∷ (false, Stopped) ∷ [])) in
        record {
          after = u;
          left = left_state is u here;
          held = held_in v o;
          holds = ap (λ (s : state.State). s.holding) f.state_is;
          outcome = Plain;
          raised = tt;
          step = subst (λ (s : state.State). OpenStep s (held_in v o) serial Plain (Err (TapeFull need room)) s) (sym f.state_is)
              (stays_by v Plain (TapeFull need room) tests_same (λ reply s next. (refl, refl)));
        })
        (none_wrote is) (inr (inl (need, room, refl)))
        (λ n r yes.
        let one : need ≡ n = cc in
        let two : room ≡ r = cc in
        let rising = (keeps.tied.changed_are (keeps.live refl)).rising in
        let here : (need ≡ needs_now o) × (room < need) × (room ≤ capacity_of (reel serial rack.reels)) = (
          long.need_is ∙ needs_are serial long.place o rising,
          long.less,
          subst (λ (x : Option Reel). room ≤ capacity_of x) (sym on_is) (omega (arith, left)),
        ) in
        subst (λ (m : ℕ). (n ≡ needs_now o) × (m < n) × (m ≤ capacity_of (reel serial rack.reels))) two
        (subst (λ (m : ℕ). (m ≡ needs_now o) × (room < m) × (room ≤ capacity_of (reel serial rack.reels))) one here))

    -- STOPPED at the intent
    module _ (size : new.disc.size ≡ o.disc.size) (rose : Rose o.disc.write_faults new.disc.write_faults) where
      leads_to : (u : state.State) (v : View) (x : Contents) → u ≡ state_up v (told_reels rack) o None → open_refuses (state_up v (told_reels rack) o None) (held_in v o) serial Cut ≡ Some Stopped
          → IsView new.disc.held (told_reels rack) x v → (blocks : List (List ℕ)) → new.disc.held ≡ Some blocks → Holds blocks x
          → (let places : FinMap nat_cmp state.Place = from_entries [] in let end = state_down v (told_reels after) new.disc.size (Some x) in let old = state_up v (told_reels rack) o None in
          (end ≡ down old) ⊎ (end ≡ down (opening old (held_in v o) serial places))) → LeadsBy (OpensBy serial) u was_up (spent_with new after) (Err Stopped)
      leads_to u v x u_is refused is blocks held holds which =
          let places : FinMap nat_cmp state.Place = from_entries [] in
          let end = state_down v (told_reels after) new.disc.size (Some x) in
          let old = state_up v (told_reels rack) o None in
          let is_after : IsView new.disc.held (told_reels after) x v = subst (λ (rs : List Reel). IsView new.disc.held rs x v) (sym reads.reels) is in
          let devices = devices_hold new.disc.size new.disc.held (told_reels after) end v x blocks held holds is_after refl in
          record {
            after = end;
            left = spent_stands new after end devices;
            held = held_in v o;
            holds = ap (λ (s : state.State). s.holding) u_is;
            outcome = Cut;
            raised = inl rose;
            step = subst (λ (s : state.State). OpenStep s (held_in v o) serial Cut (Err Stopped) end) (sym u_is) (
              places,
              λ none. absurd (none-some Stopped (sym none ∙ refused)),
              subst (λ (r : Option StoreFault). Event r (o.contents.head.last_dump + 1) old (opening old (held_in v o) serial places) (Err Stopped) end) (sym refused) (refl, which),
            );
          }

      by_held : (u : state.State) (v : View) (place : ℕ) → u ≡ state_up v (told_reels rack) o None → open_refuses (state_up v (told_reels rack) o None) (held_in v o) serial Cut ≡ Some Stopped
          → state.end_of (state_up v (told_reels rack) o None) serial ≡ place → IsView new.disc.held (told_reels rack) o.contents v → (blocks : List (List ℕ)) → new.disc.held ≡ Some blocks
          → Holds blocks o.contents ⊎ Holds blocks (with_intent (Some (intent_of (plan_of serial place o))) o.contents) → LeadsBy (OpensBy serial) u was_up (spent_with new after) (Err Stopped)
      by_held u v place u_is refused ends is blocks held (inl holds) =
          leads_to u v o.contents u_is refused is blocks held holds
          (inl (λ i. let s : state.State = record { up = false; size = size i; holding = Some (holding_of v.text [] o.contents); reels = map (row_of v.shelf) (reads.reels i); dumped = (state_up v (told_reels rack) o None).dumped; open_dump = None } in s))
      by_held u v place u_is refused ends is blocks held (inr holds) =
          leads_to u v (with_intent (Some (intent_of (plan_of serial place o))) o.contents) u_is refused (record { rack = is.rack; files = is.files }) blocks held holds
          (inr
          (λ i.
          let s : state.State = record {
            up = false;
            size = size i;
            holding = Some (holding_of v.text [] (with_intent (Some (record { serial = serial; place = sym ends i; number = o.contents.head.last_dump + 1 })) o.contents));
            reels = map (row_of v.shelf) (reads.reels i);
            dumped = (state_up v (told_reels rack) o None).dumped;
            open_dump = None;
          } in
          s))

      leads_cut : AreReels rack.reels → StoppedOpening serial o new rack → Told was_up → Belongs was_up → (u : state.State) → StandsForState was_up u
          → LeadsBy (OpensBy serial) u was_up (spent_with new after) (Err Stopped)
      leads_cut right stopped told was u here =
          let f = found right told was u here stopped.place stopped.end_is in
          let v = f.view in
          let end_same : end_of (v.shelf serial) ≡ stopped.place = ap (λ (sh : ℕ → List Dump). end_of (sh serial)) f.shelf_is ∙ sym f.at_end in
          let room : ℕ = on.capacity - end_of (v.shelf serial) in
          let need = f.needs_then in
          let fits = stopped.fits on on_is in
          let enough : nat_lt room (dump_needs (held_in v o)) ≡ false = le-ltb room (dump_needs (held_in v o)) (omega (arith, fits, need, end_same)) in
          let refused : open_refuses (state_up v (told_reels rack) o None) (held_in v o) serial Cut ≡ Some Stopped =
          refuses_is serial o rack on on_is mounted unspent v Cut
          ∙ (λ i. first_fault ((false, TapeReadFault) ∷ (enough i, TapeFull (dump_needs (held_in v o)) room) ∷ (true, Stopped) ∷ [])) in
          let (blocks, held) = told_is new.disc.held (stopped.left.told ∙ told.disc) in
          by_held u v stopped.place f.state_is refused (end_then serial o rack on on_is mounted unspent v ∙ end_same)
          (files_seen o.disc.held new.disc.held (told_reels rack) v o.contents stopped.left.told f.is) blocks held (stopped.left.holds blocks held)

  -- stopped, with any disc that the failed write may have left
  module _ (new : OnlineFacts) (after : Rack) (tied_new : IsTied new) (reads : OnlyReads rack after) (size : new.disc.size ≡ o.disc.size) (rose : Rose o.disc.write_faults new.disc.write_faults)
      (right : AreReels rack.reels) (stopped : StoppedOpening serial o new rack) (refuses : (let r : Result DumpFacts StoreFault = Err Stopped in RefusesOpening serial o rack after r)) where
    abbrev Left : List (List ℕ) → Type 0
    Left blocks = Holds blocks o.contents ⊎ Holds blocks (with_intent (Some (intent_of (plan_of serial stopped.place o))) o.contents)

    stopped_at : (x : OnlineFacts) → IsStoppedWith Left o x → StoppedOpening serial o x rack
    stopped_at x a = record { place = stopped.place; end_is = stopped.end_is; fits = stopped.fits; left = record { live = a.live; told = a.tells; holds = a.holds; survives = a.survives } }

    stopped_is : (x : OnlineFacts) → IsStoppedWith Left o x → IsAnsweredBy (OpensBy serial) was_up (Err Stopped) (spent_with x after)
    stopped_is x a =
        let kept = keeps_opening serial o x rack after (Err Stopped) (keeps.live refl) (keeps.pins refl refl) keeps.tied a.tied reads tt refuses tt (λ is. stopped_at x a) in record {
          step = leads_cut x after a.tied reads a.size a.rose right (stopped_at x a);
          belongs = λ told was. kept.belongs told keeps was;
        }

    pub cut : new.disc.arms ≡ o.disc.arms → o.disc.writes ≤ new.disc.writes → new.disc.read_faults ≡ o.disc.read_faults → KeepsStore was_up (spent_with new after)
        → Opens serial was_up (Err Stopped) (spent_with new after)
    cut arms later kept_reads kept =
        let at : IsStoppedWith Left o new = record {
          tied = tied_new;
          live = stopped.left.live;
          size = size;
          tells = stopped.left.told;
          arms = arms;
          later = later;
          reads_kept = kept_reads;
          rose = rose;
          holds = stopped.left.holds;
          survives = stopped.left.survives;
        } in
        record {
          event = record {
            step = leads_cut new after tied_new reads size rose right stopped;
            wrote = tt;
            keeps = kept.store keeps;
            told = kept.told;
            belongs = λ told was. kept.belongs told keeps was;
            spent = (λ _. refl, λ _. refl);
            survives = commit_survives (IsAnsweredBy (OpensBy serial) was_up (Err Stopped)) Left was_up (spent_with new after) refl at stopped_is;
          };
          cause = record {
            disc = record {
              size = size;
              arms = arms;
              later = later;
              reads_kept = λ _. kept_reads;
              reads_rose = λ no. absurd (let it : ⊥ = cc in it);
              writes_kept = λ no. absurd (no refl);
              writes_rose = λ _. rose;
            };
            tapes = reads;
            tape_read = λ no. absurd (let it : ⊥ = cc in it);
            tape_read_only = λ _. refuses.kept (λ no. let it : ⊥ = cc in it);
            writes = λ f yes other. absurd (other (let it : f ≡ Stopped = cc in it));
          };
          dump = λ f yes other. absurd (other (let it : f ≡ Stopped = cc in it));
          same = λ other. absurd (other refl);
          exact = exact_none (Err Stopped) (spent_with new after) (inr (inr (inl refl)));
          number = λ n no. absurd (let it : ⊥ = cc in it);
          full = λ need room no. absurd (let it : ⊥ = cc in it);
        }

  -- BY WHAT THE FILESTORE ANSWERED
  no_back : (fault : TapeFault) → IsKeptBack serial rack fault → ⊥
  no_back fault back =
      let none : refuses_unmount (reel serial rack.reels) ≡ None = ap refuses_unmount on_is ∙ ap (λ (b : Bool). if b then None else Some tape.NotMounted) mounted in
      none-some fault (sym none ∙ back)

  pub by_answer : AreReels rack.reels → (new : OnlineFacts) (after : Rack) (r : Result DumpFacts StoreFault) → HasBegun serial o rack new after r → Opens serial was_up (number_of r) (behind_opening r new after)
  by_answer right new after (Ok d) said =
      let begins = said.ok in
      let (q, at, same) = after_reads (reel serial after.reels) (reel serial rack.reels) on on_is (reel_after_reads serial rack after said.reads) in
      let named : d.plan.serial ≡ serial = ap (λ (e : DumpFacts). e.plan.serial) begins.dump in
      let one : begins.open_dump.on ≡ q = same_Some begins.open_dump.on q (sym begins.open_dump.reel_is ∙ ap (λ (n : ℕ). reel n after.reels) named ∙ at) in
      let capacity : begins.open_dump.on.capacity ≡ on.capacity = ap (λ (x : Reel). x.capacity) one ∙ ap (λ (x : Reel). x.capacity) same in
      let room = begins.open_dump.room in
      opens_ok new after d said.tied said.reads (said.refused.kept (λ no. let it : ⊥ = cc in it)) begins
      (Causes-for (λ p. p) (λ p. p) (λ no. absurd (let it : ⊥ = cc in it)) (λ no. absurd no) said.causes) (omega (arith, room, capacity)) said.keeps
  by_answer right new after (Err Stopped) said =
      cut new after said.tied said.reads said.causes.size (said.causes.writes_rose refl) right (said.stopped refl) said.refused said.causes.arms said.causes.later (said.causes.reads_kept (λ no. no)) said.keeps
  by_answer right new after (Err TapeReadFault) said = couldnt_read new after said.tied said.reads said.left said.keeps said.refused
  by_answer right new after (Err (TapeFull need room)) said = too_short new after said.tied said.reads right need room said.left said.keeps said.refused
  by_answer right new after (Err NoMemory) said = forgetful new after said.tied said.reads said.left said.keeps said.refused
  by_answer right new after (Err CountersSpent) said =
      let spent = said.refused.spent.0 refl in absurd (true≢false (sym (eq-eqb o.contents.head.last_dump (2 ^ 62 - 1) spent) ∙ unspent))
  by_answer right new after (Err NoTape) said = absurd (no_back tape.NoTape (said.refused.no_tape.0 refl).1)
  by_answer right new after (Err NotMounted) said = absurd (no_back tape.NotMounted (said.refused.not_mounted.0 refl).1)
  by_answer right new after (Err fault) said = absurd said.refused.only

-- the first tests
four_false : (a b c d : Bool) (fa fb fc fd : StoreFault) → first_fault ((a, fa) ∷ (b, fb) ∷ (c, fc) ∷ (d, fd) ∷ []) ≡ None → (a ≡ false) × (b ≡ false) × (c ≡ false) × (d ≡ false)
four_false true b c d fa fb fc fd isnt = absurd (none-some fa (sym isnt))
four_false false true c d fa fb fc fd isnt = absurd (none-some fb (sym isnt))
four_false false false true d fa fb fc fd isnt = absurd (none-some fc (sym isnt))
four_false false false false true fa fb fc fd isnt = absurd (none-some fd (sym isnt))
four_false false false false false fa fb fc fd isnt = (refl, refl, refl, refl)

there_is : (x : Option Reel) → is_none x ≡ false → (r : Reel) × (x ≡ Some r)
there_is None isnt = absurd (true≢false isnt)
there_is (Some r) isnt = (r, refl)

mounted_is : (x : Option Reel) (r : Reel) → x ≡ Some r → not (is_mounted x) ≡ false → r.mounted ≡ true
mounted_is x r is isnt = by_mount r.mounted (sym (ap (λ (y : Option Reel). not (is_mounted y)) is) ∙ isnt)
  where
    by_mount : (b : Bool) → not b ≡ false → b ≡ true
    by_mount true isnt = refl
    by_mount false isnt = absurd (true≢false isnt)

no_dump : (x : Option DumpFacts) → is_some x ≡ false → x ≡ None
no_dump None isnt = refl
no_dump (Some d) isnt = absurd (true≢false isnt)

-- the store after the filestore's answer
abbrev pub store_behind : StoreFacts → OnlineFacts → Rack → Result DumpFacts StoreFault → StoreFacts
store_behind t new after (Ok d) = record { online = new; rack = after; dump = Some d; spent = t.spent }
store_behind t new after (Err fault) = record { online = new; rack = after; dump = t.dump; spent = is_stop_at fault }

behind_same : (new : OnlineFacts) (after : Rack) (r : Result DumpFacts StoreFault) → behind_opening r new after ≡ (let t : StoreFacts = up_with new after None in store_behind t new after r)
behind_same new after (Ok d) = refl
behind_same new after (Err Stopped) = refl
behind_same new after (Err fault) = refl

pub opens_by : (serial : ℕ) (old t : StoreFacts) → t ≡ old → old.spent ≡ false → IsStore t → AreReels t.rack.reels → refuses_now serial old ≡ None → (new : OnlineFacts) (after : Rack)
    (r : Result DumpFacts StoreFault) → HasBegun serial t.online t.rack new after r → Opens serial old (number_of r) (store_behind t new after r)
opens_by serial old t same unspent keeps right free new after r said =
    let free_t : refuses_now serial t ≡ None = ap (refuses_now serial) same ∙ free in
    let (has, mounted, none, left) = four_false (is_none (reel serial t.rack.reels)) (not (is_mounted (reel serial t.rack.reels))) (is_some t.dump) (t.online.contents.head.last_dump == 2 ^ 62 - 1)
    NoTape NotMounted (DumpOpen (number_in t.dump)) CountersSpent free_t in
    let (on, on_is) = there_is (reel serial t.rack.reels) has in
    let mount = mounted_is (reel serial t.rack.reels) on on_is mounted in
    let dump_none : t.dump ≡ None = no_dump t.dump none in
    let spent_none : t.spent ≡ false = ap (λ (s : StoreFacts). s.spent) same ∙ unspent in
    let whole : t ≡ up_with t.online t.rack None = λ i. let s : StoreFacts = record { online = t.online; rack = t.rack; dump = dump_none i; spent = spent_none i } in s in
    let keeps_up : IsStore (up_with t.online t.rack None) = subst IsStore whole keeps in
    let free_up : refuses_now serial (up_with t.online t.rack None) ≡ None = ap (refuses_now serial) (sym whole) ∙ free_t in
    let answer = by_answer serial t.online t.rack on on_is mount left keeps_up free_up right new after r said in
    let behind_is : behind_opening r new after ≡ store_behind t new after r = behind_same new after r ∙ (λ i. store_behind (record { online = new; rack = after; dump = sym dump_none i; spent = sym spent_none i }) new after r) in
    subst (λ (s : StoreFacts). Opens serial s (number_of r) (store_behind t new after r)) (sym whole ∙ same) (subst (Opens serial (up_with t.online t.rack None) (number_of r)) behind_is answer)

-- REFUSED BEFORE the reel is read
open_front : (a b c d : Bool) (fa fb fc fd f : StoreFault) (rest : List (Bool × StoreFault)) → first_fault ((a, fa) ∷ (b, fb) ∷ (c, fc) ∷ (d, fd) ∷ []) ≡ Some f
    → first_fault ((a, fa) ∷ (b, fb) ∷ (c, fc) ∷ (d, fd) ∷ rest) ≡ Some f
open_front true b c d fa fb fc fd f rest is = is
open_front false true c d fa fb fc fd f rest is = is
open_front false false true d fa fb fc fd f rest is = is
open_front false false false true fa fb fc fd f rest is = is
open_front false false false false fa fb fc fd f rest is = absurd (none-some f is)

pub which_fault : (a b c d : Bool) (n : ℕ) (f : StoreFault) → first_fault ((a, NoTape) ∷ (b, NotMounted) ∷ (c, DumpOpen n) ∷ (d, CountersSpent) ∷ []) ≡ Some f
    → (NoTape ≡ f) ⊎ ((NotMounted ≡ f) ⊎ ((DumpOpen n ≡ f) ⊎ (CountersSpent ≡ f)))
which_fault true b c d n f is = inl (same_Some NoTape f is)
which_fault false true c d n f is = inr (inl (same_Some NotMounted f is))
which_fault false false true d n f is = inr (inr (inl (same_Some (DumpOpen n) f is)))
which_fault false false false true n f is = inr (inr (inr (same_Some CountersSpent f is)))
which_fault false false false false n f is = absurd (none-some f is)

module _ (serial : ℕ) (t : StoreFacts) (unspent : t.spent ≡ false) (keeps : IsStore t) where
  open_tests : (dump : Option DumpFacts) (v : View) → is_some (option_map (open_of v t.online) dump) ≡ is_some dump
  open_tests None v = refl
  open_tests (Some d) v = refl

  open_numbers : (dump : Option DumpFacts) (v : View) → open_number (option_map (open_of v t.online) dump) ≡ number_in dump
  open_numbers None v = refl
  open_numbers (Some d) v = refl

  state_refuses : (v : View) (fault : StoreFault) → refuses_now serial t ≡ Some fault
      → open_refuses (state_up v (told_reels t.rack) t.online t.dump) (held_in v t.online) serial Plain ≡ Some fault
  state_refuses v fault is =
      let s = state_up v (told_reels t.rack) t.online t.dump in
      let k = held_in v t.online in
      (λ i.
      first_fault (
      (lacks_by v.shelf serial t.rack.reels i, NoTape)
      ∷ (not (mounted_by v.shelf serial t.rack.reels i), NotMounted)
      ∷ (open_tests t.dump v i, DumpOpen (open_numbers t.dump v i))
      ∷ (t.online.contents.head.last_dump == 2 ^ 62 - 1, CountersSpent)
      ∷ (false, TapeReadFault)
      ∷ (nat_lt (tape_room s serial) (dump_needs k), TapeFull (dump_needs k) (tape_room s serial))
      ∷ (false, Stopped)
      ∷ []))
      ∙ open_front (is_none (reel serial t.rack.reels)) (not (is_mounted (reel serial t.rack.reels))) (is_some t.dump) (t.online.contents.head.last_dump == 2 ^ 62 - 1)
      NoTape NotMounted (DumpOpen (number_in t.dump)) CountersSpent fault ((false, TapeReadFault) ∷ (nat_lt (tape_room s serial) (dump_needs k), TapeFull (dump_needs k) (tape_room s serial)) ∷ (false, Stopped) ∷ []) is

  early_by : (fault : StoreFault) → ((u : state.State) → LeadsBy (OpensBy serial) u t t (Err fault) → StepsBy (OpensBy serial) u t (Err fault) t) → WroteBy (λ (n : ℕ). 1) t (Err fault) t
      → ((reply : ℕ) (s next : state.State) → Event (Some fault) reply s next (Err fault) s) → fault ≢ Stopped → fault ≢ DiscReadFault → fault ≢ TapeReadFault
      → ((need room : ℕ) → fault ≡ TapeFull need room → ⊥) → refuses_now serial t ≡ Some fault → Opens serial t (Err fault) t
  early_by fault cast wrote event stop disc tape_read full is = record {
    event = refused (OpensBy serial) (λ n. 1) t unspent fault stop keeps
        (λ u here.
        cast u
        (leads_same (OpensBy serial) (λ n. 1) t unspent fault u here
        (λ v.
        let places : FinMap nat_cmp state.Place = from_entries [] in
        let s = state_up v (told_reels t.rack) t.online t.dump in
        let refuses = state_refuses v fault is in (
          places,
          λ none. absurd (none-some fault (sym none ∙ refuses)),
          subst (λ (x : Option StoreFault). Event x (t.online.contents.head.last_dump + 1) s (opening s (held_in v t.online) serial places) (Err fault) s) (sym refuses)
              (event (t.online.contents.head.last_dump + 1) s (opening s (held_in v t.online) serial places)),
        )))) wrote;
    cause = record {
      disc = Causes-none t.online.disc (λ no. disc (let same : fault ≡ DiscReadFault = cc in same)) (λ no. stop (let same : fault ≡ Stopped = cc in same));
      tapes = nothing_read t.rack;
      tape_read = λ no. absurd (tape_read (let same : fault ≡ TapeReadFault = cc in same));
      tape_read_only = λ _. refl;
      writes = λ f yes other. refl;
    };
    dump = λ f yes other. refl;
    same = λ _. refl;
    exact = record {
      refused = subst (λ (x : Option StoreFault). IfSome x (λ f. (let r : Result ℕ StoreFault = Err fault in r ≡ Err f) × (t ≡ t))) (sym is) (refl, refl);
      granted = λ none. absurd (none-some fault (sym none ∙ is));
    };
    number = λ n no. absurd (let it : ⊥ = cc in it);
    full = λ need room no. absurd (full need room (let same : fault ≡ TapeFull need room = cc in same));
  }

  abbrev Refused : StoreFault → Type 0
  Refused fault = refuses_now serial t ≡ Some fault → Opens serial t (Err fault) t

  pub opens_refused : (fault : StoreFault) → Some fault ≡ refuses_now serial t → Opens serial t (Err fault) t
  opens_refused fault is =
      by_fault (which_fault (is_none (reel serial t.rack.reels)) (not (is_mounted (reel serial t.rack.reels))) (is_some t.dump) (t.online.contents.head.last_dump == 2 ^ 62 - 1) (number_in t.dump) fault (sym is)) (sym is)
    where
      by_fault : (NoTape ≡ fault) ⊎ ((NotMounted ≡ fault) ⊎ ((DumpOpen (number_in t.dump) ≡ fault) ⊎ (CountersSpent ≡ fault))) → Refused fault
      by_fault (inl same) =
          subst Refused same
          (early_by NoTape (λ u leads. leads) (none_written t) (λ reply s next. (refl, refl)) (λ e. let no : ⊥ = cc in no) (λ e. let no : ⊥ = cc in no) (λ e. let no : ⊥ = cc in no) (λ need room e. let no : ⊥ = cc in no))
      by_fault (inr (inl same)) =
          subst Refused same
          (early_by NotMounted (λ u leads. leads) (none_written t) (λ reply s next. (refl, refl)) (λ e. let no : ⊥ = cc in no) (λ e. let no : ⊥ = cc in no) (λ e. let no : ⊥ = cc in no) (λ need room e. let no : ⊥ = cc in no))
      by_fault (inr (inr (inl same))) =
          subst Refused same
          (early_by (DumpOpen (number_in t.dump)) (λ u leads. leads) (none_written t) (λ reply s next. (refl, refl)) (λ e. let no : ⊥ = cc in no) (λ e. let no : ⊥ = cc in no) (λ e. let no : ⊥ = cc in no) (λ need room e. let no : ⊥ = cc in no))
      by_fault (inr (inr (inr same))) =
          subst Refused same
          (early_by CountersSpent (λ u leads. leads) (none_written t) (λ reply s next. (refl, refl)) (λ e. let no : ⊥ = cc in no) (λ e. let no : ⊥ = cc in no) (λ e. let no : ⊥ = cc in no) (λ need room e. let no : ⊥ = cc in no))
