-- Which state a power loss leaves after a step of an open dump that was stopped.
-- serves: step_losses (stopped)
use Rattle.std.proofs.Common.{◌≡◌, ℕ, ◌+◌, true, false, List, [], map, Some, None, Err, refl, sym, ◌∙◌, ap, arith, subst, inl, inr, true≢false}
use Rattle.std.specs.Prelude.{◌⊎◌}
use Rattle.std.specs.List.{AllZip}
use Rattle.std.proofs.lemmas.Bool.{lt-ltb}
use Rattle.std.proofs.lemmas.Option.{same_Some}
use Rattle.g_base.specs.Fuse.{burnt}
use Rattle.g_tape.specs.Rack.{Rack, changed}
use Rattle.g_tape.specs.Reel.{Torn, left_by}
use Rattle.g_plain.specs.declared.faults.StoreFault.TheVariants.{Stopped}
use Rattle.g_disc_contents.specs.Contents.{Holds}
use Rattle.g_disc_contents.specs.Facts.{OnlineFacts, Pin}
use Rattle.g_incr.specs.Layout.{Dump}
use Rattle.g_incr.specs.Plan.{dump_of, needs}
use Rattle.g_shelf.specs.CompletedDumps.{AreShelved, all_dumps}
use Rattle.g_shelf.specs.Surviving.{DumpsSurvive}
use Rattle.g_store_model.specs.State as state
use Rattle.g_store_model.specs.CallStep.{Cut, down}
use Rattle.g_store_model.specs.DumpSteps.{marked, uses}
use Rattle.g_store_meaning.specs.Meaning.{told_reels}
use Rattle.g_store_meaning.specs.Reading.{IsView, StandsForState, row_of, state_down}
use Rattle.g_store_meaning.specs.Safety.{IsLeft, IsRowLike, IsSafe, StandLike}
use Rattle.g_store_meaning.specs.StoreInvariant.{DumpFacts, IsOpen, IsUp, StoreFacts, content_in, with_dump}
use Rattle.g_store_meaning.specs.Surviving.{PowerLossLeavesEither, with_disc_left}
use Rattle.g_laws_store.proofs.DumpingLemmas.{moved_dumps}
use Rattle.g_dumper.specs.Invariant.{StoppedStepLeaves, StopsAtClosing, StopsAtMark, StopsBeforeMark, up_with}
use Rattle.g_process.proofs.BecomeLemmas.{label_left, labels_with, zip_labels}
use Rattle.g_store.specs.Dumping.{KeepsDumpsSafe, LeavesAfterStep}
use Rattle.g_store.specs.Events.{IsStepOfDump, StepsDump}
use Rattle.g_store.proofs.SteppedLemmas as stepped
use Rattle.g_laws_power.specs.Events.{StoppedStepsSurvive, StopsLikeBy}
use Rattle.g_laws_power.proofs.LeftLemmas.{IsSeen, rows_like, same_seen, seen_left, stand_left}
use Rattle.g_laws_power.proofs.StepLemmas.{answered, either_shelf, left_serials, stopped_belong}
use Rattle.g_laws_power.proofs.SurvivalLemmas.{holds_left, spent_view}

-- A STOP AT THE MARK
module _ (d : DumpFacts) (o : OnlineFacts) (old : Rack) (new : StoreFacts) (safe : IsSafe (up_with o old (Some d))) (keeps : KeepsDumpsSafe (up_with o old (Some d)) (Err Stopped) new)
    (text : ℕ → List ℕ) (shelf : ℕ → List Dump) (shelved : AreShelved shelf (told_reels old)) (up : IsUp text shelf (up_with o old (Some d))) (is : IsOpen d o old) (content : List (List ℕ))
    (has : content_in is.pins ≡ Some content) (last : d.done + 1 ≡ needs d.plan) (same : new.online ≡ o) (blocks : List (List ℕ)) (rack : Rack) (left : IsLeft new.online.disc new.rack blocks rack) where
  abbrev more : ℕ → List Dump
  more = with_dump (dump_of d.plan content) shelf

  abbrev od : state.OpenDump
  od = stepped.od d o old keeps.are safe.store safe.told safe.belongs text shelf shelved up is content has

  abbrev s : state.State
  s = stepped.s d o old keeps.are safe.store safe.told safe.belongs text shelf shelved up is content has

  abbrev k : state.Holding
  k = stepped.k d o old keeps.are safe.store safe.told safe.belongs text shelf shelved up is content has

  holds : Holds blocks o.contents
  holds = holds_left (up_with o old (Some d)) blocks safe (subst (λ (x : OnlineFacts). IsLeft x.disc new.rack blocks rack) same left).on_disc

  dumps_same : (dumps : ℕ → List Dump) → all_dumps dumps (told_reels old) ≡ all_dumps dumps (told_reels rack)
  dumps_same dumps = moved_dumps (told_reels old) (told_reels rack) (left_serials (up_with o old (Some d)) new keeps blocks rack left) dumps

  seen : AllZip IsSeen old.reels rack.reels
  seen = same_seen old.reels new.rack.reels rack.reels keeps.reels (seen_left new.rack new.rack.reels rack.reels left.reels.reels)

  -- without the dump
  view_same : AreShelved shelf (told_reels rack) → IsView (Some blocks) (told_reels rack) o.contents (stepped.v d o old keeps.are safe.store safe.told safe.belongs text shelf shelved up is content has)
  view_same on = stepped.view_on d o old keeps.are safe.store safe.told safe.belongs text shelf shelved up is content has (told_reels rack) (dumps_same shelf) (Some blocks) on

  stand_same : AreShelved shelf (told_reels rack) → StandLike o.disc.size blocks rack (down s)
  stand_same on =
      let v = stepped.v d o old keeps.are safe.store safe.told safe.belongs text shelf shelved up is content has in
      let view = view_same on in record {
        state = state_down v (told_reels rack) o.disc.size (Some o.contents);
        stands = record {
          view = v;
          contents = Some o.contents;
          is = (blocks, refl, holds, view);
          none = λ no. absurd (true≢false no);
          rack = view.rack;
          state_is = refl;
        };
        like = record { same = refl; reels = rows_like shelf old.reels rack.reels seen };
      }

  -- with it
  abbrev with_mark : Rack
  with_mark = record (changed d.plan.serial (left_by (Torn []) (d.plan.place + d.done)) old) { fuse = burnt old.fuse }

  marked_seen : AllZip IsSeen with_mark.reels rack.reels
  marked_seen =
      same_seen with_mark.reels old.reels rack.reels
      (zip_labels with_mark.reels old.reels (sym (labels_with d.plan.serial (left_by (Torn []) (d.plan.place + d.done)) (label_left (Torn []) (d.plan.place + d.done)) old.reels))) seen

  marked_rows : map (row_of more) (told_reels with_mark) ≡ (uses true od (down (marked od s))).reels
  marked_rows =
      stepped.rows_with d o old keeps.are safe.store safe.told safe.belongs text shelf shelved up is content has with_mark (Torn []) old.write_faults refl true
      (lt-ltb 0 (d.plan.place + d.done + 1) (omega arith))

  stand_marked : AreShelved more (told_reels rack) → StandLike o.disc.size blocks rack (uses true od (down (marked od s)))
  stand_marked on =
      let v = stepped.v_marked d o old keeps.are safe.store safe.told safe.belongs text shelf shelved up is content has in
      let ready = stepped.is_ready d o old keeps.are safe.store safe.told safe.belongs text shelf shelved up is content has in
      let view = stepped.view_with d o old keeps.are safe.store safe.told safe.belongs text shelf shelved up is content has (told_reels rack) (dumps_same more) (Some blocks) o.contents on ready.disc in
      let dumped = stepped.dumped_is d o old keeps.are safe.store safe.told safe.belongs text shelf shelved up is content has in record {
        state = state_down v (told_reels rack) o.disc.size (Some o.contents);
        stands = record {
          view = v;
          contents = Some o.contents;
          is = (blocks, refl, holds, view);
          none = λ no. absurd (true≢false no);
          rack = view.rack;
          state_is = refl;
        };
        like = record {
          same = λ i.
              let u : state.State = record {
                up = false;
                size = o.disc.size;
                holding = (down s).holding;
                reels = map (row_of more) (told_reels rack);
                dumped = Some (dumped i);
                open_dump = None;
              } in u;
          reels = subst (λ (rows : List state.ReelRow). AllZip IsRowLike rows (map (row_of more) (told_reels rack))) marked_rows (rows_like more with_mark.reels rack.reels marked_seen);
        };
      }

  abbrev Stops : state.State → ℕ → Type 0
  Stops u size = StopsLikeBy IsStepOfDump u size blocks rack

  stops_as : AreShelved shelf (told_reels rack) ⊎ AreShelved more (told_reels rack) → Stops s o.disc.size
  stops_as (inl on) = record { held = k; holds = refl; outcome = Cut; after = down s; step = (od, refl, (refl, inl (inl refl))); stand = stand_same on }
  stops_as (inr on) = record { held = k; holds = refl; outcome = Cut; after = uses true od (down (marked od s)); step = (od, refl, (refl, inr (last, inl refl))); stand = stand_marked on }

  pub stops_at_mark : AreShelved shelf (told_reels rack) ⊎ AreShelved more (told_reels rack) → (u : state.State) → StandsForState (up_with o old (Some d)) u → Stops u new.online.disc.size
  stops_at_mark which u here =
      subst (λ (x : OnlineFacts). Stops u x.disc.size) (sym same)
      (subst (λ (w : state.State). Stops w o.disc.size) (sym (stepped.state_of d o old keeps.are safe.store safe.told safe.belongs text shelf shelved up is content has u here)) (stops_as which))

-- THE SAME of any store
module _ (old new : StoreFacts) (blocks : List (List ℕ)) (rack : Rack) (safe : IsSafe old) (steps : StepsDump old (Err Stopped) new) (keeps : KeepsDumpsSafe old (Err Stopped) new)
    (left : IsLeft new.online.disc new.rack blocks rack) where
  whole : (d : DumpFacts) → old.dump ≡ Some d → old ≡ up_with old.online old.rack (Some d)
  whole d is = λ i. let s : StoreFacts = record { online = old.online; rack = old.rack; dump = is i; spent = safe.up i } in s

  abbrev AtMark : DumpFacts → StoreFacts → Type 0
  AtMark d x =
      IsSafe x → StepsDump x (Err Stopped) new → KeepsDumpsSafe x (Err Stopped) new → (text : ℕ → List ℕ) (shelf : ℕ → List Dump) → AreShelved shelf (told_reels x.rack) → IsUp text shelf x
      → (pins : List Pin) → x.online.pins ≡ Some pins → (content : List (List ℕ)) → content_in pins ≡ Some content → d.done + 1 ≡ needs d.plan → new.online ≡ x.online
      → ((n : ℕ) → PowerLossLeavesEither n new.rack (shelf n) (with_dump (dump_of d.plan content) shelf n)) → (u : state.State) → StandsForState x u → StopsLikeBy IsStepOfDump u new.online.disc.size blocks rack

  at_mark : (d : DumpFacts) (o : OnlineFacts) (r : Rack) → AtMark d (up_with o r (Some d))
  at_mark d o r safe_x steps_x keeps_x text shelf shelved up pins pinned content has last same either =
      let is = safe_x.store.open_dump refl in
      stops_at_mark d o r new safe_x keeps_x text shelf shelved up is content (ap content_in (same_Some is.pins pins (sym is.pinned ∙ pinned)) ∙ has) last same blocks rack left
      (either_shelf (up_with o r (Some d)) new safe_x steps_x keeps_x shelf d content either blocks rack left)

  -- the dumps that the reels have survive
  by_survival : ((n : ℕ) → DumpsSurvive n new.rack) → (u : state.State) → StandsForState old u → StopsLikeBy IsStepOfDump u new.online.disc.size blocks rack
  by_survival survive u here =
      let leads = (answered old new safe steps keeps survive blocks rack left).step safe.told safe.belongs u here in record {
        held = leads.held;
        holds = leads.holds;
        outcome = leads.outcome;
        after = leads.after;
        step = leads.step;
        stand = stand_left new.rack rack left.reels (steps.told safe.told).each survive new.online.disc.size blocks leads.after (spent_view (with_disc_left blocks new) leads.after (steps.spent.1 refl) leads.left);
      }

  stops_by : (text : ℕ → List ℕ) (shelf : ℕ → List Dump) → AreShelved shelf (told_reels old.rack) → IsUp text shelf old → LeavesAfterStep shelf old (Err Stopped) new
      → (u : state.State) → StandsForState old u → StopsLikeBy IsStepOfDump u new.online.disc.size blocks rack
  stops_by text shelf shelved up after = by after.leaves
    where
      by : StoppedStepLeaves after.dump shelf (with_dump (dump_of after.dump.plan after.content) shelf) old new → (u : state.State) → StandsForState old u
          → StopsLikeBy IsStepOfDump u new.online.disc.size blocks rack
      by (StopsBeforeMark less same are) = by_survival are.survive
      by (StopsAtMark last same either has) =
          subst (AtMark after.dump) (sym (whole after.dump after.dump_is)) (at_mark after.dump old.online old.rack) safe steps keeps text shelf shelved up after.pins after.pinned after.content after.content_is last same
          either
      by (StopsAtClosing last stopped are) = by_survival are.survive

  pub step_survives : (u : state.State) → StandsForState old u → StopsLikeBy IsStepOfDump u new.online.disc.size blocks rack
  step_survives =
      let (text, shelf, shelved, up) = safe.belongs.up safe.up in
      stops_by text shelf shelved up (keeps.left safe.told text shelf shelved up safe.dumps)

pub stopped_steps_survive : StoppedStepsSurvive
stopped_steps_survive old new blocks rack safe steps keeps left = (
  stopped_belong old new safe steps keeps blocks rack left,
  λ u here. step_survives old new blocks rack safe steps keeps left u here,
)
