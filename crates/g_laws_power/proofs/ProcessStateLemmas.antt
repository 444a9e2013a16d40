-- Which state a power loss leaves after a PROCESS that was stopped.
-- serves: process_losses
use Rattle.std.proofs.Common.{◌≡◌, ◌≢◌, ℕ, suc, ◌<◌, ◌==◌, true, false, List, [], ◌∷◌, map, Some, None, Result, Err, refl, sym, ◌∙◌, ap, arith, subst, inl, inr, if◌then◌else◌, true≢false}
use Rattle.std.specs.Prelude.{◌⊎◌, Contains, Option}
use Rattle.std.specs.List.{AllZip}
use Rattle.std.proofs.lemmas.Bool.{cases_order, cond-false, cond-true}
use Rattle.std.proofs.lemmas.Bool.Decides.{eqb_tells}
use Rattle.g_tape.specs.Rack.{AreReels, Rack, reel}
use Rattle.g_tape.specs.Reads.{unread}
use Rattle.g_tape.specs.Reel.{Reel}
use Rattle.g_plain.specs.declared.faults.StoreFault.{StoreFault}
use Rattle.g_plain.specs.declared.faults.StoreFault.TheVariants.{Stopped}
use Rattle.g_disc_contents.specs.Contents.{Contents, Holds}
use Rattle.g_disc_contents.specs.Facts.{OnlineFacts}
use Rattle.g_incr.specs.Layout.{Dump}
use Rattle.g_shelf.specs.CompletedDumps.{AreCompleted, AreShelved, all_dumps}
use Rattle.g_shelf.proofs.OneLemmas.{completed_are_one}
use Rattle.g_store_model.specs.State as state
use Rattle.g_store_model.specs.CallStep.{Cut, down}
use Rattle.g_store_model.specs.Process.{Marked, Moved, NotYet, ProcessLeft, ProcessStep, marked_by, moved, with_intent}
use Rattle.g_store_meaning.specs.Meaning.{told_reels}
use Rattle.g_store_meaning.specs.Reading.{IsView, StandsForState, View, row_of, state_down}
use Rattle.g_store_meaning.specs.Safety.{IsLeft, IsRowLike, IsSafe, StandLike}
use Rattle.g_store_meaning.specs.StoreInvariant.{IsUp, StoreFacts, with_dump}
use Rattle.g_laws_store.proofs.DumpingLemmas.{moved_dumps}
use Rattle.g_dumper.specs.Invariant.{up_with}
use Rattle.g_dumper.proofs.SafeLemmas.{shelved_at}
use Rattle.g_process.specs.Exits.{IsBesideDump, IsClearedBy, IsReadBy, MayFill, cleared, new_dump}
use Rattle.g_process.specs.NamedCopies.{intended_by, moved_by}
use Rattle.g_process.specs.ProcessPlan.{IsFree, IsTaken}
use Rattle.g_process.specs.Processing.{Processes, process_refuses}
use Rattle.g_process.proofs.BelongLemmas.{disc_marked}
use Rattle.g_store.proofs.ProcessedLemmas.{was}
use Rattle.g_store.proofs.ProcessedRowsLemmas.{IsLabelled, used_in}
use Rattle.g_store.proofs.ProcessedStepLemmas as step
use Rattle.g_laws_power.specs.Events.{StoppedProcessSurvives, StopsLikeBy}
use Rattle.g_laws_power.proofs.LeftLemmas.{IsSeen, rows_like, same_seen, seen_left}
use Rattle.g_laws_power.proofs.ProcessLossLemmas.{LeftBy, LeftIntended, LeftMarked, LeftMoved, LeftOld, left_belongs, process_leaves, same_names}

-- THE REELS WITH A BLOCK on the one that is written
abbrev fill : ℕ → Reel → Reel
fill serial r = if r.serial == serial then record r { len = 1 } else r

abbrev filled : ℕ → Rack → Rack
filled serial old = record old { reels = map (fill serial) old.reels }

zip_map : (R : Reel → Reel → Type 0) (f : Reel → Reel) (xs : List Reel) → ((r : Reel) → Contains xs r → R r (f r)) → AllZip R xs (map f xs)
zip_map R f [] each = tt
zip_map R f (x ∷ xs) each = (each x (0, omega arith, refl), zip_map R f xs (λ r there. let (i, inside, at) = there in each r (suc i, omega (arith, inside), at)))

zip_same : (R : Reel → Reel → Type 0) → ((r : Reel) → R r r) → (xs : List Reel) → AllZip R xs xs
zip_same R each [] = tt
zip_same R each (x ∷ xs) = (each x, zip_same R each xs)

-- it is that reel, or unchanged
fill_cases : (serial : ℕ) (r : Reel) → ((r.serial ≡ serial) × (fill serial r ≡ record r { len = 1 })) ⊎ ((r.serial ≢ serial) × (fill serial r ≡ r))
fill_cases serial r = by (eqb_tells r.serial serial)
  where
    by : (((r.serial == serial) ≡ true) × (r.serial ≡ serial)) ⊎ (((r.serial == serial) ≡ false) × (r.serial ≡ serial → ⊥))
        → ((r.serial ≡ serial) × (fill serial r ≡ record r { len = 1 })) ⊎ ((r.serial ≢ serial) × (fill serial r ≡ r))
    by (inl h) = inl (h.1, cond-true (r.serial == serial) (let x : Reel = record r { len = 1 } in x) r h.0)
    by (inr h) = inr (h.1, cond-false (r.serial == serial) (let x : Reel = record r { len = 1 } in x) r h.0)

fill_label : (serial : ℕ) (r : Reel) → IsLabelled r (fill serial r)
fill_label serial r = by (fill_cases serial r)
  where
    by : ((r.serial ≡ serial) × (fill serial r ≡ record r { len = 1 })) ⊎ ((r.serial ≢ serial) × (fill serial r ≡ r)) → IsLabelled r (fill serial r)
    by (inl (named, is)) = subst (IsLabelled r) (sym is) (refl, refl, refl)
    by (inr (apart, is)) = subst (IsLabelled r) (sym is) (refl, refl, refl)

module _ (serial : ℕ) (o : OnlineFacts) (old : Rack) (reels : AreReels old.reels) (safe : IsSafe (up_with o old None)) (text : ℕ → List ℕ) (shelf : ℕ → List Dump) (shelved : AreShelved shelf (told_reels old))
    (up : IsUp text shelf (up_with o old None)) (granted : process_refuses serial (up_with o old None) ≡ None) (may : MayFill serial (up_with o old None)) (blocks : List (List ℕ)) (after : Rack)
    (names_same : map (λ (r : Reel). r.serial) (told_reels after) ≡ map (λ (r : Reel). r.serial) (told_reels old)) (seen : AllZip IsSeen old.reels after.reels) where
  abbrev s : state.State
  s = step.s serial o old reels safe.store safe.told safe.belongs text shelf shelved up granted

  abbrev k : state.Holding
  k = step.k serial o old reels safe.store safe.told safe.belongs text shelf shelved up granted

  same_labels : AllZip IsLabelled old.reels old.reels
  same_labels = zip_same IsLabelled (λ r. (refl, refl, refl)) old.reels

  fill_labels : AllZip IsLabelled old.reels (filled serial old).reels
  fill_labels = zip_map IsLabelled (fill serial) old.reels (λ r there. fill_label serial r)

  fill_seen : AllZip IsSeen (filled serial old).reels after.reels
  fill_seen = same_seen (map (fill serial) old.reels) old.reels after.reels (back old.reels) seen
    where
      back : (xs : List Reel) → AllZip (λ (x y : Reel). (y.serial ≡ x.serial) × (y.capacity ≡ x.capacity) × (y.mounted ≡ x.mounted)) (map (fill serial) xs) xs
      back [] = tt
      back (x ∷ xs) = let same = fill_label serial x in ((sym same.0, sym same.1, sym same.2), back xs)

  dumps_same : (sh : ℕ → List Dump) → all_dumps sh (told_reels old) ≡ all_dumps sh (told_reels after)
  dumps_same sh = moved_dumps (told_reels old) (told_reels after) names_same sh

  -- what the reels with a block are, by where PROCESS is
  fill_beside : AllZip (IsBesideDump serial) old.reels (filled serial old).reels
  fill_beside = zip_map (IsBesideDump serial) (fill serial) old.reels (λ r there. by r (fill_cases serial r))
    where
      by : (r : Reel) → ((r.serial ≡ serial) × (fill serial r ≡ record r { len = 1 })) ⊎ ((r.serial ≢ serial) × (fill serial r ≡ r)) → IsBesideDump serial r (fill serial r)
      by r (inl (named, is)) = inl (named, subst (λ (q : Reel). 0 < q.len) (sym is) (omega arith))
      by r (inr (apart, is)) = inr (apart, ap unread is)

  free_or_taken : (n : ℕ) → IsFree n old ⊎ IsTaken n old
  free_or_taken n = by (shelf n) refl
    where
      by : (ds : List Dump) → shelf n ≡ ds → IsFree n old ⊎ IsTaken n old
      by [] is = inl (record { none = λ bs at es all. completed_are_one n bs es [] all (subst (AreCompleted n bs) is (shelved_at n old shelf bs shelved at)) })
      by (d ∷ ds) is = inr (record {
        some = λ bs at es all none.
            let same : es ≡ d ∷ ds = completed_are_one n bs es (d ∷ ds) all (subst (AreCompleted n bs) is (shelved_at n old shelf bs shelved at)) in
            let no : ⊥ = cc in no;
      })

  fill_cleared : (m : ℕ) → AllZip (IsClearedBy serial m None old) old.reels (filled serial old).reels
  fill_cleared m = zip_map (IsClearedBy serial m None old) (fill serial) old.reels (λ r there. by r there (fill_cases serial r))
    where
      below : (r : Reel) → Contains old.reels r → r.serial ≢ serial → fill serial r ≡ r → r.serial < m → IsFree r.serial old ⊎ IsTaken r.serial old → IsClearedBy serial m None old r (fill serial r)
      below r there apart is less (inl free) = inr (apart, inr (less, inl (free, ap unread is)))
      below r there apart is less (inr taken) =
          inr (
            apart,
            inr (
              less,
              inr (
                taken,
                inl (subst (λ (q : Reel). 0 < q.len) (sym is)
                    (step.some_at serial o old reels safe.store safe.told safe.belongs text shelf shelved up granted r there taken).1),
              ),
            ),
          )

      by_order : (r : Reel) → Contains old.reels r → r.serial ≢ serial → fill serial r ≡ r → (r.serial ≡ m) ⊎ ((r.serial < m) ⊎ (m < r.serial)) → IsClearedBy serial m None old r (fill serial r)
      by_order r there apart is (inl same) = inr (apart, inl (omega (arith, same), ap unread is))
      by_order r there apart is (inr (inl less)) = below r there apart is less (free_or_taken r.serial)
      by_order r there apart is (inr (inr more)) = inr (apart, inl (omega (arith, more), ap unread is))

      by : (r : Reel) → Contains old.reels r → ((r.serial ≡ serial) × (fill serial r ≡ record r { len = 1 })) ⊎ ((r.serial ≢ serial) × (fill serial r ≡ r)) → IsClearedBy serial m None old r (fill serial r)
      by r there (inl (named, is)) = inl (named, subst (λ (q : Reel). 0 < q.len) (sym is) (omega arith))
      by r there (inr (apart, is)) = by_order r there apart is (cases_order r.serial m)

  -- a state of what is left
  stand : (v : View) (c : Contents) (rack : Rack) (end : state.State) → Holds blocks c → IsView (Some blocks) (told_reels after) c v → map (row_of v.shelf) (told_reels rack) ≡ end.reels
      → AllZip IsSeen rack.reels after.reels → state_down v (told_reels after) o.disc.size (Some c) ≡ record end { reels = map (row_of v.shelf) (told_reels after) } → StandLike o.disc.size blocks after end
  stand v c rack end holds view rows seen_rack same = record {
    state = state_down v (told_reels after) o.disc.size (Some c);
    stands = record {
      view = v;
      contents = Some c;
      is = (blocks, refl, holds, view);
      none = λ no. absurd (true≢false no);
      rack = view.rack;
      state_is = refl;
    };
    like = record { same = same; reels = subst (λ (rows : List state.ReelRow). AllZip IsRowLike rows (map (row_of v.shelf) (told_reels after))) rows (rows_like v.shelf rack.reels after.reels seen_rack) };
  }

  abbrev Stopping : state.State → ℕ → Type 0
  Stopping u size = StopsLikeBy (λ s k out a n. ProcessStep s k serial out a n) u size blocks after

  stopping : (end : state.State) → ProcessLeft s k serial end → StandLike o.disc.size blocks after end → Stopping s o.disc.size
  stopping end left stands = record {
    held = k;
    holds = refl;
    outcome = Cut;
    after = end;
    step = step.done_step serial o old reels safe.store safe.told safe.belongs text shelf shelved up granted may Cut (let r : Result ℕ StoreFault = Err Stopped in r) end (refl, left);
    stand = stands;
  }

  stops_as : LeftBy text shelf serial (up_with o old None) blocks after → Stopping s o.disc.size
  stops_as (LeftOld on_reels holds) =
      let v = step.v serial o old reels safe.store safe.told safe.belongs text shelf shelved up granted in
      let view = step.view_then serial o old reels safe.store safe.told safe.belongs text shelf shelved up granted o old same_labels refl (told_reels after) dumps_same (Some blocks) o.contents refl on_reels in
      stopping (down s) (NotYet true (inl refl)) (stand v o.contents old (down s) holds view refl seen refl)
  stops_as (LeftIntended on_reels holds) =
      let v = step.v serial o old reels safe.store safe.told safe.belongs text shelf shelved up granted in
      let end = down (step.begun serial o old reels safe.store safe.told safe.belongs text shelf shelved up granted o old same_labels refl) in
      let view = step.view_then serial o old reels safe.store safe.told safe.belongs text shelf shelved up granted o old same_labels refl (told_reels after) dumps_same (Some blocks) (intended_by serial o) refl on_reels in
      let rows = step.rows_begun serial o old reels safe.store safe.told safe.belongs text shelf shelved up granted o old same_labels refl (zip_same (IsReadBy serial) (λ r. inr refl) old.reels) in
      stopping end (NotYet (used_in (reel serial old.reels)) (inr refl)) (stand v (intended_by serial o) old end holds view rows seen refl)
  stops_as (LeftMarked content its on_reels holds) =
      let v = step.v_marked serial o old reels safe.store safe.told safe.belongs text shelf shelved up granted o old same_labels refl may content its in
      let d = step.d serial o old reels safe.store safe.told safe.belongs text shelf shelved up granted o old same_labels refl may content its in
      let end : state.State = down (record (marked_by s k serial d) { holding = Some (with_intent s serial k) }) in
      let disc = disc_marked serial o old (safe.store.live refl) safe.store.tied may.rules may.on may.reel_is may.free safe.told text shelf shelved up content its.long its.blocks its.lens its.parts old refl may.room may.mounted in
      let view = step.view_marked serial o old reels safe.store safe.told safe.belongs text shelf shelved up granted o old same_labels refl may content its (told_reels after) dumps_same (Some blocks) (intended_by serial o) on_reels disc.files in
      let rows = step.rows_now serial o old reels safe.store safe.told safe.belongs text shelf shelved up granted o (filled serial old) fill_labels refl may content its fill_beside in
      let processed = step.processed serial o old reels safe.store safe.told safe.belongs text shelf shelved up granted o old same_labels refl may content its in
      stopping end (Marked d processed refl) (stand v (intended_by serial o) (filled serial old) end holds view rows fill_seen refl)
  stops_as (LeftMoved content its m on_reels holds) =
      let v = step.v_c serial o old reels safe.store safe.told safe.belongs text shelf shelved up granted o old same_labels refl may content its m in
      let d = step.d serial o old reels safe.store safe.told safe.belongs text shelf shelved up granted o old same_labels refl may content its in
      let places = step.places serial o old reels safe.store safe.told safe.belongs text shelf shelved up granted o old same_labels refl may content its in
      let end : state.State = down (moved s k serial places d m) in
      let view = step.view_c serial o old reels safe.store safe.told safe.belongs text shelf shelved up granted o old same_labels refl may content its m (told_reels after) dumps_same (Some blocks) (moved_by serial o) refl on_reels in
      let rows = step.rows_gone serial o old reels safe.store safe.told safe.belongs text shelf shelved up granted o (filled serial old) fill_labels refl may content its m (fill_cleared m) in
      let processed = step.processed serial o old reels safe.store safe.told safe.belongs text shelf shelved up granted o old same_labels refl may content its in
      let are = step.moved_are serial o old reels safe.store safe.told safe.belongs text shelf shelved up granted o old same_labels refl may content its in
      let copies = step.copies_same serial o old reels safe.store safe.told safe.belongs text shelf shelved up granted o old same_labels refl may content its in
      let held = step.held_moved serial o old reels safe.store safe.told safe.belongs text shelf shelved up granted o old same_labels refl may content its [] in
      let dumped = step.dumped_c serial o old reels safe.store safe.told safe.belongs text shelf shelved up granted o old same_labels refl may content its m in
      stopping end (Moved places d processed are copies m None tt refl)
      (stand v (moved_by serial o) (filled serial old) end holds view rows fill_seen (λ i.
      let u : state.State = record {
        up = false;
        size = o.disc.size;
        holding = Some (held i);
        reels = map (row_of (cleared serial m (with_dump (new_dump serial o content) shelf))) (told_reels after);
        dumped = Some (dumped i);
        open_dump = None;
      } in u))

  stops_like : LeftBy text shelf serial (up_with o old None) blocks after → (u : state.State) → StandsForState (up_with o old None) u → Stopping u o.disc.size
  stops_like left u here =
      subst (λ (w : state.State). Stopping w o.disc.size) (sym (step.state_of serial o old reels safe.store safe.told safe.belongs text shelf shelved up granted u here)) (stops_as left)

-- THE SAME of any store
module _ (serial : ℕ) (new : StoreFacts) (blocks : List (List ℕ)) (after : Rack) (left : IsLeft new.online.disc new.rack blocks after) where
  abbrev Stopped_process : StoreFacts → Type 0
  Stopped_process x = let r : Result ℕ StoreFault = Err Stopped in Processes serial x r new

  abbrev Goal : StoreFacts → Type 0
  Goal x = AreReels x.rack.reels → IsSafe x → Stopped_process x → (u : state.State) → StandsForState x u → StopsLikeBy (λ s k out a n. ProcessStep s k serial out a n) u new.online.disc.size blocks after

  -- it isn't refused
  granted_by : (old : StoreFacts) → IsSafe old → Stopped_process old → (x : Option StoreFault) → process_refuses serial old ≡ x → process_refuses serial old ≡ None
  granted_by old safe it None is = is
  granted_by old safe it (Some fault) is =
      let same = (it.refused fault is).1 in
      absurd (true≢false (sym (it.spent.1 refl) ∙ ap (λ (x : StoreFacts). x.spent) same ∙ safe.up))

  of_up : (o : OnlineFacts) (old : Rack) → Goal (up_with o old None)
  of_up o old reels safe it u here =
      let (text, shelf, shelved, up) = safe.belongs.up refl in
      let (may, by) = process_leaves serial (up_with o old None) new safe it text shelf shelved up blocks after left in
      subst (λ (n : ℕ). StopsLikeBy (λ s k out a n. ProcessStep s k serial out a n) u n blocks after) (sym it.cause.size)
      (stops_like serial o old reels safe text shelf shelved up (granted_by (up_with o old None) safe it (process_refuses serial (up_with o old None)) refl) may blocks after
      (same_names serial (up_with o old None) new safe it text shelf shelved up blocks after left)
      (same_seen old.reels new.rack.reels after.reels it.cause.reels (seen_left new.rack new.rack.reels after.reels left.reels.reels)) by u here)

  whole : (old : StoreFacts) → IsSafe old → Stopped_process old → old ≡ up_with old.online old.rack None
  whole old safe it =
      was serial old old.online old.rack old.dump old.spent refl safe.up (granted_by old safe it (process_refuses serial old) refl)

  pub process_states : (old : StoreFacts) → Goal old
  process_states old reels safe it = subst Goal (sym (whole old safe it)) (of_up old.online old.rack) reels safe it

pub stopped_process_survives : StoppedProcessSurvives
stopped_process_survives serial old new blocks rack reels safe it left =
    let (text, shelf, shelved, up) = safe.belongs.up safe.up in
    (left_belongs serial old new safe it text shelf shelved up blocks rack left, process_states serial new blocks rack left old reels safe it)
