-- How a store answers PROCESS, in terms of states.
-- serves: MovedLemmas, ProcessCompleteLemmas, ProcessingLemmas
use Rattle.std.proofs.Common.{◌≡◌, ◌≢◌, ℕ, zero, suc, ◌+◌, ◌-◌, ◌^◌, ◌<◌, ◌≤◌, ◌==◌, Bool, true, false, List, [], ◌∷◌, ◌++◌, length, map, Option, Some, None, Result, Ok, Err, refl, sym, ◌∙◌, ap, arith, subst, inl, inr, true≢false}
use Rattle.std.specs.Prelude.{◌⊎◌, ◌&&◌, ◌||◌, All, AllPairs, Contains, IfSome, MatchOption, filter, if◌then◌else◌, is_none, is_some, nat_le, nat_lt, not, option_map}
use Rattle.std.specs.List.{AllZip, flat_map}
use Rattle.std.specs.Ordering.{nat_cmp}
use Rattle.std.specs.FinMap.{FinMap, entries, from_entries}
use Rattle.std.proofs.lemmas.Bool.{cases_Bool, cond-false, cond-true, eq-eqb, le-ltb, lt-ltb, ne_eqb, lt-leb}
use Rattle.std.proofs.lemmas.List.Elements.{All-contains, All-head, All-tail, All-weaker, Contains-push}
use Rattle.std.proofs.lemmas.List.Kept.{AllPairs-from_increasing}
use Rattle.std.proofs.lemmas.Option.{none-some}
use Rattle.g_base.specs.Block.{blocks_for}
use Rattle.g_base.specs.Counts.{Rose}
use Rattle.g_entry.specs.declared.file_rec.TapeCopy.{TapeCopy}
use Rattle.g_entry.specs.declared.user_rec.UserRec.{UserRec}
use Rattle.g_tape.specs.Rack.{AreReels, Rack, reel}
use Rattle.g_tape.specs.Reads.{blocks_in, unread, blocks_of}
use Rattle.g_tape.specs.Reel.{Reel}
use Rattle.g_tape.proofs.ReadLemmas.{is_reel, reel-unread}
use Rattle.g_tape.proofs.PlaceLemmas.{reel-found}
use Rattle.g_plain.specs.declared.faults.StoreFault.{StoreFault}
use Rattle.g_plain.specs.declared.faults.StoreFault.TheVariants.{CountersSpent, DiscReadFault, DumpOpen, NoCopy, NoMemory, NoTape, RackNotMounted, ReelNotFree, Stopped, TapeFull, TapeReadFault}
use Rattle.g_plain.specs.PlainStep.{first_fault}
use Rattle.g_tree.specs.Records.{IsRecords}
use Rattle.g_disc_contents.specs.Contents.{Contents, File, Holds, contents_of, has, recs_in, with_copies}
use Rattle.g_disc_contents.specs.Facts.{IsTied, OnlineFacts}
use Rattle.g_incr.specs.Layout.{Dump, ends, holds}
use Rattle.g_incr.specs.Plan.{needs, first_content}
use Rattle.g_shelf.specs.CompletedDumps.{AreCompleted, AreShelved, all_dumps}
use Rattle.g_shelf.specs.LastDump.{first_unmounted}
use Rattle.g_shelf.proofs.QuietLemmas.{within}
use Rattle.g_store_model.specs.State as state
use Rattle.g_store_model.specs.CallStep.{Cut, DiscRead, Outcome, Plain, TapeRead, down}
use Rattle.g_store_model.specs.DumpSteps as steps
use Rattle.g_store_model.specs.DumpSteps.{with_shelved, with_used}
use Rattle.g_store_model.specs.Process as step
use Rattle.g_store_model.specs.Process.{Marked, Moved, NotYet, ProcessLeft, ProcessStep, Processes as ProcessesBy, marked_by, moved, process_dump, process_needs, process_refuses_late, released_before, with_cut, with_intent}
use Rattle.g_store_model.specs.Rising.{fault_from, has_none}
use Rattle.g_store_meaning.specs.Answers.{Belongs, IsStore, Raised, Told}
use Rattle.g_store_meaning.specs.Belonging.{KeepsFile, RackBelongs}
use Rattle.g_store_meaning.specs.Meaning.{DumpedDirectory, IsContent, told_reels}
use Rattle.g_store_meaning.specs.Reading.{AllTold, HasText, IsView, StandsForState, View, dumped_of, holding_of, names_of, open_of, places_of, row_of, shelved_of, state_up, tree_by, users_not_in}
use Rattle.g_store_meaning.specs.StoreInvariant.{DumpFacts, IsUp, StoreFacts, with_dump}
use Rattle.g_store_meaning.proofs.OneLemmas.{on_reel, dumped_parts}
use Rattle.g_laws_store.proofs.StateLemmas.{is_view, view_by}
use Rattle.g_laws_store.proofs.UpOneLemmas.{on_all, store_is_one}
use Rattle.g_laws_store.specs.Rooms.{HasLength, held_in}
use Rattle.g_laws_store.proofs.WaitingLemmas.{from_mapped, mapped_there}
use Rattle.g_store_calls.proofs.SeenLemmas.{Seen, stands}
use Rattle.g_dumper.specs.Invariant.{spent_with, up_with}
use Rattle.g_dumper.proofs.BeginLemmas.{reel_named}
use Rattle.g_dumper.proofs.IntentLemmas.{rules_here}
use Rattle.g_dumper.proofs.ShelfLemmas.{reel_there, told_is}
use Rattle.g_incr.proofs.PlanLemmas.{length-made}
use Rattle.std.specs.List.Sorted.{IsStrictlyIncreasing}
use Rattle.g_process.proofs.TextLemmas.{among}
use Rattle.g_process.specs.Exits.{HasCompleted, HasReleased, IsContentOf, IsReadBy, LacksMark, MayFill, Stops, StopsBefore, StopsCopies, StopsIntent, StopsMark, StopsRelease, StopsUnmarked, Untouched, cleared, new_dump, IsBesideDump, IsClearedBy, IsLastCut}
use Rattle.g_process.specs.NamedCopies.{intended_by, moved_by, process_copies}
use Rattle.g_process.specs.ProcessPlan.{IsFirstLost, IsFree, IsTaken, process_plan}
use Rattle.g_process.specs.Processing.{Processes, behind_process, open_number, process_refuses}
use Rattle.g_process.proofs.BecomeLemmas.{apart_of}
use Rattle.g_process.proofs.BelongLemmas.{disc_marked, none_on, up_moved, up_released, without_all}
use Rattle.g_process.proofs.ExitLemmas.{found_itself, gone_all, stays_all}
use Rattle.g_process.proofs.ReleaseLemmas.{AreApart}
use Rattle.g_store.specs.Events.{LeadsBy, StepsBy}
use Rattle.g_store.proofs.EventLemmas.{leads_at, leads_same}
use Rattle.g_store.proofs.MountLemmas.{lacks_by, row_found}
use Rattle.g_store.proofs.NotedLemmas.{kept_all}
use Rattle.g_store.proofs.OpenedLemmas.{spent_holding}
use Rattle.g_store.proofs.ProcessedLemmas.{IsEarly}
use Rattle.g_store.proofs.ProcessedRowsLemmas.{IsLabelled, rows_cleared, rows_cut, rows_marked, rows_read, used_in, below_this}
use Rattle.g_store.proofs.ProcessedTreeLemmas.{are_moved, dumped_tree, gathered_made, held_all, is_processed, is_ready, last_made, made_there, process_counts, same_copies}
use Rattle.g_store.proofs.RestoreLemmas.{first_down}
use Rattle.g_store.proofs.SteppedLemmas.{tree_copied}

abbrev pub IsProcess : ℕ → state.State → state.Holding → Outcome → Result ℕ StoreFault → state.State → Type 0
IsProcess serial s k o answer new = ProcessStep s k serial o answer new

abbrev serials : List Reel → List ℕ
serials reels = map (λ (r : Reel). r.serial) reels

-- all dumps of reels depend only on the serials
all_by_name : (shelf : ℕ → List Dump) (rs : List Reel) → all_dumps shelf rs ≡ flat_map shelf (serials rs)
all_by_name shelf [] = refl
all_by_name shelf (r ∷ rs) = ap (λ (ds : List Dump). shelf r.serial ++ ds) (all_by_name shelf rs)

pub unread_names : (rs : List Reel) → serials (map unread rs) ≡ serials rs
unread_names [] = refl
unread_names (r ∷ rs) = ap (λ (ns : List ℕ). r.serial ∷ ns) (unread_names rs)

pub zip_names : (xs ys : List Reel) → AllZip IsLabelled xs ys → serials ys ≡ serials xs
zip_names [] [] zip = refl
zip_names [] (y ∷ ys) zip = absurd zip
zip_names (x ∷ xs) [] zip = absurd zip
zip_names (x ∷ xs) (y ∷ ys) (one, zip) = ap (λ (n : ℕ). n ∷ serials ys) one.0 ∙ ap (λ (ns : List ℕ). x.serial ∷ ns) (zip_names xs ys zip)

pub all_same : (a b : ℕ → List Dump) (rs : List Reel) → ((r : Reel) → Contains rs r → a r.serial ≡ b r.serial) → all_dumps a rs ≡ all_dumps b rs
all_same a b [] same = refl
all_same a b (r ∷ rs) same =
    ap (λ (ds : List Dump). ds ++ all_dumps a rs) (same r (0, omega arith, refl))
    ∙ ap (λ (ds : List Dump). b r.serial ++ ds) (all_same a b rs (λ q there. same q (later q there)))
  where
    later : (q : Reel) → Contains rs q → Contains (r ∷ rs) q
    later q (i, within, is) = (suc i, omega (arith, within), is)

-- numbers that pass a test
passes : (test : ℕ → Bool) (ns : List ℕ) (n : ℕ) → Contains ns n → test n ≡ true → has (filter test ns) n ≡ true
passes test [] n (i, within, is) yes_is = absurd (let no : ⊥ = omega (arith, within) in no)
passes test (m ∷ ms) n (zero, within, is) yes_is =
    ap (λ (xs : List ℕ). has xs n) (cond-true (test m) (m ∷ filter test ms) (filter test ms) (ap test is ∙ yes_is))
    ∙ ap (λ (b : Bool). b || has (filter test ms) n) (eq-eqb m n is)
passes test (m ∷ ms) n (suc i, within, is) yes_is = by_test (cases_Bool (test m)) (passes test ms n (i, omega (arith, within), is) yes_is)
  where
    or_right : (a b : Bool) → b ≡ true → (a || b) ≡ true
    or_right true b is = refl
    or_right false b is = is

    by_test : (test m ≡ true) ⊎ (test m ≡ false) → has (filter test ms) n ≡ true → has (filter test (m ∷ ms)) n ≡ true
    by_test (inl one) rest =
        ap (λ (xs : List ℕ). has xs n) (cond-true (test m) (m ∷ filter test ms) (filter test ms) one) ∙ or_right (m == n) (has (filter test ms) n) rest
    by_test (inr none) rest = ap (λ (xs : List ℕ). has xs n) (cond-false (test m) (m ∷ filter test ms) (filter test ms) none) ∙ rest

fails : (test : ℕ → Bool) (ns : List ℕ) (n : ℕ) → test n ≡ false → has (filter test ns) n ≡ false
fails test [] n isnt = refl
fails test (m ∷ ms) n isnt = by_test (cases_Bool (test m)) (fails test ms n isnt)
  where
    by_test : (test m ≡ true) ⊎ (test m ≡ false) → has (filter test ms) n ≡ false → has (filter test (m ∷ ms)) n ≡ false
    by_test (inl one) rest =
        ap (λ (xs : List ℕ). has xs n) (cond-true (test m) (m ∷ filter test ms) (filter test ms) one)
        ∙ ap (λ (b : Bool). b || has (filter test ms) n) (ne_eqb m n (λ e. true≢false (sym one ∙ ap test e ∙ isnt))) ∙ rest
    by_test (inr none) rest = ap (λ (xs : List ℕ). has xs n) (cond-false (test m) (m ∷ filter test ms) (filter test ms) none) ∙ rest

-- EARLY REFUSALS, of a store that is up
module _ (serial : ℕ) (t : StoreFacts) (unspent : t.spent ≡ false) where
  refuses_same : (v : View) → step.process_refuses (state_up v (told_reels t.rack) t.online t.dump) (held_in v t.online) serial ≡ process_refuses serial t
  refuses_same v = λ i.
      first_fault (
      (lacks_by v.shelf serial t.rack.reels i, NoTape)
      ∷ fault_from RackNotMounted (first_down v.shelf t.rack.reels i)
      ∷ (open_is t.dump v i, DumpOpen (number_is t.dump v i))
      ∷ (t.online.contents.head.last_dump == 2 ^ 62 - 1, CountersSpent)
      ∷ [])
    where
      open_is : (dump : Option DumpFacts) (v : View) → is_some (option_map (open_of v t.online) dump) ≡ is_some dump
      open_is None v = refl
      open_is (Some d) v = refl

      number_is : (dump : Option DumpFacts) (v : View) → steps.open_number (option_map (open_of v t.online) dump) ≡ open_number dump
      number_is None v = refl
      number_is (Some d) v = refl

  abbrev Steps : StoreFault → Type 0
  Steps fault = (u : state.State) → StandsForState t u → (let r : Result ℕ StoreFault = Err fault in StepsBy (IsProcess serial) u t r t)

  pub early_steps : (fault : StoreFault) → IsEarly fault → process_refuses serial t ≡ Some fault → Steps fault
  early_steps fault early is u here = by_fault fault early (leads_same (IsProcess serial) (λ (n : ℕ). 1) t unspent fault u here (λ v.
      subst (λ (x : Option StoreFault). let r : Result ℕ StoreFault = Err fault in MatchOption x (late v) (λ f. (r ≡ Err f) × (of v ≡ of v))) (sym (refuses_same v ∙ is)) (refl, refl)))
    where
      of : View → state.State
      of v = state_up v (told_reels t.rack) t.online t.dump

      late : View → Type 0
      late v = let r : Result ℕ StoreFault = Err fault in MatchOption (process_refuses_late (state_up v (told_reels t.rack) t.online t.dump) (held_in v t.online) serial)
          (ProcessesBy (state_up v (told_reels t.rack) t.online t.dump) (held_in v t.online) serial Plain r (state_up v (told_reels t.rack) t.online t.dump))
          (λ f. ((r ≡ Err f) ⊎ ((let o : Outcome = Plain in o ≡ TapeRead) × (r ≡ Err TapeReadFault))) × (state_up v (told_reels t.rack) t.online t.dump ≡ state_up v (told_reels t.rack) t.online t.dump))

      by_fault : (f : StoreFault) → IsEarly f → (let r : Result ℕ StoreFault = Err f in LeadsBy (IsProcess serial) u t t r) → (let r : Result ℕ StoreFault = Err f in StepsBy (IsProcess serial) u t r t)
      by_fault NoTape e leads = leads
      by_fault (RackNotMounted n) e leads = leads
      by_fault (DumpOpen n) e leads = leads
      by_fault CountersSpent e leads = leads
      by_fault NoMemory e leads = absurd e
      by_fault other e leads = leads

-- the block after a reel's dumps
end_some : (d : Dump) (ds : List Dump) → 0 < state.end_of_dumps (map shelved_of (d ∷ ds))
end_some d [] = omega arith
end_some d (e ∷ es) = end_some e es

first_above : (until : ℕ) (shelf : ℕ → List Dump) (rs : List Reel) → All (λ (r : Reel). r.serial < until) rs → state.first_reel (λ r. nat_le until r.serial) (map (row_of shelf) (map unread rs)) ≡ None
first_above until shelf [] all = refl
first_above until shelf (r ∷ rs) all =
    cond-false (nat_le until r.serial) (Some r.serial) (state.first_reel (λ x. nat_le until x.serial) (map (row_of shelf) (map unread rs)))
    (lt-leb until r.serial (All-head (λ (x : Reel). x.serial < until) r rs all))
    ∙ first_above until shelf rs (All-tail (λ (x : Reel). x.serial < until) r rs all)

has_reel : (x : Option Reel) (second : Bool × StoreFault) (third : Bool) (n : ℕ) (last : Bool) → first_fault ((is_none x, NoTape) ∷ second ∷ (third, DumpOpen n) ∷ (last, CountersSpent) ∷ []) ≡ None
    → (r : Reel) × (x ≡ Some r)
has_reel None second third n last is = absurd (none-some NoTape (sym is))
has_reel (Some r) second third n last is = (r, refl)

all_kept : (us : List UserRec) → users_not_in [] us ≡ us
all_kept [] = refl
all_kept (u ∷ us) = ap (λ (vs : List UserRec). u ∷ vs) (all_kept us)

none_released : (serial : ℕ) (rs : List state.ReelRow) → map (released_before serial 0) rs ≡ rs
none_released serial [] = refl
none_released serial (r ∷ rs) =
    ap (λ (x : state.ReelRow). x ∷ map (released_before serial 0) rs) (one (nat_lt r.serial 0) (le-ltb r.serial 0 (omega arith)))
    ∙ ap (λ (xs : List state.ReelRow). r ∷ xs) (none_released serial rs)
  where
    one : (b : Bool) → b ≡ false → (if b && not (r.serial == serial) && not (has_none r) then record r { dumps = [] } else r) ≡ r
    one false is = refl
    one true is = absurd (let no : ⊥ = cc in no)

rose_of : (old new : StoreFacts) → (Rose old.online.disc.write_faults new.online.disc.write_faults × (new.rack.write_faults ≡ old.rack.write_faults))
    ⊎ (Rose old.rack.write_faults new.rack.write_faults × (new.online.disc.write_faults ≡ old.online.disc.write_faults)) → Raised Cut old new
rose_of old new (inl both) = inl both.0
rose_of old new (inr both) = inr both.0

-- what is dumped depends on the newest dump and on what is gathered
dumped_one : (text : ℕ → List ℕ) (xs ys : List Dump) (t : DumpedDirectory xs) (u : DumpedDirectory ys) → t.last ≡ u.last → t.gathered ≡ u.gathered → dumped_of text t ≡ dumped_of text u
unfolding dumped_parts
dumped_one text xs ys t u last gathered = λ i. dumped_parts text (last i) (gathered i)

-- the reels before PROCESS, which expose their contents
module _ (o : OnlineFacts) (old : Rack) (reels : AreReels old.reels) (told : AllTold o.disc.held (told_reels old)) (shelf : ℕ → List Dump) (shelved_as : AreShelved shelf (told_reels old)) where
  record TellsAt (r : Reel) : Type 0 where
    blocks : List (List ℕ)
    tells : r.blocks ≡ Some blocks
    at : blocks_of r.serial old ≡ Some blocks
    completed : AreCompleted r.serial blocks (shelf r.serial)
    found : reel r.serial old.reels ≡ Some r

  tells_at : (r : Reel) → Contains old.reels r → TellsAt r
  tells_at r there =
      let found : reel r.serial old.reels ≡ Some r = found_itself old.reels r (apart_of old.reels reels.rising) there in
      let in_told = reel_there r.serial old.reels r found in
      let (blocks, tells) = told_is r.blocks (All-contains (λ (q : Reel). is_some q.blocks ≡ true) (told_reels old) (unread r) told.each.each in_told) in
      record { blocks = blocks; tells = tells; at = ap blocks_in found ∙ tells; completed = shelved_as.each (unread r) in_told blocks tells; found = found }

  pub free_none : (r : Reel) → Contains old.reels r → IsFree r.serial old → shelf r.serial ≡ []
  free_none r there free = let it = tells_at r there in free.none it.blocks it.at (shelf r.serial) it.completed

  pub taken_some : (r : Reel) → Contains old.reels r → IsTaken r.serial old → (shelf r.serial ≡ [] → ⊥) × (0 < r.len)
  taken_some r there taken =
      let it = tells_at r there in
      let some = taken.some it.blocks it.at (shelf r.serial) it.completed in
      (some, by_dumps (shelf r.serial) it.blocks it.completed some ((is_reel r.serial old.reels r reels.each it.found).told it.blocks it.tells))
    where
      by_dumps : (ds : List Dump) (blocks : List (List ℕ)) → AreCompleted r.serial blocks ds → (ds ≡ [] → ⊥) → length blocks ≡ r.len → 0 < r.len
      by_dumps [] blocks completed some long = absurd (some refl)
      by_dumps (d ∷ ds) blocks completed some long = let low = within blocks d completed.are.0.stands in omega (arith, low, long)

  -- if each file belongs to them none is lost
  pub none_lost : (text : ℕ → List ℕ) → All (λ (g : File). KeepsFile (text g.rec.stamp) (all_dumps shelf (told_reels old)) g) o.contents.files → (f : File) (copy : TapeCopy) → IsFirstLost o old f copy → ⊥
  none_lost text files f copy lost =
      let kept = All-contains (λ (g : File). KeepsFile (text g.rec.stamp) (all_dumps shelf (told_reels old)) g) o.contents.files f files lost.there in
      let content : IsContent (all_dumps shelf (told_reels old)) copy (text f.rec.stamp) = subst (λ (x : Option TapeCopy). IfSome x (λ y. IsContent (all_dumps shelf (told_reels old)) y (text f.rec.stamp))) lost.tape kept.rec.copy in
      let on = on_reel shelf (told_reels old) content.dump content.there in
      let (r, in_old, is_r) = from_mapped unread old.reels on.reel on.there in
      let it = tells_at r in_old in
      let on_r : Contains (shelf r.serial) content.dump = subst (λ (q : Reel). Contains (shelf q.serial) content.dump) (sym is_r) on.on in
      let here = among r.serial it.blocks 0 0 (shelf r.serial) it.completed.are content.dump on_r in
      let named : r.serial ≡ copy.serial = sym here.on ∙ content.reel in
      let len = kept.rec.len in
      let from = content.from in
      let to = content.to in
      let size : blocks_for (length (text f.rec.stamp)) ≡ blocks_for f.rec.len = ap blocks_for len in
      lost.lost it.blocks (ap (λ (n : ℕ). blocks_of n old) (sym named) ∙ it.at) (shelf r.serial) (subst (λ (n : ℕ). AreCompleted n it.blocks (shelf r.serial)) named it.completed)
      (λ n less. record { dump = content.dump; there = on_r; on = content.reel; from = omega (arith, from); to = omega (arith, less, to, size) })

-- the reel is there, if nothing refuses the event without a read
pub there_is : (serial : ℕ) (t : StoreFacts) → process_refuses serial t ≡ None → (r : Reel) × (reel serial t.rack.reels ≡ Some r)
there_is serial t granted =
    has_reel (reel serial t.rack.reels) (fault_from RackNotMounted (first_unmounted t.rack.reels)) (is_some t.dump) (open_number t.dump) (t.online.contents.head.last_dump == 2 ^ 62 - 1) granted

-- the store, up, on devices that expose their contents and belong together, if no refusal that needs no read applies
module _ (serial : ℕ) (o : OnlineFacts) (old : Rack) (reels : AreReels old.reels) (keeps : IsStore (up_with o old None)) (told : Told (up_with o old None)) (was : Belongs (up_with o old None))
    (text : ℕ → List ℕ) (shelf : ℕ → List Dump) (shelved_as : AreShelved shelf (told_reels old)) (up : IsUp text shelf (up_with o old None)) (granted : process_refuses serial (up_with o old None) ≡ None) where
  abbrev before : StoreFacts
  before = up_with o old None

  abbrev c : Contents
  c = o.contents

  abbrev rs : List Reel
  rs = told_reels old

  abbrev pub v : View
  v = view_by text shelf rs up.rack None

  abbrev pub s : state.State
  s = state_up v rs o None

  abbrev pub k : state.Holding
  k = held_in v o

  pub live : o.live ≡ true
  live = keeps.live refl

  view_is : IsView o.disc.held rs c v
  view_is = is_view o.disc.held rs text shelf shelved_as up.rack None c up.disc

  own : Seen before s
  own = record { view = v; is = view_is; opens = record { is = λ all qs some. tt }; state_is = refl }

  pub state_of : (u : state.State) → StandsForState before u → u ≡ s
  state_of u here = store_is_one before u s told was keeps here (stands before s refl own)

  recs : IsRecords c.users (recs_in c)
  recs = (rules_here o live keeps.tied).records

  long_files : All (HasLength text) c.files
  long_files = All-weaker (λ (f : File). KeepsFile (text f.rec.stamp) (all_dumps shelf rs) f) (HasLength text) (λ f it. it.rec.len) c.files up.disc.files

  counts : needs (process_plan serial o) ≡ process_needs k
  counts = process_counts serial o text (users_not_in o.changed c.users) recs long_files

  refuses_none : step.process_refuses s k serial ≡ None
  refuses_none = refuses_same serial before refl v ∙ granted

  -- REELS with and without completed dumps
  none_at : (r : Reel) → Contains old.reels r → IsFree r.serial old → shelf r.serial ≡ []
  none_at r there free = free_none o old reels told shelf shelved_as r there free

  pub some_at : (r : Reel) → Contains old.reels r → IsTaken r.serial old → (shelf r.serial ≡ [] → ⊥) × (0 < r.len)
  some_at r there taken = taken_some o old reels told shelf shelved_as r there taken

  row_at : (n : ℕ) (r : Reel) → reel n old.reels ≡ Some r → state.reel_at n s.reels ≡ Some (row_of shelf (unread r))
  row_at n r found = row_found shelf n rs ∙ ap (option_map (row_of shelf)) (reel-unread n old.reels ∙ ap (option_map unread) found)

  end_at : (n : ℕ) (r : Reel) → reel n old.reels ≡ Some r → (ds : List Dump) → shelf r.serial ≡ ds → state.end_of s n ≡ state.end_of_dumps (map shelved_of ds)
  end_at n r found ds is = ap state.end_in (row_at n r found) ∙ ap (λ (es : List Dump). state.end_of_dumps (map shelved_of es)) is

  end_taken : (n : ℕ) (r : Reel) → reel n old.reels ≡ Some r → (shelf r.serial ≡ [] → ⊥) → 0 < state.end_of s n
  end_taken n r found some = by_dumps (shelf r.serial) refl
    where
      by_dumps : (ds : List Dump) → shelf r.serial ≡ ds → 0 < state.end_of s n
      by_dumps [] is = absurd (some is)
      by_dumps (d ∷ ds) is = let long = end_some d ds in (let same = end_at n r found (d ∷ ds) is in omega (arith, long, same))

  -- refusals after the catalogue was read
  late_tests : (a b : Bool) (need room : ℕ) → nat_lt 0 (state.end_of s serial) ≡ a → nat_lt (state.capacity_in (state.reel_at serial s.reels)) (process_needs k) ≡ b
      → process_needs k ≡ need → state.capacity_in (state.reel_at serial s.reels) ≡ room → process_refuses_late s k serial ≡ first_fault ((a, ReelNotFree serial) ∷ (b, TapeFull need room) ∷ [])
  late_tests a b need room is_a is_b is_need is_room = λ i. first_fault ((is_a i, ReelNotFree serial) ∷ (is_b i, TapeFull (is_need i) (is_room i)) ∷ [])

  late_none : MayFill serial before → process_refuses_late s k serial ≡ None
  late_none may =
      let empty : shelf may.on.serial ≡ [] =
      ap shelf (reel_named serial old.reels may.on may.reel_is) ∙ none_on serial o old live keeps.tied may.rules may.on may.reel_is may.free told text shelf shelved_as up in
      let room = may.room in
      let same = counts in
      late_tests false false (process_needs k) (state.capacity_in (state.reel_at serial s.reels))
      (ap (nat_lt 0) (end_at serial may.on may.reel_is [] empty))
      (ap (λ (x : Option state.ReelRow). nat_lt (state.capacity_in x) (process_needs k)) (row_at serial may.on may.reel_is) ∙ le-ltb may.on.capacity (process_needs k) (omega (arith, room, same))) refl refl

  -- A STEP from it
  abbrev Late : Outcome → Result ℕ StoreFault → state.State → Option StoreFault → Type 0
  Late out answer end x = MatchOption x (ProcessesBy s k serial out answer end) (λ fault. ((answer ≡ Err fault) ⊎ ((out ≡ TapeRead) × (answer ≡ Err TapeReadFault))) × (end ≡ s))

  late_step : (out : Outcome) (answer : Result ℕ StoreFault) (end : state.State) → Late out answer end (process_refuses_late s k serial) → ProcessStep s k serial out answer end
  late_step out answer end is =
      subst (λ (x : Option StoreFault). MatchOption x (Late out answer end (process_refuses_late s k serial)) (λ fault. (answer ≡ Err fault) × (end ≡ s))) (sym refuses_none) is

  pub done_step : MayFill serial before → (out : Outcome) (answer : Result ℕ StoreFault) (end : state.State) → ProcessesBy s k serial out answer end → ProcessStep s k serial out answer end
  done_step may out answer end is = late_step out answer end (subst (Late out answer end) (sym (late_none may)) is)

  leads : (answer : Result ℕ StoreFault) (after : StoreFacts) (end : state.State) (out : Outcome) → StandsForState after end → Raised out before after → ProcessStep s k serial out answer end
      → (u : state.State) → StandsForState before u → LeadsBy (IsProcess serial) u before after answer
  leads answer after end out left raised by_step u here = leads_at (IsProcess serial) before after answer s u k refl (state_of u here) end out left raised by_step

  -- NOTHING WAS WRITTEN
  same_stands : (o' : OnlineFacts) (new : Rack) → o' ≡ o → map unread new.reels ≡ map unread old.reels → StandsForState (up_with o' new None) s
  same_stands o' new is same =
      subst (λ (x : OnlineFacts). StandsForState (up_with x new None) s) (sym is)
      (stands (up_with o new None) s refl (record {
        view = v;
        is = subst (λ (qs : List Reel). IsView o.disc.held qs c v) (sym same) view_is;
        opens = record { is = λ all qs some. tt };
        state_is = λ i. state_up v (sym same i) o None;
      }))

  -- a store afterwards, on the same reels
  module _ (o' : OnlineFacts) (new : Rack) (labels : AllZip IsLabelled old.reels new.reels) (size : o'.disc.size ≡ o.disc.size) where
    names_new : serials (told_reels new) ≡ serials rs
    names_new = unread_names new.reels ∙ zip_names old.reels new.reels labels ∙ sym (unread_names old.reels)

    dumps_new : (sh : ℕ → List Dump) → all_dumps sh rs ≡ all_dumps sh (told_reels new)
    dumps_new sh = all_by_name sh rs ∙ ap (λ (ns : List ℕ). flat_map sh ns) (sym names_new) ∙ sym (all_by_name sh (told_reels new))

    apart_new : AreApart new.reels
    apart_new = apart_of new.reels (subst IsStrictlyIncreasing (sym (zip_names old.reels new.reels labels)) reels.rising)

    rising : AllPairs (λ (m n : ℕ). m < n) (serials old.reels)
    rising = AllPairs-from_increasing (serials old.reels) reels.rising

    -- no dump was completed
    pub view_then : (qs : List Reel) → ((sh : ℕ → List Dump) → all_dumps sh rs ≡ all_dumps sh qs) → (held : Option (List (List ℕ))) (x : Contents) → x.files ≡ c.files → AreShelved shelf qs → IsView held qs x v
    view_then qs same_dumps held x files shelved_new = record {
      rack = record {
        shelved = shelved_new;
        all = same_dumps shelf;
        dumped = λ _. view_is.rack.dumped told;
        none = λ _. view_is.rack.none told;
      };
      files = subst (All (λ (f : File). HasText (AllTold held qs) (text f.rec.stamp) (all_dumps shelf rs) f)) (sym files)
          (All-weaker (λ (f : File). HasText (AllTold o.disc.held rs) (text f.rec.stamp) (all_dumps shelf rs) f) (λ (f : File). HasText (AllTold held qs) (text f.rec.stamp) (all_dumps shelf rs) f)
          (λ f it. record { len = it.len; bytes = it.bytes; tape = λ _. it.tape told }) c.files view_is.files);
    }

    abbrev pub begun : state.State
    begun = record s { reels = state.with_reel serial (with_used (used_in (reel serial new.reels))) s.reels; holding = Some (with_intent s serial k) }

    pub rows_begun : AllZip (IsReadBy serial) old.reels new.reels → map (row_of shelf) (told_reels new) ≡ state.with_reel serial (with_used (used_in (reel serial new.reels))) s.reels
    rows_begun zip = rows_read serial old new rising apart_new labels shelf zip

    -- A READ FAILED
    read_stands : o'.contents ≡ intended_by serial o → o'.changed ≡ o.changed → AllZip (IsReadBy serial) old.reels new.reels → AreShelved shelf (told_reels new) → StandsForState (up_with o' new None) begun
    read_stands contents changed zip shelved_new =
        let held : holding_of text (users_not_in o'.changed o'.contents.users) o'.contents ≡ with_intent s serial k = λ j. holding_of text (users_not_in (changed j) (contents j).users) (contents j) in
        stands (up_with o' new None) begun refl (record {
          view = v;
          is = view_then (told_reels new) dumps_new o'.disc.held o'.contents (ap (λ (x : Contents). x.files) contents) shelved_new;
          opens = record { is = λ all qs some. tt };
          state_is = λ i.
              let u : state.State = record {
                up = true;
                size = sym size i;
                holding = Some (sym held i);
                reels = sym (rows_begun zip) i;
                dumped = s.dumped;
                open_dump = None;
              } in u;
        })

    -- STOPPED: the disc holds what it held
    cut_stands : (blocks : List (List ℕ)) → o'.disc.held ≡ Some blocks → Holds blocks c → map unread new.reels ≡ map unread old.reels → StandsForState (spent_with o' new) (down s)
    cut_stands blocks held holds same =
        let seen_then = view_then (told_reels new) dumps_new o'.disc.held c refl (subst (AreShelved shelf) (sym same) shelved_as) in
        spent_holding o' new (down s) v c blocks held holds seen_then refl refl
        (sym size) refl (ap (map (row_of shelf)) (sym same)) refl

    -- or that with the intent
    intent_stands : (blocks : List (List ℕ)) → o'.disc.held ≡ Some blocks → Holds blocks (intended_by serial o) → AllZip (IsReadBy serial) old.reels new.reels → AreShelved shelf (told_reels new)
        → StandsForState (spent_with o' new) (down begun)
    intent_stands blocks held holds zip shelved_new =
        let seen_then = view_then (told_reels new) dumps_new o'.disc.held (intended_by serial o) refl shelved_new in
        spent_holding o' new (down begun) v (intended_by serial o) blocks held holds seen_then refl refl
        (sym size) refl (sym (rows_begun zip)) refl

    -- WITH THE NEW DUMP
    module _ (may : MayFill serial before) (content : List (List ℕ)) (its : IsContentOf text serial o content) where
      abbrev made : Dump
      made = new_dump serial o content

      abbrev with_made : ℕ → List Dump
      with_made = with_dump (new_dump serial o content) shelf

      ready_rack : RackBelongs text (all_dumps with_made rs)
      ready_rack = (is_ready serial o old live keeps.tied may.rules may.on may.reel_is may.free told text shelf shelved_as up content its).rack

      made_in : Contains (all_dumps with_made rs) made
      made_in = made_there serial o old live keeps.tied may.rules may.on may.reel_is may.free told text shelf shelved_as up content its

      abbrev pub tree : DumpedDirectory (all_dumps (with_dump (new_dump serial o content) shelf) (told_reels old))
      tree = dumped_tree serial o old live keeps.tied may.rules may.on may.reel_is may.free told text shelf shelved_as up content its

      abbrev pub d : state.Dumped
      d = dumped_of text tree

      abbrev kept_users : List UserRec
      kept_users = users_not_in o.changed c.users

      pub processed : step.IsProcessed serial k d
      processed = is_processed serial o old live keeps.tied may.rules may.on may.reel_is may.free told text shelf shelved_as up content its kept_users

      abbrev pub places : FinMap nat_cmp state.Place
      places = places_of (with_copies (process_copies serial o) c.files)

      pub moved_are : step.AreMoved serial k places
      moved_are = are_moved serial o old live keeps.tied may.rules may.on may.reel_is may.free told text shelf shelved_as up content its kept_users

      pub copies_same : step.HasCopiesOf d places
      copies_same = same_copies serial o old live keeps.tied may.rules may.on may.reel_is may.free told text shelf shelved_as up content its kept_users

      -- its place on the reel
      shelved_by : ℕ → state.Shelved
      shelved_by n = record { place = 0; ends = n; number = c.head.last_dump + 1 }

      shelved_is : shelved_of made ≡ process_dump k
      unfolding shelved_by
      shelved_is =
          let long = its.long in
          let files = length-made serial 0 (first_content (process_plan serial o)) (process_plan serial o).files in
          let all = counts in
          let ends_is : ends made ≡ process_needs k = omega (arith, long, files, all) in
          ap shelved_by ends_is

      pub rows_now : AllZip (IsBesideDump serial) old.reels new.reels → map (row_of with_made) (told_reels new) ≡ state.with_reel serial (λ r. with_used true (with_shelved (process_dump k) r)) s.reels
      rows_now zip = rows_marked serial old new rising apart_new labels shelf made refl (process_dump k) shelved_is zip

      abbrev pub v_marked : View
      v_marked = record { text = text; shelf = with_made; dumps = all_dumps with_made rs; dumped = Some tree; opened = None }

      pub view_marked : (qs : List Reel) → ((sh : ℕ → List Dump) → all_dumps sh rs ≡ all_dumps sh qs) → (held : Option (List (List ℕ))) (x : Contents) → AreShelved with_made qs
          → All (λ (f : File). KeepsFile (text f.rec.stamp) (all_dumps with_made rs) f) x.files → IsView held qs x v_marked
      view_marked qs same_dumps held x shelved_new files = record {
        rack = record {
          shelved = shelved_new;
          all = same_dumps with_made;
          dumped = λ _. ready_rack.records tree;
          none = λ _ no. absurd (none-some tree (sym no));
        };
        files = All-weaker (λ (f : File). KeepsFile (text f.rec.stamp) (all_dumps with_made rs) f) (λ (f : File). HasText (AllTold held qs) (text f.rec.stamp) (all_dumps with_made rs) f)
            (λ f it. record { len = it.rec.len; bytes = it.bytes; tape = λ _ _. it.rec.copy }) x.files files;
      }

      marked_stands : (blocks : List (List ℕ)) → o'.disc.held ≡ Some blocks → Holds blocks (intended_by serial o) → AllZip (IsBesideDump serial) old.reels new.reels → AreShelved with_made (told_reels new)
          → StandsForState (spent_with o' new) (down (record (marked_by s k serial d) { holding = Some (with_intent s serial k) }))
      marked_stands blocks held holds zip shelved_new =
          let disc = disc_marked serial o old live keeps.tied may.rules may.on may.reel_is may.free told text shelf shelved_as up content its.long its.blocks its.lens its.parts old refl may.room may.mounted in
          let seen_then = view_marked (told_reels new) dumps_new o'.disc.held (intended_by serial o) shelved_new disc.files in
          spent_holding o' new (down (record (marked_by s k serial d) { holding = Some (with_intent s serial k) })) v_marked (intended_by serial o) blocks held holds seen_then refl refl
          (sym size) refl (sym (rows_now zip)) refl

      -- THE NEW COPIES are noted
      tree_moved : tree_by text c.users (recs_in (moved_by serial o)) c.head.next_stamp ≡ k.tree
      tree_moved = tree_copied text c.users (process_copies serial o) c.files c.head.next_stamp

      pub held_moved : (kept : List UserRec) → holding_of text kept (moved_by serial o) ≡ record k { places = places; last = k.last + 1; intent = None; kept = names_of kept }
      held_moved kept = λ i. let h : state.Holding = record { tree = tree_moved i; places = places; last = k.last + 1; intent = None; kept = names_of kept } in h

      up_copied : IsUp text with_made (up_with (record o { contents = moved_by serial o; changed = [] }) old None)
      up_copied = up_moved serial o old live keeps.tied may.rules may.on may.reel_is may.free told text shelf shelved_as up content its.long its.blocks its.lens its.parts old refl may.room may.mounted
          (record o { contents = moved_by serial o; changed = [] }) refl refl

      copies_stand : (blocks : List (List ℕ)) → o'.disc.held ≡ Some blocks → Holds blocks (moved_by serial o) → AllZip (IsBesideDump serial) old.reels new.reels → AreShelved with_made (told_reels new)
          → StandsForState (spent_with o' new) (down (moved s k serial places d 0))
      copies_stand blocks held holds zip shelved_new =
          let seen_then = view_marked (told_reels new) dumps_new o'.disc.held (moved_by serial o) shelved_new up_copied.disc.files in
          spent_holding o' new (down (moved s k serial places d 0)) v_marked (moved_by serial o) blocks held holds seen_then refl refl
          (sym size) (ap Some (sym (held_moved []))) (sym (rows_now zip ∙ sym (none_released serial (state.with_reel serial (λ r. with_used true (with_shelved (process_dump k) r)) s.reels)))) refl

      -- REELS ARE RELEASED
      module _ (until : ℕ) where
        abbrev shelf_c : ℕ → List Dump
        shelf_c = cleared serial until (with_dump (new_dump serial o content) shelf)

        abbrev below : ℕ → Bool
        below n = nat_lt n until && not (n == serial)

        abbrev gone : List ℕ
        gone = filter below (serials (told_reels old))

        never : has gone serial ≡ true → ⊥
        never is = true≢false (sym is ∙ fails below (serials rs) serial (below_this serial until))

        up_gone : IsUp text (without_all gone with_made) (up_with (record o { contents = moved_by serial o; changed = [] }) old None)
        up_gone = up_released serial o old live keeps.tied may.rules may.on may.reel_is may.free told text shelf shelved_as up content its.long its.blocks its.lens its.parts old refl may.room may.mounted gone never

        same_c : all_dumps (without_all gone with_made) rs ≡ all_dumps shelf_c rs
        same_c = all_same (without_all gone with_made) shelf_c rs (λ r there. by_test r there (cases_Bool (below r.serial)))
          where
            by_test : (r : Reel) → Contains rs r → (below r.serial ≡ true) ⊎ (below r.serial ≡ false) → without_all gone with_made r.serial ≡ shelf_c r.serial
            by_test r there (inl is) = gone_all gone with_made r.serial (passes below (serials rs) r.serial (mapped_there (λ (x : Reel). x.serial) rs r there) is) ∙ sym (cond-true (below r.serial) [] (with_made r.serial) is)
            by_test r there (inr isnt) = stays_all gone with_made r.serial (fails below (serials rs) r.serial isnt) ∙ sym (cond-false (below r.serial) [] (with_made r.serial) isnt)

        pub rack_c : RackBelongs text (all_dumps shelf_c rs)
        rack_c = subst (RackBelongs text) same_c up_gone.rack

        files_c : All (λ (f : File). KeepsFile (text f.rec.stamp) (all_dumps shelf_c rs) f) (moved_by serial o).files
        files_c = subst (λ (ds : List Dump). All (λ (f : File). KeepsFile (text f.rec.stamp) ds f) (moved_by serial o).files) same_c up_gone.disc.files

        pub there_c : Contains (all_dumps shelf_c rs) made
        there_c =
            on_all shelf_c rs (unread may.on) made (reel_there serial old.reels may.on may.reel_is)
            (subst (λ (n : ℕ). Contains (shelf_c n) made) (sym (reel_named serial old.reels may.on may.reel_is))
            (subst (λ (ds : List Dump). Contains ds made)
            (sym (cond-false (below serial) [] (with_made serial) (below_this serial until) ∙ cond-true (serial == serial) (shelf serial ++ made ∷ []) (shelf serial) (eq-eqb serial serial refl)))
            (Contains-push (shelf serial) made)))

        low_c : (e : Dump) → Contains (all_dumps shelf_c rs) e → e.number ≤ made.number
        low_c e there = up_gone.quiet e (subst (λ (ds : List Dump). Contains ds e) (sym same_c) there)

        abbrev pub tree_c : DumpedDirectory (all_dumps (cleared serial until (with_dump (new_dump serial o content) shelf)) (told_reels old))
        tree_c = rack_c.tree made there_c

        all_held : All (λ (u : UserRec). holds made.held u.number ≡ true) made.users
        all_held = held_all serial o content

        low_m : (e : Dump) → Contains (all_dumps with_made rs) e → e.number ≤ made.number
        low_m e there = up_copied.quiet e there

        pub dumped_c : dumped_of text tree_c ≡ d
        dumped_c =
            dumped_one text (all_dumps shelf_c rs) (all_dumps with_made rs) tree_c tree
            (last_made (all_dumps shelf_c rs) tree_c made there_c low_c rack_c.apart all_held ∙ sym (last_made (all_dumps with_made rs) tree made made_in low_m ready_rack.apart all_held))
            (gathered_made (all_dumps shelf_c rs) tree_c made there_c low_c rack_c.apart all_held ∙ sym (gathered_made (all_dumps with_made rs) tree made made_in low_m ready_rack.apart all_held))

        abbrev pub v_c : View
        v_c = record { text = text; shelf = shelf_c; dumps = all_dumps shelf_c rs; dumped = Some tree_c; opened = None }

        pub view_c : (qs : List Reel) → ((sh : ℕ → List Dump) → all_dumps sh rs ≡ all_dumps sh qs) → (held : Option (List (List ℕ))) (x : Contents) → x ≡ moved_by serial o → AreShelved shelf_c qs → IsView held qs x v_c
        view_c qs same_dumps held x is shelved_new = subst (λ (y : Contents). IsView held qs y v_c) (sym is) (record {
          rack = record {
            shelved = shelved_new;
            all = same_dumps shelf_c;
            dumped = λ _. rack_c.records tree_c;
            none = λ _ no. absurd (none-some tree_c (sym no));
          };
          files = All-weaker (λ (f : File). KeepsFile (text f.rec.stamp) (all_dumps shelf_c rs) f) (λ (f : File). HasText (AllTold held qs) (text f.rec.stamp) (all_dumps shelf_c rs) f)
              (λ f it. record { len = it.rec.len; bytes = it.bytes; tape = λ _ _. it.rec.copy }) (moved_by serial o).files files_c;
        })

        -- all of them, and the store is up
        kept_now : names_of (users_not_in [] c.users) ≡ from_entries (map (λ e. (e.0, tt)) (entries k.tree.users))
        kept_now = ap names_of (all_kept c.users) ∙ sym (kept_all c.users k.tree refl)

        held_done : holding_of text (users_not_in [] c.users) (moved_by serial o)
            ≡ record k { places = places; last = k.last + 1; intent = None; kept = from_entries (map (λ e. (e.0, tt)) (entries k.tree.users)) }
        held_done = λ i. let h : state.Holding = record { tree = tree_moved i; places = places; last = k.last + 1; intent = None; kept = kept_now i } in h

        pub rows_gone : AllZip (IsClearedBy serial until None old) old.reels new.reels → map (row_of shelf_c) (told_reels new) ≡ (moved s k serial places d until).reels
        rows_gone zip = rows_cleared serial old new rising apart_new labels shelf made refl (process_dump k) shelved_is until None none_at some_at refl zip

        done_stands : o'.contents ≡ moved_by serial o → o'.changed ≡ [] → AllZip (IsClearedBy serial until None old) old.reels new.reels → AreShelved shelf_c (told_reels new)
            → StandsForState (up_with o' new None) (moved s k serial places d until)
        done_stands contents changed zip shelved_new =
            let held : holding_of text (users_not_in o'.changed o'.contents.users) o'.contents
            ≡ record k { places = places; last = k.last + 1; intent = None; kept = from_entries (map (λ e. (e.0, tt)) (entries k.tree.users)) } =
            (λ j. holding_of text (users_not_in (changed j) (contents j).users) (contents j)) ∙ held_done in
            let rows_c = rows_gone zip in
            stands (up_with o' new None) (moved s k serial places d until) refl (record {
              view = v_c;
              is = view_c (told_reels new) dumps_new o'.disc.held o'.contents contents shelved_new;
              opens = record { is = λ all qs some. tt };
              state_is = λ i.
                  let u : state.State = record {
                    up = true;
                    size = sym size i;
                    holding = Some (sym held i);
                    reels = sym rows_c i;
                    dumped = Some (sym dumped_c i);
                    open_dump = None;
                  } in u;
            })

        -- or a release failed
        released_stand : (blocks : List (List ℕ)) → o'.disc.held ≡ Some blocks → Holds blocks (moved_by serial o) → AllZip (IsClearedBy serial until None old) old.reels new.reels → AreShelved shelf_c (told_reels new)
            → StandsForState (spent_with o' new) (down (moved s k serial places d until))
        released_stand blocks held holds zip shelved_new =
            let seen_then = view_c (told_reels new) dumps_new o'.disc.held (moved_by serial o) refl shelved_new in
            let rows_c = rows_gone zip in
            spent_holding o' new (down (moved s k serial places d until)) v_c (moved_by serial o) blocks held holds seen_then refl refl
            (sym size) (ap Some (sym (held_moved []))) (sym rows_c) (ap Some (sym dumped_c))

        cut_release_stands : (n : ℕ) → until ≡ n + 1 → n ≢ serial → IsTaken n old → (blocks : List (List ℕ)) → o'.disc.held ≡ Some blocks → Holds blocks (moved_by serial o)
            → AllZip (IsClearedBy serial until (Some n) old) old.reels new.reels → AreShelved shelf_c (told_reels new)
            → StandsForState (spent_with o' new) (down (with_cut (Some (n, used_in (reel n new.reels))) (moved s k serial places d until)))
        cut_release_stands n until_is apart_n taken_n blocks held holds zip shelved_new =
            let seen_then = view_c (told_reels new) dumps_new o'.disc.held (moved_by serial o) refl shelved_new in
            let rows_c = rows_cut serial old new rising apart_new labels shelf made refl (process_dump k) shelved_is until (Some n) none_at some_at n refl until_is apart_n taken_n zip in
            spent_holding o' new (down (with_cut (Some (n, used_in (reel n new.reels))) (moved s k serial places d until))) v_c (moved_by serial o) blocks held holds seen_then refl refl
            (sym size) (ap Some (sym (held_moved []))) (sym rows_c) (ap Some (sym dumped_c))

  -- BY ITS ANSWER
  module _ (o' : OnlineFacts) (new : Rack) (u : state.State) (here : StandsForState before u) where
    abbrev Answered : Result ℕ StoreFault → Type 0
    Answered answer = Processes serial before answer (behind_process answer o' new)

    abbrev Owed : Result ℕ StoreFault → Type 0
    Owed answer = StepsBy (IsProcess serial) u before answer (behind_process answer o' new)

    abbrev Led : Type 0
    Led = let r : Result ℕ StoreFault = Err Stopped in LeadsBy (IsProcess serial) u before (spent_with o' new) r

    holds_now : IsTied o' → o'.live ≡ true → (blocks : List (List ℕ)) → o'.disc.held ≡ Some blocks → (x : Contents) → o'.contents ≡ x → Holds blocks x
    holds_now tied' live' blocks held x is = subst (Holds blocks) is (record {
      directory = o'.layout.directory;
      stands = tied'.stands live' blocks held;
      are = tied'.contents live' ∙ ap (λ (h : Option (List (List ℕ))). contents_of h o'.layout.directory) held;
    })

    -- a refusal that changed nothing
    refused_leads : (fault : StoreFault) → process_refuses_late s k serial ≡ Some fault → o' ≡ o → map unread new.reels ≡ map unread old.reels
        → (let r : Result ℕ StoreFault = Err fault in LeadsBy (IsProcess serial) u before (up_with o' new None) r)
    refused_leads fault late is same =
        leads (Err fault) (up_with o' new None) s Plain (same_stands o' new is same) tt
        (late_step Plain (Err fault) s (let r : Result ℕ StoreFault = Err fault in subst (Late Plain r s) (sym late) (inl refl, refl))) u here

    pub answers : (answer : Result ℕ StoreFault) → Answered answer → Owed answer
    answers (Ok number) it =
        let (number_is, (is, uncut, all)) = it.exit told text shelf shelved_as up refl in
        let zip = subst (λ (x : Option ℕ). AllZip (IsClearedBy serial is.until x old) old.reels new.reels) uncut is.reels in
        let end = moved s k serial (places_of (with_copies (process_copies serial o) c.files)) (d o' new it.cause.reels it.cause.size is.may is.content is.has) is.until in
        leads (Ok number) (up_with o' new None) end Plain
        (done_stands o' new it.cause.reels it.cause.size is.may is.content is.has is.until is.contents is.changed zip is.shelved) tt
        (done_step is.may Plain (Ok number) end (
          ap (λ (n : ℕ). let r : Result ℕ StoreFault = Ok n in r) number_is,
          record {
            places = places_of (with_copies (process_copies serial o) c.files);
            dumped = d o' new it.cause.reels it.cause.size is.may is.content is.has;
            processed = processed o' new it.cause.reels it.cause.size is.may is.content is.has;
            are = moved_are o' new it.cause.reels it.cause.size is.may is.content is.has;
            same = copies_same o' new it.cause.reels it.cause.size is.may is.content is.has;
            until = is.until;
            all = first_above is.until shelf old.reels all;
            is = refl;
          },
        )) u here
    answers (Err DiscReadFault) it =
        let is = it.exit told text shelf shelved_as up refl in
        let end = begun o' new it.cause.reels it.cause.size in
        leads (Err DiscReadFault) (up_with o' new None) end DiscRead (read_stands o' new it.cause.reels it.cause.size is.contents is.changed is.reels is.shelved) (it.cause.disc_read refl)
        (done_step is.may DiscRead (Err DiscReadFault) end (refl, inr (used_in (reel serial new.reels), refl))) u here
    answers (Err TapeReadFault) it = by_exit (it.exit told text shelf shelved_as up refl)
      where
        untouched : (x : Option StoreFault) → process_refuses_late s k serial ≡ x → (let r : Result ℕ StoreFault = Err TapeReadFault in Late TapeRead r s x)
        untouched None is = (refl, inl refl)
        untouched (Some fault) is = (inr (refl, refl), refl)

        by_exit : Untouched before (up_with o' new None) ⊎ LacksMark shelf serial before (up_with o' new None) → (let r : Result ℕ StoreFault = Err TapeReadFault in LeadsBy (IsProcess serial) u before (up_with o' new None) r)
        by_exit (inl same) =
            leads (Err TapeReadFault) (up_with o' new None) s TapeRead (same_stands o' new same.0 same.1) (it.cause.tape_read refl)
            (late_step TapeRead (Err TapeReadFault) s (untouched (process_refuses_late s k serial) refl)) u here
        by_exit (inr is) =
            let end = begun o' new it.cause.reels it.cause.size in
            leads (Err TapeReadFault) (up_with o' new None) end TapeRead (read_stands o' new it.cause.reels it.cause.size is.contents is.changed is.reels is.shelved) (it.cause.tape_read refl)
            (done_step is.may TapeRead (Err TapeReadFault) end (refl, inr (used_in (reel serial new.reels), refl))) u here
    answers (Err (ReelNotFree n)) it =
        let same = it.exit told text shelf shelved_as up refl in
        let (n_is, taken) = it.taken n refl in
        let (r, found) = there_is serial before granted in
        let (in_old, named) = reel-found serial old.reels r found in
        let some = some_at r in_old (subst (λ (m : ℕ). IsTaken m old) (sym named) taken) in
        let long = end_taken serial r found some.0 in
        refused_leads (ReelNotFree n)
        (late_tests true (nat_lt (state.capacity_in (state.reel_at serial s.reels)) (process_needs k)) (process_needs k) (state.capacity_in (state.reel_at serial s.reels))
        (lt-ltb 0 (state.end_of s serial) long) refl refl refl ∙ ap (λ (m : ℕ). Some (ReelNotFree m)) (sym n_is)) same.0 same.1
    answers (Err (NoCopy full n)) it = let (free, (f, copy, name, serial_is, lost)) = it.lost full n refl in absurd (none_lost o old reels told shelf shelved_as text up.disc.files f copy lost)
    answers (Err (TapeFull need room)) it =
        let same = it.exit told text shelf shelved_as up refl in
        let (need_is, less, room_is, free) = it.full need room refl in
        let (r, found) = there_is serial before granted in
        let (in_old, named) = reel-found serial old.reels r found in
        let empty = none_at r in_old (subst (λ (m : ℕ). IsFree m old) (sym named) free) in
        let needed : process_needs k ≡ need = sym counts ∙ sym need_is in
        let roomy : state.capacity_in (state.reel_at serial s.reels) ≡ room = ap state.capacity_in (row_at serial r found) ∙ sym (room_is r found) in
        refused_leads (TapeFull need room)
        (late_tests false true need room (ap (nat_lt 0) (end_at serial r found [] empty))
        (lt-ltb (state.capacity_in (state.reel_at serial s.reels)) (process_needs k) (omega (arith, less, needed, roomy))) needed roomy) same.0 same.1
    answers (Err NoMemory) it = let same = it.exit told text shelf shelved_as up refl in subst (StandsForState (up_with o' new None)) (sym (state_of u here)) (same_stands o' new same.0 same.1)
    answers (Err Stopped) it = by_stop (it.exit told text shelf shelved_as up refl)
      where
        told_new : Told (spent_with o' new)
        told_new = it.told told

        the_held : (blocks : List (List ℕ)) × (o'.disc.held ≡ Some blocks)
        the_held = told_is o'.disc.held told_new.disc

        cut_at : MayFill serial before → (end : state.State) → StandsForState (spent_with o' new) end → ProcessLeft s k serial end → Led
        cut_at may end left by_left = leads (Err Stopped) (spent_with o' new) end Cut left (rose_of before (spent_with o' new) (it.cause.cut refl)) (done_step may Cut (Err Stopped) end (refl, by_left)) u here

        same_zip : (xs ys : List Reel) → map unread ys ≡ map unread xs → AllZip (IsReadBy serial) xs ys
        same_zip [] [] same = tt
        same_zip [] (y ∷ ys) same = absurd (let no : ⊥ = cc in no)
        same_zip (x ∷ xs) [] same = absurd (let no : ⊥ = cc in no)
        same_zip (x ∷ xs) (y ∷ ys) same =
            let one : unread y ≡ unread x = cc in
            let rest : map unread ys ≡ map unread xs = cc in
            (inr one, same_zip xs ys rest)

        by_intent : MayFill serial before → map unread new.reels ≡ map unread old.reels → Holds (the_held.0) c ⊎ Holds (the_held.0) (intended_by serial o) → Led
        by_intent may same (inl holds) = cut_at may (down s) (cut_stands o' new it.cause.reels it.cause.size the_held.0 the_held.1 holds same) (NotYet true (inl refl))
        by_intent may same (inr holds) =
            cut_at may (down (begun o' new it.cause.reels it.cause.size))
            (intent_stands o' new it.cause.reels it.cause.size the_held.0 the_held.1 holds (same_zip old.reels new.reels same) (subst (AreShelved shelf) (sym same) shelved_as))
            (NotYet (used_in (reel serial new.reels)) (inr refl))

        at_mark : (is : HasCompleted text shelf serial before (spent_with o' new)) → Holds (the_held.0) (intended_by serial o) → Led
        at_mark is holds =
            cut_at is.may (down (record (marked_by s k serial (d o' new it.cause.reels it.cause.size is.may is.content is.has)) { holding = Some (with_intent s serial k) }))
            (marked_stands o' new it.cause.reels it.cause.size is.may is.content is.has the_held.0 the_held.1 holds is.reels is.shelved)
            (Marked (d o' new it.cause.reels it.cause.size is.may is.content is.has) (processed o' new it.cause.reels it.cause.size is.may is.content is.has) refl)

        by_copies : (is : HasCompleted text shelf serial before (spent_with o' new)) → Holds (the_held.0) (intended_by serial o) ⊎ Holds (the_held.0) (moved_by serial o) → Led
        by_copies is (inl holds) = at_mark is holds
        by_copies is (inr holds) =
            cut_at is.may (down (moved s k serial (places_of (with_copies (process_copies serial o) c.files)) (d o' new it.cause.reels it.cause.size is.may is.content is.has) 0))
            (copies_stand o' new it.cause.reels it.cause.size is.may is.content is.has the_held.0 the_held.1 holds is.reels is.shelved)
            (Moved (places_of (with_copies (process_copies serial o) c.files)) (d o' new it.cause.reels it.cause.size is.may is.content is.has) (processed o' new it.cause.reels it.cause.size is.may is.content is.has)
            (moved_are o' new it.cause.reels it.cause.size is.may is.content is.has) (copies_same o' new it.cause.reels it.cause.size is.may is.content is.has) 0 None tt refl)

        by_release : (is : HasReleased text shelf serial before (spent_with o' new)) → Holds (the_held.0) (moved_by serial o) → (cut : Option ℕ) → is.cut ≡ cut → Led
        by_release is holds None cut_is =
            cut_at is.may (down (moved s k serial (places_of (with_copies (process_copies serial o) c.files)) (d o' new it.cause.reels it.cause.size is.may is.content is.has) is.until))
            (released_stand o' new it.cause.reels it.cause.size is.may is.content is.has is.until the_held.0 the_held.1 holds
            (subst (λ (x : Option ℕ). AllZip (IsClearedBy serial is.until x old) old.reels new.reels) cut_is is.reels) is.shelved)
            (Moved (places_of (with_copies (process_copies serial o) c.files)) (d o' new it.cause.reels it.cause.size is.may is.content is.has) (processed o' new it.cause.reels it.cause.size is.may is.content is.has)
            (moved_are o' new it.cause.reels it.cause.size is.may is.content is.has) (copies_same o' new it.cause.reels it.cause.size is.may is.content is.has) is.until None tt refl)
        by_release is holds (Some n) cut_is =
            let (until_is, apart_n, taken_n, in_names) = subst (λ (x : Option ℕ). IsLastCut serial is.until old x) cut_is is.last in
            let (r, in_old, named) = from_mapped (λ (x : Reel). x.serial) old.reels n in_names in
            let found : reel n old.reels ≡ Some r = ap (λ (m : ℕ). reel m old.reels) (sym named) ∙ found_itself old.reels r (apart_of old.reels reels.rising) in_old in
            let some = some_at r in_old (subst (λ (m : ℕ). IsTaken m old) (sym named) taken_n) in
            cut_at is.may
            (down (with_cut (Some (n, used_in (reel n new.reels))) (moved s k serial (places_of (with_copies (process_copies serial o) c.files)) (d o' new it.cause.reels it.cause.size is.may is.content is.has) is.until)))
            (cut_release_stands o' new it.cause.reels it.cause.size is.may is.content is.has is.until n until_is apart_n taken_n the_held.0 the_held.1 holds
            (subst (λ (x : Option ℕ). AllZip (IsClearedBy serial is.until x old) old.reels new.reels) cut_is is.reels) is.shelved)
            (Moved (places_of (with_copies (process_copies serial o) c.files)) (d o' new it.cause.reels it.cause.size is.may is.content is.has) (processed o' new it.cause.reels it.cause.size is.may is.content is.has)
            (moved_are o' new it.cause.reels it.cause.size is.may is.content is.has) (copies_same o' new it.cause.reels it.cause.size is.may is.content is.has) is.until
            (Some (n, used_in (reel n new.reels))) (until_is, apart_n, end_taken n r found some.0) refl)

        by_before : LacksMark shelf serial before (spent_with o' new) → Led
        by_before is =
            cut_at is.may (down (begun o' new it.cause.reels it.cause.size))
            (intent_stands o' new it.cause.reels it.cause.size the_held.0 the_held.1 (holds_now it.keeps.tied is.live the_held.0 the_held.1 (intended_by serial o) is.contents) is.reels is.shelved)
            (NotYet (used_in (reel serial new.reels)) (inr refl))

        by_stop : Stops text shelf serial before (spent_with o' new) → Led
        by_stop (StopsIntent may either same loss) = by_intent may same (either.now the_held.0 the_held.1)
        by_stop (StopsBefore is durable loss) = by_before is
        by_stop (StopsUnmarked is beside durable content its loss) = by_before is
        by_stop (StopsMark is live' contents durable loss) = at_mark is (holds_now it.keeps.tied live' the_held.0 the_held.1 (intended_by serial o) contents)
        by_stop (StopsCopies is either loss) = by_copies is (either.now the_held.0 the_held.1)
        by_stop (StopsRelease is durable last interrupted loss) = by_release is (holds_now it.keeps.tied is.live the_held.0 the_held.1 (moved_by serial o) is.contents) is.cut refl
    answers (Err fault) it = absurd (it.granted granted)
