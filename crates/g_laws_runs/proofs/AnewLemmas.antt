-- FORMAT on emptied reels: its state depends on nothing that the disc held before.
-- serves: lib, crates above
use Rattle.std.proofs.Common.{◌≡◌, ℕ, List, [], ◌∷◌, ◌++◌, Contains, map, Option, Some, None, refl, sym, ◌∙◌, ap, subst}
use Rattle.std.specs.Prelude.{All, Bool, true, false, not, cond, nat_lt, option_map, Ok, Result}
use Rattle.std.specs.List.{AllByRecursion}
use Rattle.std.specs.Option.{ForSome}
use Rattle.std.proofs.lemmas.List.Elements.{All-contains, All-contains_itself, All-weaker, recursion_from_All}
use Rattle.g_disc_contents.specs.Contents.{has}
use Rattle.g_entry.specs.declared.user_rec.UserRec.{UserRec}
use Rattle.g_incr.specs.Layout.{Dump}
use Rattle.g_plain.specs.PlainStep.{first_fault}
use Rattle.g_plain.specs.declared.faults.StoreFault.{StoreFault}
use Rattle.g_plain.specs.declared.faults.StoreFault.TheVariants.{DiscReadFault, RackNotEmpty, Stopped}
use Rattle.g_shelf.specs.CompletedDumps.{AreCompleted, AreNext, AreShelved, all_dumps}
use Rattle.g_store_meaning.specs.Meaning.{DumpedDirectory, told_reels}
use Rattle.g_store_meaning.specs.Reading.{DevicesStandFor, StandsForState, View, dumped_of, holding_of, open_of, row_of, state_up, users_not_in}
use Rattle.g_store_meaning.specs.StoreInvariant.{DumpFacts, StoreFacts}
use Rattle.g_store_model.specs.CallStep.{Plain}
use Rattle.g_store_model.specs.DumpSteps.{Event}
use Rattle.g_store_model.specs.Rising.{FormatStep, coming_up, fault_from}
use Rattle.g_store_model.specs.State.{Dumped as DumpedTree, Holding, OpenDump, ReelRow, State, first_reel}
use Rattle.g_tape.specs.Reel.{Reel}
use Rattle.g_run_model.specs.Devices.{AreReadAs, Devices}
use Rattle.g_laws_runs.specs.BeginningAnew.{AreEmptied, FormatsAnew, IsFormatted, first_holding, with_new_disc}
use Rattle.g_laws_runs.proofs.FreshLemmas.{IsEmptyReel, no_dumps, nobody, none_next}

-- no dump is completed on a reel without blocks
abbrev HasNone : (ℕ → List Dump) → Reel → Type 0
HasNone shelf r = shelf r.serial ≡ []

none_completed : (serial : ℕ) (ds : List Dump) → AreNext serial [] 0 0 ds → ds ≡ []
none_completed serial [] are = refl
none_completed serial (d ∷ ds) are = absurd (none_next serial d are.0)

of_blocks : (serial : ℕ) (ds : List Dump) (blocks : Option (List (List ℕ))) → blocks ≡ Some [] → ForSome blocks (λ reel. AreCompleted serial reel ds) → ds ≡ []
of_blocks serial ds blocks is completed = none_completed serial ds ((subst (λ (b : Option (List (List ℕ))). ForSome b (λ reel. AreCompleted serial reel ds)) is completed) [] refl).are

none_shelved : (shelf : ℕ → List Dump) (reels : List Reel) → AreShelved shelf reels → All IsEmptyReel reels → AllByRecursion (HasNone shelf) reels
none_shelved shelf reels shelved empties =
    recursion_from_All (HasNone shelf) reels
    (All-weaker (Contains reels) (HasNone shelf) (λ r there. of_blocks r.serial (shelf r.serial) r.blocks (All-contains IsEmptyReel reels r empties there) (shelved.each r there)) reels (All-contains_itself reels))

rows_none : (shelf : ℕ → List Dump) (reels : List Reel) → AllByRecursion (HasNone shelf) reels → map (row_of shelf) reels ≡ map (row_of no_dumps) reels
rows_none shelf [] all = refl
rows_none shelf (r ∷ reels) all =
    ap (λ (ds : List Dump). let row : ReelRow = row_of (λ serial. ds) r in row ∷ map (row_of shelf) reels) all.0 ∙ ap (λ (rows : List ReelRow). let row : ReelRow = row_of no_dumps r in row ∷ rows) (rows_none shelf reels all.1)

all_none : (shelf : ℕ → List Dump) (reels : List Reel) → AllByRecursion (HasNone shelf) reels → all_dumps shelf reels ≡ []
all_none shelf [] all = refl
all_none shelf (r ∷ reels) all = ap (λ (ds : List Dump). ds ++ all_dumps shelf reels) all.0 ∙ all_none shelf reels all.1

-- so no tree is dumped
undumped : (text : ℕ → List ℕ) (dumps : List Dump) (t : Option (DumpedDirectory dumps)) → dumps ≡ [] → (let none : Option DumpedTree = None in option_map (dumped_of text) t ≡ none)
undumped text dumps None is = refl
undumped text dumps (Some t) is = nobody t.last (subst (λ (ds : List Dump). Contains ds t.last) is t.greatest.there)

-- no user's directory is kept
none_left : (numbers : List ℕ) (users : List UserRec) → AllByRecursion (λ u. has numbers u.number ≡ true) users → users_not_in numbers users ≡ []
none_left numbers [] all = refl
none_left numbers (u ∷ users) all = ap (λ (b : Bool). cond (not b) (u ∷ users_not_in numbers users) (users_not_in numbers users)) all.0 ∙ none_left numbers users all.1

-- no reel is used
unused_rows : (reels : List Reel) → AllByRecursion (λ r. nat_lt 0 r.len ≡ false) reels → first_reel (λ r. r.used) (map (row_of no_dumps) reels) ≡ None
unused_rows [] all = refl
unused_rows (r ∷ reels) all = ap (λ (b : Bool). cond b (Some r.serial) (first_reel (λ q. q.used) (map (row_of no_dumps) reels))) all.0 ∙ unused_rows reels all.1

formats : (s : State) (m : Option ℕ) (t : State) → m ≡ None → t ≡ coming_up s first_holding
    → (let answer : Result (Unit {0}) StoreFault = Ok tt in Event {A = Unit {0}} (first_fault (fault_from RackNotEmpty m ∷ (false, DiscReadFault) ∷ (false, Stopped) ∷ [])) tt s (coming_up s first_holding) answer t)
formats s None t none is = (refl, is)
formats s (Some serial) t none is = absurd (let no : ⊥ = cc in no)

-- the state of a store, by its parts
abbrev made : ℕ → Option Holding → List ReelRow → Option DumpedTree → Option OpenDump → State
made size holding reels dumped opened = record { up = true; size = size; holding = holding; reels = reels; dumped = dumped; open_dump = opened }

-- what the old state has
rows_before : (d : Devices) (s : State) → AreEmptied d → AreReadAs (with_new_disc d) s → s.reels ≡ map (row_of no_dumps) (told_reels d.rack)
rows_before d s emptied stand =
    ap (λ (x : State). x.reels) stand.reads.state_is ∙ rows_none stand.reads.view.shelf (told_reels d.rack) (none_shelved stand.reads.view.shelf (told_reels d.rack) stand.reads.rack.shelved emptied.reels)

-- so FORMAT isn't refused for a reel
pub no_used_reel : (d : Devices) (s : State) → AreEmptied d → All (λ r. nat_lt 0 r.len ≡ false) (told_reels d.rack) → AreReadAs (with_new_disc d) s → first_reel (λ r. r.used) s.reels ≡ None
no_used_reel d s emptied unused stand =
    ap (λ (rows : List ReelRow). first_reel (λ r. r.used) rows) (rows_before d s emptied stand) ∙ unused_rows (told_reels d.rack) (recursion_from_All (λ r. nat_lt 0 r.len ≡ false) (told_reels d.rack) unused)

module _ (d : Devices) (s t : State) (new : StoreFacts) (emptied : AreEmptied d) (is : IsFormatted d new) (stand : AreReadAs (with_new_disc d) s) where
  dumped_before : s.dumped ≡ None
  dumped_before =
      ap (λ (x : State). x.dumped) stand.reads.state_is
      ∙ undumped stand.reads.view.text stand.reads.view.dumps stand.reads.view.dumped
      (stand.reads.rack.all ∙ all_none stand.reads.view.shelf (told_reels d.rack) (none_shelved stand.reads.view.shelf (told_reels d.rack) stand.reads.rack.shelved emptied.reels))

  size_before : s.size ≡ d.disc.size
  size_before = ap (λ (x : State). x.size) stand.reads.state_is

  kept_none : (v : View) → holding_of v.text (users_not_in new.online.changed new.online.contents.users) new.online.contents ≡ first_holding
  kept_none v =
      ap (λ (users : List UserRec). holding_of v.text users new.online.contents)
      (none_left new.online.changed new.online.contents.users (recursion_from_All (λ u. has new.online.changed u.number ≡ true) new.online.contents.users is.unkept))
      ∙ is.holds v.text

  -- and the new one
  came_up : (v : View) → AreShelved v.shelf (told_reels new.rack) → v.dumps ≡ all_dumps v.shelf (told_reels new.rack) → t ≡ state_up v (told_reels new.rack) new.online new.dump → t ≡ coming_up s first_holding
  came_up v shelved all t_is =
      let empties : All IsEmptyReel (told_reels new.rack) = subst (λ (rs : List Reel). All IsEmptyReel rs) (sym is.reels) emptied.reels in
      let none = none_shelved v.shelf (told_reels new.rack) shelved empties in
      let rows : map (row_of v.shelf) (told_reels new.rack) ≡ s.reels = rows_none v.shelf (told_reels new.rack) none ∙ ap (λ (rs : List Reel). map (row_of no_dumps) rs) is.reels ∙ sym (rows_before d s emptied stand) in
      let dumped : option_map (dumped_of v.text) v.dumped ≡ s.dumped = undumped v.text v.dumps v.dumped (all ∙ all_none v.shelf (told_reels new.rack) none) ∙ sym dumped_before in
      t_is
      ∙ ap (λ (n : ℕ). made n (Some (holding_of v.text (users_not_in new.online.changed new.online.contents.users) new.online.contents)) (map (row_of v.shelf) (told_reels new.rack)) (option_map (dumped_of v.text) v.dumped) (option_map (open_of v new.online) new.dump))
      (is.size ∙ sym size_before)
      ∙ ap (λ (h : Holding). made s.size (Some h) (map (row_of v.shelf) (told_reels new.rack)) (option_map (dumped_of v.text) v.dumped) (option_map (open_of v new.online) new.dump)) (kept_none v)
      ∙ ap (λ (rs : List ReelRow). made s.size (Some first_holding) rs (option_map (dumped_of v.text) v.dumped) (option_map (open_of v new.online) new.dump)) rows
      ∙ ap (λ (x : Option DumpedTree). made s.size (Some first_holding) s.reels x (option_map (open_of v new.online) new.dump)) dumped
      ∙ ap (λ (x : Option DumpFacts). made s.size (Some first_holding) s.reels s.dumped (option_map (open_of v new.online) x)) is.no_dump

  by_spent : (b : Bool) → b ≡ false
      → (elim b as (λ _. Type 0) [ true ↦ DevicesStandFor new.online.disc.size new.online.disc.held (told_reels new.rack) t | false ↦ StandsForState (record new { spent = false }) t ]) → StandsForState (record new { spent = false }) t
  by_spent true e stands = absurd (let no : ⊥ = cc in no)
  by_spent false e stands = stands

  formatted_by : StandsForState (record new { spent = false }) t → FormatStep s Plain (Ok tt) t
  formatted_by (v, viewed, opened, t_is) =
      formats s (first_reel (λ r. r.used) s.reels) t (no_used_reel d s emptied is.unused stand)
      (came_up v viewed.rack.shelved viewed.rack.all t_is)

pub formats_anew : FormatsAnew
formats_anew d s t new emptied is stand stands = formatted_by d s t new emptied is stand (by_spent d s t new emptied is stand new.spent is.running stands)
