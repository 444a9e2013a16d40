-- A reel is mounted or unmounted: nothing else in what a rack means changes.
-- serves: OpenedLemmas, ProcessedStepLemmas, StartLemmas, SteppedLemmas, TurnLemmas, crates above
use Rattle.std.proofs.Common.{◌≡◌, ◌≢◌, ℕ, Bool, true, false, List, [], ◌∷◌, Option, Some, None, refl, sym, ◌∙◌, ap}
use Rattle.std.specs.Prelude.{◌==◌, All, Contains, map, if◌then◌else◌, is_none, is_some}
use Rattle.std.specs.Option.{ForSome, option_map}
use Rattle.std.proofs.lemmas.List.Elements.{All-cons, All-contains, All-contains_itself, All-head, All-tail, All-weaker}
use Rattle.g_base.proofs.KeyLemmas.{find-map, flat_map-change, map-change, map-change_same}
use Rattle.g_tape.proofs.ReadLemmas.{reel-unread, reel-with_reel, reel-with_reel_other}
use Rattle.g_tape.specs.Reel.{Reel, with_mounted}
use Rattle.g_tape.specs.Rack.{is_mounted, reel, with_reel}
use Rattle.g_tape.specs.Reads.{unread}
use Rattle.g_incr.specs.Layout.{Dump}
use Rattle.g_shelf.specs.CompletedDumps.{AreCompleted, AreShelved, all_dumps}
use Rattle.g_store_model.specs.State as state
use Rattle.g_store_model.specs.DumpSteps as dumps
use Rattle.g_store_meaning.specs.Reading.{AllTold, row_of}

abbrev pub serials : List Reel → List ℕ
serials reels = map (λ (r : Reel). r.serial) reels

module _ (s : ℕ) (is : Bool) where
  abbrev pub turned : List Reel → List Reel
  turned reels = with_reel s (with_mounted is) reels

  -- whether reads are counted or not
  pub told_turned : (reels : List Reel) → map unread (turned reels) ≡ turned (map unread reels)
  told_turned reels = map-change (λ (r : Reel). s == r.serial) (with_mounted is) (λ (r : Reel). s == r.serial) (with_mounted is) unread (λ r. refl) (λ r. refl) reels

  -- serials and dumps stay
  pub serials_stay : (reels : List Reel) → serials (turned reels) ≡ serials reels
  serials_stay reels = map-change_same (λ (r : Reel). s == r.serial) (with_mounted is) (λ (r : Reel). r.serial) (λ r. refl) reels

  pub dumps_stay : (shelf : ℕ → List Dump) (reels : List Reel) → all_dumps shelf (turned reels) ≡ all_dumps shelf reels
  dumps_stay shelf reels = flat_map-change (λ (r : Reel). s == r.serial) (with_mounted is) (λ (r : Reel). shelf r.serial) (λ r. refl) reels

  -- what is so of each reel, mounted or not
  all_turned : (P : Reel → Type 0) → ((r : Reel) → P r → P (with_mounted is r)) → (reels : List Reel) → All P reels → All P (turned reels)
  all_turned P keeps [] all = all
  all_turned P keeps (r ∷ rs) all = pick (s == r.serial) (all_turned P keeps rs (All-tail P r rs all))
    where
      pick : (b : Bool) → All P (turned rs) → All P (if b then with_mounted is r ∷ rs else r ∷ turned rs)
      pick true rest = All-cons P (with_mounted is r) rs (keeps r (All-head P r rs all)) (All-tail P r rs all)
      pick false rest = All-cons P r (turned rs) (All-head P r rs all) rest

  all_before : (P : Reel → Type 0) → ((r : Reel) → P (with_mounted is r) → P r) → (reels : List Reel) → All P (turned reels) → All P reels
  all_before P keeps [] all = all
  all_before P keeps (r ∷ rs) all = pick (s == r.serial) (all_before P keeps rs) all
    where
      pick : (b : Bool) → (All P (turned rs) → All P rs) → All P (if b then with_mounted is r ∷ rs else r ∷ turned rs) → All P (r ∷ rs)
      pick true rest all = All-cons P r rs (keeps r (All-head P (with_mounted is r) rs all)) (All-tail P (with_mounted is r) rs all)
      pick false rest all = All-cons P r rs (All-head P r (turned rs) all) (rest (All-tail P r (turned rs) all))

  abbrev IsShelved : (ℕ → List Dump) → Reel → Type 0
  IsShelved shelf r = ForSome r.blocks (λ reel. AreCompleted r.serial reel (shelf r.serial))

  pub shelved_turned : (shelf : ℕ → List Dump) (reels : List Reel) → AreShelved shelf reels → AreShelved shelf (turned reels)
  shelved_turned shelf reels shelved =
      let all : All (IsShelved shelf) reels = All-weaker (Contains reels) (IsShelved shelf) (λ r there. shelved.each r there) reels (All-contains_itself reels) in
      let after : All (IsShelved shelf) (turned reels) = all_turned (IsShelved shelf) (λ r is. is) reels all in
      record { each = λ r there. All-contains (IsShelved shelf) (turned reels) r after there }

  pub told_before : (held : Option (List (List ℕ))) (reels : List Reel) → AllTold held (turned reels) → AllTold held reels
  told_before held reels told = record { disc = told.disc; each = record { each = all_before (λ (r : Reel). is_some r.blocks ≡ true) (λ r is. is) reels told.each.each } }

  pub told_after : (held : Option (List (List ℕ))) (reels : List Reel) → AllTold held reels → AllTold held (turned reels)
  told_after held reels told = record { disc = told.disc; each = record { each = all_turned (λ (r : Reel). is_some r.blocks ≡ true) (λ r is. is) reels told.each.each } }

  -- the rows of the state
  pub rows_turned : (shelf : ℕ → List Dump) (reels : List Reel) → map (row_of shelf) (turned reels) ≡ state.with_reel s (dumps.with_mounted is) (map (row_of shelf) reels)
  rows_turned shelf reels = map-change (λ (r : Reel). s == r.serial) (with_mounted is) (λ (r : state.ReelRow). s == r.serial) (dumps.with_mounted is) (row_of shelf) (λ r. refl) (λ r. refl) reels

  -- another reel, and the same
  pub other_reel : (t : ℕ) (reels : List Reel) → t ≢ s → reel t (turned reels) ≡ reel t reels
  other_reel t reels other = reel-with_reel_other s t (with_mounted is) (λ r. refl) (λ same. other (sym same)) reels

  pub same_reel : (reels : List Reel) → reel s (turned reels) ≡ option_map (with_mounted is) (reel s reels)
  same_reel reels = reel-with_reel s (with_mounted is) (λ r. refl) reels

-- WHAT THE STATE SEES of a reel

pub row_found : (shelf : ℕ → List Dump) (s : ℕ) (reels : List Reel) → state.reel_at s (map (row_of shelf) reels) ≡ option_map (row_of shelf) (reel s reels)
row_found shelf s reels = find-map (λ (r : state.ReelRow). s == r.serial) (λ (r : Reel). s == r.serial) (row_of shelf) (λ r. refl) reels

row_told : (shelf : ℕ → List Dump) (s : ℕ) (reels : List Reel) → state.reel_at s (map (row_of shelf) (map unread reels)) ≡ option_map (λ (r : Reel). row_of shelf (unread r)) (reel s reels)
row_told shelf s reels = row_found shelf s (map unread reels) ∙ ap (option_map (row_of shelf)) (reel-unread s reels) ∙ both (reel s reels)
  where
    both : (r : Option Reel) → option_map (row_of shelf) (option_map unread r) ≡ option_map (λ (q : Reel). row_of shelf (unread q)) r
    both None = refl
    both (Some r) = refl

is_none_row : (shelf : ℕ → List Dump) (r : Option Reel) → is_none (option_map (λ (q : Reel). row_of shelf (unread q)) r) ≡ is_none r
is_none_row shelf None = refl
is_none_row shelf (Some r) = refl

mounted_row : (shelf : ℕ → List Dump) (r : Option Reel) → state.mounted_in (option_map (λ (q : Reel). row_of shelf (unread q)) r) ≡ is_mounted r
mounted_row shelf None = refl
mounted_row shelf (Some r) = refl

pub lacks_by : (shelf : ℕ → List Dump) (s : ℕ) (reels : List Reel) → is_none (state.reel_at s (map (row_of shelf) (map unread reels))) ≡ is_none (reel s reels)
lacks_by shelf s reels = ap is_none (row_told shelf s reels) ∙ is_none_row shelf (reel s reels)

pub mounted_by : (shelf : ℕ → List Dump) (s : ℕ) (reels : List Reel) → state.mounted_in (state.reel_at s (map (row_of shelf) (map unread reels))) ≡ is_mounted (reel s reels)
mounted_by shelf s reels = ap state.mounted_in (row_told shelf s reels) ∙ mounted_row shelf (reel s reels)
