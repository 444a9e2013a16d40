-- In a state that devices represent a tree is dumped if a reel has a dump.
-- serves: crates above
use Rattle.std.proofs.Common.{◌≡◌, ◌&&◌, ◌++◌, ℕ, Bool, true, List, [], ◌∷◌, map, Option, Some, None, option_map, refl, sym, ◌∙◌, ap, subst}
use Rattle.std.specs.List.{list_all}
use Rattle.g_incr.specs.Layout.{Dump}
use Rattle.g_shelf.specs.CompletedDumps.{all_dumps}
use Rattle.g_store_meaning.specs.Meaning.{DumpedDirectory, told_reels}
use Rattle.g_store_meaning.specs.Reading.{dumped_of, row_of}
use Rattle.g_store_model.specs.Rising.{has_none}
use Rattle.g_store_model.specs.State.{Dumped, ReelRow, State}
use Rattle.g_tape.specs.Reel.{Reel}
use Rattle.g_run_model.specs.Devices.{Devices, StandFor}
use Rattle.g_run_model.specs.Laws.{HasDumped}

-- a reel's row, by its dumps
abbrev row_by : Reel → List Dump → ReelRow
row_by r ds = row_of (λ _. ds) r

first_none : (r : Reel) (ds rest : List Dump) → ds ++ rest ≡ [] → (has_none (row_by r ds) ≡ true) × (rest ≡ [])
first_none r [] rest e = (refl, e)
first_none r (d ∷ ds) rest e = absurd (let no : ⊥ = cc in no)

all_none : (shelf : ℕ → List Dump) (reels : List Reel) → all_dumps shelf reels ≡ [] → list_all has_none (map (row_of shelf) reels) ≡ true
all_none shelf [] e = refl
all_none shelf (r ∷ reels) e =
    let first = first_none r (shelf r.serial) (all_dumps shelf reels) e in
    ap (λ (b : Bool). b && list_all has_none (map (row_of shelf) reels)) first.0 ∙ all_none shelf reels first.1

none_dumped : {dumps : List Dump} (text : ℕ → List ℕ) (t : Option (DumpedDirectory dumps)) → (let none : Option Dumped = None in option_map (dumped_of text) t ≡ none) → t ≡ None
none_dumped text None e = refl
none_dumped text (Some t) e = absurd (let no : ⊥ = cc in no)

pub devices_dumped : (d : Devices) (s : State) → StandFor d s → HasDumped s
devices_dumped d s stand =
    subst HasDumped (sym stand.is) (λ none. all_none stand.shelf (told_reels d.rack) (stand.undumped (none_dumped stand.text stand.dumped none)))
