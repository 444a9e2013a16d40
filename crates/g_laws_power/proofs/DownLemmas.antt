-- A STATE OF DEVICES is down already. So is one like it.
-- serves: crates above
use Rattle.std.proofs.Common.{◌≡◌, ℕ, List, [], Option, Some, None, refl, sym, ◌∙◌, ap}
use Rattle.std.specs.Prelude.{option_map}
use Rattle.g_disc_contents.specs.Contents.{Contents}
use Rattle.g_store_meaning.specs.Reading.{DevicesStandFor, View, holding_of, state_down}
use Rattle.g_store_meaning.specs.Safety.{StandLike}
use Rattle.g_store_model.specs.CallStep.{down, no_longer_kept}
use Rattle.g_store_model.specs.State.{Holding, State}
use Rattle.g_tape.specs.Rack.{Rack}
use Rattle.g_tape.specs.Reel.{Reel}

kept_nothing : (text : ℕ → List ℕ) (c : Option Contents) → option_map no_longer_kept (option_map (holding_of text []) c) ≡ option_map (holding_of text []) c
kept_nothing text None = refl
kept_nothing text (Some c) = refl

down_of : (v : View) (reels : List Reel) (size : ℕ) (c : Option Contents) → down (state_down v reels size c) ≡ state_down v reels size c
down_of v reels size c = ap (λ (h : Option Holding). let s : State = record (state_down v reels size c) { holding = h } in s) (kept_nothing v.text c)

pub devices_down : {size : ℕ} {held : Option (List (List ℕ))} {reels : List Reel} (u : State) → DevicesStandFor size held reels u → down u ≡ u
devices_down {size = size} {reels = reels} u is = ap down is.state_is ∙ down_of is.view reels size is.contents ∙ sym is.state_is

pub like_down : {size : ℕ} {blocks : List (List ℕ)} {rack : Rack} (u : State) → StandLike size blocks rack u → u ≡ down u
like_down u is = by is.state (devices_down is.state is.stands) is.like.same
  where
    by : (v : State) → down v ≡ v → v ≡ record u { reels = v.reels } → u ≡ down u
    by v same like =
        let back : (let s : State = record v { reels = u.reels } in s) ≡ u = ap (λ (s : State). let t : State = record s { reels = u.reels } in t) like in
        sym back ∙ ap (λ (s : State). let t : State = record s { reels = u.reels } in t) (sym same) ∙ ap down back
