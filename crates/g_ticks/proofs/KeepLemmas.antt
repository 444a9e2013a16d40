-- What happens to completed dumps in the parts of a run, one after another.
-- serves: PartLemmas, TickedLemmas, UntilLemmas, crates above
use Rattle.std.proofs.Common.{◌≡◌, ◌++◌, ℕ, Bool, true, false, List, [], ◌∷◌, Option, refl, sym, ap, subst}
use Rattle.std.proofs.lemmas.List.Elements.{All-head}
use Rattle.g_tape.specs.Rack.{Rack}
use Rattle.g_lines.specs.Lines.{lines_of}
use Rattle.g_script.specs.Script.{IsParsed}
use Rattle.g_script.specs.declared.operator.Timed.{Timed}
use Rattle.g_script.proofs.OneReading.{reading_unique}
use Rattle.g_laws_store.proofs.ClosingLemmas.{all_left, all_right}
use Rattle.g_laws_store.specs.Moving.{DumpsMove}
use Rattle.g_run_model.specs.Lines.{is_process}
use Rattle.g_day.specs.Parts.{DumpsBy}
use Rattle.g_day.specs.System.{DumpsGrow, labels}
use Rattle.g_day.proofs.ByLemmas.{moved_by, moves_grown, moves_then}
use Rattle.g_day.proofs.GrowLemmas.{grow_itself, grow_then}
use Rattle.g_ticks.specs.Parts.{DumpsKept, HaveNoProcess}

-- if they stay, for any lines
pub kept_grown : (done : List Timed) (old new : Rack) → DumpsGrow old new → DumpsKept done old new
kept_grown done old new grows = record { move = moves_grown old new grows; stay = λ none. grows }

pub kept_itself : (done : List Timed) (r : Rack) → DumpsKept done r r
kept_itself done r = kept_grown done r r (grow_itself r)

pub moves_itself : (r : Rack) → DumpsMove r r
moves_itself r = moves_grown r r (grow_itself r)

-- a line
stays_by : (process : Bool) (old new : Rack) → process ≡ false → DumpsBy process old new → DumpsGrow old new
stays_by process old new none is = subst (λ (b : Bool). DumpsBy b old new) none is

pub kept_line : (next : Timed) (old new : Rack) → DumpsBy (is_process next.what) old new → DumpsKept (next ∷ []) old new
kept_line next old new is = record {
  move = moved_by (is_process next.what) old new is;
  stay = λ none. stays_by (is_process next.what) old new (All-head (λ (t : Timed). is_process t.what ≡ false) next [] none) is;
}

-- two parts, on the same reels
pub kept_then : (a b : List Timed) (old mid new : Rack) → labels new.reels ≡ labels mid.reels → DumpsKept a old mid → DumpsKept b mid new → DumpsKept (a ++ b) old new
kept_then a b old mid new same first later = record {
  move = moves_then old mid new same first.move later.move;
  stay = λ none.
      grow_then old mid new (first.stay (all_left (λ (t : Timed). is_process t.what ≡ false) a b none)) (later.stay (all_right (λ (t : Timed). is_process t.what ≡ false) a b none));
}

-- lines that weren't reached
pub kept_more : (a b : List Timed) (old new : Rack) → DumpsKept a old new → DumpsKept (a ++ b) old new
kept_more a b old new first = record { move = first.move; stay = λ none. first.stay (all_left (λ (t : Timed). is_process t.what ≡ false) a b none) }

-- the lines that were read are those of the script
pub stay_as : (left : List ℕ) (lines said : List Timed) (bad said_bad : Option ℕ) (old new : Rack) → IsParsed (lines_of left) said said_bad → IsParsed (lines_of left) lines bad
    → DumpsKept said old new → HaveNoProcess lines → DumpsGrow old new
stay_as left lines said bad said_bad old new was is kept none = kept.stay (subst HaveNoProcess (sym (reading_unique 1 (lines_of left) said lines said_bad bad was is).0) none)
