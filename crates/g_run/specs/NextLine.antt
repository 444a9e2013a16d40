-- THE NEXT LINE of a script: what its function promises. Internal: public contracts cite `Top` only.
use Rattle.std.specs.Prelude.{◌≡◌, ℕ, Bool, true, List, [], ◌∷◌, ◌++◌, Option, Some, None}
use Rattle.std.specs.Fn.{Shared}
use denote.Ref.{Bor}
use Rattle.g_rules.specs.declared.tariff.Charge.{Charge}
use Rattle.g_rules.specs.declared.tariff.Usage.{Usage}
use Rattle.g_rules.specs.declared.rule.Standing.{Standing}
use Rattle.g_script.specs.declared.operator.Timed.{Timed}
use Rattle.g_store_model.specs.CallStep.{Outcome}
use Rattle.g_run_model.specs.Moves.{Move, TakeLine}
use Rattle.g_run_model.specs.World.{World}
use Rattle.g_laws_runs.specs.BeginningAnew.{is_first}
use Rattle.g_day.specs.declared.progress.Failure.{Failure}
use Rattle.g_day.specs.BeginningAnew.{IsBlank, beside}
use Rattle.g_day.specs.Losses.{Never}
use Rattle.g_day.specs.Parts.{Matches, Seen}
use Rattle.g_day.specs.System.{SystemFacts, SystemSafe}
use Rattle.g_ticks.specs.Tick.{IsBetween}
use Rattle.g_ticks.specs.Parts.{Anything, ArrivesFrom, BeginsBy, BreaksFrom, DidLines}

-- the last of these moves takes a line
abbrev pub EndsWithLine : List Move → Type 0
EndsWithLine moves = (front : List Move) × (tape : Bool) × (outcome : Outcome) × (moves ≡ front ++ TakeLine tape outcome ∷ [])

module _ {F U : Type 0} (tariffs : Shared F (Bor Usage × Unit {0}) Charge) (tariff : F) (rules : Shared U (Bor Standing × Unit {0}) ℕ) (rule : U) where
  -- a line is taken when it is due, and nothing happens after it
  abbrev pub HoldsGoFrom : (SystemFacts → Type 0) → Timed → Seen → Option Failure → Seen → Option (List ℕ) → Option (List ℕ) → Type 0
  HoldsGoFrom Safe next old None new before after = (w : World) → Matches w old → IsBetween w → w.lines ≡ next ∷ []
      → (a : ArrivesFrom tariffs tariff rules rule Safe Anything w [] old new before after) × EndsWithLine a.moves
  HoldsGoFrom Safe next old (Some failure) new before after = (w : World) → Matches w old → IsBetween w → w.lines ≡ next ∷ []
      → BreaksFrom tariffs tariff rules rule Safe w old.system new.system before after

  abbrev pub HoldsGo : Timed → Seen → Option Failure → Seen → Option (List ℕ) → Option (List ℕ) → Type 0
  HoldsGo next old failure new before after = HoldsGoFrom SystemSafe next old failure new before after

  -- ONE LINE of a script
  pub record DidNext (next : Timed) (old : Seen) (failure : Option Failure) (new : Seen) (before after : Option (List ℕ)) (faults faults' : ℕ) : Type 0 where
    pub did : DidLines tariffs tariff rules rule (next ∷ []) old failure new before after faults faults'
    pub holds : HoldsGo next old failure new before after
    -- for starting over: a FORMAT, or a line that doesn't use the filestore
    pub first : is_first next.what ≡ true → IsBlank old.system → BeginsBy (λ s. HoldsGoFrom Never next (beside old) failure s before after) (next ∷ []) old failure new
