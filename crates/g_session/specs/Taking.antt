-- WHAT A SESSION DOES for an item or an empty line. Internal: public contracts cite `Session` only.
use Rattle.std.specs.Prelude.{◌≡◌, ◌⊎◌, ℕ, Bool, true, false, List, [], ◌∷◌, Option, Some, None}
use Rattle.std.specs.Fn.{Shared}
use denote.Ref.{Bor}
use Rattle.g_rules.specs.declared.tariff.Charge.{Charge}
use Rattle.g_rules.specs.declared.tariff.Usage.{Usage}
use Rattle.g_rules.specs.declared.rule.Standing.{Standing}
use Rattle.g_io.specs.Streams.{HasPutPart, with_more}
use Rattle.g_script.specs.declared.operator.Timed.{Timed}
use Rattle.g_laws_runs.specs.BeginningAnew.{is_first}
use Rattle.g_laws_sessions.specs.Session.{tick_line}
use Rattle.g_day.specs.declared.progress.Failure.{Failure}
use Rattle.g_day.specs.BeginningAnew.{IsBlank, beside}
use Rattle.g_day.specs.Losses.{Never}
use Rattle.g_day.specs.Parts.{Seen}
use Rattle.g_day.specs.Puts.{HasGrown}
use Rattle.g_day.specs.System.{SystemFacts, SystemSafe}
use Rattle.g_run.specs.NextLine.{HoldsGoFrom}
use Rattle.g_ticks.specs.Parts.{BeginsBy, IsAtRest, Keeps, PartGoes, PartGoesFrom}

module _ {F U : Type 0} (tariffs : Shared F (Bor Usage × Unit {0}) Charge) (tariff : F) (rules : Shared U (Bor Standing × Unit {0}) ℕ) (rule : U) where
  -- THE SYSTEM RUNS until nothing can step
  pub record DidRest (old : Seen) (failure : Option Failure) (new : Seen) (before after : Option (List ℕ)) (faults faults' : ℕ) : Type 0 where
    pub goes : PartGoes tariffs tariff rules rule IsAtRest [] [] old failure new before after
    pub keeps : Keeps [] old failure new faults faults'
    pub grows : HasGrown before after
    -- with a new disc in place of a blank one
    pub aside : IsBlank old.system → IsBlank new.system × PartGoesFrom tariffs tariff rules rule Never IsAtRest [] [] (beside old) failure (beside new) before after

  -- it does, and the count of ticks is printed
  abbrev pub RestsAndTells : (SystemFacts → Type 0) → Seen → Option Failure → Seen → Option (List ℕ) → Option (List ℕ) → Type 0
  RestsAndTells Safe old None new before after =
      (middle : Option (List ℕ)) × PartGoesFrom tariffs tariff rules rule Safe IsAtRest [] [] old None new before middle × (after ≡ with_more middle (tick_line new.count))
  RestsAndTells Safe old (Some failure) new before after = PartGoesFrom tariffs tariff rules rule Safe IsAtRest [] [] old (Some failure) new before after
      ⊎ ((middle : Option (List ℕ)) × PartGoesFrom tariffs tariff rules rule Safe IsAtRest [] [] old None new before middle × HasPutPart middle (tick_line new.count) after)

  pub record DidRestAndTell (old : Seen) (failure : Option Failure) (new : Seen) (before after : Option (List ℕ)) (faults faults' : ℕ) : Type 0 where
    pub goes : RestsAndTells SystemSafe old failure new before after
    pub keeps : Keeps [] old failure new faults faults'
    pub grows : HasGrown before after
    pub aside : IsBlank old.system → IsBlank new.system × RestsAndTells Never (beside old) failure (beside new) before after

  -- AN ITEM IS TAKEN: with a time as a line of a script; without one everything runs after it until nothing can step
  abbrev pub TakesItem : (SystemFacts → Type 0) → Bool → Timed → Seen → Option Failure → Seen → Option (List ℕ) → Option (List ℕ) → Type 0
  TakesItem Safe true next old failure new before after = HoldsGoFrom tariffs tariff rules rule Safe next old failure new before after
  TakesItem Safe false next old failure new before after = PartGoesFrom tariffs tariff rules rule Safe IsAtRest (next ∷ []) [] old failure new before after

  pub record DidTake (timed : Bool) (next : Timed) (old : Seen) (failure : Option Failure) (new : Seen) (before after : Option (List ℕ)) (faults faults' : ℕ) : Type 0 where
    pub goes : TakesItem SystemSafe timed next old failure new before after
    pub keeps : Keeps (next ∷ []) old failure new faults faults'
    pub grows : HasGrown before after
    -- on blank devices: a FORMAT, or a line that doesn't use the filestore
    pub first : is_first next.what ≡ true → IsBlank old.system → BeginsBy (λ s. TakesItem Never timed next (beside old) failure s before after) (next ∷ []) old failure new
