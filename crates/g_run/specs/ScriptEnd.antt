-- A SCRIPT that was read and done to its end: its lines were done, the system was taken down, and both devices were returned.
use Rattle.std.specs.Prelude.{◌≡◌, ◌⊎◌, ℕ, List, Option, Some, None}
use Rattle.std.specs.Fn.{Shared}
use denote.Ref.{Bor}
use Rattle.g_rules.specs.declared.tariff.Charge.{Charge}
use Rattle.g_rules.specs.declared.tariff.Usage.{Usage}
use Rattle.g_disc.specs.Disc.{DiscState}
use Rattle.g_rules.specs.declared.rule.Standing.{Standing}
use Rattle.g_script.specs.declared.operator.Timed.{Timed}
use Rattle.g_store_meaning.specs.Safety.{AreSafe}
use Rattle.g_store_model.specs.CallStep.{down}
use Rattle.g_store_model.specs.State.{State}
use Rattle.g_tape.specs.Rack.{Rack}
use Rattle.g_run_model.specs.Devices.{AreReadAs, Devices, StandFor}
use Rattle.g_run_model.specs.Top.{AreArmings, SurvivesSoFar}
use Rattle.g_laws_runs.specs.BeginningAnew.{AreBlank, BeginAnew, NoDiscFault, with_new_disc}
use Rattle.g_day.specs.declared.progress.Failure.{Failure}
use Rattle.g_day.specs.Puts.{FaultCause, Puts}
use Rattle.g_day.specs.System.{BelongTogether, SameDevices, StandsAs, SystemFacts, devices_in}
use Rattle.g_ticks.specs.Parts.{DumpsKept}
use Rattle.g_run.specs.Top.{EndsBy, HasMissed}

abbrev pub both : DiscState → Rack → Devices
both d r = record { disc = d; rack = r }

-- the text of the end is printed, unless a failure preceded it
abbrev pub ClosesBy : Option Failure → List ℕ → Option Failure → Option (List ℕ) → Option (List ℕ) → ℕ → ℕ → Type 0
ClosesBy None text failure before after old new = Puts failure text before after old new
ClosesBy (Some came) text failure before after old new = (failure ≡ Some came) × (after ≡ before) × (new ≡ old)

-- A SYSTEM TAKEN DOWN: its devices, which represent the state that it represented, down
pub record TakenDown (f : SystemFacts) (d : Devices) : Type 0 where
  pub devices : d ≡ devices_in f
  pub stands : (u : State) → StandsAs f u → AreReadAs d (down u)

module _ {F U : Type 0} (tariffs : Shared F (Bor Usage × Unit {0}) Charge) (tariff : F) (rules : Shared U (Bor Standing × Unit {0}) ℕ) (rule : U) where
  -- starting over: no FORMAT took effect, and nothing else was done
  pub record EndsBeside (failure : Option Failure) (lines : List Timed) (bad : Option ℕ) (old new : Devices) (before after : Option (List ℕ)) : Type 0 where
    pub ends : EndsBy tariffs tariff rules rule failure lines bad (with_new_disc old) (with_new_disc new) before after
    pub blank : AreBlank new
    pub unwell : failure ≡ None → NoDiscFault old new → ⊥

  pub record DidScript (lines : List Timed) (bad : Option ℕ) (old : Devices) (failure : Option Failure) (new : Devices) (before after : Option (List ℕ)) (faults faults' : ℕ) : Type 0 where
    pub ends : EndsBy tariffs tariff rules rule failure lines bad old new before after
    -- whatever a power loss leaves is a state that it may leave after the events that were done
    pub survives : AreSafe old.disc old.rack → (s : State) → StandFor old s → SurvivesSoFar tariffs tariff rules rule lines bad s old new before after
    -- on blank devices: from the state of a new disc
    pub anew : BeginAnew lines → AreBlank old → EndsBeside failure lines bad old new before after
        ⊎ (EndsBy tariffs tariff rules rule failure lines bad (with_new_disc old) new before after ⊎ HasMissed tariffs tariff rules rule lines bad old new before after)
    pub arms : AreArmings lines (failure ≡ None) old new
    pub same : SameDevices old new
    pub belongs : BelongTogether old → BelongTogether new
    pub safe : AreSafe old.disc old.rack → AreSafe new.disc new.rack
    pub dumps : BelongTogether old → DumpsKept lines old.rack new.rack
    pub cause : FaultCause failure faults faults'
