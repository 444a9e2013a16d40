-- A line of a system that is down, when starting over: what MOUNT, UNMOUNT and STOP do next to a new disc; and FORMAT on
-- devices for starting over, which makes of them what it makes of a new disc and the same reels, or leaves them as devices
-- for starting over.
use Rattle.std.specs.Prelude.{◌≡◌, ◌⊎◌, ℕ, List, Option, None}
use Rattle.g_script.specs.declared.operator.Operator.{Operator}
use Rattle.g_script.specs.declared.operator.Operator.TheVariants as line
use Rattle.g_laws_runs.specs.BeginningAnew.{AreBlank, NoDiscFault, with_new_disc}
use Rattle.g_day.specs.declared.progress.Failure.{Failure}
use Rattle.g_day.specs.Losses.{Never}
use Rattle.g_day.specs.Parts.{DidLine, DidLineFrom, Seen, seen}
use Rattle.g_day.specs.System.{Down, SystemFacts, Up, devices_in}

-- The same system, with a new disc in place of its own if it is down.
abbrev pub beside_new : SystemFacts → SystemFacts
beside_new (Up s) = Up s
beside_new (Down d) = Down (with_new_disc d)

-- What is at hand, with a new disc in place of the old one if the system is down.
abbrev pub beside : Seen → Seen
beside s = seen (beside_new s.system) s.crew s.count

-- The system is down, on devices for starting over.
abbrev pub IsBlank : SystemFacts → Type 0
IsBlank (Up s) = ⊥
IsBlank (Down d) = AreBlank d

-- The line would have the same effect with a new disc, and preserves devices for starting over.
pub record WentAside (what : Operator) (old : Seen) (failure : Option Failure) (new : Seen) (before after : Option (List ℕ)) (faults faults' : ℕ) : Type 0 where
  pub line : DidLine what (beside old) failure (beside new) before after faults faults'
  pub blank : IsBlank old.system → IsBlank new.system

-- No filestore came up by the line. It leads from and to what is at hand with a new disc; nothing is specified about what a power loss leaves
-- of that. A FORMAT that was processed
-- without a failure of the run has failed at the disc, which counted it.
pub record IsUntaken (what : Operator) (old : Seen) (failure : Option Failure) (new : Seen) (before after : Option (List ℕ)) (faults faults' : ℕ) : Type 0 where
  pub went : DidLineFrom Never what (beside old) failure (beside new) before after faults faults'
  pub blank : IsBlank new.system
  pub unwell : failure ≡ None → what ≡ line.Format → NoDiscFault (devices_in old.system) (devices_in new.system) → ⊥

-- A line on devices for starting over, for any outcome: no filestore came up by it, or one did, as from a new disc.
abbrev pub GoesFirst : Operator → Seen → Option Failure → Seen → Option (List ℕ) → Option (List ℕ) → ℕ → ℕ → Type 0
GoesFirst what old failure new before after faults faults' =
    IsBlank old.system → IsUntaken what old failure new before after faults faults' ⊎ DidLineFrom Never what (beside old) failure new before after faults faults'

-- What each line does when starting over. Other lines are not specified.
abbrev pub AnewLine : Operator → Seen → Option Failure → Seen → Option (List ℕ) → Option (List ℕ) → ℕ → ℕ → Type 0
AnewLine (line.Mount serial) old failure new before after faults faults' = WentAside (line.Mount serial) old failure new before after faults faults'
AnewLine (line.Unmount serial) old failure new before after faults faults' = WentAside (line.Unmount serial) old failure new before after faults faults'
AnewLine (line.StopDisc k) old failure new before after faults faults' = WentAside (line.StopDisc k) old failure new before after faults faults'
AnewLine (line.StopTape k) old failure new before after faults faults' = WentAside (line.StopTape k) old failure new before after faults faults'
AnewLine line.Format old failure new before after faults faults' = GoesFirst line.Format old failure new before after faults faults'
AnewLine what old failure new before after faults faults' = Unit {0}
