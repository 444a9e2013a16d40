-- A line of the operator, done on a system: the world afterwards, for any world before, and what holds for all devices.
use Rattle.std.specs.Prelude.{◌≡◌, ◌⊎◌, ◌+◌, ◌<◌, ◌≤◌, ℕ, Bool, true, false, List, [], ◌++◌, Option, Some, None}
use Rattle.g_base.specs.Fuse.{IsArmedBy, IsArmedWithin}
use Rattle.g_io.specs.Streams.{with_more, HasPutPart}
use Rattle.g_lines.specs.Documents.{IsOneLine}
use Rattle.g_tape.specs.Rack.{Rack}
use Rattle.g_store_model.specs.CallStep.{Outcome, Plain}
use Rattle.g_laws_store.specs.Moving.{DumpsMove}
use Rattle.g_script.specs.declared.operator.Operator.{Operator}
use Rattle.g_script.specs.declared.operator.Operator.TheVariants as line
use Rattle.g_run_model.specs.Devices.{Devices}
use Rattle.g_run_model.specs.Lines.{LineGives, is_process}
pub use Rattle.g_run_model.specs.Lines.{disc_arms, tape_arms}
use Rattle.g_run_model.specs.Moves.{EventCounted, LineCounted}
use Rattle.g_run_model.specs.Top.{IsArmedIn}
use Rattle.g_run_model.specs.World.{World}
use Rattle.g_job_table.specs.Crew.{CrewState, IsCrewOf}
use Rattle.g_job_table.specs.Numbers.{AreOpen}
use Rattle.g_day.specs.declared.progress.Failure.{Failure}
use Rattle.g_day.specs.Losses.{LineLeft, SystemLeaves}
use Rattle.g_day.specs.Puts.{FaultCause, HasGrown}
use Rattle.g_day.specs.System.{Down, DumpsGrow, SameDevices, StandsAs, SystemBelongs, SystemFacts, SystemSafe, Up, devices_in}

-- What a run has at hand.
pub record Seen : Type 0 where
  pub system : SystemFacts
  pub crew : CrewState
  pub count : ℕ

-- What is at hand, from its parts.
abbrev pub seen : SystemFacts → CrewState → ℕ → Seen
seen system crew count = record { system = system; crew = crew; count = count }

-- A run has this at hand between its events, on a disc of a size that a filestore can have: a store that isn't spent, or,
-- while the system is down, neither jobs nor accounts.
abbrev pub IsReady : SystemFacts → CrewState → Type 0
IsReady (Up s) c = (s.spent ≡ false) × (2177 < s.online.disc.size) × (s.online.disc.size ≤ 1048576)
IsReady (Down d) c = (2177 < d.disc.size) × (d.disc.size ≤ 1048576) × (c.jobs ≡ []) × (c.accounts ≡ [])

-- The world matches what is at hand.
pub record Matches (w : World) (seen : Seen) : Type 0 where
  pub stands : StandsAs seen.system w.store
  pub crew : IsCrewOf w seen.crew
  pub count : w.count ≡ seen.count

-- The limits of an operator's line.
abbrev pub IsWithin : Operator → Type 0
IsWithin (line.Job name user time money lines) = ((1 ≤ time) × (time ≤ 1000000)) × (money ≤ 1000000)
IsWithin (line.StopDisc k) = 1 ≤ k
IsWithin (line.StopTape k) = 1 ≤ k
IsWithin (line.Login t user time) = ((1 ≤ t) × (t ≤ 8)) × ((1 ≤ time) × (time ≤ 1000000))
IsWithin (line.Typed t text) = ((1 ≤ t) × (t ≤ 8)) × IsOneLine text
IsWithin (line.Logout t) = (1 ≤ t) × (t ≤ 8)
IsWithin what = Unit {0}

-- What the devices count in a line.
abbrev pub CountedBy : Operator → Outcome → Devices → Devices → Type 0
CountedBy what o old new = LineCounted (is_process what) o (disc_arms what) (tape_arms what) old new

-- What happens to completed dumps in a line: they stay, except in a PROCESS, which may release whole reels if a newer dump
-- holds everything.
abbrev pub DumpsBy : Bool → Rack → Rack → Type 0
DumpsBy true old new = DumpsMove old new
DumpsBy false old new = DumpsGrow old new

-- The line was done. With an outcome that the counters show it leads to the next world. The system represents the store of
-- that world, and its text is longer. From a safe system, whatever a power loss leaves is a state that it may leave after this line.
pub record DoesLineFrom (Safe : SystemFacts → Type 0) (what : Operator) (w : World) (old new : SystemFacts) (added : List ℕ) : Type 0 where
  pub outcome : Outcome
  pub next : World
  pub gives : LineGives outcome what w next
  pub counted : CountedBy what outcome (devices_in old) (devices_in new)
  pub stands : StandsAs new next.store
  pub left : Safe old → LineLeft what outcome w next old new
  pub text : next.text ≡ w.text ++ added

-- Nothing was done, because memory ran out. A power loss leaves no more than before.
pub record DoesNothingFrom (Safe : SystemFacts → Type 0) (w : World) (old new : SystemFacts) (before after : Option (List ℕ)) : Type 0 where
  pub counted : EventCounted Plain [] [] (devices_in old) (devices_in new)
  pub stands : StandsAs new w.store
  pub left : Safe old → SystemLeaves (λ u. ⊥) (w.store.up ≡ false) old new
  pub text : after ≡ before

-- From a system of which all is claimed.
abbrev pub DoesLine : Operator → World → SystemFacts → SystemFacts → List ℕ → Type 0
DoesLine what w old new added = DoesLineFrom SystemSafe what w old new added

abbrev pub DoesNothing : World → SystemFacts → SystemFacts → Option (List ℕ) → Option (List ℕ) → Type 0
DoesNothing w old new before after = DoesNothingFrom SystemSafe w old new before after

-- For each world that matches what is at hand: if nothing failed, the line was done, its text was written, and the next
-- world matches what is at hand then. Otherwise it was done and a prefix of its text was written, or nothing was done.
abbrev pub LineGoesFrom : (SystemFacts → Type 0) → Operator → Seen → Option Failure → Seen → Option (List ℕ) → Option (List ℕ) → Type 0
LineGoesFrom Safe what old None new before after = (w : World) → Matches w old
    → (added : List ℕ) × (d : DoesLineFrom Safe what w old.system new.system added) × Matches d.next new × (after ≡ with_more before added)
LineGoesFrom Safe what old (Some failure) new before after = (w : World) → Matches w old
    → DoesNothingFrom Safe w old.system new.system before after
    ⊎ ((added : List ℕ) × DoesLineFrom Safe what w old.system new.system added × HasPutPart before added after)

abbrev pub LineGoes : Operator → Seen → Option Failure → Seen → Option (List ℕ) → Option (List ℕ) → Type 0
LineGoes what old failure new before after = LineGoesFrom SystemSafe what old failure new before after

-- Whether or not the devices expose their contents, a line arms a device with its number; a line that isn't completed may
-- not arm it. It was armed within this line.
pub record ArmsBy (what : Operator) (failure : Option Failure) (old new : Devices) : Type 0 where
  pub disc : IsArmedWithin (disc_arms what) old.disc.arms new.disc.arms
  pub tape : IsArmedWithin (tape_arms what) old.rack.arms new.rack.arms
  pub all : failure ≡ None → IsArmedBy (disc_arms what) old.disc.arms new.disc.arms × IsArmedBy (tape_arms what) old.rack.arms new.rack.arms
  pub disc_since : IsArmedIn old.disc.writes new.disc.writes old.disc.arms new.disc.arms
  pub tape_since : IsArmedIn old.rack.write_faults new.rack.write_faults old.rack.arms new.rack.arms

-- Whether or not the devices expose their contents, a line leaves jobs that can take turns, and assigns at most one number.
pub record LeavesCrew (old new : CrewState) : Type 0 where
  pub jobs : AreOpen old.jobs → AreOpen new.jobs
  pub numbers : new.next_job ≤ old.next_job + 1

-- A STOP line sets the fuse of its device to this number.
abbrev pub FusesBy : Operator → Devices → Type 0
FusesBy (line.StopDisc k) d = d.disc.fuse ≡ Some k
FusesBy (line.StopTape k) d = d.rack.fuse ≡ Some k
FusesBy what d = Unit {0}

-- A part of a run that does a line. A safe system stays safe: whatever a power loss leaves of it later, a safe store can be made of that.
pub record DidLineFrom (Safe : SystemFacts → Type 0) (what : Operator) (old : Seen) (failure : Option Failure) (new : Seen) (before after : Option (List ℕ)) (faults faults' : ℕ) : Type 0 where
  pub goes : LineGoesFrom Safe what old failure new before after
  pub ready : IsReady new.system new.crew
  pub crew : failure ≡ None → LeavesCrew old.crew new.crew
  pub arms : ArmsBy what failure (devices_in old.system) (devices_in new.system)
  pub count : new.count ≡ old.count
  pub fuses : FusesBy what (devices_in new.system)
  pub same : SameDevices (devices_in old.system) (devices_in new.system)
  pub belongs : SystemBelongs old.system → SystemBelongs new.system
  pub safe : Safe old.system → Safe new.system
  pub dumps : SystemBelongs old.system → DumpsBy (is_process what) (devices_in old.system).rack (devices_in new.system).rack
  pub cause : FaultCause failure faults faults'
  pub grows : HasGrown before after

-- A part of a run that does a line, from a system of which all is claimed.
abbrev pub DidLine : Operator → Seen → Option Failure → Seen → Option (List ℕ) → Option (List ℕ) → ℕ → ℕ → Type 0
DidLine what old failure new before after faults faults' = DidLineFrom SystemSafe what old failure new before after faults faults'
