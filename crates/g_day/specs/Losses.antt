-- What a power loss leaves of a system after a line or some moves.
use Rattle.std.specs.Prelude.{◌≡◌, ℕ, false, List}
use Rattle.std.specs.Fn.{Shared}
use denote.Ref.{Bor}
use Rattle.g_rules.specs.declared.tariff.Usage.{Usage}
use Rattle.g_rules.specs.declared.tariff.Charge.{Charge}
use Rattle.g_rules.specs.declared.rule.Standing.{Standing}
use Rattle.g_store_model.specs.CallStep.{Cut, Outcome, down}
use Rattle.g_store_model.specs.State.{State}
use Rattle.g_script.specs.declared.operator.Operator.{Operator}
use Rattle.g_store_meaning.specs.Safety.{IsLeft}
use Rattle.g_tape.specs.Rack.{Rack}
use Rattle.g_run_model.specs.Lines.{LineGives}
use Rattle.g_run_model.specs.Losses.{LeavesOf, MayBeLeft, StaysDown}
use Rattle.g_run_model.specs.Moves.{Move}
use Rattle.g_run_model.specs.World.{World}
use Rattle.g_day.specs.System.{Down, SystemFacts, Up, devices_in}

-- No system. Nothing is specified about what a power loss leaves of one that is only imagined.
abbrev pub Never : SystemFacts → Type 0
Never f = ⊥

-- Whatever a power loss leaves of a system that is down represents one of these states, or one like it; or this condition holds, and the
-- loss could have left the same of the old system. (Of one that is up it leaves its state: `StoreSurvives` of g_store_meaning.)
abbrev pub SystemLeaves : (State → Type 0) → Type 0 → SystemFacts → SystemFacts → Type 0
SystemLeaves Leaves NeverUp old (Up s) = Unit {0}
SystemLeaves Leaves NeverUp old (Down d) = LeavesOf Leaves NeverUp (devices_in old) d

-- A power loss leaves no more of the new system than of the old one, which was down if the new one is. (Of one that is up it leaves its state.)
abbrev pub LeavesLess : SystemFacts → SystemFacts → Type 0
LeavesLess old (Up s) = Unit {0}
LeavesLess (Up s) (Down d) = ⊥
LeavesLess (Down d) (Down e) = (blocks : List (List ℕ)) (rack : Rack) → IsLeft e.disc e.rack blocks rack → IsLeft d.disc d.rack blocks rack

-- A state that a power loss may leave after a line: the one that it led to; or, if a failed write stopped it, another one that it may lead to
-- then.
pub data LineMayLeave (what : Operator) (o : Outcome) (w next : World) (u : State) : Type 0 where
  AsRead : u ≡ down next.store → LineMayLeave what o w next u
  OtherEnd : o ≡ Cut → (other : World) → LineGives o what w other → u ≡ down other.store → LineMayLeave what o w next u

-- What a power loss leaves of the system after a line that led from one world to the next.
abbrev pub LineLeft : Operator → Outcome → World → World → SystemFacts → SystemFacts → Type 0
LineLeft what o w next old new = SystemLeaves (λ u. LineMayLeave what o w next u) ((w.store.up ≡ false) × (next.store.up ≡ false)) old new

module _ {F U : Type 0} (tariffs : Shared F (Bor Usage × Unit {0}) Charge) (tariff : F) (rules : Shared U (Bor Standing × Unit {0}) ℕ) (rule : U) where
  -- what a power loss leaves of the system after moves that led from one world to the next
  abbrev pub LeftAfter : World → List Move → World → SystemFacts → SystemFacts → Type 0
  LeftAfter w moves next old new = SystemLeaves (λ u. MayBeLeft tariffs tariff rules rule w moves next u) (StaysDown tariffs tariff rules rule w moves next) old new
