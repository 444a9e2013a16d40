-- Which state a power loss leaves after a run.
use Rattle.std.specs.Prelude.{◌≡◌, ◌⊎◌, ℕ, false, List, [], ◌∷◌, ◌++◌}
use Rattle.std.specs.Fn.{Shared}
use denote.Ref.{Bor}
use Rattle.g_rules.specs.declared.tariff.Usage.{Usage}
use Rattle.g_rules.specs.declared.tariff.Charge.{Charge}
use Rattle.g_rules.specs.declared.rule.Standing.{Standing}
use Rattle.g_store_model.specs.CallStep.{Cut, down}
use Rattle.g_store_model.specs.State.{State}
use Rattle.g_tape.specs.Rack.{Rack}
use Rattle.g_store_meaning.specs.Safety.{IsLeft, StandLike}
use Rattle.g_run_model.specs.Devices.{Devices}
use Rattle.g_run_model.specs.Moves.{Move, Run, Step, outcome_of}
use Rattle.g_run_model.specs.World.{World}

-- Whatever a power loss leaves of the new devices represents one of these states, or one like it; or this condition holds, and the loss could
-- have left the same of the old devices.
abbrev pub LeavesOf : (State → Type 0) → Type 0 → Devices → Devices → Type 0
LeavesOf Leaves NeverUp old new = (blocks : List (List ℕ)) (rack : Rack) → IsLeft new.disc new.rack blocks rack
    → ((u : State) × Leaves u × StandLike new.disc.size blocks rack u) ⊎ (NeverUp × IsLeft old.disc old.rack blocks rack)

module _ {F U : Type 0} (tariffs : Shared F (Bor Usage × Unit {0}) Charge) (tariff : F) (rules : Shared U (Bor Standing × Unit {0}) ℕ) (rule : U) where
  -- These moves lead from one world to the other, and the system is down before each of them and after it.
  abbrev pub StaysDown : World → List Move → World → Type 0
  StaysDown w [] new = new ≡ w
  StaysDown w (move ∷ moves) new = (mid : World) × Step tariffs tariff rules rule w move mid × (w.store.up ≡ false) × (mid.store.up ≡ false) × StaysDown mid moves new

  -- A moment of a run after which the system stays down: these moves led to it, and those followed. The last moment is one too, even if the
  -- system is up then.
  pub record DownSince (first : World) (moves : List Move) (last : World) (before after : List Move) (mid : World) : Type 0 where
    pub split : moves ≡ before ++ after
    pub led : Run tariffs tariff rules rule first before mid
    pub rest : StaysDown mid after last

  -- A STATE THAT A POWER LOSS MAY LEAVE after these moves: that of a moment since which the system has been down; or, if a failed write stopped
  -- the event that led to this moment, another one that the event may leave then.
  pub data MayBeLeft (first : World) (moves : List Move) (last : World) (u : State) : Type 0 where
    AsRead : (before after : List Move) (mid : World) → DownSince first moves last before after mid → u ≡ down mid.store → MayBeLeft first moves last u
    OtherEnd : (before after : List Move) (stop : Move) (was mid other : World) → Run tariffs tariff rules rule first before was
        → DownSince first moves last (before ++ stop ∷ []) after mid → outcome_of stop ≡ Cut → Step tariffs tariff rules rule was stop mid
        → Step tariffs tariff rules rule was stop other
        → u ≡ down other.store → MayBeLeft first moves last u

  -- Whatever a power loss leaves of the devices after these moves represents such a state, or one like it. If the system wasn't up during
  -- them, it may also leave what it could have left before.
  abbrev pub SurvivesLoss : World → List Move → World → Devices → Devices → Type 0
  SurvivesLoss first moves last old new = LeavesOf (λ u. MayBeLeft first moves last u) (StaysDown first moves last) old new
