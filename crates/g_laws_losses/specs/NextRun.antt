-- The next run after a run and a power loss.
use Rattle.std.specs.Prelude.{◌⊎◌, ℕ, List, Option}
use Rattle.std.specs.Fn.{Shared}
use denote.Ref.{Bor}
use Rattle.g_rules.specs.declared.tariff.Usage.{Usage}
use Rattle.g_rules.specs.declared.tariff.Charge.{Charge}
use Rattle.g_rules.specs.declared.rule.Standing.{Standing}
use Rattle.g_tape.specs.Rack.{Rack}
use Rattle.g_script.specs.declared.operator.Timed.{Timed}
use Rattle.g_store_model.specs.State.{State}
use Rattle.g_store_meaning.specs.Safety.{AreSafe, IsLeft, IsLike}
use Rattle.g_store_meaning.specs.Surviving.{disc_left}
use Rattle.g_run_model.specs.Devices.{Devices, StandFor}
use Rattle.g_run_model.specs.Losses.{MayBeLeft, StaysDown}
use Rattle.g_run_model.specs.Moves.{Move}
use Rattle.g_run_model.specs.Top.{SurvivesSoFar}
use Rattle.g_run_model.specs.World.{World, start}

-- Devices after a power loss that left these blocks and this rack.
abbrev pub after_loss : List (List ℕ) → Rack → Devices → Devices
after_loss blocks rack d = record { disc = disc_left blocks d.disc; rack = rack }

module _ {F U : Type 0} (tariffs : Shared F (Bor Usage × Unit {0}) Charge) (tariff : F) (rules : Shared U (Bor Standing × Unit {0}) ℕ) (rule : U) where
  -- The devices represent a state that may be left after these moves, apart from which reels are mounted and which have a block.
  pub record BeginsOn (first : World) (moves : List Move) (last : World) (d : Devices) : Type 0 where
    pub left : State
    pub may : MayBeLeft tariffs tariff rules rule first moves last left
    pub state : State
    pub like : IsLike left state
    pub stands : StandFor d state

  -- THE NEXT RUN BEGINS on safe devices, which represent a state that this run may leave. If the system was never up in this run, the loss could
  -- also have left the same before it.
  abbrev pub NextRunBegins : Type 0
  NextRunBegins = (lines : List Timed) (bad : Option ℕ) (s : State) (old new : Devices) (before after : Option (List ℕ))
      (run : SurvivesSoFar tariffs tariff rules rule lines bad s old new before after) → AreSafe new.disc new.rack
      → (blocks : List (List ℕ)) (rack : Rack) → IsLeft new.disc new.rack blocks rack
      → AreSafe (disc_left blocks new.disc) rack
      × (BeginsOn (start lines bad s) run.moves run.last (after_loss blocks rack new)
      ⊎ (StaysDown tariffs tariff rules rule (start lines bad s) run.moves run.last × IsLeft old.disc old.rack blocks rack))
