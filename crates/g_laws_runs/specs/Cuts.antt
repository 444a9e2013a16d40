-- Which device failed: the disc in every event except a dump step and PROCESS, which also write reels. Therefore, if the
-- disc's counter didn't rise, no call of a run was interrupted and no line except a PROCESS, for any counts of the rack.
use Rattle.std.specs.Prelude.{◌≡◌, ◌≢◌, true, List, All}
use Rattle.g_base.specs.Counts.{Rose}
use Rattle.g_store_model.specs.CallStep.{Cut}
use Rattle.g_run_model.specs.Devices.{Devices}
use Rattle.g_run_model.specs.Moves.{Counted, Move, not_dump, outcome_of}
use Rattle.g_run_model.specs.World.{World}

-- If the disc's count of failed writes didn't rise, only dump steps and PROCESS were interrupted.
abbrev pub TapesCutNoCall : Type 0
TapesCutNoCall = (moves : List Move) (last : World) (old new : Devices) → Counted moves last old new → (Rose old.disc.write_faults new.disc.write_faults → ⊥)
    → All (λ move. not_dump move ≡ true → outcome_of move ≢ Cut) moves
