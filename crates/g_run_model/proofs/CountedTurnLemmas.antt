-- The world after a turn; the end of a turn preserves the lines and what belongs to them.
-- serves: crates above
use Rattle.std.proofs.Common.{◌≡◌, None, refl}
use Rattle.g_turn.specs.State.{Work}
use Rattle.g_job.specs.State.{JobState}
use Rattle.g_rules.specs.declared.turn.Turn.{Turn}
use Rattle.g_rules.specs.declared.turn.Turn.TheVariants as turns
use Rattle.g_plain.specs.Programs.{Gives}
use Rattle.g_store_model.specs.State.{State}
use Rattle.g_run_model.specs.Moves.{turn_told}
use Rattle.g_run_model.specs.World.{KeepsLines, Stepped, Turned, World, shows}
use Rattle.g_run_model.proofs.TurnLemmas.{with_turn}

pub keeps_itself : (w : World) → KeepsLines w w
keeps_itself w = record { lines = refl; bad = refl; over = refl; count = refl; disc_stops = refl; tape_stops = refl }

-- the end of a turn preserves the lines and what belongs to them
pub turn_keeps : (after : JobState) (turn : Turn) (w : World) → KeepsLines w (turn_told after turn w)
turn_keeps after turns.Broken w = record { lines = refl; bad = refl; over = refl; count = refl; disc_stops = refl; tape_stops = refl }
turn_keeps after (turns.Wants serial) w = record { lines = refl; bad = refl; over = refl; count = refl; disc_stops = refl; tape_stops = refl }
turn_keeps after (turns.Ran units money) w = record { lines = refl; bad = refl; over = refl; count = refl; disc_stops = refl; tape_stops = refl }
turn_keeps after (turns.Ended units money) w = record { lines = refl; bad = refl; over = refl; count = refl; disc_stops = refl; tape_stops = refl }

-- the world after a turn
abbrev pub turned_world : World → JobState → State → Work → Turn → JobState → World
turned_world w job t work turn after = record (turn_told after turn (shows job after (with_turn (record w { phase = Stepped }) t job.number (Gives work)))) { turn = None; phase = Turned }
