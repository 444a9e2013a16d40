-- A document that is held open, and when a turn can continue before all of its lines are typed.
use Rattle.std.specs.Prelude.{Bool, is_some, ◌||◌}
use Rattle.g_turn.specs.State.{Desk, Work}
use Rattle.g_macro.specs.Holding.{are_ready}
use Rattle.g_macro.specs.Levels.{Stack}

-- The work with its levels changed.
abbrev pub with_stack : (Stack → Stack) → Work → Work
with_stack change w = record w { desk = record w.desk { levels = change w.desk.levels } }

-- A turn can continue: a run of the program isn't over, or the levels are ready.
abbrev pub can_go_on : Desk → Bool
can_go_on desk = is_some desk.running || are_ready desk.levels
