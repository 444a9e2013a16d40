-- A JOB AT A TERMINAL: its document is held open, typed lines are appended to it, and it takes a turn if it is ready.
use Rattle.std.specs.Prelude.{Bool, List, Some, [], is_some, length, true, ℕ, ◌<◌, ◌||◌, ◌≡◌, ◌⊎◌}
use Rattle.g_turn.specs.State.{Work}
use Rattle.g_job.specs.State.{JobState}
use Rattle.g_macro.specs.Holding.{are_ready, document_level, finished, held_open, with_typed}
use Rattle.g_macro.specs.Levels.{Stack}

-- The job with its levels changed.
abbrev pub with_stack : (Stack → Stack) → JobState → JobState
with_stack change j = record j { desk = record j.desk { levels = change j.desk.levels } }

-- The job's document is held open.
abbrev pub held : JobState → JobState
held j = with_stack held_open j

-- The job is at this terminal.
abbrev pub seated : ℕ → JobState → JobState
seated t j = record j { terminal = Some t }

-- A LINE IS TYPED: it is appended to the document.
abbrev pub typed_to : List ℕ → JobState → JobState
typed_to line j = with_stack (with_typed line) j

-- The job after its terminal was logged out.
abbrev pub logged_out : JobState → JobState
logged_out j = with_stack finished j

-- The lines typed so far.
abbrev pub typed_lines : JobState → List (List ℕ)
typed_lines j = (document_level j.desk.levels.levels).lines

-- READY, whether or not it waits for a reel: a program runs, something is pending, or its levels are ready.
abbrev pub is_ready : JobState → Bool
is_ready j = is_some j.desk.running || (is_some j.pending || are_ready j.desk.levels)

-- A TURN PRESERVES THE DOCUMENT: it is held open as before, and its lines are unchanged or no level is left; what the turn resumes with has a level.
abbrev pub LeavesDocument : JobState → Work → Type 0
LeavesDocument j w =
    ((w.desk.levels.held ≡ j.desk.levels.held) × ((w.desk.levels.levels ≡ []) ⊎ ((document_level w.desk.levels.levels).lines ≡ typed_lines j)))
    × (is_some w.again ≡ true → 0 < length w.desk.levels.levels)
