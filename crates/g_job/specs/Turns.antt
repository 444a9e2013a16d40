-- THE PROGRAM OF A TURN: the calls that it makes, in order, and how it uses the answers.
use Rattle.g_turn.specs.State.{Work}
use Rattle.g_turn.specs.Turns.{begins}
use Rattle.g_job.specs.Beginning.{begin, room_of}
use Rattle.g_job.specs.State.{JobState}
use Rattle.g_plain.specs.Programs.{Asks}

-- The program of a job's turn.
abbrev pub turn_work : JobState → Asks Work
turn_work j = begins (room_of j) j.user j.pending (begin j)
