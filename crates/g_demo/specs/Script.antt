-- The script of a demonstration: its draws, its rounds, and its lines.
use Rattle.std.specs.Prelude.{List, codes, if◌then◌else◌, replicate, suc, zero, [], ℕ, ◌%◌, ◌*◌, ◌+◌, ◌++◌, ◌/◌, ◌==◌, ◌^◌, ◌∷◌}
use Rattle.std.specs.Fmt.{decimal}
use Rattle.g_lines.specs.Lines.{text_of}

-- A DRAW: the state after it.
abbrev pub next : ℕ → ℕ
next state = (1664525 * state + 1013904223) % 2 ^ 32

-- The number below a bound that is drawn in a state.
abbrev pub drawn : ℕ → ℕ → ℕ
drawn below state = state / 65536 % below

-- The state after the three draws of each round: the file that is created, its lines, the file that is listed.
abbrev pub behind_three : ℕ → ℕ
behind_three state = next (next (next state))

-- The state after round i; a round with a migration has a fourth draw.
abbrev pub behind_round : ℕ → ℕ → ℕ
behind_round i state = if i % 50 == 49 then next (behind_three state) else behind_three state

-- The state after the first i rounds.
unfoldable pub behind_rounds : ℕ → ℕ → ℕ
behind_rounds number zero = number
behind_rounds number (suc i) = behind_round (suc i) (behind_rounds number i)

-- The name of file k.
abbrev pub file_name : ℕ → List ℕ
file_name k = codes "F" ++ decimal k ++ codes "(1)"

-- An operator line at a turn.
abbrev pub at_turn : ℕ → List ℕ → List ℕ
at_turn turn what = decimal turn ++ codes " " ++ what

-- A line of the file that round i creates: 60 times one letter.
unfoldable pub filled_line : ℕ → List ℕ
filled_line i = replicate 60 (65 + i % 26)

-- The job of round i, which creates file k with `lines` lines and lists file j.
abbrev pub job_lines : ℕ → ℕ → ℕ → ℕ → List (List ℕ)
job_lines i k lines j =
    at_turn (4 * i) (codes "JOB J" ++ decimal i ++ codes ",:MASTER,TIME 20")
    ∷ (codes "INPUT " ++ file_name k)
    ∷ (replicate lines (filled_line i) ++ codes "////" ∷ (codes "LISTFILE " ++ file_name j) ∷ codes "ENDJOB" ∷ codes "****" ∷ [])

-- The job that the draws of round i determine.
abbrev pub drawn_job : ℕ → ℕ → List (List ℕ)
drawn_job i state = job_lines i (drawn 20 (next state)) (drawn 40 (next (next state)) + 1) (drawn 20 (behind_three state))

-- The lines after the job of round i.
abbrev pub behind_job : ℕ → ℕ → List (List ℕ)
behind_job i state =
    if i % 50 == 49 then at_turn (4 * i) (codes "MIGRATE :MASTER." ++ file_name (drawn 20 (next (behind_three state)))) ∷ []
    else if i % 50 == 0 then at_turn (4 * i) (codes "DUMP 1") ∷ []
    else []

-- A ROUND: a job, followed by a migration, a dump or nothing.
abbrev pub round_lines : ℕ → ℕ → List (List ℕ)
round_lines i state = drawn_job i state ++ behind_job i state

-- The lines of the first i rounds.
unfoldable pub rounds_lines : ℕ → ℕ → List (List ℕ)
rounds_lines number zero = []
rounds_lines number (suc i) = rounds_lines number i ++ round_lines (suc i) (behind_rounds number i)

-- The first lines.
abbrev pub opening : List (List ℕ)
opening = codes "0 FORMAT" ∷ codes "0 MOUNT 1" ∷ []

-- The last lines, at the last turn that a script may have.
abbrev pub closing : List (List ℕ)
closing =
    codes "1000000000 DUMP 1" ∷ codes "1000000000 SHUT" ∷ codes "1000000000 RESTORE"
    ∷ codes "1000000000 JOB END,:MASTER,TIME 100" ∷ codes "LISTDIR" ∷ codes "ENDJOB" ∷ codes "****" ∷ []

-- THE SCRIPT of `demo NUMBER N`: its lines.
abbrev pub script_lines : ℕ → ℕ → List (List ℕ)
script_lines number rounds = opening ++ (rounds_lines number rounds ++ closing)

-- The text of the script, in which each line has its byte 10.
abbrev pub script_text : ℕ → ℕ → List ℕ
script_text number rounds = text_of (script_lines number rounds)
