-- Invariants of the code of a turn's end, and what it writes.
use Rattle.std.specs.Prelude.{Bool, IfSome, List, None, Option, Some, false, is_some, length, true, ℕ, ◌++◌, ◌<◌, ◌≡◌}
use Rattle.g_job.specs.Rules.{IsPending}
use Rattle.g_turn.specs.State.{Pending}
use Rattle.g_job.specs.State.{JobState}
use Rattle.g_rules.specs.declared.turn.Turn.{Turn}
use Rattle.g_rules.specs.declared.turn.Turn.TheVariants as turn
use Rattle.g_monitor.specs.JobLines.{job_line}
use Rattle.g_monitor.specs.declared.job_lines.JobLine.TheVariants as line

-- Nothing is pending, and no reel is wanted.
abbrev pub IsClear : JobState → Type 0
IsClear j = (j.pending ≡ None) × (j.wants ≡ None)

-- The job may wait with this pending.
abbrev pub IsWaiting : JobState → Option Pending → Type 0
IsWaiting j pending = (is_some pending ≡ true) × IfSome pending (IsPending j.monitor) × (0 < length j.desk.levels.levels)

-- A text followed by a last line, if there is one.
abbrev pub with_last : List ℕ → Option (List ℕ) → List ℕ
with_last text None = text
with_last text (Some last) = text ++ last

-- The last line if TIME or MONEY is used up.
abbrev pub up_text : Bool → Bool → ℕ → ℕ → Option (List ℕ)
up_text true money_up used used_money = Some (job_line (line.TimeUp used))
up_text false true used used_money = Some (job_line (line.MoneyUp used_money))
up_text false false used used_money = None

-- The result of a turn that is charged, by whether the job ended.
abbrev pub turn_by : ℕ → ℕ → Bool → Turn
turn_by units money true = turn.Ended units money
turn_by units money false = turn.Ran units money
