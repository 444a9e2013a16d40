-- The rules that a job satisfies between its turns.
use Rattle.std.specs.Prelude.{Bool, IfSome, List, false, is_some, length, true, ℕ, ◌+◌, ◌<◌, ◌≡◌, ◌≤◌}
use Rattle.g_turn.specs.State.{AgainCommand, AgainLine, Pending, Work}
use Rattle.g_job.specs.State.{JobState}
use Rattle.g_lang.specs.Lines.{IsCommandText}

-- The maximum length of a monitoring file: 1,048,576 bytes, and one last line of at most 23 more once the job has ended.
abbrev pub most_bytes : Bool → ℕ
most_bytes false = 1048576
most_bytes true = 1048599

-- A waiting command is the text of a command; what was stored of the line before it fits into the file, and is within the limits of a line: 64
-- orders, and 16 outputs of 128 blocks.
pub record IsKept (monitor text : List ℕ) (orders blocks : ℕ) (command : List ℕ) : Type 0 where
  pub room : length monitor + length text ≤ 1048576
  pub orders_few : orders ≤ 64
  pub blocks_few : blocks ≤ 2048
  pub command_text : IsCommandText command

-- What a turn resumes with is within its limits.
abbrev pub IsPending : List ℕ → Pending → Type 0
IsPending monitor (AgainLine text) = Unit {0}
IsPending monitor (AgainCommand text orders blocks command) = IsKept monitor text orders blocks command

-- THE RULES OF A JOB: its allowances are in range, the charges are within them, and every charged turn took at least one unit. A job that isn't over
-- has TIME left, and room in its file. It wants a reel if and only if something is pending, which needs a level.
pub record IsJob (j : JobState) : Type 0 where
  pub least : 1 ≤ j.allowance
  pub most : j.allowance ≤ 1000000
  pub covered : j.used ≤ j.allowance
  pub turned : j.turns ≤ j.used
  pub rich : j.money ≤ 1000000
  pub paid : j.used_money ≤ j.money
  pub has_time : j.over ≡ false → j.used < j.allowance
  pub file : length j.monitor ≤ most_bytes j.over
  pub waits : is_some j.wants ≡ is_some j.pending
  pub goes_on : IfSome j.pending (IsPending j.monitor)
  pub level : is_some j.pending ≡ true → 0 < length j.desk.levels.levels

-- If a turn's work has something to resume with, it is well-formed, and there is a level for it.
pub record IsGoneOnWith (monitor : List ℕ) (w : Work) : Type 0 where
  pub pending : IfSome w.again (IsPending monitor)
  pub level : is_some w.again ≡ true → 0 < length w.desk.levels.levels
