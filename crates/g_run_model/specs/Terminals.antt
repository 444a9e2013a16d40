-- Terminals in a run: the lines that are typed at them, and what is printed for them.
use Rattle.std.specs.Prelude.{◌≡◌, ◌⊎◌, ◌↔◌, ◌&&◌, ◌==◌, ℕ, Bool, true, false, is_some, List, [], ◌∷◌, ◌++◌, Option, Some, None, codes, if◌then◌else◌}
use Rattle.std.specs.Fn.{Shared}
use Rattle.std.specs.List.{AllByRecursion}
use denote.Ref.{Bor}
use Rattle.g_rules.specs.declared.tariff.Charge.{Charge}
use Rattle.g_rules.specs.declared.tariff.Usage.{Usage}
use Rattle.g_rules.specs.declared.rule.Standing.{Standing}
use Rattle.g_job.specs.State.{JobState}
use Rattle.g_job.specs.Terminal.{typed_lines}
use Rattle.g_lines.specs.Lines.{ended}
use Rattle.g_mop.specs.TerminalLines.{shown_at}
use Rattle.g_monitor.specs.JobLines.{job_line}
use Rattle.g_monitor.specs.declared.job_lines.JobLine.{JobLine}
use Rattle.g_monitor.specs.declared.job_lines.JobLine.TheVariants as ending
use Rattle.g_script.specs.declared.operator.Operator.{Operator}
use Rattle.g_script.specs.declared.operator.Operator.TheVariants as line
use Rattle.g_script.specs.declared.operator.Timed.{Timed}
use Rattle.g_store_model.specs.CallStep.{Outcome}
use Rattle.g_store_model.specs.State.{State}
use Rattle.g_run_model.specs.Laws.{AreShort}
use Rattle.g_run_model.specs.Lines.{is_up, open_at}
use Rattle.g_run_model.specs.Moves.{Move, Run, Step, TakeLine}
use Rattle.g_run_model.specs.Texts.{closing, operator_line, waiting_line}
use Rattle.g_run_model.specs.World.{World, job_of, start}

-- A piece of the text: what was printed for the job of this number at a terminal, without the terminal's marks; or
-- something else.
pub data Piece : Type 0 where
  At : (number : ℕ) → (t : ℕ) → (added : List ℕ) → Piece
  Other : List ℕ → Piece

-- The text of a piece; at a terminal each line has the terminal's mark.
abbrev pub piece_text : Piece → List ℕ
piece_text (At number t added) = shown_at t added
piece_text (Other text) = text

-- The text of pieces, one after another.
abbrev pub text_of_pieces : List Piece → List ℕ
text_of_pieces [] = []
text_of_pieces (piece ∷ pieces) = piece_text piece ++ text_of_pieces pieces

-- The other pieces are the operator's lines, the files of jobs that are at no terminal, and the line of a bad script.
abbrev pub IsJobFile : List ℕ → Type 0
IsJobFile text = (j : JobState) × (last : List ℕ) × (j.terminal ≡ None) × (text ≡ j.monitor ++ last)

-- The piece is one of a terminal's, or one of these.
abbrev pub IsOther : Piece → Type 0
IsOther (At number t added) = Unit {0}
IsOther (Other text) = ((count : ℕ) × (what : List ℕ) × (text ≡ operator_line count what)) ⊎ (IsJobFile text ⊎ ((bad : Option ℕ) × (text ≡ closing bad)))

-- The output of a job at a terminal: what was printed for it there.
abbrev pub output_at : ℕ → ℕ → List Piece → List ℕ
output_at number t [] = []
output_at number t (At n x added ∷ pieces) = if (n == number) && (x == t) then added ++ output_at number t pieces else output_at number t pieces
output_at number t (Other text ∷ pieces) = output_at number t pieces

-- The last line of a job's file.
abbrev pub IsEnding : JobLine → Type 0
IsEnding (ending.End units) = Unit {0}
IsEnding (ending.TimeUp units) = Unit {0}
IsEnding (ending.MoneyUp units) = Unit {0}
IsEnding ending.Full = Unit {0}
IsEnding other = ⊥

-- The text is a last line of a job's file: its ending, or BREAK, or the line of a job that still waits.
abbrev pub IsLastLine : List ℕ → Type 0
IsLastLine text = ((what : JobLine) × IsEnding what × (text ≡ job_line what)) ⊎ ((text ≡ codes "BREAK") ⊎ ((wants : Option ℕ) × (text ≡ waiting_line wants)))

-- How the output continues after a job's file at some moment: up to its current file, or, if the job is gone, to a last
-- line.
abbrev pub GoesTo : Option JobState → List ℕ → List ℕ → Type 0
GoesTo (Some job) output more = output ≡ job.monitor
GoesTo None output more = (front : List ℕ) × (last : List ℕ) × IsLastLine last × (more ≡ front ++ ended last)

-- The line that a move types for the job of this number, unless it is refused.
abbrev pub is_number : ℕ → Option JobState → Bool
is_number number None = false
is_number number (Some j) = j.number == number

-- The line that an operator's line types for the job, unless it is refused.
abbrev pub typed_line : World → ℕ → Operator → List (List ℕ)
typed_line w number (line.Typed t text) = if is_up w && is_number number (open_at t w.jobs) then text ∷ [] else []
typed_line w number what = []

-- The line that the next of these lines types for the job.
abbrev pub typed_of : World → ℕ → List Timed → List (List ℕ)
typed_of w number [] = []
typed_of w number (next ∷ lines) = typed_line w number next.what

-- The line that the move types for the job, if it takes a line.
abbrev pub typed_by : World → Move → ℕ → List (List ℕ)
typed_by w (TakeLine tape o) number = typed_of w number w.lines
typed_by w move number = []

module _ {F U : Type 0} (tariffs : Shared F (Bor Usage × Unit {0}) Charge) (tariff : F) (rules : Shared U (Bor Standing × Unit {0}) ℕ) (rule : U) where
  -- all lines typed for the job of this number, in order
  abbrev pub typed : ℕ → (w : World) (moves : List Move) (new : World) → Run tariffs tariff rules rule w moves new → List (List ℕ)
  typed number w [] new run = []
  typed number w (move ∷ moves) new run = typed_by w move number ++ typed number run.0 moves new run.2

  -- The text is printed in pieces, and what is printed for a terminal's job is its monitoring file: at each event of the
  -- run the file at that moment, later followed by more, up to its last line.
  abbrev pub TerminalsPrint : Type 0
  TerminalsPrint = (lines : List Timed) (bad : Option ℕ) (s : State) (front back : List Move) (w last : World)
      → Run tariffs tariff rules rule (start lines bad s) front w → Run tariffs tariff rules rule w back last
      → (pieces : List Piece) × (last.text ≡ text_of_pieces pieces) × AllByRecursion IsOther pieces
      × ((number t : ℕ) (job : JobState) → job_of w number ≡ Some job → job.terminal ≡ Some t
      → (more : List ℕ) × (output_at number t pieces ≡ job.monitor ++ more) × GoesTo (job_of last number) (output_at number t pieces) more)

  -- The document of a terminal's job has at each event exactly the lines typed for it before, unless the job has no level
  -- left.
  abbrev pub TerminalsRead : Type 0
  TerminalsRead = (lines : List Timed) (bad : Option ℕ) (s : State) (moves : List Move) (last : World) → AreShort s → (run : Run tariffs tariff rules rule (start lines bad s) moves last)
      → (number t : ℕ) (job : JobState) → job_of last number ≡ Some job → job.terminal ≡ Some t
      → (job.desk.levels.levels ≡ []) ⊎ (typed_lines job ≡ typed number (start lines bad s) moves last run)

  -- A TYPE prints nothing if and only if it isn't refused.
  abbrev pub TypesTellNothing : Type 0
  TypesTellNothing = (w new : World) (tape : Bool) (o : Outcome) (next : Timed) (rest : List Timed) (t : ℕ) (text : List ℕ) → w.lines ≡ next ∷ rest → next.what ≡ line.Typed t text
      → Step tariffs tariff rules rule w (TakeLine tape o) new → (new.text ≡ w.text) ↔ ((is_up w && is_some (open_at t w.jobs)) ≡ true)
