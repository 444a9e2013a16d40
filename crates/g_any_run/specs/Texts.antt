-- What the operator reads.
use Rattle.std.specs.Prelude.{ℕ, List, [], ◌++◌, drop, length, Option, Some, None, codes}
use Rattle.std.specs.Fmt.{decimal}
use Rattle.std.specs.List.{flat_map}
use Rattle.g_lines.specs.Lines.{ended}
use Rattle.g_mop.specs.TerminalLines.{shown_at}
use Rattle.g_any_run.specs.Jobs.{Jobs}

-- A line for the operator: the count of ticks, a space, the text, and the end of the line.
abbrev pub operator_line : ℕ → List ℕ → List ℕ
operator_line count what = ended ((decimal count ++ codes " ") ++ what)

-- What is printed about a reel.
abbrev pub tape_text : ℕ → List ℕ → List ℕ
tape_text serial how = ((codes "TAPE " ++ decimal serial) ++ codes " ") ++ how

-- What is printed about a dump.
abbrev pub dump_text : ℕ → List ℕ → List ℕ
dump_text number how = ((codes "DUMP " ++ decimal number) ++ codes " ") ++ how

-- What is printed after a PROCESS.
abbrev pub processed_text : ℕ → ℕ → List ℕ
processed_text serial number = ((codes "PROCESSED DUMP " ++ decimal number) ++ codes " ON ") ++ decimal serial

-- What is printed about a job.
abbrev pub job_text : ℕ → List ℕ → List ℕ
job_text number how = ((codes "JOB " ++ decimal number) ++ codes " ") ++ how

-- What is printed after START, with the number of the adopted dump, if there is one.
abbrev pub started_text : Option ℕ → List ℕ
started_text None = codes "STARTED"
started_text (Some number) = (codes "STARTED DUMP " ++ decimal number) ++ codes " ADOPTED"

-- What is printed of a job's file: all of it, or, for a terminal's job, the part that wasn't printed yet, with the
-- terminal's mark.
abbrev pub put_as : Option ℕ → List ℕ → List ℕ → List ℕ
put_as None whole added = whole
put_as (Some t) whole added = shown_at t added

-- The last line of a job that still waits when the run ends: for a line, or for a reel.
abbrev pub waiting_line : Option ℕ → List ℕ
waiting_line None = codes "WAITING LINE"
waiting_line (Some serial) = codes "WAITING TAPE " ++ decimal serial

-- The last line of the text if the script is bad, with the number of its first bad line.
abbrev pub closing : Option ℕ → List ℕ
closing None = []
closing (Some k) = ended (codes "SCRIPT LINE " ++ decimal k)

module _ {J W : Type 0} (jobs : Jobs J W) where
  -- What is printed at once: nothing for a job that is at no terminal, and what was added to the file of one that is at one.
  abbrev pub shown : J → J → List ℕ
  shown old new = put_as (jobs.terminal new) [] (drop (length (jobs.monitor old)) (jobs.monitor new))

  -- What is printed of the file of a job that has ended: nothing for a terminal's job, whose file was printed before.
  abbrev pub ended_file : J → List ℕ
  ended_file j = put_as (jobs.terminal j) (jobs.monitor j) []

  -- The file of an unfinished job with a last line; for a terminal's job only that line.
  abbrev pub file_with : (J → List ℕ) → J → List ℕ
  file_with last j = put_as (jobs.terminal j) (jobs.monitor j ++ ended (last j)) (ended (last j))

  -- The files of unfinished jobs, each with this last line.
  abbrev pub files_with : (J → List ℕ) → List J → List ℕ
  files_with last crew = flat_map (file_with last) crew

  -- The files of jobs that a shutdown or a stop breaks off.
  abbrev pub broken_files : List J → List ℕ
  broken_files crew = files_with (λ j. codes "BREAK") crew

  -- The files of jobs that still wait when the run ends.
  abbrev pub waiting_files : List J → List ℕ
  waiting_files crew = files_with (λ j. waiting_line (jobs.wants j)) crew
