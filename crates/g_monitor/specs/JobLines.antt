-- The lines of a job's monitoring file that don't belong to a reply. No line here has its byte 10.
use Rattle.std.specs.Prelude.{ℕ, List, ◌++◌, codes}
use Rattle.std.specs.Fmt.{decimal}
use Rattle.g_monitor.specs.declared.job_lines.JobLine.{JobLine}
use Rattle.g_monitor.specs.declared.job_lines.JobLine.TheVariants as line
use Rattle.g_monitor.specs.declared.job_lines.Mark.{Mark}
use Rattle.g_monitor.specs.declared.job_lines.Mark.TheVariants as mark
use Rattle.g_word.specs.Octal.{octal_digits}

-- The first line.
abbrev pub header : ℕ → List ℕ → List ℕ → List ℕ
header number name user = ((((codes "JOB " ++ decimal number) ++ codes " ") ++ name) ++ codes " :") ++ user

-- The text before the rest of a marked line.
abbrev pub mark_text : Mark → List ℕ
mark_text mark.Taken = codes "- "
mark_text mark.Fired = codes "+ "
mark_text mark.Error = codes "ERROR "
mark_text mark.Halted = codes "HALTED "
mark_text mark.Deleted = codes "DELETED "
mark_text mark.Displayed = codes "DISPLAY "

-- A text after its mark.
abbrev pub marked : Mark → List ℕ → List ℕ
marked mark text = mark_text mark ++ text

-- The lines of words and numbers.
abbrev pub job_line : JobLine → List ℕ
job_line (line.Loaded size) = (codes "LOADED " ++ decimal size) ++ codes " WORDS"
job_line (line.Illegal word at) = ((codes "ILLEGAL " ++ octal_digits 8 word) ++ codes " AT ") ++ decimal at
job_line line.Assigned = codes "ASSIGNED"
job_line line.Released = codes "RELEASED"
job_line line.Deleted = codes "DELETED"
job_line (line.End units) = (codes "END " ++ decimal units) ++ codes " UNITS"
job_line (line.TimeUp units) = (codes "TIME UP " ++ decimal units) ++ codes " UNITS"
job_line (line.MoneyUp money) = (codes "MONEY UP " ++ decimal money) ++ codes " MONEY"
job_line line.Full = codes "MONITORING FILE FULL"
job_line line.Break = codes "BREAK"
job_line (line.WaitingTape serial) = codes "WAITING TAPE " ++ decimal serial
