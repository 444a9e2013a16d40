-- How the first line of an item is read: its turn and its operator line. None of this has to be believed: it is proved that a line is read as the
-- item whose first line it is, and that no other line is read.
use Rattle.std.specs.Option.{option_and_then, option_map}
use Rattle.std.specs.Prelude.{Bool, List, None, Option, Some, [], codes, false, if◌then◌else◌, true, ℕ, ◌==◌, ◌∷◌}
use Rattle.g_lang.specs.LineReader.{behind}
use Rattle.g_lines.specs.Numbers.{number_read}
use Rattle.g_name.specs.Order.{same_text}
use Rattle.g_script.specs.declared.head.Head.{Head}
use Rattle.g_script.specs.declared.head.What.{What}
use Rattle.g_script.specs.declared.head.What.TheVariants as what
use Rattle.g_script.specs.declared.operator.Operator.{Operator}
use Rattle.g_script.specs.declared.operator.Operator.TheVariants as line
use Rattle.g_verbs.specs.VerbReader.{file_read, local_read, user_read}

-- The parts with one more byte before the first of them.
abbrev pub onto_before : ℕ → List ℕ × List ℕ → List ℕ × List ℕ
onto_before c parts = (c ∷ parts.0, parts.1)

-- The parts before and after the first byte of this value, if there is one.
abbrev pub split_at : ℕ → List ℕ → Option (List ℕ × List ℕ)
split_at byte [] = None
split_at byte (c ∷ cs) = if c == byte then Some ([], cs) else option_map (onto_before c) (split_at byte cs)

-- The number, if it isn't 0.
abbrev pub positive : ℕ → Option ℕ
positive n = if n == 0 then None else Some n

-- The number from 1 to `most` of these digits.
abbrev pub from_one_read : ℕ → List ℕ → Option ℕ
from_one_read most digits = option_and_then positive (number_read most digits)

-- A number from 1 to `most` after a word.
abbrev pub number_behind : ℕ → List ℕ → List ℕ → Option ℕ
number_behind most word text = option_and_then (from_one_read most) (behind word text)

-- This operator line if the flag is set, otherwise the other.
abbrev pub word_or : Operator → Bool → Option Operator → Option Operator
word_or operator true others = Some operator
word_or operator false others = others

-- FORMAT, START, RESTORE or SHUT.
abbrev pub word_read : List ℕ → Option Operator
word_read text =
    word_or line.Format (same_text text (codes "FORMAT"))
    (word_or line.Start (same_text text (codes "START")) (word_or line.Restore (same_text text (codes "RESTORE")) (word_or line.Shut (same_text text (codes "SHUT")) None)))

-- This operator line with the number, if there is one, otherwise the other.
abbrev pub number_or : (ℕ → Operator) → Option ℕ → Option Operator → Option Operator
number_or operator (Some n) others = Some (operator n)
number_or operator None others = others

-- LOGOUT and its terminal.
abbrev pub logout_read : List ℕ → Option Operator
logout_read text = number_or line.Logout (number_behind 8 (codes "LOGOUT ") text) None

-- STOP DISC or STOP TAPE and a number, otherwise LOGOUT.
abbrev pub stop_read : List ℕ → Option Operator
stop_read text =
    number_or line.StopDisc (number_behind 1000000000 (codes "STOP DISC ") text) (number_or line.StopTape (number_behind 1000000000 (codes "STOP TAPE ") text) (logout_read text))

-- PROCESS and a serial, otherwise the remaining ones.
abbrev pub process_read : List ℕ → Option Operator
process_read text = number_or line.Process (number_behind 999999 (codes "PROCESS ") text) (stop_read text)

-- DUMP and a serial, otherwise the remaining ones.
abbrev pub dump_read : List ℕ → Option Operator
dump_read text = number_or line.Dump (number_behind 999999 (codes "DUMP ") text) (process_read text)

-- UNMOUNT and a serial, otherwise the remaining ones.
abbrev pub unmount_read : List ℕ → Option Operator
unmount_read text = number_or line.Unmount (number_behind 999999 (codes "UNMOUNT ") text) (dump_read text)

-- MOUNT and a serial, otherwise another operator line that is a word and a number.
abbrev pub numbered_read : List ℕ → Option Operator
numbered_read text = number_or line.Mount (number_behind 999999 (codes "MOUNT ") text) (unmount_read text)

-- MIGRATE with its path
abbrev pub migration_read : List ℕ → Option Operator
migration_read text = option_map line.Migrate (option_and_then file_read (behind (codes "MIGRATE ") text))

-- A job's name and the rest, if the first of two parts is a name.
abbrev pub named : List ℕ × List ℕ → Option (List ℕ × List ℕ)
named parts = option_map (λ name. (name, parts.1)) (local_read parts.0)

-- A job's name, and the text after its comma.
abbrev pub name_read : List ℕ → Option (List ℕ × List ℕ)
name_read text = option_and_then named (split_at 44 text)

-- The first of two parts as a user.
abbrev pub of_user : List ℕ × List ℕ → Option (List ℕ × List ℕ)
of_user parts = option_map (λ user. (user, parts.1)) (user_read parts.0)

-- A user, and the text after the comma.
abbrev pub job_user_read : List ℕ → Option (List ℕ × List ℕ)
job_user_read text = option_and_then of_user (split_at 44 text)

-- TIME and its number, from 1.
abbrev pub time_read : List ℕ → Option ℕ
time_read text = number_behind 1000000 (codes "TIME ") text

-- MONEY and its number, from 0.
abbrev pub money_read : List ℕ → Option ℕ
money_read text = option_and_then (number_read 1000000) (behind (codes "MONEY ") text)

-- TIME and MONEY, if both are there.
abbrev pub with_money : Option ℕ → Option ℕ → Option (ℕ × Option ℕ)
with_money (Some time) (Some money) = Some (time, Some money)
with_money time money = None

-- TIME without MONEY.
abbrev pub without_money : Option ℕ → Option (ℕ × Option ℕ)
without_money (Some time) = Some (time, None)
without_money None = None

-- The allowances in a text: TIME, or TIME and MONEY if it is split at a comma.
abbrev pub allowances_in : List ℕ → Option (List ℕ × List ℕ) → Option (ℕ × Option ℕ)
allowances_in text None = without_money (time_read text)
allowances_in text (Some parts) = with_money (time_read parts.0) (money_read parts.1)

-- The allowances of a job.
abbrev pub allowances_read : List ℕ → Option (ℕ × Option ℕ)
allowances_read text = allowances_in text (split_at 44 text)

-- JOB with this name and user, if it has allowances.
abbrev pub job_with : List ℕ → List ℕ → Option (ℕ × Option ℕ) → Option What
job_with name user None = None
job_with name user (Some allowances) = Some (what.Job name user allowances.0 allowances.1)

-- JOB with this name, if a user and allowances follow.
abbrev pub job_of : List ℕ → Option (List ℕ × List ℕ) → Option What
job_of name None = None
job_of name (Some parts) = job_with name parts.0 (allowances_read parts.1)

-- JOB, if it has a name, a user and allowances.
abbrev pub job_named : Option (List ℕ × List ℕ) → Option What
job_named None = None
job_named (Some parts) = job_of parts.0 (job_user_read parts.1)

-- JOB by the text after its word.
abbrev pub job_behind : List ℕ → Option What
job_behind text = job_named (name_read text)

-- JOB without its document.
abbrev pub job_read : List ℕ → Option What
job_read text = option_and_then job_behind (behind (codes "JOB ") text)

-- The first of two parts as a terminal.
abbrev pub at_terminal : List ℕ × List ℕ → Option (ℕ × List ℕ)
at_terminal parts = option_map (λ t. (t, parts.1)) (from_one_read 8 parts.0)

-- A terminal, and the text after its comma.
abbrev pub terminal_read : List ℕ → Option (ℕ × List ℕ)
terminal_read text = option_and_then at_terminal (split_at 44 text)

-- TYPE with this terminal and text.
abbrev pub typed_as : ℕ × List ℕ → Operator
typed_as parts = line.Typed parts.0 parts.1

-- TYPE with its terminal and text.
abbrev pub typed_read : List ℕ → Option Operator
typed_read text = option_map typed_as (option_and_then terminal_read (behind (codes "TYPE ") text))

-- LOGIN with this terminal and user, if it has a TIME.
abbrev pub login_with : ℕ → List ℕ → Option ℕ → Option Operator
login_with t user None = None
login_with t user (Some time) = Some (line.Login t user time)

-- LOGIN with this terminal, if a user and a TIME follow.
abbrev pub login_of : ℕ → Option (List ℕ × List ℕ) → Option Operator
login_of t None = None
login_of t (Some parts) = login_with t parts.0 (time_read parts.1)

-- LOGIN, if it has a terminal, a user and a TIME.
abbrev pub login_at : Option (ℕ × List ℕ) → Option Operator
login_at None = None
login_at (Some parts) = login_of parts.0 (job_user_read parts.1)

-- LOGIN by the text after its word.
abbrev pub login_behind : List ℕ → Option Operator
login_behind text = login_at (terminal_read text)

-- LOGIN with its terminal, user and TIME.
abbrev pub login_read : List ℕ → Option Operator
login_read text = option_and_then login_behind (behind (codes "LOGIN ") text)

-- The operator line, if there is one, otherwise the other request.
abbrev pub bare_or : Option Operator → Option What → Option What
bare_or (Some operator) others = Some (what.Bare operator)
bare_or None others = others

-- An operator line with other arguments than a number: MIGRATE, LOGIN, TYPE or JOB.
abbrev pub argument_read : List ℕ → Option What
argument_read text = bare_or (migration_read text) (bare_or (login_read text) (bare_or (typed_read text) (job_read text)))

-- The operator line after the turn.
abbrev pub what_read : List ℕ → Option What
what_read text = bare_or (word_read text) (bare_or (numbered_read text) (argument_read text))

-- The first line of an item, if its turn and its operator line can be read.
abbrev pub timed : Option ℕ → Option What → Option Head
timed (Some turn) (Some asked) = Some (record { turn = turn; what = asked })
timed turn asked = None

-- The first line of an item, split at its first space.
abbrev pub timed_in : Option (List ℕ × List ℕ) → Option Head
timed_in None = None
timed_in (Some parts) = timed (number_read 1000000000 parts.0) (what_read parts.1)

-- THE READING of a first line
abbrev pub head_read : List ℕ → Option Head
head_read text = timed_in (split_at 32 text)
