-- WHAT THE CONSOLE ANSWERS to a question: lines of its own, whose first byte is `?`.
use Rattle.std.specs.Prelude.{◌≡◌, ℕ, Bool, true, false, if◌then◌else◌, List, [], ◌∷◌, ◌++◌, All, Option, Some, None, option_map, codes}
use Rattle.std.specs.Fmt.{decimal}
use Rattle.std.specs.List.{flat_map}
use Rattle.g_job.specs.State.{JobState}
use Rattle.g_lines.specs.Documents.{IsOneLine}
use Rattle.g_lines.specs.Lines.{ended, lines_of}
use Rattle.g_store_model.specs.State.{OpenDump, ReelRow, is_mounted}
use Rattle.g_run_model.specs.Texts.{waiting_line}
use Rattle.g_run_model.specs.World.{World, can_step}
use Rattle.g_typing.specs.declared.query.Query.{Query}
use Rattle.g_typing.specs.declared.query.Query.TheVariants as query

-- a line of the console's own
abbrev pub own_line : List ℕ → List ℕ
own_line what = ended (codes "? " ++ what)

-- the console's own lines (that no line of a run begins with `?` is only tested)
abbrev pub tick_line : ℕ → List ℕ
tick_line count = ended (codes "? TICK " ++ decimal count)

abbrev pub refusal_line : ℕ → List ℕ
refusal_line k = ended (codes "? LINE " ++ decimal k)

-- whether the system is up
abbrev pub system_line : Bool → List ℕ
system_line true = ended (codes "? UP")
system_line false = ended (codes "? DOWN")

-- a reel, and whether it is mounted
abbrev pub reel_line : ℕ → Bool → List ℕ
reel_line serial true = ended ((codes "? TAPE " ++ decimal serial) ++ codes " MOUNTED")
reel_line serial false = ended (codes "? TAPE " ++ decimal serial)

-- the open dump, by its number
abbrev pub dump_line : Option ℕ → List ℕ
dump_line None = []
dump_line (Some number) = ended ((codes "? DUMP " ++ decimal number) ++ codes " OPEN")

-- the first line of a text
abbrev pub first_in : List (List ℕ) → List ℕ
first_in [] = []
first_in (line ∷ lines) = line

abbrev pub first_line : List ℕ → List ℕ
first_line text = first_in (lines_of text)

-- the terminal of a job
abbrev pub seat_text : Option ℕ → List ℕ
seat_text None = []
seat_text (Some t) = (codes "T" ++ decimal t) ++ codes " "

-- the TIME that a job has used, and its allowance
abbrev pub used_text : ℕ → ℕ → List ℕ
used_text used allowance = ((codes " " ++ decimal used) ++ codes " OF ") ++ decimal allowance

-- what a job waits for, if it can't step
abbrev pub wait_text : Bool → Option ℕ → List ℕ
wait_text true wants = []
wait_text false wants = codes " " ++ waiting_line wants

-- A JOB: the first line of its file, with its number, name and user; and what it waits for, if it can't step
abbrev pub job_line : Bool → JobState → List ℕ
job_line steps j = ended ((((codes "? " ++ seat_text j.terminal) ++ first_line j.monitor) ++ used_text j.used j.allowance) ++ wait_text steps j.wants)

-- WHERE THINGS STAND: the system, the reels by rising serial, the open dump, the jobs by number, and the count of ticks
abbrev pub state_text : World → List ℕ
state_text w =
    (((system_line w.store.up ++ flat_map (λ (r : ReelRow). reel_line r.serial (is_mounted w.store r.serial)) w.store.reels) ++ dump_line (option_map (λ (d : OpenDump). d.number) w.store.open_dump))
    ++ flat_map (λ (j : JobState). job_line (can_step w.store j) j) w.jobs) ++ tick_line w.count

-- lines of the console's own
pub record AreOwnLines (text : List ℕ) : Type 0 where
  pub lines : List (List ℕ)
  pub one : All IsOneLine lines
  pub all : text ≡ flat_map own_line lines

-- AN ANSWER to a question: where things stand, exactly; any other consists of lines of the console's own
abbrev pub IsAnswer : Query → World → List ℕ → Type 0
IsAnswer query.State w text = text ≡ state_text w
IsAnswer other w text = AreOwnLines text
