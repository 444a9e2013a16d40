-- The items of a demonstration's script.
-- serves: GoodLemmas
use Rattle.std.proofs.Common.{List, None, Some, [], arith, codes, if◌then◌else◌, replicate, suc, zero, ℕ, ◌%◌, ◌*◌, ◌+◌, ◌++◌, ◌==◌, ◌∷◌}
use Rattle.std.specs.Fmt.{decimal}
use Rattle.g_name.specs.declared.path.Path.{Path}
use Rattle.g_script.specs.Script.{Bare, Job, WrittenItem}
use Rattle.g_script.specs.declared.operator.Operator.{Operator}
use Rattle.g_script.specs.declared.operator.Operator.TheVariants as line
use Rattle.g_demo.specs.Script.{behind_rounds, behind_three, drawn, file_name, filled_line, next}

-- an item without MONEY, and one that is no job
abbrev pub job_item : ℕ → List ℕ → ℕ → List (List ℕ) → WrittenItem
job_item turn name time lines = record { turn = turn; what = Job name (codes "MASTER") time None lines }

-- the document of the job of a round
abbrev pub document : ℕ → ℕ → ℕ → ℕ → List (List ℕ)
document i k lines j =
    (codes "INPUT " ++ file_name k) ∷ (replicate lines (filled_line i) ++ codes "////" ∷ (codes "LISTFILE " ++ file_name j) ∷ codes "ENDJOB" ∷ [])

abbrev pub round_job : ℕ → ℕ → WrittenItem
round_job i state =
    job_item (4 * i) (codes "J" ++ decimal i) 20
    (document i (drawn 20 (next state)) (drawn 40 (next (next state)) + 1) (drawn 20 (behind_three state)))

-- the file of :MASTER with this number in its name
abbrev pub file_path : ℕ → Path
file_path q = record { user = Some (codes "MASTER"); local = codes "F" ++ decimal q; generation = Some 1; lang = None; in_range = (omega arith, omega arith) }

abbrev pub migration : ℕ → ℕ → WrittenItem
migration turn q = record { turn = turn; what = Bare (line.Migrate (file_path q)) }

abbrev pub dump : ℕ → WrittenItem
dump turn = record { turn = turn; what = Bare (line.Dump 1) }

abbrev pub behind_items : ℕ → ℕ → List WrittenItem
behind_items i state =
    if i % 50 == 49 then migration (4 * i) (drawn 20 (next (behind_three state))) ∷ []
    else if i % 50 == 0 then dump (4 * i) ∷ []
    else []

abbrev pub round_items : ℕ → ℕ → List WrittenItem
round_items i state = round_job i state ∷ behind_items i state

unfoldable pub rounds_items : ℕ → ℕ → List WrittenItem
rounds_items number zero = []
rounds_items number (suc i) = rounds_items number i ++ round_items (suc i) (behind_rounds number i)

abbrev pub bare : ℕ → Operator → WrittenItem
bare turn what = record { turn = turn; what = Bare what }

abbrev pub opening_items : List WrittenItem
opening_items = bare 0 line.Format ∷ bare 0 (line.Mount 1) ∷ []

abbrev pub last_job : WrittenItem
last_job = job_item 1000000000 (codes "END") 100 (codes "LISTDIR" ∷ codes "ENDJOB" ∷ [])

abbrev pub closing_items : List WrittenItem
closing_items = dump 1000000000 ∷ bare 1000000000 line.Shut ∷ bare 1000000000 line.Restore ∷ last_job ∷ []

-- in the order of its lines
abbrev pub script_items : ℕ → ℕ → List WrittenItem
script_items number rounds = opening_items ++ (rounds_items number rounds ++ closing_items)
