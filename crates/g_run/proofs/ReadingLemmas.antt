-- What was read of a script is within the limits of its lines, and no more than the script has bytes.
-- serves: demo_run, george
use Rattle.std.proofs.Common.{All, List, Option, [], arith, length, ℕ, ◌++◌, ◌∷◌, ◌≤◌}
use Rattle.std.specs.Fmt.{decimal}
use Rattle.std.specs.List.{AllByRecursion}
use Rattle.std.specs.Prelude.{codes, ◌≢◌}
use Rattle.std.proofs.lemmas.List.Elements.{All-from_recursion, All-weaker, recursion_from_All}
use Rattle.g_lines.specs.Documents.{IsOneLine}
use Rattle.g_lines.proofs.DocumentLemmas.{lines_few}
use Rattle.g_lines.specs.Lines.{lines_of}
use Rattle.g_script.proofs.SaidLemmas.{each_said, said_few}
use Rattle.g_script.specs.Script.{Bare, IsBare, IsParsed, IsPrinted, IsTypedWithin, IsWrittenOperator, Job, WrittenOperator, head_line, operator_said}
use Rattle.g_script.specs.declared.operator.Operator.{Operator}
use Rattle.g_script.specs.declared.operator.Operator.TheVariants as line
use Rattle.g_script.specs.declared.operator.Timed.{Timed}
use Rattle.g_day.specs.Parts.{IsWithin}
use Rattle.g_ticks.specs.Parts.{IsTimedWithin}

-- what is typed is one line
behind_front : (P : ℕ → Type 0) (front rest : List ℕ) → AllByRecursion P (front ++ rest) → AllByRecursion P rest
behind_front P [] rest all = all
behind_front P (c ∷ front) rest all = behind_front P front rest all.1

abbrev IsSeen : ℕ → Type 0
IsSeen byte = (32 ≤ byte) × (byte ≤ 126)

one_line : (turn t : ℕ) (text : List ℕ) → IsPrinted (head_line (record { turn = turn; what = Bare (line.Typed t text) })) → IsOneLine text
one_line turn t text printed =
    let all : AllByRecursion IsSeen (head_line (record { turn = turn; what = Bare (line.Typed t text) })) = recursion_from_All IsSeen _ printed.bytes in
    let said = behind_front IsSeen (decimal turn) (32 ∷ (((codes "TYPE " ++ decimal t) ++ codes ",") ++ text)) all in
    All-weaker IsSeen (λ (byte : ℕ). byte ≢ 10) (λ byte seen end. let least = seen.0 in let no : ⊥ = omega (arith, least, end) in no) text
    (All-from_recursion IsSeen text (behind_front IsSeen ((codes "TYPE " ++ decimal t) ++ codes ",") text said.1))

bare_within : (turn : ℕ) (what : Operator) → IsBare what → IsTypedWithin turn (Bare what) → IsWithin what
bare_within turn (line.Job name user time money lines) is typed = absurd is
bare_within turn (line.StopDisc k) is typed = is.0
bare_within turn (line.StopTape k) is typed = is.0
bare_within turn (line.Login t user time) is typed = (is.0, is.2)
bare_within turn (line.Typed t text) is typed = (is, one_line turn t text typed)
bare_within turn (line.Logout t) is typed = is
bare_within turn what is typed = tt

pub within_what : (turn : ℕ) (what : WrittenOperator) → IsWrittenOperator what → IsTypedWithin turn what → IsWithin (operator_said what)
within_what turn (Bare what) is typed = bare_within turn what is typed
within_what turn (Job name user time money lines) is typed = (is.time_within, is.money_within)

pub parsed_within : (lines : List (List ℕ)) (said : List Timed) (bad : Option ℕ) → IsParsed lines said bad → All IsTimedWithin said
parsed_within lines said bad parsed = each_said IsTimedWithin (λ item it. (within_what item.turn item.what it.1 it.2, it.0)) 1 lines said bad parsed

-- each line has a byte, and each item a line
pub parsed_few : (text : List ℕ) (said : List Timed) (bad : Option ℕ) → IsParsed (lines_of text) said bad → length said ≤ length text
parsed_few text said bad parsed = omega (arith, said_few 1 (lines_of text) said bad parsed, lines_few text)
