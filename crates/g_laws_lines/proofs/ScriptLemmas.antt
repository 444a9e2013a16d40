-- What the items of a script say has no byte 10 in its names and lines.
-- serves: LawLemmas, SessionTextLemmas
use Rattle.std.proofs.Common.{◌≡◌, ◌≤◌, ◌+◌, ◌++◌, ℕ, true, List, [], ◌∷◌, All, codes, length, Option, refl, sym, subst, arith}
use Rattle.std.specs.Fmt.{decimal}
use Rattle.std.specs.List.{AllByRecursion}
use Rattle.std.proofs.lemmas.Bool.{and_from}
use Rattle.std.proofs.lemmas.List.Elements.{All-head, All-tail}
use Rattle.g_script.specs.Script.{Bare, IsBare, IsDocumentLine, IsItem, IsTypedWithin, IsWrittenOperator, Job, Say, WrittenItem, WrittenOperator, head_line, item_lines, operator_said, operator_text, timed_said}
use Rattle.g_script.specs.declared.operator.Operator.{Operator}
use Rattle.g_script.specs.declared.operator.Operator.TheVariants as line
use Rattle.g_script.specs.declared.operator.Timed.{Timed}
use Rattle.g_laws_lines.proofs.PrintLemmas.{path_fine}
use Rattle.g_laws_lines.proofs.TextLemmas.{are_lines, is_line, line_parts, not_ten, word_line}
use Rattle.g_laws_lines.proofs.WorldLemmas.{IsFineOperator}

abbrev IsByte : ℕ → Type 0
IsByte byte = (32 ≤ byte) × (byte ≤ 126)

bytes_line : (text : List ℕ) → All IsByte text → is_line text ≡ true
bytes_line [] all = refl
bytes_line (b ∷ text) all =
    let here = (All-head IsByte b text all).0 in
    and_from _ _ (not_ten b (λ e. let no : ⊥ = omega (arith, here, e) in no)) (bytes_line text (All-tail IsByte b text all))

document_lines : (lines : List (List ℕ)) → All IsDocumentLine lines → are_lines lines ≡ true
document_lines [] all = refl
document_lines (text ∷ lines) all = and_from _ _ (bytes_line text (All-head IsDocumentLine text lines all).0.bytes) (document_lines lines (All-tail IsDocumentLine text lines all))

bare_fine : (turn : ℕ) (what : Operator) → IsBare what → IsTypedWithin turn (Bare what) → IsFineOperator what
bare_fine turn (line.Job name user time money lines) bare within = absurd bare
bare_fine turn (line.Login t user time) bare within = word_line user bare.1
bare_fine turn (line.Typed t text) bare within =
    let all = bytes_line (head_line (record { turn = turn; what = Bare (line.Typed t text) })) within.bytes in
    (line_parts (decimal t ++ codes ",") text (line_parts (decimal turn) (32 ∷ operator_text (line.Typed t text)) all).1).1
bare_fine turn (line.Migrate path) bare within = path_fine path bare
bare_fine turn other bare within = tt

written_fine : (turn : ℕ) (what : WrittenOperator) → IsWrittenOperator what → IsTypedWithin turn what → IsFineOperator (operator_said what)
written_fine turn (Bare what) well within = bare_fine turn what well within
written_fine turn (Job name user time money lines) well within = (word_line name well.is_name, word_line user well.is_user, document_lines lines well.document)

pub item_fine : (item : WrittenItem) → IsItem item → IsFineOperator (timed_said item).what
item_fine item is = written_fine item.turn item.what is.1 is.2

pub parsed_fine : (n : ℕ) (lines : List (List ℕ)) (said : List Timed) (bad : Option ℕ) → Say n lines said bad → AllByRecursion (λ (l : Timed). IsFineOperator l.what) said
parsed_fine n lines [] bad say = tt
parsed_fine n lines (next ∷ said) bad (item, is_item, next_is, (rest, lines_are, more)) =
    (subst (λ (t : Timed). IsFineOperator t.what) (sym next_is) (item_fine item is_item), parsed_fine (n + length (item_lines item)) rest said bad more)
