-- The results of the second pass over a source.
use Rattle.std.specs.Prelude.{◌≡◌, ◌++◌, ◌∷◌, ◌&&◌, ℕ, List, [], Bool, true, Option, Some, None, Result, Ok, Err, IfOk, unwrap_or}
use Rattle.std.specs.List.{enumerate_from}
use Rattle.std.specs.Option.{option_map}
use Rattle.g_lines.specs.Lines.{lines_of}
use Rattle.g_plan.specs.Assembly.{all_cells, are_free, bad_behind, given, is_below, is_good, source}
use Rattle.g_plan.specs.SecondPass.{IsImageOf}
use Rattle.g_plan.specs.Laws.{Assembles, IsLoadedAs, size_or_none}
use Rattle.g_plan.specs.declared.fault.PlanFault.{PlanFault}
use Rattle.g_plan.specs.declared.fault.PlanFault.TheVariants.{BadPlan, NoMemory}
use Rattle.g_plan.specs.declared.form.Form.{Form}
use Rattle.g_plan.specs.declared.image.Image.{Image}
use Rattle.g_plan.specs.declared.source.Line.{Line}

-- The result of the second pass: the image of all cells, or the first bad line.
abbrev pub IsFilled : List Line → Result Image PlanFault → Type 0
IsFilled all (Ok image) = (bad_behind all (size_or_none all) [] all ≡ None) × IsImageOf (size_or_none all) (all_cells all all) image
IsFilled all (Err (BadPlan line)) = bad_behind all (size_or_none all) [] all ≡ Some line
IsFilled all (Err NoMemory) = Unit {0}

-- If the lines are those of a text, the result is that text's.
abbrev pub IsFinished : List Line → Result (List ℕ) PlanFault → Type 0
IsFinished all result = (text : List ℕ) → all ≡ source (lines_of text) → Assembles text result × IfOk result (λ file. IsLoadedAs text file)

-- Placing a form succeeds if and only if its words and its place are free, and then adds its cells.
abbrev pub IsFormPut : List Line → ℕ → Form → ℕ → Image → Image → Bool → Type 0
IsFormPut all size form place old new result =
    (filled : List (ℕ × ℕ)) → IsImageOf size filled old
    → (result ≡ (is_below size (Some form) && are_free size filled (option_map (enumerate_from place) (given all form))))
    × (result ≡ true → IsImageOf size (filled ++ unwrap_or (option_map (enumerate_from place) (given all form)) []) new)

-- Placing a line succeeds if and only if the line is good after the earlier ones, and then adds its cells.
abbrev pub IsLinePut : List Line → ℕ → Line → Image → Image → Bool → Type 0
IsLinePut all size line old new result =
    (earlier : List Line) → IsImageOf size (all_cells all earlier) old
    → (result ≡ is_good all size earlier line) × (result ≡ true → IsImageOf size (all_cells all (earlier ++ line ∷ [])) new)
