-- Laws of assembled sources, and of the reading of lines.
use Rattle.std.specs.Prelude.{◌≡◌, ◌-◌, ℕ, List, ◌∷◌, ◌++◌, Option, Some, None, Result, Ok, Err, length, replicate, unwrap_or}
use Rattle.std.specs.List.{slice_get}
use Rattle.g_lines.specs.Lines.{lines_of}
use Rattle.g_mill.specs.Lines.{lines}
use Rattle.g_mill.specs.Loading.{bad_line, program_of}
use Rattle.g_order.specs.Order.{decoded, word_of}
use Rattle.g_plan.specs.Assembly.{address, assembled, fields_with, program_words, size_in, source}
use Rattle.g_plan.specs.Forms.{IsForm}
use Rattle.g_plan.specs.LineReader.{form_read}
use Rattle.g_plan.specs.Table.{row_of}
use Rattle.g_plan.specs.declared.form.Form.{Form}
use Rattle.g_plan.specs.declared.form.Form.TheVariants.{Order}
use Rattle.g_plan.specs.declared.form.Value.{Value}
use Rattle.g_plan.specs.declared.mnemonic.Mnemonic.{Mnemonic}
use Rattle.g_plan.specs.declared.source.Line.{Line}
use Rattle.g_plan.specs.declared.fault.PlanFault.{PlanFault}
use Rattle.g_plan.specs.declared.fault.PlanFault.TheVariants.{BadPlan, NoMemory}

-- The result of assembling a source.
abbrev pub Assembles : List ℕ → Result (List ℕ) PlanFault → Type 0
Assembles text (Ok file) = assembled text ≡ Ok file
Assembles text (Err (BadPlan line)) = assembled text ≡ Err line
Assembles text (Err NoMemory) = Unit {0}

-- The size of the program, 0 if no line says it.
abbrev pub size_or_none : List Line → ℕ
size_or_none all = unwrap_or (size_in all) 0

-- The words of the program, filled up with 0 to its size.
abbrev pub whole_program : List Line → List ℕ
whole_program all = program_words all ++ replicate (size_or_none all - length (program_words all)) 0

-- For a line with an order: the program has its word at the line's place, with the address that its value denotes, and the word is decoded as that
-- order.
abbrev pub IsPlaced : List Line → List ℕ → Line → Mnemonic → ℕ → ℕ → Value → Type 0
IsPlaced all program line name x m v =
    (a : ℕ) × (address all (row_of name) v ≡ Some a) × (slice_get program line.place ≡ Some (word_of (fields_with (row_of name) x m a)))
    × (decoded (word_of (fields_with (row_of name) x m a)) ≡ Some (fields_with (row_of name) x m a))

-- THE ROUND TRIP: the file is loaded as the words of the lines, filled up with 0 to the size; and the word of each line with an order is decoded as
-- that order, with the address that its value denotes.
pub record IsLoadedAs (text file : List ℕ) : Type 0 where
  pub good : bad_line (lines file) ≡ None
  pub words : (program_of (lines file)).words ≡ whole_program (source (lines_of text))
  pub orders : (k x m : ℕ) (name : Mnemonic) (v : Value) (line : Line) → slice_get (source (lines_of text)) k ≡ Some line
      → line.form ≡ Some (Order name x m v) → IsPlaced (source (lines_of text)) (program_of (lines file)).words line name x m v

-- The reading of a line: a form that it has, or none if it has no form.
abbrev pub IsReading : List ℕ → Option Form → Type 0
IsReading line (Some form) = IsForm form line
IsReading line None = (form : Form) → IsForm form line → ⊥

-- Each line is read as a form that it has, or as none if it has no form; and no line has two forms.
pub record ReadByForms : Type 0 where
  pub reads : (line : List ℕ) → IsReading line (form_read line)
  pub one : (line : List ℕ) (f g : Form) → IsForm f line → IsForm g line → f ≡ g
