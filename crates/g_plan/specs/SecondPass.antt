-- The state of the second pass over a source.
use Rattle.std.specs.Prelude.{◌≡◌, ◌<◌, ◌≤◌, ◌^◌, ◌++◌, ℕ, List, [], Bool, true, false, Option, Some, None, get_or, length, unwrap_or}
use Rattle.std.specs.Option.{option_map}
use Rattle.std.specs.List.{AllByRecursion, find, slice_get}
use Rattle.g_plan.specs.Assembly.{are_free, end_of, is_at}
use Rattle.g_plan.specs.Table.{row_of}
use Rattle.g_plan.specs.declared.form.Form.{Form}
use Rattle.g_plan.specs.declared.form.Form.TheVariants.{Nothing, Program, At, Word, Chars, Order}
use Rattle.g_plan.specs.declared.form.Value.{Value}
use Rattle.g_plan.specs.declared.form.Value.TheVariants.{Number, Named}
use Rattle.g_plan.specs.declared.image.Image.{Image}
use Rattle.g_plan.specs.declared.mnemonic.Row.{Row}
use Rattle.g_plan.specs.declared.source.Line.{Line}

-- The number of a WORD line is a word; a label has no such limit.
abbrev pub IsWordValue : Value → Type 0
IsWordValue (Number n) = n < 2 ^ 24
IsWordValue (Named label) = Unit {0}

-- The accumulator is that of the name, or below 8 if the name has none.
abbrev pub HasX : Option ℕ → ℕ → Type 0
HasX None x = x < 8
HasX (Some y) x = x ≡ y

-- The modifier is below 4, and 0 if the name allows none.
abbrev pub HasM : Bool → ℕ → Type 0
HasM true m = m < 4
HasM false m = m ≡ 0

-- The value is 0 if the name has no address.
abbrev pub HasAddress : Option ℕ → Value → Type 0
HasAddress None v = v ≡ Number 0
HasAddress (Some most) v = Unit {0}

-- The accumulator, the modifier and the value suit the row of the name.
pub record IsOperand (row : Row) (x m : ℕ) (v : Value) : Type 0 where
  pub x_fits : HasX row.x x
  pub m_fits : HasM row.modified m
  pub v_fits : HasAddress row.most v

-- The parts of a form are in range.
abbrev pub Fits : Form → Type 0
Fits (Program n) = (32 ≤ n) × (n ≤ 32768)
Fits (Word v) = IsWordValue v
Fits (Order name x m v) = IsOperand (row_of name) x m v
Fits form = Unit {0}

-- The parts of a form, if there is one, are in range.
abbrev pub MayFit : Option Form → Type 0
MayFit None = Unit {0}
MayFit (Some form) = Fits form

-- The parts of all lines' forms are in range.
abbrev pub AllFit : List Line → Type 0
AllFit lines = (k : ℕ) (line : Line) → slice_get lines k ≡ Some line → MayFit line.form

-- The number in each cell is a word.
abbrev pub AreSmall : List (ℕ × ℕ) → Type 0
AreSmall filled = AllByRecursion (λ (cell : ℕ × ℕ). cell.1 < 2 ^ 24) filled

-- AN IMAGE REPRESENTS CELLS, all below the size: at each place it has the word of the first cell there.
pub record IsImageOf (size : ℕ) (filled : List (ℕ × ℕ)) (image : Image) : Type 0 where
  pub size_is : length image.words.items ≡ size
  pub words_are : (place : ℕ) → place < size → get_or image.words.items place None ≡ option_map (λ cell. cell.1) (find (is_at place) filled)
  pub end_is : image.end ≡ end_of filled
  pub within : end_of filled ≤ size
  pub small : AreSmall filled

-- AN IMAGE IS FILLED WITH CELLS if and only if there are cells and all of them are free.
abbrev pub IsPut : Option (List (ℕ × ℕ)) → Image → Image → Bool → Type 0
IsPut cells old new result =
    (size : ℕ) (filled : List (ℕ × ℕ)) → IsImageOf size filled old
    → (result ≡ are_free size filled cells) × (result ≡ true → IsImageOf size (filled ++ unwrap_or cells []) new)
