-- The values of the code, and the arguments of its functions.
use Rattle.std.specs.Prelude.{Bool, List, Option, Some, [], false, length, true, ℕ, ◌+◌, ◌++◌, ◌<◌, ◌∷◌, ◌≡◌, ◌≤◌}
use Rattle.g_verbs.specs.Forms.{Forms}
use Rattle.g_verbs.specs.VerbReader.{is_of, param}
use Rattle.g_verbs.specs.declared.form.Form.{Form}
use Rattle.g_verbs.specs.declared.form.Forms as code
use Rattle.g_verbs.specs.declared.verb.Verb.{Verb}
use Rattle.g_verbs.specs.declared.verb.Verb.TheVariants as verb

-- The forms of the code.
abbrev pub forms_said : code.Forms → Forms
forms_said f = record { all = f.all.now; least = f.least; any_more = f.any_more }

-- There is a parameter at this place, and it has this form.
pub record IsThere (form : Form) (params : List (List ℕ)) (place : ℕ) : Type 0 where
  pub within : place < length params
  pub fits : is_of form (param params place) ≡ true

-- The text ends with a generation of one digit in brackets, and `before` is the part before it.
pub record IsBeforeDigit (text : List ℕ) (before : List ℕ) (generation : ℕ) : Type 0 where
  pub parts : text ≡ before ++ 40 ∷ (48 + generation) ∷ 41 ∷ []
  pub range : (1 ≤ generation) × (generation ≤ 9)

-- The verb is DISPLAY.
abbrev pub is_display : Option Verb → Bool
is_display (Some verb.Display) = true
is_display other = false

-- The verb takes exactly one file.
abbrev pub is_of_one_file : Option Verb → Bool
is_of_one_file (Some verb.Input) = true
is_of_one_file (Some verb.Erase) = true
is_of_one_file (Some verb.ListFile) = true
is_of_one_file (Some verb.Retrieve) = true
is_of_one_file (Some verb.Load) = true
is_of_one_file other = false

-- The verb takes exactly two files.
abbrev pub is_of_two_files : Option Verb → Bool
is_of_two_files (Some verb.Copy) = true
is_of_two_files (Some verb.Append) = true
is_of_two_files (Some verb.Plan) = true
is_of_two_files other = false

-- The verb is RENAME.
abbrev pub is_rename : Option Verb → Bool
is_rename (Some verb.Rename) = true
is_rename other = false
