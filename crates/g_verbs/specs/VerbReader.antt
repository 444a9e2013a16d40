-- How verbs are read: first the form of each parameter, then the values. None of this has to be believed: the law `verbs_are_read_by_their_forms`
-- relates it to the forms.
use Rattle.std.specs.List.{find, slice_get, slice_index_or}
use Rattle.std.specs.Option.{option_and_then, option_map}
use Rattle.std.specs.Prelude.{Bool, Err, List, None, Ok, Option, Result, Some, [], bit_or, codes, drop, false, if◌then◌else◌, is_some, nat_le, pred, suc, true, unwrap_or, ℕ, ◌&&◌, ◌-◌, ◌==◌, ◌∷◌}
use Rattle.g_lang.specs.Conditions.{is_param_letter}
use Rattle.g_lang.specs.LineReader.{behind}
use Rattle.g_lines.specs.Numbers.{number_read}
use Rattle.g_monitor.specs.Parts.{mode_word}
use Rattle.g_name.specs.Grammar.{is_user_text, is_word}
use Rattle.g_name.specs.Machine.{run}
use Rattle.g_name.specs.Order.{same_text}
use Rattle.g_name.specs.Reading.{is_whole, name_read, start, step}
use Rattle.g_name.specs.declared.path.Path.{Path}
use Rattle.g_name.specs.declared.path_reader.PathReader.{PathReader}
use Rattle.g_peri.specs.declared.unit.Kind.{Kind}
use Rattle.g_peri.specs.declared.unit.Kind.TheVariants as unit_kind
use Rattle.g_peri.specs.declared.unit.Unit as unit
use Rattle.g_plain.specs.declared.calls.BudgetKind.{BudgetKind}
use Rattle.g_plain.specs.declared.calls.BudgetKind.TheVariants as kind
use Rattle.g_trap.specs.ModeSet.{mode_bit}
use Rattle.g_trap.specs.declared.mode_set.Mode.{Mode}
use Rattle.g_trap.specs.declared.mode_set.Mode.TheVariants as mode
use Rattle.g_verbs.specs.Ranges.{no_path, no_unit, path_with, unit_with}
use Rattle.g_verbs.specs.Forms.{Forms, or_any}
use Rattle.g_verbs.specs.Parameters.{most_of}
use Rattle.g_verbs.specs.Verbs.{forms_with, verb_of}
use Rattle.g_verbs.specs.declared.action.Action.{Action}
use Rattle.g_verbs.specs.declared.action.Action.TheVariants as action
use Rattle.g_verbs.specs.declared.form.Form.{Form}
use Rattle.g_verbs.specs.declared.form.Form.TheVariants as form
use Rattle.g_verbs.specs.declared.verb.Verb.{Verb}
use Rattle.g_verbs.specs.declared.verb.Verb.TheVariants as verb

-- A file, from the state of a path reader at the end of the text.
abbrev pub whole_path : PathReader → Option Path
whole_path r = if is_whole r then Some (path_with (name_read r)) else None

-- The path that a text is, if it is one.
abbrev pub file_read : List ℕ → Option Path
file_read text = option_and_then whole_path (run step (Some start) text)

-- The user that a text is, if it is one.
abbrev pub user_read : List ℕ → Option (List ℕ)
user_read text = if is_user_text text then Some (drop 1 text) else None

-- The local name that a text is, if it is one.
abbrev pub local_read : List ℕ → Option (List ℕ)
local_read text = if is_word text then Some text else None

-- The word of a budget and the space after it.
abbrev pub kind_front : BudgetKind → List ℕ
kind_front kind.Space = codes "SPACE "
kind_front kind.Time = codes "TIME "
kind_front kind.Money = codes "MONEY "

-- The amount of this budget that a text is, if it is one.
abbrev pub amount_read : BudgetKind → List ℕ → Option ℕ
amount_read kind text = option_and_then (number_read (most_of kind)) (behind (kind_front kind) text)

-- The amount of this budget, if there is one, otherwise the other.
abbrev pub budget_or : BudgetKind → Option ℕ → Option (BudgetKind × ℕ) → Option (BudgetKind × ℕ)
budget_or kind (Some n) others = Some (kind, n)
budget_or kind None others = others

-- The budget and the amount that a text is, if it is one.
abbrev pub budget_read : List ℕ → Option (BudgetKind × ℕ)
budget_read text =
    budget_or kind.Space (amount_read kind.Space text) (budget_or kind.Time (amount_read kind.Time text) (budget_or kind.Money (amount_read kind.Money text) None))

-- A unit of a kind, from its digit.
abbrev pub digit_unit : Kind → List ℕ → Option unit.Unit
digit_unit kind [] = None
digit_unit kind (digit ∷ []) = if nat_le 48 digit && nat_le digit 55 then Some (unit_with kind (digit - 48)) else None
digit_unit kind (digit ∷ more ∷ rest) = None

-- The unit that a text is, if it is one.
abbrev pub unit_read : List ℕ → Option unit.Unit
unit_read text = elim (behind (codes "*CR") text) [
  | Some rest ↦ digit_unit unit_kind.Cr rest
  | None ↦ elim (behind (codes "*LP") text) [
    | Some rest ↦ digit_unit unit_kind.Lp rest
    | None ↦ option_and_then (digit_unit unit_kind.Tp) (behind (codes "*TP") text)
  ]
]

-- All five modes.
abbrev pub all_modes : List Mode
all_modes = mode.Read ∷ mode.Write ∷ mode.Append ∷ mode.Execute ∷ mode.Erase ∷ []

-- The mode that a text is, if it is one.
abbrev pub mode_read : List ℕ → Option Mode
mode_read text = find (λ mode. same_text (mode_word mode) text) all_modes

-- The parameter's letter that a text is, if it is one.
abbrev pub letter_read : List ℕ → Option ℕ
letter_read [] = None
letter_read (letter ∷ []) = if is_param_letter letter then Some letter else None
letter_read (letter ∷ more ∷ rest) = None

-- The text has this form.
abbrev pub is_of : Form → List ℕ → Bool
is_of form.File text = is_some (file_read text)
is_of form.User text = is_some (user_read text)
is_of form.Local text = is_some (local_read text)
is_of (form.Amount kind) text = is_some (amount_read kind text)
is_of form.AnyAmount text = is_some (budget_read text)
is_of form.Unit text = is_some (unit_read text)
is_of form.Mode text = is_some (mode_read text)
is_of form.Letter text = is_some (letter_read text)
is_of form.Digit text = is_some (number_read 9 text)
is_of form.Text text = true

-- The text may be the parameter at a place with this form; without a form none is allowed.
abbrev pub fits : Option Form → List ℕ → Bool
fits None text = false
fits (Some form) text = is_of form text

-- The first wrong parameter, given the form at each place, the number of required ones, and whether others may follow.
abbrev pub wrong_in : List (List ℕ) → List Form → ℕ → Bool → Option ℕ
wrong_in [] forms least any_more = if least == 0 then None else Some 1
wrong_in (text ∷ texts) forms least any_more =
    if fits (or_any any_more (slice_get forms 0)) text then option_map suc (wrong_in texts (drop 1 forms) (pred least) any_more) else Some 1

-- The place of the first wrong parameter, from 1.
abbrev pub first_wrong : Forms → List (List ℕ) → Option ℕ
first_wrong f params = wrong_in params f.all f.least f.any_more

-- The parameter at a place, empty if there are fewer.
abbrev pub param : List (List ℕ) → ℕ → List ℕ
param params place = slice_index_or params place []

-- The path that a parameter is.
abbrev pub file_of : List ℕ → Path
file_of text = unwrap_or (file_read text) no_path

-- The user that a parameter is.
abbrev pub user_of : List ℕ → List ℕ
user_of text = unwrap_or (user_read text) []

-- The local name that a parameter is.
abbrev pub local_of : List ℕ → List ℕ
local_of text = unwrap_or (local_read text) []

-- The amount that a parameter is.
abbrev pub amount_of : BudgetKind → List ℕ → ℕ
amount_of kind text = unwrap_or (amount_read kind text) 0

-- The budget and the amount that a parameter is.
abbrev pub budget_of : List ℕ → BudgetKind × ℕ
budget_of text = unwrap_or (budget_read text) (kind.Space, 0)

-- The unit that a parameter is.
abbrev pub unit_of : List ℕ → unit.Unit
unit_of text = unwrap_or (unit_read text) no_unit

-- The digit that a parameter is.
abbrev pub digit_of : List ℕ → ℕ
digit_of text = unwrap_or (number_read 9 text) 0

-- The letter that a parameter is.
abbrev pub letter_of : List ℕ → ℕ
letter_of text = unwrap_or (letter_read text) 65

-- The modes with one more, if it is one.
abbrev pub with_mode : Option Mode → ℕ → ℕ
with_mode None modes = modes
with_mode (Some mode) modes = bit_or (mode_bit mode) modes

-- All modes that these parameters are.
abbrev pub modes_read : List (List ℕ) → ℕ
modes_read [] = 0
modes_read (text ∷ texts) = with_mode (mode_read text) (modes_read texts)

-- The user at a place of the parameters, if there are that many.
abbrev pub user_at : List (List ℕ) → ℕ → Option (List ℕ)
user_at params place = option_map user_of (slice_get params place)

-- The amount of MONEY at a place of the parameters, if there are that many.
abbrev pub money_at : List (List ℕ) → ℕ → Option ℕ
money_at params place = option_map (amount_of kind.Money) (slice_get params place)

-- The action of a verb whose parameters have their forms.
abbrev pub action_of : Verb → List (List ℕ) → List ℕ → Action
action_of verb.Input params rest = action.Input (file_of (param params 0))
action_of verb.Copy params rest = action.Copy (file_of (param params 0)) (file_of (param params 1))
action_of verb.Append params rest = action.Append (file_of (param params 0)) (file_of (param params 1))
action_of verb.Erase params rest = action.Erase (file_of (param params 0))
action_of verb.Rename params rest = action.Rename (file_of (param params 0)) (local_of (param params 1))
action_of verb.ListFile params rest = action.ListFile (file_of (param params 0))
action_of verb.ListDir params rest = action.ListDir (user_at params 0)
action_of verb.TrapGo params rest = action.TrapGo (file_of (param params 0)) (user_of (param params 1)) (modes_read (drop 2 params))
action_of verb.TrapStop params rest = action.TrapStop (file_of (param params 0)) (user_of (param params 1)) (modes_read (drop 2 params))
action_of verb.TrapCheck params rest = action.TrapCheck (file_of (param params 0)) (user_at params 1)
action_of verb.NewUser params rest =
    action.NewUser (user_of (param params 0)) (amount_of kind.Space (param params 1)) (amount_of kind.Time (param params 2)) (money_at params 3)
action_of verb.Budget params rest = action.Budget (user_of (param params 0)) (budget_of (param params 1)).0 (budget_of (param params 1)).1
action_of verb.Retrieve params rest = action.Retrieve (file_of (param params 0))
action_of verb.Load params rest = action.Load (file_of (param params 0))
action_of verb.Plan params rest = action.Plan (file_of (param params 0)) (file_of (param params 1))
action_of verb.Enter params rest = action.Enter (digit_of (param params 0))
action_of verb.Resume params rest = action.Resume
action_of verb.Assign params rest = action.Assign (unit_of (param params 0)) (file_of (param params 1))
action_of verb.Release params rest = action.Release (unit_of (param params 0))
action_of verb.Delete params rest = action.Delete
action_of verb.SetParam params rest = action.SetParam (letter_of (param params 0)) (slice_get params 1)
action_of verb.Display params rest = action.Display rest
action_of verb.EndJob params rest = action.EndJob

-- The action of a verb, or of a macro, whose parameters are good.
abbrev pub asked : Option Verb → List ℕ → List (List ℕ) → List ℕ → Action
asked None name params rest = action.Macro name params
asked (Some verb) name params rest = action_of verb params rest

-- The action, or the first wrong parameter if there is one.
abbrev pub asked_or_wrong : Option Verb → List ℕ → List (List ℕ) → List ℕ → Option ℕ → Result Action ℕ
asked_or_wrong verb name params rest None = Ok (asked verb name params rest)
asked_or_wrong verb name params rest (Some index) = Err index

-- The reading of a verb that is known, or of a macro.
abbrev pub read_as : Option Verb → List ℕ → List (List ℕ) → List ℕ → Result Action ℕ
read_as verb name params rest = asked_or_wrong verb name params rest (first_wrong (forms_with verb) params)

-- THE READING of a verb: its action, or its first bad parameter.
unfoldable pub action_read : List ℕ → List (List ℕ) → List ℕ → Result Action ℕ
action_read name params rest = read_as (verb_of name) name params rest
