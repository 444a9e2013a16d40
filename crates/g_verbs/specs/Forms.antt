-- The forms of parameters, and the first parameter that doesn't have the form required at its place.
use Rattle.std.specs.Fmt.{decimal}
use Rattle.std.specs.List.{slice_get}
use Rattle.std.specs.Prelude.{Bool, List, None, Option, Some, [], false, if◌then◌else◌, length, ℕ, ◌+◌, ◌-◌, ◌<◌, ◌∷◌, ◌≡◌, ◌≤◌}
use Rattle.g_lang.specs.Conditions.{IsLetter}
use Rattle.g_monitor.specs.Parts.{mode_word}
use Rattle.g_name.specs.declared.path.Path.{Path}
use Rattle.g_peri.specs.declared.unit.Unit as unit
use Rattle.g_plain.specs.declared.calls.BudgetKind.{BudgetKind}
use Rattle.g_trap.specs.declared.mode_set.Mode.{Mode}
use Rattle.g_verbs.specs.Parameters.{IsAmount, IsFile, IsLocal, IsUnit, IsUser}
use Rattle.g_verbs.specs.declared.form.Form.{Form}
use Rattle.g_verbs.specs.declared.form.Form.TheVariants as form

-- The text has this form.
abbrev pub IsOf : Form → List ℕ → Type 0
IsOf form.File text = (path : Path) × IsFile path text
IsOf form.User text = (user : List ℕ) × IsUser user text
IsOf form.Local text = (local : List ℕ) × IsLocal local text
IsOf (form.Amount kind) text = (n : ℕ) × IsAmount kind n text
IsOf form.AnyAmount text = (kind : BudgetKind) × ((n : ℕ) × IsAmount kind n text)
IsOf form.Unit text = (u : unit.Unit) × IsUnit u text
IsOf form.Mode text = (mode : Mode) × (text ≡ mode_word mode)
IsOf form.Letter text = (letter : ℕ) × IsLetter letter × (text ≡ letter ∷ [])
IsOf form.Digit text = (n : ℕ) × (n ≤ 9) × (text ≡ decimal n)
IsOf form.Text text = Unit {0}

-- The parameters of a verb: their forms in order, the number of required ones, and whether any others may follow.
pub record Forms : Type 0 where
  pub all : List Form
  pub least : ℕ
  pub any_more : Bool

-- Exactly these parameters.
abbrev pub just : List Form → Forms
just all = record { all = all; least = length all; any_more = false }

-- These parameters, of which the first `least` are required.
abbrev pub at_least : ℕ → List Form → Forms
at_least least all = record { all = all; least = least; any_more = false }

-- The form, if there is one; otherwise any text, if others may follow.
abbrev pub or_any : Bool → Option Form → Option Form
or_any any_more (Some form) = Some form
or_any any_more None = if any_more then Some form.Text else None

-- The form required at a place, or none if no parameter is allowed there.
abbrev pub form_at : Forms → ℕ → Option Form
form_at f place = or_any f.any_more (slice_get f.all place)

-- A parameter is allowed, and the text has its form.
abbrev pub Fits : Option Form → List ℕ → Type 0
Fits None text = ⊥
Fits (Some form) text = IsOf form text

-- A PLACE AMONG THE PARAMETERS IS GOOD: the parameter there has the required form, or there is none and none is required.
abbrev pub IsGoodPlace : Forms → ℕ → Option (List ℕ) → Type 0
IsGoodPlace f place None = f.least ≤ place
IsGoodPlace f place (Some text) = Fits (form_at f place) text

-- Each place is good.
abbrev pub AreGood : Forms → List (List ℕ) → Type 0
AreGood f params = (place : ℕ) → IsGoodPlace f place (slice_get params place)

-- THE FIRST WRONG PARAMETER, counted from 1: all before it are good, and it isn't.
pub record IsFirstWrong (f : Forms) (params : List (List ℕ)) (index : ℕ) : Type 0 where
  pub from_one : 1 ≤ index
  pub before : (place : ℕ) → place + 1 < index → IsGoodPlace f place (slice_get params place)
  pub wrong : IsGoodPlace f (index - 1) (slice_get params (index - 1)) → ⊥
