-- The written forms of verb parameters.
use Rattle.std.specs.Fmt.{decimal}
use Rattle.std.specs.Prelude.{List, [], bit_or, codes, length, map, true, ℕ, ◌++◌, ◌+◌, ◌∷◌, ◌≡◌, ◌≤◌}
use Rattle.g_monitor.specs.Parts.{mode_word}
use Rattle.g_name.specs.Grammar.{is_word}
use Rattle.g_name.specs.Names.{IsName, name_text, path_name}
use Rattle.g_name.specs.declared.path.Path.{Path}
use Rattle.g_peri.specs.declared.unit.Kind.{Kind}
use Rattle.g_peri.specs.declared.unit.Kind.TheVariants.{Cr, Lp, Tp}
use Rattle.g_peri.specs.declared.unit.Unit as unit
use Rattle.g_plain.specs.declared.calls.BudgetKind.{BudgetKind}
use Rattle.g_plain.specs.declared.calls.BudgetKind.TheVariants.{Money, Space, Time}
use Rattle.g_trap.specs.ModeSet.{mode_bit}
use Rattle.g_trap.specs.declared.mode_set.Mode.{Mode}

-- The text is the name of this path.
abbrev pub IsFile : Path → List ℕ → Type 0
IsFile path text = IsName (path_name path) × (text ≡ name_text (path_name path))

-- The text is a colon and the user's name.
abbrev pub IsUser : List ℕ → List ℕ → Type 0
IsUser user text = (is_word user ≡ true) × (text ≡ 58 ∷ user)

-- The text is this local name.
abbrev pub IsLocal : List ℕ → List ℕ → Type 0
IsLocal local text = (is_word local ≡ true) × (text ≡ local)

-- The word of a budget.
abbrev pub kind_word : BudgetKind → List ℕ
kind_word Space = codes "SPACE"
kind_word Time = codes "TIME"
kind_word Money = codes "MONEY"

-- The maximum of a budget: 65,535 blocks of SPACE, 1,000,000,000 units of TIME and of MONEY.
abbrev pub most_of : BudgetKind → ℕ
most_of Space = 65535
most_of Time = 1000000000
most_of Money = 1000000000

-- The text is a budget's word, a space and a number up to its maximum.
abbrev pub IsAmount : BudgetKind → ℕ → List ℕ → Type 0
IsAmount kind n text = (n ≤ most_of kind) × (text ≡ kind_word kind ++ (32 ∷ decimal n))

-- The word of a unit's kind.
abbrev pub unit_word : Kind → List ℕ
unit_word Cr = codes "*CR"
unit_word Lp = codes "*LP"
unit_word Tp = codes "*TP"

-- The text is the word of this unit's kind and its number, from 0 to 7.
abbrev pub IsUnit : unit.Unit → List ℕ → Type 0
IsUnit u text = (u.number ≤ 7) × (text ≡ unit_word u.kind ++ ((48 + u.number) ∷ []))

-- The set of all of these modes.
abbrev pub modes_of : List Mode → ℕ
modes_of [] = 0
modes_of (mode ∷ modes) = bit_or (mode_bit mode) (modes_of modes)

-- 1 to 5 modes by their words, in any order, repeats allowed.
pub record AreModes (modes : ℕ) (texts : List (List ℕ)) : Type 0 where
  pub list : List Mode
  pub least : 1 ≤ length list
  pub most : length list ≤ 5
  pub words : texts ≡ map mode_word list
  pub all : modes ≡ modes_of list
