-- The units of a job: which are assigned, and what they hold.
use Rattle.std.specs.Prelude.{ℕ, ◌+◌, Bool, true, false, List, Option, Some, None, length, ◌≤◌, ⊤, is_some, replicate, slice_set, if◌then◌else◌}
use Rattle.std.specs.List.{slice_index_or}
use Rattle.g_name.specs.declared.path.Path.{Path}
use Rattle.g_peri.specs.declared.unit.Kind.{Kind}
use Rattle.g_peri.specs.declared.unit.Kind.TheVariants.{Cr, Lp, Tp}
use Rattle.g_peri.specs.declared.unit.Unit as unit

-- Eight card readers with the lines that are left, then eight line printers and eight tape punches with the path and the bytes of their output.
pub record Held : Type 0 where
  pub readers : List (Option (List (List ℕ)))
  pub writers : List (Option (Path × List ℕ))

-- No unit is assigned.
abbrev pub vacant : Held
vacant = record { readers = replicate 8 None; writers = replicate 16 None }

-- What the unit at a place holds.
abbrev pub at_place : {X : Type 0} → List (Option X) → ℕ → Option X
at_place units place = slice_index_or units place None

-- Units of this kind are card readers.
abbrev pub is_reader : Kind → Bool
is_reader Cr = true
is_reader Lp = false
is_reader Tp = false

-- The place of a unit in its list; printers and punches have one list.
abbrev pub place_of : Kind → ℕ → ℕ
place_of Cr number = number
place_of Lp number = number
place_of Tp number = number + 8

-- The number of a kind's unit 0 in a control area.
abbrev pub first_number : Kind → ℕ
first_number Cr = 0
first_number Lp = 8
first_number Tp = 16

-- The number of a unit in a control area.
abbrev pub number_of : unit.Unit → ℕ
number_of u = first_number u.kind + u.number

-- The output, if there is one, has at most 65,536 bytes.
abbrev pub IsShort : Option (Path × List ℕ) → Type 0
IsShort None = ⊤
IsShort (Some output) = length output.1 ≤ 65536

-- The unit is assigned.
abbrev pub is_assigned : Held → unit.Unit → Bool
is_assigned h u =
    if is_reader u.kind then is_some (at_place h.readers u.number) else is_some (at_place h.writers (place_of u.kind u.number))

-- The units with these lines in a card reader.
abbrev pub with_reader : Held → ℕ → Option (List (List ℕ)) → Held
with_reader h place lines = record h { readers = slice_set h.readers place lines }

-- The units with this output on a printer or a punch.
abbrev pub with_writer : Held → ℕ → Option (Path × List ℕ) → Held
with_writer h place output = record h { writers = slice_set h.writers place output }

-- The output that a unit returns when it is released; a card reader has none.
abbrev pub output_of : Held → unit.Unit → Option (Path × List ℕ)
output_of h u = if is_reader u.kind then None else at_place h.writers (place_of u.kind u.number)

-- The units without what one of them holds.
abbrev pub released : Held → unit.Unit → Held
released h u = if is_reader u.kind then with_reader h u.number None else with_writer h (place_of u.kind u.number) None
