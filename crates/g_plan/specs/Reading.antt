-- The state of the first pass over a source.
use Rattle.std.specs.Prelude.{◌≡◌, ◌++◌, ℕ, List, [], ◌∷◌, Bool, false, Option, Some, None, is_some, if◌then◌else◌}
use Rattle.std.specs.Option.{option_and_then}
use Rattle.std.specs.List.{list_all}
use Rattle.g_plan.specs.Assembly.{form_behind, in_place, is_blank, moved, resolved}
use Rattle.g_plan.specs.LineReader.{form_read}
use Rattle.g_plan.specs.Words.{label_in}
use Rattle.g_plan.specs.declared.form.Form.{Form}
use Rattle.g_plan.specs.declared.form.Form.TheVariants.{Nothing}
use Rattle.g_plan.specs.declared.form.Value.TheVariants.{Named}
use Rattle.g_plan.specs.declared.reader.Reader.{Reader}
use Rattle.g_plan.specs.declared.source.Line.{Line}

-- The lines of a source in order, after earlier lines and from a place on.
abbrev pub read_from : List (List ℕ) → ℕ → List (List ℕ) → List Line
read_from earlier place [] = []
read_from earlier place (line ∷ lines) =
    record { label = label_in line; form = form_behind earlier line; place = place }
    ∷ read_from (earlier ++ line ∷ []) (moved place (form_behind earlier line)) lines

-- The place after these lines.
abbrev pub place_from : List (List ℕ) → ℕ → List (List ℕ) → ℕ
place_from earlier place [] = place
place_from earlier place (line ∷ lines) = place_from (earlier ++ line ∷ []) (moved place (form_behind earlier line)) lines

-- The reader's state after these lines: the lines so far, the place after them, and whether all are blank.
pub record IsReadBehind (earlier : List (List ℕ)) (r : Reader) : Type 0 where
  pub source_is : r.source ≡ read_from [] 20 earlier
  pub place_is : r.place ≡ place_from [] 20 earlier
  pub blank_is : r.blank ≡ list_all is_blank earlier

-- A line of the source has the label.
abbrev pub has_place : List Line → Option (List ℕ) → Bool
has_place lines None = false
has_place lines (Some label) = is_some (resolved lines (Named label))

-- What a line with this label says after these lines.
abbrev pub form_at : List Line → Bool → List ℕ → Option (List ℕ) → Option Form
form_at lines blank text label =
    if is_blank text then Some Nothing
    else if has_place lines label then None
    else option_and_then (in_place blank) (form_read text)
