-- The index of a source's lines.
use Rattle.std.specs.Prelude.{◌≡◌, ℕ, List, Option, Some, None, if◌then◌else◌}
use Rattle.std.specs.BTreeMap.{is_at}
use Rattle.std.specs.Map.{lookup}
use Rattle.std.specs.Option.{option_or}
use Rattle.g_name.specs.Order.{text_cmp}
use Rattle.g_plan.specs.Assembly.{is_this, resolved, size_in}
use Rattle.g_plan.specs.declared.form.Value.TheVariants.{Named}
use Rattle.g_plan.specs.declared.source.Line.{Line}

-- The place of a label in a map.
abbrev pub place_in : List (List ℕ × ℕ) → List ℕ → Option ℕ
place_in places label = lookup (is_at (text_cmp label)) places

-- The map has the places of all labels, and the size is that of the lines.
pub record IsIndexed (lines : List Line) (places : List (List ℕ × ℕ)) (size : Option ℕ) : Type 0 where
  pub labels_are : (label : List ℕ) → place_in places label ≡ resolved lines (Named label)
  pub size_is : size ≡ size_in lines

-- The place found for a label after one more line.
abbrev pub noted : List (List ℕ × ℕ) → Line → List ℕ → Option ℕ
noted places line label = option_or (place_in places label) (if is_this label line.label then Some line.place else None)
