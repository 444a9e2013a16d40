-- A text that is exactly one item, or isn't.
-- serves: parse, parse_item
use Rattle.std.proofs.Common.{List, None, Option, Some, [], ap, sym, ℕ, ◌++◌, ◌∙◌, ◌≡◌}
use Rattle.std.proofs.lemmas.List.{append-nil}
use Rattle.g_script.proofs.ItemLemmas.{item_unique}
use Rattle.g_script.proofs.OneReading.{item_or_bad, none_stands}
use Rattle.g_script.specs.Reading.{IsTaken}
use Rattle.g_script.specs.Script.{IsOneItem, Say, WrittenItem, item_lines}
use Rattle.g_script.specs.declared.operator.Timed.{Timed}

pub none_alone : (lines : List (List ℕ)) → lines ≡ [] → IsOneItem lines None
none_alone lines none item is e = none_stands lines [] item none (e ∙ sym (append-nil (item_lines item)))

pub bad_alone : (lines : List (List ℕ)) (k : ℕ) → Say 1 lines [] (Some k) → IsOneItem lines None
bad_alone lines k bad item is e = item_or_bad 1 lines [] item k is (e ∙ sym (append-nil (item_lines item))) bad

-- an item was taken, and no line is left
pub taken_alone : (lines rest : List (List ℕ)) (next : Timed) (count : ℕ) → IsTaken lines rest next count → rest ≡ [] → IsOneItem lines (Some next)
taken_alone lines rest next count t none =
    (t.item, t.is_item, t.all ∙ ap (λ (ls : List (List ℕ)). item_lines t.item ++ ls) none ∙ append-nil (item_lines t.item), t.is_said)

-- or more lines are
pub taken_more : (lines rest : List (List ℕ)) (next : Timed) (count : ℕ) → IsTaken lines rest next count → (rest ≡ [] → ⊥) → IsOneItem lines None
taken_more lines rest next count t some item is e =
    some (item_unique t.item item rest [] t.is_item is (sym t.all ∙ e ∙ sym (append-nil (item_lines item)))).1
