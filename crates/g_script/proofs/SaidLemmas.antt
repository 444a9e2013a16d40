-- What lines say is what their items say.
-- serves: crates above
use Rattle.std.proofs.Common.{All, List, None, Option, [], ap, arith, length, map, refl, subst, sym, ℕ, ◌++◌, ◌+◌, ◌∙◌, ◌∷◌, ◌≡◌, ◌≤◌}
use Rattle.std.proofs.lemmas.List.{append-nil, length-append}
use Rattle.std.proofs.lemmas.List.Elements.{All-cons, All-nil}
use Rattle.g_script.proofs.ReadLemmas.{lines_in, parsed_whole}
use Rattle.g_script.specs.Script.{IsItem, IsParsed, Say, WrittenItem, item_lines, timed_said}
use Rattle.g_script.specs.declared.operator.Timed.{Timed}

-- a property of what each item says holds for everything that is said
pub each_said : (P : Timed → Type 0) → ((item : WrittenItem) → IsItem item → P (timed_said item)) → (n : ℕ) (lines : List (List ℕ)) (said : List Timed) (bad : Option ℕ) → Say n lines said bad → All P said
each_said P each n lines [] bad say = All-nil P
each_said P each n lines (next ∷ said) bad (item, is, same, (rest, all, behind)) =
    All-cons P next said (subst P (sym same) (each item is)) (each_said P each (n + length (item_lines item)) rest said bad behind)

-- each item has a line
pub said_few : (n : ℕ) (lines : List (List ℕ)) (said : List Timed) (bad : Option ℕ) → Say n lines said bad → length said ≤ length lines
said_few n lines [] bad say = omega arith
said_few n lines (next ∷ said) bad (item, is, same, (rest, all, behind)) =
    let few = said_few (n + length (item_lines item)) rest said bad behind in
    omega (arith, few, ap length all, length-append (item_lines item) rest)

-- the lines of items say what they say
pub items_say : (lines : List (List ℕ)) (items : List WrittenItem) → All IsItem items → lines ≡ lines_in items → IsParsed lines (map timed_said items) None
items_say lines items are e =
    parsed_whole lines [] (map timed_said items) (length (lines_in items))
    (record { items = items; are_items = are; is_said = refl; all = e ∙ sym (append-nil (lines_in items)); counted = refl }) refl
