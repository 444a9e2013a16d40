use Rattle.std.proofs.Common.{rules, ◌≡◌, replicate, ap, ◌∙◌}
use Rattle.g_table.specs.Table.{listed_from}
use Rattle.g_table.proofs.TableLemmas.{listed_none}
use Rattle.g_table.proofs.PlaceLemmas.{table_none}
use Rattle.g_table.proofs.number_table.NumberTable.new.Goals as goal

pub invariant_of-result : goal.invariant_of-result
invariant_of-result g c =
    let zeros : c.in_ok-vec.field-0.items ≡ replicate 32 0 = search rules in
    table_none c.in_ok-no_items.field-0.items c.in_ok-vec.field-0.items c.in_ok-no_items.ensures zeros

pub returns : goal.returns
returns g c = ap (listed_from 0) c.in_ok-no_items.ensures ∙ listed_none 0 1024
