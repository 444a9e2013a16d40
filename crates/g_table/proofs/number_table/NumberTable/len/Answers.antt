use Rattle.std.proofs.Common.{length, sym, ap, ◌∙◌}
use Rattle.g_table.specs.Table.{listed_from}
use Rattle.g_table.proofs.TableLemmas.{Items, count_present}
use Rattle.g_table.proofs.number_table.NumberTable.len.Goals as goal

pub returns : goal.returns
returns g c = c.self.invariant.all ∙ sym (count_present 0 c.self.inside.places.items) ∙ ap length c.self.view_is
