-- The places after the end are empty.
use Rattle.std.proofs.Common.{take, ap, map, sym, ◌∙◌}
use Rattle.g_table.specs.Table.{present}
use Rattle.g_table.proofs.TableLemmas.{Items, items_present}
use Rattle.g_table.proofs.PlaceLemmas.{front_present}
use Rattle.g_table.proofs.number_table.NumberTable.iter.Goals as goal

pub returns : goal.returns
returns g c =
    c.new.ensures ∙ ap (λ l. present (take c.self.inside.end l)) c.deref.ensures.value ∙ front_present c.self.inside.end c.self.inside.places.items c.self.invariant.behind
    ∙ sym (items_present 0 c.self.inside.places.items) ∙ ap (λ items. map (λ d. d.1) items) c.self.view_is
