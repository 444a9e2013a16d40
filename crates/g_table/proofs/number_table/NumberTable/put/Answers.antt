-- If the place was empty, the count rises by one.
use Rattle.std.proofs.Common.{◌≤◌, Option, not, refl, ap, arith, ◌∙◌}
use Rattle.std.specs.Prelude.{slice_set}
use Rattle.g_table.proofs.TableLemmas.{found_listed, put_listed}
use Rattle.g_table.proofs.PlaceLemmas.{count_few, stood_none, stood_some, table_again, table_more, used_room}
use Rattle.g_table.proofs.number_table.NumberTable.put.Goals as goal

pub count_up-requires-clause-room : goal.count_up-requires-clause-room
count_up-requires-clause-room g c =
    used_room c.self.inside.places.items c.self.inside.end c.self.inside.used.items c.self.inside.count c.args.number c.self.invariant c.requires c.args.item
    (stood_none c.self.inside.places.items c.args.number c.replace-was.result c.index_mut.result.now c.requires c.self.invariant.size c.index_mut.ensures.value c.replace-was.ensures.value (c.is_none.ensures ∙ ap not c.if-is_none.true))

pub overflow_add-self : goal.overflow_add-self
overflow_add-self g c =
    let few = count_few c.self.inside.places.items c.self.inside.end c.self.inside.used.items c.self.inside.count c.args.number c.self.invariant c.requires in
    omega (arith, few)

pub invariant_of-self : goal.invariant_of-self
invariant_of-self g c =
    let max = c.max-self-inside.ensures in
    let below = c.requires in
    let within = c.self.invariant.within in
    table_more c.self.inside.places.items c.self.inside.end c.self.inside.used.items c.self.inside.count c.args.number c.self.invariant c.requires
    (slice_set c.self.inside.places.items c.args.number c.replace-was.new.self) c.count_up.new.used.items c.args.item
    (stood_none c.self.inside.places.items c.args.number c.replace-was.result c.index_mut.result.now c.requires c.self.invariant.size c.index_mut.ensures.value c.replace-was.ensures.value (c.is_none.ensures ∙ ap not c.if-is_none.true))
    (ap (λ (place : Option g.row.T.Denot). slice_set c.self.inside.places.items c.args.number place) c.replace-was.ensures.after)
    c.count_up.ensures _ refl c.max-self-inside.result (omega (arith, max)) (omega (arith, max)) (omega (arith, max, below, within))

pub invariant_of-self-else-is_none : goal.invariant_of-self-else-is_none
invariant_of-self-else-is_none g c =
    let (old, there) = stood_some c.self.inside.places.items c.args.number c.replace-was.result c.index_mut.result.now c.requires c.self.invariant.size c.index_mut.ensures.value c.replace-was.ensures.value (c.is_none.ensures ∙ ap not c.if-is_none.false) in
    table_again c.self.inside.places.items c.self.inside.end c.self.inside.used.items c.self.inside.count c.args.number c.self.invariant c.requires
    (slice_set c.self.inside.places.items c.args.number c.replace-was.new.self) c.args.item old there
    (ap (λ (place : Option g.row.T.Denot). slice_set c.self.inside.places.items c.args.number place) c.replace-was.ensures.after)

pub returns-then-is_none-clause-items : goal.returns-then-is_none-clause-items
returns-then-is_none-clause-items g c =
    put_listed c.self.inside.places.items (slice_set c.self.inside.places.items c.args.number c.replace-was.new.self) c.args.number c.args.item c.args.self.now
    c.requires c.self.invariant.size c.self.view_is
    (ap (λ (place : Option g.row.T.Denot). slice_set c.self.inside.places.items c.args.number place) c.replace-was.ensures.after)

pub returns-then-is_none-clause-was : goal.returns-then-is_none-clause-was
returns-then-is_none-clause-was g c =
    let below = c.requires in
    let size = c.self.invariant.size in
    found_listed c.self.inside.places.items c.self.inside.places.items c.args.number c.args.self.now c.index_mut.result.now c.replace-was.result
    refl c.self.view_is (omega (arith, below, size)) c.index_mut.ensures.value c.replace-was.ensures.value

pub returns-else-is_none-clause-items : goal.returns-else-is_none-clause-items
returns-else-is_none-clause-items g c =
    put_listed c.self.inside.places.items (slice_set c.self.inside.places.items c.args.number c.replace-was.new.self) c.args.number c.args.item c.args.self.now
    c.requires c.self.invariant.size c.self.view_is
    (ap (λ (place : Option g.row.T.Denot). slice_set c.self.inside.places.items c.args.number place) c.replace-was.ensures.after)

pub returns-else-is_none-clause-was : goal.returns-else-is_none-clause-was
returns-else-is_none-clause-was g c =
    let below = c.requires in
    let size = c.self.invariant.size in
    found_listed c.self.inside.places.items c.self.inside.places.items c.args.number c.args.self.now c.index_mut.result.now c.replace-was.result
    refl c.self.view_is (omega (arith, below, size)) c.index_mut.ensures.value c.replace-was.ensures.value
