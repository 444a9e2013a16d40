-- If the place had an item, the count falls by one.
use Rattle.std.proofs.Common.{◌≤◌, Option, None, refl, sym, ap, arith, drop, ◌∙◌}
use Rattle.std.specs.Prelude.{slice_set}
use Rattle.g_table.specs.Table.{present}
use Rattle.g_table.proofs.TableLemmas.{found_listed, take_listed}
use Rattle.g_table.proofs.PlaceLemmas.{end_behind, count_some, stood_some, table_less, used_some}
use Rattle.g_table.proofs.number_table.NumberTable.take.Goals as goal

pub count_down-requires-clause-some : goal.count_down-requires-clause-some
count_down-requires-clause-some g c =
    let (old, there) = stood_some c.self.inside.places.items c.args.number c.take-was.result c.index_mut.result.now c.requires c.self.invariant.size c.index_mut.ensures.value c.take-was.ensures.value (sym c.is_some.ensures ∙ c.if-is_some.true) in
    used_some c.self.inside.places.items c.self.inside.end c.self.inside.used.items c.self.inside.count c.args.number c.self.invariant c.requires old there

pub overflow_sub-self : goal.overflow_sub-self
overflow_sub-self g c =
    let (old, there) = stood_some c.self.inside.places.items c.args.number c.take-was.result c.index_mut.result.now c.requires c.self.invariant.size c.index_mut.ensures.value c.take-was.ensures.value (sym c.is_some.ensures ∙ c.if-is_some.true) in
    count_some c.self.inside.places.items c.self.inside.end c.self.inside.used.items c.self.inside.count c.args.number c.self.invariant c.requires old there

pub end_of-self-inside-requires-clause-known : goal.end_of-self-inside-requires-clause-known
end_of-self-inside-requires-clause-known g c =
    let (old, there) = stood_some c.self.inside.places.items c.args.number c.take-was.result c.index_mut.result.now c.requires c.self.invariant.size c.index_mut.ensures.value c.take-was.ensures.value (sym c.is_some.ensures ∙ c.if-is_some.true) in
    ap (λ l. present (drop c.self.inside.end l)) c.deref.ensures.value
    ∙ end_behind c.self.inside.places.items c.self.inside.end c.self.inside.used.items c.self.inside.count c.args.number c.self.invariant c.requires
    (slice_set c.self.inside.places.items c.args.number c.take-was.new.self) old there
    (ap (λ (place : Option g.row.T.Denot). slice_set c.self.inside.places.items c.args.number place) c.take-was.ensures.after)

pub invariant_of-self : goal.invariant_of-self
invariant_of-self g c =
    let (old, there) = stood_some c.self.inside.places.items c.args.number c.take-was.result c.index_mut.result.now c.requires c.self.invariant.size c.index_mut.ensures.value c.take-was.ensures.value (sym c.is_some.ensures ∙ c.if-is_some.true) in
    table_less c.self.inside.places.items c.self.inside.end c.self.inside.used.items c.self.inside.count c.args.number c.self.invariant c.requires
    (slice_set c.self.inside.places.items c.args.number c.take-was.new.self) c.count_down.new.used.items old there
    (ap (λ (place : Option g.row.T.Denot). slice_set c.self.inside.places.items c.args.number place) c.take-was.ensures.after)
    c.count_down.ensures _ refl c.end_of-self-inside.result c.end_of-self-inside.ensures.within
    (ap (λ l. present (drop c.end_of-self-inside.result l)) (sym c.deref.ensures.value) ∙ c.end_of-self-inside.ensures.behind)

pub returns-then-is_some-clause-items : goal.returns-then-is_some-clause-items
returns-then-is_some-clause-items g c =
    take_listed c.self.inside.places.items (slice_set c.self.inside.places.items c.args.number c.take-was.new.self) c.args.number c.args.self.now c.self.view_is
    (ap (λ (place : Option g.row.T.Denot). slice_set c.self.inside.places.items c.args.number place) c.take-was.ensures.after)

pub returns-then-is_some-clause-was : goal.returns-then-is_some-clause-was
returns-then-is_some-clause-was g c =
    let below = c.requires in
    let size = c.self.invariant.size in
    found_listed c.self.inside.places.items c.self.inside.places.items c.args.number c.args.self.now c.index_mut.result.now c.take-was.result
    refl c.self.view_is (omega (arith, below, size)) c.index_mut.ensures.value c.take-was.ensures.value

pub returns-else-is_some-clause-items : goal.returns-else-is_some-clause-items
returns-else-is_some-clause-items g c =
    take_listed c.self.inside.places.items (slice_set c.self.inside.places.items c.args.number c.take-was.new.self) c.args.number c.args.self.now c.self.view_is
    (ap (λ (place : Option g.row.T.Denot). slice_set c.self.inside.places.items c.args.number place) c.take-was.ensures.after)

pub returns-else-is_some-clause-was : goal.returns-else-is_some-clause-was
returns-else-is_some-clause-was g c =
    let below = c.requires in
    let size = c.self.invariant.size in
    found_listed c.self.inside.places.items c.self.inside.places.items c.args.number c.args.self.now c.index_mut.result.now c.take-was.result
    refl c.self.view_is (omega (arith, below, size)) c.index_mut.ensures.value c.take-was.ensures.value
