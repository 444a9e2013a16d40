-- The table has a record of the number, so one is at its place.
use Rattle.std.proofs.Common.{rules, ◌≡◌, ◌<◌, length, Some, Option, refl, sym, ap, ◌∙◌, arith, true}
use Rattle.std.specs.Prelude.{is_some, slice_set}
use Rattle.g_entry.specs.declared.file_rec.FileRec.{FileRec}
use Rattle.g_table.specs.Table.{item_at, standing, standing_at}
use Rattle.g_table.proofs.TableLemmas.{Items, Places, item_listed, put_listed}
use Rattle.g_table.proofs.PlaceLemmas.{standing_some, some_within, table_again}
use Rattle.g_table.proofs.number_table.NumberTable+BoxedRec.set_rec.Goals as goal

pub index_mut-requires : goal.index_mut-requires
index_mut-requires c =
    let inside : c.args.rec.number < length c.self.inside.places.items = some_within c.self.inside.places.items c.args.rec.number
    (ap is_some (sym (item_listed c.self.inside.places.items c.args.rec.number)) ∙ ap (λ items. is_some (item_at items c.args.rec.number)) c.self.view_is ∙ c.requires) in
    search rules

pub unreachable-requires : goal.unreachable-requires
unreachable-requires c =
    let some = ap is_some (sym (item_listed c.self.inside.places.items c.args.rec.number)) ∙ ap (λ items. is_some (item_at items c.args.rec.number)) c.self.view_is ∙ c.requires in
    let (old, there) = standing_some c.self.inside.places.items c.args.rec.number c.index_mut.result.now some c.index_mut.ensures.value in
    let no : ⊥ = cc in
    no

pub invariant_of-self : goal.invariant_of-self
invariant_of-self c =
    let places = c.self.inside.places.items in
    let some : is_some (standing_at places c.args.rec.number) ≡ true =
    ap is_some (sym (item_listed places c.args.rec.number)) ∙ ap (λ items. is_some (item_at items c.args.rec.number)) c.self.view_is ∙ c.requires in
    let (old, there) = standing_some places c.args.rec.number c.index_mut.result.now some c.index_mut.ensures.value in
    let inside = some_within places c.args.rec.number some in
    let size = c.self.invariant.size in
    table_again places c.self.inside.end c.self.inside.used.items c.self.inside.count c.args.rec.number c.self.invariant (omega (arith, inside, size))
    (slice_set places c.args.rec.number (Some c.set.new.self)) c.set.new.self old there.0 refl

pub returns : goal.returns
returns c =
    let places = c.self.inside.places.items in
    let some : is_some (standing_at places c.args.rec.number) ≡ true =
    ap is_some (sym (item_listed places c.args.rec.number)) ∙ ap (λ items. is_some (item_at items c.args.rec.number)) c.self.view_is ∙ c.requires in
    let inside = some_within places c.args.rec.number some in
    let size = c.self.invariant.size in
    put_listed places (slice_set places c.args.rec.number (Some c.set.new.self)) c.args.rec.number c.args.rec c.args.self.now (omega (arith, inside, size)) size c.self.view_is
    (ap (λ (r : FileRec). slice_set places c.args.rec.number (Some r)) c.set.ensures)
