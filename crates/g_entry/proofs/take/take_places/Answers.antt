use Rattle.std.proofs.Common.{ℕ, ◌<◌, ◌+◌, List, sym, subst, arith}
use Rattle.g_base.specs.Block.{blocks_for}
use Rattle.g_entry.proofs.FieldLemmas.{PlacesSo, places_more}
use Rattle.g_entry.proofs.take.take_places.Goals as goal

pub loop-place-preserved : goal.loop-place-preserved
loop-place-preserved c =
    let inside : c.loop-place._place < blocks_for c.args.len = omega arith in
    subst (λ (taken : List ℕ). PlacesSo c.args.format c.args.len c.take_u8.new.self (c.loop-place._place + 1) c.take_place.new.reader taken) (sym c.push.ensures)
    (places_more c.args.format c.args.len c.take_u8.new.self c.loop-place._place c.take_place.result c.loop-place.reader c.take_place.new.reader c.loop-place.places
    c.loop-place.invariant inside c.take_place.ensures.left c.take_place.ensures.again)
