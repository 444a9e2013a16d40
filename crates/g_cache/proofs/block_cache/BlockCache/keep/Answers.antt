-- The block is stored at a free place, or at that of the block that it evicts.
use Rattle.std.proofs.Common.{◌≡◌, ◌≢◌, ◌-◌, ◌∷◌, [], ℕ, take, length, sym, ap, subst, ◌∙◌, arith, inl}
use Rattle.std.proofs.Math.ListN.{set}
use Rattle.std.proofs.lemmas.List.Elements.{All-take}
use Rattle.g_cache.specs.Places.{ArePlaces}
use Rattle.g_cache.proofs.PlaceLemmas.{put_kept, put_places, filled_places, place_below, place_unused, pushed_places, last_below, last_lacks, on_done, none_last, none_full}
use Rattle.g_cache.proofs.block_cache.BlockCache.keep.Goals as goal

pub invariant_of-self : goal.invariant_of-self
invariant_of-self c =
    put_places c.self.inside.places c.put.new.self c.self.inside.free.items c.self.inside.blocks.items c.self.invariant c.args.self.now c.self.view_is c.args.k c.in-Some.place c.args.block.now c.requires c.in-Ok.ensures.entries c.pop.new.self.items
    (filled_places c.self.inside.places.cap c.self.inside.places.entries c.self.inside.free.items c.self.inside.blocks.items c.self.invariant c.pop.new.self.items c.in-Some.place c.in-Some.ensures.items c.args.k c.args.block.now)

pub returns-in-Ok : goal.returns-in-Ok
returns-in-Ok c =
    inl
    (put_kept c.self.inside.places c.put.new.self c.self.inside.free.items c.self.inside.blocks.items c.self.invariant c.args.self.now c.self.view_is c.args.k c.in-Some.place c.args.block.now c.requires c.in-Ok.ensures.entries
    (place_below c.self.inside.places.cap c.self.inside.places.entries c.self.inside.free.items c.self.inside.blocks.items c.self.invariant c.pop.new.self.items c.in-Some.place c.in-Some.ensures.items)
    (All-take (λ (e : ℕ × ℕ). e.1 ≢ c.in-Some.place) 63 c.self.inside.places.entries (place_unused c.self.inside.places.cap c.self.inside.places.entries c.self.inside.free.items c.self.inside.blocks.items c.self.invariant c.pop.new.self.items c.in-Some.place c.in-Some.ensures.items)))

pub unreachable-requires : goal.unreachable-requires
unreachable-requires c =
    let none_free : c.self.inside.free.items ≡ [] = none_last c.self.inside.free.items (sym c.in-None.is ∙ c.pop.ensures.value) in
    none_full c.self.inside.places.cap c.self.inside.places.entries c.self.inside.free.items c.self.inside.blocks.items c.self.invariant none_free (none_last c.self.inside.places.entries c.in_default.ensures)

pub index_mut-requires-then-is_ok : goal.index_mut-requires-then-is_ok
index_mut-requires-then-is_ok c =
    let none_free : c.self.inside.free.items ≡ [] = none_last c.self.inside.free.items (sym c.in-None.is ∙ c.pop.ensures.value) in
    let below = last_below c.self.inside.places.cap c.self.inside.places.entries c.self.inside.free.items c.self.inside.blocks.items c.self.invariant none_free (c.in-Some-peek_lru.field-0-0.now, c.in-Some-peek_lru.last.now) (sym c.in-Some-peek_lru.ensures) in
    let size = c.self.invariant.size in
    omega (arith, below, size)

pub invariant_of-self-then-is_ok : goal.invariant_of-self-then-is_ok
invariant_of-self-then-is_ok c =
    let none_free : c.self.inside.free.items ≡ [] = none_last c.self.inside.free.items (sym c.in-None.is ∙ c.pop.ensures.value) in
    let rest : c.pop.new.self.items ≡ [] = c.pop.ensures.rest ∙ ap (λ l. take (length l - 1) l) none_free in
    put_places c.self.inside.places c.put-in-None.new.self c.self.inside.free.items c.self.inside.blocks.items c.self.invariant c.args.self.now c.self.view_is c.args.k c.in-Some-peek_lru.last.now c.args.block.now c.requires (on_done c.put-in-None.result (sym c.is_ok.ensures.value ∙ c.if-is_ok.true) c.put-in-None.ensures.entries) c.pop.new.self.items
    (subst (λ l. ArePlaces c.self.inside.places.cap ((c.args.k, c.in-Some-peek_lru.last.now) ∷ take 63 c.self.inside.places.entries) l (set c.self.inside.blocks.items c.in-Some-peek_lru.last.now c.args.block.now))
    (none_free ∙ sym rest) (pushed_places c.self.inside.places.cap c.self.inside.places.entries c.self.inside.free.items c.self.inside.blocks.items c.self.invariant none_free (c.in-Some-peek_lru.field-0-0.now, c.in-Some-peek_lru.last.now) (sym c.in-Some-peek_lru.ensures) c.args.k c.args.block.now))

pub returns-then-is_ok : goal.returns-then-is_ok
returns-then-is_ok c =
    let none_free : c.self.inside.free.items ≡ [] = none_last c.self.inside.free.items (sym c.in-None.is ∙ c.pop.ensures.value) in
    inl
    (put_kept c.self.inside.places c.put-in-None.new.self c.self.inside.free.items c.self.inside.blocks.items c.self.invariant c.args.self.now c.self.view_is c.args.k c.in-Some-peek_lru.last.now c.args.block.now c.requires (on_done c.put-in-None.result (sym c.is_ok.ensures.value ∙ c.if-is_ok.true) c.put-in-None.ensures.entries)
    (last_below c.self.inside.places.cap c.self.inside.places.entries c.self.inside.free.items c.self.inside.blocks.items c.self.invariant none_free (c.in-Some-peek_lru.field-0-0.now, c.in-Some-peek_lru.last.now) (sym c.in-Some-peek_lru.ensures))
    (last_lacks c.self.inside.places.cap c.self.inside.places.entries c.self.inside.free.items c.self.inside.blocks.items c.self.invariant none_free (c.in-Some-peek_lru.field-0-0.now, c.in-Some-peek_lru.last.now) (sym c.in-Some-peek_lru.ensures)))
