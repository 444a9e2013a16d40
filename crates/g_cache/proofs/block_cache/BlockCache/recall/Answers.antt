-- The block at the place of the number is copied, and the place moves to the front.
use Rattle.std.proofs.Common.{◌<◌, ◌∷◌, [], Some, is_some, length, sym, ap, ◌∙◌, arith, true≢false}
use Rattle.std.proofs.lemmas.List.{get_or_default}
use Rattle.g_cache.specs.CachedDisc.{without_block}
use Rattle.g_cache.proofs.PlaceLemmas.{recall_places, recall_found, recall_first, recall_none, recall_same, place_within}
use Rattle.g_cache.proofs.block_cache.BlockCache.recall.Goals as goal
use Rattle.g_cache.proofs.block_cache.BlockCache.recall.Goals.{in-Some, in-None}

pub index-requires : goal.index-requires
index-requires c =
    let within : c.in-Some.place < length c.self.inside.blocks.items =
    place_within c.self.inside.places c.get.follows.lender-at-none c.self.inside.free.items c.self.inside.blocks.items c.self.invariant c.args.self.now c.self.view_is c.args.k c.get.follows.holds-at-none c.in-Some.place
    (sym (c.copied.ensures ∙ c.get.ensures.value) ∙ c.in-Some.is) in
    omega (arith, within)

pub invariant_of-self : goal.invariant_of-self
invariant_of-self c =
    recall_places c.self.inside.places c.get.follows.lender-at-none c.self.inside.free.items c.self.inside.blocks.items c.self.invariant c.args.self.now c.self.view_is c.args.k c.get.follows.holds-at-none c.copied.result
    (c.copied.ensures ∙ c.get.ensures.value)

pub returns-clause-found : goal.returns-clause-found
returns-clause-found c =
    let looked = c.copied.ensures ∙ c.get.ensures.value in
    elim c.match-copied.branch [
      | in-Some w ↦
          w.result-is
          ∙ sym (ap is_some (recall_found c.self.inside.places c.get.follows.lender-at-none c.self.inside.free.items c.self.inside.blocks.items c.self.invariant c.args.self.now c.self.view_is c.args.k c.get.follows.holds-at-none w.in-Some.place (sym looked ∙ w.in-Some.is)))
      | in-None w ↦
          w.result-is
          ∙ sym (ap is_some (recall_none c.self.inside.places c.get.follows.lender-at-none c.self.inside.free.items c.self.inside.blocks.items c.self.invariant c.args.self.now c.self.view_is c.args.k c.get.follows.holds-at-none (sym looked ∙ w.in-None.is)))
    ]

pub returns-clause-block : goal.returns-clause-block
returns-clause-block c = λ yes_kept.
    let looked = c.copied.ensures ∙ c.get.ensures.value in
    let blocks = c.self.inside.blocks.items in
    elim c.match-copied.branch [
      | in-Some w ↦
          let found = sym looked ∙ w.in-Some.is in
          let within : w.in-Some.place < length blocks =
          place_within c.self.inside.places c.get.follows.lender-at-none c.self.inside.free.items blocks c.self.invariant c.args.self.now c.self.view_is c.args.k c.get.follows.holds-at-none w.in-Some.place found in
          recall_found c.self.inside.places c.get.follows.lender-at-none c.self.inside.free.items blocks c.self.invariant c.args.self.now c.self.view_is c.args.k c.get.follows.holds-at-none w.in-Some.place found
          ∙ ap Some (sym (w.into-is ∙ w.index.ensures ∙ get_or_default blocks w.in-Some.place w.index.result.now [] within))
      | in-None w ↦ absurd (true≢false (sym yes_kept ∙ w.result-is))
    ]

pub returns-clause-first : goal.returns-clause-first
returns-clause-first c = λ yes_kept.
    let looked = c.copied.ensures ∙ c.get.ensures.value in
    let blocks = c.self.inside.blocks.items in
    elim c.match-copied.branch [
      | in-Some w ↦
          let found = sym looked ∙ w.in-Some.is in
          let within : w.in-Some.place < length blocks =
          place_within c.self.inside.places c.get.follows.lender-at-none c.self.inside.free.items blocks c.self.invariant c.args.self.now c.self.view_is c.args.k c.get.follows.holds-at-none w.in-Some.place found in
          recall_first c.self.inside.places c.get.follows.lender-at-none c.self.inside.free.items blocks c.self.invariant c.args.self.now c.self.view_is c.args.k c.get.follows.holds-at-none w.in-Some.place found
          ∙ ap (λ b. (c.args.k, b) ∷ without_block c.args.k c.args.self.now) (sym (w.into-is ∙ w.index.ensures ∙ get_or_default blocks w.in-Some.place w.index.result.now [] within))
      | in-None w ↦ absurd (true≢false (sym yes_kept ∙ w.result-is))
    ]

pub returns-clause-missed : goal.returns-clause-missed
returns-clause-missed c = λ missed.
    let looked = c.copied.ensures ∙ c.get.ensures.value in
    elim c.match-copied.branch [
      | in-Some w ↦ absurd (true≢false (sym w.result-is ∙ missed))
      | in-None w ↦
          recall_same c.self.inside.places c.get.follows.lender-at-none c.self.inside.free.items c.self.inside.blocks.items c.self.invariant c.args.self.now c.self.view_is c.args.k c.get.follows.holds-at-none (sym looked ∙ w.in-None.is)
    ]
