-- The place of the number is free, and nothing else changes.
use Rattle.std.proofs.Common.{sym, ◌∙◌}
use Rattle.g_cache.proofs.PlaceLemmas.{forget_some, forget_none, forget_gone, forget_others, on_ok}
use Rattle.g_cache.proofs.block_cache.BlockCache.forget.Goals as goal

pub invariant_of-self : goal.invariant_of-self
invariant_of-self c =
    forget_some c.self.inside.places c.pop.new.self c.self.inside.free.items c.self.inside.blocks.items c.self.invariant c.args.self.now c.self.view_is c.args.k c.pop.ensures.entries c.in-Some.place c.try_push.new.self.items
    (sym c.pop.ensures.value ∙ c.in-Some.is) (on_ok c.try_push.result (sym c.is_err.ensures.value ∙ c.if-is_err.false) c.try_push.ensures.ok)

pub invariant_of-self-in_default : goal.invariant_of-self-in_default
invariant_of-self-in_default c = forget_none c.self.inside.places c.pop.new.self c.self.inside.free.items c.self.inside.blocks.items c.self.invariant c.args.self.now c.self.view_is c.args.k c.pop.ensures.entries (sym c.pop.ensures.value ∙ c.in_default.is)

pub returns-else-is_err-clause-gone : goal.returns-else-is_err-clause-gone
returns-else-is_err-clause-gone c = forget_gone c.self.inside.places c.pop.new.self c.self.inside.free.items c.self.inside.blocks.items c.self.invariant c.args.self.now c.self.view_is c.args.k c.pop.ensures.entries c.len-len.ensures.valid.0

pub returns-else-is_err-clause-others : goal.returns-else-is_err-clause-others
returns-else-is_err-clause-others c = forget_others c.self.inside.places c.pop.new.self c.self.inside.free.items c.self.inside.blocks.items c.self.invariant c.args.self.now c.self.view_is c.args.k c.pop.ensures.entries

pub returns-in_default-clause-gone : goal.returns-in_default-clause-gone
returns-in_default-clause-gone c = forget_gone c.self.inside.places c.pop.new.self c.self.inside.free.items c.self.inside.blocks.items c.self.invariant c.args.self.now c.self.view_is c.args.k c.pop.ensures.entries c.len-len.ensures.valid.0

pub returns-in_default-clause-others : goal.returns-in_default-clause-others
returns-in_default-clause-others c = forget_others c.self.inside.places c.pop.new.self c.self.inside.free.items c.self.inside.blocks.items c.self.invariant c.args.self.now c.self.view_is c.args.k c.pop.ensures.entries
