-- The blocks after the last written one are zeros, before and after.
use Rattle.std.proofs.Common.{◌<◌, ℕ, List, length, replicate, slice_set, ap, ◌∙◌, arith}
use Rattle.g_disc.proofs.BlocksLemmas.{filled-length, filled-set_reached}
use Rattle.g_disc.proofs.blocks.Blocks.set.Goals as goal

pub returns : goal.returns
returns c =
    let b = c.self.inside in
    let zeros = replicate {A = ℕ} 512 0 in
    let count = filled-length b.count zeros b.written.items c.self.invariant.0 in
    let all = ap length c.self.view_is in
    let below : c.args.k < b.count = omega (arith, c.requires, count, all) in
    filled-set_reached b.count c.args.k zeros c.args.block.now b.written.items c.reach.new.written.items c.reach.ensures.items c.self.invariant.0 below
    ∙ ap (λ (blocks : List (List ℕ)). slice_set blocks c.args.k c.args.block.now) c.self.view_is
