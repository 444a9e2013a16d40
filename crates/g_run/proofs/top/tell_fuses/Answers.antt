-- The contract of `size` states a disc's fuse; a rack's fuse is known at any moment.
use Rattle.g_run.proofs.top.tell_fuses.Goals as goal

pub returns : goal.returns
returns g c = (c.size-blocks.ensures.fused, g.met.T.Tapes.fused c.args.tapes.now)
