use Rattle.std.proofs.Common.{arith}
use Rattle.g_blocks.proofs.free.first_free.Goals as goal

pub loop-place-init : goal.loop-place-init
loop-place-init c = (c.requires.before, omega arith)
