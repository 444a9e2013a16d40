use Rattle.std.proofs.Common.{◌≡◌, take}
use Rattle.g_base.proofs.block_list.BlockList.copy.Given as goal

abbrev pub invariant-loop-block : goal.invariant-loop-block
invariant-loop-block l = l.copied ≡ take l.block-index l.block-items
