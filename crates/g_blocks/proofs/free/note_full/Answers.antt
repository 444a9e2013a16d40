use Rattle.std.proofs.Common.{refl, inl}
use Rattle.g_blocks.proofs.free.note_full.Goals as goal

pub loop-group-init : goal.loop-group-init
loop-group-init c = (refl, λ group is. inl is)
