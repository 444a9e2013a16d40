use Rattle.std.proofs.Common.{arith, ◌∙◌, refl}
use Rattle.g_look.proofs.ShownLemmas.{used_so_far}
use Rattle.g_look.proofs.disc_text.used_blocks.Goals as goal

pub loop-file-preserved : goal.loop-file-preserved
loop-file-preserved c =
    used_so_far _ _ _ _ _ _ _ (omega arith) c.file-item.is c.loop-file.invariant (c.from-used.ensures ∙ c.blocks_of.ensures.exact) (rw c.from-used.ensures c.blocks_of.type_inv) refl
