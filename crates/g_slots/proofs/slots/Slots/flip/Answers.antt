use Rattle.std.proofs.Common.{arith, ◌∙◌}
use Rattle.g_base.proofs.ToldLemmas.{Changes-with_block}
use Rattle.g_slots.specs.Commit.{Flips}
use Rattle.g_slots.proofs.OneWrite.{flipped, flips}
use Rattle.g_slots.proofs.slots.Slots.flip.Goals as goal

pub returns-clause-any : goal.returns-clause-any
returns-clause-any g c = Changes-with_block Flips 0 _ _ _ c.in_ok-write.ensures.block (λ b was. flips b _)

pub returns-clause-gate : goal.returns-clause-gate
returns-clause-gate g c =
    flipped _ _ _ _ (c.block.ensures ∙ c.set.ensures) (λ b was. let long = (c.size-size.ensures.blocks b was).0 in omega arith) c.in_ok-write.ensures.block

pub returns-in_err-write-clause-any : goal.returns-in_err-write-clause-any
returns-in_err-write-clause-any g c = Changes-with_block Flips 0 _ _ _ c.in_err-write.ensures.torn.2 (λ b was. flips b _)
