-- One byte, followed by zeros.
use Rattle.std.proofs.Common.{ℕ, List, ap, ◌∙◌, ◌∷◌, replicate}
use Rattle.std.specs.Prelude.{slice_set}
use Rattle.g_slots.specs.Layout.{gate_block}
use Rattle.g_slots.proofs.gate.Gate.set.Goals as goal

pub invariant_of-self : goal.invariant_of-self
invariant_of-self c = (c.byte.result, ap (λ (block : List ℕ). slice_set block 0 c.byte.result) c.self.invariant.1)

pub returns : goal.returns
unfolding gate_block
returns c = ap (λ (block : List ℕ). slice_set block 0 c.byte.result) c.self.invariant.1 ∙ ap (λ (x : ℕ). x ∷ replicate 511 0) c.byte.ensures
