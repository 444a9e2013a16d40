use Rattle.std.proofs.Common.{ℕ, replicate, subst, sym, ap, arith, length}
use Rattle.std.specs.Prelude.{All}
use Rattle.std.proofs.lemmas.List.{length-replicate}
use Rattle.std.proofs.lemmas.List.Elements.{All-replicate}
use Rattle.g_base.proofs.BlockLemmas.{IsBlock-zeros}
use Rattle.g_base.proofs.FuseLemmas.{fused_never}
use Rattle.g_base.specs.Block.{IsBlock}
use Rattle.g_disc.proofs.memory.MemoryDisc.new.Goals as goal

pub invariant_of-result : goal.invariant_of-result
invariant_of-result c =
    let zeros = c.in_ok-new.ensures in
    let few = c.ranges.blocks in
    let long = length-replicate c.args.blocks (replicate {A = ℕ} 512 0) in
    let counted = ap length zeros in (
      omega arith,
      subst (All IsBlock) (sym zeros) (All-replicate IsBlock c.args.blocks (replicate 512 0) IsBlock-zeros),
      fused_never 0 c.new-4.result c.new-3.result c.new-4.ensures c.new-3.ensures,
    )
