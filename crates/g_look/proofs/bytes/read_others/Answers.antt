use Rattle.std.proofs.Common.{arith, rules}
use Rattle.g_look.proofs.ReadLemmas.{others_step}
use Rattle.g_look.proofs.bytes.read_others.Goals as goal

pub loop-of-preserved : goal.loop-of-preserved
loop-of-preserved g c = (search rules, others_step _ _ _ _ _ _ _ (omega arith) c.of-item.is c.loop-of.invariant.0.only c.in-Ok.ensures.tapes.only c.loop-of.invariant.1 c.in-Ok.ensures.read)
