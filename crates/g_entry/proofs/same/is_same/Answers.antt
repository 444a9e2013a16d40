use Rattle.std.proofs.Common.{arith, refl}
use Rattle.g_entry.proofs.SameLemmas.{agree_all, agree_more}
use Rattle.g_entry.proofs.same.is_same.Goals as goal

pub loop-i-init : goal.loop-i-init
loop-i-init c = (λ yes k below. absurd (omega (arith, below)), λ agree. refl)

pub loop-i-preserved : goal.loop-i-preserved
loop-i-preserved c = agree_more c.loop-i.i c.args.one.now c.args.other.now c.loop-i.same c.still_same-same.result c.loop-i.invariant c.still_same-same.ensures

pub returns : goal.returns
returns c = agree_all c.loop-i.i c.args.one.now c.args.other.now c.loop-i.same c.requires (omega arith) c.loop-i.invariant
