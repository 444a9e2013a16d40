use Rattle.std.proofs.Common.{arith, refl}
use Rattle.g_script.proofs.PrintedLemmas.{plain_all, plain_more}
use Rattle.g_script.proofs.read.are_printed.Goals as goal

pub loop-byte-init : goal.loop-byte-init
loop-byte-init c = (omega arith, (λ yes k below. absurd (omega (arith, below)), λ are. refl))

pub loop-byte-preserved : goal.loop-byte-preserved
loop-byte-preserved c = (
  omega arith,
  plain_more c.loop-byte.byte-index c.args.line.now c.loop-byte.printed c.still_printed-printed.result c.loop-byte.invariant.1 c.still_printed-printed.ensures,
)

pub returns : goal.returns
returns c = plain_all c.loop-byte.byte-index c.args.line.now c.loop-byte.printed c.loop-byte-test.false c.loop-byte.invariant.0 c.loop-byte.invariant.1
