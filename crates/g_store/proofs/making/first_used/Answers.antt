use Rattle.std.proofs.Common.{◌∙◌, arith, sym}
use Rattle.g_store.proofs.EmptyLemmas.{none_empty, none_is_used, one_empty, one_used}
use Rattle.g_store.proofs.making.first_used.Goals as goal

pub loop-i-init : goal.loop-i-init
loop-i-init g c = none_empty _

pub loop-i-preserved : goal.loop-i-preserved
loop-i-preserved g c = one_empty _ _ _ (g.met.T.Tapes.well_formed _) c.loop-i.invariant (omega arith) c.serial-serial.ensures (sym c.has_block.ensures ∙ c.if-has_block.false)

pub returns-then-has_block : goal.returns-then-has_block
returns-then-has_block g c = one_used _ _ _ (g.met.T.Tapes.well_formed _) c.loop-i.invariant (omega arith) c.serial-serial.ensures (sym c.has_block.ensures ∙ c.if-has_block.true)

pub returns : goal.returns
returns g c = none_is_used _ _ (omega arith) c.loop-i.invariant
