use Rattle.std.proofs.Common.{◌∙◌, arith, sym}
use Rattle.g_shelf.proofs.LastLemmas.{all_up, none_is_down, none_up, one_down, one_up}
use Rattle.g_shelf.proofs.last.first_unmounted.Goals as goal

pub loop-i-init : goal.loop-i-init
loop-i-init g c = none_up _

pub loop-i-preserved : goal.loop-i-preserved
loop-i-preserved g c = one_up _ _ _ (g.met.T.Tapes.well_formed _) c.loop-i.invariant (omega arith) c.serial-serial.ensures (sym c.mounted.ensures ∙ c.if-not-mounted.false)

pub returns-then-not-mounted-clause-first : goal.returns-then-not-mounted-clause-first
returns-then-not-mounted-clause-first g c = one_down _ _ _ (g.met.T.Tapes.well_formed _) c.loop-i.invariant (omega arith) c.serial-serial.ensures (sym c.mounted.ensures ∙ c.if-not-mounted.true)

pub returns-clause-first : goal.returns-clause-first
returns-clause-first g c = none_is_down _ _ (omega arith) c.loop-i.invariant

pub returns-clause-all : goal.returns-clause-all
returns-clause-all g c = all_up _ _ (omega arith) c.loop-i.invariant
