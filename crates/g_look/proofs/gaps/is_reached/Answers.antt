use Rattle.std.proofs.Common.{arith, inr, sym}
use Rattle.g_look.proofs.OutlookLemmas.{is_beyond}
use Rattle.g_look.proofs.gaps.is_reached.Goals as goal

pub returns-then-one-last-clause-reached : goal.returns-then-one-last-clause-reached
returns-then-one-last-clause-reached c = λ yes. inr (_, (_, omega arith, sym c.one-item.is), omega arith)

pub returns-clause-beyond : goal.returns-clause-beyond
returns-clause-beyond c = λ no. is_beyond _ _ _ (omega arith) (omega arith) c.loop-one.invariant
