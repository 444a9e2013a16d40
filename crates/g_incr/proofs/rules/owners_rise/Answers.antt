use Rattle.std.proofs.lemmas.Bool.{false≢true}
use Rattle.g_incr.proofs.RuleLemmas.{not_risen}
use Rattle.g_incr.proofs.rules.owners_rise.Goals as goal

pub returns-then-r-last : goal.returns-then-r-last
returns-then-r-last c = (
  λ tells. absurd (false≢true tells),
  λ all. absurd (not_risen c.args.files.now c.loop-r.r-index c.loop-r.last c.r-item.result c.loop-r-test.true c.r-item.is c.if-r-last.true c.loop-r.invariant all),
)
