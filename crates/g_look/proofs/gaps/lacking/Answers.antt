use Rattle.g_look.proofs.OutlookLemmas.{lacks_last, lacks_missing}
use Rattle.g_look.proofs.gaps.lacking.Goals as goal

pub returns-then-not-is_reached : goal.returns-then-not-is_reached
returns-then-not-is_reached c = λ dumps are. lacks_last _ _ dumps are (c.is_reached.ensures.beyond c.if-not-is_reached.true)

pub returns : goal.returns
returns c = λ dumps are. lacks_missing _ _ dumps are (c.is_reached.ensures.reached c.if-not-is_reached.false) _ (c.in_ok-number.ensures dumps are)
