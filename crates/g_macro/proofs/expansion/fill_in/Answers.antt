use Rattle.std.proofs.Common.{sym}
use Rattle.g_macro.proofs.FrontLemmas.{filled-plain}
use Rattle.g_macro.proofs.expansion.fill_in.Goals as goal

-- a line without `%`
pub returns-then-not-contains : goal.returns-then-not-contains
returns-then-not-contains c =
    filled-plain c.args.params.now c.args.line.now c.in_ok-text.text c.if-line-le-MOST.true (sym c.if-not-contains.ensures.value) c.in_ok-text.ensures
