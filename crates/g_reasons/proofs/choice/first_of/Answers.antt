use Rattle.std.proofs.Common.{sym, ◌∙◌}
use Rattle.std.proofs.lemmas.Bool.{false≢true}
use Rattle.g_reasons.proofs.ReasonLemmas.{found_at, none_at}
use Rattle.g_reasons.proofs.choice.first_of.Goals as goal

pub loop-reason-preserved : goal.loop-reason-preserved
loop-reason-preserved c =
    none_at c.args.among.now c.loop-reason.reason-index _ c.args.line.now c.loop-reason-test.true c.loop-reason.invariant (λ applies. false≢true (sym c.if-is_wrong.false ∙ c.is_wrong.ensures.1 applies))

pub returns-then-is_wrong : goal.returns-then-is_wrong
returns-then-is_wrong c =
    found_at c.args.among.now c.loop-reason.reason-index _ c.args.line.now c.loop-reason-test.true c.loop-reason.invariant (c.is_wrong.ensures.0 c.if-is_wrong.true)
