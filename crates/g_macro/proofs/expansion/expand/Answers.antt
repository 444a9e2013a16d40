use Rattle.std.proofs.Common.{◌≡◌, ◌∙◌, ◌++◌, ap, subst, drop, take, List, ℕ}
use Rattle.g_macro.specs.Expansion.{first_filled, first_taken}
use Rattle.g_macro.specs.Fronts.{Holds}
use Rattle.g_macro.proofs.FrontLemmas.{up_to-more}
use Rattle.g_macro.proofs.expansion.expand.Goals as goal

pub loop-at-preserved : goal.loop-at-preserved
loop-at-preserved c =
    let done : c.split_at.result.0.now ≡ take c.loop-at.at c.args.line.now = c.split_at.ensures.front in
    let rest : c.split_at.result.1.now ≡ drop c.loop-at.at c.args.line.now = c.split_at.ensures.back in
    up_to-more c.args.params.now c.args.line.now c.loop-at.at c.fill-at.result c.loop-at.front c.fill-at.new.front c.loop-at.invariant c.loop-at-test.true
    (c.fill-at.ensures.taken ∙ ap first_taken rest)
    (λ text holds. subst (λ (ts : List ℕ). Holds (text ++ ts) c.fill-at.new.front)
    (ap (λ (ts : List ℕ). first_filled c.args.params.now ts c.split_at.result.1.now) done ∙ ap (first_filled c.args.params.now (take c.loop-at.at c.args.line.now)) rest)
    (c.fill-at.ensures.filled text holds))
