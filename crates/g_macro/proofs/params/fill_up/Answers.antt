use Rattle.std.proofs.Common.{◌∙◌, ◌∷◌, ◌++◌, ◌+◌, ◌-◌, ◌≤◌, [], ap, replicate, subst, sym, List, ℕ}
use Rattle.g_macro.proofs.ParamLemmas.{fill-step}
use Rattle.g_macro.proofs.params.fill_up.Goals as goal

pub loop-preserved : goal.loop-preserved
loop-preserved c = (
  ap (λ (ts : List (List ℕ)). ts ++ replicate (24 - (c.loop.counter + 1)) [])
      (c.push_reserved.ensures.items ∙ ap (λ (t : List ℕ). c.loop.params.items ++ t ∷ []) c.new.ensures)
      ∙ fill-step c.loop.params.items c.loop.counter c.loop-test.true ∙ c.loop.invariant.0,
  c.push_reserved.ensures.len ∙ ap (λ (n : ℕ). n + 1) c.loop.invariant.1,
  subst (λ (n : ℕ). 24 ≤ n) (sym c.push_reserved.ensures.capacity) c.loop.invariant.2,
)
