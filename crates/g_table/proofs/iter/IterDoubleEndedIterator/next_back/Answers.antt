use Rattle.std.proofs.Common.{◌++◌, ◌∷◌, [], sym, ap, ◌∙◌}
use Rattle.g_table.specs.Table.{present}
use Rattle.g_table.proofs.PlaceLemmas.{back_none, back_some, shorter_back}
use Rattle.g_table.proofs.iter.IterDoubleEndedIterator.next_back.Goals as goal

pub returns-in-Some-last-clause-steps : goal.returns-in-Some-last-clause-steps
returns-in-Some-last-clause-steps g c =
    sym c.loop-last.invariant ∙ ap present c.in-Some.ensures.cases.0 ∙ ap (λ o. present (c.in-Some.others.now ++ o ∷ [])) c.in-Some-last.is ∙ back_some c.in-Some.others.now c.in-Some-last.item

pub returns-in-Some-last-clause-goes : goal.returns-in-Some-last-clause-goes
returns-in-Some-last-clause-goes g c =
    let steps =
    sym c.loop-last.invariant ∙ ap present c.in-Some.ensures.cases.0 ∙ ap (λ o. present (c.in-Some.others.now ++ o ∷ [])) c.in-Some-last.is
    ∙ back_some c.in-Some.others.now c.in-Some-last.item in
    record { on = λ _. (tt, tt, shorter_back c.args.self.now (present c.in-Some.others.now) c.in-Some-last.item steps); keeps = tt; rests = λ _. tt }

pub loop-last-preserved : goal.loop-last-preserved
loop-last-preserved g c =
    sym (back_none c.in-Some.others.now) ∙ ap (λ o. present (c.in-Some.others.now ++ o ∷ [])) (sym c.in_default-last.is) ∙ ap present (sym c.in-Some.ensures.cases.0) ∙ c.loop-last.invariant
