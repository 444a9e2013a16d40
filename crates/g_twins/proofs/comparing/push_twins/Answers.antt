use Rattle.std.proofs.Common.{◌∙◌, ℕ, Ok, Option, Result, ap, subst, sym}
use Rattle.g_duplex.specs.declared.fault.DuplexFault.{DuplexFault}
use Rattle.g_duplex.specs.Copying.{FirstDifference}
use Rattle.g_twins.proofs.TwinLemmas.{has_length, has_none, lacks_twin, other_twins, same_twins}
use Rattle.g_twins.proofs.comparing.push_twins.Goals as goal

pub returns-in-Ok-None-clause-text : goal.returns-in-Ok-None-clause-text
returns-in-Ok-None-clause-text g c = λ exposed exposed'.
    let p = g.T.Tapes.rack c.args.first.now in
    let q = g.T.Tapes.rack c.args.second.now in
    let p' = g.T.Tapes.rack c.first_difference.new.one in
    let q' = g.T.Tapes.rack c.first_difference.new.other in
    let (a, there) = has_length c.args.serial _ p (sym c.in-Ok-Ok.ensures) in
    let (b, there') = has_length c.args.serial _ q (sym c.in-Ok-Ok.ensures') in
    same_twins c.args.serial p q c.args.text.now exposed a there exposed' b there' p' q'
    (subst (λ (x : Result (Option ℕ) DuplexFault). FirstDifference c.args.serial p q x p' q')
    (c.in-Ok-None.is ∙ ap (λ (o : Option ℕ). let x : Result (Option ℕ) DuplexFault = Ok o in x) c.in-Ok-None.field-0-is) c.first_difference.ensures.answer)

pub returns-in_ok-push_difference-in-Ok-Some-clause-text : goal.returns-in_ok-push_difference-in-Ok-Some-clause-text
returns-in_ok-push_difference-in-Ok-Some-clause-text g c = λ exposed exposed'.
    let p = g.T.Tapes.rack c.args.first.now in
    let q = g.T.Tapes.rack c.args.second.now in
    let p' = g.T.Tapes.rack c.first_difference.new.one in
    let q' = g.T.Tapes.rack c.first_difference.new.other in
    let (a, there) = has_length c.args.serial _ p (sym c.in-Ok-Ok.ensures) in
    let (b, there') = has_length c.args.serial _ q (sym c.in-Ok-Ok.ensures') in
    other_twins c.args.serial p q c.args.text.now exposed a there exposed' b there' c.in-Ok-Some.k p' q' c.push_difference.new.text
    (subst (λ (x : Result (Option ℕ) DuplexFault). FirstDifference c.args.serial p q x p' q')
    (c.in-Ok-Some.is ∙ ap (λ (o : Option ℕ). let x : Result (Option ℕ) DuplexFault = Ok o in x) c.in-Ok-Some.field-0-is) c.first_difference.ensures.answer)
    c.in_ok-push_difference-in-Ok-Some.ensures

pub returns-in_ok-push_named-in-Ok-Err-clause-text : goal.returns-in_ok-push_named-in-Ok-Err-clause-text
returns-in_ok-push_named-in-Ok-Err-clause-text g c = λ exposed exposed'.
    let p = g.T.Tapes.rack c.args.first.now in
    let q = g.T.Tapes.rack c.args.second.now in
    let (a, there) = has_length c.args.serial _ p (sym c.in-Ok-Err.ensures) in
    lacks_twin c.args.serial p q c.args.text.now exposed a there c.push_named.new.text (has_none c.args.serial _ q (sym c.in-Ok-Err.ensures')) c.in_ok-push_named-in-Ok-Err.ensures
