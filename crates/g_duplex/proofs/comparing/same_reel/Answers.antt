use Rattle.std.proofs.Common.{◌∙◌, ℕ, Ok, Option, Result, ap, subst}
use Rattle.g_duplex.specs.declared.fault.DuplexFault.{DuplexFault}
use Rattle.g_duplex.specs.Copying.{FirstDifference}
use Rattle.g_duplex.proofs.CompareLemmas.{other_if_some}
use Rattle.g_duplex.proofs.comparing.same_reel.Goals as goal

pub returns-in-Ok-Some-clause-answer : goal.returns-in-Ok-Some-clause-answer
returns-in-Ok-Some-clause-answer g c =
    let one = g.T.Tapes.rack c.first_difference.new.one in
    let other = g.T.Tapes.rack c.first_difference.new.other in
    other_if_some c.args.serial c.in-Ok-Some.field-0-0 (g.T.Tapes.rack c.args.one.now) (g.T.Tapes.rack c.args.other.now) one other
    (subst (λ (x : Result (Option ℕ) DuplexFault). FirstDifference c.args.serial (g.T.Tapes.rack c.args.one.now) (g.T.Tapes.rack c.args.other.now) x one other)
    (c.in-Ok-Some.is ∙ ap (λ (o : Option ℕ). let x : Result (Option ℕ) DuplexFault = Ok o in x) c.in-Ok-Some.field-0-is) c.first_difference.ensures.answer)
