-- The earlier of the best and the next candidate is the best of both; the best of the whole list is the chosen one.
use Rattle.std.proofs.Common.{arith}
use Rattle.std.proofs.lemmas.Option.{slice_get-get_or}
use Rattle.std.proofs.lemmas.Grind.{common_steps}
use Rattle.g_rules.proofs.Least.{IsLeast-more, IsChosen-from_least}
use Rattle.g_rules.proofs.choice.choose.Goals as goal

pub loop-place-preserved : goal.loop-place-preserved
loop-place-preserved g c =
    IsLeast-more g.U.Fn c.args.rule.now c.args.list.now c.loop-place.place c.loop-place.best _ c.weight.result c.earlier.result
    c.loop-place.invariant (slice_get-get_or _ _ _ c.loop-place-test.true) c.weight.ensures.kept
    c.earlier.ensures.one c.earlier.ensures.before c.earlier.ensures.before_best

pub returns-clause-chosen : goal.returns-clause-chosen
returns-clause-chosen g c = grind (arith, common_steps, IsChosen-from_least)
