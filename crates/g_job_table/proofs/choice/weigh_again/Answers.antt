-- By whether a job has the number.
use Rattle.std.proofs.Common.{List, ap, subst, sym, ◌∙◌, ℕ}
use Rattle.std.specs.Fn.{FnReturnsAt}
use Rattle.std.proofs.lemmas.Option.{get_or_from_slice_get}
use Rattle.g_rules.specs.declared.rule.Standing.{Standing}
use Rattle.g_job.specs.Beginning.{standing_of}
use Rattle.g_job_table.specs.Weights.{AreWeights}
use Rattle.g_job_table.proofs.WeightLemmas.{weights-again, weights-same}
use Rattle.g_job_table.proofs.choice.weigh_again.Goals as goal

pub returns-in-Some : goal.returns-in-Some
returns-in-Some g c =
    let (next, rise) = c.requires.rise in
    let spot = c.in-Some.ensures in
    let same = c.index-jobs-place.is ∙ get_or_from_slice_get c.args.jobs.now c.in-Some.place spot.job c.index-jobs-place.result spot.there in
    let weighs = subst (λ (x : Standing). FnReturnsAt g.U.Fn c.args.weigh.now x c.weight.result) (c.standing.ensures.value ∙ ap standing_of same) c.weight.ensures.kept in
    subst (λ (ws : List ℕ). AreWeights g.U.Fn c.args.weigh.now c.args.jobs.now ws) (sym c.set.ensures)
    (weights-again g.U.Fn c.args.weigh.now c.args.jobs.now next c.args.weights.now c.args.number c.in-Some.place c.weight.result spot.job rise c.requires.count spot.there spot.named weighs c.requires.others)

pub returns-in-None : goal.returns-in-None
returns-in-None g c = weights-same g.U.Fn c.args.weigh.now c.args.jobs.now c.args.weights.now c.args.number c.requires.count c.in-None.ensures c.requires.others
