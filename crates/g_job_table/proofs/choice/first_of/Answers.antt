-- A job that can step is the next of them, and one that can't isn't.
use Rattle.std.proofs.Common.{IfSome, Some, arith, refl, subst, sym, ◌≡◌, ◌≤◌, ◌∙◌, ◌⊎◌}
use Rattle.std.proofs.lemmas.Option.{slice_get_read}
use Rattle.g_rules.specs.declared.choice.Candidate.{Candidate}
use Rattle.g_rules.specs.Choice.{IsNoLater}
use Rattle.g_job_table.proofs.ChoiceLemmas.{less-here, less-kept, less-more, seen-more, seen-same, seen-whole}
use Rattle.g_job_table.proofs.WeightLemmas.{weight-at}
use Rattle.g_job_table.proofs.choice.first_of.Goals as goal
use Rattle.g_job_table.proofs.choice.first_of.Goals.{then-can_step, else-can_step}

pub lighter-requires : goal.lighter-requires
lighter-requires g c =
    let job = c.index-jobs-place.result in
    let there = slice_get_read c.args.jobs.now _ c.loop-place.place job refl c.loop-place-test.true c.index-jobs-place.is in
    subst (λ (n : Candidate). IfSome c.loop-place.first (λ b. b.number ≤ n.number)) (sym c.candidate.ensures) (less-here c.args.jobs.now c.loop-place.place c.loop-place.first job c.loop-place.invariant.1 there)

pub loop-place-preserved : goal.loop-place-preserved
loop-place-preserved g c =
    elim c.if-can_step.branch [
      | then-can_step w ↦
          let (next, rise) = c.requires.rise in
          let job = c.index-jobs-place.result in
          let there = slice_get_read c.args.jobs.now _ c.loop-place.place job refl c.loop-place-test.true c.index-jobs-place.is in
          let weighs = weight-at g.U.Fn c.args.weigh.now c.args.jobs.now c.args.weights.now c.loop-place.place job w.get.result c.requires.weighed there w.get.ensures in
          let one = subst (λ (n : Candidate). (w.lighter.result ≡ n) ⊎ (c.loop-place.first ≡ Some w.lighter.result)) w.candidate.ensures w.lighter.ensures.one in
          rw (w.first-is, w.able-is) (
            omega (arith, c.loop-place.invariant.0),
            less-kept c.args.jobs.now next c.loop-place.place c.loop-place.able w.get.result c.loop-place.first job w.lighter.result rise there one c.loop-place.invariant.1,
            λ s tells.
                seen-more g.U.Fn c.args.weigh.now s c.args.jobs.now c.loop-place.place c.loop-place.able job c.loop-place.first w.get.result w.lighter.result
                c.loop-place-test.true c.index-jobs-place.is (sym (c.can_step.ensures s tells) ∙ w.if-can_step.true) weighs one
                (subst (λ (n : Candidate). IsNoLater w.lighter.result.weight w.lighter.result.number n.weight n.number) w.candidate.ensures w.lighter.ensures.before)
                w.lighter.ensures.before_best (c.loop-place.invariant.2 s tells),
          )
      | else-can_step w ↦
          rw (w.first-is, w.able-is) (
            omega (arith, c.loop-place.invariant.0),
            less-more c.args.jobs.now c.loop-place.place c.loop-place.first c.loop-place.invariant.1,
            λ s tells.
                seen-same g.U.Fn c.args.weigh.now s c.args.jobs.now c.loop-place.place c.loop-place.able c.index-jobs-place.result c.loop-place.first c.loop-place-test.true c.index-jobs-place.is
                (sym (c.can_step.ensures s tells) ∙ w.if-can_step.false) (c.loop-place.invariant.2 s tells),
          )
    ]

pub returns : goal.returns
returns g c = λ s tells.
    seen-whole g.U.Fn c.args.weigh.now s c.args.jobs.now c.loop-place.place c.loop-place.able c.loop-place.first (omega arith) (c.loop-place.invariant.2 s tells)
