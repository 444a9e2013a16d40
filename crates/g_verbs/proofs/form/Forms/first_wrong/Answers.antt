use Rattle.std.proofs.Common.{arith, below_more, sym, ◌∙◌}
use Rattle.g_lang.specs.LineReader.{params_read}
use Rattle.g_verbs.proofs.PlaceLemmas.{there}
use Rattle.g_verbs.proofs.WalkLemmas.{good-count, good-here, wrong-count, wrong-here}
use Rattle.g_verbs.specs.Tables.{forms_said}
use Rattle.g_verbs.specs.VerbReader.{param}
use Rattle.g_verbs.proofs.form.Forms.first_wrong.Goals as goal

pub returns-then-not-takes : goal.returns-then-not-takes
returns-then-not-takes c =
    let params = params_read c.args.text.now in
    wrong-here (forms_said c.args.self.now) params c.loop-place.place (param params c.loop-place.place) c.loop-place.invariant
    (there params c.loop-place.place _ c.count_params-count.ensures c.loop-place-test.true) (sym c.takes.ensures ∙ c.if-not-takes.true)

pub loop-place-preserved : goal.loop-place-preserved
loop-place-preserved c =
    let params = params_read c.args.text.now in
    below_more _ _ c.loop-place.invariant
    (good-here (forms_said c.args.self.now) params c.loop-place.place (param params c.loop-place.place) (there params c.loop-place.place _ c.count_params-count.ensures c.loop-place-test.true)
    (sym c.takes.ensures ∙ c.if-not-takes.false))

pub returns-then-count-self : goal.returns-then-count-self
returns-then-count-self c =
    wrong-count (forms_said c.args.self.now) (params_read c.args.text.now) c.count_params-count.result c.count_params-count.ensures
    (λ k below. c.loop-place.invariant k (omega (arith, below, c.loop-place-test.false))) c.if-count-self.true

pub returns-else-count-self : goal.returns-else-count-self
returns-else-count-self c =
    good-count (forms_said c.args.self.now) (params_read c.args.text.now) c.count_params-count.result c.count_params-count.ensures
    (λ k below. c.loop-place.invariant k (omega (arith, below, c.loop-place-test.false))) c.if-count-self.false
