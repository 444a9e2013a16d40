use Rattle.std.proofs.Common.{ap, ◌∙◌}
use Rattle.g_plan.specs.Words.{label_read}
use Rattle.g_plan.proofs.SourceLemmas.{behind-one}
use Rattle.g_plan.proofs.reader.Reader.with.Goals as goal

pub returns : goal.returns
returns c = λ earlier is.
    behind-one earlier c.args.text.now c.args.self _ c.label-label.result c.form_of-form.result is
    (c.label-label.ensures ∙ ap label_read c.before-front.ensures.value) c.form_of-form.ensures c.in_ok-source.ensures c.moved-place.ensures c.still_blank-blank.ensures
