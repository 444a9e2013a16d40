use Rattle.std.proofs.Common.{sym, ◌∙◌}
use Rattle.g_plan.proofs.WordLemmas.{label-read, label-word}
use Rattle.g_plan.proofs.words.label.Goals as goal

pub returns-then-is_label : goal.returns-then-is_label
returns-then-is_label c =
    let good = sym c.is_label.ensures ∙ c.if-is_label.true in
    label-read c.args.text.now c.new.result good (c.new.ensures.word.1 (label-word c.args.text.now good)) c.new.ensures.value
