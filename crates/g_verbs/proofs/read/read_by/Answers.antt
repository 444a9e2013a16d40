use Rattle.std.proofs.Common.{ap, eq-eqb, length, sym, ◌∙◌}
use Rattle.std.proofs.lemmas.Bool.{false≢true}
use Rattle.g_verbs.proofs.AloneLemmas.{display-read}
use Rattle.g_verbs.proofs.read.read_by.Goals as goal

pub returns-then-not-is_empty : goal.returns-then-not-is_empty
returns-then-not-is_empty c =
    display-read c.args.name.now c.args.rest c.args.verb c.requires (sym c.is_display.ensures ∙ c.if-is_display.true) c.as_slice-word.ensures.word
    (λ none. false≢true (sym c.if-not-is_empty.true ∙ c.is_empty.ensures ∙ eq-eqb (length c.as_slice.result.now) 0 (ap length (c.as_slice.ensures ∙ none))))
