use Rattle.std.proofs.Common.{ap, ◌∙◌, ◌≡◌}
use Rattle.g_lang.specs.LineReader.{params_read}
use Rattle.g_verbs.proofs.ReadLemmas.{read-asked, read-wrong}
use Rattle.g_verbs.specs.Tables.{forms_said}
use Rattle.g_verbs.specs.Verbs.{forms_with, verb_of}
use Rattle.g_verbs.proofs.read.read_from.Goals as goal

pub returns-in-Some : goal.returns-in-Some
returns-in-Some c =
    let forms : forms_said c.forms_of-forms.result ≡ forms_with (verb_of c.args.name.now) = c.forms_of-forms.ensures ∙ ap forms_with c.requires in
    read-wrong c.args.name.now (params_read c.args.rest) c.args.rest _ _ _ forms (ap params_read c.as_slice.ensures) c.in-Some.ensures

pub returns : goal.returns
returns c =
    let forms : forms_said c.forms_of-forms.result ≡ forms_with (verb_of c.args.name.now) = c.forms_of-forms.ensures ∙ ap forms_with c.requires in
    (read-asked c.args.name.now (params_read c.args.rest) c.args.rest _ _ _ _ forms (ap params_read c.as_slice.ensures) c.requires c.as_slice-word.ensures.word c.in_default.ensures
    c.asked_by.ensures).reads
