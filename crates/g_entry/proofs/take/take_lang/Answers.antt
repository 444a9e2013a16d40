use Rattle.std.proofs.Common.{sym, ◌∙◌}
use Rattle.g_base.proofs.FieldLemmas.{same_bytes}
use Rattle.g_name.specs.Grammar.{is_lang}
use Rattle.g_entry.specs.FileFields.{lang_field}
use Rattle.g_entry.proofs.FieldLemmas.{length-lang, length-lang_field, made_as}
use Rattle.g_entry.proofs.take.take_lang.Goals as goal

pub returns-clause-again : goal.returns-clause-again
returns-clause-again c = λ lang rest is old.
    let got = same_bytes 4 c.take_bytes-field.result.now (lang_field lang) c.take_bytes-field.new.self rest c.take_bytes-field.ensures.count
    (length-lang_field lang (length-lang lang is)) (sym c.take_bytes-field.ensures.all ∙ old) in
    let front = c.without_spaces.ensures lang is got.0 in
    (made_as is_lang c.new.result c.without_spaces.result.now lang c.new.ensures.lang.1 c.new.ensures.value front is, got.1)
