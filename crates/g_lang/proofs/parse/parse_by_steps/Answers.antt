use Rattle.std.proofs.Common.{is_ok, ◌∙◌, sym, ap, subst, Some, Ok}
use Rattle.g_lang.specs.LineReader.{read_trimmed}
use Rattle.g_lang.specs.Lines.{LineSaid, Reading}
use Rattle.g_lang.specs.Texts.{HasCommands}
use Rattle.g_lang.proofs.ReadLemmas.{line-commands}
use Rattle.g_lang.proofs.ReadingLemmas.{reading_is}
use Rattle.g_lang.proofs.ParseLemmas.{right-grammar, right-line}
use Rattle.g_lang.proofs.parse.parse_by_steps.Goals as goal

pub returns-in-Some : goal.returns-in-Some
returns-in-Some c = reading_is c.args.text.now (Some c.in-Some.place) (sym c.wrong_by_steps.ensures ∙ c.in-Some.is)

pub read_line-requires : goal.read_line-requires
read_line-requires c =
    subst HasCommands (sym c.trimmed.ensures)
    (line-commands c.args.text.now (right-line c.args.text.now c.wrong_by_steps.result c.wrong_by_steps.ensures c.in_default.is))

pub returns-in-Ok : goal.returns-in-Ok
returns-in-Ok c =
    right-grammar c.args.text.now c.wrong_by_steps.result c.wrong_by_steps.ensures c.in_default.is
    ∙ ap (λ (said : LineSaid). let r : Reading = Ok said in r) (sym (c.in-Ok.ensures ∙ ap read_trimmed c.trimmed.ensures))

pub returns-in-Err : goal.returns-in-Err
returns-in-Err c = ap (λ (r : Reading). is_ok r) (right-grammar c.args.text.now c.wrong_by_steps.result c.wrong_by_steps.ensures c.in_default.is)
