use Rattle.std.proofs.Common.{ap, length, refl, sym, ◌-◌, ◌∙◌}
use Rattle.g_lang.specs.Lines.{is_verb}
use Rattle.g_lang.proofs.CutLemmas.{verb_cut}
use Rattle.g_lang.proofs.parse.parse_command.Goals as goal

pub returns-in-Ok : goal.returns-in-Ok
returns-in-Ok c =
    verb_cut c.args.text.now c.args.label c.args.command.now c.in-Some.name c.split_word.result.1.now c.in-Ok.rest
    (length c.args.text.now - length c.split_word.result.1.now) c.requires (ap is_verb (sym c.split_word.ensures.word) ∙ c.in-Some.ensures.0)
    (c.in-Some.ensures.1 ∙ c.split_word.ensures.word) c.split_word.ensures.behind refl c.in-Ok.ensures
