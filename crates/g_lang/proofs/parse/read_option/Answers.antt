use Rattle.std.proofs.Common.{◌∙◌, sym, length, eq-eqb}
use Rattle.std.proofs.lemmas.Bool.{false≢true}
use Rattle.g_lang.proofs.ParseLemmas.{option-reads}
use Rattle.g_lang.proofs.parse.read_option.Goals as goal

pub returns : goal.returns
returns c =
    option-reads c.args.text.now c.read_command.result
    (λ none. false≢true (sym c.if-is_empty.false ∙ c.is_empty.ensures ∙ eq-eqb (length c.args.text.now) 0 none)) c.read_command.ensures
