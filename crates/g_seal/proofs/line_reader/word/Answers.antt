use Rattle.std.proofs.Common.{◌∷◌, [], refl, sym, ◌∙◌, ap, drop, List, ℕ, append-nil}
use Rattle.g_seal.proofs.FieldLemmas.{field_is}
use Rattle.g_seal.proofs.line_reader.word.Goals as goal

pub returns-in-Some : goal.returns-in-Some
returns-in-Some c = λ one rest plain after is.
    let parts = field_is c.in-Some.parts.0.now one (32 ∷ c.in-Some.parts.1.now) rest c.in-Some.ensures.split.1 plain refl after (sym c.in-Some.ensures.split.0 ∙ is) in
    (parts.0, ap (λ (l : List ℕ). drop 1 l) parts.1)

pub returns-in-None : goal.returns-in-None
returns-in-None c = λ one rest plain after is.
    let parts = field_is c.args.text.now one [] rest c.in-None.ensures.split plain tt after (append-nil c.args.text.now ∙ is) in
    (parts.0, ap (λ (l : List ℕ). drop 1 l) parts.1)
