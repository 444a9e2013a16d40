use Rattle.std.proofs.Common.{Bor, List, MatchOption, Option, [], subst, ℕ, ◌∷◌, ◌≡◌}
use Rattle.g_lang.proofs.ParseLemmas.{more-params}
use Rattle.g_lang.specs.LineReader.{parts_of}
use Rattle.g_lang.proofs.parse.only_param.Goals as goal

pub returns-in_default-Some : goal.returns-in_default-Some
returns-in_default-Some c =
    let text = c.args.text.now in
    let part = c.split_at_comma.result.0.now in
    more-params text part c.in_default-Some.field-0-1.now
    (subst (λ (o : Option (Bor (List ℕ))). MatchOption o (parts_of 0 text ≡ part ∷ []) (λ rest. parts_of 0 text ≡ part ∷ parts_of 0 rest.now)) c.in_default-Some.is-1 c.split_at_comma.ensures.parts)
