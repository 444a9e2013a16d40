use Rattle.std.proofs.Common.{Bor, List, MatchOption, Option, [], subst, ℕ, ◌∷◌, ◌≡◌}
use Rattle.g_lang.proofs.ParseLemmas.{more-than-two}
use Rattle.g_lang.specs.LineReader.{parts_of}
use Rattle.g_lang.proofs.parse.two_params.Goals as goal

pub returns-in_default-Some-split_at_comma : goal.returns-in_default-Some-split_at_comma
returns-in_default-Some-split_at_comma c =
    let text = c.args.text.now in
    let first = c.split_at_comma.result.0.now in
    let rest = c.in_default-Some.rest.now in
    let second = c.split_at_comma-in_default-Some.result.0.now in
    let behind =
    subst (λ (r : Bor (List ℕ)). MatchOption c.split_at_comma-in_default-Some.result.1 (parts_of 0 r.now ≡ second ∷ []) (λ more. parts_of 0 r.now ≡ second ∷ parts_of 0 more.now))
    c.in_default-Some.rest-is c.split_at_comma-in_default-Some.ensures.parts in
    more-than-two text first rest second c.in_default-Some-split_at_comma.field-0-1.now
    (subst (λ (o : Option (Bor (List ℕ))). MatchOption o (parts_of 0 text ≡ first ∷ []) (λ more. parts_of 0 text ≡ first ∷ parts_of 0 more.now)) c.in_default-Some.is-1 c.split_at_comma.ensures.parts)
    (subst (λ (o : Option (Bor (List ℕ))). MatchOption o (parts_of 0 rest ≡ second ∷ []) (λ more. parts_of 0 rest ≡ second ∷ parts_of 0 more.now)) c.in_default-Some-split_at_comma.is-1
    behind)
