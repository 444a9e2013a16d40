-- The question that a line asks.
-- serves: query, refusal_in
use Rattle.std.proofs.Common.{List, ◌++◌, ℕ, ◌≤◌, ◌^◌, ◌≡◌, Some, None, Option, codes, sym, ◌∙◌, ap, arith}
use Rattle.std.specs.Fmt.{decimal}
use Rattle.g_lines.specs.Numbers.{number_read}
use Rattle.g_lines.proofs.NumberLemmas.{number-complete, number-sound}
use Rattle.g_typing.specs.Reader.{IsNoRefusal}
use Rattle.g_typing.specs.Typed.{IsQuery}
use Rattle.g_typing.specs.declared.query.Query.TheVariants as query

pub no_help : (line : List ℕ) → ((rest : List ℕ) → line ≡ codes "HELP " ++ rest → ⊥) → IsNoRefusal line
no_help line none n few is = none (decimal n) is

pub no_refusal : (line digits : List ℕ) → line ≡ codes "HELP " ++ digits → number_read 99 digits ≡ None → IsNoRefusal line
no_refusal line digits is unread n few e =
    let same : digits ≡ decimal n = let both : codes "HELP " ++ digits ≡ codes "HELP " ++ decimal n = sym is ∙ e in cc in
    let read : number_read 99 digits ≡ Some n = number-complete 99 n digits (omega arith) (few, same) in
    let both : (let o : Option ℕ = None in o ≡ Some n) = sym unread ∙ read in cc

pub refusal_is : (line digits : List ℕ) (n : ℕ) → line ≡ codes "HELP " ++ digits → number_read 99 digits ≡ Some n → IsQuery line (query.Refusal n)
refusal_is line digits n is read =
    let parts = number-sound 99 n digits read in (parts.0, is ∙ ap (λ (d : List ℕ). codes "HELP " ++ d) parts.1)
