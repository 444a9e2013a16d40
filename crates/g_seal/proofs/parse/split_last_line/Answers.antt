use Rattle.std.proofs.Common.{◌++◌, ◌-◌, List, ℕ, drop, length, sym, ◌∙◌, ap, arith}
use Rattle.std.specs.Prelude.{codes}
use Rattle.std.proofs.lemmas.Bool.Decides.{Decides-eqb}
use Rattle.std.proofs.lemmas.List.{take-append-drop}
use Rattle.std.proofs.lemmas.Slice.Eq.{starts_is}
use Rattle.g_seal.proofs.ParseLemmas.{last_there}
use Rattle.g_seal.proofs.parse.split_last_line.Goals as goal

pub returns-then-starts_with : goal.returns-then-starts_with
returns-then-starts_with c = λ f ends.
    let text = c.args.text.now in
    let front = c.split_at.result.0.now in
    let last = c.split_at.result.1.now in
    let begins = (starts_is Decides-eqb last (codes "SEAL ") c.starts_with.result c.starts_with.ensures.value).0 c.if-starts_with.true in
    let n : ℕ = length text - 70 in
    let is = sym (take-append-drop n text) ∙ ap (λ (xs : List ℕ). xs ++ drop n text) (sym c.split_at.ensures.front) ∙ ap (λ (ys : List ℕ). front ++ ys) (sym c.split_at.ensures.back) in
    last_there text front last _ f is (omega (arith, c.split_at.ensures.back_len, c.if-text-lt-LAST.false)) begins (c.is_whole.ensures.0 c.if-is_whole.true) ends
